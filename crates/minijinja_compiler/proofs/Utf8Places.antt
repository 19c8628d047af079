-- Places from which on a text is UTF-8: where delimiters stand, and behind what is passed over.
use Rattle.std.proofs.Common.{◌≡◌, ℕ, ◌+◌, ◌-◌, ◌<◌, ◌≤◌, Bool, true, false, cond, List, [], ◌∷◌, ◌++◌, length, drop, refl, ap, sym, ◌∙◌, arith, subst, append_assoc, length-append, Option, Some, None, ⊎_elim}
use Rattle.std.specs.Prelude.{◌&&◌, not}
use Rattle.std.specs.Char.{encode_utf8, is_ascii_whitespace, is_whitespace}
use Rattle.std.specs.Str.{IsUtf8, IsCharBoundary, all_scalars, chars, encode_utf8_all, skip_leading_whitespace, trim_start}
use Rattle.std.proofs.lemmas.Bool.{cases_lt}
use Rattle.std.proofs.lemmas.List.{drop_all, drop-drop}
use Rattle.std.proofs.lemmas.List.Sums.{prefix_len-le-length}
use Rattle.std.proofs.lemmas.Str.{IsCharBoundary-at_seam, IsCharBoundary-from_drop, IsCharBoundary-start, IsUtf8-drop, IsUtf8-nil, encodes-chars, scalars-chars}
use Rattle.minijinja_syntax.specs.Markers.{stands}
use Rattle.minijinja_syntax.specs.Syntax.{Syntax, start_of}
use Rattle.minijinja_syntax.specs.Texts.{Text}
use Rattle.minijinja_syntax.specs.declared.syntax.StartMarker.{StartMarker}
use Rattle.minijinja_syntax.proofs.Delimiters.{IsUtf8-rest, stands_front, start_boundary}
use Rattle.minijinja_lexer.specs.Controls.{Control, Absent, Remove, Preserve}
use Rattle.minijinja_lexer.specs.Cut.{end_at}
use Rattle.minijinja_lexer.specs.Raw.{word_tag}
use Rattle.minijinja_lexer.specs.Whitespace.{body_of, control_at, control_len, is_given, is_variable, line_end_len, past_line_space, past_space, tail_len}
use Rattle.minijinja_lexer.proofs.Boundaries.{behind_boundary, control_boundary, line_end_boundary}
use Rattle.minijinja_lexer.proofs.Scanning.{ascii_run, space_low}
use Rattle.minijinja_compiler.proofs.CharRuns.{and_right, line_space_ends}

-- the text is UTF-8 from the place on, which may be past its end
abbrev pub IsUtf8From : Text → ℕ → Type 0
IsUtf8From text n = IsUtf8 (drop n text)

pub utf8_past : (text : Text) (n : ℕ) → length text ≤ n → IsUtf8From text n
utf8_past text n h = subst IsUtf8 (sym (drop_all n text h)) IsUtf8-nil

-- from a place between characters of what follows a place
pub further : (text : Text) (n k : ℕ) → IsUtf8From text n → IsCharBoundary (drop n text) k → IsUtf8From text (n + k)
further text n k u b = subst IsUtf8 (drop-drop k n text) (IsUtf8-drop (drop n text) k u b)

-- from a place that is between characters if an earlier one is
pub onwards : (text : Text) (n m : ℕ) → IsUtf8 text → IsUtf8From text n → n ≤ m → (IsCharBoundary text n → IsCharBoundary text m) → IsUtf8From text m
onwards text n m u from h next = ⊎_elim
    (λ (l : length text < n). utf8_past text m (omega (arith, l, h)))
    (λ (l : n ≤ length text). IsUtf8-drop text m u (next (IsCharBoundary-from_drop text n l from)))
    (cases_lt (length text) n)

-- ---- delimiters

-- where the delimiter stands, and behind it
pub at_delimiter : (d text : Text) (at : ℕ) → IsUtf8 d → IsUtf8 text → 0 < length d → at ≤ length text → stands d text at ≡ true → IsUtf8From text at
at_delimiter d text at ud u some within h = IsUtf8-drop text at u (start_boundary d text at ud some within h)

pub behind_delimiter : (d text : Text) (at : ℕ) → IsUtf8 d → IsUtf8From text at → stands d text at ≡ true → IsUtf8From text (at + length d)
behind_delimiter d text at ud u h = subst IsUtf8 (drop-drop (length d) at text) (IsUtf8-rest d (drop at text) (drop (length d) (drop at text)) ud u (stands_front d text at h))

-- ---- whitespace and controls

pub behind_space : (text : Text) (at : ℕ) → IsUtf8From text at → IsUtf8From text (past_space text at)
behind_space text at u = further text at _ u (ascii_run is_ascii_whitespace (drop at text) space_low u (prefix_len-le-length is_ascii_whitespace (drop at text)))

pub behind_line_space : (text : Text) (at : ℕ) → IsUtf8From text at → IsUtf8From text (past_line_space text at)
behind_line_space text at u = further text at _ u (line_space_ends (drop at text) u)

pub behind_line_end : (text : Text) (at : ℕ) → IsUtf8From text at → IsUtf8From text (at + line_end_len (drop at text))
behind_line_end text at u = further text at _ u (line_end_boundary (drop at text) u)

pub past_control : (text : Text) (at : ℕ) → IsUtf8 text → IsUtf8From text at → IsUtf8From text (at + control_len (control_at text at))
past_control text at u from = onwards text at _ u from (omega arith) (control_boundary text at u)

-- the body of what a marker begins
pub at_body : (s : Syntax) (text : Text) (m : StartMarker) (at : ℕ) → IsUtf8 text → IsUtf8 (start_of s m) → IsUtf8From text at → stands (start_of s m) text at ≡ true → IsUtf8From text (body_of s text m at)
at_body s text m at u us from h =
    let stop : ℕ = at + length (start_of s m) in
    onwards text stop _ u (behind_delimiter (start_of s m) text at us from h) (omega arith) (behind_boundary text stop m u)

-- ---- what is skipped behind an end

-- the characters are some whitespace and what is left without it
record Trimmed (cs : List ℕ) : Type 0 where
  pub front : Text
  pub bytes : encode_utf8_all cs ≡ front ++ encode_utf8_all (skip_leading_whitespace cs)
  pub scalars : all_scalars (skip_leading_whitespace cs) ≡ true

trimmed : (cs : List ℕ) → all_scalars cs ≡ true → Trimmed cs
trimmed [] v = record { front = []; bytes = refl; scalars = refl }
trimmed (c ∷ cs) v = either (is_whitespace c) refl (trimmed cs (and_right _ (all_scalars cs) v))
  where
    either : (t : Bool) → is_whitespace c ≡ t → Trimmed cs → Trimmed (c ∷ cs)
    either true e r =
        let skips : skip_leading_whitespace (c ∷ cs) ≡ skip_leading_whitespace cs = ap (λ t. cond t (skip_leading_whitespace cs) (c ∷ cs)) e in
        record {
          front = encode_utf8 c ++ r.front;
          bytes = ap (λ x. encode_utf8 c ++ x) r.bytes ∙ sym (append_assoc (encode_utf8 c) r.front (encode_utf8_all (skip_leading_whitespace cs))) ∙ ap (λ ds. encode_utf8 c ++ r.front ++ encode_utf8_all ds) (sym skips);
          scalars = ap all_scalars skips ∙ r.scalars;
        }
    either false e r =
        let stays : skip_leading_whitespace (c ∷ cs) ≡ c ∷ cs = ap (λ t. cond t (skip_leading_whitespace cs) (c ∷ cs)) e in
        record { front = []; bytes = ap encode_utf8_all (sym stays); scalars = ap all_scalars stays ∙ v }

trim_ends : (bs : Text) → IsUtf8 bs → IsCharBoundary bs (length bs - length (trim_start bs))
unfolding trim_start
trim_ends bs u =
    let cs : List ℕ = chars bs in
    let left : List ℕ = skip_leading_whitespace cs in
    let t = trimmed cs (scalars-chars bs u) in
    let seam : bs ≡ t.front ++ encode_utf8_all left = sym (encodes-chars bs u) ∙ t.bytes in
    let l : length bs ≡ length t.front + length (encode_utf8_all left) = ap length seam ∙ length-append t.front (encode_utf8_all left) in
    let n : length t.front ≡ length bs - length (encode_utf8_all left) = omega (arith, l) in
    subst (λ m. IsCharBoundary bs m) n (IsCharBoundary-at_seam bs t.front (encode_utf8_all left) seam (left, (t.scalars, refl)))

tail_ends : (s : Syntax) (m : StartMarker) (control : Control) (rest : Text) → IsUtf8 rest → IsCharBoundary rest (tail_len s m control rest)
unfolding tail_len
tail_ends s m Remove rest u = trim_ends rest u
tail_ends s m Preserve rest u = IsCharBoundary-start rest u
tail_ends s m Absent rest u = either (s.trim_blocks && not (is_variable m))
  where
    either : (t : Bool) → IsCharBoundary rest (cond t (line_end_len rest) 0)
    either true = line_end_boundary rest u
    either false = IsCharBoundary-start rest u

pub behind_tail : (s : Syntax) (text : Text) (m : StartMarker) (control : Control) (at : ℕ) → IsUtf8From text at → IsUtf8From text (at + tail_len s m control (drop at text))
behind_tail s text m control at u = further text at _ u (tail_ends s m control (drop at text) u)

-- ---- ends

-- the text is UTF-8 from the end of a tag on, if there is one
abbrev pub EndsUtf8 : Text → Option (Control × ℕ) → Type 0
EndsUtf8 text None = Unit {0}
EndsUtf8 text (Some end) = IsUtf8From text end.1

given_one : (c : Control) → is_given c ≡ true → control_len c ≡ 1
given_one Absent e = let f : false ≡ true = e in cc
given_one Remove e = refl
given_one Preserve e = refl

end_utf8 : (d text : Text) (p : ℕ) → IsUtf8 d → IsUtf8 text → IsUtf8From text p → EndsUtf8 text (end_at d text p)
unfolding end_at
end_utf8 d text p ud u from = either (is_given (control_at text p)) (stands d text (p + 1)) (stands d text p) refl refl refl
  where
    either : (a b c : Bool) → is_given (control_at text p) ≡ a → stands d text (p + 1) ≡ b → stands d text p ≡ c
        → EndsUtf8 text (cond {A = Option (Control × ℕ)} (a && b) (Some (control_at text p, p + 1 + length d)) (cond c (Some (Absent, p + length d)) None))
    either true true c e f g =
        let one : control_len (control_at text p) ≡ 1 = given_one (control_at text p) e in
        behind_delimiter d text (p + 1) ud (subst (λ n. IsUtf8From text (p + n)) one (past_control text p u from)) f
    either true false true e f g = behind_delimiter d text p ud from g
    either true false false e f g = tt
    either false b true e f g = behind_delimiter d text p ud from g
    either false b false e f g = tt

pub behind_end : (d text : Text) (p : ℕ) (control : Control) (stop : ℕ) → IsUtf8 d → IsUtf8 text → IsUtf8From text p → end_at d text p ≡ Some (control, stop) → IsUtf8From text stop
behind_end d text p control stop ud u from e = subst (EndsUtf8 text) e (end_utf8 d text p ud u from)

-- a tag of one word
pub word_utf8 : (s : Syntax) (text word : Text) (at : ℕ) → IsUtf8 s.block_end → IsUtf8 word → IsUtf8 text → IsUtf8From text at → EndsUtf8 text (word_tag s text word at)
unfolding word_tag
word_utf8 s text word at ud uw u from =
    let p : ℕ = past_space text at in
    let q : ℕ = past_space text (p + length word) in
    let e : ℕ = q + control_len (control_at text q) in
    either q e (stands word text p) (stands s.block_end text e) (λ h. past_control text q u (behind_space text (p + length word) (behind_delimiter word text p uw (behind_space text at from) h))) (λ h. h)
  where
    either : (q e : ℕ) (t v : Bool) → (t ≡ true → IsUtf8From text e) → (v ≡ true → stands s.block_end text e ≡ true) → EndsUtf8 text (cond (t && v) (Some (control_at text q, e + length s.block_end)) None)
    either q e true true h f = behind_delimiter s.block_end text e ud (h refl) (f refl)
    either q e true false h f = tt
    either q e false v h f = tt
