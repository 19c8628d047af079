-- Characters at the front of a text that pass a test, and those of a name, which have no dot.
use Rattle.std.proofs.Common.{◌≡◌, ℕ, ◌+◌, ◌<◌, ◌≤◌, Bool, true, false, cond, List, [], ◌∷◌, ◌++◌, length, take, get_or, refl, ap, sym, ◌∙◌, arith, subst, append_assoc, length-append, ⊎_elim, ◌==◌, ne_eqb, lit<}
use Rattle.std.specs.Prelude.{◌&&◌}
use Rattle.std.specs.Char.{encode_utf8, len_utf8}
use Rattle.std.specs.Str.{IsUtf8, IsCharBoundary, NonePass, all_scalars, chars, encode_utf8_all}
use Rattle.std.proofs.lemmas.Bool.{cases_lt}
use Rattle.std.proofs.lemmas.List.{get_or_default}
use Rattle.std.proofs.lemmas.List.Folds.{list_any_none}
use Rattle.std.proofs.Math.Seq.{take-append_seam}
use Rattle.std.proofs.lemmas.Str.{IsCharBoundary-at_seam, NoCharPasses-byte, encodes-chars, length-encode, scalars-chars}
use Rattle.minijinja_syntax.specs.Texts.{Text}
use Rattle.minijinja_lexer.specs.Names.{continues_name, name_len}
use Rattle.minijinja_lexer.specs.Whitespace.{is_line_space, line_space_len, line_space_run}
use Rattle.minijinja_lexer.proofs.Runs.{run_is}
use Rattle.minijinja_lexer.proofs.Scanning.{mark_stops}
use Rattle.minijinja_meta.specs.Segments.{HasNoDot}

-- how many bytes the characters at the front have that pass the test
abbrev run_len : (ℕ → Bool) → List ℕ → ℕ
run_len p [] = 0
run_len p (c ∷ cs) = cond (p c) (len_utf8 c + run_len p cs) 0

abbrev EachPasses : (ℕ → Bool) → List ℕ → Type 0
EachPasses p [] = Unit {0}
EachPasses p (c ∷ cs) = (p c ≡ true) × EachPasses p cs

-- the characters have a front of n bytes, whose characters pass the test
record Run (p : ℕ → Bool) (cs : List ℕ) (n : ℕ) : Type 0 where
  pub front : List ℕ
  pub rest : List ℕ
  pub bytes : encode_utf8_all cs ≡ encode_utf8_all front ++ encode_utf8_all rest
  pub passing : EachPasses p front
  pub len : length (encode_utf8_all front) ≡ n
  pub scalars : all_scalars rest ≡ true

pub and_right : (x y : Bool) → (x && y) ≡ true → y ≡ true
and_right true y e = e
and_right false y e = let f : false ≡ true = e in cc

run_more : (p : ℕ → Bool) (c : ℕ) (cs : List ℕ) (n : ℕ) → p c ≡ true → Run p cs n → Run p (c ∷ cs) (len_utf8 c + n)
run_more p c cs n h r =
    let l : length (encode_utf8 c ++ encode_utf8_all r.front) ≡ length (encode_utf8 c) + length (encode_utf8_all r.front) = length-append (encode_utf8 c) (encode_utf8_all r.front) in
    record {
      front = c ∷ r.front;
      rest = r.rest;
      bytes = ap (λ x. encode_utf8 c ++ x) r.bytes ∙ sym (append_assoc (encode_utf8 c) (encode_utf8_all r.front) (encode_utf8_all r.rest));
      passing = (h, r.passing);
      len = omega (arith, l, length-encode c, r.len);
      scalars = r.scalars;
    }

run : (p : ℕ → Bool) (cs : List ℕ) → all_scalars cs ≡ true → Run p cs (run_len p cs)
run p [] v = record { front = []; rest = []; bytes = refl; passing = tt; len = refl; scalars = refl }
run p (c ∷ cs) v = either (p c) refl (run p cs (and_right _ (all_scalars cs) v))
  where
    either : (t : Bool) → p c ≡ t → Run p cs (run_len p cs) → Run p (c ∷ cs) (cond t (len_utf8 c + run_len p cs) 0)
    either true e r = run_more p c cs (run_len p cs) e r
    either false e r = record { front = []; rest = c ∷ cs; bytes = refl; passing = tt; len = refl; scalars = v }

module _ (p : ℕ → Bool) (bs : Text) (u : IsUtf8 bs) (n : ℕ) (r : Run p (chars bs) n) where
  seam : bs ≡ encode_utf8_all r.front ++ encode_utf8_all r.rest
  seam = sym (encodes-chars bs u) ∙ r.bytes

  run_ends : IsCharBoundary bs n
  run_ends = subst (λ m. IsCharBoundary bs m) r.len (IsCharBoundary-at_seam bs (encode_utf8_all r.front) (encode_utf8_all r.rest) seam (r.rest, (r.scalars, refl)))

  run_is_front : take n bs ≡ encode_utf8_all r.front
  run_is_front = ap (λ m. take m bs) (sym r.len) ∙ ap (take (length (encode_utf8_all r.front))) seam ∙ take-append_seam (encode_utf8_all r.front) (encode_utf8_all r.rest)

-- ---- names

-- a dot does not continue a name
no_dot_continues : (c : ℕ) → continues_name c ≡ true → (c == 46) ≡ false
no_dot_continues c h = ne_eqb c 46 (λ e. let f : false ≡ continues_name 46 = mark_stops 46 (lit< tt) in let g : false ≡ true = f ∙ ap continues_name (sym e) ∙ h in cc)

no_dots : (cs : List ℕ) → EachPasses continues_name cs → NonePass (λ b. b == 46) cs
no_dots [] h = tt
no_dots (c ∷ cs) h = (no_dot_continues c h.0, no_dots cs h.1)

byte_no_dot : (xs : Text) (cs : List ℕ) → encode_utf8_all cs ≡ xs → NonePass (λ b. b == 46) cs → (k : ℕ) → k < length xs → (get_or xs k 0 == 46) ≡ false
byte_no_dot xs cs e h k l = ⊎_elim
    (λ (low : get_or xs k 0 < 128). NoCharPasses-byte (λ b. b == 46) xs k (cs, e, h) l low)
    (λ (high : 128 ≤ get_or xs k 0). ne_eqb (get_or xs k 0) 46 (λ q. absurd (omega (arith, q, high))))
    (cases_lt (get_or xs k 0) 128)

chars_no_dot : (cs : List ℕ) → NonePass (λ b. b == 46) cs → HasNoDot (encode_utf8_all cs)
chars_no_dot cs h = list_any_none (λ b. b == 46) (encode_utf8_all cs) (λ k d l. ap (λ b. b == 46) (get_or_default (encode_utf8_all cs) k d 0 l) ∙ byte_no_dot (encode_utf8_all cs) cs refl h k l)

name_run : (cs : List ℕ) → all_scalars cs ≡ true → Run continues_name cs (name_len cs)
name_run cs v = run continues_name cs v

pub name_ends : (bs : Text) → IsUtf8 bs → IsCharBoundary bs (name_len (chars bs))
name_ends bs u = run_ends continues_name bs u (name_len (chars bs)) (name_run (chars bs) (scalars-chars bs u))

-- the bytes of a name have no dot
pub name_has_no_dot : (bs : Text) → IsUtf8 bs → HasNoDot (take (name_len (chars bs)) bs)
name_has_no_dot bs u =
    let r = name_run (chars bs) (scalars-chars bs u) in
    subst HasNoDot (sym (run_is_front continues_name bs u (name_len (chars bs)) r)) (chars_no_dot r.front (no_dots r.front r.passing))

-- ---- whitespace

pub line_space_ends : (bs : Text) → IsUtf8 bs → IsCharBoundary bs (line_space_len bs)
line_space_ends bs u =
    let n : ℕ = line_space_run (chars bs) in
    let b = run_ends is_line_space bs u n (run is_line_space (chars bs) (scalars-chars bs u)) in
    subst (λ m. IsCharBoundary bs m) (run_is bs n refl b) b
