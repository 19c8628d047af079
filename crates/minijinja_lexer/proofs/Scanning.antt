-- Runs of bytes and of characters at the front of a text.
use Rattle.std.proofs.Common.{◌≡◌, ℕ, zero, suc, get_or-drop, length-drop, ◌+◌, ◌-◌, ◌<◌, ◌≤◌, Bool, true, false, cond, List, [], ◌∷◌, ◌++◌, length, drop, get_or, refl, ap, sym, ◌∙◌, arith, subst, length-append, ⊎_elim}
use Rattle.std.specs.List.{prefix_len}
use Rattle.std.specs.Str.{IsUtf8, IsCharBoundary, chars}
use Rattle.std.specs.Char.{len_utf8, encode_utf8, is_ascii_alphanumeric, is_ascii_lowercase, is_ascii_whitespace}
use Rattle.std.proofs.lemmas.List.{get_or_past}
use Rattle.std.proofs.lemmas.Bool.{cases_lt, lt-ltb, le-ltb}
use Rattle.std.proofs.Math.Seq.{drop-cons}
use Rattle.std.proofs.lemmas.List.Sums.{prefix_len_passes}
use Rattle.std.proofs.lemmas.Bool.Decides.{nat_tests}
use Rattle.std.proofs.lemmas.Str.{chars-nil, IsCharBoundary-start, IsCharBoundary-after_ascii, IsCharBoundary-before_ascii, IsCharBoundary-from_drop, chars_past_char, drop_past_char, IsUtf8-past_char, length-encode, len_utf8_bounds, len_utf8_ascii, encode_ascii}
use Rattle.std.specs.Prelude.{IsTrue, ◌||◌, ◌&&◌, ◌==◌, nat_lt}
use Rattle.unicode_ident.specs.Ident.{is_xid_continue}
use Rattle.unicode_ident.proofs.IdentLemmas.{is_xid_continue-ascii}
use Rattle.minijinja_syntax.specs.Texts.{Text}
use Rattle.minijinja_lexer.specs.private.AsciiEnds.{EndsInAscii}
use Rattle.minijinja_lexer.specs.Names.{name_len, continues_name}
use Rattle.minijinja_lexer.specs.Quoted.{is_quote}

-- a byte that is no 0 stands in the text
pub get_some : (bs : Text) (i : ℕ) → 0 < get_or bs i 0 → i < length bs
get_some bs i h = ⊎_elim (λ l. l) (λ le. absurd (omega (arith, get_or_past bs i 0 le, h))) (cases_lt i (length bs))

-- what ends in an ASCII byte ends between characters
pub ascii_end : (bs : Text) (n : ℕ) → IsUtf8 bs → EndsInAscii bs n → IsCharBoundary bs n
ascii_end bs n u e =
    let f : n - 1 + 1 ≡ n = omega (arith, e.some) in
    subst (λ m. IsCharBoundary bs m) f (IsCharBoundary-after_ascii bs (n - 1) u (omega (arith, e.some, e.within)) e.last)

-- a run of bytes below 128 ends between characters
pub ascii_run : (p : ℕ → Bool) (bs : Text) → ((b : ℕ) → p b ≡ true → b < 128) → IsUtf8 bs → prefix_len p bs ≤ length bs → IsCharBoundary bs (prefix_len p bs)
ascii_run p bs low u le = at_end (prefix_len p bs) refl
  where
    at_end : (n : ℕ) → n ≡ prefix_len p bs → IsCharBoundary bs n
    at_end zero e = IsCharBoundary-start bs u
    at_end (suc n) e =
        let k : n < prefix_len p bs = omega arith in
        let h : n < length bs = omega arith in
        let f : n + 1 ≡ suc n = omega arith in
        subst (λ m. IsCharBoundary bs m) f (IsCharBoundary-after_ascii bs n u h (low (get_or bs n 0) (prefix_len_passes p bs n 0 k)))

pub space_low : (b : ℕ) → is_ascii_whitespace b ≡ true → b < 128
space_low b h = grind (arith, nat_tests)

-- len bytes of the text are characters that continue a name, and rest follows
pub record NameRun (text : Text) (len : ℕ) (rest : Text) : Type 0 where
  pub counted : len + name_len (chars rest) ≡ name_len (chars text)
  pub there : drop len text ≡ rest
  pub lens : len + length rest ≡ length text
  pub utf8 : IsUtf8 rest

small_letter : (b : ℕ) → is_ascii_lowercase b ≡ true → (is_ascii_alphanumeric b || (b == 95)) ≡ true
small_letter b h = grind (arith, nat_tests, h)

-- an ASCII byte that continues a name
pub ascii_continues : (b : ℕ) → (is_ascii_alphanumeric b || (b == 95)) ≡ (nat_lt b 128 && continues_name b)
ascii_continues b = ⊎_elim
    (λ (l : b < 128). sym (ap (λ t. t && continues_name b) (lt-ltb b 128 l) ∙ ap (λ t. t || (b == 95)) (is_xid_continue-ascii b l) ∙ twice (is_ascii_alphanumeric b) (b == 95)))
    (λ (g : 128 ≤ b). let none : (is_ascii_alphanumeric b || (b == 95)) ≡ false = grind (arith, nat_tests) in none ∙ sym (ap (λ t. t && continues_name b) (le-ltb b 128 g)))
    (cases_lt b 128)
  where
    twice : (x y : Bool) → ((x || y) || y) ≡ (x || y)
    twice true y = refl
    twice false true = refl
    twice false false = refl

-- below the digits stand only spaces and marks
pub mark_stops : (b : ℕ) → b < 48 → false ≡ (nat_lt b 128 && continues_name b)
mark_stops b h = let none : (is_ascii_alphanumeric b || (b == 95)) ≡ false = grind (arith, nat_tests) in sym none ∙ ascii_continues b

pub small_letter_continues : (b : ℕ) → is_ascii_lowercase b ≡ true → (nat_lt b 128 && continues_name b) ≡ true
small_letter_continues b h = sym (ascii_continues b) ∙ small_letter b h

name_cons : (c : ℕ) (cs : List ℕ) → continues_name c ≡ true → name_len (c ∷ cs) ≡ len_utf8 c + name_len cs
name_cons c cs h = ap (λ t. cond t (len_utf8 c + name_len cs) 0) h

name_none : (c : ℕ) (cs : List ℕ) → continues_name c ≡ false → name_len (c ∷ cs) ≡ 0
name_none c cs h = ap (λ t. cond t (len_utf8 c + name_len cs) 0) h

pub name_step : (text : Text) (len : ℕ) (rest after : Text) (c : ℕ) → NameRun text len rest → rest ≡ encode_utf8 c ++ after → continues_name c ≡ true → NameRun text (len + len_utf8 c) after
name_step text len rest after c run e h =
    let chars_are : chars rest ≡ c ∷ chars after = chars_past_char rest after c run.utf8 e in
    let name_is : name_len (chars rest) ≡ len_utf8 c + name_len (chars after) = ap name_len chars_are ∙ name_cons c (chars after) h in
    let len_is : length rest ≡ len_utf8 c + length after = ap length e ∙ length-append (encode_utf8 c) after ∙ ap (λ n. n + length after) (length-encode c) in
    record {
      counted = omega (arith, name_is, run.counted);
      there = drop_past_char text after len c (run.there ∙ e);
      lens = omega (arith, len_is, run.lens);
      utf8 = IsUtf8-past_char rest after c run.utf8 e;
    }

pub name_stop : (text : Text) (len : ℕ) (rest after : Text) (c : ℕ) → NameRun text len rest → rest ≡ encode_utf8 c ++ after → continues_name c ≡ false → len ≡ name_len (chars text)
name_stop text len rest after c run e h =
    let name_is : name_len (chars rest) ≡ 0 = ap name_len (chars_past_char rest after c run.utf8 e) ∙ name_none c (chars after) h in
    omega (arith, name_is, run.counted)

-- an ASCII byte is a character of its own
pub ascii_front : (text : Text) (len : ℕ) → len < length text → get_or text len 0 < 128 → drop len text ≡ encode_utf8 (get_or text len 0) ++ drop (len + 1) text
ascii_front text len h low =
    let e : suc len ≡ len + 1 = omega arith in
    drop-cons text len 0 h ∙ ap (λ n. get_or text len 0 ∷ drop n text) e ∙ ap (λ t. t ++ drop (len + 1) text) (sym (encode_ascii (get_or text len 0) low))

pub ascii_step : (text : Text) (len : ℕ) → NameRun text len (drop len text) → len < length text → (nat_lt (get_or text len 0) 128 && continues_name (get_or text len 0)) ≡ true → NameRun text (len + 1) (drop (len + 1) text)
ascii_step text len run h t =
    let b : ℕ = get_or text len 0 in
    let low : b < 128 = grind (arith, nat_tests, and_left (nat_lt b 128) (continues_name b) t) in
    let one : len_utf8 b ≡ 1 = len_utf8_ascii b low in
    subst (λ n. NameRun text (len + n) (drop (len + 1) text)) one
    (name_step text len (drop len text) (drop (len + 1) text) b run (ascii_front text len h low) (and_right (nat_lt b 128) (continues_name b) t))
  where
    and_left : (x y : Bool) → (x && y) ≡ true → x ≡ true
    and_left true y e = refl
    and_left false y e = e

    and_right : (x y : Bool) → (x && y) ≡ true → y ≡ true
    and_right true y e = e
    and_right false y e = let f : false ≡ true = e in cc

pub ascii_stop : (text : Text) (len : ℕ) → NameRun text len (drop len text) → len < length text → get_or text len 0 < 128 → (nat_lt (get_or text len 0) 128 && continues_name (get_or text len 0)) ≡ false → len ≡ name_len (chars text)
ascii_stop text len run h low f =
    let b : ℕ = get_or text len 0 in
    name_stop text len (drop len text) (drop (len + 1) text) b run (ascii_front text len h low) (ap (λ t. t && continues_name b) (sym (lt-ltb b 128 low)) ∙ f)

pub name_end : (text : Text) (len : ℕ) (rest : Text) → NameRun text len rest → length rest ≡ 0 → len ≡ name_len (chars text)
name_end text len [] run h = let none : name_len (chars []) ≡ 0 = ap name_len chars-nil in omega (arith, run.counted, none)
name_end text len (b ∷ bs) run h = absurd (omega (arith, h))

pub name_boundary : (text : Text) (len : ℕ) (rest : Text) → NameRun text len rest → IsCharBoundary text len
name_boundary text len rest run = IsCharBoundary-from_drop text len (omega (arith, run.lens)) (subst IsUtf8 (sym run.there) run.utf8)

pub quote_low : (b : ℕ) → is_quote b ≡ true → b < 128
quote_low b h = grind (arith, nat_tests)

-- past the closing quote
pub quoted_end : (text rest : Text) (n q : ℕ) → IsUtf8 text → rest ≡ drop 1 text → n < length rest → get_or rest n 0 ≡ q → q < 128 → IsCharBoundary text (n + 2)
quoted_end text rest n q u e h f low =
    let l : length rest ≡ length text - 1 = ap length e ∙ length-drop 1 text in
    let r : get_or text (1 + n) 0 ≡ q = sym (get_or-drop 1 text n 0) ∙ sym (ap (λ s. get_or s n 0) e) ∙ f in
    let s : 1 + n + 1 ≡ n + 2 = omega arith in
    subst (λ m. IsCharBoundary text m) s (IsCharBoundary-after_ascii text (1 + n) u (omega arith) (omega (arith, r)))

pub begins_some : (text after : Text) (c : ℕ) → IsUtf8 text → text ≡ encode_utf8 c ++ after → continues_name c ≡ true → 0 < name_len (chars text)
begins_some text after c u e h =
    let name_is : name_len (chars text) ≡ len_utf8 c + name_len (chars after) = ap name_len (chars_past_char text after c u e) ∙ name_cons c (chars after) h in
    let b = len_utf8_bounds c in
    omega (arith, name_is, b.0)

pub begins_continues : (x : Bool) (c : ℕ) → (IsTrue x → IsTrue (is_xid_continue c)) → IsTrue (x || (c == 95)) → continues_name c ≡ true
begins_continues true c f h = ap (λ t. t || (c == 95)) (f refl)
begins_continues false c f h = or_right (is_xid_continue c) (c == 95) h
  where
    or_right : (a b : Bool) → b ≡ true → (a || b) ≡ true
    or_right true b e = refl
    or_right false b e = e

-- between the quotes
pub quoted_inside_places : (text rest : Text) (n q : ℕ) → IsUtf8 text → rest ≡ drop 1 text → n < length rest → get_or rest n 0 ≡ q → q < 128 → get_or text 0 0 ≡ q → (0 + 1 ≤ n + 2 - 1) × IsCharBoundary text (0 + 1) × IsCharBoundary text (n + 2 - 1)
quoted_inside_places text rest n q u e h f low g =
    let l : length rest ≡ length text - 1 = ap length e ∙ length-drop 1 text in
    let r : get_or text (1 + n) 0 ≡ q = sym (get_or-drop 1 text n 0) ∙ sym (ap (λ s. get_or s n 0) e) ∙ f in
    let s : 1 + n ≡ n + 2 - 1 = omega arith in
    (omega arith, IsCharBoundary-after_ascii text 0 u (omega arith) (omega (arith, g)), subst (λ m. IsCharBoundary text m) s (IsCharBoundary-before_ascii text (1 + n) (omega arith) (omega (arith, r))))
