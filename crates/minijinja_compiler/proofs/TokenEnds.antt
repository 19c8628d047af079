-- A token of a UTF-8 text ends between characters, and an identifier has no dot.
use Rattle.std.proofs.Common.{◌≡◌, ℕ, suc, ◌+◌, ◌-◌, ◌<◌, ◌^◌, Bool, true, false, cond, [], ◌∷◌, length, take, drop, get_or, refl, ap, ◌∙◌, arith, subst, Option, Some, None, Result, Ok, Err, ◌==◌, eqb-true}
use Rattle.std.specs.Prelude.{◌&&◌, nat_lt, is_some, not, slice_index}
use Rattle.std.specs.Char.{is_ascii_digit}
use Rattle.std.specs.Str.{IsUtf8, IsCharBoundary, chars}
use Rattle.std.proofs.lemmas.Bool.{ltb-true}
use Rattle.std.proofs.lemmas.Bool.Decides.{nat_tests}
use Rattle.std.proofs.lemmas.Str.{IsCharBoundary-after_ascii}
use Rattle.minijinja_syntax.specs.Texts.{Text}
use Rattle.minijinja_syntax.specs.Positions.{slice}
use Rattle.minijinja_lexer.specs.Escapes.{unescaped}
use Rattle.minijinja_lexer.specs.Faults.{LexFault, FloatLiteral}
use Rattle.minijinja_lexer.specs.Names.{begins_name}
use Rattle.minijinja_lexer.specs.Numbers.{number, number_len, prefix_size, radix_at, reads_as_float, taken_value, with_length}
use Rattle.minijinja_lexer.specs.Quoted.{has_escapes, is_quote, quoted, quoted_len}
use Rattle.minijinja_lexer.specs.Sorts.{Sort}
use Rattle.minijinja_lexer.specs.Sorts as sort
use Rattle.minijinja_lexer.specs.Symbols.{Symbol, longer_symbol, long_symbol, short_symbol, symbol_front}
use Rattle.minijinja_lexer.specs.TokenAt.{int_sort, integer, is_behind_dot, placed, symbol_or, token_at, token_front, word_front}
use Rattle.minijinja_lexer.proofs.Digits.{number_boundary}
use Rattle.minijinja_lexer.proofs.Scanning.{get_some, quote_low, quoted_end}
use Rattle.minijinja_meta.specs.Segments.{HasNoDot}
use Rattle.minijinja_compiler.proofs.CharRuns.{name_ends, name_has_no_dot}
use Rattle.minijinja_compiler.proofs.Utf8Places.{IsUtf8From, further}

-- the text of an identifier has no dot
abbrev pub IsDotless : Sort → Text → Type 0
IsDotless sort.Ident x = HasNoDot x
IsDotless _ x = Unit {0}

-- a token of the given number of bytes at the front of a text
record Fits (text : Text) (x : Sort) (n : ℕ) : Type 0 where
  pub boundary : IsCharBoundary text n
  pub dotless : IsDotless x (take n text)

FitsFront : Text → Result (Sort × ℕ) (LexFault × ℕ) → Type 0
FitsFront text (Ok t) = Fits text t.0 t.1
FitsFront text (Err f) = Unit {0}

-- ---- symbols

-- a byte that is no 0 and is ASCII
record IsLow (b : ℕ) : Type 0 where
  pub some : 0 < b
  pub low : b < 128

short_low : (b : ℕ) → is_some (short_symbol b) ≡ true → IsLow b
short_low b h = record { some = grind (arith, nat_tests); low = grind (arith, nat_tests) }

long_low : (b c : ℕ) → is_some (long_symbol b c) ≡ true → IsLow c
long_low b c h = record { some = grind (arith, nat_tests); low = grind (arith, nat_tests) }

behind_low : (text : Text) (n : ℕ) → IsUtf8 text → IsLow (get_or text n 0) → IsCharBoundary text (n + 1)
behind_low text n u is = IsCharBoundary-after_ascii text n u (get_some text n is.some) is.low

symbol_fits : (text : Text) (x y : Option Symbol) (r : Result (Sort × ℕ) (LexFault × ℕ)) → (is_some x ≡ true → IsCharBoundary text 2) → (is_some y ≡ true → IsCharBoundary text 1) → FitsFront text r → FitsFront text (symbol_or (longer_symbol x y) r)
unfolding FitsFront
symbol_fits text (Some a) y r two one h = record { boundary = two refl; dotless = tt }
symbol_fits text None (Some b) r two one h = record { boundary = one refl; dotless = tt }
symbol_fits text None None r two one h = h

-- ---- strings

-- the byte behind the inside of a string is its quote
quoted_stops : (q : ℕ) (xs : Text) → quoted_len q xs < length xs → get_or xs (quoted_len q xs) 0 ≡ q
quoted_stops q [] h = absurd (omega (arith, h))
quoted_stops q (b ∷ []) h = either (b == q) refl h
  where
    either : (t : Bool) → (b == q) ≡ t → cond t 0 1 < 1 → get_or (b ∷ []) (cond t 0 1) 0 ≡ q
    either true e h = eqb-true b q e
    either false e h = absurd (omega (arith, h))
quoted_stops q (b ∷ c ∷ rest) h = either (b == q) (b == 92) (quoted_len q rest) (quoted_len q (c ∷ rest)) refl (quoted_stops q rest) (quoted_stops q (c ∷ rest)) h
  where
    either : (t v : Bool) (m n : ℕ) → (b == q) ≡ t → (m < length rest → get_or rest m 0 ≡ q) → (n < length (c ∷ rest) → get_or (c ∷ rest) n 0 ≡ q)
        → cond t 0 (cond v (2 + m) (1 + n)) < length (b ∷ c ∷ rest) → get_or (b ∷ c ∷ rest) (cond t 0 (cond v (2 + m) (1 + n))) 0 ≡ q
    either true v m n e f g h = eqb-true b q e
    either false true m n e f g h = let i : 2 + m ≡ suc (suc m) = omega arith in ap (λ k. get_or (b ∷ c ∷ rest) k 0) i ∙ f (omega (arith, h))
    either false false m n e f g h = let i : 1 + n ≡ suc n = omega arith in ap (λ k. get_or (b ∷ c ∷ rest) k 0) i ∙ g (omega (arith, h))

choose : (text : Text) (b : Bool) (x y : Result (Sort × ℕ) (LexFault × ℕ)) → (b ≡ true → FitsFront text x) → FitsFront text y → FitsFront text (cond b x y)
choose text true x y f g = f refl
choose text false x y f g = g

quoted_fits : (text : Text) → IsUtf8 text → is_quote (slice_index text 0) ≡ true → FitsFront text (quoted text)
unfolding FitsFront quoted
quoted_fits text u h =
    let q : ℕ = slice_index text 0 in
    let rest : Text = drop 1 text in
    let n : ℕ = quoted_len q rest in
    let inside : Text = take n rest in
    choose text (nat_lt n (length rest)) _ _
    (λ e.
    let l : n < length rest = ltb-true n (length rest) e in
    let b : IsCharBoundary text (n + 2) = quoted_end text rest n q u refl l (quoted_stops q rest l) (quote_low q h) in
    choose text (not (has_escapes inside)) _ _ (λ _. record { boundary = b; dotless = tt })
    (choose text (is_some (unescaped inside)) _ _ (λ _. record { boundary = b; dotless = tt }) tt))
    tt

-- ---- numbers

int_fits : (text : Text) (n value : ℕ) → IsCharBoundary text n → Fits text (int_sort value) n
int_fits text n value b = either (nat_lt value (2 ^ 64))
  where
    either : (t : Bool) → Fits text (cond t (sort.Int value) (sort.Int128 value)) n
    either true = record { boundary = b; dotless = tt }
    either false = record { boundary = b; dotless = tt }

length_fits : (text : Text) (n : ℕ) (v : Result ℕ LexFault) → IsCharBoundary text n → FitsFront text (integer (with_length n v))
unfolding FitsFront
length_fits text n (Ok value) b = int_fits text n value b
length_fits text n (Err f) b = tt

number_fits : (behind_dot : Bool) (text : Text) → IsUtf8 text → FitsFront text (integer (number behind_dot text))
unfolding FitsFront number
number_fits behind_dot text u = by_float ((radix_at text == 10) && reads_as_float behind_dot (drop (number_len text) text))
  where
    by_float : (t : Bool) → FitsFront text (integer (cond t (Err (FloatLiteral, number_len text)) (with_length (number_len text) (taken_value (radix_at text) (slice text (prefix_size (radix_at text)) (number_len text))))))
    by_float true = tt
    by_float false = length_fits text (number_len text) _ (number_boundary text u)

-- ---- tokens

word_fits : (behind_dot : Bool) (text : Text) → IsUtf8 text → FitsFront text (word_front behind_dot text)
unfolding FitsFront
word_fits behind_dot text u =
    choose text (is_quote (slice_index text 0)) _ _ (λ h. quoted_fits text u h)
    (choose text (is_ascii_digit (slice_index text 0)) _ _ (λ _. number_fits behind_dot text u)
    (choose text (begins_name (chars text)) _ _ (λ _. record { boundary = name_ends text u; dotless = name_has_no_dot text u }) tt))

front_fits : (behind_dot : Bool) (text : Text) → IsUtf8 text → FitsFront text (token_front behind_dot text)
unfolding token_front symbol_front
front_fits behind_dot text u =
    symbol_fits text (long_symbol (slice_index text 0) (slice_index text 1)) (short_symbol (slice_index text 0)) (word_front behind_dot text)
    (λ h. behind_low text 1 u (long_low (slice_index text 0) (slice_index text 1) h)) (λ h. behind_low text 0 u (short_low (slice_index text 0) h)) (word_fits behind_dot text u)

-- a token at a place
pub record TokenEnds (text : Text) (at stop : ℕ) (x : Sort) : Type 0 where
  pub utf8 : IsUtf8From text stop
  pub dotless : IsDotless x (slice text at stop)

EndsAt : Text → ℕ → Result (Sort × ℕ) (LexFault × ℕ) → Type 0
EndsAt text at (Ok r) = TokenEnds text at r.1 r.0
EndsAt text at (Err f) = Unit {0}

place_ends : (text : Text) (at : ℕ) (r : Result (Sort × ℕ) (LexFault × ℕ)) → IsUtf8From text at → FitsFront (drop at text) r → EndsAt text at (placed at r)
unfolding FitsFront EndsAt
place_ends text at (Ok r) u fits =
    let e : r.1 ≡ at + r.1 - at = omega arith in
    record { utf8 = further text at r.1 u fits.boundary; dotless = subst (λ n. IsDotless r.0 (take n (drop at text))) e fits.dotless }
place_ends text at (Err f) u fits = tt

front_ends : (text : Text) (at : ℕ) → IsUtf8From text at → EndsAt text at (token_at text at)
unfolding token_at
front_ends text at u = place_ends text at (token_front (is_behind_dot text at) (drop at text)) u (front_fits (is_behind_dot text at) (drop at text) u)

pub token_ends : (text : Text) (at stop : ℕ) (x : Sort) → IsUtf8From text at → token_at text at ≡ Ok (x, stop) → TokenEnds text at stop x
unfolding EndsAt
token_ends text at stop x u e = subst (EndsAt text at) e (front_ends text at u)
