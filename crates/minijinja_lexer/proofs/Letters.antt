-- A small letter begins a name, and no symbol, no string and no number.
use Rattle.std.proofs.Common.{◌≡◌, ℕ, ◌<◌, ◌≤◌, Bool, true, false, cond, length, drop, get_or, refl, ap, sym, ◌∙◌, arith, ne_eqb}
use Rattle.std.specs.Prelude.{◌&&◌, ◌||◌, ◌==◌, nat_lt, Option, Some, None, Ok, Err}
use Rattle.std.specs.Char.{is_ascii_alphabetic, is_ascii_digit, is_ascii_lowercase}
use Rattle.std.specs.Str.{IsUtf8, chars}
use Rattle.std.proofs.lemmas.Bool.Decides.{nat_tests}
use Rattle.std.proofs.lemmas.Str.{chars_past_char}
use Rattle.unicode_ident.specs.Ident.{is_xid_start}
use Rattle.unicode_ident.proofs.IdentLemmas.{is_xid_start-ascii}
use Rattle.minijinja_syntax.specs.Texts.{Text}
use Rattle.minijinja_lexer.specs.Faults.{UnexpectedCharacter}
use Rattle.minijinja_lexer.specs.Names.{begins_name, continues_name, name_len}
use Rattle.minijinja_lexer.specs.Numbers.{number}
use Rattle.minijinja_lexer.specs.Quoted.{is_quote, quoted}
use Rattle.minijinja_lexer.specs.Sorts.{Ident}
use Rattle.minijinja_lexer.specs.Symbols.{Symbol, FloorDiv, Pow, Eq, Ne, Gte, Lte, Plus, Minus, Mul, Div, Mod, Dot, Comma, Colon, Tilde, Pipe, Assign, Gt, Lt, ParenOpen, ParenClose, BracketOpen, BracketClose, BraceOpen, BraceClose, long_symbol, short_symbol, longer_symbol, symbol_front}
use Rattle.minijinja_lexer.specs.TokenAt.{integer, name, symbol_or, token_front, word_front}
use Rattle.minijinja_lexer.proofs.Scanning.{ascii_front, begins_some, small_letter_continues}

module _ (b : ℕ) (low : 97 ≤ b) (high : b ≤ 122) where
  -- a test for another byte leaves what the other tests give
  other : (k : ℕ) (s : Symbol) (rest : Option Symbol) → (b == k) ≡ false → rest ≡ None → cond (b == k) (Some s) rest ≡ None
  other k s rest e f = ap (λ t. cond t (Some s) rest) e ∙ f

  other_pair : (k : ℕ) (second : Bool) (s : Symbol) (rest : Option Symbol) → (b == k) ≡ false → rest ≡ None → cond ((b == k) && second) (Some s) rest ≡ None
  other_pair k second s rest e f = ap (λ t. cond (t && second) (Some s) rest) e ∙ f

  no_long : (c : ℕ) → long_symbol b c ≡ None
  no_long c =
      other_pair 47 (c == 47) FloorDiv _ (ne_eqb b 47 (omega arith))
      (other_pair 42 (c == 42) Pow _ (ne_eqb b 42 (omega arith))
      (other_pair 61 (c == 61) Eq _ (ne_eqb b 61 (omega arith))
      (other_pair 33 (c == 61) Ne _ (ne_eqb b 33 (omega arith))
      (other_pair 62 (c == 61) Gte _ (ne_eqb b 62 (omega arith))
      (other_pair 60 (c == 61) Lte None (ne_eqb b 60 (omega arith)) refl)))))

  no_short : short_symbol b ≡ None
  no_short =
      other 43 Plus _ (ne_eqb b 43 (omega arith))
      (other 45 Minus _ (ne_eqb b 45 (omega arith))
      (other 42 Mul _ (ne_eqb b 42 (omega arith))
      (other 47 Div _ (ne_eqb b 47 (omega arith))
      (other 37 Mod _ (ne_eqb b 37 (omega arith))
      (other 46 Dot _ (ne_eqb b 46 (omega arith))
      (other 44 Comma _ (ne_eqb b 44 (omega arith))
      (other 58 Colon _ (ne_eqb b 58 (omega arith))
      (other 126 Tilde _ (ne_eqb b 126 (omega arith))
      (other 124 Pipe _ (ne_eqb b 124 (omega arith))
      (other 61 Assign _ (ne_eqb b 61 (omega arith))
      (other 62 Gt _ (ne_eqb b 62 (omega arith))
      (other 60 Lt _ (ne_eqb b 60 (omega arith))
      (other 40 ParenOpen _ (ne_eqb b 40 (omega arith))
      (other 41 ParenClose _ (ne_eqb b 41 (omega arith))
      (other 91 BracketOpen _ (ne_eqb b 91 (omega arith))
      (other 93 BracketClose _ (ne_eqb b 93 (omega arith))
      (other 123 BraceOpen _ (ne_eqb b 123 (omega arith))
      (other 125 BraceClose None (ne_eqb b 125 (omega arith)) refl))))))))))))))))))

-- the text begins with a small letter
module _ (text : Text) (utf8 : IsUtf8 text) (some : 0 < length text) (letter : is_ascii_lowercase (get_or text 0 0) ≡ true) where
  abbrev first : ℕ
  first = get_or text 0 0

  low : 97 ≤ first
  low = grind (arith, nat_tests, letter)

  high : first ≤ 122
  high = grind (arith, nat_tests, letter)

  ascii : first < 128
  ascii = omega (arith, high)

  continues : continues_name first ≡ true
  continues = right (nat_lt first 128) (continues_name first) (small_letter_continues first letter)
    where
      right : (x y : Bool) → (x && y) ≡ true → y ≡ true
      right true y e = e
      right false y e = let f : false ≡ true = e in cc

  begins : begins_name (chars text) ≡ true
  begins =
      let start : is_xid_start first ≡ true = is_xid_start-ascii first ascii ∙ (let a : is_ascii_alphabetic first ≡ true = grind (arith, nat_tests, letter) in a) in
      ap begins_name (chars_past_char text (drop 1 text) first utf8 (ascii_front text 0 some ascii)) ∙ ap (λ t. t || (first == 95)) start

  -- the name has a byte at least
  pub letter_some : 0 < name_len (chars text)
  letter_some = begins_some text (drop 1 text) first utf8 (ascii_front text 0 some ascii) continues

  no_symbol : symbol_front text ≡ None
  unfolding symbol_front
  no_symbol =
      ap (λ l. longer_symbol l (short_symbol first)) (no_long first low high (get_or text 1 0)) ∙ ap (longer_symbol None) (no_short first low high)

  -- the token is that name
  pub letter_front : (behind_dot : Bool) → Ok (Ident, name_len (chars text)) ≡ token_front behind_dot text
  unfolding token_front
  letter_front behind_dot =
      let quote : is_quote first ≡ false = grind (arith, nat_tests, low, high) in
      let digit : is_ascii_digit first ≡ false = grind (arith, nat_tests, low, high) in
      let word : word_front behind_dot text ≡ Ok (Ident, name_len (chars text)) =
      ap (λ t. cond t (quoted text) (cond (is_ascii_digit first) (integer (number behind_dot text)) (name text))) quote
      ∙ ap (λ t. cond t (integer (number behind_dot text)) (name text)) digit
      ∙ ap (λ t. cond t (Ok (Ident, name_len (chars text))) (Err (UnexpectedCharacter, 0))) begins in
      sym (ap (λ x. symbol_or x (word_front behind_dot text)) no_symbol ∙ word)
