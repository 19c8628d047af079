-- The string at the front of a text.
use Rattle.std.specs.Prelude.{ℕ, ◌+◌, Bool, nat_lt, ◌==◌, ◌||◌, not, if◌then◌else◌, [], ◌∷◌, length, take, drop, slice_index, is_some, Result, Ok, Err}
use Rattle.std.specs.List.{list_any}
use Rattle.minijinja_syntax.specs.Texts.{Text}
use Rattle.minijinja_syntax.specs.Quotes.{quote_mark, backslash}
use Rattle.minijinja_lexer.specs.Escapes.{unescaped}
use Rattle.minijinja_lexer.specs.Sorts.{Sort, Str, String}
use Rattle.minijinja_lexer.specs.Faults.{LexFault, UnterminatedString, BadEscape}

-- " and '
abbrev pub is_quote : ℕ → Bool
is_quote b = b == quote_mark || b == 39

-- how many bytes are before the next such quote; a backslash escapes the byte after it
abbrev pub quoted_len : ℕ → Text → ℕ
quoted_len quote [] = 0
quoted_len quote (b ∷ []) = if b == quote then 0 else 1
quoted_len quote (b ∷ c ∷ rest) =
    if b == quote then 0
    else if b == backslash then 2 + quoted_len quote rest
    else 1 + quoted_len quote (c ∷ rest)

-- it has a backslash
abbrev pub has_escapes : Text → Bool
has_escapes inside = list_any (λ b. b == backslash) inside

-- the string whose inside has n bytes
abbrev pub quoted_inside : Text → ℕ → Result (Sort × ℕ) (LexFault × ℕ)
quoted_inside inside n =
    if not (has_escapes inside) then Ok (Str, n + 2)
    else if is_some (unescaped inside) then Ok (String, n + 2)
    else Err (BadEscape, n + 2)

-- a string that begins with its quote; without an end it is refused at the end of the text
unfoldable pub quoted : Text → Result (Sort × ℕ) (LexFault × ℕ)
quoted text =
    let n = quoted_len (slice_index text 0) (drop 1 text) in
    if nat_lt n (length (drop 1 text)) then quoted_inside (take n (drop 1 text)) n else Err (UnterminatedString, length text)
