-- The meaning of the inside of a string with escapes.
use Rattle.std.specs.Prelude.{ℕ, zero, suc, ◌-◌, ◌&&◌, ◌||◌, not, nat_le, ◌==◌, if◌then◌else◌, [], ◌∷◌, ◌++◌, length, take, drop, slice_index, encode_utf8, Option, Some, None}
use Rattle.std.specs.Option.{option_map, option_and_then}
use Rattle.std.specs.List.{list_all}
use Rattle.std.specs.Char.{is_digit}
use Rattle.std.specs.Char.Utf16.{is_high_surrogate, is_low_surrogate, surrogate_pair_char, lone_unit_char}
use Rattle.std.specs.Str.Parse.{digits_value}
use Rattle.minijinja_syntax.specs.Texts.{Text}
use Rattle.minijinja_syntax.specs.Quotes.{quote_mark, backslash}
use Rattle.minijinja_lexer.specs.Bytes.{letter_u}

-- what a byte after a backslash means: \ " ' and / themselves, b f n r and t a control character
abbrev pub simple_escape : ℕ → Option ℕ
simple_escape b =
    if b == backslash || b == quote_mark || b == 39 || b == 47 then Some b  -- 39 is ' and 47 is /
    else if b == 98 then Some 8  -- b, backspace
    else if b == 102 then Some 12  -- f, form feed
    else if b == 110 then Some 10  -- n, newline
    else if b == 114 then Some 13  -- r, return
    else if b == 116 then Some 9  -- t, tab
    else None

-- the value of four hexadecimal digits at the front
abbrev pub hex_unit : Text → Option ℕ
hex_unit text = if nat_le 4 (length text) && list_all (λ b. is_digit b 16) (take 4 text) then Some (digits_value 16 (take 4 text)) else None

-- the value of a \u with four hexadecimal digits at the front
abbrev pub unit_escape : Text → Option ℕ
unit_escape text = if slice_index text 0 == backslash && slice_index text 1 == letter_u then hex_unit (drop 2 text) else None

-- the character of a high surrogate and the value of the escape after it, which must be a low one
abbrev pub surrogate_pair : ℕ → Option ℕ → Option (ℕ × ℕ)
surrogate_pair high None = None
surrogate_pair high (Some low) = if is_low_surrogate low then Some (surrogate_pair_char high low, 12) else None

-- the character of a \u of that value, and how many bytes write it; `rest` stands after it
abbrev pub unit_char : Text → ℕ → Option (ℕ × ℕ)
unit_char rest u = if is_high_surrogate u then surrogate_pair u (unit_escape rest) else option_map (λ c. (c, 6)) (lone_unit_char u)

-- the character of the escape at the front, and how many bytes write it
abbrev pub escape : Text → Option (ℕ × ℕ)
escape text =
    if not (slice_index text 0 == backslash) then None
    else if slice_index text 1 == letter_u then option_and_then (unit_char (drop 6 text)) (unit_escape text)
    else option_map (λ c. (c, 2)) (simple_escape (slice_index text 1))

-- what is left of the inside means this; its first `skip` bytes belong to an escape that is read
-- already
abbrev pub unescaped_from : ℕ → Text → Option Text
unescaped_from skip [] = Some []
unescaped_from (suc skip) (b ∷ bs) = unescaped_from skip bs
unescaped_from zero (b ∷ bs) =
    if b == backslash then option_and_then (λ e. option_map (λ t. encode_utf8 e.0 ++ t) (unescaped_from (e.1 - 1) bs)) (escape (b ∷ bs))
    else option_map (λ t. b ∷ t) (unescaped_from 0 bs)

-- each escape is its character and each other byte itself; a bad escape makes the whole mean
-- nothing
unfoldable pub unescaped : Text → Option Text
unescaped inside = unescaped_from 0 inside
