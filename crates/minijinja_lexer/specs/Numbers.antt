-- The number at the front of a text: its value and length, or why and where it is refused.
use Rattle.std.specs.Prelude.{ℕ, ◌+◌, ◌-◌, ◌^◌, Bool, not, ◌&&◌, ◌||◌, nat_lt, ◌==◌, if◌then◌else◌, length, drop, slice_index, filter, Result, Ok, Err}
use Rattle.std.specs.List.{prefix_len, list_all}
use Rattle.std.specs.Char.{is_ascii_digit, is_ascii_hexdigit, is_digit}
use Rattle.std.specs.Str.{chars}
use Rattle.std.specs.Str.Parse.{digits_value}
use Rattle.minijinja_syntax.specs.Texts.{Text}
use Rattle.minijinja_syntax.specs.Positions.{slice}
use Rattle.minijinja_lexer.specs.Bytes.{minus_sign, plus_sign, period, underscore, zero_digit}
use Rattle.minijinja_lexer.specs.Names.{begins_name}
use Rattle.minijinja_lexer.specs.Faults.{LexFault, MissingDigits, DigitOutOfRange, TrailingUnderscore, IntegerTooLarge, FloatLiteral}

-- the radix of a prefix 0b, 0o or 0x, in either case; 10 without one
abbrev pub radix_of : ℕ → ℕ
radix_of mark =
    if mark == 98 || mark == 66 then 2  -- b or B
    else if mark == 111 || mark == 79 then 8  -- o or O
    else if mark == 120 || mark == 88 then 16  -- x or X
    else 10

-- the radix of the number at the front, by its prefix
abbrev pub radix_at : Text → ℕ
radix_at text = if slice_index text 0 == zero_digit then radix_of (slice_index text 1) else 10

-- a prefix has two bytes, and in radix 10 there is none
abbrev pub prefix_size : ℕ → ℕ
prefix_size radix = if radix == 10 then 0 else 2

-- the bytes that belong to a number: 0 to 9 and _, and in radix 16 also a to f in either case
abbrev pub is_taken : ℕ → ℕ → Bool
is_taken radix b = is_ascii_digit b || b == underscore || (radix == 16 && is_ascii_hexdigit b)

-- how many bytes it takes, after its prefix
abbrev pub taken_len : ℕ → Text → ℕ
taken_len radix text = prefix_len (is_taken radix) text

-- e or E
abbrev pub is_exponent_mark : ℕ → Bool
is_exponent_mark b = b == 101 || b == 69

-- an exponent at the front: e or E, and then a sign or a digit
abbrev pub begins_exponent : Text → Bool
begins_exponent text = is_exponent_mark (slice_index text 0) && (slice_index text 1 == plus_sign || slice_index text 1 == minus_sign || is_ascii_digit (slice_index text 1))

-- What stands after decimal digits makes them a float: e or E; or a dot that no name follows, or an
-- exponent. After a dot a number is an index, which no dot makes a float.
abbrev pub reads_as_float : Bool → Text → Bool
reads_as_float behind_dot text =
    is_exponent_mark (slice_index text 0)
    || (not behind_dot && slice_index text 0 == period && (begins_exponent (drop 1 text) || not (begins_name (chars (drop 1 text)))))

-- the digits without the underscores
abbrev pub digits_of : Text → Text
digits_of taken = filter (λ b. not (b == underscore)) taken

-- each byte is an underscore or a digit of the radix
abbrev pub all_in_radix : ℕ → Text → Bool
all_in_radix radix taken = list_all (λ b. b == underscore || is_digit b radix) taken

-- the value of the bytes that a number takes
abbrev pub taken_value : ℕ → Text → Result ℕ LexFault
taken_value radix taken =
    if length taken == 0 then Err MissingDigits
    else if slice_index taken (length taken - 1) == underscore then Err TrailingUnderscore
    else if not (all_in_radix radix taken) then Err DigitOutOfRange
    else if not (nat_lt (digits_value radix (digits_of taken)) (2 ^ 128)) then Err IntegerTooLarge
    else Ok (digits_value radix (digits_of taken))

-- the value or the fault, and the length beside it
abbrev pub with_length : ℕ → Result ℕ LexFault → Result (ℕ × ℕ) (LexFault × ℕ)
with_length n (Ok value) = Ok (value, n)
with_length n (Err fault) = Err (fault, n)

-- how many bytes a number takes, with its prefix
abbrev pub number_len : Text → ℕ
number_len text = let radix = radix_at text in prefix_size radix + taken_len radix (drop (prefix_size radix) text)

-- a number, where `behind_dot` says whether it stands right after a dot
unfoldable pub number : Bool → Text → Result (ℕ × ℕ) (LexFault × ℕ)
number behind_dot text =
    let radix = radix_at text in
    let n = number_len text in
    if radix == 10 && reads_as_float behind_dot (drop n text) then Err (FloatLiteral, n)
    else with_length n (taken_value radix (slice text (prefix_size radix) n))
