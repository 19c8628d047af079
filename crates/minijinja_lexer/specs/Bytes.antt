-- Names for bytes that have a meaning inside a tag.
use Rattle.std.specs.Prelude.{ℕ}

-- `-`
abbrev pub minus_sign : ℕ
minus_sign = 45

-- `+`
abbrev pub plus_sign : ℕ
plus_sign = 43

-- `.`
abbrev pub period : ℕ
period = 46

-- `_`
abbrev pub underscore : ℕ
underscore = 95

-- `0`
abbrev pub zero_digit : ℕ
zero_digit = 48

-- `u`
abbrev pub letter_u : ℕ
letter_u = 117
