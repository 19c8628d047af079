-- The integers of values: from -2^127 to 2^128 - 1.
use Rattle.std.specs.Prelude.{ℕ, zero, ◌^◌, Bool, true, false, if◌then◌else◌, nat_lt, ℤ, pos, negsuc, neg_ℤ, Option, Some, None}

-- n, or -n where the sign is set
abbrev pub signed : Bool → ℕ → ℤ
signed false n = pos n
signed true n = neg_ℤ (pos n)

-- whether an integer is from -2^127 to 2^128 - 1
abbrev pub is_in_range : ℤ → Bool
is_in_range (pos n) = nat_lt n (2 ^ 128)
is_in_range (negsuc n) = nat_lt n (2 ^ 127)

-- an integer that is in range, or nothing
abbrev pub in_range : ℤ → Option ℤ
in_range z = if is_in_range z then Some z else None

-- whether an integer is 0
abbrev pub is_zero : ℤ → Bool
is_zero (pos zero) = true
is_zero _ = false

-- an integer from 0 to 2^64 - 1, as a count
abbrev pub count_in : ℤ → Option ℕ
count_in (pos n) = if nat_lt n (2 ^ 64) then Some n else None
count_in (negsuc n) = None
