use Rattle.std.proofs.Common.{◌≡◌, ◌<◌, ◌^◌, drop}
use Rattle.std.specs.Str.Parse.{digits_value, digits_value_after}
use Rattle.minijinja_lexer.specs.Numbers.{digits_of}
use Rattle.minijinja_lexer.proofs.number.value_of.Given as goal

abbrev pub invariant-loop-b : goal.invariant-loop-b
invariant-loop-b l = (l.value < 2 ^ 128) × (digits_value l.radix (digits_of l.taken) ≡ digits_value_after l.radix l.value (digits_of (drop l.b-index l.taken)))
