use Rattle.std.proofs.Common.{◌≡◌, ◌≤◌, ◌+◌, ◌*◌, arith, ap, sym, get_or}
use Rattle.std.specs.Char.{digit_value}
use Rattle.std.specs.Str.Parse.{digits_value}
use Rattle.minijinja_lexer.specs.Numbers.{digits_of}
use Rattle.minijinja_lexer.proofs.Digits.{value_so_far, value_whole}
use Rattle.minijinja_lexer.proofs.number.value_of.Goals as goal

pub returns-in_err-checked_mul : goal.returns-in_err-checked_mul
returns-in_err-checked_mul c = rw c.from_residual.ensures
    (λ fits.
    let so_far : c.loop-b.value * c.args.radix + digit_value (get_or c.args.taken.now c.loop-b.b-index 0) ≤ digits_value c.args.radix (digits_of c.args.taken.now) =
    value_so_far c.args.radix c.loop-b.value c.loop-b.b-index c.args.taken.now c.requires.some c.loop-b-test.true c.if-b-ne95.true c.loop-b.invariant.1 in
    let product : c.loop-b.value * c.from.result ≡ c.loop-b.value * c.args.radix = ap (λ r. c.loop-b.value * r) c.from.ensures in
    c.in_err-checked_mul.ensures {u = tt} (omega (arith, so_far, product, fits)))

pub returns-in_err-value : goal.returns-in_err-value
returns-in_err-value c = rw c.from_residual-in_err-value.ensures
    (λ fits.
    let so_far : c.loop-b.value * c.args.radix + digit_value (get_or c.args.taken.now c.loop-b.b-index 0) ≤ digits_value c.args.radix (digits_of c.args.taken.now) =
    value_so_far c.args.radix c.loop-b.value c.loop-b.b-index c.args.taken.now c.requires.some c.loop-b-test.true c.if-b-ne95.true c.loop-b.invariant.1 in
    let product : c.loop-b.value * c.from.result ≡ c.loop-b.value * c.args.radix = ap (λ r. c.loop-b.value * r) c.from.ensures in
    omega (arith, so_far, product, fits))

pub returns : goal.returns
returns c =
    let whole : digits_value c.args.radix (digits_of c.args.taken.now) ≡ c.loop-b.value = value_whole c.args.radix c.loop-b.value c.loop-b.b-index c.args.taken.now c.loop-b-test.false c.loop-b.invariant.1 in
    (omega (arith, whole, c.loop-b.invariant.0), sym whole)
