use Rattle.std.proofs.Common.{◌≡◌, ℕ, ◌*◌, ◌<◌, ◌≤◌, ◌^◌, arith, ◌∙◌, subst}
use Rattle.std.proofs.Math.Nat.{mul-le-mul}
use Rattle.std.specs.Prelude.{Option, Some, None}
use Rattle.std.specs.Option.{SomeIff}
use Rattle.minijinja_value.proofs.Powers.{small-pow, even_turn, odd_turn, factor_le, square_le, last_turn}
use Rattle.minijinja_value.proofs.value.integer.power_of.Goals as goal
use Rattle.minijinja_value.proofs.value.integer.power_of.Goals.{then-left-eq1+in_ok-power, else-left-eq1}

-- a number from 2^128 on is no result
too_large : (o : Option ℕ) (n : ℕ) → o ≡ None → (n < 2 ^ 128 → ⊥) → SomeIff o (n < 2 ^ 128) n
too_large None n e h = h
too_large (Some x) n e h = cc

pub returns-then-base-lt2 : goal.returns-then-base-lt2
returns-then-base-lt2 c =
    let same : c.args.base ≡ c.args.base ^ c.args.exponent = small-pow _ _ (omega arith) c.if-base-lt2.true in
    (omega (arith, same), same)

pub returns-in_err-power : goal.returns-in_err-power
returns-in_err-power c =
    let l = c.loop-left in
    let most : l.power * l.square ≤ l.power * l.square ^ l.left = factor_le l.power l.square l.left l.invariant.square_positive l.invariant.more in
    too_large c.from_residual.result (c.args.base ^ c.args.exponent) c.from_residual.ensures (λ small. c.in_err-power.ensures (omega (arith, most, l.invariant.whole)))

pub returns-in_err-square : goal.returns-in_err-square
returns-in_err-square c =
    let l = c.loop-left in
    let most : l.square * l.square ≤ l.power * l.square ^ l.left = square_le l.power l.square l.left l.invariant.power_positive l.invariant.square_positive (omega arith) in
    too_large c.from_residual-in_err-square.result (c.args.base ^ c.args.exponent) c.from_residual-in_err-square.ensures (λ small. c.in_err-square.ensures (omega (arith, most, l.invariant.whole)))

pub loop-left-preserved : goal.loop-left-preserved
loop-left-preserved c =
    let l = c.loop-left in
    let squared : c.in_ok-square.square ≡ l.square * l.square = c.in_ok-square.ensures.1 in
    let square_positive : 1 * 1 ≤ l.square * l.square = mul-le-mul l.invariant.square_positive l.invariant.square_positive in
    elim c.if-left-eq1.branch [
      | then-left-eq1+in_ok-power w ↦
          let product : w.in_ok-power.power ≡ l.power * l.square = w.in_ok-power.ensures.1 in
          let positive : 1 * 1 ≤ l.power * l.square = mul-le-mul l.invariant.power_positive l.invariant.square_positive in
          rw (w.power-is, squared, product) (record {
            whole = odd_turn l.power l.square l.left w.if-left-eq1.true ∙ l.invariant.whole;
            more = omega arith;
            power_positive = omega arith;
            square_positive = omega arith;
          })
      | else-left-eq1 w ↦
          rw (w.power-is, squared) (record {
            whole = even_turn l.power l.square l.left (omega (arith, w.if-left-eq1.false)) ∙ l.invariant.whole;
            more = omega arith;
            power_positive = l.invariant.power_positive;
            square_positive = omega arith;
          })
    ]

pub returns : goal.returns
returns c =
    let l = c.loop-left in
    let whole : l.power * l.square ≡ c.args.base ^ c.args.exponent = last_turn l.power l.square l.left (omega arith) ∙ l.invariant.whole in
    subst (λ (n : ℕ). SomeIff c.checked_mul-2.result (n < 2 ^ 128) n) whole c.checked_mul-2.ensures
