use Rattle.std.proofs.Common.{rules, ◌≡◌, ◌∙◌, ◌+◌, ◌-◌, ap, arith, drop, length, length-drop, take}
use Rattle.std.proofs.lemmas.List.{take_rest}
use Rattle.minijinja_syntax.specs.Texts.{Text}
use Rattle.minijinja_lexer.proofs.Pairs.{first_is, none_at_all, none_here, none_up_to, pair_here}
use Rattle.minijinja_lexer.proofs.find.find_pair.Goals as goal
use Rattle.minijinja_lexer.proofs.find.find_pair.Goals.{else-place-haystack-via-then-place-haystack+else-haystack-place, else-place-haystack-via-else-place-haystack}

pub returns-then-haystack-place : goal.returns-then-haystack-place
returns-then-haystack-place c =
    let hay = c.args.haystack.now in
    let at = c.loop-ahead.place in
    let rest : Text = take (length hay - at) (drop at hay) in
    let first = first_is hay c.args.first c.args.second rest at (take_rest hay at) c.in-Some.ahead c.in-Some.ensures.1 in (
      record {
        low = omega arith;
        high = omega (arith, c.if-place-haystack.true);
        before = none_up_to hay c.args.first c.args.second rest at (take_rest hay at) c.in-Some.ahead c.loop-ahead.invariant.1 c.in-Some.ensures.0;
      },
      pair_here hay c.args.first c.args.second (at + c.in-Some.ahead) (omega (arith, c.if-place-haystack.true)) first (search (rules, c.if-haystack-place.true)),
    )

pub loop-ahead-preserved : goal.loop-ahead-preserved
loop-ahead-preserved c =
    let hay = c.args.haystack.now in
    let at = c.loop-ahead.place in
    let rest : Text = take (length hay - at) (drop at hay) in
    let l : length rest ≡ length hay - at = ap length (take_rest hay at) ∙ length-drop at hay in (
      omega (arith, l, c.in-Some.ensures.0.high, c.loop-ahead.invariant.0),
      none_here hay c.args.first c.args.second (at + c.in-Some.ahead)
          (none_up_to hay c.args.first c.args.second rest at (take_rest hay at) c.in-Some.ahead c.loop-ahead.invariant.1 c.in-Some.ensures.0)
          (λ within second. elim c.else-place-haystack.branch [
            | else-place-haystack-via-then-place-haystack+else-haystack-place w ↦ grind (arith, second, w.if-haystack-place.false)
            | else-place-haystack-via-else-place-haystack w ↦ omega (arith, within, w.if-place-haystack.false)
          ]),
    )

pub returns : goal.returns
returns c =
    let hay = c.args.haystack.now in
    let at = c.loop-ahead.place in
    let rest : Text = take (length hay - at) (drop at hay) in
    none_at_all hay c.args.first c.args.second rest at (take_rest hay at) c.loop-ahead.invariant.1 c.in_default.ensures
