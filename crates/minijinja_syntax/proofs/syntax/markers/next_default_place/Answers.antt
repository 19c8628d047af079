use Rattle.std.proofs.Common.{◌+◌, sym, ap, ◌∙◌, arith, length}
use Rattle.std.specs.Prelude.{is_some}
use Rattle.minijinja_syntax.proofs.Braces.{next_brace-within, next_marker-to_brace, next_marker-without_brace}
use Rattle.minijinja_syntax.proofs.Walking.{next_marker-on, next_marker-here, next_marker-over}
use Rattle.minijinja_syntax.proofs.syntax.markers.next_default_place.Goals as goal

pub returns-then-is_some-clause-place : goal.returns-then-is_some-clause-place
returns-then-is_some-clause-place c s built starts =
    let place = c.loop-ahead.place in
    let ahead = c.in-Some.ahead in
    sym (next_marker-here s c.args.text.now (place + ahead) (ap is_some (sym (c.default_marker_at.ensures s built starts)) ∙ sym c.is_some.ensures ∙ c.if-is_some.true))
    ∙ sym (next_marker-to_brace s c.args.text.now place ahead starts c.loop-ahead.invariant.2 c.in-Some.ensures.0)
    ∙ c.loop-ahead.invariant.0 s built starts

pub loop-ahead-preserved : goal.loop-ahead-preserved
loop-ahead-preserved c =
    let place = c.loop-ahead.place in
    let ahead = c.in-Some.ahead in
    let within = next_brace-within c.args.text.now place ahead c.in-Some.ensures.0.high in
    let ordered = c.loop-ahead.invariant.1 in (
      λ s built starts.
          sym (next_marker-on s c.args.text.now (place + ahead) within (ap is_some (sym (c.default_marker_at.ensures s built starts)) ∙ sym c.is_some.ensures ∙ c.if-is_some.false))
          ∙ sym (next_marker-to_brace s c.args.text.now place ahead starts c.loop-ahead.invariant.2 c.in-Some.ensures.0)
          ∙ c.loop-ahead.invariant.0 s built starts,
      omega (arith, ordered),
      omega (arith, within),
    )

pub returns-clause-place : goal.returns-clause-place
returns-clause-place c s built starts =
    sym (next_marker-over s c.args.text.now (length c.args.text.now) (omega arith))
    ∙ next_marker-without_brace s c.args.text.now c.loop-ahead.place starts c.loop-ahead.invariant.2 c.in_default.ensures
    ∙ c.loop-ahead.invariant.0 s built starts
