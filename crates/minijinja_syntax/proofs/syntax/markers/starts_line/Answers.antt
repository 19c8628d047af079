use Rattle.std.proofs.Common.{◌≡◌, sym, ap, ◌∙◌, arith}
use Rattle.minijinja_syntax.specs.Markers.{starts_line}
use Rattle.minijinja_syntax.proofs.LineStarts.{starts_line-blank_before, starts_line-other_before, starts_line-first}
use Rattle.minijinja_syntax.proofs.syntax.markers.starts_line.Goals as goal

pub returns-then-not-is_blank : goal.returns-then-not-is_blank
returns-then-not-is_blank c =
    let some = c.loop-start-test.true in
    let within = c.loop-start.invariant.1 in
    let most = c.requires in
    c.is_line_end.ensures
    ∙ sym (starts_line-other_before c.args.text.now c.loop-start.start some (omega (arith, within, most)) (sym c.is_blank.ensures ∙ c.if-not-is_blank.true))
    ∙ c.loop-start.invariant.0

pub loop-start-preserved : goal.loop-start-preserved
loop-start-preserved c =
    let some = c.loop-start-test.true in
    let within = c.loop-start.invariant.1 in
    let most = c.requires in
    (sym (starts_line-blank_before c.args.text.now c.loop-start.start some (omega (arith, within, most)) (sym c.is_blank.ensures ∙ c.if-not-is_blank.false)) ∙ c.loop-start.invariant.0, omega arith)

pub returns : goal.returns
returns c =
    let none = c.loop-start-test.false in
    let first : 0 ≡ c.loop-start.start = omega (arith, none) in
    sym (starts_line-first c.args.text.now) ∙ ap (starts_line c.args.text.now) first ∙ c.loop-start.invariant.0
