use Rattle.std.proofs.Common.{sym, subst}
use Rattle.minijinja_tree.specs.SpannedErasure.{expr_node, optional_of}
use Rattle.minijinja_meta.specs.Mentions.{through, to_target, to_filter}
use Rattle.minijinja_meta.specs.private.Walked.{Walks}
use Rattle.minijinja_meta.proofs.Walking.{walks-on, region-ends}
use Rattle.minijinja_meta.proofs.statements.filtered.Goals as goal

pub returns : goal.returns
returns g c =
    let v = g.V.TemplateValue.contents in
    let target = expr_node v c.args.repeated.now.target in
    let condition = expr_node v c.in-Some.condition in
    let both = walks-on v c.args.walker.now c.target.new.walker c.expression.new.walker (to_target target) (through condition) c.in_ok-target.ensures c.in_ok-expression.ensures in
    subst (λ o. Walks v c.args.walker.now c.end.new.self (to_filter target (optional_of v o))) (sym c.in-Some.is)
    (region-ends v c.args.walker.now c.expression.new.walker c.end.new.self (λ w. to_target target (through condition w)) c.mark-mark.result both c.mark-mark.ensures c.end.ensures)
