use Rattle.std.proofs.Common.{subst}
use Rattle.minijinja_tree.specs.SpannedErasure.{expr_node, optional_of}
use Rattle.minijinja_meta.specs.Mentions.{through_if_any, to_target}
use Rattle.minijinja_meta.specs.private.Walked.{Walks}
use Rattle.minijinja_meta.proofs.ExprWays.{copied-is}
use Rattle.minijinja_meta.proofs.Walking.{then-walks}
use Rattle.minijinja_meta.proofs.statements.kept.Goals as goal

pub returns : goal.returns
returns g c =
    let v = g.V.TemplateValue.contents in
    let n = c.args.block.now in
    let first : Walks v c.args.walker.now c.if_any.new.walker (through_if_any (optional_of v n.filter)) =
    subst (λ o. Walks v c.args.walker.now c.if_any.new.walker (through_if_any o)) (copied-is v c.as_ref.result n.filter c.as_ref.ensures.value) c.in_ok-if_any.ensures in
    then-walks v c.target.result c.args.walker.now c.if_any.new.walker c.target.new.walker (through_if_any (optional_of v n.filter)) (to_target (expr_node v n.target)) first c.target.ensures
