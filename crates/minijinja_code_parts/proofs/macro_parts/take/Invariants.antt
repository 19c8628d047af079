use Rattle.std.proofs.Common.{◌≡◌, length, map}
use Rattle.std.specs.Prelude.{reverse}
use Rattle.minijinja_tree.specs.Erasure.{expr_tree}
use Rattle.minijinja_tree.specs.SpannedErasure.{trees}
use Rattle.minijinja_tree.specs.Tree.{parameters}
use Rattle.minijinja_tree.specs.WellFormed.{AreAllWhole, AreVariables}
use Rattle.minijinja_semantics.specs.Layout.{taking}
use Rattle.minijinja_semantics.specs.Marks as marks
use Rattle.minijinja_emitter.specs.internal.AtEmitter.{made_of, margin_of}
use Rattle.minijinja_code_expr.proofs.InOrder.{Leads}
use Rattle.minijinja_code_parts.specs.internal.Macros.{left_of}
use Rattle.minijinja_code_parts.proofs.macro_parts.take.Given as goal

abbrev pub invariant-loop-left : goal.invariant-loop-left
invariant-loop-left g l =
    let v = g.V.TemplateValue.contents in
    let f = g.V.TemplateValue.functions in
    record {
      args : AreVariables (map (expr_tree v) (left_of l.left));
      defaults : AreAllWhole (map (expr_tree v) (left_of l.default));
      marked : marks.taking f (reverse (trees v (left_of l.left))) (reverse (trees v (left_of l.default))) (margin_of l.code) ≡ marks.taking f (reverse (trees v l.fn.args)) (reverse (trees v l.fn.defaults)) (margin_of l.fn.code);
      leads : Leads (made_of v l.fn.code) (made_of v l.code) (taking f (parameters (map (expr_tree v) (left_of l.left)) (map (expr_tree v) (left_of l.default)))) (taking f (parameters (map (expr_tree v) l.fn.args) (map (expr_tree v) l.fn.defaults)));
    }

abbrev pub decreases-loop-left : goal.decreases-loop-left
decreases-loop-left g l = length (left_of l.left)
