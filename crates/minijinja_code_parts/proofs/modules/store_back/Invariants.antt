use Rattle.std.proofs.Common.{◌≡◌, length}
use Rattle.minijinja_tree.specs.Erasure.{names_of}
use Rattle.minijinja_tree.specs.SpannedErasure as node
use Rattle.minijinja_tree.specs.WellFormed.{AreNames}
use Rattle.minijinja_semantics.specs.Layout.{storing_back}
use Rattle.minijinja_semantics.specs.Marks as marks
use Rattle.minijinja_emitter.specs.internal.AtEmitter.{made_of, margin_of}
use Rattle.minijinja_code_expr.proofs.InOrder.{Leads}
use Rattle.minijinja_code_parts.specs.internal.Macros.{left_of}
use Rattle.minijinja_code_parts.proofs.modules.store_back.Given as goal

abbrev pub invariant-loop-left : goal.invariant-loop-left
invariant-loop-left g l =
    let v = g.V.TemplateValue.contents in
    let f = g.V.TemplateValue.functions in
    record {
      names : AreNames (names_of v (left_of l.left));
      marked : marks.storing_back f (node.names_of v (left_of l.left)) (margin_of l.code) ≡ marks.storing_back f (node.names_of v l.fn.names) (margin_of l.fn.code);
      leads : Leads (made_of v l.fn.code) (made_of v l.code) (storing_back f (names_of v (left_of l.left))) (storing_back f (names_of v l.fn.names));
    }

abbrev pub decreases-loop-left : goal.decreases-loop-left
decreases-loop-left g l = length (left_of l.left)
