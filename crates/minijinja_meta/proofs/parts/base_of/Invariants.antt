use Rattle.minijinja_tree_expr.specs.Sizes.{size_of}
use Rattle.minijinja_meta.proofs.Descending.{Based}
use Rattle.minijinja_meta.proofs.parts.base_of.Given as goal

abbrev pub invariant-loop-part : goal.invariant-loop-part
invariant-loop-part g l = Based g.V.TemplateValue.contents l.chain l.part

abbrev pub decreases-loop-part : goal.decreases-loop-part
decreases-loop-part g l = size_of l.part
