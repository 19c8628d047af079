use Rattle.std.proofs.Common.{◌≡◌, map}
use Rattle.std.specs.Prelude.{reverse}
use Rattle.minijinja_tree.specs.SpannedErasure.{expr_node}
use Rattle.minijinja_tree_expr.specs.Sizes.{size_of}
use Rattle.minijinja_meta.specs.Mentions.{attributes_before, attributes_of}
use Rattle.minijinja_meta.proofs.mentions.attributes.Given as goal

-- the attributes that are left stand before those that were found
abbrev pub invariant-loop-part : goal.invariant-loop-part
invariant-loop-part g l =
    let c = g.V.TemplateValue.contents in
    attributes_of (expr_node c l.chain) ≡ attributes_before (expr_node c l.part) (reverse (map (λ x. x.now) l.attributes.items))

abbrev pub decreases-loop-part : goal.decreases-loop-part
decreases-loop-part g l = size_of l.part
