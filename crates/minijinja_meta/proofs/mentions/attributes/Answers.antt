use Rattle.std.proofs.Common.{map, ◌∙◌}
use Rattle.std.specs.Prelude.{reverse}
use Rattle.minijinja_tree.specs.SpannedErasure.{expr_node}
use Rattle.minijinja_meta.proofs.Descending.{base-attributes, not-attribute}
use Rattle.minijinja_meta.proofs.mentions.attributes.Goals as goal

pub returns : goal.returns
returns g c =
    let v = g.V.TemplateValue.contents in
    c.loop-part.invariant
    ∙ base-attributes (expr_node v c.loop-part.part.now) (reverse (map (λ x. x.now) c.loop-part.attributes.items)) (not-attribute {F = g.row.V-Fault.Denot} v c.loop-part.part.now c.in_default.not-GetAttr)
