-- The way through a tree with spans, without its spans, is that through the tree without them.
use Rattle.std.proofs.Common.{ap, ◌∙◌}
use Rattle.minijinja_tree.specs.FreeNames.{free, in_order}
use Rattle.minijinja_tree.specs.SpannedErasure.{stmt_node}
use Rattle.minijinja_tree.proofs.Bare.{stmt_is}
use Rattle.minijinja_meta.specs.Mentions.{end, way}
use Rattle.minijinja_meta.proofs.Bare as ways
use Rattle.minijinja_meta.proofs.Bare.{free_names}
use Rattle.minijinja_semantics.specs.Needs.{undeclared}
use Rattle.minijinja_compiler.proofs.laws.plain_names_are_undeclared.Goals as goal

pub returns : goal.returns
returns g c s =
    let v = g.V.TemplateValue.contents in
    let t = stmt_node v s in
    ap in_order (free_names (way t) ∙ ap free (ways.stmt_is t end)) ∙ ap undeclared (stmt_is v s)
