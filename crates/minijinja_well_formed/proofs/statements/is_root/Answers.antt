use Rattle.std.proofs.Common.{false, map, sym, ap, ◌∙◌}
use Rattle.minijinja_tree.specs.Erasure.{stmt_tree}
use Rattle.minijinja_tree.specs.Tree.{template, stmts_of}
use Rattle.minijinja_well_formed.specs.private.StatementTests.{is_root, are_inner}
use Rattle.minijinja_tree.proofs.Rows.{template_is}
use Rattle.minijinja_well_formed.proofs.statements.is_root.Goals as goal

pub returns-in-Template : goal.returns-in-Template
returns-in-Template g c =
    let v = g.V.TemplateValue.contents in
    c.are_inner.ensures
    ∙ ap (λ xs. are_inner false false (stmts_of (map (stmt_tree v) xs))) c.deref.ensures.value
    ∙ ap (λ n. is_root (template (stmts_of (map (stmt_tree v) n.children.items)))) c.node.ensures
    ∙ ap is_root (sym (template_is v c.in-Template.template))
    ∙ ap (λ s. is_root (stmt_tree v s)) (sym c.in-Template.is)
