use Rattle.std.proofs.Common.{refl, sym, ap, ◌∙◌}
use Rattle.minijinja_tree_expr.specs.Nodes.{span_of}
use Rattle.minijinja_tree_expr.proofs.NodeRows.{list_is}
use Rattle.minijinja_tree.specs.SpannedErasure.{expr_node, trees}
use Rattle.minijinja_tree.specs.SpannedTrees.{exprs_of, list}
use Rattle.minijinja_grammar.specs.internal.StmtForms.{are_storable, is_storable}
use Rattle.minijinja_parser_expr.proofs.Storables.{not-storable}
use Rattle.minijinja_parser_expr.proofs.storable.+storable.Goals as goal

pub is_storable-returns-in-List : goal.is_storable-returns-in-List
is_storable-returns-in-List g t c =
    let v = g.V.TemplateValue.contents in
    let s = span_of c.in-List.list in
    c.are_storable.ensures ∙ ap (λ xs. are_storable (exprs_of (trees v xs))) c.deref.ensures.value
    ∙ ap (λ n. is_storable (list (exprs_of (trees v n.items.items)) s)) c.node.ensures
    ∙ ap is_storable (sym (list_is v c.in-List.list _ _ refl refl))
    ∙ ap (λ e. is_storable (expr_node v e)) (sym c.in-List.is)

pub is_storable-returns-in_default : goal.is_storable-returns-in_default
is_storable-returns-in_default g t c =
    not-storable {F = g.row.V-Fault.Denot} g.V.TemplateValue.contents c.args.expr.now c.in_default.not-Var c.in_default.not-GetAttr c.in_default.not-List
