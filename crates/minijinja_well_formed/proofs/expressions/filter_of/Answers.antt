use Rattle.std.proofs.Common.{sym, ap, ◌∙◌}
use Rattle.minijinja_tree_expr.specs.Erasure.{expr_tree}
use Rattle.minijinja_well_formed.specs.private.FilterParts.{filter_tree, only_filter}
use Rattle.minijinja_tree_expr.proofs.SpannedNodes.{filter_is}
use Rattle.minijinja_well_formed.proofs.FilterChains.{compare-filter}
use Rattle.minijinja_well_formed.proofs.expressions.filter_of.Goals as goal

pub returns-in-Filter-clause-filter : goal.returns-in-Filter-clause-filter
returns-in-Filter-clause-filter g c =
    let v = g.V.TemplateValue.contents in
    ap (λ n. only_filter (filter_tree v n)) c.node.ensures ∙ ap only_filter (sym (filter_is v c.in-Filter.filter)) ∙ ap (λ e. only_filter (expr_tree v e)) (sym c.in-Filter.is)

pub returns-in-Compare-clause-filter : goal.returns-in-Compare-clause-filter
returns-in-Compare-clause-filter g c =
    let v = g.V.TemplateValue.contents in
    sym (ap (λ e. only_filter (expr_tree v e)) c.in-Compare.is ∙ compare-filter {F = g.row.V-Fault.Denot} v c.in-Compare.field-0.place.value.node)
