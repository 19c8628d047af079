use Rattle.std.proofs.Common.{refl, sym, subst, ◌∙◌}
use Rattle.minijinja_tree.specs.Nodes.{node_of, span_of}
use Rattle.minijinja_tree.specs.WellFormed.{IsChainOfFilters}
use Rattle.minijinja_tree_expr.proofs.SpannedNodes.{compare_is}
use Rattle.minijinja_code_expr.proofs.Arms.{compare_arm, filter_arm}
use Rattle.minijinja_code_expr.proofs.NodeArms.{spanned_filter}
use Rattle.minijinja_code_expr.proofs.filters.filter_of.Goals as goal

pub unreachable-requires-in-Compare : goal.unreachable-requires-in-Compare
unreachable-requires-in-Compare g c =
    let v = g.V.TemplateValue.contents in
    let n = node_of c.in-Compare.field-0 in
    subst (λ e. IsChainOfFilters e) (compare_arm v c.args.chain.now c.in-Compare.field-0 n c.in-Compare.is refl ∙ compare_is v n) c.requires

pub returns-clause-filter : goal.returns-clause-filter
returns-clause-filter g c =
    sym (filter_arm g.V.TemplateValue.contents c.args.chain.now c.in-Filter.filter (node_of c.in-Filter.filter) c.in-Filter.is refl)

pub returns-clause-node : goal.returns-clause-node
returns-clause-node g c =
    let s = c.in-Filter.filter in
    sym (spanned_filter g.V.TemplateValue.contents c.args.chain.now s (node_of s) (span_of s) c.in-Filter.is refl refl)
