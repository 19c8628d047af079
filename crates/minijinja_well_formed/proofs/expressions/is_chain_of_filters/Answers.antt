use Rattle.std.proofs.Common.{sym, ap, ◌∙◌}
use Rattle.minijinja_tree_expr.specs.Erasure.{args_of}
use Rattle.minijinja_well_formed.specs.private.ExpressionTests.{takes_arguments}
use Rattle.minijinja_well_formed.proofs.FilterChains.{chain-ends, chain-fails, chain-goes-on, chain-smaller}
use Rattle.minijinja_well_formed.proofs.expressions.is_chain_of_filters.Goals as goal

pub returns-in_default-filter_of : goal.returns-in_default-filter_of
returns-in_default-filter_of g c =
    chain-ends g.V.TemplateValue.contents c.args.expr.now c.loop-rest.rest c.in-Some.part c.loop-rest.invariant c.in-Some.is c.filter_of.result c.in_default-filter_of.not-Some c.filter_of.ensures.filter

pub returns-then-not-are_arguments : goal.returns-then-not-are_arguments
returns-then-not-are_arguments g c =
    let v = g.V.TemplateValue.contents in
    chain-fails v c.args.expr.now c.loop-rest.rest c.in-Some.part c.loop-rest.invariant c.in-Some.is c.filter_of.result c.in-Some-filter_of.filter c.in-Some-filter_of.is c.filter_of.ensures.filter
    (sym c.if-not-are_arguments.true ∙ c.are_arguments.ensures ∙ ap (λ xs. takes_arguments (args_of v xs)) c.deref.ensures.value)

pub loop-rest-preserved : goal.loop-rest-preserved
loop-rest-preserved g c =
    let v = g.V.TemplateValue.contents in
    chain-goes-on v c.args.expr.now c.loop-rest.rest c.in-Some.part c.loop-rest.invariant c.in-Some.is c.filter_of.result c.in-Some-filter_of.filter c.in-Some-filter_of.is c.filter_of.ensures.filter
    c.as_ref-rest.result
    (sym c.if-not-are_arguments.false ∙ c.are_arguments.ensures ∙ ap (λ xs. takes_arguments (args_of v xs)) c.deref.ensures.value)
    c.as_ref-rest.ensures.value

pub loop-rest-smaller : goal.loop-rest-smaller
loop-rest-smaller g c =
    chain-smaller g.V.TemplateValue.contents c.args.expr.now c.loop-rest.rest c.in-Some.part c.loop-rest.invariant c.in-Some.is c.filter_of.result c.in-Some-filter_of.filter c.in-Some-filter_of.is c.filter_of.ensures.filter
    c.as_ref-rest.result c.as_ref-rest.ensures.value c.filter_of.ensures.smaller
