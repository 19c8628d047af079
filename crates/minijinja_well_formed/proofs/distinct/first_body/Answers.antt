use Rattle.std.proofs.Common.{sym, ap, ◌∙◌}
use Rattle.minijinja_tree.specs.Tree.{template, for_loop, if_cond, with_block, set_block, auto_escape, filter_block, named_block, declare}
use Rattle.minijinja_tree.specs.Erasure.{expr_tree, optional_of, assignments_of, macro_tree, stmt_tree}
use Rattle.minijinja_well_formed.specs.private.BlockNames.{first_body, macro_body}
use Rattle.minijinja_tree.proofs.Rows.{body_of, macro_in, template_is, for_loop_is, if_cond_is, with_block_is, set_block_is, auto_escape_is, filter_block_is, block_is, declare_is, call_block_is}
use Rattle.minijinja_well_formed.proofs.distinct.first_body.Goals as goal

pub returns-in-Template-clause-body : goal.returns-in-Template-clause-body
returns-in-Template-clause-body g c =
    let v = g.V.TemplateValue.contents in
    ap (body_of v) c.as_slice.ensures.value ∙ ap (λ n. first_body (template (body_of v n.children.items))) c.node.ensures
    ∙ ap first_body (sym (template_is v c.in-Template.template)) ∙ ap (λ s. first_body (stmt_tree v s)) (sym c.in-Template.is)

pub returns-in-ForLoop-clause-body : goal.returns-in-ForLoop-clause-body
returns-in-ForLoop-clause-body g c =
    let v = g.V.TemplateValue.contents in
    ap (body_of v) c.as_slice-in-ForLoop.ensures.value ∙ ap (λ n. first_body (for_loop tt (expr_tree v n.target) (expr_tree v n.iter) (optional_of v n.filter_expr) n.recursive (body_of v n.body.items) (body_of v n.else_body.items))) c.node-in-ForLoop.ensures
    ∙ ap first_body (sym (for_loop_is v c.in-ForLoop.repeated)) ∙ ap (λ s. first_body (stmt_tree v s)) (sym c.in-ForLoop.is)

pub returns-in-IfCond-clause-body : goal.returns-in-IfCond-clause-body
returns-in-IfCond-clause-body g c =
    let v = g.V.TemplateValue.contents in
    ap (body_of v) c.as_slice-in-IfCond.ensures.value ∙ ap (λ n. first_body (if_cond (expr_tree v n.expr) (body_of v n.true_body.items) (body_of v n.false_body.items))) c.node-in-IfCond.ensures
    ∙ ap first_body (sym (if_cond_is v c.in-IfCond.condition)) ∙ ap (λ s. first_body (stmt_tree v s)) (sym c.in-IfCond.is)

pub returns-in-WithBlock-clause-body : goal.returns-in-WithBlock-clause-body
returns-in-WithBlock-clause-body g c =
    let v = g.V.TemplateValue.contents in
    ap (body_of v) c.as_slice-in-WithBlock.ensures.value ∙ ap (λ n. first_body (with_block (assignments_of v n.assignments.items) (body_of v n.body.items))) c.node-in-WithBlock.ensures
    ∙ ap first_body (sym (with_block_is v c.in-WithBlock.block)) ∙ ap (λ s. first_body (stmt_tree v s)) (sym c.in-WithBlock.is)

pub returns-in-SetBlock-clause-body : goal.returns-in-SetBlock-clause-body
returns-in-SetBlock-clause-body g c =
    let v = g.V.TemplateValue.contents in
    ap (body_of v) c.as_slice-in-SetBlock.ensures.value ∙ ap (λ n. first_body (set_block (expr_tree v n.target) (optional_of v n.filter) (body_of v n.body.items))) c.node-in-SetBlock.ensures
    ∙ ap first_body (sym (set_block_is v c.in-SetBlock.block)) ∙ ap (λ s. first_body (stmt_tree v s)) (sym c.in-SetBlock.is)

pub returns-in-AutoEscape-clause-body : goal.returns-in-AutoEscape-clause-body
returns-in-AutoEscape-clause-body g c =
    let v = g.V.TemplateValue.contents in
    ap (body_of v) c.as_slice-in-AutoEscape.ensures.value ∙ ap (λ n. first_body (auto_escape (expr_tree v n.enabled) (body_of v n.body.items))) c.node-in-AutoEscape.ensures
    ∙ ap first_body (sym (auto_escape_is v c.in-AutoEscape.block)) ∙ ap (λ s. first_body (stmt_tree v s)) (sym c.in-AutoEscape.is)

pub returns-in-FilterBlock-clause-body : goal.returns-in-FilterBlock-clause-body
returns-in-FilterBlock-clause-body g c =
    let v = g.V.TemplateValue.contents in
    ap (body_of v) c.as_slice-in-FilterBlock.ensures.value ∙ ap (λ n. first_body (filter_block (expr_tree v n.filter) (body_of v n.body.items))) c.node-in-FilterBlock.ensures
    ∙ ap first_body (sym (filter_block_is v c.in-FilterBlock.block)) ∙ ap (λ s. first_body (stmt_tree v s)) (sym c.in-FilterBlock.is)

pub returns-in-Block-clause-body : goal.returns-in-Block-clause-body
returns-in-Block-clause-body g c =
    let v = g.V.TemplateValue.contents in
    ap (body_of v) c.as_slice-in-Block.ensures.value ∙ ap (λ n. first_body (named_block n.name.now n.required (body_of v n.body.items))) c.node-in-Block.ensures
    ∙ ap first_body (sym (block_is v c.in-Block.block)) ∙ ap (λ s. first_body (stmt_tree v s)) (sym c.in-Block.is)

pub returns-in-Macro-clause-body : goal.returns-in-Macro-clause-body
returns-in-Macro-clause-body g c =
    let v = g.V.TemplateValue.contents in
    ap (body_of v) c.as_slice-in-Macro.ensures.value ∙ ap (λ n. first_body (declare (macro_tree v n))) c.node-in-Macro.ensures
    ∙ ap first_body (sym (declare_is v c.in-Macro.declared)) ∙ ap (λ s. first_body (stmt_tree v s)) (sym c.in-Macro.is)

pub returns-in-CallBlock-clause-body : goal.returns-in-CallBlock-clause-body
returns-in-CallBlock-clause-body g c =
    let v = g.V.TemplateValue.contents in
    ap (body_of v) c.as_slice-in-CallBlock.ensures.value ∙ ap (λ n. macro_body (macro_tree v n)) c.node-in-CallBlock-2.ensures
    ∙ ap (λ n. macro_body (macro_tree v (macro_in n))) c.node-in-CallBlock.ensures
    ∙ ap first_body (sym (call_block_is v c.in-CallBlock.block)) ∙ ap (λ s. first_body (stmt_tree v s)) (sym c.in-CallBlock.is)
