use Rattle.std.proofs.Common.{false, sym, ap, ◌∙◌}
use Rattle.std.specs.Prelude.{◌&&◌}
use Rattle.minijinja_tree.specs.Tree.{for_loop, if_cond, with_block, set_block, auto_escape, filter_block, named_block}
use Rattle.minijinja_tree.specs.Erasure.{expr_tree, optional_of, assignments_of, macro_tree, stmt_tree}
use Rattle.minijinja_well_formed.specs.private.StatementTests.{has_bodies, has_macro_body, are_inner}
use Rattle.minijinja_tree.proofs.Rows.{body_of, for_loop_is, if_cond_is, with_block_is, set_block_is, auto_escape_is, filter_block_is, block_is, declare_is, macro_in, call_block_is}
use Rattle.minijinja_well_formed.proofs.InnerSides.{inner-sides}
use Rattle.minijinja_well_formed.proofs.statements.+inner.Goals as goal

pub has_bodies-returns-in-ForLoop : goal.has_bodies-returns-in-ForLoop
has_bodies-returns-in-ForLoop g t c =
    let v = g.V.TemplateValue.contents in
    let l = c.args.in_loop in
    let m = c.args.in_macro in
    c.has_loop_bodies.ensures
    ∙ ap (λ n. has_bodies l m (for_loop tt (expr_tree v n.target) (expr_tree v n.iter) (optional_of v n.filter_expr) n.recursive (body_of v n.body.items) (body_of v n.else_body.items))) c.node.ensures
    ∙ ap (has_bodies l m) (sym (for_loop_is v c.in-ForLoop.repeated))
    ∙ ap (λ s. has_bodies l m (stmt_tree v s)) (sym c.in-ForLoop.is)

pub has_bodies-returns-in-IfCond : goal.has_bodies-returns-in-IfCond
has_bodies-returns-in-IfCond g t c =
    let v = g.V.TemplateValue.contents in
    let l = c.args.in_loop in
    let m = c.args.in_macro in
    c.has_branches.ensures
    ∙ ap (λ n. has_bodies l m (if_cond (expr_tree v n.expr) (body_of v n.true_body.items) (body_of v n.false_body.items))) c.node-in-IfCond.ensures
    ∙ ap (has_bodies l m) (sym (if_cond_is v c.in-IfCond.condition))
    ∙ ap (λ s. has_bodies l m (stmt_tree v s)) (sym c.in-IfCond.is)

pub has_bodies-returns-in-WithBlock : goal.has_bodies-returns-in-WithBlock
has_bodies-returns-in-WithBlock g t c =
    let v = g.V.TemplateValue.contents in
    let l = c.args.in_loop in
    let m = c.args.in_macro in
    c.are_inner.ensures ∙ ap (λ xs. are_inner l m (body_of v xs)) c.deref.ensures.value
    ∙ ap (λ n. has_bodies l m (with_block (assignments_of v n.assignments.items) (body_of v n.body.items))) c.node-in-WithBlock.ensures
    ∙ ap (has_bodies l m) (sym (with_block_is v c.in-WithBlock.block))
    ∙ ap (λ s. has_bodies l m (stmt_tree v s)) (sym c.in-WithBlock.is)

pub has_bodies-returns-in-SetBlock : goal.has_bodies-returns-in-SetBlock
has_bodies-returns-in-SetBlock g t c =
    let v = g.V.TemplateValue.contents in
    let l = c.args.in_loop in
    let m = c.args.in_macro in
    c.are_inner-in-SetBlock.ensures ∙ ap (λ xs. are_inner l m (body_of v xs)) c.deref-in-SetBlock.ensures.value
    ∙ ap (λ n. has_bodies l m (set_block (expr_tree v n.target) (optional_of v n.filter) (body_of v n.body.items))) c.node-in-SetBlock.ensures
    ∙ ap (has_bodies l m) (sym (set_block_is v c.in-SetBlock.block))
    ∙ ap (λ s. has_bodies l m (stmt_tree v s)) (sym c.in-SetBlock.is)

pub has_bodies-returns-in-AutoEscape : goal.has_bodies-returns-in-AutoEscape
has_bodies-returns-in-AutoEscape g t c =
    let v = g.V.TemplateValue.contents in
    let l = c.args.in_loop in
    let m = c.args.in_macro in
    c.are_inner-in-AutoEscape.ensures ∙ ap (λ xs. are_inner l m (body_of v xs)) c.deref-in-AutoEscape.ensures.value
    ∙ ap (λ n. has_bodies l m (auto_escape (expr_tree v n.enabled) (body_of v n.body.items))) c.node-in-AutoEscape.ensures
    ∙ ap (has_bodies l m) (sym (auto_escape_is v c.in-AutoEscape.block))
    ∙ ap (λ s. has_bodies l m (stmt_tree v s)) (sym c.in-AutoEscape.is)

pub has_bodies-returns-in-FilterBlock : goal.has_bodies-returns-in-FilterBlock
has_bodies-returns-in-FilterBlock g t c =
    let v = g.V.TemplateValue.contents in
    let l = c.args.in_loop in
    let m = c.args.in_macro in
    c.are_inner-in-FilterBlock.ensures ∙ ap (λ xs. are_inner l m (body_of v xs)) c.deref-in-FilterBlock.ensures.value
    ∙ ap (λ n. has_bodies l m (filter_block (expr_tree v n.filter) (body_of v n.body.items))) c.node-in-FilterBlock.ensures
    ∙ ap (has_bodies l m) (sym (filter_block_is v c.in-FilterBlock.block))
    ∙ ap (λ s. has_bodies l m (stmt_tree v s)) (sym c.in-FilterBlock.is)

pub has_bodies-returns-in-Block : goal.has_bodies-returns-in-Block
has_bodies-returns-in-Block g t c =
    let v = g.V.TemplateValue.contents in
    let l = c.args.in_loop in
    let m = c.args.in_macro in
    c.are_inner-in-Block.ensures ∙ ap (λ xs. are_inner false m (body_of v xs)) c.deref-in-Block.ensures.value
    ∙ ap (λ n. has_bodies l m (named_block n.name.now n.required (body_of v n.body.items))) c.node-in-Block.ensures
    ∙ ap (has_bodies l m) (sym (block_is v c.in-Block.block))
    ∙ ap (λ s. has_bodies l m (stmt_tree v s)) (sym c.in-Block.is)

pub has_bodies-returns-in-Macro : goal.has_bodies-returns-in-Macro
has_bodies-returns-in-Macro g t c =
    let v = g.V.TemplateValue.contents in
    let l = c.args.in_loop in
    let m = c.args.in_macro in
    c.has_macro_body.ensures ∙ ap (λ n. has_macro_body (macro_tree v n)) c.node-in-Macro.ensures
    ∙ ap (has_bodies l m) (sym (declare_is v c.in-Macro.declared))
    ∙ ap (λ s. has_bodies l m (stmt_tree v s)) (sym c.in-Macro.is)

pub has_bodies-returns-in-CallBlock : goal.has_bodies-returns-in-CallBlock
has_bodies-returns-in-CallBlock g t c =
    let v = g.V.TemplateValue.contents in
    let l = c.args.in_loop in
    let m = c.args.in_macro in
    c.has_macro_body-in-CallBlock.ensures ∙ ap (λ n. has_macro_body (macro_tree v n)) c.node-in-CallBlock-2.ensures
    ∙ ap (λ n. has_macro_body (macro_tree v (macro_in n))) c.node-in-CallBlock.ensures
    ∙ ap (has_bodies l m) (sym (call_block_is v c.in-CallBlock.block))
    ∙ ap (λ s. has_bodies l m (stmt_tree v s)) (sym c.in-CallBlock.is)

pub is_inner-returns-then-is_headed : goal.is_inner-returns-then-is_headed
is_inner-returns-then-is_headed g t c =
    let l = c.args.in_loop in
    let m = c.args.in_macro in
    let s = stmt_tree g.V.TemplateValue.contents c.args.stmt.now in
    c.has_bodies.ensures ∙ ap (λ b. b && has_bodies l m s) (sym c.if-is_headed.true ∙ c.is_headed.ensures) ∙ sym (inner-sides l m s)

pub is_inner-returns-else-is_headed : goal.is_inner-returns-else-is_headed
is_inner-returns-else-is_headed g t c =
    let l = c.args.in_loop in
    let m = c.args.in_macro in
    let s = stmt_tree g.V.TemplateValue.contents c.args.stmt.now in
    c.if-is_headed.false ∙ ap (λ b. b && has_bodies l m s) (sym c.if-is_headed.false ∙ c.is_headed.ensures) ∙ sym (inner-sides l m s)
