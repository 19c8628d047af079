use Rattle.std.proofs.Common.{◌+◌, ◌<◌, ◌≤◌, drop, length, arith, refl, sym, ap, ap₂, ◌∙◌, subst}
use Rattle.std.specs.Prelude.{codes}
use Rattle.minijinja_syntax.specs.Texts.{Text}
use Rattle.minijinja_syntax.specs.declared.tokens.Span.{Span}
use Rattle.minijinja_tree_expr.specs.Nodes.{node_of, span_of}
use Rattle.minijinja_tree.specs.SpannedErasure.{args_of, bindings_of, expr_node, names_of, optional_of, stmt_node, trees}
use Rattle.minijinja_tree.specs.SpannedTrees as tree
use Rattle.minijinja_tree.proofs.StatementRows.{template_is, for_loop_is, if_cond_is, with_block_is, set_block_is, auto_escape_is, filter_block_is, named_block_is}
use Rattle.minijinja_meta.specs.Mentions.{Way, end, declares, stores, region, through, through_call, through_if_any, through_stmt, through_stmts, to_assignments, to_filter, to_parameters, to_target}
use Rattle.minijinja_meta.specs.private.Walked.{Walks}
use Rattle.minijinja_meta.specs.private.Ways.{in_region, macro_node, nowhere, within_macro}
use Rattle.minijinja_meta.proofs.StatementNodes.{body_of, call_block_is, call_in, declare_is, macro_in}
use Rattle.minijinja_meta.proofs.StmtWays.{next-stmt, no-stmts, walking-left-out}
use Rattle.minijinja_meta.proofs.Walking.{region-ends, then-walks, walking-ends, walking-goes-on, walking-left, walks-as, walks-on}
use Rattle.minijinja_meta.proofs.statements.+statements.Goals as goal
use Rattle.minijinja_meta.proofs.statements.+statements.Goals.{statements-in-EmitRaw, statements-in-EmitExpr+in_ok-expression-in-EmitExpr, statements-in_default+in_ok-statement-in_default}

-- ---- statements in order

pub statements-loop-stmt-preserved : goal.statements-loop-stmt-preserved
statements-loop-stmt-preserved g t c =
    let v = g.V.TemplateValue.contents in
    let xs = c.args.stmts.now in
    let i = c.loop-stmt.stmt-index in
    let within : i < length xs = omega arith in
    let next = next-stmt v xs i c.stmt-item.result within c.stmt-item.is in
    let others = through_stmts (body_of v (drop (i + 1) xs)) in
    elim c.match-stmt.branch [
      | statements-in-EmitRaw w ↦ rw w.walker-is (walking-left v c.args.walker.now c.loop-stmt.walker _ _ _ c.loop-stmt.invariant (λ u. next u ∙ ap (λ z. through_stmt (stmt_node v z) (others u)) w.in-EmitRaw.is))
      | statements-in-EmitExpr+in_ok-expression-in-EmitExpr w ↦ rw w.walker-is (walking-goes-on v c.args.walker.now c.loop-stmt.walker w.expression.new.walker _ _ _ _ c.loop-stmt.invariant w.in_ok-expression-in-EmitExpr.ensures (λ u. next u ∙ ap (λ z. through_stmt (stmt_node v z) (others u)) w.in-EmitExpr.is ∙ ap (λ n. through (expr_node v n.expr) (others u)) (sym w.node.ensures)))
      | statements-in_default+in_ok-statement-in_default w ↦ rw w.walker-is (walking-goes-on v c.args.walker.now c.loop-stmt.walker w.statement.new.walker _ _ _ _ c.loop-stmt.invariant w.in_ok-statement-in_default.ensures next)
    ]

pub statements-returns : goal.statements-returns
statements-returns g t c =
    let v = g.V.TemplateValue.contents in
    let xs = c.args.stmts.now in
    let past : length xs ≤ c.loop-stmt.stmt-index = omega arith in
    walking-ends v c.args.walker.now c.loop-stmt.walker _ _ c.loop-stmt.invariant (no-stmts v xs c.loop-stmt.stmt-index past)

-- ---- parts that are regions

pub body-returns : goal.body-returns
body-returns g t c =
    let v = g.V.TemplateValue.contents in
    region-ends v c.args.walker.now c.statements.new.walker c.end.new.self (through_stmts (body_of v c.args.stmts.now)) c.mark-mark.result c.in_ok-statements.ensures c.mark-mark.ensures c.end.ensures

pub with_block-returns : goal.with_block-returns
with_block-returns g t c =
    let v = g.V.TemplateValue.contents in
    let s = c.args.walker.now in
    let n = c.args.block.now in
    let heads = to_assignments (bindings_of v n.assignments.items) in
    let body = through_stmts (body_of v n.body.items) in
    let first : Walks v s c.assignments.new.walker heads = subst (λ xs. Walks v s c.assignments.new.walker (to_assignments (bindings_of v xs))) c.deref.ensures.value c.in_ok-assignments.ensures in
    let second : Walks v c.assignments.new.walker c.statements.new.walker body = subst (λ xs. Walks v c.assignments.new.walker c.statements.new.walker (through_stmts (body_of v xs))) c.deref-2.ensures.value c.in_ok-statements.ensures in
    region-ends v s c.statements.new.walker c.end.new.self (λ w. heads (body w)) c.mark-mark.result (walks-on v s c.assignments.new.walker c.statements.new.walker heads body first second) c.mark-mark.ensures c.end.ensures

pub named_body-returns : goal.named_body-returns
named_body-returns g t c =
    let v = g.V.TemplateValue.contents in
    let s = c.args.walker.now in
    let body = through_stmts (body_of v c.args.block.now.body.items) in
    let second : Walks v c.stores.new.self c.statements.new.walker body = subst (λ xs. Walks v c.stores.new.self c.statements.new.walker (through_stmts (body_of v xs))) c.deref.ensures.value c.in_ok-statements.ensures in
    region-ends v s c.statements.new.walker c.end.new.self (λ w. stores (codes "super") (body w)) c.mark-mark.result (walks-on v s c.stores.new.self c.statements.new.walker (stores (codes "super")) body c.in_ok-stores.ensures second) c.mark-mark.ensures c.end.ensures

pub within-returns : goal.within-returns
within-returns g t c =
    let v = g.V.TemplateValue.contents in
    let s = c.args.walker.now in
    let m = macro_node v c.args.declared.now nowhere in
    let heads = to_parameters (trees v c.args.declared.now.args.items) (trees v c.args.declared.now.defaults.items) in
    let body = through_stmts (body_of v c.args.declared.now.body.items) in
    let third : Walks v c.parameters.new.walker c.statements.new.walker body = subst (λ xs. Walks v c.parameters.new.walker c.statements.new.walker (through_stmts (body_of v xs))) c.deref.ensures.value c.in_ok-statements.ensures in
    let rest = walks-on v c.stores.new.self c.parameters.new.walker c.statements.new.walker heads body c.in_ok-parameters.ensures third in
    region-ends v s c.statements.new.walker c.end.new.self (λ w. stores (codes "caller") (heads (body w))) c.mark-mark.result
    (walks-on v s c.stores.new.self c.statements.new.walker (stores (codes "caller")) (λ w. heads (body w)) c.in_ok-stores.ensures rest) c.mark-mark.ensures c.end.ensures

pub branches-returns : goal.branches-returns
branches-returns g t c =
    let v = g.V.TemplateValue.contents in
    let s = c.args.walker.now in
    let n = c.args.condition.now in
    let e = through (expr_node v n.expr) in
    let yes = in_region (through_stmts (body_of v n.true_body.items)) in
    let no = in_region (through_stmts (body_of v n.false_body.items)) in
    let second : Walks v c.expression.new.walker c.body.new.walker yes = subst (λ xs. Walks v c.expression.new.walker c.body.new.walker (in_region (through_stmts (body_of v xs)))) c.deref.ensures.value c.in_ok-body.ensures in
    then-walks v c.body-2.result s c.body.new.walker c.body-2.new.walker (λ w. e (yes w)) no (walks-on v s c.expression.new.walker c.body.new.walker e yes c.in_ok-expression.ensures second)
    (walks-as v c.body-2.result c.body.new.walker c.body-2.new.walker _ _ (ap (λ xs. in_region (through_stmts (body_of v xs))) c.deref-2.ensures.value) c.body-2.ensures)

pub for_loop-returns : goal.for_loop-returns
for_loop-returns g t c =
    let v = g.V.TemplateValue.contents in
    let s = c.args.walker.now in
    let n = c.args.repeated.now in
    let iter = through (expr_node v n.iter) in
    let target = to_target (expr_node v n.target) in
    let passing = to_filter (expr_node v n.target) (optional_of v n.filter_expr) in
    let body = through_stmts (body_of v n.body.items) in
    let other = in_region (through_stmts (body_of v n.else_body.items)) in
    let inner : Walks v c.target.new.walker c.statements.new.walker body = subst (λ xs. Walks v c.target.new.walker c.statements.new.walker (through_stmts (body_of v xs))) c.deref.ensures.value c.in_ok-statements.ensures in
    let within = walks-on v c.stores.new.self c.target.new.walker c.statements.new.walker target body c.in_ok-target.ensures inner in
    let turn = region-ends v c.filtered.new.walker c.statements.new.walker c.end.new.self (λ w. stores (codes "loop") (target (body w))) c.mark-mark.result
    (walks-on v c.filtered.new.walker c.stores.new.self c.statements.new.walker (stores (codes "loop")) (λ w. target (body w)) c.in_ok-stores.ensures within) c.mark-mark.ensures c.end.ensures in
    let turns : Way → Way = λ w. region (stores (codes "loop") (target (body end))) w in
    let passed = walks-on v c.expression.new.walker c.filtered.new.walker c.end.new.self passing turns c.in_ok-filtered.ensures turn in
    then-walks v c.body.result s c.end.new.self c.body.new.walker (λ w. iter (passing (turns w))) other
    (walks-on v s c.expression.new.walker c.end.new.self iter (λ w. passing (turns w)) c.in_ok-expression.ensures passed)
    (walks-as v c.body.result c.end.new.self c.body.new.walker _ _ (ap (λ xs. in_region (through_stmts (body_of v xs))) c.deref-2.ensures.value) c.body.ensures)

-- ---- each kind of statement

pub statement-returns-in-ForLoop : goal.statement-returns-in-ForLoop
statement-returns-in-ForLoop g t c =
    let v = g.V.TemplateValue.contents in
    walks-as v c.for_loop.result c.args.walker.now c.for_loop.new.walker _ _
    (ap through_stmt (sym (for_loop_is v c.in-ForLoop.repeated c.node-in-ForLoop.result.now _ (sym c.node-in-ForLoop.ensures) refl)) ∙ ap (λ s. through_stmt (stmt_node v s)) (sym c.in-ForLoop.is)) c.for_loop.ensures

pub statement-returns-in-IfCond : goal.statement-returns-in-IfCond
statement-returns-in-IfCond g t c =
    let v = g.V.TemplateValue.contents in
    walks-as v c.branches.result c.args.walker.now c.branches.new.walker _ _
    (ap through_stmt (sym (if_cond_is v c.in-IfCond.condition c.node-in-IfCond.result.now _ (sym c.node-in-IfCond.ensures) refl)) ∙ ap (λ s. through_stmt (stmt_node v s)) (sym c.in-IfCond.is)) c.branches.ensures

pub statement-returns-in-WithBlock : goal.statement-returns-in-WithBlock
statement-returns-in-WithBlock g t c =
    let v = g.V.TemplateValue.contents in
    walks-as v c.with_block.result c.args.walker.now c.with_block.new.walker _ _
    (ap through_stmt (sym (with_block_is v c.in-WithBlock.block c.node-in-WithBlock.result.now _ (sym c.node-in-WithBlock.ensures) refl)) ∙ ap (λ s. through_stmt (stmt_node v s)) (sym c.in-WithBlock.is)) c.with_block.ensures

pub statement-returns-in-Block : goal.statement-returns-in-Block
statement-returns-in-Block g t c =
    let v = g.V.TemplateValue.contents in
    walks-as v c.named_body.result c.args.walker.now c.named_body.new.walker _ _
    (ap through_stmt (sym (named_block_is v c.in-Block.block c.node-in-Block.result.now _ (sym c.node-in-Block.ensures) refl)) ∙ ap (λ s. through_stmt (stmt_node v s)) (sym c.in-Block.is)) c.named_body.ensures

pub statement-returns-in_ok-stores-in-Template : goal.statement-returns-in_ok-stores-in-Template
statement-returns-in_ok-stores-in-Template g t c =
    let v = g.V.TemplateValue.contents in
    let s = c.args.walker.now in
    let n = c.node.result.now in
    walks-as v c.statements.result s c.statements.new.walker _ _
    (ap through_stmt (sym (template_is v c.in-Template.template n _ (sym c.node.ensures) refl)) ∙ ap (λ s. through_stmt (stmt_node v s)) (sym c.in-Template.is))
    (then-walks v c.statements.result s c.stores.new.self c.statements.new.walker (stores (codes "self")) (through_stmts (body_of v n.children.items)) c.in_ok-stores-in-Template.ensures
    (walks-as v c.statements.result c.stores.new.self c.statements.new.walker _ _ (ap (λ xs. through_stmts (body_of v xs)) c.deref.ensures.value) c.statements.ensures))

pub statement-returns-in_ok-expression-in-AutoEscape : goal.statement-returns-in_ok-expression-in-AutoEscape
statement-returns-in_ok-expression-in-AutoEscape g t c =
    let v = g.V.TemplateValue.contents in
    let s = c.args.walker.now in
    let n = c.node-in-AutoEscape.result.now in
    walks-as v c.body-in-AutoEscape.result s c.body-in-AutoEscape.new.walker _ _
    (ap through_stmt (sym (auto_escape_is v c.in-AutoEscape.block n _ (sym c.node-in-AutoEscape.ensures) refl)) ∙ ap (λ s. through_stmt (stmt_node v s)) (sym c.in-AutoEscape.is))
    (then-walks v c.body-in-AutoEscape.result s c.expression-in-AutoEscape.new.walker c.body-in-AutoEscape.new.walker (through (expr_node v n.enabled)) (in_region (through_stmts (body_of v n.body.items))) c.in_ok-expression-in-AutoEscape.ensures
    (walks-as v c.body-in-AutoEscape.result c.expression-in-AutoEscape.new.walker c.body-in-AutoEscape.new.walker _ _
    (ap (λ xs. in_region (through_stmts (body_of v xs))) (c.deref-in-AutoEscape.ensures.value ∙ ap (λ n. n.body.items) (c.node-in-AutoEscape-2.ensures ∙ sym c.node-in-AutoEscape.ensures))) c.body-in-AutoEscape.ensures))

pub statement-returns-in_ok-body-in-FilterBlock : goal.statement-returns-in_ok-body-in-FilterBlock
statement-returns-in_ok-body-in-FilterBlock g t c =
    let v = g.V.TemplateValue.contents in
    let s = c.args.walker.now in
    let n = c.node-in-FilterBlock-2.result.now in
    let inner : Walks v s c.body-in-FilterBlock.new.walker (in_region (through_stmts (body_of v n.body.items))) =
    subst (λ xs. Walks v s c.body-in-FilterBlock.new.walker (in_region (through_stmts (body_of v xs)))) (c.deref-in-FilterBlock.ensures.value ∙ ap (λ n. n.body.items) (c.node-in-FilterBlock.ensures ∙ sym c.node-in-FilterBlock-2.ensures)) c.in_ok-body-in-FilterBlock.ensures in
    walks-as v c.expression-in-FilterBlock.result s c.expression-in-FilterBlock.new.walker _ _
    (ap through_stmt (sym (filter_block_is v c.in-FilterBlock.block n _ (sym c.node-in-FilterBlock-2.ensures) refl)) ∙ ap (λ s. through_stmt (stmt_node v s)) (sym c.in-FilterBlock.is))
    (then-walks v c.expression-in-FilterBlock.result s c.body-in-FilterBlock.new.walker c.expression-in-FilterBlock.new.walker (in_region (through_stmts (body_of v n.body.items))) (through (expr_node v n.filter)) inner c.expression-in-FilterBlock.ensures)

pub statement-returns-in_ok-body-in-SetBlock : goal.statement-returns-in_ok-body-in-SetBlock
statement-returns-in_ok-body-in-SetBlock g t c =
    let v = g.V.TemplateValue.contents in
    let s = c.args.walker.now in
    let n = c.node-in-SetBlock-2.result.now in
    let inner : Walks v s c.body.new.walker (in_region (through_stmts (body_of v n.body.items))) =
    subst (λ xs. Walks v s c.body.new.walker (in_region (through_stmts (body_of v xs)))) (c.deref-in-SetBlock.ensures.value ∙ ap (λ n. n.body.items) (c.node-in-SetBlock.ensures ∙ sym c.node-in-SetBlock-2.ensures)) c.in_ok-body-in-SetBlock.ensures in
    walks-as v c.kept.result s c.kept.new.walker _ _
    (ap through_stmt (sym (set_block_is v c.in-SetBlock.block n _ (sym c.node-in-SetBlock-2.ensures) refl)) ∙ ap (λ s. through_stmt (stmt_node v s)) (sym c.in-SetBlock.is))
    (then-walks v c.kept.result s c.body.new.walker c.kept.new.walker (in_region (through_stmts (body_of v n.body.items))) (λ w. through_if_any (optional_of v n.filter) (to_target (expr_node v n.target) w)) inner c.kept.ensures)

pub statement-returns-in_ok-declares-in-Macro : goal.statement-returns-in_ok-declares-in-Macro
statement-returns-in_ok-declares-in-Macro g t c =
    let v = g.V.TemplateValue.contents in
    let s = c.args.walker.now in
    let n = c.node-in-Macro-2.result.now in
    let at = span_of c.in-Macro.declared in
    let named : Walks v s c.declares.new.self (λ w. declares n.name.now at (stores n.name.now w)) =
    subst (λ (p : Text × Span). Walks v s c.declares.new.self (λ w. declares p.0 p.1 (stores p.0 w))) (ap₂ (λ m u. (m.name.now, u)) (c.node-in-Macro.ensures ∙ sym c.node-in-Macro-2.ensures) c.span.ensures) c.in_ok-declares-in-Macro.ensures in
    walks-as v c.within.result s c.within.new.walker _ _
    (ap (λ n. through_stmt (tree.declare (macro_node v n at))) c.node-in-Macro-2.ensures ∙ ap through_stmt (sym (declare_is v c.in-Macro.declared)) ∙ ap (λ s. through_stmt (stmt_node v s)) (sym c.in-Macro.is))
    (then-walks v c.within.result s c.declares.new.self c.within.new.walker (λ w. declares n.name.now at (stores n.name.now w)) (within_macro (macro_node v n nowhere)) named c.within.ensures)

pub statement-returns-in-Do : goal.statement-returns-in-Do
statement-returns-in-Do g t c =
    let v = g.V.TemplateValue.contents in
    walks-as v c.called-in-Do.result c.args.walker.now c.called-in-Do.new.walker _ _
    (ap (λ k. through_call (expr_node v k.expr) (args_of v k.args.items)) (c.node-in-Do-2.ensures ∙ ap (λ n. node_of n.call) c.node-in-Do.ensures) ∙ ap (λ s. through_stmt (stmt_node v s)) (sym c.in-Do.is)) c.called-in-Do.ensures

pub statement-returns-in_ok-called-in-CallBlock : goal.statement-returns-in_ok-called-in-CallBlock
statement-returns-in_ok-called-in-CallBlock g t c =
    let v = g.V.TemplateValue.contents in
    let s = c.args.walker.now in
    let k = c.node-in-CallBlock-2.result.now in
    let m = c.node-in-CallBlock-4.result.now in
    walks-as v c.within-in-CallBlock.result s c.within-in-CallBlock.new.walker _ _
    (ap₂ (λ k m w. through_call (expr_node v k.expr) (args_of v k.args.items) (within_macro (macro_node v m nowhere) w)) (c.node-in-CallBlock-2.ensures ∙ ap (λ q. node_of (call_in q)) c.node-in-CallBlock.ensures) (c.node-in-CallBlock-4.ensures ∙ ap (λ q. node_of (macro_in q)) c.node-in-CallBlock-3.ensures)
    ∙ ap through_stmt (sym (call_block_is v c.in-CallBlock.block)) ∙ ap (λ s. through_stmt (stmt_node v s)) (sym c.in-CallBlock.is))
    (then-walks v c.within-in-CallBlock.result s c.called.new.walker c.within-in-CallBlock.new.walker (through_call (expr_node v k.expr) (args_of v k.args.items)) (within_macro (macro_node v m nowhere)) c.in_ok-called-in-CallBlock.ensures c.within-in-CallBlock.ensures)

pub statement-returns-in-FromImport : goal.statement-returns-in-FromImport
statement-returns-in-FromImport g t c =
    let v = g.V.TemplateValue.contents in
    walks-as v c.from_import.result c.args.walker.now c.from_import.new.walker _ _
    (ap (λ n. through_stmt (tree.from_import (expr_node v n.expr) (names_of v n.names.items) nowhere)) c.node-in-FromImport.ensures ∙ ap (λ s. through_stmt (stmt_node v s)) (sym c.in-FromImport.is)) c.from_import.ensures

-- ---- statements with nothing on their way

pub statement-returns-in-EmitRaw : goal.statement-returns-in-EmitRaw
statement-returns-in-EmitRaw g t c =
    let v = g.V.TemplateValue.contents in
    walking-left-out v c.args.walker.now c.requires (stmt_node v c.args.stmt.now) _ (ap (stmt_node v) c.in-EmitRaw.is) (λ w. refl)

pub statement-returns-in-Continue : goal.statement-returns-in-Continue
statement-returns-in-Continue g t c =
    let v = g.V.TemplateValue.contents in
    walking-left-out v c.args.walker.now c.requires (stmt_node v c.args.stmt.now) _ (ap (stmt_node v) c.in-Continue.is) (λ w. refl)

pub statement-returns-in-Break : goal.statement-returns-in-Break
statement-returns-in-Break g t c =
    let v = g.V.TemplateValue.contents in
    walking-left-out v c.args.walker.now c.requires (stmt_node v c.args.stmt.now) _ (ap (stmt_node v) c.in-Break.is) (λ w. refl)
