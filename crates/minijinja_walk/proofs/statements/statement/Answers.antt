use Rattle.std.proofs.Common.{refl, sym, ap, ap₂, ◌∙◌}
use Rattle.std.specs.Prelude.{[], ◌∷◌}
use Rattle.minijinja_tree_expr.specs.Nodes.{node_of}
use Rattle.minijinja_tree.specs.SpannedErasure.{expr_node, stmt_node}
use Rattle.minijinja_tree.proofs.StatementRows.{template_is, for_loop_is, if_cond_is, with_block_is, set_block_is, auto_escape_is, filter_block_is, named_block_is}
use Rattle.minijinja_tree_expr.specs.declared.ast.Call.{Call}
use Rattle.minijinja_walk.specs.Children.{expr, macro_children, stmt_children}
use Rattle.minijinja_walk.specs.private.Added.{call_block_children, macro_node}
use Rattle.minijinja_walk.proofs.Adding.{adds-as, adds-nothing}
use Rattle.minijinja_walk.proofs.Items.{of_args, of_names, of_stmts}
use Rattle.minijinja_walk.proofs.StatementNodes.{call_block_is, declare_is}
use Rattle.minijinja_walk.proofs.statements.statement.Goals as goal

pub returns-in-Template : goal.returns-in-Template
returns-in-Template g c =
    let v = g.V.TemplateValue.contents in
    adds-as v c.body.result c.args.nodes.now.items c.body.new.nodes.items _ _
    (ap (of_stmts v) (c.deref.ensures.value ∙ ap (λ n. n.children.items) c.node.ensures)
    ∙ ap stmt_children (sym (template_is v c.in-Template.template _ _ refl refl))
    ∙ ap (λ s. stmt_children (stmt_node v s)) (sym c.in-Template.is)) c.body.ensures

pub returns-in-EmitExpr : goal.returns-in-EmitExpr
returns-in-EmitExpr g c =
    let v = g.V.TemplateValue.contents in
    adds-as v c.one.result c.args.nodes.now.items c.one.new.nodes.items _ _
    (ap (λ n. expr (expr_node v n.expr) ∷ []) c.node-in-EmitExpr.ensures
    ∙ ap (λ s. stmt_children (stmt_node v s)) (sym c.in-EmitExpr.is)) c.one.ensures

pub returns-in-EmitRaw : goal.returns-in-EmitRaw
returns-in-EmitRaw g c =
    let v = g.V.TemplateValue.contents in
    adds-nothing v c.args.nodes.now.items _ (ap (λ s. stmt_children (stmt_node v s)) c.in-EmitRaw.is)

pub returns-in-ForLoop : goal.returns-in-ForLoop
returns-in-ForLoop g c =
    let v = g.V.TemplateValue.contents in
    adds-as v c.for_loop.result c.args.nodes.now.items c.for_loop.new.nodes.items _ _
    (ap stmt_children (sym (for_loop_is v c.in-ForLoop.repeated c.node-in-ForLoop.result.now _ (sym c.node-in-ForLoop.ensures) refl))
    ∙ ap (λ s. stmt_children (stmt_node v s)) (sym c.in-ForLoop.is)) c.for_loop.ensures

pub returns-in-IfCond : goal.returns-in-IfCond
returns-in-IfCond g c =
    let v = g.V.TemplateValue.contents in
    adds-as v c.branches.result c.args.nodes.now.items c.branches.new.nodes.items _ _
    (ap stmt_children (sym (if_cond_is v c.in-IfCond.condition c.node-in-IfCond.result.now _ (sym c.node-in-IfCond.ensures) refl))
    ∙ ap (λ s. stmt_children (stmt_node v s)) (sym c.in-IfCond.is)) c.branches.ensures

pub returns-in-WithBlock : goal.returns-in-WithBlock
returns-in-WithBlock g c =
    let v = g.V.TemplateValue.contents in
    adds-as v c.with_block.result c.args.nodes.now.items c.with_block.new.nodes.items _ _
    (ap stmt_children (sym (with_block_is v c.in-WithBlock.block c.node-in-WithBlock.result.now _ (sym c.node-in-WithBlock.ensures) refl))
    ∙ ap (λ s. stmt_children (stmt_node v s)) (sym c.in-WithBlock.is)) c.with_block.ensures

pub returns-in-Set : goal.returns-in-Set
returns-in-Set g c =
    let v = g.V.TemplateValue.contents in
    adds-as v c.two.result c.args.nodes.now.items c.two.new.nodes.items _ _
    (ap₂ (λ m n. expr (expr_node v m.target) ∷ expr (expr_node v n.expr) ∷ []) c.node-in-Set.ensures c.node-in-Set-2.ensures
    ∙ ap (λ s. stmt_children (stmt_node v s)) (sym c.in-Set.is)) c.two.ensures

pub returns-in-SetBlock : goal.returns-in-SetBlock
returns-in-SetBlock g c =
    let v = g.V.TemplateValue.contents in
    adds-as v c.set_block.result c.args.nodes.now.items c.set_block.new.nodes.items _ _
    (ap stmt_children (sym (set_block_is v c.in-SetBlock.block c.node-in-SetBlock.result.now _ (sym c.node-in-SetBlock.ensures) refl))
    ∙ ap (λ s. stmt_children (stmt_node v s)) (sym c.in-SetBlock.is)) c.set_block.ensures

pub returns-in-AutoEscape : goal.returns-in-AutoEscape
returns-in-AutoEscape g c =
    let v = g.V.TemplateValue.contents in
    adds-as v c.headed.result c.args.nodes.now.items c.headed.new.nodes.items _ _
    (ap₂ (λ n xs. expr (expr_node v n.enabled) ∷ of_stmts v xs) c.node-in-AutoEscape.ensures (c.deref-in-AutoEscape.ensures.value ∙ ap (λ n. n.body.items) c.node-in-AutoEscape-2.ensures)
    ∙ ap stmt_children (sym (auto_escape_is v c.in-AutoEscape.block _ _ refl refl))
    ∙ ap (λ s. stmt_children (stmt_node v s)) (sym c.in-AutoEscape.is)) c.headed.ensures

pub returns-in-FilterBlock : goal.returns-in-FilterBlock
returns-in-FilterBlock g c =
    let v = g.V.TemplateValue.contents in
    adds-as v c.headed-in-FilterBlock.result c.args.nodes.now.items c.headed-in-FilterBlock.new.nodes.items _ _
    (ap₂ (λ n xs. expr (expr_node v n.filter) ∷ of_stmts v xs) c.node-in-FilterBlock.ensures (c.deref-in-FilterBlock.ensures.value ∙ ap (λ n. n.body.items) c.node-in-FilterBlock-2.ensures)
    ∙ ap stmt_children (sym (filter_block_is v c.in-FilterBlock.block _ _ refl refl))
    ∙ ap (λ s. stmt_children (stmt_node v s)) (sym c.in-FilterBlock.is)) c.headed-in-FilterBlock.ensures

pub returns-in-Block : goal.returns-in-Block
returns-in-Block g c =
    let v = g.V.TemplateValue.contents in
    adds-as v c.body-in-Block.result c.args.nodes.now.items c.body-in-Block.new.nodes.items _ _
    (ap (of_stmts v) (c.deref-in-Block.ensures.value ∙ ap (λ n. n.body.items) c.node-in-Block.ensures)
    ∙ ap stmt_children (sym (named_block_is v c.in-Block.block _ _ refl refl))
    ∙ ap (λ s. stmt_children (stmt_node v s)) (sym c.in-Block.is)) c.body-in-Block.ensures

pub returns-in-Import : goal.returns-in-Import
returns-in-Import g c =
    let v = g.V.TemplateValue.contents in
    adds-as v c.two-in-Import.result c.args.nodes.now.items c.two-in-Import.new.nodes.items _ _
    (ap₂ (λ m n. expr (expr_node v m.expr) ∷ expr (expr_node v n.name) ∷ []) c.node-in-Import.ensures c.node-in-Import-2.ensures
    ∙ ap (λ s. stmt_children (stmt_node v s)) (sym c.in-Import.is)) c.two-in-Import.ensures

pub returns-in-FromImport : goal.returns-in-FromImport
returns-in-FromImport g c =
    let v = g.V.TemplateValue.contents in
    adds-as v c.from_import.result c.args.nodes.now.items c.from_import.new.nodes.items _ _
    (ap (λ n. expr (expr_node v n.expr) ∷ of_names v n.names.items) c.node-in-FromImport.ensures
    ∙ ap (λ s. stmt_children (stmt_node v s)) (sym c.in-FromImport.is)) c.from_import.ensures

pub returns-in-Extends : goal.returns-in-Extends
returns-in-Extends g c =
    let v = g.V.TemplateValue.contents in
    adds-as v c.one-in-Extends.result c.args.nodes.now.items c.one-in-Extends.new.nodes.items _ _
    (ap (λ n. expr (expr_node v n.name) ∷ []) c.node-in-Extends.ensures
    ∙ ap (λ s. stmt_children (stmt_node v s)) (sym c.in-Extends.is)) c.one-in-Extends.ensures

pub returns-in-Include : goal.returns-in-Include
returns-in-Include g c =
    let v = g.V.TemplateValue.contents in
    adds-as v c.one-in-Include.result c.args.nodes.now.items c.one-in-Include.new.nodes.items _ _
    (ap (λ n. expr (expr_node v n.name) ∷ []) c.node-in-Include.ensures
    ∙ ap (λ s. stmt_children (stmt_node v s)) (sym c.in-Include.is)) c.one-in-Include.ensures

pub returns-in-Macro : goal.returns-in-Macro
returns-in-Macro g c =
    let v = g.V.TemplateValue.contents in
    adds-as v c.parts_of_macro.result c.args.nodes.now.items c.parts_of_macro.new.nodes.items _ _
    (ap (λ n. macro_children (macro_node v n)) c.node-in-Macro.ensures
    ∙ sym (declare_is v c.in-Macro.declared)
    ∙ ap (λ s. stmt_children (stmt_node v s)) (sym c.in-Macro.is)) c.parts_of_macro.ensures

pub returns-in-CallBlock : goal.returns-in-CallBlock
returns-in-CallBlock g c =
    let v = g.V.TemplateValue.contents in
    adds-as v c.call_block.result c.args.nodes.now.items c.call_block.new.nodes.items _ _
    (ap (call_block_children v) c.node-in-CallBlock.ensures
    ∙ sym (call_block_is v c.in-CallBlock.block)
    ∙ ap (λ s. stmt_children (stmt_node v s)) (sym c.in-CallBlock.is)) c.call_block.ensures

pub returns-in-Continue : goal.returns-in-Continue
returns-in-Continue g c =
    let v = g.V.TemplateValue.contents in
    adds-nothing v c.args.nodes.now.items _ (ap (λ s. stmt_children (stmt_node v s)) c.in-Continue.is)

pub returns-in-Break : goal.returns-in-Break
returns-in-Break g c =
    let v = g.V.TemplateValue.contents in
    adds-nothing v c.args.nodes.now.items _ (ap (λ s. stmt_children (stmt_node v s)) c.in-Break.is)

pub returns-in-Do : goal.returns-in-Do
returns-in-Do g c =
    let v = g.V.TemplateValue.contents in
    adds-as v c.called.result c.args.nodes.now.items c.called.new.nodes.items _ _
    (ap₂ (λ n xs. expr (expr_node v n.expr) ∷ of_args v xs) c.node-call.ensures (c.deref-in-Do.ensures.value ∙ ap (λ n. n.args.items) c.node-call.ensures)
    ∙ ap (λ n. expr (expr_node v (node_of {T = Call _ _} n.call).expr) ∷ of_args v (node_of {T = Call _ _} n.call).args.items) c.node-in-Do.ensures
    ∙ ap (λ s. stmt_children (stmt_node v s)) (sym c.in-Do.is)) c.called.ensures
