use Rattle.std.proofs.Common.{rules, arith, ◌≡◌, [], ◌<◌, ◌+◌, ◌∷◌, map, length, drop, sym, ap, ap₂, subst, ◌∙◌, refl}
use Rattle.minijinja_tree.specs.Erasure.{args_of, expr_tree, optional_of, assignments_of, macro_tree, stmt_tree}
use Rattle.minijinja_tree.specs.Callees.{callee}
use Rattle.minijinja_tree.specs.Nodes.{node_of, span_of}
use Rattle.minijinja_tree.specs.SpannedErasure.{args_of as node_args, expr_node, trees, optional_of as optional_node}
use Rattle.minijinja_tree.specs.SpannedTrees as spanned
use Rattle.minijinja_tree.specs.Tree as tree
use Rattle.minijinja_tree.specs.WellFormed.{AreInner, IsMacro, IsWhole}
use Rattle.minijinja_tree.specs.declared.ast.Stmt.{the_lemmas}
use Rattle.minijinja_tree.specs.declared.ast.AutoEscape.{the_lemmas as escape_lemmas}
use Rattle.minijinja_tree_expr.specs.declared.ast.Call.{Call}
use Rattle.minijinja_tree.specs.declared.ast.CallBlock.{the_lemmas as call_lemmas}
use Rattle.minijinja_tree.specs.declared.ast.FilterBlock.{the_lemmas as filter_lemmas}
use Rattle.minijinja_tree.specs.declared.ast.ForLoop.{the_lemmas as for_lemmas}
use Rattle.minijinja_tree.specs.declared.ast.IfCond.{the_lemmas as if_lemmas}
use Rattle.minijinja_tree.specs.declared.ast.Macro.{Macro, the_lemmas as macro_lemmas}
use Rattle.minijinja_tree.specs.declared.ast.SetBlock.{the_lemmas as set_lemmas}
use Rattle.minijinja_tree.specs.declared.ast.WithBlock.{the_lemmas as with_lemmas}
use Rattle.minijinja_tree.proofs.Rows.{body_of}
use Rattle.minijinja_semantics.specs.Code.{Do}
use Rattle.minijinja_semantics.specs.Events as event
use Rattle.minijinja_semantics.specs.Layout as layout
use Rattle.minijinja_semantics.specs.Marks as marks
use Rattle.minijinja_semantics.specs.Marks.{◌⟫◌, expr, here, looped_over, target, within, span_of as span_in}
use Rattle.minijinja_semantics.specs.Pieces.{one, ◌▸◌, OpenScope, OpenAutoEscape, OpenCapture}
use Rattle.minijinja_code_parts.specs.internal.AtEnclosingLoop.{around_of, open_of}
use Rattle.minijinja_code_expr.specs.internal.Callers.{BeginsCall, WholeBlock}
use Rattle.minijinja_code_expr.specs.internal.NodeMarks as node_marks
use Rattle.minijinja_emitter.specs.internal.Margins as margins
use Rattle.minijinja_emitter.specs.internal.Making.{Made, Adds}
use Rattle.minijinja_code_parts.specs.internal.Loops.{Begins, turned}
use Rattle.minijinja_emitter.specs.declared.emit.Emitter.{Emitter}
use Rattle.minijinja_emitter.specs.internal.AtEmitter.{made_of, margin_of}
use Rattle.minijinja_code.specs.private.Statements.{MayStand, call_block_marks, call_block_tree, macro_node, macro_in as macro_at}
use Rattle.minijinja_code_parts.specs.internal.EnclosingLoops.{Around, FollowsStmts}
use Rattle.minijinja_emitter.proofs.Adding.{adds_then}
use Rattle.minijinja_code.proofs.Bodies.{adds_from, follows_from, inner_as, inner_in, inner_here, body_as, body_next, body_end, none_any, some_any, inner_stands}
use Rattle.minijinja_code.proofs.ConditionSteps.{alone_follows, else_follows, none_bytes, tests_from}
use Rattle.minijinja_code_parts.proofs.LoopSteps.{loop_follows, loop_else_follows}
use Rattle.minijinja_code_expr.proofs.Results.{ok_gives}
use Rattle.minijinja_code.proofs.MacroSteps.{block_call_follows, call_block_follows, counted_inside, declare_follows, macro_added, macro_bytes_as, take_as}
use Rattle.minijinja_code_parts.proofs.Rounds.{follows_plain, follows_within, follows_closed, stmt_as, onward_start, onward_next, onward_end}
use Rattle.minijinja_code.proofs.StatementArms.{data_arm, output_arm, set_arm, for_arm, if_arm, with_arm, set_block_arm, escape_arm, filter_block_arm, block_arm, extends_arm, include_arm, import_arm, from_arm, macro_arm, call_block_arm, do_arm}
use Rattle.minijinja_code.proofs.MarkWalks.{nodes_end, nodes_next, nodes_of}
use Rattle.minijinja_code.proofs.MarkSteps.{block_called_marked, called_marked, choice_marked, condition_marked, declared_marked, loop_done, loop_else_marked, macro_as, macro_built, marks_turn, no_nodes, node_as, nodes_as, output_marks, some_nodes, template_marked, with_ok, written_marked}
use Rattle.minijinja_code.proofs.SpannedArms.{called_node, declare_node, do_node, escape_node, filter_block_node, for_node, from_node, if_node, import_node, output_node, set_block_node, template_node, with_node}
use Rattle.minijinja_code.proofs.Templates.{tree_is}
use Rattle.minijinja_code.proofs.+stmt.Goals as goal
use Rattle.minijinja_code.proofs.+stmt.Goals.{stmt::call_block-in-Some+in_ok-macro_value+in_ok-end_call, stmt::call_block-in_default}

pub block_statements::body-statements-requires : goal.block_statements::body-statements-requires
block_statements::body-statements-requires g t c =
    λ κs live. (omega (arith, c.decreases), (search rules, (search rules, subst (λ (a : Around). AreInner a.in_loop (body_of g.V.TemplateValue.contents c.args.stmts.now)) (sym c.in_ok-enter.ensures) c.requires)))

pub block_statements::body-returns-clause-added : goal.block_statements::body-returns-clause-added
block_statements::body-returns-clause-added g t c =
    let v = g.V.TemplateValue.contents in
    let f = g.V.TemplateValue.functions in
    let r = subst (λ (a : Around). FollowsStmts f a (made_of v c.args.code.now) (around_of c.statements.new.enclosing) (made_of v c.statements.new.code) (body_of v c.args.stmts.now)) c.in_ok-enter.ensures c.in_ok-statements.ensures.added in
    follows_closed {t = around_of c.args.enclosing.now} (open_of c.args.entered) r c.leave.ensures

pub block_statements::with_block-body-requires : goal.block_statements::with_block-body-requires
block_statements::with_block-body-requires g t c =
    λ κs live. (search (rules, with_lemmas), (search rules, (search rules, inner_as g.V.TemplateValue.contents _ c.deref-2.ensures.value c.requires.body)))

pub block_statements::with_block-returns-clause-added : goal.block_statements::with_block-returns-clause-added
block_statements::with_block-returns-clause-added g t c =
    let v = g.V.TemplateValue.contents in
    let f = g.V.TemplateValue.functions in
    let n = c.args.block.now in
    let os = OpenScope ∷ (around_of c.args.enclosing.now).opened in
    ok_gives c.add.result (follows_within (one (Do event.PushWith [] 0) ▸ layout.assignments f (assignments_of v n.assignments.items)) (layout.stmts f os (body_of v n.body.items)) (one (Do event.PopFrame [] 0))
    (adds_from c.on_line.ensures.made (rw (sym c.deref.ensures.value) c.in_ok-begin_scope.ensures.added)) (body_as f v os c.deref-2.ensures.value c.in_ok-body.ensures.added)) c.add.ensures.added

pub block_statements::auto_escape-body-requires : goal.block_statements::auto_escape-body-requires
block_statements::auto_escape-body-requires g t c =
    λ κs live. (search (rules, escape_lemmas), (search rules, (search rules, inner_as g.V.TemplateValue.contents _ c.deref.ensures.value c.requires.body)))

pub block_statements::auto_escape-returns-clause-added : goal.block_statements::auto_escape-returns-clause-added
block_statements::auto_escape-returns-clause-added g t c =
    let v = g.V.TemplateValue.contents in
    let f = g.V.TemplateValue.functions in
    let n = c.args.block.now in
    let os = OpenAutoEscape ∷ (around_of c.args.enclosing.now).opened in
    ok_gives c.add-2.result (follows_within (layout.expr f (expr_tree v n.enabled) ▸ one (Do event.PushAutoEscape [] 1)) (layout.stmts f os (body_of v n.body.items)) (one (Do event.PopAutoEscape [] 0))
    (adds_from c.on_line.ensures.made (adds_then c.in_ok-expression.ensures.added c.in_ok-add.ensures.added)) (body_as f v os c.deref.ensures.value c.in_ok-body.ensures.added)) c.add-2.ensures.added

pub block_statements::set_block-body-requires : goal.block_statements::set_block-body-requires
block_statements::set_block-body-requires g t c =
    λ κs live. (search (rules, set_lemmas), (search rules, (search rules, inner_as g.V.TemplateValue.contents _ c.deref.ensures.value c.requires.body)))

pub block_statements::set_block-returns-clause-added : goal.block_statements::set_block-returns-clause-added
block_statements::set_block-returns-clause-added g t c =
    let v = g.V.TemplateValue.contents in
    let f = g.V.TemplateValue.functions in
    let n = c.args.block.now in
    let os = OpenCapture ∷ (around_of c.args.enclosing.now).opened in
    ok_gives c.end_set_block.result (follows_within (one (Do (event.BeginCapture event.Capture) [] 0)) (layout.stmts f os (body_of v n.body.items)) (one (Do event.EndCapture [] 0) ▸ layout.filters f (optional_of v n.filter) ▸ layout.target f (expr_tree v n.target))
    (adds_from c.on_line.ensures.made c.in_ok-add.ensures.added) (body_as f v os c.deref.ensures.value c.in_ok-body.ensures.added)) c.end_set_block.ensures.added

pub block_statements::filter_block-body-requires : goal.block_statements::filter_block-body-requires
block_statements::filter_block-body-requires g t c =
    λ κs live. (search (rules, filter_lemmas), (search rules, (search rules, inner_as g.V.TemplateValue.contents _ c.deref.ensures.value c.requires.body)))

pub block_statements::filter_block-returns-clause-added : goal.block_statements::filter_block-returns-clause-added
block_statements::filter_block-returns-clause-added g t c =
    let v = g.V.TemplateValue.contents in
    let f = g.V.TemplateValue.functions in
    let n = c.args.block.now in
    let os = OpenCapture ∷ (around_of c.args.enclosing.now).opened in
    ok_gives c.end_filter_block.result (follows_within (one (Do (event.BeginCapture event.Capture) [] 0)) (layout.stmts f os (body_of v n.body.items)) (one (Do event.EndCapture [] 0) ▸ layout.expr f (expr_tree v n.filter) ▸ one (Do event.Emit [] 1))
    (adds_from c.on_line.ensures.made c.in_ok-add.ensures.added) (body_as f v os c.deref.ensures.value c.in_ok-body.ensures.added)) c.end_filter_block.ensures.added

pub stmt::statements-loop-stmt-init : goal.stmt::statements-loop-stmt-init
stmt::statements-loop-stmt-init g t c =
    let v = g.V.TemplateValue.contents in
    let all = body_of v c.args.stmts.now in
    record { inner = c.requires; opened = refl; onward = onward_start g.V.TemplateValue.functions (around_of c.args.enclosing.now) (made_of v c.args.code.now) all all refl; left = refl }

pub stmt::statements-statement-requires : goal.stmt::statements-statement-requires
stmt::statements-statement-requires g t c =
    let v = g.V.TemplateValue.contents in
    let l = c.loop-stmt in
    let xs = c.args.stmts.now in
    let x = c.stmt-item.result in
    let within : l.stmt-index < length xs = omega arith in
    let both = inner_here v (around_of l.enclosing).in_loop xs l.stmt-index x within c.stmt-item.is l.invariant.inner in
    λ κs live. (search (rules, the_lemmas, within), (search rules, (search rules, inner_stands _ (stmt_tree v x) both.0)))

pub stmt::statements-loop-stmt-preserved : goal.stmt::statements-loop-stmt-preserved
stmt::statements-loop-stmt-preserved g t c =
    let v = g.V.TemplateValue.contents in
    let f = g.V.TemplateValue.functions in
    let l = c.loop-stmt in
    let xs = c.args.stmts.now in
    let x = c.stmt-item.result in
    let within : l.stmt-index < length xs = omega arith in
    let both = inner_here v (around_of l.enclosing).in_loop xs l.stmt-index x within c.stmt-item.is l.invariant.inner in
    let r = c.in_ok-statement.ensures.added in
    record {
      inner = inner_in v _ _ (drop (l.stmt-index + 1) xs) r.in_loop both.1;
      opened = r.opened ∙ l.invariant.opened;
      left = marks_turn f v (margin_of l.code) x (nodes_of v (drop (l.stmt-index + 1) xs)) (nodes_next v xs l.stmt-index x within c.stmt-item.is) l.invariant.opened c.in_ok-statement.ensures.marked l.invariant.left;
      onward = onward_next f (stmt_tree v x) (body_of v (drop (l.stmt-index + 1) xs)) (body_next v xs l.stmt-index x within c.stmt-item.is) r l.invariant.onward;
    }

pub stmt::statements-returns-clause-added : goal.stmt::statements-returns-clause-added
stmt::statements-returns-clause-added g t c =
    let v = g.V.TemplateValue.contents in
    onward_end g.V.TemplateValue.functions (body_end v c.args.stmts.now c.loop-stmt.stmt-index (omega arith)) c.loop-stmt.invariant.onward

pub stmt::statement-for_loop-requires : goal.stmt::statement-for_loop-requires
stmt::statement-for_loop-requires g t c =
    let v = g.V.TemplateValue.contents in
    let w = subst (MayStand (around_of c.args.enclosing.now).in_loop) (for_arm v c.args.stmt.now c.in-ForLoop.each c.node-in-ForLoop.result.now c.in-ForLoop.is c.node-in-ForLoop.ensures) c.requires in
    λ κs live. (search (rules, the_lemmas), (search rules, (search rules, (w.0, (w.1, (w.2, (w.3, w.4)))))))

pub stmt::statement-condition-requires : goal.stmt::statement-condition-requires
stmt::statement-condition-requires g t c =
    let v = g.V.TemplateValue.contents in
    let w = subst (MayStand (around_of c.args.enclosing.now).in_loop) (if_arm v c.args.stmt.now c.in-IfCond.choice c.node-in-IfCond.result.now c.in-IfCond.is c.node-in-IfCond.ensures) c.requires in
    λ κs live. (search (rules, the_lemmas), (search rules, (search rules, (w.0, (w.1, w.2)))))

pub stmt::statement-with_block-requires : goal.stmt::statement-with_block-requires
stmt::statement-with_block-requires g t c =
    let v = g.V.TemplateValue.contents in
    let w = subst (MayStand (around_of c.args.enclosing.now).in_loop) (with_arm v c.args.stmt.now c.in-WithBlock.block c.node-in-WithBlock.result.now c.in-WithBlock.is c.node-in-WithBlock.ensures) c.requires in
    λ κs live. (search (rules, the_lemmas), (search rules, (search rules, (w.0, w.1))))

pub stmt::statement-set_block-requires : goal.stmt::statement-set_block-requires
stmt::statement-set_block-requires g t c =
    let v = g.V.TemplateValue.contents in
    let w = subst (MayStand (around_of c.args.enclosing.now).in_loop) (set_block_arm v c.args.stmt.now c.in-SetBlock.block c.node-in-SetBlock.result.now c.in-SetBlock.is c.node-in-SetBlock.ensures) c.requires in
    λ κs live. (search (rules, the_lemmas), (search rules, (search rules, (w.0, (w.1, w.2)))))

pub stmt::statement-auto_escape-requires : goal.stmt::statement-auto_escape-requires
stmt::statement-auto_escape-requires g t c =
    let v = g.V.TemplateValue.contents in
    let w = subst (MayStand (around_of c.args.enclosing.now).in_loop) (escape_arm v c.args.stmt.now c.in-AutoEscape.block c.node-in-AutoEscape.result.now c.in-AutoEscape.is c.node-in-AutoEscape.ensures) c.requires in
    λ κs live. (search (rules, the_lemmas), (search rules, (search rules, (w.0, w.1))))

pub stmt::statement-filter_block-requires : goal.stmt::statement-filter_block-requires
stmt::statement-filter_block-requires g t c =
    let v = g.V.TemplateValue.contents in
    let w = subst (MayStand (around_of c.args.enclosing.now).in_loop) (filter_block_arm v c.args.stmt.now c.in-FilterBlock.block c.node-in-FilterBlock.result.now c.in-FilterBlock.is c.node-in-FilterBlock.ensures) c.requires in
    λ κs live. (search (rules, the_lemmas), (search rules, (search rules, (w.0, w.1))))

pub stmt::statement-statements-requires : goal.stmt::statement-statements-requires
stmt::statement-statements-requires g t c =
    let v = g.V.TemplateValue.contents in
    let e = tree_is {F = g.row.V-Fault.Denot} v c.args.stmt.now c.in-Template.template c.node.result.now c.deref.result.now c.in-Template.is c.node.ensures c.deref.ensures.value in
    λ κs live. (search (rules, the_lemmas), (search rules, (search rules, subst (MayStand (around_of c.args.enclosing.now).in_loop) e c.requires)))

pub stmt::statement-returns-in-Template-clause-added : goal.stmt::statement-returns-in-Template-clause-added
stmt::statement-returns-in-Template-clause-added g t c =
    let v = g.V.TemplateValue.contents in
    let e = tree_is {F = g.row.V-Fault.Denot} v c.args.stmt.now c.in-Template.template c.node.result.now c.deref.result.now c.in-Template.is c.node.ensures c.deref.ensures.value in
    ok_gives c.statements.result (λ s. stmt_as g.V.TemplateValue.functions (stmt_tree v c.args.stmt.now) e (follows_from c.on_line.ensures.made s)) c.statements.ensures.added

pub stmt::statement-returns-in-EmitRaw-clause-added : goal.stmt::statement-returns-in-EmitRaw-clause-added
stmt::statement-returns-in-EmitRaw-clause-added g t c =
    let v = g.V.TemplateValue.contents in
    ok_gives c.data_text.result (λ s. stmt_as g.V.TemplateValue.functions (stmt_tree v c.args.stmt.now) (data_arm v c.args.stmt.now c.in-EmitRaw.«data» c.node-in-EmitRaw.result.now c.in-EmitRaw.is c.node-in-EmitRaw.ensures) (follows_from c.on_line-in-EmitRaw.ensures.made s)) c.data_text.ensures.added

pub stmt::statement-returns-in-EmitExpr-clause-added : goal.stmt::statement-returns-in-EmitExpr-clause-added
stmt::statement-returns-in-EmitExpr-clause-added g t c =
    let v = g.V.TemplateValue.contents in
    let f = g.V.TemplateValue.functions in
    ok_gives c.emit_expr.result (λ s. stmt_as f (stmt_tree v c.args.stmt.now) (output_arm v c.args.stmt.now c.in-EmitExpr.output c.node-in-EmitExpr.result.now c.in-EmitExpr.is c.node-in-EmitExpr.ensures) (follows_plain (around_of c.args.enclosing.now) _ s)) c.emit_expr.ensures.added

pub stmt::statement-returns-in-Set-clause-added : goal.stmt::statement-returns-in-Set-clause-added
stmt::statement-returns-in-Set-clause-added g t c =
    let v = g.V.TemplateValue.contents in
    let f = g.V.TemplateValue.functions in
    ok_gives c.set.result (λ s. stmt_as f (stmt_tree v c.args.stmt.now) (set_arm v c.args.stmt.now c.in-Set.assignment c.node-in-Set.result.now c.in-Set.is c.node-in-Set.ensures) (follows_from c.on_line-in-Set.ensures.made (follows_plain (around_of c.args.enclosing.now) _ s))) c.set.ensures.added

pub stmt::statement-returns-in-ForLoop-clause-added : goal.stmt::statement-returns-in-ForLoop-clause-added
stmt::statement-returns-in-ForLoop-clause-added g t c =
    let v = g.V.TemplateValue.contents in
    ok_gives c.for_loop.result (stmt_as g.V.TemplateValue.functions (stmt_tree v c.args.stmt.now) (for_arm v c.args.stmt.now c.in-ForLoop.each c.node-in-ForLoop.result.now c.in-ForLoop.is c.node-in-ForLoop.ensures)) c.for_loop.ensures.added

pub stmt::statement-returns-in-IfCond-clause-added : goal.stmt::statement-returns-in-IfCond-clause-added
stmt::statement-returns-in-IfCond-clause-added g t c =
    let v = g.V.TemplateValue.contents in
    ok_gives c.condition.result (stmt_as g.V.TemplateValue.functions (stmt_tree v c.args.stmt.now) (if_arm v c.args.stmt.now c.in-IfCond.choice c.node-in-IfCond.result.now c.in-IfCond.is c.node-in-IfCond.ensures)) c.condition.ensures.added

pub stmt::statement-returns-in-WithBlock-clause-added : goal.stmt::statement-returns-in-WithBlock-clause-added
stmt::statement-returns-in-WithBlock-clause-added g t c =
    let v = g.V.TemplateValue.contents in
    ok_gives c.with_block.result (stmt_as g.V.TemplateValue.functions (stmt_tree v c.args.stmt.now) (with_arm v c.args.stmt.now c.in-WithBlock.block c.node-in-WithBlock.result.now c.in-WithBlock.is c.node-in-WithBlock.ensures)) c.with_block.ensures.added

pub stmt::statement-returns-in-SetBlock-clause-added : goal.stmt::statement-returns-in-SetBlock-clause-added
stmt::statement-returns-in-SetBlock-clause-added g t c =
    let v = g.V.TemplateValue.contents in
    ok_gives c.set_block.result (stmt_as g.V.TemplateValue.functions (stmt_tree v c.args.stmt.now) (set_block_arm v c.args.stmt.now c.in-SetBlock.block c.node-in-SetBlock.result.now c.in-SetBlock.is c.node-in-SetBlock.ensures)) c.set_block.ensures.added

pub stmt::statement-returns-in-AutoEscape-clause-added : goal.stmt::statement-returns-in-AutoEscape-clause-added
stmt::statement-returns-in-AutoEscape-clause-added g t c =
    let v = g.V.TemplateValue.contents in
    ok_gives c.auto_escape.result (stmt_as g.V.TemplateValue.functions (stmt_tree v c.args.stmt.now) (escape_arm v c.args.stmt.now c.in-AutoEscape.block c.node-in-AutoEscape.result.now c.in-AutoEscape.is c.node-in-AutoEscape.ensures)) c.auto_escape.ensures.added

pub stmt::statement-returns-in-FilterBlock-clause-added : goal.stmt::statement-returns-in-FilterBlock-clause-added
stmt::statement-returns-in-FilterBlock-clause-added g t c =
    let v = g.V.TemplateValue.contents in
    ok_gives c.filter_block.result (stmt_as g.V.TemplateValue.functions (stmt_tree v c.args.stmt.now) (filter_block_arm v c.args.stmt.now c.in-FilterBlock.block c.node-in-FilterBlock.result.now c.in-FilterBlock.is c.node-in-FilterBlock.ensures)) c.filter_block.ensures.added

pub stmt::statement-returns-in-Do-clause-added : goal.stmt::statement-returns-in-Do-clause-added
stmt::statement-returns-in-Do-clause-added g t c =
    let v = g.V.TemplateValue.contents in
    let f = g.V.TemplateValue.functions in
    ok_gives c.do_call.result (λ s. stmt_as f (stmt_tree v c.args.stmt.now) (do_arm v c.args.stmt.now c.in-Do.called c.node-in-Do.result.now c.in-Do.is c.node-in-Do.ensures) (follows_plain (around_of c.args.enclosing.now) _ s)) c.do_call.ensures.added

pub stmt::statement-returns-in-Break-clause-added : goal.stmt::statement-returns-in-Break-clause-added
stmt::statement-returns-in-Break-clause-added g t c =
    let v = g.V.TemplateValue.contents in
    ok_gives c.break_loop.result (λ s. stmt_as g.V.TemplateValue.functions (stmt_tree v c.args.stmt.now) {s' = tree.break_loop} (ap (stmt_tree v) c.in-Break.is) (follows_from c.on_line-in-Break.ensures.made s)) c.break_loop.ensures.added

pub stmt::statement-returns-in-Continue-clause-added : goal.stmt::statement-returns-in-Continue-clause-added
stmt::statement-returns-in-Continue-clause-added g t c =
    let v = g.V.TemplateValue.contents in
    ok_gives c.continue_loop.result (λ s. stmt_as g.V.TemplateValue.functions (stmt_tree v c.args.stmt.now) {s' = tree.continue_loop} (ap (stmt_tree v) c.in-Continue.is) (follows_from c.on_line-in-Continue.ensures.made s)) c.continue_loop.ensures.added

pub loop_statements::for_loop-statements-requires : goal.loop_statements::for_loop-statements-requires
loop_statements::for_loop-statements-requires g t c =
    let v = g.V.TemplateValue.contents in
    λ κs live. (search (rules, for_lemmas), (search rules, (search rules, inner_in v _ _ c.deref.result.now (ap (λ (a : Around). a.in_loop) c.in_ok-inner.ensures.begun.begins.within) (inner_as v _ c.deref.ensures.value c.requires.body))))

pub loop_statements::for_loop-statements-requires-2 : goal.loop_statements::for_loop-statements-requires-2
loop_statements::for_loop-statements-requires-2 g t c =
    let v = g.V.TemplateValue.contents in
    λ κs live. (search (rules, for_lemmas), (search rules, (search rules, inner_in v _ _ c.deref-2.result.now (ap (λ (a : Around). a.in_loop) c.go_on.ensures) (inner_as v _ c.deref-2.ensures.value c.requires.else_body))))

pub loop_statements::for_loop-returns-then-is_empty-clause-added : goal.loop_statements::for_loop-returns-then-is_empty-clause-added
loop_statements::for_loop-returns-then-is_empty-clause-added g t c =
    let v = g.V.TemplateValue.contents in
    let f = g.V.TemplateValue.functions in
    let n = c.args.each.now in
    let before = around_of c.args.enclosing.now in
    let inner = around_of c.in_ok-inner.inner in
    let after = around_of c.statements.new.enclosing in
    let d = made_of v c.statements.new.code in
    let e = expr_tree v n.target in
    let started = c.in_ok-inner.ensures.begun in
    let begins = subst (λ k. Begins f e n.recursive k started.given (made_of v c.begin.new.code) inner) c.data_bytes.ensures started.begins in
    let back = c.in_ok-turn_back.ensures.turned ∙ ap (λ i. turned i c.breaks.result.now d) c.iterate.ensures ∙ ap (λ ps. turned after.iterate ps d) c.breaks.ensures in
    let on = c.go_on.ensures ∙ ap (λ k. record before { bytes = k }) c.data_bytes-2.ensures in
    let zero : length n.else_body.items ≡ 0 = grind (arith, c.is_empty.ensures, c.if-is_empty.true, n.else_body.ok.0) in
    let none = none_any v n.else_body.items zero in
    ok_gives c.add.result (loop_follows f {t = before} tt e (expr_tree v n.iter) (optional_of v n.filter_expr) n.recursive (body_of v n.body.items) (body_of v n.else_body.items)
    (adds_from c.on_line.ensures.made started.items_added) begins (body_as f v inner.opened c.deref.ensures.value c.in_ok-statements.ensures.added) back on none (none_bytes (body_of v n.else_body.items) none)) c.add.ensures.added

pub loop_statements::for_loop-returns-clause-added : goal.loop_statements::for_loop-returns-clause-added
loop_statements::for_loop-returns-clause-added g t c =
    let v = g.V.TemplateValue.contents in
    let f = g.V.TemplateValue.functions in
    let n = c.args.each.now in
    let before = around_of c.args.enclosing.now in
    let inner = around_of c.in_ok-inner.inner in
    let after = around_of c.statements.new.enclosing in
    let d = made_of v c.statements.new.code in
    let e = expr_tree v n.target in
    let started = c.in_ok-inner.ensures.begun in
    let begins = subst (λ k. Begins f e n.recursive k started.given (made_of v c.begin.new.code) inner) c.data_bytes.ensures started.begins in
    let back = c.in_ok-turn_back.ensures.turned ∙ ap (λ i. turned i c.breaks.result.now d) c.iterate.ensures ∙ ap (λ ps. turned after.iterate ps d) c.breaks.ensures in
    let on = c.go_on.ensures ∙ ap (λ k. record before { bytes = k }) c.data_bytes-2.ensures in
    let some = some_any v n.else_body.items (λ zero. absurd (grind (arith, c.is_empty.ensures, c.if-is_empty.false, n.else_body.ok.0, zero))) in
    loop_else_follows f {t = before} tt e (expr_tree v n.iter) (optional_of v n.filter_expr) n.recursive (body_of v n.body.items) (body_of v n.else_body.items)
    (adds_from c.on_line.ensures.made started.items_added) begins (body_as f v inner.opened c.deref.ensures.value c.in_ok-statements.ensures.added) back on some c.in_ok-came.ensures.ended
    (body_as f v (around_of c.go_on.new.self).opened c.deref-2.ensures.value c.in_ok-statements-2.ensures.added) c.fill.ensures.filled c.here.ensures

pub if_statements::condition-statements-requires : goal.if_statements::condition-statements-requires
if_statements::condition-statements-requires g t c =
    λ κs live. (search (rules, if_lemmas), (search rules, (search rules, inner_as g.V.TemplateValue.contents _ c.deref.ensures.value c.requires.yes)))

pub if_statements::condition-statements-requires-2 : goal.if_statements::condition-statements-requires-2
if_statements::condition-statements-requires-2 g t c =
    let v = g.V.TemplateValue.contents in
    λ κs live. (search (rules, if_lemmas), (search rules, (search rules, inner_in v _ _ c.deref-2.result.now c.in_ok-statements.ensures.added.in_loop (inner_as v _ c.deref-2.ensures.value c.requires.no))))

pub if_statements::condition-returns-then-is_empty-clause-added : goal.if_statements::condition-returns-then-is_empty-clause-added
if_statements::condition-returns-then-is_empty-clause-added g t c =
    let v = g.V.TemplateValue.contents in
    let f = g.V.TemplateValue.functions in
    let n = c.args.choice.now in
    let r = body_as f v (around_of c.args.enclosing.now).opened c.deref.ensures.value c.in_ok-statements.ensures.added in
    let zero : length n.false_body.items ≡ 0 = grind (arith, c.is_empty.ensures, c.if-is_empty.true, n.false_body.ok.0) in
    alone_follows f (expr_tree v n.expr) (body_of v n.true_body.items) (body_of v n.false_body.items) (tests_from f c.on_line.ensures.made c.in_ok-test.ensures.tested) r c.fill.ensures.filled c.here.ensures (none_any v n.false_body.items zero)

pub if_statements::condition-returns-clause-added : goal.if_statements::condition-returns-clause-added
if_statements::condition-returns-clause-added g t c =
    let v = g.V.TemplateValue.contents in
    let f = g.V.TemplateValue.functions in
    let n = c.args.choice.now in
    let r = body_as f v (around_of c.args.enclosing.now).opened c.deref.ensures.value c.in_ok-statements.ensures.added in
    let other = body_as f v (around_of c.statements.new.enclosing).opened c.deref-2.ensures.value c.in_ok-statements-2.ensures.added in
    let some = some_any v n.false_body.items (λ zero. absurd (grind (arith, c.is_empty.ensures, c.if-is_empty.false, n.false_body.ok.0, zero))) in
    else_follows f (expr_tree v n.expr) (body_of v n.true_body.items) (body_of v n.false_body.items) (tests_from f c.on_line.ensures.made c.in_ok-test.ensures.tested) r c.in_ok-end.ensures.begun some other c.end_else.ensures.ended

pub stmt::statement-returns-in-Block-clause-added : goal.stmt::statement-returns-in-Block-clause-added
stmt::statement-returns-in-Block-clause-added g t c =
    let v = g.V.TemplateValue.contents in
    let f = g.V.TemplateValue.functions in
    ok_gives c.add.result (λ s. stmt_as f (stmt_tree v c.args.stmt.now) (block_arm v c.args.stmt.now c.in-Block.block c.node-in-Block.result.now c.in-Block.is c.node-in-Block.ensures) (follows_from c.on_line-in-Block.ensures.made (follows_plain (around_of c.args.enclosing.now) _ s))) c.add.ensures.added

pub stmt::statement-returns-in-Extends-clause-added : goal.stmt::statement-returns-in-Extends-clause-added
stmt::statement-returns-in-Extends-clause-added g t c =
    let v = g.V.TemplateValue.contents in
    let f = g.V.TemplateValue.functions in
    ok_gives c.extends.result (λ s. stmt_as f (stmt_tree v c.args.stmt.now) (extends_arm v c.args.stmt.now c.in-Extends.parent c.node-in-Extends.result.now c.in-Extends.is c.node-in-Extends.ensures) (follows_from c.on_line-in-Extends.ensures.made (follows_plain (around_of c.args.enclosing.now) _ s))) c.extends.ensures.added

pub stmt::statement-returns-in-Include-clause-added : goal.stmt::statement-returns-in-Include-clause-added
stmt::statement-returns-in-Include-clause-added g t c =
    let v = g.V.TemplateValue.contents in
    let f = g.V.TemplateValue.functions in
    ok_gives c.include.result (λ s. stmt_as f (stmt_tree v c.args.stmt.now) (include_arm v c.args.stmt.now c.in-Include.included c.node-in-Include.result.now c.in-Include.is c.node-in-Include.ensures) (follows_from c.on_line-in-Include.ensures.made (follows_plain (around_of c.args.enclosing.now) _ s))) c.include.ensures.added

pub stmt::statement-returns-in-Import-clause-added : goal.stmt::statement-returns-in-Import-clause-added
stmt::statement-returns-in-Import-clause-added g t c =
    let v = g.V.TemplateValue.contents in
    let f = g.V.TemplateValue.functions in
    ok_gives c.import_all.result (λ s. stmt_as f (stmt_tree v c.args.stmt.now) (import_arm v c.args.stmt.now c.in-Import.import c.node-in-Import.result.now c.in-Import.is c.node-in-Import.ensures) (follows_plain (around_of c.args.enclosing.now) _ s)) c.import_all.ensures.added

pub stmt::statement-returns-in-FromImport-clause-added : goal.stmt::statement-returns-in-FromImport-clause-added
stmt::statement-returns-in-FromImport-clause-added g t c =
    let v = g.V.TemplateValue.contents in
    let f = g.V.TemplateValue.functions in
    ok_gives c.from_import.result (λ s. stmt_as f (stmt_tree v c.args.stmt.now) (from_arm v c.args.stmt.now c.in-FromImport.import c.node-in-FromImport.result.now c.in-FromImport.is c.node-in-FromImport.ensures) (follows_plain (around_of c.args.enclosing.now) _ s)) c.from_import.ensures.added

pub stmt::statement-macro_value-requires : goal.stmt::statement-macro_value-requires
stmt::statement-macro_value-requires g t c =
    let v = g.V.TemplateValue.contents in
    let w = subst (MayStand (around_of c.args.enclosing.now).in_loop) (macro_arm v c.args.stmt.now c.in-Macro.declared c.node-in-Macro.result.now c.in-Macro.is c.node-in-Macro.ensures) c.requires in
    λ κs live. (search (rules, the_lemmas), (search rules, (search rules, w)))

pub stmt::statement-returns-in_ok-macro_value-in-Macro-clause-added : goal.stmt::statement-returns-in_ok-macro_value-in-Macro-clause-added
stmt::statement-returns-in_ok-macro_value-in-Macro-clause-added g t c =
    let v = g.V.TemplateValue.contents in
    let f = g.V.TemplateValue.functions in
    let n = c.node-in-Macro.result.now in
    let named = ap (λ (m : Macro g.row.V.Denot g.row.V-Fault.Denot). m.name.now) (c.node-in-Macro-2.ensures ∙ sym c.node-in-Macro.ensures) in
    ok_gives c.add-in-Macro.result (λ s. stmt_as f (stmt_tree v c.args.stmt.now) (macro_arm v c.args.stmt.now c.in-Macro.declared n c.in-Macro.is c.node-in-Macro.ensures)
    (declare_follows f (macro_tree v n) c.in_ok-macro_value-in-Macro.ensures.added c.in_ok-macro_value-in-Macro.ensures.counted (subst (λ x. Adds (made_of v c.macro_value.new.code) (made_of v c.add-in-Macro.new.self) (one (Do event.StoreLocal x 1))) named s))) c.add-in-Macro.ensures.added

pub stmt::statement-call_block-requires : goal.stmt::statement-call_block-requires
stmt::statement-call_block-requires g t c =
    let v = g.V.TemplateValue.contents in
    let w = subst (MayStand (around_of c.args.enclosing.now).in_loop) (call_block_arm v c.args.stmt.now c.in-CallBlock.block c.node-in-CallBlock.result.now c.in-CallBlock.is c.node-in-CallBlock.ensures) c.requires in
    λ κs live. (search (rules, the_lemmas), (search rules, (search rules, w)))

pub stmt::statement-returns-in-CallBlock-clause-added : goal.stmt::statement-returns-in-CallBlock-clause-added
stmt::statement-returns-in-CallBlock-clause-added g t c =
    let v = g.V.TemplateValue.contents in
    let f = g.V.TemplateValue.functions in
    ok_gives c.call_block.result (stmt_as f (stmt_tree v c.args.stmt.now) (call_block_arm v c.args.stmt.now c.in-CallBlock.block c.node-in-CallBlock.result.now c.in-CallBlock.is c.node-in-CallBlock.ensures)) c.call_block.ensures.added

pub stmt::statement-returns-in-CallBlock-clause-marked : goal.stmt::statement-returns-in-CallBlock-clause-marked
stmt::statement-returns-in-CallBlock-clause-marked g t c =
    let v = g.V.TemplateValue.contents in
    let f = g.V.TemplateValue.functions in
    let p = c.in-CallBlock.block in
    ok_gives c.call_block.result (node_as f v (margin_of c.args.code.now) (around_of c.args.enclosing.now).opened c.args.stmt.now (called_node v c.args.stmt.now p c.node-in-CallBlock.result.now (span_of p) c.in-CallBlock.is c.node-in-CallBlock.ensures refl)) c.call_block.ensures.marked

pub macro_statements::macro_value-statements-requires : goal.macro_statements::macro_value-statements-requires
macro_statements::macro_value-statements-requires g t c =
    let v = g.V.TemplateValue.contents in
    λ κs live. (search (rules, macro_lemmas), (search rules, (search rules, inner_in v _ _ c.deref-3.result.now (ap (λ (a : Around). a.in_loop) c.outside-inner.ensures) (inner_as v _ c.deref-3.ensures.value c.requires.3))))

pub macro_statements::macro_value-returns-clause-counted : goal.macro_statements::macro_value-returns-clause-counted
macro_statements::macro_value-returns-clause-counted g t c =
    let last = around_of c.statements.new.enclosing in
    let counted = macro_bytes_as g.V.TemplateValue.contents last.bytes (around_of c.outside-inner.result).bytes c.deref-3.ensures.value c.in_ok-statements.ensures.added.bytes in
    ok_gives c.build.result (λ s. counted_inside {t = around_of c.args.enclosing.now} last c.outside-inner.ensures counted c.data_bytes.ensures c.count.ensures) c.build.ensures.added

pub macro_statements::macro_value-returns-clause-added : goal.macro_statements::macro_value-returns-clause-added
macro_statements::macro_value-returns-clause-added g t c =
    let v = g.V.TemplateValue.contents in
    let f = g.V.TemplateValue.functions in
    let n = c.args.declared.now in
    let body = body_as f v (around_of c.outside-inner.result).opened c.deref-3.ensures.value c.in_ok-statements.ensures.added in
    ok_gives c.build.result (λ s. macro_added f tt n.name.now (map (expr_tree v) n.args.items) (map (expr_tree v) n.defaults.items) (body_of v n.body.items)
    (adds_from c.on_line.ensures.made c.in_ok-jump.ensures.added) (c.in_ok-jump.ensures.place ∙ ap (λ (m : Made _). length m.code) c.on_line.ensures.made) c.place-entry.ensures (take_as f v c.deref.ensures.value c.deref-2.ensures.value c.in_ok-take.ensures.added) c.outside-inner.ensures body c.in_ok-add.ensures.added c.fill.ensures.filled c.here.ensures s) c.build.ensures.added

pub block_statements::body-returns-clause-marked : goal.block_statements::body-returns-clause-marked
block_statements::body-returns-clause-marked g t c =
    let v = g.V.TemplateValue.contents in
    let f = g.V.TemplateValue.functions in
    let entered = ap (λ (a : Around). a.opened) c.in_ok-enter.ensures in
    nodes_as f v {a = margin_of c.args.code.now} {xs = c.args.stmts.now} entered refl refl c.in_ok-statements.ensures.marked

pub stmt::statements-returns-clause-marked : goal.stmt::statements-returns-clause-marked
stmt::statements-returns-clause-marked g t c =
    let v = g.V.TemplateValue.contents in
    let f = g.V.TemplateValue.functions in
    sym (ap (λ ss. marks.stmts f (around_of c.args.enclosing.now).opened ss (margin_of c.loop-stmt.code)) (nodes_end v c.args.stmts.now c.loop-stmt.stmt-index (omega arith))) ∙ c.loop-stmt.invariant.left

pub stmt::statement-returns-in-ForLoop-clause-marked : goal.stmt::statement-returns-in-ForLoop-clause-marked
stmt::statement-returns-in-ForLoop-clause-marked g t c =
    let v = g.V.TemplateValue.contents in
    let f = g.V.TemplateValue.functions in
    let n = c.node-in-ForLoop.result.now in
    ok_gives c.for_loop.result (node_as f v (margin_of c.args.code.now) (around_of c.args.enclosing.now).opened c.args.stmt.now (for_node v c.args.stmt.now c.in-ForLoop.each c.node-in-ForLoop.result.now c.span-in-ForLoop.result c.in-ForLoop.is c.node-in-ForLoop.ensures c.span-in-ForLoop.ensures)) c.for_loop.ensures.marked

pub stmt::statement-returns-in-IfCond-clause-marked : goal.stmt::statement-returns-in-IfCond-clause-marked
stmt::statement-returns-in-IfCond-clause-marked g t c =
    let v = g.V.TemplateValue.contents in
    let f = g.V.TemplateValue.functions in
    let n = c.node-in-IfCond.result.now in
    ok_gives c.condition.result (node_as f v (margin_of c.args.code.now) (around_of c.args.enclosing.now).opened c.args.stmt.now (if_node v c.args.stmt.now c.in-IfCond.choice c.node-in-IfCond.result.now c.span-in-IfCond.result c.in-IfCond.is c.node-in-IfCond.ensures c.span-in-IfCond.ensures)) c.condition.ensures.marked

pub stmt::statement-returns-in-WithBlock-clause-marked : goal.stmt::statement-returns-in-WithBlock-clause-marked
stmt::statement-returns-in-WithBlock-clause-marked g t c =
    let v = g.V.TemplateValue.contents in
    let f = g.V.TemplateValue.functions in
    let n = c.node-in-WithBlock.result.now in
    ok_gives c.with_block.result (node_as f v (margin_of c.args.code.now) (around_of c.args.enclosing.now).opened c.args.stmt.now (with_node v c.args.stmt.now c.in-WithBlock.block c.node-in-WithBlock.result.now c.span-in-WithBlock.result c.in-WithBlock.is c.node-in-WithBlock.ensures c.span-in-WithBlock.ensures)) c.with_block.ensures.marked

pub stmt::statement-returns-in-SetBlock-clause-marked : goal.stmt::statement-returns-in-SetBlock-clause-marked
stmt::statement-returns-in-SetBlock-clause-marked g t c =
    let v = g.V.TemplateValue.contents in
    let f = g.V.TemplateValue.functions in
    let n = c.node-in-SetBlock.result.now in
    ok_gives c.set_block.result (node_as f v (margin_of c.args.code.now) (around_of c.args.enclosing.now).opened c.args.stmt.now (set_block_node v c.args.stmt.now c.in-SetBlock.block c.node-in-SetBlock.result.now c.span-in-SetBlock.result c.in-SetBlock.is c.node-in-SetBlock.ensures c.span-in-SetBlock.ensures)) c.set_block.ensures.marked

pub stmt::statement-returns-in-AutoEscape-clause-marked : goal.stmt::statement-returns-in-AutoEscape-clause-marked
stmt::statement-returns-in-AutoEscape-clause-marked g t c =
    let v = g.V.TemplateValue.contents in
    let f = g.V.TemplateValue.functions in
    let n = c.node-in-AutoEscape.result.now in
    ok_gives c.auto_escape.result (node_as f v (margin_of c.args.code.now) (around_of c.args.enclosing.now).opened c.args.stmt.now (escape_node v c.args.stmt.now c.in-AutoEscape.block c.node-in-AutoEscape.result.now c.span-in-AutoEscape.result c.in-AutoEscape.is c.node-in-AutoEscape.ensures c.span-in-AutoEscape.ensures)) c.auto_escape.ensures.marked

pub stmt::statement-returns-in-FilterBlock-clause-marked : goal.stmt::statement-returns-in-FilterBlock-clause-marked
stmt::statement-returns-in-FilterBlock-clause-marked g t c =
    let v = g.V.TemplateValue.contents in
    let f = g.V.TemplateValue.functions in
    let n = c.node-in-FilterBlock.result.now in
    ok_gives c.filter_block.result (node_as f v (margin_of c.args.code.now) (around_of c.args.enclosing.now).opened c.args.stmt.now (filter_block_node v c.args.stmt.now c.in-FilterBlock.block c.node-in-FilterBlock.result.now c.span-in-FilterBlock.result c.in-FilterBlock.is c.node-in-FilterBlock.ensures c.span-in-FilterBlock.ensures)) c.filter_block.ensures.marked

pub stmt::statement-returns-in-Import-clause-marked : goal.stmt::statement-returns-in-Import-clause-marked
stmt::statement-returns-in-Import-clause-marked g t c =
    let v = g.V.TemplateValue.contents in
    let f = g.V.TemplateValue.functions in
    let n = c.node-in-Import.result.now in
    ok_gives c.import_all.result (node_as f v (margin_of c.args.code.now) (around_of c.args.enclosing.now).opened c.args.stmt.now (import_node v c.args.stmt.now c.in-Import.import c.node-in-Import.result.now c.span-in-Import.result c.in-Import.is c.node-in-Import.ensures c.span-in-Import.ensures)) c.import_all.ensures.marked

pub stmt::statement-returns-in-FromImport-clause-marked : goal.stmt::statement-returns-in-FromImport-clause-marked
stmt::statement-returns-in-FromImport-clause-marked g t c =
    let v = g.V.TemplateValue.contents in
    let f = g.V.TemplateValue.functions in
    let n = c.node-in-FromImport.result.now in
    ok_gives c.from_import.result (node_as f v (margin_of c.args.code.now) (around_of c.args.enclosing.now).opened c.args.stmt.now (from_node v c.args.stmt.now c.in-FromImport.import c.node-in-FromImport.result.now c.span-in-FromImport.result c.in-FromImport.is c.node-in-FromImport.ensures c.span-in-FromImport.ensures)) c.from_import.ensures.marked

pub stmt::statement-returns-in-Do-clause-marked : goal.stmt::statement-returns-in-Do-clause-marked
stmt::statement-returns-in-Do-clause-marked g t c =
    let v = g.V.TemplateValue.contents in
    let f = g.V.TemplateValue.functions in
    let p = c.in-Do.called in
    ok_gives c.do_call.result (node_as f v (margin_of c.args.code.now) (around_of c.args.enclosing.now).opened c.args.stmt.now (do_node v c.args.stmt.now p c.node-in-Do.result.now (span_of p) c.in-Do.is c.node-in-Do.ensures refl)) c.do_call.ensures.marked

pub loop_statements::for_loop-returns-then-is_empty-clause-marked : goal.loop_statements::for_loop-returns-then-is_empty-clause-marked
loop_statements::for_loop-returns-then-is_empty-clause-marked g t c =
    let v = g.V.TemplateValue.contents in
    let f = g.V.TemplateValue.functions in
    let n = c.args.each.now in
    let zero : length n.else_body.items ≡ 0 = grind (arith, c.is_empty.ensures, c.if-is_empty.true, n.else_body.ok.0) in
    let m = margin_of c.args.code.now in
    let e = expr_node v n.target in
    let over = looped_over f e (expr_node v n.iter) (optional_node v n.filter_expr) in
    let started = c.in_ok-inner.ensures.marked ∙ ap (λ k. target f e (over k)) c.on_line.ensures.marked in
    let body = nodes_as f v (ap (λ (a : Around). a.opened) c.in_ok-inner.ensures.begun.begins.within) c.deref.ensures.value started c.in_ok-statements.ensures.marked in
    with_ok c.add.result c.add.ensures.marked (λ s. loop_done f (around_of c.args.enclosing.now).opened e (expr_node v n.iter) (optional_node v n.filter_expr) n.recursive (nodes_of v n.body.items) (nodes_of v n.else_body.items) c.args.span m (no_nodes v n.else_body.items zero) body c.in_ok-turn_back.ensures.marked s)

pub loop_statements::for_loop-returns-clause-marked : goal.loop_statements::for_loop-returns-clause-marked
loop_statements::for_loop-returns-clause-marked g t c =
    let v = g.V.TemplateValue.contents in
    let f = g.V.TemplateValue.functions in
    let n = c.args.each.now in
    let some = some_nodes v n.else_body.items (λ zero. absurd (grind (arith, c.is_empty.ensures, c.if-is_empty.false, n.else_body.ok.0, zero))) in
    let m = margin_of c.args.code.now in
    let e = expr_node v n.target in
    let over = looped_over f e (expr_node v n.iter) (optional_node v n.filter_expr) in
    let started = c.in_ok-inner.ensures.marked ∙ ap (λ k. target f e (over k)) c.on_line.ensures.marked in
    let body = nodes_as f v (ap (λ (a : Around). a.opened) c.in_ok-inner.ensures.begun.begins.within) c.deref.ensures.value started c.in_ok-statements.ensures.marked in
    let other = nodes_as f v (ap (λ (a : Around). a.opened) c.go_on.ensures) c.deref-2.ensures.value (c.in_ok-came.ensures.marked ∙ ap (here 3) (c.in_ok-turn_back.ensures.marked ∙ ap (here 1) body)) c.in_ok-statements-2.ensures.marked in
    c.fill.ensures.marked ∙ other
    ∙ loop_else_marked f (around_of c.args.enclosing.now).opened e (expr_node v n.iter) (optional_node v n.filter_expr) n.recursive (nodes_of v n.body.items) (nodes_of v n.else_body.items) c.args.span m some

pub if_statements::condition-returns-then-is_empty-clause-marked : goal.if_statements::condition-returns-then-is_empty-clause-marked
if_statements::condition-returns-then-is_empty-clause-marked g t c =
    let v = g.V.TemplateValue.contents in
    let f = g.V.TemplateValue.functions in
    let n = c.args.choice.now in
    let e = expr_node v n.expr in
    let os = (around_of c.args.enclosing.now).opened in
    let tested = c.in_ok-test.ensures.marked ∙ ap (within (span_in e) (expr f e ⟫ here 1)) c.on_line.ensures.marked in
    let zero : length n.false_body.items ≡ 0 = grind (arith, c.is_empty.ensures, c.if-is_empty.true, n.false_body.ok.0) in
    c.fill.ensures.marked ∙ nodes_as f v {a = margin_of c.begin.new.code} {os = os} refl c.deref.ensures.value refl c.in_ok-statements.ensures.marked
    ∙ condition_marked f os e (nodes_of v n.true_body.items) (nodes_of v n.false_body.items) c.args.span (margin_of c.args.code.now) tested (no_nodes v n.false_body.items zero)

pub if_statements::condition-returns-clause-marked : goal.if_statements::condition-returns-clause-marked
if_statements::condition-returns-clause-marked g t c =
    let v = g.V.TemplateValue.contents in
    let f = g.V.TemplateValue.functions in
    let n = c.args.choice.now in
    let e = expr_node v n.expr in
    let os = (around_of c.args.enclosing.now).opened in
    let tested = c.in_ok-test.ensures.marked ∙ ap (within (span_in e) (expr f e ⟫ here 1)) c.on_line.ensures.marked in
    let chosen = nodes_as f v {a = margin_of c.begin.new.code} {os = os} refl c.deref.ensures.value refl c.in_ok-statements.ensures.marked in
    let other = nodes_as f v {os' = os} c.in_ok-statements.ensures.added.opened c.deref-2.ensures.value (c.in_ok-end.ensures.marked ∙ ap (here 1) chosen) c.in_ok-statements-2.ensures.marked in
    let some = some_nodes v n.false_body.items (λ zero. absurd (grind (arith, c.is_empty.ensures, c.if-is_empty.false, n.false_body.ok.0, zero))) in
    c.end_else.ensures.marked ∙ other ∙ choice_marked f os e (nodes_of v n.true_body.items) (nodes_of v n.false_body.items) c.args.span (margin_of c.args.code.now) tested some

pub stmt::call_block-begin_call-requires : goal.stmt::call_block-begin_call-requires
stmt::call_block-begin_call-requires g t c =
    let v = g.V.TemplateValue.contents in
    subst (λ (k : Call g.row.V.Denot g.row.V-Fault.Denot). IsWhole (tree.call (expr_tree v k.expr) (args_of v k.args.items))) (sym c.node-call.ensures) c.requires.0

pub stmt::call_block-end_call-requires-clause-whole : goal.stmt::call_block-end_call-requires-clause-whole
stmt::call_block-end_call-requires-clause-whole g t c =
    let v = g.V.TemplateValue.contents in
    subst (λ (k : Call g.row.V.Denot g.row.V-Fault.Denot). IsWhole (tree.call (expr_tree v k.expr) (args_of v k.args.items))) (sym c.node-call.ensures) c.requires.0

pub stmt::call_block-macro_value-requires : goal.stmt::call_block-macro_value-requires
stmt::call_block-macro_value-requires g t c =
    let v = g.V.TemplateValue.contents in
    λ κs live. (search (rules, the_lemmas, call_lemmas), (search rules, (search rules, subst (λ (m : Macro g.row.V.Denot g.row.V-Fault.Denot). IsMacro (macro_tree v m)) (sym c.node.ensures) c.requires.1)))

pub stmt::call_block-returns-clause-added : goal.stmt::call_block-returns-clause-added
stmt::call_block-returns-clause-added g t c =
    let v = g.V.TemplateValue.contents in
    let f = g.V.TemplateValue.functions in
    let b = c.args.block.now in
    let k = c.node-call.result.now in
    let is = ap (λ (q : Call g.row.V.Denot g.row.V-Fault.Denot). tree.call_block (expr_tree v q.expr) (args_of v q.args.items) (macro_tree v (node_of (macro_at b)))) (sym c.node-call.ensures) in
    ok_gives c.add.result (λ s. elim c.match-branch-2.branch [
      | stmt::call_block-in-Some+in_ok-macro_value+in_ok-end_call w ↦
          let m = w.node.result.now in
          let same = is ∙ ap (λ (q : Macro g.row.V.Denot g.row.V-Fault.Denot). tree.call_block (expr_tree v k.expr) (args_of v k.args.items) (macro_tree v q)) (sym w.node.ensures) in
          let begun = subst (λ o. BeginsCall f (expr_tree v k.expr) (args_of v k.args.items) o (made_of v c.open-outer.new.self) (made_of v c.begin_call.new.code)) w.in-Some.is c.in_ok-counts.ensures.begun in
          let writes = adds_from (c.close.ensures.made ∙ ap (λ (q : Emitter g.row.V.Denot g.row.V-Fault.Denot). made_of v q) w.code-is) s in
          rw w.enclosing-is (stmt_as f (call_block_tree v b) same (call_block_follows f (expr_tree v k.expr) (args_of v k.args.items) (macro_tree v m) begun.takes (adds_from c.open-outer.ensures.made begun.added) w.in_ok-macro_value.ensures.added w.in_ok-macro_value.ensures.counted w.in_ok-end_call.ensures.added writes))
      | stmt::call_block-in_default w ↦
          let whole = subst (λ o. BeginsCall f (expr_tree v k.expr) (args_of v k.args.items) o (made_of v c.open-outer.new.self) (made_of v c.begin_call.new.code)) w.in_default.is c.in_ok-counts.ensures.begun in
          let all : WholeBlock (expr_tree v k.expr) (made_of v c.args.code.now) (made_of v c.begin_call.new.code) = record { name = whole.name; is = whole.is; added = adds_from c.open-outer.ensures.made whole.added } in
          let writes = adds_from (c.close.ensures.made ∙ ap (λ (q : Emitter g.row.V.Denot g.row.V-Fault.Denot). made_of v q) w.code-is) s in
          rw w.enclosing-is (stmt_as f (call_block_tree v b) is (block_call_follows f (expr_tree v k.expr) (args_of v k.args.items) (around_of c.args.enclosing.now) (macro_tree v (node_of (macro_at b))) all writes))
    ]) c.add.ensures.added

pub stmt::call_block-returns-clause-marked : goal.stmt::call_block-returns-clause-marked
stmt::call_block-returns-clause-marked g t c =
    let v = g.V.TemplateValue.contents in
    let f = g.V.TemplateValue.functions in
    let b = c.args.block.now in
    let k = c.node-call.result.now in
    let m = margin_of c.args.code.now in
    let outer = c.open-outer.result in
    let args = node_args v k.args.items in
    let macro = marks.macro_value f (macro_node v (macro_at b)) in
    let begins = c.in_ok-counts.ensures.marked ∙ ap (node_marks.call_begin (callee (expr_tree v k.expr)) (marks.base f (expr_node v k.expr)) (expr f (expr_node v k.expr)) (node_marks.up_to_caller f args)) c.open-outer.ensures.marked in
    let as_node = ap₂ (λ (q : Call g.row.V.Denot g.row.V-Fault.Denot) u. call_block_marks f (expr_node v q.expr) (node_args v q.args.items) u macro m) c.node-call.ensures c.span.ensures in
    with_ok c.add.result c.add.ensures.marked (λ s. elim c.match-branch-2.branch [
      | stmt::call_block-in-Some+in_ok-macro_value+in_ok-end_call w ↦
          let begun = subst (λ o. BeginsCall f (expr_tree v k.expr) (args_of v k.args.items) o (made_of v c.open-outer.new.self) (made_of v c.begin_call.new.code)) w.in-Some.is c.in_ok-counts.ensures.begun in
          let takes = macro_as f v (margin_of c.begin_call.new.code) (macro_at b) w.node.result.now w.span-in-Some.result w.node.ensures w.span-in-Some.ensures w.in_ok-macro_value.ensures.marked in
          let shuts = c.close.ensures.marked ∙ ap (λ (q : Emitter g.row.V.Denot g.row.V-Fault.Denot). margins.closed outer (margin_of q)) w.code-is in
          written_marked f outer (margin_of w.end_call.new.code) s shuts (called_marked f v k.expr args macro c.span.result outer m begun.takes c.open-outer.ensures.outer begins takes w.in_ok-end_call.ensures.marked ∙ as_node)
      | stmt::call_block-in_default w ↦
          let whole = subst (λ o. BeginsCall f (expr_tree v k.expr) (args_of v k.args.items) o (made_of v c.open-outer.new.self) (made_of v c.begin_call.new.code)) w.in_default.is c.in_ok-counts.ensures.begun in
          let shuts = c.close.ensures.marked ∙ ap (λ (q : Emitter g.row.V.Denot g.row.V-Fault.Denot). margins.closed outer (margin_of q)) w.code-is in
          written_marked f outer (margin_of c.begin_call.new.code) s shuts (block_called_marked f v k.expr whole.name args macro c.span.result outer m whole.is c.open-outer.ensures.outer begins ∙ as_node)
    ])

pub stmt::statement-returns-in-Template-clause-marked : goal.stmt::statement-returns-in-Template-clause-marked
stmt::statement-returns-in-Template-clause-marked g t c =
    let v = g.V.TemplateValue.contents in
    let f = g.V.TemplateValue.functions in
    let os = (around_of c.args.enclosing.now).opened in
    let m = margin_of c.args.code.now in
    with_ok c.statements.result c.statements.ensures.marked (λ s. node_as f v m os c.args.stmt.now (template_node v c.args.stmt.now c.in-Template.template c.node.result.now c.span.result c.in-Template.is c.node.ensures c.span.ensures)
    (template_marked f v os c.node.result.now.children.items c.span.result m c.on_line.ensures.marked c.deref.ensures.value s))

pub stmt::statement-returns-in-EmitExpr-clause-marked : goal.stmt::statement-returns-in-EmitExpr-clause-marked
stmt::statement-returns-in-EmitExpr-clause-marked g t c =
    let v = g.V.TemplateValue.contents in
    let f = g.V.TemplateValue.functions in
    let os = (around_of c.args.enclosing.now).opened in
    let m = margin_of c.args.code.now in
    let p = c.in-EmitExpr.output in
    let n = c.node-in-EmitExpr.result.now in
    with_ok c.emit_expr.result c.emit_expr.ensures.marked (λ s. node_as f v m os c.args.stmt.now (output_node v c.args.stmt.now p n (span_of p) c.in-EmitExpr.is c.node-in-EmitExpr.ensures refl) (output_marks f v m os n.expr (span_of p) s))

pub stmt::statement-returns-in_ok-macro_value-in-Macro-clause-marked : goal.stmt::statement-returns-in_ok-macro_value-in-Macro-clause-marked
stmt::statement-returns-in_ok-macro_value-in-Macro-clause-marked g t c =
    let v = g.V.TemplateValue.contents in
    let f = g.V.TemplateValue.functions in
    let os = (around_of c.args.enclosing.now).opened in
    let m = margin_of c.args.code.now in
    let n = c.node-in-Macro.result.now in
    let d = spanned.macro n.name.now (trees v n.args.items) (trees v n.defaults.items) (nodes_of v n.body.items) c.span-in-Macro.result in
    with_ok c.add-in-Macro.result c.add-in-Macro.ensures.marked (λ s. node_as f v m os c.args.stmt.now (declare_node v c.args.stmt.now c.in-Macro.declared n c.span-in-Macro.result c.in-Macro.is c.node-in-Macro.ensures c.span-in-Macro.ensures)
    (declared_marked f os d m c.in_ok-macro_value-in-Macro.ensures.marked s))

pub macro_statements::macro_value-returns-clause-marked : goal.macro_statements::macro_value-returns-clause-marked
macro_statements::macro_value-returns-clause-marked g t c =
    let v = g.V.TemplateValue.contents in
    let f = g.V.TemplateValue.functions in
    with_ok c.build.result c.build.ensures.marked (λ s. macro_built f v c.args.declared.now c.args.span (margin_of c.args.code.now) c.on_line.ensures.marked c.in_ok-jump.ensures.marked c.deref.ensures.value c.deref-2.ensures.value c.in_ok-take.ensures.marked
    (ap (λ (a : Around). a.opened) c.outside-inner.ensures) c.deref-3.ensures.value c.in_ok-statements.ensures.marked c.in_ok-add.ensures.marked c.fill.ensures.marked s)
