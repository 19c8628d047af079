use Rattle.std.proofs.Common.{List, sym, subst}
use Rattle.minijinja_tree.specs.Callees.{Callee, callee}
use Rattle.minijinja_tree.specs.Erasure.{args_of, expr_tree}
use Rattle.minijinja_tree.specs.SpannedErasure.{expr_node}
use Rattle.minijinja_tree.specs.SpannedErasure as node
use Rattle.minijinja_semantics.specs.Layout.{up_to_caller}
use Rattle.minijinja_tree_expr.specs.declared.ast.CallArg.{CallArg}
use Rattle.minijinja_semantics.specs.Marks as marks
use Rattle.minijinja_semantics.specs.Places.{before_caller}
use Rattle.minijinja_code_expr.specs.internal.Callers.{AreCounts, TakesCaller, front_of}
use Rattle.minijinja_code_expr.specs.internal.NodeMarks.{up_to_caller as up_to}
use Rattle.minijinja_emitter.specs.internal.AtEmitter.{made_of, margin_of}
use Rattle.minijinja_emitter.specs.internal.Making.{Adds}
use Rattle.minijinja_code_expr.proofs.CallerStarts.{method_begun, object_begun}
use Rattle.minijinja_code_expr.proofs.CallMarks.{called_object, method_begun_marks, method_object, object_begun_marks}
use Rattle.minijinja_code_expr.proofs.Calling.{method_whole, object_whole}
use Rattle.minijinja_code_expr.proofs.calls.begin_call.Goals as goal

pub expression-requires : goal.expression-requires
expression-requires g c =
    let v = g.V.TemplateValue.contents in
    method_whole (expr_tree v c.args.call.now.expr) (args_of v c.args.call.now.args.items) (expr_tree v c.in-Method.object.now) c.in-Method.field-1.now (sym c.in-Method.ensures.callee) c.requires

pub expression-requires-in-Object : goal.expression-requires-in-Object
expression-requires-in-Object g c =
    let v = g.V.TemplateValue.contents in
    object_whole (expr_tree v c.args.call.now.expr) (args_of v c.args.call.now.args.items) (expr_tree v c.in-Object.object.now) (sym c.in-Object.ensures.callee) c.requires

pub returns-in_ok-counts-in-Function-clause-begun : goal.returns-in_ok-counts-in-Function-clause-begun
returns-in_ok-counts-in-Function-clause-begun g c =
    let v = g.V.TemplateValue.contents in
    let f = g.V.TemplateValue.functions in
    let e = expr_tree v c.args.call.now.expr in
    let args = args_of v c.args.call.now.args.items in
    let k = c.in_ok-counts-in-Function.counts in
    let are = subst (λ xs. AreCounts (args_of v xs) 0 k) c.deref.ensures.value c.in_ok-counts-in-Function.ensures.counts in
    let added = subst (λ xs. Adds (made_of v c.args.code.now) (made_of v c.up_to_caller.new.code) (up_to_caller f (args_of v xs) 0)) c.deref.ensures.value c.in_ok-counts-in-Function.ensures.added in
    record {
      takes = subst (λ (k : Callee g.V.TemplateValue.Contents). TakesCaller k) c.in-Function.ensures.callee tt;
      counts = subst (λ (j : Callee g.V.TemplateValue.Contents). AreCounts args (front_of j) k) c.in-Function.ensures.callee are;
      added = subst (λ (j : Callee g.V.TemplateValue.Contents). Adds (made_of v c.args.code.now) (made_of v c.up_to_caller.new.code) (before_caller f j e args)) c.in-Function.ensures.callee added;
    }

pub returns-in_ok-capture_block-in-Block-clause-begun : goal.returns-in_ok-capture_block-in-Block-clause-begun
returns-in_ok-capture_block-in-Block-clause-begun g c = record { name = c.in-Block.name.now; is = sym c.in-Block.ensures.callee; added = c.in_ok-capture_block-in-Block.ensures.added }

pub returns-in_ok-counts-in-Method-clause-begun : goal.returns-in_ok-counts-in-Method-clause-begun
returns-in_ok-counts-in-Method-clause-begun g c =
    let v = g.V.TemplateValue.contents in
    let f = g.V.TemplateValue.functions in
    let e = expr_tree v c.args.call.now.expr in
    let args = args_of v c.args.call.now.args.items in
    let k = c.in_ok-counts-in-Method.counts in
    let are = subst (λ xs. AreCounts (args_of v xs) 1 k) c.deref-in-Method.ensures.value c.in_ok-counts-in-Method.ensures.counts in
    let added = subst (λ xs. Adds (made_of v c.expression.new.code) (made_of v c.up_to_caller-in-Method.new.code) (up_to_caller f (args_of v xs) 1)) c.deref-in-Method.ensures.value c.in_ok-counts-in-Method.ensures.added in
    record {
      takes = subst (λ (j : Callee g.V.TemplateValue.Contents). TakesCaller j) c.in-Method.ensures.callee tt;
      counts = subst (λ (j : Callee g.V.TemplateValue.Contents). AreCounts args (front_of j) k) c.in-Method.ensures.callee are;
      added = method_begun f e args (expr_tree v c.in-Method.object.now) c.in-Method.field-1.now (sym c.in-Method.ensures.callee) c.in_ok-expression-in-Method.ensures.added added;
    }

pub returns-in_ok-counts-in-Object-clause-begun : goal.returns-in_ok-counts-in-Object-clause-begun
returns-in_ok-counts-in-Object-clause-begun g c =
    let v = g.V.TemplateValue.contents in
    let f = g.V.TemplateValue.functions in
    let e = expr_tree v c.args.call.now.expr in
    let args = args_of v c.args.call.now.args.items in
    let k = c.in_ok-counts-in-Object.counts in
    let are = subst (λ xs. AreCounts (args_of v xs) 1 k) c.deref-in-Object.ensures.value c.in_ok-counts-in-Object.ensures.counts in
    let added = subst (λ xs. Adds (made_of v c.expression-in-Object.new.code) (made_of v c.up_to_caller-in-Object.new.code) (up_to_caller f (args_of v xs) 1)) c.deref-in-Object.ensures.value c.in_ok-counts-in-Object.ensures.added in
    record {
      takes = subst (λ (j : Callee g.V.TemplateValue.Contents). TakesCaller j) c.in-Object.ensures.callee tt;
      counts = subst (λ (j : Callee g.V.TemplateValue.Contents). AreCounts args (front_of j) k) c.in-Object.ensures.callee are;
      added = object_begun f e args (expr_tree v c.in-Object.object.now) (sym c.in-Object.ensures.callee) c.in_ok-expression-in-Object.ensures.added added;
    }

pub returns-in_ok-counts-in-Method-clause-marked : goal.returns-in_ok-counts-in-Method-clause-marked
returns-in_ok-counts-in-Method-clause-marked g c =
    let v = g.V.TemplateValue.contents in
    let f = g.V.TemplateValue.functions in
    let called = c.args.call.now.expr in
    let k = callee (expr_tree v called) in
    let base = marks.base f (expr_node v called) in
    let value = marks.expr f (expr_node v called) in
    let given = λ (xs : List (CallArg g.row.V.Denot g.row.V-Fault.Denot)). up_to f (node.args_of v xs) in
    let object = c.in-Method.object.now in
    method_begun_marks k base value given c.args.call.now.args.items (margin_of c.args.code.now) (expr_tree v object) c.in-Method.field-1.now c.deref-in-Method.result.now (marks.expr f (expr_node v object)) c.in-Method.ensures.callee c.deref-in-Method.ensures.value
    (method_object f v called object c.in-Method.ensures.own) c.in_ok-expression-in-Method.ensures.marked c.in_ok-counts-in-Method.ensures.marked

pub returns-in_ok-counts-in-Object-clause-marked : goal.returns-in_ok-counts-in-Object-clause-marked
returns-in_ok-counts-in-Object-clause-marked g c =
    let v = g.V.TemplateValue.contents in
    let f = g.V.TemplateValue.functions in
    let called = c.args.call.now.expr in
    let k = callee (expr_tree v called) in
    let base = marks.base f (expr_node v called) in
    let value = marks.expr f (expr_node v called) in
    let given = λ (xs : List (CallArg g.row.V.Denot g.row.V-Fault.Denot)). up_to f (node.args_of v xs) in
    let object = c.in-Object.object.now in
    object_begun_marks k base value given c.args.call.now.args.items (margin_of c.args.code.now) (expr_tree v object) c.deref-in-Object.result.now (marks.expr f (expr_node v object)) c.in-Object.ensures.callee c.deref-in-Object.ensures.value
    (called_object f v called object c.in-Object.ensures.own) c.in_ok-expression-in-Object.ensures.marked c.in_ok-counts-in-Object.ensures.marked
