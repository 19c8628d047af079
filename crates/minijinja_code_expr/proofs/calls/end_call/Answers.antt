use Rattle.std.proofs.Common.{[], ap, subst}
use Rattle.std.specs.Prelude.{OnOk}
use Rattle.minijinja_tree.specs.Callees.{Callee, function, method, object}
use Rattle.minijinja_tree.specs.Erasure.{args_of, expr_tree}
use Rattle.minijinja_semantics.specs.Code as code
use Rattle.minijinja_semantics.specs.Events as event
use Rattle.minijinja_semantics.specs.Pieces.{one}
use Rattle.minijinja_code_expr.specs.internal.Callers.{behind_caller}
use Rattle.minijinja_emitter.specs.internal.AtEmitter.{made_of}
use Rattle.minijinja_emitter.specs.internal.Making.{Adds}
use Rattle.minijinja_emitter.proofs.Adding.{adds_as, adds_then}
use Rattle.minijinja_code_expr.proofs.Results.{ok_gives}
use Rattle.minijinja_code_expr.proofs.calls.end_call.Goals as goal

pub returns-in_ok-count-in-Function-clause-added : goal.returns-in_ok-count-in-Function-clause-added
returns-in_ok-count-in-Function-clause-added g c =
    let v = g.V.TemplateValue.contents in
    let made = made_of v in
    let r = c.add.result in
    let all = ok_gives r (λ s. adds_then c.in_ok-count-in-Function.ensures.added (adds_as (ap (λ n. one (code.Call event.CallFunction c.in-Function.name.now n)) c.in_ok-count-in-Function.ensures.count) s)) c.add.ensures.added in
    subst (λ (k : Callee g.V.TemplateValue.Contents). OnOk r (Adds (made c.args.code.now) (made c.add.new.self) (behind_caller k (args_of v c.args.call.now.args.items)))) c.in-Function.ensures.callee
    (subst (λ xs. OnOk r (Adds (made c.args.code.now) (made c.add.new.self) (behind_caller (function c.in-Function.name.now) (args_of v xs)))) c.deref.ensures.value all)

pub returns-in_ok-count-in-Method-clause-added : goal.returns-in_ok-count-in-Method-clause-added
returns-in_ok-count-in-Method-clause-added g c =
    let v = g.V.TemplateValue.contents in
    let made = made_of v in
    let r = c.add-in-Method.result in
    let on = expr_tree v c.in-Method.field-0.now in
    let all = ok_gives r (λ s. adds_then c.in_ok-count-in-Method.ensures.added (adds_as (ap (λ n. one (code.Call event.CallMethod c.in-Method.name.now n)) c.in_ok-count-in-Method.ensures.count) s)) c.add-in-Method.ensures.added in
    subst (λ (k : Callee g.V.TemplateValue.Contents). OnOk r (Adds (made c.args.code.now) (made c.add-in-Method.new.self) (behind_caller k (args_of v c.args.call.now.args.items)))) c.in-Method.ensures.callee
    (subst (λ xs. OnOk r (Adds (made c.args.code.now) (made c.add-in-Method.new.self) (behind_caller (method on c.in-Method.name.now) (args_of v xs)))) c.deref-in-Method.ensures.value all)

pub returns-in_ok-count-in-Object-clause-added : goal.returns-in_ok-count-in-Object-clause-added
returns-in_ok-count-in-Object-clause-added g c =
    let v = g.V.TemplateValue.contents in
    let made = made_of v in
    let r = c.add-in-Object.result in
    let called = expr_tree v c.in-Object.field-0.now in
    let all = ok_gives r (λ s. adds_then c.in_ok-count-in-Object.ensures.added (adds_as (ap (λ n. one (code.Call event.CallObject [] n)) c.in_ok-count-in-Object.ensures.count) s)) c.add-in-Object.ensures.added in
    subst (λ (k : Callee g.V.TemplateValue.Contents). OnOk r (Adds (made c.args.code.now) (made c.add-in-Object.new.self) (behind_caller k (args_of v c.args.call.now.args.items)))) c.in-Object.ensures.callee
    (subst (λ xs. OnOk r (Adds (made c.args.code.now) (made c.add-in-Object.new.self) (behind_caller (object called) (args_of v xs)))) c.deref-in-Object.ensures.value all)
