use Rattle.std.proofs.Common.{◌≡◌, ◌+◌, length, sym, ap, ◌∙◌, arith}
use Rattle.std.specs.Prelude.{if◌then◌else◌}
use Rattle.minijinja_semantics.specs.Code.{Jump, PushDidNotIterate}
use Rattle.minijinja_code.specs.Building.{Building}
use Rattle.minijinja_code.specs.internal.AtGenerator.{Rest, building, generated, refusal_of}
use Rattle.minijinja_code.proofs.Tried.{grown, tries_on}
use Rattle.minijinja_code.proofs.codegen.CodeGenerator.end_for_loop.Goals as goal
use Rattle.minijinja_code.proofs.codegen.CodeGenerator.end_for_loop.Goals.{then-push_did_not_iterate+in_ok-add-2, else-push_did_not_iterate}

pub returns-in_err-add-3-clause-tried : goal.returns-in_err-add-3-clause-tried
returns-in_err-add-3-clause-tried g c =
    let v = g.V.TemplateValue.contents in
    let d = c.in_err-add-3.field-0.0 in
    let n = length (generated v c.args.self.now) in
    let closed : length (generated v c.close_loop-asks.new.self) ≡ n = ap (λ (b : Building g.V.TemplateValue.Contents). length b.code) c.close_loop-asks.ensures.closed in
    let jumped : length (generated v c.add.new.self) ≡ length (generated v c.close_loop-asks.new.self) + 1 = grown (building v c.close_loop-asks.new.self) (Jump c.close_loop-asks.result) c.in_ok-add.ensures.added in
    let before = c.in_ok-add.ensures.rest ∙ c.close_loop-asks.ensures.rest in
    elim c.if-push_did_not_iterate.branch [
      | then-push_did_not_iterate+in_ok-add-2 w ↦
          let asked = grown (building v c.add.new.self) PushDidNotIterate w.in_ok-add-2.ensures.added in
          tries_on c.from_residual-in_err-add-3.result d
          (ap refusal_of w.self-is ∙ ap (λ (r : Rest g.row.V.Denot g.row.V-Fault.Denot). r.refusal) (w.in_ok-add-2.ensures.rest ∙ before))
          (ap (λ s. length (generated v s) + 1) w.self-is ∙ omega (arith, closed, jumped, asked) ∙ ap (λ b. n + (if b then 3 else 2)) (sym w.if-push_did_not_iterate.true))
          c.from_residual-in_err-add-3.ensures.1 c.in_err-add-3.ensures.tried
      | else-push_did_not_iterate w ↦
          tries_on c.from_residual-in_err-add-3.result d
          (ap refusal_of w.self-is ∙ ap (λ (r : Rest g.row.V.Denot g.row.V-Fault.Denot). r.refusal) before)
          (ap (λ s. length (generated v s) + 1) w.self-is ∙ omega (arith, closed, jumped) ∙ ap (λ b. n + (if b then 3 else 2)) (sym w.if-push_did_not_iterate.false))
          c.from_residual-in_err-add-3.ensures.1 c.in_err-add-3.ensures.tried
    ]
