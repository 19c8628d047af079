use Rattle.std.proofs.Common.{◌∙◌, ◌<◌, ◌^◌, length, sym, subst}
use Rattle.minijinja_tree.specs.Erasure.{expr_tree}
use Rattle.minijinja_semantics.specs.Layout as layout
use Rattle.minijinja_emitter.specs.internal.AtEmitter.{made_of}
use Rattle.minijinja_code.proofs.Ending.{outcome_ok, both_ok, if_none, too_long}
use Rattle.minijinja_code.proofs.Uncapped.{target_uncapped}
use Rattle.minijinja_code_expr.proofs.Results.{ok_gives}
use Rattle.minijinja_code.proofs.codegen.CodeGenerator.compile_assignment.Goals as goal

pub returns-clause-added : goal.returns-clause-added
returns-clause-added g c =
    let v = g.V.TemplateValue.contents in
    let f = g.V.TemplateValue.functions in
    let m = made_of v c.args.self.now.code in
    let e = expr_tree v c.args.target.now in
    let r = c.ended.result in
    let adds = outcome_ok _ r c.assign-outcome.result tt c.ended.ensures.outcome c.assign-outcome.ensures.added in
    both_ok r adds c.ended.ensures.few (λ s small. c.ended.ensures.code ∙ target_uncapped f e s small)

pub returns-clause-past : goal.returns-clause-past
returns-clause-past g c =
    let v = g.V.TemplateValue.contents in
    let f = g.V.TemplateValue.functions in
    let m = made_of v c.args.self.now.code in
    let e = expr_tree v c.args.target.now in
    let r = c.ended.result in
    let adds = outcome_ok _ r c.assign-outcome.result tt c.ended.ensures.outcome c.assign-outcome.ensures.added in
    ok_gives r (λ s. c.ended.ensures.here ∙ s.past) adds

pub returns-clause-few : goal.returns-clause-few
returns-clause-few g c =
    ok_gives c.ended.result (subst (λ is. length is < 2 ^ 32) (sym c.ended.ensures.code)) c.ended.ensures.few

pub returns-clause-too_many : goal.returns-clause-too_many
returns-clause-too_many g c =
    let v = g.V.TemplateValue.contents in
    let f = g.V.TemplateValue.functions in
    let m = made_of v c.args.self.now.code in
    let e = expr_tree v c.args.target.now in
    let r = c.ended.result in
    let adds = outcome_ok _ r c.assign-outcome.result tt c.ended.ensures.outcome c.assign-outcome.ensures.added in
    if_none c.args.self.now.refusal (too_long r c.assign-outcome.result tt m (made_of v c.assign-outcome.new.code) (layout.target f e) c.ended.ensures.too_many c.assign-outcome.ensures.added)

pub returns-clause-marked : goal.returns-clause-marked
returns-clause-marked g c =
    let r = c.ended.result in
    ok_gives r (λ s. c.ended.ensures.margin ∙ s) (outcome_ok _ r c.assign-outcome.result tt c.ended.ensures.outcome c.assign-outcome.ensures.marked)
