use Rattle.std.proofs.Common.{◌∙◌, ◌<◌, ◌^◌, ◌++◌, List, Result, Ok, Err, length, refl, sym, subst}
use Rattle.minijinja_syntax.specs.declared.error.Error.{Error}
use Rattle.minijinja_tree.specs.Erasure.{stmt_tree}
use Rattle.minijinja_tree.specs.Tree.{blocks}
use Rattle.minijinja_semantics.specs.Code.{Instr}
use Rattle.minijinja_semantics.specs.Correct.{DoesStmt}
use Rattle.minijinja_semantics.specs.Laws.{Laws}
use Rattle.minijinja_semantics.specs.Places.{placed_stmt}
use Rattle.minijinja_semantics.specs.Units.{DoUnits}
use Rattle.minijinja_semantics.proofs.Whole.{statement_does, statement_units_do}
use Rattle.minijinja_emitter.specs.internal.AtEmitter.{made_of}
use Rattle.minijinja_emitter.specs.internal.Making.{here_of}
use Rattle.minijinja_code.specs.Generator.{OnlyWhereOneIsTooLong}
use Rattle.minijinja_code.specs.private.Statements.{stmt_piece}
use Rattle.minijinja_emitter.specs.declared.memory.OutOfMemory.{OutOfMemory}
use Rattle.minijinja_code.proofs.Ending.{always_ok, block_too_long, if_none, one_too_long, never_ok, never_long}
use Rattle.minijinja_code.proofs.OwnBlocks.{passed_on}
use Rattle.minijinja_code.proofs.Uncapped.{stmt_uncapped}
use Rattle.minijinja_code.proofs.codegen.CodeGenerator.compile_stmt.Goals as goal

pub returns-in_ok-ended-in-Ok-clause-added : goal.returns-in_ok-ended-in-Ok-clause-added
returns-in_ok-ended-in-Ok-clause-added g c =
    let v = g.V.TemplateValue.contents in
    let f = g.V.TemplateValue.functions in
    let m = made_of v c.args.self.now.code in
    let e = stmt_tree v c.args.stmt.now in
    let r = c.add_lists.result in
    let s = c.in-Ok.ensures.added in
    let small = c.in_ok-ended-in-Ok.ensures.few in
    always_ok r (c.add_lists.ensures.code ∙ c.ended.ensures.code ∙ stmt_uncapped f e c.requires s small)

pub returns-in_ok-ended-in-Ok-clause-past : goal.returns-in_ok-ended-in-Ok-clause-past
returns-in_ok-ended-in-Ok-clause-past g c =
    let v = g.V.TemplateValue.contents in
    let f = g.V.TemplateValue.functions in
    let m = made_of v c.args.self.now.code in
    let e = stmt_tree v c.args.stmt.now in
    let r = c.add_lists.result in
    let s = c.in-Ok.ensures.added in
    always_ok r (c.add_lists.ensures.here ∙ c.ended.ensures.here ∙ s.past)

pub returns-in_ok-ended-in-Ok-clause-few : goal.returns-in_ok-ended-in-Ok-clause-few
returns-in_ok-ended-in-Ok-clause-few g c =
    always_ok c.add_lists.result (subst (λ is. length is < 2 ^ 32) (sym (c.add_lists.ensures.code ∙ c.ended.ensures.code)) c.in_ok-ended-in-Ok.ensures.few)

pub returns-in_ok-ended-in-Ok-clause-does : goal.returns-in_ok-ended-in-Ok-clause-does
returns-in_ok-ended-in-Ok-clause-does g c =
    let v = g.V.TemplateValue.contents in
    let f = g.V.TemplateValue.functions in
    let m = made_of v c.args.self.now.code in
    let e = stmt_tree v c.args.stmt.now in
    let r = c.add_lists.result in
    let s = c.in-Ok.ensures.added in
    let laws : Laws f = record { truth = g.met.V.TemplateValue.is_true_of_bool; count = g.met.V.TemplateValue.as_count_of_u64; one_more = g.met.V.TemplateValue.add_one } in
    let small = c.in_ok-ended-in-Ok.ensures.few in
    always_ok r (subst (λ (code : List (Instr g.V.TemplateValue.Contents)). DoesStmt f code (length m.code) (length code) (placed_stmt f e (here_of m))) (sym (c.add_lists.ensures.code ∙ c.ended.ensures.code ∙ stmt_uncapped f e c.requires s small))
    (statement_does f laws m.code (here_of m) e refl c.requires))

pub returns-in_ok-ended-in-Ok-clause-units : goal.returns-in_ok-ended-in-Ok-clause-units
returns-in_ok-ended-in-Ok-clause-units g c =
    let v = g.V.TemplateValue.contents in
    let f = g.V.TemplateValue.functions in
    let m = made_of v c.args.self.now.code in
    let e = stmt_tree v c.args.stmt.now in
    let r = c.add_lists.result in
    let s = c.in-Ok.ensures.added in
    let laws : Laws f = record { truth = g.met.V.TemplateValue.is_true_of_bool; count = g.met.V.TemplateValue.as_count_of_u64; one_more = g.met.V.TemplateValue.add_one } in
    let small = c.in_ok-ended-in-Ok.ensures.few in
    always_ok r (subst (λ (code : List (Instr g.V.TemplateValue.Contents)). DoUnits f code e (here_of m)) (sym (c.add_lists.ensures.code ∙ c.ended.ensures.code ∙ stmt_uncapped f e c.requires s small))
    (statement_units_do f laws m.code (here_of m) e refl c.requires))

pub returns-in_ok-ended-in-Ok-clause-too_many : goal.returns-in_ok-ended-in-Ok-clause-too_many
returns-in_ok-ended-in-Ok-clause-too_many g c =
    let v = g.V.TemplateValue.contents in
    let f = g.V.TemplateValue.functions in
    let m = made_of v c.args.self.now.code in
    let e = stmt_tree v c.args.stmt.now in
    let r = c.add_lists.result in
    let s = c.in-Ok.ensures.added in
    if_none c.args.self.now.refusal (block_too_long f (blocks e) r _ c.add_lists.ensures.too_many)

pub returns-in_err-ended-in-Ok-clause-too_many : goal.returns-in_err-ended-in-Ok-clause-too_many
returns-in_err-ended-in-Ok-clause-too_many g c =
    let v = g.V.TemplateValue.contents in
    let f = g.V.TemplateValue.functions in
    let m = made_of v c.args.self.now.code in
    let e = stmt_tree v c.args.stmt.now in
    let s = c.in-Ok.ensures.added in
    let o : Result (Unit {0}) OutOfMemory = Ok tt in
    let refused : Result (Unit {0}) Error = Err c.in_err-ended-in-Ok.field-0.0 in
    let long = one_too_long f (blocks e) refused o tt m (made_of v c.compile_stmt.new.code) (stmt_piece f e) c.in_err-ended-in-Ok.ensures.too_many s in
    if_none c.args.self.now.refusal (passed_on (λ x. OnlyWhereOneIsTooLong f x (m.code ++ (stmt_piece f e).code (here_of m)) (blocks e)) c.from_residual.result c.in_err-ended-in-Ok.field-0.0 c.from_residual.ensures.1 long)

pub returns-in-Err-clause-added : goal.returns-in-Err-clause-added
returns-in-Err-clause-added g c = never_ok _ c.ended-in-Err.result c.in-Err.refused tt c.ended-in-Err.ensures.outcome

pub returns-in-Err-clause-past : goal.returns-in-Err-clause-past
returns-in-Err-clause-past g c = never_ok _ c.ended-in-Err.result c.in-Err.refused tt c.ended-in-Err.ensures.outcome

pub returns-in-Err-clause-few : goal.returns-in-Err-clause-few
returns-in-Err-clause-few g c = never_ok _ c.ended-in-Err.result c.in-Err.refused tt c.ended-in-Err.ensures.outcome

pub returns-in-Err-clause-does : goal.returns-in-Err-clause-does
returns-in-Err-clause-does g c = never_ok _ c.ended-in-Err.result c.in-Err.refused tt c.ended-in-Err.ensures.outcome

pub returns-in-Err-clause-units : goal.returns-in-Err-clause-units
returns-in-Err-clause-units g c = never_ok _ c.ended-in-Err.result c.in-Err.refused tt c.ended-in-Err.ensures.outcome

pub returns-in-Err-clause-counted : goal.returns-in-Err-clause-counted
returns-in-Err-clause-counted g c = never_ok _ c.ended-in-Err.result c.in-Err.refused tt c.ended-in-Err.ensures.outcome

pub returns-in-Err-clause-too_many : goal.returns-in-Err-clause-too_many
returns-in-Err-clause-too_many g c = if_none c.args.self.now.refusal (never_long _ _ c.ended-in-Err.result c.in-Err.refused tt c.ended-in-Err.ensures.too_many)

pub returns-in_ok-ended-in-Ok-clause-marked : goal.returns-in_ok-ended-in-Ok-clause-marked
returns-in_ok-ended-in-Ok-clause-marked g c = always_ok c.add_lists.result (c.add_lists.ensures.margin ∙ c.ended.ensures.margin ∙ c.in-Ok.ensures.marked)

pub returns-in-Err-clause-marked : goal.returns-in-Err-clause-marked
returns-in-Err-clause-marked g c = never_ok _ c.ended-in-Err.result c.in-Err.refused tt c.ended-in-Err.ensures.outcome

pub returns-in-Err-clause-block_marks : goal.returns-in-Err-clause-block_marks
returns-in-Err-clause-block_marks g c = never_ok _ c.ended-in-Err.result c.in-Err.refused tt c.ended-in-Err.ensures.outcome
