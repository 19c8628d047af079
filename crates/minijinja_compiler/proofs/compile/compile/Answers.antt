use Rattle.std.proofs.Common.{◌<◌, ◌^◌, ◌++◌, ◌∙◌, [], length, sym, ap, subst}
use Rattle.std.proofs.lemmas.Result.{err_from_is_err_and}
use Rattle.minijinja_tree.specs.Erasure.{stmt_tree}
use Rattle.minijinja_tree.specs.SpannedErasure.{stmt_node}
use Rattle.minijinja_tree.specs.Tree.{blocks}
use Rattle.minijinja_tree.proofs.Bare.{stmt_is}
use Rattle.minijinja_semantics.specs.Jumps.{LeadsWell}
use Rattle.minijinja_semantics.specs.Pieces.{start}
use Rattle.minijinja_semantics.proofs.Leads.{layout_leads_well}
use Rattle.minijinja_instructions.specs.Instructions.{code_of}
use Rattle.minijinja_semantics.specs.Layout.{stmt_code}
use Rattle.minijinja_semantics.specs.Marks.{Margin}
use Rattle.minijinja_semantics.specs.Marks as marks
use Rattle.minijinja_semantics.specs.Correct.{DoesStmt}
use Rattle.minijinja_semantics.specs.Places.{placed_stmt}
use Rattle.minijinja_semantics.specs.Units.{DoUnits}
use Rattle.minijinja_code.specs.internal.AtGenerator.{generated, here_so_far, open_of, refusal_of}
use Rattle.minijinja_code.specs.BlockMarks.{HaveMarks, marked_blocks}
use Rattle.minijinja_code.specs.Generator.{HaveTooLong, OnlyWhereOneIsTooLong}
use Rattle.minijinja_code.specs.Hint.{data_bytes}
use Rattle.minijinja_compiler.proofs.BlockNames.{compiled_lists}
use Rattle.minijinja_compiler.proofs.Parts.{closed_still, whole_code, whole_does, limit_of_parser, never_refusal, generator_unplaced, never_another, parser_unplaced, too_long_lists, unkept, hint_of_all}
use Rattle.minijinja_compiler.proofs.compile.compile.Goals as goal

pub finish-instructions-requires : goal.finish-instructions-requires
finish-instructions-requires g c =
    let done = c.in_ok-compile_stmt.ensures in
    closed_still (refusal_of c.compile_stmt.new.self) (open_of c.compile_stmt.new.self) done.ready (done.left_open ∙ c.new-generator.ensures.left_open)

pub returns-clause-compiled : goal.returns-clause-compiled
returns-clause-compiled g c =
    let v = g.V.TemplateValue.contents in
    let f = g.V.TemplateValue.functions in
    let tree = stmt_tree v c.in_ok-template.template in
    let made = c.new-generator.result in
    let before = generated v made in
    let after = generated v c.compile_stmt.new.self in
    let code = code_of v c.finish-instructions.result.0 in
    let done = c.in_ok-compile_stmt.ensures in
    let parsed = c.in_ok-template.ensures in
    let empty = c.new-generator.ensures.empty in
    let finished = c.finish-instructions.ensures.code in
    let nodes = stmt_node v c.in_ok-template.template in
    record {
      tree = tree;
      nodes = nodes;
      bare = stmt_is v c.in_ok-template.template;
      places = parsed.places;
      stands = parsed.spans;
      marks = c.finish-instructions.ensures.marks ∙ ap (λ (t : Margin). t.marks) (done.marked ∙ ap (marks.stmt f [] nodes) c.new-generator.ensures.margin);
      block_marks = subst (HaveMarks f (marked_blocks nodes)) (sym c.finish-instructions.ensures.blocks) done.block_marks;
      derived = parsed.found;
      only = λ t d. sym (parsed.only t d);
      code = whole_code before after code (here_so_far v made) (stmt_code f tree) empty c.new-generator.ensures.here done.added finished;
      does = whole_does (λ is from to. DoesStmt f is from to (placed_stmt f tree start)) before after code empty
          (subst (λ h. DoesStmt f after (length before) (length after) (placed_stmt f tree h)) c.new-generator.ensures.here done.does) finished;
      units = subst (λ is. DoUnits f is tree start) (sym finished) (subst (λ h. DoUnits f after tree h) c.new-generator.ensures.here done.units);
      few = subst (λ is. length is < 2 ^ 32) (sym finished) done.few;
      leads = subst LeadsWell (sym (whole_code before after code (here_so_far v made) (stmt_code f tree) empty c.new-generator.ensures.here done.added finished)) (layout_leads_well f tree c.in_ok-template.ensures.well_formed);
      required = c.finish-instructions.ensures.required;
      hint = hint_of_all (data_bytes tree) _ _ c.buffer_size_hint-buffer_size_hint.result c.new-generator.ensures.bytes done.counted c.buffer_size_hint-buffer_size_hint.ensures;
      lists = compiled_lists f v _ _ _ _ (blocks tree) _ _ _ c.new-generator.ensures.blocks done.blocks
          c.finish-instructions.ensures.blocks c.new-generator.ensures.source c.new-generator.ensures.name;
      name = c.finish-instructions.ensures.name ∙ done.name ∙ c.new-generator.ensures.name;
      text = c.finish-instructions.ensures.source ∙ done.source ∙ c.new-generator.ensures.source;
    }

pub returns-in_err-compile_stmt-clause-refused : goal.returns-in_err-compile_stmt-clause-refused
returns-in_err-compile_stmt-clause-refused g c =
    never_refusal _ _ c.in_err-compile_stmt.field-0.0 _ c.new-generator.ensures.refusal c.in_err-compile_stmt.ensures.causes c.from_residual-in_err-compile_stmt.ensures.1

pub returns-in_err-compile_stmt-clause-placed : goal.returns-in_err-compile_stmt-clause-placed
returns-in_err-compile_stmt-clause-placed g c =
    never_refusal _ _ c.in_err-compile_stmt.field-0.0 _ c.new-generator.ensures.refusal c.in_err-compile_stmt.ensures.causes c.from_residual-in_err-compile_stmt.ensures.1

pub returns-in_err-compile_stmt-clause-unplaced : goal.returns-in_err-compile_stmt-clause-unplaced
returns-in_err-compile_stmt-clause-unplaced g c =
    generator_unplaced _ c.in_err-compile_stmt.field-0.0 _ c.new-generator.ensures.refusal c.in_err-compile_stmt.ensures.unplaced c.from_residual-in_err-compile_stmt.ensures.1

pub returns-in_err-compile_stmt-clause-named : goal.returns-in_err-compile_stmt-clause-named
returns-in_err-compile_stmt-clause-named g c =
    never_another _ _ c.in_err-compile_stmt.field-0.0 _ c.new-generator.ensures.refusal c.in_err-compile_stmt.ensures.causes c.from_residual-in_err-compile_stmt.ensures.1

-- a refusal of the parser
pub returns-in_err-template-clause-refused : goal.returns-in_err-template-clause-refused
returns-in_err-template-clause-refused g c =
    let p = err_from_is_err_and c.from_residual.result c.from_residual.ensures.1 in
    rw (p.1, p.2) c.in_err-template.ensures.refused

pub returns-in_err-template-clause-placed : goal.returns-in_err-template-clause-placed
returns-in_err-template-clause-placed g c =
    let p = err_from_is_err_and c.from_residual.result c.from_residual.ensures.1 in
    rw (p.1, p.2) c.in_err-template.ensures.placed

pub returns-in_err-template-clause-unplaced : goal.returns-in_err-template-clause-unplaced
returns-in_err-template-clause-unplaced g c =
    let p = err_from_is_err_and c.from_residual.result c.from_residual.ensures.1 in
    rw (p.1, p.2) (parser_unplaced c.in_err-template.field-0.0 c.in_err-template.ensures.causes c.in_err-template.ensures.unplaced)

pub returns-in_err-template-clause-accepted : goal.returns-in_err-template-clause-accepted
returns-in_err-template-clause-accepted g c = λ t d.
    let p = err_from_is_err_and c.from_residual.result c.from_residual.ensures.1 in
    rw (p.1, p.2) (limit_of_parser c.in_err-template.field-0.0 (c.in_err-template.ensures.only t d))

pub returns-in_err-compile_stmt-clause-too_many_only : goal.returns-in_err-compile_stmt-clause-too_many_only
returns-in_err-compile_stmt-clause-too_many_only g c =
    let v = g.V.TemplateValue.contents in
    let f = g.V.TemplateValue.functions in
    let tree = stmt_tree v c.in_ok-template.template in
    let made = c.new-generator.result in
    let e = c.in_err-compile_stmt.field-0.0 in
    let p = err_from_is_err_and c.from_residual-in_err-compile_stmt.result c.from_residual-in_err-compile_stmt.ensures.1 in
    rw (p.1, p.2) (λ k. record {
      tree = tree;
      derived = c.in_ok-template.ensures.found;
      long = too_long_lists (generated v made) (here_so_far v made) (stmt_code f tree) e (HaveTooLong f (blocks tree)) c.new-generator.ensures.empty c.new-generator.ensures.here
          (unkept {A = OnlyWhereOneIsTooLong f e (generated v made ++ stmt_code f tree (here_so_far v made)) (blocks tree)} _ c.new-generator.ensures.refusal c.in_err-compile_stmt.ensures.too_many) k;
    })
