-- Compiled code does what its tree means, and a run of it goes as the tree means.
use Rattle.std.proofs.Common.{[], ap, length, map, refl, subst, sym}
use Rattle.std.specs.Prelude.{reverse}
use Rattle.minijinja_value.specs.ValueFunctions.{value_functions}
use Rattle.minijinja_value.specs.ValueViews.{contents_of}
use Rattle.minijinja_semantics.specs.Correct.{a_statement}
use Rattle.minijinja_instructions.specs.Instructions.{code_of}
use Rattle.minijinja_replay.specs.Replay.{EndsInTime, IsRun, answer_of}
use Rattle.minijinja_replay.specs.declared.replay.Entry.TheVariants as entry
use Rattle.minijinja_replay.proofs.Ending.{in_time_by}
use Rattle.minijinja_replay.proofs.Meaning.{is_meant}
use Rattle.mjc_commands.proofs.Commands.{if_ok}
use Rattle.mjc_commands.proofs.template.replay_template.Goals as goal

pub replay-requires-clause-ends : goal.replay-requires-clause-ends
replay-requires-clause-ends c =
    let code = code_of contents_of c.args.code.now.instructions in
    let answers = map (answer_of contents_of) c.args.answers.items in
    let none = ap (λ xs. reverse (map contents_of xs)) c.new.ensures.items in
    subst (λ given. EndsInTime value_functions code entry.Start given answers) (sym none)
    (in_time_by value_functions code (a_statement 0 (length code)) _ answers entry.Start (c.requires.compiled.compiled.does [] [] answers c.requires.few) refl refl)

pub returns-clause-run : goal.returns-clause-run
returns-clause-run c =
    let code = code_of contents_of c.args.code.now.instructions in
    let answers = map (answer_of contents_of) c.args.answers.items in
    let none = ap (λ xs. reverse (map contents_of xs)) c.new.ensures.items in
    if_ok c.replay.result
    (λ run is. subst (λ given. IsRun value_functions contents_of (λ fault. fault) code entry.Start given answers run) none is)
    c.replay.ensures.run

pub returns-clause-meant : goal.returns-clause-meant
returns-clause-meant c =
    let code = code_of contents_of c.args.code.now.instructions in
    let answers = map (answer_of contents_of) c.args.answers.items in
    let none = ap (λ xs. reverse (map contents_of xs)) c.new.ensures.items in
    if_ok c.replay.result
    (λ run is syntax source filename compiled.
    is_meant value_functions contents_of (λ fault. fault) code (a_statement 0 (length code)) _ answers entry.Start run (compiled.does [] [] answers c.requires.few) refl refl
    (subst (λ given. IsRun value_functions contents_of (λ fault. fault) code entry.Start given answers run) none is))
    c.replay.ensures.run
