-- Words name the paths after `--`, or themselves, and nothing else.
use Rattle.std.proofs.Common.{◌∙◌, sym}
use Rattle.mjc_commands.proofs.Requests.{is_mark, name_bare, name_marked, names_nothing, no_mark, none_marked}
use Rattle.mjc_commands.proofs.usage.paths_in.Goals as goal
use Rattle.mjc_commands.proofs.usage.paths_in.Goals.{in_default-via-in-Some+else-eq, in_default-via-in_default}

pub returns-in-Some-clause-some : goal.returns-in-Some-clause-some
returns-in-Some-clause-some c =
    name_marked c.args.words.now c.in-Some.paths.now c.in-Some.word.now (c.in-Some.ensures.cases).0 (is_mark c.in-Some.word.now.now (sym c.eq.ensures ∙ c.if-eq.true))

pub returns-in_default-clause-some : goal.returns-in_default-clause-some
returns-in_default-clause-some c = name_bare c.args.words.now (c.are_files.ensures.0 c.if-are_files.true)

pub returns-in_default-2-clause-none : goal.returns-in_default-2-clause-none
returns-in_default-2-clause-none c = λ none.
    names_nothing c.args.words.now (elim c.in_default.branch [
      | in_default-via-in-Some+else-eq w ↦ no_mark c.args.words.now w.in-Some.word.now w.in-Some.paths.now (w.in-Some.ensures.cases).0 (sym w.eq.ensures ∙ w.if-eq.false)
      | in_default-via-in_default w ↦ none_marked c.args.words.now (w.in_default.ensures.cases)
    ]) (λ all. let is = c.are_files.ensures.1 all in let not = c.if-are_files.false in cc)
