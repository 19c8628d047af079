-- The words that were read are those of a command, of options and of paths.
use Rattle.std.proofs.Common.{rules, tests, arith, ◌≡◌, ◌≤◌, ap, codes, length, refl, subst, sym, ◌∙◌}
use Rattle.std.specs.Prelude.{count_by}
use Rattle.std.specs.Str.{bytes_eq}
use Rattle.std.specs.List.{fold}
use Rattle.std.specs.Borrow.{Bor}
use Rattle.std.proofs.lemmas.List.{length-map}
use Rattle.minijinja_syntax.specs.Texts.{Text}
use Rattle.mjc_commands.specs.Settings.{texts, with_setting}
use Rattle.mjc_commands.specs.Commands.{syntax_of, task_of}
use Rattle.mjc_commands.specs.private.AtUsage.{stands}
use Rattle.mjc_commands.proofs.Requests.{ask_for_each, name_once, not_several, several_alone, several_read, several_word, some_begin}
use Rattle.mjc_commands.proofs.usage.parse_several.Goals as goal
use Rattle.mjc_commands.proofs.usage.parse_several.Goals.{then-is_empty-via-then-is_empty, then-is_empty-via-else-is_empty+then-not-are_apart}

pub returns-clause-found : goal.returns-clause-found
returns-clause-found c =
    let behind = texts c.read_options.result.now in
    let paths = texts c.in_ok-paths.paths.now in
    let named = c.in_ok-paths.ensures.some in
    let begin = some_begin behind paths _ _ (ap texts (c.in_ok-file.ensures.cases).0) named in
    let said = c.read_options.ensures.behind begin in
    let heeded = c.read_options.ensures.heeded said.0 behind begin said.1 in
    let specified = heeded.1 ∙ ap (λ s. fold with_setting s said.0) c.none-options.ensures in
    ask_for_each c.args.args.now c.in_ok-word.word.now c.in_ok-word.rest.now behind (task_of c.in_ok-action.action) said.0 (syntax_of c.read_options.new.options) paths (c.in_ok-word.ensures.cases).0 c.in_ok-action.ensures.found.0 c.in_ok-action.ensures.found.1 named said.1 specified

pub returns-in_err-paths-clause-asked : goal.returns-in_err-paths-clause-asked
returns-in_err-paths-clause-asked c = λ task syntax paths asks.
    let read = several_read c.args.args.now c.in_ok-word.word.now c.in_ok-word.rest.now c.read_options.result.now (c.in_ok-word.ensures.cases).0 c.read_options.ensures.heeded task syntax paths asks in
    absurd (c.in_err-paths.ensures.none refl paths (stands asks.asked.mark read.0 asks.asked.files))

pub returns-in_err-file-clause-asked : goal.returns-in_err-file-clause-asked
returns-in_err-file-clause-asked c = λ task syntax paths asks.
    let read = several_read c.args.args.now c.in_ok-word.word.now c.in_ok-word.rest.now c.read_options.result.now (c.in_ok-word.ensures.cases).0 c.read_options.ensures.heeded task syntax paths asks in
    let named = name_once asks.asked.mark (texts c.read_options.result.now) _ paths c.in_ok-paths.ensures.some read.0 asks.asked.files in
    let none = c.in_err-file.ensures.cases in
    absurd (not_several c.in_ok-paths.paths.now paths named (omega (arith, none)) asks.several)

pub returns-then-is_empty-clause-asked : goal.returns-then-is_empty-clause-asked
returns-then-is_empty-clause-asked c = λ task syntax paths asks.
    let read = several_read c.args.args.now c.in_ok-word.word.now c.in_ok-word.rest.now c.read_options.result.now (c.in_ok-word.ensures.cases).0 c.read_options.ensures.heeded task syntax paths asks in
    let named = name_once asks.asked.mark (texts c.read_options.result.now) _ paths c.in_ok-paths.ensures.some read.0 asks.asked.files in
    elim c.then-is_empty.branch [
      | then-is_empty-via-then-is_empty w ↦
          let all = ap length (c.in_ok-file.ensures.cases).0 in
          let empty : length c.in_ok-file.others.now ≡ 0 = search (rules, tests) in
          not_several c.in_ok-paths.paths.now paths named (omega (arith, all, empty)) asks.several
      | then-is_empty-via-else-is_empty+then-not-are_apart w ↦
          let apart = w.are_apart.ensures.1 (subst (λ ps. count_by (λ path. bytes_eq path (codes "-")) ps ≤ 1) (sym named) asks.apart) in
          let not = w.if-not-are_apart.true in
          cc
    ]

pub returns-clause-asked : goal.returns-clause-asked
returns-clause-asked c = λ task syntax paths asks.
    let read = several_read c.args.args.now c.in_ok-word.word.now c.in_ok-word.rest.now c.read_options.result.now (c.in_ok-word.ensures.cases).0 c.read_options.ensures.heeded task syntax paths asks in
    let named = name_once asks.asked.mark (texts c.read_options.result.now) _ paths c.in_ok-paths.ensures.some read.0 asks.asked.files in
    let word = several_word c.args.args.now c.in_ok-word.word.now c.in_ok-word.rest.now (c.in_ok-word.ensures.cases).0 task syntax paths asks in (
      c.in_ok-action.ensures.asked task asks.asked.each word,
      read.1 ∙ ap (λ s. fold with_setting s asks.asked.settings) c.none-options.ensures ∙ sym asks.asked.specified,
      named,
    )

pub returns-clause-apart : goal.returns-clause-apart
returns-clause-apart c = λ some usage.
    let left = c.read_options.result.now in
    let paths = c.in_ok-paths.paths.now in
    let all = ap length (c.in_ok-file.ensures.cases).0 in
    let others : 1 ≤ length c.in_ok-file.others.now = search (rules, tests) in
    let count = length-map paths (λ (path : Bor Text). path.now) in
    several_alone c.args.args.now c.in_ok-word.word.now c.in_ok-word.rest.now left (task_of c.in_ok-action.action) (texts paths) (c.in_ok-word.ensures.cases).0 c.read_options.ensures.heeded c.in_ok-action.ensures.found.0 c.in_ok-action.ensures.found.1 c.in_ok-paths.ensures.some (omega (arith, all, others, count)) usage
