-- The command that was read is the one that the words ask for.
use Rattle.std.proofs.Common.{ap, sym, subst, ◌∙◌, refl}
use Rattle.std.specs.List.{fold}
use Rattle.mjc_commands.specs.Settings.{texts, with_setting}
use Rattle.mjc_commands.specs.Usage.{path_words, paths_of}
use Rattle.mjc_commands.specs.Commands.{task_of}
use Rattle.mjc_commands.specs.private.AtUsage.{IsOnTemplate, Name}
use Rattle.mjc_commands.proofs.Requests.{asks, name_asked, name_begin, name_once, paths_begin, rest_asked, same_asked, unasked, word_asked}
use Rattle.mjc_commands.proofs.usage.parse_template_command.Goals as goal

pub returns-clause-usage : goal.returns-clause-usage
returns-clause-usage c =
    let found = c.in_ok-action.ensures.found in
    let behind = texts c.read_options.result.now in
    let task = task_of c.in_ok-action.action in
    let file = c.in_ok-action.file.now in
    let named : Name behind (paths_of task file) = subst (Name behind) found.listed c.in_ok-paths.ensures.some in
    let said = c.read_options.ensures.behind (name_begin behind task file named) in
    let asked = asks c.args.args.now c.in_ok-word.word.now c.in_ok-word.rest.now behind task said.0 file (c.in_ok-word.ensures.cases).0 found.template found.named named found.apart said.1 in
    (λ _. record { request = asked.0; asks = asked.1; template = subst IsOnTemplate (sym asked.2) found.template }, λ _. refl)

pub returns-clause-asked : goal.returns-clause-asked
returns-clause-asked c = λ request asked template.
    let found = c.in_ok-action.ensures.found in
    let behind = texts c.read_options.result.now in
    let rest = rest_asked c.args.args.now c.in_ok-word.word.now c.in_ok-word.rest.now request (c.in_ok-word.ensures.cases).0 asked in
    let word = word_asked c.args.args.now c.in_ok-word.word.now c.in_ok-word.rest.now request (c.in_ok-word.ensures.cases).0 asked in
    let heeded = c.read_options.ensures.heeded request.settings (path_words request.mark (paths_of request.task request.file)) (paths_begin request.mark request.task request.file asked.files) rest in
    let paths = name_once request.mark behind _ _ c.in_ok-paths.ensures.some heeded.0 asked.files in
    let same = same_asked (task_of c.in_ok-action.action) request.task c.in_ok-action.file.now request.file found.template template (sym found.named ∙ word) (sym found.listed ∙ paths) in
    record { task = same.0; syntax = heeded.1 ∙ ap (λ s. fold with_setting s request.settings) c.none-options.ensures; file = same.1 }

pub returns-in_err-paths-clause-asked : goal.returns-in_err-paths-clause-asked
returns-in_err-paths-clause-asked c = λ request asked template.
    absurd (c.in_err-paths.ensures.none refl _ (name_asked c.args.args.now c.in_ok-word.word.now c.in_ok-word.rest.now c.read_options.result.now (c.in_ok-word.ensures.cases).0 c.read_options.ensures.heeded request asked))

pub returns-in_err-paths-clause-usage : goal.returns-in_err-paths-clause-usage
returns-in_err-paths-clause-usage c =
    unasked c.from_residual-in_err-paths.result c.from_residual-in_err-paths.ensures
    (λ usage. c.in_err-paths.ensures.none refl _ (name_asked c.args.args.now c.in_ok-word.word.now c.in_ok-word.rest.now c.read_options.result.now (c.in_ok-word.ensures.cases).0 c.read_options.ensures.heeded usage.request usage.asks))
