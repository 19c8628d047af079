-- The status says how the run on watched streams ended.
use Rattle.std.proofs.Common.{rules, inl, ◌∙◌}
use Rattle.mjc_commands.specs.Linting.{IsLinted}
use Rattle.mjc_commands.specs.Settings.{syntax_with}
use Rattle.mjc_commands.proofs.Commands.{ends_as, unbuilt_command}
use Rattle.mjc_commands.proofs.Statuses.{failed_exit, on_success, refused_exit}
use Rattle.mjc_commands.proofs.run.run.Goals as goal

pub returns-clause-unbuilt : goal.returns-clause-unbuilt
returns-clause-unbuilt g c = λ unbuilt.
    let without = unbuilt_command unbuilt.request c.in-Some.command (c.in-Some.ensures.file unbuilt.request unbuilt.asks) unbuilt.unbuildable in
    c.status.ensures.value ∙ refused_exit c.run_watched-ending.result (c.run_watched-ending.ensures.unbuilt without)

pub returns-clause-linted : goal.returns-clause-linted
returns-clause-linted g c = λ request text asks held is_lint.
    ends_as c.run_watched-ending.result c.status.result (IsLinted (syntax_with request.settings) text) c.status.ensures.value ((c.run_watched-ending.ensures.on_file request (c.in-Some.ensures.file request asks)).linted text (search rules) is_lint)

pub returns-clause-expr_shown : goal.returns-clause-expr_shown
returns-clause-expr_shown g c = λ zero source asks.
    on_success c.run_watched-ending.result c.status.result _ c.status.ensures.value (inl zero) (c.run_watched-ending.ensures.on_expr source (c.in-Some.ensures.expr source asks)).shown

pub returns-clause-unbuilt_unread : goal.returns-clause-unbuilt_unread
returns-clause-unbuilt_unread g c = λ unbuilt.
    let without = unbuilt_command unbuilt.request c.in-Some.command (c.in-Some.ensures.file unbuilt.request unbuilt.asks) unbuilt.unbuildable in
    let same = c.run_watched-ending.ensures.unbuilt_unread without in
    search (rules, same)

pub returns-clause-unreadable : goal.returns-clause-unreadable
returns-clause-unreadable g c = λ usage no_text success.
    let runs = c.run_watched-ending.ensures.on_file usage.request (c.in-Some.ensures.file usage.request usage.asks) in
    failed_exit c.run_watched-ending.result c.status.result c.status.ensures.value (runs.unreadable (search (rules, no_text))) success

pub returns-clause-unprinted : goal.returns-clause-unprinted
returns-clause-unprinted g c = λ usage no_text.
    let runs = c.run_watched-ending.ensures.on_file usage.request (c.in-Some.ensures.file usage.request usage.asks) in
    let same = runs.unprinted (search (rules, no_text)) in
    search (rules, same)

pub returns-clause-answered : goal.returns-clause-answered
returns-clause-answered g c = λ usage zero.
    let runs = c.run_watched-ending.ensures.on_file usage.request (c.in-Some.ensures.file usage.request usage.asks) in
    let answered = on_success c.run_watched-ending.result c.status.result _ c.status.ensures.value (inl zero) (runs.answered usage.replays) in
    search (rules, answered)

pub returns-clause-printed : goal.returns-clause-printed
returns-clause-printed g c = λ success request text asks held.
    let runs = c.run_watched-ending.ensures.on_file request (c.in-Some.ensures.file request asks) in
    let prints = on_success c.run_watched-ending.result c.status.result _ c.status.ensures.value success runs.printed text (search (rules, held)) in
    let written = prints.written in
    record {
      printed = prints.printed;
      is = search (rules, prints.is);
      added = search (rules, written);
    }

pub returns-clause-expr_printed : goal.returns-clause-expr_printed
returns-clause-expr_printed g c = λ zero source asks.
    let prints = on_success c.run_watched-ending.result c.status.result _ c.status.ensures.value (inl zero) (c.run_watched-ending.ensures.on_expr source (c.in-Some.ensures.expr source asks)).printed in
    let written = prints.written in
    record { printed = prints.printed; is = prints.is; added = search (rules, written) }
