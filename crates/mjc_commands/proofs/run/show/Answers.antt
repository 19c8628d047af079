-- What is shown of a file is shown of the text that it holds.
use Rattle.std.proofs.Common.{rules, ◌≡◌, ◌∙◌, Some, subst, sym}
use Rattle.std.specs.Prelude.{IfErr, IfSome, string_bytes}
use Rattle.minijinja_syntax.specs.Texts.{Text}
use Rattle.mjc_commands.specs.Failure.{IsRefused}
use Rattle.mjc_commands.specs.Output.{IsExprOutput, IsOutput}
use Rattle.mjc_commands.specs.Refusals.{IsExprRefusal, IsRefusalOf}
use Rattle.mjc_commands.specs.Showing.{IsMemory}
use Rattle.mjc_commands.specs.Usage.{tokens, code, names, lint, replay}
use Rattle.mjc_commands.specs.Watched.{stream_of}
use Rattle.mjc_commands.specs.Commands.{task_of}
use Rattle.mjc_commands.proofs.Commands.{if_err}
use Rattle.mjc_commands.proofs.Told.{memory_told, prints_known}
use Rattle.mjc_commands.proofs.run.show.Goals as goal

pub returns-in_err-text : goal.returns-in_err-text
returns-in_err-text g c =
    let memory : IfErr c.from_residual.result (λ f. IsRefused f → IsMemory f) = search rules in
    record {
      unreadable = search rules;
      unprinted = search rules;
      whole = search rules;
      shown = search rules;
      printed = search rules;
      told = if_err c.from_residual.result (λ f memory source known builds refused. memory_told (task_of c.args.command.now.action) c.args.syntax.now source f (memory refused)) memory;
      unasked = search rules;
      unanswered = search rules;
      answers_whole = search rules;
      answered = search rules;
      found = search rules;
      linted = search rules;
      succeeds = search rules;
      file_read = search rules;
      answers_read = search rules;
      out_written = search rules;
      unfailed = search rules;
    }

pub returns-in-Tokens : goal.returns-in-Tokens
returns-in-Tokens g c =
    let text : IfSome (g.R.Read.remaining (stream_of c.args.file.now)) (λ bytes. string_bytes c.in_ok-text.text ≡ bytes) = search rules in
    let same : (source : Text) → g.R.Read.remaining (stream_of c.args.file.now) ≡ Some source → c.deref.result.now ≡ source = λ source known. c.deref.ensures ∙ subst (λ o. IfSome o (λ bytes. string_bytes c.in_ok-text.text ≡ bytes)) known text in
    let asked = g.Q.Read.remaining (stream_of c.args.answers.now) in
    let syntax = c.args.syntax.now in
    record {
      unreadable = search rules;
      unprinted = search rules;
      whole = search rules;
      shown = search rules;
      printed = prints_known g.W.Write.contents c.args.out.now c.show_tokens.new.out c.show_tokens.result c.show_tokens.ensures.printed (λ source known printed is.
          subst (λ a. IsOutput (task_of a) syntax source asked printed) (sym c.in-Tokens.is) (subst (λ t. IsOutput tokens syntax t asked printed) (same source known) is));
      told = if_err c.show_tokens.result (λ f told source known builds refused.
          subst (λ a. IsRefusalOf (task_of a) syntax source f) (sym c.in-Tokens.is) (subst (λ t. IsRefusalOf tokens syntax t f) (same source known) (told refused))) c.show_tokens.ensures.told;
      unasked = search rules;
      unanswered = search rules;
      answers_whole = search rules;
      answered = search rules;
      found = search rules;
      linted = search rules;
      succeeds = search rules;
      file_read = search rules;
      answers_read = search rules;
      out_written = search rules;
      unfailed = search rules;
    }

pub returns-in-Code : goal.returns-in-Code
returns-in-Code g c =
    let text : IfSome (g.R.Read.remaining (stream_of c.args.file.now)) (λ bytes. string_bytes c.in_ok-text.text ≡ bytes) = search rules in
    let same : (source : Text) → g.R.Read.remaining (stream_of c.args.file.now) ≡ Some source → c.deref-in-Code.result.now ≡ source = λ source known. c.deref-in-Code.ensures ∙ subst (λ o. IfSome o (λ bytes. string_bytes c.in_ok-text.text ≡ bytes)) known text in
    let asked = g.Q.Read.remaining (stream_of c.args.answers.now) in
    let syntax = c.args.syntax.now in
    record {
      unreadable = search rules;
      unprinted = search rules;
      whole = search rules;
      shown = search rules;
      printed = prints_known g.W.Write.contents c.args.out.now c.show_code.new.out c.show_code.result c.show_code.ensures.printed (λ source known printed is.
          subst (λ a. IsOutput (task_of a) syntax source asked printed) (sym c.in-Code.is) (subst (λ t. IsOutput code syntax t asked printed) (same source known) is));
      told = if_err c.show_code.result (λ f told source known builds refused.
          subst (λ a. IsRefusalOf (task_of a) syntax source f) (sym c.in-Code.is) (subst (λ t. IsRefusalOf code syntax t f) (same source known) (told refused))) c.show_code.ensures.told;
      unasked = search rules;
      unanswered = search rules;
      answers_whole = search rules;
      answered = search rules;
      found = search rules;
      linted = search rules;
      succeeds = search rules;
      file_read = search rules;
      answers_read = search rules;
      out_written = search rules;
      unfailed = search rules;
    }

pub returns-in-Names : goal.returns-in-Names
returns-in-Names g c =
    let text : IfSome (g.R.Read.remaining (stream_of c.args.file.now)) (λ bytes. string_bytes c.in_ok-text.text ≡ bytes) = search rules in
    let same : (source : Text) → g.R.Read.remaining (stream_of c.args.file.now) ≡ Some source → c.deref-in-Names.result.now ≡ source = λ source known. c.deref-in-Names.ensures ∙ subst (λ o. IfSome o (λ bytes. string_bytes c.in_ok-text.text ≡ bytes)) known text in
    let asked = g.Q.Read.remaining (stream_of c.args.answers.now) in
    let syntax = c.args.syntax.now in
    record {
      unreadable = search rules;
      unprinted = search rules;
      whole = search rules;
      shown = search rules;
      printed = prints_known g.W.Write.contents c.args.out.now c.show_names.new.out c.show_names.result c.show_names.ensures.printed (λ source known printed is.
          subst (λ a. IsOutput (task_of a) syntax source asked printed) (sym c.in-Names.is) (subst (λ t. IsOutput names syntax t asked printed) (same source known) is));
      told = if_err c.show_names.result (λ f told source known builds refused.
          subst (λ a. IsRefusalOf (task_of a) syntax source f) (sym c.in-Names.is) (subst (λ t. IsRefusalOf names syntax t f) (same source known) (told refused))) c.show_names.ensures.told;
      unasked = search rules;
      unanswered = search rules;
      answers_whole = search rules;
      answered = search rules;
      found = search rules;
      linted = search rules;
      succeeds = search rules;
      file_read = search rules;
      answers_read = search rules;
      out_written = search rules;
      unfailed = search rules;
    }

pub returns-in-Lint : goal.returns-in-Lint
returns-in-Lint g c =
    let text : IfSome (g.R.Read.remaining (stream_of c.args.file.now)) (λ bytes. string_bytes c.in_ok-text.text ≡ bytes) = search rules in
    let same : (source : Text) → g.R.Read.remaining (stream_of c.args.file.now) ≡ Some source → c.deref-in-Lint.result.now ≡ source = λ source known. c.deref-in-Lint.ensures ∙ subst (λ o. IfSome o (λ bytes. string_bytes c.in_ok-text.text ≡ bytes)) known text in
    let asked = g.Q.Read.remaining (stream_of c.args.answers.now) in
    let syntax = c.args.syntax.now in
    record {
      unreadable = search rules;
      unprinted = search rules;
      whole = search rules;
      shown = search rules;
      printed = prints_known g.W.Write.contents c.args.out.now c.show_findings.new.out c.show_findings.result c.show_findings.ensures.printed (λ source known printed is.
          subst (λ a. IsOutput (task_of a) syntax source asked printed) (sym c.in-Lint.is) (subst (λ t. IsOutput lint syntax t asked printed) (same source known) is));
      told = if_err c.show_findings.result (λ f told source known builds refused.
          subst (λ a. IsRefusalOf (task_of a) syntax source f) (sym c.in-Lint.is) (subst (λ t. IsRefusalOf lint syntax t f) (same source known) (told refused))) c.show_findings.ensures.told;
      unasked = search rules;
      unanswered = search rules;
      answers_whole = search rules;
      answered = search rules;
      found = search rules;
      linted = search rules;
      succeeds = search rules;
      file_read = search rules;
      answers_read = search rules;
      out_written = search rules;
      unfailed = search rules;
    }

pub returns-in-Expression : goal.returns-in-Expression
returns-in-Expression g c =
    let text : IfSome (g.R.Read.remaining (stream_of c.args.file.now)) (λ bytes. string_bytes c.in_ok-text.text ≡ bytes) = search rules in
    let same : (source : Text) → g.R.Read.remaining (stream_of c.args.file.now) ≡ Some source → c.deref-in-Expression.result.now ≡ source = λ source known. c.deref-in-Expression.ensures ∙ subst (λ o. IfSome o (λ bytes. string_bytes c.in_ok-text.text ≡ bytes)) known text in
    let asked = g.Q.Read.remaining (stream_of c.args.answers.now) in
    let syntax = c.args.syntax.now in
    record {
      unreadable = search rules;
      unprinted = search rules;
      whole = search rules;
      shown = search rules;
      printed = prints_known g.W.Write.contents c.args.out.now c.show_expression.new.out c.show_expression.result c.show_expression.ensures.run.printed (λ source known printed is.
          subst (λ a. IsOutput (task_of a) syntax source asked printed) (sym c.in-Expression.is) (subst (λ t. IsExprOutput t printed) (same source known) is));
      told = if_err c.show_expression.result (λ f told source known builds refused.
          subst (λ a. IsRefusalOf (task_of a) syntax source f) (sym c.in-Expression.is) (subst (λ t. IsExprRefusal t f) (same source known) (told refused))) c.show_expression.ensures.run.told;
      unasked = search rules;
      unanswered = search rules;
      answers_whole = search rules;
      answered = search rules;
      found = search rules;
      linted = search rules;
      succeeds = search rules;
      file_read = search rules;
      answers_read = search rules;
      out_written = search rules;
      unfailed = search rules;
    }

pub returns : goal.returns
returns g c =
    let text : IfSome (g.R.Read.remaining (stream_of c.args.file.now)) (λ bytes. string_bytes c.in_ok-text.text ≡ bytes) = search rules in
    let same : (source : Text) → g.R.Read.remaining (stream_of c.args.file.now) ≡ Some source → c.deref-in-Replay.result.now ≡ source = λ source known. c.deref-in-Replay.ensures ∙ subst (λ o. IfSome o (λ bytes. string_bytes c.in_ok-text.text ≡ bytes)) known text in
    let asked = g.Q.Read.remaining (stream_of c.args.answers.now) in
    let syntax = c.args.syntax.now in
    record {
      unreadable = search rules;
      unprinted = search rules;
      whole = search rules;
      shown = search rules;
      printed = prints_known g.W.Write.contents c.args.out.now c.show_replay.new.out c.show_replay.result c.show_replay.ensures.printed (λ source known printed is.
          subst (λ a. IsOutput (task_of a) syntax source asked printed) (sym c.in-Replay.is) (subst (λ t. IsOutput (replay c.in-Replay.answers_path.now) syntax t asked printed) (same source known) is));
      told = if_err c.show_replay.result (λ f told source known builds refused.
          subst (λ a. IsRefusalOf (task_of a) syntax source f) (sym c.in-Replay.is) (subst (λ t. IsRefusalOf (replay c.in-Replay.answers_path.now) syntax t f) (same source known) (told refused))) c.show_replay.ensures.told;
      unasked = search rules;
      unanswered = search rules;
      answers_whole = search rules;
      answered = search rules;
      found = search rules;
      linted = search rules;
      succeeds = search rules;
      file_read = search rules;
      answers_read = search rules;
      out_written = search rules;
      unfailed = search rules;
    }
