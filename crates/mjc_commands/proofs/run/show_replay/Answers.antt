-- The answers are those of the file that was read.
use Rattle.std.proofs.Common.{rules, inl, subst, sym, ◌∙◌, ◌≡◌}
use Rattle.std.specs.Prelude.{IfSome, string_bytes}
use Rattle.mjc_commands.specs.AnswerFile.{IsAnswerFile}
use Rattle.mjc_commands.specs.Watched.{stream_of}
use Rattle.mjc_commands.proofs.Commands.{if_err}
use Rattle.mjc_commands.proofs.Told.{known_as, prints_as}
use Rattle.mjc_commands.proofs.run.show_replay.Goals as goal

pub returns-clause-succeeds : goal.returns-clause-succeeds
returns-clause-succeeds g c = λ unread unwritten tree has.
    let text : IfSome (g.Q.Read.remaining (stream_of c.args.answers.now)) (λ bytes. string_bytes c.in_ok-given.given ≡ bytes) = search rules in
    let same : c.deref.result.now ≡ has.0 = c.deref.ensures ∙ subst (λ o. IfSome o (λ bytes. string_bytes c.in_ok-given.given ≡ bytes)) has.1 text in
    if_err c.write_run.result (λ f memory. inl memory) (c.write_run.ensures.succeeds unwritten (subst IsAnswerFile (sym same) has.2))

pub returns-clause-printed : goal.returns-clause-printed
returns-clause-printed g c =
    let held = g.Q.Read.remaining (stream_of c.args.answers.now) in
    let text : IfSome held (λ bytes. string_bytes c.in_ok-given.given ≡ bytes) = search rules in
    prints_as g.W.Write.contents c.args.out.now c.write_run.new.out c.write_run.result c.write_run.ensures.printed (λ printed run. record {
      filename = c.args.path.now;
      code = c.in_ok-code.code;
      compiled = c.in_ok-code.ensures.compiled;
      given = c.deref.result.now;
      known = subst (λ given. IfSome held (λ bytes. given ≡ bytes)) (sym c.deref.ensures) text;
      run = run;
    })

pub returns-clause-answered : goal.returns-clause-answered
returns-clause-answered g c =
    let held = g.Q.Read.remaining (stream_of c.args.answers.now) in
    let text : IfSome held (λ bytes. string_bytes c.in_ok-given.given ≡ bytes) = search rules in
    known_as IsAnswerFile c.write_run.result held c.deref.result.now (subst (λ given. IfSome held (λ bytes. given ≡ bytes)) (sym c.deref.ensures) text) c.write_run.ensures.answered
