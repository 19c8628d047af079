-- Each line is one more answer, or the first that is none.
use Rattle.std.proofs.Common.{inr, ◌≡◌, ◌+◌, ◌<◌, ◌^◌, ◌∷◌, [], ◌++◌, ◌∙◌, ap, length, map, subst, suc, sym}
use Rattle.std.specs.Prelude.{IfSome, drop}
use Rattle.std.specs.Borrow.{Bor}
use Rattle.std.specs.Str.Iter.{lines_rest}
use Rattle.std.specs.Str.Lines.{lines}
use Rattle.std.proofs.lemmas.Iterator.Consumers.{YieldsList-end, YieldsList-so_far, YieldsList-turn}
use Rattle.std.proofs.lemmas.Iterator.Splits.{YieldsList-from_lines}
use Rattle.std.proofs.lemmas.List.{length-map, map-append}
use Rattle.minijinja_syntax.specs.Texts.{Text}
use Rattle.minijinja_value.specs.ValueViews.{contents_of}
use Rattle.minijinja_semantics.specs.Answers.{volume}
use Rattle.minijinja_replay.specs.Replay.{answer_of}
use Rattle.mjc_commands.specs.AnswerFile.{IsAnswer, SayAnswers}
use Rattle.mjc_commands.proofs.AnswerLines.{as_many, is_none, say_more, split_at, volume-more}
use Rattle.mjc_commands.proofs.answers.read_answers.Goals as goal

pub loop-line-preserved : goal.loop-line-preserved
loop-line-preserved c =
    let seen = answer_of contents_of in
    let line = c.in-Some.line.now in
    let answer = seen c.in-Some-2.answer in
    let one = subst (λ o. IfSome o (λ a. IsAnswer line (seen a))) c.in-Some-2.is c.in_ok-answer.ensures.some in
    let more_lines = sym (map-append (λ (l : Bor Text). l.now) c.loop-line.yielded (c.in-Some.line ∷ [])) in
    let more = sym (ap (map seen) c.in_ok-push.ensures.items ∙ map-append seen c.loop-line.answers.items (c.in-Some-2.answer ∷ [])) in
    record {
      next = tt;
      ends = tt;
      said = subst (λ ls. SayAnswers ls (map seen c.push.new.self.items)) more_lines
          (subst (SayAnswers (map (λ (l : Bor Text). l.now) c.loop-line.yielded ++ line ∷ [])) more (say_more _ _ line answer c.loop-line.invariant.said one));
      few = c.in_ok-count.ensures.few;
      counted = c.in_ok-count.ensures.counted ∙ ap (λ n. n + volume (answer ∷ [])) c.loop-line.invariant.counted ∙ sym (volume-more (map seen c.loop-line.answers.items) answer) ∙ ap volume more;
    }

pub returns-in_default-clause-cause : goal.returns-in_default-clause-cause
returns-in_default-clause-cause c =
    let all = lines c.args.text.now in
    let rest : lines_rest c.into_iter-line-iterator.result ≡ c.args.text.now = ap lines_rest c.into_iter-line-iterator.ensures.into_iter_gives ∙ c.lines-line-items.ensures.rest in
    let road = YieldsList-from_lines c.args.text.now rest in
    let turn = YieldsList-turn road c.loop-line.yielded _ c.loop-line.yielded_by _ _ c.in-Some.line c.in-Some.is c.next.ensures.steps in
    let so_far = YieldsList-so_far road c.loop-line.yielded _ c.loop-line.yielded_by in
    let many = as_many _ _ c.loop-line.invariant.said ∙ length-map c.loop-line.answers.items (answer_of contents_of) in
    inr (record {
      before = map (λ line. line.now) c.loop-line.yielded;
      line = c.in-Some.line.now;
      after = drop (suc (length c.loop-line.yielded)) all;
      stands = split_at all (length c.loop-line.yielded) c.in-Some.line.now turn ∙ ap (λ l. l ++ c.in-Some.line.now ∷ drop (suc (length c.loop-line.yielded)) all) (sym so_far);
      counted = ap (λ n. n + 1) (c.len.ensures ∙ c.loop-line.answers.ok.0 ∙ sym many);
      answers = map (answer_of contents_of) c.loop-line.answers.items;
      said = c.loop-line.invariant.said;
      unsaid = c.in_ok-answer.ensures.none (is_none c.in_ok-answer.field-0 c.in_default.not-Some);
    })

pub returns-clause-said : goal.returns-clause-said
returns-clause-said c =
    let rest : lines_rest c.into_iter-line-iterator.result ≡ c.args.text.now = ap lines_rest c.into_iter-line-iterator.ensures.into_iter_gives ∙ c.lines-line-items.ensures.rest in
    let end = YieldsList-end (YieldsList-from_lines c.args.text.now rest) c.loop-line.yielded _ c.loop-line.yielded_by _ _ c.in-None.is c.next.ensures.steps in
    subst (λ ls. SayAnswers ls (map (answer_of contents_of) c.loop-line.answers.items)) end.0 c.loop-line.invariant.said

pub returns-clause-few : goal.returns-clause-few
returns-clause-few c = record { under = subst (λ n. n < 2 ^ 64) c.loop-line.invariant.counted c.loop-line.invariant.few }
