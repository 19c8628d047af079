-- Each line so far says an answer.
use Rattle.std.proofs.Common.{◌≡◌, ◌<◌, ◌^◌, map}
use Rattle.minijinja_value.specs.ValueViews.{contents_of}
use Rattle.minijinja_semantics.specs.Answers.{volume}
use Rattle.minijinja_replay.specs.Replay.{answer_of}
use Rattle.mjc_commands.specs.AnswerFile.{SayAnswers}
use Rattle.mjc_commands.proofs.answers.read_answers.Given as goal

abbrev pub invariant-loop-line : goal.invariant-loop-line
invariant-loop-line l = record {
  next : (goal.iterator-loop-line).can_next l.line-iterator;
  ends : (goal.iterator-loop-line).is_finite l.line-iterator;
  said : SayAnswers (map (λ line. line.now) l.yielded) (map (answer_of contents_of) l.answers.items);
  few : l.count < 2 ^ 64;
  counted : l.count ≡ volume (map (answer_of contents_of) l.answers.items);
}
