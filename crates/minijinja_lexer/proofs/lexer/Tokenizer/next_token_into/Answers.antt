use Rattle.std.proofs.Common.{◌≡◌, ap, sym, ◌∙◌, subst}
use Rattle.std.specs.Prelude.{◌⊎◌}
use Rattle.minijinja_syntax.specs.Streams.{Stream}
use Rattle.minijinja_lexer.specs.Stream.{Answers, Lexing, out_of_memory, NeedsMemory}
use Rattle.minijinja_lexer.specs.private.States.{stream_from}
use Rattle.minijinja_lexer.proofs.Answering.{answers_no_memory, answers_refusal}
use Rattle.minijinja_lexer.proofs.lexer.Tokenizer.next_token_into.Goals as goal

pub returns-in-Failed-clause-answers : goal.returns-in-Failed-clause-answers
returns-in-Failed-clause-answers c =
    subst (λ (x : Stream). Answers c.args.self.now.stream c.refuse.new.answer x) (sym (ap (stream_from c.self.inside.syntax.now c.next_step-step.new.cursor) c.refuse.ensures.state))
    (answers_refusal c.args.self.now.stream c.refuse.new.answer _ _
    (sym (ap (λ (x : Lexing). x.stream) c.self.view_is) ∙ c.in-Failed.ensures.steps) c.refuse.ensures.kind c.refuse.ensures.span)

pub returns-in-NoMemory-clause-answers : goal.returns-in-NoMemory-clause-answers
returns-in-NoMemory-clause-answers c =
    subst (λ (x : Stream). Answers c.args.self.now.stream c.refuse_for_memory.new.answer x) (sym (ap (stream_from c.self.inside.syntax.now c.next_step-step.new.cursor) c.refuse_for_memory.ensures.state))
    (answers_no_memory c.args.self.now.stream c.refuse_for_memory.new.answer
    (subst (λ (x : Stream). (x ≡ out_of_memory) ⊎ NeedsMemory x.tokens) (ap (λ (x : Lexing). x.stream) c.self.view_is) c.in-NoMemory.ensures.steps) c.refuse_for_memory.ensures.answer)
