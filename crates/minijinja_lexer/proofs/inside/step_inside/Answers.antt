use Rattle.std.proofs.Common.{◌≡◌, ◌<◌, ◌+◌, length, ap, sym, ◌∙◌, arith, subst, inr}
use Rattle.minijinja_lexer.specs.private.Place.{Place}
use Rattle.minijinja_lexer.specs.private.Views.{tag_view, lexeme_view, close_view, tag_part_view}
use Rattle.minijinja_syntax.specs.Streams.{Stream}
use Rattle.minijinja_lexer.specs.Stream.{OwnsMemory}
use Rattle.minijinja_lexer.specs.Cut.{tag_part_at, close_over}
use Rattle.minijinja_lexer.specs.TextTokens.{lexeme_tok, close_stream}
use Rattle.minijinja_lexer.specs.declared.step.State.{State}
use Rattle.minijinja_lexer.specs.declared.step.State.TheVariants.{Inside}
use Rattle.minijinja_lexer.specs.declared.step.Step.TheVariants as step
use Rattle.minijinja_lexer.specs.TextTokens.{stream_in}
use Rattle.minijinja_lexer.specs.private.States.{Steps, behind}
use Rattle.minijinja_lexer.specs.TagParts.{TagPart, Token, End}
use Rattle.minijinja_lexer.proofs.Steps.{stream_in-over, stream_in-end}
use Rattle.minijinja_lexer.proofs.InsideSteps.{inside_token, inside_memory}
use Rattle.minijinja_lexer.proofs.inside.step_inside.Goals as goal
use Rattle.minijinja_lexer.proofs.inside.step_inside.Goals.{After-tag_part_at, After-span-span, then-opens-shuts-ne0, else-opens-shuts-ne0}

-- within the text, and what stands at the cursor
inside : (c : After-tag_part_at) → c.args.cursor.now.at < length c.args.cursor.now.text
inside c =
    let l : length c.text-text.result.now ≡ length c.args.cursor.now.text = ap length c.text-text.ensures in
    omega (arith, l, c.at-at.ensures.value, c.at-at.ensures.boundary.0, c.if-at-text.false)

stands_there : (c : After-tag_part_at) (t : TagPart) → tag_part_view c.tag_part_at.result ≡ t → tag_part_at c.args.syntax.now c.args.cursor.now.text (tag_view c.args.tag) c.args.opened c.args.shut c.args.cursor.now.at ≡ t
stands_there c t e =
    ap (tag_part_at c.args.syntax.now c.args.cursor.now.text (tag_view c.args.tag) c.args.opened c.args.shut) (sym c.at-at.ensures.value)
    ∙ ap (λ x. tag_part_at c.args.syntax.now x (tag_view c.args.tag) c.args.opened c.args.shut c.at-at.result) (sym c.text-text.ensures) ∙ sym c.tag_part_at.ensures.value ∙ e

pub returns-then-at-text-clause-steps : goal.returns-then-at-text-clause-steps
returns-then-at-text-clause-steps c =
    let s = c.args.syntax.now in
    let text = c.args.cursor.now.text in
    let later = behind s text c.args.whole in
    let l = ap length c.text-text.ensures in
    let e = stream_in-over s text (tag_view c.args.tag) later c.args.opened c.args.shut c.args.cursor.now.at (omega (arith, l, c.at-at.ensures.value, c.if-at-text.true)) in
    let f = c.close_over.ensures ∙ ap (λ n. close_over n c.at-at.result (tag_view c.args.tag)) (c.if-at-text.true ∙ l) ∙ ap (λ n. close_over (length text) n (tag_view c.args.tag)) c.at-at.ensures.value in
    subst (λ (x : Stream). Steps s x c.step_end.new.state c.step_end.result c.step_end.new.cursor) (sym (e ∙ sym (ap (close_stream text (tag_view c.args.tag) later) f))) (c.step_end.ensures.steps s)

pub returns-in_default-clause-steps : goal.returns-in_default-clause-steps
returns-in_default-clause-steps c =
    let d = (goal.at-returns-in_default-clause-steps c).After-tag_part_at in
    let places = c.in-Token.ensures.places in
    let moves : c.args.cursor.now.at < c.in-Token.lexeme.stop = omega (arith, places.onwards, places.some, c.at-at.ensures.value) in
    inr (inside_memory c.args.syntax.now c.args.cursor.now.text (tag_view c.args.tag) c.args.whole c.args.opened c.args.shut c.args.cursor.now.at (lexeme_view c.in-Token.lexeme)
    (inside d) moves (stands_there d (Token (lexeme_view c.in-Token.lexeme)) (ap tag_part_view c.in-Token.is))
    (subst (λ t. OwnsMemory (lexeme_tok t (lexeme_view c.in-Token.lexeme))) c.text-text.ensures c.in_default.ensures.memory))

-- a token that is no bracket leaves the state as it was
counted : (c : After-span-span) → c.if-opens-shuts-ne0.state ≡ Inside c.args.tag (c.args.opened + c.opened_by-opens.result) (c.args.shut + c.shut_by-shuts.result) c.args.whole
counted c = elim c.if-opens-shuts-ne0.branch [
  | then-opens-shuts-ne0 w ↦ w.state-is
  | else-opens-shuts-ne0 w ↦
      let none : c.opened_by-opens.result + c.shut_by-shuts.result ≡ 0 = w.if-opens-shuts-ne0.false in
      let opened : c.args.opened ≡ c.args.opened + c.opened_by-opens.result = omega (arith, none) in
      let shut : c.args.shut ≡ c.args.shut + c.shut_by-shuts.result = omega (arith, none) in
      w.state-is ∙ c.requires.state
      ∙ ap (λ n. Inside c.args.tag n c.args.shut c.args.whole) opened
      ∙ ap (λ n. Inside c.args.tag (c.args.opened + c.opened_by-opens.result) n c.args.whole) shut
]

pub returns-after-opens-shuts-ne0-clause-steps : goal.returns-after-opens-shuts-ne0-clause-steps
returns-after-opens-shuts-ne0-clause-steps c =
    let d = (goal.at-returns-after-opens-shuts-ne0-clause-steps c).After-tag_part_at in
    let places = c.in-Token.ensures.places in
    let moves : c.args.cursor.now.at < c.in-Token.lexeme.stop = omega (arith, places.onwards, places.some, c.at-at.ensures.value) in
    let stop = ap (λ (p : Place). p.at) c.span-span.ensures.place in
    subst (λ (x : State). Steps c.args.syntax.now (stream_in c.args.syntax.now c.args.cursor.now.text (tag_view c.args.tag) (behind c.args.syntax.now c.args.cursor.now.text c.args.whole) c.args.opened c.args.shut c.args.cursor.now.at) x (step.Token c.in-Ok.token c.span-span.result) c.span-span.new.self) (sym (counted c)) (
      inside_token c.args.syntax.now c.args.cursor.now.text (tag_view c.args.tag) c.args.whole c.args.opened c.args.shut c.args.cursor.now.at (lexeme_view c.in-Token.lexeme) _ c.span-span.result c.span-span.new.self
          (c.args.opened + c.opened_by-opens.result) (c.args.shut + c.shut_by-shuts.result)
          (inside d) moves (stands_there d (Token (lexeme_view c.in-Token.lexeme)) (ap tag_part_view c.in-Token.is)) (c.in-Ok.ensures.token ∙ ap (λ x. lexeme_tok x (lexeme_view c.in-Token.lexeme)) c.text-text.ensures) c.span-span.ensures.span c.span-span.ensures.place
          (ap (λ n. c.args.opened + n) c.opened_by-opens.ensures.value) (ap (λ n. c.args.shut + n) c.shut_by-shuts.ensures.value),
      (omega (arith, stop, moves, c.requires.opened, c.opened_by-opens.ensures.bound), omega (arith, stop, moves, c.requires.shut, c.shut_by-shuts.ensures.bound)),
    )

pub returns-in-End-clause-steps : goal.returns-in-End-clause-steps
returns-in-End-clause-steps c =
    let d = (goal.at-returns-in-End-clause-steps c).After-tag_part_at in
    let e = stream_in-end c.args.syntax.now c.args.cursor.now.text (tag_view c.args.tag) (behind c.args.syntax.now c.args.cursor.now.text c.args.whole) c.args.opened c.args.shut c.args.cursor.now.at (close_view c.in-End.close) (inside d) (stands_there d (End (close_view c.in-End.close)) (ap tag_part_view c.in-End.is)) in
    subst (λ (x : Stream). Steps c.args.syntax.now x c.step_end-in-End.new.state c.step_end-in-End.result c.step_end-in-End.new.cursor) (sym e) (c.step_end-in-End.ensures.steps c.args.syntax.now)

pub returns-then-at-text-clause-takes : goal.returns-then-at-text-clause-takes
returns-then-at-text-clause-takes c = c.step_end.ensures.takes c.args.syntax.now

pub returns-in-End-clause-takes : goal.returns-in-End-clause-takes
returns-in-End-clause-takes c = c.step_end-in-End.ensures.takes c.args.syntax.now
