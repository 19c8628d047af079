use Rattle.std.proofs.Common.{◌≡◌, ℕ, ◌<◌, length, ap, sym, ◌∙◌, arith, subst}
use Rattle.minijinja_syntax.specs.Texts.{Text}
use Rattle.minijinja_syntax.specs.Positions.{span_at}
use Rattle.minijinja_lexer.specs.private.Place.{Place}
use Rattle.minijinja_lexer.specs.private.Views.{tag_view, fault_view}
use Rattle.minijinja_syntax.specs.Streams.{Stream}
use Rattle.minijinja_syntax.specs.declared.tokens.Token.TheVariants.{TemplateData}
use Rattle.minijinja_lexer.specs.declared.step.State.TheVariants.{Outside}
use Rattle.minijinja_lexer.specs.private.States.{Steps, RawSteps, Takes, TakesBetween}
use Rattle.minijinja_lexer.specs.TextTokens.{stream_at, refusal_span}
use Rattle.minijinja_lexer.proofs.Steps.{stream_at-over}
use Rattle.minijinja_lexer.proofs.OutsideSteps.{here, still_outside, outside_data, outside_none, outside_skipped, outside_unclosed, outside_raw, outside_tag}
use Rattle.minijinja_lexer.proofs.RawTexts.{raw_takes}
use Rattle.minijinja_lexer.proofs.outside.step_outside.Goals as goal
use Rattle.minijinja_lexer.proofs.outside.step_outside.Goals.{After-found_at}

-- what is to come is what comes from the place that the code reads
from_here : (c : After-found_at) → stream_at c.args.syntax.now c.args.cursor.now.text c.args.cursor.now.at ≡ stream_at c.args.syntax.now c.text-text.result.now c.at-at.result
from_here c = here c.args.syntax.now c.args.cursor.now.text c.text-text.result.now c.args.cursor.now.at c.at-at.result c.loop-text.cursor.at c.text-text.ensures c.at-at.ensures.value c.loop-text.invariant.1

same_text : (c : After-found_at) → c.loop-text.cursor.text ≡ c.text-text.result.now
same_text c = c.loop-text.invariant.0 ∙ sym c.text-text.ensures

inside : (c : After-found_at) → c.at-at.result < length c.text-text.result.now
inside c = let a = c.at.ensures.value in let b = c.at-at.ensures.value in let t = c.loop-text-test.true in omega (arith, a, b, t)

placed : (x y : Text) (at : ℕ) → x ≡ y → let p : Place = record { text = x; at = at } in p ≡ record { text = y; at = at }
placed x y at e = ap (λ t. let p : Place = record { text = t; at = at } in p) e

-- the span from the cursor on is that from the place that the code reads
spanned : (c : After-found_at) (stop : ℕ) → span_at c.loop-text.cursor.text c.loop-text.cursor.at stop ≡ span_at c.text-text.result.now c.at-at.result stop
spanned c stop = ap (λ x. span_at x c.loop-text.cursor.at stop) (same_text c) ∙ ap (λ n. span_at c.text-text.result.now n stop) (sym c.at-at.ensures.value)

moved : (c : After-found_at) (p : Place) → p.text ≡ c.loop-text.cursor.text → stream_at c.args.syntax.now c.text-text.result.now c.at-at.result ≡ stream_at c.args.syntax.now p.text p.at
    → (p.text ≡ c.args.cursor.now.text) × (stream_at c.args.syntax.now c.args.cursor.now.text p.at ≡ stream_at c.args.syntax.now c.args.cursor.now.text c.args.cursor.now.at) × (c.loop-text.state ≡ Outside)
moved c p e f =
    let g = e ∙ c.loop-text.invariant.0 in
    (g, ap (λ x. stream_at c.args.syntax.now x p.at) (sym g) ∙ sym f ∙ sym (from_here c), c.loop-text.invariant.2)

pub returns-then-kept-at-clause-steps : goal.returns-then-kept-at-clause-steps
returns-then-kept-at-clause-steps c =
    let d = (goal.at-returns-then-kept-at-clause-steps c).After-found_at in
    still_outside c.args.syntax.now _ c.loop-text.state (TemplateData c.range.result) c.span_to-span.result c.skip_to.new.self c.loop-text.invariant.2
    (from_here d
    ∙ outside_data c.args.syntax.now c.text-text.result.now c.range.result.now c.at-at.result c.in-Data.stop c.in-Data.kept c.span_to-span.result c.skip_to.new.self
    (inside d) c.in-Data.ensures c.if-kept-at.true c.range.ensures.value
    (c.span_to-span.ensures.span ∙ spanned d c.in-Data.kept)
    (c.skip_to.ensures ∙ placed _ _ c.in-Data.stop (ap (λ (p : Place). p.text) c.span_to-span.ensures.place ∙ same_text d)))

pub loop-text-preserved-in-Data : goal.loop-text-preserved-in-Data
loop-text-preserved-in-Data c =
    let d = (goal.at-loop-text-preserved-in-Data c).After-found_at in
    moved d c.advance.new.self (ap (λ (p : Place). p.text) c.advance.ensures)
    (outside_none c.args.syntax.now c.text-text.result.now c.at-at.result c.in-Data.stop c.in-Data.kept c.advance.new.self
    (inside d) c.in-Data.ensures c.if-kept-at.false (c.advance.ensures ∙ placed _ _ c.in-Data.stop (same_text d)))

pub loop-text-preserved : goal.loop-text-preserved
loop-text-preserved c =
    let d = (goal.at-loop-text-preserved c).After-found_at in
    moved d c.advance-in-Skipped.new.self (ap (λ (p : Place). p.text) c.advance-in-Skipped.ensures)
    (outside_skipped c.args.syntax.now c.text-text.result.now c.at-at.result c.in-Skipped.stop c.advance-in-Skipped.new.self
    (inside d) c.in-Skipped.ensures (c.advance-in-Skipped.ensures ∙ placed _ _ c.in-Skipped.stop (same_text d)))

pub returns-in-Raw-clause-steps : goal.returns-in-Raw-clause-steps
returns-in-Raw-clause-steps c =
    let d = (goal.at-returns-in-Raw-clause-steps c).After-found_at in
    subst (λ (x : Stream). Steps c.args.syntax.now x c.loop-text.state c.step_raw.result c.step_raw.new.cursor) (sym (from_here d))
    (outside_raw c.args.syntax.now c.loop-text.state c.text-text.result.now c.at-at.result c.in-Raw.block c.step_raw.result c.step_raw.new.cursor c.loop-text.invariant.2
    (inside d) c.in-Raw.ensures (subst (λ x. RawSteps x c.in-Raw.block c.step_raw.result c.step_raw.new.cursor) (same_text d) c.step_raw.ensures.steps))

pub returns-in-Raw-clause-takes : goal.returns-in-Raw-clause-takes
returns-in-Raw-clause-takes c =
    let d = (goal.at-returns-in-Raw-clause-takes c).After-found_at in
    subst (λ x. Takes c.args.syntax.now x c.step_raw.result) c.text-text.ensures
    (raw_takes c.args.syntax.now c.text-text.result.now c.at-at.result c.in-Raw.block c.step_raw.result c.step_raw.new.cursor c.in-Raw.ensures
    (subst (λ x. RawSteps x c.in-Raw.block c.step_raw.result c.step_raw.new.cursor) (same_text d) c.step_raw.ensures.steps)
    (subst (λ x. TakesBetween x c.step_raw.result) (same_text d) c.step_raw.ensures.between))

pub returns-in-Tag-clause-steps : goal.returns-in-Tag-clause-steps
returns-in-Tag-clause-steps c =
    let d = (goal.at-returns-in-Tag-clause-steps c).After-found_at in (
      from_here d ∙ outside_tag c.args.syntax.now c.text-text.result.now (tag_view c.in-Tag.tag) c.at-at.result c.in-Tag.body _ c.span_to-span-in-Tag.result c.span_to-span-in-Tag.new.self
          (inside d) c.in-Tag.ensures c.start_token.ensures
          (c.span_to-span-in-Tag.ensures.span ∙ spanned d c.in-Tag.body)
          (c.span_to-span-in-Tag.ensures.place ∙ placed _ _ c.in-Tag.body (same_text d)),
      (omega arith, omega arith),
    )

pub returns-in-Unclosed-clause-steps : goal.returns-in-Unclosed-clause-steps
returns-in-Unclosed-clause-steps c =
    let d = (goal.at-returns-in-Unclosed-clause-steps c).After-found_at in
    from_here d ∙ outside_unclosed c.args.syntax.now c.text-text.result.now c.at-at.result (fault_view c.in-Unclosed.fault) c.refusal.result
    (inside d) c.in-Unclosed.ensures (c.refusal.ensures.span ∙ ap (λ x. refusal_span x (length c.text-text.result.now)) (same_text d))

pub returns-clause-steps : goal.returns-clause-steps
returns-clause-steps c =
    let l : length c.text-text.result.now ≡ length c.args.cursor.now.text = ap length c.text-text.ensures in
    sym c.loop-text.invariant.1 ∙ stream_at-over c.args.syntax.now c.args.cursor.now.text c.loop-text.cursor.at (omega (arith, l, c.at.ensures.value, c.loop-text-test.false))
