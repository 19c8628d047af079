-- The text of a raw block's token is a part of what stands between its tags.
use Rattle.std.proofs.Common.{◌≡◌, ℕ, List, [], ◌∷◌, ap, sym, ◌∙◌, subst, inr}
use Rattle.minijinja_syntax.specs.Texts.{Text}
use Rattle.minijinja_syntax.specs.Syntax.{Syntax}
use Rattle.minijinja_syntax.specs.Positions.{slice, span_at}
use Rattle.minijinja_syntax.specs.Tokens.{Tok, template_data}
use Rattle.minijinja_syntax.specs.declared.tokens.Span.{Span}
use Rattle.minijinja_syntax.specs.Streams.{SpannedTok}
use Rattle.minijinja_lexer.specs.Slices.{IsRawText}
use Rattle.minijinja_lexer.specs.Cut.{raw}
use Rattle.minijinja_lexer.specs.private.Place.{Place}
use Rattle.minijinja_lexer.specs.private.Found.{IsRawAt}
use Rattle.minijinja_lexer.specs.private.States.{RawSteps, Takes, TakesBetween}
use Rattle.minijinja_lexer.specs.private.Views.{raw_block_view}
use Rattle.minijinja_lexer.specs.declared.raw.RawBlock.{RawBlock}
use Rattle.minijinja_lexer.specs.declared.step.Step.{Step}
use Rattle.minijinja_lexer.specs.declared.step.Step.TheVariants as step
use Rattle.minijinja_lexer.proofs.Slices.{AreOwn, segment_slices}

-- the text of a raw block's token
first_tok : List SpannedTok → Tok
first_tok [] = template_data []
first_tok (t ∷ ts) = t.0

abbrev one : Text → Span → List SpannedTok
one t span = (template_data t, span) ∷ []

tok_is : (t u : Text) (span : Span) → one t span ≡ one u span → template_data t ≡ template_data u
unfolding first_tok
tok_is t u span e = ap first_tok e

pub raw_takes : (s : Syntax) (text : Text) (at : ℕ) (block : RawBlock) (r : Step) (p : Place) → IsRawAt s text at block → RawSteps text block r p → TakesBetween text r → Takes s text r
raw_takes s text at block (step.Token t span) p is steps between =
    let own : AreOwn s text (raw at (raw_block_view block)) = subst (λ g. AreOwn s text g) is.segment (segment_slices s text at) in
    (between, inr (own.0, steps.0 ∙ tok_is (slice text block.start block.stop) own.0 (span_at text block.begin block.end) own.1, subst (λ (x : Span). IsRawText s text x.start_offset x.end_offset own.0) (sym steps.1) own.2))
raw_takes s text at block step.Over p is steps between = absurd steps
raw_takes s text at block (step.Failed f x) p is steps between = absurd steps
raw_takes s text at block step.NoMemory p is steps between = absurd steps
