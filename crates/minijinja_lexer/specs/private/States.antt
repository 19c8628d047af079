-- What the tokenizer's states and steps say of the tokens to come.
use Rattle.std.specs.Prelude.{◌≡◌, ◌⊎◌, ◌≤◌, ℕ, Bool, true, false, [], ◌∷◌, Some}
use Rattle.minijinja_syntax.specs.Texts.{Text}
use Rattle.minijinja_syntax.specs.Syntax.{Syntax}
use Rattle.minijinja_syntax.specs.Tokens.{tok_of, template_data}
use Rattle.minijinja_syntax.specs.Positions.{slice, span_at}
use Rattle.minijinja_lexer.specs.private.Views.{tag_view, fault_view}
use Rattle.minijinja_lexer.specs.declared.raw.RawBlock.{RawBlock}
use Rattle.minijinja_lexer.specs.Faults.{fault_kind}
use Rattle.minijinja_syntax.specs.Streams.{Stream, finished, refused, before, ended}
use Rattle.minijinja_lexer.specs.Stream.{out_of_memory, NeedsMemory}
use Rattle.minijinja_lexer.specs.private.Place.{Place}
use Rattle.minijinja_lexer.specs.Slices.{IsBetweenChars, IsTokenText}
use Rattle.minijinja_lexer.specs.TextTokens.{stream_at, stream_in, behind_expression}
use Rattle.minijinja_lexer.specs.declared.step.State.{State}
use Rattle.minijinja_lexer.specs.declared.step.State.TheVariants as state
use Rattle.minijinja_lexer.specs.declared.step.Step.{Step}
use Rattle.minijinja_lexer.specs.declared.step.Step.TheVariants as step

-- what comes after a tag, which may be the whole text
abbrev pub behind : Syntax → Text → Bool → (stop after : ℕ) → Stream
behind s text true stop after = behind_expression text stop after
behind s text false stop after = stream_at s text after

-- what is to come, from a place in a state
abbrev pub stream_from : Syntax → Place → State → Stream
stream_from s p state.Outside = stream_at s p.text p.at
stream_from s p (state.Inside k o c whole) = stream_in s p.text (tag_view k) (behind s p.text whole) o c p.at
stream_from s p state.Over = ended finished
stream_from s p (state.Failed f span) = ended (refused (fault_kind (fault_view f)) (Some span))
stream_from s p state.NoMemory = out_of_memory

-- no more brackets opened or shut than bytes stand before
abbrev pub StateFits : Place → State → Type 0
StateFits p state.Outside = Unit {0}
StateFits p (state.Inside k o c whole) = (o ≤ p.at) × (c ≤ p.at)
StateFits p state.Over = Unit {0}
StateFits p (state.Failed f span) = Unit {0}
StateFits p state.NoMemory = Unit {0}

-- a step takes the first token of what was to come, and the rest comes from the state that it
-- leaves; or it says how what was to come ends, or there is no memory for that token
abbrev pub Steps : Syntax → Stream → State → Step → Place → Type 0
Steps s old new (step.Token t span) p = (old ≡ before ((tok_of t, span) ∷ []) (stream_from s p new)) × StateFits p new
Steps s old new step.Over p = old ≡ ended finished
Steps s old new (step.Failed f span) p = old ≡ ended (refused (fault_kind (fault_view f)) (Some span))
Steps s old new step.NoMemory p = (old ≡ out_of_memory) ⊎ NeedsMemory old.tokens

-- the token that a step takes stands between characters, and has the text that stands there
abbrev pub Takes : Syntax → Text → Step → Type 0
Takes s text (step.Token t span) = IsBetweenChars text span × IsTokenText s text (tok_of t) span
Takes s text _ = Unit {0}

-- the token that a step takes stands between characters
abbrev pub TakesBetween : Text → Step → Type 0
TakesBetween text (step.Token t span) = IsBetweenChars text span
TakesBetween text _ = Unit {0}

-- a step that gives the token of a raw block, and goes on after it
abbrev pub RawSteps : Text → RawBlock → Step → Place → Type 0
RawSteps text block (step.Token t span) p =
    (tok_of t ≡ template_data (slice text block.start block.stop)) × (span ≡ span_at text block.begin block.end) × (p ≡ record { text = text; at = block.after })
RawSteps text block _ p = ⊥
