-- Refusals of the tokenizer have a span.
use Rattle.std.proofs.Common.{ℕ, Bool, true, false, List, [], ◌∷◌, cond, refl, ap, subst}
use Rattle.std.specs.Prelude.{◌==◌, IsSome, is_some, length}
use Rattle.minijinja_syntax.specs.Errors.{span_of}
use Rattle.minijinja_syntax.specs.Texts.{Text}
use Rattle.minijinja_syntax.specs.Syntax.{Syntax}
use Rattle.minijinja_syntax.specs.Streams.{Ending, ended, finished, refused}
use Rattle.minijinja_syntax.specs.declared.error.Error.{Error}
use Rattle.minijinja_lexer.specs.Cut.{Segment, plain, comment, line_comment, raw, tag, unclosed_comment, unclosed_raw, cut_at, inner_at}
use Rattle.minijinja_lexer.specs.TagParts.{Close, Closed, Broken, Refused}
use Rattle.minijinja_lexer.specs.Tags.{Tag, Variable}
use Rattle.minijinja_lexer.specs.TextTokens.{refusal, behind_expression, close_ending, close_stream, ending_of, segment_ending, stream_at, stream_in, text_of, tokens_of_expression, tokens_of_expression_at, tokens_of_template}
use Rattle.minijinja_grammar.specs.Places.{Place}
use Rattle.minijinja_parser.specs.Placing.{IsPlaced, IsPlacedAt, IsPlacedInText, at_token, at_last, at_refusal}

-- if it is a refusal, it has a span
abbrev pub EndsSomewhere : Ending → Type 0
EndsSomewhere finished = Unit {0}
EndsSomewhere (refused kind span) = IsSome span

close_ends : (text : Text) (c : Close) (later : Ending) → EndsSomewhere later → EndsSomewhere (close_ending text c later)
close_ends text (Closed start stop after) later h = h
close_ends text Broken later h = tt
close_ends text (Refused f start place) later h = refl

segment_ends : (text : Text) (g : Segment) (later : Ending) → EndsSomewhere later → EndsSomewhere (segment_ending text g later)
segment_ends text (plain start stop) later h = h
segment_ends text (comment start stop) later h = h
segment_ends text (line_comment start stop) later h = h
segment_ends text (raw start block) later h = h
segment_ends text (tag k start body inner) later h = close_ends text inner.close later h
segment_ends text (unclosed_comment start) later h = refl
segment_ends text (unclosed_raw start) later h = refl

segments_end : (text : Text) (gs : List Segment) → EndsSomewhere (ending_of text gs)
segments_end text [] = tt
segments_end text (g ∷ gs) = segment_ends text g (ending_of text gs) (segments_end text gs)

pub template_ends : (s : Syntax) (source : Text) → EndsSomewhere (tokens_of_template s source).ending
unfolding tokens_of_template stream_at
template_ends s source = segments_end (text_of s source) (cut_at s (text_of s source) 0)

behind_ends : (text : Text) (stop after : ℕ) → EndsSomewhere (behind_expression text stop after).ending
behind_ends text stop after = go (stop == length text)
  where
    go : (b : Bool) → EndsSomewhere (cond b (ended finished) (ended (refusal text stop))).ending
    go true = tt
    go false = refl

tag_ends : (text : Text) (k : Tag) (c : Close) → EndsSomewhere (close_stream text k (behind_expression text) c).ending
tag_ends text k (Closed start stop after) = behind_ends text stop after
tag_ends text k Broken = tt
tag_ends text k (Refused f start place) = refl

pub expression_at_ends : (s : Syntax) (text : Text) (at : ℕ) → EndsSomewhere (tokens_of_expression_at s text at).ending
unfolding tokens_of_expression_at stream_in
expression_at_ends s text at = tag_ends text Variable (inner_at s text Variable 0 0 at).close

pub expression_ends : (s : Syntax) (source : Text) → EndsSomewhere (tokens_of_expression s source).ending
unfolding tokens_of_expression
expression_ends s source = expression_at_ends s (text_of s source) 0

-- so an error that stands in a text has one too
pub placed_in_text : (p : Place) (e : Error) → EndsSomewhere p.ending → IsPlaced p e → IsPlacedInText p e
placed_in_text p e h k = λ refusal. record { span = go (k refusal); stands = k refusal }
  where
    go : IsPlacedAt p e → IsSome (span_of e)
    go (at_token i j) = ap is_some j
    go (at_last j) = ap is_some j
    go (at_refusal i) = subst EndsSomewhere i h
