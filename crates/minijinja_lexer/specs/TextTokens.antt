-- The tokens of a text: those of each segment of its cut, and then the end or the refusal.
use Rattle.std.specs.Prelude.{ℕ, ◌+◌, ◌-◌, ◌==◌, if◌then◌else◌, min, List, [], ◌∷◌, ◌++◌, length, map, unwrap_or, Some}
use Rattle.std.specs.List.{flat_map}
use Rattle.std.specs.Io.BufRead.{strip_last}
use Rattle.minijinja_syntax.specs.Texts.{Text}
use Rattle.minijinja_syntax.specs.Syntax.{Syntax}
use Rattle.minijinja_syntax.specs.Positions.{slice, span_at}
use Rattle.minijinja_syntax.specs.Tokens.{Tok, template_data, variable_start, variable_end, block_start, block_end, ident, str, string, int, int128}
use Rattle.minijinja_syntax.specs.declared.tokens.Span.{Span}
use Rattle.minijinja_syntax.specs.declared.error.ErrorKind.TheVariants.{SyntaxError}
use Rattle.minijinja_lexer.specs.Escapes.{unescaped}
use Rattle.minijinja_lexer.specs.Symbols.{symbol_tok}
use Rattle.minijinja_lexer.specs.Faults.{fault_kind, LexFault, BadEscape}
use Rattle.minijinja_syntax.specs.Streams.{SpannedTok, Ending, finished, refused, Stream, before, ended}
use Rattle.minijinja_lexer.specs.Whitespace.{kept_stop}
use Rattle.minijinja_lexer.specs.Cut.{Segment, plain, comment, line_comment, raw, tag, unclosed_comment, unclosed_raw, inner_at, cut_at}
use Rattle.minijinja_lexer.specs.Sorts as sort
use Rattle.minijinja_lexer.specs.Tags.{Tag, Variable, Block, Line}
use Rattle.minijinja_lexer.specs.TagParts.{Lexeme, Close, Closed, Broken, Refused}

-- the text of a source: unless the syntax keeps it, without one final \n and then one final \r
unfoldable pub text_of : Syntax → Text → Text
text_of s source = if s.keep_trailing_newline then source else strip_last 13 (strip_last 10 source)

-- ---- tokens

-- the token of a tag's marker
abbrev pub start_tok : Tag → Tok
start_tok Variable = variable_start
start_tok Block = block_start
start_tok Line = block_start

-- the token of its end
abbrev pub end_tok : Tag → Tok
end_tok Variable = variable_end
end_tok Block = block_end
end_tok Line = block_end

-- the text between a string's quotes
abbrev pub inside_quotes : Text → Lexeme → Text
inside_quotes text l = slice text (l.start + 1) (l.stop - 1)

-- a token's text is the slice where it stands, a string's without its quotes; escapes are decoded
abbrev pub lexeme_tok : Text → Lexeme → Tok
lexeme_tok text l = elim l.sort [
  | sort.Ident ↦ ident (slice text l.start l.stop)
  | sort.Str ↦ str (inside_quotes text l)
  | sort.String ↦ string (unwrap_or (unescaped (inside_quotes text l)) [])
  | sort.Int n ↦ int n
  | sort.Int128 n ↦ int128 n
  | sort.Symbol x ↦ symbol_tok x
]

-- the token and its span
abbrev pub lexeme_token : Text → Lexeme → SpannedTok
lexeme_token text l = (lexeme_tok text l, span_at text l.start l.stop)

-- the token of a tag's end, if it has one
abbrev pub close_tokens : Text → Tag → Close → List SpannedTok
close_tokens text k (Closed start stop after) = (end_tok k, span_at text start stop) ∷ []
close_tokens text k Broken = []
close_tokens text k (Refused f start place) = []

-- what is kept of data is one token, unless it is empty
abbrev pub data_tokens : Text → (start kept : ℕ) → List SpannedTok
data_tokens text start kept = if kept == start then [] else (template_data (slice text start kept), span_at text start kept) ∷ []

-- a tag is its marker, what stands inside it and its end; a raw block is one token, also when
-- nothing is kept of its text
abbrev pub segment_tokens : Syntax → Text → Segment → List SpannedTok
segment_tokens s text (plain start stop) = data_tokens text start (kept_stop s text start stop)
segment_tokens s text (comment start stop) = []
segment_tokens s text (line_comment start stop) = []
segment_tokens s text (raw start block) = (template_data (slice text block.start block.stop), span_at text block.begin block.end) ∷ []
segment_tokens s text (tag k start body inner) =
    (start_tok k, span_at text start body) ∷ (map (lexeme_token text) inner.lexemes ++ close_tokens text k inner.close)
segment_tokens s text (unclosed_comment start) = []
segment_tokens s text (unclosed_raw start) = []

-- ---- the ending

-- one column and one byte from the place on; both stop at the largest number that a span holds
abbrev pub refusal_span : Text → ℕ → Span
refusal_span text place = let here = span_at text place place in record here { end_col = min 65535 (here.end_col + 1); end_offset = min 4294967295 (place + 1) }

-- where a token that begins at `start` is refused: a bad escape in the whole string, all else at
-- the place
abbrev pub fault_span : Text → LexFault → (start place : ℕ) → Span
fault_span text BadEscape start place = span_at text start place
fault_span text _ start place = refusal_span text place

-- the token is refused
abbrev pub token_refusal : Text → LexFault → (start place : ℕ) → Ending
token_refusal text f start place = refused (fault_kind f) (Some (fault_span text f start place))

-- the text is refused at the place
abbrev pub refusal : Text → ℕ → Ending
refusal text place = refused SyntaxError (Some (refusal_span text place))

-- the first refusal ends the tokens, and so does a tag with no end
abbrev pub close_ending : Text → Close → Ending → Ending
close_ending text (Closed start stop after) later = later
close_ending text Broken later = finished
close_ending text (Refused f start place) later = token_refusal text f start place

-- how the tokens end from a segment on, where `later` is how those after it do
abbrev pub segment_ending : Text → Segment → Ending → Ending
segment_ending text (plain start stop) later = later
segment_ending text (comment start stop) later = later
segment_ending text (line_comment start stop) later = later
segment_ending text (raw start block) later = later
segment_ending text (tag k start body inner) later = close_ending text inner.close later
segment_ending text (unclosed_comment start) later = refusal text (length text)
segment_ending text (unclosed_raw start) later = refusal text (length text)

-- the first segment that is refused or has no end decides; without one the text is over
abbrev pub ending_of : Text → List Segment → Ending
ending_of text [] = finished
ending_of text (g ∷ gs) = segment_ending text g (ending_of text gs)

-- ---- streams

-- the tokens of segments
abbrev pub stream_of : Syntax → Text → List Segment → Stream
stream_of s text gs = record { tokens = flat_map (segment_tokens s text) gs; ending = ending_of text gs }

-- from a place outside any tag
unfoldable pub stream_at : Syntax → Text → ℕ → Stream
stream_at s text at = stream_of s text (cut_at s text at)

-- the end of a tag, and what comes after it and after what is skipped there
abbrev pub close_stream : Text → Tag → (behind : ℕ → ℕ → Stream) → Close → Stream
close_stream text k behind (Closed start stop after) = before ((end_tok k, span_at text start stop) ∷ []) (behind stop after)
close_stream text k behind Broken = ended finished
close_stream text k behind (Refused f start place) = ended (token_refusal text f start place)

-- from a place inside a tag, before which the given number of brackets opened and shut in it
unfoldable pub stream_in : Syntax → Text → Tag → (behind : ℕ → ℕ → Stream) → (opened shut : ℕ) → ℕ → Stream
stream_in s text k behind o c at = let i = inner_at s text k o c at in before (map (lexeme_token text) i.lexemes) (close_stream text k behind i.close)

-- after an expression's end the text must be over
abbrev pub behind_expression : Text → (stop after : ℕ) → Stream
behind_expression text stop after = if stop == length text then ended finished else ended (refusal text stop)

-- the tokens of a template
unfoldable pub tokens_of_template : Syntax → Text → Stream
tokens_of_template s source = stream_at s (text_of s source) 0

-- the tokens of an expression that a text is from a place on: that is one variable tag without its
-- marker
unfoldable pub tokens_of_expression_at : Syntax → Text → ℕ → Stream
tokens_of_expression_at s text at = stream_in s text Variable (behind_expression text) 0 0 at

-- the tokens of an expression by itself
unfoldable pub tokens_of_expression : Syntax → Text → Stream
tokens_of_expression s source = tokens_of_expression_at s (text_of s source) 0
