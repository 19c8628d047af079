-- Tokens are slices at their spans.
use Rattle.std.proofs.Common.{◌≡◌, ℕ, zero, suc, ◌+◌, ◌-◌, ◌<◌, ◌≤◌, ◌==◌, Bool, true, false, cond, List, [], ◌∷◌, ◌++◌, length, drop, refl, ap, sym, arith, subst, map, length-take, Option, Some, None, Ok}
use Rattle.std.specs.Prelude.{nat_lt, is_some, unwrap_or}
use Rattle.std.specs.List.{flat_map}
use Rattle.minijinja_syntax.specs.Texts.{Text}
use Rattle.minijinja_syntax.specs.Syntax.{Syntax, end_of}
use Rattle.minijinja_syntax.specs.Positions.{slice, span_at}
use Rattle.minijinja_syntax.specs.Tokens.{template_data}
use Rattle.minijinja_syntax.specs.Markers.{stands, marker_at}
use Rattle.minijinja_syntax.specs.declared.syntax.StartMarker.{StartMarker}
use Rattle.minijinja_syntax.specs.declared.syntax.StartMarker.TheVariants as markers
use Rattle.minijinja_syntax.specs.Streams.{SpannedTok, Stream, ended, finished}
use Rattle.minijinja_lexer.specs.TokenAt.{token_at}
use Rattle.minijinja_lexer.specs.Escapes.{unescaped}
use Rattle.minijinja_lexer.specs.Brackets.{opened_by, shut_by}
use Rattle.minijinja_lexer.specs.Symbols.{symbol_tok}
use Rattle.minijinja_lexer.specs.Whitespace.{body_of, control_at, tail_len, line_kept_len}
use Rattle.minijinja_lexer.specs.Raw.{raw_at, endraw_at, endraw_from, next_endraw, or_later, raw_block, raw_kept_len}
use Rattle.minijinja_lexer.specs.Cut.{Segment, comment, unclosed_comment, segment_at, segment_of, tag_at, block_to, raw_to, comment_at, next_delimiter, cut_at, cut_from, stop_of, inner_at}
use Rattle.minijinja_lexer.specs.Relation.{IsInner}
use Rattle.minijinja_lexer.specs.TextTokens.{text_of, lexeme_token, close_tokens, close_stream, segment_tokens, data_tokens, stream_at, stream_in, behind_expression, refusal, end_tok, start_tok, tokens_of_template, tokens_of_expression, tokens_of_expression_at}
use Rattle.minijinja_lexer.specs.Slices.{IsRawText, IsSliceAt, AreSlices, AreSegmentSlices, AreCutSlices}
use Rattle.minijinja_lexer.specs.Controls.{Control, Absent, Remove, Preserve}
use Rattle.minijinja_lexer.specs.Symbols.{Symbol}
use Rattle.minijinja_lexer.specs.Symbols as symbols
use Rattle.minijinja_lexer.specs.Sorts.{Sort}
use Rattle.minijinja_lexer.specs.Sorts as sort
use Rattle.minijinja_lexer.specs.Tags.{Tag, Variable, Block, Line}
use Rattle.minijinja_lexer.specs.TagParts.{Lexeme, Close, Closed, Broken, Refused}
use Rattle.minijinja_lexer.proofs.Tokens.{string_means}
use Rattle.minijinja_lexer.proofs.Within.{tail_within}
use Rattle.minijinja_lexer.proofs.Kept.{line_kept_within}
use Rattle.minijinja_lexer.proofs.SomeCut.{inner_holds}

pub slices_append : (text : Text) (xs ys : List SpannedTok) → AreSlices text xs → AreSlices text ys → AreSlices text (xs ++ ys)
slices_append text [] ys h g = g
slices_append text (x ∷ xs) ys h g = (h.0, h.1, slices_append text xs ys h.2 g)

-- ---- tags

symbol_slice : (text : Text) (start stop : ℕ) (x : Symbol) → IsSliceAt text (span_at text start stop) (symbol_tok x)
symbol_slice text start stop symbols.Plus = tt
symbol_slice text start stop symbols.Minus = tt
symbol_slice text start stop symbols.Mul = tt
symbol_slice text start stop symbols.Div = tt
symbol_slice text start stop symbols.FloorDiv = tt
symbol_slice text start stop symbols.Pow = tt
symbol_slice text start stop symbols.Mod = tt
symbol_slice text start stop symbols.Dot = tt
symbol_slice text start stop symbols.Comma = tt
symbol_slice text start stop symbols.Colon = tt
symbol_slice text start stop symbols.Tilde = tt
symbol_slice text start stop symbols.Assign = tt
symbol_slice text start stop symbols.Pipe = tt
symbol_slice text start stop symbols.Eq = tt
symbol_slice text start stop symbols.Ne = tt
symbol_slice text start stop symbols.Gt = tt
symbol_slice text start stop symbols.Gte = tt
symbol_slice text start stop symbols.Lt = tt
symbol_slice text start stop symbols.Lte = tt
symbol_slice text start stop symbols.BracketOpen = tt
symbol_slice text start stop symbols.BracketClose = tt
symbol_slice text start stop symbols.ParenOpen = tt
symbol_slice text start stop symbols.ParenClose = tt
symbol_slice text start stop symbols.BraceOpen = tt
symbol_slice text start stop symbols.BraceClose = tt

decoded : (x : Option Text) → is_some x ≡ true → Some (unwrap_or x []) ≡ x
decoded None h = let e : false ≡ true = h in cc
decoded (Some t) h = refl

pub lexeme_slice : (text : Text) (start stop : ℕ) (x : Sort) → token_at text start ≡ Ok (x, stop) → IsSliceAt text (span_at text start stop) (lexeme_token text (record { start = start; stop = stop; sort = x })).0
lexeme_slice text start stop sort.Ident e = refl
lexeme_slice text start stop sort.Str e = refl
lexeme_slice text start stop sort.String e = decoded (unescaped (slice text (start + 1) (stop - 1))) (string_means text start stop e)
lexeme_slice text start stop (sort.Int n) e = tt
lexeme_slice text start stop (sort.Int128 n) e = tt
lexeme_slice text start stop (sort.Symbol x) e = symbol_slice text start stop x

lexemes_slices : (s : Syntax) (text : Text) (k : Tag) (o c at : ℕ) (ls : List Lexeme) (close : Close) → IsInner s text k o c at ls close → AreSlices text (map (lexeme_token text) ls)
lexemes_slices s text k o c at [] close is = tt
lexemes_slices s text k o c at (l ∷ ls) close is =
    (lexeme_slice text l.start l.stop l.sort is.0.token, refl, lexemes_slices s text k (o + opened_by l.sort) (c + shut_by l.sort) l.stop ls close is.1)

pub start_slice : (text : Text) (k : Tag) (start stop : ℕ) → IsSliceAt text (span_at text start stop) (start_tok k)
start_slice text Variable start stop = tt
start_slice text Block start stop = tt
start_slice text Line start stop = tt

pub end_slice : (text : Text) (k : Tag) (start stop : ℕ) → IsSliceAt text (span_at text start stop) (end_tok k)
end_slice text Variable start stop = tt
end_slice text Block start stop = tt
end_slice text Line start stop = tt

close_slices : (text : Text) (k : Tag) (close : Close) → AreSlices text (close_tokens text k close)
close_slices text k (Closed start stop after) = (end_slice text k start stop, refl, tt)
close_slices text k Broken = tt
close_slices text k (Refused f start place) = tt

tag_slices : (s : Syntax) (text : Text) (k : Tag) (start body : ℕ) → AreSlices text (segment_tokens s text (tag_at s text k start body))
tag_slices s text k start body =
    let i = inner_at s text k 0 0 body in
    (start_slice text k start body, refl, slices_append text (map (lexeme_token text) i.lexemes) (close_tokens text k i.close) (lexemes_slices s text k 0 0 body i.lexemes i.close (inner_holds s text k 0 0 body)) (close_slices text k i.close))

-- ---- raw blocks

-- the tokens of a segment are as they should be
abbrev pub AreOwn : Syntax → Text → Segment → Type 0
AreOwn s text g = AreSegmentSlices s text g (segment_tokens s text g)

EndsRaw : Syntax → Text → (at left : ℕ) → Option (ℕ × Control × ℕ) → Type 0
EndsRaw s text at left None = Unit {0}
EndsRaw s text at left (Some r) = (at ≤ r.0) × (r.0 < at + left) × (endraw_at s text (r.0 + length s.block_start) ≡ Some (r.1, r.2))

later_ends : (s : Syntax) (text : Text) (at left : ℕ) (x : Option (ℕ × Control × ℕ)) → EndsRaw s text (at + 1) left x → EndsRaw s text at (suc left) x
unfolding EndsRaw
later_ends s text at left None h = tt
later_ends s text at left (Some r) h = let a = h.0 in let b = h.1 in (omega (arith, a), omega (arith, b), h.2)

either_ends : (s : Syntax) (text : Text) (at left : ℕ) (y : Option (Control × ℕ)) (x : Option (ℕ × Control × ℕ)) → endraw_at s text (at + length s.block_start) ≡ y → EndsRaw s text at (suc left) x → EndsRaw s text at (suc left) (or_later at y x)
unfolding EndsRaw
either_ends s text at left None x e h = h
either_ends s text at left (Some y) x e h = (omega arith, omega arith, e)

start_ends : (s : Syntax) (text : Text) (at left : ℕ) (t : Bool) → EndsRaw s text (at + 1) left (endraw_from s text (at + 1) (length s.block_start - 1) left) → EndsRaw s text (at + 1) left (endraw_from s text (at + 1) 0 left)
    → EndsRaw s text at (suc left) (cond t (or_later at (endraw_at s text (at + length s.block_start)) (endraw_from s text (at + 1) (length s.block_start - 1) left)) (endraw_from s text (at + 1) 0 left))
start_ends s text at left true h g = either_ends s text at left (endraw_at s text (at + length s.block_start)) _ refl (later_ends s text at left (endraw_from s text (at + 1) (length s.block_start - 1) left) h)
start_ends s text at left false h g = later_ends s text at left (endraw_from s text (at + 1) 0 left) g

raw_from_ends : (s : Syntax) (text : Text) (at skip left : ℕ) → EndsRaw s text at left (endraw_from s text at skip left)
unfolding EndsRaw
raw_from_ends s text at skip zero = tt
raw_from_ends s text at (suc skip) (suc left) = later_ends s text at left (endraw_from s text (at + 1) skip left) (raw_from_ends s text (at + 1) skip left)
raw_from_ends s text at zero (suc left) =
    start_ends s text at left (stands s.block_start text at) (raw_from_ends s text (at + 1) (length s.block_start - 1) left) (raw_from_ends s text (at + 1) 0 left)

next_ends : (s : Syntax) (text : Text) (at : ℕ) → EndsRaw s text at (length text - at) (next_endraw s text at)
unfolding next_endraw
next_ends s text at = raw_from_ends s text at 0 (length text - at)

raw_kept_within : (s : Syntax) (control : Control) (text : Text) → raw_kept_len s control text ≤ length text
raw_kept_within s Remove text = omega arith
raw_kept_within s Preserve text = omega arith
raw_kept_within s Absent text = either s.lstrip_blocks
  where
    either : (t : Bool) → cond t (line_kept_len text) (length text) ≤ length text
    either true = line_kept_within text
    either false = omega arith

slice_short : (text : Text) (start stop : ℕ) → length (slice text start stop) ≤ stop - start
slice_short text start stop = let l = length-take (stop - start) (drop start text) in omega (arith, l)

raw_text : (s : Syntax) (text : Text) (body begin close : ℕ) (control : Control) (tag_end : Control × ℕ) → raw_at s text body ≡ Some (control, begin) → begin ≤ close → endraw_at s text (close + length s.block_start) ≡ Some tag_end →
    let b = raw_block s text begin control close tag_end in IsRawText s text b.begin b.end (slice text b.start b.stop)
raw_text s text body begin close control tag_end r h e =
    let a = tail_within s markers.Block control (slice text begin close) in
    let l = slice_short text begin close in
    let start : ℕ = begin + tail_len s markers.Block control (slice text begin close) in
    let k = raw_kept_within s (control_at text (close + length s.block_start)) (slice text start close) in
    let m = slice_short text start close in
    record {
      body = body;
      control = control;
      raw_tag = r;
      endraw_tag = ap is_some e;
      from = start;
      to = start + raw_kept_len s (control_at text (close + length s.block_start)) (slice text start close);
      start = omega arith;
      ordered = omega arith;
      stop = omega (arith, a, l, k, m, h);
      part = refl;
    }

raw_slices : (s : Syntax) (text : Text) (start body begin left : ℕ) (control : Control) (x : Option (ℕ × Control × ℕ)) → raw_at s text body ≡ Some (control, begin) → EndsRaw s text begin left x → AreOwn s text (raw_to s text start begin control x)
unfolding EndsRaw
raw_slices s text start body begin left control None e h = tt
raw_slices s text start body begin left control (Some r) e h = (_, refl, raw_text s text body begin r.0 control (r.1, r.2) e h.0 h.2)

-- ---- segments

data_slices : (text : Text) (start kept : ℕ) → AreSlices text (data_tokens text start kept)
data_slices text start kept = either (kept == start)
  where
    either : (t : Bool) → AreSlices text (cond t [] ((template_data (slice text start kept), span_at text start kept) ∷ []))
    either true = tt
    either false = (refl, refl, tt)

block_slices : (s : Syntax) (text : Text) (start body : ℕ) (x : Option (Control × ℕ)) → raw_at s text body ≡ x → AreOwn s text (block_to s text start body x)
block_slices s text start body None e = tag_slices s text Block start body
block_slices s text start body (Some r) e = raw_slices s text start body r.1 (length text - r.1) r.0 (next_endraw s text r.1) e (next_ends s text r.1)

comment_slices : (s : Syntax) (text : Text) (start body : ℕ) → AreOwn s text (comment_at s text start body)
comment_slices s text start body = either (nat_lt (next_delimiter (end_of s markers.Comment) text body) (length text)) _
  where
    either : (t : Bool) (stop : ℕ) → AreOwn s text (cond t (comment start stop) (unclosed_comment start))
    either true stop = tt
    either false stop = tt

marker_slices : (s : Syntax) (text : Text) (at : ℕ) (m : Option StartMarker) → AreOwn s text (segment_of s text at m)
marker_slices s text at None = data_slices text at _
marker_slices s text at (Some markers.Variable) = tag_slices s text Variable at _
marker_slices s text at (Some markers.Block) = block_slices s text at (body_of s text markers.Block at) (raw_at s text (body_of s text markers.Block at)) refl
marker_slices s text at (Some markers.Comment) = comment_slices s text at (body_of s text markers.Comment at)
marker_slices s text at (Some markers.LineStatement) = tag_slices s text Line at _
marker_slices s text at (Some markers.LineComment) = tt

pub segment_slices : (s : Syntax) (text : Text) (at : ℕ) → AreOwn s text (segment_at s text at)
unfolding segment_at
segment_slices s text at = marker_slices s text at (marker_at s text at)

cut_slices : (s : Syntax) (text : Text) (at skip : ℕ) (bs : Text) → let gs = cut_from s text at skip bs in AreCutSlices s text gs (flat_map (segment_tokens s text) gs)
cut_slices s text at skip [] = refl
cut_slices s text at (suc skip) (b ∷ bs) = cut_slices s text (at + 1) skip bs
cut_slices s text at zero (b ∷ bs) =
    let g = segment_at s text at in
    (segment_tokens s text g, _, refl, segment_slices s text at, cut_slices s text (at + 1) (stop_of (length text) g - (at + 1)) bs)

pub template_slices : (s : Syntax) (source : Text) → AreCutSlices s (text_of s source) (cut_at s (text_of s source) 0) (tokens_of_template s source).tokens
unfolding tokens_of_template stream_at cut_at
template_slices s source = cut_slices s (text_of s source) 0 0 (drop 0 (text_of s source))

-- ---- expressions

-- after an expression come no tokens
pub none_behind : (text : Text) (stop after : ℕ) → (behind_expression text stop after).tokens ≡ []
none_behind text stop after = either (stop == length text)
  where
    either : (t : Bool) → (let b : Stream = cond t (ended finished) (ended (refusal text stop)) in b.tokens) ≡ []
    either true = refl
    either false = refl

close_stream_slices : (text : Text) (k : Tag) (close : Close) → AreSlices text (close_stream text k (behind_expression text) close).tokens
close_stream_slices text k (Closed start stop after) = (end_slice text k start stop, refl, subst (AreSlices text) (sym (none_behind text stop after)) tt)
close_stream_slices text k Broken = tt
close_stream_slices text k (Refused f start place) = tt

pub slices_at : (s : Syntax) (text : Text) (at : ℕ) → AreSlices text (tokens_of_expression_at s text at).tokens
unfolding tokens_of_expression_at stream_in
slices_at s text at =
    let i = inner_at s text Variable 0 0 at in
    slices_append text (map (lexeme_token text) i.lexemes) _ (lexemes_slices s text Variable 0 0 at i.lexemes i.close (inner_holds s text Variable 0 0 at)) (close_stream_slices text Variable i.close)

pub expression_slices : (s : Syntax) (source : Text) → AreSlices (text_of s source) (tokens_of_expression s source).tokens
unfolding tokens_of_expression
expression_slices s source = slices_at s (text_of s source) 0
