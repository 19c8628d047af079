-- One step of the walks over a text: what stands at a place, and then what stands from its end on.
use Rattle.std.proofs.Common.{◌≡◌, ℕ, zero, suc, ◌+◌, ◌-◌, ◌<◌, ◌≤◌, List, [], ◌∷◌, ◌++◌, length, drop, refl, ap, ◌∙◌, arith, drop-cons, map, append_assoc, append-nil}
use Rattle.std.proofs.lemmas.List.{drop_all, drop-drop}
use Rattle.minijinja_syntax.specs.Texts.{Text}
use Rattle.minijinja_syntax.specs.Syntax.{Syntax}
use Rattle.minijinja_syntax.specs.Positions.{span_at}
use Rattle.minijinja_syntax.specs.Streams.{Stream, before, ended, finished}
use Rattle.minijinja_lexer.specs.Brackets.{opened_by, shut_by}
use Rattle.minijinja_lexer.specs.Cut.{close_over, Inner, Segment, inner_from, inner_at, tag_part_at, go_on, cut_from, cut_at, segment_at, stop_of, close_stop, plain, comment, line_comment, raw, tag, unclosed_comment, unclosed_raw}
use Rattle.minijinja_lexer.specs.TextTokens.{stream_at, stream_of, stream_in, close_stream, lexeme_token, segment_tokens, refusal, token_refusal, start_tok, end_tok}
use Rattle.minijinja_lexer.specs.RawBlocks.{RawBlock}
use Rattle.minijinja_lexer.specs.Tags.{Tag}
use Rattle.minijinja_lexer.specs.TagParts.{Lexeme, Close, Closed, Broken, Refused, Token, End}

-- ---- inside a tag

inner_skip : (s : Syntax) (text : Text) (k : Tag) (o c at skip : ℕ) (bs : Text) → inner_from s text k o c at skip bs ≡ inner_from s text k o c (at + skip) 0 (drop skip bs)
inner_skip s text k o c at zero bs = let e : at + 0 ≡ at = omega arith in rw e refl
inner_skip s text k o c at (suc skip) [] = let e : at + suc skip ≡ at + suc skip + 0 = omega arith in ap (λ n. let i : Inner = record { lexemes = []; close = close_over (length text) n k } in i) e
inner_skip s text k o c at (suc skip) (b ∷ bs) = let e : at + 1 + skip ≡ at + suc skip = omega arith in inner_skip s text k o c (at + 1) skip bs ∙ ap (λ n. inner_from s text k o c n 0 (drop skip bs)) e

inner_to : (s : Syntax) (text : Text) (k : Tag) (o c at stop : ℕ) → at < stop → inner_from s text k o c (at + 1) (stop - (at + 1)) (drop (suc at) text) ≡ inner_at s text k o c stop
unfolding inner_at
inner_to s text k o c at stop h =
    let e : at + 1 + (stop - (at + 1)) ≡ stop = omega arith in
    let f : suc at + (stop - (at + 1)) ≡ stop = omega arith in
    inner_skip s text k o c (at + 1) (stop - (at + 1)) (drop (suc at) text)
    ∙ ap (λ n. inner_from s text k o c n 0 (drop (stop - (at + 1)) (drop (suc at) text))) e
    ∙ ap (inner_from s text k o c stop 0) (drop-drop (stop - (at + 1)) (suc at) text ∙ ap (λ n. drop n text) f)

pub inner_step : (s : Syntax) (text : Text) (k : Tag) (o c at : ℕ) → at < length text →
    inner_at s text k o c at ≡ go_on (tag_part_at s text k o c at) (λ l. inner_from s text k (o + opened_by l.sort) (c + shut_by l.sort) (at + 1) (l.stop - (at + 1)) (drop (suc at) text))
unfolding inner_at
inner_step s text k o c at h = ap (inner_from s text k o c at 0) (drop-cons text at 0 h)

pub inner_over : (s : Syntax) (text : Text) (k : Tag) (o c at : ℕ) → length text ≤ at → inner_at s text k o c at ≡ record { lexemes = []; close = close_over (length text) at k }
unfolding inner_at
inner_over s text k o c at h =
    let e : at + 0 ≡ at = omega arith in
    ap (inner_from s text k o c at 0) (drop_all at text h) ∙ ap (λ n. let i : Inner = record { lexemes = []; close = close_over (length text) n k } in i) e

pub inner_at-token : (s : Syntax) (text : Text) (k : Tag) (o c at : ℕ) (l : Lexeme) → at < length text → at < l.stop → tag_part_at s text k o c at ≡ Token l →
    inner_at s text k o c at ≡ go_on (Token l) (λ _. inner_at s text k (o + opened_by l.sort) (c + shut_by l.sort) l.stop)
inner_at-token s text k o c at l h m e =
    inner_step s text k o c at h
    ∙ ap (λ t. go_on t (λ l. inner_from s text k (o + opened_by l.sort) (c + shut_by l.sort) (at + 1) (l.stop - (at + 1)) (drop (suc at) text))) e
    ∙ ap (λ i. go_on (Token l) (λ _. i)) (inner_to s text k (o + opened_by l.sort) (c + shut_by l.sort) at l.stop m)

pub inner_at-end : (s : Syntax) (text : Text) (k : Tag) (o c at : ℕ) (close : Close) → at < length text → tag_part_at s text k o c at ≡ End close → inner_at s text k o c at ≡ record { lexemes = []; close = close }
inner_at-end s text k o c at close h e =
    inner_step s text k o c at h
    ∙ ap (λ t. go_on t (λ l. inner_from s text k (o + opened_by l.sort) (c + shut_by l.sort) (at + 1) (l.stop - (at + 1)) (drop (suc at) text))) e

-- a token
pub stream_in-token : (s : Syntax) (text : Text) (k : Tag) (behind : ℕ → ℕ → Stream) (o c at : ℕ) (l : Lexeme) → at < length text → at < l.stop → tag_part_at s text k o c at ≡ Token l →
    stream_in s text k behind o c at ≡ before (lexeme_token text l ∷ []) (stream_in s text k behind (o + opened_by l.sort) (c + shut_by l.sort) l.stop)
unfolding stream_in
stream_in-token s text k behind o c at l h m e = ap (λ i. before (map (lexeme_token text) i.lexemes) (close_stream text k behind i.close)) (inner_at-token s text k o c at l h m e)

-- an end
pub stream_in-end : (s : Syntax) (text : Text) (k : Tag) (behind : ℕ → ℕ → Stream) (o c at : ℕ) (close : Close) → at < length text → tag_part_at s text k o c at ≡ End close →
    stream_in s text k behind o c at ≡ close_stream text k behind close
unfolding stream_in
stream_in-end s text k behind o c at close h e = ap (λ i. before (map (lexeme_token text) i.lexemes) (close_stream text k behind i.close)) (inner_at-end s text k o c at close h e)

pub stream_in-over : (s : Syntax) (text : Text) (k : Tag) (behind : ℕ → ℕ → Stream) (o c at : ℕ) → length text ≤ at → stream_in s text k behind o c at ≡ close_stream text k behind (close_over (length text) at k)
unfolding stream_in
stream_in-over s text k behind o c at h = ap (λ i. before (map (lexeme_token text) i.lexemes) (close_stream text k behind i.close)) (inner_over s text k o c at h)

-- ---- segments

cut_skip : (s : Syntax) (text : Text) (at skip : ℕ) (bs : Text) → cut_from s text at skip bs ≡ cut_from s text (at + skip) 0 (drop skip bs)
cut_skip s text at zero bs = let e : at + 0 ≡ at = omega arith in rw e refl
cut_skip s text at (suc skip) [] = refl
cut_skip s text at (suc skip) (b ∷ bs) = let e : at + 1 + skip ≡ at + suc skip = omega arith in cut_skip s text (at + 1) skip bs ∙ ap (λ n. cut_from s text n 0 (drop skip bs)) e

cut_to : (s : Syntax) (text : Text) (at stop : ℕ) → at < stop → cut_from s text (at + 1) (stop - (at + 1)) (drop (suc at) text) ≡ cut_at s text stop
unfolding cut_at
cut_to s text at stop h =
    let e : at + 1 + (stop - (at + 1)) ≡ stop = omega arith in
    let f : suc at + (stop - (at + 1)) ≡ stop = omega arith in
    cut_skip s text (at + 1) (stop - (at + 1)) (drop (suc at) text)
    ∙ ap (λ n. cut_from s text n 0 (drop (stop - (at + 1)) (drop (suc at) text))) e
    ∙ ap (cut_from s text stop 0) (drop-drop (stop - (at + 1)) (suc at) text ∙ ap (λ n. drop n text) f)

-- the cut from a place is the segment that stands there, and then the cut from its end
pub cut_step : (s : Syntax) (text : Text) (at : ℕ) (g : Segment) → at < length text → segment_at s text at ≡ g → at < stop_of (length text) g → cut_at s text at ≡ g ∷ cut_at s text (stop_of (length text) g)
unfolding cut_at
cut_step s text at g h e m =
    ap (cut_from s text at 0) (drop-cons text at 0 h)
    ∙ ap (λ g. g ∷ cut_from s text (at + 1) (stop_of (length text) g - (at + 1)) (drop (suc at) text)) e
    ∙ ap (λ gs. g ∷ gs) (cut_to s text at (stop_of (length text) g) m)

pub cut_over : (s : Syntax) (text : Text) (at : ℕ) → length text ≤ at → cut_at s text at ≡ []
unfolding cut_at
cut_over s text at h = ap (cut_from s text at 0) (drop_all at text h)

pub stream_at-over : (s : Syntax) (text : Text) (at : ℕ) → length text ≤ at → stream_at s text at ≡ ended finished
unfolding stream_at
stream_at-over s text at h = ap (stream_of s text) (cut_over s text at h)

-- data
pub stream_at-plain : (s : Syntax) (text : Text) (at stop : ℕ) → at < length text → at < stop → segment_at s text at ≡ plain at stop → stream_at s text at ≡ before (segment_tokens s text (plain at stop)) (stream_at s text stop)
unfolding stream_at
stream_at-plain s text at stop h m e = ap (stream_of s text) (cut_step s text at (plain at stop) h e m)

-- comments
pub stream_at-comment : (s : Syntax) (text : Text) (at stop : ℕ) → at < length text → at < stop → segment_at s text at ≡ comment at stop → stream_at s text at ≡ stream_at s text stop
unfolding stream_at
stream_at-comment s text at stop h m e = ap (stream_of s text) (cut_step s text at (comment at stop) h e m)

pub stream_at-line_comment : (s : Syntax) (text : Text) (at stop : ℕ) → at < length text → at < stop → segment_at s text at ≡ line_comment at stop → stream_at s text at ≡ stream_at s text stop
unfolding stream_at
stream_at-line_comment s text at stop h m e = ap (stream_of s text) (cut_step s text at (line_comment at stop) h e m)

-- a raw block
pub stream_at-raw : (s : Syntax) (text : Text) (at : ℕ) (block : RawBlock) → at < length text → at < block.after → segment_at s text at ≡ raw at block → stream_at s text at ≡ before (segment_tokens s text (raw at block)) (stream_at s text block.after)
unfolding stream_at
stream_at-raw s text at block h m e = ap (stream_of s text) (cut_step s text at (raw at block) h e m)

-- a comment and a raw block with no end
pub stream_at-unclosed_comment : (s : Syntax) (text : Text) (at : ℕ) → at < length text → segment_at s text at ≡ unclosed_comment at → stream_at s text at ≡ ended (refusal text (length text))
unfolding stream_at
stream_at-unclosed_comment s text at h e = ap (stream_of s text) (cut_step s text at (unclosed_comment at) h e h ∙ ap (λ gs. unclosed_comment at ∷ gs) (cut_over s text (length text) (omega arith)))

pub stream_at-unclosed_raw : (s : Syntax) (text : Text) (at : ℕ) → at < length text → segment_at s text at ≡ unclosed_raw at → stream_at s text at ≡ ended (refusal text (length text))
unfolding stream_at
stream_at-unclosed_raw s text at h e = ap (stream_of s text) (cut_step s text at (unclosed_raw at) h e h ∙ ap (λ gs. unclosed_raw at ∷ gs) (cut_over s text (length text) (omega arith)))

-- a tag: its start, and then what stands inside it and after it
tag_close : (s : Syntax) (text : Text) (k : Tag) (at body : ℕ) (ls : List Lexeme) (close : Close) →
    stream_of s text (tag k at body (record { lexemes = ls; close = close }) ∷ cut_at s text (close_stop (length text) close))
    ≡ before ((start_tok k, span_at text at body) ∷ []) (before (map (lexeme_token text) ls) (close_stream text k (λ stop after. stream_at s text after) close))
unfolding stream_at
tag_close s text k at body ls (Closed start stop after) =
    ap (λ ts. record { tokens = (start_tok k, span_at text at body) ∷ ts; ending = (stream_at s text after).ending })
    (append_assoc (map (lexeme_token text) ls) ((end_tok k, span_at text start stop) ∷ []) (stream_at s text after).tokens)
tag_close s text k at body ls Broken =
    ap (λ gs. stream_of s text (tag k at body (record { lexemes = ls; close = Broken }) ∷ gs)) (cut_over s text (length text) (omega arith))
    ∙ ap (λ ts. record { tokens = (start_tok k, span_at text at body) ∷ ts; ending = finished }) (append-nil (map (lexeme_token text) ls ++ []))
tag_close s text k at body ls (Refused f start p) =
    ap (λ gs. stream_of s text (tag k at body (record { lexemes = ls; close = (Refused f start p) }) ∷ gs)) (cut_over s text (length text) (omega arith))
    ∙ ap (λ ts. record { tokens = (start_tok k, span_at text at body) ∷ ts; ending = token_refusal text f start p }) (append-nil (map (lexeme_token text) ls ++ []))

pub stream_at-tag : (s : Syntax) (text : Text) (k : Tag) (at body : ℕ) → at < length text → segment_at s text at ≡ tag k at body (inner_at s text k 0 0 body) → at < close_stop (length text) (inner_at s text k 0 0 body).close →
    stream_at s text at ≡ before ((start_tok k, span_at text at body) ∷ []) (stream_in s text k (λ stop after. stream_at s text after) 0 0 body)
unfolding stream_at stream_in
stream_at-tag s text k at body h e m =
    ap (stream_of s text) (cut_step s text at (tag k at body (inner_at s text k 0 0 body)) h e m)
    ∙ tag_close s text k at body (inner_at s text k 0 0 body).lexemes (inner_at s text k 0 0 body).close
