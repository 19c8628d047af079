-- The cut of a text into segments, as places in it.
use Rattle.std.specs.Prelude.{ℕ, zero, suc, ◌+◌, ◌-◌, ◌||◌, ◌&&◌, nat_lt, ◌==◌, if◌then◌else◌, List, [], ◌∷◌, length, drop, slice_index, Option, Some, None, Result, Ok, Err}
use Rattle.minijinja_syntax.specs.Texts.{Text}
use Rattle.minijinja_syntax.specs.Syntax.{Syntax, end_of}
use Rattle.minijinja_syntax.specs.Markers.{is_line_end, stands, marker_at, next_place, next_marker}
use Rattle.minijinja_syntax.specs.declared.syntax.StartMarker.{StartMarker}
use Rattle.minijinja_syntax.specs.declared.syntax.StartMarker.TheVariants as marker
use Rattle.minijinja_lexer.specs.TokenAt.{token_at}
use Rattle.minijinja_lexer.specs.Brackets.{opened_by, shut_by}
use Rattle.minijinja_lexer.specs.Whitespace.{control_at, is_given, body_of, past_space, past_line_space, line_end_len, tail_len}
use Rattle.minijinja_lexer.specs.Raw.{raw_at, next_endraw, raw_block}
use Rattle.minijinja_lexer.specs.Controls.{Control, Absent}
use Rattle.minijinja_lexer.specs.RawBlocks.{RawBlock}
use Rattle.minijinja_lexer.specs.Sorts.{Sort}
use Rattle.minijinja_lexer.specs.Faults.{LexFault}
use Rattle.minijinja_lexer.specs.Tags.{Tag, Variable, Block, Line}
use Rattle.minijinja_lexer.specs.TagParts.{Lexeme, Close, Closed, Broken, Refused, TagPart, Token, End}

-- what begins the tag
abbrev pub marker_of : Tag → StartMarker
marker_of Variable = marker.Variable
marker_of Block = marker.Block
marker_of Line = marker.LineStatement

-- ---- inside a tag

-- the control of an end delimiter at a place, and where the delimiter ends: first with a control
-- before it, then without
unfoldable pub end_at : (delimiter : Text) → Text → ℕ → Option (Control × ℕ)
end_at delimiter text at =
    if is_given (control_at text at) && stands delimiter text (at + 1) then Some (control_at text at, at + 1 + length delimiter)
    else if stands delimiter text at then Some (Absent, at + length delimiter)
    else None

-- the end of a tag at a place, from the control of the end delimiter that stands there and where
-- that ends; none without one
abbrev pub delimited_close : Syntax → Text → StartMarker → ℕ → Option (Control × ℕ) → Option Close
delimited_close s text m at None = None
delimited_close s text m at (Some end) = Some (Closed at end.1 (end.1 + tail_len s m end.0 (drop end.1 text)))

-- the end delimiter after the whitespace at a place, and the tail that is skipped after it
abbrev pub delimiter_close : Syntax → Text → StartMarker → ℕ → Option Close
delimiter_close s text m at = let p = past_space text at in delimited_close s text m p (end_at (end_of s m) text p)

-- whitespace other than \r and \n, and then a line end or the end of the text
abbrev pub line_close : Text → ℕ → Option Close
line_close text at =
    let p = past_line_space text at in
    let stop = p + line_end_len (drop p text) in
    if p == length text || nat_lt p stop then Some (Closed at stop stop) else None

-- the end that stands at a place in a tag of the kind, if one does
unfoldable pub close_at : Syntax → Text → Tag → ℕ → Option Close
close_at s text Variable at = delimiter_close s text marker.Variable at
close_at s text Block at = delimiter_close s text marker.Block at
close_at s text Line at = line_close text at

-- a text of that length is over after a place: that ends a line statement, and breaks another tag
-- off
abbrev pub close_over : (len place : ℕ) → Tag → Close
close_over len place Variable = Broken
close_over len place Block = Broken
close_over len place Line = Closed place place len

-- a token at the place, or where it is refused
abbrev pub scanned : ℕ → Result (Sort × ℕ) (LexFault × ℕ) → TagPart
scanned p (Ok r) = Token (record { start = p; stop = r.1; sort = r.0 })
scanned p (Err r) = End (Refused r.0 p r.1)

-- what stands after the whitespace: a token, or a refusal, or the end of the text
abbrev pub token_part : Text → Tag → ℕ → TagPart
token_part text k p = if nat_lt p (length text) then scanned p (token_at text p) else End (close_over (length text) p k)

-- the tag's end, if it stands at the place, otherwise what stands after the whitespace
abbrev pub tag_part_from : Text → Tag → ℕ → Option Close → TagPart
tag_part_from text k at (Some close) = End close
tag_part_from text k at None = token_part text k (past_space text at)

-- What stands at a place in a tag in which the given number of brackets opened and shut before: the
-- end is tried where these are as many, and then a token after the whitespace.
unfoldable pub tag_part_at : Syntax → Text → Tag → (opened shut at : ℕ) → TagPart
tag_part_at s text k o c at = tag_part_from text k at (if o == c then close_at s text k at else None)

-- the tokens of a tag, and its end
pub record Inner : Type 0 where
  pub lexemes : List Lexeme
  pub close : Close

-- a token, and then what comes after it
abbrev pub go_on : TagPart → (Lexeme → Inner) → Inner
go_on (End c) next = record { lexemes = []; close = c }
go_on (Token l) next = let i = next l in record { lexemes = l ∷ i.lexemes; close = i.close }

-- What is left of a tag from a place on. The list is the text from there, of which `skip` bytes are
-- passed.
abbrev pub inner_from : Syntax → Text → Tag → (opened shut at skip : ℕ) → Text → Inner
inner_from s text k o c at skip [] = record { lexemes = []; close = close_over (length text) (at + skip) k }
inner_from s text k o c at (suc skip) (b ∷ bs) = inner_from s text k o c (at + 1) skip bs
inner_from s text k o c at zero (b ∷ bs) =
    go_on (tag_part_at s text k o c at) (λ l. inner_from s text k (o + opened_by l.sort) (c + shut_by l.sort) (at + 1) (l.stop - (at + 1)) bs)

-- what is left of a tag from a place on, before which the given number of brackets opened and shut
-- in it
unfoldable pub inner_at : Syntax → Text → Tag → (opened shut : ℕ) → ℕ → Inner
inner_at s text k o c at = inner_from s text k o c at 0 (drop at text)

-- ---- segments

-- Each stands from `start` on: data; comments, with what is skipped after them; a raw block; a tag,
-- whose marker ends at `body`; and a comment or a raw block with no end.
pub data Segment : Type 0 where
  plain : (start stop : ℕ) → Segment
  comment : (start stop : ℕ) → Segment
  line_comment : (start stop : ℕ) → Segment
  raw : (start : ℕ) → RawBlock → Segment
  tag : Tag → (start body : ℕ) → Inner → Segment
  unclosed_comment : (start : ℕ) → Segment
  unclosed_raw : (start : ℕ) → Segment

-- where a tag with that end ends
abbrev pub close_stop : ℕ → Close → ℕ
close_stop len (Closed start stop after) = after
close_stop len Broken = len
close_stop len (Refused f start place) = len

-- where a segment of a text of that length ends: where a rule refuses, it runs to the text's end
abbrev pub stop_of : ℕ → Segment → ℕ
stop_of len (plain start stop) = stop
stop_of len (comment start stop) = stop
stop_of len (line_comment start stop) = stop
stop_of len (raw start block) = block.after
stop_of len (tag k start body inner) = close_stop len inner.close
stop_of len (unclosed_comment start) = len
stop_of len (unclosed_raw start) = len

-- a tag whose marker ends at `body`
abbrev pub tag_at : Syntax → Text → Tag → (start body : ℕ) → Segment
tag_at s text k start body = tag k start body (inner_at s text k 0 0 body)

-- the first place from `at` on where the delimiter stands, or the end of the text
unfoldable pub next_delimiter : (delimiter : Text) → Text → ℕ → ℕ
next_delimiter delimiter text at = next_place (stands delimiter text) at (length text - at)

-- the control before a comment's end delimiter, if a byte of the comment is left there
abbrev pub tail_control : Text → (body end : ℕ) → Control
tail_control text body end = if nat_lt body end then control_at text (end - 1) else Absent

-- the comment whose end delimiter stands at `end`, if that is a place in the text
abbrev pub comment_to : Syntax → Text → (start body end : ℕ) → Segment
comment_to s text start body end =
    let stop = end + length (end_of s marker.Comment) in
    if nat_lt end (length text) then comment start (stop + tail_len s marker.Comment (tail_control text body end) (drop stop text)) else unclosed_comment start

-- a comment whose marker ends at `body`, up to the first end delimiter from there on
abbrev pub comment_at : Syntax → Text → (start body : ℕ) → Segment
comment_at s text start body = comment_to s text start body (next_delimiter (end_of s marker.Comment) text body)

-- the first place from `at` on where a line ends, or the end of the text
unfoldable pub next_line_end : Text → ℕ → ℕ
next_line_end text at = next_place (λ p. is_line_end (slice_index text p)) at (length text - at)

-- a line comment whose marker ends at `body`, up to the first line end from there on, and with it
abbrev pub line_comment_at : Text → (start body : ℕ) → Segment
line_comment_at text start body = let p = next_line_end text body in line_comment start (p + line_end_len (drop p text))

-- a raw block whose first tag ends with the control at `begin`, up to the endraw tag, if there is
-- one
abbrev pub raw_to : Syntax → Text → (start begin : ℕ) → Control → Option (ℕ × Control × ℕ) → Segment
raw_to s text start begin control None = unclosed_raw start
raw_to s text start begin control (Some end) = raw start (raw_block s text begin control end.0 (end.1, end.2))

-- a block tag, or a raw block
abbrev pub block_to : Syntax → Text → (start body : ℕ) → Option (Control × ℕ) → Segment
block_to s text start body None = tag_at s text Block start body
block_to s text start body (Some begin) = raw_to s text start begin.1 begin.0 (next_endraw s text begin.1)

-- the segment at a place where that marker begins, or none
abbrev pub segment_of : Syntax → Text → ℕ → Option StartMarker → Segment
segment_of s text at None = plain at (next_marker s text at)
segment_of s text at (Some marker.Variable) = tag_at s text Variable at (body_of s text marker.Variable at)
segment_of s text at (Some marker.Block) = let body = body_of s text marker.Block at in block_to s text at body (raw_at s text body)
segment_of s text at (Some marker.Comment) = comment_at s text at (body_of s text marker.Comment at)
segment_of s text at (Some marker.LineStatement) = tag_at s text Line at (body_of s text marker.LineStatement at)
segment_of s text at (Some marker.LineComment) = line_comment_at text at (body_of s text marker.LineComment at)

-- the segment that stands at a place
unfoldable pub segment_at : Syntax → Text → ℕ → Segment
segment_at s text at = segment_of s text at (marker_at s text at)

-- The segments of the list, which is the text from `at` on, of which `skip` bytes are passed.
abbrev pub cut_from : Syntax → Text → (at skip : ℕ) → Text → List Segment
cut_from s text at skip [] = []
cut_from s text at (suc skip) (b ∷ bs) = cut_from s text (at + 1) skip bs
cut_from s text at zero (b ∷ bs) =
    let g = segment_at s text at in g ∷ cut_from s text (at + 1) (stop_of (length text) g - (at + 1)) bs

-- the segments from a place on
unfoldable pub cut_at : Syntax → Text → ℕ → List Segment
cut_at s text at = cut_from s text at 0 (drop at text)
