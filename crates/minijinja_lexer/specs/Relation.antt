-- The cut as a relation: what each segment is, read off the text.
use Rattle.std.specs.Prelude.{◌≡◌, ◌≢◌, ℕ, ◌+◌, ◌<◌, ◌≤◌, true, false, ◌⊎◌, List, [], ◌∷◌, length, drop, slice_index, Some, None, Ok, Err}
use Rattle.minijinja_syntax.specs.Texts.{Text}
use Rattle.minijinja_syntax.specs.Syntax.{Syntax, end_of}
use Rattle.minijinja_syntax.specs.Markers.{is_line_end, stands, IsMarkerAt, NoMarkerBetween}
use Rattle.minijinja_syntax.specs.declared.syntax.StartMarker.{StartMarker}
use Rattle.minijinja_syntax.specs.declared.syntax.StartMarker.TheVariants as markers
use Rattle.minijinja_lexer.specs.TokenAt.{token_at}
use Rattle.minijinja_lexer.specs.Brackets.{opened_by, shut_by}
use Rattle.minijinja_lexer.specs.Whitespace.{body_of, past_space, past_line_space, line_end_len, tail_len}
use Rattle.minijinja_lexer.specs.Raw.{raw_at, endraw_at, raw_block}
use Rattle.minijinja_lexer.specs.Cut.{Inner, Segment, plain, comment, line_comment, raw, tag, unclosed_comment, unclosed_raw, marker_of, end_at, close_at, tail_control, stop_of}
use Rattle.minijinja_lexer.specs.Controls.{Control}
use Rattle.minijinja_lexer.specs.RawBlocks.{RawBlock}
use Rattle.minijinja_lexer.specs.Faults.{LexFault}
use Rattle.minijinja_lexer.specs.Tags.{Tag, Variable, Block, Line}
use Rattle.minijinja_lexer.specs.TagParts.{Lexeme, Close, Closed, Broken, Refused}

-- ---- inside a tag

-- the end is not at a place before which as many brackets opened as shut
abbrev pub NoEnd : Syntax → Text → Tag → (opened shut : ℕ) → ℕ → Type 0
NoEnd s text k o c at = o ≡ c → close_at s text k at ≡ None

-- after the whitespace a token stands, and not the tag's end
pub record IsLexeme (s : Syntax) (text : Text) (k : Tag) (o c at : ℕ) (l : Lexeme) : Type 0 where
  pub space : l.start ≡ past_space text at
  pub within : l.start < length text
  pub no_end : NoEnd s text k o c at
  pub some : l.start < l.stop
  pub token : token_at text l.start ≡ Ok (l.sort, l.stop)

-- the tag's end delimiter stands after the whitespace, and the tail after it is skipped
pub record IsDelimiterClose (s : Syntax) (text : Text) (m : StartMarker) (at start stop after : ℕ) : Type 0 where
  pub space : start ≡ past_space text at
  pub control : Control
  pub end : end_at (end_of s m) text start ≡ Some (control, stop)
  pub tail : after ≡ stop + tail_len s m control (drop stop text)

-- a line end, or the end of the text, stands after the whitespace other than \r and \n
pub record IsLineClose (text : Text) (at start stop after : ℕ) : Type 0 where
  pub start_is : start ≡ at
  pub stop_is : stop ≡ past_line_space text at + line_end_len (drop (past_line_space text at) text)
  pub after_is : after ≡ stop
  pub line_end : (past_line_space text at ≡ length text) ⊎ (past_line_space text at < stop)

-- the end of a tag of the kind
abbrev pub IsClosedAt : Syntax → Text → Tag → (at start stop after : ℕ) → Type 0
IsClosedAt s text Variable at start stop after = IsDelimiterClose s text markers.Variable at start stop after
IsClosedAt s text Block at start stop after = IsDelimiterClose s text markers.Block at start stop after
IsClosedAt s text Line at start stop after = IsLineClose text at start stop after

-- a line statement is over at the end of the text
pub record IsOver (text : Text) (k : Tag) (at start stop after : ℕ) : Type 0 where
  pub kind : k ≡ Line
  pub none_left : length text ≤ past_space text at
  pub start_is : start ≡ past_space text at
  pub stop_is : stop ≡ start
  pub after_is : after ≡ length text

-- as many brackets opened as shut, and the end stands there; or a line statement is over, in which
-- that end does not stand
abbrev pub IsClosed : Syntax → Text → Tag → (opened shut at start stop after : ℕ) → Type 0
IsClosed s text k o c at start stop after =
    ((at < length text) × (o ≡ c) × IsClosedAt s text k at start stop after)
    ⊎ (IsOver text k at start stop after × (at < length text → NoEnd s text k o c at))

-- after the whitespace a token is refused, and the tag's end does not stand there
pub record IsRefused (s : Syntax) (text : Text) (k : Tag) (o c at start place : ℕ) (f : LexFault) : Type 0 where
  pub space : start ≡ past_space text at
  pub within : start < length text
  pub no_end : NoEnd s text k o c at
  pub token : token_at text start ≡ Err (f, place)

-- the text ends after the whitespace in a tag between delimiters
pub record IsBroken (text : Text) (k : Tag) (at : ℕ) : Type 0 where
  pub kind : k ≢ Line
  pub none_left : length text ≤ past_space text at

-- what ends a tag at a place: its end, the end of the text, or a refusal
abbrev pub IsClose : Syntax → Text → Tag → (opened shut at : ℕ) → Close → Type 0
IsClose s text k o c at (Closed start stop after) = IsClosed s text k o c at start stop after
IsClose s text k o c at Broken = IsBroken text k at
IsClose s text k o c at (Refused f start place) = (at < length text) × IsRefused s text k o c at start place f

-- The tokens from a place in a tag on, one after another, and its end; the given number of brackets
-- opened and shut before the place.
abbrev pub IsInner : Syntax → Text → Tag → (opened shut at : ℕ) → List Lexeme → Close → Type 0
IsInner s text k o c at [] close = IsClose s text k o c at close
IsInner s text k o c at (l ∷ ls) close = IsLexeme s text k o c at l × IsInner s text k (o + opened_by l.sort) (c + shut_by l.sort) l.stop ls close

-- an expression is a variable tag without its marker: its tokens, and its end
abbrev pub IsExpression : Syntax → Text → Inner → Type 0
IsExpression s text i = IsInner s text Variable 0 0 0 i.lexemes i.close

-- ---- segments

-- no marker begins in it, and it goes on to a marker or to the end
pub record IsPlain (s : Syntax) (text : Text) (start stop : ℕ) : Type 0 where
  pub some : start < stop
  pub within : stop ≤ length text
  pub no_marker : NoMarkerBetween s text start stop
  pub maximal : (stop ≡ length text) ⊎ ((m : StartMarker) × IsMarkerAt s text stop m)

-- the delimiter stands nowhere from `from` on up to `place`
abbrev pub IsAbsent : Text → Text → (from place : ℕ) → Type 0
IsAbsent delimiter text from place = (p : ℕ) → from ≤ p → p < place → stands delimiter text p ≡ false

-- the first place from `from` on where the delimiter stands
pub record IsFirst (delimiter text : Text) (from place : ℕ) : Type 0 where
  pub onwards : from ≤ place
  pub there : stands delimiter text place ≡ true
  pub first : IsAbsent delimiter text from place

-- it ends at the first end delimiter after its marker, and the tail after that is skipped
pub record IsComment (s : Syntax) (text : Text) (start stop : ℕ) : Type 0 where
  pub marker : IsMarkerAt s text start markers.Comment
  pub end : ℕ
  pub delimiter : IsFirst (end_of s markers.Comment) text (body_of s text markers.Comment start) end
  pub tail : let behind = end + length (end_of s markers.Comment) in
      stop ≡ behind + tail_len s markers.Comment (tail_control text (body_of s text markers.Comment start) end) (drop behind text)

-- after its marker stands no end delimiter
pub record IsUnclosedComment (s : Syntax) (text : Text) (start : ℕ) : Type 0 where
  pub marker : IsMarkerAt s text start markers.Comment
  pub none : IsAbsent (end_of s markers.Comment) text (body_of s text markers.Comment start) (length text)

-- it goes on to the first line end after its marker, inclusive, or to the end of the text
pub record IsLineComment (s : Syntax) (text : Text) (start stop : ℕ) : Type 0 where
  pub marker : IsMarkerAt s text start markers.LineComment
  pub end : ℕ
  pub onwards : body_of s text markers.LineComment start ≤ end
  pub within : end ≤ length text
  pub one_line : (p : ℕ) → body_of s text markers.LineComment start ≤ p → p < end → is_line_end (slice_index text p) ≡ false
  pub line_end : (end ≡ length text) ⊎ (is_line_end (slice_index text end) ≡ true)
  pub stop_is : stop ≡ end + line_end_len (drop end text)

-- block starts that do not overlap stand one after another, each the first from the end of the one
-- before on, and none begins an endraw tag; the last of them ends at `to`
abbrev pub PassesOver : Syntax → Text → (from : ℕ) → List ℕ → (to : ℕ) → Type 0
PassesOver s text from [] to = from ≡ to
PassesOver s text from (p ∷ ps) to = IsFirst s.block_start text from p × (endraw_at s text (p + length s.block_start) ≡ None) × PassesOver s text (p + length s.block_start) ps to

-- a raw tag, block starts that are passed over, and then one that begins an endraw tag
pub record IsRaw (s : Syntax) (text : Text) (start : ℕ) (block : RawBlock) : Type 0 where
  pub marker : IsMarkerAt s text start markers.Block
  pub control : Control
  pub begin : ℕ
  pub raw_tag : raw_at s text (body_of s text markers.Block start) ≡ Some (control, begin)
  pub passed : List ℕ
  pub last : ℕ
  pub passes : PassesOver s text begin passed last
  pub close : ℕ
  pub delimiter : IsFirst s.block_start text last close
  pub tag_end : Control × ℕ
  pub endraw_tag : endraw_at s text (close + length s.block_start) ≡ Some tag_end
  pub block_is : block ≡ raw_block s text begin control close tag_end

-- a raw tag, and after it no block start that begins an endraw tag
pub record IsUnclosedRaw (s : Syntax) (text : Text) (start : ℕ) : Type 0 where
  pub marker : IsMarkerAt s text start markers.Block
  pub control : Control
  pub begin : ℕ
  pub raw_tag : raw_at s text (body_of s text markers.Block start) ≡ Some (control, begin)
  pub passed : List ℕ
  pub last : ℕ
  pub passes : PassesOver s text begin passed last
  pub none : IsAbsent s.block_start text last (length text)

-- a block's marker does not begin a raw block
abbrev pub IsNoRaw : Syntax → Text → Tag → ℕ → Type 0
IsNoRaw s text Variable body = Unit {0}
IsNoRaw s text Block body = raw_at s text body ≡ None
IsNoRaw s text Line body = Unit {0}

-- its marker with the control, and then its tokens
pub record IsTag (s : Syntax) (text : Text) (k : Tag) (start body : ℕ) (inner : Inner) : Type 0 where
  pub marker : IsMarkerAt s text start (marker_of k)
  pub body_is : body ≡ body_of s text (marker_of k) start
  pub no_raw : IsNoRaw s text k body
  pub inside : IsInner s text k 0 0 body inner.lexemes inner.close

-- the segment begins at the place, and is what its kind says
abbrev pub IsSegment : Syntax → Text → ℕ → Segment → Type 0
IsSegment s text at (plain start stop) = (start ≡ at) × IsPlain s text start stop
IsSegment s text at (comment start stop) = (start ≡ at) × IsComment s text start stop
IsSegment s text at (line_comment start stop) = (start ≡ at) × IsLineComment s text start stop
IsSegment s text at (raw start block) = (start ≡ at) × IsRaw s text start block
IsSegment s text at (tag k start body inner) = (start ≡ at) × IsTag s text k start body inner
IsSegment s text at (unclosed_comment start) = (start ≡ at) × IsUnclosedComment s text start
IsSegment s text at (unclosed_raw start) = (start ≡ at) × IsUnclosedRaw s text start

-- the segments stand one after another, from the place to the end of the text
abbrev pub IsCut : Syntax → Text → ℕ → List Segment → Type 0
IsCut s text at [] = at ≡ length text
IsCut s text at (g ∷ gs) = (at < length text) × IsSegment s text at g × IsCut s text (stop_of (length text) g) gs
