-- A raw block, as the code finds it.
use Rattle.std.specs.Prelude.{◌≡◌, ℕ, ◌<◌, ◌≤◌, Option, Some, None}
use Rattle.std.specs.Str.{IsCharBoundary}
use Rattle.minijinja_syntax.specs.Texts.{Text}
use Rattle.minijinja_syntax.specs.Syntax.{Syntax}
use Rattle.minijinja_lexer.specs.Cut.{raw, unclosed_raw, raw_to}
use Rattle.minijinja_lexer.specs.Raw.{next_endraw}
use Rattle.minijinja_lexer.specs.Controls.{Control}
use Rattle.minijinja_lexer.specs.private.Views.{raw_block_view}
use Rattle.minijinja_lexer.specs.declared.raw.RawBlock.{RawBlock}

-- its places are in order, and the text may be cut there
pub record RawBlockPlaces (text : Text) (from : ℕ) (block : RawBlock) : Type 0 where
  pub begin_is : block.begin ≡ from
  pub start_onwards : block.begin ≤ block.start
  pub stop_onwards : block.start ≤ block.stop
  pub end_onwards : block.stop ≤ block.end
  pub after_onwards : block.end < block.after
  pub begin : IsCharBoundary text block.begin
  pub start : IsCharBoundary text block.start
  pub stop : IsCharBoundary text block.stop
  pub end : IsCharBoundary text block.end
  pub after : IsCharBoundary text block.after

-- it is the segment that begins with the raw tag
abbrev pub IsRawBlock : Syntax → Text → (begin : ℕ) → Control → Option RawBlock → Type 0
IsRawBlock s text begin control None = (start : ℕ) → raw_to s text start begin control (next_endraw s text begin) ≡ unclosed_raw start
IsRawBlock s text begin control (Some block) = ((start : ℕ) → raw_to s text start begin control (next_endraw s text begin) ≡ raw start (raw_block_view block)) × RawBlockPlaces text begin block
