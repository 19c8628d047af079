-- The segment at a place, as the code finds it.
use Rattle.std.specs.Prelude.{◌≡◌, ◌⊎◌, ℕ, ◌<◌, ◌≤◌}
use Rattle.std.specs.Str.{IsCharBoundary}
use Rattle.minijinja_syntax.specs.Texts.{Text}
use Rattle.minijinja_syntax.specs.Syntax.{Syntax}
use Rattle.minijinja_lexer.specs.Whitespace.{kept_stop}
use Rattle.minijinja_lexer.specs.private.RawPlaces.{RawBlockPlaces}
use Rattle.minijinja_lexer.specs.Cut.{Segment, plain, comment, line_comment, raw, tag, unclosed_comment, unclosed_raw, segment_at, inner_at}
use Rattle.minijinja_lexer.specs.Faults.{LexFault}
use Rattle.minijinja_lexer.specs.Faults as fault
use Rattle.minijinja_lexer.specs.private.Views.{raw_block_view, tag_view, fault_view}
use Rattle.minijinja_lexer.specs.declared.raw.RawBlock.{RawBlock}
use Rattle.minijinja_lexer.specs.declared.outside.Found.{Found}
use Rattle.minijinja_lexer.specs.declared.outside.Found.TheVariants as found

-- the segment is that one, and it goes on to a place between characters
pub record Is (s : Syntax) (text : Text) (at : ℕ) (g : Segment) (stop : ℕ) : Type 0 where
  pub segment : segment_at s text at ≡ g
  pub moves : at < stop
  pub boundary : IsCharBoundary text stop

-- data up to a place, and up to where it is kept
pub record IsData (s : Syntax) (text : Text) (at stop kept : ℕ) : Type 0 where
  pub is : Is s text at (plain at stop) stop
  pub kept_is : kept ≡ kept_stop s text at stop
  pub onwards : at ≤ kept
  pub within : kept ≤ stop
  pub boundary : IsCharBoundary text kept

-- a comment
abbrev pub IsSkipped : Syntax → Text → (at stop : ℕ) → Type 0
IsSkipped s text at stop = Is s text at (comment at stop) stop ⊎ Is s text at (line_comment at stop) stop

-- a raw block
pub record IsRawAt (s : Syntax) (text : Text) (at : ℕ) (block : RawBlock) : Type 0 where
  pub segment : segment_at s text at ≡ raw at (raw_block_view block)
  pub begin : ℕ
  pub moves : at < begin
  pub places : RawBlockPlaces text begin block

-- a comment or a raw block with no end
abbrev pub IsUnclosed : Syntax → Text → ℕ → LexFault → Type 0
IsUnclosed s text at f = ((f ≡ fault.UnclosedComment) × (segment_at s text at ≡ unclosed_comment at)) ⊎ ((f ≡ fault.UnclosedRaw) × (segment_at s text at ≡ unclosed_raw at))

-- what is found at the place is its segment
abbrev pub IsFound : Syntax → Text → ℕ → Found → Type 0
IsFound s text at (found.Data stop kept) = IsData s text at stop kept
IsFound s text at (found.Skipped stop) = IsSkipped s text at stop
IsFound s text at (found.Raw block) = IsRawAt s text at block
IsFound s text at (found.Tag k body) = Is s text at (tag (tag_view k) at body (inner_at s text (tag_view k) 0 0 body)) body
IsFound s text at (found.Unclosed f) = IsUnclosed s text at (fault_view f)
