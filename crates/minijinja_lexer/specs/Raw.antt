-- Raw blocks: text between the tags `raw` and `endraw`, in which no markers count.
use Rattle.std.specs.Prelude.{ℕ, zero, suc, ◌+◌, ◌-◌, ◌&&◌, if◌then◌else◌, codes, length, drop, Option, Some, None}
use Rattle.minijinja_syntax.specs.Texts.{Text}
use Rattle.minijinja_syntax.specs.Syntax.{Syntax}
use Rattle.minijinja_syntax.specs.Positions.{slice}
use Rattle.minijinja_syntax.specs.Markers.{stands}
use Rattle.minijinja_syntax.specs.declared.syntax.StartMarker.TheVariants.{Block}
use Rattle.minijinja_lexer.specs.Whitespace.{control_at, control_len, past_space, tail_len, trimmed_len, line_kept_len}
use Rattle.minijinja_lexer.specs.Controls.{Control, Absent, Remove, Preserve}
use Rattle.minijinja_lexer.specs.RawBlocks.{RawBlock}

-- The control at the end of a tag of one word, and where it ends. It is read from after the tag's
-- marker on: ASCII whitespace, the word, ASCII whitespace, an optional control, the block end.
unfoldable pub word_tag : Syntax → Text → (word : Text) → ℕ → Option (Control × ℕ)
word_tag s text word at =
    let p = past_space text at in
    let q = past_space text (p + length word) in
    let e = q + control_len (control_at text q) in
    if stands word text p && stands s.block_end text e then Some (control_at text q, e + length s.block_end) else None

-- the raw tag whose marker ends at a place
abbrev pub raw_at : Syntax → Text → ℕ → Option (Control × ℕ)
raw_at s text at = word_tag s text (codes "raw") at

-- the endraw tag whose block start ends at a place: a control may stand after that
abbrev pub endraw_at : Syntax → Text → ℕ → Option (Control × ℕ)
endraw_at s text at = word_tag s text (codes "endraw") (at + control_len (control_at text at))

-- the place with the tag that stands there, if one does, otherwise the later one
abbrev pub or_later : ℕ → Option (Control × ℕ) → Option (ℕ × Control × ℕ) → Option (ℕ × Control × ℕ)
or_later at (Some tag) later = Some (at, tag.0, tag.1)
or_later at None later = later

-- Of the block starts from a place on that do not overlap: the first that begins an endraw tag, the
-- control at the tag's end and where it ends. `skip` of the `left` bytes are passed.
abbrev pub endraw_from : Syntax → Text → (at skip left : ℕ) → Option (ℕ × Control × ℕ)
endraw_from s text at skip zero = None
endraw_from s text at (suc skip) (suc left) = endraw_from s text (at + 1) skip left
endraw_from s text at zero (suc left) =
    if stands s.block_start text at
    then or_later at (endraw_at s text (at + length s.block_start)) (endraw_from s text (at + 1) (length s.block_start - 1) left)
    else endraw_from s text (at + 1) 0 left

-- the first of them from a place on
unfoldable pub next_endraw : Syntax → Text → ℕ → Option (ℕ × Control × ℕ)
next_endraw s text at = endraw_from s text at 0 (length text - at)

-- how much of the text is kept before an endraw tag with the control
abbrev pub raw_kept_len : Syntax → Control → Text → ℕ
raw_kept_len s Remove text = trimmed_len text
raw_kept_len s Preserve text = length text
raw_kept_len s Absent text = if s.lstrip_blocks then line_kept_len text else length text

-- the block between a raw tag with the control that ends at `begin` and the endraw tag at `close`
abbrev pub raw_block : Syntax → Text → (begin : ℕ) → Control → (close : ℕ) → (Control × ℕ) → RawBlock
raw_block s text begin control close tag_end =
    let start = begin + tail_len s Block control (slice text begin close) in
    let stop = start + raw_kept_len s (control_at text (close + length s.block_start)) (slice text start close) in
    record { begin = begin; start = start; stop = stop; end = close; after = tag_end.1 + tail_len s Block tag_end.0 (drop tag_end.1 text) }
