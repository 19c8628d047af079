-- The bytes that the starts of markers begin with.
use Rattle.std.specs.Prelude.{ℕ, slice_index, Bool, ◌==◌, ◌||◌}
use Rattle.minijinja_syntax.specs.Syntax.{Syntax}
use Rattle.minijinja_syntax.specs.declared.syntax.markers.FirstBytes.{FirstBytes}

-- those of a syntax: 0 for a prefix that is off
abbrev pub first_bytes : Syntax → FirstBytes
first_bytes s = record {
  variable = slice_index s.variable_start 0;
  block = slice_index s.block_start 0;
  comment = slice_index s.comment_start 0;
  line_statement = slice_index s.line_statement 0;
  line_comment = slice_index s.line_comment 0;
}

-- the byte is one of them
abbrev pub is_first_byte : FirstBytes → ℕ → Bool
is_first_byte f b = b == f.variable || b == f.block || b == f.comment || b == f.line_statement || b == f.line_comment
