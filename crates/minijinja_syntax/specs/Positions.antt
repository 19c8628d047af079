-- Positions, by counting over the text before a place.
pub use Rattle.minijinja_text.specs.Texts.{slice}
use Rattle.std.specs.Prelude.{ℕ, ◌+◌, Bool, not, nat_lt, ◌==◌, ◌||◌, min, take, reverse, count_by}
use Rattle.std.specs.List.{prefix_len}
use Rattle.minijinja_syntax.specs.Texts.{Text}
use Rattle.minijinja_syntax.specs.declared.tokens.Span.{Span}

-- `\n`
abbrev pub is_newline : ℕ → Bool
is_newline b = b == 10

-- a byte that begins a character
abbrev pub is_lead : ℕ → Bool
is_lead b = nat_lt b 128 || not (nat_lt b 192)

-- the bytes back to the last newline, the last one first
abbrev pub back_to_newline : Text → Text
back_to_newline backwards = take (prefix_len (λ b. not (is_newline b)) backwards) backwards

-- 1 and the newlines before, and the characters since the last newline; both stop at 65535
abbrev pub line_after : Text → ℕ
line_after before = min 65535 (1 + count_by is_newline before)

abbrev pub column_after : Text → ℕ
column_after before = min 65535 (count_by is_lead (back_to_newline (reverse before)))

-- the span from the start of one to the end of another
abbrev pub expanded : Span → Span → Span
expanded s end = record s { end_line = end.end_line; end_col = end.end_col; end_offset = end.end_offset }

-- the span from a place to another: lines and columns count from what stands before them
abbrev pub span_at : Text → (start stop : ℕ) → Span
span_at text start stop = record {
  start_line = line_after (take start text);
  start_col = column_after (take start text);
  start_offset = start;
  end_line = line_after (take stop text);
  end_col = column_after (take stop text);
  end_offset = stop;
}
