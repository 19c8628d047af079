-- The line rule keeps a front part of the data.
use Rattle.std.proofs.Common.{◌≤◌, Bool, true, false, cond, length, arith}
use Rattle.std.specs.Prelude.{◌&&◌}
use Rattle.minijinja_syntax.specs.Texts.{Text}
use Rattle.minijinja_lexer.specs.Whitespace.{line_kept_len, ends_blank, begins_line, last_line}

pub line_kept_within : (text : Text) → line_kept_len text ≤ length text
unfolding line_kept_len
line_kept_within text = either (ends_blank text && begins_line text (last_line text))
  where
    either : (t : Bool) → cond t (last_line text) (length text) ≤ length text
    either true = omega arith
    either false = omega arith
