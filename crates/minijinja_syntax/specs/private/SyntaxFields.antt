-- The syntax that the fields of a `SyntaxConfig` or a builder hold.
use Rattle.minijinja_syntax.specs.Syntax.{Syntax}
use Rattle.minijinja_syntax.specs.private.Delimiters.{delimiter_text}
use Rattle.minijinja_syntax.specs.declared.syntax.Settings.{Settings}

-- each field as a syntax has it, the texts as bytes
abbrev pub syntax_of : Settings → Syntax
syntax_of a = record {
  block_start = delimiter_text a.block_start;
  block_end = delimiter_text a.block_end;
  variable_start = delimiter_text a.variable_start;
  variable_end = delimiter_text a.variable_end;
  comment_start = delimiter_text a.comment_start;
  comment_end = delimiter_text a.comment_end;
  line_statement = delimiter_text a.line_statement;
  line_comment = delimiter_text a.line_comment;
  trim_blocks = a.trim_blocks;
  lstrip_blocks = a.lstrip_blocks;
  keep_trailing_newline = a.keep_trailing_newline;
}
