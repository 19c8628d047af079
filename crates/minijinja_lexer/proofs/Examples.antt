-- The tokens of small texts, with their places and the end or the refusal, as the definitions say.
-- The right sides are written by hand from the rules, and none is read off the tokenizer.
use Rattle.std.proofs.Common.{◌≡◌, ℕ, ◌^◌, [], ◌∷◌, refl}
use Rattle.std.specs.Prelude.{true, codes, Some}
use Rattle.std.specs.Char.{encode_utf8}
use Rattle.std.specs.Str.{chars, encode_utf8_all, trim_start, trim_end}
use Rattle.unicode_ident.proofs.Computing.{unicode_ident}
use Rattle.minijinja_syntax.specs.Syntax.{Syntax, default_syntax}
use Rattle.minijinja_syntax.specs.Markers.{starts_line, marker_at, next_marker}
use Rattle.minijinja_syntax.specs.Tokens.{template_data, variable_start, variable_end, block_start, block_end, ident, str, string, int, int128, dot, colon, assign, bracket_open, bracket_close, paren_open, brace_open, brace_close}
use Rattle.minijinja_syntax.specs.declared.tokens.Span.{Span}
use Rattle.minijinja_syntax.specs.declared.error.ErrorKind.TheVariants.{SyntaxError, BadEscape}
use Rattle.minijinja_syntax.specs.Streams.{finished, refused}
use Rattle.minijinja_lexer.specs.TokenAt.{token_front, token_at}
use Rattle.minijinja_lexer.specs.Symbols.{symbol_front}
use Rattle.minijinja_lexer.specs.Numbers.{number}
use Rattle.minijinja_lexer.specs.Quoted.{quoted}
use Rattle.minijinja_lexer.specs.Escapes.{unescaped}
use Rattle.minijinja_lexer.specs.Whitespace.{tail_len, ends_blank, line_kept_len, kept_len, kept_stop}
use Rattle.minijinja_lexer.specs.Raw.{word_tag, next_endraw}
use Rattle.minijinja_lexer.specs.Cut.{end_at, close_at, tag_part_at, inner_at, next_delimiter, next_line_end, segment_at, cut_at}
use Rattle.minijinja_lexer.specs.TextTokens.{text_of, stream_at, stream_in, tokens_of_template, tokens_of_expression, tokens_of_expression_at}

-- `unfolding reading` lets `refl` compute the tokens of a text
reading : Unit {0}
unfolding tokens_of_template tokens_of_expression tokens_of_expression_at text_of stream_at stream_in cut_at segment_at starts_line marker_at next_marker kept_stop kept_len ends_blank line_kept_len tail_len next_delimiter next_line_end word_tag next_endraw inner_at tag_part_at close_at end_at token_at token_front symbol_front number quoted unescaped unicode_ident chars trim_start trim_end encode_utf8
reading = tt

-- from a line, a column and an offset to others
abbrev from_to : (start_line start_col start_offset end_line end_col end_offset : ℕ) → Span
from_to start_line start_col start_offset end_line end_col end_offset = record {
  start_line = start_line;
  start_col = start_col;
  start_offset = start_offset;
  end_line = end_line;
  end_col = end_col;
  end_offset = end_offset;
}

-- on the first line of an ASCII text the columns are the offsets
abbrev on_first_line : (start stop : ℕ) → Span
on_first_line start stop = from_to 1 start start 1 stop stop

-- ---- data, variables and comments

-- an empty text has no tokens
empty : tokens_of_template default_syntax [] ≡ record { tokens = []; ending = finished }
unfolding reading
empty = refl

-- data, a variable tag and data
greeting : tokens_of_template default_syntax (codes "Hello {{ name }}!") ≡ record {
  tokens =
      (template_data (codes "Hello "), on_first_line 0 6)
      ∷ (variable_start, on_first_line 6 8)
      ∷ (ident (codes "name"), on_first_line 9 13)
      ∷ (variable_end, on_first_line 14 16)
      ∷ (template_data (codes "!"), on_first_line 16 17)
      ∷ [];
  ending = finished;
}
unfolding reading
greeting = refl

-- a - in an end belongs to its span, and the whitespace after it is removed
minus_at_an_end : tokens_of_template default_syntax (codes "{{ name -}}  x") ≡ record {
  tokens =
      (variable_start, on_first_line 0 2)
      ∷ (ident (codes "name"), on_first_line 3 7)
      ∷ (variable_end, on_first_line 8 11)
      ∷ (template_data (codes "x"), on_first_line 13 14)
      ∷ [];
  ending = finished;
}
unfolding reading
minus_at_an_end = refl

-- a - after a marker belongs to its span, and is no minus
minus_at_a_marker : tokens_of_template default_syntax (codes "{{-1}}") ≡ record {
  tokens = (variable_start, on_first_line 0 3) ∷ (int 1, on_first_line 3 4) ∷ (variable_end, on_first_line 4 6) ∷ [];
  ending = finished;
}
unfolding reading
minus_at_a_marker = refl

-- the only - of a comment belongs to its marker: the whitespace before it is removed, and that
-- after the comment stays
comment : tokens_of_template default_syntax (codes "a {#-#} b") ≡ record {
  tokens = (template_data (codes "a"), on_first_line 0 1) ∷ (template_data (codes " b"), on_first_line 7 9) ∷ [];
  ending = finished;
}
unfolding reading
comment = refl

-- an end delimiter counts only where as many brackets opened as shut
brackets : tokens_of_template default_syntax (codes "{{ {'}}': [1]} }}") ≡ record {
  tokens =
      (variable_start, on_first_line 0 2)
      ∷ (brace_open, on_first_line 3 4)
      ∷ (str (codes "}}"), on_first_line 4 8)
      ∷ (colon, on_first_line 8 9)
      ∷ (bracket_open, on_first_line 10 11)
      ∷ (int 1, on_first_line 11 12)
      ∷ (bracket_close, on_first_line 12 13)
      ∷ (brace_close, on_first_line 13 14)
      ∷ (variable_end, on_first_line 15 17)
      ∷ [];
  ending = finished;
}
unfolding reading
brackets = refl

-- an integer of 2 ^ 64
large_integer : tokens_of_template default_syntax (codes "{{ 18446744073709551616 }}") ≡ record {
  tokens = (variable_start, on_first_line 0 2) ∷ (int128 (2 ^ 64), on_first_line 3 23) ∷ (variable_end, on_first_line 24 26) ∷ [];
  ending = finished;
}
unfolding reading
large_integer = refl

-- ---- line ends and whitespace before markers

-- trim_blocks: the line end after a block tag is removed
trimmed : tokens_of_template (record default_syntax { trim_blocks = true }) (codes "{% set a = 1 %}\r\nx") ≡ record {
  tokens =
      (block_start, on_first_line 0 2)
      ∷ (ident (codes "set"), on_first_line 3 6)
      ∷ (ident (codes "a"), on_first_line 7 8)
      ∷ (assign, on_first_line 9 10)
      ∷ (int 1, on_first_line 11 12)
      ∷ (block_end, on_first_line 13 15)
      ∷ (template_data (codes "x"), from_to 2 0 17 2 1 18)
      ∷ [];
  ending = finished;
}
unfolding reading
trimmed = refl

-- lstrip_blocks: a blank line's begin before a block tag is removed; a tag that the text's end
-- breaks off just ends
stripped : tokens_of_template (record default_syntax { lstrip_blocks = true }) (codes "a\n  {% x") ≡ record {
  tokens =
      (template_data (codes "a\n"), from_to 1 0 0 2 0 2)
      ∷ (block_start, from_to 2 2 4 2 4 6)
      ∷ (ident (codes "x"), from_to 2 5 7 2 6 8)
      ∷ [];
  ending = finished;
}
unfolding reading
stripped = refl

-- a + in a marker turns lstrip_blocks off there, and one in an end trim_blocks
plus : tokens_of_template (record default_syntax { trim_blocks = true; lstrip_blocks = true }) (codes "  {%+ x +%}\ny") ≡ record {
  tokens =
      (template_data (codes "  "), on_first_line 0 2)
      ∷ (block_start, on_first_line 2 5)
      ∷ (ident (codes "x"), on_first_line 6 7)
      ∷ (block_end, on_first_line 8 11)
      ∷ (template_data (codes "\ny"), from_to 1 11 11 2 1 13)
      ∷ [];
  ending = finished;
}
unfolding reading
plus = refl

-- the text's last line end is removed
last_line_end : tokens_of_template default_syntax (codes "a\r\n") ≡ record { tokens = (template_data (codes "a"), on_first_line 0 1) ∷ []; ending = finished }
unfolding reading
last_line_end = refl

-- keep_trailing_newline: it stays
kept_line_end : tokens_of_template (record default_syntax { keep_trailing_newline = true }) (codes "a\n") ≡ record {
  tokens = (template_data (codes "a\n"), from_to 1 0 0 2 0 2) ∷ [];
  ending = finished;
}
unfolding reading
kept_line_end = refl

-- ---- raw blocks

-- a raw block is one token with the span of the whole text between its tags, of which controls cut
-- whitespace off
raw_controls : tokens_of_template default_syntax (codes "{% raw -%}  a {%- endraw %}b") ≡ record {
  tokens = (template_data (codes "a"), on_first_line 10 14) ∷ (template_data (codes "b"), on_first_line 27 28) ∷ [];
  ending = finished;
}
unfolding reading
raw_controls = refl

-- a tag in a raw block is text
raw_tag : tokens_of_template default_syntax (codes "{% raw %}{{ a }}{% endraw %}") ≡ record {
  tokens = (template_data (codes "{{ a }}"), on_first_line 9 16) ∷ [];
  ending = finished;
}
unfolding reading
raw_tag = refl

-- ---- lines

-- line statements and line comments
abbrev line_syntax : Syntax
line_syntax = record default_syntax { line_statement = codes "#"; line_comment = codes "##" }

-- a line statement's end is the line end
line_statement : tokens_of_template (record default_syntax { line_statement = codes "#" }) (codes "# set a = 1\r\nx") ≡ record {
  tokens =
      (block_start, on_first_line 0 1)
      ∷ (ident (codes "set"), on_first_line 2 5)
      ∷ (ident (codes "a"), on_first_line 6 7)
      ∷ (assign, on_first_line 8 9)
      ∷ (int 1, on_first_line 10 11)
      ∷ (block_end, from_to 1 11 11 2 0 13)
      ∷ (template_data (codes "x"), from_to 2 0 13 2 1 14)
      ∷ [];
  ending = finished;
}
unfolding reading
line_statement = refl

-- the text's end ends a line statement in a bracket too
open_line_statement : tokens_of_template line_syntax (codes "# a(\n") ≡ record {
  tokens =
      (block_start, on_first_line 0 1)
      ∷ (ident (codes "a"), on_first_line 2 3)
      ∷ (paren_open, on_first_line 3 4)
      ∷ (block_end, on_first_line 4 4)
      ∷ [];
  ending = finished;
}
unfolding reading
open_line_statement = refl

-- of two prefixes at a place the longer counts; a line comment is removed with its line end
line_comment : tokens_of_template line_syntax (codes "## a\n<ul>") ≡ record { tokens = (template_data (codes "<ul>"), from_to 2 0 5 2 4 9) ∷ []; ending = finished }
unfolding reading
line_comment = refl

-- line statements and line comments leave nothing of their lines
list_of_lines : tokens_of_template line_syntax (codes "<ul>\n  # for x in y\n    ## c\n    <li>{{ x }}\n  # endfor\n</ul>") ≡ record {
  tokens =
      (template_data (codes "<ul>\n"), from_to 1 0 0 2 0 5)
      ∷ (block_start, from_to 2 2 7 2 3 8)
      ∷ (ident (codes "for"), from_to 2 4 9 2 7 12)
      ∷ (ident (codes "x"), from_to 2 8 13 2 9 14)
      ∷ (ident (codes "in"), from_to 2 10 15 2 12 17)
      ∷ (ident (codes "y"), from_to 2 13 18 2 14 19)
      ∷ (block_end, from_to 2 14 19 3 0 20)
      ∷ (template_data (codes "    <li>"), from_to 4 0 29 4 8 37)
      ∷ (variable_start, from_to 4 8 37 4 10 39)
      ∷ (ident (codes "x"), from_to 4 11 40 4 12 41)
      ∷ (variable_end, from_to 4 13 42 4 15 44)
      ∷ (template_data (codes "\n"), from_to 4 15 44 5 0 45)
      ∷ (block_start, from_to 5 2 47 5 3 48)
      ∷ (ident (codes "endfor"), from_to 5 4 49 5 10 55)
      ∷ (block_end, from_to 5 10 55 6 0 56)
      ∷ (template_data (codes "</ul>"), from_to 6 0 56 6 5 61)
      ∷ [];
  ending = finished;
}
unfolding reading
list_of_lines = refl

-- ---- other delimiters

-- the longer marker counts where two stand
longer_delimiters : tokens_of_template (record default_syntax { variable_start = codes "{%%"; variable_end = codes "%%}" }) (codes "{%% x %%}") ≡ record {
  tokens = (variable_start, on_first_line 0 3) ∷ (ident (codes "x"), on_first_line 4 5) ∷ (variable_end, on_first_line 6 9) ∷ [];
  ending = finished;
}
unfolding reading
longer_delimiters = refl

-- columns count characters, offsets bytes
multi_byte : tokens_of_template (record default_syntax { variable_start = encode_utf8_all (codes "«"); variable_end = encode_utf8_all (codes "»") }) (encode_utf8_all (codes "«é»")) ≡ record {
  tokens =
      (variable_start, from_to 1 0 0 1 1 2)
      ∷ (ident (encode_utf8_all (codes "é")), from_to 1 1 2 1 2 4)
      ∷ (variable_end, from_to 1 2 4 1 3 6)
      ∷ [];
  ending = finished;
}
unfolding reading
multi_byte = refl

-- an end that begins with whitespace
abbrev spaced_syntax : Syntax
spaced_syntax = record default_syntax { variable_end = codes " }" }

-- such an end stands after a -
spaced_end : tokens_of_template spaced_syntax (codes "{{ x- }y") ≡ record {
  tokens =
      (variable_start, on_first_line 0 2)
      ∷ (ident (codes "x"), on_first_line 3 4)
      ∷ (variable_end, on_first_line 4 7)
      ∷ (template_data (codes "y"), on_first_line 7 8)
      ∷ [];
  ending = finished;
}
unfolding reading
spaced_end = refl

-- and nowhere else, since whitespace is passed before an end is looked for
no_spaced_end : tokens_of_template spaced_syntax (codes "{{ x }") ≡ record {
  tokens = (variable_start, on_first_line 0 2) ∷ (ident (codes "x"), on_first_line 3 4) ∷ (brace_close, on_first_line 5 6) ∷ [];
  ending = finished;
}
unfolding reading
no_spaced_end = refl

-- ---- refusals

-- a string without end is refused at the text's end
open_string : tokens_of_template default_syntax (codes "{{ 'a }}") ≡ record {
  tokens = (variable_start, on_first_line 0 2) ∷ [];
  ending = refused SyntaxError (Some (on_first_line 8 9));
}
unfolding reading
open_string = refl

-- a string with a bad escape is refused as a whole
bad_escape : tokens_of_template default_syntax (codes "{{ '\\q' }}") ≡ record {
  tokens = (variable_start, on_first_line 0 2) ∷ [];
  ending = refused BadEscape (Some (on_first_line 3 7));
}
unfolding reading
bad_escape = refl

-- a string with an escape is decoded, and a bad one after it is refused
escapes : tokens_of_template default_syntax (codes "{{ '\\u0041' 'a\\qb' }}") ≡ record {
  tokens = (variable_start, on_first_line 0 2) ∷ (string (codes "A"), on_first_line 3 11) ∷ [];
  ending = refused BadEscape (Some (on_first_line 12 18));
}
unfolding reading
escapes = refl

-- an underscore ends no number: it is refused after what it takes
last_underscore : tokens_of_template default_syntax (codes "{{ 1_ }}") ≡ record {
  tokens = (variable_start, on_first_line 0 2) ∷ [];
  ending = refused SyntaxError (Some (on_first_line 5 6));
}
unfolding reading
last_underscore = refl

-- a float is refused after its first digits
float : tokens_of_template default_syntax (codes "{{ 1.5 }}") ≡ record {
  tokens = (variable_start, on_first_line 0 2) ∷ [];
  ending = refused SyntaxError (Some (on_first_line 4 5));
}
unfolding reading
float = refl

-- what begins no token is refused where it stands
no_token : tokens_of_template default_syntax (codes "{{ a $ }}") ≡ record {
  tokens = (variable_start, on_first_line 0 2) ∷ (ident (codes "a"), on_first_line 3 4) ∷ [];
  ending = refused SyntaxError (Some (on_first_line 5 6));
}
unfolding reading
no_token = refl

-- a raw block without end is refused at the text's end, and is no token
open_raw : tokens_of_template default_syntax (codes "{% raw %}x") ≡ record { tokens = []; ending = refused SyntaxError (Some (on_first_line 10 11)) }
unfolding reading
open_raw = refl

-- a comment without end is refused at the text's end, after the data before it
open_comment : tokens_of_template default_syntax (codes "x{# a") ≡ record {
  tokens = (template_data (codes "x"), on_first_line 0 1) ∷ [];
  ending = refused SyntaxError (Some (on_first_line 5 6));
}
unfolding reading
open_comment = refl

-- ---- expressions

-- an expression is a variable tag without its marker, and needs no end
expression : tokens_of_expression default_syntax (codes "a.b") ≡ record {
  tokens = (ident (codes "a"), on_first_line 0 1) ∷ (dot, on_first_line 1 2) ∷ (ident (codes "b"), on_first_line 2 3) ∷ [];
  ending = finished;
}
unfolding reading
expression = refl

-- after an end the text must be over
expression_goes_on : tokens_of_expression default_syntax (codes "a}} b") ≡ record {
  tokens = (ident (codes "a"), on_first_line 0 1) ∷ (variable_end, on_first_line 1 3) ∷ [];
  ending = refused SyntaxError (Some (on_first_line 3 4));
}
unfolding reading
expression_goes_on = refl

-- in a larger file an expression is read from its place on, and has the places of that file
expression_in_a_file : tokens_of_expression_at default_syntax (codes "x: a.b") 3 ≡ record {
  tokens = (ident (codes "a"), on_first_line 3 4) ∷ (dot, on_first_line 4 5) ∷ (ident (codes "b"), on_first_line 5 6) ∷ [];
  ending = finished;
}
unfolding reading
expression_in_a_file = refl
