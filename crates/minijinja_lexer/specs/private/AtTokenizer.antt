-- The model of `Tokenizer`: its syntax, its source's name, its text and the tokens to come.
use Rattle.minijinja_lexer.specs.Stream.{Lexing}
use Rattle.minijinja_lexer.specs.private.EndBytes.{AreEndBytes}
use Rattle.minijinja_lexer.specs.private.States.{stream_from, StateFits}
use Rattle.minijinja_lexer.specs.declared.lexer.Tokenizer.TheInside.{Inside}

-- its fields, as its contracts speak of them
abbrev pub tokenizer_view : Inside → Lexing
tokenizer_view a = record { syntax = a.syntax.now; filename = a.filename.now; source = a.cursor.text; stream = stream_from a.syntax.now a.cursor a.state }

-- the counts of brackets stay small, and the first bytes of ends are those of the syntax
pub record IsTokenizer (a : Inside) : Type 0 where
  pub fits : StateFits a.cursor a.state
  pub ends : AreEndBytes a.syntax.now a.ends
