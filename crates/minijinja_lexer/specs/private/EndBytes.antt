-- The bytes that the ends of tags begin with.
use Rattle.std.specs.Prelude.{◌≡◌, slice_index}
use Rattle.minijinja_syntax.specs.Syntax.{Syntax, IsBuildable, end_of}
use Rattle.minijinja_syntax.specs.declared.syntax.StartMarker.TheVariants.{Variable, Block}
use Rattle.minijinja_lexer.specs.declared.tag_part.EndBytes.{EndBytes}

-- the bytes are those of the syntax, whose delimiters are not empty
pub record AreEndBytes (s : Syntax) (ends : EndBytes) : Type 0 where
  pub built : IsBuildable s
  pub variable : ends.variable ≡ slice_index (end_of s Variable) 0
  pub block : ends.block ≡ slice_index (end_of s Block) 0
