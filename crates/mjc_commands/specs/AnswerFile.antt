-- Files of answers, one a line.
use Rattle.std.specs.Prelude.{◌≡◌, ◌+◌, ℕ, List, [], ◌∷◌, ◌++◌, length, Option, None, Some, codes}
use Rattle.std.specs.Str.Lines.{lines}
use Rattle.minijinja_syntax.specs.Texts.{Text}
use Rattle.minijinja_syntax.specs.Syntax.{default_syntax}
use Rattle.minijinja_value.specs.ValueContents.{Contents}
use Rattle.minijinja_value.specs.ValueFunctions.{value_functions}
use Rattle.minijinja_tree_expr.specs.Folding.{constants}
use Rattle.minijinja_tree.specs.Tree.{Expr, list}
use Rattle.minijinja_parser.specs.Answers.{IsShort}
use Rattle.minijinja_parser.specs.Derived.{IsExprDerived}
use Rattle.minijinja_semantics.specs.Events.{Answer, Fault, Values}

-- what the items of a list hold, where the tree is a list of constants
abbrev pub listed_constants : Expr Contents → Option (List Contents)
listed_constants (list es) = constants es
listed_constants _ = None

-- The line is the word `fault`; or it has fewer than 2^32 bytes and is an expression in the default
-- syntax, a list of constants, and says what they hold.
pub data IsAnswer (line : Text) : Answer Contents → Type 0 where
  fault : line ≡ codes "fault" → IsAnswer line Fault
  values : (e : Expr Contents) (vs : List Contents) → IsShort line → IsExprDerived value_functions default_syntax line e → listed_constants e ≡ Some vs → IsAnswer line (Values vs)

-- each line says its answer
abbrev pub SayAnswers : List Text → List (Answer Contents) → Type 0
SayAnswers [] [] = Unit {0}
SayAnswers (line ∷ lines) (a ∷ answers) = IsAnswer line a × SayAnswers lines answers
SayAnswers _ _ = ⊥

-- each line of the text says an answer
abbrev pub IsAnswerFile : Text → Type 0
IsAnswerFile text = (answers : List (Answer Contents)) × SayAnswers (lines text) answers

-- this is the number of the first line that says no answer, counted from 1
pub record IsBadLine (text : Text) (number : ℕ) : Type 0 where
  pub before : List Text
  pub line : Text
  pub after : List Text
  pub stands : lines text ≡ before ++ line ∷ after
  pub counted : number ≡ length before + 1
  pub answers : List (Answer Contents)
  pub said : SayAnswers before answers
  pub unsaid : (a : Answer Contents) → ¬ IsAnswer line a
