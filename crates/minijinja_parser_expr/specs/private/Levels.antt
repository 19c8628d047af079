-- The levels of operators, where parts nest to a depth.
use Rattle.std.specs.Prelude.{ℕ}
use Rattle.minijinja_syntax.specs.declared.tokens.Span.{Span}
use Rattle.minijinja_value.specs.Values.{Functions}
use Rattle.minijinja_tree.specs.SpannedTrees.{Expr}
use Rattle.minijinja_grammar.specs.internal.Forms.{Form, Read}
use Rattle.minijinja_grammar.specs.Places.{Place}
use Rattle.minijinja_grammar.specs.internal.ExprForms.{below, pow_level}
use Rattle.minijinja_grammar.specs.internal.Climbing.{level_of, first_of, operation, negation_in}
use Rattle.minijinja_parser_tokens.specs.internal.Levels.{infix_of, rows}
use Rattle.minijinja_parser_tokens.specs.declared.operators.Level.{Level}
use Rattle.minijinja_parser_tokens.specs.declared.operators.Operator.{Operator}

module _ {C F : Type 0} (f : Functions C F) (depth : ℕ) where
  abbrev pub level_at : Level → Form (Expr C)
  level_at l = level_of (negation_in (below f depth)) (pow_level f (below f depth)) (rows l)

  -- the first operand of a level
  abbrev pub first_at : Level → Place → Read (Expr C)
  first_at l p = first_of (negation_in (below f depth)) (pow_level f (below f depth)) (rows l) p

  -- an operator and its right side, after a left side, or all comparisons that come
  abbrev pub operation_at : Operator → (from before : Span) → Expr C → Place → Read (Expr C)
  operation_at o from before x p = operation (negation_in (below f depth)) (pow_level f (below f depth)) (infix_of o) from before x p
