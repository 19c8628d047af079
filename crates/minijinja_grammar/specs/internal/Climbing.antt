-- Levels of operators as rows, the loosest first, and what follows an operand by the operators of
-- some of them.
use Rattle.std.specs.Prelude.{◌≡◌, List, [], ◌∷◌, Bool, false, if◌then◌else◌, Option, Some, None, is_some}
use Rattle.std.specs.Option.{option_map}
use Rattle.minijinja_syntax.specs.declared.tokens.Span.{Span}
use Rattle.minijinja_syntax.specs.Tokens.{Tok}
use Rattle.minijinja_tree.specs.BinOps.{BinOp}
use Rattle.minijinja_tree.specs.Tree.{logical_not}
use Rattle.minijinja_tree.specs.SpannedTrees.{Expr, binary}
use Rattle.minijinja_grammar.specs.Words.{is, not_word, or_op, and_op, sum_op, cat_op, term_op, begins_comparison}
use Rattle.minijinja_syntax.specs.Streams.{SpannedTok}
use Rattle.minijinja_grammar.specs.Places.{Place}
use Rattle.minijinja_grammar.specs.internal.Forms.{Read, got, read_then, reads, Form, go_on, pure, one, either, many, ◌>>=◌}
use Rattle.minijinja_grammar.specs.Ahead.{comes, held}
use Rattle.minijinja_grammar.specs.internal.ExprForms.{Below, of_kind, expanded, spanned, prefixed, level, comparison, compare_all, compared_level}

pub data Row : Type 0 where
  binaries : (Tok → Option BinOp) → Row
  comparing : Row

-- from comparisons on
abbrev pub not_rows : List Row
not_rows = comparing ∷ binaries sum_op ∷ binaries cat_op ∷ binaries term_op ∷ []

-- from `or` on
abbrev pub all_rows : List Row
all_rows = binaries or_op ∷ binaries and_op ∷ not_rows

-- whether the token begins an operator of the row
abbrev pub begins_row : Row → Tok → Bool
begins_row (binaries op) t = is_some (op t)
begins_row comparing t = begins_comparison t

-- it begins one of none of these rows
abbrev pub IsQuiet : List Row → List SpannedTok → Type 0
IsQuiet [] ts = Unit {0}
IsQuiet (r ∷ rs) ts = (comes (begins_row r) ts ≡ false) × IsQuiet rs ts

-- { op X }, after a left side
abbrev pub operators : {C : Type 0} → (Tok → Option BinOp) → Form (Expr C) → Span → Expr C → Form (Expr C)
operators op f from l = many (held op) (λ l o. f >>= (λ r. spanned from (λ s. go_on (binary o l r s)))) l

-- { CmpOp Sum }, after an operand
abbrev pub comparisons : {C : Type 0} → Form (Expr C) → Span → Expr C → Form (Expr C)
comparisons sum from e = many (of_kind begins_comparison) (comparison sum) [] >>= (λ cs. spanned from (compare_all e cs))

-- what begins with `not`, over what nests
abbrev pub negation_in : {C : Type 0} → Below C → Form (Expr C)
negation_in b = prefixed not_word logical_not b.opposite

module _ {C : Type 0} (negation operand : Form (Expr C)) where
  -- the level of the first row
  abbrev pub level_of : List Row → Form (Expr C)
  level_of [] = operand
  level_of (binaries op ∷ rows) = level op (level_of rows)
  level_of (comparing ∷ rows) = either (is not_word) negation (compared_level (level_of rows))

  -- what follows an operand, at the level of the first row; `from` is where the operand begins, and
  -- `before` the token before it
  abbrev pub rest_of : List Row → (from before : Span) → Expr C → Form (Expr C)
  rest_of [] from before x = pure x
  rest_of (binaries op ∷ rows) from before x = rest_of rows from before x >>= operators op (level_of rows) from
  rest_of (comparing ∷ rows) from before x = rest_of rows from before x >>= comparisons (level_of rows) before

-- ---- the operator that comes next

-- of two sides, or a comparison; the right side is of these rows
pub data Infix : Type 0 where
  binary_of : BinOp → List Row → Infix
  comparing_of : List Row → Infix

abbrev pub or_else : {A : Type 0} → Option A → Option A → Option A
or_else None b = b
or_else (Some x) b = Some x

-- what the token is or begins in the rows, in the tightest of them
abbrev pub infix_in : List Row → Tok → Option Infix
infix_in [] t = None
infix_in (binaries op ∷ rows) t = or_else (infix_in rows t) (option_map (λ o. binary_of o rows) (op t))
infix_in (comparing ∷ rows) t = or_else (infix_in rows t) (if begins_comparison t then Some (comparing_of rows) else None)

abbrev pub next_infix : List Row → List SpannedTok → Option Infix
next_infix rows [] = None
next_infix rows (t ∷ ts) = infix_in rows t.0

module _ {C : Type 0} (negation operand : Form (Expr C)) where
  -- an operator and its right side, after a left side, or all comparisons that come
  unfoldable pub operation : Infix → (from before : Span) → Expr C → Place → Read (Expr C)
  operation (binary_of o rows) from before x p = read_then (reads (one Some) p) (λ t q.
      read_then (reads (level_of negation operand rows) q) (λ r s. got (binary o x r (expanded from s.last)) s))
  operation (comparing_of rows) from before x p = reads (comparisons (level_of negation operand rows) before x) p

  -- the first operand of a level: a negation, where `not` comes in a level that has it
  abbrev pub first_of : List Row → Place → Read (Expr C)
  first_of [] p = reads operand p
  first_of (binaries op ∷ rows) p = first_of rows p
  first_of (comparing ∷ rows) p = if comes (is not_word) p.tokens then reads negation p else first_of rows p
