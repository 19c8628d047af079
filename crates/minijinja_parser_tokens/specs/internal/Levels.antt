-- The levels of operators, as rows of the grammar.
use Rattle.std.specs.Prelude.{ℕ, nat_lt, Bool, if◌then◌else◌, List, [], ◌∷◌, Option, Some, None}
use Rattle.minijinja_syntax.specs.Streams.{SpannedTok}
use Rattle.minijinja_syntax.specs.Tokens as tok
use Rattle.minijinja_syntax.specs.Tokens.{Tok}
use Rattle.minijinja_tree.specs.CompareOps.{CompareOp}
use Rattle.minijinja_tree.specs.SpannedTrees.{Expr}
use Rattle.minijinja_tree_expr.specs.declared.ast.BinOpKind.TheVariants as op
use Rattle.minijinja_tree.specs.Erasure.{bin_op}
use Rattle.minijinja_grammar.specs.Words.{is, and_word, or_word, begins_comparison, compare_op, and_op, sum_op, cat_op, term_op}
use Rattle.minijinja_grammar.specs.Places.{Place}
use Rattle.minijinja_grammar.specs.internal.Forms.{Read, Form, got, one, read_then, reads}
use Rattle.minijinja_grammar.specs.internal.ExprForms.{of_kind, compare_operator}
use Rattle.minijinja_grammar.specs.internal.Climbing.{Row, binaries, not_rows, all_rows, Infix, binary_of, comparing_of}
use Rattle.minijinja_parser_tokens.specs.declared.operators.Level.{Level}
use Rattle.minijinja_parser_tokens.specs.declared.operators.Level.TheVariants.{Or, And, Not, Sum, Cat, Term, Operand}
use Rattle.minijinja_parser_tokens.specs.declared.operators.Operator.{Operator}
use Rattle.minijinja_parser_tokens.specs.declared.operators.Operator.TheVariants.{Binary, Comparison}

-- from the loosest on
abbrev pub rank : Level → ℕ
rank Or = 0
rank And = 1
rank Not = 2
rank Sum = 3
rank Cat = 4
rank Term = 5
rank Operand = 6

-- the level and all tighter ones
abbrev pub rows : Level → List Row
rows Or = all_rows
rows And = binaries and_op ∷ not_rows
rows Not = not_rows
rows Sum = binaries sum_op ∷ binaries cat_op ∷ binaries term_op ∷ []
rows Cat = binaries cat_op ∷ binaries term_op ∷ []
rows Term = binaries term_op ∷ []
rows Operand = []

-- the level of its operands
abbrev pub tighter : Level → Level
tighter Or = And
tighter And = Not
tighter Not = Sum
tighter Sum = Cat
tighter Cat = Term
tighter Term = Operand
tighter Operand = Operand

-- whether it has `not`
abbrev pub has_not : Level → Bool
has_not l = nat_lt (rank l) 3

abbrev pub level_of_operator : Operator → Level
level_of_operator (Binary o l) = l
level_of_operator Comparison = Not

-- the operator, with the rows of its right side
abbrev pub infix_of : Operator → Infix
infix_of (Binary o l) = binary_of (bin_op o) (rows (tighter l))
infix_of Comparison = comparing_of (rows Sum)

-- ---- which operator a token is or begins

abbrev pub word_operator : Tok → Option Operator
word_operator t = if begins_comparison t then Some Comparison
    else if is and_word t then Some (Binary op.ScAnd And)
    else if is or_word t then Some (Binary op.ScOr Or)
    else None

abbrev pub operator_of : Tok → Option Operator
operator_of tok.plus = Some (Binary op.Add Sum)
operator_of tok.minus = Some (Binary op.Sub Sum)
operator_of tok.tilde = Some (Binary op.Concat Cat)
operator_of tok.mul = Some (Binary op.Mul Term)
operator_of tok.div = Some (Binary op.Div Term)
operator_of tok.floor_div = Some (Binary op.FloorDiv Term)
operator_of tok.rem = Some (Binary op.Rem Term)
operator_of t = word_operator t

-- if it binds at least as tight as the level
abbrev pub if_as_tight : Level → Option Operator → Option Operator
if_as_tight l None = None
if_as_tight l (Some o) = if nat_lt (rank (level_of_operator o)) (rank l) then None else Some o

abbrev pub next_operator : Level → List SpannedTok → Option Operator
next_operator l [] = None
next_operator l (t ∷ ts) = if_as_tight l (operator_of t.0)

-- ---- one comparison

-- that of the next token
abbrev pub next_compare : List SpannedTok → Option CompareOp
next_compare [] = None
next_compare (t ∷ ts) = compare_op t.0

-- its operator
abbrev pub compare_op_at : Place → Read CompareOp
compare_op_at p = read_then (reads (one (of_kind begins_comparison)) p) (λ t q. reads (compare_operator (compare_op t.0)) q)

-- its operator and its right side
abbrev pub comparison_at : {C : Type 0} → Form (Expr C) → Place → Read (CompareOp × Expr C)
comparison_at sum p = read_then (compare_op_at p) (λ o q. read_then (reads sum q) (λ e s. got (o, e) s))
