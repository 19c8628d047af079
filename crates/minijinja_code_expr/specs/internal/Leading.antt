-- The code of nodes that begins with the code of an operand, while it is being made.
use Rattle.std.specs.Prelude.{◌≡◌, ℕ, length, Option, Some, None, Bool, true, false}
use Rattle.minijinja_value.specs.Values.{Functions}
use Rattle.minijinja_tree.specs.Tree.{Expr, variable, constant, slice, unary, binary, compare, if_expr, filter, test, attribute, item, call, list, tuple, map, absent, present}
use Rattle.minijinja_tree.specs.Callees.{Callee, function, method, block, object, callee}
use Rattle.minijinja_tree.specs.Operators.{Working, Makes, Divides, IfTrue, IfFalse}
use Rattle.minijinja_semantics.specs.Layout.{expr}
use Rattle.minijinja_semantics.specs.Pieces.{Piece, nothing, one}
use Rattle.minijinja_emitter.specs.internal.Making.{Made, Adds, hole}

-- what a call is made on
abbrev pub called_on : {C : Type 0} → Callee C → Option (Expr C)
called_on (function x) = None
called_on (method e x) = Some e
called_on (block x) = None
called_on (object e) = Some e

-- the operand that a node's code begins with, if there is one; of an if expression the one after
-- its test
abbrev pub leading : {C : Type 0} → Expr C → Option (Expr C)
leading (variable x) = None
leading (constant c) = None
leading (slice e start stop step) = Some e
leading (unary o e) = Some e
leading (binary o a b) = Some a
leading (compare e cs) = Some e
leading (if_expr t a b) = Some a
leading (filter absent x args) = None
leading (filter (present e) x args) = Some e
leading (test e x args) = Some e
leading (attribute e x) = Some e
leading (item e k) = Some e
leading (call e args) = called_on (callee e)
leading (list es) = None
leading (tuple es) = None
leading (map ks vs) = None

-- the test of an if expression
abbrev pub test_in : {C : Type 0} → Expr C → Option (Expr C)
test_in (if_expr t a b) = Some t
test_in e = None

-- a list, a tuple or a map
abbrev pub IsLiteral : {C : Type 0} → Expr C → Type 0
IsLiteral (list es) = Unit {0}
IsLiteral (tuple es) = Unit {0}
IsLiteral (map ks vs) = Unit {0}
IsLiteral e = ⊥

-- a slice, an operator, a chain of comparisons or an if expression
abbrev pub IsOperation : {C : Type 0} → Expr C → Type 0
IsOperation (slice e start stop step) = Unit {0}
IsOperation (unary o e) = Unit {0}
IsOperation (binary o a b) = Unit {0}
IsOperation (compare e cs) = Unit {0}
IsOperation (if_expr t a b) = Unit {0}
IsOperation e = ⊥

-- the code of an expression, if there is one
abbrev pub piece_of : {C F : Type 0} → Functions C F → Option (Expr C) → Piece C
piece_of f None = nothing
piece_of f (Some e) = expr f e

-- a piece was added from a place on
pub record After {C : Type 0} (p : Piece C) (place : ℕ) (old new : Made C) : Type 0 where
  pub at : place ≡ length old.code
  pub added : Adds old new p

-- a test was added, a hole for its jump at a place, and the piece after it
pub record Tested {C : Type 0} (test p : Piece C) (place : ℕ) (old new : Made C) : Type 0 where
  pub tested : Made C
  pub held : Made C
  pub test_added : Adds old tested test
  pub at : place ≡ length tested.code
  pub hole_added : Adds tested held (one hole)
  pub added : Adds held new p

-- what a node's code begins with was added, and the node's place is this one
abbrev pub Ready : {C F : Type 0} → Functions C F → Expr C → (place : ℕ) (old new : Made C) → Type 0
Ready f (if_expr t a b) place old new = Tested (expr f t) (expr f a) place old new
Ready f e place old new = After (piece_of f (leading e)) place old new

-- what comes after the leading operand was added
abbrev pub Finishes : {C F : Type 0} → Functions C F → Expr C → (place : ℕ) (old new : Made C) → Type 0
Finishes {C} f e place old new = (start : Made C) → Ready f e place start old → Adds start new (expr f e)

-- what comes after the leading operand was added; or nothing was added
abbrev pub FinishesIf : {C F : Type 0} → Functions C F → (done : Bool) → Expr C → (place : ℕ) → (old new : Made C) → Type 0
FinishesIf f true e place old new = Finishes f e place old new
FinishesIf f false e place old new = new ≡ old

-- what comes before the right side of an operator: a hole for its jump, where the left side may
-- decide
abbrev pub before_right : {C : Type 0} → Working → Piece C
before_right (Makes o) = nothing
before_right Divides = nothing
before_right IfTrue = one hole
before_right IfFalse = one hole
