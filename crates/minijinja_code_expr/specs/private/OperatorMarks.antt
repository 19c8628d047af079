-- The marks of operators while their code is made.
use Rattle.std.specs.Prelude.{◌≡◌, ℕ, Some}
use Rattle.minijinja_value.specs.Values.{Functions}
use Rattle.minijinja_tree.specs.BinOps.{BinOp}
use Rattle.minijinja_tree.specs.Folding.{fold}
use Rattle.minijinja_tree.specs.Operators.{Working, Makes, Divides, IfTrue, IfFalse, working}
use Rattle.minijinja_tree.specs.Tree.{Expr, UnaryOp, binary, unary}
use Rattle.minijinja_tree.specs.WellFormed.{IsWhole}
use Rattle.minijinja_semantics.specs.Layout as layout
use Rattle.minijinja_semantics.specs.Marks.{Margin, Marking, again, here, nowhere_else, unary_operator}
use Rattle.minijinja_emitter.specs.declared.emit.Site.{Site}
use Rattle.minijinja_emitter.specs.internal.Making.{Made}
use Rattle.minijinja_code_expr.specs.internal.Leading.{After, Ready}
use Rattle.minijinja_code_expr.specs.internal.NodeMarks.{taken_back}
use Rattle.minijinja_code_expr.specs.private.Operating.{Sides}

-- before the right side of an operator: the jump of one that may leave that side out
abbrev pub before_right_marks : Working → Marking
before_right_marks (Makes o) = nowhere_else
before_right_marks Divides = nowhere_else
before_right_marks IfTrue = again
before_right_marks IfFalse = again

-- and after it
abbrev pub after_right_marks : Working → Marking
after_right_marks (Makes o) = here 1
after_right_marks Divides = here 1
after_right_marks IfTrue = nowhere_else
after_right_marks IfFalse = nowhere_else

-- what comes after an operand was marked
abbrev pub EndsUnaryMarks : {C F : Type 0} → Functions C F → UnaryOp → (place : ℕ) → Site → Made C → (old new : Margin) → Type 0
EndsUnaryMarks {C} f o place site made old new =
    (e : Expr C) (start : Made C) → IsWhole e → After (layout.expr f e) place start made → new ≡ taken_back (fold f (unary o e)) place site (unary_operator o site.node) old

-- what comes after both sides of an operator was marked
abbrev pub EndsBinaryMarks : {C F : Type 0} → Functions C F → BinOp → (start middle : ℕ) → Site → Made C → (old new : Margin) → Type 0
EndsBinaryMarks {C} f o start middle site made old new =
    (a b : Expr C) (begun : Made C) → IsWhole a → IsWhole b → Sides f o a b start middle begun made → new ≡ taken_back (fold f (binary o a b)) start site (after_right_marks (working o)) old

-- a node folds whose leading operand was added
abbrev pub Folds : {C F : Type 0} → Functions C F → Expr C → (place : ℕ) → Made C → Type 0
Folds {C} f e place made = (start : Made C) → Ready f e place start made → (c : C) × (fold f e ≡ Some c)
