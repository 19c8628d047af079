-- What is added to code for operators, arguments and literals.
use Rattle.std.specs.Prelude.{◌≡◌, ℕ, [], Option, Some, None, Bool, true, false}
use Rattle.minijinja_value.specs.Values.{Functions}
use Rattle.minijinja_tree.specs.Operators.{Working, Makes, Divides, IfTrue, IfFalse}
use Rattle.minijinja_semantics.specs.Events.{Div}
use Rattle.minijinja_semantics.specs.Code.{Instr, Do, Load, Operate, JumpIfFalseOrPop, JumpIfTrueOrPop}
use Rattle.minijinja_tree.specs.Folding.{constant_keywords, fold_keywords}
use Rattle.minijinja_tree.specs.Tree.{Args}
use Rattle.minijinja_semantics.specs.Layout.{arguments, positional, keyword, folded, merged, count_keyword}
use Rattle.minijinja_semantics.specs.Pieces.{Piece, one, ◌▸◌}
use Rattle.minijinja_semantics.specs.Layout as layout
use Rattle.minijinja_emitter.specs.internal.Making.{Made, Adds, hole}
use Rattle.minijinja_code_expr.specs.declared.arguments.Count.{Count}

-- whether an operator is `and` or `or`, which take their right side only where the left one does
-- not decide
abbrev pub is_lazy : Working → Bool
is_lazy IfTrue = true
is_lazy IfFalse = true
is_lazy _ = false

-- the jump of an `and` or `or`
abbrev pub jump_of : {C : Type 0} → Working → ℕ → Instr C
jump_of IfTrue n = JumpIfFalseOrPop n
jump_of IfFalse n = JumpIfTrueOrPop n
jump_of _ n = hole

-- the instruction of an operator that is neither `and` nor `or`
abbrev pub operator_of : {C : Type 0} → Working → Instr C
operator_of (Makes o) = Operate o
operator_of Divides = Do Div [] 2
operator_of _ = hole

-- all the arguments of a call, with the given number of operands below them
abbrev pub given : {C F : Type 0} → Functions C F → Args C → (front : ℕ) → Piece C
given f args front = arguments f args front (positional f args front) (keyword f args 0)

-- the batches, and the arguments of the batch so far
abbrev pub count_of : Count → layout.Count
count_of c = record { batches = c.batches; waiting = c.waiting }

-- no argument is counted yet, and the given number of operands is below the arguments
abbrev pub operands : (front : ℕ) → layout.Count
operands front = record { batches = 0; waiting = front }

-- the map of the arguments with a keyword
abbrev pub keyword_map : {C F : Type 0} → Functions C F → Args C → Piece C
keyword_map f args =
    let k = count_keyword args (operands 0) in
    folded (fold_keywords f (constant_keywords f args)) (keyword f args 0 ▸ merged k.batches k.waiting)

-- the constant that a tree folds to was loaded; or it folds to none, and nothing was added
abbrev pub AddsIf : {C : Type 0} → (loaded : Bool) → Option C → (old new : Made C) → Type 0
AddsIf {C} true folds old new = (c : C) × (folds ≡ Some c) × Adds old new (one (Load c))
AddsIf false folds old new = (folds ≡ None) × (new ≡ old)
