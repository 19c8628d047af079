-- The marks of chains of comparisons while their code is made.
use Rattle.std.specs.Prelude.{ℕ, zero, suc, List, [], ◌∷◌}
use Rattle.minijinja_tree.specs.Erasure.{compare_op}
use Rattle.minijinja_tree_expr.specs.declared.ast.CompareOp.{CompareOp as Compared}
use Rattle.minijinja_semantics.specs.Marks.{Marking, comparison, here, nowhere_else, ◌⟫◌}

-- the comparison before an operand, if there is one, with its jump
abbrev pub after_comparison : ℕ → Marking
after_comparison zero = nowhere_else
after_comparison (suc i) = here 2

-- the last comparison, if there is one
abbrev pub last_of : {X : Type 0} → (X → Marking) → List X → Marking
last_of g [] = nowhere_else
last_of g (x ∷ []) = g x
last_of g (x ∷ y ∷ xs) = last_of g (y ∷ xs)

abbrev pub last_comparison : {V F C : Type 0} → (V → C) → List (Compared V F) → Marking
last_comparison c xs = last_of (λ x. comparison (compare_op x.op)) xs

-- and the end of the chain
abbrev pub chain_end : {V F C : Type 0} → (V → C) → List (Compared V F) → Marking
chain_end c xs = last_comparison c xs ⟫ here 3
