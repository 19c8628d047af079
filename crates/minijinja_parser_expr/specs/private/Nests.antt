-- The results of rules, and of function values that parse what nests to a depth.
use Rattle.std.specs.Prelude.{ℕ, ◌≤◌, Result}
use denote.Ref.{MutBor}
use Rattle.minijinja_value.specs.Values.{Functions}
use Rattle.minijinja_tree.specs.SpannedTrees.{Expr}
use Rattle.minijinja_grammar.specs.internal.Forms.{Form, reads}
use Rattle.minijinja_grammar.specs.Places.{Place}
use Rattle.minijinja_grammar.specs.internal.ExprForms.{Below, below}
use Rattle.minijinja_parser_expr.specs.declared.rules.Nest.{Nest}
use Rattle.minijinja_parser_expr.specs.declared.rules.Nest.TheVariants as nest
use Rattle.minijinja_parser_tokens.specs.internal.Reads.{Reads}
use Rattle.minijinja_parser_tokens.specs.declared.refusal.Refusal.{Refusal}

-- what reading the form from some tokens comes to, and which are left then
abbrev pub Parses : {T A X : Type 0} → (T → Place) → (X → A) → Form A → T → Result X Refusal → T → Type 0
Parses place view form old result new = Reads view (reads form (place old)) result (place new)

-- what nests there
abbrev pub nested_in : {C : Type 0} → Nest → Below C → Form (Expr C)
nested_in nest.Expr b = b.expr
nested_in nest.Opposite b = b.opposite
nested_in nest.Power b = b.power
nested_in nest.Negated b = b.negated

-- called with any depth up to this, it parses what nests to that depth
pub record Nests {N T X M C F P : Type 0} (place : T → Place) (tree : X → Expr C) (f : Functions C F) (depth : ℕ)
    (pre : P → N → MutBor T → M → Nest → ℕ → Type 0) (post : P → N → MutBor T → M → Nest → ℕ → Result X Refusal → MutBor T → Type 0) (parser : P) : Type 0 where
  pub callable : (nodes : N) (old : MutBor T) (made : M) (n : Nest) (d : ℕ) → d ≤ depth → pre parser nodes old made n d
  pub reads : (nodes : N) (old new : MutBor T) (made : M) (n : Nest) (d : ℕ) (r : Result X Refusal) → d ≤ depth →
      post parser nodes old made n d r new → Parses place tree (nested_in n (below f d)) old.now r new.now
