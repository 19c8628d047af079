-- How many there are, and what is left of them.
use Rattle.std.proofs.Common.{◌≡◌, ℕ, ◌+◌, ◌<◌, suc, List, [], ◌∷◌, length, map, drop, get_or, refl, true, ap, ◌∙◌, sym, arith}
use Rattle.std.specs.Prelude.{nat_le, Bool, false, ◌&&◌}
use Rattle.std.proofs.lemmas.List.{at_drop_more}
use Rattle.std.proofs.lemmas.Bool.Decides.{nat_tests}
use Rattle.minijinja_tree_expr.specs.Tree.{Args, no_args}
use Rattle.minijinja_tree_expr.specs.Erasure.{expr_tree, compare_tree, arg_tree, exprs_of, args_of, comparisons_of}
use Rattle.minijinja_tree_expr.specs.WellFormed.{expr_count, arg_count}
use Rattle.minijinja_well_formed.specs.private.ExpressionTests.{is_chain, is_whole, are_whole, are_all_whole, are_arguments, is_variable}
use Rattle.minijinja_tree_expr.specs.declared.ast.CallArg.TheBlock as block
use Rattle.minijinja_tree_expr.specs.declared.ast.Expr.TheVariants as expr
use Rattle.minijinja_tree_expr.specs.declared.ast.CallArg.{CallArg, Pos, Kwarg, PosSplat, KwargSplat}
use Rattle.minijinja_tree_expr.specs.declared.ast.CompareOp.{CompareOp}
use Rattle.minijinja_tree_expr.specs.declared.ast.Expr.{Expr}

pub exprs-counted : {V F C : Type 0} (c : V → C) (xs : List (Expr V F)) → expr_count (exprs_of c xs) ≡ length xs
exprs-counted c [] = refl
exprs-counted c (x ∷ xs) = ap suc (exprs-counted c xs)

arg-counted : {V F C : Type 0} (c : V → C) (a : CallArg V F) (rest : Args C) → arg_count (arg_tree c a rest) ≡ suc (arg_count rest)
arg-counted c (Pos e) rest = refl
arg-counted c (Kwarg x e) rest = refl
arg-counted c (PosSplat e) rest = refl
arg-counted c (KwargSplat e) rest = refl

pub args-counted : {V F C : Type 0} (c : V → C) (xs : List (CallArg V F)) → arg_count (args_of c xs) ≡ length xs
args-counted c [] = refl
args-counted c (x ∷ xs) = arg-counted c x (args_of c xs) ∙ ap suc (args-counted c xs)

at_least_two : (n : ℕ) → nat_le 2 (suc (suc n)) ≡ true
at_least_two n = grind (arith, nat_tests)

pub chain-counted : {V F C : Type 0} (c : V → C) (xs : List (CompareOp V F)) → nat_le 2 (length xs) ≡ is_chain (comparisons_of c xs)
chain-counted c [] = refl
chain-counted c (x ∷ []) = refl
chain-counted c (x ∷ (y ∷ xs)) = at_least_two (length xs)

and-true : (b : Bool) → b ≡ (b && true)
and-true true = refl
and-true false = refl

-- an argument, and the others
split-argument : {V F C : Type 0} (c : V → C) (a : CallArg V F) (rest : Args C) → are_arguments (arg_tree c a rest) ≡ (are_arguments (arg_tree c a no_args) && are_arguments rest)
split-argument c (Pos e) rest = ap (λ b. b && are_arguments rest) (and-true (is_whole (expr_tree c e)))
split-argument c (Kwarg x e) rest = ap (λ b. b && are_arguments rest) (and-true (is_whole (expr_tree c e)))
split-argument c (PosSplat e) rest = ap (λ b. b && are_arguments rest) (and-true (is_whole (expr_tree c e)))
split-argument c (KwargSplat e) rest = ap (λ b. b && are_arguments rest) (and-true (is_whole (expr_tree c e)))

pub next-argument : {V F C : Type 0} (c : V → C) (xs : List (CallArg V F)) (i : ℕ) (x : CallArg V F) (b : Bool) → i < length xs → x ≡ get_or xs i x → b ≡ are_arguments (arg_tree c x no_args) →
    are_arguments (args_of c (drop i xs)) ≡ (b && are_arguments (args_of c (drop (i + 1) xs)))
next-argument c xs i x b within h k =
    at_drop_more (λ ys. are_arguments (args_of c ys)) xs i x within
    ∙ ap (λ y. are_arguments (arg_tree c y (args_of c (drop (i + 1) xs)))) (sym h)
    ∙ split-argument c x (args_of c (drop (i + 1) xs))
    ∙ ap (λ b. b && are_arguments (args_of c (drop (i + 1) xs))) (sym k)

compare-variable : {V F C : Type 0} (c : V → C) (q : block.the_data-4 V F) → is_variable (compare_tree c q) ≡ false
compare-variable c (block.struct-Compare e k ops) = refl

-- what is made by no name is no variable
pub other-variable : {V F C : Type 0} (c : V → C) (e : Expr V F) → ((s : _) → e ≡ expr.Var s → ⊥) → is_variable (expr_tree c e) ≡ false
other-variable c (expr.Var s) n = absurd (n s refl)
other-variable c (expr.Compare' p q s) n = compare-variable c q
other-variable c _ n = refl

-- each of the expressions of a list
pub all_whole_is : {V F C : Type 0} (c : V → C) (xs : List (Expr V F)) → are_whole (exprs_of c xs) ≡ are_all_whole (map (expr_tree c) xs)
all_whole_is c [] = refl
all_whole_is c (x ∷ xs) = ap (λ b. is_whole (expr_tree c x) && b) (all_whole_is c xs)
