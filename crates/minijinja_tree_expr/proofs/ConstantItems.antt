-- The constants of expressions, one after another.
use Rattle.std.proofs.Common.{◌≡◌, ℕ, ◌+◌, ◌<◌, List, [], ◌∷◌, ◌++◌, length, map, drop, get_or, refl, sym, ap, ap₂, ◌∙◌, append_assoc}
use Rattle.std.specs.Prelude.{Option, Some, None, zip}
use Rattle.std.proofs.lemmas.List.{at_drop_more, map-append, append-nil}
use Rattle.minijinja_value.specs.Values.{Functions}
use Rattle.minijinja_value.specs.Outcomes.{map_pairs}
use Rattle.minijinja_tree_expr.specs.Tree.{Exprs, more, list, tuple, map as mapping}
use Rattle.minijinja_tree_expr.specs.Erasure.{expr_tree, exprs_of, compare_tree}
use Rattle.minijinja_tree_expr.specs.Folding.{if_some, constant_node, constants, fold}
use Rattle.minijinja_tree_expr.specs.declared.ast.CallArg.TheBlock as block
use Rattle.minijinja_tree_expr.specs.declared.ast.Expr.{Expr}
use Rattle.minijinja_tree_expr.specs.declared.ast.Expr.TheVariants as expr
use Rattle.minijinja_tree_expr.specs.declared.ast.Expr.TheVariants.{Const, Compare'}

compare-constant : {V F C : Type 0} (c : V → C) (q : block.the_data-4 V F) → constant_node (compare_tree c q) ≡ None
compare-constant c (block.struct-Compare e k ops) = refl

-- another node is no constant
pub other-constant : {V F C : Type 0} (c : V → C) (e : Expr V F) → ((s : _) → e ≡ expr.Const s → ⊥) → constant_node (expr_tree c e) ≡ None
other-constant c (Const s) n = absurd (n s refl)
other-constant c (Compare' p q s) n = compare-constant c q
other-constant c _ n = refl

-- what there is so far, and the rest if there is one
abbrev pub joined : {C : Type 0} → List C → Option (List C) → Option (List C)
joined before None = None
joined before (Some rest) = Some (before ++ rest)

pub joined-all : {C : Type 0} (before : List C) → joined before (Some []) ≡ Some before
joined-all before = ap Some (append-nil before)

joined-next : {C : Type 0} (before : List C) (x : C) (rest : Option (List C)) → joined before (if_some rest (λ cs. Some (x ∷ cs))) ≡ joined (before ++ x ∷ []) rest
unfolding if_some
joined-next before x None = refl
joined-next before x (Some rest) = ap Some (sym (append_assoc before (x ∷ []) rest))

module _ {C D : Type 0} (made : C → D) (before : List D) (rest : Option (List D)) where
  -- one more of those that are joined
  abbrev with_next : Option C → Option (List D)
  with_next o = joined before (if_some o (λ c. if_some rest (λ cs. Some (made c ∷ cs))))

  -- what there is next is joined
  pub joined-known : (o : Option C) (x : C) → Some x ≡ o → with_next o ≡ joined (before ++ made x ∷ []) rest
  unfolding if_some
  joined-known o x h = ap with_next (sym h) ∙ joined-next before (made x) rest

  -- and nothing is, if there is nothing next
  pub joined-unknown : (o : Option C) → None ≡ o → with_next o ≡ None
  unfolding if_some
  joined-unknown o h = ap with_next (sym h)

-- the expression at a place, and the rest
next-expr : {V F C : Type 0} (c : V → C) (xs : List (Expr V F)) (i : ℕ) (x : Expr V F) → i < length xs → x ≡ get_or xs i x →
    constants (exprs_of c (drop i xs)) ≡ constants (more (expr_tree c x) (exprs_of c (drop (i + 1) xs)))
next-expr c xs i x within h = at_drop_more (λ ys. constants (exprs_of c ys)) xs i x within ∙ ap (λ y. constants (more (expr_tree c y) (exprs_of c (drop (i + 1) xs)))) (sym h)

-- an expression that is a constant is joined
pub constants-known : {V F C : Type 0} (c : V → C) (before after : List V) (xs : List (Expr V F)) (i : ℕ) (x : Expr V F) (value : V) → i < length xs → x ≡ get_or xs i x →
    Some (c value) ≡ constant_node (expr_tree c x) → after ≡ before ++ value ∷ [] →
    joined (map c before) (constants (exprs_of c (drop i xs))) ≡ joined (map c after) (constants (exprs_of c (drop (i + 1) xs)))
constants-known c before after xs i x value within h k grown =
    ap (joined (map c before)) (next-expr c xs i x within h)
    ∙ joined-known (λ v. v) (map c before) (constants (exprs_of c (drop (i + 1) xs))) (constant_node (expr_tree c x)) (c value) k
    ∙ ap (λ vs. joined vs (constants (exprs_of c (drop (i + 1) xs)))) (sym (ap (map c) grown ∙ map-append c before (value ∷ [])))

-- and another leaves nothing
pub constants-unknown : {V F C : Type 0} (c : V → C) (before : List V) (xs : List (Expr V F)) (i : ℕ) (x : Expr V F) → i < length xs → x ≡ get_or xs i x →
    None ≡ constant_node (expr_tree c x) → joined (map c before) (constants (exprs_of c (drop i xs))) ≡ None
constants-unknown c before xs i x within h k =
    ap (joined (map c before)) (next-expr c xs i x within h)
    ∙ joined-unknown (λ v. v) (map c before) (constants (exprs_of c (drop (i + 1) xs))) (constant_node (expr_tree c x)) k

pub list-folds : {C F : Type 0} (f : Functions C F) (es : Exprs C) (o : Option (List C)) → o ≡ constants es → fold f (list es) ≡ if_some o (λ cs. Some (f.list cs))
unfolding fold
list-folds f es o h = ap (λ o. if_some o (λ cs. Some (f.list cs))) (sym h)

pub tuple-folds : {C F : Type 0} (f : Functions C F) (es : Exprs C) (o : Option (List C)) → o ≡ constants es → fold f (tuple es) ≡ if_some o (λ cs. Some (f.tuple cs))
unfolding fold
tuple-folds f es o h = ap (λ o. if_some o (λ cs. Some (f.tuple cs))) (sym h)

pub map-folds : {C F : Type 0} (f : Functions C F) (ks vs : Exprs C) (o p : Option (List C)) → o ≡ constants ks → p ≡ constants vs →
    fold f (mapping ks vs) ≡ if_some o (λ keys. if_some p (λ values. Some (f.map (zip keys values))))
unfolding fold
map-folds f ks vs o p h l = ap₂ (λ o p. if_some o (λ keys. if_some p (λ values. Some (f.map (zip keys values))))) (sym h) (sym l)

-- the pairs of what both lists hold
pub pairs-zip : {A C : Type 0} (v : A → C) (xs ys : List A) → map_pairs v (zip xs ys) ≡ zip (map v xs) (map v ys)
pairs-zip v [] ys = refl
pairs-zip v (x ∷ xs) [] = refl
pairs-zip v (x ∷ xs) (y ∷ ys) = ap (λ rest. (v x, v y) ∷ rest) (pairs-zip v xs ys)

pub map-keyless : {C F : Type 0} (f : Functions C F) (ks vs : Exprs C) → None ≡ constants ks → fold f (mapping ks vs) ≡ None
unfolding fold if_some
map-keyless f ks vs h = ap (λ o. if_some o (λ keys. if_some (constants vs) (λ values. Some (f.map (zip keys values))))) (sym h)
