-- The constant of a tree, down along its first operands and up again.
use Rattle.std.proofs.Common.{◌≡◌, ◌<◌, ◌≤◌, List, [], ◌∷◌, ◌++◌, map, refl, sym, ap, ◌∙◌, arith}
use Rattle.std.specs.Prelude.{Option, Some, None, IfSome, option_map}
use Rattle.std.specs.Borrow.{Bor}
use Rattle.std.specs.List.{All}
use Rattle.std.proofs.lemmas.List.{map-append}
use Rattle.std.proofs.lemmas.List.Elements.{All-nil, All-push, All-pop, All-same}
use Rattle.minijinja_value.specs.Values.{Functions}
use Rattle.minijinja_tree_expr.specs.Erasure.{expr_tree}
use Rattle.minijinja_tree_expr.specs.Folding.{fold}
use Rattle.minijinja_tree_expr.specs.Tree as tree
use Rattle.minijinja_tree_expr.specs.private.FoldingSteps.{operand_of, fold_node, fold_nodes}
use Rattle.minijinja_tree_expr.specs.Sizes.{size_of}
use Rattle.minijinja_tree_expr.specs.declared.ast.Expr.{Expr}
use Rattle.minijinja_tree_expr.proofs.Sizes.{IsWithin, rest-within, next-within}

-- the constant of what there is
abbrev fold_if_some : {C F : Type 0} → Functions C F → Option (tree.Expr C) → Option C
fold_if_some f None = None
fold_if_some f (Some e) = fold f e

fold-node : {C F : Type 0} (f : Functions C F) (e : tree.Expr C) → fold f e ≡ fold_node f e (fold_if_some f (operand_of e))
unfolding fold
fold-node f (tree.variable x) = refl
fold-node f (tree.constant c) = refl
fold-node f (tree.slice e a b c) = refl
fold-node f (tree.unary o e) = refl
fold-node f (tree.binary o a b) = refl
fold-node f (tree.compare e cs) = refl
fold-node f (tree.if_expr t a b) = refl
fold-node f (tree.filter e x args) = refl
fold-node f (tree.test e x args) = refl
fold-node f (tree.attribute e x) = refl
fold-node f (tree.item e k) = refl
fold-node f (tree.call e args) = refl
fold-node f (tree.list es) = refl
fold-node f (tree.tuple es) = refl
fold-node f (tree.map ks vs) = refl

fold_nodes-push : {C F : Type 0} (f : Functions C F) (es : List (tree.Expr C)) (e : tree.Expr C) (v : Option C) → fold_nodes f (es ++ e ∷ []) v ≡ fold_nodes f es (fold_node f e v)
fold_nodes-push f [] e v = refl
fold_nodes-push f (x ∷ es) e v = ap (fold_node f x) (fold_nodes-push f es e v)

abbrev pub tree_of : {V K C : Type 0} → (V → C) → Bor (Expr V K) → tree.Expr C
tree_of c x = expr_tree c x.now

-- the nodes so far, on the constant of the rest, give that of the whole
pub record GoesDown {V K C F : Type 0} (f : Functions C F) (c : V → C) (whole : Expr V K) (xs : List (Bor (Expr V K))) (rest : Option (Bor (Expr V K))) : Type 0 where
  pub gives : fold_nodes f (map (tree_of c) xs) (fold_if_some f (option_map (tree_of c) rest)) ≡ fold f (expr_tree c whole)
  pub within : All (IsWithin whole) xs
  pub lower : IfSome rest (IsWithin whole)

-- the nodes that are left, on a constant, give that of the whole
pub record GoesUp {V K C F : Type 0} (f : Functions C F) (c : V → C) (whole : Expr V K) (xs : List (Bor (Expr V K))) (v : Option C) : Type 0 where
  pub gives : fold_nodes f (map (tree_of c) xs) v ≡ fold f (expr_tree c whole)
  pub within : All (IsWithin whole) xs

module _ {V K C F : Type 0} (f : Functions C F) (c : V → C) (whole : Expr V K) where
  one-more : (xs ys : List (Bor (Expr V K))) (x : Bor (Expr V K)) (v : Option C) → ys ≡ xs ++ x ∷ [] →
      fold_nodes f (map (tree_of c) ys) v ≡ fold_nodes f (map (tree_of c) xs) (fold_node f (tree_of c x) v)
  one-more xs ys x v grown =
      ap (λ zs. fold_nodes f (map (tree_of c) zs) v) grown
      ∙ ap (λ zs. fold_nodes f zs v) (map-append (tree_of c) xs (x ∷ []))
      ∙ fold_nodes-push f (map (tree_of c) xs) (tree_of c x) v

  pub begins : (xs : List (Bor (Expr V K))) (x : Bor (Expr V K)) → xs ≡ [] → x.now ≡ whole → GoesDown f c whole xs (Some x)
  begins xs x none same = record {
    gives = ap (λ zs. fold_nodes f (map (tree_of c) zs) (fold f (tree_of c x))) none ∙ ap (λ e. fold f (expr_tree c e)) same;
    within = All-same (IsWithin whole) xs [] none (All-nil (IsWithin whole));
    lower = let k = ap size_of same in omega arith;
  }

  pub goes-down : (xs ys : List (Bor (Expr V K))) (rest next : Option (Bor (Expr V K))) (x : Bor (Expr V K)) → ys ≡ xs ++ x ∷ [] → rest ≡ Some x →
      option_map (tree_of c) next ≡ operand_of (tree_of c x) → IfSome next (λ e. size_of e.now < size_of x.now) → GoesDown f c whole xs rest → GoesDown f c whole ys next
  goes-down xs ys rest next x grown here operand smaller h = record {
    gives =
        one-more xs ys x (fold_if_some f (option_map (tree_of c) next)) grown
        ∙ ap (λ o. fold_nodes f (map (tree_of c) xs) (fold_node f (tree_of c x) (fold_if_some f o))) operand
        ∙ ap (fold_nodes f (map (tree_of c) xs)) (sym (fold-node f (tree_of c x)))
        ∙ ap (λ o. fold_nodes f (map (tree_of c) xs) (fold_if_some f (option_map (tree_of c) o))) (sym here)
        ∙ h.gives;
    within = All-same (IsWithin whole) ys (xs ++ x ∷ []) grown (All-push (IsWithin whole) xs x h.within (rest-within whole rest next x here h.lower));
    lower = next-within whole rest next x here smaller h.lower;
  }

  -- at the end, where nothing is left
  pub turns : (xs : List (Bor (Expr V K))) (rest : Option (Bor (Expr V K))) → rest ≡ None → GoesDown f c whole xs rest → GoesUp f c whole xs None
  turns xs rest here h = record {
    gives = ap (λ o. fold_nodes f (map (tree_of c) xs) (fold_if_some f (option_map (tree_of c) o))) (sym here) ∙ h.gives;
    within = h.within;
  }

  pub goes-up : (xs ys : List (Bor (Expr V K))) (x : Bor (Expr V K)) (v u : Option C) → xs ≡ ys ++ x ∷ [] →
      u ≡ fold_node f (tree_of c x) v → GoesUp f c whole xs v → GoesUp f c whole ys u
  goes-up xs ys x v u taken known h = record {
    gives = ap (fold_nodes f (map (tree_of c) ys)) known ∙ sym (one-more ys xs x v taken) ∙ h.gives;
    within = (All-pop (IsWithin whole) xs ys (Some x) taken h.within).0;
  }

  -- the node that comes next is no deeper than the whole
  pub next-node : (xs ys : List (Bor (Expr V K))) (x : Bor (Expr V K)) (v : Option C) → xs ≡ ys ++ x ∷ [] → GoesUp f c whole xs v → size_of x.now ≤ size_of whole
  next-node xs ys x v taken h = (All-pop (IsWithin whole) xs ys (Some x) taken h.within).1
