-- The way through targets and the arguments of a macro, one at a time.
use Rattle.std.proofs.Common.{◌≡◌, ℕ, zero, suc, ◌+◌, ◌<◌, ◌≤◌, ◌++◌, refl, sym, ap, ap₂, ◌∙◌, arith, length, drop, take, get_or, add-one, length-append}
use Rattle.std.specs.Prelude.{List, [], ◌∷◌, Option, Some, None, Result, Ok, Err, OnOk, option_map, slice_get, reverse, map}
use Rattle.std.specs.Borrow.{Bor}
use Rattle.std.proofs.lemmas.List.{append-nil, map-append, reverse-append, at_drop_more, at_drop_all, drop_all}
use Rattle.std.proofs.lemmas.Option.{slice_get-map}
use Rattle.minijinja_syntax.specs.declared.tokens.Span.{Span}
use Rattle.minijinja_tree.specs.SpannedErasure.{expr_node, trees, bindings_of, names_of, optional_of}
use Rattle.minijinja_tree.specs.SpannedTrees as tree
use Rattle.minijinja_tree.specs.SpannedTrees.{Expr, exprs_of}
use Rattle.minijinja_tree_expr.specs.SpannedErasure.{compare_node}
use Rattle.minijinja_tree_expr.specs.declared.ast.CallArg.TheBlock as block
use Rattle.minijinja_tree_expr.specs.declared.ast.Expr.{Expr as Node}
use Rattle.minijinja_tree_expr.specs.declared.ast.Expr.TheVariants as expr
use Rattle.minijinja_tree_expr.proofs.Lists.{listed}
use Rattle.minijinja_meta.specs.Mentions.{Way, through, through_if_any, to_target, to_targets, to_assignments, to_name, to_names, to_defaulted}
use Rattle.minijinja_meta.specs.declared.walker.Walker.{Walker}
use Rattle.minijinja_meta.specs.private.Scoped.{IsLogged}
use Rattle.minijinja_meta.specs.private.Walked.{Walking, Walks, log, noted}
use Rattle.minijinja_meta.proofs.Alike.{alike-on, alike-same}
use Rattle.minijinja_meta.proofs.ExprWays.{drop-none, get-none}

compare-way : {V F C : Type 0} (c : V → C) (q : block.the_data-4 V F) (s : Span) → through (compare_node c q s) ≡ to_target (compare_node c q s)
compare-way c (block.struct-Compare e k ops) s = refl

-- nothing is stored in what is no variable, no attribute and no list
pub other-way : {V F C : Type 0} (c : V → C) (e : Node V F) → ((s : _) → e ≡ expr.Var s → ⊥) → ((s : _) → e ≡ expr.GetAttr s → ⊥) → ((s : _) → e ≡ expr.List s → ⊥) → through (expr_node c e) ≡ to_target (expr_node c e)
other-way c (expr.Var s) n a l = absurd (n s refl)
other-way c (expr.GetAttr' p e x s) n a l = absurd (a (record { place = record { value = record { node = record { expr = e; name = x }; span = s }; ptr = p.ptr; alloc = p.alloc } }) refl)
other-way c (expr.List' p k items s) n a l = let w = listed p k items s in absurd (l w.0 w.1)
other-way c (expr.Compare' p q s) n a l = compare-way c q s
other-way c _ n a l = refl

some-is : {A : Type 0} (x y : A) → Some x ≡ Some y → x ≡ y
some-is x y h = cc

module _ {V F C : Type 0} (c : V → C) where
  pub next-target : (xs : List (Node V F)) (i : ℕ) (x : Node V F) → i < length xs → x ≡ get_or xs i x → (w : Way) →
      to_targets (exprs_of (trees c (drop i xs))) w ≡ to_target (expr_node c x) (to_targets (exprs_of (trees c (drop (i + 1) xs))) w)
  next-target xs i x within h w =
      at_drop_more (λ ys. to_targets (exprs_of (trees c ys)) w) xs i x within ∙ ap (λ z. to_target (expr_node c z) (to_targets (exprs_of (trees c (drop (i + 1) xs))) w)) (sym h)

  pub no-targets : (xs : List (Node V F)) (i : ℕ) → length xs ≤ i → (w : Way) → to_targets (exprs_of (trees c (drop i xs))) w ≡ w
  no-targets xs i past w = at_drop_all (λ ys. to_targets (exprs_of (trees c ys)) w) xs i past

  pub next-assignment : (xs : List (Node V F × Node V F)) (i : ℕ) (x : Node V F × Node V F) → i < length xs → x ≡ get_or xs i x → (w : Way) →
      to_assignments (bindings_of c (drop i xs)) w ≡ through (expr_node c x.1) (to_target (expr_node c x.0) (to_assignments (bindings_of c (drop (i + 1) xs)) w))
  next-assignment xs i x within h w =
      at_drop_more (λ ys. to_assignments (bindings_of c ys) w) xs i x within
      ∙ ap (λ z. through (expr_node c z.1) (to_target (expr_node c z.0) (to_assignments (bindings_of c (drop (i + 1) xs)) w))) (sym h)

  -- names that are imported, the last one first
  taken-last : (xs : List (Node V F × Option (Node V F))) (i : ℕ) (x : Node V F × Option (Node V F)) → i < length xs → x ≡ get_or xs i x → (w : Way) →
      to_names (names_of c (take (suc i) xs)) w ≡ to_name (expr_node c x.0, optional_of c x.1) (to_names (names_of c (take i xs)) w)
  taken-last [] i x within h w = absurd (omega arith)
  taken-last (y ∷ xs) zero x within h w = ap (λ z. to_name (expr_node c z.0, optional_of c z.1) w) (sym h)
  taken-last (y ∷ xs) (suc i) x within h w = taken-last xs i x (omega arith) h (to_name (expr_node c y.0, optional_of c y.1) w)

  pub taken-before : (xs : List (Node V F × Option (Node V F))) (i n : ℕ) (x : Node V F × Option (Node V F)) → n ≡ suc i → i < length xs → x ≡ get_or xs i x → (w : Way) →
      to_names (names_of c (take n xs)) w ≡ to_name (expr_node c x.0, optional_of c x.1) (to_names (names_of c (take i xs)) w)
  taken-before xs i n x e within h w = ap (λ m. to_names (names_of c (take m xs)) w) e ∙ taken-last xs i x within h w

-- ---- the arguments of a macro

module _ {C : Type 0} where
  parameter-at : (es ds : List (Expr C)) (i : ℕ) (e : Expr C) (d : Option (Expr C)) → Some e ≡ slice_get es i → d ≡ slice_get ds i → (w : Way) →
      to_defaulted (drop i es) (drop i ds) w ≡ through_if_any (tree.optional_of d) (to_target e (to_defaulted (drop (suc i) es) (drop (suc i) ds) w))
  parameter-at [] ds zero e d h k w = cc
  parameter-at [] ds (suc i) e d h k w = cc
  parameter-at (x ∷ es) [] zero e d h k w = ap₂ (λ t o. through_if_any (tree.optional_of o) (to_target t (to_defaulted es [] w))) (sym (some-is e x h)) (sym k)
  parameter-at (x ∷ es) (y ∷ ds) zero e d h k w = ap₂ (λ t o. through_if_any (tree.optional_of o) (to_target t (to_defaulted es ds w))) (sym (some-is e x h)) (sym k)
  parameter-at (x ∷ es) [] (suc i) e d h k w = ap (λ r. to_defaulted (drop i es) r w) (sym (drop-none i)) ∙ parameter-at es [] i e d h (k ∙ sym (get-none i)) w
  parameter-at (x ∷ es) (y ∷ ds) (suc i) e d h k w = parameter-at es ds i e d h k w

  none-at : (es ds : List (Expr C)) (i : ℕ) → None ≡ slice_get es i → (w : Way) → to_defaulted (drop i es) ds w ≡ w
  none-at [] ds zero h w = refl
  none-at [] ds (suc i) h w = refl
  none-at (x ∷ es) ds zero h w = cc
  none-at (x ∷ es) ds (suc i) h w = none-at es ds i h w

  none-behind : (es ds : List (Expr C)) (i : ℕ) → None ≡ slice_get es i → (w : Way) → to_defaulted (drop (suc i) es) ds w ≡ w
  none-behind [] ds i h w = refl
  none-behind (x ∷ es) ds zero h w = cc
  none-behind (x ∷ es) ds (suc i) h w = none-behind es ds i h w

-- ---- lists that are read from their end

reverse-map : {A B : Type 0} (f : A → B) (xs : List A) → map f (reverse xs) ≡ reverse (map f xs)
reverse-map f [] = refl
reverse-map f (x ∷ xs) =
    ap (map f) (reverse-append (x ∷ []) xs) ∙ map-append f (reverse xs) (x ∷ []) ∙ ap (λ l. l ++ f x ∷ []) (reverse-map f xs) ∙ sym (reverse-append (f x ∷ []) (map f xs))

over : {C : Type 0} (es ds : List (Expr C)) (i : ℕ) → length es ≤ i → (w : Way) → to_defaulted (drop i es) ds w ≡ w
over es ds i h w = ap (λ l. to_defaulted l ds w) (drop_all i es h)

length-back : {A : Type 0} (xs : List A) → length (reverse xs) ≡ length xs
length-back [] = refl
length-back (x ∷ xs) = let h = length-back xs in let e = ap length (reverse-append (x ∷ []) xs) in omega (arith, h, e, length-append (reverse xs) (x ∷ []))

module _ {V F C : Type 0} (c : V → C) where
  now-tree : (r : Option (Bor (Node V F))) → option_map (λ e. expr_node c e.now) r ≡ option_map (expr_node c) (option_map (λ e. e.now) r)
  now-tree None = refl
  now-tree (Some x) = refl

  pub tree-at : (xs : List (Node V F)) (i : ℕ) (r : Option (Bor (Node V F))) → option_map (λ e. e.now) r ≡ slice_get (reverse xs) i → option_map (λ e. expr_node c e.now) r ≡ slice_get (reverse (trees c xs)) i
  tree-at xs i r h = now-tree r ∙ ap (option_map (expr_node c)) h ∙ sym (slice_get-map (expr_node c) (reverse xs) i) ∙ ap (λ l. slice_get l i) (reverse-map (expr_node c) xs)

  -- an argument with its default
  pub one-parameter : {R E : Type 0} (r : Result R E) (s t : Walker V F) (es ds : List (Expr C)) (i : ℕ) (e : Expr C) (d : Option (Expr C)) → Some e ≡ slice_get es i → d ≡ slice_get ds i →
      OnOk r (Walks c s t (λ w. through_if_any (tree.optional_of d) (to_target e w))) → OnOk r (Walking c s t (to_defaulted (drop i es) (drop i ds)) (to_defaulted (drop (i + 1) es) (drop (i + 1) ds)))
  one-parameter (Err x) s t es ds i e d h k walked = tt
  one-parameter (Ok x) s t es ds i e d h k walked = record {
    logged = walked.logged;
    wanted = walked.wanted;
    notes = λ w. alike-on (alike-same (ap (noted c s) (parameter-at es ds i e d h k w)))
        (alike-on (walked.notes (to_defaulted (drop (suc i) es) (drop (suc i) ds) w))
        (alike-same (ap (λ n. noted c t (to_defaulted (drop n es) (drop n ds) w)) (sym (add-one i)))));
    chains = walked.chains;
    log = walked.log;
    waiting = walked.waiting;
  }

  pub no-parameter : (s : Walker V F) (es ds : List (Expr C)) (i : ℕ) → IsLogged s.scopes → None ≡ slice_get es i → Walking c s s (to_defaulted (drop i es) (drop i ds)) (to_defaulted (drop (i + 1) es) (drop (i + 1) ds))
  no-parameter s es ds i l h = record {
    logged = l;
    wanted = refl;
    notes = λ w. alike-same (ap (noted c s) (none-at es (drop i ds) i h w ∙ sym (none-behind es (drop (i + 1) ds) i h w) ∙ ap (λ n. to_defaulted (drop n es) (drop (i + 1) ds) w) (sym (add-one i))));
    chains = λ are. are;
    log = ([], sym (append-nil (log s)));
    waiting = refl;
  }

  length-trees : (xs : List (Node V F)) → length (trees c xs) ≡ length xs
  length-trees [] = refl
  length-trees (x ∷ xs) = let h = length-trees xs in omega arith

  -- after the last argument there is nothing
  pub no-parameters : (args : List (Node V F)) (ds : List (Expr C)) (i : ℕ) → length args ≤ i → (w : Way) → to_defaulted (drop i (reverse (trees c args))) ds w ≡ w
  no-parameters args ds i h w =
      let n : length (reverse (trees c args)) ≤ i = omega (arith, length-back (trees c args), length-trees args) in
      over (reverse (trees c args)) ds i n w
