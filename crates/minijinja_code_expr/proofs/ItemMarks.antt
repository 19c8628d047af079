-- The marks of expressions in order, of pairs of them, and of arguments.
use Rattle.std.proofs.Common.{◌≡◌, ℕ, suc, ◌+◌, ◌<◌, ◌≤◌, List, ◌∷◌, length, drop, get_or, ◌⊎◌, inl, inr, sym, ap, ◌∙◌}
use Rattle.std.proofs.lemmas.List.{at_drop_more, at_drop_all}
use Rattle.std.specs.Borrow.{Bor}
use Rattle.minijinja_syntax.specs.Texts.{Text}
use Rattle.minijinja_value.specs.Values.{Functions}
use Rattle.minijinja_tree.specs.SpannedErasure.{args_of, expr_node, trees}
use Rattle.minijinja_tree.specs.SpannedTrees.{exprs_of}
use Rattle.minijinja_tree_expr.specs.declared.ast.CallArg.{CallArg}
use Rattle.minijinja_tree_expr.specs.declared.ast.CallArg.TheVariants.{Pos, Kwarg, PosSplat, KwargSplat}
use Rattle.minijinja_tree_expr.specs.declared.ast.Expr.{Expr}
use Rattle.minijinja_semantics.specs.Layout.{batch_count}
use Rattle.minijinja_semantics.specs.Marks.{Margin, Marking, each, expr, here, items, keyword, paired, positional}

module _ {V K C F : Type 0} (f : Functions C F) (c : V → C) where
  abbrev pub item_marks : List (Expr V K) → Marking
  item_marks xs = items f (exprs_of (trees c xs))

  abbrev pub pair_marks : List (Expr V K) → List (Expr V K) → Marking
  pair_marks ks vs = paired (each f (exprs_of (trees c ks))) (each f (exprs_of (trees c vs)))

  pub item_marked : (xs : List (Expr V K)) (i : ℕ) (x : Expr V K) (t : Margin) → i < length xs → x ≡ get_or xs i x → item_marks (drop i xs) t ≡ item_marks (drop (i + 1) xs) (expr f (expr_node c x) t)
  item_marked xs i x t within at = at_drop_more (λ ys. item_marks ys t) xs i x within ∙ ap (λ y. item_marks (drop (i + 1) xs) (expr f (expr_node c y) t)) (sym at)

  pub items_marked : (xs : List (Expr V K)) (i : ℕ) (t : Margin) → length xs ≤ i → item_marks (drop i xs) t ≡ t
  items_marked xs i t past = at_drop_all (λ ys. item_marks ys t) xs i past

  pub pair_marked : (ks vs : List (Expr V K)) (i : ℕ) (k v : Expr V K) (t : Margin) → i < length ks → i < length vs → k ≡ get_or ks i k → v ≡ get_or vs i v →
      pair_marks (drop i ks) (drop i vs) t ≡ pair_marks (drop (i + 1) ks) (drop (i + 1) vs) (expr f (expr_node c v) (expr f (expr_node c k) t))
  pair_marked ks vs i k v t within also at there =
      at_drop_more (λ ys. pair_marks ys (drop i vs) t) ks i k within
      ∙ at_drop_more (λ ys. pair_marks (get_or ks i k ∷ drop (i + 1) ks) ys t) vs i v also
      ∙ ap (λ y. pair_marks (drop (i + 1) ks) (drop (i + 1) vs) (expr f (expr_node c (get_or vs i v)) (expr f (expr_node c y) t))) (sym at)
      ∙ ap (λ y. pair_marks (drop (i + 1) ks) (drop (i + 1) vs) (expr f (expr_node c y) (expr f (expr_node c k) t))) (sym there)

  pub pairs_marked : (ks vs : List (Expr V K)) (i : ℕ) (t : Margin) → length ks ≤ i → pair_marks (drop i ks) (drop i vs) t ≡ t
  pairs_marked ks vs i t past = at_drop_all (λ ys. pair_marks ys (drop i vs) t) ks i past

  -- the arguments from one on
  module _ (xs : List (CallArg V K)) (i n : ℕ) (x : CallArg V K) (t : Margin) (within : i < length xs) (at : x ≡ get_or xs i x) where
    abbrev rest : List (CallArg V K)
    rest = drop (i + 1) xs

    positional_next : positional f (args_of c (drop i xs)) n t ≡ positional f (args_of c (x ∷ rest)) n t
    positional_next = at_drop_more (λ ys. positional f (args_of c ys) n t) xs i x within ∙ ap (λ y. positional f (args_of c (y ∷ rest)) n t) (sym at)

    keyword_next : keyword f (args_of c (drop i xs)) n t ≡ keyword f (args_of c (x ∷ rest)) n t
    keyword_next = at_drop_more (λ ys. keyword f (args_of c ys) n t) xs i x within ∙ ap (λ y. keyword f (args_of c (y ∷ rest)) n t) (sym at)

    pub pos_marked : (e : Expr V K) → x ≡ Pos e → positional f (args_of c (drop i xs)) n t ≡ positional f (args_of c rest) (suc n) (expr f (expr_node c e) t)
    pos_marked e is = positional_next ∙ ap (λ y. positional f (args_of c (y ∷ rest)) n t) is

    pub pos_splat_marked : (e : Expr V K) → x ≡ PosSplat e → positional f (args_of c (drop i xs)) n t ≡ positional f (args_of c rest) 0 (expr f (expr_node c e) (here (batch_count n) t))
    pos_splat_marked e is = positional_next ∙ ap (λ y. positional f (args_of c (y ∷ rest)) n t) is

    pub kwarg_passed : (y : Bor Text) (e : Expr V K) → x ≡ Kwarg y e → positional f (args_of c (drop i xs)) n t ≡ positional f (args_of c rest) n t
    kwarg_passed y e is = positional_next ∙ ap (λ z. positional f (args_of c (z ∷ rest)) n t) is

    pub kwarg_splat_passed : (e : Expr V K) → x ≡ KwargSplat e → positional f (args_of c (drop i xs)) n t ≡ positional f (args_of c rest) n t
    kwarg_splat_passed e is = positional_next ∙ ap (λ y. positional f (args_of c (y ∷ rest)) n t) is

    pub kwarg_marked : (y : Bor Text) (e : Expr V K) → x ≡ Kwarg y e → keyword f (args_of c (drop i xs)) n t ≡ keyword f (args_of c rest) (suc n) (expr f (expr_node c e) (here 1 t))
    kwarg_marked y e is = keyword_next ∙ ap (λ z. keyword f (args_of c (z ∷ rest)) n t) is

    pub kwarg_splat_marked : (e : Expr V K) → x ≡ KwargSplat e → keyword f (args_of c (drop i xs)) n t ≡ keyword f (args_of c rest) 0 (expr f (expr_node c e) (here (batch_count n) t))
    kwarg_splat_marked e is = keyword_next ∙ ap (λ y. keyword f (args_of c (y ∷ rest)) n t) is

    pub pos_passed : (e : Expr V K) → x ≡ Pos e → keyword f (args_of c (drop i xs)) n t ≡ keyword f (args_of c rest) n t
    pos_passed e is = keyword_next ∙ ap (λ y. keyword f (args_of c (y ∷ rest)) n t) is

    pub pos_splat_passed : (e : Expr V K) → x ≡ PosSplat e → keyword f (args_of c (drop i xs)) n t ≡ keyword f (args_of c rest) n t
    pos_splat_passed e is = keyword_next ∙ ap (λ y. keyword f (args_of c (y ∷ rest)) n t) is

    -- one of the other kind
    pub keyword_passed : ((y : Bor Text) × (e : Expr V K) × (x ≡ Kwarg y e)) ⊎ ((e : Expr V K) × (x ≡ KwargSplat e)) → positional f (args_of c (drop i xs)) n t ≡ positional f (args_of c rest) n t
    keyword_passed (inl w) = kwarg_passed w.0 w.1 w.2
    keyword_passed (inr w) = kwarg_splat_passed w.0 w.1

    pub positional_passed : ((e : Expr V K) × (x ≡ Pos e)) ⊎ ((e : Expr V K) × (x ≡ PosSplat e)) → keyword f (args_of c (drop i xs)) n t ≡ keyword f (args_of c rest) n t
    positional_passed (inl w) = pos_passed w.0 w.1
    positional_passed (inr w) = pos_splat_passed w.0 w.1

  pub positional_marked : (xs : List (CallArg V K)) (i n : ℕ) (t : Margin) → length xs ≤ i → positional f (args_of c (drop i xs)) n t ≡ t
  positional_marked xs i n t past = at_drop_all (λ ys. positional f (args_of c ys) n t) xs i past

  pub keyword_marked : (xs : List (CallArg V K)) (i n : ℕ) (t : Margin) → length xs ≤ i → keyword f (args_of c (drop i xs)) n t ≡ t
  keyword_marked xs i n t past = at_drop_all (λ ys. keyword f (args_of c ys) n t) xs i past
