-- The way through the parts of an expression, one at a time.
use Rattle.std.proofs.Common.{◌≡◌, ℕ, zero, suc, ◌+◌, ◌<◌, ◌≤◌, refl, sym, ap, ap₂, ◌∙◌, subst, arith, length, drop, get_or, add-one}
use Rattle.std.specs.Prelude.{List, [], ◌∷◌, Option, Some, None, IfSome, option_map, slice_get, map}
use Rattle.std.specs.Borrow.{Bor}
use Rattle.std.proofs.lemmas.List.{at_drop_more, at_drop_all, drop_all}
use Rattle.std.specs.Option.{option_copied}
use Rattle.minijinja_syntax.specs.Texts.{Text}
use Rattle.minijinja_syntax.specs.declared.tokens.Span.{Span}
use Rattle.minijinja_tree.specs.SpannedErasure.{expr_node, trees, any_tree, all_compared, arg_view, args_of, optional_of}
use Rattle.minijinja_tree.specs.SpannedTrees as tree
use Rattle.minijinja_tree.specs.SpannedTrees.{Expr, compare, Comparisons, Arg, exprs_of, comparisons_of}
use denote.Param.Weighed.{most, at_most}
use Rattle.minijinja_tree_expr.specs.Sizes.{size_of}
use Rattle.minijinja_tree_expr.proofs.Sizes.{rest_size}
use Rattle.minijinja_tree_expr.specs.declared.ast.CallArg.{CallArg}
use Rattle.minijinja_tree_expr.specs.declared.ast.CompareOp.{CompareOp}
use Rattle.minijinja_tree_expr.specs.declared.ast.Expr.{Expr as Node}
use Rattle.minijinja_meta.specs.Mentions.{Way, in_turn, chained, through, through_if_any, through_all, each, through_compared, through_positional, through_keyword}
use Rattle.minijinja_meta.specs.private.Parts.{any_node, arg_size, keyword_of, most_size, positional_of, rest}

-- ---- lists

pub drop-none : {A : Type 0} (i : ℕ) → drop {A = A} i [] ≡ []
drop-none zero = refl
drop-none (suc i) = refl

pub get-none : {A : Type 0} (i : ℕ) → slice_get {X = A} [] i ≡ None
get-none zero = refl
get-none (suc i) = refl

-- a chain of comparisons begins at its first operand
pub compare-begins : {C : Type 0} (e a : Expr C) (cs : Comparisons C) (s : Span) → e ≡ compare a cs s → (ys : List Text) (w : Way) → chained ys e w ≡ through a (rest e w)
compare-begins e a cs s is ys w = ap (λ n. chained ys n w) is ∙ ap (λ n. through a (rest n w)) (sym is)

positional-first : {C : Type 0} (a : Arg C) (others : List (Arg C)) (w : Way) → through_positional (tree.args_of (a ∷ others)) w ≡ through_if_any (tree.optional_of (positional_of a)) (through_positional (tree.args_of others) w)
positional-first (tree.positional e) others w = refl
positional-first (tree.starred e) others w = refl
positional-first (tree.keyword x e) others w = refl
positional-first (tree.double_starred e) others w = refl

keyword-first : {C : Type 0} (a : Arg C) (others : List (Arg C)) (w : Way) → through_keyword (tree.args_of (a ∷ others)) w ≡ through_if_any (tree.optional_of (keyword_of a)) (through_keyword (tree.args_of others) w)
keyword-first (tree.positional e) others w = refl
keyword-first (tree.starred e) others w = refl
keyword-first (tree.keyword x e) others w = refl
keyword-first (tree.double_starred e) others w = refl

module _ {V F C : Type 0} (c : V → C) where
  -- ---- expressions in a row

  pub next-expr : (xs : List (Node V F)) (i : ℕ) (x : Node V F) → i < length xs → x ≡ get_or xs i x → (w : Way) →
      through_all (exprs_of (trees c (drop i xs))) w ≡ through (expr_node c x) (through_all (exprs_of (trees c (drop (i + 1) xs))) w)
  next-expr xs i x within h w =
      at_drop_more (λ ys. through_all (exprs_of (trees c ys)) w) xs i x within ∙ ap (λ z. through (expr_node c z) (through_all (exprs_of (trees c (drop (i + 1) xs))) w)) (sym h)

  pub next-compared : (xs : List (CompareOp V F)) (i : ℕ) (x : CompareOp V F) → i < length xs → x ≡ get_or xs i x → (w : Way) →
      through_compared (comparisons_of (all_compared c (drop i xs))) w ≡ through (expr_node c x.expr) (through_compared (comparisons_of (all_compared c (drop (i + 1) xs))) w)
  next-compared xs i x within h w =
      at_drop_more (λ ys. through_compared (comparisons_of (all_compared c ys)) w) xs i x within
      ∙ ap (λ z. through (expr_node c z.expr) (through_compared (comparisons_of (all_compared c (drop (i + 1) xs))) w)) (sym h)

  -- ---- arguments

  pub next-positional : (xs : List (CallArg V F)) (i : ℕ) (x : CallArg V F) (o : Option (Bor (Node V F))) → i < length xs → x ≡ get_or xs i x → option_map (λ e. expr_node c e.now) o ≡ positional_of (arg_view c x) → (w : Way) →
      through_positional (args_of c (drop i xs)) w ≡ through_if_any (any_node c o) (through_positional (args_of c (drop (i + 1) xs)) w)
  next-positional xs i x o within h is w =
      at_drop_more (λ ys. through_positional (args_of c ys) w) xs i x within ∙ ap (λ z. through_positional (tree.args_of (arg_view c z ∷ map (arg_view c) (drop (i + 1) xs))) w) (sym h)
      ∙ positional-first (arg_view c x) (map (arg_view c) (drop (i + 1) xs)) w ∙ ap (λ p. through_if_any (tree.optional_of p) (through_positional (args_of c (drop (i + 1) xs)) w)) (sym is)

  pub next-keyword : (xs : List (CallArg V F)) (i : ℕ) (x : CallArg V F) (o : Option (Bor (Node V F))) → i < length xs → x ≡ get_or xs i x → option_map (λ e. expr_node c e.now) o ≡ keyword_of (arg_view c x) → (w : Way) →
      through_keyword (args_of c (drop i xs)) w ≡ through_if_any (any_node c o) (through_keyword (args_of c (drop (i + 1) xs)) w)
  next-keyword xs i x o within h is w =
      at_drop_more (λ ys. through_keyword (args_of c ys) w) xs i x within ∙ ap (λ z. through_keyword (tree.args_of (arg_view c z ∷ map (arg_view c) (drop (i + 1) xs))) w) (sym h)
      ∙ keyword-first (arg_view c x) (map (arg_view c) (drop (i + 1) xs)) w ∙ ap (λ p. through_if_any (tree.optional_of p) (through_keyword (args_of c (drop (i + 1) xs)) w)) (sym is)

  pub no-positional : (xs : List (CallArg V F)) (i : ℕ) → length xs ≤ i → (w : Way) → through_positional (args_of c (drop i xs)) w ≡ w
  no-positional xs i past w = at_drop_all (λ ys. through_positional (args_of c ys) w) xs i past

  pub no-keyword : (xs : List (CallArg V F)) (i : ℕ) → length xs ≤ i → (w : Way) → through_keyword (args_of c (drop i xs)) w ≡ w
  no-keyword xs i past w = at_drop_all (λ ys. through_keyword (args_of c ys) w) xs i past

  -- ---- the keys and values of a map

  abbrev pub turn : List (Node V F) → List (Node V F) → Way → Way
  turn ks vs w = in_turn (each (exprs_of (trees c ks))) (each (exprs_of (trees c vs))) w

  abbrev any : Option (Node V F) → Way → Way
  any o w = through_if_any (tree.optional_of (any_tree c o)) w

  turn-next : (ks vs : List (Node V F)) (i : ℕ) (w : Way) → turn (drop i ks) (drop i vs) w ≡ any (slice_get ks i) (any (slice_get vs i) (turn (drop (suc i) ks) (drop (suc i) vs) w))
  turn-next [] [] zero w = refl
  turn-next [] (v ∷ vs) zero w = refl
  turn-next (k ∷ ks) [] zero w = refl
  turn-next (k ∷ ks) (v ∷ vs) zero w = refl
  turn-next [] [] (suc i) w = refl
  turn-next [] (v ∷ vs) (suc i) w =
      ap (λ r. turn r (drop i vs) w) (sym (drop-none i)) ∙ turn-next [] vs i w ∙ ap (λ o. any o (any (slice_get vs i) (turn [] (drop (suc i) vs) w))) (get-none i)
  turn-next (k ∷ ks) [] (suc i) w =
      ap (λ r. turn (drop i ks) r w) (sym (drop-none i)) ∙ turn-next ks [] i w ∙ ap (λ o. any (slice_get ks i) (any o (turn (drop (suc i) ks) [] w))) (get-none i)
  turn-next (k ∷ ks) (v ∷ vs) (suc i) w = turn-next ks vs i w

  any-is : (r : Option (Bor (Node V F))) → option_map (λ e. expr_node c e.now) r ≡ any_tree c (option_map (λ e. e.now) r)
  any-is None = refl
  any-is (Some x) = refl

  pub next-pair : (ks vs : List (Node V F)) (i : ℕ) (k v : Option (Bor (Node V F))) → option_map (λ e. e.now) k ≡ slice_get ks i → option_map (λ e. e.now) v ≡ slice_get vs i → (w : Way) →
      turn (drop i ks) (drop i vs) w ≡ through_if_any (any_node c k) (through_if_any (any_node c v) (turn (drop (i + 1) ks) (drop (i + 1) vs) w))
  next-pair ks vs i k v h l w =
      turn-next ks vs i w ∙ ap (λ n. any (slice_get ks i) (any (slice_get vs i) (turn (drop n ks) (drop n vs) w))) (sym (add-one i))
      ∙ ap₂ (λ o p. through_if_any (tree.optional_of o) (through_if_any (tree.optional_of p) (turn (drop (i + 1) ks) (drop (i + 1) vs) w)))
      (sym (any-is k ∙ ap (any_tree c) h)) (sym (any-is v ∙ ap (any_tree c) l))

  pub no-pairs : (ks vs : List (Node V F)) (i : ℕ) → length ks ≤ i → length vs ≤ i → (w : Way) → turn (drop i ks) (drop i vs) w ≡ w
  no-pairs ks vs i h k w = ap₂ (λ a b. turn a b w) (drop_all i ks h) (drop_all i vs k)

-- ---- an expression that may be absent

pub copied-is : {V F C : Type 0} (c : V → C) (r : Option (Bor (Node V F))) (o : Option (Node V F)) → option_copied r ≡ o → any_node c r ≡ optional_of c o
copied-is c None None h = refl
copied-is c None (Some x) h = cc
copied-is c (Some y) None h = cc
copied-is c (Some y) (Some x) h = ap (λ z. tree.optional_of (any_tree c z)) h

-- ---- how deep parts are

module _ {V F : Type 0} where
  pub rest-below : (o : Option (Bor (Node V F))) (n : ℕ) → IfSome o (λ e. size_of e.now < n) → rest_size o ≤ n
  rest-below None n h = omega arith
  rest-below (Some x) n h = omega (arith, h)

  -- the expression of an argument is less deep than the deepest argument
  pub arg-below : (xs : List (CallArg V F)) (i : ℕ) (x : CallArg V F) (o : Option (Bor (Node V F))) → i < length xs → x ≡ get_or xs i x → IfSome o (λ e. size_of e.now < arg_size x) → rest_size o ≤ most arg_size xs
  arg-below xs i x o within is h =
      let low = rest-below o (arg_size x) h in
      let among : arg_size x ≤ most arg_size xs = subst (λ y. arg_size y ≤ most arg_size xs) (sym is) (at_most arg_size xs i x within) in
      omega (arith, low, among)

  -- one of expressions that are less deep
  pub among-smaller : (o : Option (Bor (Node V F))) (xs : List (Node V F)) (n : ℕ) → IfSome o (λ e. size_of e.now ≤ most_size xs) → most_size xs < n → IfSome o (λ e. size_of e.now < n)
  among-smaller None xs n h k = tt
  among-smaller (Some x) xs n h k = omega (arith, h, k)
