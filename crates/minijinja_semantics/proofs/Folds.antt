-- An expression that folds gives its constant, without an event and without reading an answer.
use Rattle.std.proofs.Common.{◌≡◌, List, [], ◌∷◌, ◌++◌, refl, sym, ap, ◌∙◌, subst, append_assoc}
use Rattle.std.specs.Prelude.{Bool, true, false, Option, Some, None, Result, Ok, Err, if◌then◌else◌, zip}
use Rattle.minijinja_value.specs.Values.{Functions}
use Rattle.minijinja_tree.specs.Operators.{Working, Makes, Divides, IfTrue, IfFalse, working, compute}
use Rattle.minijinja_tree.specs.Comparisons.{compares}
use Rattle.minijinja_tree.specs.Tree.{UnaryOp, logical_not, negation, Expr, constant, list, tuple, map, unary, binary, compare, Exprs, no_more, more, Comparisons, compared, against, Args, no_args, pos, pos_splat, kwarg, kwarg_splat}
use Rattle.minijinja_tree.specs.Folding.{if_some, unless_fault, constant_node, constants, fold_unary, fold_binary, fold_on, fold, fold_chain, constant_keywords}
use Rattle.minijinja_semantics.specs.Events.{Event, World, Gave, Means, next, give, choose, operated}
use Rattle.minijinja_semantics.specs.Meaning.{operate_one, operate, in_pairs, Taken, with_one, nothing_yet, expr, items, each, chain, keyword}
use Rattle.minijinja_semantics.proofs.Runs.{append_nil}

-- the piece gives the value, if there is one, and nothing else happens
abbrev pub Agrees : {N C F X : Type 0} → Option X → Means N C F X → Type 0
Agrees None m = Unit {0}
Agrees {N} {C} (Some x) m = (w : World (Event N C) C) → m w ≡ Gave w x

-- the same, as a record
pub record Folds {N C F X : Type 0} (r : Option X) (m : Means N C F X) : Type 0 where
  pub agrees : Agrees r m

-- no value
abbrev nothing : (Y : Type 0) → Option Y
nothing Y = None

module _ {N C F : Type 0} where
  folds_behind : {X Y : Type 0} (s : Option Y) (m : Means N C F X) (n : X → Means N C F Y) (x : X) → ((w : World (Event N C) C) → m w ≡ Gave w x) → Agrees s (n x) → Agrees s (λ w. next (m w) n)
  unfolding next
  folds_behind None m n x e h = tt
  folds_behind (Some y) m n x e h = λ w. ap (λ d. next d n) (e w) ∙ h w

  pub folds_next : {X Y : Type 0} {r : Option X} {m : Means N C F X} {k : X → Option Y} {n : X → Means N C F Y} → Folds r m → ((x : X) → Folds (k x) (n x)) → Folds (if_some r k) (λ w. next (m w) n)
  unfolding if_some
  folds_next {r = None} h k = record { agrees = tt }
  folds_next {r = Some x} {m = m} {k = s} {n = n} h k = record { agrees = folds_behind (s x) m n x h.agrees (k x).agrees }

  pub folds_to : {X : Type 0} (x : X) → Folds {N = N} {C = C} {F = F} (Some x) (give x)
  folds_to x = record { agrees = λ w. refl }

  pub operated_folds : {X : Type 0} (r : Result X F) → Folds {N = N} {C = C} {F = F} (unless_fault r) (operated r)
  unfolding operated
  operated_folds (Ok x) = record { agrees = λ w. refl }
  operated_folds (Err e) = record { agrees = tt }

  -- nothing is said where nothing folds
  nothing_folds : {X Y : Type 0} (r : Option X) (m : Means N C F Y) → Folds (if_some r (λ x. nothing Y)) m
  unfolding if_some
  nothing_folds None m = record { agrees = tt }
  nothing_folds (Some x) m = record { agrees = tt }

-- the keyword arguments that were taken, after others
abbrev taken_behind : {C : Type 0} → List (C × C) → Taken C (C × C) → Taken C (C × C)
taken_behind cs t = record t { waiting = t.waiting ++ cs }

module _ {C F : Type 0} (N : Type 0) (f : Functions C F) where
  unary_folds : (o : UnaryOp) (v : C) → Folds {N = N} {C = C} (fold_unary f o v) (operate_one f o v)
  unary_folds logical_not v = folds_to _
  unary_folds negation v = operated_folds _

  if_true_folds : (b : Bool) (x : C) (r : Option C) (m : Means N C F C) → Folds r m → Folds (if_some r (λ y. Some (if b then y else x))) (choose b m (give x))
  unfolding if_some choose
  if_true_folds b x None m h = record { agrees = tt }
  if_true_folds true x (Some y) m h = h
  if_true_folds false x (Some y) m h = folds_to x

  if_false_folds : (b : Bool) (x : C) (r : Option C) (m : Means N C F C) → Folds r m → Folds (if_some r (λ y. Some (if b then x else y))) (choose b (give x) m)
  unfolding if_some choose
  if_false_folds b x None m h = record { agrees = tt }
  if_false_folds true x (Some y) m h = folds_to x
  if_false_folds false x (Some y) m h = h

  binary_folds : (k : Working) (x : C) (r : Option C) (m : Means N C F C) → Folds r m → Folds (if_some r (λ y. fold_binary f k x y)) (operate f k x m)
  binary_folds (Makes o) x r m h = folds_next h (λ y. operated_folds (compute f o x y))
  binary_folds Divides x r m h = nothing_folds r _
  binary_folds IfTrue x r m h = if_true_folds (f.is_true x) x r m h
  binary_folds IfFalse x r m h = if_false_folds (f.is_true x) x r m h

  on_folds : (b : Bool) (r : Option C) (m : Means N C F C) → Folds r m → Folds (fold_on f b r) (choose b m (give (f.of_bool false)))
  unfolding fold_on choose
  on_folds true r m h = h
  on_folds false r m h = folds_to _

  node_folds : (e : Expr C) → Folds {N = N} (constant_node e) (expr f e)
  node_folds (constant c) = folds_to c
  node_folds e = record { agrees = tt }

  items_fold : (es : Exprs C) → Folds {N = N} (constants es) (items f es)
  items_fold no_more = folds_to []
  items_fold (more e es) = folds_next (node_folds e) (λ c. folds_next (items_fold es) (λ cs. folds_to (c ∷ cs)))

  -- each piece gives its value, and nothing else happens
  abbrev AllGive : List (Means N C F C) → List C → Type 0
  AllGive [] [] = Unit {0}
  AllGive (m ∷ ms) (c ∷ cs) = ((w : World (Event N C) C) → m w ≡ Gave w c) × AllGive ms cs
  AllGive _ _ = ⊥

  -- the pieces give the values, if there are any
  abbrev AllAgree : Option (List C) → List (Means N C F C) → Type 0
  AllAgree None ms = Unit {0}
  AllAgree (Some cs) ms = AllGive ms cs

  all_agree : (r : Option C) (s : Option (List C)) (m : Means N C F C) (ms : List (Means N C F C)) → Agrees r m → AllAgree s ms → AllAgree (if_some r (λ c. if_some s (λ cs. Some (c ∷ cs)))) (m ∷ ms)
  unfolding if_some
  all_agree None s m ms h k = tt
  all_agree (Some c) None m ms h k = tt
  all_agree (Some c) (Some cs) m ms h k = (h, k)

  each_agrees : (es : Exprs C) → AllAgree (constants es) (each {N = N} f es)
  each_agrees no_more = tt
  each_agrees (more e es) = all_agree (constant_node e) (constants es) (expr f e) (each f es) (node_folds e).agrees (each_agrees es)

  pairs_give : (ms ns : List (Means N C F C)) (cs ds : List C) → AllGive ms cs → AllGive ns ds → (w : World (Event N C) C) → in_pairs ms ns w ≡ Gave w (zip cs ds)
  unfolding next
  pairs_give [] ns [] ds h k w = refl
  pairs_give (m ∷ ms) [] (c ∷ cs) [] h k w = refl
  pairs_give (m ∷ ms) (n ∷ ns) (c ∷ cs) (d ∷ ds) h k w =
      let rest = pairs_give ms ns cs ds h.1 k.1 w in
      ap (λ did. next did (λ x. λ w1. next (n w1) (λ y. λ w2. next (in_pairs ms ns w2) (λ ps. give ((x, y) ∷ ps))))) (h.0 w)
      ∙ ap (λ did. next did (λ y. λ w2. next (in_pairs ms ns w2) (λ ps. give ((c, y) ∷ ps)))) (k.0 w)
      ∙ ap (λ did. next did (λ ps. give ((c, d) ∷ ps))) rest
  pairs_give [] ns (c ∷ cs) ds h k w = absurd h
  pairs_give (m ∷ ms) ns [] ds h k w = absurd h
  pairs_give (m ∷ ms) [] cs (d ∷ ds) h k w = absurd k
  pairs_give (m ∷ ms) (n ∷ ns) cs [] h k w = absurd k

  pairs_fold : (r s : Option (List C)) (ms ns : List (Means N C F C)) → AllAgree r ms → AllAgree s ns → Folds (if_some r (λ keys. if_some s (λ values. Some (f.map (zip keys values))))) (λ w. next (in_pairs ms ns w) (λ ps. give (f.map ps)))
  unfolding if_some next
  pairs_fold None s ms ns h k = record { agrees = tt }
  pairs_fold (Some cs) None ms ns h k = record { agrees = tt }
  pairs_fold (Some cs) (Some ds) ms ns h k = record { agrees = λ w. ap (λ did. next did (λ ps. give (f.map ps))) (pairs_give ms ns cs ds h k w) }

  mutual
    unfolding fold

    pub expr_folds : (e : Expr C) → Folds {N = N} (fold f e) (expr f e)
    expr_folds (constant c) = folds_to c
    expr_folds (list es) = folds_next (items_fold es) (λ cs. folds_to _)
    expr_folds (tuple es) = folds_next (items_fold es) (λ cs. folds_to _)
    expr_folds (map ks vs) = pairs_fold (constants ks) (constants vs) (each f ks) (each f vs) (each_agrees ks) (each_agrees vs)
    expr_folds (unary o e) = folds_next (expr_folds e) (unary_folds o)
    expr_folds (binary o a b) = folds_next (expr_folds a) (λ x. binary_folds (working o) x (fold f b) (expr f b) (expr_folds b))
    expr_folds (compare e cs) = folds_next (expr_folds e) (λ v. chain_folds cs v)
    expr_folds e = record { agrees = tt }

    chain_folds : (cs : Comparisons C) (v : C) → Folds {N = N} (fold_chain f v cs) (chain f v cs)
    chain_folds compared v = folds_to _
    chain_folds (against o e cs) v = folds_next (expr_folds e) (λ u. folds_next (operated_folds (compares f o v u)) (λ b. on_folds b (fold_chain f u cs) (chain f u cs) (chain_folds cs u)))

  -- a tree that folds gives its constant, from any world
  pub folded_means : (e : Expr C) (c : C) → fold f e ≡ Some c → (w : World (Event N C) C) → expr f e w ≡ Gave w c
  folded_means e c same = subst (λ r. Agrees {N = N} r (expr f e)) same (expr_folds e).agrees

  keyword_behind : (r : Option C) (s : Option (List (C × C))) (k : C) (t : Taken C (C × C)) (m : Means N C F C) (n : C → Means N C F (Taken C (C × C))) → Folds r m → ((c : C) → Folds (if_some s (λ cs. Some (taken_behind cs (with_one (k, c) t)))) (n c)) → Folds (if_some (if_some r (λ c. if_some s (λ cs. Some ((k, c) ∷ cs)))) (λ cs. Some (taken_behind cs t))) (λ w. next (m w) n)
  unfolding if_some
  keyword_behind None s k t m n h g = record { agrees = tt }
  keyword_behind (Some c) None k t m n h g = record { agrees = tt }
  keyword_behind (Some c) (Some cs) k t m n h g =
      let same : taken_behind cs (with_one (k, c) t) ≡ taken_behind ((k, c) ∷ cs) t = ap (λ l. record t { waiting = l }) (append_assoc t.waiting ((k, c) ∷ []) cs) in
      record { agrees = subst (λ u. Agrees (Some u) (λ w. next (m w) n)) same (folds_behind (Some (taken_behind cs (with_one (k, c) t))) m n c h.agrees (g c).agrees) }

  keywords_fold_behind : (args : Args C) (t : Taken C (C × C)) → Folds {N = N} (if_some (constant_keywords f args) (λ cs. Some (taken_behind cs t))) (keyword f args t)
  unfolding if_some
  keywords_fold_behind no_args t =
      let same : t ≡ taken_behind [] t = ap (λ l. record t { waiting = l }) (sym (append_nil t.waiting)) in
      subst (λ u. Folds {N = N} {C = C} {F = F} (Some u) (give t)) same (folds_to t)
  keywords_fold_behind (pos e args) t = keywords_fold_behind args t
  keywords_fold_behind (pos_splat e args) t = keywords_fold_behind args t
  keywords_fold_behind (kwarg x e args) t = keyword_behind (constant_node e) (constant_keywords f args) (f.of_str x) t (expr f e) _ (node_folds e) (λ c. keywords_fold_behind args (with_one (f.of_str x, c) t))
  keywords_fold_behind (kwarg_splat e args) t = record { agrees = tt }

  -- the keyword arguments of a call, where they are all constants
  pub keywords_fold : (args : Args C) (ps : List (C × C)) → constant_keywords f args ≡ Some ps → (w : World (Event N C) C) → keyword f args nothing_yet w ≡ Gave w (record { batches = []; waiting = ps })
  unfolding if_some
  keywords_fold args ps same = (subst (λ r. Folds {N = N} (if_some r (λ cs. Some (taken_behind cs nothing_yet))) (keyword f args nothing_yet)) same (keywords_fold_behind args nothing_yet)).agrees
