-- The code of an expression, at its index in a list, does what the expression means.
use Rattle.std.proofs.Common.{◌≡◌, ℕ, suc, List, [], ◌∷◌, length, Some, refl, sym, ap, ◌∙◌, arith}
use Rattle.std.specs.Prelude.{not}
use Rattle.minijinja_syntax.specs.Texts.{Text}
use Rattle.minijinja_value.specs.Values.{Functions}
use Rattle.minijinja_semantics.specs.Laws.{Laws}
use Rattle.minijinja_tree.specs.CompareOps.{CompareOp}
use Rattle.minijinja_tree.specs.Operators.{Working, Makes, Divides, IfTrue, IfFalse, working, compute}
use Rattle.minijinja_tree.specs.Comparisons.{compares}
use Rattle.minijinja_tree.specs.Tree.{UnaryOp, logical_not, negation, Expr, variable, constant, slice, unary, binary, compare, if_expr, filter, test, attribute, item, call, list, tuple, map, Optional, absent, present, Exprs, no_more, more, Comparisons, compared, against, Args, no_args, pos, pos_splat, kwarg, kwarg_splat}
use Rattle.minijinja_tree.specs.WellFormed.{expr_count, IsWhole, IsWholeIfAny, AreWhole, IsChain, AreCompared, AreArguments, IsChainOfFilters}
use Rattle.minijinja_semantics.specs.Events.{Kind, Lookup, GetAttr, GetItem, Slice, Div, ApplyFilter, PerformTest, CallFunction, CallMethod, CallObject, BeginCapture, EndCapture, CallBlock, Capture, next, give, operated, get}
use Rattle.minijinja_semantics.specs.FilterChains.{fed}
use Rattle.minijinja_tree.specs.Callees.{Callee, function, method, block, object, callee}
use Rattle.minijinja_tree.specs.Folding.{fold}
use Rattle.minijinja_semantics.specs.Meaning.{operate_one, operate, Taken, nothing_yet, with_one, with_batch, call_of as call_meaning, expr as expr_meaning, base as base_meaning, optional as optional_meaning, items as items_meaning, each as each_meaning, chain as chain_meaning, positional as positional_meaning, keyword as keyword_meaning, arguments as arguments_meaning}
use Rattle.minijinja_semantics.specs.Code.{Instr, Load, Do, Call, BuildMap, BuildKwargs, BuildList, BuildTuple}
use Rattle.minijinja_semantics.specs.Pieces.{Piece, one, ◌▸◌}
use Rattle.minijinja_semantics.specs.Layout.{list_batch, map_batch, unary_instr, operation, Count, count_positional, count_keyword, count_all, count_one, count_batch, counted, arguments, argument_count, apply_filter, perform_test, call_of, expr, base, optional, items, each, chain, comparisons, positional, keyword}
use Rattle.minijinja_semantics.specs.Machine.{pushed, asked, built, size, OneValue}
use Rattle.minijinja_semantics.proofs.Placed.{Act, bare, Stretch}
use Rattle.minijinja_semantics.proofs.Runs.{Any, first, gets_one}
use Rattle.minijinja_semantics.proofs.Lengths.{Exact, nothing_exact, one_exact, then_exact, branches_exact, batch_exact, filter_exact, test_exact, operation_exact, comparison_exact, paired_exact, arguments_exact, expr_exact, base_exact, optional_exact, items_exact, each_exact, chain_exact, comparisons_exact, positional_exact, keyword_exact}
use Rattle.minijinja_semantics.proofs.Folds.{expr_folds}
use Rattle.minijinja_semantics.proofs.Parts.{Simulates, sim_then, sim_before, sim_from, sim_give, sim_nothing, sim_plain, sim_load, sim_operator, sim_get, sim_do_get, sim_do_tell, sim_folded, sim_branches, sim_if_true, sim_if_false}
use Rattle.minijinja_semantics.proofs.Arguments.{Matches, matches_one, matches_batch, pushed_pairs, laid, laid_pairs, laid_one, laid_pair, laid_batch, laid_map, counted_pops, pops_pairs, list_batch_sim, map_batch_sim, IsReady, ready, ready_pops, none_counted, arguments_sim}
use Rattle.minijinja_semantics.proofs.Chains.{comparison_sim, SimulatesFailing, last_sim, and_then_sim, chained_sim, on_holding, AllSimulate, paired_sim}

module _ {C F : Type 0} (f : Functions C F) (laws : Laws f) (code : List (Instr C)) (to : Stretch) where
  -- over any operands a piece gives a value
  abbrev GivesValue : Piece C → Act C F C → Type 0
  GivesValue p m = (ops : List C) → Simulates f code to p ops Any (λ v. v ∷ ops) m

  -- an operator of one side
  unary_sim : (o : UnaryOp) (v : C) (ops : List C) → Simulates f code to (one (unary_instr o)) (v ∷ ops) Any (λ u. u ∷ ops) (operate_one f o v)
  unary_sim logical_not v ops = sim_plain (f.of_bool (not (f.is_true v))) (λ p ls w. refl) tt
  unary_sim negation v ops = sim_operator (f.neg v) (λ p ls w. refl)

  -- an operator of two sides
  operation_sim : (k : Working) (x : C) (ops : List C) {p : Piece C} {m : Act C F C} → Exact p → GivesValue p m → Simulates f code to (operation k p) (x ∷ ops) Any (λ u. u ∷ ops) (operate f k x m)
  operation_sim (Makes o) x ops e s = sim_then e (one_exact _) (s (x ∷ ops)) (λ y _. sim_operator (compute f o x y) (λ p ls w. refl))
  operation_sim Divides x ops e s = sim_then e (one_exact _) (s (x ∷ ops)) (λ y _. sim_do_get Div [] (x ∷ y ∷ []) ops refl)
  operation_sim IfTrue x ops e s = sim_if_true x e (s ops)
  operation_sim IfFalse x ops e s = sim_if_false x e (s ops)

  -- a call, a filter and a test find the arguments that are ready
  pub call_sim : (k : Kind) (x : Text) (b n : ℕ) (vs ops : List C) → IsReady b n vs → size k ≡ OneValue → Simulates f code to (one (Call k x (counted b n))) (ready f b vs ops) Any (λ v. v ∷ ops) (get k x vs)
  call_sim k x b n vs ops is one = sim_get k x vs (λ p ls w. ap (λ a. asked f bare k x p a ls w) (ready_pops f laws b n vs ops is)) one

  filter_sim : (x : Text) (b n : ℕ) (vs ops : List C) → IsReady b n vs → Simulates f code to (apply_filter x (counted b n)) (ready f b vs ops) Any (λ v. v ∷ ops) (get ApplyFilter x vs)
  filter_sim x b n vs ops is = record { gives = λ h ls w few le stand. gets_one f code to ApplyFilter x vs (ready f b vs ops) ops ls w (omega arith) (first code stand) (ap (λ a. asked f bare ApplyFilter x h.place a ls w) (ready_pops f laws b n vs ops is)) refl few }

  test_sim : (x : Text) (b n : ℕ) (vs ops : List C) → IsReady b n vs → Simulates f code to (perform_test x (counted b n)) (ready f b vs ops) Any (λ v. v ∷ ops) (get PerformTest x vs)
  test_sim x b n vs ops is = record { gives = λ h ls w few le stand. gets_one f code to PerformTest x vs (ready f b vs ops) ops ls w (omega arith) (first code stand) (ap (λ a. asked f bare PerformTest x h.place a ls w) (ready_pops f laws b n vs ops is)) refl few }

  -- the code of positional arguments takes them, after what was taken
  abbrev pub Positional : Args C → Type 0
  Positional args = (t : Taken C C) (c : Count) (ops : List C) → Matches c t → Simulates f code to (positional f args c.waiting) (laid t ops) (Matches (count_positional args c)) (λ u. laid u ops) (positional_meaning f args t)

  -- the keyword arguments
  abbrev pub Keyword : Args C → Type 0
  Keyword args = (t : Taken C (C × C)) (c : Count) (ops : List C) → Matches c t → Simulates f code to (keyword f args c.waiting) (laid_pairs t ops) (Matches (count_keyword args c)) (λ u. laid_pairs u ops) (keyword_meaning f args t)

  -- the arguments of a call, after the given number of operands
  abbrev given : Args C → ℕ → Piece C
  given args n = arguments f args n (positional f args n) (keyword f args 0)

  given_exact : (args : Args C) (n : ℕ) → Exact (given args n)
  given_exact args n = arguments_exact f args n (positional_exact f args n) (keyword_exact f args 0)

  -- these, and what takes them
  call_then : (args : Args C) (before : List C) (n : ℕ) (ops : List C) {q : Piece C} {m : List C → Act C F C} → length before ≡ n → Exact q → Positional args → Keyword args → ((vs : List C) → IsReady (count_all args n).batches (count_all args n).waiting vs → Simulates f code to q (ready f (count_all args n).batches vs ops) Any (λ v. v ∷ ops) (m vs)) → Simulates f code to (given args n ▸ q) (laid (record { batches = []; waiting = before }) ops) Any (λ v. v ∷ ops) (λ w. next (arguments_meaning f (positional_meaning f args (record { batches = []; waiting = before })) (keyword_meaning f args nothing_yet) w) m)
  call_then args before n ops is e s s' k =
      sim_then (given_exact args n) e
      (arguments_sim args before n ops (positional f args n) (keyword f args 0) (positional_exact f args n) (keyword_exact f args 0)
      (s (record { batches = []; waiting = before }) (record { batches = 0; waiting = n }) ops (record { batches = refl; waiting = is }))
      (λ ops. s' nothing_yet none_counted ops (record { batches = refl; waiting = refl })))
      k

  -- one more positional argument, and a batch
  take_one : {p q : Piece C} {m : Act C F C} {n : Taken C C → Act C F (Taken C C)} {P : Taken C C → Type 0} {put : Taken C C → List C} (t : Taken C C) (c : Count) (ops : List C) → Matches c t → Exact p → Exact q → GivesValue p m → ((u : Taken C C) → Matches (count_one c) u → Simulates f code to q (laid u ops) P put (n u)) → Simulates f code to (p ▸ q) (laid t ops) P put (λ w. next (m w) (λ v. n (with_one v t)))
  take_one t c ops is e e' s k = sim_then e e' (s (laid t ops)) (λ v _. sim_from (laid_one v t ops) (k (with_one v t) (matches_one v is)))

  take_batch : {p q : Piece C} {m : Act C F C} {n : Taken C C → Act C F (Taken C C)} {P : Taken C C → Type 0} {put : Taken C C → List C} (t : Taken C C) (c : Count) (ops : List C) → Matches c t → Exact p → Exact q → GivesValue p m → ((u : Taken C C) → Matches (count_batch c) u → Simulates f code to q (laid u ops) P put (n u)) → Simulates f code to (list_batch c.waiting ▸ p ▸ q) (laid t ops) P put (λ w. next (m w) (λ v. n (with_batch f.list v t)))
  take_batch t c ops is e e' s k =
      sim_before (batch_exact (λ n. BuildList (Some n)) c.waiting) (then_exact e e') (list_batch_sim t.waiting c.waiting (pushed t.batches ops) is.waiting)
      (sim_then e e' (s _) (λ v _. sim_from (laid_batch f.list v t ops) (k (with_batch f.list v t) (matches_batch f.list v is))))

  -- one more keyword argument, and a batch
  take_pair : {p q : Piece C} {m : Act C F C} {n : Taken C (C × C) → Act C F (Taken C (C × C))} {P : Taken C (C × C) → Type 0} {put : Taken C (C × C) → List C} (x : C) (t : Taken C (C × C)) (c : Count) (ops : List C) → Matches c t → Exact p → Exact q → GivesValue p m → ((u : Taken C (C × C)) → Matches (count_one c) u → Simulates f code to q (laid_pairs u ops) P put (n u)) → Simulates f code to (one (Load x) ▸ p ▸ q) (laid_pairs t ops) P put (λ w. next (m w) (λ v. n (with_one (x, v) t)))
  take_pair x t c ops is e e' s k =
      sim_before (one_exact _) (then_exact e e') (sim_plain tt (λ p ls w. refl) tt)
      (sim_then e e' (s (x ∷ laid_pairs t ops)) (λ v _. sim_from (laid_pair x v t ops) (k (with_one (x, v) t) (matches_one (x, v) is))))

  take_map : {p q : Piece C} {m : Act C F C} {n : Taken C (C × C) → Act C F (Taken C (C × C))} {P : Taken C (C × C) → Type 0} {put : Taken C (C × C) → List C} (t : Taken C (C × C)) (c : Count) (ops : List C) → Matches c t → Exact p → Exact q → GivesValue p m → ((u : Taken C (C × C)) → Matches (count_batch c) u → Simulates f code to q (laid_pairs u ops) P put (n u)) → Simulates f code to (map_batch c.waiting ▸ p ▸ q) (laid_pairs t ops) P put (λ w. next (m w) (λ v. n (with_batch f.kwargs v t)))
  take_map t c ops is e e' s k =
      sim_before (batch_exact BuildKwargs c.waiting) (then_exact e e') (map_batch_sim t.waiting c.waiting (pushed t.batches ops) is.waiting)
      (sim_then e e' (s _) (λ v _. sim_from (laid_map f.kwargs v t ops) (k (with_batch f.kwargs v t) (matches_batch f.kwargs v is))))

  -- the same after an operand
  on_operand : (args : Args C) (before ops : List C) {p q : Piece C} {m : Act C F C} {n : List C → Act C F C} → Exact p → Exact q → Simulates f code to p before Any (λ v. v ∷ ops) m → Positional args → Keyword args → ((vs : List C) → IsReady (count_all args 1).batches (count_all args 1).waiting vs → Simulates f code to q (ready f (count_all args 1).batches vs ops) Any (λ v. v ∷ ops) (n vs)) → Simulates f code to (p ▸ given args 1 ▸ q) before Any (λ v. v ∷ ops) (λ w. next (m w) (λ v w. next (arguments_meaning f (positional_meaning f args (with_one v nothing_yet)) (keyword_meaning f args nothing_yet) w) n))
  on_operand args before ops e e' s s' s'' k =
      sim_then e (then_exact (given_exact args 1) e') s λ v _.
      call_then args (v ∷ []) 1 ops refl e' s' s'' k

  -- a list, a tuple and a map of what is there
  list_sim : (vs : List C) (n : ℕ) (ops : List C) → length vs ≡ n → Simulates f code to (one (BuildList (Some n))) (pushed vs ops) Any (λ v. v ∷ ops) (give (f.list vs))
  unfolding built
  list_sim vs n ops e = sim_plain (f.list vs) (λ p ls w. ap (λ a. built f.list p a ls w) (counted_pops f n vs ops e)) tt

  tuple_sim : (vs : List C) (n : ℕ) (ops : List C) → length vs ≡ n → Simulates f code to (one (BuildTuple (Some n))) (pushed vs ops) Any (λ v. v ∷ ops) (give (f.tuple vs))
  unfolding built
  tuple_sim vs n ops e = sim_plain (f.tuple vs) (λ p ls w. ap (λ a. built f.tuple p a ls w) (counted_pops f n vs ops e)) tt

  map_sim : (ps : List (C × C)) (n : ℕ) (ops : List C) → length ps ≡ n → Simulates f code to (one (BuildMap n)) (pushed_pairs ps ops) Any (λ v. v ∷ ops) (give (f.map ps))
  unfolding built
  map_sim ps n ops e = sim_plain (f.map ps) (λ p ls w. ap (λ a. built f.map p a ls w) (pops_pairs n ps ops e)) tt

  -- as many expressions as there are pieces
  each_length : (es : Exprs C) → length (each f es) ≡ expr_count es
  each_length no_more = refl
  each_length (more e es) = ap suc (each_length es)

  -- a call, by what it calls
  called_sim : (c : Callee C) (args : Args C) (ops : List C) {b v : Piece C} {m n : Act C F C} → Exact b → Exact v → GivesValue b m → GivesValue v n → Positional args → Keyword args → Simulates f code to (call_of c b v (given args) (argument_count args)) ops Any (λ u. u ∷ ops) (call_meaning c m n (λ t. arguments_meaning f (positional_meaning f args t) (keyword_meaning f args nothing_yet)))
  called_sim (function x) args ops eb ev sb sv p k =
      call_then args [] 0 ops refl (one_exact _) p k (λ vs ok. call_sim CallFunction x (count_all args 0).batches (count_all args 0).waiting vs ops ok refl)
  called_sim (block x) args ops eb ev sb sv p k =
      sim_then (one_exact _) (then_exact (one_exact _) (one_exact _)) (sim_do_tell (BeginCapture Capture) [] [] ops refl) λ _ _.
      sim_then (one_exact _) (one_exact _) (sim_do_tell CallBlock x [] ops refl) λ _ _.
      sim_do_get EndCapture [] [] ops refl
  called_sim (method e x) args ops eb ev sb sv p k =
      on_operand args ops ops eb (one_exact _) (sb ops) p k (λ vs ok. call_sim CallMethod x (count_all args 1).batches (count_all args 1).waiting vs ops ok refl)
  called_sim (object e) args ops eb ev sb sv p k =
      on_operand args ops ops ev (one_exact _) (sv ops) p k (λ vs ok. call_sim CallObject [] (count_all args 1).batches (count_all args 1).waiting vs ops ok refl)

  mutual
    pub expr_sim : (e : Expr C) → IsWhole e → GivesValue (expr f e) (expr_meaning f e)
    expr_sim (variable x) is ops = sim_do_get Lookup x [] ops refl
    expr_sim (constant c) is ops = sim_load c
    expr_sim (slice e a b c) is ops =
        let ec = then_exact (optional_exact f f.none c) (one_exact (Do Slice [] 4)) in
        let eb = then_exact (optional_exact f f.none b) ec in
        sim_then (expr_exact f e) (then_exact (optional_exact f f.none a) eb) (expr_sim e is.0 ops) λ v _.
        sim_then (optional_exact f f.none a) eb (optional_sim f.none a is.1 (v ∷ ops)) λ x _.
        sim_then (optional_exact f f.none b) ec (optional_sim f.none b is.2 (x ∷ v ∷ ops)) λ y _.
        sim_then (optional_exact f f.none c) (one_exact _) (optional_sim f.none c is.3 (y ∷ x ∷ v ∷ ops)) λ z _.
        sim_do_get Slice [] (v ∷ x ∷ y ∷ z ∷ []) ops refl
    expr_sim (unary o e) is ops =
        sim_folded (fold f (unary o e)) (expr_folds ℕ f (unary o e))
        (sim_then (expr_exact f e) (one_exact _) (expr_sim e is ops) (λ v _. unary_sim o v ops))
    expr_sim (binary o a b) is ops =
        sim_folded (fold f (binary o a b)) (expr_folds ℕ f (binary o a b))
        (sim_then (expr_exact f a) (operation_exact (working o) (expr_exact f b)) (expr_sim a is.0 ops) (λ x _. operation_sim (working o) x ops (expr_exact f b) (expr_sim b is.1)))
    expr_sim (compare e cs) is ops =
        sim_folded (fold f (compare e cs)) (expr_folds ℕ f (compare e cs))
        (sim_then (expr_exact f e) (chain_exact f cs) (expr_sim e is.0 ops) (λ v _. chain_sim cs v ops is.1 is.2))
    expr_sim (if_expr t a b) is ops =
        sim_then (expr_exact f t) (branches_exact (expr_exact f a) (optional_exact f f.silent_undefined b)) (expr_sim t is.0 ops) λ v _.
        sim_branches v (expr_exact f a) (optional_exact f f.silent_undefined b) (expr_sim a is.1 ops) (optional_sim f.silent_undefined b is.2 ops)
    expr_sim (filter absent x args) is ops = absurd is
    expr_sim (filter (present e) x args) is ops =
        on_operand args ops ops (expr_exact f e) (filter_exact x _) (expr_sim e is.0 ops) (positional_sim args is.1) (keyword_sim args is.1)
        (λ vs ok. filter_sim x (count_all args 1).batches (count_all args 1).waiting vs ops ok)
    expr_sim (test e x args) is ops =
        on_operand args ops ops (expr_exact f e) (test_exact x _) (expr_sim e is.0 ops) (positional_sim args is.1) (keyword_sim args is.1)
        (λ vs ok. test_sim x (count_all args 1).batches (count_all args 1).waiting vs ops ok)
    expr_sim (attribute e x) is ops = sim_then (expr_exact f e) (one_exact _) (expr_sim e is ops) (λ v _. sim_do_get GetAttr x (v ∷ []) ops refl)
    expr_sim (item e k) is ops =
        sim_then (expr_exact f e) (then_exact (expr_exact f k) (one_exact _)) (expr_sim e is.0 ops) λ v _.
        sim_then (expr_exact f k) (one_exact _) (expr_sim k is.1 (v ∷ ops)) λ u _.
        sim_do_get GetItem [] (v ∷ u ∷ []) ops refl
    expr_sim (call e args) is ops = called_sim (callee e) args ops (base_exact f e) (expr_exact f e) (base_sim e is.0) (expr_sim e is.0) (positional_sim args is.1) (keyword_sim args is.1)
    expr_sim (list es) is ops =
        sim_folded (fold f (list es)) (expr_folds ℕ f (list es))
        (sim_then (items_exact f es) (one_exact _) (items_sim es is ops) (λ vs many. list_sim vs (expr_count es) ops many))
    expr_sim (tuple es) is ops =
        sim_folded (fold f (tuple es)) (expr_folds ℕ f (tuple es))
        (sim_then (items_exact f es) (one_exact _) (items_sim es is ops) (λ vs many. tuple_sim vs (expr_count es) ops many))
    expr_sim (map ks vs) is ops =
        sim_folded (fold f (map ks vs)) (expr_folds ℕ f (map ks vs))
        (sim_then (paired_exact (each f ks) (each f vs) (each_exact f ks) (each_exact f vs)) (one_exact _)
        (paired_sim laws (each f ks) (each f vs) (each_meaning f ks) (each_meaning f vs) ops (each_length ks ∙ is.2 ∙ sym (each_length vs)) (each_exact f ks) (each_exact f vs) (each_sim ks is.0) (each_sim vs is.1))
        (λ ps many. map_sim ps (expr_count ks) ops (many ∙ each_length ks)))

    -- what an attribute is taken of
    pub base_sim : (e : Expr C) → IsWhole e → GivesValue (base f e) (base_meaning f e)
    base_sim (attribute e x) is ops = expr_sim e is ops
    base_sim e is ops = sim_load f.none

    pub optional_sim : (d : C) (o : Optional C) → IsWholeIfAny o → GivesValue (optional f d o) (optional_meaning f d o)
    optional_sim d absent is ops = sim_load d
    optional_sim d (present e) is ops = expr_sim e is ops

    items_sim : (es : Exprs C) → AreWhole es → (ops : List C) → Simulates f code to (items f es) ops (λ vs. length vs ≡ expr_count es) (λ vs. pushed vs ops) (items_meaning f es)
    items_sim no_more is ops = sim_nothing [] refl
    items_sim (more e es) is ops =
        sim_then (expr_exact f e) (items_exact f es) (expr_sim e is.0 ops) λ v _.
        sim_give (λ vs. v ∷ vs) (λ vs many. ap suc many) (items_sim es is.1 (v ∷ ops))

    each_sim : (es : Exprs C) → AreWhole es → AllSimulate f code to (each f es) (each_meaning f es)
    each_sim no_more is = tt
    each_sim (more e es) is = (expr_sim e is.0, each_sim es is.1)

    chain_sim : (cs : Comparisons C) (a : C) (ops : List C) → IsChain cs → AreCompared cs → Simulates f code to (chain f cs) (a ∷ ops) Any (λ v. v ∷ ops) (chain_meaning f a cs)
    chain_sim compared a ops two is = absurd two
    chain_sim (against o e cs) a ops two is = chained_sim laws a (expr_exact f e) (comparisons_exact f cs o) (expr_sim e is.0) (λ u. comparisons_sim cs o a u ops is.1)

    comparisons_sim : (cs : Comparisons C) (o : CompareOp) (a b : C) (ops : List C) → AreCompared cs → SimulatesFailing f code to (comparisons f o cs) a b ops (λ w. next (operated (compares f o a b) w) (on_holding f (chain_meaning f b cs)))
    comparisons_sim compared o a b ops is = last_sim laws (comparison_exact o) (comparison_sim laws o a b ops)
    comparisons_sim (against o' e cs) o a b ops is = and_then_sim laws o a b (expr_exact f e) (comparisons_exact f cs o') (expr_sim e is.0) (λ u. comparisons_sim cs o' b u ops is.1)

    pub positional_sim : (args : Args C) → AreArguments args → Positional args
    positional_sim no_args is t c ops ok = sim_nothing t ok
    positional_sim (pos e args) is t c ops ok = take_one t c ops ok (expr_exact f e) (positional_exact f args (suc c.waiting)) (expr_sim e is.0) (λ u ok'. positional_sim args is.1 u (count_one c) ops ok')
    positional_sim (pos_splat e args) is t c ops ok = take_batch t c ops ok (expr_exact f e) (positional_exact f args 0) (expr_sim e is.0) (λ u ok'. positional_sim args is.1 u (count_batch c) ops ok')
    positional_sim (kwarg x e args) is t c ops ok = positional_sim args is.1 t c ops ok
    positional_sim (kwarg_splat e args) is t c ops ok = positional_sim args is.1 t c ops ok

    pub keyword_sim : (args : Args C) → AreArguments args → Keyword args
    keyword_sim no_args is t c ops ok = sim_nothing t ok
    keyword_sim (pos e args) is t c ops ok = keyword_sim args is.1 t c ops ok
    keyword_sim (pos_splat e args) is t c ops ok = keyword_sim args is.1 t c ops ok
    keyword_sim (kwarg x e args) is t c ops ok = take_pair (f.of_str x) t c ops ok (expr_exact f e) (keyword_exact f args (suc c.waiting)) (expr_sim e is.0) (λ u ok'. keyword_sim args is.1 u (count_one c) ops ok')
    keyword_sim (kwarg_splat e args) is t c ops ok = take_map t c ops ok (expr_exact f e) (keyword_exact f args 0) (expr_sim e is.0) (λ u ok'. keyword_sim args is.1 u (count_batch c) ops ok')

  -- the code of a chain of filters finds the operand of its innermost one on top
  pub chain_of_filters_sim : (e : Expr C) (v : C) (ops : List C) → IsChainOfFilters e → Simulates f code to (expr f e) (v ∷ ops) Any (λ u. u ∷ ops) (expr_meaning f (fed v e))
  chain_of_filters_sim (filter absent x args) v ops is =
      on_operand args (v ∷ ops) ops nothing_exact (filter_exact x _) (sim_nothing v tt) (positional_sim args is.0) (keyword_sim args is.0)
      (λ vs ok. filter_sim x (count_all args 1).batches (count_all args 1).waiting vs ops ok)
  chain_of_filters_sim (filter (present e) x args) v ops is =
      on_operand args (v ∷ ops) ops (expr_exact f e) (filter_exact x _) (chain_of_filters_sim e v ops is.0) (positional_sim args is.1) (keyword_sim args is.1)
      (λ vs ok. filter_sim x (count_all args 1).batches (count_all args 1).waiting vs ops ok)
  chain_of_filters_sim e v ops is = absurd is
