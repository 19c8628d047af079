-- The code of arguments: their batches, the map of keyword arguments, and how they are spread.
use Rattle.std.proofs.Common.{◌≡◌, ℕ, zero, suc, ◌+◌, List, [], ◌∷◌, ◌++◌, length, Option, Some, None, refl, sym, ap, ◌∙◌, subst, arith, length-append}
use Rattle.minijinja_syntax.specs.Texts.{Text}
use Rattle.minijinja_value.specs.Values.{Functions}
use Rattle.minijinja_semantics.specs.Laws.{Laws}
use Rattle.minijinja_tree.specs.Tree.{Expr, Args, no_args, pos, pos_splat, kwarg, kwarg_splat}
use Rattle.minijinja_tree.specs.Folding.{if_some, constant_node, constant_keywords, fold_keywords}
use Rattle.minijinja_semantics.specs.Events.{MergeKwargs, UnpackLists, next, give}
use Rattle.minijinja_semantics.specs.Meaning.{Taken, nothing_yet, with_one, completed, with_batch, keyword_map, spread, arguments as arguments_meaning, positional as positional_meaning, keyword as keyword_meaning}
use Rattle.minijinja_semantics.specs.Code.{Instr, BuildKwargs, BuildList}
use Rattle.minijinja_semantics.specs.Pieces.{Piece, ◌▸◌}
use Rattle.minijinja_semantics.specs.Layout.{folded, Count, batch_count, count_one, count_batch, count_positional, count_keyword, count_all, list_batch, map_batch, merged, map_count, spreading, counted, arguments}
use Rattle.minijinja_semantics.specs.Machine.{pushed, popped, popped_pairs, popped_by, popped_counted, built}
use Rattle.minijinja_semantics.proofs.Placed.{Stretch}
use Rattle.minijinja_semantics.proofs.Runs.{pops, append_nil, Any, IsCounted}
use Rattle.minijinja_semantics.proofs.Lengths.{Exact, one_exact, then_exact, folded_exact, batch_exact, merged_exact, spreading_exact}
use Rattle.minijinja_semantics.proofs.Parts.{does, Simulates, sim_then, sim_before, sim_from, sim_same, sim_give, sim_assoc, sim_nothing, sim_plain, sim_get, sim_get_all}
use Rattle.minijinja_semantics.proofs.Folds.{keywords_fold}

module _ {C : Type 0} where
  pub pushed_append : (a b ops : List C) → pushed (a ++ b) ops ≡ pushed b (pushed a ops)
  pushed_append [] b ops = refl
  pushed_append (v ∷ a) b ops = pushed_append a b (v ∷ ops)

  -- pairs on the operands, each key below its value, the last pair on top
  abbrev pub pushed_pairs : List (C × C) → List C → List C
  pushed_pairs [] ops = ops
  pushed_pairs (p ∷ ps) ops = pushed_pairs ps (p.1 ∷ p.0 ∷ ops)

  pub pairs_append : (a b : List (C × C)) (ops : List C) → pushed_pairs (a ++ b) ops ≡ pushed_pairs b (pushed_pairs a ops)
  pairs_append [] b ops = refl
  pairs_append (p ∷ a) b ops = pairs_append a b (p.1 ∷ p.0 ∷ ops)

  popped_pairs_pushed : (m : ℕ) (ps acc : List (C × C)) (ops : List C) → popped_pairs (length ps + m) (pushed_pairs ps ops) acc ≡ popped_pairs m ops (ps ++ acc)
  unfolding popped_pairs
  popped_pairs_pushed m [] acc ops = let e : 0 + m ≡ m = omega arith in ap (λ n. popped_pairs n ops acc) e
  popped_pairs_pushed m (p ∷ ps) acc ops =
      let e : length (p ∷ ps) + m ≡ length ps + suc m = omega arith in
      ap (λ n. popped_pairs n (pushed_pairs ps (p.1 ∷ p.0 ∷ ops)) acc) e ∙ popped_pairs_pushed (suc m) ps acc (p.1 ∷ p.0 ∷ ops)

  -- as many pairs as were pushed are taken off
  pub pops_pairs : (n : ℕ) (ps : List (C × C)) (ops : List C) → length ps ≡ n → popped_pairs n (pushed_pairs ps ops) [] ≡ Some (ps, ops)
  unfolding popped_pairs
  pops_pairs n ps ops is =
      let e : n ≡ length ps + 0 = omega arith in
      ap (λ n. popped_pairs n (pushed_pairs ps ops) []) e ∙ popped_pairs_pushed 0 ps [] ops ∙ ap (λ l. Some (l, ops)) (append_nil ps)

  -- the counts of what was taken
  pub record Matches {X : Type 0} (c : Count) (t : Taken C X) : Type 0 where
    pub batches : length t.batches ≡ c.batches
    pub waiting : length t.waiting ≡ c.waiting

  completed_length : {X : Type 0} (make : List X → C) (xs : List X) (n : ℕ) → length xs ≡ n → length (completed make xs) ≡ batch_count n
  completed_length make [] zero e = refl
  completed_length make [] (suc n) e = absurd (omega arith)
  completed_length make (x ∷ xs) zero e = absurd (omega arith)
  completed_length make (x ∷ xs) (suc n) e = refl

  pub matches_one : {X : Type 0} {c : Count} {t : Taken C X} (x : X) → Matches c t → Matches (count_one c) (with_one x t)
  matches_one {t = t} x m = record { batches = m.batches; waiting = omega (arith, length-append t.waiting (x ∷ []), m.waiting) }

  pub matches_batch : {X : Type 0} {c : Count} {t : Taken C X} (make : List X → C) (v : C) → Matches c t → Matches (count_batch c) (with_batch make v t)
  matches_batch {c = c} {t = t} make v m = record {
    batches = omega (arith, length-append (t.batches ++ completed make t.waiting) (v ∷ []), length-append t.batches (completed make t.waiting), m.batches, completed_length make t.waiting c.waiting m.waiting);
    waiting = refl;
  }

  -- where operands stand: the batches, and above them those that wait
  abbrev pub laid : Taken C C → List C → List C
  laid t ops = pushed t.waiting (pushed t.batches ops)

  -- the same of arguments with a keyword
  abbrev pub laid_pairs : Taken C (C × C) → List C → List C
  laid_pairs t ops = pushed_pairs t.waiting (pushed t.batches ops)

  pub laid_one : (v : C) (t : Taken C C) (ops : List C) → v ∷ laid t ops ≡ laid (with_one v t) ops
  laid_one v t ops = sym (pushed_append t.waiting (v ∷ []) (pushed t.batches ops))

  pub laid_pair : (k v : C) (t : Taken C (C × C)) (ops : List C) → v ∷ k ∷ laid_pairs t ops ≡ laid_pairs (with_one (k, v) t) ops
  laid_pair k v t ops = sym (pairs_append t.waiting ((k, v) ∷ []) (pushed t.batches ops))

  batch_behind : (v : C) (cs bs ops : List C) → v ∷ pushed bs (pushed cs ops) ≡ pushed (cs ++ bs ++ v ∷ []) ops
  batch_behind v cs bs ops = sym (pushed_append (cs ++ bs) (v ∷ []) ops ∙ ap (λ o. v ∷ o) (pushed_append cs bs ops))

  pub laid_batch : (make : List C → C) (v : C) (t : Taken C C) (ops : List C) → v ∷ pushed (completed make t.waiting) (pushed t.batches ops) ≡ laid (with_batch make v t) ops
  laid_batch make v t ops = batch_behind v t.batches (completed make t.waiting) ops

  pub laid_map : (make : List (C × C) → C) (v : C) (t : Taken C (C × C)) (ops : List C) → v ∷ pushed (completed make t.waiting) (pushed t.batches ops) ≡ laid_pairs (with_batch make v t) ops
  laid_map make v t ops = batch_behind v t.batches (completed make t.waiting) ops

  pub counted_pops : {F : Type 0} (f : Functions C F) (n : ℕ) (vs ops : List C) → length vs ≡ n → popped_counted f (Some n) (pushed vs ops) ≡ Some (vs, ops)
  unfolding popped_counted
  counted_pops f n vs ops e = ap (λ m. popped m (pushed vs ops) []) (sym e) ∙ pops vs ops

module _ {C F : Type 0} {f : Functions C F} {code : List (Instr C)} {to : Stretch} where
  pub list_batch_sim : (vs : List C) (n : ℕ) (ops : List C) → length vs ≡ n → Simulates f code to (list_batch n) (pushed vs ops) Any (λ _. pushed (completed f.list vs) ops) (give {X = Unit {0}} tt)
  unfolding built
  list_batch_sim [] zero ops e = sim_nothing tt tt
  list_batch_sim [] (suc n) ops e = absurd (omega arith)
  list_batch_sim (v ∷ vs) zero ops e = absurd (omega arith)
  list_batch_sim (v ∷ vs) (suc n) ops e = sim_plain tt (λ p ls w. ap (λ a. built f.list p a ls w) (counted_pops f (suc n) (v ∷ vs) ops e)) tt

  pub map_batch_sim : (ps : List (C × C)) (n : ℕ) (ops : List C) → length ps ≡ n → Simulates f code to (map_batch n) (pushed_pairs ps ops) Any (λ _. pushed (completed f.kwargs ps) ops) (give {X = Unit {0}} tt)
  unfolding built
  map_batch_sim [] zero ops e = sim_nothing tt tt
  map_batch_sim [] (suc n) ops e = absurd (omega arith)
  map_batch_sim (p ∷ ps) zero ops e = absurd (omega arith)
  map_batch_sim (p ∷ ps) (suc n) ops e = sim_plain tt (λ q ls w. ap (λ a. built f.kwargs q a ls w) (pops_pairs (suc n) (p ∷ ps) ops e)) tt

  pub merged_sim : (bs : List C) (ps : List (C × C)) (b n : ℕ) (ops : List C) → length bs ≡ b → length ps ≡ n → Simulates f code to (merged b n) (pushed_pairs ps (pushed bs ops)) (λ m. length m ≡ map_count b n) (λ m. pushed m ops) (keyword_map f bs ps)
  unfolding merged map_count keyword_map built
  merged_sim [] [] zero zero ops e e' = sim_nothing [] refl
  merged_sim [] [] zero (suc n) ops e e' = absurd (omega arith)
  merged_sim [] (p ∷ ps) zero zero ops e e' = absurd (omega arith)
  merged_sim [] (p ∷ ps) zero (suc n) ops e e' = sim_plain (f.kwargs (p ∷ ps) ∷ []) (λ q ls w. ap (λ a. built f.kwargs q a ls w) (pops_pairs (suc n) (p ∷ ps) ops e')) refl
  merged_sim [] ps (suc b) n ops e e' = absurd (omega arith)
  merged_sim (d ∷ bs) ps zero n ops e e' = absurd (omega arith)
  merged_sim (d ∷ bs) ps (suc b) n ops e e' =
      let all : List C = d ∷ bs ++ completed f.kwargs ps in
      let many : length all ≡ suc b + batch_count n = omega (arith, length-append (d ∷ bs) (completed f.kwargs ps), completed_length f.kwargs ps n e') in
      sim_before (batch_exact BuildKwargs n) (one_exact _) (map_batch_sim ps n (pushed (d ∷ bs) ops) e')
      (sim_from (sym (pushed_append (d ∷ bs) (completed f.kwargs ps) ops))
      (sim_give (λ m. m ∷ []) (λ m p. refl) (sim_get MergeKwargs [] all (does f MergeKwargs [] (suc b + batch_count n) all ops many) refl)))

-- what holds of arguments that are ready: they are as many as counted, or can be counted
abbrev pub IsReady : {C : Type 0} → (batches waiting : ℕ) → List C → Type 0
IsReady zero n vs = length vs ≡ n
IsReady (suc b) n vs = IsCounted vs

module _ {C F : Type 0} (f : Functions C F) where
  -- where they stand: where they were spread, under their count
  abbrev pub ready : (batches : ℕ) → List C → List C → List C
  ready zero vs ops = pushed vs ops
  ready (suc b) vs ops = f.of_u64 (length vs) ∷ pushed vs ops

  -- a call finds them
  pub ready_pops : Laws f → (b n : ℕ) (vs ops : List C) → IsReady b n vs → popped_counted f (counted b n) (ready b vs ops) ≡ Some (vs, ops)
  unfolding counted popped_counted popped_by
  ready_pops laws zero n vs ops e = counted_pops f n vs ops e
  ready_pops laws (suc b) n vs ops e = ap (λ m. popped_by m (pushed vs ops)) (laws.count (length vs) e) ∙ pops vs ops

module _ {C F : Type 0} {f : Functions C F} {code : List (Instr C)} {to : Stretch} where
  pub spreading_sim : (bs vs : List C) (b n : ℕ) (ops : List C) → length bs ≡ b → length vs ≡ n → Simulates f code to (spreading b n) (pushed vs (pushed bs ops)) (IsReady b n) (λ us. ready f b us ops) (spread f bs vs)
  unfolding spreading spread
  spreading_sim [] vs zero n ops e e' = sim_nothing vs e'
  spreading_sim [] vs (suc b) n ops e e' = absurd (omega arith)
  spreading_sim (d ∷ bs) vs zero n ops e e' = absurd (omega arith)
  spreading_sim (d ∷ bs) vs (suc b) n ops e e' =
      let all : List C = d ∷ bs ++ completed f.list vs in
      let many : length all ≡ suc b + batch_count n = omega (arith, length-append (d ∷ bs) (completed f.list vs), completed_length f.list vs n e') in
      sim_before (batch_exact (λ n. BuildList (Some n)) n) (one_exact _) (list_batch_sim vs n (pushed (d ∷ bs) ops) e')
      (sim_from (sym (pushed_append (d ∷ bs) (completed f.list vs) ops))
      (sim_get_all UnpackLists [] all (does f UnpackLists [] (suc b + batch_count n) all ops many) refl))

-- no argument was counted
abbrev pub none_counted : Count
none_counted = record { batches = 0; waiting = 0 }

-- Constants among the keyword arguments are counted as they were written.
abbrev pub AllCounted : {C : Type 0} → Option (List (C × C)) → (Count → Count) → Type 0
AllCounted None count = Unit {0}
AllCounted (Some ps) count = (c : Count) → ((count c).batches ≡ c.batches) × ((count c).waiting ≡ length ps + c.waiting)

module _ {C F : Type 0} (f : Functions C F) where
  one_counted : (r : Option C) (s : Option (List (C × C))) (x : Text) (e : Expr C) (k : C) (args : Args C) → AllCounted s (count_keyword args) → AllCounted (if_some r (λ c. if_some s (λ cs. Some ((k, c) ∷ cs)))) (count_keyword (kwarg x e args))
  unfolding if_some
  one_counted None s x e k args h = tt
  one_counted (Some v) None x e k args h = tt
  one_counted (Some v) (Some cs) x e k args h = λ c. let more = h (count_one c) in (more.0, omega (arith, more.1))

  pub all_counted : (args : Args C) → AllCounted (constant_keywords f args) (count_keyword args)
  all_counted no_args = λ c. (refl, omega arith)
  all_counted (pos e args) = all_counted args
  all_counted (pos_splat e args) = all_counted args
  all_counted (kwarg x e args) = one_counted (constant_node e) (constant_keywords f args) x e (f.of_str x) args (all_counted args)
  all_counted (kwarg_splat e args) = tt

  keyword_exact_of : (args : Args C) (q : Piece C) → Exact q → Exact (folded (fold_keywords f (constant_keywords f args)) (q ▸ merged (count_keyword args none_counted).batches (count_keyword args none_counted).waiting))
  keyword_exact_of args q e = folded_exact (fold_keywords f (constant_keywords f args)) (then_exact e (merged_exact (count_keyword args none_counted).batches (count_keyword args none_counted).waiting))

  pub one_map : (b n m : ℕ) → b ≡ 0 → n ≡ suc m → 1 ≡ map_count b n
  unfolding map_count
  one_map zero zero m e e' = absurd (omega arith)
  one_map zero (suc n) m e e' = refl
  one_map (suc b) n m e e' = absurd (omega arith)

module _ {C F : Type 0} {f : Functions C F} {code : List (Instr C)} {to : Stretch} where
  merge_sim : (args : Args C) (ops : List C) (p : Piece C) → Exact p → ((ops : List C) → Simulates f code to p ops (Matches (count_keyword args none_counted)) (λ k. laid_pairs k ops) (keyword_meaning f args nothing_yet)) → Simulates f code to (p ▸ merged (count_keyword args none_counted).batches (count_keyword args none_counted).waiting) ops (λ m. length m ≡ map_count (count_keyword args none_counted).batches (count_keyword args none_counted).waiting) (λ m. pushed m ops) (λ w. next (keyword_meaning f args nothing_yet w) (λ k. keyword_map f k.batches k.waiting))
  merge_sim args ops p e s =
      let c : Count = count_keyword args none_counted in
      sim_then e (merged_exact c.batches c.waiting) (s ops) (λ k m. merged_sim k.batches k.waiting c.batches c.waiting ops m.batches m.waiting)

  -- the keyword arguments, as their map
  keywords_sim : (args : Args C) (ops : List C) (p : Piece C) (r : Option (List (C × C))) → constant_keywords f args ≡ r → Exact p → ((ops : List C) → Simulates f code to p ops (Matches (count_keyword args none_counted)) (λ k. laid_pairs k ops) (keyword_meaning f args nothing_yet)) → Simulates f code to (folded (fold_keywords f r) (p ▸ merged (count_keyword args none_counted).batches (count_keyword args none_counted).waiting)) ops (λ m. length m ≡ map_count (count_keyword args none_counted).batches (count_keyword args none_counted).waiting) (λ m. pushed m ops) (λ w. next (keyword_meaning f args nothing_yet w) (λ k. keyword_map f k.batches k.waiting))
  unfolding folded fold_keywords keyword_map next
  keywords_sim args ops p None same e s = merge_sim args ops p e s
  keywords_sim args ops p (Some []) same e s = merge_sim args ops p e s
  keywords_sim args ops p (Some (c ∷ cs)) same e s =
      let counted = subst (λ o. AllCounted o (count_keyword args)) same (all_counted f args) none_counted in
      let one = one_map f (count_keyword args none_counted).batches (count_keyword args none_counted).waiting (length cs) counted.0 (omega (arith, counted.1)) in
      sim_same (λ w. ap (λ d. next d (λ k. keyword_map f k.batches k.waiting)) (sym (keywords_fold ℕ f args (c ∷ cs) same w)))
      (sim_plain (f.kwargs (c ∷ cs) ∷ []) (λ q ls w. refl) one)

  -- All the arguments of a call, after the operands that stand before them: they are ready.
  pub arguments_sim : (args : Args C) (before : List C) (n : ℕ) (ops : List C) (p q : Piece C) → Exact p → Exact q → Simulates f code to p (pushed before ops) (Matches (count_positional args (record { batches = 0; waiting = n }))) (λ t. laid t ops) (positional_meaning f args (record { batches = []; waiting = before })) → ((ops : List C) → Simulates f code to q ops (Matches (count_keyword args none_counted)) (λ k. laid_pairs k ops) (keyword_meaning f args nothing_yet)) → Simulates f code to (arguments f args n p q) (pushed before ops) (IsReady (count_all args n).batches (count_all args n).waiting) (λ us. ready f (count_all args n).batches us ops) (arguments_meaning f (positional_meaning f args (record { batches = []; waiting = before })) (keyword_meaning f args nothing_yet))
  arguments_sim args before n ops p q e e' s s' =
      let c : Count = count_positional args (record { batches = 0; waiting = n }) in
      let k : Count = count_keyword args none_counted in
      let m = map_count k.batches k.waiting in
      let e1 = keyword_exact_of f args q e' in
      let e2 : Exact {C = C} (spreading c.batches (c.waiting + m)) = spreading_exact c.batches (c.waiting + m) in
      sim_then e (then_exact e1 e2) s (λ t is.
      sim_assoc (keyword_meaning f args nothing_yet) (λ k. keyword_map f k.batches k.waiting) (λ m. spread f t.batches (t.waiting ++ m))
      (sim_then e1 e2 (keywords_sim args (laid t ops) q (constant_keywords f args) refl e' s') (λ us many.
      sim_from (sym (pushed_append t.waiting us (pushed t.batches ops)))
      (spreading_sim t.batches (t.waiting ++ us) c.batches (c.waiting + m) ops is.batches (omega (arith, length-append t.waiting us, is.waiting))))))
