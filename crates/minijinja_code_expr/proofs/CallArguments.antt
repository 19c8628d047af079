-- The code of the arguments of a call: positional ones, the map of keyword ones, and spreading.
use Rattle.std.proofs.Common.{◌≡◌, ℕ, zero, suc, ◌+◌, ◌<◌, ◌≤◌, Bool, true, false, List, [], ◌∷◌, ◌++◌, length, map, drop, get_or, Option, Some, None, Result, Ok, Err, refl, sym, ap, ◌∙◌, subst, arith, append_assoc, ◌⊎◌, inl, inr, Bor}
use Rattle.std.specs.Prelude.{OnOk}
use Rattle.std.proofs.lemmas.List.{at_drop_more, at_drop_all}
use denote.Param.Weighed.{most, at_most}
use Rattle.minijinja_syntax.specs.Texts.{Text}
use Rattle.minijinja_value.specs.Values.{Functions}
use Rattle.minijinja_tree.specs.Erasure.{expr_tree, arg_tree, args_of}
use Rattle.minijinja_tree.specs.Folding.{constant_keywords, fold_keywords}
use Rattle.minijinja_tree.specs.Tree.{Args, no_args, pos, pos_splat, kwarg, kwarg_splat}
use Rattle.minijinja_tree.specs.WellFormed.{IsWhole, AreArguments, arg_count, most_arguments}
use Rattle.minijinja_tree_expr.specs.declared.ast.CallArg.{CallArg, Pos, Kwarg, PosSplat, KwargSplat}
use Rattle.minijinja_tree_expr.specs.declared.ast.Expr.{Expr}
use Rattle.minijinja_semantics.specs.Code.{Load, Do}
use Rattle.minijinja_semantics.specs.Events.{MergeKwargs, UnpackLists}
use Rattle.minijinja_semantics.specs.Pieces.{Here, Piece, nothing, one, ◌▸◌}
use Rattle.minijinja_semantics.specs.Layout.{Count, batch_count, count_one, count_batch, count_positional, count_keyword, argument_count, list_batch, map_batch, merged, map_count, spreading, counted, expr, positional, keyword}
use Rattle.minijinja_emitter.specs.internal.Making.{Made, here_of, capped, Adds}
use Rattle.minijinja_code_expr.specs.internal.Parts.{operands, given, keyword_map, AddsIf}
use Rattle.minijinja_semantics.proofs.Arguments.{AllCounted, all_counted, one_map, none_counted}
use Rattle.minijinja_semantics.proofs.FoldedCode.{folded_some, folded_none}
use Rattle.minijinja_semantics.proofs.Runs.{append_nil}
use Rattle.minijinja_emitter.proofs.Adding.{adds_then, adds_as, adds_nothing}
use Rattle.minijinja_code_expr.proofs.InOrder.{Leads}

-- The batches: how they are closed, merged and spread.

module _ {C : Type 0} where
  -- with no batch before them those that wait are the map
  pub merged_alone : (b n : ℕ) → b ≡ 0 → merged {C = C} b n ≡ map_batch n
  unfolding merged
  merged_alone zero zero e = refl
  merged_alone zero (suc n) e = refl
  merged_alone (suc b) n e = absurd (omega arith)

  merged_more : (b n : ℕ) → 0 < b → merged {C = C} b n ≡ map_batch n ▸ one (Do MergeKwargs [] (b + batch_count n))
  unfolding merged
  merged_more zero n h = absurd (omega arith)
  merged_more (suc b) n h = refl

  spreading_more : (b n : ℕ) → 0 < b → spreading {C = C} b n ≡ list_batch n ▸ one (Do UnpackLists [] (b + batch_count n))
  unfolding spreading
  spreading_more zero n h = absurd (omega arith)
  spreading_more (suc b) n h = refl

  -- the last batch was closed, and the batches merged
  pub adds_merged : {old now new : Made C} (b n all : ℕ) → 0 < b → all ≡ b + batch_count n → Adds old now (map_batch n) → Adds now new (one (Do MergeKwargs [] all)) → Adds old new (merged b n)
  adds_merged b n all more e s t = adds_as (ap (λ m. map_batch n ▸ one (Do MergeKwargs [] m)) e ∙ sym (merged_more b n more)) (adds_then s t)

  -- and spread
  pub adds_spreading : {old now new : Made C} (b n all : ℕ) → 0 < b → all ≡ b + batch_count n → Adds old now (list_batch n) → Adds now new (one (Do UnpackLists [] all)) → Adds old new (spreading b n)
  adds_spreading b n all more e s t = adds_as (ap (λ m. list_batch n ▸ one (Do UnpackLists [] m)) e ∙ sym (spreading_more b n more)) (adds_then s t)

  -- with no batch nothing is spread
  pub adds_no_spreading : (m : Made C) (b n : ℕ) → b ≡ 0 → Adds m m (spreading b n)
  unfolding spreading
  adds_no_spreading m zero n e = adds_nothing m
  adds_no_spreading m (suc b) n e = absurd (omega arith)

pub map_count_alone : (b n : ℕ) → b ≡ 0 → map_count b n ≡ batch_count n
unfolding map_count
map_count_alone zero zero e = refl
map_count_alone zero (suc n) e = refl
map_count_alone (suc b) n e = absurd (omega arith)

pub map_count_more : (b n : ℕ) → 0 < b → map_count b n ≡ 1
unfolding map_count
map_count_more zero n h = absurd (omega arith)
map_count_more (suc b) n h = refl

pub map_count_few : (b n : ℕ) → map_count b n ≤ 1
unfolding map_count
map_count_few zero zero = omega arith
map_count_few zero (suc n) = omega arith
map_count_few (suc b) n = omega arith

pub counted_alone : (b n : ℕ) → b ≡ 0 → counted b n ≡ Some n
unfolding counted
counted_alone zero n e = refl
counted_alone (suc b) n e = absurd (omega arith)

pub counted_more : (b n : ℕ) → 0 < b → counted b n ≡ None
unfolding counted
counted_more zero n h = absurd (omega arith)
counted_more (suc b) n h = refl

-- How many batches and waiting arguments there are together: no more than there are arguments.

abbrev pub size : Count → ℕ
size c = c.batches + c.waiting

batch_few : (n : ℕ) → batch_count n ≤ n
batch_few zero = omega arith
batch_few (suc n) = omega arith

count_positional_few : {C : Type 0} (args : Args C) (k : Count) → size (count_positional args k) ≤ size k + arg_count args
count_positional_few no_args k = omega arith
count_positional_few (pos e args) k = omega (arith, count_positional_few args (count_one k))
count_positional_few (pos_splat e args) k = omega (arith, count_positional_few args (count_batch k), batch_few k.waiting)
count_positional_few (kwarg x e args) k = omega (arith, count_positional_few args k)
count_positional_few (kwarg_splat e args) k = omega (arith, count_positional_few args k)

count_keyword_few : {C : Type 0} (args : Args C) (k : Count) → size (count_keyword args k) ≤ size k + arg_count args
count_keyword_few no_args k = omega arith
count_keyword_few (pos e args) k = omega (arith, count_keyword_few args k)
count_keyword_few (pos_splat e args) k = omega (arith, count_keyword_few args k)
count_keyword_few (kwarg x e args) k = omega (arith, count_keyword_few args (count_one k))
count_keyword_few (kwarg_splat e args) k = omega (arith, count_keyword_few args (count_batch k), batch_few k.waiting)

pub positional_bound : {C : Type 0} (args : Args C) (front : ℕ) (k : Count) → arg_count args ≤ most_arguments → front ≤ 1 → k ≡ count_positional args (operands front) → size k ≤ 2001
positional_bound args front k few one e = omega (arith, ap size e, count_positional_few args (operands front))

pub keyword_bound : {C : Type 0} (args : Args C) (k : Count) → arg_count args ≤ most_arguments → k ≡ count_keyword args (operands 0) → size k ≤ 2000
keyword_bound args k few e = omega (arith, ap size e, count_keyword_few args (operands 0))

-- Arguments that are taken one after another.

-- an element is no larger than the largest
pub element_size : {X : Type 0} (measure : X → ℕ) (xs : List X) (i : ℕ) (x : X) → i < length xs → x ≡ get_or xs i x → measure x ≤ most measure xs
element_size measure xs i x within e = subst (λ y. measure y ≤ most measure xs) (sym e) (at_most measure xs i x within)

module _ {C : Type 0} where
  -- one piece, and what stands after it
  adds_one : {a b c : Made C} (p r : Piece C) → Adds a b (p ▸ nothing) → Adds b c r → Adds a c (p ▸ r)
  adds_one {a} {b} p r s t =
      let last : Adds a b p = record { code = s.code ∙ ap (λ l. a.code ++ map capped l) (append_nil (p.code (here_of a))); past = s.past } in
      adds_then last t

  -- two pieces, and what stands after them
  adds_two : {a b c : Made C} (p q r : Piece C) → Adds a b (p ▸ q ▸ nothing) → Adds b c r → Adds a c (p ▸ q ▸ r)
  adds_two {a} {b} {c} p q r s t =
      let h : Here = here_of a in
      let k : Here = p.past h in
      let both : Adds a b (p ▸ q) = record { code = s.code ∙ ap (λ l. a.code ++ map capped (p.code h ++ l)) (append_nil (q.code k)); past = s.past } in
      let all = adds_then both t in
      record { code = all.code ∙ ap (λ l. a.code ++ map capped l) (append_assoc (p.code h) (q.code k) (r.code (q.past k))); past = all.past }

module _ (K : Type 0) {V C : Type 0} (v : V → C) where
  -- how arguments are taken one after another: each adds its piece, and counts
  pub record Walk (piece : Args C → ℕ → Piece C) (count : Args C → Count → Count) : Type 0 where
    pub piece_end : (n : ℕ) → piece no_args n ≡ nothing
    pub count_end : (k : Count) → count no_args k ≡ k
    pub adds_next : (a b c : Made C) (x : CallArg V K) (rest : Args C) (k : Count) → Adds a b (piece (arg_tree v x no_args) k.waiting) → Adds b c (piece rest (count (arg_tree v x no_args) k).waiting) → Adds a c (piece (arg_tree v x rest) k.waiting)
    pub count_next : (x : CallArg V K) (rest : Args C) (k : Count) → count (arg_tree v x rest) k ≡ count rest (count (arg_tree v x no_args) k)
    pub few : (x : CallArg V K) (k : Count) → size (count (arg_tree v x no_args) k) ≤ suc (size k)

module _ {V K C : Type 0} (v : V → C) where
  whole_first : (x : CallArg V K) (rest : Args C) → AreArguments (arg_tree v x rest) → AreArguments (arg_tree v x no_args)
  whole_first (Pos e) rest w = (w.0, tt)
  whole_first (Kwarg name e) rest w = (w.0, tt)
  whole_first (PosSplat e) rest w = (w.0, tt)
  whole_first (KwargSplat e) rest w = (w.0, tt)

  whole_rest : (x : CallArg V K) (rest : Args C) → AreArguments (arg_tree v x rest) → AreArguments rest
  whole_rest (Pos e) rest w = w.1
  whole_rest (Kwarg name e) rest w = w.1
  whole_rest (PosSplat e) rest w = w.1
  whole_rest (KwargSplat e) rest w = w.1

  one_argument : (x : CallArg V K) (rest : Args C) → arg_count (arg_tree v x rest) ≡ suc (arg_count rest)
  one_argument (Pos e) rest = refl
  one_argument (Kwarg name e) rest = refl
  one_argument (PosSplat e) rest = refl
  one_argument (KwargSplat e) rest = refl

  -- there are as many arguments as the list is long
  pub args_length : (xs : List (CallArg V K)) → arg_count (args_of v xs) ≡ length xs
  args_length [] = refl
  args_length (x ∷ xs) = one_argument x (args_of v xs) ∙ ap suc (args_length xs)

  -- the argument at a place, and those after it
  args_next : (xs : List (CallArg V K)) (i : ℕ) (x : CallArg V K) → i < length xs → x ≡ get_or xs i x → args_of v (drop i xs) ≡ arg_tree v x (args_of v (drop (i + 1) xs))
  args_next xs i x within h = at_drop_more (args_of v) xs i x within ∙ ap (λ y. arg_tree v y (args_of v (drop (i + 1) xs))) (sym h)

  args_end : (xs : List (CallArg V K)) (i : ℕ) → length xs ≤ i → args_of v (drop i xs) ≡ no_args
  args_end xs i past = at_drop_all (args_of v) xs i past

  -- the state of a loop over arguments, of which the given number is taken: what is left to add,
  -- and to count
  pub record Taken (piece : Args C → ℕ → Piece C) (count : Args C → Count → Count) (xs : List (CallArg V K)) (front : ℕ) (a now : Made C) (i : ℕ) (k : Count) : Type 0 where
    pub leads : Leads a now (piece (args_of v (drop i xs)) k.waiting) (piece (args_of v xs) front)
    pub counts : count (args_of v (drop i xs)) k ≡ count (args_of v xs) (operands front)
    pub few : size k ≤ i + front
    pub whole : AreArguments (args_of v (drop i xs))

  module _ {piece : Args C → ℕ → Piece C} {count : Args C → Count → Count} (walk : Walk K v piece count) (xs : List (CallArg V K)) (front : ℕ) where
    pub taken_none : (a : Made C) → AreArguments (args_of v xs) → Taken piece count xs front a a 0 (operands front)
    taken_none a w = record { leads = record { adds = λ c s. s }; counts = refl; few = omega arith; whole = w }

    module _ {a now : Made C} {i : ℕ} {k : Count} (t : Taken piece count xs front a now i k) where
      -- after the last one
      pub taken_all : length xs ≤ i → Adds a now (piece (args_of v xs) front) × (k ≡ count (args_of v xs) (operands front))
      taken_all past =
          let none = args_end xs i past in (
            t.leads.adds now (adds_as (sym (ap (λ args. piece args k.waiting) none ∙ walk.piece_end k.waiting)) (adds_nothing now)),
            sym (ap (λ args. count args k) none ∙ walk.count_end k) ∙ t.counts,
          )

      module _ (x : CallArg V K) (within : i < length xs) (h : x ≡ get_or xs i x) where
        abbrev after_it : Args C
        after_it = args_of v (drop (i + 1) xs)

        next : args_of v (drop i xs) ≡ arg_tree v x after_it
        next = args_next xs i x within h

        -- the argument that comes next is whole
        pub taken_whole : AreArguments (arg_tree v x no_args)
        taken_whole = whole_first x after_it (subst (λ args. AreArguments args) next t.whole)

        pub taken_next : {after : Made C} {m : Count} → m ≡ count (arg_tree v x no_args) k → Adds now after (piece (arg_tree v x no_args) k.waiting) → Taken piece count xs front a after (i + 1) m
        taken_next {after} {m} e s =
            let l : Leads a now (piece (arg_tree v x after_it) k.waiting) (piece (args_of v xs) front) = subst (λ args. Leads a now (piece args k.waiting) (piece (args_of v xs) front)) next t.leads in
            let n : Count = count (arg_tree v x no_args) k in
            let there : Leads a after (piece after_it n.waiting) (piece (args_of v xs) front) = record { adds = λ c r. l.adds c (walk.adds_next now after c x after_it k s r) } in
            record {
              leads = subst (λ (m : Count). Leads a after (piece after_it m.waiting) (piece (args_of v xs) front)) (sym e) there;
              counts = ap (count after_it) e ∙ sym (walk.count_next x after_it k) ∙ sym (ap (λ args. count args k) next) ∙ t.counts;
              few = omega (arith, ap size e, walk.few x k, t.few);
              whole = whole_rest x after_it (subst (λ args. AreArguments args) next t.whole);
            }

module _ {V K C F : Type 0} (v : V → C) (f : Functions C F) where
  positional_adds : (a b c : Made C) (x : CallArg V K) (rest : Args C) (k : Count) → Adds a b (positional f (arg_tree v x no_args) k.waiting) → Adds b c (positional f rest (count_positional (arg_tree v x no_args) k).waiting) → Adds a c (positional f (arg_tree v x rest) k.waiting)
  positional_adds a b c (Pos e) rest k s t = adds_one (expr f (expr_tree v e)) (positional f rest (suc k.waiting)) s t
  positional_adds a b c (PosSplat e) rest k s t = adds_two (list_batch k.waiting) (expr f (expr_tree v e)) (positional f rest 0) s t
  positional_adds a b c (Kwarg name e) rest k s t = adds_then s t
  positional_adds a b c (KwargSplat e) rest k s t = adds_then s t

  positional_count : (x : CallArg V K) (rest : Args C) (k : Count) → count_positional (arg_tree v x rest) k ≡ count_positional rest (count_positional (arg_tree v x no_args) k)
  positional_count (Pos e) rest k = refl
  positional_count (PosSplat e) rest k = refl
  positional_count (Kwarg name e) rest k = refl
  positional_count (KwargSplat e) rest k = refl

  positional_few : (x : CallArg V K) (k : Count) → size (count_positional (arg_tree v x no_args) k) ≤ suc (size k)
  positional_few (Pos e) k = omega arith
  positional_few (PosSplat e) k = omega (arith, batch_few k.waiting)
  positional_few (Kwarg name e) k = omega arith
  positional_few (KwargSplat e) k = omega arith

  pub positional_walk : Walk K v (positional f) count_positional
  positional_walk = record {
    piece_end = λ n. refl;
    count_end = λ k. refl;
    adds_next = positional_adds;
    count_next = positional_count;
    few = positional_few;
  }

  keyword_adds : (a b c : Made C) (x : CallArg V K) (rest : Args C) (k : Count) → Adds a b (keyword f (arg_tree v x no_args) k.waiting) → Adds b c (keyword f rest (count_keyword (arg_tree v x no_args) k).waiting) → Adds a c (keyword f (arg_tree v x rest) k.waiting)
  keyword_adds a b c (Pos e) rest k s t = adds_then s t
  keyword_adds a b c (PosSplat e) rest k s t = adds_then s t
  keyword_adds a b c (Kwarg name e) rest k s t = adds_two (one (Load (f.of_str name.now))) (expr f (expr_tree v e)) (keyword f rest (suc k.waiting)) s t
  keyword_adds a b c (KwargSplat e) rest k s t = adds_two (map_batch k.waiting) (expr f (expr_tree v e)) (keyword f rest 0) s t

  keyword_count : (x : CallArg V K) (rest : Args C) (k : Count) → count_keyword (arg_tree v x rest) k ≡ count_keyword rest (count_keyword (arg_tree v x no_args) k)
  keyword_count (Pos e) rest k = refl
  keyword_count (PosSplat e) rest k = refl
  keyword_count (Kwarg name e) rest k = refl
  keyword_count (KwargSplat e) rest k = refl

  keyword_few : (x : CallArg V K) (k : Count) → size (count_keyword (arg_tree v x no_args) k) ≤ suc (size k)
  keyword_few (Pos e) k = omega arith
  keyword_few (PosSplat e) k = omega arith
  keyword_few (Kwarg name e) k = omega arith
  keyword_few (KwargSplat e) k = omega (arith, batch_few k.waiting)

  pub keyword_walk : Walk K v (keyword f) count_keyword
  keyword_walk = record {
    piece_end = λ n. refl;
    count_end = λ k. refl;
    adds_next = keyword_adds;
    count_next = keyword_count;
    few = keyword_few;
  }

  -- a loop over the positional arguments, and one over those with a keyword, by the kind of the
  -- argument that comes next

  module _ {xs : List (CallArg V K)} {front : ℕ} {a now : Made C} {i : ℕ} {k : Count} (t : Taken v (positional f) count_positional xs front a now i k) (x : CallArg V K) (within : i < length xs) (h : x ≡ get_or xs i x) where
    positional_whole : (y : CallArg V K) → x ≡ y → AreArguments (arg_tree v y no_args)
    positional_whole y is = subst (λ y. AreArguments (arg_tree v y no_args)) is (taken_whole v positional_walk xs front t x within h)

    pub pos_whole : (e : Expr V K) → x ≡ Pos e → IsWhole (expr_tree v e)
    pos_whole e is = (positional_whole (Pos e) is).0

    pub pos_splat_whole : (e : Expr V K) → x ≡ PosSplat e → IsWhole (expr_tree v e)
    pos_splat_whole e is = (positional_whole (PosSplat e) is).0

    positional_next : {after : Made C} {m : Count} (y : CallArg V K) → x ≡ y → m ≡ count_positional (arg_tree v y no_args) k → Adds now after (positional f (arg_tree v y no_args) k.waiting) → Taken v (positional f) count_positional xs front a after (i + 1) m
    positional_next y is e s =
        taken_next v positional_walk xs front t x within h (e ∙ ap (λ y. count_positional (arg_tree v y no_args) k) (sym is)) (adds_as (ap (λ y. positional f (arg_tree v y no_args) k.waiting) (sym is)) s)

    pub taken_pos : {after : Made C} {m : Count} (e : Expr V K) → x ≡ Pos e → m ≡ count_one k → Adds now after (expr f (expr_tree v e)) → Taken v (positional f) count_positional xs front a after (i + 1) m
    taken_pos {after} e is em s = positional_next (Pos e) is em (adds_then s (adds_nothing after))

    pub taken_pos_splat : {closed after : Made C} {m : Count} (e : Expr V K) → x ≡ PosSplat e → m ≡ count_batch k → Adds now closed (list_batch k.waiting) → Adds closed after (expr f (expr_tree v e)) → Taken v (positional f) count_positional xs front a after (i + 1) m
    taken_pos_splat {after = after} e is em s u = positional_next (PosSplat e) is em (adds_then s (adds_then u (adds_nothing after)))

    pub passed_keyword : ((name : Bor Text) × (e : Expr V K) × (x ≡ Kwarg name e)) ⊎ ((e : Expr V K) × (x ≡ KwargSplat e)) → Taken v (positional f) count_positional xs front a now (i + 1) k
    passed_keyword (inl w) = positional_next (Kwarg w.0 w.1) w.2 refl (adds_nothing now)
    passed_keyword (inr w) = positional_next (KwargSplat w.0) w.1 refl (adds_nothing now)

  module _ {xs : List (CallArg V K)} {front : ℕ} {a now : Made C} {i : ℕ} {k : Count} (t : Taken v (keyword f) count_keyword xs front a now i k) (x : CallArg V K) (within : i < length xs) (h : x ≡ get_or xs i x) where
    keyword_whole : (y : CallArg V K) → x ≡ y → AreArguments (arg_tree v y no_args)
    keyword_whole y is = subst (λ y. AreArguments (arg_tree v y no_args)) is (taken_whole v keyword_walk xs front t x within h)

    pub kwarg_whole : (name : Bor Text) (e : Expr V K) → x ≡ Kwarg name e → IsWhole (expr_tree v e)
    kwarg_whole name e is = (keyword_whole (Kwarg name e) is).0

    pub kwarg_splat_whole : (e : Expr V K) → x ≡ KwargSplat e → IsWhole (expr_tree v e)
    kwarg_splat_whole e is = (keyword_whole (KwargSplat e) is).0

    keyword_next : {after : Made C} {m : Count} (y : CallArg V K) → x ≡ y → m ≡ count_keyword (arg_tree v y no_args) k → Adds now after (keyword f (arg_tree v y no_args) k.waiting) → Taken v (keyword f) count_keyword xs front a after (i + 1) m
    keyword_next y is e s =
        taken_next v keyword_walk xs front t x within h (e ∙ ap (λ y. count_keyword (arg_tree v y no_args) k) (sym is)) (adds_as (ap (λ y. keyword f (arg_tree v y no_args) k.waiting) (sym is)) s)

    pub taken_kwarg : {named after : Made C} {m : Count} (name : Bor Text) (e : Expr V K) → x ≡ Kwarg name e → m ≡ count_one k → Adds now named (one (Load (f.of_str name.now))) → Adds named after (expr f (expr_tree v e)) → Taken v (keyword f) count_keyword xs front a after (i + 1) m
    taken_kwarg {after = after} name e is em s u = keyword_next (Kwarg name e) is em (adds_then s (adds_then u (adds_nothing after)))

    pub taken_kwarg_splat : {closed after : Made C} {m : Count} (e : Expr V K) → x ≡ KwargSplat e → m ≡ count_batch k → Adds now closed (map_batch k.waiting) → Adds closed after (expr f (expr_tree v e)) → Taken v (keyword f) count_keyword xs front a after (i + 1) m
    taken_kwarg_splat {after = after} e is em s u = keyword_next (KwargSplat e) is em (adds_then s (adds_then u (adds_nothing after)))

    pub passed_positional : ((e : Expr V K) × (x ≡ Pos e)) ⊎ ((e : Expr V K) × (x ≡ PosSplat e)) → Taken v (keyword f) count_keyword xs front a now (i + 1) k
    passed_positional (inl w) = keyword_next (Pos w.0) w.1 refl (adds_nothing now)
    passed_positional (inr w) = keyword_next (PosSplat w.0) w.1 refl (adds_nothing now)

-- All of them.

module _ {C F : Type 0} (f : Functions C F) where
  one_constant : (args : Args C) (c : C) (r : Option (List (C × C))) → constant_keywords f args ≡ r → fold_keywords f r ≡ Some c → 1 ≡ map_count (count_keyword args (operands 0)).batches (count_keyword args (operands 0)).waiting
  unfolding fold_keywords
  one_constant args c None same e = absurd (cc)
  one_constant args c (Some []) same e = absurd (cc)
  one_constant args c (Some (p ∷ ps)) same e =
      let counted = subst (λ o. AllCounted o (count_keyword args)) same (all_counted f args) none_counted in
      one_map f (count_keyword args none_counted).batches (count_keyword args none_counted).waiting (length ps) counted.0 (omega (arith, counted.1))

  -- a map that is a constant is one more argument
  pub keywords_loaded : {a b : Made C} (args : Args C) (loaded : Bool) → loaded ≡ true → AddsIf loaded (fold_keywords f (constant_keywords f args)) a b →
      Adds a b (keyword_map f args) × (1 ≡ map_count (count_keyword args (operands 0)).batches (count_keyword args (operands 0)).waiting)
  keywords_loaded args true e s = (adds_as (sym (folded_some _ s.1)) s.2, one_constant args s.0 (constant_keywords f args) refl s.1)
  keywords_loaded args false e s = absurd (cc)

  -- any other one is merged of its pairs
  pub keywords_merged : {a b c d : Made C} (args : Args C) (loaded : Bool) (k : Count) → loaded ≡ false → AddsIf loaded (fold_keywords f (constant_keywords f args)) a b → k ≡ count_keyword args (operands 0) →
      Adds b c (keyword f args 0) → Adds c d (merged k.batches k.waiting) → Adds a d (keyword_map f args)
  keywords_merged args true k e s ek t u = absurd (cc)
  keywords_merged {c = c} {d = d} args false k e s ek t u =
      let merges = subst (λ (k : Count). Adds c d (merged k.batches k.waiting)) ek u in
      subst (λ m. Adds m d (keyword_map f args)) s.1 (adds_as (sym (folded_none _ s.0)) (adds_then t merges))

  module _ (args : Args C) (front : ℕ) (k : Count) (m : ℕ) (ek : k ≡ count_positional args (operands front)) (em : m ≡ map_count (count_keyword args (operands 0)).batches (count_keyword args (operands 0)).waiting) where
    -- how many operands the call has then
    pub counted_all : counted k.batches (k.waiting + m) ≡ argument_count args front
    counted_all = ap (λ (k : Count). counted k.batches (k.waiting + m)) ek ∙ ap (λ m. counted (count_positional args (operands front)).batches ((count_positional args (operands front)).waiting + m)) em

    spread_all : spreading {C = C} k.batches (k.waiting + m) ≡ spreading (count_positional args (operands front)).batches ((count_positional args (operands front)).waiting + map_count (count_keyword args (operands 0)).batches (count_keyword args (operands 0)).waiting)
    spread_all = ap (λ (k : Count). spreading k.batches (k.waiting + m)) ek ∙ ap (λ m. spreading (count_positional args (operands front)).batches ((count_positional args (operands front)).waiting + m)) em

    -- and their code
    pub adds_given : {X E : Type 0} {a b c : Made C} (d : Made C) (r : Result X E) → Adds a b (positional f args front) → Adds b c (keyword_map f args) → OnOk r (Adds c d (spreading k.batches (k.waiting + m))) → OnOk r (Adds a d (given f args front))
    adds_given d (Ok x) s t u = adds_then s (adds_then t (adds_as spread_all u))
    adds_given d (Err e) s t u = tt
