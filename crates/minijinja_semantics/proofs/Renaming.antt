-- The meaning of a tree does not depend on the names of its loops and macros.
use Rattle.std.proofs.Common.{◌≡◌, ℕ, zero, suc, List, [], ◌∷◌, length, Option, Some, None, Result, refl, ap, ◌∙◌}
use Rattle.std.specs.Prelude.{Bool, true, false}
use Rattle.minijinja_value.specs.Values.{Functions}
use Rattle.minijinja_tree.specs.Operators.{Working, Makes, Divides, IfTrue, IfFalse, working}
use Rattle.minijinja_tree.specs.Comparisons.{compares}
use Rattle.minijinja_tree.specs.Callees.{Callee, function, method, block, object, callee}
use Rattle.minijinja_tree.specs.Tree.{UnaryOp, logical_not, negation, Expr, variable, constant, slice, unary, binary, compare, if_expr, filter, test, attribute, item, call, list, tuple, map, Optional, absent, present, Exprs, no_more, more, Comparisons, compared, against, Args, no_args, pos, pos_splat, kwarg, kwarg_splat, Stmt, template, data_text, output, assignment, for_loop, if_cond, with_block, set_block, auto_escape, filter_block, named_block, extends, include, import_all, from_import, declare, call_block, do_call, break_loop, continue_loop, Stmts, done, also, Macro, macro, stored_as}
use Rattle.minijinja_semantics.specs.Events.{CaptureMode, Event, World, Means, next, give, choose, operated, ask}
use Rattle.minijinja_semantics.specs.Calls.{Written, Super, Recursion, BlockOf, Plain, written}
use Rattle.minijinja_semantics.specs.Meaning.{operate_one, operate, in_pairs, Taken, nothing_yet, keyword_map, spread, arguments, call_of, expr, base, optional, items, each, chain, positional, keyword, Signal, On, Broke, Continued, if_on, assign, assign_each, assign_all, filtered, write, LoopTurn, with_item, turns, all_turns, passing, looped, enclose, made, call_with, within, look_up, store_back, stmt, stmts}
use Rattle.minijinja_semantics.specs.FilterChains.{fed}
use Rattle.minijinja_semantics.specs.Naming.{world_as, did_as, renamed, relabel, relabel_all, relabel_macro}
use Rattle.minijinja_semantics.specs.Macros.{enclosed}
use Rattle.minijinja_semantics.proofs.Ways.{closure_same, enclosed_by, flags_by}
use Rattle.minijinja_syntax.specs.Texts.{Text}
use Rattle.minijinja_semantics.proofs.Seen.{next_as, ask_as, operated_as}

-- the second piece does what the first one does, under other names
pub record Renames {N M C F X : Type 0} (r : N → M) (m : Means N C F X) (m' : Means M C F X) : Type 0 where
  pub does : (w : World (Event N C) C) → m' (world_as (renamed r) w) ≡ did_as (renamed r) (m w)

module _ {N M C F : Type 0} (r : N → M) where
  -- pieces in order
  abbrev AllRename : List (Means N C F C) → List (Means M C F C) → Type 0
  AllRename [] [] = Unit {0}
  AllRename (m ∷ ms) (n ∷ ns) = Renames r m n × AllRename ms ns
  AllRename _ _ = ⊥

  rename_give : {X : Type 0} (x : X) → Renames {C = C} {F = F} r (give x) (give x)
  rename_give x = record { does = λ w. refl }

  rename_next : {X Y : Type 0} {m : Means N C F X} {m' : Means M C F X} {n : X → Means N C F Y} {n' : X → Means M C F Y} → Renames r m m' → ((x : X) → Renames r (n x) (n' x)) → Renames r (λ w. next (m w) n) (λ w. next (m' w) n')
  rename_next {m = m} {n = n} {n' = n'} a b = record { does = λ w. ap (λ d. next d n') (a.does w) ∙ next_as (renamed r) (m w) n n' (λ x. (b x).does) }

  rename_ask : {X : Type 0} (fit : List C → Option X) (e : Event N C) → Renames {F = F} r (ask fit e) (ask fit (renamed r e))
  rename_ask fit e = record { does = ask_as (renamed r) F fit e }

  rename_operated : {X : Type 0} (v : Result X F) → Renames {C = C} r (operated v) (operated v)
  rename_operated v = record { does = operated_as (renamed r) v }

  rename_choose : {X : Type 0} {m n : Means N C F X} {m' n' : Means M C F X} (b : Bool) → Renames r m m' → Renames r n n' → Renames r (choose b m n) (choose b m' n')
  unfolding choose
  rename_choose true a c = a
  rename_choose false a c = c

  rename_pairs : (ms ns : List (Means N C F C)) (ms' ns' : List (Means M C F C)) → AllRename ms ms' → AllRename ns ns' → Renames r (in_pairs ms ns) (in_pairs ms' ns')
  rename_pairs [] ns [] ns' h k = rename_give []
  rename_pairs (m ∷ ms) [] (m' ∷ ms') [] h k = rename_give []
  rename_pairs (m ∷ ms) (n ∷ ns) (m' ∷ ms') (n' ∷ ns') h k = rename_next h.0 (λ x. rename_next k.0 (λ y. rename_next (rename_pairs ms ns ms' ns' h.1 k.1) (λ ps. rename_give _)))
  rename_pairs [] ns (m' ∷ ms') ns' h k = absurd h
  rename_pairs (m ∷ ms) ns [] ns' h k = absurd h
  rename_pairs (m ∷ ms) [] (m' ∷ ms') (n' ∷ ns') h k = absurd k
  rename_pairs (m ∷ ms) (n ∷ ns) (m' ∷ ms') [] h k = absurd k

  -- a call, by what it calls
  call_renamed : (c : Callee C) {m n : Means N C F C} {m' n' : Means M C F C} {g : Taken C C → Means N C F (List C)} {g' : Taken C C → Means M C F (List C)} → Renames r m m' → Renames r n n' → ((t : Taken C C) → Renames r (g t) (g' t)) → Renames r (call_of c m n g) (call_of c m' n' g')
  call_renamed (function x) a b g = rename_next (g nothing_yet) (λ vs. rename_ask _ _)
  call_renamed (block x) a b g = rename_next (rename_ask _ _) (λ _. rename_next (rename_ask _ _) (λ _. rename_ask _ _))
  call_renamed (method e x) a b g = rename_next a (λ v. rename_next (g _) (λ vs. rename_ask _ _))
  call_renamed (object e) a b g = rename_next b (λ v. rename_next (g _) (λ vs. rename_ask _ _))

module _ {N M C F : Type 0} (r : N → M) (f : Functions C F) where
  one_renamed : (o : UnaryOp) (v : C) → Renames r (operate_one f o v) (operate_one f o v)
  one_renamed logical_not v = rename_give r _
  one_renamed negation v = rename_operated r _

  two_renamed : (k : Working) (x : C) {m : Means N C F C} {m' : Means M C F C} → Renames r m m' → Renames r (operate f k x m) (operate f k x m')
  two_renamed (Makes o) x a = rename_next r a (λ y. rename_operated r _)
  two_renamed Divides x a = rename_next r a (λ y. rename_ask r _ _)
  two_renamed IfTrue x a = rename_choose r (f.is_true x) a (rename_give r x)
  two_renamed IfFalse x a = rename_choose r (f.is_true x) (rename_give r x) a

  map_renamed : (bs : List C) (ps : List (C × C)) → Renames r (keyword_map f bs ps) (keyword_map f bs ps)
  unfolding keyword_map
  map_renamed [] [] = rename_give r []
  map_renamed [] (p ∷ ps) = rename_give r _
  map_renamed (b ∷ bs) ps = rename_next r (rename_ask r _ _) (λ m. rename_give r _)

  spread_renamed : (bs vs : List C) → Renames r (spread f bs vs) (spread f bs vs)
  unfolding spread
  spread_renamed [] vs = rename_give r vs
  spread_renamed (b ∷ bs) vs = rename_ask r _ _

  arguments_renamed : {m : Means N C F (Taken C C)} {m' : Means M C F (Taken C C)} {n : Means N C F (Taken C (C × C))} {n' : Means M C F (Taken C (C × C))} → Renames r m m' → Renames r n n' → Renames r (arguments f m n) (arguments f m' n')
  arguments_renamed a b = rename_next r a (λ t. rename_next r b (λ k. rename_next r (map_renamed k.batches k.waiting) (λ m. spread_renamed t.batches _)))

  mutual
    pub expr_renamed : (e : Expr C) → Renames r (expr f e) (expr f e)
    expr_renamed (variable x) = rename_ask r _ _
    expr_renamed (constant c) = rename_give r c
    expr_renamed (slice e a b c) = rename_next r (expr_renamed e) (λ v. rename_next r (optional_renamed f.none a) (λ x. rename_next r (optional_renamed f.none b) (λ y. rename_next r (optional_renamed f.none c) (λ z. rename_ask r _ _))))
    expr_renamed (unary o e) = rename_next r (expr_renamed e) (one_renamed o)
    expr_renamed (binary o a b) = rename_next r (expr_renamed a) (λ x. two_renamed (working o) x (expr_renamed b))
    expr_renamed (compare e cs) = rename_next r (expr_renamed e) (chain_renamed cs)
    expr_renamed (if_expr t a b) = rename_next r (expr_renamed t) (λ v. rename_choose r (f.is_true v) (expr_renamed a) (optional_renamed f.silent_undefined b))
    expr_renamed (filter o x args) = rename_next r (optional_renamed f.silent_undefined o) (λ v. rename_next r (arguments_renamed (positional_renamed args _) (keyword_renamed args _)) (λ vs. rename_ask r _ _))
    expr_renamed (test e x args) = rename_next r (expr_renamed e) (λ v. rename_next r (arguments_renamed (positional_renamed args _) (keyword_renamed args _)) (λ vs. rename_ask r _ _))
    expr_renamed (attribute e x) = rename_next r (expr_renamed e) (λ v. rename_ask r _ _)
    expr_renamed (item e k) = rename_next r (expr_renamed e) (λ v. rename_next r (expr_renamed k) (λ u. rename_ask r _ _))
    expr_renamed (call e args) = call_renamed r (callee e) (base_renamed e) (expr_renamed e) (λ t. arguments_renamed (positional_renamed args t) (keyword_renamed args _))
    expr_renamed (list es) = rename_next r (items_renamed es) (λ vs. rename_give r _)
    expr_renamed (tuple es) = rename_next r (items_renamed es) (λ vs. rename_give r _)
    expr_renamed (map ks vs) = rename_next r (rename_pairs r (each f ks) (each f vs) (each f ks) (each f vs) (each_renamed ks) (each_renamed vs)) (λ ps. rename_give r _)

    base_renamed : (e : Expr C) → Renames r (base f e) (base f e)
    base_renamed (attribute e x) = expr_renamed e
    base_renamed e = rename_give r f.none

    optional_renamed : (d : C) (o : Optional C) → Renames r (optional f d o) (optional f d o)
    optional_renamed d absent = rename_give r d
    optional_renamed d (present e) = expr_renamed e

    items_renamed : (es : Exprs C) → Renames r (items f es) (items f es)
    items_renamed no_more = rename_give r []
    items_renamed (more e es) = rename_next r (expr_renamed e) (λ v. rename_next r (items_renamed es) (λ vs. rename_give r _))

    each_renamed : (es : Exprs C) → AllRename r (each f es) (each f es)
    each_renamed no_more = tt
    each_renamed (more e es) = (expr_renamed e, each_renamed es)

    chain_renamed : (cs : Comparisons C) (v : C) → Renames r (chain f v cs) (chain f v cs)
    chain_renamed compared v = rename_give r _
    chain_renamed (against o e cs) v = rename_next r (expr_renamed e) (λ u. rename_next r (rename_operated r (compares f o v u)) (λ b. rename_choose r b (chain_renamed cs u) (rename_give r _)))

    positional_renamed : (args : Args C) (t : Taken C C) → Renames r (positional f args t) (positional f args t)
    positional_renamed no_args t = rename_give r t
    positional_renamed (pos e args) t = rename_next r (expr_renamed e) (λ v. positional_renamed args _)
    positional_renamed (pos_splat e args) t = rename_next r (expr_renamed e) (λ v. positional_renamed args _)
    positional_renamed (kwarg x e args) t = positional_renamed args t
    positional_renamed (kwarg_splat e args) t = positional_renamed args t

    keyword_renamed : (args : Args C) (t : Taken C (C × C)) → Renames r (keyword f args t) (keyword f args t)
    keyword_renamed no_args t = rename_give r t
    keyword_renamed (pos e args) t = keyword_renamed args t
    keyword_renamed (pos_splat e args) t = keyword_renamed args t
    keyword_renamed (kwarg x e args) t = rename_next r (expr_renamed e) (λ v. keyword_renamed args _)
    keyword_renamed (kwarg_splat e args) t = rename_next r (expr_renamed e) (λ v. keyword_renamed args _)

  mutual
    assign_renamed : (target : Expr C) (v : C) → Renames {F = F} r (assign f target v) (assign f target v)
    assign_renamed (variable x) v = rename_ask r _ _
    assign_renamed (attribute e x) v = rename_next r (expr_renamed e) (λ u. rename_ask r _ _)
    assign_renamed (list es) v = rename_next r (rename_ask r _ _) (assign_each_renamed es)
    assign_renamed target v = rename_give r tt

    assign_each_renamed : (es : Exprs C) (vs : List C) → Renames {F = F} r (assign_each f es vs) (assign_each f es vs)
    assign_each_renamed no_more vs = rename_give r tt
    assign_each_renamed (more e es) [] = rename_give r tt
    assign_each_renamed (more e es) (v ∷ vs) = rename_next r (assign_renamed e v) (λ _. assign_each_renamed es vs)

  assign_all_renamed : (ts : List (Expr C × Expr C)) → Renames {F = F} r (assign_all f ts) (assign_all f ts)
  assign_all_renamed [] = rename_give r tt
  assign_all_renamed (a ∷ rest) = rename_next r (expr_renamed a.1) (λ v. rename_next r (assign_renamed a.0 v) (λ _. assign_all_renamed rest))

  filtered_renamed : (chain : Optional C) (v : C) → Renames r (filtered f chain v) (filtered f chain v)
  filtered_renamed absent v = rename_give r v
  filtered_renamed (present chain) v = expr_renamed (fed v chain)

  write_renamed : (o : Written C) {m : Means N C F C} {m' : Means M C F C} → Renames r m m' → Renames r (write f o m) (write f o m')
  write_renamed Super a = rename_next r (rename_ask r _ _) (λ _. rename_give r On)
  write_renamed (Recursion e) a = rename_next r (expr_renamed e) (λ v. rename_next r (rename_ask r _ _) (λ _. rename_give r On))
  write_renamed (BlockOf x) a = rename_next r (rename_ask r _ _) (λ _. rename_give r On)
  write_renamed Plain a = rename_next r a (λ v. rename_next r (rename_ask r _ _) (λ _. rename_give r On))

  on_renamed : (g : Signal) {m : Means N C F Signal} {m' : Means M C F Signal} → Renames r m m' → Renames r (if_on g m) (if_on g m')
  unfolding if_on
  on_renamed On a = a
  on_renamed Broke a = rename_give r Broke
  on_renamed Continued a = rename_give r Continued

  with_item_renamed : {S : Type 0} (i : Option C) {turn : LoopTurn N C F S} {turn' : LoopTurn M C F S} (came : Bool) (s : S) {o : S → Means N C F (Bool × S)} {o' : S → Means M C F (Bool × S)} → ((v : C) (s : S) → Renames r (turn v s) (turn' v s)) → ((s : S) → Renames r (o s) (o' s)) → Renames r (with_item i turn came s o) (with_item i turn' came s o')
  unfolding with_item
  with_item_renamed None came s k h = rename_give r _
  with_item_renamed (Some v) came s k h = rename_next r (k v s) (λ g. rename_choose r g.0 (h g.1) (rename_give r _))

  turns_renamed : {S : Type 0} (n : ℕ) {turn : LoopTurn N C F S} {turn' : LoopTurn M C F S} → ((v : C) (s : S) → Renames r (turn v s) (turn' v s)) → (came : Bool) (s : S) → Renames r (turns n turn came s) (turns n turn' came s)
  unfolding turns
  turns_renamed zero k came s = record { does = λ w. refl }
  turns_renamed (suc n) k came s = rename_next r (rename_ask r _ _) (λ i. with_item_renamed i came s k (turns_renamed n k true))

  all_turns_renamed : {S : Type 0} {turn : LoopTurn N C F S} {turn' : LoopTurn M C F S} → ((v : C) (s : S) → Renames r (turn v s) (turn' v s)) → (came : Bool) (s : S) → Renames r (all_turns turn came s) (all_turns turn' came s)
  unfolding all_turns
  all_turns_renamed k came s = record { does = λ w. (turns_renamed (length w.answers) k came s).does w }

  passing_renamed : (target : Expr C) (only : Optional C) (v : C) → Renames r (passing f target only v) (passing f target only v)
  passing_renamed target absent v = rename_give r v
  passing_renamed target (present condition) v =
      rename_next r (rename_ask r _ _) λ _.
      rename_next r (all_turns_renamed (λ u kept. rename_next r (assign_renamed target u) (λ _. rename_next r (expr_renamed condition) (λ t. rename_give r _))) false []) λ t.
      rename_next r (rename_ask r _ _) (λ _. rename_give r _)

  looped_renamed : (n : N) (target : Expr C) (recursive : Bool) {m : Means N C F Signal} {m' : Means M C F Signal} → Renames r m m' → (v : C) → Renames r (looped f n target recursive m v) (looped f (r n) target recursive m' v)
  looped_renamed n target recursive k v =
      rename_next r (rename_ask r _ _) λ _.
      rename_next r (all_turns_renamed (λ u s. rename_next r (assign_renamed target u) (λ _. rename_next r k (λ g. rename_give r _))) false tt) λ t.
      rename_next r (rename_ask r _ _) (λ _. rename_give r _)

  enclose_renamed : (xs : List Text) → Renames {C = C} {F = F} r (enclose xs) (enclose xs)
  enclose_renamed [] = rename_give r tt
  enclose_renamed (x ∷ xs) = rename_next r (rename_ask r _ _) (λ _. enclose_renamed xs)

  made_renamed : (m : Macro C N) → Renames {F = F} r (made f m) (made f (relabel_macro r m))
  made_renamed (macro n x args defaults body) =
      let e = closure_same r (macro n x args defaults body) in
      rw (enclosed_by (relabel_macro r (macro n x args defaults body)) (macro n x args defaults body) e, flags_by (relabel_macro r (macro n x args defaults body)) (macro n x args defaults body) e)
      (rename_next r (enclose_renamed (enclosed (macro n x args defaults body))) (λ _. rename_next r (rename_ask r _ _) (λ c. rename_ask r _ _)))

  call_with_renamed : (e : Expr C) (args : Args C) (m : Macro C N) → Renames {F = F} r (call_with f e args m) (call_with f e args (relabel_macro r m))
  call_with_renamed e args m = call_renamed r (callee e) (base_renamed e) (expr_renamed e) (λ t. arguments_renamed (positional_renamed args t) (rename_next r (keyword_renamed args nothing_yet) (λ k. rename_next r (made_renamed m) (λ v. rename_give r _))))

  within_renamed : (mode : CaptureMode) (e : Expr C) → Renames {F = F} r (within f mode e) (within f mode e)
  within_renamed mode e =
      rename_next r (rename_ask r _ _) λ _.
      rename_next r (rename_ask r _ _) λ _.
      rename_next r (expr_renamed e) (λ v. rename_ask r _ _)

  look_up_renamed : (ns : List (Expr C × Optional C)) → Renames {F = F} r (look_up f ns) (look_up f ns)
  look_up_renamed [] = rename_give r []
  look_up_renamed (n ∷ ns) = rename_next r (expr_renamed n.0) (λ v. rename_next r (look_up_renamed ns) (λ vs. rename_give r _))

  store_back_renamed : (ns : List (Expr C × Optional C)) (vs : List C) → Renames {F = F} r (store_back f ns vs) (store_back f ns vs)
  store_back_renamed [] vs = rename_give r tt
  store_back_renamed (n ∷ ns) [] = rename_give r tt
  store_back_renamed (n ∷ ns) (v ∷ vs) = rename_next r (store_back_renamed ns vs) (λ _. assign_renamed (stored_as n) v)

  mutual
    pub stmt_renamed : (s : Stmt C N) → Renames r (stmt f s) (stmt f (relabel r s))
    stmt_renamed (template ss) = stmts_renamed ss
    stmt_renamed (data_text t) = rename_next r (rename_ask r _ _) (λ _. rename_give r On)
    stmt_renamed (output e) = write_renamed (written e) (expr_renamed e)
    stmt_renamed (assignment target e) = rename_next r (expr_renamed e) (λ v. rename_next r (assign_renamed target v) (λ _. rename_give r On))
    stmt_renamed (for_loop n target e only recursive body else_body) =
        rename_next r (expr_renamed e) λ v.
        rename_next r (passing_renamed target only v) λ u.
        rename_next r (looped_renamed n target recursive (stmts_renamed body) u) λ came.
        rename_choose r came (rename_give r On) (stmts_renamed else_body)
    stmt_renamed (if_cond e true_body false_body) = rename_next r (expr_renamed e) (λ v. rename_choose r (f.is_true v) (stmts_renamed true_body) (stmts_renamed false_body))
    stmt_renamed (with_block ts body) =
        rename_next r (rename_ask r _ _) λ _.
        rename_next r (assign_all_renamed ts) λ _.
        rename_next r (stmts_renamed body) λ g.
        rename_next r (rename_ask r _ _) (λ _. rename_give r g)
    stmt_renamed (set_block target chain body) =
        rename_next r (rename_ask r _ _) λ _.
        rename_next r (stmts_renamed body) λ g.
        rename_next r (rename_ask r _ _) λ v.
        on_renamed g (rename_next r (rename_next r (filtered_renamed chain v) (assign_renamed target)) (λ _. rename_give r On))
    stmt_renamed (auto_escape e body) =
        rename_next r (expr_renamed e) λ v.
        rename_next r (rename_ask r _ _) λ _.
        rename_next r (stmts_renamed body) λ g.
        rename_next r (rename_ask r _ _) (λ _. rename_give r g)
    stmt_renamed (filter_block chain body) =
        rename_next r (rename_ask r _ _) λ _.
        rename_next r (stmts_renamed body) λ g.
        rename_next r (rename_ask r _ _) λ v.
        on_renamed g (rename_next r (rename_next r (expr_renamed (fed v chain)) (λ u. rename_ask r _ _)) (λ _. rename_give r On))
    stmt_renamed (named_block x required body) = rename_next r (rename_ask r _ _) (λ _. rename_give r On)
    stmt_renamed (extends e) = rename_next r (expr_renamed e) (λ v. rename_next r (rename_ask r _ _) (λ _. rename_give r On))
    stmt_renamed (include e ignore) = rename_next r (expr_renamed e) (λ v. rename_next r (rename_ask r _ _) (λ _. rename_give r On))
    stmt_renamed (import_all e target) =
        rename_next r (within_renamed _ e) λ _.
        rename_next r (rename_ask r _ _) λ _.
        rename_next r (rename_ask r _ _) λ u.
        rename_next r (rename_ask r _ _) λ _.
        rename_next r (assign_renamed target u) (λ _. rename_give r On)
    stmt_renamed (from_import e ns) =
        rename_next r (within_renamed _ e) λ _.
        rename_next r (look_up_renamed ns) λ vs.
        rename_next r (rename_ask r _ _) λ _.
        rename_next r (store_back_renamed ns vs) λ _.
        rename_next r (rename_ask r _ _) (λ _. rename_give r On)
    stmt_renamed (declare (macro n x args defaults body)) = rename_next r (made_renamed (macro n x args defaults body)) (λ v. rename_next r (rename_ask r _ _) (λ _. rename_give r On))
    stmt_renamed (call_block e args m) = rename_next r (call_with_renamed e args m) (λ v. rename_next r (rename_ask r _ _) (λ _. rename_give r On))
    stmt_renamed (do_call e args) = rename_next r (expr_renamed (call e args)) (λ v. rename_give r On)
    stmt_renamed break_loop = rename_give r Broke
    stmt_renamed continue_loop = rename_give r Continued

    stmts_renamed : (ss : Stmts C N) → Renames r (stmts f ss) (stmts f (relabel_all r ss))
    stmts_renamed done = rename_give r On
    stmts_renamed (also s rest) = rename_next r (stmt_renamed s) (λ g. on_renamed g (stmts_renamed rest))
