-- The tests hold exactly of what is well formed.
use Rattle.std.proofs.Common.{◌≡◌, ◌++◌, true, false, refl, sym, ap, subst}
use Rattle.std.specs.Prelude.{Bool, not, ◌&&◌, ◌||◌, ◌↔◌, nat_le, IsTrue, List, [], ◌∷◌, length}
use Rattle.std.specs.List.{list_any, IsDistinct, AllByRecursion}
use Rattle.std.specs.Str.{bytes_eq}
use Rattle.std.proofs.lemmas.Map.Keys.{IsDistinct-head, IsDistinct-tail, IsDistinct-cons}
use Rattle.std.proofs.lemmas.Map.Made.{AllPairs-from_IsDistinct, IsDistinct-from_AllPairs}
use Rattle.std.proofs.lemmas.Slice.Eq.{bytes_eq-Decides}
use Rattle.minijinja_syntax.specs.Texts.{Text}
use Rattle.minijinja_tree.specs.Tree.{Stmt, template, data_text, output, assignment, for_loop, if_cond, with_block, set_block, auto_escape, filter_block, named_block, extends, include, import_all, from_import, declare, call_block, do_call, break_loop, continue_loop, Stmts, done, also, Macro, macro, Block, blocks, all_blocks, macro_blocks, names_of_blocks, block_names}
use Rattle.minijinja_tree.specs.WellFormed.{AreDistinct, IsInner, AreInner, IsMacro, IsRoot, IsWellFormed}
use Rattle.minijinja_well_formed.specs.private.StatementTests.{is_whole, is_whole_if_any, takes_arguments, is_target, are_assignments, is_chain_of_filters, is_chain_if_any, are_variables, are_all_whole, are_names, is_macro_headed, is_inner, are_inner, is_macro, is_root, are_distinct, is_well_formed}
use Rattle.minijinja_well_formed.proofs.ExpressionTesting.{both, left, right, whole-holds, any-holds, whole-tests, any-tests, target-holds, target-tests, assignments-hold, assignments-test, taken-hold, taken-few, taken-test, filters-hold, filters-test, any-filters-hold, any-filters-test, variables-hold, variables-test, all-whole-hold, all-whole-test, names-hold, names-test, no-more-holds, no-more-tests}

-- ---- blocks

none-both : {X : Type 0} (xs ys : List X) → xs ≡ [] → ys ≡ [] → xs ++ ys ≡ []
none-both xs ys h k = rw (h, k) refl

none-left : {X : Type 0} (xs ys : List X) → xs ++ ys ≡ [] → xs ≡ []
none-left [] ys h = refl
none-left (x ∷ xs) ys h = cc

none-right : {X : Type 0} (xs ys : List X) → xs ++ ys ≡ [] → ys ≡ []
none-right [] ys h = h
none-right (x ∷ xs) ys h = cc

no-names : {C L : Type 0} (bs : List (Block C L)) → names_of_blocks bs ≡ [] → bs ≡ []
no-names [] h = refl
no-names (b ∷ bs) h = cc

-- what passes in a macro has no block
mutual
  inner-free : {C L : Type 0} (l : Bool) (s : Stmt C L) → IsTrue (is_inner l true s) → blocks s ≡ []
  inner-free l (template ss) h = cc
  inner-free l (data_text t) h = refl
  inner-free l (output e) h = refl
  inner-free l (assignment e v) h = refl
  inner-free l (for_loop n t e only again ss other) h = let bodies = right (is_target t && (is_whole e && is_whole_if_any only)) (are_inner true true ss && are_inner l true other) h in
      none-both (all_blocks ss) (all_blocks other) (inners-free true ss (left (are_inner true true ss) (are_inner l true other) bodies)) (inners-free l other (right (are_inner true true ss) (are_inner l true other) bodies))
  inner-free l (if_cond e ss other) h = let bodies = right (is_whole e) (are_inner l true ss && are_inner l true other) h in
      none-both (all_blocks ss) (all_blocks other) (inners-free l ss (left (are_inner l true ss) (are_inner l true other) bodies)) (inners-free l other (right (are_inner l true ss) (are_inner l true other) bodies))
  inner-free l (with_block xs ss) h = inners-free l ss (right (are_assignments xs) (are_inner l true ss) h)
  inner-free l (set_block t e ss) h = inners-free l ss (right (is_target t && is_chain_if_any e) (are_inner l true ss) h)
  inner-free l (auto_escape e ss) h = inners-free l ss (right (is_whole e) (are_inner l true ss) h)
  inner-free l (filter_block e ss) h = inners-free l ss (right (is_chain_of_filters e) (are_inner l true ss) h)
  inner-free l (named_block x required ss) h = cc
  inner-free l (extends e) h = refl
  inner-free l (include e ignore) h = refl
  inner-free l (import_all e t) h = refl
  inner-free l (from_import e ns) h = refl
  inner-free l (declare d) h = macro-free d h
  inner-free l (call_block e args d) h = macro-free d (right (is_whole e && takes_arguments args) (is_macro d) h)
  inner-free l (do_call e args) h = refl
  inner-free l break_loop h = refl
  inner-free l continue_loop h = refl

  inners-free : {C L : Type 0} (l : Bool) (ss : Stmts C L) → IsTrue (are_inner l true ss) → all_blocks ss ≡ []
  inners-free l done h = refl
  inners-free l (also s ss) h = none-both (blocks s) (all_blocks ss) (inner-free l s (left (is_inner l true s) (are_inner l true ss) h)) (inners-free l ss (right (is_inner l true s) (are_inner l true ss) h))

  macro-free : {C L : Type 0} (d : Macro C L) → IsTrue (is_macro d) → macro_blocks d ≡ []
  macro-free (macro n x args defaults ss) h = inners-free false ss (right (is_macro_headed (macro n x args defaults ss)) (are_inner false true ss) h)

mutual
  inner-holds : {C L : Type 0} (l m : Bool) (s : Stmt C L) → IsTrue (is_inner l m s) → IsInner l s
  inner-holds l m (template ss) h = cc
  inner-holds l m (data_text t) h = tt
  inner-holds l m (output e) h = whole-holds e h
  inner-holds l m (assignment e v) h = (target-holds e (left (is_target e) (is_whole v) h), whole-holds v (right (is_target e) (is_whole v) h))
  inner-holds l m (for_loop n t e only again ss other) h =
      let head = left (is_target t && (is_whole e && is_whole_if_any only)) (are_inner true m ss && are_inner l m other) h in
      let bodies = right (is_target t && (is_whole e && is_whole_if_any only)) (are_inner true m ss && are_inner l m other) h in
      let k = right (is_target t) (is_whole e && is_whole_if_any only) head in (
        target-holds t (left (is_target t) (is_whole e && is_whole_if_any only) head),
        whole-holds e (left (is_whole e) (is_whole_if_any only) k),
        any-holds only (right (is_whole e) (is_whole_if_any only) k),
        inners-hold true m ss (left (are_inner true m ss) (are_inner l m other) bodies),
        inners-hold l m other (right (are_inner true m ss) (are_inner l m other) bodies),
      )
  inner-holds l m (if_cond e ss other) h = let bodies = right (is_whole e) (are_inner l m ss && are_inner l m other) h in (
    whole-holds e (left (is_whole e) (are_inner l m ss && are_inner l m other) h),
    inners-hold l m ss (left (are_inner l m ss) (are_inner l m other) bodies),
    inners-hold l m other (right (are_inner l m ss) (are_inner l m other) bodies),
  )
  inner-holds l m (with_block xs ss) h = (assignments-hold xs (left (are_assignments xs) (are_inner l m ss) h), inners-hold l m ss (right (are_assignments xs) (are_inner l m ss) h))
  inner-holds l m (set_block t e ss) h = let head = left (is_target t && is_chain_if_any e) (are_inner l m ss) h in (
    target-holds t (left (is_target t) (is_chain_if_any e) head),
    any-filters-hold e (right (is_target t) (is_chain_if_any e) head),
    inners-hold l m ss (right (is_target t && is_chain_if_any e) (are_inner l m ss) h),
  )
  inner-holds l m (auto_escape e ss) h = (whole-holds e (left (is_whole e) (are_inner l m ss) h), inners-hold l m ss (right (is_whole e) (are_inner l m ss) h))
  inner-holds l m (filter_block e ss) h = (filters-hold e (left (is_chain_of_filters e) (are_inner l m ss) h), inners-hold l m ss (right (is_chain_of_filters e) (are_inner l m ss) h))
  inner-holds l m (named_block x required ss) h = inners-hold false m ss (right (not m) (are_inner false m ss) h)
  inner-holds l m (extends e) h = whole-holds e h
  inner-holds l m (include e ignore) h = whole-holds e h
  inner-holds l m (import_all e t) h = (whole-holds e (left (is_whole e) (is_target t) h), target-holds t (right (is_whole e) (is_target t) h))
  inner-holds l m (from_import e ns) h = (whole-holds e (left (is_whole e) (are_names ns) h), names-hold ns (right (is_whole e) (are_names ns) h))
  inner-holds l m (declare d) h = macro-holds d h
  inner-holds l m (call_block e args d) h =
      let head = left (is_whole e && takes_arguments args) (is_macro d) h in
      let k = right (is_whole e) (takes_arguments args) head in
      ((whole-holds e (left (is_whole e) (takes_arguments args) head), taken-hold args k, taken-few args k), macro-holds d (right (is_whole e && takes_arguments args) (is_macro d) h))
  inner-holds l m (do_call e args) h = let k = right (is_whole e) (takes_arguments args) h in (whole-holds e (left (is_whole e) (takes_arguments args) h), taken-hold args k, taken-few args k)
  inner-holds l m break_loop h = h
  inner-holds l m continue_loop h = h

  inners-hold : {C L : Type 0} (l m : Bool) (ss : Stmts C L) → IsTrue (are_inner l m ss) → AreInner l ss
  inners-hold l m done h = tt
  inners-hold l m (also s ss) h = (inner-holds l m s (left (is_inner l m s) (are_inner l m ss) h), inners-hold l m ss (right (is_inner l m s) (are_inner l m ss) h))

  macro-holds : {C L : Type 0} (d : Macro C L) → IsTrue (is_macro d) → IsMacro d
  macro-holds (macro n x args defaults ss) h =
      let head = left (are_variables args && (are_all_whole defaults && nat_le (length defaults) (length args))) (are_inner false true ss) h in
      let body = right (are_variables args && (are_all_whole defaults && nat_le (length defaults) (length args))) (are_inner false true ss) h in
      let k = right (are_variables args) (are_all_whole defaults && nat_le (length defaults) (length args)) head in (
        variables-hold args (left (are_variables args) (are_all_whole defaults && nat_le (length defaults) (length args)) head),
        all-whole-hold defaults (left (are_all_whole defaults) (nat_le (length defaults) (length args)) k),
        no-more-holds (length defaults) (length args) (right (are_all_whole defaults) (nat_le (length defaults) (length args)) k),
        inners-hold false true ss body,
        ap names_of_blocks (inners-free false ss body),
      )

-- where the first holds there is none of these
abbrev NoneIf : {X : Type 0} → Bool → List X → Type 0
NoneIf true xs = xs ≡ []
NoneIf false xs = Unit {0}

if-left : {X : Type 0} (m : Bool) (xs ys : List X) → NoneIf m (xs ++ ys) → NoneIf m xs
if-left true xs ys h = none-left xs ys h
if-left false xs ys h = tt

if-right : {X : Type 0} (m : Bool) (xs ys : List X) → NoneIf m (xs ++ ys) → NoneIf m ys
if-right true xs ys h = none-right xs ys h
if-right false xs ys h = tt

mutual
  inner-tests : {C L : Type 0} (l m : Bool) (s : Stmt C L) → IsInner l s → NoneIf m (blocks s) → IsTrue (is_inner l m s)
  inner-tests l m (template ss) h k = absurd h
  inner-tests l m (data_text t) h k = refl
  inner-tests l m (output e) h k = whole-tests e h
  inner-tests l m (assignment e v) h k = both (is_target e) _ (target-tests e h.0) (whole-tests v h.1)
  inner-tests l m (for_loop n t e only again ss other) h k =
      both (is_target t && (is_whole e && is_whole_if_any only)) _
      (both (is_target t) _ (target-tests t h.0) (both (is_whole e) _ (whole-tests e h.1) (any-tests only h.2)))
      (both (are_inner true m ss) _ (inners-test true m ss h.3 (if-left m (all_blocks ss) (all_blocks other) k)) (inners-test l m other h.4 (if-right m (all_blocks ss) (all_blocks other) k)))
  inner-tests l m (if_cond e ss other) h k = both (is_whole e) _ (whole-tests e h.0)
      (both (are_inner l m ss) _ (inners-test l m ss h.1 (if-left m (all_blocks ss) (all_blocks other) k)) (inners-test l m other h.2 (if-right m (all_blocks ss) (all_blocks other) k)))
  inner-tests l m (with_block xs ss) h k = both (are_assignments xs) _ (assignments-test xs h.0) (inners-test l m ss h.1 k)
  inner-tests l m (set_block t e ss) h k = both (is_target t && is_chain_if_any e) _ (both (is_target t) _ (target-tests t h.0) (any-filters-test e h.1)) (inners-test l m ss h.2 k)
  inner-tests l m (auto_escape e ss) h k = both (is_whole e) _ (whole-tests e h.0) (inners-test l m ss h.1 k)
  inner-tests l m (filter_block e ss) h k = both (is_chain_of_filters e) _ (filters-test e h.0) (inners-test l m ss h.1 k)
  inner-tests l true (named_block x required ss) h k = cc
  inner-tests l false (named_block x required ss) h k = inners-test false false ss h tt
  inner-tests l m (extends e) h k = whole-tests e h
  inner-tests l m (include e ignore) h k = whole-tests e h
  inner-tests l m (import_all e t) h k = both (is_whole e) _ (whole-tests e h.0) (target-tests t h.1)
  inner-tests l m (from_import e ns) h k = both (is_whole e) _ (whole-tests e h.0) (names-test ns h.1)
  inner-tests l m (declare d) h k = macro-tests d h
  inner-tests l m (call_block e args d) h k = both (is_whole e && takes_arguments args) _ (both (is_whole e) _ (whole-tests e h.0.0) (taken-test args h.0.1 h.0.2)) (macro-tests d h.1)
  inner-tests l m (do_call e args) h k = both (is_whole e) _ (whole-tests e h.0) (taken-test args h.1 h.2)
  inner-tests l m break_loop h k = h
  inner-tests l m continue_loop h k = h

  inners-test : {C L : Type 0} (l m : Bool) (ss : Stmts C L) → AreInner l ss → NoneIf m (all_blocks ss) → IsTrue (are_inner l m ss)
  inners-test l m done h k = refl
  inners-test l m (also s ss) h k = both (is_inner l m s) _ (inner-tests l m s h.0 (if-left m (blocks s) (all_blocks ss) k)) (inners-test l m ss h.1 (if-right m (blocks s) (all_blocks ss) k))

  macro-tests : {C L : Type 0} (d : Macro C L) → IsMacro d → IsTrue (is_macro d)
  macro-tests (macro n x args defaults ss) h = both (are_variables args && (are_all_whole defaults && nat_le (length defaults) (length args))) _
      (both (are_variables args) _ (variables-test args h.0) (both (are_all_whole defaults) _ (all-whole-test defaults h.1) (no-more-tests (length defaults) (length args) h.2)))
      (inners-test false true ss h.3 (no-names (all_blocks ss) h.4))

-- ---- names that differ

none-among : (x : Text) (xs : List Text) → IsTrue (not (list_any (bytes_eq x) xs)) → AllByRecursion (λ y. bytes_eq x y ≡ false) xs
none-among x [] h = tt
none-among x (y ∷ ys) h = go (bytes_eq x y) refl h (none-among x ys)
  where
    go : (b : Bool) → bytes_eq x y ≡ b → IsTrue (not (b || list_any (bytes_eq x) ys)) → (IsTrue (not (list_any (bytes_eq x) ys)) → AllByRecursion (λ z. bytes_eq x z ≡ false) ys) → AllByRecursion (λ z. bytes_eq x z ≡ false) (y ∷ ys)
    go true i k further = cc
    go false i k further = (i, further k)

among-none : (x : Text) (xs : List Text) → AllByRecursion (λ y. bytes_eq x y ≡ false) xs → IsTrue (not (list_any (bytes_eq x) xs))
among-none x [] h = refl
among-none x (y ∷ ys) h = rw h.0 (among-none x ys h.1)

differ : (xs : List Text) → IsTrue (are_distinct xs) → IsDistinct bytes_eq xs
unfolding IsDistinct
differ [] h = tt
differ (x ∷ xs) h = IsDistinct-cons bytes_eq x xs (none-among x xs (left (not (list_any (bytes_eq x) xs)) (are_distinct xs) h)) (differ xs (right (not (list_any (bytes_eq x) xs)) (are_distinct xs) h))

differing : (xs : List Text) → IsDistinct bytes_eq xs → IsTrue (are_distinct xs)
differing [] h = refl
differing (x ∷ xs) h = both (not (list_any (bytes_eq x) xs)) _ (among-none x xs (IsDistinct-head bytes_eq x xs h)) (differing xs (IsDistinct-tail bytes_eq x xs h))

distinct-hold : (xs : List Text) → IsTrue (are_distinct xs) → AreDistinct xs
distinct-hold xs h = AllPairs-from_IsDistinct bytes_eq-Decides xs (differ xs h)

distinct-test : (xs : List Text) → AreDistinct xs → IsTrue (are_distinct xs)
distinct-test xs h = differing xs (IsDistinct-from_AllPairs bytes_eq-Decides xs h)

-- ---- the test of a statement

root-holds : {C L : Type 0} (s : Stmt C L) → IsTrue (is_root s) → IsRoot s
root-holds (template ss) h = inners-hold false false ss h
root-holds s h = inner-holds false false s h

root-tests : {C L : Type 0} (s : Stmt C L) → IsRoot s → IsTrue (is_root s)
root-tests (template ss) h = inners-test false false ss h tt
root-tests s h = inner-tests false false s h tt

formed-holds : {C L : Type 0} (s : Stmt C L) → IsTrue (is_well_formed s) → IsWellFormed s
formed-holds s h = (root-holds s (left (is_root s) (are_distinct (block_names s)) h), distinct-hold (block_names s) (right (is_root s) (are_distinct (block_names s)) h))

formed-tests : {C L : Type 0} (s : Stmt C L) → IsWellFormed s → IsTrue (is_well_formed s)
formed-tests s h = both (is_root s) _ (root-tests s h.0) (distinct-test (block_names s) h.1)

pub formed-decided : {C L : Type 0} (s : Stmt C L) (b : Bool) → b ≡ is_well_formed s → IsTrue b ↔ IsWellFormed s
formed-decided s b h = subst (λ b. IsTrue b ↔ IsWellFormed s) (sym h) (formed-holds s, formed-tests s)
