-- The marks of blocks' lists, while statements are walked through.
use Rattle.std.proofs.Common.{◌≡◌, ◌≢◌, ℕ, suc, ◌+◌, ◌<◌, ◌≤◌, List, [], ◌∷◌, ◌++◌, length, drop, get_or, map, Some, refl, sym, ap, ap₂, ◌∙◌, subst, arith, append_assoc}
use Rattle.std.specs.Prelude.{All, AllPairs}
use Rattle.std.specs.Borrow.{Bor}
use Rattle.std.specs.BTreeMap.{BTreeMap}
use Rattle.std.proofs.lemmas.List.{append-nil, at_drop_more, at_drop_all, map-append}
use Rattle.std.proofs.lemmas.List.Elements.{All-nil, All-cons, All-head, All-tail, All-append}
use Rattle.std.proofs.lemmas.List.Kept.{AllPairs-cons}
use Rattle.minijinja_syntax.specs.Texts.{Text}
use Rattle.minijinja_value.specs.Values.{Functions}
use Rattle.minijinja_tree.specs.Erasure.{stmt_tree}
use Rattle.minijinja_tree.specs.SpannedErasure.{stmt_node, stmt_nodes}
use Rattle.minijinja_tree.specs.SpannedTrees.{Stmt, template, data_text, output, assignment, for_loop, if_cond, with_block, set_block, auto_escape, filter_block, named_block, extends, include, import_all, from_import, declare, call_block, do_call, break_loop, continue_loop, Stmts, done, also, Macro, macro, stmts_of, bare_stmt, bare_stmts, bare_macro}
use Rattle.minijinja_tree.specs.Tree.{Block, blocks, all_blocks, macro_blocks, names_of_blocks}
use Rattle.minijinja_tree.specs.WellFormed.{AreDistinct}
use Rattle.minijinja_tree.specs.declared.ast.Stmt.{Stmt as Node}
use Rattle.minijinja_tree.proofs.Bare.{stmt_is}
use Rattle.minijinja_instructions.specs.InstructionLists.{Instructions, marks_of}
use Rattle.minijinja_semantics.specs.Marks.{block_marks}
use Rattle.minijinja_code.specs.BlockLists.{list_of}
use Rattle.minijinja_code.specs.BlockMarks.{MarkedBlock, marked_blocks, all_marked_blocks, macro_marked_blocks, HaveMarks}
use Rattle.minijinja_code.specs.private.Lists.{AddsMarks, marked_bodies_of, marked_macro_body, own_marked}

-- the statements of a body
abbrev pub nodes_of : {V K C : Type 0} → (V → C) → List (Node V K) → Stmts C
nodes_of c xs = stmts_of (stmt_nodes c xs)

module _ {C : Type 0} where
  -- no second body
  alone : (own : List (MarkedBlock C)) (ss : Stmts C) → own ++ all_marked_blocks ss ≡ own ++ (all_marked_blocks ss ++ [])
  alone own ss = ap (λ l. own ++ l) (sym (append-nil (all_marked_blocks ss)))

  in_macro : (m : Macro C) → macro_marked_blocks m ≡ all_marked_blocks (marked_macro_body m) ++ []
  in_macro (macro x args defaults body s) = alone [] body

  -- the blocks of a statement: itself, and those in its bodies
  marked_are : (s : Stmt C) → marked_blocks s ≡ own_marked s ++ (all_marked_blocks (marked_bodies_of s).0 ++ all_marked_blocks (marked_bodies_of s).1)
  marked_are (template ss s) = alone [] ss
  marked_are (data_text t s) = refl
  marked_are (output e s) = refl
  marked_are (assignment t e s) = refl
  marked_are (for_loop t e only recursive body else_body s) = refl
  marked_are (if_cond e true_body false_body s) = refl
  marked_are (with_block ts body s) = alone [] body
  marked_are (set_block t chain body s) = alone [] body
  marked_are (auto_escape e body s) = alone [] body
  marked_are (filter_block chain body s) = alone [] body
  marked_are (named_block x required body s) = alone (record { name = x; span = s; body = body } ∷ []) body
  marked_are (extends e s) = refl
  marked_are (include e ignore s) = refl
  marked_are (import_all e t s) = refl
  marked_are (from_import e names s) = refl
  marked_are (declare m) = in_macro m
  marked_are (call_block e args from m s) = in_macro m
  marked_are (do_call e args from s) = refl
  marked_are (break_loop s) = refl
  marked_are (continue_loop s) = refl

  abbrev pub names_of_marked : List (MarkedBlock C) → List Text
  names_of_marked bs = map (λ b. b.name) bs

-- ---- the same blocks without spans have the same names

named_append : {C L : Type 0} (bs ds : List (Block C L)) → names_of_blocks (bs ++ ds) ≡ names_of_blocks bs ++ names_of_blocks ds
named_append [] ds = refl
named_append (b ∷ bs) ds = ap (λ l. b.name ∷ l) (named_append bs ds)

both_named : {C L : Type 0} (ms ns : List (MarkedBlock C)) (bs ds : List (Block C L)) → names_of_marked ms ≡ names_of_blocks bs → names_of_marked ns ≡ names_of_blocks ds → names_of_marked (ms ++ ns) ≡ names_of_blocks (bs ++ ds)
both_named {C} ms ns bs ds h k = map-append (λ (b : MarkedBlock C). b.name) ms ns ∙ ap₂ (λ xs ys. xs ++ ys) h k ∙ sym (named_append bs ds)

mutual
  names_are : {C : Type 0} (s : Stmt C) → names_of_marked (marked_blocks s) ≡ names_of_blocks (blocks (bare_stmt s))
  names_are (template ss s) = all_names_are ss
  names_are (data_text t s) = refl
  names_are (output e s) = refl
  names_are (assignment t e s) = refl
  names_are (for_loop t e only recursive body else_body s) = both_named (all_marked_blocks body) (all_marked_blocks else_body) (all_blocks (bare_stmts body)) (all_blocks (bare_stmts else_body)) (all_names_are body) (all_names_are else_body)
  names_are (if_cond e true_body false_body s) = both_named (all_marked_blocks true_body) (all_marked_blocks false_body) (all_blocks (bare_stmts true_body)) (all_blocks (bare_stmts false_body)) (all_names_are true_body) (all_names_are false_body)
  names_are (with_block ts body s) = all_names_are body
  names_are (set_block t chain body s) = all_names_are body
  names_are (auto_escape e body s) = all_names_are body
  names_are (filter_block chain body s) = all_names_are body
  names_are (named_block x required body s) = ap (λ l. x ∷ l) (all_names_are body)
  names_are (extends e s) = refl
  names_are (include e ignore s) = refl
  names_are (import_all e t s) = refl
  names_are (from_import e names s) = refl
  names_are (declare m) = macro_names_are m
  names_are (call_block e args from m s) = macro_names_are m
  names_are (do_call e args from s) = refl
  names_are (break_loop s) = refl
  names_are (continue_loop s) = refl

  all_names_are : {C : Type 0} (ss : Stmts C) → names_of_marked (all_marked_blocks ss) ≡ names_of_blocks (all_blocks (bare_stmts ss))
  all_names_are done = refl
  all_names_are (also s rest) = both_named (marked_blocks s) (all_marked_blocks rest) (blocks (bare_stmt s)) (all_blocks (bare_stmts rest)) (names_are s) (all_names_are rest)

  macro_names_are : {C : Type 0} (m : Macro C) → names_of_marked (macro_marked_blocks m) ≡ names_of_blocks (macro_blocks (bare_macro m))
  macro_names_are (macro x args defaults body s) = all_names_are body

none_named : {C : Type 0} (bs : List (MarkedBlock C)) → names_of_marked bs ≡ [] → bs ≡ []
none_named [] e = refl
none_named (b ∷ bs) e = absurd (cc)

module _ {V K C : Type 0} (c : V → C) where
  marked_names : (s : Node V K) → names_of_marked (marked_blocks (stmt_node c s)) ≡ names_of_blocks (blocks (stmt_tree c s))
  marked_names s = names_are (stmt_node c s) ∙ ap (λ t. names_of_blocks (blocks t)) (stmt_is c s)

  -- a statement that has no blocks
  pub none_marked : (s : Node V K) → blocks (stmt_tree c s) ≡ [] → marked_blocks (stmt_node c s) ≡ []
  none_marked s e = none_named (marked_blocks (stmt_node c s)) (marked_names s ∙ ap names_of_blocks e)

  module _ (xs : List (Node V K)) (i : ℕ) (x : Node V K) where
    pub nodes_next : i < length xs → x ≡ get_or xs i x → nodes_of c (drop i xs) ≡ also (stmt_node c x) (nodes_of c (drop (i + 1) xs))
    nodes_next within at = at_drop_more (λ ys. nodes_of c ys) xs i x within ∙ ap (λ y. also (stmt_node c y) (nodes_of c (drop (i + 1) xs))) (sym at)

    -- the blocks of a body from a place on
    pub marked_next : i < length xs → x ≡ get_or xs i x → (more : _) → all_marked_blocks (nodes_of c (drop i xs)) ++ more ≡ marked_blocks (stmt_node c x) ++ (all_marked_blocks (nodes_of c (drop (i + 1) xs)) ++ more)
    marked_next within at more = ap (λ ss. all_marked_blocks ss ++ more) (nodes_next within at) ∙ append_assoc (marked_blocks (stmt_node c x)) (all_marked_blocks (nodes_of c (drop (i + 1) xs))) more

    pub marked_after : i < length xs → x ≡ get_or xs i x → all_marked_blocks (nodes_of c (drop i xs)) ≡ marked_blocks (stmt_node c x) ++ all_marked_blocks (nodes_of c (drop (i + 1) xs))
    marked_after within at = ap all_marked_blocks (nodes_next within at)

  pub nodes_end : (xs : List (Node V K)) (i : ℕ) → length xs ≤ i → nodes_of c (drop i xs) ≡ done
  nodes_end xs i past = at_drop_all (λ ys. nodes_of c ys) xs i past

  pub marked_end : (xs : List (Node V K)) (i : ℕ) → length xs ≤ i → all_marked_blocks (nodes_of c (drop i xs)) ≡ []
  marked_end xs i past = ap all_marked_blocks (nodes_end xs i past)

-- ---- names that stand once

module _ {C : Type 0} where
  abbrev Others : Text → List (MarkedBlock C) → Type 0
  Others x bs = All (λ b. b.name ≢ x) bs

  abbrev Apart : List (MarkedBlock C) → Type 0
  Apart bs = AllPairs (λ a b. b.name ≢ a.name) bs

  others_named : (x : Text) (bs : List (MarkedBlock C)) → All (λ y. x ≢ y) (names_of_marked bs) → Others x bs
  others_named x [] h = All-nil (λ b. b.name ≢ x)
  others_named x (b ∷ bs) h =
      All-cons (λ b. b.name ≢ x) b bs (λ e. All-head (λ y. x ≢ y) b.name (names_of_marked bs) h (sym e)) (others_named x bs (All-tail (λ y. x ≢ y) b.name (names_of_marked bs) h))

  apart_named : (bs : List (MarkedBlock C)) → AreDistinct (names_of_marked bs) → Apart bs
  apart_named [] h = λ i j d before within. absurd (omega (arith, within))
  apart_named (b ∷ bs) h =
      let head : All (λ y. b.name ≢ y) (names_of_marked bs) = λ k d within. h 0 (suc k) d (omega arith) (omega (arith, within)) in
      let tail : AreDistinct (names_of_marked bs) = λ i j d before within. h (suc i) (suc j) d (omega (arith, before)) (omega (arith, within)) in
      AllPairs-cons (λ a b. b.name ≢ a.name) b bs (others_named b.name bs head) (apart_named bs tail)

  apart_head : (b : MarkedBlock C) (bs : List (MarkedBlock C)) → Apart (b ∷ bs) → Others b.name bs
  apart_head b bs h = λ k d within. h 0 (suc k) d (omega arith) (omega (arith, within))

  apart_tail : (b : MarkedBlock C) (bs : List (MarkedBlock C)) → Apart (b ∷ bs) → Apart bs
  apart_tail b bs h = λ i j d before within. h (suc i) (suc j) d (omega (arith, before)) (omega (arith, within))

  first_others : (x : Text) (bs ds : List (MarkedBlock C)) → Others x (bs ++ ds) → Others x bs
  first_others x [] ds h = All-nil (λ b. b.name ≢ x)
  first_others x (b ∷ bs) ds h = All-cons (λ b. b.name ≢ x) b bs (All-head (λ b. b.name ≢ x) b (bs ++ ds) h) (first_others x bs ds (All-tail (λ b. b.name ≢ x) b (bs ++ ds) h))

  last_others : (x : Text) (bs ds : List (MarkedBlock C)) → Others x (bs ++ ds) → Others x ds
  last_others x [] ds h = h
  last_others x (b ∷ bs) ds h = last_others x bs ds (All-tail (λ b. b.name ≢ x) b (bs ++ ds) h)

  apart_first : (bs ds : List (MarkedBlock C)) → Apart (bs ++ ds) → Apart bs
  apart_first [] ds h = λ i j d before within. absurd (omega (arith, within))
  apart_first (b ∷ bs) ds h = AllPairs-cons (λ a b. b.name ≢ a.name) b bs (first_others b.name bs ds (apart_head b (bs ++ ds) h)) (apart_first bs ds (apart_tail b (bs ++ ds) h))

-- ---- the walk

module _ {V E C F : Type 0} (f : Functions C F) where
  abbrev HasMarks : BTreeMap (Bor Text) (Instructions V E) → MarkedBlock C → Type 0
  HasMarks lists b = (c : Instructions V E) × (list_of lists b.name ≡ Some c) × (marks_of c ≡ block_marks f b.span b.body)

  -- marks stay where other lists are added
  marks_stay : (bs ds : List (MarkedBlock C)) (mid new : BTreeMap (Bor Text) (Instructions V E)) → Apart (bs ++ ds) → HaveMarks f bs mid → ((x : Text) → Others x ds → list_of new x ≡ list_of mid x) → HaveMarks f bs new
  marks_stay [] ds mid new apart have others = All-nil (HasMarks new)
  marks_stay (b ∷ bs) ds mid new apart have others =
      let here : HasMarks mid b = All-head (HasMarks mid) b bs have in
      let same = others b.name (last_others b.name bs ds (apart_head b (bs ++ ds) apart)) in
      All-cons (HasMarks new) b bs (here.0, same ∙ here.1, here.2) (marks_stay bs ds mid new (apart_tail b (bs ++ ds) apart) (All-tail (HasMarks mid) b bs have) others)

  marks_both : (bs ds : List (MarkedBlock C)) (old mid new : BTreeMap (Bor Text) (Instructions V E)) → Apart (bs ++ ds) → AddsMarks f bs old mid → AddsMarks f ds mid new → AddsMarks f (bs ++ ds) old new
  marks_both bs ds old mid new apart a b = record {
    added = All-append (HasMarks new) bs ds (marks_stay bs ds mid new apart a.added b.others) b.added;
    others = λ x h. b.others x (last_others x bs ds h) ∙ a.others x (first_others x bs ds h);
  }

  pub marks_none : (bs : List (MarkedBlock C)) (m : BTreeMap (Bor Text) (Instructions V E)) → bs ≡ [] → AddsMarks f bs m m
  marks_none bs m e = rw e (record { added = All-nil (HasMarks m); others = λ x h. refl })

  -- a list is put under the name of its block
  pub marks_added : (b : MarkedBlock C) (c : Instructions V E) (old new : BTreeMap (Bor Text) (Instructions V E)) → marks_of c ≡ block_marks f b.span b.body → list_of new b.name ≡ Some c → ((x : Text) → b.name ≢ x → list_of new x ≡ list_of old x) → AddsMarks f (b ∷ []) old new
  marks_added b c old new is here others = record {
    added = All-cons (HasMarks new) b [] (c, here, is) (All-nil (HasMarks new));
    others = λ x h. others x (All-head (λ (d : MarkedBlock C). d.name ≢ x) b [] h);
  }

  -- Of all these blocks some have their lists, and these are left.
  pub record MarkWalking (whole : List (MarkedBlock C)) (first : BTreeMap (Bor Text) (Instructions V E)) (left : List (MarkedBlock C)) (now : BTreeMap (Bor Text) (Instructions V E)) : Type 0 where
    pub made : List (MarkedBlock C)
    pub all : made ++ left ≡ whole
    pub added : AddsMarks f made first now

  -- the walk begins with the bodies of a statement
  pub marks_start : (s : Stmt C) {first now : BTreeMap (Bor Text) (Instructions V E)} (bs ds : List (MarkedBlock C)) → bs ≡ all_marked_blocks (marked_bodies_of s).0 → ds ≡ all_marked_blocks (marked_bodies_of s).1 → AddsMarks f (own_marked s) first now → MarkWalking (marked_blocks s) first (bs ++ ds) now
  marks_start s bs ds here there a = record {
    made = own_marked s;
    all = ap (λ l. own_marked s ++ (l ++ ds)) here ∙ ap (λ l. own_marked s ++ (all_marked_blocks (marked_bodies_of s).0 ++ l)) there ∙ sym (marked_are s);
    added = a;
  }

  -- the marks of one more statement are added
  pub marks_on : {K : Type 0} (v : V → C) (s : Node V K) → AreDistinct (names_of_blocks (blocks (stmt_tree v s))) → {first now next : BTreeMap (Bor Text) (Instructions V E)} (left bs ds : List (MarkedBlock C)) → left ≡ bs ++ ds → MarkWalking (marked_blocks (stmt_node v s)) first left now → AddsMarks f bs now next → MarkWalking (marked_blocks (stmt_node v s)) first ds next
  marks_on v s distinct {first} {now} {next} left bs ds is w a =
      let whole = marked_blocks (stmt_node v s) in
      let apart : Apart whole = apart_named whole (subst AreDistinct (sym (marked_names v s)) distinct) in
      let all : (w.made ++ bs) ++ ds ≡ whole = append_assoc w.made bs ds ∙ ap (λ l. w.made ++ l) (sym is) ∙ w.all in
      record { made = w.made ++ bs; all = all; added = marks_both w.made bs first now next (apart_first (w.made ++ bs) ds (subst Apart (sym all) apart)) w.added a }

  -- none is left
  pub marks_end : (whole left : List (MarkedBlock C)) {first now : BTreeMap (Bor Text) (Instructions V E)} → left ≡ [] → MarkWalking whole first left now → AddsMarks f whole first now
  marks_end whole left {first} {now} none w = subst (λ bs. AddsMarks f bs first now) (sym (append-nil w.made) ∙ ap (λ l. w.made ++ l) (sym none) ∙ w.all) w.added
