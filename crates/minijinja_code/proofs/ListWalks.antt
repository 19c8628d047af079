-- The lists of blocks, while statements are walked through.
use Rattle.std.proofs.Common.{◌≡◌, ◌≢◌, ℕ, zero, suc, ◌+◌, ◌<◌, ◌≤◌, ◌^◌, List, [], ◌∷◌, ◌++◌, length, drop, get_or, Some, refl, sym, ap, ◌∙◌, subst, arith, append_assoc}
use Rattle.std.specs.Prelude.{Bool, true, false, All}
use Rattle.std.specs.List.{Any}
use Rattle.std.specs.Borrow.{Bor}
use Rattle.std.specs.BTreeMap.{BTreeMap}
use denote.Param.Weighed.{most, at_most}
use Rattle.std.proofs.lemmas.List.{append-nil}
use Rattle.std.proofs.lemmas.List.Elements.{All-nil, All-cons, All-head, All-tail, All-append}
use Rattle.std.proofs.lemmas.List.Kept.{AllPairs-cons}
use Rattle.minijinja_syntax.specs.Texts.{Text}
use Rattle.minijinja_value.specs.Values.{Functions}
use Rattle.minijinja_tree.specs.Erasure.{stmt_tree}
use Rattle.minijinja_tree.specs.Tree as tree
use Rattle.minijinja_tree.specs.Tree.{template, data_text, output, assignment, for_loop, if_cond, with_block, set_block, auto_escape, filter_block, named_block, extends, include, import_all, from_import, declare, call_block, do_call, break_loop, continue_loop, Stmts, done, Macro, macro, Block, blocks, all_blocks, macro_blocks, names_of_blocks}
use Rattle.minijinja_tree.specs.WellFormed.{AreInner, IsMacro, AreDistinct}
use Rattle.minijinja_tree.specs.declared.ast.Stmt.{Stmt, size-Stmt}
use Rattle.minijinja_tree.proofs.Rows.{body_of}
use Rattle.minijinja_instructions.specs.InstructionLists.{Instructions}
use Rattle.minijinja_semantics.specs.Layout.{block_code}
use Rattle.minijinja_code.specs.BlockLists.{IsBlockList, list_of, HaveLists, AddsLists}
use Rattle.minijinja_code.specs.private.Lists.{own_block, macro_body, bodies_of}
use Rattle.minijinja_code.specs.private.Statements.{MayStand, StandsSomewhere}
use Rattle.minijinja_code.proofs.Bodies.{body_next, body_end, inner_here, inner_stands}

module _ {C L : Type 0} where
  -- no body
  alone : (own : List (Block C L)) (ss : Stmts C L) → own ++ all_blocks ss ≡ own ++ (all_blocks ss ++ [])
  alone own ss = ap (λ l. own ++ l) (sym (append-nil (all_blocks ss)))

  in_macro : (m : Macro C L) → macro_blocks m ≡ all_blocks (macro_body m) ++ []
  in_macro (macro n x args defaults body) = alone [] body

  -- the blocks of a statement: itself, and those in its bodies
  pub blocks_are : (s : tree.Stmt C L) → blocks s ≡ own_block s ++ (all_blocks (bodies_of s).0 ++ all_blocks (bodies_of s).1)
  blocks_are (template ss) = alone [] ss
  blocks_are (data_text t) = refl
  blocks_are (output e) = refl
  blocks_are (assignment e v) = refl
  blocks_are (for_loop n e v only recursive body else_body) = refl
  blocks_are (if_cond e true_body false_body) = refl
  blocks_are (with_block ts body) = alone [] body
  blocks_are (set_block e chain body) = alone [] body
  blocks_are (auto_escape e body) = alone [] body
  blocks_are (filter_block chain body) = alone [] body
  blocks_are (named_block x required body) = alone (record { name = x; required = required; body = body } ∷ []) body
  blocks_are (extends e) = refl
  blocks_are (include e ignore) = refl
  blocks_are (import_all e t) = refl
  blocks_are (from_import e names) = refl
  blocks_are (declare m) = in_macro m
  blocks_are (call_block e args m) = in_macro m
  blocks_are (do_call e args) = refl
  blocks_are break_loop = refl
  blocks_are continue_loop = refl

  -- a body that may stand somewhere
  pub record StandSomewhere (ss : Stmts C L) : Type 0 where
    pub in_loop : Bool
    pub stand : AreInner in_loop ss

  somewhere : (l : Bool) (ss : Stmts C L) → AreInner l ss → StandSomewhere ss
  somewhere l ss w = record { in_loop = l; stand = w }

  nowhere : StandSomewhere done
  nowhere = somewhere false done tt

  macro_inner : (m : Macro C L) → IsMacro m → StandSomewhere (macro_body m)
  macro_inner (macro n x args defaults body) w = somewhere false body w.3

  -- so may the bodies of a statement
  bodies_may : (s : tree.Stmt C L) (l : Bool) → MayStand l s → StandSomewhere (bodies_of s).0 × StandSomewhere (bodies_of s).1
  bodies_may (template ss) l w = (somewhere l ss w, nowhere)
  bodies_may (data_text t) l w = (nowhere, nowhere)
  bodies_may (output e) l w = (nowhere, nowhere)
  bodies_may (assignment e v) l w = (nowhere, nowhere)
  bodies_may (for_loop n e v only recursive body else_body) l w = (somewhere true body w.3, somewhere l else_body w.4)
  bodies_may (if_cond e true_body false_body) l w = (somewhere l true_body w.1, somewhere l false_body w.2)
  bodies_may (with_block ts body) l w = (somewhere l body w.1, nowhere)
  bodies_may (set_block e chain body) l w = (somewhere l body w.2, nowhere)
  bodies_may (auto_escape e body) l w = (somewhere l body w.1, nowhere)
  bodies_may (filter_block chain body) l w = (somewhere l body w.1, nowhere)
  bodies_may (named_block x required body) l w = (somewhere false body w, nowhere)
  bodies_may (extends e) l w = (nowhere, nowhere)
  bodies_may (include e ignore) l w = (nowhere, nowhere)
  bodies_may (import_all e t) l w = (nowhere, nowhere)
  bodies_may (from_import e names) l w = (nowhere, nowhere)
  bodies_may (declare m) l w = (macro_inner m w, nowhere)
  bodies_may (call_block e args m) l w = (macro_inner m w.1, nowhere)
  bodies_may (do_call e args) l w = (nowhere, nowhere)
  bodies_may break_loop l w = (nowhere, nowhere)
  bodies_may continue_loop l w = (nowhere, nowhere)

  pub bodies_stand : (s : tree.Stmt C L) → StandsSomewhere s → StandSomewhere (bodies_of s).0 × StandSomewhere (bodies_of s).1
  bodies_stand s w = bodies_may s w.in_loop w.stands

module _ {V K C : Type 0} (c : V → C) (xs : List (Stmt V K)) (i : ℕ) (x : Stmt V K) where
  -- the statement in its place, and those after it
  pub here_stands : i < length xs → x ≡ get_or xs i x → StandSomewhere (body_of c (drop i xs)) → StandsSomewhere (stmt_tree c x)
  here_stands within at w = record { in_loop = w.in_loop; stands = inner_stands w.in_loop (stmt_tree c x) (inner_here c w.in_loop xs i x within at w.stand).0 }

  pub after_stand : i < length xs → x ≡ get_or xs i x → StandSomewhere (body_of c (drop i xs)) → StandSomewhere (body_of c (drop (i + 1) xs))
  after_stand within at w = record { in_loop = w.in_loop; stand = (inner_here c w.in_loop xs i x within at w.stand).1 }

  -- the blocks of a body from a place on
  pub blocks_next : i < length xs → x ≡ get_or xs i x → (more : _) → all_blocks (body_of c (drop i xs)) ++ more ≡ blocks (stmt_tree c x) ++ (all_blocks (body_of c (drop (i + 1) xs)) ++ more)
  blocks_next within at more = ap (λ ss. all_blocks ss ++ more) (body_next c xs i x within at) ∙ append_assoc (blocks (stmt_tree c x)) (all_blocks (body_of c (drop (i + 1) xs))) more

  pub blocks_after : i < length xs → x ≡ get_or xs i x → all_blocks (body_of c (drop i xs)) ≡ blocks (stmt_tree c x) ++ all_blocks (body_of c (drop (i + 1) xs))
  blocks_after within at = ap all_blocks (body_next c xs i x within at)

-- a statement in its place is smaller than what each one is smaller than
pub smaller_here : {V K : Type 0} (n : ℕ) (xs : List (Stmt V K)) (i : ℕ) (x : Stmt V K) → i < length xs → x ≡ get_or xs i x → All (λ y. size-Stmt V K y < n) xs → size-Stmt V K x < n
smaller_here {V} {K} n xs i x within at h = subst (λ y. size-Stmt V K y < n) (sym at) (h i x within)

pub each_smaller : {V K : Type 0} (n : ℕ) (xs : List (Stmt V K)) → most (size-Stmt V K) xs < n → All (λ y. size-Stmt V K y < n) xs
each_smaller {V} {K} n xs h = λ k d within. omega (arith, at_most (size-Stmt V K) xs k d within, h)

pub blocks_end : {V K C : Type 0} (c : V → C) (xs : List (Stmt V K)) (i : ℕ) → length xs ≤ i → all_blocks (body_of c (drop i xs)) ≡ []
blocks_end c xs i past = ap all_blocks (body_end c xs i past)

-- Some or all of a list.

module _ {X : Type 0} (P : X → Type 0) where
  any_later : (x : X) (xs : List X) → Any P xs → Any P (x ∷ xs)
  any_later x xs (k, y, within, at, p) = (suc k, y, omega (arith, within), at, p)

  any_right : (xs ys : List X) → Any P ys → Any P (xs ++ ys)
  any_right [] ys h = h
  any_right (x ∷ xs) ys h = any_later x (xs ++ ys) (any_right xs ys h)

  any_left : (xs ys : List X) → Any P xs → Any P (xs ++ ys)
  any_left [] ys (k, y, within, at, p) = absurd (omega (arith, within))
  any_left (x ∷ xs) ys (zero, y, within, at, p) = (zero, y, omega arith, at, p)
  any_left (x ∷ xs) ys (suc k, y, within, at, p) = any_later x (xs ++ ys) (any_left xs ys (k, y, omega (arith, within), at, p))

distinct_head : (x : Text) (xs : List Text) → AreDistinct (x ∷ xs) → All (λ y. x ≢ y) xs
distinct_head x xs h = λ k d within. h 0 (suc k) d (omega arith) (omega (arith, within))

distinct_tail : (x : Text) (xs : List Text) → AreDistinct (x ∷ xs) → AreDistinct xs
distinct_tail x xs h = λ i j d before within. h (suc i) (suc j) d (omega (arith, before)) (omega (arith, within))

module _ {C L : Type 0} where
  abbrev pub Others : Text → List (Block C L) → Type 0
  Others x bs = All (λ b. b.name ≢ x) bs

  -- no block has a name that is none of theirs
  named_others : (x : Text) (bs : List (Block C L)) → All (λ y. x ≢ y) (names_of_blocks bs) → Others x bs
  named_others x [] h = All-nil (λ b. b.name ≢ x)
  named_others x (b ∷ bs) h =
      All-cons (λ b. b.name ≢ x) b bs (λ e. All-head (λ y. x ≢ y) b.name (names_of_blocks bs) h (sym e)) (named_others x bs (All-tail (λ y. x ≢ y) b.name (names_of_blocks bs) h))

  later_others : (x : Text) (bs ds : List (Block C L)) → All (λ y. x ≢ y) (names_of_blocks (bs ++ ds)) → Others x ds
  later_others x [] ds h = named_others x ds h
  later_others x (b ∷ bs) ds h = later_others x bs ds (All-tail (λ y. x ≢ y) b.name (names_of_blocks (bs ++ ds)) h)

  first_others : (x : Text) (bs ds : List (Block C L)) → Others x (bs ++ ds) → Others x bs
  first_others x [] ds h = All-nil (λ b. b.name ≢ x)
  first_others x (b ∷ bs) ds h = All-cons (λ b. b.name ≢ x) b bs (All-head (λ b. b.name ≢ x) b (bs ++ ds) h) (first_others x bs ds (All-tail (λ b. b.name ≢ x) b (bs ++ ds) h))

  last_others : (x : Text) (bs ds : List (Block C L)) → Others x (bs ++ ds) → Others x ds
  last_others x [] ds h = h
  last_others x (b ∷ bs) ds h = last_others x bs ds (All-tail (λ b. b.name ≢ x) b (bs ++ ds) h)

module _ {C L : Type 0} where
  first_names : (x : Text) (bs ds : List (Block C L)) → All (λ y. x ≢ y) (names_of_blocks (bs ++ ds)) → All (λ y. x ≢ y) (names_of_blocks bs)
  first_names x [] ds h = All-nil (λ y. x ≢ y)
  first_names x (b ∷ bs) ds h = All-cons (λ y. x ≢ y) b.name (names_of_blocks bs) (All-head (λ y. x ≢ y) b.name (names_of_blocks (bs ++ ds)) h) (first_names x bs ds (All-tail (λ y. x ≢ y) b.name (names_of_blocks (bs ++ ds)) h))

  -- of names that stand once, the first ones do
  distinct_first : (bs ds : List (Block C L)) → AreDistinct (names_of_blocks (bs ++ ds)) → AreDistinct (names_of_blocks bs)
  distinct_first [] ds h = λ i j d before within. absurd (omega (arith, within))
  distinct_first (b ∷ bs) ds h =
      let head = distinct_head b.name (names_of_blocks (bs ++ ds)) h in
      let tail = distinct_first bs ds (distinct_tail b.name (names_of_blocks (bs ++ ds)) h) in
      AllPairs-cons (λ x y. x ≢ y) b.name (names_of_blocks bs) (first_names b.name bs ds head) tail

  -- and so do the last ones
  distinct_last : (bs ds : List (Block C L)) → AreDistinct (names_of_blocks (bs ++ ds)) → AreDistinct (names_of_blocks ds)
  distinct_last [] ds h = h
  distinct_last (b ∷ bs) ds h = distinct_last bs ds (distinct_tail b.name (names_of_blocks (bs ++ ds)) h)

module _ {C L F : Type 0} (f : Functions C F) where
  abbrev pub TooLong : Block C L → Type 0
  TooLong b = 2 ^ 32 ≤ length (block_code f b.body)

  -- a statement is a block of which the list would be too long
  pub own_long : (s : tree.Stmt C L) → Any TooLong (own_block s) → Any TooLong (blocks s)
  own_long s long = subst (Any TooLong) (sym (blocks_are s)) (any_left TooLong (own_block s) (all_blocks (bodies_of s).0 ++ all_blocks (bodies_of s).1) long)

module _ {V E C L F : Type 0} (f : Functions C F) (contents : V → C) (source filename : Text) where
  abbrev HasList : BTreeMap (Bor Text) (Instructions V E) → Block C L → Type 0
  HasList lists b = (c : Instructions V E) × (list_of lists b.name ≡ Some c) × IsBlockList f contents source filename b c

  -- lists stay where others are added
  lists_stay : (bs ds : List (Block C L)) (mid new : BTreeMap (Bor Text) (Instructions V E)) → AreDistinct (names_of_blocks (bs ++ ds)) → HaveLists f contents source filename bs mid → ((x : Text) → Others x ds → list_of new x ≡ list_of mid x) → HaveLists f contents source filename bs new
  lists_stay [] ds mid new apart have others = All-nil (HasList new)
  lists_stay (b ∷ bs) ds mid new apart have others =
      let here : HasList mid b = All-head (HasList mid) b bs have in
      let same = others b.name (later_others b.name bs ds (distinct_head b.name (names_of_blocks (bs ++ ds)) apart)) in
      All-cons (HasList new) b bs (here.0, same ∙ here.1, here.2) (lists_stay bs ds mid new (distinct_tail b.name (names_of_blocks (bs ++ ds)) apart) (All-tail (HasList mid) b bs have) others)

  pub adds_both : (bs ds : List (Block C L)) (old mid new : BTreeMap (Bor Text) (Instructions V E)) → AreDistinct (names_of_blocks (bs ++ ds)) → AddsLists f contents source filename bs old mid → AddsLists f contents source filename ds mid new → AddsLists f contents source filename (bs ++ ds) old new
  adds_both bs ds old mid new apart a b = record {
    added = All-append (HasList new) bs ds (lists_stay bs ds mid new apart a.added b.others) b.added;
    others = λ x h. b.others x (last_others x bs ds h) ∙ a.others x (first_others x bs ds h);
  }

  pub adds_none : (m : BTreeMap (Bor Text) (Instructions V E)) → (let none : List (Block C L) = [] in AddsLists f contents source filename none m m)
  adds_none m = record { added = All-nil (HasList m); others = λ x h. refl }

  pub adds_nothing : (bs : List (Block C L)) (m : BTreeMap (Bor Text) (Instructions V E)) → bs ≡ [] → AddsLists f contents source filename bs m m
  adds_nothing bs m e = rw e (adds_none m)

  -- Of all these blocks some have their lists, and these are left.
  pub record Walking (whole : List (Block C L)) (first : BTreeMap (Bor Text) (Instructions V E)) (left : List (Block C L)) (now : BTreeMap (Bor Text) (Instructions V E)) : Type 0 where
    pub made : List (Block C L)
    pub all : made ++ left ≡ whole
    pub added : AddsLists f contents source filename made first now

  -- the walk begins with the bodies of a statement
  pub walk_start : (s : tree.Stmt C L) {first now : BTreeMap (Bor Text) (Instructions V E)} (bs ds : List (Block C L)) → bs ≡ all_blocks (bodies_of s).0 → ds ≡ all_blocks (bodies_of s).1 → AddsLists f contents source filename (own_block s) first now → Walking (blocks s) first (bs ++ ds) now
  walk_start s bs ds here there a = record {
    made = own_block s;
    all = ap (λ l. own_block s ++ (l ++ ds)) here ∙ ap (λ l. own_block s ++ (all_blocks (bodies_of s).0 ++ l)) there ∙ sym (blocks_are s);
    added = a;
  }

  module _ (whole : List (Block C L)) (apart : AreDistinct (names_of_blocks whole)) (first : BTreeMap (Bor Text) (Instructions V E)) where
    all_are : {now : BTreeMap (Bor Text) (Instructions V E)} (left bs ds : List (Block C L)) → left ≡ bs ++ ds → (w : Walking whole first left now) → (w.made ++ bs) ++ ds ≡ whole
    all_are left bs ds is w = append_assoc w.made bs ds ∙ ap (λ l. w.made ++ l) (sym is) ∙ w.all

    -- the next ones have names of their own
    pub walk_names : {now : BTreeMap (Bor Text) (Instructions V E)} (left bs ds : List (Block C L)) → left ≡ bs ++ ds → Walking whole first left now → AreDistinct (names_of_blocks bs)
    walk_names left bs ds is w =
        distinct_last w.made bs (distinct_first (w.made ++ bs) ds (subst (λ l. AreDistinct (names_of_blocks l)) (sym (all_are left bs ds is w)) apart))

    -- their lists are added
    pub walk_on : {now next : BTreeMap (Bor Text) (Instructions V E)} (left bs ds : List (Block C L)) → left ≡ bs ++ ds → Walking whole first left now → AddsLists f contents source filename bs now next → Walking whole first ds next
    walk_on {now} {next} left bs ds is w a =
        let all = all_are left bs ds is w in
        let names = distinct_first (w.made ++ bs) ds (subst (λ l. AreDistinct (names_of_blocks l)) (sym all) apart) in
        record { made = w.made ++ bs; all = all; added = adds_both w.made bs first now next names w.added a }

    -- one of them would have a list that is too long
    pub walk_long : {now : BTreeMap (Bor Text) (Instructions V E)} (left bs ds : List (Block C L)) → left ≡ bs ++ ds → Walking whole first left now → Any (TooLong f) bs → Any (TooLong f) whole
    walk_long left bs ds is w long =
        subst (Any (TooLong f)) (all_are left bs ds is w) (any_left (TooLong f) (w.made ++ bs) ds (any_right (TooLong f) w.made bs long))

    -- none is left
    pub walk_end : {now : BTreeMap (Bor Text) (Instructions V E)} (left : List (Block C L)) → left ≡ [] → Walking whole first left now → AddsLists f contents source filename whole first now
    walk_end {now} left none w = subst (λ bs. AddsLists f contents source filename bs first now) (sym (append-nil w.made) ∙ ap (λ l. w.made ++ l) (sym none) ∙ w.all) w.added
