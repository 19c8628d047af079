-- The walk down the long side of an expression, and back up.
use Rattle.std.proofs.Common.{◌≡◌, ℕ, ◌+◌, ◌<◌, ◌≤◌, ◌++◌, refl, sym, ap, ap₂, ◌∙◌, subst, append_assoc, arith, length, take, drop, length-append}
use Rattle.std.specs.Prelude.{List, [], ◌∷◌, Option, Some, None, IfSome, Result, Ok, Err, IfOk, OnOk, All}
use Rattle.std.specs.Borrow.{Bor}
use Rattle.std.proofs.lemmas.List.{append-nil, drop-append-le, take-append-le}
use Rattle.std.proofs.lemmas.List.Elements.{All-append, All-cons, All-nil, All-pop}
use Rattle.std.proofs.Math.Seq.{take-append_seam, drop-append_seam}
use Rattle.minijinja_syntax.specs.Texts.{Text}
use Rattle.minijinja_syntax.specs.declared.tokens.Span.{Span}
use Rattle.minijinja_tree.specs.SpannedErasure.{expr_node}
use Rattle.minijinja_tree.specs.SpannedTrees.{Expr, variable, constant, slice, unary, binary, compare, if_expr, filter, test, attribute, item, call, list, tuple, map}
use Rattle.minijinja_tree_expr.specs.Sizes.{size_of}
use Rattle.minijinja_tree_expr.specs.SpannedErasure.{compare_node}
use Rattle.minijinja_tree_expr.specs.declared.ast.CallArg.TheBlock as block
use Rattle.minijinja_tree_expr.specs.declared.ast.Expr.{Expr as Node}
use Rattle.minijinja_tree_expr.specs.declared.ast.Expr.TheVariants as expr
use Rattle.minijinja_meta.specs.Mentions.{Way, marked, declared, attributes_before, attributes_of, chained, through, through_if_any}
use Rattle.minijinja_meta.specs.Occurrences.{found_of, macros_of, IsChain}
use Rattle.minijinja_meta.specs.declared.walker.Walker.{Walker}
use Rattle.minijinja_meta.specs.private.Parts.{HasParts, IsBase, any_node, rest, rest_if_any, rests}
use Rattle.minijinja_meta.specs.private.Scoped.{IsLogged}
use Rattle.minijinja_meta.specs.private.Scoped as scoped
use Rattle.minijinja_meta.specs.private.Walked.{AreAlike, Leaves, OnlyWaits, Reaches, Takes, Walks, log, noted, with_any}
use Rattle.minijinja_meta.proofs.Alike.{alike, alike-on, alike-same, as-wanted}
use Rattle.minijinja_meta.proofs.Walking.{walking-begins, walking-goes-on, walking-left}

-- of a list with one more at the end
All-last : {X : Type 0} (P : X → Type 0) (xs : List X) (x : X) → All P (xs ++ x ∷ []) → P x
All-last P xs x h = (All-pop P (xs ++ x ∷ []) xs (Some x) refl h).1

All-first : {X : Type 0} (P : X → Type 0) (xs : List X) (x : X) → All P (xs ++ x ∷ []) → All P xs
All-first P xs x h = (All-pop P (xs ++ x ∷ []) xs (Some x) refl h).0

module _ {V F C : Type 0} (c : V → C) where
  rests-last : (xs : List (Bor (Node V F))) (x : Bor (Node V F)) (w : Way) → rests c (xs ++ x ∷ []) w ≡ rest (expr_node c x.now) (rests c xs w)
  rests-last [] x w = refl
  rests-last (y ∷ xs) x w = rests-last xs x (rest (expr_node c y.now) w)

  -- what waits changes nothing that is noted
  same-notes : (s t : Walker V F) → OnlyWaits s t → (w : Way) → noted c s w ≡ noted c t w
  same-notes s t h w =
      ap₂ (λ a b. (a, b))
      (ap₂ (λ l z. found_of c l.items ++ marked (scoped.log z) w) (sym h.found) (sym h.scopes))
      (ap (λ l. macros_of l.items ++ declared w) (sym h.macros))

-- ---- down the attributes of a chain

-- the part that is reached, of which attributes are taken up to the chain
pub record Based {V F C : Type 0} (c : V → C) (chain part : Node V F) : Type 0 where
  pub taken : List Text
  pub way : (w : Way) → through (expr_node c chain) w ≡ chained taken (expr_node c part) w
  pub attributes : attributes_of (expr_node c chain) ≡ attributes_before (expr_node c part) taken
  pub small : size_of part ≤ size_of chain

pub base-attributes : {C : Type 0} (e : Expr C) (ys : List Text) → IsBase e → attributes_before e ys ≡ ys
base-attributes (attribute e y s) ys h = absurd h
base-attributes (variable x s) ys h = refl
base-attributes (constant x s) ys h = refl
base-attributes (slice e a b d s) ys h = refl
base-attributes (unary o e s) ys h = refl
base-attributes (binary o a b s) ys h = refl
base-attributes (compare e cs s) ys h = refl
base-attributes (if_expr t a b s) ys h = refl
base-attributes (filter e x args s) ys h = refl
base-attributes (test e x args s) ys h = refl
base-attributes (item e k s) ys h = refl
base-attributes (call e args s) ys h = refl
base-attributes (list es s) ys h = refl
base-attributes (tuple es s) ys h = refl
base-attributes (map ks vs s) ys h = refl

compare-base : {V F C : Type 0} (c : V → C) (q : block.the_data-4 V F) (s : Span) → IsBase (compare_node c q s)
compare-base c (block.struct-Compare e k ops) s = tt

module _ {V F C : Type 0} (c : V → C) where
  -- what is no attribute of nodes is none of trees
  pub not-attribute : (e : Node V F) → ((s : _) → e ≡ expr.GetAttr s → ⊥) → IsBase (expr_node c e)
  not-attribute (expr.GetAttr' p e x s) n = absurd (n (record { place = record { value = record { node = record { expr = e; name = x }; span = s }; ptr = p.ptr; alloc = p.alloc } }) refl)
  not-attribute (expr.Compare' p q s) n = compare-base c q s
  not-attribute _ n = tt

  pub based-ends : (chain part : Node V F) → Based c chain part → IsBase (expr_node c part) → (w : Way) → through (expr_node c chain) w ≡ chained (attributes_of (expr_node c chain)) (expr_node c part) w
  based-ends chain part h is w = h.way w ∙ ap (λ ys. chained ys (expr_node c part) w) (sym (h.attributes ∙ base-attributes (expr_node c part) h.taken is))

-- ---- what a chain ends in

-- of what is no variable the attributes are part of no chain
apart : {C : Type 0} (e : Expr C) → HasParts e → (ys : List Text) (w : Way) → chained ys e w ≡ through e w
apart (attribute e y s) h ys w = absurd h
apart (variable x s) h ys w = absurd h
apart (constant x s) h ys w = refl
apart (slice e a b d s) h ys w = refl
apart (unary o e s) h ys w = refl
apart (binary o a b s) h ys w = refl
apart (compare e cs s) h ys w = refl
apart (if_expr t a b s) h ys w = refl
apart (filter e x args s) h ys w = refl
apart (test e x args s) h ys w = refl
apart (item e k s) h ys w = refl
apart (call e args s) h ys w = refl
apart (list es s) h ys w = refl
apart (tuple es s) h ys w = refl
apart (map ks vs s) h ys w = refl

compare-parts : {V F C : Type 0} (c : V → C) (q : block.the_data-4 V F) (s : Span) → HasParts (compare_node c q s)
compare-parts c (block.struct-Compare e k ops) s = tt

module _ {V F C : Type 0} (c : V → C) where
  -- what is no variable of nodes is none of trees
  has-parts : (e : Node V F) → ((s : _) → e ≡ expr.Var s → ⊥) → IsBase (expr_node c e) → HasParts (expr_node c e)
  has-parts (expr.Var s) n h = absurd (n s refl)
  has-parts (expr.GetAttr' p e x s) n h = h
  has-parts (expr.Compare' p q s) n h = compare-parts c q s
  has-parts _ n h = tt

  module _ (s : Walker V F) (chain : Node V F) (part : Bor (Node V F)) (logged : IsLogged s.scopes) (based : (w : Way) → through (expr_node c chain) w ≡ chained (attributes_of (expr_node c chain)) (expr_node c part.now) w) where
    -- another expression
    pub reaches-base : ((s : _) → part.now ≡ expr.Var s → ⊥) → IsBase (expr_node c part.now) → Reaches c s s (through (expr_node c chain)) (Some part) (λ w. w)
    reaches-base n h = record {
      walking = walking-left c s s _ _ _ (walking-begins c s (through (expr_node c chain)) logged) (λ w. based w ∙ apart (expr_node c part.now) (has-parts part.now n h) (attributes_of (expr_node c chain)) w);
      parts = has-parts part.now n h;
    }

  -- ---- one step down the long side

  -- the test comes first, and the long side is reached
  pub reaches-side : (s t u : Walker V F) (part side : Node V F) (before : Way → Way) (next : Option (Bor (Node V F))) → Walks c s t before → Reaches c t u (through (expr_node c side)) next (λ w. w) →
      ((ys : List Text) (w : Way) → chained ys (expr_node c part) w ≡ before (through (expr_node c side) (rest (expr_node c part) w))) → Reaches c s u (through (expr_node c part)) next (rest (expr_node c part))
  reaches-side s t u part side before next h k begins = record {
    walking = record {
      logged = k.walking.logged;
      wanted = k.walking.wanted ∙ h.wanted;
      notes = λ w. alike-on (alike-same (ap (noted c s) (begins [] w)))
          (alike-on (h.notes (through (expr_node c side) (rest (expr_node c part) w))) (as-wanted h.wanted (k.walking.notes (rest (expr_node c part) w))));
      chains = λ are. k.walking.chains (h.chains are);
      log = (h.log.0 ++ k.walking.log.0, k.walking.log.1 ∙ ap (λ l. l ++ k.walking.log.0) h.log.1 ∙ append_assoc (log s) h.log.0 k.walking.log.0);
      waiting = k.walking.waiting ∙ h.waiting;
    };
    parts = k.parts;
  }

  -- walking through the long side may fail
  pub then-side : {E : Type 0} (r : Result (Option (Bor (Node V F))) E) (s t u : Walker V F) (part side : Node V F) (before : Way → Way) → Walks c s t before → IfOk r (λ next. Reaches c t u (through (expr_node c side)) next (λ w. w)) →
      ((ys : List Text) (w : Way) → chained ys (expr_node c part) w ≡ before (through (expr_node c side) (rest (expr_node c part) w))) → IfOk r (λ next. Reaches c s u (through (expr_node c part)) next (rest (expr_node c part)))
  then-side (Err e) s t u part side before h k begins = tt
  then-side (Ok next) s t u part side before h k begins = reaches-side s t u part side before next h k begins

  -- the expression that is reached, or nothing
  pub walks-reached : {R E : Type 0} (r : Result R E) (s t u : Walker V F) (all : Way → Way) (next : Option (Bor (Node V F))) (x : Bor (Node V F)) → next ≡ Some x → Reaches c s t all next (λ w. w) → OnOk r (Walks c t u (through (expr_node c x.now))) → OnOk r (Walks c s u all)
  walks-reached (Err e) s t u all next x is h k = tt
  walks-reached (Ok z) s t u all next x is h k = walking-goes-on c s t u all _ (through (expr_node c x.now)) (λ w. w) h.walking k (λ w. ap (λ o. through_if_any (any_node c o) w) is)

-- ---- down the long side

-- the side and then the rest of the innermost expression are left, and the rests of what waits since
-- then
pub record Descending {V F C : Type 0} (c : V → C) (s t : Walker V F) (whole : Node V F) (left side : Option (Bor (Node V F))) : Type 0 where
  pub added : List (Bor (Node V F))
  pub logged : IsLogged t.scopes
  pub wanted : t.names_only ≡ s.names_only
  pub notes : (w : Way) → AreAlike s.names_only (noted c s (through (expr_node c whole) w)) (noted c t (through_if_any (any_node c side) (rest_if_any c left (rests c added w))))
  pub chains : All (IsChain c) s.found.items → All (IsChain c) t.found.items
  pub log : (more : List Text) × (log t ≡ log s ++ more)
  pub waiting : t.waiting.items ≡ s.waiting.items ++ added
  pub within : All (λ x. size_of x.now ≤ size_of whole) added
  pub left_within : IfSome left (λ x. size_of x.now ≤ size_of whole)
  pub side_within : IfSome side (λ x. size_of x.now ≤ size_of whole)
  pub parts : IfSome side (λ x. HasParts (expr_node c x.now))
  pub first : left ≡ None → added ≡ []

-- of what there is
pub there : {A : Type 0} (P : A → Type 0) (o : Option A) (x : A) → o ≡ Some x → IfSome o P → P x
there P o x is h = subst (λ o. IfSome o P) is h

module _ {V F C : Type 0} (c : V → C) where
  pub descending-begins : (s : Walker V F) (e : Bor (Node V F)) → IsLogged s.scopes → HasParts (expr_node c e.now) → Descending c s s e.now None (Some e)
  descending-begins s e h is = record {
    added = [];
    logged = h;
    wanted = refl;
    notes = λ w. alike s.names_only _;
    chains = λ are. are;
    log = ([], sym (append-nil (log s)));
    waiting = sym (append-nil s.waiting.items);
    within = All-nil _;
    left_within = tt;
    side_within = omega arith;
    parts = is;
    first = λ e. refl;
  }

  rests-more : (added : List (Bor (Node V F))) (left : Option (Bor (Node V F))) (w : Way) → rest_if_any c left (rests c added w) ≡ rests c (with_any added left) w
  rests-more added None w = refl
  rests-more added (Some x) w = sym (rests-last c added x w)

  waits-more : (xs added : List (Bor (Node V F))) (left : Option (Bor (Node V F))) → with_any (xs ++ added) left ≡ xs ++ with_any added left
  waits-more xs added None = refl
  waits-more xs added (Some x) = append_assoc xs added (x ∷ [])

  within-more : (P : Bor (Node V F) → Type 0) (added : List (Bor (Node V F))) (left : Option (Bor (Node V F))) → All P added → IfSome left P → All P (with_any added left)
  within-more P added None h k = h
  within-more P added (Some x) h k = All-append P added (x ∷ []) h (All-cons P x [] k (All-nil P))

  same-waits : (xs : List (Bor (Node V F))) (o : Option (Bor (Node V F))) (p : List (Bor (Node V F))) → p ≡ with_any xs o → (ys : List (Bor (Node V F))) → xs ≡ ys → p ≡ with_any ys o
  same-waits xs o p h ys e = h ∙ ap (λ l. with_any l o) e

  smaller-within : (next : Option (Bor (Node V F))) (n m : ℕ) → IfSome next (λ e. size_of e.now < n) → n ≤ m → IfSome next (λ e. size_of e.now ≤ m)
  smaller-within None n m h k = tt
  smaller-within (Some x) n m h k = omega (arith, h, k)

  -- the part is left, and then its side is next
  pub descending-goes-on : (s t u p : Walker V F) (whole : Node V F) (left side left' next : Option (Bor (Node V F))) (part : Bor (Node V F)) → side ≡ Some part → Descending c s t whole left side → Leaves t u left part left' →
      Reaches c u p (through (expr_node c part.now)) next (rest (expr_node c part.now)) → IfSome next (λ e. size_of e.now < size_of part.now) → Descending c s p whole left' next
  descending-goes-on s t u p whole left side left' next part is h l k small =
      let deep : size_of part.now ≤ size_of whole = there (λ x. size_of x.now ≤ size_of whole) side part is h.side_within in
      let added = with_any h.added left in
      record {
        added = added;
        logged = k.walking.logged;
        wanted = k.walking.wanted ∙ l.only.wanted ∙ h.wanted;
        notes = λ w. alike-on (h.notes w)
            (alike-on
            (alike-same
            (ap (λ o. noted c t (through_if_any (any_node c o) (rest_if_any c left (rests c h.added w)))) is
            ∙ ap (λ v. noted c t (through (expr_node c part.now) v)) (rests-more h.added left w)
            ∙ same-notes c t u l.only (through (expr_node c part.now) (rests c added w))))
            (alike-on (as-wanted (l.only.wanted ∙ h.wanted) (k.walking.notes (rests c added w)))
            (alike-same (ap (λ o. noted c p (through_if_any (any_node c next) (rest_if_any c o (rests c added w)))) (sym l.left)))));
        chains = λ are. k.walking.chains (subst (λ f. All (IsChain c) f.items) (sym l.only.found) (h.chains are));
        log = (h.log.0 ++ k.walking.log.0, k.walking.log.1 ∙ ap (λ z. scoped.log z ++ k.walking.log.0) l.only.scopes ∙ ap (λ l. l ++ k.walking.log.0) h.log.1 ∙ append_assoc (log s) h.log.0 k.walking.log.0);
        waiting = k.walking.waiting ∙ same-waits t.waiting.items left u.waiting.items l.waiting (s.waiting.items ++ h.added) h.waiting ∙ waits-more s.waiting.items h.added left;
        within = within-more (λ x. size_of x.now ≤ size_of whole) h.added left h.within h.left_within;
        left_within = subst (λ o. IfSome o (λ x. size_of x.now ≤ size_of whole)) (sym l.left) deep;
        side_within = smaller-within next (size_of part.now) (size_of whole) small deep;
        parts = k.parts;
        first = λ e. never (sym l.left ∙ e);
      }
    where
      never : Some part ≡ None → with_any h.added left ≡ []
      never e = cc

-- ---- back up

-- how many there are
abbrev pub at_most_one : {A : Type 0} → Option A → ℕ
at_most_one None = 0
at_most_one (Some x) = 1

-- the rest of the next one is left, and then those of what waits since the mark
pub record Rising {V F C : Type 0} (c : V → C) (s t : Walker V F) (whole : Node V F) (mark : ℕ) (next : Option (Bor (Node V F))) : Type 0 where
  pub logged : IsLogged t.scopes
  pub wanted : t.names_only ≡ s.names_only
  pub notes : (w : Way) → AreAlike s.names_only (noted c s (through (expr_node c whole) w)) (noted c t (rest_if_any c next (rests c (drop mark t.waiting.items) w)))
  pub chains : All (IsChain c) s.found.items → All (IsChain c) t.found.items
  pub log : (more : List Text) × (log t ≡ log s ++ more)
  pub kept : take mark t.waiting.items ≡ s.waiting.items
  pub within : All (λ x. size_of x.now ≤ size_of whole) (drop mark t.waiting.items)
  pub lower : IfSome next (λ x. size_of x.now ≤ size_of whole)
  pub last : next ≡ None → length t.waiting.items ≤ mark

module _ {V F C : Type 0} (c : V → C) where
  pub rising-begins : (s t : Walker V F) (whole : Node V F) (left side : Option (Bor (Node V F))) (mark : ℕ) → mark ≡ length s.waiting.items → ((x : Bor (Node V F)) → side ≡ Some x → ⊥) → Descending c s t whole left side → Rising c s t whole mark left
  rising-begins s t whole left (Some x) mark m none h = absurd (none x refl)
  rising-begins s t whole left None mark m none h =
      let added : drop mark t.waiting.items ≡ h.added = ap₂ drop m h.waiting ∙ drop-append_seam s.waiting.items h.added in
      record {
        logged = h.logged;
        wanted = h.wanted;
        notes = λ w. alike-on (h.notes w) (alike-same (ap (λ xs. noted c t (rest_if_any c left (rests c xs w))) (sym added)));
        chains = h.chains;
        log = h.log;
        kept = ap₂ take m h.waiting ∙ take-append_seam s.waiting.items h.added;
        within = subst (All (λ x. size_of x.now ≤ size_of whole)) (sym added) h.within;
        lower = h.left_within;
        last = λ e. let n = ap length (h.waiting ∙ ap (λ xs. s.waiting.items ++ xs) (h.first e) ∙ append-nil s.waiting.items) in omega (arith, n, m);
      }

  module _ (s t u p : Walker V F) (whole : Node V F) (mark : ℕ) (next : Option (Bor (Node V F))) (x : Bor (Node V F)) (is : next ≡ Some x) (h : Rising c s t whole mark next) (k : Walks c t u (rest (expr_node c x.now))) where
    -- what is left once the rest of the next one is walked through
    notes-after : (w : Way) → AreAlike s.names_only (noted c s (through (expr_node c whole) w)) (noted c u (rests c (drop mark u.waiting.items) w))
    notes-after w = alike-on (h.notes w)
        (alike-on (alike-same (ap (λ o. noted c t (rest_if_any c o (rests c (drop mark t.waiting.items) w))) is))
        (alike-on (as-wanted h.wanted (k.notes (rests c (drop mark t.waiting.items) w)))
        (alike-same (ap (λ xs. noted c u (rests c (drop mark xs) w)) (sym k.waiting)))))

    pub rising-goes-on : (then : Option (Bor (Node V F))) → Takes u p mark then → Rising c s p whole mark then
    rising-goes-on None l =
        let same : p.waiting.items ≡ t.waiting.items = l.waiting.0 ∙ k.waiting in
        record {
          logged = subst IsLogged (sym l.only.scopes) k.logged;
          wanted = l.only.wanted ∙ k.wanted ∙ h.wanted;
          notes = λ w. alike-on (notes-after w)
              (alike-same (same-notes c u p l.only (rests c (drop mark u.waiting.items) w) ∙ ap (λ xs. noted c p (rests c (drop mark xs) w)) (sym l.waiting.0)));
          chains = λ are. subst (λ f. All (IsChain c) f.items) (sym l.only.found) (k.chains (h.chains are));
          log = (h.log.0 ++ k.log.0, ap scoped.log l.only.scopes ∙ k.log.1 ∙ ap (λ l. l ++ k.log.0) h.log.1 ∙ append_assoc (log s) h.log.0 k.log.0);
          kept = ap (take mark) same ∙ h.kept;
          within = subst (λ xs. All (λ x. size_of x.now ≤ size_of whole) (drop mark xs)) (sym same) h.within;
          lower = tt;
          last = λ e. let n = ap length l.waiting.0 in omega (arith, n, l.waiting.1);
        }
    rising-goes-on (Some y) l =
        let before : u.waiting.items ≡ p.waiting.items ++ y ∷ [] = l.waiting.0 in
        let low : mark ≤ length p.waiting.items = let e = ap length before in omega (arith, e, l.waiting.1, length-append p.waiting.items (y ∷ [])) in
        let parts : drop mark u.waiting.items ≡ drop mark p.waiting.items ++ y ∷ [] = ap (drop mark) before ∙ drop-append-le mark p.waiting.items (y ∷ []) low in
        let deep : All (λ x. size_of x.now ≤ size_of whole) (drop mark p.waiting.items ++ y ∷ []) =
        subst (All (λ x. size_of x.now ≤ size_of whole)) (ap (drop mark) (sym k.waiting) ∙ parts) h.within in
        record {
          logged = subst IsLogged (sym l.only.scopes) k.logged;
          wanted = l.only.wanted ∙ k.wanted ∙ h.wanted;
          notes = λ w. alike-on (notes-after w)
              (alike-same
              (ap (λ xs. noted c u (rests c xs w)) parts ∙ ap (noted c u) (rests-last c (drop mark p.waiting.items) y w)
              ∙ same-notes c u p l.only (rest (expr_node c y.now) (rests c (drop mark p.waiting.items) w))));
          chains = λ are. subst (λ f. All (IsChain c) f.items) (sym l.only.found) (k.chains (h.chains are));
          log = (h.log.0 ++ k.log.0, ap scoped.log l.only.scopes ∙ k.log.1 ∙ ap (λ l. l ++ k.log.0) h.log.1 ∙ append_assoc (log s) h.log.0 k.log.0);
          kept = sym (take-append-le mark p.waiting.items (y ∷ []) low) ∙ ap (take mark) (sym before ∙ k.waiting) ∙ h.kept;
          within = All-first (λ x. size_of x.now ≤ size_of whole) (drop mark p.waiting.items) y deep;
          lower = All-last (λ x. size_of x.now ≤ size_of whole) (drop mark p.waiting.items) y deep;
          last = λ e. cc;
        }

  -- fewer are left
  pub fewer : (t u p : Walker V F) (mark : ℕ) (left then : Option (Bor (Node V F))) (part : Bor (Node V F)) → left ≡ Some part → u.waiting.items ≡ t.waiting.items → Takes u p mark then →
      length p.waiting.items + at_most_one then < length t.waiting.items + at_most_one left
  fewer t u p mark left None part is same l = let n = ap length (l.waiting.0 ∙ same) in let m = ap at_most_one is in omega (arith, n, m)
  fewer t u p mark left (Some y) part is same l =
      let n = ap length (sym same ∙ l.waiting.0) in let m = ap at_most_one is in omega (arith, n, m, length-append p.waiting.items (y ∷ []))
