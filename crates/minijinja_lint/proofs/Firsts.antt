-- Where names are mentioned first.
use Rattle.std.proofs.Common.{◌≡◌, ℕ, ◌≤◌, refl, sym, ap, ◌∙◌, subst, get_or, arith}
use Rattle.std.specs.Prelude.{Bool, true, false, ◌||◌, ◌==◌, nat_lt, cond, if◌then◌else◌, Option, None, Some, is_some, List, [], ◌∷◌, All, filter, find, map}
use Rattle.std.specs.Borrow.{Bor}
use Rattle.std.specs.BTreeMap.{Updates, is_at}
use Rattle.std.specs.BTreeSet.{insert_key}
use Rattle.std.specs.Cmp.{both_ways}
use Rattle.std.specs.Cmp.Lexicographic.{on_texts, slice_cmp}
use Rattle.std.specs.List.{AllByRecursion}
use Rattle.std.specs.List.Sorted.{IsStrictlySortedBy}
use Rattle.std.specs.Ordering.{nat_cmp, is_eq, match_ordering}
use Rattle.std.specs.Map.{lookup}
use Rattle.std.specs.declared.cmp.Ordering.{Ordering}
use Rattle.std.specs.declared.cmp.Ordering.TheVariants.{Less}
use Rattle.std.specs.Str.{bytes_eq}
use Rattle.std.proofs.lemmas.List.Elements.{All-nil, All-cons, All-map, All-weaker}
use Rattle.std.proofs.lemmas.Map.Entries.{btree_map_get_place}
use Rattle.std.proofs.lemmas.Option.{slice_get-get_or}
use Rattle.std.proofs.lemmas.Map.Text.{is_eq-slice_cmp}
use Rattle.std.proofs.lemmas.Slice.Eq.{bytes_eq-Decides}
use Rattle.minijinja_syntax.specs.Texts.{Text}
use Rattle.minijinja_syntax.specs.declared.tokens.Span.{Span}
use Rattle.minijinja_meta.specs.Mentions.{Mention, in_order, is_among, names_of}
use Rattle.minijinja_meta.specs.Occurrences.{macros_of}
use Rattle.minijinja_meta.proofs.Ordering.{in_order-same}
use Rattle.minijinja_lint.specs.Findings.{IsFirstMention, spans_of}
use Rattle.minijinja_lint.specs.private.First.{ByName, IsOrdered, PutsMention, at, earlier, first_of, starts_before}

-- ---- the first of some spans

-- what is said of the first of some spans
pub record IsFirst (ss : List Span) (s : Span) : Type 0 where
  pub least : All (λ t. s.start_offset ≤ t.start_offset) ss
  pub first : find (λ t. t.start_offset == s.start_offset) ss ≡ Some s

same-number : (n : ℕ) → (n == n) ≡ true
same-number n = grind arith

apart : (n m : ℕ) → nat_lt n m ≡ true → (m == n) ≡ false
apart n m h = grind arith

below : (n m : ℕ) → nat_lt n m ≡ true → n ≤ m
below n m h = grind arith

not-below : (n m : ℕ) → nat_lt n m ≡ false → m ≤ n
not-below n m h = grind arith

abbrev the_none : (A : Type 0) → Option A
the_none A = None

None-Some : {A B : Type 0} (x : A) → the_none A ≡ Some x → B
None-Some x h = cc

Some-is : {A : Type 0} (x y : A) → Some x ≡ Some y → x ≡ y
Some-is x y h = cc

-- the spans are none where there is no first one
none-first : (ss : List Span) → first_of ss ≡ None → ss ≡ []
none-first [] h = refl
none-first (s ∷ ss) h = go (first_of ss) h
  where
    go : (o : Option Span) → earlier s o ≡ None → (s ∷ ss) ≡ []
    go None h = None-Some s (sym h)
    go (Some t) h = more (nat_lt t.start_offset s.start_offset) h
      where
        more : (b : Bool) → (if b then Some t else Some s) ≡ None → (s ∷ ss) ≡ []
        more true h = None-Some t (sym h)
        more false h = None-Some s (sym h)

pub first_of-is : (ss : List Span) (s : Span) → first_of ss ≡ Some s → IsFirst ss s
first_of-is [] s h = None-Some s h
first_of-is (t ∷ ss) s h = go (first_of ss) refl h (first_of-is ss)
  where
    -- nothing starts before the first one
    itself : All (λ u. t.start_offset ≤ u.start_offset) ss → IsFirst (t ∷ ss) t
    itself least = record {
      least = All-cons (λ u. t.start_offset ≤ u.start_offset) t ss (omega arith) least;
      first = ap (λ b. cond b (Some t) (find (λ u. u.start_offset == t.start_offset) ss)) (same-number t.start_offset);
    }

    -- the first one of the others starts before it
    other : (u : Span) → nat_lt u.start_offset t.start_offset ≡ true → IsFirst ss u → IsFirst (t ∷ ss) u
    other u h rest = record {
      least = All-cons (λ v. u.start_offset ≤ v.start_offset) t ss (below u.start_offset t.start_offset h) rest.least;
      first = ap (λ b. cond b (Some t) (find (λ v. v.start_offset == u.start_offset) ss)) (apart u.start_offset t.start_offset h) ∙ rest.first;
    }

    go : (o : Option Span) → first_of ss ≡ o → earlier t o ≡ Some s → ((u : Span) → o ≡ Some u → IsFirst ss u) → IsFirst (t ∷ ss) s
    go None e h rest =
        let none : ss ≡ [] = none-first ss e in
        subst (IsFirst (t ∷ ss)) (Some-is t s h) (itself (subst (All (λ u. t.start_offset ≤ u.start_offset)) (sym none) (All-nil (λ u. t.start_offset ≤ u.start_offset))))
    go (Some u) e h rest = more (nat_lt u.start_offset t.start_offset) refl h
      where
        more : (b : Bool) → nat_lt u.start_offset t.start_offset ≡ b → (if b then Some u else Some t) ≡ Some s → IsFirst (t ∷ ss) s
        more true is h = subst (IsFirst (t ∷ ss)) (Some-is u s h) (other u is (rest u refl))
        more false is h =
            let before : t.start_offset ≤ u.start_offset = not-below u.start_offset t.start_offset is in
            subst (IsFirst (t ∷ ss)) (Some-is t s h)
            (itself (All-weaker (λ v. u.start_offset ≤ v.start_offset) (λ v. t.start_offset ≤ v.start_offset) (λ v k. omega (arith, before, k)) ss (rest u refl).least))

-- ---- one name more

pub put-one : (m n : ByName) (k : Bor Text) (s : Span) → Updates (λ x y. slice_cmp nat_cmp x.now y.now) m n k (Some s) → starts_before (at k.now m) s ≡ false → PutsMention true k.now s m n
put-one m n k s h late = λ x. h.0 (record { ref_ptr = (0, 0); now = x }) ∙ ap (λ b. cond b (Some s) (at x m)) (is_eq-slice_cmp k.now x) ∙ go x (bytes_eq k.now x) refl
  where
    go : (x : Text) (b : Bool) → bytes_eq k.now x ≡ b → cond b (Some s) (at x m) ≡ (if b then earlier s (at x m) else at x m)
    go x true e =
        let same : k.now ≡ x = (bytes_eq-Decides k.now x).0 e in
        sym (ap (λ b. if b then at x m else Some s) (ap (λ y. starts_before (at y m) s) (sym same) ∙ late))
    go x false e = refl

-- ---- all names with where they are mentioned first

abbrev names : List (Bor Text × Span) → List Text
names es = map (λ d. d.0) (macros_of es)

abbrev order : Text → Text → Ordering
order x y = slice_cmp nat_cmp x y

pub text-comm : (x y : Text) → bytes_eq x y ≡ bytes_eq y x
text-comm x y = both_ways (bytes_eq x y) (bytes_eq y x) (λ h. there x y h) (λ h. there y x h)
  where
    there : (x y : Text) → bytes_eq x y ≡ true → bytes_eq y x ≡ true
    there x y h = (bytes_eq-Decides y x).1 (sym ((bytes_eq-Decides x y).0 h))

-- names that ascend stay as they are when they are put in order
in-order : (es : List (Bor Text × Span)) → IsStrictlySortedBy (λ x y. order x.now y.now) (map (λ e. e.0) es) → in_order (names es) ≡ names es
unfolding IsStrictlySortedBy
in-order [] h = refl
in-order (e ∷ es) h = ap (λ l. insert_key order l e.0.now) (in-order es h.1) ∙ first es h.0
  where
    first : (es : List (Bor Text × Span)) → AllByRecursion (λ y. order e.0.now y.now ≡ Less) (map (λ e. e.0) es) → insert_key order (names es) e.0.now ≡ e.0.now ∷ names es
    first [] h = refl
    first (f ∷ es) h = ap (λ o. match_ordering o (e.0.now ∷ names (f ∷ es)) (names (f ∷ es)) (f.0.now ∷ insert_key order (names es) e.0.now)) h.0

-- a name that has a span is one of the names
is_some-lookup : (x : Text) (es : List (Bor Text × Span)) → is_among x (names es) ≡ is_some (lookup (is_at (λ k. slice_cmp nat_cmp x k.now)) es)
is_some-lookup x [] = refl
is_some-lookup x (e ∷ es) = ap (λ b. b || is_among x (names es)) (sym (is_eq-slice_cmp x e.0.now)) ∙ go (is_eq (slice_cmp nat_cmp x e.0.now)) (is_some-lookup x es)
  where
    go : (b : Bool) → is_among x (names es) ≡ is_some (lookup (is_at (λ k. slice_cmp nat_cmp x k.now)) es) → (b || is_among x (names es)) ≡ is_some (cond b (Some e.1) (lookup (is_at (λ k. slice_cmp nat_cmp x k.now)) es))
    go true h = refl
    go false h = h

is_some-earlier : (s : Span) (o : Option Span) → is_some (earlier s o) ≡ true
is_some-earlier s None = refl
is_some-earlier s (Some t) = go (nat_lt t.start_offset s.start_offset)
  where
    go : (b : Bool) → is_some (if b then Some t else Some s) ≡ true
    go true = refl
    go false = refl

-- a name that occurs has a first span
is_some-first_of : (x : Text) (ms : List Mention) → is_some (first_of (spans_of x ms)) ≡ is_among x (names_of ms)
is_some-first_of x [] = refl
is_some-first_of x (m ∷ ms) = go (bytes_eq m.name x) (is_some-first_of x ms) ∙ ap (λ b. b || is_among x (names_of ms)) (text-comm m.name x)
  where
    go : (b : Bool) → is_some (first_of (spans_of x ms)) ≡ is_among x (names_of ms) →
        is_some (first_of (map (λ m. m.span) (cond b (m ∷ filter (λ m. bytes_eq m.name x) ms) (filter (λ m. bytes_eq m.name x) ms)))) ≡ (b || is_among x (names_of ms))
    go true h = is_some-earlier m.span (first_of (spans_of x ms))
    go false h = h

module _ (ms : List Mention) (m : ByName) (ordered : IsOrdered m) (firsts : (x : Text) → at x m ≡ first_of (spans_of x ms)) where
  pub names-are : names m.entries ≡ in_order (names_of ms)
  names-are = sym (in-order m.entries ordered) ∙ in_order-same (names m.entries) (names_of ms) (λ x. is_some-lookup x m.entries ∙ ap is_some (firsts x) ∙ is_some-first_of x ms)

  mention-is : (e : Bor Text × Span) → at e.0.now m ≡ Some e.1 → IsFirstMention ms e.0.now e.1
  mention-is e h =
      let first = first_of-is (spans_of e.0.now ms) e.1 (sym (firsts e.0.now) ∙ h) in
      record { least = first.least; first = first.first }

  pub firsts-are : All (λ d. IsFirstMention ms d.0 d.1) (macros_of m.entries)
  firsts-are = All-map (λ d. IsFirstMention ms d.0 d.1) (λ e. (e.0.now, e.1)) m.entries
      (λ k d h. let e = get_or m.entries k d in mention-is e (btree_map_get_place (on_texts (λ k. k.now)) m k e.0 e.1 ordered (slice_get-get_or m.entries k d h)))
