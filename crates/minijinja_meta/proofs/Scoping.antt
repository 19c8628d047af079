-- The stored names, and the log of them.
use Rattle.std.proofs.Common.{ℕ, ◌≡◌, ◌++◌, refl, sym, ap, ◌∙◌, subst, true, false, length, take, ◌-◌, arith, length-append}
use Rattle.std.specs.Prelude.{Bool, not, ◌&&◌, ◌||◌, List, [], ◌∷◌, cond, map}
use Rattle.std.specs.Bool.{OnFalse}
use Rattle.std.specs.Borrow.{Bor}
use Rattle.std.specs.BTreeSet.{BTreeSet, Updates, UpdatesBy, contains_by}
use Rattle.std.specs.Cmp.Lexicographic.{slice_cmp}
use Rattle.std.specs.Cmp.{nat_cmp_is}
use Rattle.std.specs.Ordering.{is_eq, nat_cmp, ordering_then}
use Rattle.std.specs.declared.cmp.Ordering.{Ordering}
use Rattle.std.specs.declared.cmp.Ordering.TheVariants.{Less, Equal, Greater}
use Rattle.std.specs.Str.{bytes_eq}
use Rattle.std.proofs.lemmas.List.{append-nil, map-append}
use Rattle.std.proofs.lemmas.List.Folds.{list_any-append}
use Rattle.std.proofs.lemmas.Map.Text.{is_eq-slice_cmp}
use Rattle.std.proofs.lemmas.Slice.Eq.{bytes_eq-Decides}
use Rattle.std.proofs.Math.Seq.{take-append_seam}
use Rattle.minijinja_syntax.specs.Texts.{Text}
use Rattle.minijinja_meta.specs.Mentions.{is_among}
use Rattle.minijinja_meta.specs.declared.scopes.Scopes.{Scopes}
use Rattle.minijinja_meta.specs.private.Scoped.{Sized, among, by_length, log, AreOnce, IsLogged, Stores}

pub same-text : (x : Text) → bytes_eq x x ≡ true
same-text x = (bytes_eq-Decides x x).1 refl

pub true-false : true ≡ false → ⊥
true-false h = cc

bool-is : (b : Bool) → (b ≡ true → ⊥) → b ≡ false
bool-is true h = absurd (h refl)
bool-is false h = refl

text-comm : (x y : Text) → bytes_eq x y ≡ bytes_eq y x
text-comm x y = go (bytes_eq x y) refl
  where
    go : (b : Bool) → bytes_eq x y ≡ b → b ≡ bytes_eq y x
    go true e = let same : x ≡ y = (bytes_eq-Decides x y).0 e in sym (subst (λ z. bytes_eq y z ≡ true) (sym same) (same-text y))
    go false e = sym (bool-is (bytes_eq y x) (λ h. let same : y ≡ x = (bytes_eq-Decides y x).0 h in true-false (sym (subst (λ z. bytes_eq z y ≡ true) same (same-text y)) ∙ e)))

or-false : (a : Bool) → (a || false) ≡ a
or-false true = refl
or-false false = refl

or-comm : (a b : Bool) → (a || b) ≡ (b || a)
or-comm true true = refl
or-comm true false = refl
or-comm false b = sym (or-false b)

left-none : (a b : Bool) → (a || b) ≡ false → a ≡ false
left-none true b h = h
left-none false b h = refl

right-none : (a b : Bool) → (a || b) ≡ false → b ≡ false
right-none true b h = cc
right-none false b h = h

among-last : (y : Text) (xs : List Text) (x : Text) → is_among y (xs ++ x ∷ []) ≡ (is_among y xs || bytes_eq y x)
among-last y xs x = list_any-append (bytes_eq y) xs (x ∷ []) ∙ ap (λ b. is_among y xs || b) (or-false (bytes_eq y x))

once-more : (xs : List Text) (x : Text) → AreOnce xs → is_among x xs ≡ false → AreOnce (xs ++ x ∷ [])
once-more [] x h n = (refl, tt)
once-more (z ∷ xs) x h n =
    let apart : bytes_eq z x ≡ false = text-comm z x ∙ left-none (bytes_eq x z) (is_among x xs) n in
    (among-last z xs x ∙ ap (λ b. b || bytes_eq z x) h.0 ∙ apart, once-more xs x h.1 (right-none (bytes_eq x z) (is_among x xs) n))

once-before : (xs : List Text) (x : Text) → AreOnce (xs ++ x ∷ []) → AreOnce xs
once-before [] x h = tt
once-before (z ∷ xs) x h = (left-none (is_among z xs) (bytes_eq z x) (sym (among-last z xs x) ∙ h.0), once-before xs x h.1)

last-new : (xs : List Text) (x : Text) → AreOnce (xs ++ x ∷ []) → is_among x xs ≡ false
last-new [] x h = refl
last-new (z ∷ xs) x h =
    let apart : bytes_eq x z ≡ false = text-comm x z ∙ right-none (is_among z xs) (bytes_eq z x) (sym (among-last z xs x) ∙ h.0) in
    ap (λ b. b || is_among x xs) apart ∙ last-new xs x h.1

-- ---- sets after a change

abbrev sized : Text → Sized
sized y = (length y, record { ref_ptr = (0, 0); now = y })

both-equal : (o p : Ordering) → is_eq p ≡ false → is_eq (ordering_then o p) ≡ false
both-equal Less p h = refl
both-equal Equal p h = h
both-equal Greater p h = refl

-- names that are of one length and one text are the same
same-order : (x y : Text) → is_eq (ordering_then (nat_cmp (length x) (length y)) (slice_cmp nat_cmp x y)) ≡ bytes_eq x y
same-order x y = go (bytes_eq x y) refl
  where
    go : (b : Bool) → bytes_eq x y ≡ b → is_eq (ordering_then (nat_cmp (length x) (length y)) (slice_cmp nat_cmp x y)) ≡ bytes_eq x y
    go true e =
        let lengths : nat_cmp (length x) (length y) ≡ Equal =
        ap (λ z. nat_cmp (length x) (length z)) (sym ((bytes_eq-Decides x y).0 e)) ∙ sym (nat_cmp_is (length x) (length x) Equal refl) in
        ap (λ o. is_eq (ordering_then o (slice_cmp nat_cmp x y))) lengths ∙ is_eq-slice_cmp x y
    go false e = both-equal (nat_cmp (length x) (length y)) (slice_cmp nat_cmp x y) (is_eq-slice_cmp x y ∙ e) ∙ sym e

cond-or : (b f : Bool) → cond b true f ≡ (b || f)
cond-or true f = refl
cond-or false f = refl

cond-and : (b f : Bool) → cond b false f ≡ (f && not b)
cond-and true true = refl
cond-and true false = refl
cond-and false true = refl
cond-and false false = refl

inserted : (s n : BTreeSet Sized) (k : Bor Text) (long : ℕ) → long ≡ length k.now → Updates by_length s n (long, k) true → (y : Text) → among y n ≡ (bytes_eq y k.now || among y s)
inserted s n k long e h y =
    h.0 (sized y) ∙ ap (λ b. cond b true (among y s)) (ap (λ m. is_eq (ordering_then (nat_cmp m (length y)) (slice_cmp nat_cmp k.now y))) e ∙ same-order k.now y ∙ text-comm k.now y)
    ∙ cond-or (bytes_eq y k.now) (among y s)

removed : (s n : BTreeSet Sized) (k : Bor Text) (long : ℕ) → long ≡ length k.now → UpdatesBy by_length (by_length (long, k)) s n false → (y : Text) → among y n ≡ (among y s && not (bytes_eq y k.now))
removed s n k long e h y =
    h.0 (sized y) ∙ ap (λ b. cond b false (among y s)) (ap (λ m. is_eq (ordering_then (nat_cmp m (length y)) (slice_cmp nat_cmp k.now y))) e ∙ same-order k.now y ∙ text-comm k.now y)
    ∙ cond-and (bytes_eq y k.now) (among y s)

-- whether a name is there, asked with its length
pub asked : (s : BTreeSet Sized) (k : Bor Text) (long : ℕ) → long ≡ length k.now → contains_by (by_length (long, k)) s ≡ among k.now s
asked s k long e = ap (λ m. contains_by (λ q. ordering_then (nat_cmp m q.0) (slice_cmp nat_cmp k.now q.1.now)) s) e

-- a name that is there is there by any of its texts
is_among-same : (x y : Text) (xs : List Text) → bytes_eq y x ≡ true → is_among y xs ≡ is_among x xs
is_among-same x y xs e = ap (λ z. is_among z xs) ((bytes_eq-Decides y x).0 e)

map-last : {A B : Type 0} (f : A → B) (xs : List A) (x : A) → map f (xs ++ x ∷ []) ≡ map f xs ++ f x ∷ []
map-last f xs x = map-append f xs (x ∷ [])

-- ---- a name that is stored

-- one that is stored already
pub stored-again : (s t : Scopes) (k : Bor Text) (long : ℕ) (added : Bool) → long ≡ length k.now → IsLogged s → added ≡ not (contains_by (by_length (long, k)) s.stored) → added ≡ false → OnFalse added (t.stored.keys ≡ s.stored.keys) → t.log ≡ s.log → Stores s t k.now
stored-again s t k long added e h is old kept log' =
    let there : is_among k.now (log s) ≡ true = sym (h.same k.now) ∙ sym (asked s.stored k long e) ∙ held (contains_by (by_length (long, k)) s.stored) (sym is ∙ old) in
    let still : log t ≡ log s = ap (λ l. map (λ x. x.now) l.items) log' in
    record {
      logged = record {
        same = λ y. ap (λ ks. among y (record s.stored { keys = ks })) (unless added (t.stored.keys ≡ s.stored.keys) kept old) ∙ h.same y ∙ ap (is_among y) (sym still);
        once = subst AreOnce (sym still) h.once;
      };
      has = λ y. ap (is_among y) still ∙ go y there (bytes_eq y k.now) refl;
      log = ([], still ∙ sym (append-nil (log s)));
    }
  where
    held : (a : Bool) → not a ≡ false → a ≡ true
    held true e = refl
    held false e = cc

    unless : (a : Bool) (P : Type 0) → OnFalse a P → a ≡ false → P
    unless true P h e = absurd (true-false e)
    unless false P h e = h

    go : (y : Text) → is_among k.now (log s) ≡ true → (b : Bool) → bytes_eq y k.now ≡ b → is_among y (log s) ≡ (b || is_among y (log s))
    go y there true e = is_among-same k.now y (log s) e ∙ there
    go y there false e = refl

-- one that is new
pub stored-new : (s t : Scopes) (k : Bor Text) (long : ℕ) (added : Bool) → long ≡ length k.now → IsLogged s → added ≡ not (contains_by (by_length (long, k)) s.stored) → added ≡ true → Updates by_length s.stored t.stored (long, k) true → t.log.items ≡ s.log.items ++ k ∷ [] → Stores s t k.now
stored-new s t k long added e h is fresh up log' =
    let longer : log t ≡ log s ++ k.now ∷ [] = ap (map (λ x. x.now)) log' ∙ map-last (λ x. x.now) s.log.items k in
    let now : (y : Text) → is_among y (log t) ≡ (bytes_eq y k.now || is_among y (log s)) = λ y. ap (is_among y) longer ∙ among-last y (log s) k.now ∙ or-comm (is_among y (log s)) (bytes_eq y k.now) in
    record {
      logged = record {
        same = λ y. inserted s.stored t.stored k long e up y ∙ ap (λ b. bytes_eq y k.now || b) (h.same y) ∙ sym (now y);
        once = subst AreOnce (sym longer) (once-more (log s) k.now h.once (sym (h.same k.now) ∙ sym (asked s.stored k long e) ∙ absent (contains_by (by_length (long, k)) s.stored) (sym is ∙ fresh)));
      };
      has = now;
      log = (k.now ∷ [], longer);
    }
  where
    absent : (a : Bool) → not a ≡ true → a ≡ false
    absent true e = cc
    absent false e = refl

-- ---- the last one is stored no longer

pub unstored : (s t : Scopes) (xs : List (Bor Text)) (k : Bor Text) (long : ℕ) → long ≡ length k.now → IsLogged s → s.log.items ≡ xs ++ k ∷ [] → t.log.items ≡ xs → UpdatesBy by_length (by_length (long, k)) s.stored t.stored false → IsLogged t
unstored s t xs k long e h before after up =
    let was : log s ≡ map (λ x. x.now) xs ++ k.now ∷ [] = ap (map (λ x. x.now)) before ∙ map-last (λ x. x.now) xs k in
    let is : log t ≡ map (λ x. x.now) xs = ap (map (λ x. x.now)) after in
    let once : AreOnce (map (λ x. x.now) xs ++ k.now ∷ []) = subst AreOnce was h.once in
    let gone : is_among k.now (map (λ x. x.now) xs) ≡ false = last-new (map (λ x. x.now) xs) k.now once in
    record {
      same = λ y.
          removed s.stored t.stored k long e up y ∙ ap (λ b. b && not (bytes_eq y k.now)) (h.same y ∙ ap (is_among y) was ∙ among-last y (map (λ x. x.now) xs) k.now)
          ∙ go (map (λ x. x.now) xs) k.now gone y (bytes_eq y k.now) refl ∙ ap (is_among y) (sym is);
      once = subst AreOnce (sym is) (once-before (map (λ x. x.now) xs) k.now once);
    }
  where
    plain : (a : Bool) → ((a || false) && true) ≡ a
    plain true = refl
    plain false = refl

    never : (a : Bool) → ((a || true) && false) ≡ false
    never true = refl
    never false = refl

    go : (ys : List Text) (x : Text) → is_among x ys ≡ false → (y : Text) (b : Bool) → bytes_eq y x ≡ b → ((is_among y ys || b) && not b) ≡ is_among y ys
    go ys x gone y true e = never (is_among y ys) ∙ sym (is_among-same x y ys e ∙ gone)
    go ys x gone y false e = plain (is_among y ys)

pub shorter : (s t : Scopes) (xs : List (Bor Text)) (k : Bor Text) → s.log.items ≡ xs ++ k ∷ [] → t.log.items ≡ xs → log t ≡ take (length (log s) - 1) (log s)
shorter s t xs k before after =
    let ys = map (λ x. x.now) xs in
    let was : log s ≡ ys ++ k.now ∷ [] = ap (map (λ x. x.now)) before ∙ map-last (λ x. x.now) xs k in
    let n : length (log s) - 1 ≡ length ys = let e = ap length was in omega (arith, e, length-append ys (k.now ∷ [])) in
    ap (map (λ x. x.now)) after ∙ sym (take-append_seam ys (k.now ∷ [])) ∙ ap (λ m. take m (ys ++ k.now ∷ [])) (sym n) ∙ ap (take (length (log s) - 1)) (sym was)
