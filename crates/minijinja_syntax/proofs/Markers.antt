-- The longest eligible marker is the one that is found.
use Rattle.std.proofs.Common.{◌≡◌, ℕ, zero, suc, ◌<◌, ◌≤◌, Bool, true, false, cond, List, [], ◌∷◌, length, take, drop, refl, ap, sym, ◌∙◌, arith, subst, Option, Some, None, ⊎_elim, inl, inr}
use Rattle.std.specs.Prelude.{◌⊎◌, ◌≢◌, ◌&&◌, nat_lt, is_some}
use Rattle.std.proofs.lemmas.Bool.{cases_lt, cases_Bool, lt-ltb, le-ltb}
use borrow.Author.Tests.{ltb-true}
use lib.Pointwise.{bytes_decides}
use Rattle.minijinja_syntax.specs.Texts.{Text}
use Rattle.minijinja_syntax.specs.Syntax.{Syntax, start_of, IsBuildable}
use Rattle.minijinja_syntax.specs.Markers.{stands, is_eligible, may_begin, starts_line, longer, longest_of, marker_at, IsMarkerAt, NoMarkerAt}
use Rattle.minijinja_syntax.specs.declared.syntax.StartMarker.{StartMarker}
use Rattle.minijinja_syntax.specs.declared.syntax.StartMarker.TheVariants.{Variable, Block, Comment, LineStatement, LineComment}
use Rattle.minijinja_syntax.proofs.Delimiters.{stands_past}

and_parts : (a b : Bool) → (a && b) ≡ true → (a ≡ true) × (b ≡ true)
and_parts true b h = (refl, h)
and_parts false b h = let e : false ≡ true = h in cc

-- an eligible marker is on, and stands at the place
pub eligible_some : (s : Syntax) (text : Text) (at : ℕ) (m : StartMarker) → is_eligible s text at m ≡ true → 0 < length (start_of s m)
eligible_some s text at m h =
    let on = and_parts (may_begin (starts_line text at) m) (nat_lt 0 (length (start_of s m))) (and_parts (may_begin (starts_line text at) m && nat_lt 0 (length (start_of s m))) (stands (start_of s m) text at) h).0 in
    ltb-true 0 (length (start_of s m)) on.1

pub eligible_stands : (s : Syntax) (text : Text) (at : ℕ) (m : StartMarker) → is_eligible s text at m ≡ true → stands (start_of s m) text at ≡ true
eligible_stands s text at m h = (and_parts (may_begin (starts_line text at) m && nat_lt 0 (length (start_of s m))) (stands (start_of s m) text at) h).1

-- after the text none is
pub eligible_past : (s : Syntax) (text : Text) (at : ℕ) (m : StartMarker) → length text ≤ at → is_eligible s text at m ≡ false
eligible_past s text at m h = ⊎_elim
    (λ (t : is_eligible s text at m ≡ true).
    let e : false ≡ true = sym (stands_past (start_of s m) text at (eligible_some s text at m t) h) ∙ eligible_stands s text at m t in cc)
    (λ f. f)
    (cases_Bool (is_eligible s text at m))

-- two delimiters that begin a text and are as long are one
same_begin : (a b text : Text) (at : ℕ) → stands a text at ≡ true → stands b text at ≡ true → length a ≡ length b → a ≡ b
same_begin a b text at p q e = (bytes_decides a (take (length a) (drop at text))).0 p ∙ ap (λ n. take n (drop at text)) e ∙ sym ((bytes_decides b (take (length b) (drop at text))).0 q)

-- ---- two markers are one or two

place_of : StartMarker → ℕ
place_of Variable = 0
place_of Block = 1
place_of Comment = 2
place_of LineStatement = 3
place_of LineComment = 4

marker_of : ℕ → StartMarker
marker_of zero = Variable
marker_of (suc zero) = Block
marker_of (suc (suc zero)) = Comment
marker_of (suc (suc (suc zero))) = LineStatement
marker_of (suc (suc (suc (suc n)))) = LineComment

marker_of-place_of : (m : StartMarker) → marker_of (place_of m) ≡ m
unfolding place_of marker_of
marker_of-place_of Variable = refl
marker_of-place_of Block = refl
marker_of-place_of Comment = refl
marker_of-place_of LineStatement = refl
marker_of-place_of LineComment = refl

pub same_or_other : (m n : StartMarker) → (m ≡ n) ⊎ (m ≢ n)
same_or_other m n =
    ⊎_elim
    (λ (l : place_of m < place_of n). inr (λ e. let p = ap place_of e in omega (arith, l, p)))
    (λ (l : place_of n ≤ place_of m). ⊎_elim
    (λ (k : place_of n < place_of m). inr (λ e. let p = ap place_of e in omega (arith, k, p)))
    (λ (k : place_of m ≤ place_of n). let p : place_of m ≡ place_of n = omega (arith, l, k) in inl (sym (marker_of-place_of m) ∙ ap marker_of p ∙ marker_of-place_of n))
    (cases_lt (place_of n) (place_of m)))
    (cases_lt (place_of m) (place_of n))

-- ---- the longest of a list

NoneOf : (StartMarker → Bool) → List StartMarker → Type 0
NoneOf p [] = Unit {0}
NoneOf p (j ∷ js) = (p j ≡ false) × NoneOf p js

AtMost : Syntax → (StartMarker → Bool) → ℕ → List StartMarker → Type 0
AtMost s p n [] = Unit {0}
AtMost s p n (j ∷ js) = (p j ≡ true → length (start_of s j) ≤ n) × AtMost s p n js

none_at_most : (s : Syntax) (p : StartMarker → Bool) (n : ℕ) (js : List StartMarker) → NoneOf p js → AtMost s p n js
unfolding NoneOf AtMost
none_at_most s p n [] h = tt
none_at_most s p n (j ∷ js) h = (λ t. let e : false ≡ true = sym h.0 ∙ t in cc, none_at_most s p n js h.1)

more_at_most : (s : Syntax) (p : StartMarker → Bool) (m n : ℕ) (js : List StartMarker) → m ≤ n → AtMost s p m js → AtMost s p n js
unfolding AtMost
more_at_most s p m n [] le h = tt
more_at_most s p m n (j ∷ js) le h = (λ t. let a = h.0 t in omega (arith, a), more_at_most s p m n js le h.1)

-- the marker passes the test, and none of the list that does is longer; or none does
Best : Syntax → (StartMarker → Bool) → List StartMarker → Option StartMarker → Type 0
Best s p js None = NoneOf p js
Best s p js (Some k) = (p k ≡ true) × AtMost s p (length (start_of s k)) js

one : (s : Syntax) (p : StartMarker → Bool) (m : StartMarker) → Best s p (m ∷ []) (cond (p m) (Some m) None)
unfolding Best NoneOf AtMost
one s p m = ⊎_elim
    (λ (t : p m ≡ true). subst (λ b. Best s p (m ∷ []) (cond b (Some m) None)) (sym t) (t, (λ _. omega arith, tt)))
    (λ (f : p m ≡ false). subst (λ b. Best s p (m ∷ []) (cond b (Some m) None)) (sym f) (f, tt))
    (cases_Bool (p m))

skip : (s : Syntax) (p : StartMarker → Bool) (m : StartMarker) (js : List StartMarker) (x : Option StartMarker) → p m ≡ false → Best s p js x → Best s p (m ∷ js) x
unfolding Best NoneOf AtMost
skip s p m js None f h = (f, h)
skip s p m js (Some k) f h = (h.0, (λ t. let e : false ≡ true = sym f ∙ t in cc, h.1))

add : (s : Syntax) (p : StartMarker → Bool) (m : StartMarker) (js : List StartMarker) (x : Option StartMarker) → p m ≡ true → Best s p js x → Best s p (m ∷ js) (longer s (Some m) x)
unfolding Best NoneOf AtMost
add s p m js None t h = (t, (λ _. omega arith, none_at_most s p _ js h))
add s p m js (Some k) t h = ⊎_elim
    (λ (l : length (start_of s m) < length (start_of s k)). subst (λ b. Best s p (m ∷ js) (cond b (Some k) (Some m))) (sym (lt-ltb (length (start_of s m)) (length (start_of s k)) l)) (h.0, (λ _. omega arith, h.1)))
    (λ (l : length (start_of s k) ≤ length (start_of s m)). subst (λ b. Best s p (m ∷ js) (cond b (Some k) (Some m))) (sym (le-ltb (length (start_of s m)) (length (start_of s k)) l)) (t, (λ _. omega arith, more_at_most s p _ _ js l h.1)))
    (cases_lt (length (start_of s m)) (length (start_of s k)))

best : (s : Syntax) (p : StartMarker → Bool) (m : StartMarker) (ns : List StartMarker) → Best s p (m ∷ ns) (longest_of s p m ns)
best s p m [] = one s p m
best s p m (n ∷ ns) = ⊎_elim
    (λ (t : p m ≡ true). subst (λ b. Best s p (m ∷ n ∷ ns) (longer s (cond b (Some m) None) (longest_of s p n ns))) (sym t) (add s p m (n ∷ ns) (longest_of s p n ns) t (best s p n ns)))
    (λ (f : p m ≡ false). subst (λ b. Best s p (m ∷ n ∷ ns) (longer s (cond b (Some m) None) (longest_of s p n ns))) (sym f) (skip s p m (n ∷ ns) (longest_of s p n ns) f (best s p n ns)))
    (cases_Bool (p m))

-- ---- the marker at a place

abbrev markers : List StartMarker
markers = Variable ∷ Block ∷ Comment ∷ LineStatement ∷ LineComment ∷ []

none_of_all : (p : StartMarker → Bool) → NoneOf p markers → (m : StartMarker) → p m ≡ false
unfolding NoneOf
none_of_all p h Variable = h.0
none_of_all p h Block = h.1.0
none_of_all p h Comment = h.1.1.0
none_of_all p h LineStatement = h.1.1.1.0
none_of_all p h LineComment = h.1.1.1.1.0

at_most_of_all : (s : Syntax) (p : StartMarker → Bool) (n : ℕ) → AtMost s p n markers → (m : StartMarker) → p m ≡ true → length (start_of s m) ≤ n
unfolding AtMost
at_most_of_all s p n h Variable = h.0
at_most_of_all s p n h Block = h.1.0
at_most_of_all s p n h Comment = h.1.1.0
at_most_of_all s p n h LineStatement = h.1.1.1.0
at_most_of_all s p n h LineComment = h.1.1.1.1.0

-- what the marker at a place says
unfoldable pub AtMarker : Syntax → Text → ℕ → Option StartMarker → Type 0
AtMarker s text at None = NoMarkerAt s text at
AtMarker s text at (Some k) = IsMarkerAt s text at k

from_best : (s : Syntax) (text : Text) (at : ℕ) (x : Option StartMarker) → Best s (is_eligible s text at) markers x → AtMarker s text at x
unfolding AtMarker Best
from_best s text at None h = none_of_all (is_eligible s text at) h
from_best s text at (Some k) h = record { eligible = h.0; longest = at_most_of_all s (is_eligible s text at) _ h.1 }

pub marker_holds : (s : Syntax) (text : Text) (at : ℕ) → AtMarker s text at (marker_at s text at)
unfolding marker_at
marker_holds s text at = from_best s text at _ (best s (is_eligible s text at) Variable (Block ∷ Comment ∷ LineStatement ∷ LineComment ∷ []))

-- of a syntax that can be built, no two markers are as long as the longest at a place
one_longest : (s : Syntax) (text : Text) (at : ℕ) (j k : StartMarker) → IsBuildable s → IsMarkerAt s text at j → IsMarkerAt s text at k → j ≡ k
one_longest s text at j k built is_j is_k = ⊎_elim
    (λ e. e)
    (λ (other : j ≢ k).
    let above : length (start_of s k) ≤ length (start_of s j) = is_j.longest k is_k.eligible in
    let below : length (start_of s j) ≤ length (start_of s k) = is_k.longest j is_j.eligible in
    absurd (built.distinct j k other (eligible_some s text at j is_j.eligible) (same_begin (start_of s j) (start_of s k) text at (eligible_stands s text at j is_j.eligible) (eligible_stands s text at k is_k.eligible) (omega (arith, above, below)))))
    (same_or_other j k)

some_is : (s : Syntax) (text : Text) (at : ℕ) (k : StartMarker) (x : Option StartMarker) → IsBuildable s → IsMarkerAt s text at k → AtMarker s text at x → x ≡ Some k
unfolding AtMarker
some_is s text at k None built is_k h = let e : false ≡ true = sym (h k) ∙ is_k.eligible in cc
some_is s text at k (Some j) built is_k h = ap Some (one_longest s text at j k built h is_k)

pub marker_is : (s : Syntax) (text : Text) (at : ℕ) (k : StartMarker) → IsBuildable s → IsMarkerAt s text at k → marker_at s text at ≡ Some k
marker_is s text at k built is_k = some_is s text at k (marker_at s text at) built is_k (marker_holds s text at)

none_is : (s : Syntax) (text : Text) (at : ℕ) (x : Option StartMarker) → NoMarkerAt s text at → AtMarker s text at x → x ≡ None
unfolding AtMarker
none_is s text at None n h = refl
none_is s text at (Some j) n h = let e : false ≡ true = sym (n j) ∙ h.eligible in cc

pub no_marker_is : (s : Syntax) (text : Text) (at : ℕ) → NoMarkerAt s text at → marker_at s text at ≡ None
no_marker_is s text at n = none_is s text at (marker_at s text at) n (marker_holds s text at)

pub none_from : (s : Syntax) (text : Text) (at : ℕ) (m : Option StartMarker) → AtMarker s text at m → is_some m ≡ false → NoMarkerAt s text at
unfolding AtMarker
none_from s text at None a h = a
none_from s text at (Some k) a h = let e : true ≡ false = h in cc

pub some_from : (s : Syntax) (text : Text) (at : ℕ) (m : Option StartMarker) → AtMarker s text at m → is_some m ≡ true → (k : StartMarker) × IsMarkerAt s text at k
unfolding AtMarker
some_from s text at None a h = let e : false ≡ true = h in cc
some_from s text at (Some k) a h = (k, a)
