-- What is open after a block was opened, and before it was closed.
use Rattle.std.proofs.Common.{◌≡◌, ◌+◌, ◌-◌, ℕ, Bool, true, false, List, [], ◌∷◌, ◌++◌, Option, Some, None, length, take, refl, sym, ap, ap₂, subst, ◌∙◌, arith}
use Rattle.std.proofs.lemmas.Bool.{ne_eqb}
use Rattle.std.specs.Prelude.{◌&&◌, ◌||◌, ◌==◌, IfNone, IfSome, MatchOption, is_none, is_some, option_to_list, slice_get}
use Rattle.minijinja_syntax.specs.declared.error.Error.{Error}
use Rattle.minijinja_code.specs.Building.{Building, OpenBlock, Branch, Loop, Conditions, are_closed, conditions_ended_at, is_branch, is_conditions, is_loop, with_condition}
use Rattle.minijinja_code.specs.declared.codegen.building.Pending.{Pending}
use Rattle.minijinja_code.specs.declared.codegen.building.Pending.TheVariants as pending
use Rattle.minijinja_code.specs.internal.OpenBlocks.{all_opened_in, opened_in}
use Rattle.minijinja_code.specs.private.LeftOpen.{begins_row_in, is_branch_in, is_condition_in, is_loop_in, is_row_in}
use Rattle.minijinja_semantics.specs.Jumps.{with_target}

pub opened_last : (bs : List OpenBlock) (xs : List Pending) (x : Pending) → all_opened_in bs (xs ++ x ∷ []) ≡ opened_in x (all_opened_in bs xs)
opened_last bs [] x = refl
opened_last bs (y ∷ xs) x = opened_last (opened_in y bs) xs x

-- what was open before something was taken off
pub opened_before : (r : Option Pending) (front all : List Pending) (x : Pending) → all ≡ front ++ option_to_list r → r ≡ Some x → all_opened_in [] all ≡ opened_in x (all_opened_in [] front)
opened_before r front all x e is = ap (all_opened_in []) (e ∙ ap (λ o. front ++ option_to_list o) is) ∙ opened_last [] front x

abbrev from_some : Pending → Option Pending → Pending
from_some d (Some x) = x
from_some d None = d

split_at_last : (y : Pending) (ys : List Pending) (x : Pending) → slice_get (y ∷ ys) (length ys) ≡ Some x → y ∷ ys ≡ take (length ys) (y ∷ ys) ++ x ∷ []
split_at_last y [] x e = ap (λ z. z ∷ []) (ap (from_some y) e)
split_at_last y (z ∷ zs) x e = ap (λ l. y ∷ l) (split_at_last z zs x e)

split_last : (xs : List Pending) (n : ℕ) (x : Pending) → n ≡ length xs → slice_get xs (length xs - 1) ≡ Some x → xs ≡ take (n - 1) xs ++ x ∷ []
split_last [] n x same e = absurd (cc)
split_last (y ∷ ys) n x same e =
    let less : length (y ∷ ys) - 1 ≡ length ys = omega arith in
    let next : length ys ≡ n - 1 = omega (arith, same) in
    split_at_last y ys x (sym (ap (slice_get (y ∷ ys)) less) ∙ e) ∙ ap (λ k. take k (y ∷ ys) ++ x ∷ []) next

-- by what was seen last before the last was taken off
pub opened_when_taken : (all front : List Pending) (n : ℕ) (x : Pending) → n ≡ length all → slice_get all (length all - 1) ≡ Some x → front ≡ take (n - 1) all → all_opened_in [] all ≡ opened_in x (all_opened_in [] front)
opened_when_taken all front n x same last taken = ap (all_opened_in []) (split_last all n x same last ∙ ap (λ l. l ++ x ∷ []) (sym taken)) ∙ opened_last [] front x

-- nothing is left where nothing could be taken off
pub none_left : (r : Option Pending) (front : List Pending) (n m : ℕ) → MatchOption r ((n ≡ 0) × (m ≡ 0)) (λ x. m + 1 ≡ n) → m ≡ length front → r ≡ None → front ≡ []
none_left (Some x) front n m h same e = absurd (cc)
none_left None [] n m h same e = refl
none_left None (y ∷ ys) n m h same e = absurd (omega (arith, same, h.1))

pub last_kept : {ys xs : List Pending} (r : Option Pending) → ys ≡ xs → r ≡ slice_get ys (length ys - 1) → r ≡ slice_get xs (length xs - 1)
last_kept r same e = subst (λ l. r ≡ slice_get l (length l - 1)) same e

-- ---- the kind of the innermost block

with_condition_is : (p : ℕ) (bs : List OpenBlock) → (ps : List ℕ) × (rest : List OpenBlock) × (with_condition p bs ≡ Conditions ps ∷ rest)
with_condition_is p [] = (p ∷ [], [], refl)
with_condition_is p (Branch q ∷ bs) = (p ∷ [], Branch q ∷ bs, refl)
with_condition_is p (Loop q ∷ bs) = (p ∷ [], Loop q ∷ bs, refl)
with_condition_is p (Conditions ps ∷ bs) = (p ∷ ps, bs, refl)

-- a test of what is open that looks at the innermost block alone
record IsTest (holds : List OpenBlock → Bool) (holds_in : Option Pending → Bool) : Type 0 where
  pub none : holds [] ≡ holds_in None
  pub some : (x : Pending) (bs : List OpenBlock) → holds (opened_in x bs) ≡ holds_in (Some x)

branch_test : IsTest is_branch is_branch_in
branch_test = record { none = refl; some = on }
  where
    on : (x : Pending) (bs : List OpenBlock) → is_branch (opened_in x bs) ≡ is_branch_in (Some x)
    on (pending.Branch p) bs = refl
    on (pending.Loop p) bs = refl
    on pending.Conditions bs = refl
    on (pending.Condition p) bs = ap is_branch (with_condition_is p bs).2

loop_test : IsTest is_loop is_loop_in
loop_test = record { none = refl; some = on }
  where
    on : (x : Pending) (bs : List OpenBlock) → is_loop (opened_in x bs) ≡ is_loop_in (Some x)
    on (pending.Branch p) bs = refl
    on (pending.Loop p) bs = refl
    on pending.Conditions bs = refl
    on (pending.Condition p) bs = ap is_loop (with_condition_is p bs).2

row_test : IsTest is_conditions is_row_in
row_test = record { none = refl; some = on }
  where
    on : (x : Pending) (bs : List OpenBlock) → is_conditions (opened_in x bs) ≡ is_row_in (Some x)
    on (pending.Branch p) bs = refl
    on (pending.Loop p) bs = refl
    on pending.Conditions bs = refl
    on (pending.Condition p) bs = ap is_conditions (with_condition_is p bs).2

module _ {holds : List OpenBlock → Bool} {holds_in : Option Pending → Bool} (test : IsTest holds holds_in) where
  last_of_more : (bs : List OpenBlock) (y : Pending) (ys : List Pending) → holds (all_opened_in bs (y ∷ ys)) ≡ holds_in (slice_get (y ∷ ys) (length ys))
  last_of_more bs y [] = test.some y bs
  last_of_more bs y (z ∷ zs) = last_of_more (opened_in y bs) z zs

  of_last : (xs : List Pending) → holds (all_opened_in [] xs) ≡ holds_in (slice_get xs (length xs - 1))
  of_last [] = test.none
  of_last (y ∷ ys) = last_of_more [] y ys ∙ ap (λ n. holds_in (slice_get (y ∷ ys) n)) (omega arith)

  of_taken : (r : Option Pending) (front all : List Pending) → all ≡ front ++ option_to_list r → (r ≡ None → front ≡ []) → holds (all_opened_in [] all) ≡ holds_in r
  of_taken (Some x) front all e none = ap holds (opened_before (Some x) front all x e refl) ∙ test.some x (all_opened_in [] front)
  of_taken None front all e none = ap (λ xs. holds (all_opened_in [] xs)) (e ∙ ap (λ xs. xs ++ []) (none refl)) ∙ test.none

  -- the test of a generator that has not failed, by what it kept last
  tested : (refusal : Option Error) (xs : List Pending) (last : Option Pending) → is_some refusal ≡ false → last ≡ slice_get xs (length xs - 1) → holds_in last ≡ (is_none refusal && holds (all_opened_in [] xs))
  tested None xs last ready is = ap holds_in is ∙ sym (of_last xs)
  tested (Some e) xs last ready is = absurd (cc)

  taken : (refusal : Option Error) (r : Option Pending) (front all : List Pending) → all ≡ front ++ option_to_list r → (r ≡ None → front ≡ []) → (is_none refusal && holds (all_opened_in [] all)) ≡ true → holds_in r ≡ true
  taken None r front all e none h = sym (of_taken r front all e none) ∙ h
  taken (Some d) r front all e none h = absurd (cc)

pub branch_tested : (refusal : Option Error) (xs : List Pending) (last : Option Pending) → is_some refusal ≡ false → last ≡ slice_get xs (length xs - 1) → is_branch_in last ≡ (is_none refusal && is_branch (all_opened_in [] xs))
branch_tested = tested branch_test

pub loop_tested : (refusal : Option Error) (xs : List Pending) (last : Option Pending) → is_some refusal ≡ false → last ≡ slice_get xs (length xs - 1) → is_loop_in last ≡ (is_none refusal && is_loop (all_opened_in [] xs))
loop_tested = tested loop_test

pub row_tested : (refusal : Option Error) (xs : List Pending) (last : Option Pending) → is_some refusal ≡ false → last ≡ slice_get xs (length xs - 1) → is_row_in last ≡ (is_none refusal && is_conditions (all_opened_in [] xs))
row_tested = tested row_test

pub branch_taken : (refusal : Option Error) (r : Option Pending) (front all : List Pending) → all ≡ front ++ option_to_list r → (r ≡ None → front ≡ []) → (is_none refusal && is_branch (all_opened_in [] all)) ≡ true → is_branch_in r ≡ true
branch_taken = taken branch_test

pub loop_taken : (refusal : Option Error) (r : Option Pending) (front all : List Pending) → all ≡ front ++ option_to_list r → (r ≡ None → front ≡ []) → (is_none refusal && is_loop (all_opened_in [] all)) ≡ true → is_loop_in r ≡ true
loop_taken = taken loop_test

pub not_both : {b : Bool} → b ≡ true → b ≡ false → ⊥
not_both is not = wrong (sym is ∙ not)
  where
    wrong : true ≡ false → ⊥
    wrong e = cc

pub no_row : (xs : List Pending) (r s : Option Pending) → r ≡ slice_get xs (length xs - 1) → s ≡ slice_get xs (length xs - 1) → is_condition_in r ≡ false → begins_row_in s ≡ false → is_conditions (all_opened_in [] xs) ≡ false
no_row xs r s is at none not = of_last row_test xs ∙ ap₂ (λ a b. a || b) (sym (ap begins_row_in at) ∙ not) (sym (ap is_condition_in is) ∙ none)

pub row_begun : (r : Option Pending) → begins_row_in r ≡ true → r ≡ Some pending.Conditions
row_begun (Some pending.Conditions) e = refl
row_begun (Some (pending.Branch p)) e = absurd (cc)
row_begun (Some (pending.Loop p)) e = absurd (cc)
row_begun (Some (pending.Condition p)) e = absurd (cc)
row_begun None e = absurd (cc)

-- whether the place is there, by the kind
pub branch_told : (r : Option Pending) (found : Option ℕ) → IfSome found (λ p. r ≡ Some (pending.Branch p)) → IfNone found (is_branch_in r ≡ false) → is_some found ≡ is_branch_in r
branch_told r (Some p) some none = sym (ap is_branch_in some)
branch_told r None some none = sym none

pub loop_told : (r : Option Pending) (found : Option ℕ) → IfSome found (λ p. r ≡ Some (pending.Loop p)) → IfNone found (is_loop_in r ≡ false) → is_some found ≡ is_loop_in r
loop_told r (Some p) some none = sym (ap is_loop_in some)
loop_told r None some none = sym none

-- ---- nothing is open

open_with : (x : Pending) (bs : List OpenBlock) → are_closed (opened_in x bs) ≡ false
open_with (pending.Branch p) bs = refl
open_with (pending.Loop p) bs = refl
open_with pending.Conditions bs = refl
open_with (pending.Condition p) bs = ap are_closed (with_condition_is p bs).2

still_open : (bs : List OpenBlock) (xs : List Pending) → are_closed bs ≡ false → are_closed (all_opened_in bs xs) ≡ false
still_open bs [] e = e
still_open bs (x ∷ xs) e = still_open (opened_in x bs) xs (open_with x bs)

pub closed_told : (refusal : Option Error) (xs : List Pending) (n : ℕ) → is_some refusal ≡ false → n ≡ length xs → (n == 0) ≡ (is_none refusal && are_closed (all_opened_in [] xs))
closed_told None [] n ready same = ap (λ k. k == 0) same
closed_told None (x ∷ xs) n ready same = ne_eqb n 0 (λ zero. absurd (omega (arith, same, zero))) ∙ sym (still_open (opened_in x []) xs (open_with x []))
closed_told (Some e) xs n ready same = absurd (cc)

-- ---- the end of a row of `and` or `or`

module _ {C : Type 0} (next : ℕ) where
  -- the last jump is led there first
  pub condition_led : (p : ℕ) (bs : List OpenBlock) (b : Building C) → conditions_ended_at next bs (record b { code = with_target next b.code p; blocks = bs }) ≡ conditions_ended_at next (with_condition p bs) b
  condition_led p [] b = refl
  condition_led p (Branch q ∷ bs) b = refl
  condition_led p (Loop q ∷ bs) b = refl
  condition_led p (Conditions ps ∷ bs) b = refl

  pub no_row_ended : (bs : List OpenBlock) (b : Building C) → is_conditions bs ≡ false → conditions_ended_at next bs b ≡ b
  no_row_ended [] b e = refl
  no_row_ended (Branch q ∷ bs) b e = refl
  no_row_ended (Loop q ∷ bs) b e = refl
  no_row_ended (Conditions ps ∷ bs) b e = absurd (cc)
