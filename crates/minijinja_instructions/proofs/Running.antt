-- What runs show at each place.
use Rattle.std.proofs.Common.{◌≡◌, ℕ, zero, suc, ◌+◌, ◌-◌, ◌<◌, ◌≤◌, ◌++◌, List, [], ◌∷◌, length, take, refl, sym, ap, ap₂, ◌∙◌, arith, length-append, true, false}
use Rattle.std.specs.Prelude.{Bool, cond, All, Option, Some, None, leb, min, slice_get}
use Rattle.std.specs.Borrow.{Bor}
use Rattle.std.specs.List.{AllWithin}
use Rattle.std.specs.Option.{option_copied, option_map}
use Rattle.std.proofs.lemmas.Bool.{le-leb, leb-false, leb-true, lt-leb, ltb-false, ltb-true}
use Rattle.std.proofs.lemmas.List.Elements.{All-cons, All-head, All-nil, All-tail, All-weaker}
use Rattle.std.proofs.Math.Dec.{ltb}
use Rattle.std.proofs.lemmas.List.{take-append-le, take_all}
use Rattle.minijinja_instructions.specs.RunLists.{in_force, in_force_after, values_up_to}
use Rattle.minijinja_semantics.specs.Marks.{last_or}
use Rattle.minijinja_instructions.specs.Runs.{at_or_last}
use Rattle.minijinja_instructions.specs.declared.runs.Run.{Run}

-- ---- lists

pub last-pushed : {X : Type 0} (d : X) (xs : List X) (y : X) → last_or d (xs ++ y ∷ []) ≡ y
last-pushed d [] y = refl
last-pushed d (x ∷ xs) y = last-pushed x xs y

pub at-within : {X : Type 0} (d : X) (xs ys : List X) (i : ℕ) → i < length xs → at_or_last d (xs ++ ys) i ≡ at_or_last d xs i
at-within d [] ys i h = absurd (omega (arith, h))
at-within d (x ∷ xs) ys zero h = refl
at-within d (x ∷ xs) ys (suc i) h = at-within x xs ys i (omega (arith, h))

pub at-pushed : {X : Type 0} (d : X) (xs : List X) (y : X) (i : ℕ) → length xs ≤ i → at_or_last d (xs ++ y ∷ []) i ≡ y
at-pushed d [] y zero h = refl
at-pushed d [] y (suc i) h = refl
at-pushed d (x ∷ xs) y zero h = absurd (omega (arith, h))
at-pushed d (x ∷ xs) y (suc i) h = at-pushed x xs y i (omega (arith, h))

-- ---- the last run

module _ {X : Type 0} where
  -- the value of the last run, or else this one
  abbrev pub final : Option X → List (Run X) → Option X
  final x [] = x
  final x (r ∷ rs) = final (Some r.value) rs

  -- where all have begun
  settled : (x : Option X) (rs : List (Run X)) (i : ℕ) → All (λ r. r.first ≤ i) rs → in_force_after x rs i ≡ final x rs
  settled x [] i h = refl
  settled x (r ∷ rs) i h =
      ap (λ b. in_force_after (cond b (Some r.value) x) rs i) (le-leb r.first i (All-head (λ r. r.first ≤ i) r rs h))
      ∙ settled (Some r.value) rs i (All-tail (λ r. r.first ≤ i) r rs h)

  all-begun : (rs : List (Run X)) (n i : ℕ) → n ≤ i + 1 → All (λ r. r.first < n) rs → All (λ r. r.first ≤ i) rs
  all-begun rs n i h all = All-weaker (λ r. r.first < n) (λ r. r.first ≤ i) (λ r k. omega (arith, h, k)) rs all

  -- before place 0 nothing begins
  none-begun : (x : Option X) (rs : List (Run X)) (i : ℕ) → All (λ r. r.first < 0) rs → in_force_after x rs i ≡ x
  none-begun x [] i h = refl
  none-begun x (r ∷ rs) i h = absurd (let k = All-head (λ r. r.first < 0) r rs h in omega (arith, k))

  pub length-values : (rs : List (Run X)) (n : ℕ) → length (values_up_to rs n) ≡ n
  length-values rs zero = refl
  length-values rs (suc n) = let h = length-values rs n in omega (arith, h, length-append (values_up_to rs n) (in_force rs n ∷ []))

  pub last-value : (rs : List (Run X)) (n : ℕ) → All (λ r. r.first < n) rs → last_or None (values_up_to rs n) ≡ final None rs
  last-value rs zero h = sym (none-final rs h)
    where
      none-final : (rs : List (Run X)) → All (λ r. r.first < 0) rs → final None rs ≡ None
      none-final [] h = refl
      none-final (r ∷ rs) h = absurd (let k = All-head (λ r. r.first < 0) r rs h in omega (arith, k))
  last-value rs (suc n) h = last-pushed None (values_up_to rs n) (in_force rs n) ∙ settled None rs n (all-begun rs (suc n) n (omega arith) h)

  -- one place more
  pub again-shows : (rs : List (Run X)) (n : ℕ) → All (λ r. r.first < n) rs → in_force rs n ≡ last_or None (values_up_to rs n)
  again-shows rs n h = settled None rs n (all-begun rs n n (omega arith) h) ∙ sym (last-value rs n h)

  at-place : (rs : List (Run X)) (n i : ℕ) → i < n → at_or_last None (values_up_to rs n) i ≡ in_force rs i
  at-place rs zero i h = absurd (omega (arith, h))
  at-place rs (suc n) i h = go (leb n i) refl (at-place rs n i)
    where
      go : (b : Bool) → leb n i ≡ b → (i < n → at_or_last None (values_up_to rs n) i ≡ in_force rs i) → at_or_last None (values_up_to rs n ++ in_force rs n ∷ []) i ≡ in_force rs i
      go true e before =
          let past : n ≤ i = leb-true n i e in
          let same : n ≡ i = omega (arith, h, past) in
          at-pushed None (values_up_to rs n) (in_force rs n) i (omega (arith, past, length-values rs n)) ∙ ap (in_force rs) same
      go false e before =
          let within : i < n = leb-false n i e in
          at-within None (values_up_to rs n) (in_force rs n ∷ []) i (omega (arith, within, length-values rs n)) ∙ before within

  pub at-shows : (rs : List (Run X)) (n i : ℕ) → All (λ r. r.first < n) rs → in_force rs i ≡ at_or_last None (values_up_to rs n) i
  at-shows rs zero i h = none-begun None rs i h
  at-shows rs (suc n) i h = go (leb (suc n) i) refl
    where
      go : (b : Bool) → leb (suc n) i ≡ b → in_force rs i ≡ at_or_last None (values_up_to rs (suc n)) i
      go true e =
          let past : suc n ≤ i = leb-true (suc n) i e in
          settled None rs i (all-begun rs (suc n) i (omega (arith, past)) h) ∙ sym (settled None rs n (all-begun rs (suc n) n (omega arith) h))
          ∙ sym (at-pushed None (values_up_to rs n) (in_force rs n) i (omega (arith, past, length-values rs n)))
      go false e = sym (at-place rs (suc n) i (leb-false (suc n) i e))

  -- ---- one run more

  in_force-pushed : (x : Option X) (rs : List (Run X)) (r : Run X) (i : ℕ) → in_force_after x (rs ++ r ∷ []) i ≡ cond (leb r.first i) (Some r.value) (in_force_after x rs i)
  in_force-pushed x [] r i = refl
  in_force-pushed x (s ∷ rs) r i = in_force-pushed (cond (leb s.first i) (Some s.value) x) rs r i

  values-same : (rs : List (Run X)) (r : Run X) (m : ℕ) → m ≤ r.first → values_up_to (rs ++ r ∷ []) m ≡ values_up_to rs m
  values-same rs r zero h = refl
  values-same rs r (suc m) h =
      ap₂ (λ l v. l ++ v ∷ []) (values-same rs r m (omega (arith, h)))
      (in_force-pushed None rs r m ∙ ap (λ b. cond b (Some r.value) (in_force rs m)) (lt-leb r.first m (omega (arith, h))))

  pub put-shows : (rs : List (Run X)) (r : Run X) → values_up_to (rs ++ r ∷ []) r.first ++ in_force (rs ++ r ∷ []) r.first ∷ [] ≡ values_up_to rs r.first ++ Some r.value ∷ []
  put-shows rs r =
      ap₂ (λ l v. l ++ v ∷ []) (values-same rs r r.first (omega arith))
      (in_force-pushed None rs r r.first ∙ ap (λ b. cond b (Some r.value) (in_force rs r.first)) (le-leb r.first r.first (omega arith)))

  -- ---- halving

  pub halved : (x : Option X) (rs : List (Run X)) (i k : ℕ) → k ≤ length rs → AllWithin (λ r. leb r.first i ≡ true) rs 0 k → AllWithin (λ r. leb r.first i ≡ false) rs k (length rs) → in_force_after x rs i ≡ final x (take k rs)
  halved x [] i zero h begun after = refl
  halved x [] i (suc k) h begun after = absurd (omega (arith, h))
  halved x (r ∷ rs) i zero h begun after =
      ap (λ b. in_force_after (cond b (Some r.value) x) rs i) (after 0 r (omega arith) (omega arith))
      ∙ halved x rs i zero (omega arith) (λ j d a b. absurd (omega (arith, b))) (λ j d a b. after (suc j) d (omega arith) (omega (arith, b)))
  halved x (r ∷ rs) i (suc k) h begun after =
      ap (λ b. in_force_after (cond b (Some r.value) x) rs i) (begun 0 r (omega arith) (omega arith))
      ∙ halved (Some r.value) rs i k (omega (arith, h)) (λ j d a b. begun (suc j) d (omega arith) (omega (arith, b))) (λ j d a b. after (suc j) d (omega (arith, a)) (omega (arith, b)))

  -- the last of runs, as a list has it
  final-is : (x : Option X) (r : Run X) (rs : List (Run X)) → final x (r ∷ rs) ≡ option_map (λ r. r.value) (slice_get (r ∷ rs) (length rs))
  final-is x r [] = refl
  final-is x r (s ∷ rs) = final-is (Some r.value) s rs

  copied-value : (o : Option (Bor (Run X))) → option_map (λ r. r.now.value) o ≡ option_map (λ r. r.value) (option_copied o)
  copied-value None = refl
  copied-value (Some r) = refl

  pub last-is : (rs : List (Run X)) (o : Option (Bor (Run X))) → option_copied o ≡ slice_get rs (length rs - 1) → option_map (λ r. r.now.value) o ≡ final None rs
  last-is [] o h = copied-value o ∙ ap (option_map (λ r. r.value)) h
  last-is (r ∷ rs) o h =
      let n : length (r ∷ rs) - 1 ≡ length rs = omega arith in
      copied-value o ∙ ap (option_map (λ r. r.value)) (h ∙ ap (slice_get (r ∷ rs)) n) ∙ sym (final-is None r rs)

  -- ---- fewer places

  -- what begins later is not in force yet
  in_force-cut : (x : Option X) (rs : List (Run X)) (k n m : ℕ) → m < n → AllWithin (λ r. ltb r.first n ≡ true) rs 0 k → AllWithin (λ r. ltb r.first n ≡ false) rs k (length rs) → in_force_after x (take k rs) m ≡ in_force_after x rs m
  in_force-cut x [] zero n m h begun after = refl
  in_force-cut x [] (suc k) n m h begun after = refl
  in_force-cut x (r ∷ rs) zero n m h begun after =
      let later : n ≤ r.first = ltb-false r.first n (after 0 r (omega arith) (omega arith)) in
      in_force-cut x rs zero n m h (λ j d a b. absurd (omega (arith, b))) (λ j d a b. after (suc j) d (omega arith) (omega (arith, b)))
      ∙ ap (λ b. in_force_after (cond b (Some r.value) x) rs m) (sym (lt-leb r.first m (omega (arith, h, later))))
  in_force-cut x (r ∷ rs) (suc k) n m h begun after =
      in_force-cut (cond (leb r.first m) (Some r.value) x) rs k n m h (λ j d a b. begun (suc j) d (omega arith) (omega (arith, b))) (λ j d a b. after (suc j) d (omega (arith, a)) (omega (arith, b)))

  values-cut : (rs : List (Run X)) (k n m : ℕ) → m ≤ n → AllWithin (λ r. ltb r.first n ≡ true) rs 0 k → AllWithin (λ r. ltb r.first n ≡ false) rs k (length rs) → values_up_to (take k rs) m ≡ values_up_to rs m
  values-cut rs k n zero h begun after = refl
  values-cut rs k n (suc m) h begun after =
      ap₂ (λ l v. l ++ v ∷ []) (values-cut rs k n m (omega (arith, h)) begun after) (in_force-cut None rs k n m (omega (arith, h)) begun after)

  all-values : (rs : List (Run X)) (n m : ℕ) → m ≤ n → take n (values_up_to rs m) ≡ values_up_to rs m
  all-values rs n m h = take_all n (values_up_to rs m) (let k = length-values rs m in omega (arith, h, k))

  first-values : (rs : List (Run X)) (n m : ℕ) → n ≤ m → take n (values_up_to rs m) ≡ values_up_to rs n
  first-values rs n zero h = let e : n ≡ zero = omega (arith, h) in ap (λ k. take k (values_up_to rs zero)) e ∙ ap (values_up_to rs) (sym e)
  first-values rs n (suc m) h = go (leb n m) refl (first-values rs n m)
    where
      go : (b : Bool) → leb n m ≡ b → (n ≤ m → take n (values_up_to rs m) ≡ values_up_to rs n) → take n (values_up_to rs m ++ in_force rs m ∷ []) ≡ values_up_to rs n
      go true e before =
          let within : n ≤ m = leb-true n m e in
          take-append-le n (values_up_to rs m) (in_force rs m ∷ []) (let k = length-values rs m in omega (arith, within, k)) ∙ before within
      go false e before =
          let past : m < n = leb-false n m e in
          let all : n ≡ suc m = omega (arith, h, past) in
          all-values rs n (suc m) (omega (arith, past)) ∙ ap (values_up_to rs) (sym all)

  values-min : (rs : List (Run X)) (n m : ℕ) → values_up_to rs (min m n) ≡ take n (values_up_to rs m)
  values-min rs n m = go (leb m n) refl
    where
      go : (b : Bool) → leb m n ≡ b → values_up_to rs (min m n) ≡ take n (values_up_to rs m)
      go true e =
          let h : m ≤ n = leb-true m n e in
          let e : min m n ≡ m = omega (arith, h) in
          ap (values_up_to rs) e ∙ sym (all-values rs n m h)
      go false e =
          let h : n < m = leb-false m n e in
          let e : min m n ≡ n = omega (arith, h) in
          ap (values_up_to rs) e ∙ sym (first-values rs n m (omega (arith, h)))

  -- the runs that begin before a place, at the places before it
  pub cut-shows : (rs : List (Run X)) (k n m : ℕ) → AllWithin (λ r. ltb r.first n ≡ true) rs 0 k → AllWithin (λ r. ltb r.first n ≡ false) rs k (length rs) → values_up_to (take k rs) (min m n) ≡ take n (values_up_to rs m)
  cut-shows rs k n m begun after = values-cut rs k n (min m n) (omega arith) begun after ∙ values-min rs n m

  -- the runs left begin before the end that is left
  pub cut-before : (rs : List (Run X)) (k n m : ℕ) → k ≤ length rs → AllWithin (λ r. ltb r.first n ≡ true) rs 0 k → All (λ r. r.first < m) rs → All (λ r. r.first < min m n) (take k rs)
  cut-before [] zero n m h begun all = All-nil (λ r. r.first < min m n)
  cut-before [] (suc k) n m h begun all = All-nil (λ r. r.first < min m n)
  cut-before (r ∷ rs) zero n m h begun all = All-nil (λ r. r.first < min m n)
  cut-before (r ∷ rs) (suc k) n m h begun all =
      let first : r.first < n = ltb-true r.first n (begun 0 r (omega arith) (omega arith)) in
      let last : r.first < m = All-head (λ r. r.first < m) r rs all in
      All-cons (λ r. r.first < min m n) r (take k rs) (omega (arith, first, last)) (cut-before rs k n m (omega (arith, h)) (λ j d a b. begun (suc j) d (omega arith) (omega (arith, b))) (All-tail (λ r. r.first < m) r rs all))
