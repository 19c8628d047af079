-- The constant that is loaded between two places, if that is all that is done there.
use Rattle.std.proofs.Common.{◌≡◌, ℕ, ◌+◌, ◌-◌, ◌<◌, ◌≤◌, List, [], ◌∷◌, ◌++◌, length, map, take, drop, get_or, min, Option, Some, None, true, refl, sym, ap, ◌∙◌, arith, length-append, length-drop}
use Rattle.std.specs.Option.{option_map}
use Rattle.std.proofs.Math.Seq.{drop-append_seam, drop-cons, take-length}
use Rattle.std.proofs.lemmas.List.{length-take, length-take-le, drop-map, drop-take, take-append-le, take-take}
use Rattle.minijinja_value.specs.Values.{Functions}
use Rattle.minijinja_semantics.specs.Code.{Instr, Load}
use Rattle.minijinja_emitter.specs.internal.Making.{Made, loaded_by, alone, between}
use Rattle.minijinja_emitter.specs.internal.Constants.{Joins, TakesConstant, TakesConstants, are_both, both_loaded, last_loaded, without_last}

-- the last of a list stays, and what stands before a place
pub last_kept : {X : Type 0} (n : ℕ) (old front : List X) (x : X) → old ≡ front ++ x ∷ [] → n < length old → take n front ++ x ∷ [] ≡ take n old ++ drop (length old - 1) old
last_kept n old front x all within =
    let end : length old ≡ length front + 1 = ap length all ∙ length-append front (x ∷ []) in
    let place : length old - 1 ≡ length front = omega arith in
    let first : take n old ≡ take n front = ap (take n) all ∙ take-append-le n front (x ∷ []) (omega arith) in
    let last : drop (length old - 1) old ≡ x ∷ [] = ap (λ k. drop k old) place ∙ ap (λ l. drop (length front) l) all ∙ drop-append_seam front (x ∷ []) in
    ap (λ l. l ++ x ∷ []) (sym first) ∙ ap (λ l. take n old ++ l) (sym last)

no_some : {C : Type 0} {c : C} → ◌≡◌ {A = Option C} None (Some c) → ⊥
no_some e = absurd (cc)

module _ {C : Type 0} where
  not_alone : (is : List (Instr C)) → (length is ≡ 1 → ⊥) → alone is ≡ None
  not_alone [] n = refl
  not_alone (i ∷ []) n = absurd (n refl)
  not_alone (i ∷ j ∷ is) n = refl

  -- between places that are not next to each other is no instruction, or more than one
  pub apart_not_alone : (is : List (Instr C)) (from to : ℕ) → to ≤ length is → (to ≡ from + 1 → ⊥) → alone (between from to is) ≡ None
  apart_not_alone is from to within apart =
      let size = length-take (to - from) (drop from is) ∙ ap (min (to - from)) (length-drop from is) in
      not_alone (between from to is) (λ one. apart (omega (arith, one, size)))

  -- from one place to the next is the instruction there
  pub next_alone : {X : Type 0} (v : X → Instr C) (xs : List X) (from to : ℕ) (x : X) → to ≡ from + 1 → from < length xs → x ≡ get_or xs from x → alone (between from to (map v xs)) ≡ loaded_by (v x)
  next_alone v xs from to x next within at =
      let one : to - from ≡ 1 = omega arith in
      ap (λ n. alone (take n (drop from (map v xs)))) one
      ∙ ap (λ (l : List (Instr C)). alone (take 1 l)) (drop-map v from xs ∙ ap (map v) (drop-cons xs from x within))
      ∙ ap (λ y. loaded_by (v y)) (sym at)

  -- ---- two constants at the end

  one_alone : (is : List (Instr C)) {c : C} → alone is ≡ Some c → length is ≡ 1
  one_alone [] e = absurd (cc)
  one_alone (i ∷ []) e = refl
  one_alone (i ∷ j ∷ is) e = absurd (cc)

  both_some : (x y : Option C) → are_both x y ≡ true → (a : C) × (b : C) × (x ≡ Some a) × (y ≡ Some b)
  both_some None y e = absurd (cc)
  both_some (Some a) None e = absurd (cc)
  both_some (Some a) (Some b) e = (a, b, refl, refl)

  size_between : (from to : ℕ) (code : List (Instr C)) → length (between from to code) ≡ min (to - from) (length code - from)
  size_between from to code = length-take (to - from) (drop from code) ∙ ap (min (to - from)) (length-drop from code)

  -- where they stand
  record Two (start middle : ℕ) (code : List (Instr C)) : Type 0 where
    first : C
    second : C
    left : alone (between start middle code) ≡ Some first
    right : alone (between middle (length code) code) ≡ Some second
    next : start + 1 ≡ middle
    last : middle + 1 ≡ length code

  two_of : (start middle : ℕ) (code : List (Instr C)) → middle ≤ length code → both_loaded start middle code ≡ true → Two start middle code
  two_of start middle code within e =
      let both = both_some (alone (between start middle code)) (alone (between middle (length code) code)) e in
      record {
        first = both.0;
        second = both.1;
        left = both.2;
        right = both.3;
        next = omega (arith, one_alone (between start middle code) both.2, size_between start middle code);
        last = omega (arith, one_alone (between middle (length code) code) both.3, size_between middle (length code) code);
      }

  last_is : (start middle : ℕ) (code : List (Instr C)) → Two start middle code → last_loaded code ≡ alone (between middle (length code) code)
  last_is start middle code t =
      let place : length code - 1 ≡ middle = omega (arith, t.last) in
      ap (λ k. alone (drop k code)) place ∙ ap alone (sym (ap (λ k. take k (drop middle code)) (sym (length-drop middle code)) ∙ take-length (drop middle code)))

  cut_is : (start middle : ℕ) (code : List (Instr C)) → Two start middle code → without_last code ≡ take (start + 1) code
  cut_is start middle code t = let place : length code - 1 ≡ start + 1 = omega (arith, t.last, t.next) in ap (λ k. take k code) place

  cut_size : (start middle : ℕ) (code : List (Instr C)) → Two start middle code → length (take (start + 1) code) - 1 ≡ start
  cut_size start middle code t = omega (arith, length-take-le (start + 1) code (omega (arith, t.last, t.next)))

  first_is : (start middle : ℕ) (code : List (Instr C)) → Two start middle code → last_loaded (without_last code) ≡ alone (between start middle code)
  first_is start middle code t =
      let gap : 1 ≡ middle - start = omega (arith, t.next) in
      ap last_loaded (cut_is start middle code t) ∙ ap (λ k. alone (drop k (take (start + 1) code))) (cut_size start middle code t) ∙ ap alone (drop-take start 1 code) ∙ ap (λ k. alone (take k (drop start code))) gap

  rest_is : (start middle : ℕ) (code : List (Instr C)) → Two start middle code → without_last (without_last code) ≡ take start code
  rest_is start middle code t =
      ap without_last (cut_is start middle code t) ∙ ap (λ k. take k (take (start + 1) code)) (cut_size start middle code t) ∙ take-take start (start + 1) code (omega arith)

  -- both were removed, the right one first
  module _ {V : Type 0} (v : V → C) (start middle : ℕ) (old one two : Made C) (l r : Option V)
      (there : middle ≤ length old.code → true ≡ both_loaded start middle old.code) (right : option_map v r ≡ last_loaded old.code) (cut : one ≡ record old { code = without_last old.code }) where
    ends : middle ≤ length old.code → Two start middle old.code
    ends within = two_of start middle old.code within (sym (there within))

    pub left_there : middle ≤ length old.code → option_map v l ≡ last_loaded one.code → l ≡ None → ⊥
    left_there within left none =
        let t = ends within in
        no_some (sym (ap (option_map v) none) ∙ left ∙ ap (λ (m : Made C). last_loaded m.code) cut ∙ first_is start middle old.code t ∙ t.left)

    pub taken_back : (x y : V) → l ≡ Some x → r ≡ Some y → option_map v l ≡ last_loaded one.code → two ≡ record one { code = without_last one.code } → middle ≤ length old.code → TakesConstants v start middle old (Some (x, y)) two
    taken_back x y lx ry left rest within =
        let t = ends within in (
          sym (ap (option_map v) lx) ∙ left ∙ ap (λ (m : Made C). last_loaded m.code) cut ∙ first_is start middle old.code t,
          sym (ap (option_map v) ry) ∙ right ∙ last_is start middle old.code t,
          rest ∙ ap (λ (m : Made C). record m { code = without_last m.code }) cut ∙ ap (λ (c : List (Instr C)). record old { code = c }) (rest_is start middle old.code t),
        )

  -- what was joined with a constant that was removed stands in its place
  pub joined_there : {F V : Type 0} (f : Functions C F) (v : V → C) (place : ℕ) (right : C) (old cut new : Made C) (left joined : V) → TakesConstant v place old (Some left) cut → v joined ≡ f.concat (v left) right → new ≡ record cut { code = take place cut.code ++ Load (v joined) ∷ [] } → Joins f place right true old new
  joined_there f v place right old cut new left joined t ej en = (
    v left,
    t.0,
    en ∙ ap (λ (m : Made C). record m { code = take place m.code ++ Load (v joined) ∷ [] }) t.1
        ∙ ap (λ (l : List (Instr C)). record old { code = l ++ Load (v joined) ∷ [] }) (take-take place place old.code (omega arith))
        ∙ ap (λ x. record old { code = take place old.code ++ Load x ∷ [] }) ej,
  )
