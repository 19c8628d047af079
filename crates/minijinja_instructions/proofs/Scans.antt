-- One step of the scans for the names that are referenced at a place.
use Rattle.std.proofs.Common.{◌≡◌, ℕ, zero, suc, ◌+◌, ◌-◌, ◌<◌, ◌≤◌, inl, inr, List, [], length, drop, map, min, get_or, take, take_all, length-drop, add-one, Option, Some, None, refl, sym, ap, ◌∙◌, arith, cond, Bool, true, false, ◌&&◌, leb, ltb}
use Rattle.std.specs.Prelude.{slice_get}
use Rattle.std.specs.Option.{option_and_then, option_map}
use Rattle.std.proofs.lemmas.Option.{slice_get-map, slice_get_read}
use Rattle.std.proofs.lemmas.List.{drop-map}
use Rattle.std.proofs.lemmas.Bool.{cases_lt, le-leb, lt-leb, lt-ltb, le-ltb}
use Rattle.minijinja_syntax.specs.Texts.{Text}
use Rattle.minijinja_semantics.specs.Code.{Instr}
use Rattle.minijinja_semantics.specs.MacroBodies.{and_name, each_once, name_at, name_in}
use Rattle.minijinja_instructions.specs.private.NamesOnce.{with_any, with_names}
use Rattle.minijinja_instructions.proofs.EachOnce.{added-once}
use Rattle.minijinja_instructions.specs.private.Scanning.{opening_at, opening_of, reach, reach_from, visited, visited_below}

one_by_one : (xs : List Text) (o : Option Text) (ys : List Text) → with_names (with_any xs o) ys ≡ with_names xs (and_name o ys)
one_by_one xs None ys = refl
one_by_one xs (Some x) ys = refl

module _ {C : Type 0} (start : ℕ) (code : List (Instr C)) where
  -- where names count at all places, it does not matter up to where they do
  settled : (p e e' : ℕ) → p ≤ e → p ≤ e' → visited_below start code p e ≡ visited_below start code p e'
  settled zero e e' le le' = refl
  settled (suc p) e e' le le' =
      ap (λ b. cond (leb start p && b) (visited (opening_at code p) (name_at code p) (visited_below start code p) e) (visited_below start code p e)) (lt-ltb p e (omega (arith, le)))
      ∙ both (settled p e e' (omega (arith, le)) (omega (arith, le'))) (leb start p) (opening_at code p)
      ∙ sym (ap (λ b. cond (leb start p && b) (visited (opening_at code p) (name_at code p) (visited_below start code p) e') (visited_below start code p e')) (lt-ltb p e' (omega (arith, le'))))
    where
      both : visited_below start code p e ≡ visited_below start code p e' → (b : Bool) (o : Option ℕ) → cond (b && true) (visited o (name_at code p) (visited_below start code p) e) (visited_below start code p e) ≡ cond (b && true) (visited o (name_at code p) (visited_below start code p) e') (visited_below start code p e')
      both others true (Some s) = refl
      both others true None = ap (and_name (name_at code p)) others
      both others false o = others

  -- places from the end on are not visited
  cut : (p end : ℕ) → end ≤ p → visited_below start code p end ≡ visited_below start code end end
  cut zero end le = let same : end ≡ 0 = omega (arith, le) in ap (λ n. visited_below start code 0 n) same ∙ sym (ap (λ n. visited_below start code n n) same)
  cut (suc p) end le =
      elim (cases_lt p end) [
        | inl last ↦ let same : suc p ≡ end = omega (arith, le, last) in ap (λ n. visited_below start code n end) same
        | inr more ↦
            ap (λ b. cond (leb start p && b) (visited (opening_at code p) (name_at code p) (visited_below start code p) end) (visited_below start code p end)) (le-ltb p end more)
            ∙ neither (leb start p) ∙ cut p end more
      ]
    where
      neither : (b : Bool) → cond (b && false) (visited (opening_at code p) (name_at code p) (visited_below start code p) end) (visited_below start code p end) ≡ visited_below start code p end
      neither true = refl
      neither false = refl

  -- nor are those before the start
  nothing_below : (p end : ℕ) → p ≤ start → visited_below start code p end ≡ []
  nothing_below zero end le = refl
  nothing_below (suc p) end le =
      ap (λ b. cond (b && ltb p end) (visited (opening_at code p) (name_at code p) (visited_below start code p) end) (visited_below start code p end)) (lt-leb start p (omega (arith, le)))
      ∙ nothing_below p end (omega (arith, le))

  visited_here : (p : ℕ) → start ≤ p → visited_below start code (suc p) (suc p) ≡ visited (opening_at code p) (name_at code p) (visited_below start code p) (suc p)
  visited_here p le =
      ap (λ b. cond (b && ltb p (suc p)) (visited (opening_at code p) (name_at code p) (visited_below start code p) (suc p)) (visited_below start code p (suc p))) (le-leb start p le)
      ∙ ap (λ b. cond b (visited (opening_at code p) (name_at code p) (visited_below start code p) (suc p)) (visited_below start code p (suc p))) (lt-ltb p (suc p) (omega arith))

  -- a step at what makes a macro
  step_over : (n p s : ℕ) → n ≡ suc p → start < n → opening_at code p ≡ Some s → visited_below start code n n ≡ visited_below start code (min p s) (min p s)
  step_over n p s same lt e =
      ap (λ n. visited_below start code n n) same ∙ visited_here p (omega (arith, same, lt))
      ∙ ap (λ o. visited o (name_at code p) (visited_below start code p) (suc p)) e
      ∙ elim (cases_lt p s) [
        | inl less ↦ let m : min p s ≡ p = omega (arith, less) in settled p s p (omega (arith, less)) (omega arith) ∙ sym (ap (λ n. visited_below start code n n) m)
        | inr le ↦ let m : min p s ≡ s = omega (arith, le) in cut p s le ∙ sym (ap (λ n. visited_below start code n n) m)
      ]

  -- a step at another instruction
  step_at : (n p : ℕ) (o : Option Text) → n ≡ suc p → start < n → opening_at code p ≡ None → name_at code p ≡ o → visited_below start code n n ≡ and_name o (visited_below start code p p)
  step_at n p o same lt e name =
      ap (λ n. visited_below start code n n) same ∙ visited_here p (omega (arith, same, lt))
      ∙ ap (λ o. visited o (name_at code p) (visited_below start code p) (suc p)) e
      ∙ ap (λ x. and_name x (visited_below start code p (suc p))) name
      ∙ ap (and_name o) (settled p (suc p) p (omega arith) (omega arith))

-- nothing is left to visit
pub all_visited : {C : Type 0} (start : ℕ) (code : List (Instr C)) (n : ℕ) (names whole : List Text) → n ≤ start → with_names names (visited_below start code n n) ≡ whole → names ≡ whole
all_visited start code n names whole le h = ap (with_names names) (sym (nothing_below start code n n le)) ∙ h

-- nothing is visited yet
pub none_visited_yet : (names all : List Text) → names ≡ [] → with_names names all ≡ each_once all
none_visited_yet names all none = ap (λ l. with_names l all) none ∙ added-once all

module _ {A C : Type 0} (v : A → Instr C) (xs : List A) (start n : ℕ) (x : A) (lt : start < n) (within : n ≤ length xs) (is : x ≡ get_or xs (n - 1) x) where
  read_at : slice_get (map v xs) (n - 1) ≡ Some (v x)
  read_at = slice_get-map v xs (n - 1) ∙ ap (option_map v) (slice_get_read xs (length xs) (n - 1) x refl (omega (arith, lt, within)) is)

  -- a turn of the scan at what makes a macro
  pub turn_over : (names whole : List Text) (s m : ℕ) → opening_of (v x) ≡ Some s → m ≡ min (n - 1) s → with_names names (visited_below start (map v xs) n n) ≡ whole → with_names names (visited_below start (map v xs) m m) ≡ whole
  turn_over names whole s m e last h =
      let opening = ap (option_and_then opening_of) read_at ∙ e in
      let step = step_over start (map v xs) n (n - 1) s (omega (arith, lt)) lt opening in
      ap (λ k. with_names names (visited_below start (map v xs) k k)) last ∙ ap (with_names names) (sym step) ∙ h

  -- a turn at another instruction
  pub turn_at : (names more whole : List Text) (o : Option Text) → opening_of (v x) ≡ None → o ≡ name_in (v x) → more ≡ with_any names o → with_names names (visited_below start (map v xs) n n) ≡ whole → with_names more (visited_below start (map v xs) (n - 1) (n - 1)) ≡ whole
  turn_at names more whole o e name added h =
      let opening = ap (option_and_then opening_of) read_at ∙ e in
      let named = ap (option_and_then name_in) read_at ∙ sym name in
      let step = step_at start (map v xs) n (n - 1) o (omega (arith, lt)) lt opening named in
      ap (λ l. with_names l (visited_below start (map v xs) (n - 1) (n - 1))) added ∙ one_by_one names o (visited_below start (map v xs) (n - 1) (n - 1))
      ∙ ap (with_names names) (sym step) ∙ h

-- where the scan of a list begins
pub scan_begins : {A C : Type 0} (v : A → Instr C) (xs : List A) (i : ℕ) → reach_from (map v xs) i (map v (take (length xs - (i + 1)) (drop (i + 1) xs))) (i + 1) ≡ reach (map v xs) i
scan_begins v xs i =
    let whole = take_all (length xs - (i + 1)) (drop (i + 1) xs) (omega (arith, length-drop (i + 1) xs)) in
    ap (λ l. reach_from (map v xs) i (map v l) (i + 1)) whole
    ∙ ap (λ l. reach_from (map v xs) i l (i + 1)) (sym (drop-map v (i + 1) xs))
    ∙ ap (λ n. reach_from (map v xs) i (drop n (map v xs)) n) (add-one i)
