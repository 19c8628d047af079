-- What the constants in a chain of comparisons tell of it.
use Rattle.std.proofs.Common.{◌≡◌, ℕ, zero, suc, ◌+◌, ◌-◌, ◌<◌, ◌≤◌, List, [], ◌∷◌, ◌++◌, length, map, take, drop, Option, Some, None, true, false, refl, sym, ap, ◌∙◌, subst, arith, length-append}
use Rattle.std.specs.Prelude.{Bool, slice_get}
use Rattle.minijinja_value.specs.Values.{Functions}
use Rattle.minijinja_tree.specs.CompareOps.{CompareOp}
use Rattle.minijinja_tree.specs.Comparisons.{compares}
use Rattle.minijinja_tree.specs.Folding.{if_some, unless_fault, fold, fold_chain}
use Rattle.minijinja_tree.specs.Tree.{Expr, Comparisons, against}
use Rattle.minijinja_tree.specs.WellFormed.{IsWhole}
use Rattle.minijinja_tree_expr.proofs.Chains.{chain-holds, chain-fails, chain-faults, chain-unknown}
use Rattle.minijinja_semantics.specs.Code.{Instr, Load}
use Rattle.minijinja_semantics.specs.Layout.{expr}
use Rattle.minijinja_semantics.specs.Pieces.{one}
use Rattle.minijinja_emitter.specs.internal.Making.{Made, here_of, followed, capped, loaded_by, alone, between, Adds}
use Rattle.minijinja_code_expr.specs.private.Comparing.{Holds, known}
use Rattle.minijinja_semantics.proofs.FoldedCode.{folded_code}
use Rattle.minijinja_semantics.proofs.Runs.{append_nil}
use Rattle.minijinja_emitter.proofs.Adding.{adds_as, between_added}
use Rattle.minijinja_code_expr.proofs.Alone.{fold_alone}

get_before : {X : Type 0} (xs ys : List X) (p : ℕ) (x : X) → slice_get xs p ≡ Some x → slice_get (xs ++ ys) p ≡ Some x
get_before [] ys p x h = absurd (cc)
get_before (z ∷ xs) ys zero x h = h
get_before (z ∷ xs) ys (suc p) x h = get_before xs ys p x h

get_dropped : {X : Type 0} (xs : List X) (p : ℕ) (x : X) (more : List X) → drop p xs ≡ x ∷ more → slice_get xs p ≡ Some x
get_dropped [] zero x more e = absurd (cc)
get_dropped [] (suc p) x more e = absurd (cc)
get_dropped (y ∷ xs) zero x more e = let same : y ≡ x = cc in ap Some same
get_dropped (y ∷ xs) (suc p) x more e = get_dropped xs p x more e

dropped_at : {X : Type 0} (xs : List X) (p : ℕ) (x : X) → slice_get xs p ≡ Some x → (more : List X) × (drop p xs ≡ x ∷ more)
dropped_at [] p x e = absurd (cc)
dropped_at (y ∷ xs) zero x e = let same : y ≡ x = cc in (xs, ap (λ z. z ∷ xs) same)
dropped_at (y ∷ xs) (suc p) x e = dropped_at xs p x e

module _ {C : Type 0} where
  loads : (i : Instr C) (c : C) → loaded_by i ≡ Some c → i ≡ Load c
  loads (Load d) c e = let same : d ≡ c = cc in ap Load same
  loads i c e = absurd (cc)

  first_loads : (i : Instr C) (is : List (Instr C)) (c : C) → alone (i ∷ is) ≡ Some c → i ≡ Load c
  first_loads i [] c e = loads i c e
  first_loads i (j ∷ is) c e = absurd (cc)

  taken_loads : (n : ℕ) (is : List (Instr C)) (c : C) → alone (take n is) ≡ Some c → (more : List (Instr C)) × (is ≡ Load c ∷ more)
  taken_loads zero [] c e = absurd (cc)
  taken_loads zero (i ∷ is) c e = absurd (cc)
  taken_loads (suc n) [] c e = absurd (cc)
  taken_loads (suc n) (i ∷ is) c e = (is, ap (λ j. j ∷ is) (first_loads i (take n is) c e))

  -- where all from a place on is the load of a constant, that stands at the place
  alone_from : (code : List (Instr C)) (p : ℕ) (c : C) → alone (between p (length code) code) ≡ Some c → slice_get code p ≡ Some (Load c)
  alone_from code p c e = let d = taken_loads (length code - p) (drop p code) c e in get_dropped code p (Load c) d.0 d.1

  -- a constant at a place is all from there to the next
  alone_at : (code : List (Instr C)) (p : ℕ) (c : C) → slice_get code p ≡ Some (Load c) → alone (between p (p + 1) code) ≡ Some c
  alone_at code p c e =
      let n : p + 1 - p ≡ 1 = omega arith in
      let d = dropped_at code p (Load c) e in
      ap (λ k. alone (take k (drop p code))) n ∙ ap (λ (l : List (Instr C)). alone (take 1 l)) d.1

  within : (code : List (Instr C)) (p : ℕ) (c : C) → slice_get code p ≡ Some (Load c) → p < length code
  within [] p c e = absurd (cc)
  within (i ∷ is) zero c e = omega arith
  within (i ∷ is) (suc p) c e = let h = within is p c e in omega (arith, h)

  pub held_from : (code : List (Instr C)) (p : ℕ) (c : C) → alone (between p (length code) code) ≡ Some c → Holds code (Some p) (alone (between p (length code) code))
  held_from code p c e = subst (λ k. Holds code (Some p) k) (sym e) (alone_from code p c e)

  pub no_constant : (code : List (Instr C)) (value : Option C) → Holds code None value → value ≡ None
  no_constant code None h = refl
  no_constant code (Some c) h = absurd h

  pub held_before : (xs ys : List (Instr C)) (held : Option ℕ) (value : Option C) → Holds xs held value → Holds (xs ++ ys) held value
  held_before xs ys None None h = h
  held_before xs ys None (Some c) h = h
  held_before xs ys (Some p) None h = h
  held_before xs ys (Some p) (Some c) h = get_before xs ys p (Load c) h

  -- the constant that is held is the one that stands there
  held_is : (code : List (Instr C)) (p : ℕ) (value : Option C) → Holds code (Some p) value → value ≡ alone (between p (p + 1) code)
  held_is code p None h = absurd h
  held_is code p (Some c) h = sym (alone_at code p c h)

  held_within : (code : List (Instr C)) (p : ℕ) (value : Option C) → Holds code (Some p) value → p < length code
  held_within code p None h = absurd h
  held_within code p (Some c) h = within code p c h

  -- what stands up to the end
  pub up_to_end : (code : List (Instr C)) (k : Option C) (from to : ℕ) → to ≡ length code → (to ≤ length code → k ≡ alone (between from to code)) → k ≡ alone (between from (length code) code)
  up_to_end code k from to e h = h (omega (arith, e)) ∙ ap (λ n. alone (between from n code)) e

module _ {C F : Type 0} (f : Functions C F) where
  -- an operand that was added folds to the constant that it is
  pub added_alone : {a b : Made C} {place : ℕ} (e : Expr C) → IsWhole e → place ≡ length a.code → Adds a b (expr f e) → alone (between place (length b.code) b.code) ≡ fold f e
  added_alone {a} {b} {place} e w ep s =
      let more : List (Instr C) = map capped ((expr f e).code (here_of a)) in
      let code : b.code ≡ a.code ++ (more ++ []) = s.code ∙ ap (λ l. a.code ++ l) (sym (append_nil more)) in
      let end : length b.code ≡ length a.code + length more = ap length s.code ∙ length-append a.code more in
      ap (λ (l : List (Instr C)). alone (between place (length b.code) l)) code
      ∙ ap alone (between_added a.code more [] place (length b.code) ep end)
      ∙ fold_alone f e w (here_of a)

  -- then that is all that was added
  pub added_load : {a b : Made C} (e : Expr C) (c : C) → fold f e ≡ Some c → Adds a b (expr f e) → b ≡ followed a (Load c ∷ [])
  added_load {a} {b} e c k s =
      let t : Adds a b (one (Load c)) = adds_as (folded_code f e c k) s in
      ap (λ l. record { code = l; filters = b.filters; tests = b.tests }) t.code
      ∙ ap (λ h. record { code = a.code ++ Load c ∷ []; filters = h.filters; tests = h.tests }) t.past

module _ {C F : Type 0} (f : Functions C F) (o : CompareOp) where
  known_none : (k : Option C) → known f o k None ≡ None
  unfolding if_some
  known_none None = refl
  known_none (Some a) = refl

  known_without : (u : Option C) → known f o None u ≡ None
  unfolding if_some
  known_without u = refl

  known_some : (a b : C) → known f o (Some a) (Some b) ≡ unless_fault (compares f o a b)
  unfolding if_some
  known_some a b = refl

  -- where a comparison has an answer both constants are known
  pub known_first : (k u : Option C) (b : Bool) → Some b ≡ known f o k u → (x : C) × (k ≡ Some x)
  unfolding if_some
  known_first None u b h = absurd (cc)
  known_first (Some x) u b h = (x, refl)

  pub known_second : (k u : Option C) (b : Bool) → Some b ≡ known f o k u → (x : C) × (u ≡ Some x)
  unfolding if_some
  known_second k (Some x) b h = (x, refl)
  known_second k None b h = absurd (cc (h, known_none k))

  pub known_right : (value right : Option C) → None ≡ right → None ≡ known f o value right
  known_right value right is = sym (ap (λ u. known f o value u) (sym is) ∙ known_none value)

  module _ (code : List (Instr C)) (value right : Option C) {held : Option ℕ} where
    -- both constants are known
    pub known_both : {p : ℕ} {holds : Option Bool} (a b : C) → held ≡ Some p → (p + 1 ≤ length code → Some a ≡ alone (between p (p + 1) code)) → Some b ≡ right → holds ≡ unless_fault (compares f o a b) → Holds code held value → holds ≡ known f o value right
    known_both {p} {holds} a b at left is h k =
        let there : Holds code (Some p) value = subst (λ q. Holds code q value) at k in
        let first : p < length code = held_within code p value there in
        let same : value ≡ Some a = held_is code p value there ∙ sym (left (omega (arith, first))) in
        h ∙ sym (ap (λ u. known f o u right) same ∙ ap (λ u. known f o (Some a) u) (sym is) ∙ known_some a b)

    -- the constant that is held would be there
    pub known_left : {p : ℕ} → held ≡ Some p → (p + 1 ≤ length code → None ≡ alone (between p (p + 1) code)) → Holds code held value → None ≡ known f o value right
    known_left {p} at left k =
        let there : Holds code (Some p) value = subst (λ q. Holds code q value) at k in
        let first : p < length code = held_within code p value there in
        let same : value ≡ None = held_is code p value there ∙ sym (left (omega (arith, first))) in
        sym (ap (λ u. known f o u right) same ∙ known_without right)

    pub known_nothing : held ≡ None → Holds code held value → None ≡ known f o value right
    known_nothing at k = sym (ap (λ u. known f o u right) (no_constant code value (subst (λ q. Holds code q value) at k)) ∙ known_without right)

  module _ (e : Expr C) (cs : Comparisons C) where
    -- what a chain folds to from a constant on, if there is one
    abbrev pub from : Option C → Comparisons C → Option C
    from k cs = if_some k (λ v. fold_chain f v cs)

    pub chain_true : (k u : Option C) → u ≡ fold f e → Some true ≡ known f o k u → from k (against o e cs) ≡ from u cs
    unfolding if_some
    chain_true None u h t = absurd (cc)
    chain_true (Some a) None h t = absurd (cc)
    chain_true (Some a) (Some b) h t = chain-holds f a o e cs b h t

    pub chain_false : (k u : Option C) → u ≡ fold f e → Some false ≡ known f o k u → from k (against o e cs) ≡ Some (f.of_bool false)
    unfolding if_some
    chain_false None u h t = absurd (cc)
    chain_false (Some a) None h t = absurd (cc)
    chain_false (Some a) (Some b) h t = chain-fails f a o e cs b h t

    pub chain_none : (k u : Option C) → u ≡ fold f e → None ≡ known f o k u → from k (against o e cs) ≡ None
    unfolding if_some
    chain_none None u h t = refl
    chain_none (Some a) None h t = chain-unknown f a o e cs h
    chain_none (Some a) (Some b) h t = chain-faults f a o e cs b h t
