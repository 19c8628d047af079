-- How what is added to code is put together of pieces.
use Rattle.std.proofs.Common.{◌≡◌, ℕ, ◌+◌, ◌-◌, List, [], ◌∷◌, ◌++◌, length, map, take, drop, refl, sym, ap, ◌∙◌, subst, arith, append_assoc, length-append}
use Rattle.std.specs.Prelude.{slice_set}
use Rattle.std.proofs.lemmas.List.{length-set, map-append}
use Rattle.std.proofs.Math.Seq.{take-append_seam, drop-append_seam}
use Rattle.minijinja_semantics.specs.Code.{Instr}
use Rattle.minijinja_semantics.specs.Pieces.{Here, behind, Piece, nothing, one, ◌▸◌, skipping}
use Rattle.minijinja_emitter.specs.internal.Making.{Made, here_of, followed, hole, capped, Adds, between}
use Rattle.minijinja_semantics.proofs.Runs.{append_nil}

-- an instruction takes the place of another
pub set_between : {X : Type 0} (xs ys : List X) (x y : X) → slice_set (xs ++ x ∷ ys) (length xs) y ≡ xs ++ y ∷ ys
set_between [] ys x y = refl
set_between (z ∷ xs) ys x y = ap (λ l. z ∷ l) (set_between xs ys x y)

module _ {C : Type 0} where
  pub adds_nothing : (m : Made C) → Adds m m nothing
  adds_nothing m = record { code = sym (append_nil m.code); past = refl }

  -- what a piece adds is as long as it says
  pub adds_length : {a b : Made C} {p : Piece C} → Adds a b p → length b.code ≡ (p.past (here_of a)).place
  adds_length s = ap (λ h. h.place) s.past

  pub adds_then : {a b c : Made C} {p q : Piece C} → Adds a b p → Adds b c q → Adds a c (p ▸ q)
  adds_then {a} {b} {c} {p} {q} s t =
      let h = here_of a in
      record {
        code = t.code ∙ ap (λ k. b.code ++ map capped (q.code k)) s.past ∙ ap (λ (l : List (Instr C)). l ++ map capped (q.code (p.past h))) s.code
            ∙ append_assoc a.code (map capped (p.code h)) (map capped (q.code (p.past h)))
            ∙ ap (λ l. a.code ++ l) (sym (map-append capped (p.code h) (q.code (p.past h))));
        past = t.past ∙ ap q.past s.past;
      }

  -- pieces may be put together in either order
  pub adds_assoc : {a b : Made C} (p q r : Piece C) → Adds a b ((p ▸ q) ▸ r) → Adds a b (p ▸ q ▸ r)
  adds_assoc {a} {b} p q r s =
      let h = here_of a in
      record {
        code = s.code ∙ ap (λ l. a.code ++ map capped l) (append_assoc (p.code h) (q.code (p.past h)) (r.code (q.past (p.past h))));
        past = s.past;
      }

  pub adds_nested : {a b : Made C} (p q r : Piece C) → Adds a b (p ▸ q ▸ r) → Adds a b ((p ▸ q) ▸ r)
  adds_nested {a} {b} p q r s =
      let h = here_of a in
      record {
        code = s.code ∙ ap (λ l. a.code ++ map capped l) (sym (append_assoc (p.code h) (q.code (p.past h)) (r.code (q.past (p.past h)))));
        past = s.past;
      }

  pub adds_as : {a b : Made C} {p q : Piece C} → p ≡ q → Adds a b p → Adds a b q
  adds_as {a} {b} e s = subst (λ r. Adds a b r) e s

  -- an instruction, as it stands there
  pub adds_followed : {a b : Made C} (i j : Instr C) → capped i ≡ j → b ≡ followed a (j ∷ []) → Adds a b (one i)
  adds_followed {a} {b} i j e eb = record {
    code = ap (λ (m : Made C). m.code) eb ∙ ap (λ k. a.code ++ k ∷ []) (sym e);
    past = ap here_of eb ∙ ap (λ n. record { place = n; filters = a.filters; tests = a.tests }) (length-append a.code (j ∷ []));
  }

  -- an instruction in the place of a hole, and what was added after it
  pub adds_filled : {a b c d : Made C} {q : Piece C} (i j : Instr C) (place : ℕ) → Adds a b (one hole) → Adds b c q → place ≡ length a.code → capped i ≡ j → d ≡ record c { code = slice_set c.code place j } → Adds a d (one i ▸ q)
  adds_filled {a} {b} {c} {d} {q} i j place eb s ep ei ed =
      let h : Here = here_of a in
      let is : List (Instr C) = map capped (q.code (behind 1 h)) in
      let made : c.code ≡ a.code ++ hole ∷ is =
      s.code ∙ ap (λ k. b.code ++ map capped (q.code k)) eb.past ∙ ap (λ (l : List (Instr C)). l ++ is) eb.code ∙ append_assoc a.code (hole ∷ []) is in
      let code : d.code ≡ a.code ++ capped i ∷ is =
      ap (λ (m : Made C). m.code) ed ∙ ap (λ (l : List (Instr C)). slice_set l place j) made ∙ ap (λ n. slice_set (a.code ++ hole ∷ is) n j) ep ∙ set_between a.code is hole j ∙ ap (λ k. a.code ++ k ∷ is) (sym ei) in
      record {
        code = code;
        past = ap here_of ed ∙ ap (λ n. record { place = n; filters = c.filters; tests = c.tests }) (length-set c.code place j) ∙ s.past ∙ ap q.past eb.past;
      }

  -- a jump past what was added after it
  pub adds_skipping : {a b c d : Made C} {q : Piece C} (jump : ℕ → Instr C) (j : Instr C) (place : ℕ) → Adds a b (one hole) → Adds b c q → place ≡ length a.code → capped (jump (length c.code)) ≡ j → d ≡ record c { code = slice_set c.code place j } → Adds a d (skipping jump q)
  adds_skipping {a} {b} {c} {d} {q} jump j place eb s ep ej ed =
      let h : Here = here_of a in
      let target : length c.code ≡ (q.past (behind 1 h)).place = ap (λ k. k.place) (s.past ∙ ap q.past eb.past) in
      let filled = adds_filled (jump (length c.code)) j place eb s ep ej ed in
      record {
        code = filled.code ∙ ap (λ n. a.code ++ capped (jump n) ∷ map capped (q.code (behind 1 h))) target;
        past = filled.past;
      }

  -- what stands between two places is what was added there
  pub between_added : (xs ys zs : List (Instr C)) (from to : ℕ) → from ≡ length xs → to ≡ length xs + length ys → between from to (xs ++ (ys ++ zs)) ≡ ys
  between_added xs ys zs from to ef et =
      let n : to - from ≡ length ys = omega arith in
      ap (λ k. take k (drop from (xs ++ (ys ++ zs)))) n
      ∙ ap (λ k. take (length ys) (drop k (xs ++ (ys ++ zs)))) ef
      ∙ ap (take (length ys)) (drop-append_seam xs (ys ++ zs))
      ∙ take-append_seam ys zs
