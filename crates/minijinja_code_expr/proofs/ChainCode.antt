-- The code of chains of comparisons.
use Rattle.std.proofs.Common.{◌≡◌, ℕ, zero, suc, ◌+◌, List, [], ◌∷◌, ◌++◌, length, map, Option, Some, None, refl, sym, ap, ◌∙◌, append_assoc, length-append}
use Rattle.std.specs.Prelude.{slice_set, option_to_list}
use Rattle.std.proofs.lemmas.List.{length-set, map-append}
use Rattle.minijinja_tree.specs.CompareOps.{CompareOp}
use Rattle.minijinja_semantics.specs.Code.{Instr, CompareAndPreserve, JumpIfFalseOrPop}
use Rattle.minijinja_semantics.specs.Pieces.{Here, behind, Piece, one, ◌▸◌, leading_to}
use Rattle.minijinja_semantics.specs.Layout.{Failing, and_then, chained}
use Rattle.minijinja_emitter.specs.internal.Making.{Made, here_of, hole, reach, capped, Adds}
use Rattle.minijinja_code_expr.specs.private.Comparing.{with_jumps, jumping, operand_then, Leads, leaving, Closes}
use Rattle.minijinja_semantics.proofs.Runs.{append_nil}
use Rattle.minijinja_emitter.proofs.Adding.{set_between, adds_length, adds_then}

-- two places that come to hold the same may be set in either order
sets_swap : {X : Type 0} (xs : List X) (p q : ℕ) (x : X) → slice_set (slice_set xs p x) q x ≡ slice_set (slice_set xs q x) p x
sets_swap [] p q x = refl
sets_swap (y ∷ ys) zero zero x = refl
sets_swap (y ∷ ys) zero (suc q) x = refl
sets_swap (y ∷ ys) (suc p) zero x = refl
sets_swap (y ∷ ys) (suc p) (suc q) x = ap (λ zs. y ∷ zs) (sets_swap ys p q x)

module _ {C : Type 0} where
  jumps_length : (ps : List ℕ) (n : ℕ) (code : List (Instr C)) → length (with_jumps ps n code) ≡ length code
  jumps_length [] n code = refl
  jumps_length (p ∷ ps) n code = jumps_length ps n (slice_set code p (JumpIfFalseOrPop n)) ∙ length-set code p (JumpIfFalseOrPop n)

  jumps_more : (ps : List ℕ) (p n : ℕ) (code : List (Instr C)) → with_jumps (ps ++ p ∷ []) n code ≡ with_jumps ps n (slice_set code p (JumpIfFalseOrPop n))
  jumps_more [] p n code = refl
  jumps_more (q ∷ ps) p n code = jumps_more ps p n (slice_set code q (JumpIfFalseOrPop n)) ∙ ap (with_jumps ps n) (sets_swap code q p (JumpIfFalseOrPop n))

  -- the latest jump was put in its place, and then the earlier ones
  pub led_latest : (l : Made C) {m n : Made C} (earlier : List ℕ) {ps : List ℕ} {latest : Option ℕ} (p t : ℕ) → ps ≡ earlier → latest ≡ Some p → m ≡ record l { code = slice_set l.code p (JumpIfFalseOrPop t) } → n ≡ jumping ps t m → n ≡ jumping (earlier ++ option_to_list latest) t l
  led_latest l {m} {n} earlier {ps} {latest} p t same is put led =
      led ∙ ap (λ qs. jumping qs t m) same ∙ ap (λ (k : Made C). jumping earlier t k) put
      ∙ ap (λ c. record { code = c; filters = l.filters; tests = l.tests }) (sym (jumps_more earlier p t l.code))
      ∙ ap (λ o. jumping (earlier ++ option_to_list o) t l) (sym is)

  -- there is none
  pub led_none : {l m n : Made C} (earlier : List ℕ) {ps : List ℕ} {latest : Option ℕ} (t : ℕ) → ps ≡ earlier → latest ≡ None → m ≡ l → n ≡ jumping ps t m → n ≡ jumping (earlier ++ option_to_list latest) t l
  led_none {l} {m} {n} earlier {ps} {latest} t same is kept led =
      led ∙ ap (λ qs. jumping qs t m) same ∙ ap (λ (k : Made C). jumping earlier t k) kept
      ∙ ap (λ qs. jumping qs t l) (sym (append_nil earlier))
      ∙ ap (λ o. jumping (earlier ++ option_to_list o) t l) (sym is)

  -- what is added of a piece and what follows it
  capped_append : (xs ys zs : List (Instr C)) → xs ++ map capped (ys ++ zs) ≡ (xs ++ map capped ys) ++ map capped zs
  capped_append xs ys zs = ap (λ l. xs ++ l) (map-append capped ys zs) ∙ sym (append_assoc xs (map capped ys) (map capped zs))

  pub leads_then : {a b c : Made C} {ps qs rs : List ℕ} {r s t : Failing C} → Leads a ps r b qs s → Leads b qs s c rs t → Leads a ps r c rs t
  leads_then l k = record { past = k.past ∙ l.past; code = λ failed more. k.code failed more ∙ l.code failed more }

  -- the next operand
  pub leads_operand : {a b : Made C} {p : Piece C} (ps : List ℕ) (r : Failing C) → Adds a b p → Leads a ps (operand_then p r) b ps r
  leads_operand {a} {b} {p} ps r s =
      let h = here_of a in
      record {
        past = ap r.past s.past;
        code = λ failed more.
            let rest : List (Instr C) = r.code failed (p.past h) ++ more in
            let code : b.code ++ map capped (r.code failed (here_of b) ++ more) ≡ a.code ++ map capped ((p.code h ++ r.code failed (p.past h)) ++ more) =
            ap (λ k. b.code ++ map capped (r.code failed k ++ more)) s.past
            ∙ ap (λ (l : List (Instr C)). l ++ map capped rest) s.code
            ∙ sym (capped_append a.code (p.code h) rest)
            ∙ ap (λ l. a.code ++ map capped l) (sym (append_assoc (p.code h) (r.code failed (p.past h)) more)) in
            ap (with_jumps ps (reach failed)) code;
      }

  -- a comparison before the next operand
  pub leads_comparison : {a c : Made C} (o : CompareOp) (ps qs : List ℕ) (p : Piece C) (r : Failing C) → Adds a c (one (CompareAndPreserve o) ▸ one hole) → qs ≡ ps ++ (length a.code + 1) ∷ [] → Leads a ps (and_then o p r) c qs (operand_then p r)
  leads_comparison {a} {c} o ps qs p r s eq =
      let h : Here = behind 1 (behind 1 (here_of a)) in
      let front : List (Instr C) = a.code ++ CompareAndPreserve o ∷ [] in
      let place : length a.code + 1 ≡ length front = sym (length-append a.code (CompareAndPreserve o ∷ [])) in
      record {
        past = ap (λ k. r.past (p.past k)) s.past;
        code = λ failed more.
            let rest : List (Instr C) = map capped ((p.code h ++ r.code failed (p.past h)) ++ more) in
            let jump : Instr C = JumpIfFalseOrPop (reach failed) in
            let whole : List (Instr C) = c.code ++ map capped ((p.code (here_of c) ++ r.code failed (p.past (here_of c))) ++ more) in
            let made : whole ≡ front ++ hole ∷ rest =
            ap (λ k. c.code ++ map capped ((p.code k ++ r.code failed (p.past k)) ++ more)) s.past
            ∙ ap (λ (l : List (Instr C)). l ++ rest) s.code
            ∙ append_assoc a.code (CompareAndPreserve o ∷ hole ∷ []) rest
            ∙ sym (append_assoc a.code (CompareAndPreserve o ∷ []) (hole ∷ rest)) in
            ap (λ l. with_jumps l (reach failed) whole) (eq ∙ ap (λ n. ps ++ n ∷ []) place)
            ∙ jumps_more ps (length front) (reach failed) whole
            ∙ ap (λ l. with_jumps ps (reach failed) (slice_set l (length front) jump)) made
            ∙ ap (with_jumps ps (reach failed)) (set_between front rest hole jump ∙ append_assoc a.code (CompareAndPreserve o ∷ []) (jump ∷ rest));
      }

  pub leads_closes : {a b c : Made C} {ps qs : List ℕ} {r s : Failing C} → Leads a ps r b qs s → Closes b qs s c → Closes a ps r c
  leads_closes {a} {b} {c} {ps} {qs} {r} {s} l k =
      let h : s.past (here_of b) ≡ r.past (here_of a) = l.past in
      record {
        code = k.code
            ∙ ap (λ e. with_jumps qs (reach (behind 1 e).place) (b.code ++ map capped (s.code (behind 1 e).place (here_of b) ++ (leaving {C = C}).code e))) h
            ∙ l.code (behind 1 (r.past (here_of a))).place ((leaving {C = C}).code (r.past (here_of a)));
        past = k.past ∙ ap (leaving {C = C}).past h;
      }

  -- the last comparison and the end of the chain, and then the jumps
  pub closes : {a b c d : Made C} {n : ℕ} (ps : List ℕ) (r : Failing C) → ((failed : ℕ) → Adds a b (leading_to failed r)) → Adds b c leaving → n ≡ reach (length b.code + 1) → d ≡ jumping ps n c → Closes a ps r d
  closes {a} {b} {c} {d} {n} ps r s t en ed =
      let e : Here = r.past (here_of a) in
      let target : n ≡ reach (behind 1 e).place = en ∙ ap (λ k. reach (k + 1)) (adds_length (s 0)) in
      let both : Adds a c (leading_to (behind 1 e).place r ▸ leaving) = adds_then (s (behind 1 e).place) t in
      record {
        code = ap (λ (m : Made C). m.code) ed ∙ ap (λ k. with_jumps ps k c.code) target ∙ ap (with_jumps ps (reach (behind 1 e).place)) both.code;
        past = ap here_of ed ∙ ap (λ k. record { place = k; filters = c.filters; tests = c.tests }) (jumps_length ps n c.code) ∙ both.past;
      }

  -- the whole of a chain that did not fold
  pub adds_chain : {a b : Made C} (p q : Piece C) (r : Failing C) → Closes a [] (operand_then p (operand_then q r)) b → Adds a b (p ▸ chained q r)
  adds_chain {a} {b} p q r k =
      let h : Here = here_of a in
      let h2 : Here = q.past (p.past h) in
      let failed : ℕ = (behind 1 (r.past h2)).place in
      let end : List (Instr C) = (leaving {C = C}).code (r.past h2) in
      record {
        code = k.code ∙ ap (λ l. a.code ++ map capped l)
            (append_assoc (p.code h) (q.code (p.past h) ++ r.code failed h2) end
            ∙ ap (λ l. p.code h ++ l) (append_assoc (q.code (p.past h)) (r.code failed h2) end));
        past = k.past;
      }
