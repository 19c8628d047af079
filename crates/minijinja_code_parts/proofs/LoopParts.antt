-- Parts of loops while their code is being made.
use Rattle.std.proofs.Common.{◌≡◌, ℕ, ◌+◌, List, [], ◌∷◌, ◌++◌, length, map, refl, sym, ap, ◌∙◌, subst, arith, length-append}
use Rattle.std.specs.Prelude.{slice_set}
use Rattle.std.specs.Borrow.{Bor}
use Rattle.std.proofs.lemmas.List.{map-append}
use Rattle.minijinja_semantics.specs.Code.{Instr, Do, DiscardTop, Jump, JumpIfFalse, Iterate}
use Rattle.minijinja_semantics.specs.Events.{PopFrame, PopAutoEscape, EndCapture}
use Rattle.minijinja_semantics.specs.Pieces.{Here, behind, Piece, Open, OpenScope, OpenAutoEscape, OpenCapture, nothing, one, ◌▸◌, plain, branches, turning, closing_instructions}
use Rattle.minijinja_code_parts.specs.declared.enclosing_loop.Open as kind
use Rattle.minijinja_code_parts.specs.internal.AtEnclosingLoop.{open_of}
use Rattle.minijinja_code_parts.specs.internal.Loops.{leading_on, turned, closed}
use Rattle.minijinja_code_parts.specs.internal.EnclosingLoops.{with_ends}
use Rattle.minijinja_emitter.specs.internal.Making.{Made, here_of, Adds, hole, reach, capped, followed}
use Rattle.minijinja_emitter.proofs.Adding.{adds_nothing, adds_then, adds_filled, adds_followed}
use Rattle.minijinja_code_expr.specs.internal.Branching.{set_at, ending_at}
use Rattle.minijinja_code_expr.proofs.Branching.{opened, choice_added}
use Rattle.minijinja_code_parts.proofs.Filling.{ends_length}

-- a place after another
behind_sum : (h : Here) (m n k : ℕ) → k ≡ m + n → behind n (behind m h) ≡ behind k h
behind_sum h m n k e = ap (λ p. record { place = p; filters = h.filters; tests = h.tests }) (let same : h.place + m + n ≡ h.place + k = omega (arith, e) in same)

module _ {C : Type 0} where
  -- two pieces, the second past a jump: the test leads to it, and the first past it
  pub branches_added : {a b c d e g h : Made C} {p q : Piece C} {place end n m : ℕ} →
      Adds a b (one hole) → place ≡ length a.code → Adds b c p → Adds c d (one hole) → end ≡ length c.code → e ≡ set_at d place (JumpIfFalse n) → n ≡ reach (length d.code) →
      Adds e g q → h ≡ set_at g end (Jump m) → m ≡ reach (length g.code) → Adds a h (branches p q)
  branches_added {a} {b} {c} {d} {e} {g} {h} {p} {q} {place} {end} {n} {m} test_hole at first end_hole end_at filled n_is second closed_at m_is =
      let same : h ≡ ending_at end g = closed_at ∙ ap (λ k. set_at g end (Jump k)) m_is in
      subst (λ k. Adds a k (branches p q)) (sym same)
      (choice_added {t = nothing} (record { tested = a; held = b; test_added = adds_nothing a; at = at; hole_added = test_hole; added = first }) (opened end_hole end_at filled n_is) g second)

  -- what an instruction was added to, with it
  with_one : {a b : Made C} (i : Instr C) → Adds a b (one i) → b ≡ followed a (capped i ∷ [])
  with_one {a} {b} i s =
      let code : List (Instr C) = a.code ++ capped i ∷ [] in
      ap (λ (l : List (Instr C)). record { code = l; filters = b.filters; tests = b.tests }) s.code
      ∙ ap (λ (h : Here). record { code = code; filters = h.filters; tests = h.tests }) s.past

  -- the turns of a loop are led back, and to their end
  pub turned_is : {a b c d : Made C} {n : ℕ} (i : ℕ) (ps : List ℕ) → Adds a b (one (Jump i)) → c ≡ leading_on ps b → n ≡ reach (length c.code) → d ≡ set_at c i (Iterate n) → d ≡ turned i ps a
  turned_is {a} {b} {c} {d} {n} i ps jump leads n_is d_is =
      let back : List (Instr C) = a.code ++ Jump (reach i) ∷ [] in
      let all : Made C = followed a (Jump (reach i) ∷ []) in
      let end : ℕ = reach (length a.code + 1) in
      let long : length back ≡ length a.code + 1 = length-append a.code (Jump (reach i) ∷ []) in
      let c_is : c ≡ record a { code = with_ends ps end back } =
      leads ∙ ap (leading_on ps) (with_one (Jump i) jump) ∙ ap (λ k. record a { code = with_ends ps (reach k) back }) long in
      let n_end : n ≡ end =
      n_is ∙ ap (λ (m : Made C). reach (length m.code)) c_is ∙ ap reach (ends_length ps end back ∙ long) in
      d_is ∙ ap (λ (m : Made C). set_at m i (Iterate n)) c_is ∙ ap (λ k. record a { code = slice_set (with_ends ps end back) i (Iterate k) }) n_end

  -- the turns of a loop that is not left
  pub turning_added : {a b c d : Made C} {p : Piece C} (i : ℕ) → Adds a b (one hole) → i ≡ length a.code → Adds b c p → d ≡ turned i [] c → Adds a d (turning (plain p))
  turning_added {a} {b} {c} {d} {p} i room at body d_is =
      let end : ℕ = length c.code + 1 in
      let h : Here = here_of a in
      let back : Instr C = Jump (reach i) in
      let all : Made C = followed c (back ∷ []) in
      let jump : Adds c all (one (Jump i)) = adds_followed (Jump i) back refl refl in
      let filled : Adds a d (one (Iterate end) ▸ p ▸ one (Jump i)) = adds_filled (Iterate end) (Iterate (reach end)) i room (adds_then body jump) at refl d_is in
      let past : length c.code ≡ (p.past (behind 1 h)).place = ap (λ (k : Here). k.place) (body.past ∙ ap p.past room.past) in
      record {
        code = filled.code
            ∙ ap (λ m. a.code ++ capped (Iterate (m + 1)) ∷ map capped (p.code (behind 1 h) ++ Jump i ∷ [])) past
            ∙ ap (λ m. a.code ++ capped (Iterate ((p.past (behind 1 h)).place + 1)) ∷ map capped (p.code (behind 1 h) ++ Jump m ∷ [])) at;
        past = filled.past;
      }

  closing_more : (os more : List Open) → closing_instructions {C = C} (os ++ more) ≡ closing_instructions os ++ closing_instructions more
  closing_more [] more = refl
  closing_more (OpenScope ∷ os) more = ap (λ l. Do PopFrame [] 0 ∷ l) (closing_more os more)
  closing_more (OpenAutoEscape ∷ os) more = ap (λ l. Do PopAutoEscape [] 0 ∷ l) (closing_more os more)
  closing_more (OpenCapture ∷ os) more = ap (λ l. Do EndCapture [] 0 ∷ DiscardTop ∷ l) (closing_more os more)

  -- more is closed after what is
  pub closed_more : {a b c : Made C} (os more : List Open) → Adds a b (closed os) → Adds b c (closed more) → Adds a c (closed (os ++ more))
  closed_more {a} {b} {c} os more s t =
      let both = adds_then s t in
      record {
        code = both.code ∙ ap (λ l. a.code ++ map capped l) (sym (closing_more os more));
        past = both.past ∙ behind_sum (here_of a) (length (closing_instructions {C = C} os)) (length (closing_instructions {C = C} more)) (length (closing_instructions {C = C} (os ++ more)))
            (ap length (closing_more os more) ∙ length-append (closing_instructions os) (closing_instructions more));
      }

  -- what is closed last
  pub closed_next : {a b c : Made C} (kinds : List (Bor kind.Open)) (o : Bor kind.Open) → Adds a b (closed (map open_of (map (λ k. k.now) kinds))) → Adds b c (closed (open_of o.now ∷ [])) → Adds a c (closed (map open_of (map (λ k. k.now) (kinds ++ o ∷ []))))
  closed_next {a} {c = c} kinds o s t =
      let all : map open_of (map (λ (k : Bor kind.Open). k.now) (kinds ++ o ∷ [])) ≡ map open_of (map (λ (k : Bor kind.Open). k.now) kinds) ++ open_of o.now ∷ [] =
      ap (map open_of) (map-append (λ (k : Bor kind.Open). k.now) kinds (o ∷ [])) ∙ map-append open_of (map (λ (k : Bor kind.Open). k.now) kinds) (o.now ∷ []) in
      subst (λ os. Adds a c (closed os)) (sym all) (closed_more (map open_of (map (λ (k : Bor kind.Open). k.now) kinds)) (open_of o.now ∷ []) s t)

  -- one thing is closed
  pub closed_scope : {a b : Made C} (o : Open) → o ≡ OpenScope → Adds a b (one (Do PopFrame [] 0)) → Adds a b (closed (o ∷ []))
  closed_scope {a} {b} o e s = subst (λ k. Adds a b (closed (k ∷ []))) (sym e) s

  pub closed_auto_escape : {a b : Made C} (o : Open) → o ≡ OpenAutoEscape → Adds a b (one (Do PopAutoEscape [] 0)) → Adds a b (closed (o ∷ []))
  closed_auto_escape {a} {b} o e s = subst (λ k. Adds a b (closed (k ∷ []))) (sym e) s

  pub closed_capture : {a b c : Made C} (o : Open) → o ≡ OpenCapture → Adds a b (one (Do EndCapture [] 0)) → Adds b c (one DiscardTop) → Adds a c (closed (o ∷ []))
  closed_capture {a} {b} {c} o e s t =
      let both = adds_then s t in
      let all : Adds a c (closed (OpenCapture ∷ [])) = record { code = both.code; past = both.past ∙ behind_sum (here_of a) 1 1 2 refl } in
      subst (λ k. Adds a c (closed (k ∷ []))) (sym e) all
