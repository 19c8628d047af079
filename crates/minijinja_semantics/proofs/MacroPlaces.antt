-- Where the code of a tree makes macros, and of which bodies.
use Rattle.std.proofs.Common.{◌≡◌, ℕ, ◌+◌, ◌-◌, ◌<◌, ◌≤◌, ◌⊎◌, inl, inr, List, [], ◌∷◌, ◌++◌, length, Option, Some, None, refl, sym, ap, ◌∙◌, subst, arith, append_assoc, length-append}
use Rattle.std.specs.Prelude.{Bool, true, false, slice_get}
use Rattle.std.specs.Option.{option_and_then}
use Rattle.std.proofs.lemmas.Bool.{cases_lt, cases_eq}
use Rattle.minijinja_syntax.specs.Texts.{Text}
use Rattle.minijinja_value.specs.Values.{Functions}
use Rattle.minijinja_tree.specs.Tree.{Expr, Args, Stmt, template, data_text, output, assignment, for_loop, if_cond, with_block, set_block, auto_escape, filter_block, named_block, extends, include, import_all, from_import, declare, call_block, do_call, break_loop, continue_loop, Stmts, done, also, Macro, macro, Parameter, parameters, call, are_any}
use Rattle.minijinja_tree.specs.Callees.{Callee, function, method, block, object, callee}
use Rattle.minijinja_semantics.specs.Calls.{written}
use Rattle.minijinja_semantics.specs.Macros.{enclosed, macro_flags, argument_names}
use Rattle.minijinja_semantics.specs.Code.{Instr, Do, Load, Jump, JumpIfFalse, BuildMacro, Return}
use Rattle.minijinja_semantics.specs.Events.{GetClosure}
use Rattle.minijinja_semantics.specs.Pieces.{Here, behind, start, outside, Piece, Leading, Exits, Open, OpenScope, OpenAutoEscape, OpenCapture, ◌▸◌, plain, leading_to, ◌▹◌, skipping_out, branches_out, turning}
use Rattle.minijinja_semantics.specs.Layout.{base, expr, call_of, arguments_with, argument_count_with, up_to_caller, if_true, either, enclosing, making, stmt, stmts, macro_value, stmt_code, block_code, expr_code}
use Rattle.minijinja_semantics.specs.MacroBodies.{name_in, name_at}
use Rattle.minijinja_semantics.specs.Places.{Extent, spanned, all_spanned, spanned_macro, before_caller}
use Rattle.minijinja_semantics.specs.Units.{Enterable, RecursiveLoop, MacroBody, and_if, if_coded, enterable, all_enterable, enterable_macro, units, all_units}
use Rattle.minijinja_semantics.proofs.Leads.{entry_of}
use Rattle.minijinja_semantics.proofs.Lengths.{Exact, LeadingExact, grows, exact_to, then_exact, plain_exact, and_exact, skipping_out_exact, branches_out_exact, turning_exact, enclosing_exact, making_entered}
use Rattle.minijinja_semantics.proofs.QuietCode.{Each, each_append, MakesNone, Quiet, LeadingQuiet, plain_quiet, nothing_quiet, one_quiet, then_quiet, leaving_quiet, popping_quiet, merged_quiet, spreading_quiet, expr_quiet, base_quiet, target_quiet, assignments_quiet, write_quiet, passing_quiet, filters_quiet, taking_quiet, up_to_caller_quiet, looking_up_quiet, storing_back_quiet, within_quiet}
use Rattle.minijinja_semantics.proofs.Runs.{HasAt, Stands, stands_behind, first, rest, front, back, append_nil}

-- the body from the jump at s on, up to e, is that of a macro among units
abbrev pub HasBody : {C : Type 0} → ℕ → ℕ → List (Enterable C Extent) → Type 0
HasBody s e [] = ⊥
HasBody s e (RecursiveLoop x t body has_else ∷ us) = HasBody s e us
HasBody s e (MacroBody x ps body ∷ us) = ((x.begin - 1 ≡ s) × (x.end ≡ e)) ⊎ HasBody s e us

module _ {C : Type 0} (s e : ℕ) where
  has_left : (us vs : List (Enterable C Extent)) → HasBody s e us → HasBody s e (us ++ vs)
  has_left [] vs h = absurd h
  has_left (RecursiveLoop x t body has_else ∷ us) vs h = has_left us vs h
  has_left (MacroBody x ps body ∷ us) vs (inl h) = inl h
  has_left (MacroBody x ps body ∷ us) vs (inr h) = inr (has_left us vs h)

  has_right : (us vs : List (Enterable C Extent)) → HasBody s e vs → HasBody s e (us ++ vs)
  has_right [] vs h = h
  has_right (RecursiveLoop x t body has_else ∷ us) vs h = has_right us vs h
  has_right (MacroBody x ps body ∷ us) vs h = inr (has_right us vs h)

  has_cases : (us vs : List (Enterable C Extent)) → HasBody s e (us ++ vs) → HasBody s e us ⊎ HasBody s e vs
  has_cases [] vs h = inr h
  has_cases (RecursiveLoop x t body has_else ∷ us) vs h = has_cases us vs h
  has_cases (MacroBody x ps body ∷ us) vs (inl h) = inl (inl h)
  has_cases (MacroBody x ps body ∷ us) vs (inr h) = elim (has_cases us vs h) [ inl k ↦ inl (inr k) | inr k ↦ inr k ]

-- it makes no macro and refers to no name
abbrev IsSilent : {C : Type 0} → Instr C → Type 0
IsSilent i = (entry_of i ≡ None) × (name_in i ≡ None)

module _ {C : Type 0} (code : List (Instr C)) where
  -- where the body of the macro begins that is made at a place, if one is made there
  abbrev pub entry_at : ℕ → Option ℕ
  entry_at p = option_and_then entry_of (slice_get code p)

  -- A macro is made at q, of the body from the jump at s on, up to e. What stands between the body
  -- and q makes no macro, and refers to no name.
  pub record IsMade (s e q : ℕ) : Type 0 where
    pub made : entry_at q ≡ Some (s + 1)
    pub jump : slice_get code s ≡ Some (Jump e)
    pub long : s < e
    pub before : e ≤ q
    pub silent : (p : ℕ) → e ≤ p → p < q → (entry_at p ≡ None) × (name_at code p ≡ None)

  -- of what a macro is made at q: of a body among these units, which begins at a or after it
  pub record IsMadeOf (a q l : ℕ) (us : List (Enterable C Extent)) : Type 0 where
    pub s : ℕ
    pub e : ℕ
    pub entry : l ≡ s + 1
    pub inside : a ≤ s
    pub is : IsMade s e q
    pub body : HasBody s e us

  -- where a macro is made of a body, between these places
  pub record HasMaker (a b s e : ℕ) : Type 0 where
    pub q : ℕ
    pub inside : a ≤ s
    pub within : q < b
    pub is : IsMade s e q

  -- From a on, up to b, macros are made of the bodies among these units and of no others; and of two
  -- macros, the one stands before the other or in its body.
  pub record Nests (a b : ℕ) (us : List (Enterable C Extent)) : Type 0 where
    pub each : (q l : ℕ) → a ≤ q → q < b → entry_at q ≡ Some l → IsMadeOf a q l us
    pub listed : (s e : ℕ) → HasBody s e us → HasMaker a b s e
    pub apart : (s e q s' e' q' : ℕ) → a ≤ q → q < q' → q' < b → IsMade s e q → IsMade s' e' q' → (q < s') ⊎ ((s' < s) × (q < e'))

  -- what holds of each instruction holds at each place
  each_at : (P : Instr C → Type 0) (a : ℕ) (is : List (Instr C)) → Each P is → HasAt code a is → (p : ℕ) → a ≤ p → p < a + length is → (i : Instr C) × (slice_get code p ≡ Some i) × P i
  each_at P a [] all h p le lt = absurd (omega (arith, le, lt))
  each_at P a (i ∷ is) all h p le lt =
      elim (cases_eq a p) [
        | inl e ↦ (i, subst (λ n. slice_get code n ≡ Some i) e h.0, all.0)
        | inr apart ↦
            let more : a + 1 ≤ p = elim (cases_lt a p) [ inl k ↦ omega (arith, k) | inr k ↦ absurd (apart (omega (arith, k, le))) ] in
            each_at P (a + 1) is all.1 h.1 p more (omega (arith, lt))
      ]

  none_at : (a : ℕ) (is : List (Instr C)) → Each MakesNone is → Stands code a is → (p : ℕ) → a ≤ p → p < a + length is → entry_at p ≡ None
  none_at a is all h p le lt =
      let found = each_at MakesNone a is all h.has p le lt in
      ap (option_and_then entry_of) found.1 ∙ found.2

  silent_at : (a : ℕ) (is : List (Instr C)) → Each IsSilent is → Stands code a is → (p : ℕ) → a ≤ p → p < a + length is → (entry_at p ≡ None) × (name_at code p ≡ None)
  silent_at a is all h p le lt =
      let found = each_at IsSilent a is all h.has p le lt in
      (ap (option_and_then entry_of) found.1 ∙ found.2.0, ap (option_and_then name_in) found.1 ∙ found.2.1)

  -- ---- stretches of code

  nests_quiet : (a b : ℕ) (is : List (Instr C)) → a + length is ≡ b → Each MakesNone is → Stands code a is → Nests a b []
  nests_quiet a b is long all h = record {
    each = λ q l le lt e. let none = none_at a is all h q le (omega (arith, long, lt)) in absurd (cc (none, e));
    listed = λ s e has. absurd has;
    apart = λ s e q s' e' q' le lt lt' m m'. let none = none_at a is all h q le (omega (arith, long, lt, lt')) in absurd (cc (none, m.made));
  }

  nests_then : {a b c : ℕ} {us vs : List (Enterable C Extent)} → a ≤ b → b ≤ c → Nests a b us → Nests b c vs → Nests a c (us ++ vs)
  nests_then {a} {b} {c} {us} {vs} le le' n k = record {
    each = λ q l from to e.
        elim (cases_lt q b) [
          | inl lt ↦ let m = n.each q l from lt e in record { s = m.s; e = m.e; entry = m.entry; inside = m.inside; is = m.is; body = has_left m.s m.e us vs m.body }
          | inr ge ↦ let m = k.each q l ge to e in record { s = m.s; e = m.e; entry = m.entry; inside = omega (arith, m.inside, le); is = m.is; body = has_right m.s m.e us vs m.body }
        ];
    listed = λ s e has.
        elim (has_cases s e us vs has) [
          | inl h ↦ let m = n.listed s e h in record { q = m.q; inside = m.inside; within = omega (arith, m.within, le'); is = m.is }
          | inr h ↦ let m = k.listed s e h in record { q = m.q; inside = omega (arith, m.inside, le); within = m.within; is = m.is }
        ];
    apart = λ s e q s' e' q' from lt to m m'.
        elim (cases_lt q' b) [
          | inl below ↦ n.apart s e q s' e' q' from lt below m m'
          | inr above ↦
              elim (cases_lt q b) [
                | inl between ↦
                    let other = k.each q' (s' + 1) above to m'.made in
                    inl (omega (arith, other.entry, other.inside, between))
                | inr neither ↦ k.apart s e q s' e' q' neither lt to m m'
              ]
        ];
  }

  nests_end : {a b c : ℕ} {us : List (Enterable C Extent)} → a ≤ b → b ≤ c → Nests a b us → Nests b c [] → Nests a c us
  nests_end {a} {b} {c} {us} le le' n k = subst (λ l. Nests a c l) (append_nil us) (nests_then le le' n k)

  -- a recursive loop among the units is no macro
  nests_loop : {a b : ℕ} {us : List (Enterable C Extent)} (recursive : Bool) (x : Extent) (t : Expr C) (body : Stmts C Extent) (has_else : Bool) → Nests a b us → Nests a b (and_if recursive (RecursiveLoop x t body has_else) us)
  nests_loop false x t body has_else n = n
  nests_loop true x t body has_else n = record {
    each = λ q l from to e. let m = n.each q l from to e in record { s = m.s; e = m.e; entry = m.entry; inside = m.inside; is = m.is; body = m.body };
    listed = λ s e has. n.listed s e has;
    apart = n.apart;
  }

  -- a macro, made of a body and of what is silent
  nests_macro : {a m q : ℕ} {us : List (Enterable C Extent)} (x : Extent) (ps : List (Parameter C)) (body : Stmts C Extent) → x.begin ≡ a + 1 → x.end ≡ m → IsMade a m q → Nests (a + 1) m us → Nests a (q + 1) (MacroBody x ps body ∷ us)
  nests_macro {a} {m} {q} {us} x ps body begins ends made n = record {
    each = λ p l from to e.
        elim (inner_or_last p (l) from to e) [
          | inl (lo, hi) ↦ let k = n.each p l lo hi e in record { s = k.s; e = k.e; entry = k.entry; inside = omega (arith, k.inside); is = k.is; body = inr k.body }
          | inr same ↦
              let l_is : Some l ≡ Some (a + 1) = sym e ∙ ap entry_at same ∙ made.made in
              record { s = a; e = m; entry = cc; inside = omega arith; is = subst (λ z. IsMade a m z) (sym same) made; body = inl (omega (arith, begins), ends) }
        ];
    listed = λ s e has.
        elim has [
          | inl here ↦
              let s_is : a ≡ s = omega (arith, here.0, begins) in
              let e_is : m ≡ e = sym ends ∙ here.1 in
              record { q = q; inside = omega (arith, s_is); within = omega arith; is = subst (λ z. IsMade s z q) e_is (subst (λ z. IsMade z m q) s_is made) }
          | inr more ↦ let k = n.listed s e more in record { q = k.q; inside = omega (arith, k.inside); within = omega (arith, k.within, made.before); is = k.is }
        ];
    apart = λ s e p s' e' p' from lt to k k'.
        let first_inside : (a + 1 ≤ p) × (p < m) =
        elim (inner_or_last p (s + 1) from (omega (arith, lt, to)) k.made) [ inl h ↦ h | inr same ↦ absurd (omega (arith, same, lt, to)) ] in
        elim (inner_or_last p' (s' + 1) (omega (arith, from, lt)) to k'.made) [
          | inl (lo, hi) ↦ n.apart s e p s' e' p' first_inside.0 lt hi k k'
          | inr same ↦
              let of : IsMadeOf (a + 1) p (s + 1) us = n.each p (s + 1) first_inside.0 first_inside.1 k.made in
              let entry : Some (s' + 1) ≡ Some (a + 1) = sym k'.made ∙ ap entry_at same ∙ made.made in
              let begin : s' + 1 ≡ a + 1 = cc in
              let s_is : s' ≡ a = omega (arith, begin) in
              let jump : Some (Jump e') ≡ Some (Jump m) = sym k'.jump ∙ ap (slice_get code) s_is ∙ made.jump in
              let e_is : e' ≡ m = cc in
              inr (omega (arith, s_is, of.entry, of.inside), omega (arith, e_is, first_inside.1))
        ];
  }
    where
      -- a macro that is made there is made in the body, or is this one
      inner_or_last : (p l : ℕ) → a ≤ p → p < q + 1 → entry_at p ≡ Some l → ((a + 1 ≤ p) × (p < m)) ⊎ (p ≡ q)
      inner_or_last p l from to e =
          elim (cases_eq p a) [
            | inl same ↦
                let none : entry_at p ≡ None = ap entry_at same ∙ ap (option_and_then entry_of) made.jump in
                absurd (cc (none, e))
            | inr other ↦
                let lo : a + 1 ≤ p = elim (cases_lt a p) [ inl k ↦ omega (arith, k) | inr k ↦ absurd (other (omega (arith, k, from))) ] in
                elim (cases_lt p m) [
                  | inl hi ↦ inl (lo, hi)
                  | inr ge ↦
                      elim (cases_lt p q) [
                        | inl lt ↦ let none = (made.silent p ge lt).0 in absurd (cc (none, e))
                        | inr last ↦ inr (omega (arith, last, to))
                      ]
                ]
          ]

  -- ---- pieces

  -- the units of a piece, wherever it stands
  abbrev Within : Type 0
  Within = Here → List (Enterable C Extent)

  -- a piece makes macros of the bodies among these units, wherever it stands in the code
  pub record Nested (p : Piece C) (us : Here → List (Enterable C Extent)) : Type 0 where
    pub exact : Exact p
    pub nests : (h : Here) → Stands code h.place (p.code h) → Nests h.place (p.past h).place (us h)

  -- the same of one that may lead out of a loop
  pub record NestedOut (p : Leading Exits C) (us : Here → List (Enterable C Extent)) : Type 0 where
    pub exact : LeadingExact p
    pub nests : (x : Exits) (h : Here) → Stands code h.place (p.code x h) → Nests h.place (p.past h).place (us h)

module _ {C : Type 0} {code : List (Instr C)} where
  quiet : {p : Piece C} → Quiet p → Nested code p (λ h. [])
  quiet {p} a = record { exact = a.exact; nests = λ h stand. nests_quiet code h.place (p.past h).place (p.code h) (a.exact.ends h) (a.none h) stand }

  quiet_out : {p : Leading Exits C} → LeadingQuiet p → NestedOut code p (λ h. [])
  quiet_out {p} a = record { exact = a.exact; nests = λ x h stand. nests_quiet code h.place (p.past h).place (p.code x h) (a.exact.ends x h) (a.none x h) stand }

  nested_to : {p : Leading Exits C} {us : Here → List (Enterable C Extent)} → NestedOut code p us → (x : Exits) → Nested code (leading_to x p) us
  nested_to a x = record { exact = exact_to a.exact x; nests = λ h stand. a.nests x h stand }

  nested_plain : {p : Piece C} {us : Here → List (Enterable C Extent)} → Nested code p us → NestedOut code (plain p) us
  nested_plain a = record { exact = plain_exact a.exact; nests = λ x h stand. a.nests h stand }

  nested_and : {p q : Leading Exits C} {us vs : Here → List (Enterable C Extent)} → NestedOut code p us → NestedOut code q vs → NestedOut code (p ▹ q) (λ h. us h ++ vs (p.past h))
  nested_and {p} {q} a b = record {
    exact = and_exact a.exact b.exact;
    nests = λ x h stand.
        nests_then code (grows (exact_to a.exact x) h) (grows (exact_to b.exact x) (p.past h))
        (a.nests x h (front code (p.code x h) _ stand)) (b.nests x (p.past h) (back code (p.code x h) _ (a.exact.ends x h) stand));
  }

  -- what is quiet stands before or after it
  nested_behind : {p q : Leading Exits C} {us : Here → List (Enterable C Extent)} → LeadingQuiet p → NestedOut code q us → NestedOut code (p ▹ q) (λ h. us (p.past h))
  nested_behind a b = nested_and (quiet_out a) b

  nested_before : {p q : Leading Exits C} {us : Here → List (Enterable C Extent)} → NestedOut code p us → LeadingQuiet q → NestedOut code (p ▹ q) us
  nested_before {p} {q} {us} a b = record {
    exact = and_exact a.exact b.exact;
    nests = λ x h stand.
        nests_end code (grows (exact_to a.exact x) h) (grows (exact_to b.exact x) (p.past h))
        (a.nests x h (front code (p.code x h) _ stand)) ((quiet_out b).nests x (p.past h) (back code (p.code x h) _ (a.exact.ends x h) stand));
  }

  -- the same of pieces that lead nowhere else
  nested_after : {p q : Piece C} {us : Here → List (Enterable C Extent)} → Quiet p → Nested code q us → Nested code (p ▸ q) (λ h. us (p.past h))
  nested_after {p} {q} a b = record {
    exact = then_exact a.exact b.exact;
    nests = λ h stand.
        nests_then code (grows a.exact h) (grows b.exact (p.past h))
        ((quiet a).nests h (front code (p.code h) _ stand)) (b.nests (p.past h) (back code (p.code h) _ (a.exact.ends h) stand));
  }

  nested_until : {p q : Piece C} {us : Here → List (Enterable C Extent)} → Nested code p us → Quiet q → Nested code (p ▸ q) us
  nested_until {p} {q} a b = record {
    exact = then_exact a.exact b.exact;
    nests = λ h stand.
        nests_end code (grows a.exact h) (grows b.exact (p.past h))
        (a.nests h (front code (p.code h) _ stand)) ((quiet b).nests (p.past h) (back code (p.code h) _ (a.exact.ends h) stand));
  }

  -- one instruction that makes no macro, before or after other code
  one_nests : (a : ℕ) (i : Instr C) {is : List (Instr C)} → entry_of i ≡ None → Stands code a (i ∷ is) → Nests code a (a + 1) []
  one_nests a i e stand = nests_quiet code a (a + 1) (i ∷ []) refl (e, tt) (record { has = (first code stand, tt) })

  nested_skipping : (jump : ℕ → Instr C) → ((l : ℕ) → entry_of (jump l) ≡ None) → {p : Leading Exits C} {us : Here → List (Enterable C Extent)} → NestedOut code p us → NestedOut code (skipping_out jump p) (λ h. us (behind 1 h))
  nested_skipping jump e {p} a = record {
    exact = skipping_out_exact jump a.exact;
    nests = λ x h stand.
        let h1 = behind 1 h in
        nests_then code (omega arith) (grows (exact_to a.exact x) h1) (one_nests h.place _ (e (p.past h1).place) stand) (a.nests x h1 (rest code stand));
  }

  nested_branches : {p q : Leading Exits C} {us vs : Here → List (Enterable C Extent)} → NestedOut code p us → NestedOut code q vs → NestedOut code (branches_out p q) (λ h. us (behind 1 h) ++ vs (behind 1 (p.past (behind 1 h))))
  nested_branches {p} {q} a b = record {
    exact = branches_out_exact a.exact b.exact;
    nests = λ x h stand.
        let h1 = behind 1 h in
        let other = behind 1 (p.past h1) in
        let inner = rest code stand in
        let after = back code (p.code x h1) _ (a.exact.ends x h1) inner in
        let second = nests_then code (omega arith) (grows (exact_to b.exact x) other) (one_nests (p.past h1).place _ refl after) (b.nests x other (rest code after)) in
        let most = grows (exact_to b.exact x) other in
        let both = nests_then code (grows (exact_to a.exact x) h1) (omega (arith, most)) (a.nests x h1 (front code (p.code x h1) _ inner)) second in
        let more = grows (exact_to a.exact x) h1 in
        nests_then code (omega arith) (omega (arith, most, more)) (one_nests h.place _ refl stand) both;
  }

  nested_turning : {p : Leading Exits C} {us : Here → List (Enterable C Extent)} → NestedOut code p us → Nested code (turning p) (λ h. us (behind 1 h))
  nested_turning {p} a = record {
    exact = turning_exact a.exact;
    nests = λ h stand.
        let h1 = behind 1 h in
        let x : Exits = record { break_to = (p.past h1).place + 1; continue_to = h.place } in
        let inner = rest code stand in
        let after = back code (p.code x h1) _ (a.exact.ends x h1) inner in
        let more = grows (exact_to a.exact x) h1 in
        let body = nests_end code more (omega arith) (a.nests x h1 (front code (p.code x h1) _ inner)) (one_nests (p.past h1).place _ refl after) in
        nests_then code (omega arith) (omega (arith, more)) (one_nests h.place _ refl stand) body;
  }

enclosing_silent : (C : Type 0) (xs : List Text) (h : Here) → Each IsSilent ((enclosing {C = C} xs).code h)
enclosing_silent C [] h = tt
enclosing_silent C (x ∷ xs) h = ((refl, refl), enclosing_silent C xs (behind 1 h))

module _ {C F : Type 0} (f : Functions C F) {code : List (Instr C)} where
  making_nests : {L : Type 0} (n : L) (y : Text) (args defaults : List (Expr C)) (told : Stmts C L) {p : Piece C} {us : Here → List (Enterable C Extent)} (entry : ℕ) (h : Here) (x : Extent) (ps : List (Parameter C)) (body : Stmts C Extent)
      → entry ≡ h.place + 1 → x.begin ≡ h.place + 1 → x.end ≡ (p.past (behind 1 h)).place → Nested code p us
      → Stands code h.place ((making f (macro n y args defaults told) p entry).code h) → Nests code h.place ((making f (macro n y args defaults told) p entry).past h).place (MacroBody x ps body ∷ us (behind 1 h))
  making_nests n y args defaults told {p} entry h x ps body enters begins ends a stand =
      let m = macro n y args defaults told in
      let h1 = behind 1 h in
      let names : Piece C = enclosing (enclosed m) in
      let closing : List (Instr C) = Do GetClosure [] 0 ∷ Load (argument_names f args) ∷ [] in
      let maker : List (Instr C) = BuildMacro y entry (macro_flags m) ∷ [] in
      let runs : List (Instr C) = Jump (p.past h1).place ∷ p.code h1 in
      let quiet_part = names.code (p.past h1) ++ closing in
      let there = names.past (p.past h1) in
      let inner = a.exact.ends h1 in
      let up_to = (enclosing_exact {C = C} (enclosed m)).ends (p.past h1) in
      let tail : Stands code (p.past h1).place (names.code (p.past h1) ++ (closing ++ maker)) = back code runs _ (omega (arith, inner)) stand in
      let tail' : Stands code (p.past h1).place (quiet_part ++ maker) = subst (λ l. Stands code (p.past h1).place l) (sym (append_assoc (names.code (p.past h1)) closing maker)) tail in
      let long : (p.past h1).place + length quiet_part ≡ there.place + 1 + 1 = omega (arith, length-append (names.code (p.past h1)) closing, up_to) in
      let last : Stands code (there.place + 1 + 1) maker = back code quiet_part maker long tail' in
      let silent : Each IsSilent quiet_part = each_append IsSilent (names.code (p.past h1)) closing (enclosing_silent C (enclosed m) (p.past h1)) ((refl, refl), ((refl, refl), tt)) in
      let made : IsMade code h.place (p.past h1).place (there.place + 1 + 1) = record {
        made = ap (option_and_then entry_of) (first code last) ∙ ap Some enters;
        jump = first code stand;
        long = omega (arith, inner);
        before = omega (arith, up_to);
        silent = λ z from to. silent_at code (p.past h1).place quiet_part silent (front code quiet_part maker tail') z from (omega (arith, long, to));
      } in
      nests_macro code x ps body begins ends made (a.nests h1 (rest code (front code runs _ stand)))

  -- the arguments of a call with the macro that it takes along
  with_macro : (args : Args C) (n : ℕ) {m : Piece C} {us : Here → List (Enterable C Extent)} → Nested code m us → Nested code (arguments_with f args n m) (λ h. us ((up_to_caller f args n).past h))
  with_macro args n a = nested_after (up_to_caller_quiet f args n) (nested_until a (then_quiet (merged_quiet _ _) (spreading_quiet _ _)))

  -- what a call takes along stands behind a part of its code
  call_nested : (c : Callee C) (e : Expr C) (args : Args C) {m : Piece C} {us : Here → List (Enterable C Extent)} → Nested code m us → Nested code (call_of c (base f e) (expr f e) (λ n. arguments_with f args n m) (argument_count_with args)) (λ h. if_coded c (us ((before_caller f c e args).past h)))
  call_nested (function x) e args a = nested_until (with_macro args 0 a) (one_quiet _ refl)
  call_nested (block x) e args a = quiet (then_quiet (one_quiet _ refl) (then_quiet (one_quiet _ refl) (one_quiet _ refl)))
  call_nested (method o x) e args a = nested_after (base_quiet f e) (nested_until (with_macro args 1 a) (one_quiet _ refl))
  call_nested (object o) e args a = nested_after (expr_quiet f e) (nested_until (with_macro args 1 a) (one_quiet _ refl))

  else_nested : {L : Type 0} (ss : Stmts C L) (os : List Open) → NestedOut code (stmts f os ss) (λ h. all_enterable (all_spanned f os ss h)) → NestedOut code (if_true (are_any ss) (stmts f os ss)) (λ h. all_enterable (all_spanned f os ss (behind 1 h)))
  else_nested done os a = quiet_out (plain_quiet nothing_quiet)
  else_nested (also s others) os a = nested_skipping JumpIfFalse (λ l. refl) a

  either_nested : {L : Type 0} (ss : Stmts C L) (os : List Open) {p : Leading Exits C} {us : Here → List (Enterable C Extent)} → NestedOut code p us → NestedOut code (stmts f os ss) (λ h. all_enterable (all_spanned f os ss h))
      → NestedOut code (either (are_any ss) p (stmts f os ss)) (λ h. us (behind 1 h) ++ all_enterable (all_spanned f os ss (behind 1 (p.past (behind 1 h)))))
  either_nested done os {p} {us} a b =
      let n = nested_skipping JumpIfFalse (λ l. refl) a in
      record { exact = n.exact; nests = λ x h stand. subst (λ l. Nests code h.place (p.past (behind 1 h)).place l) (sym (append_nil (us (behind 1 h)))) (n.nests x h stand) }
  either_nested (also s others) os a b = nested_branches a b

  -- what a body stands between
  round : {p q : Piece C} {b : Leading Exits C} {us : Here → List (Enterable C Extent)} → Quiet p → NestedOut code b us → Quiet q → NestedOut code (plain p ▹ b ▹ plain q) (λ h. us (p.past h))
  round x a y = nested_behind (plain_quiet x) (nested_before a (plain_quiet y))

  still : {p : Piece C} → Quiet p → NestedOut code (plain p) (λ h. [])
  still a = quiet_out (plain_quiet a)

  mutual
    pub stmt_nested : {L : Type 0} (s : Stmt C L) (os : List Open) → NestedOut code (stmt f os s) (λ h. enterable (spanned f os s h))
    stmt_nested (template ss) os = stmts_nested ss os
    stmt_nested (data_text t) os = still (one_quiet _ refl)
    stmt_nested (output e) os = still (write_quiet f (written e) (expr_quiet f e))
    stmt_nested (assignment e v) os = still (then_quiet (expr_quiet f v) (target_quiet f e))
    stmt_nested (for_loop n e v only recursive body else_body) os =
        let turn = nested_turning (nested_behind (plain_quiet (target_quiet f e)) (stmts_nested body [])) in
        let loop = nested_after (one_quiet _ refl) (nested_until turn (popping_quiet (are_any else_body))) in
        let all = nested_and (nested_plain (nested_after (passing_quiet f e only (expr_quiet f v)) loop)) (else_nested else_body os (stmts_nested else_body os)) in
        record { exact = all.exact; nests = λ x h stand. nests_loop code recursive _ _ _ _ (all.nests x h stand) }
    stmt_nested (if_cond e true_body false_body) os = nested_behind (plain_quiet (expr_quiet f e)) (either_nested false_body os (stmts_nested true_body os) (stmts_nested false_body os))
    stmt_nested (with_block ts body) os = round (then_quiet (one_quiet _ refl) (assignments_quiet f ts)) (stmts_nested body (OpenScope ∷ os)) (one_quiet _ refl)
    stmt_nested (set_block e chain body) os = round (one_quiet _ refl) (stmts_nested body (OpenCapture ∷ os)) (then_quiet (one_quiet _ refl) (then_quiet (filters_quiet f chain) (target_quiet f e)))
    stmt_nested (auto_escape e body) os = round (then_quiet (expr_quiet f e) (one_quiet _ refl)) (stmts_nested body (OpenAutoEscape ∷ os)) (one_quiet _ refl)
    stmt_nested (filter_block chain body) os = round (one_quiet _ refl) (stmts_nested body (OpenCapture ∷ os)) (then_quiet (one_quiet _ refl) (then_quiet (expr_quiet f chain) (one_quiet _ refl)))
    stmt_nested (named_block x required body) os = still (one_quiet _ refl)
    stmt_nested (extends e) os = still (then_quiet (expr_quiet f e) (one_quiet _ refl))
    stmt_nested (include e ignore) os = still (then_quiet (expr_quiet f e) (one_quiet _ refl))
    stmt_nested (import_all e t) os = still (then_quiet (within_quiet f _ e) (then_quiet (one_quiet _ refl) (then_quiet (one_quiet _ refl) (then_quiet (one_quiet _ refl) (then_quiet (one_quiet _ refl) (target_quiet f t))))))
    stmt_nested (from_import e ns) os = still (then_quiet (within_quiet f _ e) (then_quiet (looking_up_quiet f ns) (then_quiet (one_quiet _ refl) (then_quiet (storing_back_quiet f ns) (then_quiet (one_quiet _ refl) (one_quiet _ refl))))))
    stmt_nested (declare m) os = nested_plain (nested_until (macro_nested m) (one_quiet _ refl))
    stmt_nested (call_block e args m) os = nested_plain (nested_until (call_nested (callee e) e args (macro_nested m)) (one_quiet _ refl))
    stmt_nested (do_call e args) os = still (then_quiet (expr_quiet f (call e args)) (one_quiet _ refl))
    stmt_nested break_loop os = quiet_out (leaving_quiet (λ x. x.break_to) os)
    stmt_nested continue_loop os = quiet_out (leaving_quiet (λ x. x.continue_to) os)

    pub stmts_nested : {L : Type 0} (ss : Stmts C L) (os : List Open) → NestedOut code (stmts f os ss) (λ h. all_enterable (all_spanned f os ss h))
    stmts_nested done os = still nothing_quiet
    stmts_nested (also s others) os = nested_and (stmt_nested s os) (stmts_nested others os)

    macro_nested : {L : Type 0} (m : Macro C L) → Nested code (macro_value f m) (λ h. enterable_macro (spanned_macro f m h))
    macro_nested (macro n x args defaults body) =
        let runs = nested_after (taking_quiet f (parameters args defaults)) (nested_until (nested_to (stmts_nested body []) outside) (one_quiet Return refl)) in
        record { exact = making_entered f (macro n x args defaults body) runs.exact; nests = λ h stand. making_nests n x args defaults body (behind 1 h).place h _ _ _ refl refl refl runs stand }

-- ---- lists

-- the code of a list, with the units in it
abbrev pub ListNests : {C : Type 0} → List (Instr C) → List (Enterable C Extent) → Type 0
ListNests code us = Nests code 0 (length code) us

listed_from : {C : Type 0} (code : List (Instr C)) (us : List (Enterable C Extent)) (b : ℕ) → 0 + length code ≡ b → Nests code 0 b us → ListNests code us
listed_from code us b e n = let same : b ≡ length code = omega (arith, e) in subst (λ z. Nests code 0 z us) same n

pub template_nests : {C L F : Type 0} (f : Functions C F) (t : Stmt C L) → ListNests (stmt_code f t start) (units f [] t start)
template_nests {C = C} f t =
    let n = stmt_nested f {code = stmt_code f t start} t [] in
    listed_from (stmt_code f t start) _ _ (n.exact.ends outside start) (n.nests outside start (stands_behind [] (stmt_code f t start)))

pub block_nests : {C L F : Type 0} (f : Functions C F) (ss : Stmts C L) → ListNests (block_code f ss) (all_units f [] ss start)
block_nests {C = C} f ss =
    let n = stmts_nested f {code = block_code f ss} ss [] in
    listed_from (block_code f ss) _ _ (n.exact.ends outside start) (n.nests outside start (stands_behind [] (block_code f ss)))

pub expression_nests : {C F : Type 0} (f : Functions C F) (e : Expr C) → ListNests (expr_code f e start) []
expression_nests {C = C} f e =
    let n = quiet {code = expr_code f e start} (expr_quiet f e) in
    listed_from (expr_code f e start) [] _ (n.exact.ends start) (n.nests start (stands_behind [] (expr_code f e start)))
