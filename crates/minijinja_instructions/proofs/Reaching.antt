-- The scan for the names that are referenced at a place finds them, in code whose macros are nested.
use Rattle.std.proofs.Common.{◌≡◌, ℕ, zero, suc, ◌+◌, ◌-◌, ◌<◌, ◌≤◌, ◌⊎◌, inl, inr, List, [], ◌∷◌, ◌++◌, length, map, take, drop, Option, Some, None, refl, sym, ap, ◌∙◌, subst, arith, cond, Bool, true, false, leb, ltb, length-take, length-drop, take-append-drop}
use Rattle.std.specs.Prelude.{◌&&◌, ◌||◌, not, max, min, slice_get}
use Rattle.std.specs.Option.{option_and_then}
use Rattle.std.proofs.lemmas.Bool.{cases_lt, cases_Bool, and_parts, and_from, and_left, and_right, or_cases, leb-true, leb-false, ltb-true, ltb-false, le-leb, lt-leb, lt-ltb, le-ltb}
use Rattle.std.proofs.lemmas.Option.{slice_get_within}
use Rattle.minijinja_syntax.specs.Texts.{Text}
use Rattle.minijinja_semantics.specs.Code.{Instr, BuildMacro, Jump}
use Rattle.minijinja_semantics.specs.MacroBodies.{and_name, belongs, bodies_of, body_begin, each_once, is_in, is_in_ended, name_at, name_in, names_below, referenced}
use Rattle.minijinja_semantics.specs.Places.{Extent}
use Rattle.minijinja_semantics.specs.Units.{Enterable, RecursiveLoop, MacroBody}
use Rattle.minijinja_semantics.proofs.Leads.{entry_of}
use Rattle.minijinja_semantics.proofs.MacroPlaces.{HasBody, IsMade, IsMadeOf, ListNests, entry_at}
use Rattle.minijinja_semantics.proofs.Runs.{HasAt, stands_behind}
use Rattle.minijinja_instructions.specs.declared.references.Part.{Part}
use Rattle.minijinja_instructions.specs.private.Scanning.{opening_at, opening_of, reach, reach_at, reach_from, target_at, target_of, visited, visited_at, visited_below, visited_in}

-- ---- what the bodies of macros say of a place

module _ {C : Type 0} (i : ℕ) where
  -- a body round the place does not begin behind where the innermost one begins
  begin-least : (us : List (Enterable C Extent)) (s e : ℕ) → HasBody s e us → s ≤ i → i < e → s ≤ body_begin (bodies_of us) i
  begin-least [] s e h from to = absurd h
  begin-least (RecursiveLoop x t body has_else ∷ us) s e h from to = begin-least us s e h from to
  begin-least (MacroBody x ps body ∷ us) s e (inl h) from to =
      let round : is_in i (record { begin = x.begin - 1; end = x.end }) ≡ true = and_from _ _ (le-leb (x.begin - 1) i (omega (arith, h.0, from))) (lt-ltb i x.end (omega (arith, h.1, to))) in
      let here = ap (λ b. max (cond b (x.begin - 1) 0) (body_begin (bodies_of us) i)) round in
      omega (arith, here, h.0)
  begin-least (MacroBody x ps body ∷ us) s e (inr h) from to = omega (arith, begin-least us s e h from to)

  -- where no body round the place begins behind another place, the innermost one does not
  begin-most : (us : List (Enterable C Extent)) (most : ℕ) → ((s e : ℕ) → HasBody s e us → s ≤ i → i < e → s ≤ most) → body_begin (bodies_of us) i ≤ most
  begin-most [] most h = omega arith
  begin-most (RecursiveLoop x t body has_else ∷ us) most h = begin-most us most h
  begin-most (MacroBody x ps body ∷ us) most h = go (begin-most us most (λ s e has. h s e (inr has))) (is_in i (record { begin = x.begin - 1; end = x.end })) refl
    where
      go : body_begin (bodies_of us) i ≤ most → (t : Bool) → is_in i (record { begin = x.begin - 1; end = x.end }) ≡ t → max (cond t (x.begin - 1) 0) (body_begin (bodies_of us) i) ≤ most
      go others true e =
          let parts = and_parts (leb (x.begin - 1) i) (ltb i x.end) e in
          omega (arith, others, h (x.begin - 1) x.end (inl (refl, refl)) (leb-true _ _ parts.0) (ltb-true _ _ parts.1))
      go others false e = omega (arith, others)

-- a body that ended, in which a place is
pub record Ended {C : Type 0} (us : List (Enterable C Extent)) (i p : ℕ) : Type 0 where
  pub s : ℕ
  pub e : ℕ
  pub body : HasBody s e us
  pub from : s ≤ p
  pub to : p < e
  pub over : e ≤ i

module _ {C : Type 0} (i p : ℕ) where
  ended-of : (us : List (Enterable C Extent)) → is_in_ended (bodies_of us) i p ≡ true → Ended us i p
  ended-of [] h = absurd (cc)
  ended-of (RecursiveLoop x t body has_else ∷ us) h = let n = ended-of us h in record { s = n.s; e = n.e; body = n.body; from = n.from; to = n.to; over = n.over }
  ended-of (MacroBody x ps body ∷ us) h =
      elim (or_cases _ _ h) [
        | inl here ↦
            let parts = and_parts _ _ here in
            let within = and_parts _ _ parts.0 in
            record { s = x.begin - 1; e = x.end; body = inl (refl, refl); from = leb-true _ _ within.0; to = ltb-true _ _ within.1; over = leb-true _ _ parts.1 }
        | inr more ↦ let n = ended-of us more in record { s = n.s; e = n.e; body = inr n.body; from = n.from; to = n.to; over = n.over }
      ]

  is-ended : (us : List (Enterable C Extent)) (s e : ℕ) → HasBody s e us → s ≤ p → p < e → e ≤ i → is_in_ended (bodies_of us) i p ≡ true
  is-ended [] s e h from to over = absurd h
  is-ended (RecursiveLoop x t body has_else ∷ us) s e h from to over = is-ended us s e h from to over
  is-ended (MacroBody x ps body ∷ us) s e (inl h) from to over =
      let within = and_from _ _ (le-leb (x.begin - 1) p (omega (arith, h.0, from))) (lt-ltb p x.end (omega (arith, h.1, to))) in
      ap (λ b. b || is_in_ended (bodies_of us) i p) (and_from _ _ within (le-leb x.end i (omega (arith, h.1, over))))
  is-ended (MacroBody x ps body ∷ us) s e (inr h) from to over = or-right _ _ (is-ended us s e h from to over)
    where
      or-right : (a b : Bool) → b ≡ true → (a || b) ≡ true
      or-right true b h = refl
      or-right false b h = h

-- ---- openings

module _ {C : Type 0} where
  opening-none : (x : Instr C) → opening_of x ≡ None → entry_of x ≡ None
  opening-none (BuildMacro y l flags) h = absurd (cc)
  opening-none x h = refl

  opening-some : (x : Instr C) (s : ℕ) → opening_of x ≡ Some s → (l : ℕ) × (entry_of x ≡ Some l) × (s ≡ l - 1) × (name_in x ≡ None)
  opening-some (BuildMacro y l flags) s h = let same : l - 1 ≡ s = cc in (l, refl, sym same, refl)
  opening-some x s h = absurd (cc)

  -- at a place
  at-none : (o : Option (Instr C)) → option_and_then opening_of o ≡ None → option_and_then entry_of o ≡ None
  at-none None h = refl
  at-none (Some x) h = opening-none x h

  at-some : (o : Option (Instr C)) (s : ℕ) → option_and_then opening_of o ≡ Some s → (l : ℕ) × (option_and_then entry_of o ≡ Some l) × (s ≡ l - 1) × (option_and_then name_in o ≡ None)
  at-some None s h = absurd (cc)
  at-some (Some x) s h = opening-some x s h

  has_drop : (code : List (Instr C)) (k : ℕ) → k ≤ length code → HasAt code k (drop k code)
  has_drop code k h =
      let same : take k code ++ drop k code ≡ code = take-append-drop k code in
      let n : length (take k code) ≡ k = omega (arith, length-take k code, h) in
      subst (λ z. HasAt code z (drop k code)) n (subst (λ l. HasAt l (length (take k code)) (drop k code)) same (stands_behind (take k code) (drop k code)).has)

module _ {C : Type 0} (code : List (Instr C)) (us : List (Enterable C Extent)) (n : ListNests code us) (i : ℕ) where
  -- what makes a macro is in the list
  entry_within : (q l : ℕ) → entry_at code q ≡ Some l → q < length code
  entry_within q l e = go (slice_get code q) refl
    where
      go : (o : Option (Instr C)) → slice_get code q ≡ o → q < length code
      go None h = let none = ap (option_and_then entry_of) h in absurd (cc (none, e))
      go (Some x) h = slice_get_within code q x h

  in_list : (s e q : ℕ) → IsMade code s e q → q < length code
  in_list s e q m = entry_within q (s + 1) m.made

  -- two macros that are made at one place are the same
  same_begin : (s e q s' e' q' : ℕ) → q ≡ q' → IsMade code s e q → IsMade code s' e' q' → s ≡ s'
  same_begin s e q s' e' q' h m m' =
      let entry : Some (s + 1) ≡ Some (s' + 1) = sym m.made ∙ ap (entry_at code) h ∙ m'.made in
      let begin : s + 1 ≡ s' + 1 = cc in
      omega (arith, begin)

  same_end : (s e q s' e' q' : ℕ) → q ≡ q' → IsMade code s e q → IsMade code s' e' q' → e ≡ e'
  same_end s e q s' e' q' h m m' =
      let jump : Some (Jump e) ≡ Some (Jump e') = sym m.jump ∙ ap (slice_get code) (same_begin s e q s' e' q' h m m') ∙ m'.jump in
      cc

  -- the macros before and after one
  apart : (s e q s' e' q' : ℕ) → q < q' → IsMade code s e q → IsMade code s' e' q' → (q < s') ⊎ ((s' < s) × (q < e'))
  apart s e q s' e' q' lt m m' = n.apart s e q s' e' q' (omega arith) lt (in_list s' e' q' m') m m'

  -- what a place says of names: nothing
  abbrev pub HasNoName : ℕ → Type 0
  HasNoName p = (is_in_ended (bodies_of us) i p ≡ true) ⊎ (name_at code p ≡ None)

  -- ---- the part of the list

  -- The scan has looked at the first k places. Names count below end, as far as is known by then:
  -- what stands from there on refers to nothing that counts, and the macros of bodies that ended and
  -- begin below it are made below it, or are still to come. No body is round the place whose macro is
  -- made among the first k places.
  record Looked (k end : ℕ) : Type 0 where
    pub skipped : (p : ℕ) → end ≤ p → p ≤ i → HasNoName p
    pub clear : (s e q : ℕ) → IsMade code s e q → e ≤ i → s < end → (q < end) ⊎ (k ≤ q)
    pub none : (s e q : ℕ) → IsMade code s e q → q < k → s ≤ i → i < e → ⊥
    pub short : end ≤ suc i

  -- The part is what counts: it begins where the innermost body does, and what stands behind it
  -- refers to nothing that counts.
  pub record IsReach (r : Part) : Type 0 where
    pub start : r.start ≡ body_begin (bodies_of us) i
    pub skipped : (p : ℕ) → r.end ≤ p → p ≤ i → HasNoName p
    pub clear : (s e q : ℕ) → IsMade code s e q → e ≤ i → s < r.end → q < r.end
    pub short : r.end ≤ suc i

  looked_at_first : Looked (suc i) (suc i)
  looked_at_first = record {
    skipped = λ p from to. absurd (omega (arith, from, to));
    clear = λ s e q m over below. elim (cases_lt q (suc i)) [ inl lt ↦ inl lt | inr ge ↦ inr ge ];
    none = λ s e q m lt from to. absurd (omega (arith, lt, to, m.before));
    short = omega arith;
  }

  -- all is looked at
  reach_of_all : (k end : ℕ) → length code ≤ k → Looked k end → IsReach (record { start = 0; end = end })
  reach_of_all k end all l = record {
    start = let le = begin-most i us 0 nothing_round in omega (arith, le);
    skipped = l.skipped;
    clear = λ s e q m over below. elim (l.clear s e q m over below) [ inl lt ↦ lt | inr ge ↦ absurd (omega (arith, in_list s e q m, all, ge)) ];
    short = l.short;
  }
    where
      nothing_round : (s e : ℕ) → HasBody s e us → s ≤ i → i < e → s ≤ 0
      nothing_round s e h from to =
          let m = n.listed s e h in
          absurd (l.none s e m.q m.is (omega (arith, m.within, all)) from to)

  -- an instruction that makes no macro
  looked_past : (k end : ℕ) → entry_at code k ≡ None → Looked k end → Looked (k + 1) end
  looked_past k end makes_none l = record {
    skipped = l.skipped;
    clear = λ s e q m over below. elim (l.clear s e q m over below) [ inl lt ↦ inl lt | inr ge ↦ inr (not_here s e q m ge) ];
    none = λ s e q m lt from to. elim (cases_lt q k) [ inl below ↦ l.none s e q m below from to | inr ge ↦ absurd (omega (arith, not_here s e q m ge, lt)) ];
    short = l.short;
  }
    where
      not_here : (s e q : ℕ) → IsMade code s e q → k ≤ q → k + 1 ≤ q
      not_here s e q m ge =
          elim (cases_lt k q) [
            | inl lt ↦ omega (arith, lt)
            | inr le ↦
                let same : q ≡ k = omega (arith, le, ge) in
                let made : entry_at code q ≡ None = ap (entry_at code) same ∙ makes_none in
                absurd (cc (made, m.made))
          ]

  module _ (k end s e : ℕ) (m : IsMade code s e k) (behind : suc i ≤ k) (l : Looked k end) where
    -- where another macro is, that is made at this one's place or behind it
    from_here : (s' e' q' : ℕ) → IsMade code s' e' q' → k ≤ q' → (q' ≡ k) ⊎ ((k < s') ⊎ ((s' < s) × (k < e')))
    from_here s' e' q' m' ge =
        elim (cases_lt k q') [
          | inl lt ↦ inr (apart s e k s' e' q' lt m m')
          | inr le ↦ inl (omega (arith, le, ge))
        ]

    -- a macro whose body begins behind the place
    looked_behind : i < s → Looked (k + 1) end
    looked_behind after = record {
      skipped = l.skipped;
      clear = λ s' e' q' m' over below.
          elim (l.clear s' e' q' m' over below) [
            | inl lt ↦ inl lt
            | inr ge ↦
                elim (cases_lt k q') [
                  | inl lt ↦ inr (omega (arith, lt))
                  | inr le ↦ absurd (omega (arith, same_begin s' e' q' s e k (omega (arith, le, ge)) m' m, after, over, m'.long))
                ]
          ];
      none = λ s' e' q' m' lt from to.
          elim (cases_lt q' k) [
            | inl below ↦ l.none s' e' q' m' below from to
            | inr ge ↦ absurd (omega (arith, same_begin s' e' q' s e k (omega (arith, lt, ge)) m' m, after, from))
          ];
      short = l.short;
    }

    -- a macro whose body is over
    looked_over : s ≤ i → e ≤ i → Looked (k + 1) (min end s)
    looked_over begun over = record {
      skipped = λ p from to.
          elim (cases_lt p end) [
            | inl lt ↦
                elim (cases_lt p e) [
                  | inl inside ↦
                      let made = n.each k (s + 1) (omega arith) (in_list s e k m) m.made in
                      let body : HasBody s e us = subst (λ z. HasBody z e us) (omega (arith, made.entry)) (subst (λ z. HasBody made.s z us) (same_end made.s made.e k s e k refl made.is m) made.body) in
                      inl (is-ended i p us s e body (omega (arith, from, lt)) inside over)
                  | inr past ↦ inr (m.silent p past (omega (arith, to, behind))).1
                ]
            | inr ge ↦ l.skipped p ge to
          ];
      clear = λ s' e' q' m' over' below.
          elim (l.clear s' e' q' m' over' (omega (arith, below))) [
            | inl lt ↦
                elim (apart s' e' q' s e k (omega (arith, lt, l.short, behind)) m' m) [
                  | inl before ↦ inl (omega (arith, lt, before))
                  | inr within ↦ absurd (omega (arith, within.0, below))
                ]
            | inr ge ↦
                elim (cases_lt k q') [
                  | inl lt ↦ inr (omega (arith, lt))
                  | inr le ↦ absurd (omega (arith, same_begin s' e' q' s e k (omega (arith, le, ge)) m' m, below))
                ]
          ];
      none = λ s' e' q' m' lt from to.
          elim (cases_lt q' k) [
            | inl below ↦ l.none s' e' q' m' below from to
            | inr ge ↦ absurd (omega (arith, same_end s' e' q' s e k (omega (arith, lt, ge)) m' m, over, to))
          ];
      short = omega (arith, l.short);
    }

    -- a macro whose body is round the place: the innermost one
    reach_of_round : s ≤ i → i < e → HasBody s e us → IsReach (record { start = s; end = end })
    reach_of_round begun later body = record {
      start =
          let least = begin-least i us s e body begun later in
          let most = begin-most i us s others_outside in
          omega (arith, least, most);
      skipped = l.skipped;
      clear = λ s' e' q' m' over below.
          elim (l.clear s' e' q' m' over below) [
            | inl lt ↦ lt
            | inr ge ↦
                elim (from_here s' e' q' m' ge) [
                  | inl same ↦ absurd (omega (arith, same_end s' e' q' s e k same m' m, over, later))
                  | inr (inl after) ↦ absurd (omega (arith, after, behind, over, m'.long))
                  | inr (inr round) ↦ absurd (omega (arith, round.1, behind, over))
                ]
          ];
      short = l.short;
    }
      where
        others_outside : (s' e' : ℕ) → HasBody s' e' us → s' ≤ i → i < e' → s' ≤ s
        others_outside s' e' h from to =
            let other = n.listed s' e' h in
            elim (cases_lt other.q k) [
              | inl below ↦ absurd (l.none s' e' other.q other.is below from to)
              | inr ge ↦
                  elim (from_here s' e' other.q other.is ge) [
                    | inl same ↦ omega (arith, same_begin s' e' other.q s e k same other.is m)
                    | inr (inl after) ↦ absurd (omega (arith, after, behind, from))
                    | inr (inr round) ↦ omega (arith, round.0)
                  ]
            ]

  target-is : (s e : ℕ) → slice_get code s ≡ Some (Jump e) → target_at code s ≡ e
  target-is s e h = ap target_of h

  looks : (xs : List (Instr C)) (k end : ℕ) → HasAt code k xs → k + length xs ≡ length code → suc i ≤ k → Looked k end → IsReach (reach_from code i xs end)
  looks [] k end h long behind l = reach_of_all k end (omega (arith, long)) l
  looks (x ∷ xs) k end h long behind l = go (λ end' l'. looks xs (k + 1) end' h.1 (omega (arith, long)) (omega (arith, behind)) l') (opening_of x) refl
    where
      entry_is : entry_at code k ≡ entry_of x
      entry_is = ap (option_and_then entry_of) h.0

      go : ((end' : ℕ) → Looked (k + 1) end' → IsReach (reach_from code i xs end')) → (o : Option ℕ) → opening_of x ≡ o → IsReach (reach_at code i o (reach_from code i xs) end)
      go others None e = others end (looked_past k end (entry_is ∙ opening-none x e) l)
      go others (Some s) e = within (leb s i) refl
        where
          entry : (l : ℕ) × (entry_of x ≡ Some l) × (s ≡ l - 1) × (name_in x ≡ None)
          entry = opening-some x s e

          made : IsMadeOf code 0 k entry.0 us
          made = n.each k entry.0 (omega arith) (omega (arith, long)) (entry_is ∙ entry.1)

          s_is : made.s ≡ s
          s_is = omega (arith, made.entry, entry.2)

          m : IsMade code s made.e k
          m = subst (λ z. IsMade code z made.e k) s_is made.is

          to : ℕ
          to = target_at code s

          to_is : to ≡ made.e
          to_is = target-is s made.e m.jump

          round : (c : Bool) → ltb i to ≡ c → s ≤ i → IsReach (cond c (record { start = s; end = end }) (reach_from code i xs (min end s)))
          round true f begun = reach_of_round k end s made.e m behind l begun (omega (arith, ltb-true i to f, to_is)) (subst (λ z. HasBody z made.e us) s_is made.body)
          round false f begun = others (min end s) (looked_over k end s made.e m behind l begun (omega (arith, ltb-false i to f, to_is)))

          within : (b : Bool) → leb s i ≡ b → IsReach (cond b (cond (ltb i to) (record { start = s; end = end }) (reach_from code i xs (min end s))) (reach_from code i xs end))
          within true f = round (ltb i to) refl (leb-true s i f)
          within false f = others end (looked_behind k end s made.e m behind l (leb-false s i f))

  pub reach-is : i < length code → IsReach (reach code i)
  reach-is h =
      let le : suc i ≤ length code = omega (arith, h) in
      looks (drop (suc i) code) (suc i) (suc i) (has_drop code (suc i) le) (omega (arith, length-drop (suc i) code, le)) (omega arith) looked_at_first

  -- ---- the names in it

  abbrev start_at : ℕ
  start_at = body_begin (bodies_of us) i

  abbrev counts : ℕ → Bool
  counts p = belongs (bodies_of us) i p

  -- what is before the start does not count
  below_start : (p : ℕ) → p < start_at → counts p ≡ false
  below_start p lt = and_left (leb start_at p) (not (is_in_ended (bodies_of us) i p)) (lt-leb start_at p lt)

  ended_out : (p : ℕ) → is_in_ended (bodies_of us) i p ≡ true → counts p ≡ false
  ended_out p e = and_right (leb start_at p) (not (is_in_ended (bodies_of us) i p)) (ap not e)

  no_name : (p : ℕ) → HasNoName p → (cond (counts p) (name_at code p) None) ≡ None
  no_name p (inl e) = ap (λ b. cond b (name_at code p) None) (ended_out p e)
  no_name p (inr e) = both (counts p)
    where
      both : (b : Bool) → cond b (name_at code p) None ≡ None
      both true = e
      both false = refl

  none_before : (p end : ℕ) → p ≤ start_at → visited_below start_at code p end ≡ names_below counts code p
  none_before zero end le = refl
  none_before (suc p) end le =
      let lt : p < start_at = omega (arith, le) in
      ap (λ b. cond (b && ltb p end) (visited (opening_at code p) (name_at code p) (visited_below start_at code p) end) (visited_below start_at code p end)) (lt-leb start_at p lt)
      ∙ none_before p end (omega (arith, le))
      ∙ sym (ap (λ b. and_name (cond b (name_at code p) None) (names_below counts code p)) (below_start p lt))

  -- The first p places are left, and names count below end among them: what stands from there on
  -- refers to nothing that counts, and the macros of bodies that ended and begin in what is left are
  -- made in it.
  record Left (p end : ℕ) : Type 0 where
    pub short : p ≤ suc i
    pub skipped : (z : ℕ) → end ≤ z → z < p → HasNoName z
    pub clear : (s e q : ℕ) → IsMade code s e q → e ≤ i → s < end → s < p → (q < end) × (q < p)

  visits : (p end : ℕ) → Left p end → visited_below start_at code p end ≡ names_below counts code p
  visits zero end l = refl
  visits (suc p) end l = elim (cases_lt p start_at) [ inl lt ↦ none_before (suc p) end (omega (arith, lt)) | inr ge ↦ from_start (λ end' l'. visits p end' l') ge ]
    where
      -- a place that is skipped
      past : end ≤ p → Left p end
      past ge = record {
        short = omega (arith, l.short);
        skipped = λ z from to. l.skipped z from (omega (arith, to));
        clear = λ s e q m over below before.
            let k = l.clear s e q m over below (omega (arith, before)) in
            (k.0, omega (arith, k.0, ge));
      }

      -- a place that makes no macro
      plain : p < end → entry_at code p ≡ None → Left p end
      plain lt makes_none = record {
        short = omega (arith, l.short);
        skipped = λ z from to. absurd (omega (arith, from, to, lt));
        clear = λ s e q m over below before.
            let k = l.clear s e q m over below (omega (arith, before)) in
            let other : q < p =
            elim (cases_lt q p) [
              | inl less ↦ less
              | inr ge ↦
                  let same : q ≡ p = omega (arith, ge, k.1) in
                  let none : entry_at code q ≡ None = ap (entry_at code) same ∙ makes_none in
                  absurd (cc (none, m.made))
            ] in
            (k.0, other);
      }

      -- a place that makes a macro
      over : p < end → (s e : ℕ) → IsMade code s e p → HasBody s e us → Left p s
      over lt s e m body = record {
        short = omega (arith, l.short);
        skipped = λ z from to.
            elim (cases_lt z e) [
              | inl inside ↦ inl (is-ended i z us s e body from inside (omega (arith, m.before, l.short)))
              | inr behind ↦ inr (m.silent z behind to).1
            ];
        clear = λ s' e' q' m' ended below before.
            let k = l.clear s' e' q' m' ended (omega (arith, below, m.long, m.before, lt)) (omega (arith, before)) in
            let less : q' < p =
            elim (cases_lt q' p) [
              | inl less ↦ less
              | inr ge ↦ absurd (omega (arith, same_begin s' e' q' s e p (omega (arith, ge, k.1)) m' m, below))
            ] in
            elim (apart s' e' q' s e p less m' m) [
              | inl earlier ↦ (earlier, less)
              | inr within ↦ absurd (omega (arith, within.0, below))
            ];
      }

      -- a place in no body that ended
      unended : p < end → entry_at code p ≡ None → counts p ≡ (leb start_at p && not false)
      unended lt makes_none = elim (cases_Bool (is_in_ended (bodies_of us) i p)) [ inl e ↦ absurd (not_ended (ended-of i p us e)) | inr e ↦ ap (λ b. leb start_at p && not b) e ]
        where
          not_ended : Ended us i p → ⊥
          not_ended d =
              let k = n.listed d.s d.e d.body in
              let before = l.clear d.s d.e k.q k.is d.over (omega (arith, d.from, lt)) (omega (arith, d.from)) in
              omega (arith, before.1, d.to, k.is.before)

      and-true : (b : Bool) → (b && true) ≡ b
      and-true true = refl
      and-true false = refl

      from_start : ((end' : ℕ) → Left p end' → visited_below start_at code p end' ≡ names_below counts code p) → start_at ≤ p → visited_below start_at code (suc p) end ≡ names_below counts code (suc p)
      from_start more ge =
          ap (λ b. cond (b && ltb p end) (visited (opening_at code p) (name_at code p) (visited_below start_at code p) end) (visited_below start_at code p end)) (le-leb start_at p ge)
          ∙ elim (cases_lt p end) [
            | inl lt ↦ ap (λ b. cond b (visited (opening_at code p) (name_at code p) (visited_below start_at code p) end) (visited_below start_at code p end)) (lt-ltb p end lt) ∙ there lt (opening_at code p) refl
            | inr after ↦
                ap (λ b. cond b (visited (opening_at code p) (name_at code p) (visited_below start_at code p) end) (visited_below start_at code p end)) (le-ltb p end after)
                ∙ more end (past after)
                ∙ sym (ap (λ o. and_name o (names_below counts code p)) (no_name p (l.skipped p after (omega arith))))
          ]
        where
          there : p < end → (o : Option ℕ) → opening_at code p ≡ o → visited o (name_at code p) (visited_below start_at code p) end ≡ names_below counts code (suc p)
          there lt None e =
              let makes_none = at-none (slice_get code p) e in
              let yes : counts p ≡ true = unended lt makes_none ∙ and-true (leb start_at p) ∙ le-leb start_at p ge in
              ap (and_name (name_at code p)) (more end (plain lt makes_none))
              ∙ sym (ap (λ b. and_name (cond b (name_at code p) None) (names_below counts code p)) yes)
          there lt (Some s) e =
              let entry = at-some (slice_get code p) s e in
              let in_code : p < length code = entry_within p entry.0 entry.1 in
              let made = n.each p entry.0 (omega arith) in_code entry.1 in
              let s_is : made.s ≡ s = omega (arith, made.entry, entry.2) in
              let m : IsMade code s made.e p = subst (λ z. IsMade code z made.e p) s_is made.is in
              let body : HasBody s made.e us = subst (λ z. HasBody z made.e us) s_is made.body in
              more s (over lt s made.e m body)
              ∙ sym (ap (λ o. and_name o (names_below counts code p)) (no_name p (inr entry.3)))

  -- what is skipped at the end adds no name
  trimmed : (m p : ℕ) → m ≤ p → ((z : ℕ) → m ≤ z → z < p → HasNoName z) → names_below counts code p ≡ names_below counts code m
  trimmed m zero le h = let same : m ≡ 0 = omega (arith, le) in ap (names_below counts code) (sym same)
  trimmed m (suc p) le h =
      elim (cases_lt p m) [
        | inl last ↦ let same : suc p ≡ m = omega (arith, le, last) in ap (names_below counts code) same
        | inr more ↦ ap (λ o. and_name o (names_below counts code p)) (no_name p (h p more (omega arith))) ∙ trimmed m p more (λ z from to. h z from (omega (arith, to)))
      ]

  -- the scan visits the names that count
  pub visited-is : i < length code → visited_in code (reach code i) ≡ names_below (belongs (bodies_of us) i) code (suc i)
  visited-is h =
      let r = reach-is h in
      let all : Left (reach code i).end (reach code i).end = record {
        short = r.short;
        skipped = λ z from to. absurd (omega (arith, from, to));
        clear = λ s e q m over below before. let lt = r.clear s e q m over below in (lt, lt);
      } in
      ap (λ s. visited_below s code (reach code i).end (reach code i).end) r.start
      ∙ visits (reach code i).end (reach code i).end all
      ∙ sym (trimmed (reach code i).end (suc i) r.short (λ z from to. r.skipped z from (omega (arith, to))))

-- ---- an empty list

no_names : (C : Type 0) (test : ℕ → Bool) (p : ℕ) → names_below {C = C} test [] p ≡ []
no_names C test zero = refl
no_names C test (suc p) = both (no_names C test p) (test p)
  where
    both : names_below {C = C} test [] p ≡ [] → (b : Bool) → and_name (cond b None None) (names_below {C = C} test [] p) ≡ []
    both e true = e
    both e false = e

no_visits : (C : Type 0) (start p end : ℕ) → visited_below {C = C} start [] p end ≡ []
no_visits C start zero end = refl
no_visits C start (suc p) end = both (no_visits C start p end) (leb start p && ltb p end)
  where
    both : visited_below {C = C} start [] p end ≡ [] → (b : Bool) → cond b (visited_below {C = C} start [] p end) (visited_below {C = C} start [] p end) ≡ []
    both e true = e
    both e false = e

pub none_visited : (C : Type 0) (i : ℕ) → visited_at {C = C} [] i ≡ []
none_visited C i = let r : Part = reach {C = C} [] (min i (length {A = Instr C} [] - 1)) in no_visits C r.start r.end r.end

-- The scan finds what is referenced, in code whose macros are nested.
pub referenced-is : {C : Type 0} (code : List (Instr C)) (us : List (Enterable C Extent)) → ListNests code us → (i : ℕ) → each_once (visited_at code i) ≡ referenced code (bodies_of us) i
referenced-is {C = C} [] us n i = ap each_once (none_visited C i ∙ sym (no_names C (belongs (bodies_of us) (min i (length {A = Instr C} [] - 1))) (suc (min i (length {A = Instr C} [] - 1)))))
referenced-is (x ∷ code) us n i =
    let last = min i (length (x ∷ code) - 1) in
    ap each_once (visited-is (x ∷ code) us n last (omega arith))

-- The same of code that is a layout, where the scan reads these instructions of a list.
pub names_are : {A C : Type 0} (v : A → Instr C) (read xs : List A) (laid : List (Instr C)) (us : List (Enterable C Extent)) (i : ℕ) (names : List Text) → names ≡ each_once (visited_at (map v read) i) → read ≡ xs → ListNests laid us → map v xs ≡ laid → names ≡ referenced (map v xs) (bodies_of us) i
names_are v read xs laid us i names h same n e =
    h ∙ ap (λ l. each_once (visited_at (map v l) i)) same ∙ referenced-is (map v xs) us (subst (λ l. ListNests l us) (sym e) n) i
