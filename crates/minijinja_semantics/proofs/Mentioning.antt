-- Runs that mention only known names, step by step.
use Rattle.std.proofs.Common.{◌≡◌, inl, inr, ⊎_elim, List, [], ◌∷◌, Option, Some, None, Result, Ok, Err, Bool, true, false, refl, sym, ◌∙◌, subst}
use Rattle.std.specs.Prelude.{Contains, IfSome}
use Rattle.minijinja_syntax.specs.Texts.{Text}
use Rattle.minijinja_tree.specs.FreeNames.{Way, occurs}
use Rattle.minijinja_semantics.specs.Events.{PushWith, PopFrame, PopLoopFrame, PushLoop, Include, Enclose, GetClosure, BuildMacro, Kind, Lookup, StoreLocal, CallFunction, Event, Answer, Fault, Values, World, Did, Gave, Ended, Means, next, give, choose, operated, fitted, answered, ask, tell, get}
use Rattle.minijinja_semantics.specs.Needs.{Scope, loaded, scopes_after, scopes, scope_after, IsStored, IsKnown, MayMention, making_before, MentionsOnly}
use Rattle.minijinja_semantics.proofs.Covering.{Covered, covered_more}

-- the same scopes are open; more may be stored in the innermost one, and its import may be loaded
abbrev pub Grows : List Scope → List Scope → Type 0
Grows [] t = t ≡ []
Grows (a ∷ s) [] = ⊥
Grows (a ∷ s) (b ∷ t) = (s ≡ t) × (loaded a.import ≡ loaded b.import) × ((x : Text) → Contains a.stored x → Contains b.stored x)

pub grows_same : (s : List Scope) → Grows s s
grows_same [] = refl
grows_same (a ∷ s) = (refl, refl, λ x c. c)

-- there is a scope
abbrev pub HasScope : List Scope → Type 0
HasScope [] = ⊥
HasScope (a ∷ s) = Unit {0}

pub has_grows : (s t : List Scope) → Grows s t → HasScope s → HasScope t
has_grows [] t g k = absurd k
has_grows (a ∷ s) [] g k = absurd g
has_grows (a ∷ s) (b ∷ t) g k = tt

pub grows_on : (s t u : List Scope) → Grows s t → Grows t u → Grows s u
grows_on [] t u a b = subst (λ k. Grows k u) a b
grows_on (a ∷ s) [] u g h = absurd g
grows_on (a ∷ s) (b ∷ t) [] g h = absurd h
grows_on (a ∷ s) (b ∷ t) (c ∷ u) g h = (g.0 ∙ h.0, g.1 ∙ h.1, λ x k. h.2 x (g.2 x k))

stored_grows : (x : Text) (s t : List Scope) → Grows s t → IsStored x s → IsStored x t
stored_grows x [] t g k = absurd k
stored_grows x (a ∷ s) [] g k = absurd g
stored_grows x (a ∷ s) (b ∷ t) g (inl c) = inl (g.2 x c)
stored_grows x (a ∷ s) (b ∷ t) g (inr k) = inr (subst (IsStored x) g.0 k)

-- what a run has noted of its events, latest first
abbrev pub Notes : Type 0 → Type 0 → Type 0
Notes N C = List (Event N C × Answer C)

-- names that are known without being stored, and macros that may be being made where a run ends
pub record Outside : Type 0 where
  pub names : List Text
  pub macros : List Text

module _ (out : Outside) where
  abbrev pub Known : List Scope → Text → Type 0
  Known s x = IsKnown out.names x s

  pub known_grows : (s t : List Scope) → Grows s t → (x : Text) → Known s x → Known t x
  known_grows s t g x = ⊎_elim (λ k. inl (stored_grows x s t g k)) (λ a. inr a)

  pub covered_grows : (s t : List Scope) (w : Way) → Grows s t → Covered (Known s) w → Covered (Known t) w
  covered_grows s t w g c = covered_more (Known s) (Known t) w (known_grows s t g) c

  -- a run may end here
  abbrev pub MayEnd : {N C : Type 0} → Notes N C → Type 0
  MayEnd taken = (making : Option Text) × IfSome making (Contains out.macros) × MentionsOnly out.names making taken

  -- a run has given a value of which this holds, with what it noted, or has ended where it may
  abbrev pub Comes : {N C F X : Type 0} → (X → Notes N C → Type 0) → Did (Event N C) C F X → Type 0
  Comes q (Gave w x) = q x w.record_so_far
  Comes q (Ended w e) = MayEnd w.record_so_far

  -- a run that begins where the first fact holds comes to where the second one does, or ends where
  -- it may
  pub record Runs {N C F X : Type 0} (p : Notes N C → Type 0) (m : Means N C F X) (q : X → Notes N C → Type 0) : Type 0 where
    pub runs : (w : World (Event N C) C) → p w.record_so_far → Comes q (m w)

  -- an event leads from where one fact holds to where another does, and a run may end at both
  pub record Steps {N C : Type 0} (e : Event N C) (p q : Notes N C → Type 0) : Type 0 where
    pub before : (taken : Notes N C) → p taken → MayEnd taken
    pub steps : (taken : Notes N C) (r : Answer C) → p taken → q ((e, r) ∷ taken)
    pub behind : (taken : Notes N C) → q taken → MayEnd taken

  -- only what may be mentioned was, these scopes are open with more stored, and what this way needs
  -- is known
  abbrev pub From : {N C : Type 0} → List Scope → Way → Notes N C → Type 0
  From s a t = MentionsOnly out.names None t × Grows s (scopes t) × Covered (Known (scopes t)) a

  pub from_ends : {N C : Type 0} (s : List Scope) (a : Way) (t : Notes N C) → From s a t → MayEnd t
  from_ends s a t c = (None, tt, c.0)

  -- A run that begins where what the first way needs is known comes to where what the second one
  -- needs is, and mentions only what it may meanwhile.
  pub record Leads {N C F X : Type 0} (before : Way) (m : Means N C F X) (behind : X → Way) : Type 0 where
    pub leads : (s : List Scope) → HasScope s → Runs (From s before) m (λ x. From s (behind x))

  -- an event mentions what it may and closes nothing, and what this way needs is known after it
  pub record Occurs {N C : Type 0} (e : Event N C) (t : Notes N C) (behind : Way) : Type 0 where
    pub may : MayMention out.names None e.kind e.text (scopes t)
    pub grows : Grows (scopes t) (scopes_after e.kind e.text (scope_after t) (scopes t))
    pub covers : Covered (Known (scopes_after e.kind e.text (scope_after t) (scopes t))) behind

  fitted_comes : {N C : Type 0} (G : Type 0) {X : Type 0} (P : X → Type 0) (r : Option X) (e : Event N C) (vs : List C) (taken : Notes N C) (rest : List (Answer C)) (p q : Notes N C → Type 0) → ((x : X) → r ≡ Some x → P x) → p taken → Steps e p q → Comes {F = G} (λ x t. P x × q t) (fitted r e vs taken rest)
  unfolding fitted
  fitted_comes G P None e vs taken rest p q k c s = s.before taken c
  fitted_comes G P (Some x) e vs taken rest p q k c s = (k x refl, s.steps taken (Values vs) c)

  answered_comes : {N C : Type 0} (G : Type 0) {X : Type 0} (P : X → Type 0) (fit : List C → Option X) (e : Event N C) (taken : Notes N C) (answers : List (Answer C)) (p q : Notes N C → Type 0) → ((vs : List C) (x : X) → fit vs ≡ Some x → P x) → p taken → Steps e p q → Comes {F = G} (λ x t. P x × q t) (answered fit e taken answers)
  unfolding answered
  answered_comes G P fit e taken [] p q k c s = s.before taken c
  answered_comes G P fit e taken (Fault ∷ rest) p q k c s = s.behind ((e, Fault) ∷ taken) (s.steps taken Fault c)
  answered_comes G P fit e taken (Values vs ∷ rest) p q k c s = fitted_comes G P (fit vs) e vs taken rest p q (k vs) c s

  comes_to : {N C F X : Type 0} (q r : X → Notes N C → Type 0) → ((x : X) (t : Notes N C) → q x t → r x t) → (d : Did (Event N C) C F X) → Comes q d → Comes r d
  comes_to q r k (Gave w x) g = k x w.record_so_far g
  comes_to q r k (Ended w e) g = g

  comes_next : {N C F X Y : Type 0} {q : X → Notes N C → Type 0} {r : Y → Notes N C → Type 0} (d : Did (Event N C) C F X) (n : X → Means N C F Y) → Comes q d → ((x : X) → Runs (q x) (n x) r) → Comes r (next d n)
  unfolding next
  comes_next (Gave w x) n g k = (k x).runs w g
  comes_next (Ended w e) n g k = g

module _ {out : Outside} {N C F : Type 0} where
  pub runs_next : {X Y : Type 0} {p : Notes N C → Type 0} {q : X → Notes N C → Type 0} {r : Y → Notes N C → Type 0} {m : Means N C F X} {n : X → Means N C F Y} → Runs out p m q → ((x : X) → Runs out (q x) (n x) r) → Runs out p (λ w. next (m w) n) r
  runs_next {m = m} {n = n} a b = record { runs = λ w c. comes_next out (m w) n (a.runs w c) b }

  pub runs_give : {X : Type 0} {q : X → Notes N C → Type 0} (x : X) → Runs out {F = F} (q x) (give x) q
  runs_give x = record { runs = λ w c. c }

  pub runs_from : {X : Type 0} {p p' : Notes N C → Type 0} {q : X → Notes N C → Type 0} {m : Means N C F X} → ((t : Notes N C) → p t → p' t) → Runs out p' m q → Runs out p m q
  runs_from k a = record { runs = λ w c. a.runs w (k w.record_so_far c) }

  pub runs_to : {X : Type 0} {p : Notes N C → Type 0} {q r : X → Notes N C → Type 0} {m : Means N C F X} → ((x : X) (t : Notes N C) → q x t → r x t) → Runs out p m q → Runs out p m r
  runs_to {q = q} {r} {m} k a = record { runs = λ w c. comes_to out q r k (m w) (a.runs w c) }

  -- a run may be looked at from the record where it begins
  pub runs_at : {X : Type 0} {p : Notes N C → Type 0} {q : X → Notes N C → Type 0} {m : Means N C F X} → ((taken : Notes N C) → p taken → Runs out (λ t. t ≡ taken) m q) → Runs out p m q
  runs_at k = record { runs = λ w c. (k w.record_so_far c).runs w refl }

  pub runs_choose : {X : Type 0} {p : Notes N C → Type 0} {q : X → Notes N C → Type 0} {m n : Means N C F X} (b : Bool) → Runs out p m q → Runs out p n q → Runs out p (choose b m n) q
  unfolding choose
  runs_choose true a c = a
  runs_choose false a c = c

  pub runs_ask_for : {X : Type 0} {p q : Notes N C → Type 0} (P : X → Type 0) (fit : List C → Option X) (e : Event N C) → ((vs : List C) (x : X) → fit vs ≡ Some x → P x) → Steps out e p q → Runs out {F = F} p (ask fit e) (λ x t. P x × q t)
  unfolding ask
  runs_ask_for {p = p} {q} P fit e k s = record { runs = λ w c. answered_comes out F P fit e w.record_so_far w.answers p q k c s }

  pub runs_ask : {X : Type 0} {p q : Notes N C → Type 0} (fit : List C → Option X) (e : Event N C) → Steps out e p q → Runs out {F = F} p (ask fit e) (λ x. q)
  runs_ask fit e s = runs_to (λ x t c. c.1) (runs_ask_for (λ x. Unit {0}) fit e (λ vs x h. tt) s)

-- ---- events that mention nothing, and open and close nothing

pub record IsQuiet (k : Kind) : Type 0 where
  pub may : (names : List Text) (x : Text) (s : List Scope) → MayMention names None k x s
  pub makes : (x : Text) → making_before k x None ≡ None
  pub still : (x : Text) (b : Scope) (s : List Scope) → scopes_after k x b s ≡ s

abbrev pub is_quiet : Kind → Bool
is_quiet Lookup = false
is_quiet StoreLocal = false
is_quiet CallFunction = false
is_quiet PushWith = false
is_quiet PopFrame = false
is_quiet PopLoopFrame = false
is_quiet (PushLoop n) = false
is_quiet (Include b) = false
is_quiet Enclose = false
is_quiet GetClosure = false
is_quiet (BuildMacro n) = false
is_quiet _ = true

quiet : (k : Kind) → is_quiet k ≡ true → IsQuiet k
quiet Lookup e = absurd (cc)
quiet StoreLocal e = absurd (cc)
quiet CallFunction e = absurd (cc)
quiet PushWith e = absurd (cc)
quiet PopFrame e = absurd (cc)
quiet PopLoopFrame e = absurd (cc)
quiet (PushLoop n) e = absurd (cc)
quiet (Include b) e = absurd (cc)
quiet Enclose e = absurd (cc)
quiet GetClosure e = absurd (cc)
quiet (BuildMacro n) e = absurd (cc)
quiet _ e = record { may = λ names x s. tt; makes = λ x. refl; still = λ x b s. refl }

module _ {out : Outside} {N C F : Type 0} where
  pub leads_next : {X Y : Type 0} {a : Way} {b : X → Way} {c : Y → Way} {m : Means N C F X} {n : X → Means N C F Y} → Leads out a m b → ((x : X) → Leads out (b x) (n x) c) → Leads out a (λ w. next (m w) n) c
  leads_next p q = record { leads = λ s k. runs_next (p.leads s k) (λ x. (q x).leads s k) }

  pub leads_give : {X : Type 0} {b : X → Way} (x : X) → Leads out {N = N} {C = C} {F = F} (b x) (give x) b
  leads_give x = record { leads = λ s k. runs_give x }

  -- less is needed
  pub leads_from : {X : Type 0} {a a' : Way} {b : X → Way} {m : Means N C F X} → ((s : List Scope) → Covered (Known out s) a → Covered (Known out s) a') → Leads out a' m b → Leads out a m b
  leads_from h p = record { leads = λ s k. runs_from (λ t c. (c.0, c.1, h (scopes t) c.2)) (p.leads s k) }

  -- more is known than is needed
  pub leads_to : {X : Type 0} {a : Way} {b c : X → Way} {m : Means N C F X} → ((x : X) (s : List Scope) → Covered (Known out s) (b x) → Covered (Known out s) (c x)) → Leads out a m b → Leads out a m c
  leads_to h p = record { leads = λ s k. runs_to (λ x t c. (c.0, c.1, h x (scopes t) c.2)) (p.leads s k) }

  pub leads_choose : {X : Type 0} {a : Way} {b : X → Way} {m n : Means N C F X} (t : Bool) → Leads out a m b → Leads out a n b → Leads out a (choose t m n) b
  leads_choose t p q = record { leads = λ s k. runs_choose t (p.leads s k) (q.leads s k) }

  pub leads_operated : {X : Type 0} {b : Way} (r : Result X F) → Leads out {N = N} {C = C} b (operated r) (λ x. b)
  unfolding operated
  leads_operated (Ok x) = record { leads = λ s k. record { runs = λ w c. c } }
  leads_operated {b = b} (Err e) = record { leads = λ s k. record { runs = λ w c. from_ends out s b w.record_so_far c } }

  pub leads_ask : {X : Type 0} {a b : Way} (fit : List C → Option X) (e : Event N C) → making_before e.kind e.text None ≡ None → ((t : Notes N C) → HasScope (scopes t) → Covered (Known out (scopes t)) a → Occurs out e t b) → Leads out {F = F} a (ask fit e) (λ x. b)
  leads_ask {a = a} {b} fit e makes h = record {
    leads = λ s k. runs_ask fit e (record {
      before = from_ends out s a;
      steps = λ t r c. let v = h t (has_grows s (scopes t) c.1 k) c.2 in ((v.may, subst (λ making. MentionsOnly out.names making t) (sym makes) c.0), grows_on s (scopes t) _ c.1 v.grows, v.covers);
      behind = from_ends out s b;
    });
  }

  pub leads_quiet : {X : Type 0} (b : Way) (fit : List C → Option X) (e : Event N C) → is_quiet e.kind ≡ true → Leads out {F = F} b (ask fit e) (λ x. b)
  leads_quiet b fit e is = let q = quiet e.kind is in leads_ask fit e (q.makes e.text) (λ t k c. record {
    may = q.may out.names e.text (scopes t);
    grows = subst (Grows (scopes t)) (sym (q.still e.text (scope_after t) (scopes t))) (grows_same (scopes t));
    covers = subst (λ s. Covered (Known out s) b) (sym (q.still e.text (scope_after t) (scopes t))) c;
  })

  pub leads_get : (b : Way) (k : Kind) (t : Text) (vs : List C) → is_quiet k ≡ true → Leads out {N = N} {F = F} b (get k t vs) (λ x. b)
  leads_get b k t vs q = leads_quiet b _ _ q

  pub leads_tell : (b : Way) (k : Kind) (t : Text) (vs : List C) → is_quiet k ≡ true → Leads out {N = N} {F = F} b (tell k t vs) (λ x. b)
  leads_tell b k t vs q = leads_quiet b _ _ q

  -- a name that is known stays known
  pub leads_keeps : {X : Type 0} {a : Way} {b : X → Way} {m : Means N C F X} (x : Text) → Leads out a m b → Leads out (occurs x a) m (λ v. occurs x (b v))
  leads_keeps {a = a} x p = record {
    leads = λ s k. runs_at (λ taken c. runs_to
        (λ v t g. (g.0, grows_on s (scopes taken) (scopes t) c.1 g.1, (known_grows out (scopes taken) (scopes t) g.1 x c.2.0, g.2)))
        (runs_from (λ t e. subst (From out (scopes taken) a) (sym e) (c.0, grows_same (scopes taken), c.2.1)) (p.leads (scopes taken) (has_grows s (scopes taken) c.1 k))));
  }

  pub leads_call : (x : Text) (b : Way) (vs : List C) → Leads out {N = N} {C = C} {F = F} (occurs x b) (get CallFunction x vs) (λ v. b)
  leads_call x b vs = leads_ask _ _ refl (λ t k c. record { may = c.0; grows = grows_same (scopes t); covers = c.1 })

  -- a variable is looked up
  pub leads_lookup : (x : Text) (b : Way) → Leads out {N = N} {C = C} {F = F} (occurs x b) (get Lookup x []) (λ v. b)
  leads_lookup x b = leads_ask _ _ refl (λ t k c. record { may = inl c.0; grows = grows_same (scopes t); covers = c.1 })
