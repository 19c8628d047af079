-- Macros that are made, and calls that take one along, mention only what their ways need.
use Rattle.std.proofs.Common.{◌≡◌, ◌⊎◌, inl, inr, ⊎_elim, List, [], ◌∷◌, Some, None, sym, ap, subst}
use Rattle.std.specs.Prelude.{All, Contains, codes}
use Rattle.std.proofs.lemmas.List.Elements.{All-head, All-tail}
use Rattle.minijinja_syntax.specs.Texts.{Text}
use Rattle.minijinja_value.specs.Values.{Functions}
use Rattle.minijinja_tree.specs.Tree.{Expr, call, Args, Macro, macro, macro_name}
use Rattle.minijinja_tree.specs.FreeNames.{Way, end, stores, region, closure, through, through_positional, through_keyword, through_macro}
use Rattle.minijinja_semantics.specs.Events.{Kind, CallFunction, Lookup, Enclose, GetClosure, BuildMacro, event, one_fits}
use Rattle.minijinja_semantics.specs.Macros.{enclosed}
use Rattle.minijinja_semantics.specs.Meaning.{enclose, made, keyword_and_caller, call_with, nothing_yet}
use Rattle.minijinja_semantics.specs.Needs.{Scope, scopes, MayMention, making_before, MentionsOnly}
use Rattle.minijinja_semantics.proofs.Covering.{Covered, covered_more, past_positional, past_keyword, all_free, all_in_order, all_others}
use Rattle.minijinja_semantics.proofs.Mentioning.{Outside, Notes, Known, MayEnd, Runs, Leads, runs_next, runs_give, runs_from, runs_ask, leads_next, leads_give}
use Rattle.minijinja_semantics.proofs.Needing.{needs_expr, needs_base, needs_callee, needs_arguments, needs_positional, needs_keyword}
use Rattle.minijinja_semantics.proofs.ScopeNeeding.{Open, open_ends, leads_back}

-- what holds of each name that a macro needs, its caller aside, holds of those that it encloses
enclosed_needed : {C L : Type 0} (P : Text → Type 0) (m : Macro C L) → Covered P (stores (codes "caller") (through_macro m end)) → All P (enclosed m)
enclosed_needed P m c = all_others P (codes "caller") (closure m) (all_in_order (λ y. P y ⊎ (y ≡ codes "caller")) _ (all_free (λ y. P y ⊎ (y ≡ codes "caller")) (through_macro m end) c))

module _ (names : List Text) where
  -- an event that may be where no macro is being made may be where this one is
  begins_by : {N C : Type 0} (x : Text) (k : Kind) (t : Text) (s : List Scope) (taken : Notes N C) → MayMention names None k t s → (MentionsOnly names None taken → MentionsOnly names (Some x) taken) → MentionsOnly names (making_before k t None) taken → MayMention names (Some x) k t s × MentionsOnly names (making_before k t (Some x)) taken
  begins_by x Lookup t s taken m ih c = (m, c)
  begins_by x CallFunction t s taken m ih c = (m, c)
  begins_by x Enclose t s taken m ih c = (⊎_elim (λ k. inl k) (λ e. let e' : None ≡ Some t = e in absurd (cc)) m, ih c)
  begins_by x GetClosure t s taken m ih c = (tt, ih c)
  begins_by x (BuildMacro flags) t s taken m ih c = (tt, c)
  begins_by x _ t s taken m ih c = (tt, c)

  -- a macro may be begun at the end of any record
  begins : {N C : Type 0} (x : Text) (taken : Notes N C) → MentionsOnly names None taken → MentionsOnly names (Some x) taken
  begins x [] c = tt
  begins x (a ∷ taken) c = begins_by x a.0.kind a.0.text (scopes taken) taken c.0 (begins x taken) c.1

module _ (out : Outside) where
  -- these scopes are open, and this macro is being made
  abbrev Making : {N C : Type 0} → Text → List Scope → Notes N C → Type 0
  Making x s t = MentionsOnly out.names (Some x) t × (scopes t ≡ s)

  -- a macro may enclose what is known, and its own name
  abbrev MayEnclose : Text → List Scope → Text → Type 0
  MayEnclose x s y = Known out s y ⊎ (Some x ≡ Some y)

  making_ends : {N C : Type 0} (x : Text) (s : List Scope) → Contains out.macros x → (t : Notes N C) → Making x s t → MayEnd out t
  making_ends x s is t c = (Some x, is, c.0)

module _ {out : Outside} {N C F : Type 0} where
  -- names are enclosed
  needs_enclose : (x : Text) (s : List Scope) (xs : List Text) → Contains out.macros x → All (MayEnclose out x s) xs → Runs out {N = N} {C = C} {F = F} (Making out x s) (enclose xs) (λ u. Making out x s)
  needs_enclose x s [] is h = runs_give tt
  needs_enclose x s (y ∷ ys) is h = runs_next
      (runs_ask _ _ (record {
        before = making_ends out x s is;
        steps = λ t r c. ((subst (λ z. MayEnclose out x z y) (sym c.1) (All-head (MayEnclose out x s) y ys h), c.0), c.1);
        behind = making_ends out x s is;
      }))
      (λ u. needs_enclose x s ys is (All-tail (MayEnclose out x s) y ys h))

module _ (out : Outside) (N : Type 0) {C F : Type 0} (f : Functions C F) where
  -- a macro is made, and leaves open what was open
  needs_making : (m : Macro C N) (s : List Scope) → Contains out.macros (macro_name m) → All (MayEnclose out (macro_name m) s) (enclosed m) → Runs out (Open out s) (made f m) (λ v. Open out s)
  needs_making (macro n x args defaults body) s is h = runs_from (λ t c. (begins out.names x t c.0, c.1))
      (runs_next (needs_enclose x s (enclosed (macro n x args defaults body)) is h) (λ u.
      runs_next (runs_ask one_fits (event None GetClosure [] []) (record {
        before = making_ends out x s is;
        steps = λ t r c. ((tt, c.0), c.1);
        behind = making_ends out x s is;
      })) (λ closure.
      runs_ask one_fits _ (record {
        before = making_ends out x s is;
        steps = λ t r c. ((tt, c.0), c.1);
        behind = open_ends out s;
      }))))

  -- a macro that is made needs what it encloses
  needs_made : (m : Macro C N) (a b : Way) → Contains out.macros (macro_name m) → ((s : List Scope) → Covered (Known out s) a → Covered (λ y. MayEnclose out (macro_name m) s y) (stores (codes "caller") (through_macro m end))) →
      ((s : List Scope) → Covered (Known out s) a → Covered (Known out s) b) → Leads out a (made f m) (λ v. b)
  needs_made m a b is h k = leads_back (λ s c. needs_making m s is (enclosed_needed (MayEnclose out (macro_name m) s) m (h s c))) (λ v s c. k s c)

  -- the keyword arguments of a call, with the macro that it takes along
  needs_caller : (args : Args C) (m : Macro C N) (b : Way) → Contains out.macros (macro_name m) → Leads out (through_keyword args (region (stores (codes "caller") (through_macro m end)) b)) (keyword_and_caller f args m) (λ t. b)
  needs_caller args m b is = leads_next (needs_keyword out N f args nothing_yet _) (λ t.
      leads_next (needs_made m _ b is (λ s c. covered_more _ _ (through_macro m end) (λ y. ⊎_elim (λ k. inl (inl k)) (λ e. inr e)) c.0) (λ s c. c.1)) (λ v. leads_give _))

  -- a call that takes a macro along
  pub needs_call_with : (e : Expr C) (args : Args C) (m : Macro C N) (b : Way) → Contains out.macros (macro_name m) → Leads out (through (call e args) (region (stores (codes "caller") (through_macro m end)) b)) (call_with f e args m) (λ v. b)
  needs_call_with e args m b is = needs_callee out N f e (through_positional args (through_keyword args (region (stores (codes "caller") (through_macro m end)) b))) b (λ c. needs_expr out N f e c) (needs_base out N f e)
      (λ s c. (past_keyword (Known out s) args _ (past_positional (Known out s) args _ c)).1)
      (λ t. needs_arguments out N f _ _ b (needs_positional out N f args t _) (needs_caller args m b is))

  -- a macro that is stored under its own name
  pub needs_declare : (m : Macro C N) (b : Way) → Contains out.macros (macro_name m) → Leads out (stores (macro_name m) (region (stores (codes "caller") (through_macro m end)) b)) (made f m) (λ v. stores (macro_name m) b)
  needs_declare m b is = needs_made m _ (stores (macro_name m) b) is
      (λ s c. covered_more _ _ (through_macro m end) (λ y. ⊎_elim (⊎_elim (λ k. inl (inl k)) (λ e. inl (inr (ap Some (sym e))))) (λ e. inr e)) c.0)
      (λ s c. c.1)
