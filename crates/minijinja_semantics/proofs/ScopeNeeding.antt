-- Targets, loops and scopes mention only what their ways need, and how a statement ends.
use Rattle.std.proofs.Common.{◌≡◌, ℕ, zero, suc, ◌⊎◌, inl, inr, ⊎_elim, List, [], ◌∷◌, Option, Some, None, Bool, true, false, length, refl, sym, ap, ◌∙◌, subst, arith}
use Rattle.minijinja_syntax.specs.Texts.{Text}
use Rattle.minijinja_value.specs.Values.{Functions}
use Rattle.minijinja_tree.specs.Tree.{Expr, variable, attribute, list, Optional, absent, present, Exprs, no_more, more, Parameter}
use Rattle.minijinja_tree.specs.WellFormed.{expr_count}
use Rattle.minijinja_tree.specs.FreeNames.{Way, end, stores, region, through, to_target, to_targets, to_assignments, to_filter, to_parameters}
use Rattle.minijinja_semantics.specs.Events.{StoreLocal, UnpackList, PushWith, PopFrame, PushLoop, PopLoopFrame, Iterate, Means, next, give, ask, event, tell, none_fits, item_fits, if_as_many}
use Rattle.minijinja_semantics.specs.Meaning.{Signal, On, Broke, Continued, if_on, assign, assign_each, assign_all, LoopTurn, with_item, turns, all_turns, keep_if, passing, store_arguments}
use Rattle.minijinja_semantics.specs.Needs.{Scope, loop_scope, scopes, scope_after, with_stored, without_first, IsStored, MentionsOnly}
use Rattle.minijinja_semantics.proofs.Covering.{Covered, covered_more, past_expr, past_any}
use Rattle.minijinja_semantics.proofs.Fits.{as_many_length}
use Rattle.minijinja_semantics.proofs.Mentioning.{Outside, Grows, grows_same, grows_on, HasScope, has_grows, Notes, Known, known_grows, covered_grows, MayEnd, Runs, From, from_ends, Leads, runs_next, runs_give, runs_from, runs_to, runs_at, runs_ask, runs_ask_for, leads_next, leads_give, leads_from, leads_to, leads_choose, leads_ask, leads_quiet}
use Rattle.minijinja_semantics.proofs.Needing.{needs_expr, needs_any}

-- where a name is stored, the same scopes are open
grows_stored : (x : Text) (s : List Scope) → HasScope s → Grows s (with_stored x s)
grows_stored x [] k = absurd k
grows_stored x (a ∷ o) k = (refl, refl, λ y c. (suc c.0, omega (arith, c.1), c.2))

-- it is stored then
is_stored : (x : Text) (s : List Scope) → HasScope s → IsStored x (with_stored x s)
is_stored x [] k = absurd k
is_stored x (a ∷ o) k = inl (zero, omega arith, refl)

module _ (out : Outside) where
  -- where a scope is opened inside of others, what is known stays known
  pub covered_inside : (a : Scope) (s : List Scope) (w : Way) → Covered (Known out s) w → Covered (Known out (a ∷ s)) w
  covered_inside a s w c = covered_more (Known out s) (Known out (a ∷ s)) w (λ y. ⊎_elim (λ k. inl (inr k)) (λ m. inr m)) c

  -- what is needed after a name is stored is known then
  covered_stored : (x : Text) (s : List Scope) (w : Way) → HasScope s → Covered (Known out s) (stores x w) → Covered (Known out (with_stored x s)) w
  covered_stored x s w k c = covered_more (λ y. Known out s y ⊎ (y ≡ x)) (Known out (with_stored x s)) w
      (λ y. ⊎_elim (known_grows out s (with_stored x s) (grows_stored x s k) y) (λ e. inl (subst (λ z. IsStored z (with_stored x s)) (sym e) (is_stored x s k)))) c

  -- these scopes are open, and only what may be mentioned was
  abbrev pub Open : {N C : Type 0} → List Scope → Notes N C → Type 0
  Open s t = MentionsOnly out.names None t × (scopes t ≡ s)

  -- one more scope is open inside of these
  abbrev pub Inside : {N C : Type 0} → List Scope → Way → Notes N C → Type 0
  Inside s w t = (a : Scope) × From out (a ∷ s) w t

  -- where the innermost scope is closed, what was open around it is left
  inner_left : (a : Scope) (s u : List Scope) → Grows (a ∷ s) u → without_first u ≡ s
  inner_left a s [] g = absurd g
  inner_left a s (b ∷ u) g = sym g.0

  pub inside_ends : {N C : Type 0} (s : List Scope) (a : Way) (t : Notes N C) → Inside s a t → MayEnd out t
  inside_ends s a t c = from_ends out (c.0 ∷ s) a t c.1

  pub open_ends : {N C : Type 0} (s : List Scope) (t : Notes N C) → Open s t → MayEnd out t
  open_ends s t c = (None, tt, c.0)

  inside_of : {N C : Type 0} (a : Scope) (s u : List Scope) (w : Way) (t : Notes N C) → u ≡ s → MentionsOnly out.names None t → scopes t ≡ a ∷ u → Covered (Known out (a ∷ s)) w → Inside s w t
  inside_of a s u w t e m o c = let is : scopes t ≡ a ∷ s = o ∙ ap (λ z. a ∷ z) e in (a, (m, subst (Grows (a ∷ s)) (sym is) (grows_same (a ∷ s)), subst (λ z. Covered (Known out z) w) (sym is) c))

  -- what is open at a record is open where a run begins there
  pub open_here : {N C : Type 0} (taken t : Notes N C) → MentionsOnly out.names None taken → t ≡ taken → Open (scopes taken) t
  open_here taken t m e = subst (Open (scopes taken)) (sym e) (m, refl)

  -- what was open before is open again
  pub open_again : {N C : Type 0} (s : List Scope) (b : Way) (taken t : Notes N C) → From out s b taken → Open (scopes taken) t → From out s b t
  open_again s b taken t c g = (g.0, subst (Grows s) (sym g.1) c.1, subst (λ u. Covered (Known out u) b) (sym g.1) c.2)

module _ {out : Outside} {N C F : Type 0} where
  -- a fact of what was given is known from then on
  pub runs_known : {X : Type 0} {P : Type 0} {p : Notes N C → Type 0} {m : Means N C F X} {q : X → Notes N C → Type 0} → (P → Runs out p m q) → Runs out (λ t. P × p t) m q
  runs_known h = record { runs = λ w c. (h c.0).runs w c.1 }

  -- a name is stored
  pub leads_store : (x : Text) (v : C) (b : Way) → Leads out {N = N} {F = F} (stores x b) (tell StoreLocal x (v ∷ [])) (λ u. b)
  leads_store x v b = leads_ask _ _ refl (λ t k c. record { may = tt; grows = grows_stored x (scopes t) k; covers = covered_stored out x (scopes t) b k c })

  -- what is stored in a region may stay stored, and the rest of the way does not count on it
  pub leads_region : {X : Type 0} {v b : Way} {m : Means N C F X} → Leads out v m (λ x. end) → Leads out (region v b) m (λ x. b)
  leads_region {v = v} {b} l = record {
    leads = λ s k. runs_at (λ taken c. runs_to
        (λ x t g. (g.0, grows_on s (scopes taken) (scopes t) c.1 g.1, covered_grows out (scopes taken) (scopes t) b g.1 c.2.1))
        (runs_from (λ t e. subst (From out (scopes taken) v) (sym e) (c.0, grows_same (scopes taken), c.2.0)) (l.leads (scopes taken) (has_grows s (scopes taken) c.1 k))));
  }

  -- what needs nothing after it can be done again
  pub leads_again : {X : Type 0} {a : Way} {m : Means N C F X} → Leads out a m (λ x. end) → Leads out a m (λ x. a)
  leads_again l = leads_from (λ s c. (c, c)) (leads_region l)

  -- a piece that leaves open what was open
  pub leads_back : {X : Type 0} {a : Way} {b : X → Way} {m : Means N C F X} → ((s : List Scope) → Covered (Known out s) a → Runs out (Open out s) m (λ x. Open out s)) → ((x : X) (s : List Scope) → Covered (Known out s) a → Covered (Known out s) (b x)) →
      Leads out a m b
  leads_back {a = a} {b} l h = record {
    leads = λ s k. runs_at (λ taken c. runs_to
        (λ x t. open_again out s (b x) taken t (c.0, c.1, h x (scopes taken) c.2))
        (runs_from (λ t. open_here out taken t c.0) (l (scopes taken) c.2)));
  }

  -- a piece that runs inside of these scopes
  pub runs_inside : {X : Type 0} (s : List Scope) {a : Way} {b : X → Way} {m : Means N C F X} → Leads out a m b → Runs out (Inside out s a) m (λ x. Inside out s (b x))
  runs_inside s {a} l = runs_at (λ taken c. runs_to (λ x t g. (c.0, g)) (runs_from (λ t e. subst (From out (c.0 ∷ s) a) (sym e) c.1) (l.leads (c.0 ∷ s) tt)))

  -- a scope is opened
  pub opens_with : (s : List Scope) (w : Way) → Covered (Known out s) w → Runs out {N = N} {C = C} {F = F} (Open out s) (tell PushWith [] []) (λ u. Inside out s w)
  opens_with s w c = runs_ask _ _ (record {
    before = open_ends out s;
    steps = λ t r o. inside_of out (scope_after t) s (scopes t) w ((event None PushWith [] [], r) ∷ t) o.1 (tt, o.0) refl (covered_inside out (scope_after t) s w c);
    behind = inside_ends out s w;
  })

  -- a loop is opened
  pub opens_loop : (s : List Scope) (w : Way) (place : Option N) (flags : ℕ) (vs : List C) → Covered (Known out (loop_scope flags ∷ s)) w → Runs out {F = F} (Open out s) (ask none_fits (event place (PushLoop flags) [] vs)) (λ u. Inside out s w)
  opens_loop s w place flags vs c = runs_ask _ _ (record {
    before = open_ends out s;
    steps = λ t r o. inside_of out (loop_scope flags) s (scopes t) w ((event place (PushLoop flags) [] vs, r) ∷ t) o.1 (tt, o.0) refl c;
    behind = inside_ends out s w;
  })

  -- a scope is closed
  pub closes_scope : (s : List Scope) (w : Way) → Runs out {N = N} {C = C} {F = F} (Inside out s w) (tell PopFrame [] []) (λ u. Open out s)
  closes_scope s w = runs_ask _ _ (record {
    before = inside_ends out s w;
    steps = λ t r c. ((tt, c.1.0), inner_left out c.0 s (scopes t) c.1.1);
    behind = open_ends out s;
  })

  -- a loop is closed
  pub closes_loop : (s : List Scope) (w : Way) → Runs out {N = N} {C = C} {F = F} (Inside out s w) (tell PopLoopFrame [] []) (λ u. Open out s)
  closes_loop s w = runs_ask _ _ (record {
    before = inside_ends out s w;
    steps = λ t r c. ((tt, c.1.0), inner_left out c.0 s (scopes t) c.1.1);
    behind = open_ends out s;
  })

  -- ---- the turns of a loop

  leads_item : {S : Type 0} (a : Way) (i : Option C) (turn : LoopTurn N C F S) (came : Bool) (x : S) (others : S → Means N C F (Bool × S)) → ((v : C) (x : S) → Leads out a (turn v x) (λ r. a)) → ((x : S) → Leads out a (others x) (λ r. a)) →
      Leads out a (with_item i turn came x others) (λ r. a)
  unfolding with_item
  leads_item a None turn came x others k o = leads_give _
  leads_item a (Some v) turn came x others k o = leads_next (k v x) (λ r. leads_choose r.0 (o r.1) (leads_give _))

  leads_turns : {S : Type 0} (a : Way) (n : ℕ) (turn : LoopTurn N C F S) (came : Bool) (x : S) → ((v : C) (x : S) → Leads out a (turn v x) (λ r. a)) → Leads out a (turns n turn came x) (λ r. a)
  unfolding turns
  leads_turns a zero turn came x k = record { leads = λ s some. record { runs = λ w c. from_ends out s a w.record_so_far c } }
  leads_turns a (suc n) turn came x k = leads_next (leads_quiet a item_fits (event None Iterate [] []) refl) (λ i. leads_item a i turn came x (turns n turn true) k (λ x. leads_turns a n turn true x k))

  pub leads_all_turns : {S : Type 0} (a : Way) (turn : LoopTurn N C F S) (came : Bool) (x : S) → ((v : C) (x : S) → Leads out a (turn v x) (λ r. a)) → Leads out a (all_turns turn came x) (λ r. a)
  unfolding all_turns
  leads_all_turns a turn came x k = record { leads = λ s some. record { runs = λ w c. ((leads_turns a (length w.answers) turn came x k).leads s some).runs w c } }

module _ (out : Outside) (N : Type 0) {C F : Type 0} (f : Functions C F) where
  -- ---- targets
  mutual
    -- a value goes where a target says
    pub needs_assign : (e : Expr C) (v : C) (b : Way) → Leads out {N = N} (to_target e b) (assign f e v) (λ u. b)
    needs_assign (variable x) v b = leads_store x v b
    needs_assign (attribute e x) v b = leads_next (needs_expr out N f e b) (λ u. leads_quiet b _ _ refl)
    needs_assign (list es) v b = record {
      leads = λ s k. runs_next
          (runs_ask_for (λ vs. length vs ≡ expr_count es) (if_as_many (expr_count es)) (event None (UnpackList (expr_count es)) [] (v ∷ [])) (λ vs us e. as_many_length (expr_count es) vs us e)
          (record { before = from_ends out s (to_targets es b); steps = λ t r c. ((tt, c.0), c.1, c.2); behind = from_ends out s (to_targets es b) }))
          (λ vs. runs_known (λ many. (needs_each es vs b many).leads s k));
    }
    needs_assign e v b = leads_from (λ s. past_expr (Known out s) e b) (leads_give _)

    -- each value to its target
    needs_each : (es : Exprs C) (vs : List C) (b : Way) → length vs ≡ expr_count es → Leads out {N = N} (to_targets es b) (assign_each f es vs) (λ u. b)
    needs_each no_more vs b many = leads_give _
    needs_each (more e es) [] b many = absurd (omega arith)
    needs_each (more e es) (v ∷ vs) b many = leads_next (needs_assign e v (to_targets es b)) (λ u. needs_each es vs b (omega arith))

  -- targets with their values
  pub needs_assignments : (ts : List (Expr C × Expr C)) (b : Way) → Leads out {N = N} (to_assignments ts b) (assign_all f ts) (λ u. b)
  needs_assignments [] b = leads_give _
  needs_assignments (a ∷ rest) b = leads_next (needs_expr out N f a.1 _) (λ v. leads_next (needs_assign a.0 v _) (λ u. needs_assignments rest b))

  -- ---- the filter of a loop

  needs_test : (target condition : Expr C) (v : C) (kept : List C) → Leads out {N = N} (to_target target (through condition end)) (keep_if f target condition v kept) (λ r. to_target target (through condition end))
  needs_test target condition v kept = leads_again (leads_next (needs_assign target v _) (λ u. leads_next (needs_expr out N f condition end) (λ u. leads_give _)))

  pub needs_filter : (target : Expr C) (only : Optional C) (v : C) (b : Way) → Leads out {N = N} (to_filter target only b) (passing f target only v) (λ u. b)
  needs_filter target absent v b = leads_give v
  needs_filter target (present condition) v b = leads_back
      (λ s c. runs_next (opens_loop s (to_target target (through condition end)) None 0 (v ∷ []) (covered_inside out (loop_scope 0) s (to_target target (through condition end)) c.0)) (λ u.
      runs_next (runs_inside s (leads_all_turns (to_target target (through condition end)) (keep_if f target condition) false [] (needs_test target condition))) (λ t.
      runs_next (closes_loop s (to_target target (through condition end))) (λ u. runs_give _))))
      (λ x s c. c.1)

  -- ---- arguments of a macro

  pub needs_parameters : (ps : List (Parameter C)) (vs : List C) (b : Way) → length vs ≡ length ps → Leads out {N = N} (to_parameters ps b) (store_arguments f ps vs) (λ u. b)
  needs_parameters [] vs b many = leads_give _
  needs_parameters (p ∷ ps) [] b many = absurd (omega arith)
  needs_parameters (p ∷ ps) (v ∷ vs) b many = leads_next
      (leads_next (leads_choose (f.is_undefined v) (needs_any out N f v p.default _) (leads_from (λ s. past_any (Known out s) p.default _) (leads_give v))) (λ u. needs_assign p.target u _))
      (λ u. needs_parameters ps vs b (omega arith))

-- ---- how a statement ends

-- the rest of the way, where a statement does not leave a loop's turn
abbrev pub if_goes_on : Signal → Way → Way
if_goes_on On w = w
if_goes_on Broke w = end
if_goes_on Continued w = end

-- what the rest of the way needs is known wherever it goes on
pub on_or_end : (P : Text → Type 0) (g : Signal) (w : Way) → Covered P w → Covered P (if_goes_on g w)
on_or_end P On w c = c
on_or_end P Broke w c = tt
on_or_end P Continued w c = tt

module _ {out : Outside} {N C F : Type 0} where
  -- what follows a statement
  pub leads_on : {a b : Way} (g : Signal) {m : Means N C F Signal} → Leads out a m (λ h. if_goes_on h b) → Leads out (if_goes_on g a) (if_on g m) (λ h. if_goes_on h b)
  unfolding if_on
  leads_on On l = l
  leads_on Broke l = leads_give Broke
  leads_on Continued l = leads_give Continued

  -- a piece after which the next statement follows
  pub leads_done : {X : Type 0} {a b : Way} {m : Means N C F X} → Leads out a m (λ x. b) → Leads out a (λ w. next (m w) (λ x. give On)) (λ g. if_goes_on g b)
  leads_done l = leads_next l (λ x. leads_give On)

  -- the body of a statement, and the rest of the way after it
  pub leads_body : {v b : Way} {m : Means N C F Signal} → Leads out v m (λ g. if_goes_on g end) → Leads out (region v b) m (λ g. b)
  leads_body l = leads_region (leads_to (λ g s c. tt) l)

  -- the body of a branch
  pub leads_branch : {v : Way} {m : Means N C F Signal} (b : Way) → Leads out v m (λ g. if_goes_on g end) → Leads out (region v b) m (λ g. if_goes_on g b)
  leads_branch b l = leads_to (λ g s. on_or_end (Known out s) g b) (leads_body l)
