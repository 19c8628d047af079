-- Imports mention only what their ways need.
use Rattle.std.proofs.Common.{◌≡◌, suc, inr, List, [], ◌∷◌, None, Bool, false, length, refl, sym, ap, subst, arith}
use Rattle.minijinja_value.specs.Values.{Functions}
use Rattle.minijinja_tree.specs.Tree.{Expr, variable, Optional, import_all, from_import, stored_as}
use Rattle.minijinja_tree.specs.WellFormed.{AreNames}
use Rattle.minijinja_tree.specs.FreeNames.{Way, through, to_target, to_names}
use Rattle.minijinja_semantics.specs.Events.{Include, Lookup, PushWith, PopFrame, BeginCapture, EndCapture, Capture, Discard, ExportLocals, event, tell, none_fits, one_fits}
use Rattle.minijinja_semantics.specs.Meaning.{within, look_up, store_back, stmt}
use Rattle.minijinja_semantics.specs.Needs.{Import, NoImport, Begun, Loaded, Scope, loaded, scopes, scope_after, with_loaded, without_first, IsImporting, MentionsOnly}
use Rattle.minijinja_semantics.proofs.Covering.{Covered, past_expr}
use Rattle.minijinja_semantics.proofs.Mentioning.{Outside, Grows, grows_same, Notes, Known, covered_grows, MayEnd, Runs, From, from_ends, Leads, runs_next, runs_give, runs_from, runs_at, runs_ask, leads_next, leads_give, leads_ask, leads_get}
use Rattle.minijinja_semantics.proofs.Needing.{needs_expr}
use Rattle.minijinja_semantics.proofs.ScopeNeeding.{Open, Inside, open_ends, covered_inside, open_here, open_again, runs_known, runs_inside, opens_with, closes_scope, needs_assign, if_goes_on, leads_done}

-- the scope of a from import whose template is not loaded yet
abbrev begun_scope : Scope
begun_scope = record { stored = []; import = Begun }

loaded_twice : (i : Import) → loaded i ≡ loaded (loaded i)
loaded_twice NoImport = refl
loaded_twice Begun = refl
loaded_twice Loaded = refl

module _ (out : Outside) (N : Type 0) {C F : Type 0} (f : Functions C F) where
  -- inside of these scopes a from import looks names up in its template
  abbrev Imports : List Scope → Notes N C → Type 0
  Imports s t = MentionsOnly out.names None t × ((a : Scope) × (scopes t ≡ a ∷ s) × (a.import ≡ Loaded))

  imports_ends : (s : List Scope) (t : Notes N C) → Imports s t → MayEnd out t
  imports_ends s t c = (None, tt, c.0)

  importing : (s : List Scope) (u : List Scope) → ((a : Scope) × (u ≡ a ∷ s) × (a.import ≡ Loaded)) → IsImporting u
  importing s u c = subst IsImporting (sym c.1) c.2

  -- the names are looked up, a value for each
  needs_look_up : (s : List Scope) (ns : List (Expr C × Optional C)) → AreNames ns → Runs out {N = N} (Imports s) (look_up f ns) (λ vs t. (length vs ≡ length ns) × Imports s t)
  needs_look_up s [] is = runs_from (λ t c. (refl, c)) (runs_give [])
  needs_look_up s ((variable x, alias) ∷ ns) is = runs_next
      (runs_ask one_fits (event None Lookup x []) (record {
        before = imports_ends s;
        steps = λ t r c. ((inr (importing s (scopes t) c.1), c.0), c.1);
        behind = imports_ends s;
      }))
      (λ v. runs_next (needs_look_up s ns is.2) (λ vs. runs_from (λ t c. (ap suc c.0, c.1)) (runs_give (v ∷ vs))))
  needs_look_up s ((e, alias) ∷ ns) is = absurd is.0

  -- each value is stored, the last one first
  needs_store_back : (ns : List (Expr C × Optional C)) (vs : List C) (b : Way) → length vs ≡ length ns → Leads out {N = N} (to_names ns b) (store_back f ns vs) (λ u. b)
  needs_store_back [] vs b many = leads_give tt
  needs_store_back (n ∷ ns) [] b many = absurd (omega arith)
  needs_store_back (n ∷ ns) (v ∷ vs) b many = leads_next (needs_store_back ns vs _ (omega arith)) (λ u. needs_assign out N f (stored_as n) v b)

  -- these scopes are open, and a from import has begun to drop what is written
  abbrev Begins : List Scope → Notes N C → Type 0
  Begins s t = MentionsOnly out.names None t × (scopes t ≡ s) × (scope_after t ≡ begun_scope)

  begins_ends : (s : List Scope) (t : Notes N C) → Begins s t → MayEnd out t
  begins_ends s t c = (None, tt, c.0)

  -- what is written is dropped
  drops : (s : List Scope) → Runs out {N = N} {C = C} {F = F} (Open out s) (tell (BeginCapture Discard) [] []) (λ u. Begins s)
  drops s = runs_ask none_fits _ (record { before = open_ends out s; steps = λ t r c. ((tt, c.0), c.1, refl); behind = begins_ends s })

  -- the scope of a from import is opened
  opens_import : (s : List Scope) (w : Way) → Covered (Known out s) w → Runs out {N = N} {C = C} {F = F} (Begins s) (tell PushWith [] []) (λ u. From out (begun_scope ∷ s) w)
  opens_import s w c = runs_ask none_fits _ (record {
    before = begins_ends s;
    steps = λ t r o. let is : scope_after t ∷ scopes t ≡ begun_scope ∷ s = cc in (
      (tt, o.0),
      subst (Grows (begun_scope ∷ s)) (sym is) (grows_same (begun_scope ∷ s)),
      subst (λ u. Covered (Known out u) w) (sym is) (covered_inside out begun_scope s w c),
    );
    behind = from_ends out (begun_scope ∷ s) w;
  })

  -- a template that is loaded is that of the from import
  loads : (s u : List Scope) → Grows (begun_scope ∷ s) u → (b : Scope) × (with_loaded u ≡ b ∷ s) × (b.import ≡ Loaded)
  loads s [] g = absurd g
  loads s (b ∷ u) g = (record b { import = loaded b.import }, ap (λ z. record b { import = loaded b.import } ∷ z) (sym g.0), sym g.1)

  -- the template of a from import is loaded
  loads_import : (s : List Scope) (w : Way) (v : C) → Runs out {N = N} {C = C} {F = F} (From out (begun_scope ∷ s) w) (tell (Include false) [] (v ∷ [])) (λ u. Imports s)
  loads_import s w v = runs_ask none_fits _ (record {
    before = from_ends out (begun_scope ∷ s) w;
    steps = λ t r c. ((tt, c.0), loads s (scopes t) c.1);
    behind = imports_ends s;
  })

  -- the scope of a from import is closed
  closes_import : (s : List Scope) → Runs out {N = N} {C = C} {F = F} (Imports s) (tell PopFrame [] []) (λ u. Open out s)
  closes_import s = runs_ask none_fits _ (record {
    before = imports_ends s;
    steps = λ t r c. ((tt, c.0), ap without_first c.1.1);
    behind = open_ends out s;
  })

  -- a from import up to where it looks names up
  loads_names : (e : Expr C) (s : List Scope) (b : Way) → Covered (Known out s) (through e b) → Runs out {N = N} (Open out s) (within f Discard e) (λ u. Imports s)
  loads_names e s b c = runs_next (drops s) (λ u. runs_next (opens_import s (through e b) c) (λ u. runs_next ((needs_expr out N f e b).leads (begun_scope ∷ s) tt) (λ v. loads_import s b v)))

  grows_loaded : (s : List Scope) → Grows s (with_loaded s)
  grows_loaded [] = refl
  grows_loaded (a ∷ s) = (refl, loaded_twice a.import, λ x c. c)

  -- a template is loaded
  pub leads_include : (ignore : Bool) (v : C) (b : Way) → Leads out {N = N} {F = F} b (tell (Include ignore) [] (v ∷ [])) (λ u. b)
  leads_include ignore v b = leads_ask none_fits _ refl (λ t k c. record { may = tt; grows = grows_loaded (scopes t); covers = covered_grows out (scopes t) (with_loaded (scopes t)) b (grows_loaded (scopes t)) c })

  -- an import of a template as a whole, up to where its names are exported
  loads_all : (e : Expr C) (s : List Scope) (b : Way) → Covered (Known out s) (through e b) → Runs out {N = N} (Open out s) (within f Capture e) (λ u. Inside out s b)
  loads_all e s b c = runs_next
      (runs_ask none_fits (event None (BeginCapture Capture) [] []) (record { before = open_ends out s; steps = λ t r c. ((tt, c.0), c.1); behind = open_ends out s }))
      (λ u. runs_next (opens_with s (through e b) c) (λ u. runs_next (runs_inside s (needs_expr out N f e b)) (λ v. runs_inside s (leads_include false v b))))

  pub needs_import_all : (e target : Expr C) (b : Way) → Leads out {N = N} (through e (to_target target b)) (stmt f (import_all e target)) (λ g. if_goes_on g b)
  needs_import_all e target b = record {
    leads = λ s k. runs_at (λ taken c. let around : List Scope = scopes taken in let way : Way = to_target target b in
        runs_next (runs_from (λ t. open_here out taken t c.0) (loads_all e around way c.2)) (λ u.
        runs_next (runs_inside around (leads_get way EndCapture [] [] refl)) (λ u.
        runs_next (runs_inside around (leads_get way ExportLocals [] [] refl)) (λ u.
        runs_next (closes_scope around way) (λ v.
        runs_from (λ t. open_again out s way taken t (c.0, c.1, past_expr (Known out around) e way c.2)) ((leads_done (needs_assign out N f target u b)).leads s k))))));
  }

  pub needs_from_import : (e : Expr C) (ns : List (Expr C × Optional C)) (b : Way) → AreNames ns → Leads out {N = N} (through e (to_names ns b)) (stmt f (from_import e ns)) (λ g. if_goes_on g b)
  needs_from_import e ns b are = record {
    leads = λ s k. runs_at (λ taken c. let around : List Scope = scopes taken in let way : Way = to_names ns b in
        runs_next (runs_from (λ t. open_here out taken t c.0) (loads_names e around way c.2)) (λ u.
        runs_next (needs_look_up around ns are) (λ vs. runs_known (λ many.
        runs_next (closes_import around) (λ v.
        runs_from (λ t. open_again out s way taken t (c.0, c.1, past_expr (Known out around) e way c.2))
        ((leads_next (needs_store_back ns vs b many) (λ u. leads_done (leads_get b EndCapture [] [] refl))).leads s k))))));
  }
