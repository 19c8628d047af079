-- Macros and templates mention only what they need from outside.
use Rattle.std.proofs.Common.{◌≡◌, inr, ⊎_elim, List, [], ◌∷◌, false, length, refl, sym, subst, zero, suc, arith}
use Rattle.std.specs.Prelude.{Contains, codes}
use Rattle.std.proofs.lemmas.List.Elements.{All-weaker, All-contains_itself}
use Rattle.minijinja_syntax.specs.Texts.{Text}
use Rattle.minijinja_value.specs.Values.{Functions}
use Rattle.minijinja_tree.specs.Tree.{Stmt, template, Stmts, Macro, macro, Parameter, parameters}
use Rattle.minijinja_tree.specs.WellFormed.{AreInner, IsRoot, IsMacro}
use Rattle.minijinja_tree.specs.FreeNames.{Way, end, stores, free, in_order, closure, to_parameters, through_stmt, through_stmts}
use Rattle.minijinja_semantics.specs.Events.{Event, Answer, Did, Gave, Ended, Means}
use Rattle.minijinja_semantics.specs.Correct.{fresh}
use Rattle.minijinja_semantics.specs.Meaning.{macro_run, stmt}
use Rattle.minijinja_semantics.specs.Needs.{bare_scope, NeedsOnly, made_in, made_in_all, undeclared, body_of, parameters_of, closure_of}
use Rattle.minijinja_semantics.proofs.Covering.{Covered, covered_more, covered_by, all_of_order}
use Rattle.minijinja_semantics.proofs.Mentioning.{Outside, Known, Comes, From, Leads, grows_same, leads_next}
use Rattle.minijinja_semantics.proofs.ScopeNeeding.{needs_parameters}
use Rattle.minijinja_semantics.proofs.StmtNeeding.{needs_stmt, needs_stmts}

-- names that are known from outside, and macros that may be being made where a run ends
abbrev outside : List Text → List Text → Outside
outside xs ms = record { names = xs; macros = ms }

-- what a way needs from outside covers the way, if it is known
covered_outside : (xs ms : List Text) (w : Way) → ((x : Text) → Contains (in_order (free w)) x → Contains xs x) → Covered (Known (outside xs ms) (bare_scope ∷ [])) w
covered_outside xs ms w h = covered_by (Known (outside xs ms) (bare_scope ∷ [])) w
    (all_of_order (Known (outside xs ms) (bare_scope ∷ [])) (free w)
    (All-weaker (Contains (in_order (free w))) (Known (outside xs ms) (bare_scope ∷ [])) (λ x c. inr (h x c)) (in_order (free w)) (All-contains_itself (in_order (free w)))))

-- a run that comes to what its way promises mentions only these names
needs_only : {N C F X : Type 0} (xs ms : List Text) (b : X → Way) (d : Did (Event N C) C F X) → Comes (outside xs ms) (λ x. From (outside xs ms) (bare_scope ∷ []) (b x)) d → NeedsOnly xs ms d
needs_only xs ms b (Gave w x) c = c.0
needs_only xs ms b (Ended w e) c = c

-- a run from the start
from_start : {N C F X : Type 0} (xs ms : List Text) {a : Way} {b : X → Way} {m : Means N C F X} → Leads (outside xs ms) a m b → Covered (Known (outside xs ms) (bare_scope ∷ [])) a → (answers : List (Answer C)) → NeedsOnly xs ms (m (fresh answers))
from_start xs ms {b = b} {m} l c answers = needs_only xs ms b (m (fresh answers)) ((l.leads (bare_scope ∷ []) tt).runs (fresh answers) (tt, grows_same (bare_scope ∷ []), c))

module _ (N : Type 0) {C F : Type 0} (f : Functions C F) where
  -- what a macro runs
  pub body_needs : (ps : List (Parameter C)) (body : Stmts C N) → AreInner false body → (values : List C) → length values ≡ length ps → (answers : List (Answer C)) → NeedsOnly (closure_of ps body) (made_in_all body) (macro_run f ps body values (fresh answers))
  body_needs ps body is values many answers =
      let out = outside (closure_of ps body) (made_in_all body) in
      from_start (closure_of ps body) (made_in_all body)
      (leads_next (needs_parameters out N f ps values (through_stmts body end) many) (λ u.
      needs_stmts out N f false body end is (All-contains_itself (made_in_all body))))
      (covered_outside (closure_of ps body) (made_in_all body) (to_parameters ps (through_stmts body end)) (λ y c. c))
      answers

  -- a macro that is called
  pub macro_needs : (m : Macro C N) → IsMacro m → (values : List C) → length values ≡ length (parameters_of m) → (answers : List (Answer C)) → NeedsOnly (closure m) (made_in_all (body_of m)) (macro_run f (parameters_of m) (body_of m) values (fresh answers))
  macro_needs (macro n x args defaults body) is = body_needs (parameters args defaults) body is.3

  -- a statement that needs these names
  stmt_needs : (xs : List Text) (t : Stmt C N) → IsRoot t → ((x : Text) → Contains (undeclared t) x → Contains xs x) → Contains xs (codes "self") → (answers : List (Answer C)) → NeedsOnly xs (made_in t) (stmt f t (fresh answers))
  stmt_needs xs (template ss) is h self answers = from_start xs (made_in_all ss)
      (needs_stmts (outside xs (made_in_all ss)) N f false ss end is (All-contains_itself (made_in_all ss)))
      (covered_more _ (Known (outside xs (made_in_all ss)) (bare_scope ∷ [])) (through_stmts ss end) (λ y. ⊎_elim (λ k. k) (λ e. inr (subst (Contains xs) (sym e) self))) (covered_outside xs (made_in_all ss) (stores (codes "self") (through_stmts ss end)) h))
      answers
  stmt_needs xs t is h self answers = from_start xs (made_in t)
      (needs_stmt (outside xs (made_in t)) N f false t end is (All-contains_itself (made_in t)))
      (covered_outside xs (made_in t) (through_stmt t end) h)
      answers

  -- a template
  pub template_needs : (t : Stmt C N) → IsRoot t → (answers : List (Answer C)) → NeedsOnly (codes "self" ∷ undeclared t) (made_in t) (stmt f t (fresh answers))
  template_needs t is = stmt_needs (codes "self" ∷ undeclared t) t is (λ x c. (suc c.0, omega (arith, c.1), c.2)) (zero, omega arith, refl)
