-- The code of imports from other templates.
use Rattle.std.proofs.Common.{◌≡◌, suc, List, [], ◌∷◌, length, refl, ap, arith}
use Rattle.std.specs.Prelude.{false}
use Rattle.minijinja_value.specs.Values.{Functions}
use Rattle.minijinja_semantics.specs.Laws.{Laws}
use Rattle.minijinja_tree.specs.Tree.{Expr, Optional, absent, present, stored_as}
use Rattle.minijinja_tree.specs.WellFormed.{IsWhole, IsTarget, IsVariable, IsVariableIfAny, AreNames}
use Rattle.minijinja_semantics.specs.Events.{BeginCapture, EndCapture, CaptureMode, Include, PushWith, PopFrame, ExportLocals, Capture, Discard, give}
use Rattle.minijinja_semantics.specs.Meaning.{On, look_up, store_back, within as within_meaning, stmt as stmt_meaning}
use Rattle.minijinja_tree.specs.Tree as tree
use Rattle.minijinja_semantics.specs.Code.{Instr, Do, DiscardTop}
use Rattle.minijinja_semantics.specs.Pieces.{one, ◌▸◌}
use Rattle.minijinja_semantics.specs.Layout.{target, looking_up, storing_back, within}
use Rattle.minijinja_semantics.specs.Machine.{pushed}
use Rattle.minijinja_semantics.proofs.Placed.{Stretch}
use Rattle.minijinja_semantics.proofs.Runs.{Any}
use Rattle.minijinja_semantics.proofs.Lengths.{one_exact, then_exact, expr_exact, target_exact, looking_up_exact, storing_back_exact, within_exact}
use Rattle.minijinja_semantics.proofs.Parts.{Simulates, sim_then, sim_before, sim_give, sim_nothing, sim_plain, sim_do_get, sim_do_tell}
use Rattle.minijinja_semantics.proofs.Simulation.{expr_sim}
use Rattle.minijinja_semantics.proofs.Targets.{assign_sim}
use Rattle.minijinja_semantics.proofs.MacroSimulation.{variable_target, variable_whole}
use Rattle.minijinja_semantics.proofs.Signals.{GoesOn}

stored_target : {C : Type 0} (n : Expr C × Optional C) → IsVariable n.0 → IsVariableIfAny n.1 → IsTarget (stored_as n)
stored_target (e, absent) is any = variable_target e is
stored_target (e, present alias) is any = variable_target alias any

module _ {C F : Type 0} (f : Functions C F) (laws : Laws f) (code : List (Instr C)) (to : Stretch) where
  within_sim : (mode : CaptureMode) (e : Expr C) → IsWhole e → (ops : List C) → Simulates f code to (within f mode e) ops Any (λ _. ops) (within_meaning f mode e)
  within_sim mode e is ops =
      let asked = then_exact (expr_exact f e) (one_exact (Do (Include false) [] 1)) in
      sim_then (one_exact _) (then_exact (one_exact _) asked) (sim_do_tell (BeginCapture mode) [] [] ops refl) λ _ _.
      sim_then (one_exact _) asked (sim_do_tell PushWith [] [] ops refl) λ _ _.
      sim_then (expr_exact f e) (one_exact _) (expr_sim f laws code to e is ops) λ v _.
      sim_do_tell (Include false) [] (v ∷ []) ops refl

  -- what was captured is dropped
  dropped_sim : (v : C) (ops : List C) → Simulates f code to (one DiscardTop) (v ∷ ops) Any (λ _. ops) (give {X = Unit {0}} tt)
  dropped_sim v ops = sim_plain tt (λ p ls w. refl) tt

  pub import_all_sim : (e t : Expr C) → IsWhole e → IsTarget t → (ops : List C) → Simulates f code to (within f Capture e ▸ one (Do EndCapture [] 0) ▸ one DiscardTop ▸ one (Do ExportLocals [] 0) ▸ one (Do PopFrame [] 0) ▸ target f t) ops GoesOn (λ _. ops) (stmt_meaning f (tree.import_all e t))
  import_all_sim e t is may ops =
      let x4 = then_exact (one_exact (Do PopFrame [] 0)) (target_exact f t) in
      let x3 = then_exact (one_exact (Do ExportLocals [] 0)) x4 in
      let x2 = then_exact (one_exact DiscardTop) x3 in
      sim_then (within_exact f Capture e) (then_exact (one_exact _) x2) (within_sim Capture e is ops) λ _ _.
      sim_then (one_exact _) x2 (sim_do_get EndCapture [] [] ops refl) λ v _.
      sim_before (one_exact _) x3 (dropped_sim v ops)
      (sim_then (one_exact _) x4 (sim_do_get ExportLocals [] [] ops refl) λ u _.
      sim_then (one_exact _) (target_exact f t) (sim_do_tell PopFrame [] [] (u ∷ ops) refl) λ _ _.
      sim_give (λ _. On) (λ _ _. refl) (assign_sim f laws code to t u ops may))

  looking_up_sim : (ns : List (Expr C × Optional C)) → AreNames ns → (ops : List C) → Simulates f code to (looking_up f ns) ops (λ vs. length vs ≡ length ns) (λ vs. pushed vs ops) (look_up f ns)
  looking_up_sim [] is ops = sim_nothing [] refl
  looking_up_sim (n ∷ ns) is ops =
      sim_then (expr_exact f n.0) (looking_up_exact f ns) (expr_sim f laws code to n.0 (variable_whole n.0 is.0) ops) λ v _.
      sim_give (λ vs. v ∷ vs) (λ vs many. ap suc many) (looking_up_sim ns is.2 (v ∷ ops))

  storing_back_sim : (ns : List (Expr C × Optional C)) (vs : List C) → AreNames ns → length vs ≡ length ns → (ops : List C) → Simulates f code to (storing_back f ns) (pushed vs ops) Any (λ _. ops) (store_back f ns vs)
  storing_back_sim [] [] is many ops = sim_nothing tt tt
  storing_back_sim [] (v ∷ vs) is many ops = absurd (omega arith)
  storing_back_sim (n ∷ ns) [] is many ops = absurd (omega arith)
  storing_back_sim (n ∷ ns) (v ∷ vs) is many ops =
      sim_then (storing_back_exact f ns) (target_exact f (stored_as n)) (storing_back_sim ns vs is.2 (omega arith) (v ∷ ops)) λ _ _.
      assign_sim f laws code to (stored_as n) v ops (stored_target n is.0 is.1)

  pub from_import_sim : (e : Expr C) (ns : List (Expr C × Optional C)) → IsWhole e → AreNames ns → (ops : List C) → Simulates f code to (within f Discard e ▸ looking_up f ns ▸ one (Do PopFrame [] 0) ▸ storing_back f ns ▸ one (Do EndCapture [] 0) ▸ one DiscardTop) ops GoesOn (λ _. ops) (stmt_meaning f (tree.from_import e ns))
  from_import_sim e ns is are ops =
      let x4 = then_exact (one_exact (Do EndCapture [] 0)) (one_exact DiscardTop) in
      let x3 = then_exact (storing_back_exact f ns) x4 in
      let x2 = then_exact (one_exact (Do PopFrame [] 0)) x3 in
      sim_then (within_exact f Discard e) (then_exact (looking_up_exact f ns) x2) (within_sim Discard e is ops) λ _ _.
      sim_then (looking_up_exact f ns) x2 (looking_up_sim ns are ops) λ vs many.
      sim_then (one_exact _) x3 (sim_do_tell PopFrame [] [] (pushed vs ops) refl) λ _ _.
      sim_then (storing_back_exact f ns) x4 (storing_back_sim ns vs are many ops) λ _ _.
      sim_then (one_exact _) (one_exact _) (sim_do_get EndCapture [] [] ops refl) λ v _.
      sim_plain On (λ p ls w. refl) refl
