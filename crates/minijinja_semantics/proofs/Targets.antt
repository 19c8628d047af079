-- The code of assignments, and of chains of filters that wait for a value.
use Rattle.std.proofs.Common.{◌≡◌, ℕ, List, [], ◌∷◌, ◌++◌, length, None, refl, arith}
use Rattle.minijinja_value.specs.Values.{Functions}
use Rattle.minijinja_semantics.specs.Laws.{Laws}
use Rattle.minijinja_tree.specs.Tree.{Expr, variable, attribute, list, Optional, absent, present, Exprs, no_more, more}
use Rattle.minijinja_tree.specs.WellFormed.{expr_count, IsTarget, AreTargets, AreAssignments, IsChainIfAny}
use Rattle.minijinja_semantics.specs.Events as events
use Rattle.minijinja_semantics.specs.Events.{StoreLocal, SetAttr, if_as_many, event, take_apart}
use Rattle.minijinja_semantics.specs.Meaning.{assign, assign_each, assign_all, filtered}
use Rattle.minijinja_semantics.specs.Code.{Instr, UnpackList}
use Rattle.minijinja_semantics.specs.Pieces.{one}
use Rattle.minijinja_semantics.specs.Layout.{target, targets, assignments, filters}
use Rattle.minijinja_semantics.proofs.Fits.{as_many_length}
use Rattle.minijinja_semantics.proofs.Placed.{Stretch}
use Rattle.minijinja_semantics.proofs.Runs.{Any, first, asks}
use Rattle.minijinja_semantics.proofs.Lengths.{one_exact, then_exact, expr_exact, target_exact, targets_exact, assignments_exact}
use Rattle.minijinja_semantics.proofs.Parts.{Simulates, sim_then, sim_nothing, sim_do_tell}
use Rattle.minijinja_semantics.proofs.Simulation.{expr_sim, chain_of_filters_sim}

module _ {C F : Type 0} (f : Functions C F) (laws : Laws f) (code : List (Instr C)) (to : Stretch) where
  unpack_sim : (n : ℕ) (v : C) (ops : List C) → Simulates f code to (one (UnpackList n)) (v ∷ ops) (λ vs. length vs ≡ n) (λ vs. vs ++ ops) (take_apart n v)
  unpack_sim n v ops = record {
    gives = λ h ls w few le stand.
        asks f code to (λ vs. length vs ≡ n) (λ vs. vs ++ ops) (if_as_many n) (event None (events.UnpackList n) [] (v ∷ [])) (v ∷ ops) ls ls w (λ vs us _ e. as_many_length n vs us e) (omega arith) (first code stand) refl few;
  }

  mutual
    pub assign_sim : (e : Expr C) (v : C) (ops : List C) → IsTarget e → Simulates f code to (target f e) (v ∷ ops) Any (λ _. ops) (assign f e v)
    assign_sim (variable x) v ops is = sim_do_tell StoreLocal x (v ∷ []) ops refl
    assign_sim (attribute e x) v ops is = sim_then (expr_exact f e) (one_exact _) (expr_sim f laws code to e is (v ∷ ops)) (λ u _. sim_do_tell SetAttr x (v ∷ u ∷ []) ops refl)
    assign_sim (list es) v ops is = sim_then (one_exact _) (targets_exact f es) (unpack_sim (expr_count es) v ops) (λ vs many. assign_each_sim es vs ops is many)
    assign_sim e v ops is = absurd is

    assign_each_sim : (es : Exprs C) (vs ops : List C) → AreTargets es → length vs ≡ expr_count es → Simulates f code to (targets f es) (vs ++ ops) Any (λ _. ops) (assign_each f es vs)
    assign_each_sim no_more [] ops is many = sim_nothing tt tt
    assign_each_sim no_more (v ∷ vs) ops is many = absurd (omega arith)
    assign_each_sim (more e es) [] ops is many = absurd (omega arith)
    assign_each_sim (more e es) (v ∷ vs) ops is many = sim_then (target_exact f e) (targets_exact f es) (assign_sim e v (vs ++ ops) is.0) (λ _ _. assign_each_sim es vs ops is.1 (omega arith))

  pub assignments_sim : (ts : List (Expr C × Expr C)) (ops : List C) → AreAssignments ts → Simulates f code to (assignments f ts) ops Any (λ _. ops) (assign_all f ts)
  assignments_sim [] ops is = sim_nothing tt tt
  assignments_sim (a ∷ rest) ops is =
      sim_then (expr_exact f a.1) (then_exact (target_exact f a.0) (assignments_exact f rest)) (expr_sim f laws code to a.1 is.1 ops) λ v _.
      sim_then (target_exact f a.0) (assignments_exact f rest) (assign_sim a.0 v ops is.0) λ _ _.
      assignments_sim rest ops is.2

  pub filters_sim : (chain : Optional C) (v : C) (ops : List C) → IsChainIfAny chain → Simulates f code to (filters f chain) (v ∷ ops) Any (λ u. u ∷ ops) (filtered f chain v)
  filters_sim absent v ops is = sim_nothing v tt
  filters_sim (present chain) v ops is = chain_of_filters_sim f laws code to chain v ops is
