-- In a list of fewer than 2 ^ 32 instructions nothing is capped.
use Rattle.std.proofs.Common.{◌≡◌, ℕ, ◌+◌, ◌<◌, ◌≤◌, ◌^◌, List, [], ◌∷◌, ◌++◌, length, map, Some, refl, sym, ap, ◌∙◌, arith, length-append}
use Rattle.std.proofs.lemmas.List.{length-map}
use Rattle.minijinja_value.specs.Values.{Functions}
use Rattle.minijinja_tree.specs.Tree.{Expr, Stmt}
use Rattle.minijinja_tree.specs.WellFormed.{IsWellFormed}
use Rattle.minijinja_semantics.specs.Code.{Instr, BuildMacro, Jump, JumpIfFalse, JumpIfFalseOrPop, JumpIfTrueOrPop, Iterate}
use Rattle.minijinja_semantics.specs.Jumps.{jump_target}
use Rattle.minijinja_semantics.specs.Layout as layout
use Rattle.minijinja_semantics.specs.Pieces.{Piece, outside}
use Rattle.minijinja_emitter.specs.internal.Making.{Made, here_of, capped, last_target, reach, Adds}
use Rattle.minijinja_code.specs.private.Statements.{stmt_piece}
use Rattle.minijinja_semantics.proofs.Leads.{AllLead, Leads, entry_of, expr_leads, root_leads, target_leads}
use Rattle.minijinja_semantics.proofs.Lengths.{Exact, exact_to, expr_exact, stmt_exact, target_exact}
use Rattle.minijinja_semantics.proofs.Runs.{stands_behind}

reach_within : (n : ℕ) → n ≤ last_target → reach n ≡ n
reach_within n le = omega arith

module _ {C : Type 0} where
  -- what names no place further on than the last one stands as it is
  capped_within : (i : Instr C) → ((l : ℕ) → jump_target i ≡ Some l → l ≤ last_target) → ((l : ℕ) → entry_of i ≡ Some l → l ≤ last_target) → capped i ≡ i
  capped_within (Jump n) h k = ap Jump (reach_within n (h n refl))
  capped_within (JumpIfFalse n) h k = ap JumpIfFalse (reach_within n (h n refl))
  capped_within (JumpIfFalseOrPop n) h k = ap JumpIfFalseOrPop (reach_within n (h n refl))
  capped_within (JumpIfTrueOrPop n) h k = ap JumpIfTrueOrPop (reach_within n (h n refl))
  capped_within (Iterate n) h k = ap Iterate (reach_within n (h n refl))
  capped_within (BuildMacro x n flags) h k = ap (λ m. BuildMacro x m flags) (reach_within n (k n refl))
  capped_within i h k = refl

  all_within : (code : List (Instr C)) (q : ℕ) (is : List (Instr C)) → length code < 2 ^ 32 → AllLead code q is → map capped is ≡ is
  all_within code q [] small h = refl
  all_within code q (i ∷ is) small h =
      let head = capped_within i (λ l e. let m = (h.0.leads l e).within in omega (arith, m)) (λ l e. let m = h.0.enters l e in omega (arith, m)) in
      ap (λ j. j ∷ map capped is) head ∙ ap (λ js. i ∷ js) (all_within code (q + 1) is small h.1)

  pub added_length : {a b : Made C} (p : Piece C) → Adds a b p → length b.code ≡ length (a.code ++ p.code (here_of a))
  added_length {a} {b} p s = ap length s.code ∙ length-append a.code (map capped (p.code (here_of a))) ∙ ap (λ n. length a.code + n) (length-map (p.code (here_of a)) capped) ∙ sym (length-append a.code (p.code (here_of a)))

  -- a piece that leads well, in such a list
  pub uncapped : {a b : Made C} (p : Piece C) → Exact p → ((code : List (Instr C)) → Leads code p) → Adds a b p → length b.code < 2 ^ 32 → b.code ≡ a.code ++ p.code (here_of a)
  uncapped {a} {b} p exact leads s small =
      let whole : List (Instr C) = a.code ++ p.code (here_of a) in
      let same : length b.code ≡ length whole = added_length p s in
      let ends = exact.ends (here_of a) in
      let end : (p.past (here_of a)).place ≤ length whole = omega (arith, ends, length-append a.code (p.code (here_of a))) in
      let all : AllLead whole (length a.code) (p.code (here_of a)) = (leads whole).leads (here_of a) end (stands_behind a.code (p.code (here_of a))) in
      s.code ∙ ap (λ is. a.code ++ is) (all_within whole (length a.code) (p.code (here_of a)) (omega (arith, same, small)) all)

module _ {C F : Type 0} (f : Functions C F) {a b : Made C} where
  pub expr_uncapped : (e : Expr C) → Adds a b (layout.expr f e) → length b.code < 2 ^ 32 → b.code ≡ a.code ++ (layout.expr f e).code (here_of a)
  expr_uncapped e s small = uncapped (layout.expr f e) (expr_exact f e) (λ code. expr_leads f code e) s small

  pub target_uncapped : (e : Expr C) → Adds a b (layout.target f e) → length b.code < 2 ^ 32 → b.code ≡ a.code ++ (layout.target f e).code (here_of a)
  target_uncapped e s small = uncapped (layout.target f e) (target_exact f e) (λ code. target_leads f code e) s small

  pub stmt_uncapped : {L : Type 0} (s : Stmt C L) → IsWellFormed s → Adds a b (stmt_piece f s) → length b.code < 2 ^ 32 → b.code ≡ a.code ++ (stmt_piece f s).code (here_of a)
  stmt_uncapped s well k small = uncapped (stmt_piece f s) (exact_to (stmt_exact f s []) outside) (λ code. record { leads = λ h le stand. (root_leads f code s well).leads outside h (λ is. absurd (cc)) le stand }) k small
