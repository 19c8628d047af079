-- The bound in a loop's definition, the number of answers left, is never reached.
use Rattle.std.proofs.Common.{◌≡◌, ℕ, zero, suc, ◌<◌, ◌≤◌, List, [], ◌∷◌, length, None, refl, sym, ◌∙◌, arith}
use Rattle.std.specs.Prelude.{Bool, true, false}
use Rattle.minijinja_value.specs.Values.{Functions}
use Rattle.minijinja_tree.specs.Tree.{Expr, Stmts}
use Rattle.minijinja_semantics.specs.Events.{Event, Answer, Fault, Values, World, Iterate, Did, Gave, Ended, Means, next, give, choose, fitted, answered, ask, item_fits, event}
use Rattle.minijinja_semantics.specs.Meaning.{LoopTurn, with_item, turns, all_turns, HasNoBound, keep_if, do_body, stmts}
use Rattle.minijinja_semantics.proofs.Balance.{answers_left, Keeps, keep_if_keeps, do_body_keeps, stmts_keep}

module _ {N C F S : Type 0} (turn : LoopTurn N C F S) (keeps : (v : C) (s : S) → Keeps (turn v s)) where
  -- the others make no difference where they do the same
  chosen : (goes : Bool) (r : S) (o o' : S → Means N C F (Bool × S)) (w : World (Event N C) C) → o r w ≡ o' r w → choose goes (o r) (give (true, r)) w ≡ choose goes (o' r) (give (true, r)) w
  unfolding choose
  chosen true r o o' w same = same
  chosen false r o o' w same = refl

  after_turn : (m : Did (Event N C) C F (Bool × S)) (o o' : S → Means N C F (Bool × S)) (k : ℕ) → length (answers_left m) ≤ k → ((s : S) (w : World (Event N C) C) → length w.answers ≤ k → o s w ≡ o' s w) → next m (λ r. choose r.0 (o r.1) (give (true, r.1))) ≡ next m (λ r. choose r.0 (o' r.1) (give (true, r.1)))
  unfolding next
  after_turn (Gave w r) o o' k le same = chosen r.0 r.1 o o' w (same r.1 w le)
  after_turn (Ended w e) o o' k le same = refl

  -- the world before the question for an item
  abbrev world : List (Event N C × Answer C) → List (Answer C) → World (Event N C) C
  world taken answers = record { record_so_far = taken; answers = answers }

  first_turn : (came : Bool) (s : S) (taken : List (Event N C × Answer C)) (answers : List (Answer C)) (o o' : S → Means N C F (Bool × S)) → ((s : S) (w : World (Event N C) C) → length w.answers < length answers → o s w ≡ o' s w) → next (ask item_fits (event None Iterate [] []) (world taken answers)) (λ i. with_item i turn came s o) ≡ next (ask item_fits (event None Iterate [] []) (world taken answers)) (λ i. with_item i turn came s o')
  unfolding next with_item ask answered fitted
  first_turn came s taken [] o o' same = refl
  first_turn came s taken (Fault ∷ answers) o o' same = refl
  first_turn came s taken (Values [] ∷ answers) o o' same = refl
  first_turn came s taken (Values (v ∷ []) ∷ answers) o o' same =
      let w = world ((event None Iterate [] [], Values (v ∷ [])) ∷ taken) answers in
      after_turn (turn v s w) o o' (length answers) ((keeps v s).fewer w) (λ s' w' le. same s' w' (omega arith))
  first_turn came s taken (Values (v ∷ u ∷ vs) ∷ answers) o o' same = refl

  starved : (n : ℕ) (came : Bool) (s : S) (taken : List (Event N C × Answer C)) (answers : List (Answer C)) → length answers ≤ 0 → turns zero turn came s (world taken answers) ≡ turns (suc n) turn came s (world taken answers)
  unfolding turns next ask answered
  starved n came s taken [] le = refl
  starved n came s taken (a ∷ answers) le = absurd (omega arith)

  turns_same : (n m : ℕ) (came : Bool) (s : S) (taken : List (Event N C × Answer C)) (answers : List (Answer C)) → length answers ≤ n → length answers ≤ m → turns n turn came s (world taken answers) ≡ turns m turn came s (world taken answers)
  unfolding turns
  turns_same zero zero came s taken answers le le' = refl
  turns_same zero (suc m) came s taken answers le le' = starved m came s taken answers le
  turns_same (suc n) zero came s taken answers le le' = sym (starved n came s taken answers le')
  turns_same (suc n) (suc m) came s taken answers le le' =
      first_turn came s taken answers (turns n turn true) (turns m turn true) (λ s' w lt. turns_same n m true s' w.record_so_far w.answers (omega arith) (omega arith))

  pub no_bound : HasNoBound turn
  unfolding all_turns turns
  no_bound came s w =
      turns_same (length w.answers) (suc (length w.answers)) came s w.record_so_far w.answers (omega arith) (omega arith)
      ∙ first_turn came s w.record_so_far w.answers (turns (length w.answers) turn true) (all_turns turn true) (λ s' w' lt. turns_same (length w.answers) (length w'.answers) true s' w'.record_so_far w'.answers (omega arith) (omega arith))

-- neither the turns of a tree's loop nor those of its filter pass have one
pub body_has_no_bound : {C F : Type 0} (N : Type 0) (f : Functions C F) (target : Expr C) (body : Stmts C N) → HasNoBound {N = N} (do_body f target (stmts f body))
body_has_no_bound N f target body = no_bound (do_body f target (stmts f body)) (do_body_keeps N f target (stmts_keep N f body))

pub filter_has_no_bound : {C F : Type 0} (N : Type 0) (f : Functions C F) (target condition : Expr C) → HasNoBound {N = N} (keep_if f target condition)
filter_has_no_bound N f target condition = no_bound (keep_if f target condition) (keep_if_keeps N f target condition)
