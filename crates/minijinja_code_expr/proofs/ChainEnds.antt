-- The end of a chain of comparisons.
use Rattle.std.proofs.Common.{◌≡◌, ℕ, ◌≤◌, List, [], ◌∷◌, ◌++◌, length, take, drop, Option, Some, None, Result, Ok, Err, OnOk, true, false, refl, sym, ap, ◌∙◌, subst}
use Rattle.std.specs.Prelude.{Bool, is_some}
use Rattle.std.proofs.lemmas.List.{at_drop_all}
use Rattle.minijinja_value.specs.Values.{Functions}
use Rattle.minijinja_tree.specs.Folding.{if_some, fold, fold_chain}
use Rattle.minijinja_tree.specs.Tree.{Expr, compare}
use Rattle.minijinja_tree.specs.Erasure.{expr_tree, compare_op, compare_tree, comparisons_of}
use Rattle.minijinja_tree.specs.WellFormed.{IsWhole, IsChain}
use Rattle.minijinja_tree_expr.specs.declared.ast.Compare.{Compare, out-Compare}
use Rattle.minijinja_tree_expr.specs.declared.ast.CompareOp.{CompareOp as Comparison}
use Rattle.minijinja_tree_expr.proofs.SpannedNodes.{compare_is}
use Rattle.minijinja_semantics.specs.Code.{Instr, Load}
use Rattle.minijinja_semantics.specs.Layout.{comparisons, expr}
use Rattle.minijinja_code_expr.specs.internal.Leading.{After, Finishes}
use Rattle.minijinja_emitter.specs.internal.Making.{Made, Adds}
use Rattle.minijinja_code_expr.specs.private.Comparing.{operand_then, after_one, ahead, Closes, Holds}
use Rattle.minijinja_semantics.proofs.FoldedCode.{folded_none}
use Rattle.minijinja_emitter.proofs.Adding.{adds_as}
use Rattle.minijinja_code_expr.proofs.ChainCode.{leads_closes, adds_chain}
use Rattle.minijinja_code_expr.proofs.ChainFolds.{no_constant}
use Rattle.minijinja_code_expr.proofs.ChainTurns.{Turning, Turn, Answers, turn_fails, adds_folded}

-- what follows where there is no error
then_ok : {X E P Q : Type 0} (r : Result X E) → (P → Q) → OnOk r P → OnOk r Q
then_ok (Ok x) h p = h p
then_ok (Err e) h p = p

module _ {C : Type 0} where
  is_known : (code : List (Instr C)) (held : Option ℕ) (k : Option C) → Holds code held k → is_some held ≡ true → (v : C) × (k ≡ Some v)
  is_known code None k h some = absurd (cc)
  is_known code (Some p) None h some = absurd h
  is_known code (Some p) (Some v) h some = (v, refl)

  not_known : (code : List (Instr C)) (held : Option ℕ) (k : Option C) → Holds code held k → is_some held ≡ false → k ≡ None
  not_known code None k h none = no_constant code k h
  not_known code (Some p) k h none = absurd (cc)

module _ {V K C F : Type 0} (f : Functions C F) (c : V → C) where
  -- the parts of a whole chain
  pub whole_parts : (q : Compare V K) → IsWhole (compare_tree c q) → IsWhole (compare (expr_tree c (out-Compare V K q).expr) (comparisons_of c (out-Compare V K q).ops.items))
  whole_parts q h = subst IsWhole (compare_is c q) h

  -- what holds of its parts holds of the chain
  finishes_whole : {start : ℕ} {old new : Made C} (q : Compare V K) → Finishes f (compare (expr_tree c (out-Compare V K q).expr) (comparisons_of c (out-Compare V K q).ops.items)) start old new → Finishes f (compare_tree c q) start old new
  finishes_whole {start} {old} {new} q h = subst (λ e. Finishes f e start old new) (sym (compare_is c q)) h

  closes_chain : {a b : Made C} (e : Expr C) (xs : List (Comparison V K)) → IsChain (comparisons_of c xs) → fold f (compare e (comparisons_of c xs)) ≡ None → Closes a [] (operand_then (expr f e) (after_one f (comparisons_of c xs))) b → Adds a b (expr f (compare e (comparisons_of c xs)))
  closes_chain e [] h none k = absurd h
  closes_chain e (x ∷ xs) h none k = adds_as (sym (folded_none _ none)) (adds_chain (expr f e) (expr f (expr_tree c x.expr)) (comparisons f (compare_op x.op) (comparisons_of c xs)) k)

  module _ {old m : Made C} {e : Expr C} {xs : List (Comparison V K)} {start n : ℕ} {ps : List ℕ} {held : Option ℕ} (t : Turning f c old e xs start n m ps held) where
    -- a chain of which all comparisons hold is true
    pub end_true : length xs ≤ n → is_some held ≡ true → (a : Made C) → After (expr f e) start a old → fold f (compare e (comparisons_of c xs)) ≡ Some (f.of_bool true)
    unfolding if_some fold_chain
    end_true past some a r =
        let u = t.underway a r in
        let v = is_known m.code held t.value t.holds some in
        u.folds ∙ ap (λ k. if_some k (λ v. fold_chain f v (comparisons_of c (drop n xs)))) v.1 ∙ at_drop_all (λ ys. fold_chain f v.0 (comparisons_of c ys)) xs n past

    -- and one with an operand that is not known folds to nothing
    pub end_unknown : is_some held ≡ false → (a : Made C) → After (expr f e) start a old → fold f (compare e (comparisons_of c xs)) ≡ None
    unfolding if_some
    end_unknown none a r =
        let u = t.underway a r in
        u.folds ∙ ap (λ k. if_some k (λ v. fold_chain f v (comparisons_of c (drop n xs)))) (not_known m.code held t.value t.holds none)

    -- all comparisons hold
    end_holds : {d : Made C} → length xs ≤ n → is_some held ≡ true → d ≡ record m { code = take start m.code ++ Load (f.of_bool true) ∷ [] } → Finishes f (compare e (comparisons_of c xs)) start old d
    end_holds past some put a r =
        let u = t.underway a r in
        let v = is_known m.code held t.value t.holds some in
        let back = u.back v.0 v.1 in
        adds_folded f (compare e (comparisons_of c xs)) (f.of_bool true) start back.0 (end_true past some a r) r.at back.1 put

    -- the chain does not fold
    end_closes : {d : Made C} {ys : List (Comparison V K)} {qs : List ℕ} → IsChain (comparisons_of c xs) → n ≡ length xs → is_some held ≡ false → ys ≡ xs → qs ≡ ps → Closes m qs (ahead f c ys (length ys)) d → Finishes f (compare e (comparisons_of c xs)) start old d
    end_closes {d} {ys} {qs} chain all none same jumps k a r =
        let u = t.underway a r in
        let last : Closes m ps (ahead f c xs n) d =
        subst (λ j. Closes m ps (ahead f c xs j) d) (sym all) (subst (λ rs. Closes m rs (ahead f c xs (length xs)) d) jumps (subst (λ zs. Closes m qs (ahead f c zs (length zs)) d) same k)) in
        closes_chain e xs chain (end_unknown none a r)
        (leads_closes u.leads last)

  module _ (q : Compare V K) where
    abbrev first : Expr C
    first = expr_tree c (out-Compare V K q).expr

    abbrev ops : List (Comparison V K)
    ops = (out-Compare V K q).ops.items

    module _ {X E : Type 0} (result : Result X E) {old m : Made C} {start : ℕ} (new : Made C) where
      -- a comparison that does not hold makes the chain false
      pub compare_fails : {ys : List (Comparison V K)} {i : ℕ} {x : Comparison V K} {m1 m2 : Made C} {ps qs : List ℕ} {held : Option ℕ} {place : ℕ} {answer : Option Bool} (t : Turn f c old first ops ys start i x m m1 m2 ps qs held place) → Answers f c t answer → answer ≡ Some false → OnOk result (new ≡ record m2 { code = take start m2.code ++ Load (f.of_bool false) ∷ [] }) → OnOk result (Finishes f (compare_tree c q) start old new)
      compare_fails t answers fails put = then_ok result (λ p. finishes_whole q (turn_fails f c t answers fails p)) put

      -- where all hold it is true
      pub compare_holds : {n : ℕ} {ps : List ℕ} {held : Option ℕ} → Turning f c old first ops start n m ps held → length ops ≤ n → is_some held ≡ true → OnOk result (new ≡ record m { code = take start m.code ++ Load (f.of_bool true) ∷ [] }) → OnOk result (Finishes f (compare_tree c q) start old new)
      compare_holds t past some put = then_ok result (λ p. finishes_whole q (end_holds t past some p)) put

      -- and else its comparisons are code
      pub compare_closes : {n : ℕ} {ys : List (Comparison V K)} {ps qs : List ℕ} {held : Option ℕ} → IsWhole (compare_tree c q) → Turning f c old first ops start n m ps held → n ≡ length ops → is_some held ≡ false → ys ≡ ops → qs ≡ ps → OnOk result (Closes m qs (ahead f c ys (length ys)) new) → OnOk result (Finishes f (compare_tree c q) start old new)
      compare_closes whole t all none same jumps closes = then_ok result (λ k. finishes_whole q (end_closes t (whole_parts q whole).1 all none same jumps k)) closes
