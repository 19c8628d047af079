-- An expression folds exactly where its code is one load of a constant.
use Rattle.std.proofs.Common.{◌≡◌, ℕ, List, [], ◌∷◌, ◌++◌, map, Option, Some, None, refl, sym, ap, ◌∙◌, append_assoc}
use Rattle.std.proofs.lemmas.List.{map-append}
use Rattle.minijinja_syntax.specs.Texts.{Text}
use Rattle.minijinja_value.specs.Values.{Functions}
use Rattle.minijinja_tree.specs.Callees.{Callee, function, method, block, object, callee}
use Rattle.minijinja_tree.specs.Folding.{fold}
use Rattle.minijinja_tree.specs.Operators.{Working, Makes, Divides, IfTrue, IfFalse, working}
use Rattle.minijinja_tree.specs.Tree.{UnaryOp, logical_not, negation, Expr, variable, constant, slice, unary, binary, compare, if_expr, filter, test, attribute, item, call, list, tuple, map as map_of, compared, against}
use Rattle.minijinja_tree.specs.WellFormed.{IsWhole}
use Rattle.minijinja_semantics.specs.Code.{Instr, Do, Call, Operate, Jump, JumpIfFalseOrPop, JumpIfTrueOrPop, Swap, DiscardTop}
use Rattle.minijinja_semantics.specs.Events.{Div, Slice, GetAttr, GetItem, CallFunction, CallMethod, CallObject, CallBlock, BeginCapture, EndCapture, Capture}
use Rattle.minijinja_semantics.specs.Layout.{folded, unary_instr, operation, Failing, chained, arguments, argument_count, apply_filter, perform_test, call_of, expr, base, optional, operand, positional, keyword, comparisons}
use Rattle.minijinja_semantics.specs.Pieces.{Here, behind, Piece, one, ◌▸◌, skipping, branches}
use Rattle.minijinja_emitter.specs.internal.Making.{capped, loaded_by, alone}
use Rattle.minijinja_semantics.proofs.Runs.{append_nil}

module _ {C : Type 0} where
  -- an instruction that loads nothing stands in it
  not_alone : (xs ys : List (Instr C)) (i : Instr C) → loaded_by i ≡ None → alone (xs ++ i ∷ ys) ≡ None
  not_alone [] [] i e = e
  not_alone [] (y ∷ ys) i e = refl
  not_alone (x ∷ []) ys i e = refl
  not_alone (x ∷ z ∷ xs) ys i e = refl

  -- code with this piece in it is more than one load
  pub record Computes (p : Piece C) : Type 0 where
    pub computes : (h : Here) (xs ys : List (Instr C)) → alone (xs ++ (map capped (p.code h) ++ ys)) ≡ None

  one_computes : (i : Instr C) → loaded_by (capped i) ≡ None → Computes (one i)
  one_computes i e = record { computes = λ h xs ys. not_alone xs ys (capped i) e }

  last_computes : (p : Piece C) {q : Piece C} → Computes q → Computes (p ▸ q)
  last_computes p {q} c = record {
    computes = λ h xs ys.
        let a = map capped (p.code h) in
        let b = map capped (q.code (p.past h)) in
        ap (λ l. alone (xs ++ (l ++ ys))) (map-append capped (p.code h) (q.code (p.past h)))
        ∙ ap (λ l. alone (xs ++ l)) (append_assoc a b ys)
        ∙ ap alone (sym (append_assoc xs a (b ++ ys)))
        ∙ c.computes (p.past h) (xs ++ a) ys;
  }

  first_computes : {p : Piece C} (q : Piece C) → Computes p → Computes (p ▸ q)
  first_computes {p} q c = record {
    computes = λ h xs ys.
        let a = map capped (p.code h) in
        let b = map capped (q.code (p.past h)) in
        ap (λ l. alone (xs ++ (l ++ ys))) (map-append capped (p.code h) (q.code (p.past h)))
        ∙ ap (λ l. alone (xs ++ l)) (append_assoc a b ys)
        ∙ c.computes h xs (b ++ ys);
  }

  skipping_computes : (jump : ℕ → Instr C) (p : Piece C) → ((n : ℕ) → loaded_by (capped (jump n)) ≡ None) → Computes (skipping jump p)
  skipping_computes jump p e = record { computes = λ h xs ys. not_alone xs (map capped (p.code (behind 1 h)) ++ ys) _ (e _) }

  branches_compute : (p q : Piece C) → Computes (branches p q)
  branches_compute p q = record { computes = λ h xs ys. not_alone xs _ _ refl }

  operation_computes : (k : Working) (p : Piece C) → Computes (operation k p)
  operation_computes (Makes o) p = last_computes p (one_computes (Operate o) refl)
  operation_computes Divides p = last_computes p (one_computes (Do Div [] 2) refl)
  operation_computes IfTrue p = skipping_computes JumpIfFalseOrPop p (λ n. refl)
  operation_computes IfFalse p = skipping_computes JumpIfTrueOrPop p (λ n. refl)

  unary_computes : (o : UnaryOp) → Computes (one {C = C} (unary_instr o))
  unary_computes logical_not = one_computes _ refl
  unary_computes negation = one_computes _ refl

  chained_computes : (p : Piece C) (r : Failing C) → Computes (chained p r)
  chained_computes p r = record {
    computes = λ h xs ys.
        let failed = behind 1 (r.past (p.past h)) in
        let a = map capped (p.code h) in
        let b = map capped (r.code failed.place (p.past h)) in
        let end : List (Instr C) = Jump (behind 1 (behind 1 failed)).place ∷ Swap ∷ DiscardTop ∷ [] in
        ap (λ l. alone (xs ++ (l ++ ys))) (map-append capped (p.code h) (r.code failed.place (p.past h) ++ end) ∙ ap (λ l. a ++ l) (map-append capped (r.code failed.place (p.past h)) end))
        ∙ ap (λ l. alone (xs ++ l)) (append_assoc a (b ++ map capped end) ys ∙ ap (λ l. a ++ l) (append_assoc b (map capped end) ys))
        ∙ ap alone (sym (append_assoc xs a (b ++ (map capped end ++ ys))) ∙ sym (append_assoc (xs ++ a) b (map capped end ++ ys)))
        ∙ not_alone ((xs ++ a) ++ b) _ _ refl;
  }

  filter_computes : (x : Text) (n : Option ℕ) → Computes (apply_filter x n)
  filter_computes x n = record { computes = λ h xs ys. not_alone xs ys _ refl }

  test_computes : (x : Text) (n : Option ℕ) → Computes (perform_test x n)
  test_computes x n = record { computes = λ h xs ys. not_alone xs ys _ refl }

  call_computes : (c : Callee C) (b v : Piece C) (given : ℕ → Piece C) (count : ℕ → Option ℕ) → Computes (call_of c b v given count)
  call_computes (function x) b v given count = last_computes (given 0) (one_computes (Call CallFunction x (count 0)) refl)
  call_computes (block x) b v given count = first_computes (one (Do CallBlock x 0) ▸ one (Do EndCapture [] 0)) (one_computes (Do (BeginCapture Capture) [] 0) refl)
  call_computes (method e x) b v given count = last_computes b (last_computes (given 1) (one_computes (Call CallMethod x (count 1)) refl))
  call_computes (object e) b v given count = last_computes v (last_computes (given 1) (one_computes (Call CallObject [] (count 1)) refl))

  computes_alone : {p : Piece C} → Computes p → (h : Here) → alone (map capped (p.code h)) ≡ None
  computes_alone {p} c h = ap alone (sym (append_nil (map capped (p.code h)))) ∙ c.computes h [] []

  folded_alone : (r : Option C) {p : Piece C} → Computes p → (h : Here) → alone (map capped ((folded r p).code h)) ≡ r
  unfolding folded
  folded_alone None c h = computes_alone c h
  folded_alone (Some x) c h = refl

module _ {C F : Type 0} (f : Functions C F) where
  pub fold_alone : (e : Expr C) → IsWhole e → (h : Here) → alone (map capped ((expr f e).code h)) ≡ fold f e
  unfolding fold
  fold_alone (variable x) w h = refl
  fold_alone (constant c) w h = refl
  fold_alone (slice e a b c) w h = computes_alone (last_computes (expr f e) (last_computes (optional f f.none a) (last_computes (optional f f.none b) (last_computes (optional f f.none c) (one_computes (Do Slice [] 4) refl))))) h
  fold_alone (unary o e) w h = folded_alone (fold f (unary o e)) (last_computes _ (unary_computes o)) h
  fold_alone (binary o a b) w h = folded_alone (fold f (binary o a b)) (last_computes _ (operation_computes (working o) (expr f b))) h
  fold_alone (compare e compared) w h = absurd w.1
  fold_alone (compare e (against o a cs)) w h = folded_alone (fold f (compare e (against o a cs))) (last_computes _ (chained_computes (expr f a) (comparisons f o cs))) h
  fold_alone (if_expr t a b) w h = computes_alone (last_computes (expr f t) (branches_compute (expr f a) (optional f f.silent_undefined b))) h
  fold_alone (filter o x args) w h = computes_alone (last_computes (operand f o) (last_computes (arguments f args 1 (positional f args 1) (keyword f args 0)) (filter_computes x (argument_count args 1)))) h
  fold_alone (test e x args) w h = computes_alone (last_computes (expr f e) (last_computes (arguments f args 1 (positional f args 1) (keyword f args 0)) (test_computes x (argument_count args 1)))) h
  fold_alone (attribute e x) w h = computes_alone (last_computes (expr f e) (one_computes (Do GetAttr x 1) refl)) h
  fold_alone (item e k) w h = computes_alone (last_computes (expr f e) (last_computes (expr f k) (one_computes (Do GetItem [] 2) refl))) h
  fold_alone (call e args) w h = computes_alone (call_computes (callee e) (base f e) (expr f e) (λ n. arguments f args n (positional f args n) (keyword f args 0)) (argument_count args)) h
  fold_alone (list es) w h = folded_alone (fold f (list es)) (last_computes _ (one_computes _ refl)) h
  fold_alone (tuple es) w h = folded_alone (fold f (tuple es)) (last_computes _ (one_computes _ refl)) h
  fold_alone (map_of ks vs) w h = folded_alone (fold f (map_of ks vs)) (last_computes _ (one_computes _ refl)) h
