-- An expression is whole where its long side is, and all beside it.
use Rattle.std.proofs.Common.{◌≡◌, ◌<◌, refl, sym, ap, ◌∙◌, true, false, arith}
use Rattle.std.specs.Prelude.{Bool, ◌&&◌, Option, Some, None, IfSome, option_map}
use Rattle.std.specs.Borrow.{Bor}
use Rattle.minijinja_tree_expr.specs.Tree.{Expr, variable, constant, slice, unary, binary, compare, if_expr, filter, test, attribute, item, call, list, tuple, map, absent, present}
use Rattle.minijinja_tree_expr.specs.Erasure.{expr_tree}
use Rattle.minijinja_tree_expr.specs.Sizes.{size_of}
use Rattle.minijinja_tree_expr.specs.declared.ast.Expr.{Expr as Node}
use Rattle.minijinja_tree_expr.proofs.Sizes.{IsWithin, next-within}
use Rattle.minijinja_well_formed.specs.private.ExpressionTests.{is_chain, is_whole, is_whole_if_any, are_whole, are_compared, takes_arguments, long_side, is_whole_beside}

and-true : (a : Bool) → (a && true) ≡ a
and-true true = refl
and-true false = refl

and-false : (a : Bool) → (a && false) ≡ false
and-false true = refl
and-false false = refl

and-comm : (a b : Bool) → (a && b) ≡ (b && a)
and-comm true b = sym (and-true b)
and-comm false b = sym (and-false b)

and-assoc : (a b c : Bool) → (a && (b && c)) ≡ ((a && b) && c)
and-assoc true b c = refl
and-assoc false b c = refl

-- the long side is whole, if there is one
abbrev pub is_whole_if_some : {C : Type 0} → Option (Expr C) → Bool
is_whole_if_some None = true
is_whole_if_some (Some e) = is_whole e

pub whole-sides : {C : Type 0} (e : Expr C) → is_whole e ≡ (is_whole_beside e && is_whole_if_some (long_side e))
whole-sides (variable x) = refl
whole-sides (constant c) = refl
whole-sides (slice e a b c) = and-comm (is_whole e) (is_whole_if_any a && (is_whole_if_any b && is_whole_if_any c))
whole-sides (unary o e) = refl
whole-sides (binary o a b) = and-comm (is_whole a) (is_whole b)
whole-sides (compare e cs) = ap (λ b. is_chain cs && b) (and-comm (is_whole e) (are_compared cs)) ∙ and-assoc (is_chain cs) (are_compared cs) (is_whole e)
whole-sides (if_expr t a b) = ap (λ d. is_whole t && d) (and-comm (is_whole a) (is_whole_if_any b)) ∙ and-assoc (is_whole t) (is_whole_if_any b) (is_whole a)
whole-sides (filter absent x args) = refl
whole-sides (filter (present e) x args) = and-comm (is_whole e) (takes_arguments args)
whole-sides (test e x args) = and-comm (is_whole e) (takes_arguments args)
whole-sides (attribute e x) = refl
whole-sides (item e k) = and-comm (is_whole e) (is_whole k)
whole-sides (call e args) = and-comm (is_whole e) (takes_arguments args)
whole-sides (list es) = sym (and-true (are_whole es))
whole-sides (tuple es) = sym (and-true (are_whole es))
whole-sides (map ks vs) = sym (and-true (is_whole_beside (map ks vs)))

-- the rest decides whether the whole is whole
pub record IsRest {V K C : Type 0} (c : V → C) (whole : Node V K) (rest : Option (Bor (Node V K))) : Type 0 where
  pub same : is_whole (expr_tree c whole) ≡ is_whole_if_some (option_map (λ x. expr_tree c x.now) rest)
  pub lower : IfSome rest (IsWithin whole)

module _ {V K C : Type 0} (c : V → C) (whole : Node V K) where
  pub begins : (x : Bor (Node V K)) → x.now ≡ whole → IsRest c whole (Some x)
  begins x h = record { same = ap (λ e. is_whole (expr_tree c e)) (sym h); lower = let k = ap size_of h in omega arith }

  module _ (rest : Option (Bor (Node V K))) (x : Bor (Node V K)) (here : rest ≡ Some x) (h : IsRest c whole rest) where
    beside : (b : Bool) → b ≡ is_whole_beside (expr_tree c x.now) → is_whole (expr_tree c whole) ≡ (b && is_whole_if_some (long_side (expr_tree c x.now)))
    beside b k =
        h.same ∙ ap (λ o. is_whole_if_some (option_map (λ x. expr_tree c x.now) o)) here
        ∙ whole-sides (expr_tree c x.now) ∙ ap (λ b. b && is_whole_if_some (long_side (expr_tree c x.now))) (sym k)

    -- what is not whole beside its long side is not whole
    pub fails : false ≡ is_whole_beside (expr_tree c x.now) → false ≡ is_whole (expr_tree c whole)
    fails k = sym (beside false k)

    -- and else the long side decides
    pub goes-on : (next : Option (Bor (Node V K))) → true ≡ is_whole_beside (expr_tree c x.now) → option_map (λ x. expr_tree c x.now) next ≡ long_side (expr_tree c x.now) →
        IfSome next (λ e. size_of e.now < size_of x.now) → IsRest c whole next
    goes-on next k side smaller = record { same = beside true k ∙ ap is_whole_if_some (sym side); lower = next-within whole rest next x here smaller h.lower }

  pub ends : (rest : Option (Bor (Node V K))) → rest ≡ None → IsRest c whole rest → true ≡ is_whole (expr_tree c whole)
  ends rest k h = sym (h.same ∙ ap (λ o. is_whole_if_some (option_map (λ x. expr_tree c x.now) o)) k)
