-- A chain of filters, a filter at a time.
use Rattle.std.proofs.Common.{◌≡◌, ◌<◌, refl, sym, ap, subst, ◌∙◌, true, false}
use Rattle.std.specs.Prelude.{Bool, ◌&&◌, Option, Some, None, IfSome, option_map}
use Rattle.std.specs.Option.{option_copied}
use Rattle.std.specs.Borrow.{Bor}
use Rattle.minijinja_tree_expr.specs.Tree.{Expr as Tree, filter, Optional, absent, present, Args}
use Rattle.minijinja_tree_expr.specs.Erasure.{expr_tree, compare_tree, optional_of, args_of}
use Rattle.minijinja_well_formed.specs.private.FilterParts.{filter_tree, only_filter}
use Rattle.minijinja_tree_expr.specs.Sizes.{size_of}
use Rattle.minijinja_well_formed.specs.private.ExpressionTests.{takes_arguments, is_chain_of_filters, is_chain_if_any}
use Rattle.minijinja_syntax.specs.Texts.{Text}
use Rattle.minijinja_tree_expr.specs.declared.ast.CallArg.TheBlock as block
use Rattle.minijinja_tree_expr.specs.declared.ast.Filter.{Filter}
use Rattle.minijinja_tree_expr.specs.declared.ast.Expr.{Expr}
use Rattle.minijinja_tree_expr.proofs.Sizes.{rest_size, next-smaller}

and-true : (a : Bool) → (a && true) ≡ a
and-true true = refl
and-true false = refl

filter-chain : {C : Type 0} (e : Optional C) (x : Text) (args : Args C) → is_chain_of_filters (filter e x args) ≡ (takes_arguments args && is_chain_if_any e)
filter-chain absent x args = sym (and-true (takes_arguments args))
filter-chain (present e) x args = refl

-- what is no filter is no chain
other-chain : {C : Type 0} (e : Tree C) → None ≡ only_filter e → is_chain_of_filters e ≡ false
other-chain (filter e x args) h = cc
other-chain _ h = refl

-- and a filter is the one that it is
same-filter : {C : Type 0} (e f : Tree C) → Some f ≡ only_filter e → f ≡ e
same-filter (filter e x args) f h = cc
same-filter _ f h = cc

-- what is left is a chain, if there is any
abbrev pub is_chain_if_some : {V K C : Type 0} → (V → C) → Option (Bor (Expr V K)) → Bool
is_chain_if_some c None = true
is_chain_if_some c (Some e) = is_chain_of_filters (expr_tree c e.now)

any-of : {V K C : Type 0} (c : V → C) (o : Option (Bor (Expr V K))) → is_chain_if_any (optional_of c (option_copied o)) ≡ is_chain_if_some c o
any-of c None = refl
any-of c (Some e) = refl

pub compare-filter : {V F C : Type 0} (c : V → C) (q : block.the_data-4 V F) → only_filter (compare_tree c q) ≡ None
compare-filter c (block.struct-Compare e k ops) = refl

module _ {V K C : Type 0} (c : V → C) (whole : Expr V K) (rest : Option (Bor (Expr V K))) (part : Bor (Expr V K))
    (same : is_chain_of_filters (expr_tree c whole) ≡ is_chain_if_some c rest) (here : rest ≡ Some part) where
  -- what is no filter ends in a refusal
  pub chain-ends : (o : Option (Bor (Filter V K))) → ((f : Bor (Filter V K)) → o ≡ Some f → ⊥) → option_map (λ f. filter_tree c f.now) o ≡ only_filter (expr_tree c part.now) → false ≡ is_chain_of_filters (expr_tree c whole)
  chain-ends None n k = sym (same ∙ ap (is_chain_if_some c) here ∙ other-chain (expr_tree c part.now) k)
  chain-ends (Some f) n k = absurd (n f refl)

  module _ (o : Option (Bor (Filter V K))) (node : Bor (Filter V K)) (at : o ≡ Some node) (k : option_map (λ f. filter_tree c f.now) o ≡ only_filter (expr_tree c part.now)) where
    step : is_chain_of_filters (expr_tree c whole) ≡ (takes_arguments (args_of c node.now.args.items) && is_chain_if_any (optional_of c node.now.expr))
    step =
        same ∙ ap (is_chain_if_some c) here
        ∙ ap is_chain_of_filters (sym (same-filter (expr_tree c part.now) (filter_tree c node.now) (ap (option_map (λ f. filter_tree c f.now)) (sym at) ∙ k)))
        ∙ filter-chain (optional_of c node.now.expr) node.now.name.now (args_of c node.now.args.items)

    pub chain-fails : false ≡ takes_arguments (args_of c node.now.args.items) → false ≡ is_chain_of_filters (expr_tree c whole)
    chain-fails h = sym (step ∙ ap (λ b. b && is_chain_if_any (optional_of c node.now.expr)) (sym h))

    pub chain-goes-on : (next : Option (Bor (Expr V K))) → true ≡ takes_arguments (args_of c node.now.args.items) → option_copied next ≡ node.now.expr → is_chain_of_filters (expr_tree c whole) ≡ is_chain_if_some c next
    chain-goes-on next h l =
        step ∙ ap (λ b. b && is_chain_if_any (optional_of c node.now.expr)) (sym h)
        ∙ ap (λ o. is_chain_if_any (optional_of c o)) (sym l) ∙ any-of c next

    operand-smaller : (next : Option (Bor (Expr V K))) → option_copied next ≡ node.now.expr → IfSome node.now.expr (λ e. size_of e < size_of part.now) → IfSome next (λ e. size_of e.now < size_of part.now)
    operand-smaller None l h = tt
    operand-smaller (Some e) l h = subst (λ o. IfSome o (λ e. size_of e < size_of part.now)) (sym l) h

    pub chain-smaller : (next : Option (Bor (Expr V K))) → option_copied next ≡ node.now.expr → IfSome o (λ f. IfSome f.now.expr (λ e. size_of e < size_of part.now)) → rest_size next < rest_size rest
    chain-smaller next l h =
        let g : IfSome node.now.expr (λ e. size_of e < size_of part.now) = subst (λ o. IfSome o (λ f. IfSome f.now.expr (λ e. size_of e < size_of part.now))) at h in
        next-smaller whole rest next part here (operand-smaller next l g)
