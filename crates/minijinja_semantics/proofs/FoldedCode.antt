-- The code of expressions that fold.
use Rattle.std.proofs.Common.{◌≡◌, Option, Some, None, ap}
use Rattle.minijinja_value.specs.Values.{Functions}
use Rattle.minijinja_tree.specs.Folding.{fold}
use Rattle.minijinja_tree.specs.Tree.{Expr, variable, constant, slice, unary, binary, compare, if_expr, filter, test, attribute, item, call, list, tuple, map}
use Rattle.minijinja_semantics.specs.Code.{Load}
use Rattle.minijinja_semantics.specs.Pieces.{Piece, one}
use Rattle.minijinja_semantics.specs.Layout.{folded, expr}

module _ {C : Type 0} where
  pub folded_some : {r : Option C} {c : C} (p : Piece C) → r ≡ Some c → folded r p ≡ one (Load c)
  unfolding folded
  folded_some p e = ap (λ r. folded r p) e

  pub folded_none : {r : Option C} (p : Piece C) → r ≡ None → folded r p ≡ p
  unfolding folded
  folded_none p e = ap (λ r. folded r p) e

module _ {C F : Type 0} (f : Functions C F) where
  -- a constant stands in the place of what folds
  pub folded_code : (e : Expr C) (c : C) → fold f e ≡ Some c → expr f e ≡ one (Load c)
  unfolding fold
  folded_code (constant c') c e = let same : c' ≡ c = cc in ap (λ v. one (Load v)) same
  folded_code (unary o a) c e = folded_some _ e
  folded_code (binary o a b) c e = folded_some _ e
  folded_code (compare a cs) c e = folded_some _ e
  folded_code (list es) c e = folded_some _ e
  folded_code (tuple es) c e = folded_some _ e
  folded_code (map ks vs) c e = folded_some _ e
  folded_code (variable x) c e = absurd (cc)
  folded_code (slice a s t u) c e = absurd (cc)
  folded_code (if_expr t a b) c e = absurd (cc)
  folded_code (filter o x args) c e = absurd (cc)
  folded_code (test a x args) c e = absurd (cc)
  folded_code (attribute a x) c e = absurd (cc)
  folded_code (item a k) c e = absurd (cc)
  folded_code (call a args) c e = absurd (cc)
