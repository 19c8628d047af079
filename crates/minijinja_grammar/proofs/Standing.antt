-- What is told of trees in one, taken apart: where they stand, and that they are whole.
use Rattle.minijinja_syntax.specs.declared.tokens.Span.{Span}
use Rattle.minijinja_syntax.specs.Streams.{SpannedTok}
use Rattle.minijinja_tree.specs.SpannedTrees.{Expr, variable, constant, slice, unary, binary, compare, if_expr, filter, test, attribute, item, call, list, tuple, map, Optional, absent, present, Exprs, no_more, more, Comparisons, compared, against, Args, no_args, pos, pos_splat, kwarg, kwarg_splat, bare_expr, bare_optional, bare_exprs, bare_comparisons, bare_args}
use Rattle.minijinja_tree.specs.WellFormed.{IsWhole, IsWholeIfAny, AreWhole, AreCompared, AreArguments}
use Rattle.minijinja_tree.specs.Standing.{Stands, StandsIfAny, ExprsStand, CompareStand, ArgsStand}
use Rattle.minijinja_grammar.specs.private.Sound.{IsSound, IsSoundIfAny, AreSound, AreComparedSound, AreArgsSound}

module _ {C : Type 0} (T : SpannedTok → Type 0) (S : Span → Type 0) where
  mutual
    pub stands : (e : Expr C) → IsSound T S e → Stands T S e
    stands (variable x s) h = h
    stands (constant c s) h = h
    stands (slice e start stop step s) h = (h.0, stands e h.1, if_any start h.2, if_any stop h.3, if_any step h.4)
    stands (unary o e s) h = (h.0, stands e h.1)
    stands (binary o l r s) h = (h.0, stands l h.1, stands r h.2)
    stands (compare e cs s) h = (h.0, stands e h.1, compares cs h.2)
    stands (if_expr t e o s) h = (h.0, stands t h.1, stands e h.2, if_any o h.3)
    stands (filter absent x args s) h = absurd h
    stands (filter (present e) x args s) h = (h.0, stands e h.1, all_args args h.2)
    stands (test e x args s) h = (h.0, stands e h.1, all_args args h.2)
    stands (attribute e x s) h = (h.0, stands e h.1)
    stands (item e i s) h = (h.0, stands e h.1, stands i h.2)
    stands (call e args s) h = (h.0, stands e h.1, all_args args h.2)
    stands (list es s) h = (h.0, all es h.1)
    stands (tuple es s) h = (h.0, all es h.1)
    stands (map ks vs s) h = (h.0, all ks h.1, all vs h.2)

    pub if_any : (o : Optional C) → IsSoundIfAny T S o → StandsIfAny T S o
    if_any absent h = tt
    if_any (present e) h = stands e h

    pub all : (es : Exprs C) → AreSound T S es → ExprsStand T S es
    all no_more h = tt
    all (more e es) h = (stands e h.0, all es h.1)

    compares : (cs : Comparisons C) → AreComparedSound T S cs → CompareStand T S cs
    compares compared h = tt
    compares (against o e cs) h = (stands e h.0, compares cs h.1)

    pub all_args : (xs : Args C) → AreArgsSound T S xs → ArgsStand T S xs
    all_args no_args h = tt
    all_args (pos e xs) h = (stands e h.0, all_args xs h.1)
    all_args (pos_splat e xs) h = (stands e h.0, all_args xs h.1)
    all_args (kwarg x e xs) h = (stands e h.0, all_args xs h.1)
    all_args (kwarg_splat e xs) h = (stands e h.0, all_args xs h.1)

  mutual
    pub is_whole : (e : Expr C) → IsSound T S e → IsWhole (bare_expr e)
    is_whole (variable x s) h = tt
    is_whole (constant c s) h = tt
    is_whole (slice e start stop step s) h = (is_whole e h.1, whole_if_any start h.2, whole_if_any stop h.3, whole_if_any step h.4)
    is_whole (unary o e s) h = is_whole e h.1
    is_whole (binary o l r s) h = (is_whole l h.1, is_whole r h.2)
    is_whole (compare e cs s) h = (is_whole e h.1, h.3, whole_compares cs h.2)
    is_whole (if_expr t e o s) h = (is_whole t h.1, is_whole e h.2, whole_if_any o h.3)
    is_whole (filter absent x args s) h = absurd h
    is_whole (filter (present e) x args s) h = (is_whole e h.1, whole_args args h.2, h.3)
    is_whole (test e x args s) h = (is_whole e h.1, whole_args args h.2, h.3)
    is_whole (attribute e x s) h = is_whole e h.1
    is_whole (item e i s) h = (is_whole e h.1, is_whole i h.2)
    is_whole (call e args s) h = (is_whole e h.1, whole_args args h.2, h.3)
    is_whole (list es s) h = all_whole es h.1
    is_whole (tuple es s) h = all_whole es h.1
    is_whole (map ks vs s) h = (all_whole ks h.1, all_whole vs h.2, h.3)

    pub whole_if_any : (o : Optional C) → IsSoundIfAny T S o → IsWholeIfAny (bare_optional o)
    whole_if_any absent h = tt
    whole_if_any (present e) h = is_whole e h

    pub all_whole : (es : Exprs C) → AreSound T S es → AreWhole (bare_exprs es)
    all_whole no_more h = tt
    all_whole (more e es) h = (is_whole e h.0, all_whole es h.1)

    whole_compares : (cs : Comparisons C) → AreComparedSound T S cs → AreCompared (bare_comparisons cs)
    whole_compares compared h = tt
    whole_compares (against o e cs) h = (is_whole e h.0, whole_compares cs h.1)

    pub whole_args : (xs : Args C) → AreArgsSound T S xs → AreArguments (bare_args xs)
    whole_args no_args h = tt
    whole_args (pos e xs) h = (is_whole e h.0, whole_args xs h.1)
    whole_args (pos_splat e xs) h = (is_whole e h.0, whole_args xs h.1)
    whole_args (kwarg x e xs) h = (is_whole e h.0, whole_args xs h.1)
    whole_args (kwarg_splat e xs) h = (is_whole e h.0, whole_args xs h.1)
