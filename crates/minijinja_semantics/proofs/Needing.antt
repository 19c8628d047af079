-- Expressions mention only what their ways need.
use Rattle.std.proofs.Common.{List, [], ◌∷◌, ◌++◌, Bool, true, false, refl}
use Rattle.std.specs.Prelude.{if◌then◌else◌, codes, bytes_eq}
use Rattle.minijinja_syntax.specs.Texts.{Text}
use Rattle.minijinja_value.specs.Values.{Functions}
use Rattle.minijinja_tree.specs.Operators.{Working, Makes, Divides, IfTrue, IfFalse, working}
use Rattle.minijinja_tree.specs.Comparisons.{compares}
use Rattle.minijinja_tree.specs.Callees.{method, block, callee}
use Rattle.minijinja_tree.specs.Tree.{UnaryOp, logical_not, negation, Expr, variable, constant, slice, unary, binary, compare, if_expr, filter, test, attribute, item, call, list, tuple, map, Optional, absent, present, Exprs, no_more, more, Comparisons, compared, against, Args, no_args, pos, pos_splat, kwarg, kwarg_splat}
use Rattle.minijinja_tree.specs.FreeNames.{Way, occurs, in_turn, through, through_if_any, through_all, each as each_way, through_compared, through_positional, through_keyword}
use Rattle.minijinja_semantics.specs.Events.{CallMethod, CallObject, Slice, Div, GetAttr, GetItem, ApplyFilter, PerformTest, MergeKwargs, EndCapture, Means}
use Rattle.minijinja_semantics.specs.Meaning.{operate_one, operate, in_pairs, Taken, keyword_map, spread, arguments, call_of, expr, base, optional, items, each, chain, positional, keyword}
use Rattle.minijinja_semantics.specs.Needs.{Scope}
use Rattle.minijinja_semantics.proofs.Covering.{Covered, past_row, past_pairs, past_expr, past_any, past_compared, past_positional, past_keyword, past_each}
use Rattle.minijinja_semantics.proofs.Mentioning.{Outside, Known, Leads, leads_next, leads_give, leads_from, leads_to, leads_choose, leads_operated, leads_quiet, leads_get, leads_keeps, leads_call, leads_lookup}

module _ (out : Outside) (N : Type 0) {C F : Type 0} (f : Functions C F) where
  needs_map : (batches : List C) (pairs : List (C × C)) (b : Way) → Leads out {N = N} b (keyword_map f batches pairs) (λ v. b)
  unfolding keyword_map
  needs_map [] [] b = leads_give _
  needs_map [] (p ∷ ps) b = leads_give _
  needs_map (c ∷ cs) ps b = leads_next (leads_get b MergeKwargs [] _ refl) (λ m. leads_give _)

  needs_spread : (batches vs : List C) (b : Way) → Leads out {N = N} b (spread f batches vs) (λ v. b)
  unfolding spread
  needs_spread [] vs b = leads_give vs
  needs_spread (c ∷ cs) vs b = leads_quiet b _ _ refl

  pub needs_arguments : {p : Means N C F (Taken C C)} {k : Means N C F (Taken C (C × C))} (a b c : Way) → Leads out a p (λ t. b) → Leads out b k (λ t. c) → Leads out a (arguments f p k) (λ vs. c)
  needs_arguments a b c m n = leads_next m (λ t. leads_next n (λ k. leads_next (needs_map k.batches k.waiting c) (λ m. needs_spread t.batches (t.waiting ++ m) c)))

  needs_one : (o : UnaryOp) (v : C) (b : Way) → Leads out {N = N} b (operate_one f o v) (λ v. b)
  needs_one logical_not v b = leads_give _
  needs_one negation v b = leads_operated _

  needs_operation : (w : Working) (x : C) (right : Means N C F C) (a b : Way) → ((s : List Scope) → Covered (Known out s) a → Covered (Known out s) b) → Leads out a right (λ v. b) → Leads out a (operate f w x right) (λ v. b)
  needs_operation (Makes o) x right a b k m = leads_next m (λ y. leads_operated _)
  needs_operation Divides x right a b k m = leads_next m (λ y. leads_get b Div [] _ refl)
  needs_operation IfTrue x right a b k m = leads_choose _ m (leads_from k (leads_give x))
  needs_operation IfFalse x right a b k m = leads_choose _ (leads_from k (leads_give x)) m

  abbrev EachNeeds : Exprs C → Type 0
  EachNeeds no_more = Unit {0}
  EachNeeds (more e es) = ((b : Way) → Leads out {N = N} (through e b) (expr f e) (λ v. b)) × EachNeeds es

  needs_pairs : (ks vs : Exprs C) (b : Way) → EachNeeds ks → EachNeeds vs → Leads out {N = N} (in_turn (each_way ks) (each_way vs) b) (in_pairs (each f ks) (each f vs)) (λ ps. b)
  needs_pairs no_more vs b m n = leads_from (λ s. past_row (Known out s) vs b (past_each (Known out s) vs)) (leads_give _)
  needs_pairs (more k ks) no_more b m n = leads_from (λ s. past_pairs (Known out s) (more k ks) no_more b (past_each (Known out s) (more k ks)) tt) (leads_give _)
  needs_pairs (more k ks) (more v vs) b m n = leads_next (m.0 _) (λ x. leads_next (n.0 _) (λ y. leads_next (needs_pairs ks vs b m.1 n.1) (λ rest. leads_give _)))

  needs_self : (t : Bool) (z y : Text) {given : Taken C C → Means N C F (List C)} (a b : Way) → ((s : List Scope) → Covered (Known out s) a → Covered (Known out s) b) → ((t : Taken C C) → Leads out a (given t) (λ vs. b)) →
      Leads out (occurs z a) (call_of (if t then block y else method (variable z) y) (expr f (variable z)) (expr f (attribute (variable z) y)) given) (λ v. b)
  needs_self true z y a b k m = leads_from (λ s c. k s c.1) (leads_next (leads_quiet b _ _ refl) (λ u. leads_next (leads_quiet b _ _ refl) (λ u. leads_get b EndCapture [] [] refl)))
  needs_self false z y a b k m = leads_next (leads_lookup z a) (λ v. leads_next (m _) (λ vs. leads_get b CallMethod y vs refl))

  -- what an attribute is taken of
  abbrev BaseNeeds : Expr C → Type 0
  BaseNeeds (attribute o y) = (b : Way) → Leads out {N = N} (through o b) (expr f o) (λ v. b)
  BaseNeeds e = Unit {0}

  -- a call, of what gives its arguments
  pub needs_callee : (e : Expr C) {given : Taken C C → Means N C F (List C)} (a b : Way) → ((b : Way) → Leads out {N = N} (through e b) (expr f e) (λ v. b)) → BaseNeeds e → ((s : List Scope) → Covered (Known out s) a → Covered (Known out s) b) → ((t : Taken C C) → Leads out a (given t) (λ vs. b)) → Leads out (through e a) (call_of (callee e) (base f e) (expr f e) given) (λ v. b)
  needs_callee (variable x) a b n o k m = leads_next (leads_keeps x (m _)) (λ vs. leads_call x b vs)
  needs_callee (attribute (variable z) y) a b n o k m = needs_self (bytes_eq z (codes "self")) z y a b k m
  needs_callee (attribute p y) a b n o k m = leads_next (o a) (λ v. leads_next (m _) (λ vs. leads_get b CallMethod y vs refl))
  needs_callee e a b n o k m = leads_next (n a) (λ v. leads_next (m _) (λ vs. leads_get b CallObject [] vs refl))

  mutual
    pub needs_expr : (e : Expr C) (b : Way) → Leads out {N = N} (through e b) (expr f e) (λ v. b)
    needs_expr (variable x) b = leads_lookup x b
    needs_expr (constant c) b = leads_give c
    needs_expr (slice e i j k) b =
        leads_next (needs_expr e _) (λ v. leads_next (needs_any f.none i _) (λ v. leads_next (needs_any f.none j _) (λ v. leads_next (needs_any f.none k b) (λ v. leads_get b Slice [] _ refl))))
    needs_expr (unary o e) b = leads_next (needs_expr e b) (λ v. needs_one o v b)
    needs_expr (binary o l r) b = leads_next (needs_expr l _) (λ x. needs_operation (working o) x (expr f r) _ b (λ s. past_expr (Known out s) r b) (needs_expr r b))
    needs_expr (compare e cs) b = leads_next (needs_expr e _) (λ v. needs_chain v cs b)
    needs_expr (if_expr t e o) b = leads_next (needs_expr t _) (λ v. leads_choose (f.is_true v)
        (leads_to (λ x s. past_any (Known out s) o b) (needs_expr e _))
        (leads_from (λ s. past_expr (Known out s) e _) (needs_any f.silent_undefined o b)))
    needs_expr (filter o x args) b = leads_next (needs_any f.silent_undefined o _) (λ v.
        leads_next (needs_arguments _ _ b (needs_positional args _ _) (needs_keyword args _ b)) (λ vs. leads_get b ApplyFilter x vs refl))
    needs_expr (test e x args) b = leads_next (needs_expr e _) (λ v.
        leads_next (needs_arguments _ _ b (needs_positional args _ _) (needs_keyword args _ b)) (λ vs. leads_get b PerformTest x vs refl))
    needs_expr (attribute e x) b = leads_next (needs_expr e b) (λ v. leads_get b GetAttr x _ refl)
    needs_expr (item e k) b = leads_next (needs_expr e _) (λ v. leads_next (needs_expr k b) (λ u. leads_get b GetItem [] _ refl))
    needs_expr (call e args) b = needs_callee e _ b (λ c. needs_expr e c) (needs_base e) (λ s c. past_keyword (Known out s) args b (past_positional (Known out s) args _ c)) (λ t. needs_arguments _ _ b (needs_positional args t _) (needs_keyword args _ b))
    needs_expr (list es) b = leads_next (needs_items es b) (λ vs. leads_give _)
    needs_expr (tuple es) b = leads_next (needs_items es b) (λ vs. leads_give _)
    needs_expr (map ks vs) b = leads_next (needs_pairs ks vs b (needs_each ks) (needs_each vs)) (λ ps. leads_give _)

    pub needs_base : (e : Expr C) → BaseNeeds e
    needs_base (attribute o y) = λ b. needs_expr o b
    needs_base e = tt

    pub needs_any : (d : C) (o : Optional C) (b : Way) → Leads out {N = N} (through_if_any o b) (optional f d o) (λ v. b)
    needs_any d absent b = leads_give d
    needs_any d (present e) b = needs_expr e b

    needs_items : (es : Exprs C) (b : Way) → Leads out {N = N} (through_all es b) (items f es) (λ vs. b)
    needs_items no_more b = leads_give _
    needs_items (more e es) b = leads_next (needs_expr e _) (λ v. leads_next (needs_items es b) (λ vs. leads_give _))

    needs_each : (es : Exprs C) → EachNeeds es
    needs_each no_more = tt
    needs_each (more e es) = (λ b. needs_expr e b, needs_each es)

    needs_chain : (v : C) (cs : Comparisons C) (b : Way) → Leads out {N = N} (through_compared cs b) (chain f v cs) (λ v. b)
    needs_chain v compared b = leads_give _
    needs_chain v (against o e cs) b = leads_next (needs_expr e _) (λ u. leads_next (leads_operated (compares f o v u)) (λ holds. leads_choose holds (needs_chain u cs b) (leads_from (λ s. past_compared (Known out s) cs b) (leads_give _))))

    pub needs_positional : (args : Args C) (t : Taken C C) (b : Way) → Leads out {N = N} (through_positional args b) (positional f args t) (λ t. b)
    needs_positional no_args t b = leads_give t
    needs_positional (pos e args) t b = leads_next (needs_expr e _) (λ v. needs_positional args _ b)
    needs_positional (pos_splat e args) t b = leads_next (needs_expr e _) (λ v. needs_positional args _ b)
    needs_positional (kwarg x e args) t b = needs_positional args t b
    needs_positional (kwarg_splat e args) t b = needs_positional args t b

    pub needs_keyword : (args : Args C) (t : Taken C (C × C)) (b : Way) → Leads out {N = N} (through_keyword args b) (keyword f args t) (λ t. b)
    needs_keyword no_args t b = leads_give t
    needs_keyword (pos e args) t b = needs_keyword args t b
    needs_keyword (pos_splat e args) t b = needs_keyword args t b
    needs_keyword (kwarg x e args) t b = leads_next (needs_expr e _) (λ v. needs_keyword args _ b)
    needs_keyword (kwarg_splat e args) t b = leads_next (needs_expr e _) (λ v. needs_keyword args _ b)
