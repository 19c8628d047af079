-- Expressions that are added in order, and pairs of them.
use Rattle.std.proofs.Common.{◌≡◌, ℕ, suc, ◌+◌, ◌<◌, ◌≤◌, List, [], ◌∷◌, length, drop, get_or, refl, sym, ap, ◌∙◌, subst}
use Rattle.std.proofs.lemmas.List.{at_drop_more, at_drop_all}
use Rattle.minijinja_value.specs.Values.{Functions}
use Rattle.minijinja_tree.specs.Erasure.{expr_tree, exprs_of}
use Rattle.minijinja_tree.specs.WellFormed.{IsWhole, AreWhole, expr_count}
use Rattle.minijinja_tree_expr.specs.declared.ast.Expr.{Expr}
use Rattle.minijinja_semantics.specs.Layout as layout
use Rattle.minijinja_semantics.specs.Layout.{items, each, paired}
use Rattle.minijinja_semantics.specs.Pieces.{Piece, nothing, ◌▸◌}
use Rattle.minijinja_emitter.specs.internal.Making.{Made, Adds}
use Rattle.minijinja_emitter.proofs.Adding.{adds_as, adds_then, adds_nothing}

pub count_length : {V K C : Type 0} (c : V → C) (xs : List (Expr V K)) → expr_count (exprs_of c xs) ≡ length xs
count_length c [] = refl
count_length c (x ∷ xs) = ap suc (count_length c xs)

-- whoever adds the rest has added the whole
pub record Leads {C : Type 0} (old now : Made C) (rest whole : Piece C) : Type 0 where
  pub adds : (later : Made C) → Adds now later rest → Adds old later whole

module _ {C : Type 0} where
  pub leads_whole : (m : Made C) (p q : Piece C) → q ≡ p → Leads m m q p
  leads_whole m p q e = record { adds = λ later s. adds_as e s }

  pub leads_on : {old now next : Made C} {rest whole : Piece C} (p left : Piece C) → rest ≡ p ▸ left → Adds now next p → Leads old now rest whole → Leads old next left whole
  leads_on p left e s l = record { adds = λ later t. l.adds later (adds_as (sym e) (adds_then s t)) }

  pub leads_end : {old now : Made C} {rest whole : Piece C} → rest ≡ nothing → Leads old now rest whole → Adds old now whole
  leads_end {old} {now} e l = l.adds now (adds_as (sym e) (adds_nothing now))

module _ {V K C : Type 0} (c : V → C) where
  -- an expression in its place is whole, and so are those after it
  pub whole_here : (xs : List (Expr V K)) (i : ℕ) (x : Expr V K) → i < length xs → x ≡ get_or xs i x → AreWhole (exprs_of c (drop i xs)) → IsWhole (expr_tree c x)
  whole_here xs i x within at w =
      let more = subst AreWhole (at_drop_more (λ ys. exprs_of c ys) xs i x within) w in
      subst (λ y. IsWhole (expr_tree c y)) (sym at) more.0

  pub whole_after : (xs : List (Expr V K)) (i : ℕ) (x : Expr V K) → i < length xs → AreWhole (exprs_of c (drop i xs)) → AreWhole (exprs_of c (drop (i + 1) xs))
  whole_after xs i x within w = (subst AreWhole (at_drop_more (λ ys. exprs_of c ys) xs i x within) w).1

module _ {V K C F : Type 0} (f : Functions C F) (c : V → C) where
  pub items_next : (xs : List (Expr V K)) (i : ℕ) (x : Expr V K) → i < length xs → x ≡ get_or xs i x →
      items f (exprs_of c (drop i xs)) ≡ layout.expr f (expr_tree c x) ▸ items f (exprs_of c (drop (i + 1) xs))
  items_next xs i x within at = at_drop_more (λ ys. items f (exprs_of c ys)) xs i x within ∙ ap (λ y. layout.expr f (expr_tree c y) ▸ items f (exprs_of c (drop (i + 1) xs))) (sym at)

  pub items_end : (xs : List (Expr V K)) (i : ℕ) → length xs ≤ i → items f (exprs_of c (drop i xs)) ≡ nothing
  items_end xs i past = at_drop_all (λ ys. items f (exprs_of c ys)) xs i past

  abbrev pub pairs : List (Expr V K) → List (Expr V K) → Piece C
  pairs ks vs = paired (each f (exprs_of c ks)) (each f (exprs_of c vs))

  pub pairs_next : (ks vs : List (Expr V K)) (i : ℕ) (k v : Expr V K) → i < length ks → i < length vs → k ≡ get_or ks i k → v ≡ get_or vs i v →
      pairs (drop i ks) (drop i vs) ≡ layout.expr f (expr_tree c k) ▸ (layout.expr f (expr_tree c v) ▸ pairs (drop (i + 1) ks) (drop (i + 1) vs))
  pairs_next ks vs i k v within also at there =
      at_drop_more (λ ys. pairs ys (drop i vs)) ks i k within
      ∙ at_drop_more (λ ys. pairs (get_or ks i k ∷ drop (i + 1) ks) ys) vs i v also
      ∙ ap (λ y. layout.expr f (expr_tree c y) ▸ (layout.expr f (expr_tree c (get_or vs i v)) ▸ pairs (drop (i + 1) ks) (drop (i + 1) vs))) (sym at)
      ∙ ap (λ y. layout.expr f (expr_tree c k) ▸ (layout.expr f (expr_tree c y) ▸ pairs (drop (i + 1) ks) (drop (i + 1) vs))) (sym there)

  pub pairs_end : (ks vs : List (Expr V K)) (i : ℕ) → length ks ≤ i → pairs (drop i ks) (drop i vs) ≡ nothing
  pairs_end ks vs i past = at_drop_all (λ ys. pairs ys (drop i vs)) ks i past
