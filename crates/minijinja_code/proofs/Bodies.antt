-- Bodies of statements, and the statement in its place in one.
use Rattle.std.proofs.Common.{◌≡◌, ℕ, ◌+◌, ◌<◌, ◌≤◌, List, [], ◌∷◌, length, drop, get_or, refl, sym, ap, ◌∙◌, subst}
use Rattle.std.specs.Prelude.{Bool, true, false}
use Rattle.std.proofs.lemmas.List.{at_drop_more, at_drop_all}
use Rattle.minijinja_value.specs.Values.{Functions}
use Rattle.minijinja_tree.specs.Erasure.{stmt_tree}
use Rattle.minijinja_tree.specs.Tree.{Stmt as Tree, template, done, also, are_any}
use Rattle.minijinja_tree.specs.WellFormed.{IsInner, AreInner, IsWellFormed}
use Rattle.minijinja_tree.specs.declared.ast.Stmt.{Stmt}
use Rattle.minijinja_semantics.specs.Layout.{stmts}
use Rattle.minijinja_semantics.specs.Pieces.{Open, Piece, Leading, Exits}
use Rattle.minijinja_code_parts.specs.Hint.{all_data_bytes}
use Rattle.minijinja_emitter.specs.internal.Making.{Made, Adds}
use Rattle.minijinja_code.specs.private.Statements.{MayStand}
use Rattle.minijinja_code_parts.specs.internal.EnclosingLoops.{Around, Follows}
use Rattle.minijinja_tree.proofs.Rows.{body_of}

module _ {V K C : Type 0} (c : V → C) where
  -- the same body
  pub inner_as : (l : Bool) {xs ys : List (Stmt V K)} → xs ≡ ys → AreInner l (body_of c ys) → AreInner l (body_of c xs)
  inner_as l e w = subst (λ zs. AreInner l (body_of c zs)) (sym e) w

  -- in the same kind of place
  pub inner_in : (l k : Bool) (xs : List (Stmt V K)) → k ≡ l → AreInner l (body_of c xs) → AreInner k (body_of c xs)
  inner_in l k xs e w = subst (λ b. AreInner b (body_of c xs)) (sym e) w

  pub body_next : (xs : List (Stmt V K)) (i : ℕ) (x : Stmt V K) → i < length xs → x ≡ get_or xs i x → body_of c (drop i xs) ≡ also (stmt_tree c x) (body_of c (drop (i + 1) xs))
  body_next xs i x within at = at_drop_more (λ ys. body_of c ys) xs i x within ∙ ap (λ y. also (stmt_tree c y) (body_of c (drop (i + 1) xs))) (sym at)

  pub body_end : (xs : List (Stmt V K)) (i : ℕ) → length xs ≤ i → body_of c (drop i xs) ≡ done
  body_end xs i past = at_drop_all (λ ys. body_of c ys) xs i past

  pub inner_here : (l : Bool) (xs : List (Stmt V K)) (i : ℕ) (x : Stmt V K) → i < length xs → x ≡ get_or xs i x → AreInner l (body_of c (drop i xs)) → IsInner l (stmt_tree c x) × AreInner l (body_of c (drop (i + 1) xs))
  inner_here l xs i x within at w = let both = subst (AreInner l) (body_next xs i x within at) w in (both.0, both.1)

  -- whether there is a statement
  pub none_any : (xs : List (Stmt V K)) → length xs ≡ 0 → are_any (body_of c xs) ≡ false
  none_any [] e = refl
  none_any (x ∷ xs) e = absurd (cc)

  pub some_any : (xs : List (Stmt V K)) → (length xs ≡ 0 → ⊥) → are_any (body_of c xs) ≡ true
  some_any [] n = absurd (n refl)
  some_any (x ∷ xs) n = refl

-- a statement of a body may stand
pub inner_stands : {C L : Type 0} (l : Bool) (s : Tree C L) → IsInner l s → MayStand l s
inner_stands l (template ss) w = absurd w
inner_stands l s w = w

-- so may the root, outside of all loops
pub root_stands : {C L : Type 0} (l : Bool) (s : Tree C L) → l ≡ false → IsWellFormed s → MayStand l s
root_stands l (template ss) e w = subst (λ b. AreInner b ss) (sym e) w.0
root_stands l s e w = subst (λ b. IsInner b s) (sym e) w.0

module _ {V K C F : Type 0} (f : Functions C F) (c : V → C) where
  pub body_as : {t u : Around} {a b : Made C} (os : List Open) {xs ys : List (Stmt V K)} → xs ≡ ys → Follows t a u b (all_data_bytes (body_of c xs)) (stmts f os (body_of c xs)) → Follows t a u b (all_data_bytes (body_of c ys)) (stmts f os (body_of c ys))
  body_as {t} {u} {a} {b} os e r = subst (λ zs. Follows t a u b (all_data_bytes (body_of c zs)) (stmts f os (body_of c zs))) e r

-- what follows after something that added no code
module _ {C : Type 0} where
  pub follows_from : {t u : Around} {a' a b : Made C} {n : ℕ} {p : Leading Exits C} → a' ≡ a → Follows t a' u b n p → Follows t a u b n p
  follows_from {t} {u} {b = b} {n = n} {p = p} e r = subst (λ m. Follows t m u b n p) e r

  pub adds_from : {a' a b : Made C} {p : Piece C} → a' ≡ a → Adds a' b p → Adds a b p
  adds_from {b = b} {p = p} e s = subst (λ m. Adds m b p) e s
