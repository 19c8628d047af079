-- Parts of imports while their code is being made.
use Rattle.std.proofs.Common.{◌≡◌, ℕ, ◌+◌, ◌<◌, List, [], ◌∷◌, ◌++◌, length, drop, get_or, Option, Some, refl, sym, ap, ◌∙◌, subst, append_assoc}
use Rattle.std.specs.Borrow.{Bor}
use Rattle.std.proofs.lemmas.List.{at_drop_more}
use Rattle.minijinja_value.specs.Values.{Functions}
use Rattle.minijinja_tree.specs.Erasure.{expr_tree, optional_of, names_of}
use Rattle.minijinja_tree.specs.Tree as tree
use Rattle.minijinja_tree.specs.Tree.{Optional, absent, present, stored_as}
use Rattle.minijinja_tree.specs.WellFormed.{IsVariable, IsVariableIfAny, AreNames, IsTarget, IsWhole}
use Rattle.minijinja_tree_expr.specs.declared.ast.Expr.{Expr}
use Rattle.minijinja_semantics.specs.Layout as layout
use Rattle.minijinja_semantics.specs.Layout.{looking_up, storing_back, target}
use Rattle.minijinja_semantics.specs.Pieces.{Piece, nothing, ◌▸◌}
use Rattle.minijinja_semantics.proofs.Runs.{append_nil}
use Rattle.minijinja_emitter.specs.internal.Making.{Made, Adds}
use Rattle.minijinja_emitter.proofs.Adding.{adds_then}
use Rattle.minijinja_code_expr.proofs.InOrder.{Leads, leads_on}
use Rattle.minijinja_code_parts.specs.internal.Macros.{left_of}
use Rattle.minijinja_code_parts.proofs.MacroParts.{AreSame, adds_same, variable_target}

module _ {C : Type 0} where
  -- a name is a variable
  variable_whole : (e : tree.Expr C) → IsVariable e → IsWhole e
  variable_whole (tree.variable x) w = tt
  variable_whole (tree.constant c) w = absurd w
  variable_whole (tree.slice e a b c) w = absurd w
  variable_whole (tree.unary o e) w = absurd w
  variable_whole (tree.binary o a b) w = absurd w
  variable_whole (tree.compare e cs) w = absurd w
  variable_whole (tree.if_expr t a b) w = absurd w
  variable_whole (tree.filter o x args) w = absurd w
  variable_whole (tree.test e x args) w = absurd w
  variable_whole (tree.attribute e x) w = absurd w
  variable_whole (tree.item e k) w = absurd w
  variable_whole (tree.call e args) w = absurd w
  variable_whole (tree.list es) w = absurd w
  variable_whole (tree.tuple es) w = absurd w
  variable_whole (tree.map ks vs) w = absurd w

  stored_target : (e : tree.Expr C) (o : Optional C) → IsVariable e → IsVariableIfAny o → IsTarget (stored_as (e, o))
  stored_target e absent w u = variable_target e w
  stored_target e (present alias) w u = variable_target alias u

  names_split : (ns : List (tree.Expr C × Optional C)) (n : tree.Expr C × Optional C) → AreNames (ns ++ n ∷ []) → AreNames ns × IsVariable n.0 × IsVariableIfAny n.1
  names_split [] n w = (tt, w.0, w.1)
  names_split (m ∷ ns) n w = let more = names_split ns n w.2 in ((w.0, w.1, more.0), more.1, more.2)

module _ {C F : Type 0} (f : Functions C F) where
  -- what is stored last to first: the last one, and then those before it
  back_same : (ns : List (tree.Expr C × Optional C)) (n : tree.Expr C × Optional C) → AreSame (target f (stored_as n) ▸ storing_back f ns) (storing_back f (ns ++ n ∷ []))
  back_same [] n = record { past = λ h. refl; code = λ h. append_nil ((target f (stored_as n)).code h) }
  back_same (m ∷ ns) n =
      let p = target f (stored_as n) in
      let q = storing_back f ns in
      let r = target f (stored_as m) in
      let rest = back_same ns n in
      record {
        past = λ h. ap r.past (rest.past h);
        code = λ h. sym (append_assoc (p.code h) (q.code (p.past h)) (r.code (q.past (p.past h))))
            ∙ ap (λ l. l ++ r.code (q.past (p.past h))) (rest.code h)
            ∙ ap (λ k. (storing_back f (ns ++ n ∷ [])).code h ++ r.code k) (rest.past h);
      }

  pub stored_back : {a b c : Made C} (ns : List (tree.Expr C × Optional C)) (n : tree.Expr C × Optional C) → Adds a b (target f (stored_as n)) → Adds b c (storing_back f ns) → Adds a c (storing_back f (ns ++ n ∷ []))
  stored_back ns n s t = adds_same (target f (stored_as n) ▸ storing_back f ns) (storing_back f (ns ++ n ∷ [])) (back_same ns n) (adds_then s t)

module _ {V K C : Type 0} (v : V → C) where
  abbrev pub pair_of : Expr V K × Option (Expr V K) → tree.Expr C × Optional C
  pair_of n = (expr_tree v n.0, optional_of v n.1)

  names_append : (xs ys : List (Expr V K × Option (Expr V K))) → names_of v (xs ++ ys) ≡ names_of v xs ++ names_of v ys
  names_append [] ys = refl
  names_append (x ∷ xs) ys = ap (λ ns. pair_of x ∷ ns) (names_append xs ys)

  names_last : (xs ys : List (Expr V K × Option (Expr V K))) (n : Expr V K × Option (Expr V K)) → xs ≡ ys ++ n ∷ [] → names_of v xs ≡ names_of v ys ++ pair_of n ∷ []
  names_last xs ys n is = ap (names_of v) is ∙ names_append ys (n ∷ [])

  pub names_before : (xs ys : List (Expr V K × Option (Expr V K))) (n : Expr V K × Option (Expr V K)) → xs ≡ ys ++ n ∷ [] → AreNames (names_of v xs) → AreNames (names_of v ys)
  names_before xs ys n is w = (names_split (names_of v ys) (pair_of n) (subst AreNames (names_last xs ys n is) w)).0

  pub name_target : (xs ys : List (Expr V K × Option (Expr V K))) (n : Expr V K × Option (Expr V K)) (e : tree.Expr C) → xs ≡ ys ++ n ∷ [] → AreNames (names_of v xs) → e ≡ stored_as (pair_of n) → IsTarget e
  name_target xs ys n e is w at =
      let both = names_split (names_of v ys) (pair_of n) (subst AreNames (names_last xs ys n is) w) in
      subst IsTarget (sym at) (stored_target (expr_tree v n.0) (optional_of v n.1) both.1 both.2)

  module _ {F : Type 0} (f : Functions C F) where
    pub stores_next : (xs ys : List (Expr V K × Option (Expr V K))) (n : Expr V K × Option (Expr V K)) (e : tree.Expr C) {old now next : Made C} {whole : Piece C} → xs ≡ ys ++ n ∷ [] → e ≡ stored_as (pair_of n) → Adds now next (target f e) → Leads old now (storing_back f (names_of v xs)) whole → Leads old next (storing_back f (names_of v ys)) whole
    stores_next xs ys n e {old} {now} {next} is at s l = record {
      adds = λ later more.
          let stored = subst (λ t. Adds now next (target f t)) at s in
          l.adds later (subst (λ ns. Adds now later (storing_back f ns)) (sym (names_last xs ys n is)) (stored_back f (names_of v ys) (pair_of n) stored more));
    }

    pub stores_end : (xs : List (Expr V K × Option (Expr V K))) → length xs ≡ 0 → storing_back f (names_of v xs) ≡ nothing
    stores_end [] none = refl
    stores_end (x ∷ xs) none = absurd (cc)

    pub names_after : (xs : List (Expr V K × Option (Expr V K))) (i : ℕ) (x : Expr V K × Option (Expr V K)) → i < length xs → AreNames (names_of v (drop i xs)) → AreNames (names_of v (drop (i + 1) xs))
    names_after xs i x within w = (subst AreNames (at_drop_more (λ ys. names_of v ys) xs i x within) w).2

    pub look_next : (xs : List (Expr V K × Option (Expr V K))) (i : ℕ) (x : Expr V K × Option (Expr V K)) {old now next : Made C} {whole : Piece C} → i < length xs → x ≡ get_or xs i x → Adds now next (layout.expr f (expr_tree v x.0)) → Leads old now (looking_up f (names_of v (drop i xs))) whole → Leads old next (looking_up f (names_of v (drop (i + 1) xs))) whole
    look_next xs i x within at s l =
        let rest = looking_up f (names_of v (drop (i + 1) xs)) in
        let is = at_drop_more (λ ys. looking_up f (names_of v ys)) xs i x within
        ∙ ap (λ (y : Expr V K × Option (Expr V K)). layout.expr f (expr_tree v y.0) ▸ rest) (sym at) in
        leads_on (layout.expr f (expr_tree v x.0)) rest is s l

module _ {V K C : Type 0} (v : V → C) where
  -- the last one of those that are left
  pub name_stored : (o : Option (Bor (Expr V K × Option (Expr V K)) × Bor (List (Expr V K × Option (Expr V K))))) (p : Bor (Expr V K × Option (Expr V K)) × Bor (List (Expr V K × Option (Expr V K)))) → o ≡ Some p → AreNames (names_of v (left_of o)) → IsTarget (stored_as (pair_of v p.0.now))
  name_stored o p is w = name_target v (left_of o) p.1.now p.0.now (stored_as (pair_of v p.0.now)) (ap left_of is) w refl

  pub names_left : (o o' : Option (Bor (Expr V K × Option (Expr V K)) × Bor (List (Expr V K × Option (Expr V K))))) (p : Bor (Expr V K × Option (Expr V K)) × Bor (List (Expr V K × Option (Expr V K)))) → o ≡ Some p → left_of o' ≡ p.1.now → AreNames (names_of v (left_of o)) → AreNames (names_of v (left_of o'))
  names_left o o' p is e w = subst (λ xs. AreNames (names_of v xs)) (sym e) (names_before v (left_of o) p.1.now p.0.now (ap left_of is) w)

  module _ {F : Type 0} (f : Functions C F) where
    pub stores_step : {old now next : Made C} {whole : Piece C} (o o' : Option (Bor (Expr V K × Option (Expr V K)) × Bor (List (Expr V K × Option (Expr V K))))) (p : Bor (Expr V K × Option (Expr V K)) × Bor (List (Expr V K × Option (Expr V K)))) → o ≡ Some p → left_of o' ≡ p.1.now → Adds now next (target f (stored_as (pair_of v p.0.now))) → Leads old now (storing_back f (names_of v (left_of o))) whole → Leads old next (storing_back f (names_of v (left_of o'))) whole
    stores_step {old} {next = next} {whole} o o' p is e s l =
        subst (λ xs. Leads old next (storing_back f (names_of v xs)) whole) (sym e) (stores_next v f (left_of o) p.1.now p.0.now (stored_as (pair_of v p.0.now)) (ap left_of is) refl s l)
