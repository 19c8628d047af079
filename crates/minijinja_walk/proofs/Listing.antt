-- Loops that add the nodes of one item of a list after another.
use Rattle.std.proofs.Common.{◌≡◌, ℕ, ◌+◌, ◌<◌, ◌≤◌, ◌++◌, length, drop, get_or, append_assoc, sym, ap, ◌∙◌}
use Rattle.std.specs.Prelude.{List, [], ◌∷◌}
use Rattle.std.proofs.lemmas.List.{append-nil, at_drop_all, at_drop_more}
use Rattle.minijinja_walk.specs.Children as tree
use Rattle.minijinja_walk.specs.Nodes.{trees_of}
use Rattle.minijinja_walk.specs.private.Added.{Adds}
use Rattle.minijinja_walk.specs.declared.walk.Node.{Node}

-- the nodes of a list are those of its first item, and then those of the others
pub record IsByItems {X A : Type 0} (f : List X → List A) (g : X → List A) : Type 0 where
  pub none : f [] ≡ []
  pub more : (x : X) (xs : List X) → f (x ∷ xs) ≡ g x ++ f xs

-- with those of the items from a place on, these are the nodes of all items after those at first
abbrev pub Adding : {V F C X : Type 0} → (V → C) → (List X → List (tree.Node C)) → List X → (first now : List (Node V F)) → ℕ → Type 0
Adding c f xs first now i = trees_of c now ++ f (drop i xs) ≡ trees_of c first ++ f xs

module _ {V F C X : Type 0} (c : V → C) (f : List X → List (tree.Node C)) (g : X → List (tree.Node C)) (by_items : IsByItems f g) (xs : List X) where
  pub adding-goes-on : (s t u : List (Node V F)) (i : ℕ) (x : X) → i < length xs → x ≡ get_or xs i x → Adding c f xs s t i → Adds c t u (g x) → Adding c f xs s u (i + 1)
  adding-goes-on s t u i x within is h k =
      let rest = f (drop (i + 1) xs) in
      let next : f (drop i xs) ≡ g x ++ rest = at_drop_more f xs i x within ∙ ap (λ y. f (y ∷ drop (i + 1) xs)) (sym is) ∙ by_items.more x (drop (i + 1) xs) in
      ap (λ l. l ++ rest) k ∙ append_assoc (trees_of c t) (g x) rest ∙ ap (λ l. trees_of c t ++ l) (sym next) ∙ h

  pub adding-ends : (s t : List (Node V F)) (i : ℕ) → length xs ≤ i → Adding c f xs s t i → Adds c s t (f xs)
  adding-ends s t i past h = sym (ap (λ l. trees_of c t ++ l) (at_drop_all f xs i past ∙ by_items.none) ∙ append-nil (trees_of c t)) ∙ h
