-- Nodes that are added one after another.
use Rattle.std.proofs.Common.{◌≡◌, ◌++◌, append_assoc, sym, ap, ◌∙◌, subst}
use Rattle.std.specs.Prelude.{List, [], ◌∷◌, Result, Ok, Err, OnOk}
use Rattle.std.proofs.lemmas.List.{append-nil, map-append}
use Rattle.minijinja_walk.specs.Children as tree
use Rattle.minijinja_walk.specs.Nodes.{tree_of, trees_of}
use Rattle.minijinja_walk.specs.private.Added.{Adds}
use Rattle.minijinja_walk.specs.declared.walk.Node.{Node}

module _ {V F C : Type 0} (c : V → C) where
  pub adds-nothing : (s : List (Node V F)) (ts : List (tree.Node C)) → ts ≡ [] → Adds c s s ts
  adds-nothing s ts is = sym (ap (λ l. trees_of c s ++ l) is ∙ append-nil (trees_of c s))

  pub adds-one : (s t : List (Node V F)) (n : Node V F) → t ≡ s ++ n ∷ [] → Adds c s t (tree_of c n ∷ [])
  adds-one s t n is = ap (trees_of c) is ∙ map-append (tree_of c) s (n ∷ [])

  -- some nodes, and then others
  pub adds-on : (s t u : List (Node V F)) (xs ys : List (tree.Node C)) → Adds c s t xs → Adds c t u ys → Adds c s u (xs ++ ys)
  adds-on s t u xs ys h k = k ∙ ap (λ l. l ++ ys) h ∙ append_assoc (trees_of c s) xs ys

  -- the last call may fail
  pub then-adds : {R E : Type 0} (r : Result R E) (s t u : List (Node V F)) (xs ys : List (tree.Node C)) → Adds c s t xs → OnOk r (Adds c t u ys) → OnOk r (Adds c s u (xs ++ ys))
  then-adds (Err e) s t u xs ys h k = tt
  then-adds (Ok x) s t u xs ys h k = adds-on s t u xs ys h k

  pub adds-as : {R E : Type 0} (r : Result R E) (s t : List (Node V F)) (xs ys : List (tree.Node C)) → xs ≡ ys → OnOk r (Adds c s t xs) → OnOk r (Adds c s t ys)
  adds-as r s t xs ys same h = subst (λ l. OnOk r (Adds c s t l)) same h
