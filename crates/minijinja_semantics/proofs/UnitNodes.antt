-- What of a tree can be entered does not depend on the labels of its loops and macros.
use Rattle.std.proofs.Common.{◌≡◌, List, [], ◌∷◌, ◌++◌, refl, ap, ◌∙◌}
use Rattle.std.specs.Prelude.{Bool, true, false, map}
use Rattle.minijinja_tree.specs.Callees.{Callee, function, method, block, object, callee}
use Rattle.minijinja_tree.specs.Tree.{Stmt, template, data_text, output, assignment, for_loop, if_cond, with_block, set_block, auto_escape, filter_block, named_block, extends, include, import_all, from_import, declare, call_block, do_call, break_loop, continue_loop, Stmts, done, also, Macro, macro, parameters, are_any}
use Rattle.minijinja_semantics.specs.Naming.{relabel, relabel_all, relabel_macro}
use Rattle.minijinja_semantics.specs.Units.{Enterable, RecursiveLoop, MacroBody, relabel_enterable, and_if, if_coded, enterable, all_enterable, enterable_macro}

module _ {C L M : Type 0} (g : L → M) where
  -- with other labels
  abbrev others : List (Enterable C L) → List (Enterable C M)
  others = map (relabel_enterable g)

  others_append : (us vs : List (Enterable C L)) (xs ys : List (Enterable C M)) → others us ≡ xs → others vs ≡ ys → others (us ++ vs) ≡ xs ++ ys
  others_append [] vs xs ys e e' = e' ∙ ap (λ zs. zs ++ ys) e
  others_append (u ∷ us) vs xs ys e e' = ap (λ zs. relabel_enterable g u ∷ zs) (others_append us vs (others us) ys refl e') ∙ ap (λ zs. zs ++ ys) e

  others_own : (recursive : Bool) (u : Enterable C L) (us : List (Enterable C L)) (x : Enterable C M) (xs : List (Enterable C M)) → relabel_enterable g u ≡ x → others us ≡ xs → others (and_if recursive u us) ≡ and_if recursive x xs
  others_own true u us x xs e e' = ap (λ y. y ∷ others us) e ∙ ap (λ ys. x ∷ ys) e'
  others_own false u us x xs e e' = e'

  others_coded : (c : Callee C) (us : List (Enterable C L)) (xs : List (Enterable C M)) → others us ≡ xs → others (if_coded c us) ≡ if_coded c xs
  others_coded (function x) us xs e = e
  others_coded (method o x) us xs e = e
  others_coded (block x) us xs e = refl
  others_coded (object o) us xs e = e

  any_other : (ss : Stmts C L) → are_any ss ≡ are_any (relabel_all g ss)
  any_other done = refl
  any_other (also s rest) = refl

  mutual
    pub enterable_same : (s : Stmt C L) → map (relabel_enterable g) (enterable s) ≡ enterable (relabel g s)
    enterable_same (template ss) = all_enterable_same ss
    enterable_same (data_text t) = refl
    enterable_same (output e) = refl
    enterable_same (assignment target e) = refl
    enterable_same (for_loop n target e only recursive body else_body) =
        others_own recursive (RecursiveLoop n target body (are_any else_body)) (all_enterable body ++ all_enterable else_body) _ _
        (ap (λ (t : Bool). RecursiveLoop (g n) target (relabel_all g body) t) (any_other else_body))
        (others_append (all_enterable body) _ _ _ (all_enterable_same body) (all_enterable_same else_body))
    enterable_same (if_cond e true_body false_body) = others_append (all_enterable true_body) _ _ _ (all_enterable_same true_body) (all_enterable_same false_body)
    enterable_same (with_block ts body) = all_enterable_same body
    enterable_same (set_block target chain body) = all_enterable_same body
    enterable_same (auto_escape e body) = all_enterable_same body
    enterable_same (filter_block chain body) = all_enterable_same body
    enterable_same (named_block x required body) = refl
    enterable_same (extends e) = refl
    enterable_same (include e ignore) = refl
    enterable_same (import_all e target) = refl
    enterable_same (from_import e names) = refl
    enterable_same (declare m) = enterable_macro_same m
    enterable_same (call_block e args m) = others_coded (callee e) (enterable_macro m) (enterable_macro (relabel_macro g m)) (enterable_macro_same m)
    enterable_same (do_call e args) = refl
    enterable_same break_loop = refl
    enterable_same continue_loop = refl

    pub all_enterable_same : (ss : Stmts C L) → map (relabel_enterable g) (all_enterable ss) ≡ all_enterable (relabel_all g ss)
    all_enterable_same done = refl
    all_enterable_same (also s rest) = others_append (enterable s) _ _ _ (enterable_same s) (all_enterable_same rest)

    enterable_macro_same : (m : Macro C L) → map (relabel_enterable g) (enterable_macro m) ≡ enterable_macro (relabel_macro g m)
    enterable_macro_same (macro n x args defaults body) = ap (λ us. MacroBody (g n) (parameters args defaults) (relabel_all g body) ∷ us) (all_enterable_same body)
