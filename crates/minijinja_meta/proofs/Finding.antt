-- What a walk from nothing has found.
use Rattle.std.proofs.Common.{◌≡◌, ◌++◌, refl, sym, ap, ap₂, ◌∙◌, subst}
use Rattle.std.specs.Prelude.{Bool, true, false, not, if◌then◌else◌, All, List, [], ◌∷◌, map}
use Rattle.std.proofs.lemmas.List.{append-nil}
use Rattle.std.proofs.lemmas.List.Elements.{All-nil}
use Rattle.minijinja_tree_expr.specs.declared.ast.Expr.{Expr}
use Rattle.minijinja_tree.specs.declared.ast.Stmt.{Stmt}
use Rattle.minijinja_tree.specs.declared.ast.Macro.{Macro as Node}
use Rattle.minijinja_tree.specs.Erasure as erasure
use Rattle.minijinja_tree.specs.FreeNames as bare
use Rattle.minijinja_tree.specs.Tree as tree
use Rattle.minijinja_tree.specs.SpannedErasure.{stmt_node, trees}
use Rattle.minijinja_tree.specs.SpannedTrees.{bare_list, bare_macro, bare_stmts, stmts_of}
use Rattle.minijinja_tree.proofs.Bare.{stmt_is}
use Rattle.minijinja_tree_expr.proofs.Bare.{expr_is}
use Rattle.minijinja_meta.specs.Mentions.{Way, end, declared, dotted, free, free_of, in_order, marked, names_of, nested_names, occurrences, plain_names, through_macro}
use Rattle.minijinja_meta.specs.Occurrences.{IsChain, found_of, macros_of}
use Rattle.minijinja_meta.specs.declared.walker.Walker.{Walker}
use Rattle.minijinja_meta.specs.private.Walked.{AreAlike, IsNew, Walks}
use Rattle.minijinja_meta.specs.private.Written.{name_written}
use Rattle.minijinja_meta.specs.private.Ways.{macro_node, nowhere}
use Rattle.minijinja_meta.proofs.Alike.{alike-on, alike-same, as-wanted, free_names}
use Rattle.minijinja_meta.proofs.Bare as ways
use Rattle.minijinja_meta.proofs.Bare.{macro_is}
use Rattle.minijinja_meta.proofs.Ordering.{in_order-same}

module _ {V F C : Type 0} (c : V → C) (s t : Walker V F) (names_only : Bool) (new : IsNew s names_only) (v : Way → Way) (walked : Walks c s t v) where
  all-notes : AreAlike names_only (occurrences (v end), declared (v end)) (found_of c t.found.items, macros_of t.macros.items)
  all-notes =
      as-wanted new.wanted
      (alike-on
      (alike-same (ap₂ (λ a b. (a, b)) (ap₂ (λ os xs. found_of c os ++ marked xs (v end)) (sym new.found) (sym new.log)) (ap (λ ms. macros_of ms ++ declared (v end)) (sym new.macros))))
      (alike-on (walked.notes end) (alike-same (ap₂ (λ a b. (a, b)) (append-nil (found_of c t.found.items)) (append-nil (macros_of t.macros.items))))))

  -- where all is wanted
  pub found-is : names_only ≡ false → found_of c t.found.items ≡ occurrences (v end)
  found-is all = sym (as-wanted all all-notes).found

  -- where only names are
  pub names-are : names_only ≡ true → in_order (free_names (found_of c t.found.items)) ≡ in_order (names_of (free (v end)))
  names-are only = in_order-same (free_names (found_of c t.found.items)) (names_of (free (v end))) (λ y. sym ((as-wanted only all-notes).found y))

  pub macros-are : macros_of t.macros.items ≡ declared (v end)
  macros-are = sym all-notes.macros

  pub chains-are : All (IsChain c) t.found.items
  chains-are = walked.chains (subst (All (IsChain c)) (sym new.found) (All-nil (IsChain c)))

-- ---- a macro by itself

list-is : {V F C : Type 0} (c : V → C) (es : List (Expr V F)) → bare_list (trees c es) ≡ map (erasure.expr_tree c) es
list-is c [] = refl
list-is c (e ∷ es) = ap₂ ◌∷◌ (expr_is c e) (list-is c es)

stmts-are : {V F C : Type 0} (c : V → C) (ss : List (Stmt V F)) → bare_stmts (stmts_of (map (stmt_node c) ss)) ≡ tree.stmts_of (map (erasure.stmt_tree c) ss)
stmts-are c [] = refl
stmts-are c (s ∷ ss) = ap₂ tree.also (stmt_is c s) (stmts-are c ss)

macro-is : {V F C : Type 0} (c : V → C) (m : Node V F) → bare_macro (macro_node c m nowhere) ≡ erasure.macro_tree c m
macro-is c m =
    ap₂ (λ es ds. tree.macro tt m.name.now es ds (bare_stmts (stmts_of (map (stmt_node c) m.body.items)))) (list-is c m.args.items) (list-is c m.defaults.items)
    ∙ ap (tree.macro tt m.name.now (map (erasure.expr_tree c) m.args.items) (map (erasure.expr_tree c) m.defaults.items)) (stmts-are c m.body.items)

-- its closure
pub closure-is : {V F C : Type 0} (c : V → C) (m : Node V F) → in_order (names_of (free (through_macro (macro_node c m nowhere) end))) ≡ bare.closure (erasure.macro_tree c m)
closure-is c m =
    ap in_order (ways.free_names (through_macro (macro_node c m nowhere) end) ∙ ap bare.free (macro_is (macro_node c m nowhere) end)) ∙ ap bare.closure (macro-is c m)

-- ---- a whole tree

module _ {V F C : Type 0} (c : V → C) (s t : Walker V F) where
  -- its names, with their attributes or without them
  pub written-is : (b : Bool) → (new : IsNew s (not b)) → (v : Way → Way) → Walks c s t v → in_order (map (name_written b) (free_of (found_of c t.found.items))) ≡ (if b then nested_names (v end) else plain_names (v end))
  written-is true new v walked = ap (λ os. in_order (map dotted (free_of os))) (found-is c s t false new v walked refl)
  written-is false new v walked = names-are c s t true new v walked refl
