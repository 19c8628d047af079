-- The tree of a node without its spans is the bare tree of the node.
use Rattle.std.proofs.Common.{◌≡◌, refl, ap, ap₂, ◌∙◌}
use Rattle.std.specs.Prelude.{List, [], ◌∷◌, map, Option}
use Rattle.minijinja_tree_expr.specs.Nodes.{node_of}
use Rattle.minijinja_tree.specs.Erasure.{expr_tree, names_of, stmt_tree, stmts_tree}
use Rattle.minijinja_tree.specs.SpannedErasure.{trees, stmt_node, stmts_node}
use Rattle.minijinja_tree.specs.SpannedErasure as spanned
use Rattle.minijinja_tree.specs.SpannedTrees.{bare_list, bare_names, bare_stmt, bare_stmts}
use Rattle.minijinja_tree.specs.Tree as tree
use Rattle.minijinja_tree_expr.specs.declared.ast.Expr.{Expr}
use Rattle.minijinja_tree.specs.declared.ast.Stmt.TheBlock as stmt_block
use Rattle.minijinja_tree.specs.declared.ast.Stmt.{Stmt, Row_of-Stmt, end_of-Stmt, more_of-Stmt}
use Rattle.minijinja_tree.specs.declared.ast.Stmt.TheVariants.{Template', EmitExpr, EmitRaw, ForLoop', IfCond', WithBlock', Set, SetBlock', AutoEscape', FilterBlock', Block', Extends, Include, Import, FromImport, Macro', CallBlock', Continue, Break, Do}
use Rattle.minijinja_tree_expr.proofs.Bare.{expr_is, any_is, args_of_are, bindings_are}

ap₃ : {A B C D : Type 0} (f : A → B → C → D) {a a' : A} {b b' : B} {c c' : C} → a ≡ a' → b ≡ b' → c ≡ c' → f a b c ≡ f a' b' c'
ap₃ f {a} {a'} {b} {b'} {c} {c'} h k l = ap (λ x. f x b c) h ∙ ap (λ y. f a' y c) k ∙ ap (f a' b') l

list_is : {V F C : Type 0} (c : V → C) (es : List (Expr V F)) → bare_list (trees c es) ≡ map (expr_tree c) es
list_is c [] = refl
list_is c (e ∷ es) = ap₂ ◌∷◌ (expr_is c e) (list_is c es)

names_are : {V F C : Type 0} (c : V → C) (ns : List (Expr V F × Option (Expr V F))) → bare_names (spanned.names_of c ns) ≡ names_of c ns
names_are c [] = refl
names_are c (n ∷ ns) = ap₂ ◌∷◌ (ap₂ (λ e a. (e, a)) (expr_is c n.0) (any_is c n.1)) (names_are c ns)

mutual
  pub stmt_is : {V F C : Type 0} (c : V → C) (s : Stmt V F) → bare_stmt (stmt_node c s) ≡ stmt_tree c s
  stmt_is c (Template' p k xs s) = rw (stmts_are c xs) refl
  stmt_is c (EmitExpr s) = rw (expr_is c (node_of s).expr) refl
  stmt_is c (EmitRaw s) = refl
  stmt_is c (ForLoop' p t e only again k xs l ys s) = rw (expr_is c t, expr_is c e, any_is c only, stmts_are c xs, stmts_are c ys) refl
  stmt_is c (IfCond' p e k xs l ys s) = rw (expr_is c e, stmts_are c xs, stmts_are c ys) refl
  stmt_is c (WithBlock' p bs k xs s) = rw (bindings_are c bs.items, stmts_are c xs) refl
  stmt_is c (Set s) = rw (expr_is c (node_of s).target, expr_is c (node_of s).expr) refl
  stmt_is c (SetBlock' p t e k xs s) = rw (expr_is c t, any_is c e, stmts_are c xs) refl
  stmt_is c (AutoEscape' p e k xs s) = rw (expr_is c e, stmts_are c xs) refl
  stmt_is c (FilterBlock' p e k xs s) = rw (expr_is c e, stmts_are c xs) refl
  stmt_is c (Block' p x required k xs s) = rw (stmts_are c xs) refl
  stmt_is c (Extends s) = rw (expr_is c (node_of s).name) refl
  stmt_is c (Include s) = rw (expr_is c (node_of s).name) refl
  stmt_is c (Import s) = rw (expr_is c (node_of s).expr, expr_is c (node_of s).name) refl
  stmt_is c (FromImport s) = rw (expr_is c (node_of s).expr, names_are c (node_of s).names.items) refl
  stmt_is c (Macro' p x args defaults k xs s) = ap₃ (λ a d b. tree.declare (tree.macro tt x.now a d b)) (list_is c args.items) (list_is c defaults.items) (stmts_are c xs)
  stmt_is c (CallBlock' p (stmt_block.struct-CallBlock call q x args defaults k xs at) s) =
      ap₃ (λ e a m. tree.call_block e a m) (expr_is c (node_of call).expr) (args_of_are c (node_of call).args.items) (ap₃ (λ a d b. tree.macro tt x.now a d b) (list_is c args.items) (list_is c defaults.items) (stmts_are c xs))
  stmt_is c (Continue s) = refl
  stmt_is c (Break s) = refl
  stmt_is c (Do s) = rw (expr_is c (node_of (node_of s).call).expr, args_of_are c (node_of (node_of s).call).args.items) refl

  stmts_are : {V F C : Type 0} {m : _} (c : V → C) (row : Row_of-Stmt V F m) → bare_stmts (stmts_node c row) ≡ stmts_tree c row
  stmts_are c end_of-Stmt = refl
  stmts_are c (more_of-Stmt s rest) = rw (stmt_is c s, stmts_are c rest) refl
