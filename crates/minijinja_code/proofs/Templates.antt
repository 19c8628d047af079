-- What holds of a template's statements holds of the template.
use Rattle.std.proofs.Common.{◌≡◌, ◌∙◌, map, ap, sym}
use Rattle.minijinja_tree.specs.Nodes.{node_of}
use Rattle.minijinja_tree.specs.Tree as tree
use Rattle.minijinja_tree.specs.Tree.{stmts_of}
use Rattle.minijinja_tree.specs.Erasure.{stmt_tree}
use Rattle.minijinja_tree_expr.specs.declared.ast.Spanned.{Spanned}
use Rattle.minijinja_tree.specs.declared.ast.Template.{Template}
use Rattle.minijinja_tree.specs.declared.ast.Stmt.TheVariants as stmt
use Rattle.minijinja_tree.proofs.Rows.{template_is}

-- the tree of a statement that is a template with these children
pub tree_is : {V F C : Type 0} (c : V → C) (s : _) (t : Spanned (Template V F)) (n : Template V F) (xs : _) → s ≡ stmt.Template t → n ≡ node_of t → xs ≡ n.children.items → stmt_tree c s ≡ tree.template (stmts_of (map (stmt_tree c) xs))
tree_is c s t n xs e f h = ap (stmt_tree c) e ∙ template_is c t ∙ ap (λ (m : Template _ _). tree.template (stmts_of (map (stmt_tree c) m.children.items))) (sym f) ∙ ap (λ ys. tree.template (stmts_of (map (stmt_tree c) ys))) (sym h)
