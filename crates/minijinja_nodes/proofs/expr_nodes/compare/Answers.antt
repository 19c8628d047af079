use Rattle.std.proofs.Common.{Vec, Global, ap₂, ◌≡◌, ap, ◌∙◌}
use Rattle.minijinja_syntax.specs.declared.tokens.Span.{Span}
use Rattle.minijinja_tree_expr.specs.SpannedTrees as tree
use Rattle.minijinja_tree_expr.specs.SpannedTrees.{comparisons_of}
use Rattle.minijinja_tree_expr.specs.SpannedErasure.{expr_node, compare_node, all_compared}
use Rattle.minijinja_tree_expr.specs.declared.ast.Compare.{Compare, out-Compare, roll-Compare, out-roll-Compare}
use Rattle.minijinja_tree_expr.specs.declared.ast.CompareOp.{CompareOp}
use Rattle.minijinja_tree_expr.specs.declared.ast.Expr.{Expr}
use Rattle.minijinja_tree_expr.proofs.NodeRows.{compare_is}
use Rattle.minijinja_nodes.proofs.expr_nodes.compare.Goals as goal

chained : {V F C : Type 0} (c : V → C) (q : Compare V F) (e : Expr V F) (os : Vec (CompareOp V F) Global) (s t : Span) →
    q ≡ roll-Compare V F (record { expr = e; ops = os }) → s ≡ t → compare_node c q s ≡ tree.compare (expr_node c e) (comparisons_of (all_compared c os.items)) t
chained {V} {F} c q e os s t h i =
    let o = ap (out-Compare V F) h ∙ out-roll-Compare V F (record { expr = e; ops = os }) in
    compare_is c q s ∙
    ap₂ (λ x xs. tree.compare (expr_node c x) (comparisons_of (all_compared c xs)) s) (ap (λ r. r.expr) o) (ap (λ r. r.ops.items) o) ∙
    ap (tree.compare (expr_node c e) (comparisons_of (all_compared c os.items))) i

pub returns : goal.returns
returns g c = record { tree = chained g.V.TemplateValue.contents _ c.args.expr c.args.ops _ c.args.span c.in_ok-spanned.ensures.node c.in_ok-spanned.ensures.span }
