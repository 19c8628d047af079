use Rattle.std.proofs.Common.{◌≡◌, ◌∙◌, IfOk, codes, map, sym, refl, subst}
use Rattle.minijinja_tree_expr.specs.declared.ast.Expr.TheVariants as expr
use Rattle.minijinja_tree.specs.SpannedErasure.{expr_node, stmt_node}
use Rattle.minijinja_tree.specs.SpannedTrees.{macro_of}
use Rattle.minijinja_parser_stmt.specs.internal.Made.{param_of, statement_tree}
use Rattle.minijinja_parser_stmt_nodes.proofs.Calls.{call_block_is}
use Rattle.minijinja_parser_stmt_nodes.proofs.of_parts.call_block.Goals as goal

pub returns : goal.returns
unfolding statement_tree
returns g c =
    let v = g.V.TemplateValue.contents in
    record {
      tree = rw (c.requires.kind, sym c.take.ensures.value ∙ c.call_of-call.ensures, sym c.taken-names.ensures, sym c.taken.ensures)
          (subst (λ t. IfOk c.call_block.result (λ s. stmt_node v s ≡ t)) (call_block_is v (expr.Call c.call_of-call.result) c.call_of-call.result (macro_of (codes "caller") (map (param_of (expr_node v)) c.taken-names.result.items) (map (stmt_node v) c.taken.result.items) c.args.span) c.args.span refl)
          c.call_block.ensures.tree);
    }
