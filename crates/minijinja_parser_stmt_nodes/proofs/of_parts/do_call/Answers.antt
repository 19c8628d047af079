use Rattle.std.proofs.Common.{◌≡◌, ◌∙◌, IfOk, sym, refl, subst}
use Rattle.minijinja_tree_expr.specs.declared.ast.Expr.TheVariants as expr
use Rattle.minijinja_tree.specs.SpannedErasure.{stmt_node}
use Rattle.minijinja_parser_stmt.specs.internal.Made.{statement_tree}
use Rattle.minijinja_parser_stmt_nodes.proofs.Calls.{do_call_is}
use Rattle.minijinja_parser_stmt_nodes.proofs.of_parts.do_call.Goals as goal

pub returns : goal.returns
unfolding statement_tree
returns g c =
    let v = g.V.TemplateValue.contents in
    record {
      tree = rw (c.requires.kind, sym c.take.ensures.value ∙ c.call_of.ensures)
          (subst (λ t. IfOk c.do_call.result (λ s. stmt_node v s ≡ t)) (do_call_is v (expr.Call c.call_of.result) c.call_of.result c.args.span refl) c.do_call.ensures.tree);
    }
