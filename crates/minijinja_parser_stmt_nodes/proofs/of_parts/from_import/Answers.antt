use Rattle.std.proofs.Common.{◌≡◌, ◌∙◌, IfOk, sym, subst}
use Rattle.minijinja_tree.specs.SpannedErasure.{expr_node, stmt_node}
use Rattle.minijinja_tree.specs.SpannedTrees as tree
use Rattle.minijinja_parser_stmt.specs.internal.Made.{statement_tree}
use Rattle.minijinja_parser_stmt_nodes.proofs.Aliases.{aliases_are}
use Rattle.minijinja_parser_stmt_nodes.proofs.of_parts.from_import.Goals as goal

pub returns : goal.returns
unfolding statement_tree
returns g c =
    let v = g.V.TemplateValue.contents in
    record {
      tree = rw (c.requires.kind, sym c.take.ensures.value ∙ c.unwrap-expr.ensures, sym c.taken-names.ensures)
          (subst (λ ns. IfOk c.from_import.result (λ s. stmt_node v s ≡ tree.from_import (expr_node v c.unwrap-expr.result) ns c.args.span)) (aliases_are v c.taken-names.result.items) c.from_import.ensures.tree);
    }
