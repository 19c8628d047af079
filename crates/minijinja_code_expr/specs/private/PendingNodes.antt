-- Nodes that wait for their leading operands, as a list.
use Rattle.std.specs.Prelude.{List, ◌++◌}
use Rattle.std.specs.Option.{option_to_list}
use Rattle.minijinja_code_expr.specs.declared.pending.PendingNode.{PendingNode}
use Rattle.minijinja_code_expr.specs.declared.pending.PendingNodes.{PendingNodes}

abbrev pub pending_of : {V F : Type 0} → PendingNodes V F → List (PendingNode V F)
pending_of w = option_to_list w.first ++ w.others.items
