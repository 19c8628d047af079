use Rattle.std.proofs.Common.{◌≡◌, ◌≤◌, drop, length}
use Rattle.std.specs.Prelude.{reverse}
use Rattle.minijinja_tree.specs.Erasure.{expr_tree, exprs_of}
use Rattle.minijinja_tree.specs.WellFormed.{IsWhole, AreWhole}
use Rattle.minijinja_tree_expr.specs.declared.ast.Expr.{size-Expr}
use Rattle.minijinja_semantics.specs.Layout.{expr, items, count_positional, positional, count_keyword, keyword}
use Rattle.minijinja_emitter.specs.internal.AtEmitter.{made_of, margin_of}
use Rattle.minijinja_emitter.specs.internal.Making.{Made, Adds}
use Rattle.minijinja_code_expr.specs.internal.Parts.{count_of}
use Rattle.minijinja_code_expr.specs.private.PendingNodes.{pending_of}
use Rattle.minijinja_code_expr.proofs.InOrder.{Leads, pairs}
use Rattle.minijinja_tree.specs.SpannedErasure.{expr_node}
use Rattle.minijinja_tree.specs.SpannedErasure as node
use Rattle.minijinja_semantics.specs.Marks as marks
use Rattle.minijinja_code_expr.proofs.PendingMarks.{after}
use Rattle.minijinja_code_expr.proofs.PendingNodes.{Rest}
use Rattle.minijinja_tree_expr.specs.declared.ast.Compare.{out-Compare}
use Rattle.minijinja_code_expr.specs.private.Comparing.{places_of}
use Rattle.minijinja_code_expr.proofs.ChainMarking.{ahead_marks}
use Rattle.minijinja_code_expr.proofs.ChainTurns.{Turning}
use Rattle.minijinja_code_expr.proofs.ItemMarks.{item_marks, pair_marks}
use Rattle.minijinja_code_expr.proofs.NodeMarking.{Later}
use Rattle.minijinja_code_expr.proofs.CallArguments.{Taken}
use Rattle.minijinja_code_expr.proofs.+expr.Given as goal

-- whoever makes the part makes the whole, with the nodes that wait
abbrev pub invariant-expr::nested-loop-code : goal.invariant-expr::nested-loop-code
invariant-expr::nested-loop-code g l =
    let c = g.V.TemplateValue.contents in
    let f = g.V.TemplateValue.functions in
    let n = size-Expr g.row.V.Denot g.row.V-Fault.Denot l.fn.expr in
    record {
      whole : IsWhole (expr_tree c l.part);
      small : size-Expr g.row.V.Denot g.row.V-Fault.Denot l.part ≤ n;
      rest : (later : Made g.V.TemplateValue.Contents) → Adds (made_of c l.code) later (expr f (expr_tree c l.part)) →
          Rest f c (made_of c l.fn.code) (expr_tree c l.fn.expr) n (reverse (pending_of l.pending)) later;
      marks : after f c (reverse (pending_of l.pending)) (marks.expr f (expr_node c l.part) (margin_of l.code)) ≡ marks.expr f (expr_node c l.fn.expr) (margin_of l.fn.code);
    }

abbrev pub decreases-expr::nested-loop-code : goal.decreases-expr::nested-loop-code
decreases-expr::nested-loop-code g l = size-Expr g.row.V.Denot g.row.V-Fault.Denot l.part

abbrev pub invariant-expr::nested-loop-last : goal.invariant-expr::nested-loop-last
invariant-expr::nested-loop-last g l =
    let c = g.V.TemplateValue.contents in
    let f = g.V.TemplateValue.functions in
    record {
      rest : Rest f c (made_of c l.fn.code) (expr_tree c l.fn.expr) (size-Expr g.row.V.Denot g.row.V-Fault.Denot l.fn.expr) (reverse (pending_of l.pending)) (made_of c l.code);
      marks : after f c (reverse (pending_of l.pending)) (margin_of l.code) ≡ marks.expr f (expr_node c l.fn.expr) (margin_of l.fn.code);
    }

abbrev pub decreases-expr::nested-loop-last : goal.decreases-expr::nested-loop-last
decreases-expr::nested-loop-last g l = length (pending_of l.pending)

abbrev pub invariant-expr::literal-loop-item : goal.invariant-expr::literal-loop-item
invariant-expr::literal-loop-item g l =
    let c = g.V.TemplateValue.contents in
    let f = g.V.TemplateValue.functions in
    record {
      whole : AreWhole (exprs_of c (drop l.item-index l.item-items));
      leads : Leads (made_of c l.initial.code) (made_of c l.code) (items f (exprs_of c (drop l.item-index l.item-items))) (items f (exprs_of c l.item-items));
      marks : item_marks f c (drop l.item-index l.item-items) (margin_of l.code) ≡ item_marks f c l.item-items (margin_of l.initial.code);
    }

abbrev pub invariant-expr::literal-loop-item-2 : goal.invariant-expr::literal-loop-item-2
invariant-expr::literal-loop-item-2 g l =
    let c = g.V.TemplateValue.contents in
    let f = g.V.TemplateValue.functions in
    record {
      whole : AreWhole (exprs_of c (drop l.item-index l.item-items));
      leads : Leads (made_of c l.initial.code) (made_of c l.code) (items f (exprs_of c (drop l.item-index l.item-items))) (items f (exprs_of c l.item-items));
      marks : item_marks f c (drop l.item-index l.item-items) (margin_of l.code) ≡ item_marks f c l.item-items (margin_of l.initial.code);
    }

abbrev pub invariant-expr::literal-loop-i : goal.invariant-expr::literal-loop-i
invariant-expr::literal-loop-i g l =
    let c = g.V.TemplateValue.contents in
    let f = g.V.TemplateValue.functions in
    record {
      leads : Leads (made_of c l.initial.code) (made_of c l.code) (pairs f c (drop l.i l.map.keys.items) (drop l.i l.map.values.items)) (pairs f c l.map.keys.items l.map.values.items);
      marks : pair_marks f c (drop l.i l.map.keys.items) (drop l.i l.map.values.items) (margin_of l.code) ≡ pair_marks f c l.map.keys.items l.map.values.items (margin_of l.initial.code);
      keys : AreWhole (exprs_of c (drop l.i l.map.keys.items));
      values : AreWhole (exprs_of c (drop l.i l.map.values.items));
    }

abbrev pub invariant-chain::compare-loop-i : goal.invariant-chain::compare-loop-i
invariant-chain::compare-loop-i g l =
    let v = g.V.TemplateValue.contents in
    let chain = out-Compare g.row.V.Denot g.row.V-Fault.Denot l.chain in
    record {
      turning : Turning g.V.TemplateValue.functions v (made_of v l.fn.code) (expr_tree v chain.expr) chain.ops.items l.start l.i (made_of v l.code) (places_of l.jumps) l.last;
      later : Later (margin_of l.fn.code) (margin_of l.code);
      marks : ahead_marks g.V.TemplateValue.functions v chain.ops.items l.i (margin_of l.code) ≡ ahead_marks g.V.TemplateValue.functions v chain.ops.items 0 (margin_of l.fn.code);
    }

abbrev pub invariant-arguments::positional_arguments-loop-arg : goal.invariant-arguments::positional_arguments-loop-arg
invariant-arguments::positional_arguments-loop-arg g l =
    let v = g.V.TemplateValue.contents in
    record {
      taken : Taken v (positional g.V.TemplateValue.functions) count_positional l.args l.front (made_of v l.fn.code) (made_of v l.code) l.arg-index (count_of l.count);
      marks : marks.positional g.V.TemplateValue.functions (node.args_of v (drop l.arg-index l.args)) (count_of l.count).waiting (margin_of l.code) ≡ marks.positional g.V.TemplateValue.functions (node.args_of v l.args) l.front (margin_of l.fn.code);
    }

abbrev pub invariant-arguments::keyword_pairs-loop-arg : goal.invariant-arguments::keyword_pairs-loop-arg
invariant-arguments::keyword_pairs-loop-arg g l =
    let v = g.V.TemplateValue.contents in
    record {
      taken : Taken v (keyword g.V.TemplateValue.functions) count_keyword l.args 0 (made_of v l.fn.code) (made_of v l.code) l.arg-index (count_of l.count);
      marks : marks.keyword g.V.TemplateValue.functions (node.args_of v (drop l.arg-index l.args)) (count_of l.count).waiting (margin_of l.code) ≡ marks.keyword g.V.TemplateValue.functions (node.args_of v l.args) 0 (margin_of l.fn.code);
    }
