use Rattle.std.proofs.Common.{rules, arith, ◌∙◌, ◌<◌, length, refl, ap, subst}
use Rattle.minijinja_tree.specs.Erasure.{expr_tree, exprs_of}
use Rattle.minijinja_tree.specs.Nodes.{node_of}
use Rattle.minijinja_tree.specs.SpannedErasure as node
use Rattle.minijinja_tree.specs.WellFormed.{IsTarget}
use Rattle.minijinja_tree_expr.proofs.SpannedNodes.{compare_is}
use Rattle.minijinja_tree_expr.specs.declared.ast.Expr.{the_lemmas}
use Rattle.minijinja_tree_expr.specs.SpannedTrees as spanned
use Rattle.minijinja_semantics.specs.Layout as layout
use Rattle.minijinja_semantics.specs.Marks as marks
use Rattle.minijinja_semantics.specs.Code.{UnpackList}
use Rattle.minijinja_semantics.specs.Pieces.{one}
use Rattle.minijinja_emitter.specs.internal.AtEmitter.{made_of, margin_of}
use Rattle.minijinja_code_expr.proofs.Arms.{compare_arm}
use Rattle.minijinja_code_expr.proofs.InOrder.{leads_whole, leads_on, leads_end}
use Rattle.minijinja_code_parts.proofs.Marking.{adds_from, adds_to, list_marked, marked_end, marked_next, within_made}
use Rattle.minijinja_code_parts.proofs.TargetLists.{list_assigned, list_targets, target_here, targets_after, targets_end, targets_next}
use Rattle.minijinja_code_parts.proofs.targets.+assign.Goals as goal

pub unreachable-requires-in-Compare : goal.unreachable-requires-in-Compare
unreachable-requires-in-Compare g t c =
    let v = g.V.TemplateValue.contents in
    let n = node_of c.in-Compare.field-0 in
    subst (λ e. IsTarget e) (compare_arm v c.args.target.now c.in-Compare.field-0 n c.in-Compare.is refl ∙ compare_is v n) c.requires

pub loop-target-init : goal.loop-target-init
loop-target-init g t c =
    let v = g.V.TemplateValue.contents in
    let all = layout.targets g.V.TemplateValue.functions (exprs_of v c.deref-target-items.result.now) in
    record {
      are_targets = list_targets v c.args.target.now c.in-List.list c.node-in-List.result.now c.deref-target-items.result.now c.in-List.is c.node-in-List.ensures c.deref-target-items.ensures.value c.requires;
      marked = refl;
      leads = leads_whole (made_of v c.add-in-List.new.self) all all refl;
    }

pub assign-requires : goal.assign-requires
assign-requires g t c =
    let v = g.V.TemplateValue.contents in
    let l = c.loop-target in
    let xs = c.deref-target-items.result.now in
    let x = c.target-item.result in
    let within : l.target-index < length xs = omega arith in
    λ κs live. (search (rules, the_lemmas, within), (search rules, (search rules, target_here v xs l.target-index x within c.target-item.is l.invariant.are_targets)))

pub loop-target-preserved : goal.loop-target-preserved
loop-target-preserved g t c =
    let v = g.V.TemplateValue.contents in
    let f = g.V.TemplateValue.functions in
    let l = c.loop-target in
    let xs = c.deref-target-items.result.now in
    let x = c.target-item.result in
    let within : l.target-index < length xs = omega arith in
    record {
      are_targets = targets_after v xs l.target-index x within l.invariant.are_targets;
      marked = marked_next (λ ys. marks.targets f (spanned.exprs_of (node.trees v ys))) (λ y t. marks.target f (node.expr_node v y) t) (λ y ys t. refl) xs l.target-index x (margin_of l.code) (margin_of c.assign.new.code) within c.target-item.is c.in_ok-assign-in-List.ensures.marked l.invariant.marked;
      leads = leads_on (layout.target f (expr_tree v x)) _ (targets_next f v xs l.target-index x within c.target-item.is) c.in_ok-assign-in-List.ensures.added l.invariant.leads;
    }

pub returns-after-loop-target-clause-added : goal.returns-after-loop-target-clause-added
returns-after-loop-target-clause-added g t c =
    let v = g.V.TemplateValue.contents in
    let f = g.V.TemplateValue.functions in
    let n = c.node-in-List.result.now in
    let l = c.loop-target in
    let xs = c.deref-target-items.result.now in
    let added = list_assigned f v c.args.target.now c.in-List.list n xs c.len.result c.in-List.is c.node-in-List.ensures c.deref-target-items.ensures.value (omega (arith, c.len.ensures, n.items.ok.0))
    (adds_from (one (UnpackList c.len.result)) c.open-outer-in-List.ensures.made c.in_ok-add-in-List.ensures.added) (leads_end (targets_end f v xs l.target-index (omega arith)) l.invariant.leads) in
    adds_to (layout.target f (expr_tree v c.args.target.now)) c.close-in-List.ensures.made added

pub returns-after-loop-target-clause-marked : goal.returns-after-loop-target-clause-marked
returns-after-loop-target-clause-marked g t c =
    let v = g.V.TemplateValue.contents in
    let f = g.V.TemplateValue.functions in
    let l = c.loop-target in
    let xs = c.deref-target-items.result.now in
    let m = margin_of c.args.code.now in
    let all = spanned.exprs_of (node.trees v xs) in
    let inner = marked_end (λ ys. marks.targets f (spanned.exprs_of (node.trees v ys))) (λ k. refl) xs l.target-index (margin_of l.code) (omega arith) l.invariant.marked ∙ ap (marks.targets f all) c.in_ok-add-in-List.ensures.marked in
    list_marked f v c.args.target.now c.in-List.list c.node-in-List.result.now xs c.span-in-List.result m c.in-List.is c.node-in-List.ensures c.span-in-List.ensures c.deref-target-items.ensures.value
    (within_made (λ k. marks.targets f all (marks.here 1 k)) m refl c.open-outer-in-List.ensures.outer c.open-outer-in-List.ensures.marked inner c.close-in-List.ensures.marked)
