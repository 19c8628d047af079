use Rattle.std.proofs.Common.{rules, arith, ◌≡◌, ◌+◌, ◌<◌, ◌∙◌, drop, length, refl, sym, ap}
use denote.Param.Weighed.{most}
use Rattle.minijinja_tree.specs.Erasure.{expr_tree, exprs_of}
use Rattle.minijinja_tree_expr.specs.declared.ast.Expr.{size-Expr, the_lemmas}
use Rattle.minijinja_semantics.specs.Pieces.{one}
use Rattle.minijinja_emitter.specs.internal.AtEmitter.{made_of}
use Rattle.minijinja_tree.specs.SpannedErasure.{expr_node}
use Rattle.minijinja_semantics.specs.Marks as marks
use Rattle.minijinja_emitter.specs.internal.AtEmitter.{margin_of}
use Rattle.minijinja_code_expr.proofs.ItemMarks.{item_marked, item_marks, pair_marked, pair_marks}
use Rattle.minijinja_emitter.proofs.Adding.{adds_as}
use Rattle.minijinja_code_expr.proofs.Arms.{list_arm, tuple_arm, map_arm, whole_list, whole_tuple, whole_pairs, whole_keys, whole_values}
use Rattle.minijinja_code_expr.proofs.Finishing.{finishes_as, list_loaded, list_finishes, tuple_loaded, tuple_finishes, map_loaded, map_finishes}
use Rattle.minijinja_code_expr.proofs.InOrder.{count_length, leads_whole, leads_on, leads_end, whole_here, whole_after, items_next, items_end, pairs, pairs_next, pairs_end}
use Rattle.minijinja_code_expr.proofs.CallArguments.{element_size}
use Rattle.minijinja_tree_expr.specs.declared.ast.List.{size-List, the_lemmas as list_lemmas}
use Rattle.minijinja_tree_expr.specs.declared.ast.Tuple.{size-Tuple, the_lemmas as tuple_lemmas}
use Rattle.minijinja_tree_expr.specs.declared.ast.Map.{size-Map, the_lemmas as map_lemmas}
use Rattle.minijinja_code_expr.proofs.LiteralNodes.{no_literal}
use Rattle.minijinja_code_expr.proofs.Results.{ok_gives}
use Rattle.minijinja_semantics.specs.Layout as layout
use Rattle.minijinja_code_expr.proofs.+expr.Goals as goal

pub expr::literal-unreachable-requires : goal.expr::literal-unreachable-requires
expr::literal-unreachable-requires g t c = no_literal g.V.TemplateValue.contents c.args.node.now c.in_default.not-List c.in_default.not-Tuple c.in_default.not-Map c.requires.literal

pub expr::literal-returns-then-branch-clause-added : goal.expr::literal-returns-then-branch-clause-added
expr::literal-returns-then-branch-clause-added g t c =
    let v = g.V.TemplateValue.contents in
    let f = g.V.TemplateValue.functions in
    let n = c.node-list.result.now in
    λ place. finishes_as f place (made_of v c.args.code.now) (made_of v c.load_list.new.code) (list_arm v c.args.node.now c.in-List.list n c.in-List.is c.node-list.ensures)
    (list_loaded f (exprs_of v n.items.items) c.in_ok-load_list-in-List.field-0 c.if-branch.true c.in_ok-load_list-in-List.ensures.added)

pub expr::literal-loop-item-init : goal.expr::literal-loop-item-init
expr::literal-loop-item-init g t c =
    let v = g.V.TemplateValue.contents in
    let all = layout.items g.V.TemplateValue.functions (exprs_of v c.deref-item-items.result.now) in
    record {
      whole = whole_list v c.args.node.now c.in-List.list c.node-list.result.now c.deref-item-items.result.now c.in-List.is c.node-list.ensures c.deref-item-items.ensures.value c.requires.whole;
      leads = leads_whole (made_of v c.load_list.new.code) all all refl;
      marks = refl;
    }

pub expr::literal-loop-item-preserved : goal.expr::literal-loop-item-preserved
expr::literal-loop-item-preserved g t c =
    let v = g.V.TemplateValue.contents in
    let f = g.V.TemplateValue.functions in
    let l = c.loop-item in
    let xs = c.deref-item-items.result.now in
    let x = c.item-item.result in
    let within : l.item-index < length xs = omega arith in
    record {
      whole = whole_after v xs l.item-index x within l.invariant.whole;
      leads = leads_on (layout.expr f (expr_tree v x)) _ (items_next f v xs l.item-index x within c.item-item.is) c.in_ok-expression-in-List.ensures.added l.invariant.leads;
      marks = ap (item_marks f v (drop (l.item-index + 1) xs)) c.in_ok-expression-in-List.ensures.marked ∙ sym (item_marked f v xs l.item-index x (margin_of l.code) within c.item-item.is) ∙ l.invariant.marks;
    }

pub expr::literal-expression-requires : goal.expr::literal-expression-requires
expr::literal-expression-requires g t c =
    let v = g.V.TemplateValue.contents in
    let l = c.loop-item in
    let n = c.node-list.result.now in
    let xs = c.deref-item-items.result.now in
    let x = c.item-item.result in
    let within : l.item-index < length xs = omega arith in
    let one = element_size (size-Expr g.row.V.Denot g.row.V-Fault.Denot) xs l.item-index x within c.item-item.is in
    let some : most (size-Expr g.row.V.Denot g.row.V-Fault.Denot) xs < size-List g.row.V.Denot g.row.V-Fault.Denot n = search (rules, list_lemmas) in
    let all : size-List g.row.V.Denot g.row.V-Fault.Denot n < size-Expr g.row.V.Denot g.row.V-Fault.Denot c.args.node.now = search (rules, the_lemmas) in
    λ κs live. (omega (arith, one, some, all, c.decreases), (search rules, (search rules, whole_here v xs l.item-index x within c.item-item.is l.invariant.whole)))

pub expr::literal-returns-after-loop-item-clause-added : goal.expr::literal-returns-after-loop-item-clause-added
expr::literal-returns-after-loop-item-clause-added g t c =
    let v = g.V.TemplateValue.contents in
    let f = g.V.TemplateValue.functions in
    let n = c.node-list.result.now in
    let xs = n.items in
    let added = adds_as (ap (λ ys. layout.items f (exprs_of v ys)) c.deref-item-items.ensures.value) (leads_end (items_end f v c.deref-item-items.result.now c.loop-item.item-index (omega arith)) c.loop-item.invariant.leads) in
    ok_gives c.add.result (λ s place. finishes_as f place (made_of v c.args.code.now) (made_of v c.add.new.self) (list_arm v c.args.node.now c.in-List.list n c.in-List.is c.node-list.ensures)
    (list_finishes f (exprs_of v xs.items) c.len.result c.in_ok-load_list-in-List.field-0 c.if-branch.false c.in_ok-load_list-in-List.ensures.added added (omega (arith, count_length v xs.items, c.len.ensures, xs.ok.0)) s)) c.add.ensures.added

pub expr::literal-returns-then-branch-2-clause-added : goal.expr::literal-returns-then-branch-2-clause-added
expr::literal-returns-then-branch-2-clause-added g t c =
    let v = g.V.TemplateValue.contents in
    let f = g.V.TemplateValue.functions in
    let n = c.node-tuple.result.now in
    λ place. finishes_as f place (made_of v c.args.code.now) (made_of v c.load_tuple.new.code) (tuple_arm v c.args.node.now c.in-Tuple.tuple n c.in-Tuple.is c.node-tuple.ensures)
    (tuple_loaded f (exprs_of v n.items.items) c.in_ok-load_tuple-in-Tuple.field-0 c.if-branch-2.true c.in_ok-load_tuple-in-Tuple.ensures.added)

pub expr::literal-loop-item-2-init : goal.expr::literal-loop-item-2-init
expr::literal-loop-item-2-init g t c =
    let v = g.V.TemplateValue.contents in
    let all = layout.items g.V.TemplateValue.functions (exprs_of v c.deref-item-items-in-Tuple.result.now) in
    record {
      whole = whole_tuple v c.args.node.now c.in-Tuple.tuple c.node-tuple.result.now c.deref-item-items-in-Tuple.result.now c.in-Tuple.is c.node-tuple.ensures c.deref-item-items-in-Tuple.ensures.value c.requires.whole;
      leads = leads_whole (made_of v c.load_tuple.new.code) all all refl;
      marks = refl;
    }

pub expr::literal-loop-item-2-preserved : goal.expr::literal-loop-item-2-preserved
expr::literal-loop-item-2-preserved g t c =
    let v = g.V.TemplateValue.contents in
    let f = g.V.TemplateValue.functions in
    let l = c.loop-item-2 in
    let xs = c.deref-item-items-in-Tuple.result.now in
    let x = c.item-item-in-loop-item-2.result in
    let within : l.item-index < length xs = omega arith in
    record {
      whole = whole_after v xs l.item-index x within l.invariant.whole;
      leads = leads_on (layout.expr f (expr_tree v x)) _ (items_next f v xs l.item-index x within c.item-item-in-loop-item-2.is) c.in_ok-expression-in-Tuple.ensures.added l.invariant.leads;
      marks = ap (item_marks f v (drop (l.item-index + 1) xs)) c.in_ok-expression-in-Tuple.ensures.marked ∙ sym (item_marked f v xs l.item-index x (margin_of l.code) within c.item-item-in-loop-item-2.is) ∙ l.invariant.marks;
    }

pub expr::literal-expression-requires-in-loop-item-2 : goal.expr::literal-expression-requires-in-loop-item-2
expr::literal-expression-requires-in-loop-item-2 g t c =
    let v = g.V.TemplateValue.contents in
    let l = c.loop-item-2 in
    let n = c.node-tuple.result.now in
    let xs = c.deref-item-items-in-Tuple.result.now in
    let x = c.item-item-in-loop-item-2.result in
    let within : l.item-index < length xs = omega arith in
    let one = element_size (size-Expr g.row.V.Denot g.row.V-Fault.Denot) xs l.item-index x within c.item-item-in-loop-item-2.is in
    let some : most (size-Expr g.row.V.Denot g.row.V-Fault.Denot) xs < size-Tuple g.row.V.Denot g.row.V-Fault.Denot n = search (rules, tuple_lemmas) in
    let all : size-Tuple g.row.V.Denot g.row.V-Fault.Denot n < size-Expr g.row.V.Denot g.row.V-Fault.Denot c.args.node.now = search (rules, the_lemmas) in
    λ κs live. (omega (arith, one, some, all, c.decreases), (search rules, (search rules, whole_here v xs l.item-index x within c.item-item-in-loop-item-2.is l.invariant.whole)))

pub expr::literal-returns-after-loop-item-2-clause-added : goal.expr::literal-returns-after-loop-item-2-clause-added
expr::literal-returns-after-loop-item-2-clause-added g t c =
    let v = g.V.TemplateValue.contents in
    let f = g.V.TemplateValue.functions in
    let n = c.node-tuple.result.now in
    let xs = n.items in
    let added = adds_as (ap (λ ys. layout.items f (exprs_of v ys)) c.deref-item-items-in-Tuple.ensures.value) (leads_end (items_end f v c.deref-item-items-in-Tuple.result.now c.loop-item-2.item-index (omega arith)) c.loop-item-2.invariant.leads) in
    ok_gives c.add-in-Tuple.result (λ s place. finishes_as f place (made_of v c.args.code.now) (made_of v c.add-in-Tuple.new.self) (tuple_arm v c.args.node.now c.in-Tuple.tuple n c.in-Tuple.is c.node-tuple.ensures)
    (tuple_finishes f (exprs_of v xs.items) c.len-in-Tuple.result c.in_ok-load_tuple-in-Tuple.field-0 c.if-branch-2.false c.in_ok-load_tuple-in-Tuple.ensures.added added (omega (arith, count_length v xs.items, c.len-in-Tuple.ensures, xs.ok.0)) s)) c.add-in-Tuple.ensures.added

pub expr::literal-returns-then-branch-3-clause-added : goal.expr::literal-returns-then-branch-3-clause-added
expr::literal-returns-then-branch-3-clause-added g t c =
    let v = g.V.TemplateValue.contents in
    let f = g.V.TemplateValue.functions in
    let n = c.node-map.result.now in
    λ place. finishes_as f place (made_of v c.args.code.now) (made_of v c.load_map.new.code) (map_arm v c.args.node.now c.in-Map.map n c.in-Map.is c.node-map.ensures)
    (map_loaded f (exprs_of v n.keys.items) (exprs_of v n.values.items) c.in_ok-load_map-in-Map.field-0 c.if-branch-3.true c.in_ok-load_map-in-Map.ensures.added)

pub expr::literal-loop-i-init : goal.expr::literal-loop-i-init
expr::literal-loop-i-init g t c =
    let v = g.V.TemplateValue.contents in
    let e = c.args.node.now in
    let n = c.node-map.result.now in
    let all = pairs g.V.TemplateValue.functions v n.keys.items n.values.items in
    record {
      leads = leads_whole (made_of v c.load_map.new.code) all all refl;
      marks = refl;
      keys = whole_keys v e c.in-Map.map n n.keys.items c.in-Map.is c.node-map.ensures refl c.requires.whole;
      values = whole_values v e c.in-Map.map n n.values.items c.in-Map.is c.node-map.ensures refl c.requires.whole;
    }

pub expr::literal-index-requires-in-loop-i : goal.expr::literal-index-requires-in-loop-i
expr::literal-index-requires-in-loop-i g t c =
    let v = g.V.TemplateValue.contents in
    let f = g.V.TemplateValue.functions in
    let n = c.node-map.result.now in
    let ks = n.keys.items in
    let vs = n.values.items in
    let l = c.loop-i in
    let pairs_are = whole_pairs v c.args.node.now c.in-Map.map n c.in-Map.is c.node-map.ensures c.requires.whole in
    let same : length ks ≡ length vs = sym (count_length v ks) ∙ pairs_are ∙ count_length v vs in
    omega (arith, same, n.keys.ok.0, n.values.ok.0)

pub expr::literal-expression-requires-in-loop-i : goal.expr::literal-expression-requires-in-loop-i
expr::literal-expression-requires-in-loop-i g t c =
    let v = g.V.TemplateValue.contents in
    let n = c.node-map.result.now in
    let ks = n.keys.items in
    let l = c.loop-i in
    let k = c.index.result.now in
    let within : l.i < length ks = omega (arith, n.keys.ok.0) in
    let one : size-Expr g.row.V.Denot g.row.V-Fault.Denot k < size-Map g.row.V.Denot g.row.V-Fault.Denot n = search (rules, map_lemmas, within) in
    let all : size-Map g.row.V.Denot g.row.V-Fault.Denot n < size-Expr g.row.V.Denot g.row.V-Fault.Denot c.args.node.now = search (rules, the_lemmas) in
    λ κs live. (omega (arith, one, all, c.decreases), (search rules, (search rules, whole_here v ks l.i k within c.index.ensures l.invariant.keys)))

pub expr::literal-expression-requires-in-loop-i-2 : goal.expr::literal-expression-requires-in-loop-i-2
expr::literal-expression-requires-in-loop-i-2 g t c =
    let v = g.V.TemplateValue.contents in
    let f = g.V.TemplateValue.functions in
    let n = c.node-map.result.now in
    let ks = n.keys.items in
    let vs = n.values.items in
    let l = c.loop-i in
    let pairs_are = whole_pairs v c.args.node.now c.in-Map.map n c.in-Map.is c.node-map.ensures c.requires.whole in
    let same : length ks ≡ length vs = sym (count_length v ks) ∙ pairs_are ∙ count_length v vs in
    let x = c.index-in-loop-i.result.now in
    let also : l.i < length vs = omega (arith, same, n.keys.ok.0) in
    let one : size-Expr g.row.V.Denot g.row.V-Fault.Denot x < size-Map g.row.V.Denot g.row.V-Fault.Denot n = search (rules, map_lemmas, also) in
    let all : size-Map g.row.V.Denot g.row.V-Fault.Denot n < size-Expr g.row.V.Denot g.row.V-Fault.Denot c.args.node.now = search (rules, the_lemmas) in
    λ κs live. (omega (arith, one, all, c.decreases), (search rules, (search rules, whole_here v vs l.i x also c.index-in-loop-i.ensures l.invariant.values)))

pub expr::literal-loop-i-preserved : goal.expr::literal-loop-i-preserved
expr::literal-loop-i-preserved g t c =
    let v = g.V.TemplateValue.contents in
    let f = g.V.TemplateValue.functions in
    let n = c.node-map.result.now in
    let ks = n.keys.items in
    let vs = n.values.items in
    let l = c.loop-i in
    let pairs_are = whole_pairs v c.args.node.now c.in-Map.map n c.in-Map.is c.node-map.ensures c.requires.whole in
    let same : length ks ≡ length vs = sym (count_length v ks) ∙ pairs_are ∙ count_length v vs in
    let k = c.index.result.now in
    let x = c.index-in-loop-i.result.now in
    let within : l.i < length ks = omega (arith, n.keys.ok.0) in
    let also : l.i < length vs = omega (arith, within, same) in
    let first = leads_on (layout.expr f (expr_tree v k)) _ (pairs_next f v ks vs l.i k x within also c.index.ensures c.index-in-loop-i.ensures) c.in_ok-expression-in-Map.ensures.added l.invariant.leads in
    record {
      leads = leads_on (layout.expr f (expr_tree v x)) _ refl c.in_ok-expression-in-Map-2.ensures.added first;
      marks = ap (pair_marks f v (drop (l.i + 1) ks) (drop (l.i + 1) vs)) (c.in_ok-expression-in-Map-2.ensures.marked ∙ ap (marks.expr f (expr_node v x)) c.in_ok-expression-in-Map.ensures.marked)
          ∙ sym (pair_marked f v ks vs l.i k x (margin_of l.code) within also c.index.ensures c.index-in-loop-i.ensures) ∙ l.invariant.marks;
      keys = whole_after v ks l.i k within l.invariant.keys;
      values = whole_after v vs l.i x also l.invariant.values;
    }

pub expr::literal-returns-after-loop-i-clause-added : goal.expr::literal-returns-after-loop-i-clause-added
expr::literal-returns-after-loop-i-clause-added g t c =
    let v = g.V.TemplateValue.contents in
    let f = g.V.TemplateValue.functions in
    let n = c.node-map.result.now in
    let ks = n.keys.items in
    let vs = n.values.items in
    let l = c.loop-i in
    ok_gives c.add-in-Map.result (λ s place. finishes_as f place (made_of v c.args.code.now) (made_of v c.add-in-Map.new.self) (map_arm v c.args.node.now c.in-Map.map n c.in-Map.is c.node-map.ensures)
    (map_finishes f (exprs_of v ks) (exprs_of v vs) c.len-in-Map.result c.in_ok-load_map-in-Map.field-0 c.if-branch-3.false c.in_ok-load_map-in-Map.ensures.added
    (leads_end (pairs_end f v ks vs l.i (omega (arith, n.keys.ok.0))) l.invariant.leads) (omega (arith, count_length v ks, c.len-in-Map.ensures, n.keys.ok.0)) s)) c.add-in-Map.ensures.added
