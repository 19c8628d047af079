use Rattle.std.proofs.Common.{rules, arith, ◌≡◌, ◌+◌, ◌<◌, ◌∙◌, drop, length, refl, sym, ap, ap₂, subst}
use Rattle.std.specs.Prelude.{IfOk}
use Rattle.minijinja_tree.specs.Erasure.{args_of}
use Rattle.minijinja_tree_expr.specs.declared.ast.Expr.{size-Expr, the_lemmas}
use Rattle.minijinja_semantics.specs.Layout.{Count, map_count}
use Rattle.minijinja_emitter.specs.internal.AtEmitter.{made_of}
use Rattle.minijinja_code_expr.specs.internal.Parts.{count_of}
use Rattle.minijinja_tree.specs.SpannedErasure as node
use Rattle.minijinja_tree.specs.SpannedErasure.{expr_node}
use Rattle.minijinja_semantics.specs.Marks as marks
use Rattle.minijinja_emitter.specs.internal.AtEmitter.{margin_of}
use Rattle.minijinja_code_expr.proofs.ItemMarks.{keyword_passed, kwarg_marked, kwarg_splat_marked, pos_marked, pos_splat_marked, positional_passed}
use Rattle.minijinja_code_expr.proofs.+expr.Goals.{arguments::positional_arguments-in-Pos+in_ok-expression-in-Pos, arguments::positional_arguments-in-PosSplat+in_ok-close_list-in-PosSplat+in_ok-expression-in-PosSplat, arguments::keyword_pairs-in-Kwarg+in_ok-load_name-in-Kwarg+in_ok-expression-in-Kwarg, arguments::keyword_pairs-in-KwargSplat+in_ok-close_map-in-KwargSplat+in_ok-expression-in-KwargSplat}
use Rattle.minijinja_tree_expr.specs.declared.ast.CallArg.{size-CallArg}
use Rattle.minijinja_code_expr.proofs.CallArguments.{positional_bound, keyword_bound, map_count_few, keywords_loaded, keywords_merged, counted_all, adds_given, element_size, args_length, taken_none, taken_all, positional_walk, pos_whole, pos_splat_whole, taken_pos, taken_pos_splat, passed_keyword, keyword_walk, kwarg_whole, kwarg_splat_whole, taken_kwarg, taken_kwarg_splat, passed_positional}
use Rattle.minijinja_code_expr.proofs.NoArguments.{adds_none, counts_none, marks_none}
use Rattle.minijinja_code_expr.proofs.PositionalArguments.{adds_positional, positional_count}
use Rattle.minijinja_code_expr.proofs.+expr.Goals as goal

pub arguments::arguments-spread-requires-clause-batches : goal.arguments::arguments-spread-requires-clause-batches
arguments::arguments-spread-requires-clause-batches g t c =
    omega (arith, positional_bound (args_of g.V.TemplateValue.contents c.args.args.now) c.args.front (count_of c.in_ok-count.count) c.requires.few c.requires.front c.in_ok-count.ensures.counted)

pub arguments::arguments-spread-requires-clause-waiting : goal.arguments::arguments-spread-requires-clause-waiting
arguments::arguments-spread-requires-clause-waiting g t c =
    omega (arith, positional_bound (args_of g.V.TemplateValue.contents c.args.args.now) c.args.front (count_of c.in_ok-count.count) c.requires.few c.requires.front c.in_ok-count.ensures.counted)

pub arguments::arguments-returns-then-is_empty-clause-count : goal.arguments::arguments-returns-then-is_empty-clause-count
arguments::arguments-returns-then-is_empty-clause-count g t c =
    let none : length c.args.args.now ≡ 0 = grind (arith, c.is_empty.ensures, c.if-is_empty.true) in
    counts_none g.V.TemplateValue.functions g.V.TemplateValue.contents c.args.args.now c.args.front none

pub arguments::arguments-returns-then-is_empty-clause-added : goal.arguments::arguments-returns-then-is_empty-clause-added
arguments::arguments-returns-then-is_empty-clause-added g t c =
    let v = g.V.TemplateValue.contents in
    let none : length c.args.args.now ≡ 0 = grind (arith, c.is_empty.ensures, c.if-is_empty.true) in
    adds_none g.V.TemplateValue.functions v c.args.args.now (made_of v c.args.code.now) c.args.front none

pub arguments::arguments-returns-then-is_empty-clause-marked : goal.arguments::arguments-returns-then-is_empty-clause-marked
arguments::arguments-returns-then-is_empty-clause-marked g t c =
    let none : length c.args.args.now ≡ 0 = grind (arith, c.is_empty.ensures, c.if-is_empty.true) in
    marks_none g.V.TemplateValue.functions g.V.TemplateValue.contents c.args.args.now c.args.front (margin_of c.args.code.now) none

pub arguments::arguments-overflow_cast-result-then-count-front : goal.arguments::arguments-overflow_cast-result-then-count-front
arguments::arguments-overflow_cast-result-then-count-front g t c =
    omega (arith, positional_bound (args_of g.V.TemplateValue.contents c.args.args.now) c.args.front (count_of c.in_ok-count.count) c.requires.few c.requires.front c.in_ok-count.ensures.counted)

pub arguments::arguments-returns-then-count-front-clause-count : goal.arguments::arguments-returns-then-count-front-clause-count
arguments::arguments-returns-then-count-front-clause-count g t c =
    let v = g.V.TemplateValue.contents in
    let xs = c.args.args.now in
    positional_count g.V.TemplateValue.functions (args_of v xs) c.args.front (count_of c.in_ok-count.count) c.in_ok-count.ensures.counted (omega (arith, c.if-count-front.true, args_length v xs))

pub arguments::arguments-returns-then-count-front-clause-added : goal.arguments::arguments-returns-then-count-front-clause-added
arguments::arguments-returns-then-count-front-clause-added g t c =
    let v = g.V.TemplateValue.contents in
    let xs = c.args.args.now in
    adds_positional g.V.TemplateValue.functions (args_of v xs) c.args.front (count_of c.in_ok-count.count) c.in_ok-count.ensures.counted (omega (arith, c.if-count-front.true, args_length v xs)) c.in_ok-count.ensures.added

pub arguments::arguments-returns-then-branch-clause-count : goal.arguments::arguments-returns-then-branch-clause-count
arguments::arguments-returns-then-branch-clause-count g t c =
    let v = g.V.TemplateValue.contents in
    let f = g.V.TemplateValue.functions in
    let args = args_of v c.args.args.now in
    let map = keywords_loaded f args c.in_ok-load_keywords.field-0 c.if-branch.true c.in_ok-load_keywords.ensures.added in
    subst (λ all. IfOk c.spread.result (λ n. n ≡ all)) (counted_all f args c.args.front (count_of c.in_ok-count.count) 1 c.in_ok-count.ensures.counted map.1) c.spread.ensures.count

pub arguments::arguments-returns-then-branch-clause-added : goal.arguments::arguments-returns-then-branch-clause-added
arguments::arguments-returns-then-branch-clause-added g t c =
    let v = g.V.TemplateValue.contents in
    let f = g.V.TemplateValue.functions in
    let args = args_of v c.args.args.now in
    let map = keywords_loaded f args c.in_ok-load_keywords.field-0 c.if-branch.true c.in_ok-load_keywords.ensures.added in
    adds_given f args c.args.front (count_of c.in_ok-count.count) 1 c.in_ok-count.ensures.counted map.1 (made_of v c.spread.new.code) c.spread.result c.in_ok-count.ensures.added map.0 c.spread.ensures.added

pub arguments::arguments-merge-requires : goal.arguments::arguments-merge-requires
arguments::arguments-merge-requires g t c =
    omega (arith, keyword_bound (args_of g.V.TemplateValue.contents c.args.args.now) (count_of c.in_ok-pairs.pairs) c.requires.few c.in_ok-pairs.ensures.counted)

pub arguments::arguments-spread-requires-2-clause-batches : goal.arguments::arguments-spread-requires-2-clause-batches
arguments::arguments-spread-requires-2-clause-batches g t c =
    omega (arith, positional_bound (args_of g.V.TemplateValue.contents c.args.args.now) c.args.front (count_of c.in_ok-count.count) c.requires.few c.requires.front c.in_ok-count.ensures.counted)

pub arguments::arguments-spread-requires-2-clause-waiting : goal.arguments::arguments-spread-requires-2-clause-waiting
arguments::arguments-spread-requires-2-clause-waiting g t c =
    omega (
      arith,
      positional_bound (args_of g.V.TemplateValue.contents c.args.args.now) c.args.front (count_of c.in_ok-count.count) c.requires.few c.requires.front c.in_ok-count.ensures.counted,
      c.in_ok-map.ensures.count,
      map_count_few c.in_ok-pairs.pairs.batches c.in_ok-pairs.pairs.waiting,
    )

pub arguments::arguments-returns-clause-count : goal.arguments::arguments-returns-clause-count
arguments::arguments-returns-clause-count g t c =
    let maps = c.in_ok-map.ensures.count ∙ ap (λ (k : Count). map_count k.batches k.waiting) c.in_ok-pairs.ensures.counted in
    subst (λ all. IfOk c.spread-2.result (λ n. n ≡ all))
    (counted_all g.V.TemplateValue.functions (args_of g.V.TemplateValue.contents c.args.args.now) c.args.front (count_of c.in_ok-count.count) c.in_ok-map.map c.in_ok-count.ensures.counted maps) c.spread-2.ensures.count

pub arguments::arguments-returns-clause-added : goal.arguments::arguments-returns-clause-added
arguments::arguments-returns-clause-added g t c =
    let v = g.V.TemplateValue.contents in
    let f = g.V.TemplateValue.functions in
    let args = args_of v c.args.args.now in
    let maps = c.in_ok-map.ensures.count ∙ ap (λ (k : Count). map_count k.batches k.waiting) c.in_ok-pairs.ensures.counted in
    let map = keywords_merged f args c.in_ok-load_keywords.field-0 (count_of c.in_ok-pairs.pairs) c.if-branch.false c.in_ok-load_keywords.ensures.added c.in_ok-pairs.ensures.counted c.in_ok-pairs.ensures.added c.in_ok-map.ensures.added in
    adds_given f args c.args.front (count_of c.in_ok-count.count) c.in_ok-map.map c.in_ok-count.ensures.counted maps (made_of v c.spread-2.new.code) c.spread-2.result c.in_ok-count.ensures.added map c.spread-2.ensures.added

pub arguments::positional_arguments-loop-arg-init : goal.arguments::positional_arguments-loop-arg-init
arguments::positional_arguments-loop-arg-init g t c =
    let v = g.V.TemplateValue.contents in
    record { taken = taken_none v (positional_walk v g.V.TemplateValue.functions) c.args.args.now c.args.front (made_of v c.args.code.now) c.requires.whole; marks = refl }

pub arguments::positional_arguments-expression-requires : goal.arguments::positional_arguments-expression-requires
arguments::positional_arguments-expression-requires g t c =
    let arg = c.arg-item.result in
    let smaller = element_size (size-CallArg g.row.V.Denot g.row.V-Fault.Denot) c.args.args.now c.loop-arg.arg-index arg c.loop-arg-test.true c.arg-item.is in
    let inner : size-Expr g.row.V.Denot g.row.V-Fault.Denot c.in-Pos.expr < size-CallArg g.row.V.Denot g.row.V-Fault.Denot arg = rw c.in-Pos.is (search (rules, the_lemmas)) in
    λ κs live. (
      omega (arith, smaller, inner, c.decreases),
      (
        search rules,
        (
          search rules,
          pos_whole g.V.TemplateValue.contents g.V.TemplateValue.functions c.loop-arg.invariant.taken c.arg-item.result c.loop-arg-test.true c.arg-item.is c.in-Pos.expr c.in-Pos.is,
        ),
      ),
    )

pub arguments::positional_arguments-expression-requires-in-PosSplat : goal.arguments::positional_arguments-expression-requires-in-PosSplat
arguments::positional_arguments-expression-requires-in-PosSplat g t c =
    let arg = c.arg-item.result in
    let smaller = element_size (size-CallArg g.row.V.Denot g.row.V-Fault.Denot) c.args.args.now c.loop-arg.arg-index arg c.loop-arg-test.true c.arg-item.is in
    let inner : size-Expr g.row.V.Denot g.row.V-Fault.Denot c.in-PosSplat.expr < size-CallArg g.row.V.Denot g.row.V-Fault.Denot arg = rw c.in-PosSplat.is (search (rules, the_lemmas)) in
    λ κs live. (
      omega (arith, smaller, inner, c.decreases),
      (
        search rules,
        (
          search rules,
          pos_splat_whole g.V.TemplateValue.contents g.V.TemplateValue.functions c.loop-arg.invariant.taken c.arg-item.result c.loop-arg-test.true c.arg-item.is c.in-PosSplat.expr c.in-PosSplat.is,
        ),
      ),
    )

pub arguments::positional_arguments-one-count-requires : goal.arguments::positional_arguments-one-count-requires
arguments::positional_arguments-one-count-requires g t c =
    omega (arith, c.loop-arg.invariant.taken.few, c.requires.few, c.requires.front, args_length g.V.TemplateValue.contents c.args.args.now)

pub arguments::positional_arguments-batch-count-requires : goal.arguments::positional_arguments-batch-count-requires
arguments::positional_arguments-batch-count-requires g t c =
    omega (arith, c.loop-arg.invariant.taken.few, c.requires.few, c.requires.front, args_length g.V.TemplateValue.contents c.args.args.now)

pub arguments::positional_arguments-loop-arg-preserved : goal.arguments::positional_arguments-loop-arg-preserved
arguments::positional_arguments-loop-arg-preserved g t c =
    let v = g.V.TemplateValue.contents in
    let f = g.V.TemplateValue.functions in
    let l = c.loop-arg in
    let xs = c.args.args.now in
    let x = c.arg-item.result in
    let rest = drop (l.arg-index + 1) xs in
    elim c.match-arg.branch [
      | arguments::positional_arguments-in-Pos+in_ok-expression-in-Pos w ↦
          rw (w.code-is, w.count-is) (record {
            taken = taken_pos v f l.invariant.taken x c.loop-arg-test.true c.arg-item.is w.in-Pos.expr w.in-Pos.is w.one-count.ensures w.in_ok-expression-in-Pos.ensures.added;
            marks = ap₂ (λ n u. marks.positional f (node.args_of v rest) n u) (ap (λ (k : Count). k.waiting) w.one-count.ensures) w.in_ok-expression-in-Pos.ensures.marked
                ∙ sym (pos_marked f v xs l.arg-index (count_of l.count).waiting x (margin_of l.code) c.loop-arg-test.true c.arg-item.is w.in-Pos.expr w.in-Pos.is) ∙ l.invariant.marks;
          })
      | arguments::positional_arguments-in-PosSplat+in_ok-close_list-in-PosSplat+in_ok-expression-in-PosSplat w ↦
          rw (w.code-is, w.count-is)
          (record {
            taken = taken_pos_splat v f l.invariant.taken x c.loop-arg-test.true c.arg-item.is w.in-PosSplat.expr w.in-PosSplat.is w.batch-count.ensures w.in_ok-close_list-in-PosSplat.ensures.added w.in_ok-expression-in-PosSplat.ensures.added;
            marks = ap₂ (λ n u. marks.positional f (node.args_of v rest) n u) (ap (λ (k : Count). k.waiting) w.batch-count.ensures)
                (w.in_ok-expression-in-PosSplat.ensures.marked ∙ ap (marks.expr f (expr_node v w.in-PosSplat.expr)) w.in_ok-close_list-in-PosSplat.ensures.marked)
                ∙ sym (pos_splat_marked f v xs l.arg-index (count_of l.count).waiting x (margin_of l.code) c.loop-arg-test.true c.arg-item.is w.in-PosSplat.expr w.in-PosSplat.is) ∙ l.invariant.marks;
          })
    ]

pub arguments::positional_arguments-loop-arg-preserved-in-Kwarg : goal.arguments::positional_arguments-loop-arg-preserved-in-Kwarg
arguments::positional_arguments-loop-arg-preserved-in-Kwarg g t c =
    let v = g.V.TemplateValue.contents in
    let f = g.V.TemplateValue.functions in
    let l = c.loop-arg in
    record {
      taken = passed_keyword v f l.invariant.taken c.arg-item.result c.loop-arg-test.true c.arg-item.is c.in-Kwarg.is;
      marks = sym (keyword_passed f v c.args.args.now l.arg-index (count_of l.count).waiting c.arg-item.result (margin_of l.code) c.loop-arg-test.true c.arg-item.is c.in-Kwarg.is) ∙ l.invariant.marks;
    }

pub arguments::positional_arguments-returns-clause-counted : goal.arguments::positional_arguments-returns-clause-counted
arguments::positional_arguments-returns-clause-counted g t c =
    let v = g.V.TemplateValue.contents in
    let all = taken_all v (positional_walk v g.V.TemplateValue.functions) c.args.args.now c.args.front c.loop-arg.invariant.taken c.loop-arg-test.false in
    all.1

pub arguments::positional_arguments-returns-clause-added : goal.arguments::positional_arguments-returns-clause-added
arguments::positional_arguments-returns-clause-added g t c =
    let v = g.V.TemplateValue.contents in
    let all = taken_all v (positional_walk v g.V.TemplateValue.functions) c.args.args.now c.args.front c.loop-arg.invariant.taken c.loop-arg-test.false in
    all.0

pub arguments::keyword_pairs-loop-arg-init : goal.arguments::keyword_pairs-loop-arg-init
arguments::keyword_pairs-loop-arg-init g t c =
    let v = g.V.TemplateValue.contents in
    record { taken = taken_none v (keyword_walk v g.V.TemplateValue.functions) c.args.args.now 0 (made_of v c.args.code.now) c.requires.whole; marks = refl }

pub arguments::keyword_pairs-expression-requires : goal.arguments::keyword_pairs-expression-requires
arguments::keyword_pairs-expression-requires g t c =
    let arg = c.arg-item.result in
    let smaller = element_size (size-CallArg g.row.V.Denot g.row.V-Fault.Denot) c.args.args.now c.loop-arg.arg-index arg c.loop-arg-test.true c.arg-item.is in
    let inner : size-Expr g.row.V.Denot g.row.V-Fault.Denot c.in-Kwarg.expr < size-CallArg g.row.V.Denot g.row.V-Fault.Denot arg = rw c.in-Kwarg.is (search (rules, the_lemmas)) in
    λ κs live. (
      omega (arith, smaller, inner, c.decreases),
      (
        search rules,
        (
          search rules,
          kwarg_whole g.V.TemplateValue.contents g.V.TemplateValue.functions c.loop-arg.invariant.taken c.arg-item.result c.loop-arg-test.true c.arg-item.is c.in-Kwarg.name c.in-Kwarg.expr c.in-Kwarg.is,
        ),
      ),
    )

pub arguments::keyword_pairs-expression-requires-in-KwargSplat : goal.arguments::keyword_pairs-expression-requires-in-KwargSplat
arguments::keyword_pairs-expression-requires-in-KwargSplat g t c =
    let arg = c.arg-item.result in
    let smaller = element_size (size-CallArg g.row.V.Denot g.row.V-Fault.Denot) c.args.args.now c.loop-arg.arg-index arg c.loop-arg-test.true c.arg-item.is in
    let inner : size-Expr g.row.V.Denot g.row.V-Fault.Denot c.in-KwargSplat.expr < size-CallArg g.row.V.Denot g.row.V-Fault.Denot arg = rw c.in-KwargSplat.is (search (rules, the_lemmas)) in
    λ κs live. (
      omega (arith, smaller, inner, c.decreases),
      (
        search rules,
        (
          search rules,
          kwarg_splat_whole g.V.TemplateValue.contents g.V.TemplateValue.functions c.loop-arg.invariant.taken c.arg-item.result c.loop-arg-test.true c.arg-item.is c.in-KwargSplat.expr c.in-KwargSplat.is,
        ),
      ),
    )

pub arguments::keyword_pairs-one-count-requires : goal.arguments::keyword_pairs-one-count-requires
arguments::keyword_pairs-one-count-requires g t c =
    omega (arith, c.loop-arg.invariant.taken.few, c.requires.few, args_length g.V.TemplateValue.contents c.args.args.now)

pub arguments::keyword_pairs-batch-count-requires : goal.arguments::keyword_pairs-batch-count-requires
arguments::keyword_pairs-batch-count-requires g t c =
    omega (arith, c.loop-arg.invariant.taken.few, c.requires.few, args_length g.V.TemplateValue.contents c.args.args.now)

pub arguments::keyword_pairs-loop-arg-preserved : goal.arguments::keyword_pairs-loop-arg-preserved
arguments::keyword_pairs-loop-arg-preserved g t c =
    let v = g.V.TemplateValue.contents in
    let f = g.V.TemplateValue.functions in
    let l = c.loop-arg in
    let xs = c.args.args.now in
    let x = c.arg-item.result in
    let rest = drop (l.arg-index + 1) xs in
    elim c.match-arg.branch [
      | arguments::keyword_pairs-in-Kwarg+in_ok-load_name-in-Kwarg+in_ok-expression-in-Kwarg w ↦
          rw (w.code-is, w.count-is)
          (record {
            taken = taken_kwarg v f l.invariant.taken x c.loop-arg-test.true c.arg-item.is w.in-Kwarg.name w.in-Kwarg.expr w.in-Kwarg.is w.one-count.ensures w.in_ok-load_name-in-Kwarg.ensures.added w.in_ok-expression-in-Kwarg.ensures.added;
            marks = ap₂ (λ n u. marks.keyword f (node.args_of v rest) n u) (ap (λ (k : Count). k.waiting) w.one-count.ensures)
                (w.in_ok-expression-in-Kwarg.ensures.marked ∙ ap (marks.expr f (expr_node v w.in-Kwarg.expr)) w.in_ok-load_name-in-Kwarg.ensures.marked)
                ∙ sym (kwarg_marked f v xs l.arg-index (count_of l.count).waiting x (margin_of l.code) c.loop-arg-test.true c.arg-item.is w.in-Kwarg.name w.in-Kwarg.expr w.in-Kwarg.is) ∙ l.invariant.marks;
          })
      | arguments::keyword_pairs-in-KwargSplat+in_ok-close_map-in-KwargSplat+in_ok-expression-in-KwargSplat w ↦
          rw (w.code-is, w.count-is)
          (record {
            taken = taken_kwarg_splat v f l.invariant.taken x c.loop-arg-test.true c.arg-item.is w.in-KwargSplat.expr w.in-KwargSplat.is w.batch-count.ensures w.in_ok-close_map-in-KwargSplat.ensures.added w.in_ok-expression-in-KwargSplat.ensures.added;
            marks = ap₂ (λ n u. marks.keyword f (node.args_of v rest) n u) (ap (λ (k : Count). k.waiting) w.batch-count.ensures)
                (w.in_ok-expression-in-KwargSplat.ensures.marked ∙ ap (marks.expr f (expr_node v w.in-KwargSplat.expr)) w.in_ok-close_map-in-KwargSplat.ensures.marked)
                ∙ sym (kwarg_splat_marked f v xs l.arg-index (count_of l.count).waiting x (margin_of l.code) c.loop-arg-test.true c.arg-item.is w.in-KwargSplat.expr w.in-KwargSplat.is) ∙ l.invariant.marks;
          })
    ]

pub arguments::keyword_pairs-loop-arg-preserved-in-Pos : goal.arguments::keyword_pairs-loop-arg-preserved-in-Pos
arguments::keyword_pairs-loop-arg-preserved-in-Pos g t c =
    let v = g.V.TemplateValue.contents in
    let f = g.V.TemplateValue.functions in
    let l = c.loop-arg in
    record {
      taken = passed_positional v f l.invariant.taken c.arg-item.result c.loop-arg-test.true c.arg-item.is c.in-Pos.is;
      marks = sym (positional_passed f v c.args.args.now l.arg-index (count_of l.count).waiting c.arg-item.result (margin_of l.code) c.loop-arg-test.true c.arg-item.is c.in-Pos.is) ∙ l.invariant.marks;
    }

pub arguments::keyword_pairs-returns-clause-counted : goal.arguments::keyword_pairs-returns-clause-counted
arguments::keyword_pairs-returns-clause-counted g t c =
    let v = g.V.TemplateValue.contents in
    let all = taken_all v (keyword_walk v g.V.TemplateValue.functions) c.args.args.now 0 c.loop-arg.invariant.taken c.loop-arg-test.false in
    all.1

pub arguments::keyword_pairs-returns-clause-added : goal.arguments::keyword_pairs-returns-clause-added
arguments::keyword_pairs-returns-clause-added g t c =
    let v = g.V.TemplateValue.contents in
    let all = taken_all v (keyword_walk v g.V.TemplateValue.functions) c.args.args.now 0 c.loop-arg.invariant.taken c.loop-arg-test.false in
    all.0
