use Rattle.std.proofs.Common.{◌≡◌, ◌<◌, ◌≤◌, length, true, false, arith, sym, ap, ◌∙◌}
use Rattle.std.specs.Prelude.{◌&&◌}
use Rattle.std.proofs.lemmas.List.{at_drop_all}
use Rattle.minijinja_tree.specs.Erasure.{stmt_tree}
use Rattle.minijinja_tree.specs.Tree.{block_names, all_block_names}
use Rattle.minijinja_well_formed.specs.private.BlockNames.{own, first_body, second_body}
use Rattle.minijinja_well_formed.specs.private.StatementTests.{are_single}
use Rattle.minijinja_well_formed.proofs.NamesOfBlocks.{next-single, single-parts}
use Rattle.minijinja_tree.proofs.Rows.{body_of}
use Rattle.minijinja_well_formed.proofs.distinct.+named.Goals as goal
use Rattle.minijinja_well_formed.proofs.distinct.+named.Goals.{is_named_once-then-is_single, is_named_once-else-is_single}

pub are_named_once-returns-then-not-is_named_once : goal.are_named_once-returns-then-not-is_named_once
are_named_once-returns-then-not-is_named_once g t c =
    let v = g.V.TemplateValue.contents in
    let ys = block_names (stmt_tree v c.args.root.now) in
    let xs = c.args.stmts.now in
    let i = c.loop-stmt.stmt-index in
    let within : i < length xs = omega arith in
    sym (c.loop-stmt.invariant ∙ next-single v xs i c.stmt-item.result false ys within c.stmt-item.is (sym c.if-not-is_named_once.true ∙ c.is_named_once.ensures))

pub are_named_once-loop-stmt-preserved : goal.are_named_once-loop-stmt-preserved
are_named_once-loop-stmt-preserved g t c =
    let v = g.V.TemplateValue.contents in
    let ys = block_names (stmt_tree v c.args.root.now) in
    let xs = c.args.stmts.now in
    let i = c.loop-stmt.stmt-index in
    let within : i < length xs = omega arith in
    c.loop-stmt.invariant ∙ next-single v xs i c.stmt-item.result true ys within c.stmt-item.is (sym c.if-not-is_named_once.false ∙ c.is_named_once.ensures)

pub are_named_once-returns : goal.are_named_once-returns
are_named_once-returns g t c =
    let v = g.V.TemplateValue.contents in
    let ys = block_names (stmt_tree v c.args.root.now) in
    let xs = c.args.stmts.now in
    let i = c.loop-stmt.stmt-index in
    let past : length xs ≤ i = omega arith in
    sym (c.loop-stmt.invariant ∙ at_drop_all (λ zs. are_single (all_block_names (body_of v zs)) ys) xs i past)

pub is_named_once-returns-then-are_named_once : goal.is_named_once-returns-then-are_named_once
is_named_once-returns-then-are_named_once g t c =
    let s = stmt_tree g.V.TemplateValue.contents c.args.stmt.now in
    let ys = block_names (stmt_tree g.V.TemplateValue.contents c.args.root.now) in
    let a = are_single (own s) ys in
    let b = are_single (all_block_names (first_body s)) ys in
    let d = are_single (all_block_names (second_body s)) ys in
    let first : c.if-is_single.value ≡ (a && b) = elim c.if-is_single.branch [
      | is_named_once-then-is_single w ↦ w.value-is ∙ w.are_named_once.ensures ∙ ap (λ ss. are_single (all_block_names ss) ys) w.first_body.ensures.body ∙ ap (λ e. e && b) (sym w.if-is_single.true ∙ c.is_single.ensures)
      | is_named_once-else-is_single w ↦ w.value-is ∙ w.if-is_single.false ∙ ap (λ e. e && b) (sym w.if-is_single.false ∙ c.is_single.ensures)
    ] in
    c.are_named_once-then-are_named_once.ensures ∙ ap (λ ss. are_single (all_block_names ss) ys) c.second_body.ensures.body
    ∙ ap (λ e. e && d) (sym c.if-are_named_once.true ∙ first) ∙ sym (single-parts s ys)

pub is_named_once-returns-else-are_named_once : goal.is_named_once-returns-else-are_named_once
is_named_once-returns-else-are_named_once g t c =
    let s = stmt_tree g.V.TemplateValue.contents c.args.stmt.now in
    let ys = block_names (stmt_tree g.V.TemplateValue.contents c.args.root.now) in
    let a = are_single (own s) ys in
    let b = are_single (all_block_names (first_body s)) ys in
    let d = are_single (all_block_names (second_body s)) ys in
    let first : c.if-is_single.value ≡ (a && b) = elim c.if-is_single.branch [
      | is_named_once-then-is_single w ↦ w.value-is ∙ w.are_named_once.ensures ∙ ap (λ ss. are_single (all_block_names ss) ys) w.first_body.ensures.body ∙ ap (λ e. e && b) (sym w.if-is_single.true ∙ c.is_single.ensures)
      | is_named_once-else-is_single w ↦ w.value-is ∙ w.if-is_single.false ∙ ap (λ e. e && b) (sym w.if-is_single.false ∙ c.is_single.ensures)
    ] in
    c.if-are_named_once.false ∙ ap (λ e. e && d) (sym c.if-are_named_once.false ∙ first) ∙ sym (single-parts s ys)
