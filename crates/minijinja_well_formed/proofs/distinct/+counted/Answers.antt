use Rattle.std.proofs.Common.{◌≡◌, ◌+◌, ◌-◌, ◌^◌, ◌<◌, ◌≤◌, length, drop, min, arith, ap, ◌∙◌}
use Rattle.std.proofs.lemmas.List.{at_drop_all}
use Rattle.minijinja_tree.specs.Erasure.{stmt_tree}
use Rattle.minijinja_tree.specs.Tree.{block_names, all_block_names}
use Rattle.minijinja_well_formed.specs.private.BlockNames.{own, first_body, second_body}
use Rattle.minijinja_well_formed.proofs.NamesOfBlocks.{count, next-count, added, added-fits, all-counted, count-parts, parts-added}
use Rattle.minijinja_tree.proofs.Rows.{body_of}
use Rattle.minijinja_well_formed.proofs.distinct.+counted.Goals as goal

pub all_times-loop-stmt-preserved : goal.all_times-loop-stmt-preserved
all_times-loop-stmt-preserved g t c =
    let v = g.V.TemplateValue.contents in
    let y = c.args.name.now in
    let xs = c.args.stmts.now in
    let i = c.loop-stmt.stmt-index in
    let within : i < length xs = omega arith in
    record {
      same = added _ c.loop-stmt.count c.times.result c.saturating_add-count.result (count y (block_names (stmt_tree v c.stmt-item.result))) (count y (all_block_names (body_of v (drop (i + 1) xs))))
          (c.loop-stmt.invariant.same ∙ ap (λ k. min (c.loop-stmt.count + k) (2 ^ 64 - 1)) (next-count v y xs i c.stmt-item.result within c.stmt-item.is)) c.times.ensures c.saturating_add-count.ensures;
      fits = added-fits c.loop-stmt.count c.times.result c.saturating_add-count.result c.saturating_add-count.ensures;
    }

pub all_times-returns : goal.all_times-returns
all_times-returns g t c =
    let v = g.V.TemplateValue.contents in
    let y = c.args.name.now in
    let xs = c.args.stmts.now in
    let i = c.loop-stmt.stmt-index in
    let past : length xs ≤ i = omega arith in
    all-counted c.loop-stmt.count (count y (all_block_names (body_of v (drop i xs)))) (count y (all_block_names (body_of v xs))) c.loop-stmt.invariant.same
    (at_drop_all (λ zs. count y (all_block_names (body_of v zs))) xs i past) c.loop-stmt.invariant.fits

pub times-returns : goal.times-returns
times-returns g t c =
    let y = c.args.name.now in
    let s = stmt_tree g.V.TemplateValue.contents c.args.stmt.now in
    let first : c.all_times.result ≡ min (count y (all_block_names (first_body s))) (2 ^ 64 - 1) = c.all_times.ensures ∙ ap (λ ss. min (count y (all_block_names ss)) (2 ^ 64 - 1)) c.first_body.ensures.body in
    let second : c.all_times-2.result ≡ min (count y (all_block_names (second_body s))) (2 ^ 64 - 1) = c.all_times-2.ensures ∙ ap (λ ss. min (count y (all_block_names ss)) (2 ^ 64 - 1)) c.second_body.ensures.body in
    parts-added (count y (block_names s)) (count y (own s)) (count y (all_block_names (first_body s))) (count y (all_block_names (second_body s))) c.all_times.result c.all_times-2.result c.saturating_add.result c.saturating_add-2.result
    (count-parts y s) first second (c.saturating_add.ensures ∙ ap (λ n. min (n + c.all_times.result) (2 ^ 64 - 1)) c.own_times.ensures) c.saturating_add-2.ensures
