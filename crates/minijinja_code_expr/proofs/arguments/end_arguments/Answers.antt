use Rattle.std.proofs.Common.{◌≡◌, ap, arith, refl, subst}
use Rattle.std.specs.Prelude.{IfOk}
use Rattle.minijinja_tree.specs.Erasure.{args_of}
use Rattle.minijinja_semantics.specs.Layout.{Count, count_keyword}
use Rattle.minijinja_emitter.specs.internal.AtEmitter.{margin_of}
use Rattle.minijinja_code_expr.specs.internal.Parts.{count_of, operands}
use Rattle.minijinja_code_expr.proofs.ArgumentMarks.{end_marks}
use Rattle.minijinja_code_expr.proofs.CallArguments.{keyword_bound, positional_bound, map_count_few}
use Rattle.minijinja_code_expr.proofs.CallerArguments.{counted_end, end_added}
use Rattle.minijinja_code_expr.proofs.Results.{ok_gives}
use Rattle.minijinja_code_expr.proofs.arguments.end_arguments.Goals as goal

pub merge-requires : goal.merge-requires
merge-requires g c =
    let args = args_of g.V.TemplateValue.contents c.args.args.now in
    omega (arith, keyword_bound args (count_keyword args (operands 0)) c.requires.few refl, ap (λ (k : Count). k.batches) c.requires.counts.keyword)

pub spread-requires-clause-batches : goal.spread-requires-clause-batches
spread-requires-clause-batches g c =
    omega (arith, positional_bound (args_of g.V.TemplateValue.contents c.args.args.now) c.args.front (count_of c.args.counts.positional) c.requires.few c.requires.front c.requires.counts.positional)

pub spread-requires-clause-waiting : goal.spread-requires-clause-waiting
spread-requires-clause-waiting g c =
    omega (
      arith,
      positional_bound (args_of g.V.TemplateValue.contents c.args.args.now) c.args.front (count_of c.args.counts.positional) c.requires.few c.requires.front c.requires.counts.positional,
      c.in_ok-map.ensures.count,
      map_count_few c.args.counts.keyword.batches c.args.counts.keyword.waiting,
    )

pub returns-clause-count : goal.returns-clause-count
returns-clause-count g c =
    let args = args_of g.V.TemplateValue.contents c.args.args.now in
    subst (λ all. IfOk c.spread.result (λ n. n ≡ all)) (counted_end args c.args.front c.args.counts c.requires.counts c.in_ok-map.map c.in_ok-map.ensures.count) c.spread.ensures.count

pub returns-clause-added : goal.returns-clause-added
returns-clause-added g c =
    let args = args_of g.V.TemplateValue.contents c.args.args.now in
    ok_gives c.spread.result (λ s. end_added args c.args.front c.args.counts c.requires.counts c.in_ok-map.map c.in_ok-map.ensures.count c.in_ok-map.ensures.added s) c.spread.ensures.added

pub returns-clause-marked : goal.returns-clause-marked
returns-clause-marked g c =
    ok_gives c.spread.result (λ s. end_marks g.V.TemplateValue.contents c.args.args.now c.args.front c.args.counts c.requires.counts c.in_ok-map.map c.in_ok-map.ensures.count (margin_of c.args.code.now) c.in_ok-map.ensures.marked s) c.spread.ensures.marked
