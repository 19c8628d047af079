use Rattle.std.proofs.Common.{sym, arith}
use Rattle.minijinja_emitter.specs.internal.AtEmitter.{margin_of}
use Rattle.minijinja_emitter.proofs.Adding.{adds_as}
use Rattle.minijinja_code_expr.proofs.ArgumentMarks.{merged_alone_marks, merged_marks}
use Rattle.minijinja_code_expr.proofs.CallArguments.{merged_alone, adds_merged, map_count_alone, map_count_more}
use Rattle.minijinja_code_expr.proofs.arguments.merge.Goals as goal

pub returns-then-count-eq0-clause-count : goal.returns-then-count-eq0-clause-count
returns-then-count-eq0-clause-count g c =
    omega (arith, c.closed.ensures, c.if-count-eq0.true, map_count_alone c.args.count.batches c.args.count.waiting c.if-count-eq0.true)

pub returns-then-count-eq0-clause-added : goal.returns-then-count-eq0-clause-added
returns-then-count-eq0-clause-added g c =
    adds_as (sym (merged_alone c.args.count.batches c.args.count.waiting c.if-count-eq0.true)) c.in_ok-close_map.ensures.added

pub returns-clause-count : goal.returns-clause-count
returns-clause-count g c = sym (map_count_more c.args.count.batches c.args.count.waiting (omega (arith, c.if-count-eq0.false)))

pub returns-clause-added : goal.returns-clause-added
returns-clause-added g c =
    adds_merged c.args.count.batches c.args.count.waiting c.closed-2.result (omega (arith, c.if-count-eq0.false)) c.closed-2.ensures c.in_ok-close_map.ensures.added c.in_ok-add.ensures.added

pub returns-then-count-eq0-clause-marked : goal.returns-then-count-eq0-clause-marked
returns-then-count-eq0-clause-marked g c = merged_alone_marks c.args.count.batches c.args.count.waiting (margin_of c.args.code.now) c.if-count-eq0.true c.in_ok-close_map.ensures.marked

pub returns-clause-marked : goal.returns-clause-marked
returns-clause-marked g c =
    merged_marks c.args.count.batches c.args.count.waiting (margin_of c.args.code.now) (omega (arith, c.if-count-eq0.false)) c.in_ok-close_map.ensures.marked c.in_ok-add.ensures.marked
