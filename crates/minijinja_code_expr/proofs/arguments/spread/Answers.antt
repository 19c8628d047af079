use Rattle.std.proofs.Common.{◌+◌, sym, arith}
use Rattle.minijinja_emitter.specs.internal.AtEmitter.{made_of, margin_of}
use Rattle.minijinja_code_expr.proofs.ArgumentMarks.{no_spreading_marks, spreading_marks}
use Rattle.minijinja_code_expr.proofs.CallArguments.{adds_spreading, adds_no_spreading, counted_alone, counted_more}
use Rattle.minijinja_code_expr.proofs.arguments.spread.Goals as goal

pub returns-then-count-eq0-clause-count : goal.returns-then-count-eq0-clause-count
returns-then-count-eq0-clause-count g c = sym (counted_alone c.args.count.batches (c.args.count.waiting + c.args.more) c.if-count-eq0.true)

pub returns-then-count-eq0-clause-added : goal.returns-then-count-eq0-clause-added
returns-then-count-eq0-clause-added g c =
    adds_no_spreading (made_of g.V.TemplateValue.contents c.args.code.now) c.args.count.batches (c.args.count.waiting + c.args.more) c.if-count-eq0.true

pub returns-clause-count : goal.returns-clause-count
returns-clause-count g c = sym (counted_more c.args.count.batches (c.args.count.waiting + c.args.more) (omega (arith, c.if-count-eq0.false)))

pub returns-clause-added : goal.returns-clause-added
returns-clause-added g c =
    adds_spreading c.args.count.batches (c.args.count.waiting + c.args.more) c.closed.result (omega (arith, c.if-count-eq0.false)) c.closed.ensures c.in_ok-close_list.ensures.added c.in_ok-add.ensures.added

pub returns-then-count-eq0-clause-marked : goal.returns-then-count-eq0-clause-marked
returns-then-count-eq0-clause-marked g c = no_spreading_marks c.args.count.batches (c.args.count.waiting + c.args.more) (margin_of c.args.code.now) c.if-count-eq0.true

pub returns-clause-marked : goal.returns-clause-marked
returns-clause-marked g c =
    spreading_marks c.args.count.batches (c.args.count.waiting + c.args.more) (margin_of c.args.code.now) (omega (arith, c.if-count-eq0.false)) c.in_ok-close_list.ensures.marked c.in_ok-add.ensures.marked
