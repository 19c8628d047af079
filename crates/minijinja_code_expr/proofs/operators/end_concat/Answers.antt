use Rattle.minijinja_emitter.specs.internal.AtEmitter.{made_of, margin_of}
use Rattle.minijinja_emitter.proofs.Counting.{as_many}
use Rattle.minijinja_code_expr.proofs.FoldedMarks.{joined_given_marks, joined_unknown_marks}
use Rattle.minijinja_code_expr.proofs.OperatorCode.{joined_given, joined_unknown}
use Rattle.minijinja_code_expr.proofs.Results.{ok_gives}
use Rattle.minijinja_code_expr.proofs.operators.end_concat.Goals as goal

pub returns-in_ok-joined-in-Some-clause-added : goal.returns-in_ok-joined-in-Some-clause-added
returns-in_ok-joined-in-Some-clause-added g c =
    let v = g.V.TemplateValue.contents in
    ok_gives c.replace.result (joined_given g.V.TemplateValue.functions v (made_of v c.args.code.now) (made_of v c.take_constants.new.self) (made_of v c.replace.new.self) c.in-Some.left c.in-Some.right c.in-Some.ensures.taken c.in_ok-joined-in-Some.ensures) c.replace.ensures.replaced

pub returns-in-None-clause-added : goal.returns-in-None-clause-added
returns-in-None-clause-added g c =
    let v = g.V.TemplateValue.contents in
    ok_gives c.add.result (joined_unknown g.V.TemplateValue.functions v (made_of v c.args.code.now) (made_of v c.take_constants.new.self) (made_of v c.add.new.self) c.in-None.ensures.taken) c.add.ensures.added

pub returns-in_ok-joined-in-Some-clause-marked : goal.returns-in_ok-joined-in-Some-clause-marked
returns-in_ok-joined-in-Some-clause-marked g c =
    let v = g.V.TemplateValue.contents in
    ok_gives c.replace.result (joined_given_marks g.V.TemplateValue.functions v (made_of v c.args.code.now) (made_of v c.take_constants.new.self) c.in-Some.left c.in-Some.right c.args.site (margin_of c.args.code.now) c.in-Some.ensures.taken c.take_constants.ensures.marked) c.replace.ensures.marked

pub returns-in-None-clause-marked : goal.returns-in-None-clause-marked
returns-in-None-clause-marked g c =
    let v = g.V.TemplateValue.contents in
    ok_gives c.add.result (joined_unknown_marks g.V.TemplateValue.functions v (made_of v c.args.code.now) (made_of v c.take_constants.new.self) c.args.site (margin_of c.args.code.now) (as_many v c.args.code.now) c.in-None.ensures.taken c.take_constants.ensures.marked) c.add.ensures.marked
