use Rattle.std.proofs.Common.{Some, sym}
use Rattle.minijinja_emitter.specs.internal.AtEmitter.{made_of}
use Rattle.minijinja_code_expr.proofs.ChainFolds.{held_from, up_to_end}
use Rattle.minijinja_code_expr.proofs.chain.first_constant.Goals as goal

pub returns-in-Some : goal.returns-in-Some
returns-in-Some g c =
    let v = g.V.TemplateValue.contents in
    let code = (made_of v c.args.code.now).code in
    held_from code c.args.start (v c.in-Some.field-0.now) (sym (up_to_end code (Some (v c.in-Some.field-0.now)) c.args.start c.place.result c.place.ensures c.in-Some.ensures))
