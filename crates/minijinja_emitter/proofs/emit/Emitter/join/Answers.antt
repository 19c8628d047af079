use Rattle.minijinja_emitter.specs.internal.AtEmitter.{made_of}
use Rattle.minijinja_emitter.proofs.Constants.{joined_there}
use Rattle.minijinja_emitter.proofs.emit.Emitter.join.Goals as goal

pub returns-clause-joined : goal.returns-clause-joined
returns-clause-joined g c =
    let v = g.V.TemplateValue.contents in
    joined_there g.V.TemplateValue.functions v c.args.place (v c.args.right.now) (made_of v c.args.self.now) (made_of v c.take_constant.new.self) (made_of v c.replace.new.self) c.in-Some.left c.in_ok-joined.joined c.in-Some.ensures.taken c.in_ok-joined.ensures c.in_ok-replace.ensures.replaced
