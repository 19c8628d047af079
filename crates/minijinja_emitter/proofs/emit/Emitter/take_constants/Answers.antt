use Rattle.std.proofs.Common.{sym, ◌∙◌}
use Rattle.minijinja_emitter.specs.internal.AtEmitter.{made_of}
use Rattle.minijinja_emitter.proofs.Constants.{left_there, taken_back}
use Rattle.minijinja_emitter.proofs.emit.Emitter.take_constants.Goals as goal

pub returns-in_err-left-clause-taken : goal.returns-in_err-left-clause-taken
returns-in_err-left-clause-taken g c =
    let v = g.V.TemplateValue.contents in
    let old = made_of v c.args.self.now in
    λ within. absurd (left_there v c.args.start c.args.middle old (made_of v c.pop_constant.new.self) (made_of v c.pop_constant-2.new.self) c.pop_constant-2.result c.pop_constant.result (λ w. sym c.if-not-are_constants.false ∙ c.are_constants.ensures w) c.pop_constant.ensures.constant c.pop_constant.ensures.rest within c.pop_constant-2.ensures.constant c.in_err-left.was)

pub returns-clause-taken : goal.returns-clause-taken
returns-clause-taken g c =
    let v = g.V.TemplateValue.contents in
    let old = made_of v c.args.self.now in
    taken_back v c.args.start c.args.middle old (made_of v c.pop_constant.new.self) (made_of v c.pop_constant-2.new.self) c.pop_constant-2.result c.pop_constant.result (λ w. sym c.if-not-are_constants.false ∙ c.are_constants.ensures w) c.pop_constant.ensures.constant c.pop_constant.ensures.rest c.in_ok-left.left c.in_ok-right.right c.in_ok-left.was c.in_ok-right.was c.pop_constant-2.ensures.constant c.pop_constant-2.ensures.rest
