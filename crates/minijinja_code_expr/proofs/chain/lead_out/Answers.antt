use Rattle.std.proofs.Common.{ap, ◌∙◌}
use Rattle.minijinja_emitter.specs.internal.AtEmitter.{made_of}
use Rattle.minijinja_code_expr.proofs.ChainCode.{led_latest, led_none}
use Rattle.minijinja_code_expr.proofs.chain.lead_out.Goals as goal
use Rattle.minijinja_code_expr.proofs.chain.lead_out.Goals.{in-Some, in_default}

pub returns-clause-led : goal.returns-clause-led
returns-clause-led g c =
    let v = g.V.TemplateValue.contents in
    let earlier = c.args.jumps.now.earlier.items in
    elim c.match-jumps.branch [
      | in-Some w ↦ led_latest (made_of v c.args.code.now) earlier w.in-Some.latest c.args.target c.deref.ensures.value w.in-Some.is (ap (made_of v) w.code-is ∙ w.fill.ensures.filled) c.fill_jumps.ensures.filled
      | in_default w ↦ led_none earlier c.args.target c.deref.ensures.value w.in_default.is (ap (made_of v) w.code-is) c.fill_jumps.ensures.filled
    ]
