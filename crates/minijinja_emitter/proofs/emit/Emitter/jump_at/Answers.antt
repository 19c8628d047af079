use Rattle.std.proofs.Common.{◌≡◌, map, subst}
use Rattle.minijinja_instructions.specs.Instructions.{instr_of}
use Rattle.minijinja_semantics.specs.Jumps.{with_target}
use Rattle.minijinja_emitter.proofs.Leading.{led_if, none_past, unless_led}
use Rattle.minijinja_emitter.proofs.emit.Emitter.jump_at.Goals as goal

pub returns-in_err-get-clause-none : goal.returns-in_err-get-clause-none
returns-in_err-get-clause-none g c =
    let i = instr_of {F = g.row.V-Fault.Denot} g.V.TemplateValue.contents in
    let none : with_target c.args.target (map i c.args.self.now.code.list.items) c.args.place ≡ map i c.args.self.now.code.list.items =
    subst (λ xs. with_target c.args.target (map i xs) c.args.place ≡ map i xs) c.deref.ensures.value (none_past i c.args.target c.deref.result.now c.args.place c.in_err-get.ensures.lookup.3) in
    rw (c.from_residual.ensures) none

pub returns-clause-some : goal.returns-clause-some
returns-clause-some g c =
    let i = instr_of {F = g.row.V-Fault.Denot} g.V.TemplateValue.contents in
    let found = c.in_ok-get.ensures.lookup in
    led_if i c.args.target c.led.result c.args.place c.in_ok-get.field-0.now c.deref.ensures.value found.3.0 found.1 c.led.ensures.some

pub returns-clause-none : goal.returns-clause-none
returns-clause-none g c =
    let i = instr_of {F = g.row.V-Fault.Denot} g.V.TemplateValue.contents in
    let found = c.in_ok-get.ensures.lookup in
    unless_led i c.args.target c.led.result c.args.place c.in_ok-get.field-0.now c.deref.ensures.value found.3.0 found.1 c.led.ensures.none
