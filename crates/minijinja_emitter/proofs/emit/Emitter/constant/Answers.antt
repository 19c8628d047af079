use Rattle.std.proofs.Common.{length, map, sym, ap, ◌∙◌, arith}
use Rattle.std.proofs.lemmas.List.{length-map}
use Rattle.minijinja_instructions.specs.Instructions.{instr_of}
use Rattle.minijinja_emitter.specs.internal.Making.{alone, between}
use Rattle.minijinja_emitter.proofs.Constants.{apart_not_alone, next_alone}
use Rattle.minijinja_emitter.proofs.emit.Emitter.constant.Goals as goal
use Rattle.minijinja_emitter.proofs.emit.Emitter.constant.Goals.{in_default-via-in-Some+else-to-from, in_default-via-in_default}

pub returns-in-Some : goal.returns-in-Some
returns-in-Some g c =
    let i = instr_of {F = g.row.V-Fault.Denot} g.V.TemplateValue.contents in
    let found = c.in-Some.ensures.lookup in
    λ within. c.constant_of.ensures ∙ sym (next_alone i c.deref.result.now c.args.from c.args.to c.in-Some.instruction.now c.if-to-from.true found.3.0 found.1) ∙ ap (λ xs. alone (between c.args.from c.args.to (map i xs))) c.deref.ensures.value

pub returns-in_default : goal.returns-in_default
returns-in_default g c =
    let i = instr_of {F = g.row.V-Fault.Denot} g.V.TemplateValue.contents in
    let items = c.args.self.now.code.list.items in
    λ within.
    elim c.in_default.branch [
      | in_default-via-in-Some+else-to-from w ↦ sym (apart_not_alone (map i items) c.args.from c.args.to within w.if-to-from.false)
      | in_default-via-in_default w ↦ sym (apart_not_alone (map i items) c.args.from c.args.to within (λ next. absurd (omega (arith, next, within, length-map items i, ap length c.deref.ensures.value, w.in_default.ensures.lookup.3))))
    ]
