use Rattle.std.proofs.Common.{List, map, ap, ◌∙◌}
use Rattle.std.proofs.lemmas.List.{map-set}
use Rattle.minijinja_semantics.specs.Code.{Instr}
use Rattle.minijinja_instructions.specs.Instructions.{instr_of}
use Rattle.minijinja_emitter.specs.internal.AtEmitter.{texts_of}
use Rattle.minijinja_emitter.specs.internal.Making.{Made}
use Rattle.minijinja_emitter.proofs.emit.Emitter.fill.Goals as goal

pub returns-clause-filled : goal.returns-clause-filled
returns-clause-filled g c =
    let i = instr_of g.V.TemplateValue.contents in
    let old = c.args.self.now in
    let with : List (Instr g.V.TemplateValue.Contents) → Made g.V.TemplateValue.Contents = λ code. record { code = code; filters = texts_of old.filters; tests = texts_of old.tests } in
    ap with (ap (map i) c.set.ensures.items ∙ map-set i old.code.list.items c.args.place c.args.instruction)
