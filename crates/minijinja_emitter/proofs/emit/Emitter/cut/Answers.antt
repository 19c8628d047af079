use Rattle.std.proofs.Common.{List, map, ap, sym, ◌∙◌}
use Rattle.std.proofs.lemmas.List.{take-map}
use Rattle.minijinja_semantics.specs.Code.{Instr}
use Rattle.minijinja_instructions.specs.Instructions.{instr_of}
use Rattle.minijinja_emitter.specs.internal.AtEmitter.{made_of}
use Rattle.minijinja_emitter.specs.internal.Making.{Made}
use Rattle.minijinja_emitter.proofs.emit.Emitter.cut.Goals as goal

pub returns-clause-cut : goal.returns-clause-cut
returns-clause-cut g c =
    let v = g.V.TemplateValue.contents in
    let put : List (Instr g.V.TemplateValue.Contents) → Made g.V.TemplateValue.Contents = λ l. record (made_of v c.args.self.now) { code = l } in
    ap put (ap (map (instr_of v)) c.cut.ensures.items ∙ sym (take-map (instr_of v) c.args.place c.args.self.now.code.list.items))
