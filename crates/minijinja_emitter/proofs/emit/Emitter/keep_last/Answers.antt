use Rattle.std.proofs.Common.{◌≡◌, ◌++◌, ◌∷◌, [], List, map, ap, ◌∙◌}
use Rattle.std.proofs.lemmas.List.{map-append}
use Rattle.minijinja_semantics.specs.Code.{Instr}
use Rattle.minijinja_instructions.specs.Instructions.{instr_of}
use Rattle.minijinja_emitter.specs.internal.AtEmitter.{made_of}
use Rattle.minijinja_emitter.specs.internal.Making.{Made, followed}
use Rattle.minijinja_emitter.proofs.Constants.{last_kept}
use Rattle.minijinja_emitter.proofs.emit.Emitter.keep_last.Goals as goal

pub returns-in_ok-push-clause-kept : goal.returns-in_ok-push-clause-kept
returns-in_ok-push-clause-kept g c =
    let v = g.V.TemplateValue.contents in
    let i = instr_of {F = g.row.V-Fault.Denot} v in
    let old = c.args.self.now.code.list.items in
    let front = c.pop.new.self.list.items in
    let last = c.in-Some.last in
    let put : List (Instr g.V.TemplateValue.Contents) → Made g.V.TemplateValue.Contents = λ l. record (made_of v c.args.self.now) { code = l } in
    let all : map i old ≡ map i front ++ i last ∷ [] = ap (map i) c.in-Some.ensures.some ∙ map-append i front (last ∷ []) in
    let made = c.in_ok-push.ensures.made ∙ ap (λ (m : Made g.V.TemplateValue.Contents). followed m (i last ∷ [])) (c.stand_at.ensures.made ∙ c.cut.ensures.cut) in
    λ within. made ∙ ap put (last_kept c.args.place (map i old) (map i front) (i last) all within)
