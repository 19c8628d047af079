-- The event of a macro names where its body begins.
use Rattle.std.proofs.Common.{Some, ap, ◌∙◌, sym, subst}
use Rattle.minijinja_semantics.specs.Machine.{traced}
use Rattle.minijinja_instructions.specs.Instructions.{instr_of}
use Rattle.minijinja_replay.specs.Replay.{asks}
use Rattle.minijinja_replay.specs.private.AtMachine.{Does}
use Rattle.minijinja_replay.proofs.Steps.{if_ok_then}
use Rattle.minijinja_replay.proofs.machine.Machine.act.Goals as goal

pub returns-in-BuildMacro-clause-step : goal.returns-in-BuildMacro-clause-step
returns-in-BuildMacro-clause-step g c =
    let t = g.V.TemplateValue in
    let m = c.args.self.now in
    let stands = c.requires.at ∙ ap (λ i. Some (instr_of t.contents i)) c.in-BuildMacro.is in
    if_ok_then c.build_macro.result
    (λ step does. subst (λ i. Does t.functions t.contents t.fault_contents m (Some (instr_of t.contents i)) c.build_macro.new.self step) (sym c.in-BuildMacro.is)
    (does c.in-BuildMacro.field-0.now c.in-BuildMacro.field-1 c.in-BuildMacro.field-2 (λ vs. ap (λ o. traced m.place (asks o m.place vs)) stands)))
    c.build_macro.ensures.step
