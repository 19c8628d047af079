use Rattle.std.proofs.Common.{◌≡◌, drop}
use Rattle.minijinja_emitter.specs.internal.AtEmitter.{made_of, margin_of}
use Rattle.minijinja_code_parts.specs.internal.EnclosingLoops.{with_ends}
use Rattle.minijinja_code_parts.proofs.loop_parts.lead_on.Given as goal

abbrev pub invariant-loop-place : goal.invariant-loop-place
invariant-loop-place g l =
    let made = made_of g.V.TemplateValue.contents in
    record {
      marked : margin_of l.code ≡ margin_of l.initial.code;
      same : made l.code ≡ record (made l.initial.code) { code = (made l.code).code };
      ends : with_ends (drop l.place-index l.places) l.end (made l.code).code ≡ with_ends l.places l.end (made l.initial.code).code;
    }
