use Rattle.std.proofs.Common.{◌≡◌, drop}
use Rattle.minijinja_emitter.specs.internal.AtEmitter.{made_of, margin_of}
use Rattle.minijinja_code_expr.specs.private.Comparing.{jumping}
use Rattle.minijinja_code_expr.proofs.chain.fill_jumps.Given as goal

abbrev pub invariant-loop-place : goal.invariant-loop-place
invariant-loop-place g l =
    let made = made_of g.V.TemplateValue.contents in
    record {
      jumping : jumping (drop l.place-index l.places) l.target (made l.code) ≡ jumping l.places l.target (made l.initial.code);
      same : margin_of l.code ≡ margin_of l.initial.code;
    }
