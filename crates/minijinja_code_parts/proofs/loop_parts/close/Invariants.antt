use Rattle.std.proofs.Common.{◌≡◌, map}
use Rattle.minijinja_semantics.specs.Marks.{closing_count, here}
use Rattle.minijinja_code_parts.specs.internal.AtEnclosingLoop.{open_of}
use Rattle.minijinja_code_parts.specs.internal.Loops.{closed}
use Rattle.minijinja_emitter.specs.internal.AtEmitter.{made_of, margin_of}
use Rattle.minijinja_emitter.specs.internal.Making.{Adds}
use Rattle.minijinja_code_parts.proofs.loop_parts.close.Given as goal

abbrev pub invariant-loop-opened : goal.invariant-loop-opened
invariant-loop-opened g l =
    let made = made_of g.V.TemplateValue.contents in
    let kinds = map open_of (map (λ o. o.now) l.yielded) in
    record {
      added : Adds (made l.fn.code) (made l.code) (closed kinds);
      marked : margin_of l.code ≡ here (closing_count kinds) (margin_of l.fn.code);
    }
