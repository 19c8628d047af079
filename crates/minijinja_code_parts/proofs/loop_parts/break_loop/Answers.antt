use Rattle.std.proofs.Common.{ap, ◌∙◌}
use Rattle.minijinja_semantics.specs.Marks.{closing_count, here}
use Rattle.minijinja_emitter.proofs.Adding.{adds_as}
use Rattle.minijinja_emitter.specs.internal.AtEmitter.{margin_of}
use Rattle.minijinja_code_expr.proofs.Results.{ok_gives}
use Rattle.minijinja_code_parts.specs.internal.AtEnclosingLoop.{around_of}
use Rattle.minijinja_code_parts.specs.internal.Loops.{closed}
use Rattle.minijinja_code_parts.proofs.Leaving.{break_follows}
use Rattle.minijinja_code_parts.proofs.loop_parts.break_loop.Goals as goal

pub returns-clause-added : goal.returns-clause-added
returns-clause-added g c = ok_gives c.break_at.result (break_follows {t = around_of c.args.enclosing.now} c.requires (adds_as (ap closed c.opened.ensures) c.in_ok-close.ensures.added) c.in_ok-place.ensures.added c.in_ok-place.ensures.place) c.break_at.ensures

pub returns-clause-marked : goal.returns-clause-marked
returns-clause-marked g c =
    let m = margin_of c.args.code.now in
    ok_gives c.break_at.result (λ s. c.in_ok-place.ensures.marked ∙ ap (here 1) (c.in_ok-close.ensures.marked ∙ ap (λ os. here (closing_count os) m) c.opened.ensures)) c.break_at.ensures
