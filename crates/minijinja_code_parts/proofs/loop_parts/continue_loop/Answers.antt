use Rattle.std.proofs.Common.{ap, ◌∙◌}
use Rattle.minijinja_semantics.specs.Code.{Jump}
use Rattle.minijinja_semantics.specs.Pieces.{one}
use Rattle.minijinja_semantics.specs.Marks.{closing_count, here}
use Rattle.minijinja_emitter.proofs.Adding.{adds_as}
use Rattle.minijinja_emitter.specs.internal.AtEmitter.{margin_of}
use Rattle.minijinja_code_expr.proofs.Results.{ok_gives}
use Rattle.minijinja_code_parts.specs.internal.AtEnclosingLoop.{around_of}
use Rattle.minijinja_code_parts.specs.internal.Loops.{closed}
use Rattle.minijinja_code_parts.proofs.Leaving.{continue_follows}
use Rattle.minijinja_code_parts.proofs.Marking.{ok_marked}
use Rattle.minijinja_code_parts.proofs.loop_parts.continue_loop.Goals as goal

pub returns-clause-added : goal.returns-clause-added
returns-clause-added g c = ok_gives c.jump_to.result (λ s. continue_follows (around_of c.args.enclosing.now) (adds_as (ap closed c.opened.ensures) c.in_ok-close.ensures.added) (adds_as (ap (λ n. one (Jump n)) c.iterate.ensures) s)) c.jump_to.ensures.added

pub returns-clause-marked : goal.returns-clause-marked
returns-clause-marked g c =
    let m = margin_of c.args.code.now in
    ok_marked c.jump_to.result (margin_of c.jump_to.new.self) (ap (here 1) (c.in_ok-close.ensures.marked ∙ ap (λ os. here (closing_count os) m) c.opened.ensures)) c.jump_to.ensures.marked
