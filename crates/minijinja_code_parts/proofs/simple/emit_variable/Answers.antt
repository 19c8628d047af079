use Rattle.std.proofs.Common.{ap, ◌∙◌}
use Rattle.minijinja_semantics.specs.Code.{Do}
use Rattle.minijinja_semantics.specs.Events as event
use Rattle.minijinja_semantics.specs.Marks as marks
use Rattle.minijinja_semantics.specs.Pieces.{one}
use Rattle.minijinja_emitter.proofs.Adding.{adds_then}
use Rattle.minijinja_emitter.specs.internal.AtEmitter.{margin_of}
use Rattle.minijinja_code_expr.proofs.Results.{ok_gives}
use Rattle.minijinja_code_parts.proofs.Marking.{adds_from, ok_marked, twice_within}
use Rattle.minijinja_code_parts.proofs.simple.emit_variable.Goals as goal

pub returns-clause-added : goal.returns-clause-added
returns-clause-added g c =
    ok_gives c.add_again.result (adds_then (adds_from (one (Do event.Lookup c.args.name.now 0)) c.on_line.ensures.made c.in_ok-add_at.ensures.added)) c.add_again.ensures.added

pub returns-clause-marked : goal.returns-clause-marked
returns-clause-marked g c =
    let s = c.args.span in
    let m = margin_of c.args.code.now in
    ok_marked c.add_again.result (margin_of c.add_again.new.self) (ap marks.again (c.in_ok-add_at.ensures.marked ∙ ap (marks.alone_at s) c.on_line.ensures.marked) ∙ twice_within s m) c.add_again.ensures.marked
