use Rattle.std.proofs.Common.{refl, ap, ◌∙◌}
use Rattle.minijinja_semantics.specs.Marks.{here}
use Rattle.minijinja_semantics.specs.Pieces.{OpenScope, OpenAutoEscape, OpenCapture}
use Rattle.minijinja_emitter.specs.internal.AtEmitter.{margin_of}
use Rattle.minijinja_code_parts.specs.internal.AtEnclosingLoop.{open_of}
use Rattle.minijinja_code_parts.proofs.LoopParts.{closed_next, closed_scope, closed_auto_escape, closed_capture}
use Rattle.minijinja_code_parts.proofs.Marking.{closing_next, closing_one}
use Rattle.minijinja_code_parts.proofs.loop_parts.close.Goals as goal

pub loop-opened-preserved-in-Continue-1 : goal.loop-opened-preserved-in-Continue-1
loop-opened-preserved-in-Continue-1 g c =
    let o = c.in-Some.opened in
    record {
      added = closed_next c.loop-opened.yielded o c.loop-opened.invariant.added (closed_scope (open_of o.now) (ap open_of c.in-Scope.is) c.in_ok-add-in-Scope.ensures.added);
      marked = closing_next c.loop-opened.yielded o (margin_of c.args.code.now) c.loop-opened.invariant.marked (closing_one (open_of o.now) OpenScope 1 (margin_of c.loop-opened.code) (ap open_of c.in-Scope.is) refl c.in_ok-add-in-Scope.ensures.marked);
    }

pub loop-opened-preserved-in-Continue-branch-2 : goal.loop-opened-preserved-in-Continue-branch-2
loop-opened-preserved-in-Continue-branch-2 g c =
    let o = c.in-Some.opened in
    record {
      added = closed_next c.loop-opened.yielded o c.loop-opened.invariant.added (closed_auto_escape (open_of o.now) (ap open_of c.in-AutoEscape.is) c.in_ok-add-in-AutoEscape.ensures.added);
      marked = closing_next c.loop-opened.yielded o (margin_of c.args.code.now) c.loop-opened.invariant.marked (closing_one (open_of o.now) OpenAutoEscape 1 (margin_of c.loop-opened.code) (ap open_of c.in-AutoEscape.is) refl c.in_ok-add-in-AutoEscape.ensures.marked);
    }

pub loop-opened-preserved : goal.loop-opened-preserved
loop-opened-preserved g c =
    let o = c.in-Some.opened in
    record {
      added = closed_next c.loop-opened.yielded o c.loop-opened.invariant.added (closed_capture (open_of o.now) (ap open_of c.in-Capture.is) c.in_ok-add-in-Capture.ensures.added c.in_ok-add-in-Capture-2.ensures.added);
      marked = closing_next c.loop-opened.yielded o (margin_of c.args.code.now) c.loop-opened.invariant.marked (closing_one (open_of o.now) OpenCapture 2 (margin_of c.loop-opened.code) (ap open_of c.in-Capture.is) refl (c.in_ok-add-in-Capture-2.ensures.marked ∙ ap (here 1) c.in_ok-add-in-Capture.ensures.marked));
    }
