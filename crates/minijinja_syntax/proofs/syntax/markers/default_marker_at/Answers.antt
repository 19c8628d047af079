use Rattle.std.proofs.Common.{sym, ◌∙◌, arith}
use Rattle.minijinja_syntax.proofs.Braces.{marker_at-brace, marker_at-no_brace, marker_at-last}
use Rattle.minijinja_syntax.proofs.syntax.markers.default_marker_at.Goals as goal
use Rattle.minijinja_syntax.proofs.syntax.markers.default_marker_at.Goals.{else-text-at-ge2-via-then-text-at-ge2+else-text-at-eq123, else-text-at-ge2-via-else-text-at-ge2}

pub returns-then-text-at-eq123 : goal.returns-then-text-at-eq123
returns-then-text-at-eq123 c s built starts =
    let room = c.if-text-at-ge2.true in
    c.braced_marker.ensures ∙ marker_at-brace s c.args.text.now c.args.at built starts (omega (arith, room)) c.if-text-at-eq123.true

pub returns-else-text-at-ge2 : goal.returns-else-text-at-ge2
returns-else-text-at-ge2 c s built starts =
    elim c.else-text-at-ge2.branch [
      | else-text-at-ge2-via-then-text-at-ge2+else-text-at-eq123 w ↦ sym (marker_at-no_brace s c.args.text.now c.args.at starts w.if-text-at-eq123.false)
      | else-text-at-ge2-via-else-text-at-ge2 w ↦ let short = w.if-text-at-ge2.false in sym (marker_at-last s c.args.text.now c.args.at starts (omega (arith, short)))
    ]
