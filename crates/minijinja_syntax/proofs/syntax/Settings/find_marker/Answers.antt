use Rattle.std.proofs.Common.{◌+◌, ◌-◌, sym, ap, ◌∙◌, length, arith, Some, subst}
use Rattle.std.specs.Prelude.{is_some}
use Rattle.minijinja_syntax.specs.Markers.{starts_line, FindsMarker}
use Rattle.minijinja_syntax.specs.private.SyntaxFields.{syntax_of}
use Rattle.minijinja_syntax.proofs.Finding.{finds, found_here, found_nowhere}
use Rattle.minijinja_syntax.proofs.Walking.{next_marker-on}
use Rattle.minijinja_syntax.proofs.syntax.Settings.find_marker.Goals as goal

pub returns-in-Some-clause-value : goal.returns-in-Some-clause-value
returns-in-Some-clause-value c =
    ap (λ n. Some (c.loop-place.place - c.args.offset, c.in-Some.marker, n)) (ap length c.start_of.ensures)
    ∙ sym (found_here (syntax_of c.args.self.now) c.args.source.now c.args.offset c.loop-place.place c.in-Some.marker c.loop-place.invariant.0 (sym c.in-Some.is ∙ c.candidate_at.ensures.value))

pub returns-in-Some-clause-finds : goal.returns-in-Some-clause-finds
returns-in-Some-clause-finds c =
    let s = syntax_of c.args.self.now in
    subst (FindsMarker s c.args.source.now c.args.offset)
    (found_here s c.args.source.now c.args.offset c.loop-place.place c.in-Some.marker c.loop-place.invariant.0 (sym c.in-Some.is ∙ c.candidate_at.ensures.value)
    ∙ sym (ap (λ n. Some (c.loop-place.place - c.args.offset, c.in-Some.marker, n)) (ap length c.start_of.ensures)))
    (finds s c.args.source.now c.args.offset c.requires)

pub loop-place-preserved : goal.loop-place-preserved
loop-place-preserved c =
    let bytes = c.as_bytes-bytes.ensures.value in
    let here = c.loop-place-test.true in
    let within = ap length bytes in
    let none = ap is_some (sym c.candidate_at.ensures.value ∙ c.in_default.is) in (
      sym (next_marker-on (syntax_of c.args.self.now) c.args.source.now c.loop-place.place (omega (arith, here, within)) none) ∙ c.loop-place.invariant.0,
      (λ on. c.next_starts_line-line_start.ensures (c.loop-place.invariant.1 on ∙ ap (λ t. starts_line t c.loop-place.place) (sym bytes)) ∙ ap (λ t. starts_line t (c.loop-place.place + 1)) bytes),
      omega arith,
      omega (arith, here, within),
    )

pub returns-clause-value : goal.returns-clause-value
returns-clause-value c =
    let past = c.loop-place-test.false in
    let within = ap length c.as_bytes-bytes.ensures.value in
    sym (found_nowhere (syntax_of c.args.self.now) c.args.source.now c.args.offset c.loop-place.place c.loop-place.invariant.0 (omega (arith, past, within)))

pub returns-clause-finds : goal.returns-clause-finds
returns-clause-finds c =
    let s = syntax_of c.args.self.now in
    let past = c.loop-place-test.false in
    let within = ap length c.as_bytes-bytes.ensures.value in
    subst (FindsMarker s c.args.source.now c.args.offset)
    (found_nowhere s c.args.source.now c.args.offset c.loop-place.place c.loop-place.invariant.0 (omega (arith, past, within)))
    (finds s c.args.source.now c.args.offset c.requires)
