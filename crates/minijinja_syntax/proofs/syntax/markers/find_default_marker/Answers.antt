use Rattle.std.proofs.Common.{◌≡◌, ◌-◌, sym, ap, ◌∙◌, refl, Some, arith}
use Rattle.std.specs.Prelude.{is_some}
use Rattle.minijinja_syntax.specs.Markers.{marker_at, next_marker}
use Rattle.minijinja_syntax.proofs.Braces.{found_default}
use Rattle.minijinja_syntax.proofs.Walking.{next_marker-here}
use Rattle.minijinja_syntax.proofs.syntax.markers.find_default_marker.Goals as goal

pub returns-in-Some : goal.returns-in-Some
returns-in-Some c s built starts =
    let e : 0 ≡ c.args.offset - c.args.offset = omega arith in
    ap (λ n. Some (n, c.in-Some.marker, 2)) e
    ∙ found_default s c.args.source.now c.args.offset c.args.offset c.in-Some.marker starts refl
    (sym c.in-Some.is ∙ c.default_marker_at.ensures s built starts ∙ ap (λ t. marker_at s t c.args.offset) c.as_bytes-text.ensures.value)

pub returns-in_ok-marker-in-None : goal.returns-in_ok-marker-in-None
returns-in_ok-marker-in-None c s built starts =
    let source = c.args.source.now in
    let place = c.next_default_place-place.result in
    let marker = c.in_ok-marker-in-None.marker in
    let here : Some marker ≡ marker_at s source place = sym c.in_ok-marker-in-None.was ∙ c.default_marker_at-in-None.ensures s built starts ∙ ap (λ t. marker_at s t place) c.as_bytes-text.ensures.value in
    let next : place ≡ next_marker s source c.args.offset = c.next_default_place-place.ensures.place s built starts ∙ ap (λ t. next_marker s t c.args.offset) c.as_bytes-text.ensures.value in
    found_default s source c.args.offset place marker starts (next_marker-here s source place (sym (ap is_some here)) ∙ next) here
