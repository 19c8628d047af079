-- What `find_marker` finds.
use Rattle.std.proofs.Common.{◌≡◌, ℕ, ◌+◌, ◌-◌, ◌<◌, ◌≤◌, true, false, length, refl, ap, sym, ◌∙◌, arith, subst, Option, Some, None, ⊎_elim}
use Rattle.std.specs.Prelude.{is_some, ◌⊎◌}
use Rattle.std.proofs.lemmas.Bool.{cases_lt}
use Rattle.minijinja_syntax.specs.Texts.{Text}
use Rattle.minijinja_syntax.specs.Syntax.{Syntax, start_of}
use Rattle.minijinja_syntax.specs.Markers.{marker_at, next_marker, found_at, found_marker, FindsMarker, NoMarkerBetween, IsMarkerAt}
use Rattle.minijinja_syntax.specs.declared.syntax.StartMarker.{StartMarker}
use Rattle.minijinja_syntax.proofs.Markers.{AtMarker, eligible_past, marker_holds, no_marker_is, none_from}
use Rattle.minijinja_syntax.proofs.Walking.{next_marker-here, next_marker-over, next_marker-within, next_marker-before, next_marker-stops}

pub none_between : (s : Syntax) (text : Text) (at : ℕ) → NoMarkerBetween s text at (next_marker s text at)
none_between s text at p h l = none_from s text p (marker_at s text p) (marker_holds s text p) (next_marker-before s text at p h l)

finds_by : (s : Syntax) (text : Text) (at place : ℕ) (m : Option StartMarker) → at ≤ place → NoMarkerBetween s text at place → (place ≡ length text) ⊎ (is_some m ≡ true) → AtMarker s text place m → FindsMarker s text at (found_at s at place m)
unfolding AtMarker
finds_by s text at place None le none stops h = ⊎_elim (λ e. subst (λ n. NoMarkerBetween s text at n) e none) (λ t. let e : false ≡ true = t in cc) stops
finds_by s text at place (Some m) le none stops h =
    let e : at + (place - at) ≡ place = omega arith in
    (subst (λ n. IsMarkerAt s text n m) (sym e) h, refl, subst (λ n. NoMarkerBetween s text at n) (sym e) none)

-- the marker that is computed is the one that is described
pub finds : (s : Syntax) (text : Text) (at : ℕ) → at ≤ length text → FindsMarker s text at (found_marker s text at)
finds s text at h =
    let place : ℕ = next_marker s text at in
    finds_by s text at place (marker_at s text place) (next_marker-within s text at h).0 (none_between s text at) (next_marker-stops s text at h) (marker_holds s text place)

pub none_past : (s : Syntax) (text : Text) (p : ℕ) → length text ≤ p → marker_at s text p ≡ None
none_past s text p h = no_marker_is s text p (λ m. eligible_past s text p m h)

-- the next marker stands at the first place where one does
pub next_marker_is : (s : Syntax) (text : Text) (at stop : ℕ) → at ≤ stop → stop ≤ length text → NoMarkerBetween s text at stop → (stop ≡ length text) ⊎ (is_some (marker_at s text stop) ≡ true) → next_marker s text at ≡ stop
next_marker_is s text at stop le within none here =
    let n : ℕ = next_marker s text at in
    let w = next_marker-within s text at (omega (arith, le, within)) in
    let not_less : stop ≤ n = ⊎_elim
    (λ (l : n < stop). ⊎_elim
    (λ e. absurd (omega (arith, e, l, within)))
    (λ t. let f : false ≡ true = sym (ap is_some (no_marker_is s text n (none n w.0 l))) ∙ t in cc)
    (next_marker-stops s text at (omega (arith, le, within))))
    (λ h. h)
    (cases_lt n stop) in
    let not_more : n ≤ stop = ⊎_elim
    (λ (l : stop < n). ⊎_elim
    (λ e. absurd (omega (arith, e, l, w.1)))
    (λ t. let f : false ≡ true = sym (next_marker-before s text at stop le l) ∙ t in cc)
    here)
    (λ h. h)
    (cases_lt stop n) in
    omega (arith, not_less, not_more)

-- the values that the code has
found_is : (s : Syntax) (text : Text) (offset place : ℕ) (m : StartMarker) → next_marker s text offset ≡ place → marker_at s text place ≡ Some m → found_marker s text offset ≡ Some (place - offset, m, length (start_of s m))
found_is s text offset place m p e = ap (λ q. found_at s offset q (marker_at s text q)) p ∙ ap (found_at s offset place) e

pub found_here : (s : Syntax) (text : Text) (offset place : ℕ) (m : StartMarker) → next_marker s text place ≡ next_marker s text offset → Some m ≡ marker_at s text place → found_marker s text offset ≡ Some (place - offset, m, length (start_of s m))
found_here s text offset place m same e = found_is s text offset place m (sym same ∙ next_marker-here s text place (ap is_some (sym e))) (sym e)

pub found_nowhere : (s : Syntax) (text : Text) (offset place : ℕ) → next_marker s text place ≡ next_marker s text offset → length text ≤ place → found_marker s text offset ≡ None
found_nowhere s text offset place same past =
    let end : next_marker s text offset ≡ place = sym same ∙ next_marker-over s text place past in
    ap (λ q. found_at s offset q (marker_at s text q)) end ∙ ap (found_at s offset place) (none_past s text place past)
