-- What a step outside any tag says of the tokens to come, at the values that the code has.
use Rattle.std.proofs.Common.{◌≡◌, ℕ, ◌+◌, ◌-◌, ◌<◌, ◌≤◌, true, false, cond, [], ◌∷◌, length, refl, ap, sym, ◌∙◌, subst, arith, Option, Some, None, ⊎_elim}
use Rattle.std.specs.Prelude.{is_some}
use Rattle.std.proofs.lemmas.Bool.{ne_eqb, eq-eqb}
use Rattle.minijinja_syntax.specs.Texts.{Text}
use Rattle.minijinja_syntax.specs.Syntax.{Syntax, start_of}
use Rattle.minijinja_syntax.specs.Positions.{slice, span_at}
use Rattle.minijinja_syntax.specs.Markers.{marker_at, next_marker, found_at, found_marker}
use Rattle.minijinja_syntax.specs.Tokens.{Tok, tok_of, template_data}
use Rattle.minijinja_syntax.specs.declared.tokens.Span.{Span}
use Rattle.minijinja_syntax.specs.declared.error.ErrorKind.TheVariants.{SyntaxError}
use Rattle.minijinja_syntax.specs.declared.syntax.StartMarker.{StartMarker}
use Rattle.minijinja_syntax.proofs.Finding.{none_past}
use Rattle.minijinja_syntax.proofs.Walking.{next_marker-here, next_marker-within, next_marker-stops}
use Rattle.minijinja_syntax.specs.Streams.{Stream, before, ended, refused}
use Rattle.minijinja_syntax.specs.declared.tokens.Token.{Token}
use Rattle.minijinja_lexer.specs.Faults.{fault_kind, LexFault}
use Rattle.minijinja_lexer.specs.private.Place.{Place}
use Rattle.minijinja_lexer.specs.Whitespace.{kept_stop, kept_before, body_of, control_len, control_behind}
use Rattle.minijinja_lexer.specs.Cut.{inner_at, plain, comment, line_comment, tag, unclosed_comment, unclosed_raw, segment_of, segment_at}
use Rattle.minijinja_lexer.specs.private.Found.{Is, IsData, IsSkipped, IsRawAt, IsUnclosed}
use Rattle.minijinja_lexer.specs.TextTokens.{start_tok, stream_at, stream_in, refusal_span, segment_tokens, data_tokens}
use Rattle.minijinja_lexer.specs.private.States.{Steps, StateFits, RawSteps, behind, stream_from}
use Rattle.minijinja_lexer.specs.private.Views.{raw_block_view}
use Rattle.minijinja_lexer.specs.declared.raw.RawBlock.{RawBlock}
use Rattle.minijinja_lexer.specs.Faults as fault
use Rattle.minijinja_lexer.specs.Tags.{Tag}
use Rattle.minijinja_lexer.specs.declared.step.Step.{Step}
use Rattle.minijinja_lexer.specs.declared.step.Step.TheVariants as step
use Rattle.minijinja_lexer.specs.declared.step.State.{State}
use Rattle.minijinja_lexer.specs.declared.step.State.TheVariants as state
use Rattle.minijinja_lexer.proofs.Steps.{stream_at-plain, stream_at-comment, stream_at-line_comment, stream_at-raw, stream_at-unclosed_comment, stream_at-unclosed_raw, stream_at-tag}
use Rattle.minijinja_lexer.proofs.Stops.{inner_stop}

-- ---- what stands at a place

-- no marker begins here where the next one does not
none_here : (s : Syntax) (text : Text) (at : ℕ) (m : Option StartMarker) → marker_at s text at ≡ m → (is_some m ≡ true → ⊥) → marker_at s text at ≡ None
none_here s text at None e n = e
none_here s text at (Some m) e n = absurd (n refl)

pub plain_at : (s : Syntax) (text : Text) (at : ℕ) → marker_at s text at ≡ None → segment_at s text at ≡ plain at (next_marker s text at)
unfolding segment_at
plain_at s text at e = ap (segment_of s text at) e

pub marked : (s : Syntax) (text : Text) (at : ℕ) (m : StartMarker) → marker_at s text at ≡ Some m → segment_at s text at ≡ segment_of s text at (Some m)
unfolding segment_at
marked s text at m e = ap (segment_of s text at) e

found_parts : (s : Syntax) (at place : ℕ) (m : Option StartMarker) (r : ℕ × StartMarker × ℕ) → Some r ≡ found_at s at place m → (m ≡ Some r.1) × (r.0 ≡ place - at) × (r.2 ≡ length (start_of s r.1))
found_parts s at place None r e = cc
found_parts s at place (Some m) r e =
    let f : r ≡ (place - at, m, length (start_of s m)) = cc in
    let g = ap (λ (x : ℕ × StartMarker × ℕ). x.1) f in
    (ap Some (sym g), ap (λ (x : ℕ × StartMarker × ℕ). x.0) f, ap (λ (x : ℕ × StartMarker × ℕ). x.2) f ∙ ap (λ m. length (start_of s m)) (sym g))

-- the next marker is none
pub found_end : (s : Syntax) (text : Text) (at : ℕ) → at < length text → None ≡ found_marker s text at → segment_at s text at ≡ plain at (length text)
found_end s text at h e =
    let place : ℕ = next_marker s text at in
    let none : marker_at s text place ≡ None = nothing (marker_at s text place) e in
    let far : place ≡ length text = ⊎_elim (λ q. q) (λ t. let f : false ≡ true = sym (ap is_some none) ∙ t in cc) (next_marker-stops s text at (omega arith)) in
    plain_at s text at
    (none_here s text at (marker_at s text at) refl (λ t. let f = next_marker-here s text at t in absurd (omega (arith, f, far, h))))
    ∙ ap (plain at) far
  where
    nothing : (m : Option StartMarker) → None ≡ found_at s at (next_marker s text at) m → m ≡ None
    nothing None e = refl
    nothing (Some m) e = cc

-- data before the end of the text is kept
pub kept_at_end : (s : Syntax) (text : Text) (at : ℕ) → length text ≡ kept_stop s text at (length text)
unfolding kept_stop
kept_at_end s text at = sym (ap (kept_before s text at (length text)) (none_past s text (length text) (omega arith)))

-- the next marker is ahead
pub found_ahead : (s : Syntax) (text : Text) (at ahead len : ℕ) (m : StartMarker) → at ≤ length text → Some (ahead, m, len) ≡ found_marker s text at → (ahead ≡ 0 → ⊥) →
    (segment_at s text at ≡ plain at (at + ahead)) × (marker_at s text (at + ahead) ≡ Some m) × (len ≡ length (start_of s m))
found_ahead s text at ahead len m h e some =
    let place : ℕ = next_marker s text at in
    let parts = found_parts s at place (marker_at s text place) (ahead, m, len) e in
    let there : place ≡ at + ahead = let w = next_marker-within s text at h in omega (arith, parts.1, w.0) in
    let on : 0 < ahead = omega (arith, some) in (
      plain_at s text at
          (none_here s text at (marker_at s text at) refl (λ t. let f = next_marker-here s text at t in absurd (omega (arith, f, there, on))))
          ∙ ap (plain at) there,
      ap (marker_at s text) (sym there) ∙ parts.0,
      parts.2,
    )

-- the next marker is here
pub found_now : (s : Syntax) (text : Text) (at ahead len : ℕ) (m : StartMarker) → at ≤ length text → Some (ahead, m, len) ≡ found_marker s text at → ahead ≡ 0 → (marker_at s text at ≡ Some m) × (len ≡ length (start_of s m))
found_now s text at ahead len m h e none =
    let place : ℕ = next_marker s text at in
    let parts = found_parts s at place (marker_at s text place) (ahead, m, len) e in
    let there : place ≡ at = let w = next_marker-within s text at h in omega (arith, parts.1, w.0, none) in
    (ap (marker_at s text) (sym there) ∙ parts.0, parts.2)

-- ---- steps

-- from the loop's place to the code's
pub here : (s : Syntax) (whole text : Text) (old at b : ℕ) → text ≡ whole → at ≡ b → stream_at s whole b ≡ stream_at s whole old → stream_at s whole old ≡ stream_at s text at
here s whole text old at b e f g = sym g ∙ ap (stream_at s whole) (sym f) ∙ ap (λ t. stream_at s t at) (sym e)

-- at a place that is known by an equation
at_place : (s : Syntax) (text : Text) (at : ℕ) (p : Place) → p ≡ record { text = text; at = at } → stream_at s text at ≡ stream_at s p.text p.at
at_place s text at p e = ap (λ (q : Place). stream_at s q.text q.at) (sym e)

some_kept : (s : Syntax) (text : Text) (at stop kept : ℕ) → kept ≡ kept_stop s text at stop → (kept ≡ at → ⊥) → segment_tokens s text (plain at stop) ≡ (template_data (slice text at kept), span_at text at kept) ∷ []
some_kept s text at stop kept e n =
    ap (data_tokens text at) (sym e) ∙ ap (λ t. cond t [] ((template_data (slice text at kept), span_at text at kept) ∷ [])) (ne_eqb kept at n)

none_kept : (s : Syntax) (text : Text) (at stop kept : ℕ) → kept ≡ kept_stop s text at stop → kept ≡ at → segment_tokens s text (plain at stop) ≡ []
none_kept s text at stop kept e n =
    ap (data_tokens text at) (sym e) ∙ ap (λ t. cond t [] ((template_data (slice text at kept), span_at text at kept) ∷ [])) (eq-eqb kept at n)

pub outside_data : (s : Syntax) (text d : Text) (at stop kept : ℕ) (span : Span) (p : Place) →
    at < length text → IsData s text at stop kept → (kept ≡ at → ⊥) → d ≡ slice text at kept → span ≡ span_at text at kept → p ≡ record { text = text; at = stop }
    → stream_at s text at ≡ before ((template_data d, span) ∷ []) (stream_at s p.text p.at)
outside_data s text d at stop kept span p h is n e f g =
    stream_at-plain s text at stop h is.is.moves is.is.segment
    ∙ ap (λ ts. before ts (stream_at s text stop)) (some_kept s text at stop kept is.kept_is n)
    ∙ ap (λ x. before ((template_data x, span_at text at kept) ∷ []) (stream_at s text stop)) (sym e)
    ∙ ap (λ x. before ((template_data d, x) ∷ []) (stream_at s text stop)) (sym f)
    ∙ ap (before ((template_data d, span) ∷ [])) (at_place s text stop p g)

pub outside_none : (s : Syntax) (text : Text) (at stop kept : ℕ) (p : Place) →
    at < length text → IsData s text at stop kept → kept ≡ at → p ≡ record { text = text; at = stop }
    → stream_at s text at ≡ stream_at s p.text p.at
outside_none s text at stop kept p h is n g =
    stream_at-plain s text at stop h is.is.moves is.is.segment
    ∙ ap (λ ts. before ts (stream_at s text stop)) (none_kept s text at stop kept is.kept_is n)
    ∙ at_place s text stop p g

pub outside_skipped : (s : Syntax) (text : Text) (at stop : ℕ) (p : Place) → at < length text → IsSkipped s text at stop → p ≡ record { text = text; at = stop } → stream_at s text at ≡ stream_at s p.text p.at
outside_skipped s text at stop p h is g = ⊎_elim
    (λ (c : Is s text at (comment at stop) stop). stream_at-comment s text at stop h c.moves c.segment ∙ at_place s text stop p g)
    (λ (c : Is s text at (line_comment at stop) stop). stream_at-line_comment s text at stop h c.moves c.segment ∙ at_place s text stop p g)
    is

pub outside_unclosed : (s : Syntax) (text : Text) (at : ℕ) (f : LexFault) (span : Span) → at < length text → IsUnclosed s text at f → span ≡ refusal_span text (length text) → stream_at s text at ≡ ended (refused (fault_kind f) (Some span))
outside_unclosed s text at f span h is e = ⊎_elim
    (λ (c : (f ≡ fault.UnclosedComment) × (segment_at s text at ≡ unclosed_comment at)).
    stream_at-unclosed_comment s text at h c.1 ∙ ap (λ x. ended (refused SyntaxError (Some x))) (sym e) ∙ ap (λ f. ended (refused (fault_kind f) (Some span))) (sym c.0))
    (λ (c : (f ≡ fault.UnclosedRaw) × (segment_at s text at ≡ unclosed_raw at)).
    stream_at-unclosed_raw s text at h c.1 ∙ ap (λ x. ended (refused SyntaxError (Some x))) (sym e) ∙ ap (λ f. ended (refused (fault_kind f) (Some span))) (sym c.0))
    is

-- a token after which the state is as before
pub still_outside : (s : Syntax) (old : Stream) (new : State) (t : Token) (span : Span) (p : Place) → new ≡ state.Outside → old ≡ before ((tok_of t, span) ∷ []) (stream_at s p.text p.at) → Steps s old new (step.Token t span) p
still_outside s old new t span p same is =
    (is ∙ ap (λ (x : State). before ((tok_of t, span) ∷ []) (stream_from s p x)) (sym same), subst (λ (x : State). StateFits p x) (sym same) tt)

-- a raw block's step
pub outside_raw : (s : Syntax) (new : State) (text : Text) (at : ℕ) (block : RawBlock) (r : Step) (p : Place) → new ≡ state.Outside → at < length text → IsRawAt s text at block → RawSteps text block r p → Steps s (stream_at s text at) new r p
outside_raw s new text at block (step.Token t span) p same h is steps =
    let a = is.moves in
    let b = is.places in
    let m : at < block.after = omega (arith, a, b.begin_is, b.start_onwards, b.stop_onwards, b.end_onwards, b.after_onwards) in
    still_outside s _ new t span p same
    (stream_at-raw s text at (raw_block_view block) h m is.segment
    ∙ ap (λ x. before ((x, span_at text block.begin block.end) ∷ []) (stream_at s text block.after)) (sym steps.0)
    ∙ ap (λ x. before ((tok_of t, x) ∷ []) (stream_at s text block.after)) (sym steps.1)
    ∙ ap (before ((tok_of t, span) ∷ [])) (at_place s text block.after p steps.2))
outside_raw s new text at block step.Over p same h is steps = absurd steps
outside_raw s new text at block (step.Failed f x) p same h is steps = absurd steps
outside_raw s new text at block step.NoMemory p same h is steps = absurd steps

pub outside_tag : (s : Syntax) (text : Text) (k : Tag) (at body : ℕ) (v : Tok) (span : Span) (p : Place) →
    at < length text → Is s text at (tag k at body (inner_at s text k 0 0 body)) body → v ≡ start_tok k → span ≡ span_at text at body → p ≡ record { text = text; at = body }
    → stream_at s text at ≡ before ((v, span) ∷ []) (stream_in s p.text k (behind s p.text false) 0 0 p.at)
outside_tag s text k at body v span p h is e f g =
    let m = inner_stop s text k 0 0 body is.boundary.0 in
    let n = is.moves in
    stream_at-tag s text k at body h is.segment (omega (arith, m, n))
    ∙ ap (λ x. before ((x, span_at text at body) ∷ []) (stream_in s text k (behind s text false) 0 0 body)) (sym e)
    ∙ ap (λ x. before ((v, x) ∷ []) (stream_in s text k (behind s text false) 0 0 body)) (sym f)
    ∙ ap (λ (q : Place). before ((v, span) ∷ []) (stream_in s q.text k (behind s q.text false) 0 0 q.at)) (sym g)

-- where the marker with its control ends, as the code counts it
pub body_is : (s : Syntax) (text : Text) (at len body : ℕ) (m k : StartMarker) → len ≡ length (start_of s m) → body ≡ at + len + control_len (control_behind text (at + len) m) → m ≡ k → body ≡ body_of s text k at
body_is s text at len body m k l e is =
    e ∙ ap (λ n. at + n + control_len (control_behind text (at + n) m)) l ∙ ap (λ m. body_of s text m at) is

-- a marker of that kind
pub marked_as : (s : Syntax) (text : Text) (at : ℕ) (m k : StartMarker) → marker_at s text at ≡ Some m → m ≡ k → segment_at s text at ≡ segment_of s text at (Some k)
marked_as s text at m k e is = marked s text at m e ∙ ap (λ m. segment_of s text at (Some m)) is
