-- Names of filters and tests, a part at a time.
use Rattle.std.proofs.Common.{◌≡◌, Bool, true, false, List, [], ◌∷◌, if◌then◌else◌, Some, None, refl, sym, ap, ◌∙◌, subst}
use Rattle.minijinja_syntax.specs.Positions.{slice}
use Rattle.minijinja_syntax.specs.Tokens.{dot}
use Rattle.minijinja_syntax.specs.Texts.{Text}
use Rattle.minijinja_syntax.specs.Streams.{SpannedTok}
use Rattle.minijinja_syntax.specs.declared.tokens.Span.{Span}
use Rattle.minijinja_lexer.specs.Slices.{IsBetweenChars}
use Rattle.minijinja_grammar.specs.Words.{is}
use Rattle.minijinja_grammar.specs.Places.{Place}
use Rattle.minijinja_grammar.specs.internal.Forms.{go_on, Form, one, Read, got, short, wrong, read_then, after, held_or_wrong, read_one, read_turn, if_held, read_any, reads}
use Rattle.minijinja_grammar.specs.Ahead.{comes}
use Rattle.minijinja_grammar.specs.internal.ExprForms.{ident_and_span, name, name_part, name_parts, next, span_of_mark}
use Rattle.minijinja_grammar.proofs.Forms.{same_read}
use Rattle.minijinja_grammar.proofs.Staying.{Stays, stays}
use Rattle.minijinja_grammar.proofs.Unrolled.{many_is}

abbrev others : Span → Place → Read Span
others at = reads (name_parts at)

pub parts_done : (at : Span) (p : Place) → comes (is dot) p.tokens ≡ false → reads (name_parts at) p ≡ got at p
unfolding name_parts
parts_done at p e = many_is (span_of_mark dot) name_part at p ∙ go p.tokens e
  where
    none : (u : SpannedTok) (us : List SpannedTok) (b : Bool) → b ≡ false →
        if_held (if b then Some u.1 else None) (λ h. read_turn (reads (name_part at h) (after p u us)) others) (got at p) ≡ got at p
    none u us true k = cc
    none u us false k = refl

    go : (us : List SpannedTok) → comes (is dot) us ≡ false → read_any (span_of_mark dot) (λ h q. read_turn (reads (name_part at h) q) others) at p us ≡ got at p
    go [] k = refl
    go (u ∷ us) k = none u us (is dot u.0) k

pub parts_more : (at : Span) (p : Place) → comes (is dot) p.tokens ≡ true →
    reads (name_parts at) p ≡ read_then (reads (next dot) p) (λ s q. read_then (reads (one ident_and_span) q) (λ x r. reads (name_parts x.1) r))
unfolding reads name_part name_parts
parts_more at p e = many_is (span_of_mark dot) name_part at p ∙ go p.tokens e
  where
    turned : (o : Read (Text × Span)) → read_turn (read_then o (λ x r. got (go_on x.1) r)) others ≡ read_then o (λ x r. reads (name_parts x.1) r)
    turned (got x r) = refl
    turned (short r) = refl
    turned (wrong r) = refl

    at_token : (u : SpannedTok) (us : List SpannedTok) (b : Bool) → b ≡ true →
        if_held (if b then Some u.1 else None) (λ h. read_turn (reads (name_part at h) (after p u us)) others) (got at p) ≡
        read_then (held_or_wrong (if b then Some u.1 else None) (after p u us)) (λ s q. read_then (reads (one ident_and_span) q) (λ x r. reads (name_parts x.1) r))
    at_token u us true k = turned (reads (one ident_and_span) (after p u us))
    at_token u us false k = cc

    go : (us : List SpannedTok) → comes (is dot) us ≡ true →
        read_any (span_of_mark dot) (λ h q. read_turn (reads (name_part at h) q) others) at p us ≡
        read_then (read_one (span_of_mark dot) p us) (λ s q. read_then (reads (one ident_and_span) q) (λ x r. reads (name_parts x.1) r))
    go [] k = cc
    go (u ∷ us) k = at_token u us (is dot u.0) k

-- a name of one part is that part, and any other is a slice of the source
pub name_is : (p : Place) → reads name p ≡ read_then (reads (one ident_and_span) p)
    (λ x q. if comes (is dot) q.tokens then read_then (reads (name_parts x.1) q) (λ to r. got (slice r.source x.1.start_offset to.end_offset) r) else got x.0 q)
unfolding reads name
name_is p = refl

-- ---- the text stays the same

pub same_source : {A : Type 0} (f : Form A) (p q : Place) (x : A) → reads f p ≡ got x q → q.source ≡ p.source
same_source {A = A} f p q x e = go (reads f p) e (stays f p)
  where
    go : (o : Read A) → o ≡ got x q → Stays p o → q.source ≡ p.source
    go (got y r) i h = ap (λ s. s.source) (sym (same_read y x r q i).0) ∙ h.source
    go (short r) i h = cc
    go (wrong r) i h = cc

-- so a span between characters remains one
pub still_between : {A : Type 0} (f : Form A) (p q : Place) (x : A) (s : Span) → reads f p ≡ got x q → IsBetweenChars p.source s → IsBetweenChars q.source s
still_between f p q x s e h = subst (λ t. IsBetweenChars t s) (sym (same_source f p q x e)) h
