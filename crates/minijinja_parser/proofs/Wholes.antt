-- Whole texts: what is derived of them where they are read whole, and where they are refused.
use Rattle.std.proofs.Common.{◌≡◌, ◌⊎◌, inl, inr, List, [], ◌∷◌, Contains, Some, Err, Option, arith, refl, sym, ap, ap₂, subst, ◌∙◌}
use Rattle.minijinja_syntax.specs.Errors.{kind_of, span_of}
use Rattle.minijinja_syntax.specs.Streams.{SpannedTok, Ending, finished, refused}
use Rattle.minijinja_syntax.specs.declared.tokens.Span.{Span}
use Rattle.minijinja_syntax.specs.declared.error.Error.{Error}
use Rattle.minijinja_syntax.specs.declared.error.ErrorKind.{ErrorKind}
use Rattle.minijinja_syntax.specs.declared.error.ErrorKind.TheVariants.{OutOfMemory, SyntaxError, BadEscape}
use Rattle.minijinja_grammar.specs.internal.Forms.{Form, Read, got, short, wrong, one, read_one, reads}
use Rattle.minijinja_grammar.specs.Places.{Place}
use Rattle.minijinja_grammar.specs.internal.Whole.{IsWholeOf}
use Rattle.minijinja_grammar.specs.Derived.{FitsSoFar}
use Rattle.minijinja_grammar.proofs.Forms.{sound, complete, same_read}
use Rattle.minijinja_grammar.proofs.Staying.{IsTakenFrom, taken_before, taken_since, Stays, stays}
use Rattle.minijinja_grammar.proofs.Trees.{fits_to_end}
use Rattle.minijinja_grammar.proofs.Whole.{IsAtEnd}
use Rattle.minijinja_parser.specs.Causes.{IsRefusal}
use Rattle.minijinja_parser.specs.Placing.{IsPlacedAt, at_token, at_last, at_refusal}
use Rattle.minijinja_parser.specs.private.Wholes.{IsOver, IsCutAt, HasMisfit, HasTakenOne, ReadsWhole, IsOfEnding, IsErrorAt}
use Rattle.minijinja_parser_tokens.specs.declared.refusal.Refusal.{Refusal}
use Rattle.minijinja_parser_tokens.specs.declared.refusal.Refusal.TheVariants as refusal

abbrev place_or : {A : Type 0} → Place → Read A → Place
place_or p (got x q) = q
place_or p (short q) = q
place_or p (wrong q) = q

-- how tokens end stays the same while they are read
pub same_ending : {A : Type 0} (f : Form A) (p q : Place) (x : A) → reads f p ≡ got x q → q.ending ≡ p.ending
same_ending {A = A} f p q x e = go (reads f p) e (stays f p)
  where
    go : (o : Read A) → o ≡ got x q → Stays p o → q.ending ≡ p.ending
    go (got y r) i h = ap (λ s. s.ending) (sym (same_read y x r q i).0) ∙ h.ending
    go (short r) i h = cc
    go (wrong r) i h = cc

-- what is read whole is derived
pub whole_of : {A : Type 0} (f : Form A) (p q : Place) (x : A) → reads f p ≡ got x q → IsOver q → IsWholeOf f p x
whole_of f p q x e h = record { unrefused = sym (same_ending f p q x e) ∙ h.unrefused; stop = q; derived = sound f p q x e; none_left = h.none_left }

pub unrefused : {A : Type 0} (f : Form A) (p q : Place) (x : A) (kind : ErrorKind) (span : Option Span) → reads f p ≡ got x q → IsOver q → p.ending ≡ refused kind span → ⊥
unrefused f p q x kind span e h k = let i : q.ending ≡ p.ending = same_ending f p q x e in let j = h.unrefused in cc

-- where a token was taken one was left
some_left : (p q : Place) → HasTakenOne p q → p.tokens ≡ [] → ⊥
some_left p q h e = let i = h.1.next in cc

-- where something is derived, memory alone is refused
pub refused_whole : {A X : Type 0} (f : Form A) (view : X → A) (p q : Place) (r : Refusal) (t : A) →
    ReadsWhole view (reads f p) (Err r) q → IsWholeOf f p t → r ≡ refusal.OutOfMemory
refused_whole f view p q refusal.OutOfMemory t h k = refl
refused_whole {A = A} f view p q (refusal.Ended w) t h k = go (reads f p) refl h
  where
    go : (o : Read A) → reads f p ≡ o → IsCutAt q o → refusal.Ended w ≡ refusal.OutOfMemory
    go (got x s) i j = absurd (j.1.refused (ap (λ u. u.ending) (sym j.0) ∙ same_ending f p s x i ∙ k.unrefused))
    go (short s) i j = let l = complete f p k.stop t k.derived in cc
    go (wrong s) i j = absurd j
refused_whole {A = A} f view p q (refusal.Wrong w) t h k = go (reads f p) refl h
  where
    go : (o : Read A) → reads f p ≡ o → HasMisfit q o → refusal.Wrong w ≡ refusal.OutOfMemory
    go (got x s) i j = absurd (some_left s q j (ap (λ u. u.tokens) (same_read x t s k.stop (sym i ∙ complete f p k.stop t k.derived)).0 ∙ k.none_left))
    go (short s) i j = absurd j
    go (wrong s) i j = let l = complete f p k.stop t k.derived in cc

pub memory_at : (q : Place) (r : Refusal) (e : Error) → r ≡ refusal.OutOfMemory → IsErrorAt q r e → kind_of e ≡ OutOfMemory
memory_at q refusal.OutOfMemory e i h = h
memory_at q (refusal.Ended w) e i h = cc
memory_at q (refusal.Wrong w) e i h = cc

-- where memory is refused, nothing is at fault
pub not_at_fault : (e : Error) → IsRefusal e → kind_of e ≡ OutOfMemory → ⊥
not_at_fault e (inl i) m = cc
not_at_fault e (inr i) m = cc

-- a text at fault is not derived
pub not_derived : {A X : Type 0} (f : Form A) (view : X → A) (p q : Place) (r : Refusal) (e : Error) (t : A) →
    ReadsWhole view (reads f p) (Err r) q → IsErrorAt q r e → IsRefusal e → IsWholeOf f p t → ⊥
not_derived f view p q r e t h i k l = let m = memory_at q r e (refused_whole f view p q r t h l) i in not_at_fault e k m

-- where the tokens end and none is left, so does the text
ended_so : {A : Type 0} (f : Form A) (p q : Place) → IsCutAt q (reads f p) → (q.tokens ≡ []) × (q.ending ≡ p.ending)
ended_so {A = A} f p q h = go (reads f p) refl h (stays f p)
  where
    go : (o : Read A) → reads f p ≡ o → IsCutAt q o → Stays p o → (q.tokens ≡ []) × (q.ending ≡ p.ending)
    go (got x s) i j k = (j.1.none_left, ap (λ u. u.ending) (sym j.0) ∙ k.ending)
    go (short s) i j k = (ap (λ u. u.tokens) (sym j) ∙ k.1, ap (λ u. u.ending) (sym j) ∙ k.0.ending)
    go (wrong s) i j k = absurd j

of_ending : (e : Error) (q : Place) (kind : ErrorKind) (span : Option Span) → q.ending ≡ refused kind span → IsOfEnding q.last q.ending e → (kind_of e ≡ kind) × (span_of e ≡ span)
of_ending e q kind span i h = go q.ending i h
  where
    go : (n : Ending) → n ≡ refused kind span → IsOfEnding q.last n e → (kind_of e ≡ kind) × (span_of e ≡ span)
    go finished j k = cc
    go (refused a b) j k = (cc, cc)

-- the tokenizer's refusal is returned if all tokens before it fit
pub answers : {A X : Type 0} (f : Form A) (view : X → A) (p q : Place) (r : Refusal) (e : Error) →
    ReadsWhole view (reads f p) (Err r) q → IsErrorAt q r e → (kind : ErrorKind) (span : Option Span) → p.ending ≡ refused kind span → FitsSoFar (IsWholeOf f) p →
    ((kind_of e ≡ kind) × (span_of e ≡ span)) ⊎ (kind_of e ≡ OutOfMemory)
answers f view p q refusal.OutOfMemory e h i kind span j k = inr i
answers f view p q (refusal.Ended w) e h i kind span j k =
    let s : (q.tokens ≡ []) × (q.ending ≡ p.ending) = ended_so f p q h in inl (of_ending e q kind span (s.1 ∙ j) (i s.0))
answers {A = A} f view p q (refusal.Wrong w) e h i kind span j k = absurd (go (reads f p) h (fits_to_end f p k))
  where
    go : (o : Read A) → HasMisfit q o → IsAtEnd o → ⊥
    go (got x s) l m = some_left s q l m
    go (short s) l m = l
    go (wrong s) l m = m

-- a bad escape is the one that the tokens end with
pub escapes : {A X : Type 0} (f : Form A) (view : X → A) (p q : Place) (r : Refusal) (e : Error) →
    ReadsWhole view (reads f p) (Err r) q → IsErrorAt q r e → kind_of e ≡ BadEscape → p.ending ≡ refused BadEscape (span_of e)
escapes f view p q refusal.OutOfMemory e h i j = cc
escapes f view p q (refusal.Ended w) e h i j = let s : (q.tokens ≡ []) × (q.ending ≡ p.ending) = ended_so f p q h in sym s.1 ∙ go q.ending (i s.0)
  where
    go : (n : Ending) → IsOfEnding q.last n e → n ≡ refused BadEscape (span_of e)
    go finished k = let l = k.kind in cc
    go (refused a b) k = cc
escapes f view p q (refusal.Wrong w) e h i j = let k = i.kind in cc

-- where nothing is refused after the tokens, a text that is refused is at fault
pub at_fault : {A X : Type 0} (f : Form A) (view : X → A) (p q : Place) (r : Refusal) (e : Error) →
    ReadsWhole view (reads f p) (Err r) q → IsErrorAt q r e → p.ending ≡ finished → (kind_of e ≡ SyntaxError) ⊎ (kind_of e ≡ OutOfMemory)
at_fault f view p q refusal.OutOfMemory e h i j = inr i
at_fault f view p q (refusal.Ended w) e h i j = let s : (q.tokens ≡ []) × (q.ending ≡ p.ending) = ended_so f p q h in inl (go q.ending (s.1 ∙ j) (i s.0))
  where
    go : (n : Ending) → n ≡ finished → IsOfEnding q.last n e → kind_of e ≡ SyntaxError
    go finished k l = l.kind
    go (refused a b) k l = cc
at_fault f view p q (refusal.Wrong w) e h i j = inl i.kind

-- ---- where an error stands

-- a syntax error at the token that was taken last since the place
taken_last : (p : Place) (s : Span) (e : Error) → IsTakenFrom p s → span_of e ≡ Some s → IsPlacedAt p e
taken_last p s e (taken_before i) j = at_last (j ∙ ap Some i)
taken_last p s e (taken_since h i) j = at_token h (j ∙ ap Some i)

-- the place where reading stops for want of a token
last_of_cut : {A : Type 0} (f : Form A) (p q : Place) → IsCutAt q (reads f p) → IsTakenFrom p q.last
last_of_cut {A = A} f p q h = go (reads f p) h (stays f p)
  where
    go : (o : Read A) → IsCutAt q o → Stays p o → IsTakenFrom p q.last
    go (got x s) j k = subst (λ u. IsTakenFrom p u.last) j.0 k.last
    go (short s) j k = subst (λ u. IsTakenFrom p u.last) j k.0.last
    go (wrong s) j k = absurd j

-- the place after a token that does not fit
last_of_misfit : {A : Type 0} (f : Form A) (p q : Place) → HasMisfit q (reads f p) → IsTakenFrom p q.last
last_of_misfit {A = A} f p q h = go (reads f p) h (stays f p)
  where
    go : (o : Read A) → HasMisfit q o → Stays p o → IsTakenFrom p q.last
    go (got x s) j k =
        let t = j.1.token in
        let inside : Contains s.tokens t = subst (λ us. Contains us t) (sym j.1.next) (0, omega arith, refl) in
        taken_since (k.within t inside) (ap (λ u. u.last) j.1.behind)
    go (short s) j k = absurd j
    go (wrong s) j k = subst (λ u. IsTakenFrom p u.last) j k.last

-- the error for what is written stands at a token, or where the tokenizer refuses the text
pub placed : {A X : Type 0} (f : Form A) (view : X → A) (p q : Place) (r : Refusal) (e : Error) →
    ReadsWhole view (reads f p) (Err r) q → IsErrorAt q r e → IsRefusal e → IsPlacedAt p e
placed f view p q refusal.OutOfMemory e h i j = absurd (not_at_fault e j i)
placed f view p q (refusal.Ended w) e h i j = let s : (q.tokens ≡ []) × (q.ending ≡ p.ending) = ended_so f p q h in go q.ending s.1 (i s.0)
  where
    go : (n : Ending) → n ≡ p.ending → IsOfEnding q.last n e → IsPlacedAt p e
    go finished k l = taken_last p q.last e (last_of_cut f p q h) l.span
    go (refused kind span) k l = at_refusal (sym k ∙ ap₂ refused (sym l.0) (sym l.1))
placed f view p q (refusal.Wrong w) e h i j = taken_last p q.last e (last_of_misfit f p q h) i.span

-- ---- what taking a token tells

pub none_taken : (p q : Place) → reads (one Some) p ≡ short q → (q ≡ p) × (p.tokens ≡ [])
unfolding reads
none_taken p q e = go p.tokens refl e
  where
    go : (ts : List SpannedTok) → p.tokens ≡ ts → read_one Some p ts ≡ short q → (q ≡ p) × (p.tokens ≡ [])
    go [] i k = (sym (ap (λ (o : Read SpannedTok). place_or p o) k), i)
    go (t ∷ ts) i k = cc

pub one_taken : (p q : Place) (t : SpannedTok) → reads (one Some) p ≡ got t q → HasTakenOne p q
one_taken p q t e = (t, sound (one Some) p q t e)

pub never_wrong : (p q : Place) → reads (one Some) p ≡ wrong q → ⊥
unfolding reads
never_wrong p q e = go p.tokens e
  where
    go : (ts : List SpannedTok) → read_one Some p ts ≡ wrong q → ⊥
    go [] k = cc
    go (t ∷ ts) k = cc
