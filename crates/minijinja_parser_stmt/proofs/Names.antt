-- Names that may be assigned to, and attributes after them.
use Rattle.std.proofs.Common.{◌≡◌, Bool, true, false, if◌then◌else◌, List, [], ◌∷◌, Some, None, refl, ◌∙◌}
use Rattle.std.specs.Prelude.{codes, nat_eq}
use Rattle.std.specs.List.{starts_with}
use Rattle.minijinja_syntax.specs.Texts.{Text}
use Rattle.minijinja_syntax.specs.Tokens.{Tok, ident, dot}
use Rattle.minijinja_syntax.specs.Streams.{SpannedTok}
use Rattle.minijinja_syntax.specs.declared.tokens.Span.{Span}
use Rattle.minijinja_tree.specs.SpannedTrees.{Expr, attribute}
use Rattle.minijinja_grammar.specs.Words.{is, is_reserved}
use Rattle.minijinja_grammar.specs.Places.{Place}
use Rattle.minijinja_grammar.specs.internal.Forms.{Read, go_on, got, short, wrong, one, read_then, read_turn, read_any, read_one, held_or_wrong, if_held, after, reads}
use Rattle.minijinja_grammar.specs.Ahead.{comes}
use Rattle.minijinja_grammar.specs.internal.ExprForms.{ident_and_span, span_of_mark}
use Rattle.minijinja_grammar.specs.internal.TargetForms.{attributes, name_word, target_part, target_word, word_but}
use Rattle.minijinja_grammar.specs.internal.StmtForms.{public_word}
use Rattle.minijinja_grammar.proofs.Unrolled.{many_is}
use Rattle.minijinja_parser_tokens.specs.internal.Reads.{eaten}
use Rattle.minijinja_parser_stmt.specs.private.Targets.{is_no_target}

-- a name, by the identifier taken
word_but_is : (refused : Text → Bool) (p : Place) → reads (one (word_but refused)) p ≡ read_then (reads (one ident_and_span) p) (λ x q. if refused x.0 then wrong q else got x q)
unfolding reads
word_but_is refused p = go p.tokens
  where
    held : (b : Bool) (x : Text × Span) (q : Place) → held_or_wrong (if b then None else Some x) q ≡ (if b then wrong q else got x q)
    held true x q = refl
    held false x q = refl

    at_token : (t : Tok) (s : Span) (q : Place) → held_or_wrong (word_but refused (t, s)) q ≡
        read_then (held_or_wrong (ident_and_span (t, s)) q) (λ x r. if refused x.0 then wrong r else got x r)
    at_token (ident x) s q = held (refused x) (x, s) q
    at_token _ s q = refl

    go : (ts : List SpannedTok) → read_one (word_but refused) p ts ≡ read_then (read_one ident_and_span p ts) (λ x q. if refused x.0 then wrong q else got x q)
    go [] = refl
    go (t ∷ ts) = at_token t.0 t.1 (after p t ts)

pub word_is : (p : Place) → reads (one target_word) p ≡ read_then (reads (one ident_and_span) p) (λ x q. if is_no_target x.0 then wrong q else got x q)
word_is p = word_but_is is_no_target p

pub name_is : (p : Place) → reads (one name_word) p ≡ read_then (reads (one ident_and_span) p) (λ x q. if is_reserved x.0 then wrong q else got x q)
name_is p = word_but_is is_reserved p

-- whether a name is private to its template
abbrev pub is_private : Text → Bool
is_private x = starts_with nat_eq x (codes "_")

-- a name that may be imported, by the name that was read
pub public_is : (p : Place) → reads (one public_word) p ≡ read_then (reads (one name_word) p) (λ x q. if is_private x.0 then wrong q else got x q)
unfolding reads
public_is p = go p.tokens
  where
    none : (b : Bool) (q : Place) → held_or_wrong {A = Text × Span} (if b then None else None) q ≡ wrong q
    none true q = refl
    none false q = refl

    held : (b : Bool) (x : Text × Span) (q : Place) → held_or_wrong (if b then None else Some x) q ≡ (if b then wrong q else got x q)
    held true x q = refl
    held false x q = refl

    named : (b : Bool) (x : Text × Span) (q : Place) → held_or_wrong (if is_private x.0 then None else if b then None else Some x) q ≡
        read_then (held_or_wrong (if b then None else Some x) q) (λ y r. if is_private y.0 then wrong r else got y r)
    named true x q = none (is_private x.0) q
    named false x q = held (is_private x.0) x q

    at_token : (t : Tok) (s : Span) (q : Place) → held_or_wrong (public_word (t, s)) q ≡ read_then (held_or_wrong (name_word (t, s)) q) (λ x r. if is_private x.0 then wrong r else got x r)
    at_token (ident x) s q = named (is_reserved x) (x, s) q
    at_token _ s q = refl

    go : (ts : List SpannedTok) → read_one public_word p ts ≡ read_then (read_one name_word p ts) (λ x q. if is_private x.0 then wrong q else got x q)
    go [] = refl
    go (t ∷ ts) = at_token t.0 t.1 (after p t ts)

-- attributes, by the dot before each
pub attributes_is : {C : Type 0} (e : Expr C) (p : Place) → reads (attributes e) p ≡
    read_then (eaten dot p) (λ b q. if b then read_then (reads (one ident_and_span) q) (λ x r. reads (attributes (attribute e x.0 x.1)) r) else got e q)
unfolding reads attributes target_part
attributes_is {C} e p = many_is (span_of_mark dot) target_part e p ∙ go p.tokens refl
  where
    turned : (o : Read (Text × Span)) → read_turn (read_then o (λ x q. got (go_on (attribute e x.0 x.1)) q)) (λ y s. reads (attributes y) s) ≡
        read_then o (λ x r. reads (attributes (attribute e x.0 x.1)) r)
    turned (got x q) = refl
    turned (short q) = refl
    turned (wrong q) = refl

    at_token : (t : SpannedTok) (ts : List SpannedTok) (b : Bool) →
        if_held (if b then Some t.1 else None) (λ h. read_turn (reads (target_part e h) (after p t ts)) (λ y s. reads (attributes y) s)) (got e p) ≡
        read_then (if b then read_then (held_or_wrong (if b then Some t.1 else None) (after p t ts)) (λ s u. got true u) else got false p)
        (λ c q. if c then read_then (reads (one ident_and_span) q) (λ x r. reads (attributes (attribute e x.0 x.1)) r) else got e q)
    at_token t ts true = turned (reads (one ident_and_span) (after p t ts))
    at_token t ts false = refl

    go : (ts : List SpannedTok) → p.tokens ≡ ts →
        read_any (span_of_mark dot) (λ h s. read_turn (reads (target_part e h) s) (λ y u. reads (attributes y) u)) e p ts ≡
        read_then (if comes (is dot) ts then read_then (read_one (span_of_mark dot) p ts) (λ s u. got true u) else got false p)
        (λ c q. if c then read_then (reads (one ident_and_span) q) (λ x r. reads (attributes (attribute e x.0 x.1)) r) else got e q)
    go [] k = refl
    go (t ∷ ts) k = at_token t ts (is dot t.0)
