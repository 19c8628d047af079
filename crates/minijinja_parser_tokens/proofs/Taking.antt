-- Forms of one token, by the token taken.
use Rattle.std.proofs.Common.{◌≡◌, Bool, true, false, List, [], ◌∷◌, if◌then◌else◌, Option, Some, None, refl, ap, ◌∙◌}
use Rattle.std.specs.Option.{option_map}
use Rattle.minijinja_syntax.specs.Texts.{Text}
use Rattle.minijinja_syntax.specs.Tokens.{Tok, ident}
use Rattle.minijinja_syntax.specs.declared.tokens.Span.{Span}
use Rattle.minijinja_grammar.specs.Words.{is}
use Rattle.minijinja_grammar.specs.internal.Keywords.{keyword_of}
use Rattle.minijinja_syntax.specs.Streams.{SpannedTok}
use Rattle.minijinja_grammar.specs.Places.{Place}
use Rattle.minijinja_grammar.specs.internal.Forms.{one, after, Read, got, short, wrong, read_then, held_or_wrong, read_one, reads}
use Rattle.minijinja_grammar.specs.Ahead.{comes}
use Rattle.minijinja_grammar.specs.internal.ExprForms.{next, ident_and_span, span_of_mark}
use Rattle.minijinja_parser_tokens.specs.internal.Reads.{eaten, next_ident, skipped}
use Rattle.minijinja_grammar.specs.internal.StmtForms.{keyword_and_span}

-- a token of a mark, by whether it comes
pub next_is : (m : Tok) (p : Place) → reads (next m) p ≡ read_then (skipped p) (λ s q. if comes (is m) p.tokens then got s q else wrong q)
unfolding reads
next_is m p = go p.tokens
  where
    chosen : (b : Bool) (s : Span) (q : Place) → held_or_wrong (if b then Some s else None) q ≡ (if b then got s q else wrong q)
    chosen true s q = refl
    chosen false s q = refl

    go : (ts : List SpannedTok) → read_one (span_of_mark m) p ts ≡ read_then (read_one (λ t. Some t.1) p ts) (λ s q. if comes (is m) ts then got s q else wrong q)
    go [] = refl
    go (t ∷ ts) = chosen (is m t.0) t.1 (after p t ts)

pub eaten_is : (m : Tok) (p : Place) → eaten m p ≡ (if comes (is m) p.tokens then read_then (skipped p) (λ s q. got true q) else got false p)
eaten_is m p = ap (λ o. if comes (is m) p.tokens then read_then o (λ s q. got true q) else got false p) (next_is m p) ∙ go (comes (is m) p.tokens) (skipped p)
  where
    go : (b : Bool) (o : Read Span) →
        (if b then read_then (read_then o (λ s q. if b then got s q else wrong q)) (λ s q. got true q) else got false p) ≡ (if b then read_then o (λ s q. got true q) else got false p)
    go true (got s q) = refl
    go true (short q) = refl
    go true (wrong q) = refl
    go false o = refl

-- an identifier, by the one that comes
abbrev pub named : Option Text → Span → Place → Read (Text × Span)
named (Some x) s q = got (x, s) q
named None s q = wrong q

pub ident_is : (p : Place) → reads (one ident_and_span) p ≡ read_then (skipped p) (λ s q. named (next_ident p.tokens) s q)
unfolding reads
ident_is p = go p.tokens
  where
    at_token : (t : Tok) (s : Span) (q : Place) → held_or_wrong (ident_and_span (t, s)) q ≡ named (option_map (λ x. x.0) (ident_and_span (t, s))) s q
    at_token (ident x) s q = refl
    at_token _ s q = refl

    go : (ts : List SpannedTok) → read_one ident_and_span p ts ≡ read_then (read_one (λ t. Some t.1) p ts) (λ s q. named (next_ident ts) s q)
    go [] = refl
    go (t ∷ ts) = at_token t.0 t.1 (after p t ts)

-- the word of a statement, by the identifier taken
pub keyword_is : (p : Place) → reads (one keyword_and_span) p ≡
    read_then (reads (one ident_and_span) p) (λ x q. held_or_wrong (option_map (λ k. (k, x.1)) (keyword_of x.0)) q)
unfolding reads
keyword_is p = go p.tokens
  where
    at_token : (t : Tok) (s : Span) (q : Place) → held_or_wrong (keyword_and_span (t, s)) q ≡
        read_then (held_or_wrong (ident_and_span (t, s)) q) (λ x r. held_or_wrong (option_map (λ k. (k, x.1)) (keyword_of x.0)) r)
    at_token (ident x) s q = refl
    at_token _ s q = refl

    go : (ts : List SpannedTok) → read_one keyword_and_span p ts ≡
        read_then (read_one ident_and_span p ts) (λ x q. held_or_wrong (option_map (λ k. (k, x.1)) (keyword_of x.0)) q)
    go [] = refl
    go (t ∷ ts) = at_token t.0 t.1 (after p t ts)
