-- The operator of a comparison, by its first token.
use Rattle.std.proofs.Common.{◌≡◌, Bool, true, false, List, [], ◌∷◌, ◌||◌, if◌then◌else◌, Option, Some, None, refl, ap}
use Rattle.std.specs.Prelude.{is_some}
use Rattle.minijinja_syntax.specs.Streams.{SpannedTok}
use Rattle.minijinja_tree.specs.CompareOps as cmp
use Rattle.minijinja_tree.specs.CompareOps.{CompareOp}
use Rattle.minijinja_grammar.specs.Words.{is, not_word, in_word, begins_comparison, compare_op}
use Rattle.minijinja_grammar.specs.Places.{Place}
use Rattle.minijinja_grammar.specs.Ahead.{comes}
use Rattle.minijinja_grammar.specs.internal.Forms.{after, Read, got, wrong, read_then, read_one, held_or_wrong, reads}
use Rattle.minijinja_grammar.specs.internal.ExprForms.{of_kind, next, compare_operator}
use Rattle.minijinja_parser_tokens.specs.internal.Levels.{compare_op_at, next_compare}
use Rattle.minijinja_parser_tokens.specs.internal.Reads.{skipped}

-- an operator of one token, or the first of `not in`
abbrev pub by_token : Option CompareOp → Bool → Place → Read CompareOp
by_token (Some o) b q = got o q
by_token None true q = read_then (reads (next in_word) q) (λ s r. got cmp.not_in r)
by_token None false q = wrong q

pub compare_op_is : (p : Place) → compare_op_at p ≡ read_then (skipped p) (λ s q. by_token (next_compare p.tokens) (comes (is not_word) p.tokens) q)
unfolding reads
compare_op_is p = go p.tokens
  where
    at_token : (t : SpannedTok) (q : Place) (o : Option CompareOp) (b : Bool) → compare_op t.0 ≡ o →
        read_then (held_or_wrong (if b || is_some o then Some t else None) q) (λ u r. reads (compare_operator (compare_op u.0)) r) ≡ by_token o b q
    at_token t q (Some x) true e = ap (λ v. reads (compare_operator v) q) e
    at_token t q (Some x) false e = ap (λ v. reads (compare_operator v) q) e
    at_token t q None true e = ap (λ v. reads (compare_operator v) q) e
    at_token t q None false e = refl

    go : (ts : List SpannedTok) → read_then (read_one (of_kind begins_comparison) p ts) (λ u r. reads (compare_operator (compare_op u.0)) r) ≡
        read_then (read_one (λ t. Some t.1) p ts) (λ s q. by_token (next_compare ts) (comes (is not_word) ts) q)
    go [] = refl
    go (t ∷ ts) = at_token t (after p t ts) (compare_op t.0) (is not_word t.0) refl
