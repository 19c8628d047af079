-- Primaries, by their first token.
use Rattle.std.proofs.Common.{◌≡◌, ℕ, zero, suc, ◌-◌, ◌<◌, arith, ◌||◌, List, [], ◌∷◌, Option, Some, None, if◌then◌else◌, refl}
use Rattle.minijinja_value.specs.Values.{Functions}
use Rattle.minijinja_syntax.specs.Texts.{Text}
use Rattle.minijinja_syntax.specs.Streams.{SpannedTok}
use Rattle.minijinja_syntax.specs.Tokens.{Tok, brace_open, bracket_open, ident, int, int128, paren_open, str, string}
use Rattle.minijinja_syntax.specs.declared.tokens.Span.{Span}
use Rattle.minijinja_tree.specs.SpannedTrees.{Expr, constant}
use Rattle.minijinja_grammar.specs.Ahead.{comes}
use Rattle.minijinja_grammar.specs.Words.{begins_primary, is, is_identifier}
use Rattle.minijinja_grammar.specs.Places.{Place}
use Rattle.minijinja_grammar.specs.internal.Forms.{one, nothing, after, Read, got, wrong, read_one, read_then, held_or_wrong, misfit, reads}
use Rattle.minijinja_grammar.specs.internal.ExprForms.{of_kind, begun, below, expr_at, group, in_braces, in_brackets, primary, texts, word}
use Rattle.minijinja_parser_tokens.specs.internal.Reads.{next_ident, next_int, next_str, skipped}
use Rattle.minijinja_parser_expr.specs.private.Primaries.{atom, begins_literal, literal, primary_at}

module _ {C F : Type 0} (f : Functions C F) where
  pub too_deep : (d : ℕ) (p : Place) → d ≡ 0 → reads (primary_at f d) p ≡ misfit p p.tokens
  unfolding reads below
  too_deep d p e = rw e refl

  -- what a bracket begins, or else none is nested in the primary
  abbrev by_bracket : ℕ → Place → Read (Expr C)
  by_bracket d p =
      if comes (is paren_open) p.tokens then read_then (skipped p) (λ s q. reads (group (expr_at f d) s) q)
      else if comes (is bracket_open) p.tokens then read_then (skipped p) (λ s q. reads (in_brackets (expr_at f d) s) q)
      else if comes (is brace_open) p.tokens then read_then (skipped p) (λ s q. reads (in_braces (expr_at f d) s) q)
      else reads (atom f) p

  begins : (d : ℕ) (p : Place) → reads (primary_at f (suc d)) p ≡ by_bracket d p
  unfolding reads below primary
  begins d p = go p.tokens
    where
      at_token : (t : Tok) (s : Span) (q : Place) → read_then (held_or_wrong (of_kind begins_primary (t, s)) q) (λ u r. reads (begun (expr_at f d) f u) r) ≡
          (if is paren_open t then reads (group (expr_at f d) s) q
          else if is bracket_open t then reads (in_brackets (expr_at f d) s) q
          else if is brace_open t then reads (in_braces (expr_at f d) s) q
          else read_then (held_or_wrong (of_kind (λ t. is_identifier t || begins_literal t) (t, s)) q) (λ u r. reads (begun nothing f u) r))
      at_token paren_open s q = refl
      at_token bracket_open s q = refl
      at_token brace_open s q = refl
      at_token _ s q = refl

      go : (ts : List SpannedTok) → read_then (read_one (of_kind begins_primary) p ts) (λ u q. reads (begun (expr_at f d) f u) q) ≡
          (if comes (is paren_open) ts then read_then (read_one (λ t. Some t.1) p ts) (λ s q. reads (group (expr_at f d) s) q)
          else if comes (is bracket_open) ts then read_then (read_one (λ t. Some t.1) p ts) (λ s q. reads (in_brackets (expr_at f d) s) q)
          else if comes (is brace_open) ts then read_then (read_one (λ t. Some t.1) p ts) (λ s q. reads (in_braces (expr_at f d) s) q)
          else read_then (read_one (of_kind (λ t. is_identifier t || begins_literal t)) p ts) (λ u q. reads (begun nothing f u) q))
      go [] = refl
      go (t ∷ ts) = at_token t.0 t.1 (after p t ts)

  pub primary_is : (d : ℕ) (p : Place) → 0 < d → reads (primary_at f d) p ≡ by_bracket (d - 1) p
  primary_is zero p h = absurd (omega arith)
  primary_is (suc d) p h = let e : suc d - 1 ≡ d = omega arith in rw e (begins d p)

  -- ---- those in which none is nested

  named : (p : Place) (x : Text) → next_ident p.tokens ≡ Some x → reads (atom f) p ≡ read_then (skipped p) (λ s q. got (word f x s) q)
  unfolding reads
  named p x e = go p.tokens e
    where
      go : (ts : List SpannedTok) → next_ident ts ≡ Some x →
          read_then (read_one (of_kind (λ t. is_identifier t || begins_literal t)) p ts) (λ u q. reads (begun nothing f u) q) ≡ read_then (read_one (λ t. Some t.1) p ts) (λ s q. got (word f x s) q)
      go [] k = cc
      go ((ident y, s) ∷ ts) k = cc
      go (t ∷ ts) k = cc

  unnamed : (p : Place) → next_ident p.tokens ≡ None → reads (atom f) p ≡ reads (literal f) p
  unfolding reads
  unnamed p e = go p.tokens e
    where
      at_token : (t : Tok) (s : Span) (q : Place) (ts : List SpannedTok) → next_ident ((t, s) ∷ ts) ≡ None →
          read_then (held_or_wrong (of_kind (λ t. is_identifier t || begins_literal t) (t, s)) q) (λ u r. reads (begun nothing f u) r) ≡
          read_then (held_or_wrong (of_kind begins_literal (t, s)) q) (λ u r. reads (begun nothing f u) r)
      at_token (ident y) s q ts k = cc
      at_token _ s q ts k = refl

      go : (ts : List SpannedTok) → next_ident ts ≡ None → read_then (read_one (of_kind (λ t. is_identifier t || begins_literal t)) p ts) (λ u q. reads (begun nothing f u) q) ≡
          read_then (read_one (of_kind begins_literal) p ts) (λ u q. reads (begun nothing f u) q)
      go [] k = refl
      go (t ∷ ts) k = at_token t.0 t.1 (after p t ts) ts k

  abbrev by_name : Option Text → Place → Read (Expr C)
  by_name (Some x) p = read_then (skipped p) (λ s q. got (word f x s) q)
  by_name None p = reads (literal f) p

  -- a name, or else a literal
  pub atom_is : (p : Place) → reads (atom f) p ≡ by_name (next_ident p.tokens) p
  atom_is p = go (next_ident p.tokens) refl
    where
      go : (o : Option Text) → next_ident p.tokens ≡ o → reads (atom f) p ≡ by_name o p
      go (Some x) e = named p x e
      go None e = unnamed p e

  -- ---- literals

  -- what a token begins that is neither a string without escapes nor a small number
  abbrev rest_of : SpannedTok → Place → Read (Expr C)
  rest_of (string x, s) q = reads (texts f s x) q
  rest_of (int128 n, s) q = got (constant (f.of_u128 n) s) q
  rest_of _ q = wrong q

  abbrev by_kind : Option ℕ → Option Text → Place → Read (Expr C)
  by_kind (Some n) o p = read_then (skipped p) (λ s q. got (constant (f.of_u64 n) s) q)
  by_kind None (Some x) p = read_then (skipped p) (λ s q. reads (texts f s x) q)
  by_kind None None p = read_then (reads (one Some) p) rest_of

  abbrev literal_by : Place → List SpannedTok → Read (Expr C)
  literal_by p ts = read_then (read_one (of_kind begins_literal) p ts) (λ u q. reads (begun nothing f u) q)

  number : (p : Place) (n : ℕ) → next_int p.tokens ≡ Some n → reads (literal f) p ≡ read_then (skipped p) (λ s q. got (constant (f.of_u64 n) s) q)
  unfolding reads
  number p n e = go p.tokens e
    where
      go : (ts : List SpannedTok) → next_int ts ≡ Some n → literal_by p ts ≡ read_then (read_one (λ t. Some t.1) p ts) (λ s q. got (constant (f.of_u64 n) s) q)
      go [] k = cc
      go ((int m, s) ∷ ts) k = cc
      go (t ∷ ts) k = cc

  text : (p : Place) (x : Text) → next_str p.tokens ≡ Some x → reads (literal f) p ≡ read_then (skipped p) (λ s q. reads (texts f s x) q)
  unfolding reads
  text p x e = go p.tokens e
    where
      go : (ts : List SpannedTok) → next_str ts ≡ Some x → literal_by p ts ≡ read_then (read_one (λ t. Some t.1) p ts) (λ s q. reads (texts f s x) q)
      go [] k = cc
      go ((str y, s) ∷ ts) k = cc
      go (t ∷ ts) k = cc

  rest : (p : Place) → next_int p.tokens ≡ None → next_str p.tokens ≡ None → reads (literal f) p ≡ read_then (reads (one Some) p) rest_of
  unfolding reads
  rest p e h = go p.tokens e h
    where
      at_token : (t : Tok) (s : Span) (q : Place) (ts : List SpannedTok) → next_int ((t, s) ∷ ts) ≡ None → next_str ((t, s) ∷ ts) ≡ None →
          read_then (held_or_wrong (of_kind begins_literal (t, s)) q) (λ u r. reads (begun nothing f u) r) ≡ rest_of (t, s) q
      at_token (int m) s q ts k i = cc
      at_token (str y) s q ts k i = cc
      at_token (string y) s q ts k i = refl
      at_token (int128 m) s q ts k i = refl
      at_token _ s q ts k i = refl

      go : (ts : List SpannedTok) → next_int ts ≡ None → next_str ts ≡ None → literal_by p ts ≡ read_then (read_one Some p ts) rest_of
      go [] k i = refl
      go (t ∷ ts) k i = at_token t.0 t.1 (after p t ts) ts k i

  -- a small number, a string without escapes, or what else there is
  pub literal_is : (p : Place) → reads (literal f) p ≡ by_kind (next_int p.tokens) (next_str p.tokens) p
  literal_is p = go (next_int p.tokens) (next_str p.tokens) refl refl
    where
      go : (o : Option ℕ) (u : Option Text) → next_int p.tokens ≡ o → next_str p.tokens ≡ u → reads (literal f) p ≡ by_kind o u p
      go (Some n) u e h = number p n e
      go None (Some x) e h = text p x h
      go None None e h = rest p e h
