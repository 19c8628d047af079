-- What follows the `.` after an operand, by whether it is a name.
use Rattle.std.proofs.Common.{◌≡◌, List, [], ◌∷◌, Option, Some, None, refl}
use Rattle.minijinja_syntax.specs.Texts.{Text}
use Rattle.minijinja_syntax.specs.Tokens.{Tok, ident, int, int128}
use Rattle.minijinja_syntax.specs.Streams.{SpannedTok}
use Rattle.minijinja_syntax.specs.declared.tokens.Span.{Span}
use Rattle.minijinja_value.specs.Values.{Functions}
use Rattle.minijinja_tree.specs.SpannedTrees.{Expr, attribute}
use Rattle.minijinja_grammar.specs.Places.{Place}
use Rattle.minijinja_grammar.specs.internal.Forms.{nothing, after, Read, got, read_one, read_then, held_or_wrong, reads}
use Rattle.minijinja_grammar.specs.internal.ExprForms.{expanded, of_kind, begins_member, member_of, member}
use Rattle.minijinja_parser_tokens.specs.internal.Reads.{next_ident, skipped}
use Rattle.minijinja_parser_expr.specs.private.Turns.{item_at, item_of}

module _ {C F : Type 0} (f : Functions C F) (e : Expr C) (from : Span) where
  abbrev held : SpannedTok → Option SpannedTok
  held = of_kind (begins_member (nothing {A = Expr C}))

  abbrev part_of : SpannedTok → Place → Read (Expr C)
  part_of u r = reads (member_of nothing f e from u) r

  named : (p : Place) (x : Text) → next_ident p.tokens ≡ Some x → reads (member nothing f e from) p ≡ read_then (skipped p) (λ s q. got (attribute e x (expanded from q.last)) q)
  unfolding reads member
  named p x h = go p.tokens h
    where
      go : (ts : List SpannedTok) → next_ident ts ≡ Some x →
          read_then (read_one held p ts) part_of ≡ read_then (read_one (λ t. Some t.1) p ts) (λ s q. got (attribute e x (expanded from q.last)) q)
      go [] k = cc
      go ((ident y, s) ∷ ts) k = cc
      go (t ∷ ts) k = cc

  unnamed : (p : Place) → next_ident p.tokens ≡ None → reads (member nothing f e from) p ≡ item_at f e from p
  unfolding reads member
  unnamed p h = go p.tokens h
    where
      at_token : (t : Tok) (s : Span) (q : Place) (ts : List SpannedTok) → next_ident ((t, s) ∷ ts) ≡ None →
          read_then (held_or_wrong (held (t, s)) q) part_of ≡ item_of f e from (t, s) q
      at_token (ident y) s q ts k = cc
      at_token (int n) s q ts k = refl
      at_token (int128 n) s q ts k = refl
      at_token _ s q ts k = refl

      go : (ts : List SpannedTok) → next_ident ts ≡ None → read_then (read_one held p ts) part_of ≡ read_then (read_one Some p ts) (item_of f e from)
      go [] k = refl
      go (t ∷ ts) k = at_token t.0 t.1 (after p t ts) ts k

  abbrev by_name : Option Text → Place → Read (Expr C)
  by_name (Some x) p = read_then (skipped p) (λ s q. got (attribute e x (expanded from q.last)) q)
  by_name None p = item_at f e from p

  -- a name, or else a number
  pub member_is : (p : Place) → reads (member nothing f e from) p ≡ by_name (next_ident p.tokens) p
  member_is p = go (next_ident p.tokens) refl
    where
      go : (o : Option Text) → next_ident p.tokens ≡ o → reads (member nothing f e from) p ≡ by_name o p
      go (Some x) h = named p x h
      go None h = unnamed p h
