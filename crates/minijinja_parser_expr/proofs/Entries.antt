-- Expressions and entries of maps, one at a time.
use Rattle.std.proofs.Common.{◌≡◌, ◌<◌, ◌∙◌, Bool, true, false, List, [], ◌∷◌, ◌++◌, length, map, if◌then◌else◌, refl, sym, ap, arith}
use Rattle.minijinja_syntax.specs.Tokens.{Tok, colon, comma}
use Rattle.minijinja_syntax.specs.declared.tokens.Span.{Span}
use Rattle.minijinja_tree.specs.SpannedTrees.{Expr}
use Rattle.minijinja_grammar.specs.Words.{begins_expr}
use Rattle.minijinja_grammar.specs.Places.{Place}
use Rattle.minijinja_grammar.specs.internal.Forms.{Form, Read, got, short, wrong, read_then, reads}
use Rattle.minijinja_grammar.specs.Ahead.{comes}
use Rattle.minijinja_grammar.specs.internal.ExprForms as form
use Rattle.minijinja_grammar.specs.internal.ExprForms.{next}
use Rattle.minijinja_parser_tokens.specs.internal.Reads.{eaten}
use Rattle.minijinja_parser_tokens.proofs.Turned.{items_more, items_done, read_no_longer, eaten_shorter}
use Rattle.minijinja_parser_expr.proofs.Steps.{exprs_more}

-- what is made of the items, when one is added
pub map_pushed : {A B : Type 0} (f : A → B) (xs ys : List A) (x : A) → ys ≡ xs ++ x ∷ [] → map f ys ≡ map f xs ++ f x ∷ []
map_pushed {A} f xs ys x e = ap (map f) e ∙ go xs
  where
    go : (xs : List A) → map f (xs ++ x ∷ []) ≡ map f xs ++ f x ∷ []
    go [] = refl
    go (y ∷ zs) = ap (◌∷◌ (f y)) (go zs)

-- an item and a token after it are fewer tokens
pub item_shorter : {A : Type 0} (f : Form A) (m : Tok) (p q r : Place) (x : A) (b : Bool) →
    reads f p ≡ got x q → eaten m q ≡ got b r → b ≡ true → length r.tokens < length p.tokens
item_shorter f m p q r x b i j k = omega (arith, read_no_longer f p q x i, eaten_shorter m q r (j ∙ ap (λ c. got c r) k))

module _ {C : Type 0} (expr : Form (Expr C)) where
  -- an expression that no comma follows, and one that a comma follows
  pub exprs_last : (es fs : List (Expr C)) (p q r : Place) (e : Expr C) (b : Bool) → true ≡ comes begins_expr p.tokens →
      reads expr p ≡ got e q → eaten comma q ≡ got b r → b ≡ false → fs ≡ es ++ e ∷ [] → reads (form.exprs expr es) p ≡ got fs r
  exprs_last es fs p q r e b h i j k l = exprs_more expr es p (sym h) ∙ rw (i, j, k, l) refl

  pub exprs_also : (es fs : List (Expr C)) (p q r : Place) (e : Expr C) (b : Bool) → true ≡ comes begins_expr p.tokens →
      reads expr p ≡ got e q → eaten comma q ≡ got b r → b ≡ true → fs ≡ es ++ e ∷ [] → reads (form.exprs expr es) p ≡ reads (form.exprs expr fs) r
  exprs_also es fs p q r e b h i j k l = exprs_more expr es p (sym h) ∙ rw (i, j, k, l) refl

  -- keys and values
  abbrev Pair : Type 0
  Pair = List (Expr C) × List (Expr C)

  abbrev pair : List (Expr C) → List (Expr C) → Pair
  pair ks vs = (ks, vs)

  -- the entries after those so far, where a comma comes
  abbrev pub others : List (Expr C) → List (Expr C) → Place → Read Pair
  others ks vs p = read_then (eaten comma p) (λ b q. if b then reads (form.entries expr (ks, vs)) q else got (ks, vs) q)

  pub entries_more : (ks vs : List (Expr C)) (p : Place) → comes begins_expr p.tokens ≡ true → reads (form.entries expr (ks, vs)) p ≡
      read_then (reads expr p) (λ k q. read_then (reads (next colon) q) (λ s r. read_then (reads expr r) (λ v u. others (ks ++ k ∷ []) (vs ++ v ∷ []) u)))
  unfolding form.entries form.entry reads
  entries_more ks vs p h = items_more begins_expr (form.entry expr) (ks, vs) p h ∙ first (reads expr p)
    where
      value : (k : Expr C) (o : Read (Expr C)) →
          read_then (read_then o (λ v u. got (pair (ks ++ k ∷ []) (vs ++ v ∷ [])) u)) (λ kvs u. others kvs.0 kvs.1 u) ≡
          read_then o (λ v u. others (ks ++ k ∷ []) (vs ++ v ∷ []) u)
      value k (got v u) = refl
      value k (short u) = refl
      value k (wrong u) = refl

      mark : (k : Expr C) (o : Read Span) →
          read_then (read_then o (λ s r. read_then (reads expr r) (λ v u. got (pair (ks ++ k ∷ []) (vs ++ v ∷ [])) u))) (λ kvs u. others kvs.0 kvs.1 u) ≡
          read_then o (λ s r. read_then (reads expr r) (λ v u. others (ks ++ k ∷ []) (vs ++ v ∷ []) u))
      mark k (got s r) = value k (reads expr r)
      mark k (short r) = refl
      mark k (wrong r) = refl

      first : (o : Read (Expr C)) →
          read_then (read_then o (λ k q. read_then (reads (next colon) q) (λ s r. read_then (reads expr r) (λ v u. got (pair (ks ++ k ∷ []) (vs ++ v ∷ [])) u)))) (λ kvs u. others kvs.0 kvs.1 u) ≡
          read_then o (λ k q. read_then (reads (next colon) q) (λ s r. read_then (reads expr r) (λ v u. others (ks ++ k ∷ []) (vs ++ v ∷ []) u)))
      first (got k q) = mark k (reads (next colon) q)
      first (short q) = refl
      first (wrong q) = refl

  pub entries_done : (ks vs : List (Expr C)) (p : Place) → comes begins_expr p.tokens ≡ false → reads (form.entries expr (ks, vs)) p ≡ got (ks, vs) p
  unfolding form.entries
  entries_done ks vs p h = items_done begins_expr (form.entry expr) (ks, vs) p h

  -- an entry that no comma follows, and one that a comma follows
  pub entries_last : (ks ls vs ws : List (Expr C)) (p q r s t : Place) (k v : Expr C) (at : Span) (b : Bool) → true ≡ comes begins_expr p.tokens →
      reads expr p ≡ got k q → reads (next colon) q ≡ got at r → reads expr r ≡ got v s → eaten comma s ≡ got b t → b ≡ false →
      ls ≡ ks ++ k ∷ [] → ws ≡ vs ++ v ∷ [] → reads (form.entries expr (ks, vs)) p ≡ got (ls, ws) t
  entries_last ks ls vs ws p q r s t k v at b h i j l m n x y = entries_more ks vs p (sym h) ∙ rw (i, j, l, m, n, x, y) refl

  pub entries_also : (ks ls vs ws : List (Expr C)) (p q r s t : Place) (k v : Expr C) (at : Span) (b : Bool) → true ≡ comes begins_expr p.tokens →
      reads expr p ≡ got k q → reads (next colon) q ≡ got at r → reads expr r ≡ got v s → eaten comma s ≡ got b t → b ≡ true →
      ls ≡ ks ++ k ∷ [] → ws ≡ vs ++ v ∷ [] → reads (form.entries expr (ks, vs)) p ≡ reads (form.entries expr (ls, ws)) t
  entries_also ks ls vs ws p q r s t k v at b h i j l m n x y = entries_more ks vs p (sym h) ∙ rw (i, j, l, m, n, x, y) refl

  -- an entry and a token after it are fewer tokens
  pub entry_shorter : (m : Tok) (p q r s t : Place) (k v : Expr C) (at : Span) (b : Bool) →
      reads expr p ≡ got k q → reads (next colon) q ≡ got at r → reads expr r ≡ got v s → eaten m s ≡ got b t → b ≡ true → length t.tokens < length p.tokens
  entry_shorter m p q r s t k v at b i j l n x = omega (arith, read_no_longer expr p q k i, read_no_longer (next colon) q r at j, item_shorter expr m r s t v b l n x)
