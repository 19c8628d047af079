-- Operands with their postfixes and suffixes, a turn at a time, and the operators that nest them.
use Rattle.std.proofs.Common.{◌≡◌, ◌∙◌, ◌<◌, arith, length, Bool, true, false, List, [], ◌∷◌, if◌then◌else◌, Some, None, refl, sym, ap}
use Rattle.minijinja_value.specs.Values.{Functions}
use Rattle.minijinja_syntax.specs.Tokens.{Tok, minus, pow}
use Rattle.minijinja_syntax.specs.declared.tokens.Span.{Span}
use Rattle.minijinja_syntax.specs.Streams.{SpannedTok}
use Rattle.minijinja_tree.specs.BinOps as bin
use Rattle.minijinja_tree.specs.Tree.{UnaryOp, negation}
use Rattle.minijinja_tree.specs.SpannedTrees.{Expr, binary, unary}
use Rattle.minijinja_grammar.specs.Words.{is, begins_postfix, begins_suffix}
use Rattle.minijinja_grammar.specs.Places.{Place}
use Rattle.minijinja_grammar.specs.internal.Forms.{Turn, go_on, Form, pure, one, many, start_at, Read, got, short, wrong, read_then, after, read_one, read_turn, if_held, read_any, reads, ◌>>=◌}
use Rattle.minijinja_grammar.specs.Ahead.{comes}
use Rattle.minijinja_grammar.specs.internal.ExprForms as form
use Rattle.minijinja_grammar.specs.internal.ExprForms.{Below, expanded, next, of_kind}
use Rattle.minijinja_grammar.proofs.Forms.{read_then_got}
use Rattle.minijinja_grammar.proofs.Unrolled.{many_is}
use Rattle.minijinja_parser_tokens.specs.internal.Reads.{skipped}
use Rattle.minijinja_parser_tokens.proofs.Turned.{behind_comes, read_no_longer, take_shorter, under}

-- ---- turns that a kind of token begins, each a part

module _ {A X : Type 0} (begins : Tok → Bool) (part : A → SpannedTok → Form X) (added : A → SpannedTok → X → A) where
  abbrev turn : A → SpannedTok → Form (Turn A)
  turn x t = part x t >>= (λ y. pure (go_on (added x t y)))

  abbrev turns : A → Form A
  turns = many (of_kind begins) turn

  turns_done : (x : A) (p : Place) → comes begins p.tokens ≡ false → reads (turns x) p ≡ got x p
  turns_done x p e = many_is (of_kind begins) turn x p ∙ go p.tokens e
    where
      none : (t : SpannedTok) (ts : List SpannedTok) (b : Bool) → b ≡ false →
          if_held (if b then Some t else None) (λ h. read_turn (reads (turn x h) (after p t ts)) (λ y s. reads (turns y) s)) (got x p) ≡ got x p
      none t ts true k = cc
      none t ts false k = refl

      go : (ts : List SpannedTok) → comes begins ts ≡ false → read_any (of_kind begins) (λ h q. read_turn (reads (turn x h) q) (λ y s. reads (turns y) s)) x p ts ≡ got x p
      go [] k = refl
      go (t ∷ ts) k = none t ts (begins t.0) k

  turns_more : (x : A) (p : Place) → comes begins p.tokens ≡ true →
      reads (turns x) p ≡ read_then (reads (one Some) p) (λ t q. read_then (reads (part x t) q) (λ y r. reads (turns (added x t y)) r))
  unfolding reads
  turns_more x p e = many_is (of_kind begins) turn x p ∙ go p.tokens e
    where
      turned : (t : SpannedTok) (o : Read X) → read_turn (read_then o (λ y q. got (go_on (added x t y)) q)) (λ y s. reads (turns y) s) ≡ read_then o (λ y r. reads (turns (added x t y)) r)
      turned t (got y q) = refl
      turned t (short q) = refl
      turned t (wrong q) = refl

      at_token : (t : SpannedTok) (ts : List SpannedTok) (b : Bool) → b ≡ true →
          if_held (if b then Some t else None) (λ h. read_turn (reads (turn x h) (after p t ts)) (λ y s. reads (turns y) s)) (got x p) ≡
          read_then (reads (part x t) (after p t ts)) (λ y r. reads (turns (added x t y)) r)
      at_token t ts true k = turned t (reads (part x t) (after p t ts))
      at_token t ts false k = cc

      go : (ts : List SpannedTok) → comes begins ts ≡ true → read_any (of_kind begins) (λ h q. read_turn (reads (turn x h) q) (λ y s. reads (turns y) s)) x p ts ≡
          read_then (read_one Some p ts) (λ t q. read_then (reads (part x t) q) (λ y r. reads (turns (added x t y)) r))
      go [] k = cc
      go (t ∷ ts) k = at_token t ts (begins t.0) k

-- ---- postfixes: attributes, items, slices and calls

module _ {C F : Type 0} (f : Functions C F) (b : Below C) where
  abbrev postfix_part : Expr C × Span → SpannedTok → Form (Expr C)
  postfix_part e t = form.postfix b.expr f e.0 e.1 t.0

  abbrev postfix_added : Expr C × Span → SpannedTok → Expr C → Expr C × Span
  postfix_added e t x = (x, t.1)

  -- the operand so far, with the postfixes that follow it, where the next node begins at the span
  pub postfixes : Expr C → Span → Place → Read (Expr C)
  postfixes e from p = read_then (reads (turns begins_postfix postfix_part postfix_added (e, from)) p) (λ x q. got x.0 q)

  pub postfixed_is : (p : Place) → reads (form.postfixed f b) p ≡ read_then (reads b.primary p) (λ e q. postfixes e (start_at p) q)
  unfolding reads form.postfixed postfixes
  postfixed_is p = refl

  pub postfixed_done : (e : Expr C) (from : Span) (p : Place) → comes begins_postfix p.tokens ≡ false → postfixes e from p ≡ got e p
  unfolding postfixes
  postfixed_done e from p h = ap (λ o. read_then o (λ x q. got x.0 q)) (turns_done begins_postfix postfix_part postfix_added (e, from) p h)

  by_token : (e : Expr C) (from : Span) (p : Place) → comes begins_postfix p.tokens ≡ true →
      postfixes e from p ≡ read_then (reads (one Some) p) (λ t q. read_then (reads (form.postfix b.expr f e from t.0) q) (λ x r. postfixes x t.1 r))
  unfolding postfixes
  by_token e from p h =
      ap (λ o. read_then o (λ x q. got x.0 q)) (turns_more begins_postfix postfix_part postfix_added (e, from) p h) ∙ go (reads (one Some) p)
    where
      inner : (t : SpannedTok) (o : Read (Expr C)) →
          read_then (read_then o (λ y r. reads (turns begins_postfix postfix_part postfix_added (y, t.1)) r)) (λ x q. got x.0 q) ≡ read_then o (λ x r. postfixes x t.1 r)
      inner t (got y q) = refl
      inner t (short q) = refl
      inner t (wrong q) = refl

      go : (o : Read SpannedTok) →
          read_then (read_then o (λ t q. read_then (reads (form.postfix b.expr f e from t.0) q) (λ y r. reads (turns begins_postfix postfix_part postfix_added (y, t.1)) r))) (λ x q. got x.0 q) ≡
          read_then o (λ t q. read_then (reads (form.postfix b.expr f e from t.0) q) (λ x r. postfixes x t.1 r))
      go (got t q) = inner t (reads (form.postfix b.expr f e from t.0) q)
      go (short q) = refl
      go (wrong q) = refl

  -- a postfix, and those that follow it, the first of which begins where this one began
  pub postfixed_more : (e : Expr C) (from : Span) (p : Place) → comes begins_postfix p.tokens ≡ true →
      postfixes e from p ≡ read_then (read_then (reads (one Some) p) (λ t q. reads (form.postfix b.expr f e from t.0) q)) (λ x r. postfixes x (start_at p) r)
  unfolding reads
  postfixed_more e from p h = by_token e from p h ∙ go p.tokens refl
    where
      starts : (q : Place) (t : SpannedTok) (ts : List SpannedTok) → q.tokens ≡ t ∷ ts → start_at q ≡ t.1
      starts q t ts i = rw i refl

      go : (ts : List SpannedTok) → p.tokens ≡ ts →
          read_then (read_one Some p ts) (λ t q. read_then (reads (form.postfix b.expr f e from t.0) q) (λ x r. postfixes x t.1 r)) ≡
          read_then (read_then (read_one Some p ts) (λ t q. reads (form.postfix b.expr f e from t.0) q)) (λ x r. postfixes x (start_at p) r)
      go [] i = refl
      go (t ∷ ts) i = ap (λ s. read_then (reads (form.postfix b.expr f e from t.0) (after p t ts)) (λ x r. postfixes x s r)) (sym (starts p t ts i))

  -- ---- suffixes: filters and tests

  -- the suffixes that follow, after those so far
  abbrev pub suffixes : Expr C → Form (Expr C)
  suffixes = many (of_kind begins_suffix) (form.suffix_turn f b)

  pub suffixed_is : (p : Place) → reads (form.unary_level f b) p ≡ read_then (reads (form.operand f b) p) (λ e q. reads (suffixes e) q)
  unfolding reads form.unary_level
  suffixed_is p = refl

  pub suffixed_done : (e : Expr C) (p : Place) → comes begins_suffix p.tokens ≡ false → reads (suffixes e) p ≡ got e p
  suffixed_done e p h = turns_done begins_suffix (λ x t. form.suffix f b x t.0) (λ x t y. y) e p h

  pub suffixed_more : (e : Expr C) (p : Place) → comes begins_suffix p.tokens ≡ true →
      reads (suffixes e) p ≡ read_then (read_then (reads (one Some) p) (λ t q. reads (form.suffix f b e t.0) q)) (λ x r. reads (suffixes x) r)
  suffixed_more e p h = turns_more begins_suffix (λ x t. form.suffix f b x t.0) (λ x t y. y) e p h ∙ go (reads (one Some) p)
    where
      go : (o : Read SpannedTok) → read_then o (λ t q. read_then (reads (form.suffix f b e t.0) q) (λ x r. reads (suffixes x) r)) ≡
          read_then (read_then o (λ t q. reads (form.suffix f b e t.0) q)) (λ x r. reads (suffixes x) r)
      go (got t q) = refl
      go (short q) = refl
      go (wrong q) = refl

-- ---- operators that nest their operand

pub prefixed_is : {C : Type 0} (m : Tok) (o : UnaryOp) (f : Form (Expr C)) (p : Place) →
    reads (form.prefixed m o f) p ≡ read_then (reads (next m) p) (λ s q. read_then (reads f q) (λ e r. got (unary o e (expanded s r.last)) r))
unfolding reads
prefixed_is m o f p = refl

module _ {C F : Type 0} (f : Functions C F) (b : Below C) where
  pub operand_is : (p : Place) → reads (form.operand f b) p ≡
      (if comes (is minus) p.tokens then reads (form.prefixed minus negation b.negated) p else reads (form.postfixed f b) p)
  unfolding reads form.operand
  operand_is p = refl

  pub power_is : (p : Place) → reads (form.pow_level f b) p ≡ read_then (reads (form.unary_level f b) p) (λ l q. if comes (is pow) q.tokens
      then read_then (skipped q) (λ s u. read_then (reads b.power u) (λ r v. got (binary bin.pow l r (expanded (start_at p) v.last)) v)) else got l q)
  unfolding reads form.pow_level
  power_is p = under (reads (form.unary_level f b) p) _ _ (λ l q. behind_comes pow (b.power >>= (λ r. form.spanned (start_at p) (binary bin.pow l r))) (pure l) q)

-- ---- how many tokens are left

-- a token, and what is read after it
pub turn_shorter : {A : Type 0} (f : SpannedTok → Form A) (p r : Place) (x : A) → read_then (reads (one Some) p) (λ t q. reads (f t) q) ≡ got x r → length r.tokens < length p.tokens
turn_shorter f p r x e =
    let i : (t : SpannedTok) × (q : Place) × (reads (one Some) p ≡ got t q) × (reads (f t) q ≡ got x r) = read_then_got _ _ _ _ e in
    omega (arith, take_shorter p i.1 i.0 i.2, read_no_longer (f i.0) i.1 r x i.3)
