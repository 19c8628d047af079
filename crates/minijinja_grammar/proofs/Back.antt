-- What the forms derive is what the relations say.
use Rattle.std.proofs.Common.{◌≡◌, inl, inr, ℕ, zero, suc, Bool, true, false, List, [], ◌∷◌, Option, Some, None, refl, sym, ap, ◌∙◌, subst}
use Rattle.std.specs.Prelude.{if◌then◌else◌}
use Rattle.std.proofs.lemmas.Slice.Eq.{bytes_eq-Decides}
use Rattle.std.proofs.lemmas.Bool.{eqb-true}
use Rattle.minijinja_syntax.specs.Texts.{Text}
use Rattle.minijinja_value.specs.Values.{Functions}
use Rattle.minijinja_syntax.specs.declared.tokens.Span.{Span}
use Rattle.minijinja_syntax.specs.Streams.{SpannedTok}
use Rattle.minijinja_syntax.specs.Tokens.{Tok, template_data, variable_start, variable_end, block_start, block_end, ident, str, string, int, int128, plus, minus, mul, div, floor_div, pow, rem, dot, comma, colon, tilde, assign, pipe, eq, ne, gt, gte, lt, lte, bracket_open, bracket_close, paren_open, paren_close, brace_open, brace_close}
use Rattle.minijinja_tree.specs.BinOps as bin
use Rattle.minijinja_tree.specs.Tree as bare
use Rattle.minijinja_tree.specs.Tree.{logical_not, negation}
use Rattle.minijinja_tree.specs.SpannedTrees as tree
use Rattle.minijinja_tree.specs.SpannedTrees.{Expr, bare_expr}
use Rattle.minijinja_grammar.specs.Words.{is, if_word, else_word, not_word}
use Rattle.minijinja_grammar.specs.Places.{Place}
use Rattle.minijinja_grammar.specs.internal.Forms.{Turn, go_on, over, Form, pure, nothing, one, source, start, last, new_name, and_then, either, many, Takes, Turns, no_turn, last_turn, turn, Derives, ◌>>=◌}
use Rattle.minijinja_grammar.specs.Ahead.{comes, held_next, Level, or_level, operator}
use Rattle.minijinja_grammar.specs.internal.ExprForms as g
use Rattle.minijinja_grammar.specs.Ahead as ahead
use Rattle.minijinja_grammar.specs.internal.ExprForms.{Below}
use Rattle.minijinja_syntax.specs.Positions.{expanded}
use Rattle.minijinja_grammar.specs.Expressions.{IsExpr, expr, IsCond, cond, IsIfs, no_if, if_alone, if_else, IsLevel, level, IsRow, no_operator, operation, IsSide, IsNot, opposite, no_not, IsCmp, IsPow, no_power, power, IsUnary, IsOperand, negated, IsPrimary}
use Rattle.minijinja_grammar.proofs.Reading.{side_form, level_form}

-- a token that is like a mark is the mark
pub same_tok : (m t : Tok) → is m t ≡ true → t ≡ m
same_tok (template_data x) (template_data y) e = ap template_data ((bytes_eq-Decides y x).0 e)
same_tok (ident x) (ident y) e = ap ident ((bytes_eq-Decides y x).0 e)
same_tok (str x) (str y) e = ap str ((bytes_eq-Decides y x).0 e)
same_tok (string x) (string y) e = ap string ((bytes_eq-Decides y x).0 e)
same_tok (int n) (int m) e = ap int (eqb-true m n e)
same_tok (int128 n) (int128 m) e = ap int128 (eqb-true m n e)
same_tok variable_start variable_start e = refl
same_tok variable_end variable_end e = refl
same_tok block_start block_start e = refl
same_tok block_end block_end e = refl
same_tok plus plus e = refl
same_tok minus minus e = refl
same_tok mul mul e = refl
same_tok div div e = refl
same_tok floor_div floor_div e = refl
same_tok pow pow e = refl
same_tok rem rem e = refl
same_tok dot dot e = refl
same_tok comma comma e = refl
same_tok colon colon e = refl
same_tok tilde tilde e = refl
same_tok assign assign e = refl
same_tok pipe pipe e = refl
same_tok eq eq e = refl
same_tok ne ne e = refl
same_tok gt gt e = refl
same_tok gte gte e = refl
same_tok lt lt e = refl
same_tok lte lte e = refl
same_tok bracket_open bracket_open e = refl
same_tok bracket_close bracket_close e = refl
same_tok paren_open paren_open e = refl
same_tok paren_close paren_close e = refl
same_tok brace_open brace_open e = refl
same_tok brace_close brace_close e = refl
same_tok _ _ e = cc

-- no form leaves its text
turns_kept : {A B : Type 0} (held : SpannedTok → Option B) (T : A → B → Place → Place → Turn A → Type 0) →
    ((x : A) (h : B) (p q : Place) (y : Turn A) → T x h p q y → q.source ≡ p.source) → (x : A) (p q : Place) (y : A) → Turns held T x p q y → q.source ≡ p.source
turns_kept held T k x p q y (no_turn e) = refl
turns_kept held T k x p r y (last_turn {h = h} {q = q} t d) = k x h q r (over y) d ∙ ap (λ (z : Place). z.source) t.behind
turns_kept held T k x p s z (turn {y = y} {h = h} {q = q} {r = r} t d m) = turns_kept held T k y r s z m ∙ k x h q r (go_on y) d ∙ ap (λ (z : Place). z.source) t.behind

pub kept : {A : Type 0} (form : Form A) (p q : Place) (x : A) → Derives form p q x → q.source ≡ p.source
kept (pure y) p q x d = ap (λ (z : Place). z.source) (sym d.0)
kept nothing p q x d = absurd d
kept (one held) p q x d = ap (λ (z : Place). z.source) d.behind
kept source p q x d = ap (λ (z : Place). z.source) (sym d.0)
kept start p q x d = ap (λ (z : Place). z.source) (sym d.0)
kept last p q x d = ap (λ (z : Place). z.source) (sym d.0)
kept (new_name y) p q x d = ap (λ (z : Place). z.source) d.1
kept (and_then f k) p q x d = kept (k d.0) d.1 q x d.3 ∙ kept f p d.1 d.0 d.2
kept (either begins f k) p q x (inl d) = kept f p q x d.1
kept (either begins f k) p q x (inr d) = kept k p q x d.1
kept (many held t y) p q x d = turns_kept held (λ y h. Derives (t y h)) (λ y h. kept (t y h)) y p q x d

-- what a token held that was taken
pub held_was : {A : Type 0} (what : Tok → Option A) (p q : Place) (x : A) → Takes (ahead.held what) p q x → (t : Tok) × (s : Span) × (p.tokens ≡ (t, s) ∷ q.tokens) × (what t ≡ Some x)
held_was what p q x d = (d.token.0, d.token.1, d.next ∙ ap (λ us. d.token ∷ us) (ap (λ (z : Place). z.tokens) (sym d.behind)), d.holds)

pub kind_was : (kind : Tok → Bool) (p q : Place) (u : SpannedTok) → Takes (g.of_kind kind) p q u → (p.tokens ≡ u ∷ q.tokens)
kind_was kind p q u d = go (kind d.token.0) d.holds
  where
    go : (b : Bool) → (if b then Some d.token else None) ≡ Some u → p.tokens ≡ u ∷ q.tokens
    go false e = cc
    go true e = let i : d.token ≡ u = some_is d.token u e in d.next ∙ rw (i, d.behind) refl
      where
        some_is : (x y : SpannedTok) → Some x ≡ Some y → x ≡ y
        some_is x y e = cc

pub mark_was : (m : Tok) (p q : Place) (s : Span) → Takes (g.span_of_mark m) p q s → p.tokens ≡ (m, s) ∷ q.tokens
mark_was m p q s d = go (is m d.token.0) refl d.holds
  where
    some_is : (x y : Span) → Some x ≡ Some y → x ≡ y
    some_is x y e = cc

    go : (b : Bool) → is m d.token.0 ≡ b → (if b then Some d.token.1 else None) ≡ Some s → p.tokens ≡ (m, s) ∷ q.tokens
    go false i e = cc
    go true i e =
        let j : d.token.0 ≡ m = same_tok m d.token.0 i in
        let k : d.token.1 ≡ s = some_is d.token.1 s e in
        d.next ∙ rw (d.behind, sym j, sym k) refl

abbrev pub turned : {A : Type 0} → Turn A → A
turned (go_on x) = x
turned (over x) = x

module _ {C F : Type 0} (f : Functions C F) (src : Text) where
  -- all that the form derives is such
  abbrev pub Says : (List SpannedTok → List SpannedTok → bare.Expr C → Type 0) → Form (Expr C) → Type 0
  Says X form = (p q : Place) (x : Expr C) → p.source ≡ src → Derives form p q x → X p.tokens q.tokens (bare_expr x)

  abbrev pub Under : (ℕ → List SpannedTok → List SpannedTok → bare.Expr C → Type 0) → ℕ → List SpannedTok → List SpannedTok → bare.Expr C → Type 0
  Under X zero ts rest e = ⊥
  Under X (suc d) ts rest e = X d ts rest e

  pub record Backed (d : ℕ) (b : Below C) : Type 0 where
    pub expr : Says (IsExpr f src d) b.expr
    pub opposite : Says (Under (IsNot f src) d) b.opposite
    pub power : Says (Under (IsPow f src) d) b.power
    pub negated : Says (Under (IsOperand f src) d) b.negated
    pub primary : Says (IsPrimary f src d) b.primary

  power_of : (d : ℕ) {s : Span} {ts us rest : List SpannedTok} {l r : bare.Expr C} → IsUnary f src d ts ((pow, s) ∷ us) l → Under (IsPow f src) d us rest r → IsPow f src d ts rest (bare.binary bin.pow l r)
  power_of zero a c = absurd c
  power_of (suc d) a c = power a c

  not_of : (d : ℕ) {s : Span} {ts rest : List SpannedTok} {e : bare.Expr C} → Under (IsNot f src) d ts rest e → IsNot f src d ((not_word, s) ∷ ts) rest (bare.unary logical_not e)
  not_of zero a = absurd a
  not_of (suc d) a = opposite a

  negation_of : (d : ℕ) {s : Span} {ts rest : List SpannedTok} {e : bare.Expr C} → Under (IsOperand f src) d ts rest e → IsOperand f src d ((minus, s) ∷ ts) rest (bare.unary negation e)
  negation_of zero a = absurd a
  negation_of (suc d) a = negated a

  else_of : (d : ℕ) {s r : Span} {ts us vs rest : List SpannedTok} {e t o : bare.Expr C} → IsIfs f src d ts ((if_word, s) ∷ us) e → IsLevel f src or_level d us ((else_word, r) ∷ vs) t → IsExpr f src d vs rest o →
      IsIfs f src d ts rest (bare.if_expr t e (bare.present o))
  else_of zero a c o = elim o [ ]
  else_of (suc d) a c (expr o) = if_else a c o

  module _ (d : ℕ) (b : Below C) (h : Backed d b) where
    pub pow_back : Says (IsUnary f src d) (g.unary_level f b) → Says (IsPow f src d) (g.pow_level f b)
    unfolding g.pow_level
    pow_back i p q x e (from, q₀, (a, _), (l, q₁, u, inr (n, (j, k)))) = rw (a, sym j, sym k) (no_power (i q₀ q₁ l (ap (λ (z : Place). z.source) (sym a) ∙ e) u) n)
    pow_back i p q x e (from, q₀, (a, _), (l, q₁, u, inl (n, (s, q₂, t, (r, q₃, w, (to, q₄, (j, _), (k, m))))))) =
        let e₀ : q₀.source ≡ src = ap (λ (z : Place). z.source) (sym a) ∙ e in
        let e₁ : q₁.source ≡ src = kept (g.unary_level f b) q₀ q₁ l u ∙ e₀ in
        let e₂ : q₂.source ≡ src = ap (λ (z : Place). z.source) t.behind ∙ e₁ in
        rw (a, sym k, sym j, sym m) (power_of d (subst (λ us. IsUnary f src d q₀.tokens us (bare_expr l)) (mark_was pow q₁ q₂ s t) (i q₀ q₁ l e₀ u)) (h.power q₂ q₃ r e₂ w))

    row_back : (l : Level) → Says (IsSide f src l d) (side_form f l b) → (from : Span) (ts : List SpannedTok) (x : Expr C) (p q : Place) (y : Expr C) → p.source ≡ src → IsRow f src l d ts p.tokens (bare_expr x) →
        Turns (ahead.held (operator l)) (λ x o. Derives (side_form f l b >>= (λ r. g.spanned from (λ s. go_on (tree.binary o x r s))))) x p q y →
        IsRow f src l d ts q.tokens (bare_expr y) × (held_next (ahead.held (operator l)) q.tokens ≡ None)
    row_back l i from ts x p q y e a (no_turn n) = (a, n)
    row_back l i from ts x p q y e a (last_turn {h = o} {q = q₁} t (r, q₂, w, (to, q₃, (j, _), (k, m)))) = cc
    row_back l i from ts x p q y e a (turn {y = z} {h = o} {q = q₁} {r = q₂} t (r, q₃, w, (to, q₄, (j, _), (k, m))) more) =
        let v = held_was (operator l) p q₁ o t in
        let e₁ : q₁.source ≡ src = ap (λ (z : Place). z.source) t.behind ∙ e in
        let c : IsRow f src l d ts q₃.tokens (bare_expr (tree.binary o x r (expanded from to))) =
        operation (subst (λ us. IsRow f src l d ts us (bare_expr x)) v.2 a) v.3 (i q₁ q₃ r e₁ w) in
        let same : q₃ ≡ q₂ = j ∙ k in
        let e₂ : q₂.source ≡ src = ap (λ (z : Place). z.source) (sym same) ∙ kept (side_form f l b) q₁ q₃ r w ∙ e₁ in
        row_back l i from ts z q₂ q y e₂ (subst (λ (w : Expr C). IsRow f src l d ts q₂.tokens (bare_expr w)) (ap turned m) (subst (λ (w : Place). IsRow f src l d ts w.tokens (bare_expr (tree.binary o x r (expanded from to)))) same c)) more

    pub level_back : (l : Level) → Says (IsSide f src l d) (side_form f l b) → Says (IsLevel f src l d) (level_form f l b)
    unfolding g.level
    level_back l i p q x e (from, q₀, (a, _), (y, q₁, u, m)) =
        let e₀ : q₀.source ≡ src = ap (λ (z : Place). z.source) (sym a) ∙ e in
        let v = row_back l i from q₀.tokens y q₁ q x (kept (side_form f l b) q₀ q₁ y u ∙ e₀) (no_operator (i q₀ q₁ y e₀ u)) m in
        rw a (level v.0 v.1)

    pub not_back : Says (IsCmp f src d) (g.compared_level (g.sum_level f b)) → Says (IsNot f src d) (g.not_level f b)
    unfolding g.not_level
    not_back i p q x e (inr (n, u)) = no_not n (i p q x e u)
    not_back i p q x e (inl (n, (s, q₁, t, (y, q₂, w, (to, q₃, (j, _), (k, m)))))) =
        let e₁ : q₁.source ≡ src = ap (λ (z : Place). z.source) t.behind ∙ e in
        rw (mark_was not_word p q₁ s t, sym k, sym j, sym m) (not_of d (h.opposite q₁ q₂ y e₁ w))

    pub operand_back : Says (IsOperand f src d) (g.postfixed f b) → Says (IsOperand f src d) (g.operand f b)
    unfolding g.operand
    operand_back i p q x e (inr (n, u)) = i p q x e u
    operand_back i p q x e (inl (n, (s, q₁, t, (y, q₂, w, (to, q₃, (j, _), (k, m)))))) =
        let e₁ : q₁.source ≡ src = ap (λ (z : Place). z.source) t.behind ∙ e in
        rw (mark_was minus p q₁ s t, sym k, sym j, sym m) (negation_of d (h.negated q₁ q₂ y e₁ w))

    ifs_back : Says (IsLevel f src or_level d) (g.or_level f b) → (ts : List SpannedTok) (x : Expr C × Span) (p q : Place) (y : Expr C × Span) → p.source ≡ src → IsIfs f src d ts p.tokens (bare_expr x.0) →
        Turns (g.span_of_mark if_word) (λ x s. Derives (g.if_turn (g.or_level f b) b.expr x s)) x p q y → IsIfs f src d ts q.tokens (bare_expr y.0) × (comes (is if_word) q.tokens ≡ false)
    unfolding g.if_turn
    ifs_back i ts x p q y e a (no_turn n) = (a, not_marked q.tokens n)
      where
        not_marked : (us : List SpannedTok) → held_next (g.span_of_mark if_word) us ≡ None → comes (is if_word) us ≡ false
        not_marked [] k = refl
        not_marked (u ∷ us) k = go (is if_word u.0) k
          where
            go : (c : Bool) → (if c then Some u.1 else None) ≡ None → c ≡ false
            go true k = cc
            go false k = refl
    ifs_back i ts x p q y e a (last_turn t (r, q₂, w, (o, q₃, c, (to, q₄, (j, _), (k, m))))) = cc
    ifs_back i ts x p q y e a (turn {y = z} {h = s} {q = q₁} {r = q₂} t (r, q₃, w, (o, q₄, inr (n, (j, k)), (to, q₅, (l, _), (m, v)))) more) =
        let e₁ : q₁.source ≡ src = ap (λ (z : Place). z.source) t.behind ∙ e in
        let c : IsIfs f src d ts q₃.tokens (bare.if_expr (bare_expr r) (bare_expr x.0) bare.absent) = if_alone (subst (λ us. IsIfs f src d ts us (bare_expr x.0)) (mark_was if_word p q₁ s t) a) (i q₁ q₃ r e₁ w) n in
        let same : q₃ ≡ q₂ = j ∙ l ∙ m in
        let e₂ : q₂.source ≡ src = ap (λ (z : Place). z.source) (sym same) ∙ kept (g.or_level f b) q₁ q₃ r w ∙ e₁ in
        let is : bare.if_expr (bare_expr r) (bare_expr x.0) bare.absent ≡ bare_expr z.0 = rw (sym (ap turned v), sym k) refl in
        ifs_back i ts z q₂ q y e₂ (subst (IsIfs f src d ts q₂.tokens) is (subst (λ (w : Place). IsIfs f src d ts w.tokens (bare.if_expr (bare_expr r) (bare_expr x.0) bare.absent)) same c)) more
    ifs_back i ts x p q y e a (turn {y = z} {h = s} {q = q₁} {r = q₂} t (r, q₃, w, (o, q₄, inl (n, (s', q₆, t', (oe, q₇, w', (j, k)))), (to, q₅, (l, _), (m, v)))) more) =
        let e₁ : q₁.source ≡ src = ap (λ (z : Place). z.source) t.behind ∙ e in
        let e₃ : q₃.source ≡ src = kept (g.or_level f b) q₁ q₃ r w ∙ e₁ in
        let e₆ : q₆.source ≡ src = ap (λ (z : Place). z.source) t'.behind ∙ e₃ in
        let c : IsIfs f src d ts q₇.tokens (bare.if_expr (bare_expr r) (bare_expr x.0) (bare.present (bare_expr oe))) =
        else_of d (subst (λ us. IsIfs f src d ts us (bare_expr x.0)) (mark_was if_word p q₁ s t) a) (subst (λ us. IsLevel f src or_level d q₁.tokens us (bare_expr r)) (mark_was else_word q₃ q₆ s' t') (i q₁ q₃ r e₁ w)) (h.expr q₆ q₇ oe e₆ w') in
        let same : q₇ ≡ q₂ = j ∙ l ∙ m in
        let e₂ : q₂.source ≡ src = ap (λ (z : Place). z.source) (sym same) ∙ kept b.expr q₆ q₇ oe w' ∙ e₆ in
        let is : bare.if_expr (bare_expr r) (bare_expr x.0) (bare.present (bare_expr oe)) ≡ bare_expr z.0 = rw (sym (ap turned v), sym k) refl in
        ifs_back i ts z q₂ q y e₂ (subst (IsIfs f src d ts q₂.tokens) is (subst (λ (w : Place). IsIfs f src d ts w.tokens (bare.if_expr (bare_expr r) (bare_expr x.0) (bare.present (bare_expr oe)))) same c)) more

    pub cond_back : Says (IsLevel f src or_level d) (g.or_level f b) → Says (IsCond f src d) (g.cond_level f b)
    unfolding g.cond
    cond_back i p q x e (from, q₀, (a, _), (y, q₁, u, (z, q₂, m, (j, k)))) =
        let e₀ : q₀.source ≡ src = ap (λ (z : Place). z.source) (sym a) ∙ e in
        let v = ifs_back i q₀.tokens (y, from) q₁ q₂ z (kept (g.or_level f b) q₀ q₁ y u ∙ e₀) (no_if (i q₀ q₁ y e₀ u)) m in
        rw (a, sym j, sym k) (cond v.0 v.1)
