-- What the relations of names, texts and comparison operators say is what the forms derive. The
-- file begins with facts on tokens and words, and ends with what a form must derive of what nests
-- in it.
use Rattle.std.proofs.Common.{◌≡◌, ◌⊎◌, inl, inr, ℕ, zero, suc, Bool, true, false, List, [], ◌∷◌, ◌++◌, Option, Some, None, refl, sym, ap, subst, append_assoc}
use Rattle.std.specs.Prelude.{◌||◌, if◌then◌else◌, codes}
use Rattle.std.specs.Str.{bytes_eq}
use Rattle.std.proofs.lemmas.Slice.Eq.{bytes_eq-Decides}
use Rattle.minijinja_syntax.specs.Texts.{Text}
use Rattle.minijinja_value.specs.Values.{Functions}
use Rattle.minijinja_syntax.specs.declared.tokens.Span.{Span}
use Rattle.minijinja_syntax.specs.Streams.{SpannedTok, Ending}
use Rattle.minijinja_syntax.specs.Tokens.{Tok, ident, mul, pow, dot, colon, paren_open, paren_close}
use Rattle.minijinja_tree.specs.CompareOps.{CompareOp}
use Rattle.minijinja_tree.specs.Tree as bare
use Rattle.minijinja_tree.specs.SpannedTrees as tree
use Rattle.minijinja_tree.specs.SpannedTrees.{Expr, bare_expr}
use Rattle.minijinja_grammar.specs.Words.{is, is_true_word, is_false_word, is_none_word, is_constant_word, not_word, in_word, text_of, compare_op, begins_expr, begins_arg, begins_comparison, begins_bare}
use Rattle.minijinja_grammar.specs.Places.{Place}
use Rattle.minijinja_grammar.specs.internal.Forms.{Turn, go_on, Form, pure, Takes, Turns, no_turn, turn, Derives}
use Rattle.minijinja_grammar.specs.Ahead.{comes, held_next, IsDots, no_dot, dot_part, IsName, plain_name, dotted_name, IsTexts, no_text, one_text, IsCmpOp, one_token, not_in_words}
use Rattle.minijinja_grammar.specs.internal.ExprForms as g
use Rattle.minijinja_grammar.specs.Ahead as ahead
use Rattle.minijinja_grammar.specs.internal.ExprForms.{Below}
use Rattle.minijinja_grammar.specs.Expressions.{IsExpr, IsNot, IsPow, IsOperand, IsPrimary}
use Rattle.minijinja_grammar.specs.SpannedExpressions.{end_of_name, end_of_texts, end_of_operator, spanned_expr, spanned_not, spanned_pow, spanned_operand, spanned_primary}

pub append_nil : {X : Type 0} (xs : List X) → xs ++ [] ≡ xs
append_nil [] = refl
append_nil (x ∷ xs) = ap (λ l. x ∷ l) (append_nil xs)

abbrev pub TurnsOf : {A B : Type 0} → (SpannedTok → Option B) → (A → B → Form (Turn A)) → A → Place → Place → A → Type 0
TurnsOf held t = Turns held (λ x h. Derives (t x h))

-- what follows from the second follows from the first
abbrev pub Leads : {A B : Type 0} → (SpannedTok → Option B) → (A → B → Form (Turn A)) → A → Place → A → Place → Type 0
Leads {A = A} held t x p y q = (z : A) (r : Place) → TurnsOf held t y q r z → TurnsOf held t x p r z

-- what begins an expression begins nothing else

pub no_close : (ts : List SpannedTok) → comes begins_expr ts ≡ true → comes (is paren_close) ts ≡ false
no_close [] e = refl
no_close (t ∷ ts) e = go t.0 e
  where
    go : (u : Tok) → begins_expr u ≡ true → is paren_close u ≡ false
    go paren_close k = cc
    go _ k = refl

pub no_colon : (ts : List SpannedTok) → comes begins_expr ts ≡ true → comes (is colon) ts ≡ false
no_colon [] e = refl
no_colon (t ∷ ts) e = go t.0 e
  where
    go : (u : Tok) → begins_expr u ≡ true → is colon u ≡ false
    go colon k = cc
    go _ k = refl

pub no_star : (ts : List SpannedTok) → comes begins_expr ts ≡ true → comes (is mul) ts ≡ false
no_star [] e = refl
no_star (t ∷ ts) e = go t.0 e
  where
    go : (u : Tok) → begins_expr u ≡ true → is mul u ≡ false
    go mul k = cc
    go _ k = refl

pub no_stars : (ts : List SpannedTok) → comes begins_expr ts ≡ true → comes (is pow) ts ≡ false
no_stars [] e = refl
no_stars (t ∷ ts) e = go t.0 e
  where
    go : (u : Tok) → begins_expr u ≡ true → is pow u ≡ false
    go pow k = cc
    go _ k = refl

pub arg_begins : (ts : List SpannedTok) → comes begins_expr ts ≡ true → comes begins_arg ts ≡ true
arg_begins [] e = e
arg_begins (t ∷ ts) e = go t.0 e
  where
    go : (u : Tok) → begins_expr u ≡ true → begins_arg u ≡ true
    go mul k = refl
    go pow k = refl
    go _ k = k

pub bare_no_paren : (ts : List SpannedTok) → comes begins_bare ts ≡ true → comes (is paren_open) ts ≡ false
bare_no_paren [] e = refl
bare_no_paren (t ∷ ts) e = go t.0 e
  where
    go : (u : Tok) → begins_bare u ≡ true → is paren_open u ≡ false
    go paren_open k = cc
    go _ k = refl

-- what words are

pub true_is : {C F : Type 0} (f : Functions C F) (x : Text) (s : Span) → is_true_word x ≡ true → g.word f x s ≡ tree.constant (f.of_bool true) s
unfolding g.word
true_is f x s e = rw e refl

bytes_same : (x y : Text) → bytes_eq x y ≡ true → x ≡ y
bytes_same x y e = (bytes_eq-Decides x y).0 e

or_cases : (p q : Bool) → (p || q) ≡ true → (p ≡ true) ⊎ (q ≡ true)
or_cases true q e = inl refl
or_cases false q e = inr e

false_not_true : (x : Text) → is_false_word x ≡ true → is_true_word x ≡ false
false_not_true x e = go (eq_word x (codes "false")) (eq_word x (codes "False"))
  where
    eq_word : (y z : Text) → bytes_eq y z ≡ true → y ≡ z
    eq_word y z i = bytes_same y z i

    go : (bytes_eq x (codes "false") ≡ true → x ≡ codes "false") → (bytes_eq x (codes "False") ≡ true → x ≡ codes "False") → is_true_word x ≡ false
    go h k = elim (or_cases (bytes_eq x (codes "false")) (bytes_eq x (codes "False")) e) [ inl i ↦ rw (h i) refl | inr i ↦ rw (k i) refl ]

none_not_true : (x : Text) → is_none_word x ≡ true → is_true_word x ≡ false
none_not_true x e = elim (or_cases (bytes_eq x (codes "none")) (bytes_eq x (codes "None")) e) [ inl i ↦ rw (bytes_same x (codes "none") i) refl | inr i ↦ rw (bytes_same x (codes "None") i) refl ]

none_not_false : (x : Text) → is_none_word x ≡ true → is_false_word x ≡ false
none_not_false x e = elim (or_cases (bytes_eq x (codes "none")) (bytes_eq x (codes "None")) e) [ inl i ↦ rw (bytes_same x (codes "none") i) refl | inr i ↦ rw (bytes_same x (codes "None") i) refl ]

pub false_is : {C F : Type 0} (f : Functions C F) (x : Text) (s : Span) → is_false_word x ≡ true → g.word f x s ≡ tree.constant (f.of_bool false) s
unfolding g.word
false_is f x s e = rw (false_not_true x e, e) refl

pub none_is : {C F : Type 0} (f : Functions C F) (x : Text) (s : Span) → is_none_word x ≡ true → g.word f x s ≡ tree.constant f.none s
unfolding g.word
none_is f x s e = rw (none_not_true x e, none_not_false x e, e) refl

pub name_is : {C F : Type 0} (f : Functions C F) (x : Text) (s : Span) → is_constant_word x ≡ false → g.word f x s ≡ tree.variable x s
unfolding g.word
name_is f x s e = go (is_true_word x) (is_false_word x) (is_none_word x) e
  where
    go : (p q r : Bool) → (p || q || r) ≡ false →
        (if p then tree.constant (f.of_bool true) s else if q then tree.constant (f.of_bool false) s else if r then tree.constant f.none s else tree.variable x s) ≡ tree.variable x s
    go false false false k = refl
    go true q r k = cc
    go false true r k = cc
    go false false true k = cc

module _ {C F : Type 0} (f : Functions C F) (src : Text) (en : Ending) (ns : List Text) where
  abbrev pub at : List SpannedTok → Span → Place
  at ts l = record { source = src; tokens = ts; ending = en; last = l; names = ns }

  pub taken : {A : Type 0} (held : SpannedTok → Option A) (u : SpannedTok) (us : List SpannedTok) (k : Span) (x : A) → held u ≡ Some x → Takes held (at (u ∷ us) k) (at us u.1) x
  taken held u us k x e = record { token = u; rest = us; next = refl; holds = e; behind = refl }

  -- wherever the token before stands, the form derives a tree that is e without spans, and that is
  -- this one with them
  abbrev pub Gives : Form (Expr C) → List SpannedTok → List SpannedTok → bare.Expr C → (Span → Expr C × Span) → Type 0
  Gives form ts rest e v = (k : Span) → (x : Expr C) × (r : Span) × Derives form (at ts k) (at rest r) x × (bare_expr x ≡ e) × (v k ≡ (x, r))

  -- names and texts

  dots_read : {from to : Span} {ts rest : List SpannedTok} → IsDots from ts rest to → TurnsOf (g.span_of_mark dot) g.name_part from (at ts from) (at rest to) to
  unfolding g.name_part
  dots_read (no_dot {rest = rest} e) = no_turn (go rest e)
    where
      go : (ts : List SpannedTok) → comes (is dot) ts ≡ false → held_next (g.span_of_mark dot) ts ≡ None
      go [] e = refl
      go (t ∷ ts) e = rw e refl
  dots_read (dot_part {s = s} {a = a} {b = b} {x = x} {ts = ts} d) =
      turn (taken (g.span_of_mark dot) (dot, a) ((ident x, b) ∷ ts) s a refl) ((x, b), at ts b, taken g.ident_and_span (ident x, b) ts a (x, b) refl, (refl, refl)) (dots_read d)

  pub name_read : {ts rest : List SpannedTok} {x : Text} → (n : IsName src ts rest x) → (k : Span) → (r : Span) × Derives g.name (at ts k) (at rest r) x × (end_of_name n ≡ r)
  unfolding g.name g.name_parts
  name_read (plain_name {x = x} {s = s} {rest = rest} e) k = (s, ((x, s), at rest s, taken g.ident_and_span (ident x, s) rest k (x, s) refl, inr (e, (refl, refl))), refl)
  name_read (dotted_name {x = x} {s = s} {to = to} {ts = ts} {rest = rest} e d) k =
      (to, ((x, s), at ts s, taken g.ident_and_span (ident x, s) ts k (x, s) refl, inl (e, (to, at rest to, dots_read d, (src, at rest to, (refl, refl), (refl, refl))))), refl)

  pub texts_read : {ts rest : List SpannedTok} {y : Text} → (w : IsTexts ts rest y) → (x : Text) (k : Span) →
      (r : Span) × TurnsOf (ahead.held text_of) (λ t u. pure (go_on (t ++ u))) x (at ts k) (at rest r) (x ++ y) × (end_of_texts k w ≡ r)
  texts_read (no_text {rest = rest} e) x k = (k, subst (λ z. TurnsOf (ahead.held text_of) (λ t u. pure (go_on (t ++ u))) x (at rest k) (at rest k) z) (sym (append_nil x)) (no_turn e), refl)
  texts_read (one_text {t = t} {s = s} {x = z} {y = y} {ts = ts} {rest = rest} e w) x k =
      let u = texts_read w (x ++ z) s in
      (u.0, turn (taken (ahead.held text_of) (t, s) ts k z e) (refl, refl) (subst (λ v. TurnsOf (ahead.held text_of) (λ t u. pure (go_on (t ++ u))) (x ++ z) (at ts s) (at rest u.0) v) (append_assoc x z y) u.1), u.2)

  pub cmp_op_read : {ts rest : List SpannedTok} {o : CompareOp} → (h : IsCmpOp ts rest o) → (k : Span) →
      (t : SpannedTok) × (us : List SpannedTok) × (ts ≡ t ∷ us) × (begins_comparison t.0 ≡ true) × (r : Span) × Derives (g.compare_operator (compare_op t.0)) (at us t.1) (at rest r) o × (end_of_operator h ≡ r)
  cmp_op_read (one_token {t = t} {s = s} {o = o} {rest = rest} e) k = ((t, s), rest, refl, go, s, subst (λ w. Derives (g.compare_operator w) (at rest s) (at rest s) o) (sym e) (refl, refl), refl)
    where
      go : begins_comparison t ≡ true
      go = rw e (or_true (is not_word t))
        where
          or_true : (b : Bool) → (b || true) ≡ true
          or_true true = refl
          or_true false = refl
  cmp_op_read (not_in_words {s = s} {r = r} {rest = rest}) k =
      ((not_word, s), (in_word, r) ∷ rest, refl, refl, r, (r, at rest r, taken (g.span_of_mark in_word) (in_word, r) rest s r refl, (refl, refl)), refl)

  -- a test on what comes, as a repetition asks it
  pub none_comes : (kind : Tok → Bool) (ts : List SpannedTok) → comes kind ts ≡ false → held_next (g.of_kind kind) ts ≡ None
  none_comes kind [] e = refl
  none_comes kind (t ∷ ts) e = rw e refl

  pub no_mark : (m : Tok) (ts : List SpannedTok) → comes (is m) ts ≡ false → held_next (g.span_of_mark m) ts ≡ None
  no_mark m [] e = refl
  no_mark m (t ∷ ts) e = rw e refl

  pub kind_held : (kind : Tok → Bool) (u : SpannedTok) → kind u.0 ≡ true → g.of_kind kind u ≡ Some u
  kind_held kind u e = rw e refl

  pub kind_taken : (kind : Tok → Bool) (u : SpannedTok) (us : List SpannedTok) (k : Span) → kind u.0 ≡ true → Takes (g.of_kind kind) (at (u ∷ us) k) (at us u.1) u
  kind_taken kind u us k e = taken (g.of_kind kind) u us k u (rw e refl)

  pub mark_taken : (m : Tok) (s : Span) (us : List SpannedTok) (k : Span) → is m m ≡ true → Takes (g.span_of_mark m) (at ((m, s) ∷ us) k) (at us s) s
  mark_taken m s us k e = taken (g.span_of_mark m) (m, s) us k s (rw e refl)

  -- what nests in a part of that depth is derived by these forms
  abbrev pub Beneath : (ℕ → List SpannedTok → List SpannedTok → bare.Expr C → Type 0) → ℕ → List SpannedTok → List SpannedTok → bare.Expr C → Type 0
  Beneath X zero ts rest e = ⊥
  Beneath X (suc d) ts rest e = X d ts rest e

  -- the trees with spans of what is so related
  abbrev pub Trees : (List SpannedTok → List SpannedTok → bare.Expr C → Type 0) → Type 0
  Trees X = (ts rest : List SpannedTok) (e : bare.Expr C) → X ts rest e → Span → Expr C × Span

  abbrev pub trees_beneath : (X : ℕ → List SpannedTok → List SpannedTok → bare.Expr C → Type 0) → ((d : ℕ) → Trees (X d)) → (d : ℕ) → Trees (Beneath X d)
  trees_beneath X v zero ts rest e a k = absurd a
  trees_beneath X v (suc d) ts rest e a k = v d ts rest e a k

  abbrev pub Sends : (X : List SpannedTok → List SpannedTok → bare.Expr C → Type 0) → Form (Expr C) → Trees X → Type 0
  Sends X form v = (ts rest : List SpannedTok) (e : bare.Expr C) (a : X ts rest e) → Gives form ts rest e (v ts rest e a)

  pub record Nested (d : ℕ) (b : Below C) : Type 0 where
    pub expr : Sends (IsExpr f src d) b.expr (λ ts rest e a k. spanned_expr f src k a)
    pub opposite : Sends (Beneath (IsNot f src) d) b.opposite (trees_beneath (IsNot f src) (λ d ts rest e a k. spanned_not f src k a) d)
    pub power : Sends (Beneath (IsPow f src) d) b.power (trees_beneath (IsPow f src) (λ d ts rest e a k. spanned_pow f src k a) d)
    pub negated : Sends (Beneath (IsOperand f src) d) b.negated (trees_beneath (IsOperand f src) (λ d ts rest e a k. spanned_operand f src k a) d)
    pub primary : Sends (IsPrimary f src d) b.primary (λ ts rest e a k. spanned_primary f src k a)
