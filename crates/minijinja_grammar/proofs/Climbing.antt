-- Operators by climbing: one after another, whatever their row.
use Rattle.std.proofs.Common.{◌≡◌, ℕ, zero, suc, List, [], ◌∷◌, Bool, true, false, if◌then◌else◌, Option, Some, None, refl, sym, ap, ◌∙◌, subst, inl, inr}
use Rattle.std.specs.Prelude.{is_some}
use Rattle.std.specs.Option.{option_map}
use Rattle.minijinja_value.specs.Values.{Functions}
use Rattle.minijinja_syntax.specs.declared.tokens.Span.{Span}
use Rattle.minijinja_syntax.specs.Tokens.{Tok}
use Rattle.minijinja_tree.specs.BinOps.{BinOp}
use Rattle.minijinja_tree.specs.CompareOps.{CompareOp}
use Rattle.minijinja_tree.specs.Tree.{logical_not}
use Rattle.minijinja_tree.specs.SpannedTrees.{Expr, unary, binary}
use Rattle.minijinja_grammar.specs.Words.{is, begins_comparison, not_word}
use Rattle.minijinja_syntax.specs.Streams.{SpannedTok}
use Rattle.minijinja_grammar.specs.Places.{Place}
use Rattle.minijinja_grammar.specs.internal.Forms.{Form, Turn, go_on, over, one, held_or_wrong, read_one, start_at, many, after, Turns, no_turn, last_turn, turn, Derives, Read, got, short, wrong, read_then, read_turn, if_held, read_any, reads, ◌>>=◌}
use Rattle.minijinja_grammar.specs.Ahead.{comes, held_next, held}
use Rattle.minijinja_grammar.specs.internal.ExprForms.{of_kind, spanned, expanded, level, comparison, compare_all, compared_level, not_level, pow_level, Below, below}
use Rattle.minijinja_grammar.specs.internal.Climbing.{Row, binaries, comparing, not_rows, all_rows, negation_in, IsQuiet, operators, comparisons, level_of, rest_of, Infix, binary_of, comparing_of, or_else, infix_in, next_infix, operation, first_of}
use Rattle.minijinja_grammar.proofs.Forms.{sound}
use Rattle.minijinja_grammar.proofs.Unrolled.{many_is}

-- ---- one thing after another

pub after_after : {A B D : Type 0} (o : Read A) (f : A → Place → Read B) (h : B → Place → Read D) → read_then (read_then o f) h ≡ read_then o (λ x q. read_then (f x q) h)
after_after (got x q) f h = refl
after_after (short q) f h = refl
after_after (wrong q) f h = refl

none_held : {A : Type 0} (op : Tok → Option A) (ts : List SpannedTok) → comes (λ t. is_some (op t)) ts ≡ false → held_next (held op) ts ≡ None
none_held op [] e = refl
none_held {A = A} op (t ∷ ts) e = go (op t.0) e
  where
    go : (o : Option A) → is_some o ≡ false → o ≡ None
    go None k = refl
    go (Some x) k = cc

held_none : {A : Type 0} (op : Tok → Option A) (ts : List SpannedTok) → held_next (held op) ts ≡ None → comes (λ t. is_some (op t)) ts ≡ false
held_none op [] e = refl
held_none op (t ∷ ts) e = ap is_some e

no_kind : (begins : Tok → Bool) (ts : List SpannedTok) → comes begins ts ≡ false → held_next (of_kind begins) ts ≡ None
no_kind begins [] e = refl
no_kind begins (t ∷ ts) e = rw e refl

kind_none : (begins : Tok → Bool) (ts : List SpannedTok) → held_next (of_kind begins) ts ≡ None → comes begins ts ≡ false
kind_none begins [] e = refl
kind_none begins (t ∷ ts) e = go (begins t.0) e
  where
    go : (b : Bool) → (if b then Some t else None) ≡ None → b ≡ false
    go true k = cc
    go false k = refl

-- where no turn begins there is none
no_turns : {A B : Type 0} (h : SpannedTok → Option B) (t : A → B → Form (Turn A)) (x : A) (p : Place) → held_next h p.tokens ≡ None → reads (many h t x) p ≡ got x p
no_turns h t x p e = many_is h t x p ∙ go p.tokens e
  where
    go : (ts : List SpannedTok) → held_next h ts ≡ None → read_any h (λ b q. read_turn (reads (t x b) q) (λ y s. reads (many h t y) s)) x p ts ≡ got x p
    go [] k = refl
    go (u ∷ us) k = rw k refl

as_it_is : {A : Type 0} (o : Read A) → read_then o (λ x q. got x q) ≡ o
as_it_is (got x q) = refl
as_it_is (short q) = refl
as_it_is (wrong q) = refl

under_got : {A B : Type 0} (o : Read A) (f h : A → Place → Read B) → ((x : A) (q : Place) → o ≡ got x q → f x q ≡ h x q) → read_then o f ≡ read_then o h
under_got (got x q) f h e = e x q refl
under_got (short q) f h e = refl
under_got (wrong q) f h e = refl

spanned_stays : {A : Type 0} (from : Span) (make : Span → A) (p q : Place) (x : A) → Derives (spanned from make) p q x → p ≡ q
spanned_stays from make p q x d = d.2.0 ∙ d.3.0

module _ {C : Type 0} (negation operand : Form (Expr C)) where
  abbrev L : List Row → Form (Expr C)
  L = level_of negation operand

  -- after a negation no operator comes that a comparison in its place would take
  abbrev pub EndsQuietly : List Row → Type 0
  EndsQuietly [] = Unit {0}
  EndsQuietly (binaries op ∷ rows) = EndsQuietly rows
  EndsQuietly (comparing ∷ rows) =
      ((p q : Place) (x : Expr C) → Derives negation p q x → IsQuiet (comparing ∷ rows) q.tokens) × EndsQuietly rows

  -- ---- where no operator of the rows comes, nothing follows

  pub rest_done : (rows : List Row) (from before : Span) (x : Expr C) (q : Place) → IsQuiet rows q.tokens → reads (rest_of negation operand rows from before x) q ≡ got x q
  unfolding reads
  rest_done [] from before x q h = refl
  rest_done (binaries op ∷ rows) from before x q h = rw (rest_done rows from before x q h.1)
      (no_turns (held op) (λ l o. L rows >>= (λ r. spanned from (λ s. go_on (binary o l r s)))) x q (none_held op q.tokens h.0))
  rest_done (comparing ∷ rows) from before x q h = rw (
    rest_done rows from before x q h.1,
    no_turns (of_kind begins_comparison) (comparison (L rows)) [] q (no_kind begins_comparison q.tokens h.0),
  ) refl

  -- ---- after a level none of its operators comes

  module _ {A B : Type 0} (h : SpannedTok → Option B) (T : A → B → Place → Place → Turn A → Type 0) (Q : Place → Type 0)
      (k : (x : A) (b : B) (p q : Place) (y : A) → T x b p q (go_on y) → Q q) (none : (x : A) (b : B) (p q : Place) (y : A) → T x b p q (over y) → ⊥) where
    turns_end : (x : A) (p q : Place) (y : A) → Q p → Turns h T x p q y → (held_next h q.tokens ≡ None) × Q q
    turns_end x p q y i (no_turn e) = (e, i)
    turns_end x p q y i (last_turn {h = b} {q = m} d f) = absurd (none x b m q y f)
    turns_end x p q y i (turn {y = z} {h = b} {q = m} {r = s} d f g) = turns_end z s q y (k x b m s z f) g

  abbrev Quiet : List Row → Place → Type 0
  Quiet rows p = IsQuiet rows p.tokens

  module _ (rows : List Row) (k : (p q : Place) (x : Expr C) → Derives (L rows) p q x → Quiet rows q) where
    operators_quiet : (op : Tok → Option BinOp) (from : Span) (x y : Expr C) (p q : Place) → Quiet rows p → Derives (operators op (L rows) from x) p q y → Quiet (binaries op ∷ rows) q
    operators_quiet op from x y p q i d =
        let j = turns_end (held op) (λ l o. Derives (L rows >>= (λ r. spanned from (λ s. go_on (binary o l r s))))) (Quiet rows)
        (λ l o m s z e. subst (Quiet rows) (spanned_stays from (λ u. go_on (binary o l e.0 u)) e.1 s (go_on z) e.3) (k m e.1 e.0 e.2))
        (λ l o m s z e. let n = e.3.3.1 in cc) x p q y i d in
        (held_none op q.tokens j.0, j.1)

    comparison_quiet : (cs ds : List (CompareOp × Expr C)) (t : SpannedTok) (p q : Place) → Derives (comparison (L rows) cs t) p q (go_on ds) → Quiet rows q
    unfolding comparison
    comparison_quiet cs ds t p q d = subst (Quiet rows) d.3.3.0 (k d.1 d.3.1 d.3.0 d.3.2)

    comparison_goes_on : (cs ds : List (CompareOp × Expr C)) (t : SpannedTok) (p q : Place) → Derives (comparison (L rows) cs t) p q (over ds) → ⊥
    unfolding comparison
    comparison_goes_on cs ds t p q d = let n = d.3.3.1 in cc

    comparisons_quiet : (from : Span) (x y : Expr C) (p q : Place) → Quiet rows p → Derives (comparisons (L rows) from x) p q y → Quiet (comparing ∷ rows) q
    comparisons_quiet from x y p q i d =
        let j = turns_end (of_kind begins_comparison) (λ cs t. Derives (comparison (L rows) cs t)) (Quiet rows)
        (λ cs t m s ds e. comparison_quiet cs ds t m s e) (λ cs t m s ds e. comparison_goes_on cs ds t m s e) [] p d.1 d.0 i d.2 in
        subst (Quiet (comparing ∷ rows)) (spanned_stays from (compare_all x d.0) d.1 q y d.3) (kind_none begins_comparison d.1.tokens j.0, j.1)

  compared_quiet : (rows : List Row) → ((p q : Place) (x : Expr C) → Derives (L rows) p q x → Quiet rows q) →
      (p q : Place) (x : Expr C) → Derives (compared_level (L rows)) p q x → Quiet (comparing ∷ rows) q
  unfolding compared_level
  compared_quiet rows k p q x d = comparisons_quiet rows k d.0 d.3.0 x d.3.1 q (k d.1 d.3.1 d.3.0 d.3.2) d.3.3

  pub level_quiet : (rows : List Row) → EndsQuietly rows → (p q : Place) (x : Expr C) → Derives (L rows) p q x → Quiet rows q
  unfolding level
  level_quiet [] n p q x d = tt
  level_quiet (binaries op ∷ rows) n p q x d =
      operators_quiet rows (level_quiet rows n) op d.0 d.3.0 x d.3.1 q (level_quiet rows n d.1 d.3.1 d.3.0 d.3.2) d.3.3
  level_quiet (comparing ∷ rows) n p q x (inl d) = n.0 p q x d.1
  level_quiet (comparing ∷ rows) n p q x (inr d) = compared_quiet rows (level_quiet rows n.1) p q x d.1

  -- ---- an operator, and then the others

  -- one of two sides: its right side is of the rows below
  pub binary_step : (op : Tok → Option BinOp) (rows : List Row) → EndsQuietly rows → (from before : Span) (x : Expr C) (q : Place) → Quiet rows q → comes (λ t. is_some (op t)) q.tokens ≡ true →
      reads (rest_of negation operand (binaries op ∷ rows) from before x) q ≡
      read_then (reads (one (held op)) q) (λ o s. read_then (reads (L rows) s) (λ r u. reads (rest_of negation operand (binaries op ∷ rows) from before (binary o x r (expanded from u.last))) u))
  unfolding reads
  binary_step op rows n from before x q i h = rw (rest_done rows from before x q i)
      (many_is (held op) (λ l o. L rows >>= (λ r. spanned from (λ s. go_on (binary o l r s)))) x q ∙ go q.tokens h)
    where
      others : Expr C → Place → Read (Expr C)
      others y u = reads (operators op (L rows) from y) u

      sides : (s : Place) (o : BinOp) (e : Read (Expr C)) → reads (L rows) s ≡ e →
          read_turn (read_then e (λ r u. got (go_on (binary o x r (expanded from u.last))) u)) others ≡
          read_then e (λ r u. read_then (reads (rest_of negation operand rows from before (binary o x r (expanded from u.last))) u) others)
      sides s o (got r u) k = rw (rest_done rows from before (binary o x r (expanded from u.last)) u (level_quiet rows n s u r (sound (L rows) s u r k))) refl
      sides s o (short u) k = refl
      sides s o (wrong u) k = refl

      at_token : (t : SpannedTok) (ts : List SpannedTok) (o : Option BinOp) → is_some o ≡ true →
          if_held o (λ b. read_turn (read_then (reads (L rows) (after q t ts)) (λ r u. got (go_on (binary b x r (expanded from u.last))) u)) others) (got x q) ≡
          read_then (held_or_wrong o (after q t ts)) (λ b s. read_then (reads (L rows) s) (λ r u. read_then (reads (rest_of negation operand rows from before (binary b x r (expanded from u.last))) u) others))
      at_token t ts None k = cc
      at_token t ts (Some o) k = sides (after q t ts) o (reads (L rows) (after q t ts)) refl

      go : (ts : List SpannedTok) → comes (λ t. is_some (op t)) ts ≡ true →
          read_any (held op) (λ b s. read_turn (read_then (reads (L rows) s) (λ r u. got (go_on (binary b x r (expanded from u.last))) u)) others) x q ts ≡
          read_then (read_one (held op) q ts) (λ b s. read_then (reads (L rows) s) (λ r u. read_then (reads (rest_of negation operand rows from before (binary b x r (expanded from u.last))) u) others))
      go [] k = cc
      go (t ∷ ts) k = at_token t ts (op t.0) k

  -- comparisons, all that come
  pub comparing_step : (rows : List Row) → EndsQuietly rows → (from before : Span) (x : Expr C) (q : Place) → Quiet rows q →
      reads (rest_of negation operand (comparing ∷ rows) from before x) q ≡
      read_then (reads (comparisons (L rows) before x) q) (λ y u. reads (rest_of negation operand (comparing ∷ rows) from before y) u)
  unfolding reads
  comparing_step rows n from before x q i =
      ap (λ o. read_then o (λ y u. reads (comparisons (L rows) before y) u)) (rest_done rows from before x q i) ∙
      sym (as_it_is (reads (comparisons (L rows) before x) q)) ∙
      under_got (reads (comparisons (L rows) before x) q) (λ y u. got y u) (λ y u. reads (rest_of negation operand (comparing ∷ rows) from before y) u)
      (λ y u k. sym (rest_done (comparing ∷ rows) from before y u (comparisons_quiet rows (level_quiet rows n) before x y q u i (sound (comparisons (L rows) before x) q u y k))))

  -- what holds of some rows holds of more
  pub looser_binaries : (op : Tok → Option BinOp) (rows : List Row) (from before : Span) (x : Expr C) (q : Place) (o : Read (Expr C)) →
      reads (rest_of negation operand rows from before x) q ≡ read_then o (λ y u. reads (rest_of negation operand rows from before y) u) →
      reads (rest_of negation operand (binaries op ∷ rows) from before x) q ≡ read_then o (λ y u. reads (rest_of negation operand (binaries op ∷ rows) from before y) u)
  unfolding reads
  looser_binaries op rows from before x q o e =
      ap (λ r. read_then r (λ y u. reads (operators op (L rows) from y) u)) e ∙ after_after o (λ y u. reads (rest_of negation operand rows from before y) u) (λ y u. reads (operators op (L rows) from y) u)

  pub looser_comparing : (rows : List Row) (from before : Span) (x : Expr C) (q : Place) (o : Read (Expr C)) →
      reads (rest_of negation operand rows from before x) q ≡ read_then o (λ y u. reads (rest_of negation operand rows from before y) u) →
      reads (rest_of negation operand (comparing ∷ rows) from before x) q ≡ read_then o (λ y u. reads (rest_of negation operand (comparing ∷ rows) from before y) u)
  unfolding reads
  looser_comparing rows from before x q o e =
      ap (λ r. read_then r (λ y u. reads (comparisons (L rows) before y) u)) e ∙ after_after o (λ y u. reads (rest_of negation operand rows from before y) u) (λ y u. reads (comparisons (L rows) before y) u)

  -- ---- a level is its first operand and what follows it

  pub level_first : (rows : List Row) → EndsQuietly rows → (p : Place) →
      reads (L rows) p ≡ read_then (first_of negation operand rows p) (λ x q. reads (rest_of negation operand rows (start_at p) p.last x) q)
  unfolding reads level compared_level
  level_first [] n p = sym (as_it_is (reads operand p))
  level_first (binaries op ∷ rows) n p =
      ap (λ o. read_then o (λ l q. reads (operators op (L rows) (start_at p) l) q)) (level_first rows n p) ∙
      after_after (first_of negation operand rows p) (λ x q. reads (rest_of negation operand rows (start_at p) p.last x) q) (λ l q. reads (operators op (L rows) (start_at p) l) q)
  level_first (comparing ∷ rows) n p = go (comes (is not_word) p.tokens) (level_first rows n.1 p)
    where
      go : (b : Bool) →
          reads (L rows) p ≡ read_then (first_of negation operand rows p) (λ x q. reads (rest_of negation operand rows (start_at p) p.last x) q) →
          (if b then reads negation p else reads (compared_level (L rows)) p) ≡
          read_then (if b then reads negation p else first_of negation operand rows p) (λ x q. reads (rest_of negation operand (comparing ∷ rows) (start_at p) p.last x) q)
      go true inner = sym (as_it_is (reads negation p)) ∙
          under_got (reads negation p) (λ x q. got x q) (λ x q. reads (rest_of negation operand (comparing ∷ rows) (start_at p) p.last x) q)
          (λ x q k. sym (rest_done (comparing ∷ rows) (start_at p) p.last x q (n.0 p q x (sound negation p q x k))))
      go false inner =
          ap (λ o. read_then o (λ y q. reads (comparisons (L rows) p.last y) q)) inner ∙
          after_after (first_of negation operand rows p) (λ x q. reads (rest_of negation operand rows (start_at p) p.last x) q) (λ y q. reads (comparisons (L rows) p.last y) q)

  -- ---- what follows is the next operator with its right side, and what follows those

  or_none : {A : Type 0} (a b : Option A) → or_else a b ≡ None → (a ≡ None) × (b ≡ None)
  or_none None b e = (refl, e)
  or_none (Some x) b e = cc

  quiet : (rows : List Row) (ts : List SpannedTok) → next_infix rows ts ≡ None → IsQuiet rows ts
  quiet [] ts e = tt
  quiet (binaries op ∷ rows) [] e = (refl, quiet rows [] refl)
  quiet (comparing ∷ rows) [] e = (refl, quiet rows [] refl)
  quiet (binaries op ∷ rows) (t ∷ ts) e = let k = or_none (infix_in rows t.0) (option_map (λ o. binary_of o rows) (op t.0)) e in (go (op t.0) k.1, quiet rows (t ∷ ts) k.0)
    where
      go : (o : Option BinOp) → option_map (λ o. binary_of o rows) o ≡ None → is_some o ≡ false
      go None l = refl
      go (Some o) l = cc
  quiet (comparing ∷ rows) (t ∷ ts) e = let k = or_none (infix_in rows t.0) (if begins_comparison t.0 then Some (comparing_of rows) else None) e in (go (begins_comparison t.0) k.1, quiet rows (t ∷ ts) k.0)
    where
      go : (b : Bool) → (if b then Some (comparing_of rows) else None) ≡ None → b ≡ false
      go true l = cc
      go false l = refl

  pub rest_over : (rows : List Row) (from before : Span) (x : Expr C) (q : Place) → next_infix rows q.tokens ≡ None → reads (rest_of negation operand rows from before x) q ≡ got x q
  rest_over rows from before x q e = rest_done rows from before x q (quiet rows q.tokens e)

  same_some : {A : Type 0} (a b : A) → Some a ≡ Some b → a ≡ b
  same_some a b e = cc

  module _ (from before : Span) (x : Expr C) (q : Place) (t : SpannedTok) (ts : List SpannedTok) (here : q.tokens ≡ t ∷ ts) where
    abbrev Rest : List Row → Expr C → Place → Read (Expr C)
    Rest rows y u = reads (rest_of negation operand rows from before y) u

    abbrev Step : Infix → List Row → Type 0
    Step i rows = Rest rows x q ≡ read_then (operation negation operand i from before x q) (Rest rows)

    quiet_here : (rows : List Row) → infix_in rows t.0 ≡ None → IsQuiet rows q.tokens
    quiet_here rows e = subst (IsQuiet rows) (sym here) (quiet rows (t ∷ ts) e)

    binary_next : (op : Tok → Option BinOp) (rows : List Row) → EndsQuietly rows → (o : BinOp) → op t.0 ≡ Some o → infix_in rows t.0 ≡ None → Step (binary_of o rows) (binaries op ∷ rows)
    unfolding reads operation
    binary_next op rows n o l e =
        binary_step op rows n from before x q (quiet_here rows e) (subst (λ us. comes (λ u. is_some (op u)) us ≡ true) (sym here) (ap is_some l)) ∙
        sides q.tokens here
      where
        made : BinOp → Place → Read (Expr C)
        made p s = read_then (reads (L rows) s) (λ r u. got (binary p x r (expanded from u.last)) u)

        taken : (u : SpannedTok) (us : List SpannedTok) (v : Option BinOp) → v ≡ Some o →
            read_then (held_or_wrong v (after q u us)) (λ p s. read_then (reads (L rows) s) (λ r w. Rest (binaries op ∷ rows) (binary p x r (expanded from w.last)) w)) ≡
            read_then (made o (after q u us)) (Rest (binaries op ∷ rows))
        taken u us None k = cc
        taken u us (Some p) k = subst (λ z. read_then (reads (L rows) (after q u us)) (λ r w. Rest (binaries op ∷ rows) (binary z x r (expanded from w.last)) w) ≡ read_then (made o (after q u us)) (Rest (binaries op ∷ rows)))
            (sym (same_some p o k)) (sym (after_after (reads (L rows) (after q u us)) (λ r w. got (binary o x r (expanded from w.last)) w) (Rest (binaries op ∷ rows))))

        first_same : (u : SpannedTok) (us : List SpannedTok) → u ∷ us ≡ t ∷ ts → u ≡ t
        first_same u us k = cc

        sides : (us : List SpannedTok) → us ≡ t ∷ ts →
            read_then (read_one (held op) q us) (λ p s. read_then (reads (L rows) s) (λ r w. Rest (binaries op ∷ rows) (binary p x r (expanded from w.last)) w)) ≡
            read_then (read_then (read_one Some q us) (λ u s. made o s)) (Rest (binaries op ∷ rows))
        sides [] k = cc
        sides (u ∷ us) k = taken u us (op u.0) (subst (λ z. op z.0 ≡ Some o) (sym (first_same u us k)) l)

    comparing_next : (rows : List Row) → EndsQuietly rows → infix_in rows t.0 ≡ None → Step (comparing_of rows) (comparing ∷ rows)
    unfolding operation
    comparing_next rows n e = comparing_step rows n from before x q (quiet_here rows e)

    step : (i : Infix) (rows : List Row) → EndsQuietly rows → infix_in rows t.0 ≡ Some i → Step i rows
    step i [] n e = cc
    step i (binaries op ∷ rows) n e = go (infix_in rows t.0) refl (op t.0) refl (step i rows n) e
      where
        go : (j : Option Infix) → infix_in rows t.0 ≡ j → (o : Option BinOp) → op t.0 ≡ o → (infix_in rows t.0 ≡ Some i → Step i rows) →
            or_else j (option_map (λ p. binary_of p rows) o) ≡ Some i → Step i (binaries op ∷ rows)
        go (Some j) k o l inner m = looser_binaries op rows from before x q (operation negation operand i from before x q) (inner (k ∙ m))
        go None k None l inner m = cc
        go None k (Some o) l inner m = subst (λ z. Step z (binaries op ∷ rows)) (same_some (binary_of o rows) i m) (binary_next op rows n o l k)
    step i (comparing ∷ rows) n e = go (infix_in rows t.0) refl (begins_comparison t.0) (step i rows n.1) e
      where
        go : (j : Option Infix) → infix_in rows t.0 ≡ j → (b : Bool) → (infix_in rows t.0 ≡ Some i → Step i rows) →
            or_else j (if b then Some (comparing_of rows) else None) ≡ Some i → Step i (comparing ∷ rows)
        go (Some j) k b inner m = looser_comparing rows from before x q (operation negation operand i from before x q) (inner (k ∙ m))
        go None k false inner m = cc
        go None k true inner m = subst (λ z. Step z (comparing ∷ rows)) (same_some (comparing_of rows) i m) (comparing_next rows n.1 k)

  -- the next operator with its right side, and what follows those
  pub rest_next : (rows : List Row) → EndsQuietly rows → (from before : Span) (x : Expr C) (q : Place) (i : Infix) → next_infix rows q.tokens ≡ Some i →
      reads (rest_of negation operand rows from before x) q ≡ read_then (operation negation operand i from before x q) (λ y u. reads (rest_of negation operand rows from before y) u)
  rest_next rows n from before x q i e = go q.tokens refl e
    where
      go : (us : List SpannedTok) → q.tokens ≡ us → next_infix rows us ≡ Some i →
          reads (rest_of negation operand rows from before x) q ≡ read_then (operation negation operand i from before x q) (λ y u. reads (rest_of negation operand rows from before y) u)
      go [] k l = cc
      go (t ∷ ts) k l = step from before x q t ts k i rows n l

-- ---- after a negation of the grammar

module _ {C F : Type 0} (f : Functions C F) where
  negation_quiet : (b : Below C) → ((p q : Place) (x : Expr C) → Derives b.opposite p q x → IsQuiet not_rows q.tokens) →
      (p q : Place) (x : Expr C) → Derives (negation_in b) p q x → IsQuiet not_rows q.tokens
  negation_quiet b k p q x d = subst (λ (v : Place). IsQuiet not_rows v.tokens) (spanned_stays d.0 (unary logical_not d.3.0) d.3.1 q x d.3.3) (k d.1 d.3.1 d.3.0 d.3.2)

  opposite_quiet : (d : ℕ) (p q : Place) (x : Expr C) → Derives (below f d).opposite p q x → IsQuiet not_rows q.tokens
  unfolding below not_level
  opposite_quiet zero p q x h = absurd h
  opposite_quiet (suc d) p q x h = level_quiet (negation_in (below f d)) (pow_level f (below f d)) not_rows (negation_quiet (below f d) (opposite_quiet d), tt) p q x h

  -- a negation takes all that a comparison in its place would take
  pub ends_quietly : (d : ℕ) → EndsQuietly (negation_in (below f d)) (pow_level f (below f d)) all_rows
  ends_quietly d = (negation_quiet (below f d) (opposite_quiet d), tt)
