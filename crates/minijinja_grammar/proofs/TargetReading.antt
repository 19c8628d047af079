-- What the relations of targets say is what the forms derive.
use Rattle.std.proofs.Common.{◌≡◌, inl, inr, ℕ, zero, suc, Bool, true, false, List, [], ◌∷◌, ◌++◌, Option, Some, None, refl, sym, ap, subst, append_assoc}
use Rattle.std.specs.Prelude.{◌||◌, if◌then◌else◌, codes}
use Rattle.std.specs.Str.{bytes_eq}
use Rattle.minijinja_syntax.specs.Texts.{Text}
use Rattle.minijinja_syntax.specs.declared.tokens.Span.{Span}
use Rattle.minijinja_syntax.specs.Streams.{SpannedTok, Ending}
use Rattle.minijinja_syntax.specs.Tokens.{Tok, ident, dot, comma, paren_open, paren_close}
use Rattle.minijinja_tree.specs.Tree as bare
use Rattle.minijinja_tree.specs.SpannedTrees as tree
use Rattle.minijinja_tree.specs.SpannedTrees.{Expr, bare_expr, bare_exprs, exprs_of}
use Rattle.minijinja_grammar.specs.Words.{is, is_reserved, in_word}
use Rattle.minijinja_grammar.specs.Places.{Place}
use Rattle.minijinja_grammar.specs.internal.Forms.{Form, start_at, Takes, Turns, no_turn, last_turn, turn, Derives}
use Rattle.minijinja_grammar.specs.Ahead.{comes, held_next}
use Rattle.minijinja_grammar.specs.internal.ExprForms as g
use Rattle.minijinja_syntax.specs.Positions.{expanded}
use Rattle.minijinja_grammar.specs.internal.TargetForms as t
use Rattle.minijinja_grammar.specs.Targets.{AreAttributes, no_attribute, also_attribute, IsTarget, in_parentheses, undotted, dotted_target, AreTargets, no_targets, one_target, list_of_targets, AreMoreTargets, no_more_targets, last_target, more_targets}
use Rattle.minijinja_grammar.specs.SpannedTargets.{spanned_attributes, spanned_target, spanned_targets, spanned_more_targets}
use Rattle.minijinja_grammar.proofs.TokenReading.{append_nil}

unless_either : {A : Type 0} (p q : Bool) (y : Option A) → p ≡ false → q ≡ false → (if p || q then None else y) ≡ y
unless_either false false y i j = refl
unless_either true q y i j = cc
unless_either false true y i j = cc

no_mark : (m : Tok) (ts : List SpannedTok) → comes (is m) ts ≡ false → held_next (g.span_of_mark m) ts ≡ None
no_mark m [] e = refl
no_mark m (u ∷ ts) e = rw e refl

word_held : (x : Text) (s : Span) → is in_word (ident x) ≡ false → is_reserved x ≡ false → t.target_word (ident x, s) ≡ Some (x, s)
word_held x s e h = unless_either (bytes_eq x (codes "in")) (is_reserved x) (Some (x, s)) e h

module _ (src : Text) (en : Ending) (ns : List Text) where
  abbrev pub at : List SpannedTok → Span → Place
  at ts l = record { source = src; tokens = ts; ending = en; last = l; names = ns }

  taken : {A : Type 0} (held : SpannedTok → Option A) (u : SpannedTok) (us : List SpannedTok) (k : Span) (x : A) → held u ≡ Some x → Takes held (at (u ∷ us) k) (at us u.1) x
  taken held u us k x e = record { token = u; rest = us; next = refl; holds = e; behind = refl }

  module _ {C : Type 0} where
    -- wherever the token before stands, the form derives a tree that is e without spans, and that is
    -- this one with them
    abbrev pub Gives : Form (Expr C) → List SpannedTok → List SpannedTok → bare.Expr C → (Span → Expr C × Span) → Type 0
    Gives form ts rest e v = (k : Span) → (x : Expr C) × (r : Span) × Derives form (at ts k) (at rest r) x × (bare_expr x ≡ e) × (v k ≡ (x, r))

    abbrev GivesTarget : Bool → Form (Expr C) → ℕ → Type 0
    GivesTarget dotted form d = (us vs : List SpannedTok) (e : bare.Expr C) (a : IsTarget dotted d us vs e) → Gives form us vs e (λ k. spanned_target a)

    attributes_read : {e w : bare.Expr C} {ts rest : List SpannedTok} → (a : AreAttributes e ts rest w) → (x : Expr C) → bare_expr x ≡ e → (k : Span) →
        (y : Expr C) × (r : Span) × Turns (g.span_of_mark dot) (λ x h. Derives (t.target_part x h)) x (at ts k) (at rest r) y × (bare_expr y ≡ w) × (spanned_attributes x k a ≡ (y, r))
    unfolding t.target_part
    attributes_read (no_attribute {rest = rest} n) x e k = (x, k, no_turn (no_mark dot rest n), e, refl)
    attributes_read (also_attribute {s = s} {r = q} {x = z} {ts = ts} a) x e k =
        let u = attributes_read a (tree.attribute x z q) (ap (λ (v : bare.Expr C). bare.attribute v z) e) q in
        (u.0, u.1, turn (taken (g.span_of_mark dot) (dot, s) ((ident z, q) ∷ ts) k s refl) ((z, q), at ts q, taken g.ident_and_span (ident z, q) ts s (z, q) refl, (refl, refl)) u.2, u.3, u.4)

    module _ (dotted : Bool) (form : Form (Expr C)) where
      abbrev Listed : List (Expr C) → Place → Place → List (Expr C) → Type 0
      Listed = Turns (g.span_of_mark comma) (λ x h. Derives (t.next_target form x h))

      -- after a comma
      more_read : {d : ℕ} {ts rest : List SpannedTok} {es : bare.Exprs C} → (a : AreMoreTargets dotted d ts rest es) → GivesTarget dotted form d →
          (sofar : List (Expr C)) (s k : Span) → (ys : List (Expr C)) × (r : Span) × Listed sofar (at ((comma, s) ∷ ts) k) (at rest r) (sofar ++ ys) × (bare_exprs (exprs_of ys) ≡ es) × (spanned_more_targets s a ≡ (ys, r))
      unfolding t.next_target
      more_read {rest = rest} (no_more_targets n) i sofar s k =
          ([], s, subst (λ zs. Listed sofar (at ((comma, s) ∷ rest) k) (at rest s) zs) (sym (append_nil sofar)) (last_turn (taken (g.span_of_mark comma) (comma, s) rest k s refl) (inl (n, (refl, refl)))), refl, refl)
      more_read {rest = rest} (last_target {ts = ts} n a m) i sofar s k =
          let u = i _ _ _ a s in
          (u.0 ∷ [], u.1, turn (taken (g.span_of_mark comma) (comma, s) ts k s refl) (inr (n, (u.0, at rest u.1, u.2, (refl, refl)))) (no_turn (no_mark comma rest m)), rw u.3 refl, rw u.4 refl)
      more_read {rest = rest} (more_targets {s = q} {ts = ts} {us = us} n a m) i sofar s k =
          let u = i _ _ _ a s in
          let w = more_read m i (sofar ++ u.0 ∷ []) q u.1 in (
            u.0 ∷ w.0,
            w.1,
            turn (taken (g.span_of_mark comma) (comma, s) ts k s refl) (inr (n, (u.0, at ((comma, q) ∷ us) u.1, u.2, (refl, refl))))
                (subst (λ zs. Listed (sofar ++ u.0 ∷ []) (at ((comma, q) ∷ us) u.1) (at rest w.1) zs) (append_assoc sofar (u.0 ∷ []) w.0) w.2),
            rw (u.3, w.3) refl,
            rw (u.4, w.4) refl,
          )

      targets_read : {d : ℕ} {ts rest : List SpannedTok} {e : bare.Expr C} → (a : AreTargets dotted d ts rest e) → GivesTarget dotted form d → Gives (t.targets form) ts rest e (λ k. spanned_targets k a)
      unfolding t.targets
      targets_read {rest = rest} (no_targets n) i k =
          (tree.list tree.no_more (expanded (start_at (at rest k)) k), k, (start_at (at rest k), at rest k, (refl, refl), inl (n, (k, at rest k, (refl, refl), (refl, refl)))), refl, refl)
      targets_read {ts = ts} {rest = rest} (one_target n a m) i k =
          let u = i _ _ _ a k in
          (u.0, u.1, (start_at (at ts k), at ts k, (refl, refl), inr (n, (u.0, at rest u.1, u.2, inr (m, (refl, refl))))), u.3, u.4)
      targets_read {ts = ts} {rest = rest} (list_of_targets {s = s} {us = us} n a m) i k =
          let u = i _ _ _ a k in
          let w = more_read m i (u.0 ∷ []) s u.1 in (
            tree.list (exprs_of (u.0 ∷ w.0)) (expanded (start_at (at ts k)) w.1),
            w.1,
            (start_at (at ts k), at ts k, (refl, refl), inr (n, (u.0, at ((comma, s) ∷ us) u.1, u.2, inl (refl, (u.0 ∷ w.0, at rest w.1, w.2, (w.1, at rest w.1, (refl, refl), (refl, refl))))))),
            rw (u.3, w.3) refl,
            rw (u.4, w.4) refl,
          )

    named_read : (dotted : Bool) (x : Text) (s : Span) (ts rest : List SpannedTok) (e : bare.Expr C) (v : Expr C × Span) (k : Span) → is in_word (ident x) ≡ false → is_reserved x ≡ false →
        ((y : Expr C) × (r : Span) × Derives (t.target_parts dotted (tree.variable x s)) (at ts s) (at rest r) y × (bare_expr y ≡ e) × (v ≡ (y, r))) →
        (y : Expr C) × (r : Span) × Derives (t.named_target dotted) (at ((ident x, s) ∷ ts) k) (at rest r) y × (bare_expr y ≡ e) × (v ≡ (y, r))
    unfolding t.named_target
    named_read dotted x s ts rest e v k n m u = (u.0, u.1, ((x, s), at ts s, taken t.target_word (ident x, s) ts k (x, s) (word_held x s n m), u.2), u.3, u.4)

    undotted_read : (dotted : Bool) (x : Text) (s : Span) (rest : List SpannedTok) → dotted ≡ false →
        (y : Expr C) × (r : Span) × Derives (t.target_parts dotted (tree.variable x s)) (at rest s) (at rest r) y × (bare_expr y ≡ bare.variable x) × (◌≡◌ {A = Expr C × Span} (tree.variable x s, s) (y, r))
    undotted_read false x s rest e = (tree.variable x s, s, (refl, refl), refl, refl)
    undotted_read true x s rest e = cc

    dotted_read : (dotted : Bool) (x : Text) (s : Span) (ts rest : List SpannedTok) (e : bare.Expr C) → dotted ≡ true → (a : AreAttributes (bare.variable x) ts rest e) →
        (y : Expr C) × (r : Span) × Derives (t.target_parts dotted (tree.variable x s)) (at ts s) (at rest r) y × (bare_expr y ≡ e) × (spanned_attributes (tree.variable x s) s a ≡ (y, r))
    unfolding t.attributes
    dotted_read true x s ts rest e i a = attributes_read a (tree.variable x s) refl s
    dotted_read false x s ts rest e i a = cc

    target_read : (dotted : Bool) (d : ℕ) (ts rest : List SpannedTok) (e : bare.Expr C) → (a : IsTarget dotted d ts rest e) → Gives (t.target_in dotted d) ts rest e (λ k. spanned_target a)
    unfolding t.target_in
    target_read dotted zero ts rest e (undotted {x = x} {s = s} n m i) k = named_read dotted x s rest rest (bare.variable x) (tree.variable x s, s) k n m (undotted_read dotted x s rest i)
    target_read dotted zero ts rest e (dotted_target {x = x} {s = s} {ts = us} n m i a) k =
        named_read dotted x s us rest e (spanned_attributes (tree.variable x s) s a) k n m (dotted_read dotted x s us rest e i a)
    target_read dotted (suc d) ts rest e (undotted {x = x} {s = s} n m i) k =
        let u = named_read dotted x s rest rest (bare.variable x) (tree.variable x s, s) k n m (undotted_read dotted x s rest i) in
        (u.0, u.1, inr (refl, u.2), u.3, u.4)
    target_read dotted (suc d) ts rest e (dotted_target {x = x} {s = s} {ts = us} n m i a) k =
        let u = named_read dotted x s us rest e (spanned_attributes (tree.variable x s) s a) k n m (dotted_read dotted x s us rest e i a) in
        (u.0, u.1, inr (refl, u.2), u.3, u.4)
    target_read dotted (suc d) ts rest e (in_parentheses {s = s} {r = r} {ts = us} a) k =
        let u = targets_read dotted (t.target_in dotted d) a (λ ws vs x c. target_read dotted d ws vs x c) s in (
          u.0,
          r,
          inl (
            refl,
            (
              s,
              at us s,
              taken (g.span_of_mark paren_open) (paren_open, s) us k s refl,
              (u.0, at ((paren_close, r) ∷ rest) u.1, u.2, (r, at rest r, taken (g.span_of_mark paren_close) (paren_close, r) rest u.1 r refl, (refl, refl))),
            ),
          ),
          u.3,
          rw u.4 refl,
        )

    -- what the relation of targets gives, the form of that depth derives
    pub any_targets_read : (dotted : Bool) (d : ℕ) (ts rest : List SpannedTok) (e : bare.Expr C) → (a : AreTargets dotted d ts rest e) → Gives (t.any_targets dotted d) ts rest e (λ k. spanned_targets k a)
    unfolding t.any_targets
    any_targets_read dotted d ts rest e a = targets_read dotted (t.target_in dotted d) a (target_read dotted d)
