-- What the forms of targets derive is what the relations say.
use Rattle.std.proofs.Common.{◌≡◌, inl, inr, ℕ, zero, suc, Bool, true, false, List, [], ◌∷◌, ◌++◌, Some, None, refl, sym, ap, ◌∙◌, subst, append_assoc}
use Rattle.std.specs.Prelude.{◌||◌, if◌then◌else◌, codes}
use Rattle.std.specs.Str.{bytes_eq}
use Rattle.minijinja_syntax.specs.Texts.{Text}
use Rattle.minijinja_syntax.specs.declared.tokens.Span.{Span}
use Rattle.minijinja_syntax.specs.Streams.{SpannedTok}
use Rattle.minijinja_syntax.specs.Tokens.{ident, dot, comma, paren_open, paren_close}
use Rattle.minijinja_tree.specs.Tree as bare
use Rattle.minijinja_tree.specs.SpannedTrees as tree
use Rattle.minijinja_tree.specs.SpannedTrees.{Expr, bare_expr, bare_exprs, exprs_of}
use Rattle.minijinja_grammar.specs.Words.{is, is_reserved}
use Rattle.minijinja_grammar.specs.Places.{Place}
use Rattle.minijinja_grammar.specs.internal.Forms.{Form, Takes, Turns, no_turn, last_turn, turn, Derives}
use Rattle.minijinja_grammar.specs.Ahead.{comes}
use Rattle.minijinja_grammar.specs.internal.ExprForms as g
use Rattle.minijinja_grammar.specs.internal.TargetForms as t
use Rattle.minijinja_grammar.specs.Targets.{ends_targets, AreAttributes, no_attribute, also_attribute, IsTarget, in_parentheses, undotted, dotted_target, AreTargets, no_targets, one_target, list_of_targets, AreMoreTargets, no_more_targets, last_target, more_targets}
use Rattle.minijinja_grammar.proofs.TokenReading.{append_nil}
use Rattle.minijinja_grammar.proofs.Back.{mark_was, turned}
use Rattle.minijinja_grammar.proofs.BackParts.{none_of_mark}

pub same_word : (y z : Text × Span) → Some y ≡ Some z → y ≡ z
same_word y z e = cc

-- an identifier that was taken
pub ident_was : (p q : Place) (x : Text × Span) → Takes g.ident_and_span p q x → p.tokens ≡ (ident x.0, x.1) ∷ q.tokens
ident_was p q x d = go d.token refl d.holds
  where
    go : (u : SpannedTok) → d.token ≡ u → g.ident_and_span u ≡ Some x → p.tokens ≡ (ident x.0, x.1) ∷ q.tokens
    go (ident y, s) i e = let j : (y, s) ≡ x = same_word (y, s) x e in d.next ∙ rw (i, d.behind, sym j) refl
    go (_, s) i e = cc

-- likewise one that is not refused
pub word_was : (refused : Text → Bool) (p q : Place) (x : Text × Span) → Takes (t.word_but refused) p q x → (p.tokens ≡ (ident x.0, x.1) ∷ q.tokens) × (refused x.0 ≡ false)
word_was refused p q x d = go d.token refl d.holds
  where
    pick : (y : Text) (s : Span) → d.token ≡ (ident y, s) → (b : Bool) → refused y ≡ b → (if b then None else Some (y, s)) ≡ Some x → (p.tokens ≡ (ident x.0, x.1) ∷ q.tokens) × (refused x.0 ≡ false)
    pick y s i true j e = cc
    pick y s i false j e =
        let k : (y, s) ≡ x = same_word (y, s) x e in
        (d.next ∙ rw (i, d.behind, sym k) refl, subst (λ (z : Text × Span). refused z.0 ≡ false) k j)

    go : (u : SpannedTok) → d.token ≡ u → t.word_but refused u ≡ Some x → (p.tokens ≡ (ident x.0, x.1) ∷ q.tokens) × (refused x.0 ≡ false)
    go (ident y, s) i e = pick y s i (refused y) refl e
    go (_, s) i e = cc

first_no : (a b : Bool) → (a || b) ≡ false → a ≡ false
first_no false b e = refl
first_no true b e = cc

second_no : (a b : Bool) → (a || b) ≡ false → b ≡ false
second_no false b e = e
second_no true b e = cc

module _ {C : Type 0} where
  -- all that the form derives is such
  abbrev pub Here : (List SpannedTok → List SpannedTok → bare.Expr C → Type 0) → Form (Expr C) → Type 0
  Here X form = (p q : Place) (x : Expr C) → Derives form p q x → X p.tokens q.tokens (bare_expr x)

  attributes_back : (e : Expr C) (p q : Place) (y : Expr C) → Turns (g.span_of_mark dot) (λ x h. Derives (t.target_part x h)) e p q y → AreAttributes (bare_expr e) p.tokens q.tokens (bare_expr y)
  unfolding t.target_part
  attributes_back e p q y (no_turn n) = no_attribute (none_of_mark dot p.tokens n)
  attributes_back e p q y (last_turn v (x, q₂, w, (k, m))) = cc
  attributes_back e p q y (turn {y = z} {h = s} {q = q₁} {r = r} v (x, q₂, w, (k, m)) more) =
      let same : tree.attribute e x.0 x.1 ≡ z = ap turned m in
      rw (mark_was dot p q₁ s v, ident_was q₁ q₂ x w) (also_attribute (subst (λ (c : Expr C). AreAttributes (bare_expr c) q₂.tokens q.tokens (bare_expr y)) (sym same)
      (subst (λ (c : Place). AreAttributes (bare_expr z) c.tokens q.tokens (bare_expr y)) (sym k) (attributes_back z r q y more))))

  -- what follows a target: no comma, or a comma and what may stand after it
  data Tail (dotted : Bool) (d : ℕ) : List SpannedTok → List SpannedTok → bare.Exprs C → Type 0 where
    no_tail : {rest : List SpannedTok} → comes (is comma) rest ≡ false → Tail dotted d rest rest bare.no_more
    tail : {s : Span} {ts rest : List SpannedTok} {es : bare.Exprs C} → AreMoreTargets dotted d ts rest es → Tail dotted d ((comma, s) ∷ ts) rest es

  module _ (dotted : Bool) (d : ℕ) where
    with_tail : {ts us rest : List SpannedTok} {e : bare.Expr C} {es : bare.Exprs C} → comes ends_targets ts ≡ false → IsTarget dotted d ts us e → Tail dotted d us rest es → AreMoreTargets dotted d ts rest (bare.more e es)
    with_tail n a (no_tail m) = last_target n a m
    with_tail n a (tail b) = more_targets n a b

    list_with : {ts us rest : List SpannedTok} {e : bare.Expr C} {es : bare.Exprs C} → comes ends_targets ts ≡ false → IsTarget dotted d ts us e → comes (is comma) us ≡ true → Tail dotted d us rest es →
        AreTargets dotted d ts rest (bare.list (bare.more e es))
    list_with n a o (no_tail m) = let lie : true ≡ false = sym o ∙ m in cc
    list_with n a o (tail b) = list_of_targets n a b

    module _ (form : Form (Expr C)) (i : Here (IsTarget dotted d) form) where
      tail_back : (sofar : List (Expr C)) (p q : Place) (y : List (Expr C)) → Turns (g.span_of_mark comma) (λ x h. Derives (t.next_target form x h)) sofar p q y →
          (ys : List (Expr C)) × (y ≡ sofar ++ ys) × Tail dotted d p.tokens q.tokens (bare_exprs (exprs_of ys))
      unfolding t.next_target
      tail_back sofar p q y (no_turn n) = ([], sym (append_nil sofar), no_tail (none_of_mark comma p.tokens n))
      tail_back sofar p q y (last_turn {h = s} {q = q₁} v (inl (n, (k, m)))) =
          ([], ap turned (sym m) ∙ sym (append_nil sofar), rw (mark_was comma p q₁ s v, sym k) (tail (no_more_targets n)))
      tail_back sofar p q y (last_turn v (inr (n, (x, q₂, u, (k, m))))) = cc
      tail_back sofar p q y (turn v (inl (n, (k, m))) more) = cc
      tail_back sofar p q y (turn {y = z} {h = s} {q = q₁} {r = r} v (inr (n, (x, q₂, u, (k, m)))) more) =
          let w = tail_back z r q y more in
          let same : sofar ++ x ∷ [] ≡ z = ap turned m in (
            x ∷ w.0,
            w.1 ∙ ap (λ (zs : List (Expr C)). zs ++ w.0) (sym same) ∙ append_assoc sofar (x ∷ []) w.0,
            rw (mark_was comma p q₁ s v) (tail (with_tail n (i q₁ q₂ x u) (subst (λ (c : Place). Tail dotted d c.tokens q.tokens (bare_exprs (exprs_of w.0))) (sym k) w.2))),
          )

      targets_back : Here (AreTargets dotted d) (t.targets form)
      unfolding t.targets
      targets_back p q x (from, q₀, (a, _), inl (n, (to, q₁, (j, _), (k, m)))) = rw (a, sym k, sym j, sym m) (no_targets n)
      targets_back p q x (from, q₀, (a, _), inr (n, (y, q₁, u, inr (o, (k, m))))) = rw (a, sym k, sym m) (one_target n (i q₀ q₁ y u) o)
      targets_back p q x (from, q₀, (a, _), inr (n, (y, q₁, u, inl (o, (ts, q₂, w, (to, q₃, (j, _), (k, m))))))) =
          let v = tail_back (y ∷ []) q₁ q₂ ts w in
          let all : bare_exprs (exprs_of ts) ≡ bare.more (bare_expr y) (bare_exprs (exprs_of v.0)) = ap (λ (zs : List (Expr C)). bare_exprs (exprs_of zs)) v.1 in
          rw (a, sym k, sym j, sym m, all) (list_with n (i q₀ q₁ y u) o v.2)

  -- an identifier that may be assigned to, and where dots may follow, those
  named_back : (dotted : Bool) (d : ℕ) → Here (IsTarget dotted d) (t.named_target dotted)
  unfolding t.named_target t.attributes
  named_back false d p q x (y, q₁, w, (k, m)) =
      let v = word_was (λ x. bytes_eq x (codes "in") || is_reserved x) p q₁ y w in
      rw (v.0, sym k, sym m) (undotted (first_no (bytes_eq y.0 (codes "in")) (is_reserved y.0) v.1) (second_no (bytes_eq y.0 (codes "in")) (is_reserved y.0) v.1) refl)
  named_back true d p q x (y, q₁, w, m) =
      let v = word_was (λ x. bytes_eq x (codes "in") || is_reserved x) p q₁ y w in
      rw v.0 (dotted_target (first_no (bytes_eq y.0 (codes "in")) (is_reserved y.0) v.1) (second_no (bytes_eq y.0 (codes "in")) (is_reserved y.0) v.1) refl (attributes_back (tree.variable y.0 y.1) q₁ q x m))

  target_back : (dotted : Bool) (d : ℕ) → Here (IsTarget dotted d) (t.target_in dotted d)
  unfolding t.target_in
  target_back dotted zero p q x w = named_back dotted zero p q x w
  target_back dotted (suc d) p q x (inr (n, w)) = named_back dotted (suc d) p q x w
  target_back dotted (suc d) p q x (inl (n, (s, q₁, v, (y, q₂, u, (r, q₃, w, (k, m)))))) =
      rw (mark_was paren_open p q₁ s v, sym k, sym m) (in_parentheses (subst (λ us. AreTargets dotted d q₁.tokens us (bare_expr y)) (mark_was paren_close q₂ q₃ r w)
      (targets_back dotted d (t.target_in dotted d) (target_back dotted d) q₁ q₂ y u)))

  -- what the form of targets derives is targets of that depth, with that tree but for spans
  pub any_targets_back : (dotted : Bool) (d : ℕ) → Here (AreTargets dotted d) (t.any_targets dotted d)
  unfolding t.any_targets
  any_targets_back dotted d p q x w = targets_back dotted d (t.target_in dotted d) (target_back dotted d) p q x w
