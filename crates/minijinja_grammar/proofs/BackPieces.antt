-- What the forms of the parts of statements derive is what the relations say: those parts in which
-- no statement stands.
use Rattle.std.proofs.Common.{◌≡◌, ◌⊎◌, inl, inr, ℕ, zero, suc, Bool, true, false, List, [], ◌∷◌, ◌++◌, Some, None, refl, sym, ap, ◌∙◌, subst, append_assoc}
use Rattle.std.specs.Prelude.{◌||◌, if◌then◌else◌, codes, nat_eq}
use Rattle.std.specs.List.{starts_with}
use Rattle.minijinja_syntax.specs.Texts.{Text}
use Rattle.minijinja_value.specs.Values.{Functions}
use Rattle.minijinja_syntax.specs.declared.tokens.Span.{Span}
use Rattle.minijinja_syntax.specs.Streams.{SpannedTok}
use Rattle.minijinja_syntax.specs.Tokens.{Tok, ident, template_data, block_start, comma, paren_open, paren_close}
use Rattle.minijinja_tree.specs.Tree as bare
use Rattle.minijinja_tree.specs.SpannedTrees as tree
use Rattle.minijinja_tree.specs.SpannedTrees.{Expr, Optional, bare_expr, bare_optional, bare_names, Stmt, bare_stmts, stmts_of}
use Rattle.minijinja_grammar.specs.Words.{is, is_reserved, as_word, ignore_word, missing_word, with_word, without_word, context_word, scoped_word}
use Rattle.minijinja_grammar.specs.Places.{Place}
use Rattle.minijinja_grammar.specs.internal.Forms.{go_on, over, pure, Takes, Turns, no_turn, last_turn, turn, Derives, ◌>>◌}
use Rattle.minijinja_grammar.specs.Ahead.{comes, held_next}
use Rattle.minijinja_grammar.specs.internal.ExprForms as g
use Rattle.minijinja_grammar.specs.internal.TargetForms as t
use Rattle.minijinja_grammar.specs.Statements.{IsWordIfAny, no_word, one_word, begins_context, IsContextIfAny, no_context, with_context, without_context, IsIgnoreIfAny, no_ignore, ignore_after_context, ignore, IsEndName, no_end_name, same_name, ends_names, IsImport, import_name, import_alias, AreImports, no_imports, last_import, imports, is_blank, IsBlank, blank_end, blank_data}
use Rattle.minijinja_grammar.specs.Targets.{AreTargets, IsBound, bound_targets, bound_name}
use Rattle.minijinja_grammar.specs.internal.StmtForms as form
use Rattle.minijinja_grammar.proofs.TokenReading.{append_nil}
use Rattle.minijinja_grammar.proofs.Back.{same_tok, kind_was, mark_was, turned}
use Rattle.minijinja_grammar.proofs.BackParts.{none_of_mark, kind_is}
use Rattle.minijinja_grammar.proofs.BackWhole.{when_is}
use Rattle.minijinja_grammar.proofs.BackTargets.{same_word, word_was, Here, any_targets_back}

-- ---- options without a tree

pub flag_back : (m : Tok) (p q : Place) (x : Bool) → Derives (g.behind m (pure true) (pure false)) p q x → IsWordIfAny m p.tokens q.tokens x
flag_back m p q x (inr (n, (k, i))) = rw (sym k, sym i) (no_word n)
flag_back m p q x (inl (n, (s, q₁, w, (k, i)))) = rw (mark_was m p q₁ s w, sym k, sym i) one_word

pub scoped_back : (p q : Place) (x : Unit {0}) → Derives form.scoped_if_any p q x → (b : Bool) × IsWordIfAny scoped_word p.tokens q.tokens b
scoped_back p q x (inr (n, (k, i))) = (false, rw (sym k) (no_word n))
scoped_back p q x (inl (n, (s, q₁, w, (k, i)))) = (true, rw (mark_was scoped_word p q₁ s w, sym k) one_word)

either_is : (a b : Bool) → (a || b) ≡ true → (a ≡ true) ⊎ (b ≡ true)
either_is true b e = inl refl
either_is false b e = inr e

pub context_back : (p q : Place) (x : Bool) → Derives form.context_if_any p q x → IsContextIfAny p.tokens q.tokens x
unfolding form.context_if_any
context_back p q x (inr (n, (k, i))) = rw (sym k, sym i) (no_context n)
context_back p q x (inl (n, (s, q₂, (u, q₁, v, w), (k, i)))) = rw (kind_was begins_context p q₁ u v, mark_was context_word q₁ q₂ s w, sym k, sym i) (go (either_is (is with_word u.0) (is without_word u.0) (kind_is begins_context p q₁ u v)))
  where
    go : (is with_word u.0 ≡ true) ⊎ (is without_word u.0 ≡ true) → IsContextIfAny (u ∷ (context_word, s) ∷ q₂.tokens) q₂.tokens true
    go (inl e) = let j : u ≡ (with_word, u.1) = rw (sym (same_tok with_word u.0 e)) refl in rw j with_context
    go (inr e) = let j : u ≡ (without_word, u.1) = rw (sym (same_tok without_word u.0 e)) refl in rw j without_context

pub ignore_back : (had : Bool) (p q : Place) (x : Bool) → Derives (g.behind ignore_word (g.next missing_word >> form.context_unless had >> pure true) (pure false)) p q x → IsIgnoreIfAny had p.tokens q.tokens x
ignore_back had p q x (inr (n, (k, i))) = rw (sym k, sym i) (no_ignore n)
ignore_back true p q x (inl (n, (s, q₁, v, (y, q₃, (r, q₂, w, (j, _)), (k, i))))) = rw (mark_was ignore_word p q₁ s v, mark_was missing_word q₁ q₂ r w, sym k, sym j, sym i) ignore_after_context
ignore_back false p q x (inl (n, (s, q₁, v, (y, q₃, (r, q₂, w, c), (k, i))))) = rw (mark_was ignore_word p q₁ s v, mark_was missing_word q₁ q₂ r w, sym k, sym i) (ignore (context_back q₂ q₃ y c))

pub end_name_back : (x : Text) (p q : Place) (y : Unit {0}) → Derives (form.end_name x) p q y → IsEndName x p.tokens q.tokens
unfolding form.end_name
end_name_back x p q y (inr (n, (k, i))) = rw (sym k) (no_end_name n)
end_name_back x p q y (inl (n, (s, q₁, w, (k, i)))) = rw (mark_was (ident x) p q₁ s w, sym k) same_name

-- ---- names and targets

-- a name that was stored to
pub stored_was : {C : Type 0} (p q : Place) (x : Expr C) → Derives t.stored_name p q x → (y : Text × Span) × (p.tokens ≡ (ident y.0, y.1) ∷ q.tokens) × (is_reserved y.0 ≡ false) × (tree.variable y.0 y.1 ≡ x)
unfolding t.stored_name
stored_was p q x (y, q₁, w, (k, m)) = let v = word_was is_reserved p q₁ y w in (y, v.0 ∙ ap (λ (z : Place). (ident y.0, y.1) ∷ z.tokens) k, v.1, m)

module _ {C : Type 0} where
  bound_name_back : (d : ℕ) → Here (IsBound {C = C} d) t.stored_name
  bound_name_back d p q x w = go (stored_was p q x w)
    where
      go : ((y : Text × Span) × (p.tokens ≡ (ident y.0, y.1) ∷ q.tokens) × (is_reserved y.0 ≡ false) × (tree.variable y.0 y.1 ≡ x)) → IsBound d p.tokens q.tokens (bare_expr x)
      go (y, i, j, k) = rw (i, sym k) (bound_name j)

  pub bound_back : (d : ℕ) → Here (IsBound {C = C} d) (form.bound_target d)
  unfolding form.bound_target
  bound_back zero p q x w = bound_name_back zero p q x w
  bound_back (suc d) p q x (inr (n, w)) = bound_name_back (suc d) p q x w
  bound_back (suc d) p q x (inl (n, (s, q₁, v, (y, q₂, u, (r, q₃, w, (k, m)))))) =
      rw (mark_was paren_open p q₁ s v, sym k, sym m) (bound_targets (subst (λ us. AreTargets false d q₁.tokens us (bare_expr y)) (mark_was paren_close q₂ q₃ r w) (any_targets_back false d q₁ q₂ y u)))

-- a name that may be taken from a template
public_was : (p q : Place) (x : Text × Span) → Takes form.public_word p q x → (p.tokens ≡ (ident x.0, x.1) ∷ q.tokens) × (starts_with nat_eq x.0 (codes "_") ≡ false) × (is_reserved x.0 ≡ false)
public_was p q x d = go d.token refl d.holds
  where
    pick : (y : Text) (s : Span) → d.token ≡ (ident y, s) → (a b : Bool) → starts_with nat_eq y (codes "_") ≡ a → is_reserved y ≡ b → (if a then None else if b then None else Some (y, s)) ≡ Some x →
        (p.tokens ≡ (ident x.0, x.1) ∷ q.tokens) × (starts_with nat_eq x.0 (codes "_") ≡ false) × (is_reserved x.0 ≡ false)
    pick y s i true b j l e = cc
    pick y s i false true j l e = cc
    pick y s i false false j l e =
        let k : (y, s) ≡ x = same_word (y, s) x e in
        (d.next ∙ rw (i, d.behind, sym k) refl, subst (λ (z : Text × Span). starts_with nat_eq z.0 (codes "_") ≡ false) k j, subst (λ (z : Text × Span). is_reserved z.0 ≡ false) k l)

    go : (u : SpannedTok) → d.token ≡ u → form.public_word u ≡ Some x → (p.tokens ≡ (ident x.0, x.1) ∷ q.tokens) × (starts_with nat_eq x.0 (codes "_") ≡ false) × (is_reserved x.0 ≡ false)
    go (ident y, s) i e = pick y s i (starts_with nat_eq y (codes "_")) (is_reserved y) refl refl e
    go (_, s) i e = cc

module _ {C : Type 0} where
  imported_back : (p q : Place) (x : Expr C × Optional C) → Derives form.imported p q x → IsImport p.tokens q.tokens (bare_expr x.0) (bare_optional x.1)
  unfolding form.imported
  imported_back p q x (y, q₁, w, (alias, q₂, inr (n, (j, i)), (k, m))) =
      let v = public_was p q₁ y w in
      rw (v.0, sym k, sym j, sym m, sym i) (import_name v.1 v.2 n)
  imported_back p q x (y, q₁, w, (alias, q₂, inl (n, (s, q₃, c, (z, q₄, u, (j, i)))), (k, m))) = go (stored_was q₃ q₄ z u)
    where
      go : ((o : Text × Span) × (q₃.tokens ≡ (ident o.0, o.1) ∷ q₄.tokens) × (is_reserved o.0 ≡ false) × (tree.variable o.0 o.1 ≡ z)) → IsImport p.tokens q.tokens (bare_expr x.0) (bare_optional x.1)
      go (o, a, b, e) =
          let v = public_was p q₁ y w in
          rw (v.0, mark_was as_word q₁ q₃ s c, a, sym k, sym j, sym m, sym i, sym e) (import_alias v.1 v.2 b)

  -- what follows a name: no comma, or a comma and what may stand after it
  data NameTail : List SpannedTok → List SpannedTok → List (bare.Expr C × bare.Optional C) → Type 0 where
    no_tail : {rest : List SpannedTok} → comes (is comma) rest ≡ false → NameTail rest rest []
    tail : {s : Span} {ts rest : List SpannedTok} {ns : List (bare.Expr C × bare.Optional C)} → AreImports ts rest ns → NameTail ((comma, s) ∷ ts) rest ns

  with_name : {ts us rest : List SpannedTok} {e : bare.Expr C} {a : bare.Optional C} {ns : List (bare.Expr C × bare.Optional C)} → comes ends_names ts ≡ false → IsImport ts us e a → NameTail us rest ns → AreImports ts rest ((e, a) ∷ ns)
  with_name n i (no_tail m) = last_import n i m
  with_name n i (tail b) = imports n i b

  names_back : (sofar : List (Expr C × Optional C)) (p q : Place) (y : List (Expr C × Optional C)) → Turns (g.span_of_mark comma) (λ x h. Derives (form.next_imported x h)) sofar p q y →
      (ys : List (Expr C × Optional C)) × (y ≡ sofar ++ ys) × NameTail p.tokens q.tokens (bare_names ys)
  unfolding form.next_imported
  names_back sofar p q y (no_turn n) = ([], sym (append_nil sofar), no_tail (none_of_mark comma p.tokens n))
  names_back sofar p q y (last_turn {h = s} {q = q₁} v (inl (n, (k, m)))) = ([], ap turned (sym m) ∙ sym (append_nil sofar), rw (mark_was comma p q₁ s v, sym k) (tail (no_imports n)))
  names_back sofar p q y (last_turn v (inr (n, (x, q₂, u, (k, m))))) = cc
  names_back sofar p q y (turn v (inl (n, (k, m))) more) = cc
  names_back sofar p q y (turn {y = z} {h = s} {q = q₁} {r = r} v (inr (n, (x, q₂, u, (k, m)))) more) =
      let w = names_back z r q y more in
      let same : sofar ++ x ∷ [] ≡ z = ap turned m in (
        x ∷ w.0,
        w.1 ∙ ap (λ (zs : List (Expr C × Optional C)). zs ++ w.0) (sym same) ∙ append_assoc sofar (x ∷ []) w.0,
        rw (mark_was comma p q₁ s v) (tail (with_name n (imported_back q₁ q₂ x u) (subst (λ (c : Place). NameTail c.tokens q.tokens (bare_names w.0)) (sym k) w.2))),
      )

  pub imports_back : (p q : Place) (x : List (Expr C × Optional C)) → Derives form.imports p q x → AreImports p.tokens q.tokens (bare_names x)
  unfolding form.imports
  imports_back p q x (inl (n, (k, m))) = rw (sym k, sym m) (no_imports n)
  imports_back p q x (inr (n, (y, q₁, u, m))) =
      let v = names_back (y ∷ []) q₁ q x m in
      let all : bare_names x ≡ (bare_expr y.0, bare_optional y.1) ∷ bare_names v.0 = ap bare_names v.1 in
      rw all (with_name n (imported_back p q₁ y u) v.2)

-- ---- bodies of whitespace

pub nothing_left : (us : List SpannedTok) → held_next form.any_token us ≡ None → us ≡ []
nothing_left [] e = refl
nothing_left (u ∷ us) e = cc

pub token_was : (p q : Place) (u : SpannedTok) → Takes form.any_token p q u → p.tokens ≡ u ∷ q.tokens
token_was p q u d = let i : d.token ≡ u = some_is d.token u d.holds in d.next ∙ rw (i, d.behind) refl
  where
    some_is : (x y : SpannedTok) → Some x ≡ Some y → x ≡ y
    some_is x y e = cc

module _ {C F : Type 0} (f : Functions C F) (src : Text) where
  -- such a body, unless the tokens end before it does
  blank_turns_back : (sofar : List (Stmt C)) (p q : Place) (y : List (Stmt C)) → Turns form.any_token (λ ss u. Derives (form.blank_part ss u)) sofar p q y →
      (ys : List (Stmt C)) × (y ≡ sofar ++ ys) × (IsBlank f src p.tokens q.tokens (bare_stmts (stmts_of ys)) ⊎ (q.tokens ≡ []))
  blank_turns_back sofar p q y (no_turn n) = ([], sym (append_nil sofar), inr (nothing_left p.tokens n))
  blank_turns_back sofar p q y (last_turn {h = (block_start, s)} {q = q₁} v (k, m)) =
      ([], ap turned (sym m) ∙ sym (append_nil sofar), inl (rw (token_was p q₁ (block_start, s) v, sym k) blank_end))
  blank_turns_back sofar p q y (last_turn {h = (template_data z, s)} {q = q₁} v d) = let w = when_is (is_blank z) (pure (go_on (sofar ++ tree.data_text z s ∷ []))) q₁ q (over y) d in cc
  blank_turns_back sofar p q y (last_turn {h = (_, s)} v d) = absurd d
  blank_turns_back sofar p q y (turn {h = (block_start, s)} v (k, m) more) = cc
  blank_turns_back sofar p q y (turn {y = w} {h = (template_data z, s)} {q = q₁} {r = r} v d more) =
      let a = when_is (is_blank z) (pure (go_on (sofar ++ tree.data_text z s ∷ []))) q₁ r (go_on w) d in
      let o = blank_turns_back w r q y more in
      let same : sofar ++ tree.data_text z s ∷ [] ≡ w = ap turned a.1.1 in
      (tree.data_text z s ∷ o.0, o.1 ∙ ap (λ (zs : List (Stmt C)). zs ++ o.0) (sym same) ∙ append_assoc sofar (tree.data_text z s ∷ []) o.0, go a.0 a.1.0 (bare_stmts (stmts_of o.0)) o.2)
    where
      go : is_blank z ≡ true → q₁ ≡ r → (zs : bare.Stmts C (Unit {0})) → (IsBlank f src r.tokens q.tokens zs ⊎ (q.tokens ≡ [])) → (IsBlank f src p.tokens q.tokens (bare.also (bare.data_text z) zs) ⊎ (q.tokens ≡ []))
      go i j zs (inr e) = inr e
      go i j zs (inl b) = inl (rw (token_was p q₁ (template_data z, s) v, j) (blank_data i b))
  blank_turns_back sofar p q y (turn {h = (_, s)} v d more) = absurd d

  pub blank_back : (p q : Place) (y : List (Stmt C)) → Derives form.blank_body p q y → (IsBlank f src p.tokens q.tokens (bare_stmts (stmts_of y)) ⊎ (q.tokens ≡ []))
  unfolding form.blank_body
  blank_back p q y d =
      let v = blank_turns_back [] p q y d in
      subst (λ (zs : List (Stmt C)). IsBlank f src p.tokens q.tokens (bare_stmts (stmts_of zs)) ⊎ (q.tokens ≡ [])) (sym v.1) v.2
