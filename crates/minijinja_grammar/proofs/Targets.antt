-- Targets of the grammar stand at tokens, and may be assigned to.
use Rattle.std.proofs.Common.{◌≡◌, ℕ, zero, suc, List, [], ◌∷◌, ◌++◌, Bool, true, false, if◌then◌else◌, Some, None, subst}
use Rattle.minijinja_syntax.specs.Texts.{Text}
use Rattle.minijinja_syntax.specs.Tokens.{ident, comma, paren_open, paren_close}
use Rattle.minijinja_syntax.specs.declared.tokens.Span.{Span}
use Rattle.minijinja_syntax.specs.Streams.{SpannedTok}
use Rattle.minijinja_tree.specs.SpannedTrees.{Expr, variable, list, exprs_of, bare_expr, bare_exprs}
use Rattle.minijinja_tree.specs.WellFormed.{IsTarget, AreTargets, IsVariable}
use Rattle.minijinja_grammar.specs.Words.{is_reserved}
use Rattle.minijinja_grammar.specs.internal.Forms.{Form, pure, many, ◌>>=◌, ◌>>◌}
use Rattle.minijinja_grammar.specs.internal.ExprForms as g
use Rattle.minijinja_grammar.specs.internal.ExprForms.{expanded}
use Rattle.minijinja_grammar.specs.internal.TargetForms as form
use Rattle.minijinja_grammar.specs.private.Sound.{IsSound, AreSound}
use Rattle.minijinja_grammar.specs.private.Ensured.{Holds, Kept, Ensured}
use Rattle.minijinja_grammar.proofs.Ensured.{weaker}
use Rattle.minijinja_grammar.proofs.Sound.{alone, behind, ident_span, next, spanned}
use Rattle.minijinja_grammar.proofs.Standing.{is_whole}

-- an identifier that is not refused is a token
pub word_is : (T : SpannedTok → Type 0) (refused : Text → Bool) (t : SpannedTok) (x : Text × Span) → T t → form.word_but refused t ≡ Some x → T (ident x.0, x.1)
word_is T refused (ident y, s) x i e = go (refused y) e
  where
    go : (b : Bool) → (if b then None else Some (y, s)) ≡ Some x → T (ident x.0, x.1)
    go true k = cc
    go false k = subst (λ (z : Text × Span). T (ident z.0, z.1)) (same (y, s) x k) i
      where
        same : (z x : Text × Span) → Some z ≡ Some x → z ≡ x
        same z x k = cc
word_is T refused _ x i e = cc

module _ (C : Type 0) (T : SpannedTok → Type 0) (S : Span → Type 0) (spans : (t : SpannedTok) → T t → S t.1)
    (joins : (s to : Span) → S s → S to → S (expanded s to)) (G : Text → Type 0) where
  pub record IsAssignable (e : Expr C) : Type 0 where
    pub sound : IsSound T S e
    pub target : IsTarget (bare_expr e)

  pub record AreAssignable (es : List (Expr C)) : Type 0 where
    pub sound : AreSound T S (exprs_of es)
    pub targets : AreTargets (bare_exprs (exprs_of es))

  abbrev pub IsOneTarget : Expr C → Type 1
  IsOneTarget e = Holds (IsAssignable e)

  -- a variable
  pub record IsName (e : Expr C) : Type 0 where
    pub sound : IsSound T S e
    pub target : IsTarget (bare_expr e)
    pub variable : IsVariable (bare_expr e)

  pub stored_name : Ensured T S G (form.stored_name {C = C}) (λ e. Holds (IsName e))
  unfolding form.stored_name
  stored_name = λ t x i j. alone (record { sound = word_is T is_reserved t x i j; target = tt; variable = tt })

  part : (e : Expr C) (at : Span) → IsAssignable e → Ensured T S G (form.target_part e at) (λ z. Holds (Kept IsAssignable z))
  unfolding form.target_part
  part e at h = λ t x i j. alone (record { sound = (ident_span T S spans joins G t x i j, h.sound); target = is_whole T S e h.sound })

  attributes : (e : Expr C) → IsAssignable e → Ensured T S G (form.attributes e) IsOneTarget
  unfolding form.attributes
  attributes e h = (IsAssignable, alone h, (λ x t s i j k. part x s i), λ x i. alone i)

  parts : (dotted : Bool) (e : Expr C) → IsAssignable e → Ensured T S G (form.target_parts dotted e) IsOneTarget
  parts false e h = alone h
  parts true e h = attributes e h

  pub named : (dotted : Bool) → Ensured T S G (form.named_target dotted) IsOneTarget
  unfolding form.named_target
  named dotted = λ t x i j. parts dotted (variable x.0 x.1) (record { sound = word_is T _ t x i j; target = tt })

  append : (es : List (Expr C)) (e : Expr C) → AreAssignable es → IsAssignable e → AreAssignable (es ++ e ∷ [])
  append [] e h k = record { sound = (k.sound, tt); targets = (k.target, tt) }
  append (x ∷ es) e h k =
      let i = append es e (record { sound = h.sound.1; targets = h.targets.1 }) k in
      record { sound = (h.sound.0, i.sound); targets = (h.targets.0, i.targets) }

  listed : (from : Span) (es : List (Expr C)) → S from → AreAssignable es → Ensured T S G (g.spanned from (list (exprs_of es))) IsOneTarget
  listed from es i h = spanned T S spans joins G from (list (exprs_of es)) IsOneTarget i (λ s j. alone (record { sound = (j, h.sound); target = h.targets }))

  module _ (target : Form (Expr C)) (ht : Ensured T S G target IsOneTarget) where
    further : (es : List (Expr C)) (at : Span) → AreAssignable es → Ensured T S G (form.next_target target es at) (λ z. Holds (Kept AreAssignable z))
    unfolding form.next_target
    further es at h = (alone h, weaker T S G target IsOneTarget _ (λ e i. alone (append es e h i.it)) ht)

    commas : (from : Span) (e : Expr C) → S from → IsAssignable e →
        Ensured T S G (many (g.span_of_mark comma) (form.next_target target) (e ∷ []) >>= (λ es. g.spanned from (list (exprs_of es)))) IsOneTarget
    commas from e i h = (
      AreAssignable,
      alone (record { sound = (h.sound, tt); targets = (h.target, tt) }),
      (λ es t s j k l. further es s j),
      λ es j. listed from es i j,
    )

    pub all_targets : Ensured T S G (form.targets target) IsOneTarget
    unfolding form.targets
    all_targets = λ from i. (
      listed from [] i (record { sound = tt; targets = tt }),
      weaker T S G target IsOneTarget _ (λ e h. (commas from e i h.it, alone h.it)) ht,
    )

  target_in : (dotted : Bool) (d : ℕ) → Ensured T S G (form.target_in dotted d) IsOneTarget
  unfolding form.target_in
  target_in dotted zero = named dotted
  target_in dotted (suc d) = behind T S spans joins G paren_open
      (form.targets (form.target_in dotted d) >>= (λ t. g.next paren_close >> pure t))
      (form.named_target {C = C} dotted)
      IsOneTarget
      (weaker T S G (form.targets (form.target_in dotted d)) IsOneTarget _ (λ e h. next T S spans joins G paren_close _ (λ s i. h))
      (all_targets (form.target_in dotted d) (target_in dotted d)))
      (named dotted)

  pub any_targets : (dotted : Bool) (d : ℕ) → Ensured T S G (form.any_targets dotted d) IsOneTarget
  unfolding form.any_targets
  any_targets dotted d = all_targets (form.target_in dotted d) (target_in dotted d)
