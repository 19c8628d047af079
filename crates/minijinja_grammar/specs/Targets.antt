-- The grammar of what may be assigned to, a relation for each rule: `IsX d ts rest t` says that the
-- tokens ts, as far as rest, are an X of depth at most d, and that t is its tree. The token that
-- follows is the first of rest. With `dotted`, attributes are targets too: in `set` alone.
use Rattle.std.specs.Prelude.{◌≡◌, ℕ, suc, Bool, true, false, ◌||◌, List, ◌∷◌}
use Rattle.minijinja_syntax.specs.Texts.{Text}
use Rattle.minijinja_syntax.specs.declared.tokens.Span.{Span}
use Rattle.minijinja_syntax.specs.Streams.{SpannedTok}
use Rattle.minijinja_syntax.specs.Tokens.{Tok, ident, block_end, dot, comma, paren_open, paren_close}
use Rattle.minijinja_tree.specs.Tree.{Expr, variable, attribute, list, Exprs, no_more, more}
use Rattle.minijinja_grammar.specs.Words.{is, is_reserved, in_word}
use Rattle.minijinja_grammar.specs.Ahead.{comes}

-- what ends targets: `)`, `%}` or `in`
abbrev pub ends_targets : Tok → Bool
ends_targets t = is paren_close t || is block_end t || is in_word t

module _ {C : Type 0} where
  -- { . Ident }, after a target
  pub data AreAttributes : Expr C → List SpannedTok → List SpannedTok → Expr C → Type 0 where
    no_attribute : {e : Expr C} {rest : List SpannedTok} → comes (is dot) rest ≡ false → AreAttributes e rest rest e
    also_attribute : {e : Expr C} {s r : Span} {x : Text} {ts rest : List SpannedTok} {t : Expr C} → AreAttributes (attribute e x) ts rest t → AreAttributes e ((dot, s) ∷ (ident x, r) ∷ ts) rest t

  mutual
    -- Target = ( Targets ) | Ident { . Ident }, with the dots in `set` alone: the Targets in
    -- parentheses count 1
    pub data IsTarget (dotted : Bool) : ℕ → List SpannedTok → List SpannedTok → Expr C → Type 0 where
      in_parentheses : {d : ℕ} {s r : Span} {ts rest : List SpannedTok} {t : Expr C} → AreTargets dotted d ts ((paren_close, r) ∷ rest) t → IsTarget dotted (suc d) ((paren_open, s) ∷ ts) rest t
      undotted : {d : ℕ} {x : Text} {s : Span} {rest : List SpannedTok} → is in_word (ident x) ≡ false → is_reserved x ≡ false → dotted ≡ false →
          IsTarget dotted d ((ident x, s) ∷ rest) rest (variable x)
      dotted_target : {d : ℕ} {x : Text} {s : Span} {ts rest : List SpannedTok} {t : Expr C} → is in_word (ident x) ≡ false → is_reserved x ≡ false → dotted ≡ true →
          AreAttributes (variable x) ts rest t → IsTarget dotted d ((ident x, s) ∷ ts) rest t

    -- Targets = [ Target { , Target } [,] ]: one without a comma is itself, else they are a list
    pub data AreTargets (dotted : Bool) : ℕ → List SpannedTok → List SpannedTok → Expr C → Type 0 where
      no_targets : {d : ℕ} {rest : List SpannedTok} → comes ends_targets rest ≡ true → AreTargets dotted d rest rest (list no_more)
      one_target : {d : ℕ} {ts rest : List SpannedTok} {t : Expr C} → comes ends_targets ts ≡ false → IsTarget dotted d ts rest t → comes (is comma) rest ≡ false → AreTargets dotted d ts rest t
      list_of_targets : {d : ℕ} {s : Span} {ts us rest : List SpannedTok} {t : Expr C} {es : Exprs C} → comes ends_targets ts ≡ false → IsTarget dotted d ts ((comma, s) ∷ us) t →
          AreMoreTargets dotted d us rest es → AreTargets dotted d ts rest (list (more t es))

    -- after a comma: it is the last one only where targets end
    pub data AreMoreTargets (dotted : Bool) : ℕ → List SpannedTok → List SpannedTok → Exprs C → Type 0 where
      no_more_targets : {d : ℕ} {rest : List SpannedTok} → comes ends_targets rest ≡ true → AreMoreTargets dotted d rest rest no_more
      last_target : {d : ℕ} {ts rest : List SpannedTok} {t : Expr C} → comes ends_targets ts ≡ false → IsTarget dotted d ts rest t → comes (is comma) rest ≡ false →
          AreMoreTargets dotted d ts rest (more t no_more)
      more_targets : {d : ℕ} {s : Span} {ts us rest : List SpannedTok} {t : Expr C} {es : Exprs C} → comes ends_targets ts ≡ false → IsTarget dotted d ts ((comma, s) ∷ us) t →
          AreMoreTargets dotted d us rest es → AreMoreTargets dotted d ts rest (more t es)

  -- the left of a With: ( Targets ) | Ident, where the Targets in parentheses count 1
  pub data IsBound : ℕ → List SpannedTok → List SpannedTok → Expr C → Type 0 where
    bound_targets : {d : ℕ} {s r : Span} {ts rest : List SpannedTok} {t : Expr C} → AreTargets false d ts ((paren_close, r) ∷ rest) t → IsBound (suc d) ((paren_open, s) ∷ ts) rest t
    bound_name : {d : ℕ} {x : Text} {s : Span} {rest : List SpannedTok} → is_reserved x ≡ false → IsBound d ((ident x, s) ∷ rest) rest (variable x)
