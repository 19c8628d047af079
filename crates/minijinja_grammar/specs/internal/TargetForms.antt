-- The forms of what may be assigned to.
use Rattle.std.specs.Prelude.{ℕ, zero, suc, List, [], ◌∷◌, ◌++◌, Bool, true, false, ◌||◌, if◌then◌else◌, Option, Some, None, codes}
use Rattle.std.specs.Str.{bytes_eq}
use Rattle.minijinja_syntax.specs.Texts.{Text}
use Rattle.minijinja_syntax.specs.Tokens.{ident, comma, dot, paren_open, paren_close}
use Rattle.minijinja_syntax.specs.declared.tokens.Span.{Span}
use Rattle.minijinja_tree.specs.SpannedTrees.{Expr, variable, attribute, list, exprs_of}
use Rattle.minijinja_grammar.specs.Words.{is, is_reserved}
use Rattle.minijinja_syntax.specs.Streams.{SpannedTok}
use Rattle.minijinja_grammar.specs.Targets.{ends_targets}
use Rattle.minijinja_grammar.specs.internal.Forms.{Form, Turn, go_on, over, pure, one, start, many, either, ◌>>=◌, ◌>>◌}
use Rattle.minijinja_grammar.specs.internal.ExprForms.{next, span_of_mark, ident_and_span, spanned, behind}

-- an identifier, unless it is one of the refused
abbrev pub word_but : (Text → Bool) → SpannedTok → Option (Text × Span)
word_but refused (ident x, s) = if refused x then None else Some (x, s)
word_but refused _ = None

-- an identifier that is not reserved
abbrev pub name_word : SpannedTok → Option (Text × Span)
name_word t = word_but is_reserved t

-- an identifier that is neither `in` nor reserved
abbrev pub target_word : SpannedTok → Option (Text × Span)
target_word t = word_but (λ x. bytes_eq x (codes "in") || is_reserved x) t

-- Ident, where a name stands by itself: it may be `in`
unfoldable pub stored_name : {C : Type 0} → Form (Expr C)
stored_name = do
  x ← one name_word
  pure (variable x.0 x.1)

-- . Ident, after a target so far: an attribute, which stands where its name does
unfoldable pub target_part : {C : Type 0} → Expr C → Span → Form (Turn (Expr C))
target_part e at = do
  x ← one ident_and_span
  pure (go_on (attribute e x.0 x.1))

-- { . Ident }, after a target
unfoldable pub attributes : {C : Type 0} → Expr C → Form (Expr C)
attributes = many (span_of_mark dot) target_part

-- { . Ident }, after a target that dots may follow
abbrev pub target_parts : {C : Type 0} → Bool → Expr C → Form (Expr C)
target_parts false e = pure e
target_parts true e = attributes e

-- Ident { . Ident }, with the dots in `set` alone
unfoldable pub named_target : {C : Type 0} → Bool → Form (Expr C)
named_target dotted = do
  x ← one target_word
  target_parts dotted (variable x.0 x.1)

module _ {C : Type 0} (target : Form (Expr C)) where
  -- the target after a comma, unless that was the last one
  unfoldable pub next_target : List (Expr C) → Span → Form (Turn (List (Expr C)))
  next_target ts at = either ends_targets (pure (over ts)) (target >>= (λ t. pure (go_on (ts ++ t ∷ []))))

  -- Targets = [ Target { , Target } [,] ]: one without a comma is itself, else they are a list
  unfoldable pub targets : Form (Expr C)
  targets = do
    from ← start
    either ends_targets (spanned from (list (exprs_of [])))
        (target >>= (λ t. either (is comma)
        (many (span_of_mark comma) next_target (t ∷ []) >>= (λ ts. spanned from (list (exprs_of ts))))
        (pure t)))

-- Target = ( Targets ) | Ident { . Ident }, in parentheses of that depth at most
unfoldable pub target_in : {C : Type 0} → Bool → ℕ → Form (Expr C)
target_in dotted zero = named_target dotted
target_in dotted (suc d) = behind paren_open
    (do
      t ← targets (target_in dotted d)
      next paren_close
      pure t)
    (named_target dotted)

unfoldable pub any_targets : {C : Type 0} → Bool → ℕ → Form (Expr C)
any_targets dotted d = targets (target_in dotted d)
