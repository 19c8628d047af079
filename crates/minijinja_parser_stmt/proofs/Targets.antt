-- Targets after a comma, one at a time, and targets in parentheses.
use Rattle.std.proofs.Common.{◌≡◌, ◌≢◌, ◌-◌, arith, ℕ, zero, suc, Bool, true, false, if◌then◌else◌, List, [], ◌∷◌, ◌++◌, Some, None, refl, ◌∙◌}
use Rattle.minijinja_syntax.specs.Tokens.{comma, paren_close, paren_open}
use Rattle.minijinja_syntax.specs.Streams.{SpannedTok}
use Rattle.minijinja_syntax.specs.declared.tokens.Span.{Span}
use Rattle.minijinja_tree.specs.SpannedTrees.{Expr}
use Rattle.minijinja_grammar.specs.Words.{is}
use Rattle.minijinja_grammar.specs.internal.Forms.{Form, Read, go_on, over, got, short, wrong, many, read_then, read_turn, read_any, read_one, held_or_wrong, if_held, after, reads}
use Rattle.minijinja_grammar.specs.Places.{Place}
use Rattle.minijinja_grammar.specs.Ahead.{comes}
use Rattle.minijinja_grammar.specs.internal.ExprForms.{next, span_of_mark}
use Rattle.minijinja_grammar.specs.internal.TargetForms.{any_targets, named_target, next_target, stored_name, target_in}
use Rattle.minijinja_grammar.specs.Targets.{ends_targets}
use Rattle.minijinja_grammar.specs.internal.StmtForms.{bound_target}
use Rattle.minijinja_grammar.proofs.Unrolled.{many_is}
use Rattle.minijinja_parser_tokens.specs.internal.Reads.{eaten}

module _ {C : Type 0} (target : Form (Expr C)) where
  -- the targets after these
  abbrev pub further : List (Expr C) → Place → Read (List (Expr C))
  further ts p = reads (many (span_of_mark comma) (next_target target) ts) p

  -- after a comma: a target and those after it, unless targets end there
  abbrev pub after_comma : List (Expr C) → Place → Read (List (Expr C))
  after_comma ts q = if comes ends_targets q.tokens then got ts q else read_then (reads target q) (λ t r. further (ts ++ t ∷ []) r)

  turn_is : (ts : List (Expr C)) (q : Place) (o : Read (Expr C)) (b : Bool) →
      read_turn (if b then got (over ts) q else read_then o (λ t r. got (go_on (ts ++ t ∷ [])) r)) further ≡ (if b then got ts q else read_then o (λ t r. further (ts ++ t ∷ []) r))
  turn_is ts q o true = refl
  turn_is ts q (got t r) false = refl
  turn_is ts q (short r) false = refl
  turn_is ts q (wrong r) false = refl

  pub further_is : (ts : List (Expr C)) (p : Place) → further ts p ≡ read_then (eaten comma p) (λ b q. if b then after_comma ts q else got ts q)
  unfolding reads next_target
  further_is ts p = many_is (span_of_mark comma) (next_target target) ts p ∙ go p.tokens refl
    where
      at_token : (t : SpannedTok) (us : List SpannedTok) (b : Bool) →
          if_held (if b then Some t.1 else None) (λ h. read_turn (reads (next_target target ts h) (after p t us)) further) (got ts p) ≡
          read_then (if b then read_then (held_or_wrong (if b then Some t.1 else None) (after p t us)) (λ s u. got true u) else got false p) (λ b q. if b then after_comma ts q else got ts q)
      at_token t us true = turn_is ts (after p t us) (reads target (after p t us)) (comes ends_targets us)
      at_token t us false = refl

      go : (us : List SpannedTok) → p.tokens ≡ us →
          read_any (span_of_mark comma) (λ h s. read_turn (reads (next_target target ts h) s) further) ts p us ≡
          read_then (if comes (is comma) us then read_then (read_one (span_of_mark comma) p us) (λ s u. got true u) else got false p) (λ b q. if b then after_comma ts q else got ts q)
      go [] k = refl
      go (t ∷ us) k = at_token t us (is comma t.0)

-- targets in parentheses, after the opening one
abbrev pub nested : {C : Type 0} → Bool → ℕ → Place → Read (Expr C)
nested dotted zero q = wrong q
nested dotted (suc d) q = read_then (reads (any_targets dotted d) q) (λ t r. read_then (reads (next paren_close) r) (λ u v. got t v))

pub nested_is : {C : Type 0} (dotted : Bool) (d : ℕ) (q : Place) → d ≢ 0 → nested {C = C} dotted d q ≡ read_then (reads (any_targets dotted (d - 1)) q) (λ t r. read_then (reads (next paren_close) r) (λ u v. got t v))
nested_is dotted zero q n = absurd (n refl)
nested_is dotted (suc d) q n = let k : suc d - 1 ≡ d = omega arith in rw k refl

-- after a parenthesis, if one comes, and otherwise a name
abbrev pub after_opening : {C : Type 0} → Bool → ℕ → Form (Expr C) → Bool → Place → Read (Expr C)
after_opening dotted d name b q = if b then nested dotted d q else reads name q

module _ {C : Type 0} (dotted : Bool) where
  pub target_is : (d : ℕ) (p : Place) → reads (target_in {C = C} dotted d) p ≡ read_then (eaten paren_open p) (after_opening dotted d (named_target dotted))
  unfolding reads target_in any_targets named_target
  target_is zero p = go p.tokens refl
    where
      go : (ts : List SpannedTok) → p.tokens ≡ ts → reads (named_target dotted) p ≡
          read_then (if comes (is paren_open) ts then read_then (read_one (span_of_mark paren_open) p ts) (λ s q. got true q) else got false p) (after_opening dotted 0 (named_target {C = C} dotted))
      go [] k = refl
      go ((paren_open, a) ∷ ts) k = rw k refl
      go ((_, a) ∷ ts) k = refl
  target_is (suc d) p = go (comes (is paren_open) p.tokens) (reads (next paren_open) p)
    where
      go : (b : Bool) (o : Read Span) →
          (if b then read_then o (λ s q. read_then (reads (any_targets {C = C} dotted d) q) (λ t r. read_then (reads (next paren_close) r) (λ u v. got t v))) else reads (named_target dotted) p) ≡
          read_then (if b then read_then o (λ s q. got true q) else got false p) (after_opening dotted (suc d) (named_target dotted))
      go true (got s q) = refl
      go true (short q) = refl
      go true (wrong q) = refl
      go false o = refl

module _ {C : Type 0} where
  pub bound_is : (d : ℕ) (p : Place) → reads (bound_target {C = C} d) p ≡ read_then (eaten paren_open p) (after_opening false d stored_name)
  unfolding reads bound_target stored_name
  bound_is zero p = go p.tokens refl
    where
      go : (ts : List SpannedTok) → p.tokens ≡ ts → reads stored_name p ≡
          read_then (if comes (is paren_open) ts then read_then (read_one (span_of_mark paren_open) p ts) (λ s q. got true q) else got false p) (after_opening false 0 (stored_name {C = C}))
      go [] k = refl
      go ((paren_open, a) ∷ ts) k = rw k refl
      go ((_, a) ∷ ts) k = refl
  bound_is (suc d) p = go (comes (is paren_open) p.tokens) (reads (next paren_open) p)
    where
      go : (b : Bool) (o : Read Span) →
          (if b then read_then o (λ s q. read_then (reads (any_targets {C = C} false d) q) (λ t r. read_then (reads (next paren_close) r) (λ u v. got t v))) else reads stored_name p) ≡
          read_then (if b then read_then o (λ s q. got true q) else got false p) (after_opening false (suc d) stored_name)
      go true (got s q) = refl
      go true (short q) = refl
      go true (wrong q) = refl
      go false o = refl
