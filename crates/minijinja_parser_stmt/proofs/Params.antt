-- The arguments of a macro, one at a time.
use Rattle.std.proofs.Common.{◌≡◌, Bool, true, false, if◌then◌else◌, List, [], ◌∷◌, ◌++◌, Option, refl, sym, ap, ◌∙◌}
use Rattle.std.specs.Prelude.{◌||◌, is_some}
use Rattle.minijinja_syntax.specs.Tokens.{comma}
use Rattle.minijinja_tree.specs.SpannedTrees.{Expr}
use Rattle.minijinja_grammar.specs.Words.{is_identifier}
use Rattle.minijinja_grammar.specs.internal.Forms.{Form, Read, got, read_then, reads}
use Rattle.minijinja_grammar.specs.Places.{Place}
use Rattle.minijinja_grammar.specs.Ahead.{comes}
use Rattle.minijinja_grammar.specs.internal.StmtForms.{default_of, have_default, param}
use Rattle.minijinja_grammar.specs.internal.TargetForms.{stored_name}
use Rattle.minijinja_grammar.proofs.Climbing.{after_after}
use Rattle.minijinja_parser_tokens.specs.internal.Reads.{eaten}
use Rattle.minijinja_parser_tokens.proofs.Turned.{items_done, items_more, under}
use Rattle.minijinja_parser_stmt.specs.private.Macros.{param_at, param_items}

module _ {C : Type 0} (expr : Form (Expr C)) where
  abbrev Param : Type 0
  Param = Expr C × Option (Expr C)

  -- an argument is put after those before it
  also_is : (ps : List Param) (p : Place) → reads (param expr ps) p ≡ read_then (reads (param_at expr (have_default ps)) p) (λ x q. got (ps ++ x ∷ []) q)
  unfolding reads param
  also_is ps p = sym (after_after (reads stored_name p) (λ e q. read_then (reads (default_of expr (have_default ps)) q) (λ d r. got (e, d) r)) (λ x q. got (ps ++ x ∷ []) q) ∙
      under (reads stored_name p) _ _ (λ e q. after_after (reads (default_of expr (have_default ps)) q) (λ d r. got (e, d) r) (λ x q. got (ps ++ x ∷ []) q)))

  -- the others, where a comma comes
  abbrev pub others : List Param → Place → Read (List Param)
  others ps q = read_then (eaten comma q) (λ b s. if b then reads (param_items expr ps) s else got ps s)

  pub params_more : (ps : List Param) (p : Place) → comes is_identifier p.tokens ≡ true → reads (param_items expr ps) p ≡
      read_then (reads (param_at expr (have_default ps)) p) (λ x q. others (ps ++ x ∷ []) q)
  params_more ps p e = items_more is_identifier (param expr) ps p e ∙ ap (λ o. read_then o others) (also_is ps p) ∙
      after_after (reads (param_at expr (have_default ps)) p) (λ x q. got (ps ++ x ∷ []) q) others

  -- by whether one of those before has a default
  pub params_more_so : (ps : List Param) (p : Place) (b : Bool) → b ≡ have_default ps → comes is_identifier p.tokens ≡ true → reads (param_items expr ps) p ≡
      read_then (reads (param_at expr b) p) (λ x q. others (ps ++ x ∷ []) q)
  params_more_so ps p b h e = params_more ps p e ∙ ap (λ a. read_then (reads (param_at expr a) p) (λ x q. others (ps ++ x ∷ []) q)) (sym h)

  pub params_done : (ps : List Param) (p : Place) → comes is_identifier p.tokens ≡ false → reads (param_items expr ps) p ≡ got ps p
  params_done ps p e = items_done is_identifier (param expr) ps p e

-- whether one of them has a default, with one more
pub have_one_more : {C : Type 0} (ps : List (Expr C × Option (Expr C))) (x : Expr C × Option (Expr C)) → have_default (ps ++ x ∷ []) ≡ (have_default ps || is_some x.1)
have_one_more [] x = alone (is_some x.1)
  where
    alone : (b : Bool) → (b || false) ≡ b
    alone true = refl
    alone false = refl
have_one_more (y ∷ ps) x = go (is_some y.1) (have_one_more ps x)
  where
    go : (b : Bool) → have_default (ps ++ x ∷ []) ≡ (have_default ps || is_some x.1) → (b || have_default (ps ++ x ∷ [])) ≡ ((b || have_default ps) || is_some x.1)
    go true h = refl
    go false h = h
