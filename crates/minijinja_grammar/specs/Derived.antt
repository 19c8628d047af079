-- Which trees tokens have, and where the nodes of these stand.
use Rattle.std.specs.Prelude.{◌≡◌, ℕ, Bool, true, not, ◌&&◌, List, [], ◌∷◌, ◌++◌}
use Rattle.std.specs.List.{list_any}
use Rattle.std.specs.Str.{bytes_eq}
use Rattle.minijinja_syntax.specs.Texts.{Text}
use Rattle.minijinja_syntax.specs.Streams.{SpannedTok, finished}
use Rattle.minijinja_value.specs.Values.{Functions}
use Rattle.minijinja_syntax.specs.Positions.{expanded}
use Rattle.minijinja_tree.specs.Tree.{Expr, Stmt, template, Stmts, all_block_names}
use Rattle.minijinja_tree.specs.SpannedTrees as spanned
use Rattle.minijinja_tree.specs.SpannedTrees.{bare_expr, bare_stmt, stmts_of}
use Rattle.minijinja_grammar.specs.Places.{Place}
use Rattle.minijinja_grammar.specs.Expressions.{IsExpr}
use Rattle.minijinja_grammar.specs.Statements.{IsBody, at_end_of_text, outside}
use Rattle.minijinja_grammar.specs.SpannedExpressions.{spanned_expr}
use Rattle.minijinja_grammar.specs.SpannedStatements.{spanned_body}

-- how deep what counts may nest
abbrev pub max_depth : ℕ
max_depth = 300

-- no two of the names are one
abbrev pub are_distinct : List Text → Bool
are_distinct [] = true
are_distinct (x ∷ xs) = not (list_any (bytes_eq x) xs) && are_distinct xs

-- none of them is one of the old ones
abbrev pub are_new : (old : List Text) → List Text → Bool
are_new old [] = true
are_new old (x ∷ xs) = not (list_any (bytes_eq x) old) && are_new old xs

-- Template = Body, of depth at most 300: the tokens that are left at the place end unrefused, and
-- all of them are its body. No two of its blocks have one name, and none has a name that was given
-- before the place.
pub data IsTemplateTree {C F : Type 0} (f : Functions C F) (p : Place) : Stmt C (Unit {0}) → Type 0 where
  template_tree : {ss : Stmts C (Unit {0})} → p.ending ≡ finished → IsBody f p.source outside at_end_of_text max_depth p.tokens [] ss →
      are_distinct (all_block_names ss) ≡ true → are_new p.names (all_block_names ss) ≡ true → IsTemplateTree f p (template ss)

-- one Expr of depth at most 300: the tokens that are left at the place end unrefused, and all of
-- them are the Expr
pub record IsExprTree {C F : Type 0} (f : Functions C F) (p : Place) (e : Expr C) : Type 0 where
  pub unrefused : p.ending ≡ finished
  pub derived : IsExpr f p.source max_depth p.tokens [] e

-- ---- where nodes stand

-- the tree of a derivation with the spans of its nodes: that of the template goes from the token
-- before it to its last one
abbrev pub spanned_template : {C F : Type 0} (f : Functions C F) (p : Place) {t : Stmt C (Unit {0})} → IsTemplateTree f p t → spanned.Stmt C
spanned_template f p (template_tree e m i j) = let ss = spanned_body f p.source p.last m in spanned.template (stmts_of ss.0) (expanded p.last ss.1)

-- the tokens that are left at the place have this tree, and its nodes stand where the derivation
-- has them
pub record IsSpannedTemplate {C F : Type 0} (f : Functions C F) (p : Place) (t : spanned.Stmt C) : Type 0 where
  pub derivation : IsTemplateTree f p (bare_stmt t)
  pub spans : spanned_template f p derivation ≡ t

pub record IsSpannedExpr {C F : Type 0} (f : Functions C F) (p : Place) (e : spanned.Expr C) : Type 0 where
  pub derivation : IsExprTree f p (bare_expr e)
  pub spans : (spanned_expr f p.source p.last derivation.derived).0 ≡ e

-- ---- more tokens

-- as if these tokens followed those that are left, and then the end
abbrev pub continued : List SpannedTok → Place → Place
continued more p = record p { tokens = p.tokens ++ more; ending = finished }

-- with some tokens more, those that are left at the place have a tree
pub record FitsSoFar {A : Type 0} (IsTree : Place → A → Type 0) (p : Place) : Type 0 where
  pub more : List SpannedTok
  pub tree : A
  pub whole : IsTree (continued more p) tree
