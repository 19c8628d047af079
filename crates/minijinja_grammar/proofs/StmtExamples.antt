-- Templates that the grammar derives: each kind of statement, by the rules alone.
use Rattle.std.proofs.Common.{◌≡◌, ℕ, false, List, [], ◌∷◌, refl, arith, true}
use Rattle.std.specs.Prelude.{codes}
use Rattle.std.specs.Str.{trim_start, trim_end, chars}
use Rattle.minijinja_syntax.specs.Texts.{Text}
use Rattle.minijinja_syntax.specs.declared.tokens.Span.{Span}
use Rattle.minijinja_syntax.specs.Streams.{SpannedTok, finished}
use Rattle.minijinja_syntax.specs.Tokens.{ident, int, template_data, variable_start, variable_end, block_start, block_end, assign, comma, paren_open, paren_close, Tok, dot, pipe}
use Rattle.minijinja_value.specs.Values.{Functions}
use Rattle.minijinja_tree.specs.Tree.{Stmt, Expr, variable, constant, list, no_more, more, absent, no_args, template, data_text, output, assignment, for_loop, if_cond, named_block, do_call, break_loop, done, also, attribute, filter, tuple, present, pos, Stmts, with_block, set_block, auto_escape, filter_block, extends, include, import_all, from_import, declare, call_block, macro, continue_loop}
use Rattle.minijinja_grammar.specs.Words.{if_word, elif_word, else_word, in_word, endif_word, endfor_word, endblock_word, is, not_word, recursive_word, as_word, import_word, scoped_word, required_word, ignore_word, missing_word, with_word, without_word, context_word, endwith_word, endset_word, endautoescape_word, endfilter_word, endmacro_word, endcall_word}
use Rattle.minijinja_grammar.specs.Ahead.{comes, or_level, plain_name}
use Rattle.minijinja_grammar.specs.Expressions.{IsLevel, IsPrimary, name, integer, no_not, comparison, no_comparison, called, no_postfix, no_minus, no_suffix, suffixed, args, no_arg, positional, no_more_args, arguments, no_arguments, no_exprs}
use Rattle.minijinja_grammar.specs.Statements.{body_end, text_end, data_part, output_part, stmt_part, if_stmt, if_alone, if_elif, for_stmt, set_stmt, block_stmt, break_stmt, do_stmt, else_part, one_value, no_filter, no_word, same_name, if_else, with_stmt, set_block_stmt, autoescape_stmt, filter_stmt, required_block_stmt, extends_stmt, include_stmt, import_stmt, from_stmt, macro_stmt, call_stmt, continue_stmt, no_else, bindings, last_binding, more_bindings, no_bindings, values, chain, first_filter, also_filter, one_chain, one_filter, one_word, no_end_name, blank_data, blank_end, no_context, with_context, without_context, ignore, ignore_after_context, import_name, import_alias, imports, no_imports, param, param_with_default, no_more_params, more_params, params_in_parentheses}
use Rattle.minijinja_grammar.specs.Derived.{IsTemplateTree, template_tree}
use Rattle.minijinja_grammar.specs.Targets.{in_parentheses, undotted, dotted_target, no_attribute, one_target, list_of_targets, no_more_targets, also_attribute, last_target, bound_name, bound_targets}
use Rattle.minijinja_grammar.specs.Examples.{StmtExamples}
use Rattle.minijinja_grammar.proofs.ExprExamples.{Closes, one, small, or_of, of_primary, of_unary}

module _ {C F : Type 0} (f : Functions C F) (src : Text) (o : Span) where
  -- the tokens are all of a text, and have that tree
  abbrev IsTree : List SpannedTok → Stmt C (Unit {0}) → Type 0
  IsTree ts x = IsTemplateTree f (record { source = src; tokens = ts; ending = finished; last = o; names = [] }) x

  abbrev w : Text → SpannedTok
  w x = (ident x, o)

  abbrev t : Tok → SpannedTok
  t x = (x, o)

  abbrev vx : Expr C
  vx = variable (codes "x")

  abbrev vy : Expr C
  vy = variable (codes "y")

  abbrev Body : Type 0
  Body = Stmts C (Unit {0})

  -- a template of one statement
  abbrev Is : List SpannedTok → Stmt C (Unit {0}) → Type 0
  Is ts x = IsTree (t block_start ∷ ts) (template (also x done))

  at_variable_end : (ts : List SpannedTok) → Closes (t variable_end ∷ ts)
  at_variable_end ts = record { postfix = refl; suffix = refl; power = refl; term = refl; cat = refl; sum = refl; compared = refl; «and» = refl; «or» = refl; «if» = refl }

  pub at_block_end : (ts : List SpannedTok) → Closes (t block_end ∷ ts)
  at_block_end ts = record { postfix = refl; suffix = refl; power = refl; term = refl; cat = refl; sum = refl; compared = refl; «and» = refl; «or» = refl; «if» = refl }

  at_comma : (ts : List SpannedTok) → Closes (t comma ∷ ts)
  at_comma ts = record { postfix = refl; suffix = refl; power = refl; term = refl; cat = refl; sum = refl; compared = refl; «and» = refl; «or» = refl; «if» = refl }

  at_close : (ts : List SpannedTok) → Closes (t paren_close ∷ ts)
  at_close ts = record { postfix = refl; suffix = refl; power = refl; term = refl; cat = refl; sum = refl; compared = refl; «and» = refl; «or» = refl; «if» = refl }

  at_recursive : (ts : List SpannedTok) → Closes (t recursive_word ∷ ts)
  at_recursive ts = record { postfix = refl; suffix = refl; power = refl; term = refl; cat = refl; sum = refl; compared = refl; «and» = refl; «or» = refl; «if» = refl }

  at_ignore : (ts : List SpannedTok) → Closes (t ignore_word ∷ ts)
  at_ignore ts = record { postfix = refl; suffix = refl; power = refl; term = refl; cat = refl; sum = refl; compared = refl; «and» = refl; «or» = refl; «if» = refl }

  at_with : (ts : List SpannedTok) → Closes (t with_word ∷ ts)
  at_with ts = record { postfix = refl; suffix = refl; power = refl; term = refl; cat = refl; sum = refl; compared = refl; «and» = refl; «or» = refl; «if» = refl }

  at_without : (ts : List SpannedTok) → Closes (t without_word ∷ ts)
  at_without ts = record { postfix = refl; suffix = refl; power = refl; term = refl; cat = refl; sum = refl; compared = refl; «and» = refl; «or» = refl; «if» = refl }

  at_as : (ts : List SpannedTok) → Closes (t as_word ∷ ts)
  at_as ts = record { postfix = refl; suffix = refl; power = refl; term = refl; cat = refl; sum = refl; compared = refl; «and» = refl; «or» = refl; «if» = refl }

  at_import : (ts : List SpannedTok) → Closes (t import_word ∷ ts)
  at_import ts = record { postfix = refl; suffix = refl; power = refl; term = refl; cat = refl; sum = refl; compared = refl; «and» = refl; «or» = refl; «if» = refl }

  -- a primary where an Or is wanted, which may be before an `if`
  or_primary : {d : ℕ} {ts rest : List SpannedTok} {e : Expr C} → comes (is not_word) ts ≡ false → IsPrimary f src d ts (t if_word ∷ rest) e → IsLevel f src or_level d ts (t if_word ∷ rest) e
  or_primary n a = or_of f src (no_not n (comparison (small f src (one f src a refl refl) refl refl refl refl) (no_comparison refl))) refl refl

  pub or_at_end : {d : ℕ} {ts rest : List SpannedTok} {e : Expr C} → comes (is not_word) ts ≡ false → IsPrimary f src d ts (t block_end ∷ rest) e → IsLevel f src or_level d ts (t block_end ∷ rest) e
  or_at_end n a = or_of f src (no_not n (comparison (small f src (one f src a refl refl) refl refl refl refl) (no_comparison refl))) refl refl

  -- a primary where an Or is wanted
  or_of_primary : {d : ℕ} {ts rest : List SpannedTok} {e : Expr C} → comes (is not_word) ts ≡ false → IsPrimary f src d ts rest e → Closes rest → IsLevel f src or_level d ts rest e
  or_of_primary n a h = or_of f src (no_not n (comparison (small f src (one f src a h.postfix h.suffix) h.power h.term h.cat h.sum) (no_comparison h.compared))) h.«and» h.«or»

  -- `a{{ x }}`
  pub data_and_output : IsTree ((template_data (codes "a"), o) ∷ (variable_start, o) ∷ (ident (codes "x"), o) ∷ (variable_end, o) ∷ [])
      (template (also (data_text (codes "a")) (also (output (variable (codes "x"))) done)))
  data_and_output = template_tree refl (data_part (output_part (of_primary f src refl (name refl) (at_variable_end [])) text_end)) refl refl

  -- `{% if x %}a{% elif y %}{% endif %}`
  pub elif_example : IsTree ((block_start, o) ∷ (if_word, o) ∷ (ident (codes "x"), o) ∷ (block_end, o) ∷ (template_data (codes "a"), o) ∷ (block_start, o) ∷ (elif_word, o) ∷ (ident (codes "y"), o) ∷ (block_end, o) ∷
      (block_start, o) ∷ (endif_word, o) ∷ (block_end, o) ∷ [])
      (template (also (if_cond (variable (codes "x")) (also (data_text (codes "a")) done) (also (if_cond (variable (codes "y")) done done) done)) done))
  elif_example = template_tree refl (stmt_part refl (if_stmt (if_elif (or_of_primary refl (name refl) (at_block_end _)) (data_part (body_end refl)) (if_alone (or_of_primary refl (name refl) (at_block_end _)) (body_end refl)))) text_end) refl refl

  -- `{% set (x, ) = 1 %}`
  pub targets_example : IsTree ((block_start, o) ∷ (ident (codes "set"), o) ∷ (paren_open, o) ∷ (ident (codes "x"), o) ∷ (comma, o) ∷ (paren_close, o) ∷ (assign, o) ∷ (int 1, o) ∷ (block_end, o) ∷ [])
      (template (also (assignment (list (more (variable (codes "x")) no_more)) (constant (f.of_u64 1))) done))
  targets_example = template_tree refl (stmt_part refl (set_stmt (one_target refl (in_parentheses (list_of_targets refl (dotted_target refl refl refl (no_attribute refl)) (no_more_targets refl))) refl)
      (one_value (of_primary f src refl integer (at_block_end [])) refl)) text_end) refl refl

  -- `{% block x %}{% endblock x %}`
  pub block_example : IsTree ((block_start, o) ∷ (ident (codes "block"), o) ∷ (ident (codes "x"), o) ∷ (block_end, o) ∷ (block_start, o) ∷ (endblock_word, o) ∷ (ident (codes "x"), o) ∷ (block_end, o) ∷ [])
      (template (also (named_block (codes "x") false done) done))
  block_example = template_tree refl (stmt_part refl (block_stmt refl (no_word refl) (no_word refl) (body_end refl) same_name) text_end) refl refl

  -- `{% for x in y %}{% break %}{% else %}{% do z() %}{% endfor %}`
  pub loop_example : IsTree ((block_start, o) ∷ (ident (codes "for"), o) ∷ (ident (codes "x"), o) ∷ (in_word, o) ∷ (ident (codes "y"), o) ∷ (block_end, o) ∷ (block_start, o) ∷ (ident (codes "break"), o) ∷ (block_end, o) ∷
      (block_start, o) ∷ (else_word, o) ∷ (block_end, o) ∷ (block_start, o) ∷ (ident (codes "do"), o) ∷ (ident (codes "z"), o) ∷ (paren_open, o) ∷ (paren_close, o) ∷ (block_end, o) ∷ (block_start, o) ∷ (endfor_word, o) ∷ (block_end, o) ∷ [])
      (template (also (for_loop tt (variable (codes "x")) (variable (codes "y")) absent false (also break_loop done) (also (do_call (variable (codes "z")) no_args) done)) done))
  loop_example = template_tree refl (stmt_part refl (for_stmt (one_target refl (undotted refl refl refl) refl) (or_of_primary refl (name refl) (at_block_end _)) (no_filter refl) (no_word refl)
      (stmt_part refl (break_stmt refl) (body_end refl)) (else_part (stmt_part refl (do_stmt (of_unary f src refl (suffixed (no_suffix (no_minus (called (no_postfix (name refl)) (args (no_arg refl) refl (omega arith))) refl)) refl) (at_block_end _))) (body_end refl)))) text_end) refl refl

  -- `{% if x %}{% else %}a{% endif %}`
  else_example : Is (t if_word ∷ w (codes "x") ∷ t block_end ∷ t block_start ∷ t else_word ∷ t block_end ∷ t (template_data (codes "a")) ∷ t block_start ∷ t endif_word ∷ t block_end ∷ [])
      (if_cond vx done (also (data_text (codes "a")) done))
  else_example = template_tree refl (stmt_part refl (if_stmt (if_else (or_at_end refl (name refl)) (body_end refl) (data_part (body_end refl)))) text_end) refl refl

  -- `{% for x, y in x if y recursive %}{% continue %}{% endfor %}`
  for_example : Is (w (codes "for") ∷ w (codes "x") ∷ t comma ∷ w (codes "y") ∷ t in_word ∷ w (codes "x") ∷ t if_word ∷ w (codes "y") ∷ t recursive_word ∷ t block_end ∷
      t block_start ∷ w (codes "continue") ∷ t block_end ∷ t block_start ∷ t endfor_word ∷ t block_end ∷ [])
      (for_loop tt (list (more vx (more vy no_more))) vx (present vy) true (also continue_loop done) done)
  for_example = template_tree refl (stmt_part refl (for_stmt (list_of_targets refl (undotted refl refl refl) (last_target refl (undotted refl refl refl) refl)) (or_primary refl (name refl))
      (one_filter (of_primary f src refl (name refl) (at_recursive _))) one_word (stmt_part refl (continue_stmt refl) (body_end refl)) (no_else refl)) text_end) refl refl

  -- `{% with x = 1, (y) = 2 %}{% endwith %}`
  with_example : Is (t with_word ∷ w (codes "x") ∷ t assign ∷ t (int 1) ∷ t comma ∷ t paren_open ∷ w (codes "y") ∷ t paren_close ∷ t assign ∷ t (int 2) ∷ t block_end ∷ t block_start ∷
      t endwith_word ∷ t block_end ∷ [])
      (with_block ((vx, constant (f.of_u64 1)) ∷ (vy, constant (f.of_u64 2)) ∷ []) done)
  with_example = template_tree refl (stmt_part refl (with_stmt (bindings refl (more_bindings (bound_name refl) (of_primary f src refl integer (at_comma _))
      (last_binding (bound_targets (one_target refl (undotted refl refl refl) refl)) (of_primary f src refl integer (at_block_end _)) refl))) (body_end refl)) text_end) refl refl

  -- `{% with %}a{% endwith %}`
  empty_with_example : Is (t with_word ∷ t block_end ∷ t (template_data (codes "a")) ∷ t block_start ∷ t endwith_word ∷ t block_end ∷ []) (with_block [] (also (data_text (codes "a")) done))
  empty_with_example = template_tree refl (stmt_part refl (with_stmt (no_bindings refl) (data_part (body_end refl))) text_end) refl refl

  -- `{% set x.y = 1, %}`
  set_example : Is (w (codes "set") ∷ w (codes "x") ∷ t dot ∷ w (codes "y") ∷ t assign ∷ t (int 1) ∷ t comma ∷ t block_end ∷
      []) (assignment (attribute vx (codes "y")) (tuple (more (constant (f.of_u64 1)) no_more)))
  set_example = template_tree refl (stmt_part refl (set_stmt (one_target refl (dotted_target refl refl refl (also_attribute (no_attribute refl))) refl) (values (of_primary f src refl integer (at_comma _)) (no_exprs refl))) text_end) refl refl

  -- `{% set x | y | x(1) %}a{% endset %}`
  set_block_example : Is (w (codes "set") ∷ w (codes "x") ∷ t pipe ∷ w (codes "y") ∷ t pipe ∷ w (codes "x") ∷ t paren_open ∷ t (int 1) ∷ t paren_close ∷ t block_end ∷ t (template_data (codes "a")) ∷
      t block_start ∷ t endset_word ∷ t block_end ∷
      []) (set_block vx (present (filter (present (filter absent (codes "y") no_args)) (codes "x") (pos (constant (f.of_u64 1)) no_args))) (also (data_text (codes "a")) done))
  set_block_example = template_tree refl (stmt_part refl (set_block_stmt (one_target refl (dotted_target refl refl refl (no_attribute refl)) refl)
      (one_chain (chain (also_filter (first_filter (plain_name refl) (no_arguments refl)) (plain_name refl)
      (arguments (args (positional (of_primary f src refl integer (at_close _)) refl (no_more_args refl)) refl (omega arith)))) refl)) (data_part (body_end refl))) text_end) refl refl

  -- `{% autoescape x %}{% endautoescape %}`
  autoescape_example : Is (w (codes "autoescape") ∷ w (codes "x") ∷ t block_end ∷ t block_start ∷ t endautoescape_word ∷ t block_end ∷ []) (auto_escape vx done)
  autoescape_example = template_tree refl (stmt_part refl (autoescape_stmt (of_primary f src refl (name refl) (at_block_end _)) (body_end refl)) text_end) refl refl

  -- `{% filter x %}a{% endfilter %}`
  filter_example : Is (w (codes "filter") ∷ w (codes "x") ∷ t block_end ∷ t (template_data (codes "a")) ∷ t block_start ∷ t endfilter_word ∷ t block_end ∷
      []) (filter_block (filter absent (codes "x") no_args) (also (data_text (codes "a")) done))
  filter_example = template_tree refl (stmt_part refl (filter_stmt (chain (first_filter (plain_name refl) (no_arguments refl)) refl) (data_part (body_end refl))) text_end) refl refl

  -- `{% block x scoped required %} {% endblock %}`
  required_example : Is (w (codes "block") ∷ w (codes "x") ∷ t scoped_word ∷ t required_word ∷ t block_end ∷ t (template_data (codes " ")) ∷ t block_start ∷ t endblock_word ∷ t block_end ∷ [])
      (named_block (codes "x") true (also (data_text (codes " ")) done))
  unfolding trim_start trim_end chars
  required_example = template_tree refl (stmt_part refl (required_block_stmt refl one_word one_word (blank_data {t = codes " "} refl blank_end) (no_end_name refl)) text_end) refl refl

  -- `{% block x %}{% block y %}{% endblock %}{% endblock %}`
  blocks_example : Is (w (codes "block") ∷ w (codes "x") ∷ t block_end ∷ t block_start ∷ w (codes "block") ∷ w (codes "y") ∷ t block_end ∷ t block_start ∷ t endblock_word ∷ t block_end ∷
      t block_start ∷ t endblock_word ∷ t block_end ∷ [])
      (named_block (codes "x") false (also (named_block (codes "y") false done) done))
  blocks_example = template_tree refl (stmt_part refl (block_stmt refl (no_word refl) (no_word refl)
      (stmt_part refl (block_stmt refl (no_word refl) (no_word refl) (body_end refl) (no_end_name refl)) (body_end refl)) (no_end_name refl)) text_end) refl refl

  -- `{% extends x %}`
  extends_example : Is (w (codes "extends") ∷ w (codes "x") ∷ t block_end ∷ []) (extends vx)
  extends_example = template_tree refl (stmt_part refl (extends_stmt (of_primary f src refl (name refl) (at_block_end _))) text_end) refl refl

  -- `{% include x ignore missing with context %}`
  include_example : Is (w (codes "include") ∷ w (codes "x") ∷ t ignore_word ∷ t missing_word ∷ t with_word ∷ t context_word ∷ t block_end ∷ []) (include vx true)
  include_example = template_tree refl (stmt_part refl (include_stmt (of_primary f src refl (name refl) (at_ignore _)) (no_context refl) (ignore with_context)) text_end) refl refl

  -- `{% include x without context ignore missing %}`
  include_with_context_example : Is (w (codes "include") ∷ w (codes "x") ∷ t without_word ∷ t context_word ∷ t ignore_word ∷ t missing_word ∷ t block_end ∷ []) (include vx true)
  include_with_context_example = template_tree refl (stmt_part refl (include_stmt (of_primary f src refl (name refl) (at_without _)) without_context ignore_after_context) text_end) refl refl

  -- `{% import x as y with context %}`
  import_example : Is (t import_word ∷ w (codes "x") ∷ t as_word ∷ w (codes "y") ∷ t with_word ∷ t context_word ∷ t block_end ∷ []) (import_all vx vy)
  import_example = template_tree refl (stmt_part refl (import_stmt (of_primary f src refl (name refl) (at_as _)) (of_primary f src refl (name refl) (at_with _)) refl with_context) text_end) refl refl

  -- `{% from x import x, y as x, %}`
  from_example : Is (w (codes "from") ∷ w (codes "x") ∷ t import_word ∷ w (codes "x") ∷ t comma ∷ w (codes "y") ∷ t as_word ∷ w (codes "x") ∷ t comma ∷ t block_end ∷ []) (from_import vx ((
    vx,
    absent,
  ) ∷ (vy, present vx) ∷ []))
  from_example = template_tree refl (stmt_part refl (from_stmt (of_primary f src refl (name refl) (at_import _)) (imports refl (import_name refl refl refl) (imports refl (import_alias refl refl refl) (no_imports refl))) (no_context refl)) text_end) refl refl

  -- `{% macro z(x, y=1) %}{{ x }}{% endmacro %}`
  macro_example : Is (w (codes "macro") ∷ w (codes "z") ∷ t paren_open ∷ w (codes "x") ∷ t comma ∷ w (codes "y") ∷ t assign ∷ t (int 1) ∷ t paren_close ∷ t block_end ∷ t variable_start ∷
      w (codes "x") ∷ t variable_end ∷
      t block_start ∷ t endmacro_word ∷ t block_end ∷ []) (declare (macro tt (codes "z") (vx ∷ vy ∷ []) (constant (f.of_u64 1) ∷ []) (also (output vx) done)))
  macro_example = template_tree refl (stmt_part refl (macro_stmt (param refl refl (more_params (param_with_default refl (of_primary f src refl integer (at_close _)) (no_more_params refl)))) refl
      (output_part (of_primary f src refl (name refl) (at_variable_end _)) (body_end refl))) text_end) refl refl

  -- `{% call (x) y() %}{% endcall %}`
  call_example : Is (w (codes "call") ∷ t paren_open ∷ w (codes "x") ∷ t paren_close ∷ w (codes "y") ∷ t paren_open ∷ t paren_close ∷ t block_end ∷ t block_start ∷ t endcall_word ∷ t block_end ∷ [])
      (call_block vy no_args (macro tt (codes "caller") (vx ∷ []) [] done))
  call_example = template_tree refl (stmt_part refl (call_stmt (params_in_parentheses (param refl refl (no_more_params refl)) refl)
      (of_unary f src refl (suffixed (no_suffix (no_minus (called (no_postfix (name refl)) (args (no_arg refl) refl (omega arith))) refl)) refl) (at_block_end _)) (body_end refl)) text_end) refl refl

pub stmts_derived : {C F : Type 0} (f : Functions C F) → StmtExamples f
stmts_derived f = record {
  data_and_output = λ source o. data_and_output f source o;
  if_with_elif = λ source o. elif_example f source o;
  set_of_list_in_parentheses = λ source o. targets_example f source o;
  block_with_end_name = λ source o. block_example f source o;
  loop_with_break_else_and_do = λ source o. loop_example f source o;
  if_with_else = λ source o. else_example f source o;
  recursive_loop_with_filter = λ source o. for_example f source o;
  with_two_bindings = λ source o. with_example f source o;
  with_no_binding = λ source o. empty_with_example f source o;
  set_of_attribute_to_tuple = λ source o. set_example f source o;
  set_block_with_filters = λ source o. set_block_example f source o;
  autoescape_block = λ source o. autoescape_example f source o;
  filter_block_of_one = λ source o. filter_example f source o;
  required_block = λ source o. required_example f source o;
  block_in_block = λ source o. blocks_example f source o;
  extends_alone = λ source o. extends_example f source o;
  include_with_context_last = λ source o. include_example f source o;
  include_with_context_first = λ source o. include_with_context_example f source o;
  import_with_context = λ source o. import_example f source o;
  from_import_with_alias = λ source o. from_example f source o;
  macro_with_default = λ source o. macro_example f source o;
  call_block_with_parameter = λ source o. call_example f source o;
}
