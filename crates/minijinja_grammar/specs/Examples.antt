-- Texts that have a tree, and texts that have none.
use Rattle.std.specs.Prelude.{ℕ, true, false, List, [], ◌∷◌, map, codes}
use Rattle.minijinja_syntax.specs.Texts.{Text}
use Rattle.minijinja_syntax.specs.Streams.{finished}
use Rattle.minijinja_syntax.specs.Tokens.{Tok, ident, template_data, variable_start, variable_end, block_start, block_end, str, int, plus, minus, mul, pow, lt, dot, comma, colon, assign, pipe, bracket_open, bracket_close, paren_open, paren_close, brace_open, brace_close}
use Rattle.minijinja_syntax.specs.declared.tokens.Span.{Span}
use Rattle.minijinja_value.specs.Values.{Functions}
use Rattle.minijinja_tree.specs.BinOps as bin
use Rattle.minijinja_tree.specs.CompareOps as cmp
use Rattle.minijinja_tree.specs.Tree as tree
use Rattle.minijinja_tree.specs.Tree.{Expr, Stmt, Stmts, template, done, also}
use Rattle.minijinja_grammar.specs.Words.{if_word, else_word, elif_word, not_word, in_word, is_word, recursive_word, as_word, import_word, scoped_word, required_word, ignore_word, missing_word, with_word, without_word, context_word, endfor_word, endif_word, endwith_word, endset_word, endautoescape_word, endfilter_word, endblock_word, endmacro_word, endcall_word}
use Rattle.minijinja_grammar.specs.Places.{Place}
use Rattle.minijinja_grammar.specs.Derived.{IsExprTree, IsTemplateTree}

-- before the first of these tokens, which are all: where they stand doesn't matter here, so they
-- stand at one place
abbrev pub text_place : Text → Span → List Tok → Place
text_place source s ts = record { source = source; tokens = map (λ t. (t, s)) ts; ending = finished; last = s; names = [] }

abbrev pub x_word : Tok
x_word = ident (codes "x")

abbrev pub y_word : Tok
y_word = ident (codes "y")

abbrev pub z_word : Tok
z_word = ident (codes "z")

module _ {C F : Type 0} (f : Functions C F) where
  -- the tokens are an expression, and this is its tree
  abbrev pub HasExpr : List Tok → Expr C → Type 0
  HasExpr ts e = (source : Text) (s : Span) → IsExprTree f (text_place source s ts) e

  abbrev pub HasNoExpr : List Tok → Type 0
  HasNoExpr ts = (source : Text) (s : Span) (e : Expr C) → IsExprTree f (text_place source s ts) e → ⊥

  -- the tokens are a template of these statements
  abbrev pub HasStmts : List Tok → Stmts C (Unit {0}) → Type 0
  HasStmts ts ss = (source : Text) (s : Span) → IsTemplateTree f (text_place source s ts) (template ss)

  -- and of one statement
  abbrev pub HasStmt : List Tok → Stmt C (Unit {0}) → Type 0
  HasStmt ts x = HasStmts ts (also x done)

  abbrev pub HasNoStmts : List Tok → Type 0
  HasNoStmts ts = (source : Text) (s : Span) (t : Stmt C (Unit {0})) → IsTemplateTree f (text_place source s ts) t → ⊥

  abbrev x : Expr C
  x = tree.variable (codes "x")

  abbrev y : Expr C
  y = tree.variable (codes "y")

  abbrev z : Expr C
  z = tree.variable (codes "z")

  abbrev number : ℕ → Expr C
  number n = tree.constant (f.of_u64 n)

  pub record ExprExamples : Type 0 where
    -- `x`
    pub variable_alone : HasExpr (x_word ∷ []) x
    -- `2 ** 3 ** 2` is 2 ** (3 ** 2)
    pub power_groups_right : HasExpr (int 2 ∷ pow ∷ int 3 ∷ pow ∷ int 2 ∷ [])
        (tree.binary bin.pow (number 2) (tree.binary bin.pow (number 3) (number 2)))
    -- `-2 ** 2` is (-2) ** 2
    pub minus_before_power : HasExpr (minus ∷ int 2 ∷ pow ∷ int 2 ∷ [])
        (tree.binary bin.pow (tree.unary tree.negation (number 2)) (number 2))
    -- `not not x`
    pub two_nots : HasExpr (not_word ∷ not_word ∷ x_word ∷ [])
        (tree.unary tree.logical_not (tree.unary tree.logical_not x))
    -- `x - y - z` groups to the left
    pub difference_groups_left : HasExpr (x_word ∷ minus ∷ y_word ∷ minus ∷ z_word ∷ [])
        (tree.binary bin.sub (tree.binary bin.sub x y) z)
    -- `x + 1 * 2`
    pub product_in_sum : HasExpr (x_word ∷ plus ∷ int 1 ∷ mul ∷ int 2 ∷ [])
        (tree.binary bin.add x (tree.binary bin.mul (number 1) (number 2)))
    -- `x if y if z else 1` is (x if y) if z else 1
    pub if_without_else_first : HasExpr (x_word ∷ if_word ∷ y_word ∷ if_word ∷ z_word ∷ else_word ∷ int 1 ∷ [])
        (tree.if_expr z (tree.if_expr y x tree.absent) (tree.present (number 1)))
    -- `x < y < z`
    pub chain_of_comparisons : HasExpr (x_word ∷ lt ∷ y_word ∷ lt ∷ z_word ∷ [])
        (tree.compare x (tree.against cmp.lt y (tree.against cmp.lt z tree.compared)))
    -- `x not in y` is not (x in y)
    pub not_in_is_not_of_in : HasExpr (x_word ∷ not_word ∷ in_word ∷ y_word ∷ [])
        (tree.unary tree.logical_not (tree.binary bin.is_in x y))
    -- `()`
    pub tuple_of_none : HasExpr (paren_open ∷ paren_close ∷ []) (tree.tuple tree.no_more)
    -- `(x, 1,)`
    pub pair_with_last_comma : HasExpr (paren_open ∷ x_word ∷ comma ∷ int 1 ∷ comma ∷ paren_close ∷ [])
        (tree.tuple (tree.more x (tree.more (number 1) tree.no_more)))
    -- `[]`
    pub list_of_none : HasExpr (bracket_open ∷ bracket_close ∷ []) (tree.list tree.no_more)
    -- `{x: 1}`
    pub map_of_one : HasExpr (brace_open ∷ x_word ∷ colon ∷ int 1 ∷ brace_close ∷ [])
        (tree.map (tree.more x tree.no_more) (tree.more (number 1) tree.no_more))
    -- `x.y[1:]`
    pub attribute_and_slice : HasExpr (x_word ∷ dot ∷ y_word ∷ bracket_open ∷ int 1 ∷ colon ∷ bracket_close ∷ [])
        (tree.slice (tree.attribute x (codes "y")) (tree.present (number 1)) tree.absent tree.absent)
    -- `x(1, *y, z=1)`
    pub arguments_of_each_kind : HasExpr (x_word ∷ paren_open ∷ int 1 ∷ comma ∷ mul ∷ y_word ∷ comma ∷ z_word ∷ assign ∷ int 1 ∷ paren_close ∷ [])
        (tree.call x (tree.pos (number 1) (tree.pos_splat y (tree.kwarg (codes "z") (number 1) tree.no_args))))
    -- `x | y is not z`: a filter, then the opposite of a test
    pub filter_then_opposite_of_test : HasExpr (x_word ∷ pipe ∷ y_word ∷ is_word ∷ not_word ∷ z_word ∷ [])
        (tree.unary tree.logical_not (tree.test (tree.filter (tree.present x) (codes "y") tree.no_args) (codes "z") tree.no_args))
    -- `"a" "b"` is one text
    pub texts_join : HasExpr (str (codes "a") ∷ str (codes "b") ∷ [])
        (tree.constant (f.of_str (codes "ab")))

  pub record StmtExamples : Type 0 where
    -- `a{{ x }}`
    pub data_and_output : HasStmts (template_data (codes "a") ∷ variable_start ∷ x_word ∷ variable_end ∷ [])
        (also (tree.data_text (codes "a")) (also (tree.output x) done))
    -- `{% if x %}a{% elif y %}{% endif %}`
    pub if_with_elif : HasStmt (block_start ∷ if_word ∷ x_word ∷ block_end ∷ template_data (codes "a") ∷ block_start ∷ elif_word ∷ y_word ∷ block_end ∷ block_start ∷ endif_word ∷ block_end ∷ [])
        (tree.if_cond x (also (tree.data_text (codes "a")) done) (also (tree.if_cond y done done) done))
    -- `{% set (x, ) = 1 %}`
    pub set_of_list_in_parentheses : HasStmt (block_start ∷ ident (codes "set") ∷ paren_open ∷ x_word ∷ comma ∷ paren_close ∷ assign ∷ int 1 ∷ block_end ∷ [])
        (tree.assignment (tree.list (tree.more x tree.no_more)) (number 1))
    -- `{% block x %}{% endblock x %}`
    pub block_with_end_name : HasStmt (block_start ∷ ident (codes "block") ∷ x_word ∷ block_end ∷ block_start ∷ endblock_word ∷ x_word ∷ block_end ∷ [])
        (tree.named_block (codes "x") false done)
    -- `{% for x in y %}{% break %}{% else %}{% do z() %}{% endfor %}`
    pub loop_with_break_else_and_do : HasStmt (block_start ∷ ident (codes "for") ∷ x_word ∷ in_word ∷ y_word ∷ block_end ∷ block_start ∷ ident (codes "break") ∷ block_end ∷ block_start ∷ else_word ∷ block_end ∷ block_start ∷ ident (codes "do") ∷ z_word ∷ paren_open ∷ paren_close ∷ block_end ∷ block_start ∷ endfor_word ∷ block_end ∷ [])
        (tree.for_loop tt x y tree.absent false (also tree.break_loop done) (also (tree.do_call z tree.no_args) done))
    -- `{% if x %}{% else %}a{% endif %}`
    pub if_with_else : HasStmt (block_start ∷ if_word ∷ x_word ∷ block_end ∷ block_start ∷ else_word ∷ block_end ∷ template_data (codes "a") ∷ block_start ∷ endif_word ∷ block_end ∷ [])
        (tree.if_cond x done (also (tree.data_text (codes "a")) done))
    -- `{% for x, y in x if y recursive %}{% continue %}{% endfor %}`
    pub recursive_loop_with_filter : HasStmt (block_start ∷ ident (codes "for") ∷ x_word ∷ comma ∷ y_word ∷ in_word ∷ x_word ∷ if_word ∷ y_word ∷ recursive_word ∷ block_end ∷ block_start ∷ ident (codes "continue") ∷ block_end ∷ block_start ∷ endfor_word ∷ block_end ∷ [])
        (tree.for_loop tt (tree.list (tree.more x (tree.more y tree.no_more))) x (tree.present y) true (also tree.continue_loop done) done)
    -- `{% with x = 1, (y) = 2 %}{% endwith %}`
    pub with_two_bindings : HasStmt (block_start ∷ with_word ∷ x_word ∷ assign ∷ int 1 ∷ comma ∷ paren_open ∷ y_word ∷ paren_close ∷ assign ∷ int 2 ∷ block_end ∷ block_start ∷ endwith_word ∷ block_end ∷ [])
        (tree.with_block ((x, number 1) ∷ (y, number 2) ∷ []) done)
    -- `{% with %}a{% endwith %}`
    pub with_no_binding : HasStmt (block_start ∷ with_word ∷ block_end ∷ template_data (codes "a") ∷ block_start ∷ endwith_word ∷ block_end ∷ [])
        (tree.with_block [] (also (tree.data_text (codes "a")) done))
    -- `{% set x.y = 1, %}`
    pub set_of_attribute_to_tuple : HasStmt (block_start ∷ ident (codes "set") ∷ x_word ∷ dot ∷ y_word ∷ assign ∷ int 1 ∷ comma ∷ block_end ∷ [])
        (tree.assignment (tree.attribute x (codes "y")) (tree.tuple (tree.more (number 1) tree.no_more)))
    -- `{% set x | y | x(1) %}a{% endset %}`
    pub set_block_with_filters : HasStmt (block_start ∷ ident (codes "set") ∷ x_word ∷ pipe ∷ y_word ∷ pipe ∷ x_word ∷ paren_open ∷ int 1 ∷ paren_close ∷ block_end ∷ template_data (codes "a") ∷ block_start ∷ endset_word ∷ block_end ∷ [])
        (tree.set_block x (tree.present (tree.filter (tree.present (tree.filter tree.absent (codes "y") tree.no_args)) (codes "x") (tree.pos (number 1) tree.no_args))) (also (tree.data_text (codes "a")) done))
    -- `{% autoescape x %}{% endautoescape %}`
    pub autoescape_block : HasStmt (block_start ∷ ident (codes "autoescape") ∷ x_word ∷ block_end ∷ block_start ∷ endautoescape_word ∷ block_end ∷ [])
        (tree.auto_escape x done)
    -- `{% filter x %}a{% endfilter %}`
    pub filter_block_of_one : HasStmt (block_start ∷ ident (codes "filter") ∷ x_word ∷ block_end ∷ template_data (codes "a") ∷ block_start ∷ endfilter_word ∷ block_end ∷ [])
        (tree.filter_block (tree.filter tree.absent (codes "x") tree.no_args) (also (tree.data_text (codes "a")) done))
    -- `{% block x scoped required %} {% endblock %}`
    pub required_block : HasStmt (block_start ∷ ident (codes "block") ∷ x_word ∷ scoped_word ∷ required_word ∷ block_end ∷ template_data (codes " ") ∷ block_start ∷ endblock_word ∷ block_end ∷ [])
        (tree.named_block (codes "x") true (also (tree.data_text (codes " ")) done))
    -- `{% block x %}{% block y %}{% endblock %}{% endblock %}`
    pub block_in_block : HasStmt (block_start ∷ ident (codes "block") ∷ x_word ∷ block_end ∷ block_start ∷ ident (codes "block") ∷ y_word ∷ block_end ∷ block_start ∷ endblock_word ∷ block_end ∷ block_start ∷ endblock_word ∷ block_end ∷ [])
        (tree.named_block (codes "x") false (also (tree.named_block (codes "y") false done) done))
    -- `{% extends x %}`
    pub extends_alone : HasStmt (block_start ∷ ident (codes "extends") ∷ x_word ∷ block_end ∷ [])
        (tree.extends x)
    -- `{% include x ignore missing with context %}`
    pub include_with_context_last : HasStmt (block_start ∷ ident (codes "include") ∷ x_word ∷ ignore_word ∷ missing_word ∷ with_word ∷ context_word ∷ block_end ∷ [])
        (tree.include x true)
    -- `{% include x without context ignore missing %}`
    pub include_with_context_first : HasStmt (block_start ∷ ident (codes "include") ∷ x_word ∷ without_word ∷ context_word ∷ ignore_word ∷ missing_word ∷ block_end ∷ [])
        (tree.include x true)
    -- `{% import x as y with context %}`
    pub import_with_context : HasStmt (block_start ∷ import_word ∷ x_word ∷ as_word ∷ y_word ∷ with_word ∷ context_word ∷ block_end ∷ [])
        (tree.import_all x y)
    -- `{% from x import x, y as x, %}`
    pub from_import_with_alias : HasStmt (block_start ∷ ident (codes "from") ∷ x_word ∷ import_word ∷ x_word ∷ comma ∷ y_word ∷ as_word ∷ x_word ∷ comma ∷ block_end ∷ [])
        (tree.from_import x ((x, tree.absent) ∷ (y, tree.present x) ∷ []))
    -- `{% macro z(x, y=1) %}{{ x }}{% endmacro %}`
    pub macro_with_default : HasStmt (block_start ∷ ident (codes "macro") ∷ z_word ∷ paren_open ∷ x_word ∷ comma ∷ y_word ∷ assign ∷ int 1 ∷ paren_close ∷ block_end ∷ variable_start ∷ x_word ∷ variable_end ∷ block_start ∷ endmacro_word ∷ block_end ∷ [])
        (tree.declare (tree.macro tt (codes "z") (x ∷ y ∷ []) (number 1 ∷ []) (also (tree.output x) done)))
    -- `{% call (x) y() %}{% endcall %}`
    pub call_block_with_parameter : HasStmt (block_start ∷ ident (codes "call") ∷ paren_open ∷ x_word ∷ paren_close ∷ y_word ∷ paren_open ∷ paren_close ∷ block_end ∷ block_start ∷ endcall_word ∷ block_end ∷ [])
        (tree.call_block y tree.no_args (tree.macro tt (codes "caller") (x ∷ []) [] done))

  pub record ExprRefusals : Type 0 where
    -- `2 **`
    pub power_without_right_side : HasNoExpr (int 2 ∷ pow ∷ [])
    -- `x y`
    pub two_variables : HasNoExpr (x_word ∷ y_word ∷ [])
    -- `x(y=1, 2)`
    pub plain_argument_after_keyword : HasNoExpr (x_word ∷ paren_open ∷ y_word ∷ assign ∷ int 1 ∷ comma ∷ int 2 ∷ paren_close ∷ [])

  pub record StmtRefusals : Type 0 where
    -- `{% block x %}{% endblock %}{% block x %}{% endblock %}`
    pub two_blocks_of_one_name : HasNoStmts (block_start ∷ ident (codes "block") ∷ x_word ∷ block_end ∷ block_start ∷ endblock_word ∷ block_end ∷ block_start ∷ ident (codes "block") ∷ x_word ∷ block_end ∷ block_start ∷ endblock_word ∷ block_end ∷ [])
    -- `{% break %}`
    pub break_outside_of_loop : HasNoStmts (block_start ∷ ident (codes "break") ∷ block_end ∷ [])
    -- `{% macro x() %}{% block x %}{% endblock %}{% endmacro %}`
    pub block_in_macro : HasNoStmts (block_start ∷ ident (codes "macro") ∷ x_word ∷ paren_open ∷ paren_close ∷ block_end ∷ block_start ∷ ident (codes "block") ∷ x_word ∷ block_end ∷ block_start ∷ endblock_word ∷ block_end ∷ block_start ∷ endmacro_word ∷ block_end ∷ [])
    -- `{% if x %}`
    pub if_without_end : HasNoStmts (block_start ∷ if_word ∷ x_word ∷ block_end ∷ [])
    -- `{% if x %}` and the tokens `endif` and `%}` alone, which no text has
    pub end_word_without_tag : HasNoStmts (block_start ∷ if_word ∷ x_word ∷ block_end ∷ endif_word ∷ block_end ∷ [])
    -- `{% endif %}`
    pub end_word_alone : HasNoStmts (block_start ∷ endif_word ∷ block_end ∷ [])
    -- `{% do x %}`
    pub do_without_call : HasNoStmts (block_start ∷ ident (codes "do") ∷ x_word ∷ block_end ∷ [])
    -- `{% set loop = 1 %}`
    pub set_of_reserved_name : HasNoStmts (block_start ∷ ident (codes "set") ∷ ident (codes "loop") ∷ assign ∷ int 1 ∷ block_end ∷ [])
    -- `{% macro x(y=1, z) %}{% endmacro %}`
    pub no_default_after_one : HasNoStmts (block_start ∷ ident (codes "macro") ∷ x_word ∷ paren_open ∷ y_word ∷ assign ∷ int 1 ∷ comma ∷ z_word ∷ paren_close ∷ block_end ∷ block_start ∷ endmacro_word ∷ block_end ∷ [])
    -- `{% block x %}{% endblock y %}`
    pub other_end_name : HasNoStmts (block_start ∷ ident (codes "block") ∷ x_word ∷ block_end ∷ block_start ∷ endblock_word ∷ y_word ∷ block_end ∷ [])
