-- The names that a part of a template needs from outside.
use Rattle.std.specs.Prelude.{not, List, [], ◌∷◌, ◌++◌, filter, codes}
use Rattle.std.specs.Str.{bytes_eq}
use Rattle.std.specs.Ordering.{nat_cmp}
use Rattle.std.specs.BTreeSet.{insert_key}
use Rattle.std.specs.Cmp.Lexicographic.{slice_cmp}
use Rattle.minijinja_syntax.specs.Texts.{Text}
use Rattle.minijinja_tree.specs.Tree as tree
use Rattle.minijinja_tree.specs.Tree.{Expr, variable, constant, slice, unary, binary, compare, if_expr, test, attribute, item, call, list, tuple, map, Optional, absent, present, Exprs, no_more, more, Comparisons, compared, against, Args, no_args, pos, pos_splat, kwarg, kwarg_splat, Stmt, template, data_text, output, assignment, for_loop, if_cond, with_block, set_block, auto_escape, filter_block, named_block, extends, include, import_all, from_import, declare, call_block, do_call, break_loop, continue_loop, Stmts, done, also, Macro, macro, macro_name, Parameter, parameters, stored_as}

-- The way through a part, in order of execution: names that occur, names that are stored, and
-- regions. A name that is stored in a region is stored up to the end of the region.
pub data Way : Type 0 where
  end : Way
  occurs : Text → Way → Way
  stores : Text → Way → Way
  region : (within : Way) → Way → Way

-- the names that occur free, in order: those that are not stored before, in a region that is still
-- open
abbrev pub free : Way → List Text
free end = []
free (occurs x w) = x ∷ free w
free (stores x w) = filter (λ y. not (bytes_eq y x)) (free w)
free (region within w) = free within ++ free w

-- names in order of their bytes, each once
abbrev pub in_order : List Text → List Text
in_order [] = []
in_order (x ∷ xs) = insert_key (slice_cmp nat_cmp) (in_order xs) x

-- one piece of the way after another
abbrev pub in_row : List (Way → Way) → Way → Way
in_row [] w = w
in_row (v ∷ vs) w = v (in_row vs w)

-- one piece of the way after another, in turn from two rows
abbrev pub in_turn : List (Way → Way) → List (Way → Way) → Way → Way
in_turn [] vs w = in_row vs w
in_turn (k ∷ ks) [] w = k (in_turn ks [] w)
in_turn (k ∷ ks) (v ∷ vs) w = k (v (in_turn ks vs w))

-- the way through an expression, and the rest of the way
abbrev mutual
  pub through : {C : Type 0} → Expr C → Way → Way
  through (variable x) w = occurs x w
  through (constant c) w = w
  through (slice e start stop step) w = through e (through_if_any start (through_if_any stop (through_if_any step w)))
  through (unary o e) w = through e w
  through (binary o a b) w = through a (through b w)
  through (compare e cs) w = through e (through_compared cs w)
  through (if_expr t a b) w = through t (through a (through_if_any b w))
  through (tree.filter e x args) w = through_if_any e (through_positional args (through_keyword args w))
  through (test e x args) w = through e (through_positional args (through_keyword args w))
  through (attribute e x) w = through e w
  through (item e k) w = through e (through k w)
  through (call e args) w = through e (through_positional args (through_keyword args w))
  through (list es) w = through_all es w
  through (tuple es) w = through_all es w
  through (map ks vs) w = in_turn (each ks) (each vs) w

  pub through_if_any : {C : Type 0} → Optional C → Way → Way
  through_if_any absent w = w
  through_if_any (present e) w = through e w

  -- expressions in order
  pub through_all : {C : Type 0} → Exprs C → Way → Way
  through_all no_more w = w
  through_all (more e es) w = through e (through_all es w)

  -- each by itself
  pub each : {C : Type 0} → Exprs C → List (Way → Way)
  each no_more = []
  each (more e es) = through e ∷ each es

  pub through_compared : {C : Type 0} → Comparisons C → Way → Way
  through_compared compared w = w
  through_compared (against o e cs) w = through e (through_compared cs w)

  -- positional and `*` arguments
  pub through_positional : {C : Type 0} → Args C → Way → Way
  through_positional no_args w = w
  through_positional (pos e args) w = through e (through_positional args w)
  through_positional (pos_splat e args) w = through e (through_positional args w)
  through_positional (kwarg x e args) w = through_positional args w
  through_positional (kwarg_splat e args) w = through_positional args w

  -- keyword and `**` arguments
  pub through_keyword : {C : Type 0} → Args C → Way → Way
  through_keyword no_args w = w
  through_keyword (pos e args) w = through_keyword args w
  through_keyword (pos_splat e args) w = through_keyword args w
  through_keyword (kwarg x e args) w = through e (through_keyword args w)
  through_keyword (kwarg_splat e args) w = through e (through_keyword args w)

-- the way through a target: a variable is stored, and the operand of an attribute is looked up
abbrev mutual
  pub to_target : {C : Type 0} → Expr C → Way → Way
  to_target (variable x) w = stores x w
  to_target (list es) w = to_targets es w
  to_target e w = through e w

  pub to_targets : {C : Type 0} → Exprs C → Way → Way
  to_targets no_more w = w
  to_targets (more e es) w = to_target e (to_targets es w)

-- targets with their values, in turn
abbrev pub to_assignments : {C : Type 0} → List (Expr C × Expr C) → Way → Way
to_assignments [] w = w
to_assignments (a ∷ rest) w = through a.1 (to_target a.0 (to_assignments rest w))

-- names that are imported from a template are stored, the last one first
abbrev pub to_names : {C : Type 0} → List (Expr C × Optional C) → Way → Way
to_names [] w = w
to_names (n ∷ rest) w = to_names rest (to_target (stored_as n) w)

-- arguments of a macro, each after its default
abbrev pub to_parameters : {C : Type 0} → List (Parameter C) → Way → Way
to_parameters [] w = w
to_parameters (p ∷ ps) w = through_if_any p.default (to_target p.target (to_parameters ps w))

-- the pass of a loop's filter, if it has one
abbrev pub to_filter : {C : Type 0} → Expr C → Optional C → Way → Way
to_filter target absent w = w
to_filter target (present condition) w = region (to_target target (through condition end)) w

-- the way through a statement
abbrev mutual
  pub through_stmt : {C L : Type 0} → Stmt C L → Way → Way
  through_stmt (template ss) w = stores (codes "self") (through_stmts ss w)
  through_stmt (data_text t) w = w
  through_stmt (output e) w = through e w
  through_stmt (assignment target e) w = through e (to_target target w)
  through_stmt (for_loop n target e only recursive body else_body) w =
      through e (to_filter target only (region (stores (codes "loop") (to_target target (through_stmts body end))) (region (through_stmts else_body end) w)))
  through_stmt (if_cond e true_body false_body) w = through e (region (through_stmts true_body end) (region (through_stmts false_body end) w))
  through_stmt (with_block assignments body) w = region (to_assignments assignments (through_stmts body end)) w
  through_stmt (set_block target chain body) w = region (through_stmts body end) (through_if_any chain (to_target target w))
  through_stmt (auto_escape e body) w = through e (region (through_stmts body end) w)
  through_stmt (filter_block chain body) w = region (through_stmts body end) (through chain w)
  through_stmt (named_block x required body) w = region (stores (codes "super") (through_stmts body end)) w
  through_stmt (extends e) w = through e w
  through_stmt (include e ignore) w = through e w
  through_stmt (import_all e target) w = through e (to_target target w)
  through_stmt (from_import e names) w = through e (to_names names w)
  through_stmt (declare m) w = stores (macro_name m) (region (stores (codes "caller") (through_macro m end)) w)
  through_stmt (call_block e args m) w = through (call e args) (region (stores (codes "caller") (through_macro m end)) w)
  through_stmt (do_call e args) w = through (call e args) w
  through_stmt break_loop w = w
  through_stmt continue_loop w = w

  -- statements in order
  pub through_stmts : {C L : Type 0} → Stmts C L → Way → Way
  through_stmts done w = w
  through_stmts (also s rest) w = through_stmt s (through_stmts rest w)

  -- a macro by itself: its arguments, the last one first, and its body
  pub through_macro : {C L : Type 0} → Macro C L → Way → Way
  through_macro (macro n x args defaults body) w = to_parameters (parameters args defaults) (through_stmts body w)

-- the names that a macro needs from outside of it, in order of their bytes
abbrev pub closure : {C L : Type 0} → Macro C L → List Text
closure m = in_order (free (through_macro m end))
