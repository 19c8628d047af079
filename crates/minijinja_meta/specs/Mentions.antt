-- Which variables occur in a template, and which of them it does not store itself.
pub use Rattle.minijinja_tree.specs.FreeNames.{in_order}
use Rattle.std.specs.Prelude.{Bool, not, if◌then◌else◌, List, [], ◌∷◌, ◌++◌, codes}
use Rattle.std.specs.Prelude as std
use Rattle.std.specs.List.{list_any}
use Rattle.std.specs.Str.{bytes_eq}
use Rattle.minijinja_syntax.specs.Texts.{Text}
use Rattle.minijinja_syntax.specs.declared.tokens.Span.{Span}
use Rattle.minijinja_tree.specs.SpannedTrees.{Expr, variable, constant, slice, unary, binary, compare, if_expr, filter, test, attribute, item, call, list, tuple, map, Optional, absent, present, Exprs, no_more, more, Comparisons, compared, against, Args, no_args, pos, pos_splat, kwarg, kwarg_splat, Stmt, template, data_text, output, assignment, for_loop, if_cond, with_block, set_block, auto_escape, filter_block, named_block, extends, include, import_all, from_import, declare, call_block, do_call, break_loop, continue_loop, Stmts, done, also, Macro, macro}

-- a variable that occurs, the attributes that are taken right on it, the first one first, and where
-- the variable stands
pub record Mention : Type 0 where
  pub name : Text
  pub attributes : List Text
  pub span : Span

-- The way through a part of a template, in order of execution: variables that occur, names that are
-- stored, macros that are declared, and regions. A name that is stored in a region is stored up to
-- the end of the region.
pub data Way : Type 0 where
  end : Way
  occurs : Mention → Way → Way
  stores : Text → Way → Way
  -- the name of a macro statement, and where its macro stands
  declares : Text → Span → Way → Way
  region : (within : Way) → Way → Way

-- ---- what stands on a way

-- whether the name is one of these
abbrev pub is_among : Text → List Text → Bool
is_among x xs = list_any (bytes_eq x) xs

-- Each occurrence in order, and whether it is free: no store of its name stands before it in a
-- region that is still open. These names are stored before the way begins.
abbrev pub marked : (stored : List Text) → Way → List (Mention × Bool)
marked stored end = []
marked stored (occurs m w) = (m, not (is_among m.name stored)) ∷ marked stored w
marked stored (stores x w) = marked (x ∷ stored) w
marked stored (declares x s w) = marked stored w
marked stored (region within w) = marked stored within ++ marked stored w

-- each occurrence, where nothing is stored before
abbrev pub occurrences : Way → List (Mention × Bool)
occurrences w = marked [] w

-- the free ones of these
abbrev pub free_of : List (Mention × Bool) → List Mention
free_of [] = []
free_of (o ∷ os) = if o.1 then o.0 ∷ free_of os else free_of os

-- the variables that occur free, in order
abbrev pub free : Way → List Mention
free w = free_of (occurrences w)

-- the macro statements in order, each with its name and where its macro stands
abbrev pub declared : Way → List (Text × Span)
declared end = []
declared (occurs m w) = declared w
declared (stores x w) = declared w
declared (declares x s w) = (x, s) ∷ declared w
declared (region within w) = declared within ++ declared w

-- ---- names

-- attributes, each after a dot
abbrev pub after_dots : List Text → Text
after_dots [] = []
after_dots (y ∷ ys) = codes "." ++ (y ++ after_dots ys)

-- a name with its attributes, as `a.b.c`
abbrev pub dotted : Mention → Text
dotted m = m.name ++ after_dots m.attributes

abbrev pub names_of : List Mention → List Text
names_of ms = std.map (λ m. m.name) ms

-- the names of what occurs free, and the same with their attributes
abbrev pub plain_names : Way → List Text
plain_names w = in_order (names_of (free w))

abbrev pub nested_names : Way → List Text
nested_names w = in_order (std.map dotted (free w))

-- the attributes that are taken right on what is not an attribute itself, and then these
abbrev pub attributes_before : {C : Type 0} → Expr C → List Text → List Text
attributes_before (attribute e y s) ys = attributes_before e (y ∷ ys)
attributes_before _ ys = ys

-- the attributes of a chain, as b and c of `a.b.c`
abbrev pub attributes_of : {C : Type 0} → Expr C → List Text
attributes_of e = attributes_before e []

-- ---- the way through a tree

-- one piece of the way after another
abbrev pub in_row : List (Way → Way) → Way → Way
in_row [] w = w
in_row (v ∷ vs) w = v (in_row vs w)

-- one piece of the way after another, in turn from two rows
abbrev pub in_turn : List (Way → Way) → List (Way → Way) → Way → Way
in_turn [] vs w = in_row vs w
in_turn (k ∷ ks) [] w = k (in_turn ks [] w)
in_turn (k ∷ ks) (v ∷ vs) w = k (v (in_turn ks vs w))

abbrev mutual
  -- the way through an expression of which these attributes are taken, the first one first
  pub chained : {C : Type 0} → List Text → Expr C → Way → Way
  chained ys (variable x s) w = occurs (record { name = x; attributes = ys; span = s }) w
  chained ys (attribute e y s) w = chained (y ∷ ys) e w
  chained ys (constant c s) w = w
  chained ys (slice e start stop step s) w = chained [] e (through_if_any start (through_if_any stop (through_if_any step w)))
  chained ys (unary o e s) w = chained [] e w
  chained ys (binary o a b s) w = chained [] a (chained [] b w)
  chained ys (compare e cs s) w = chained [] e (through_compared cs w)
  chained ys (if_expr t a b s) w = chained [] t (chained [] a (through_if_any b w))
  chained ys (filter e x args s) w = through_if_any e (through_positional args (through_keyword args w))
  chained ys (test e x args s) w = chained [] e (through_positional args (through_keyword args w))
  chained ys (item e k s) w = chained [] e (chained [] k w)
  chained ys (call e args s) w = chained [] e (through_positional args (through_keyword args w))
  chained ys (list es s) w = through_all es w
  chained ys (tuple es s) w = through_all es w
  chained ys (map ks vs s) w = in_turn (each ks) (each vs) w

  pub through_if_any : {C : Type 0} → Optional C → Way → Way
  through_if_any absent w = w
  through_if_any (present e) w = chained [] e w

  -- expressions in order
  pub through_all : {C : Type 0} → Exprs C → Way → Way
  through_all no_more w = w
  through_all (more e es) w = chained [] e (through_all es w)

  -- each by itself
  pub each : {C : Type 0} → Exprs C → List (Way → Way)
  each no_more = []
  each (more e es) = chained [] e ∷ each es

  pub through_compared : {C : Type 0} → Comparisons C → Way → Way
  through_compared compared w = w
  through_compared (against o e cs) w = chained [] e (through_compared cs w)

  -- positional and `*` arguments
  pub through_positional : {C : Type 0} → Args C → Way → Way
  through_positional no_args w = w
  through_positional (pos e args) w = chained [] e (through_positional args w)
  through_positional (pos_splat e args) w = chained [] e (through_positional args w)
  through_positional (kwarg x e args) w = through_positional args w
  through_positional (kwarg_splat e args) w = through_positional args w

  -- keyword and `**` arguments
  pub through_keyword : {C : Type 0} → Args C → Way → Way
  through_keyword no_args w = w
  through_keyword (pos e args) w = through_keyword args w
  through_keyword (pos_splat e args) w = through_keyword args w
  through_keyword (kwarg x e args) w = chained [] e (through_keyword args w)
  through_keyword (kwarg_splat e args) w = chained [] e (through_keyword args w)

-- the way through an expression
abbrev pub through : {C : Type 0} → Expr C → Way → Way
through e w = chained [] e w

-- the way through what is called, and the arguments
abbrev pub through_call : {C : Type 0} → Expr C → Args C → Way → Way
through_call e args w = through e (through_positional args (through_keyword args w))

-- The way through a target: a variable is stored. Of an attribute that is assigned to, the operand
-- is looked up, and so the attribute itself is part of no chain.
abbrev mutual
  pub to_target : {C : Type 0} → Expr C → Way → Way
  to_target (variable x s) w = stores x w
  to_target (attribute e y s) w = through e w
  to_target (list es s) w = to_targets es w
  to_target e w = through e w

  pub to_targets : {C : Type 0} → Exprs C → Way → Way
  to_targets no_more w = w
  to_targets (more e es) w = to_target e (to_targets es w)

-- targets with their values, each value before its target
abbrev pub to_assignments : {C : Type 0} → List (Expr C × Expr C) → Way → Way
to_assignments [] w = w
to_assignments (a ∷ rest) w = through a.1 (to_target a.0 (to_assignments rest w))

-- a name that is imported from a template is stored, or its alias if it has one
abbrev pub to_name : {C : Type 0} → Expr C × Optional C → Way → Way
to_name (e, absent) w = to_target e w
to_name (e, present alias) w = to_target alias w

-- names that are imported from a template, the last one first
abbrev pub to_names : {C : Type 0} → List (Expr C × Optional C) → Way → Way
to_names [] w = w
to_names (n ∷ rest) w = to_names rest (to_name n w)

-- targets, of which the first ones have these defaults, each default before its target
abbrev pub to_defaulted : {C : Type 0} → List (Expr C) → List (Expr C) → Way → Way
to_defaulted [] ds w = w
to_defaulted (e ∷ es) [] w = to_target e (to_defaulted es [] w)
to_defaulted (e ∷ es) (d ∷ ds) w = through d (to_target e (to_defaulted es ds w))

-- the arguments of a macro, the last one first: the defaults are those of the last arguments
abbrev pub to_parameters : {C : Type 0} → (args defaults : List (Expr C)) → Way → Way
to_parameters args defaults w = to_defaulted (std.reverse args) (std.reverse defaults) w

-- the pass of a loop's filter, if it has one
abbrev pub to_filter : {C : Type 0} → Expr C → Optional C → Way → Way
to_filter target absent w = w
to_filter target (present condition) w = region (to_target target (through condition end)) w

-- a macro statement, which stores the macro's name
abbrev pub to_macro : {C : Type 0} → Macro C → Way → Way
to_macro (macro x args defaults body s) w = declares x s (stores x w)

-- the way through a statement
abbrev mutual
  pub through_stmt : {C : Type 0} → Stmt C → Way → Way
  through_stmt (template ss s) w = stores (codes "self") (through_stmts ss w)
  through_stmt (data_text t s) w = w
  through_stmt (output e s) w = through e w
  through_stmt (assignment target e s) w = through e (to_target target w)
  through_stmt (for_loop target e only recursive body else_body s) w =
      through e (to_filter target only (region (stores (codes "loop") (to_target target (through_stmts body end))) (region (through_stmts else_body end) w)))
  through_stmt (if_cond e true_body false_body s) w = through e (region (through_stmts true_body end) (region (through_stmts false_body end) w))
  through_stmt (with_block assignments body s) w = region (to_assignments assignments (through_stmts body end)) w
  through_stmt (set_block target chain body s) w = region (through_stmts body end) (through_if_any chain (to_target target w))
  through_stmt (auto_escape e body s) w = through e (region (through_stmts body end) w)
  through_stmt (filter_block chain body s) w = region (through_stmts body end) (through chain w)
  through_stmt (named_block x required body s) w = region (stores (codes "super") (through_stmts body end)) w
  through_stmt (extends e s) w = through e w
  through_stmt (include e ignore s) w = through e w
  through_stmt (import_all e target s) w = through e (to_target target w)
  through_stmt (from_import e names s) w = through e (to_names names w)
  through_stmt (declare m) w = to_macro m (region (stores (codes "caller") (through_macro m end)) w)
  through_stmt (call_block e args from m s) w = through_call e args (region (stores (codes "caller") (through_macro m end)) w)
  through_stmt (do_call e args from s) w = through_call e args w
  through_stmt (break_loop s) w = w
  through_stmt (continue_loop s) w = w

  -- statements in order
  pub through_stmts : {C : Type 0} → Stmts C → Way → Way
  through_stmts done w = w
  through_stmts (also s rest) w = through_stmt s (through_stmts rest w)

  -- a macro by itself: its arguments, and its body
  pub through_macro : {C : Type 0} → Macro C → Way → Way
  through_macro (macro x args defaults body s) w = to_parameters args defaults (through_stmts body w)

-- the way through a whole tree
abbrev pub way : {C : Type 0} → Stmt C → Way
way t = through_stmt t end
