-- Trees without spans, over what values hold.
pub use Rattle.minijinja_tree_expr.specs.Tree.{UnaryOp, logical_not, negation, Expr, variable, constant, slice, unary, binary, compare, if_expr, filter, test, attribute, item, call, list, tuple, map, Optional, absent, present, Exprs, no_more, more, Comparisons, compared, against, Args, no_args, pos, pos_splat, kwarg, kwarg_splat}
use Rattle.std.specs.Prelude.{Bool, true, false, List, [], ◌∷◌, ◌++◌, reverse}
use Rattle.minijinja_syntax.specs.Texts.{Text}

-- Statements. A loop and a macro have a label of any type L, by which they are named.
mutual
  pub data Stmt (C L : Type 0) : Type 0 where
    template : Stmts C L → Stmt C L
    -- text outside of tags
    data_text : Text → Stmt C L
    output : Expr C → Stmt C L
    -- the target and the value
    assignment : Expr C → Expr C → Stmt C L
    -- the target, the iterable, the test that items have to pass, whether it is recursive, the
    -- body, and the else body
    for_loop : L → Expr C → Expr C → Optional C → Bool → Stmts C L → Stmts C L → Stmt C L
    -- the test, the true body and the false body
    if_cond : Expr C → Stmts C L → Stmts C L → Stmt C L
    -- each target with its value, and the body
    with_block : List (Expr C × Expr C) → Stmts C L → Stmt C L
    -- the target, the chain of filters and the body
    set_block : Expr C → Optional C → Stmts C L → Stmt C L
    -- whether to escape, and the body
    auto_escape : Expr C → Stmts C L → Stmt C L
    -- the chain of filters and the body
    filter_block : Expr C → Stmts C L → Stmt C L
    -- the name, whether another template has to override it, and the body
    named_block : Text → Bool → Stmts C L → Stmt C L
    -- the name of the template whose blocks these ones override
    extends : Expr C → Stmt C L
    -- the name of a template, and whether a missing one is ignored
    include : Expr C → Bool → Stmt C L
    -- the name of a template, and the target that its exports are stored to
    import_all : Expr C → Expr C → Stmt C L
    -- the name of a template, and the names that are imported from it, each with its alias
    from_import : Expr C → List (Expr C × Optional C) → Stmt C L
    declare : Macro C L → Stmt C L
    -- what is called, the arguments, and the macro that is passed with them
    call_block : Expr C → Args C → Macro C L → Stmt C L
    -- what is called, and the arguments
    do_call : Expr C → Args C → Stmt C L
    break_loop continue_loop : Stmt C L

  -- the label, the name, the arguments, the defaults, which are those of the last arguments, and
  -- the body
  pub data Macro (C L : Type 0) : Type 0 where
    macro : L → Text → List (Expr C) → List (Expr C) → Stmts C L → Macro C L

  pub data Stmts (C L : Type 0) : Type 0 where
    done : Stmts C L
    also : Stmt C L → Stmts C L → Stmts C L

abbrev pub stmts_of : {C L : Type 0} → List (Stmt C L) → Stmts C L
stmts_of [] = done
stmts_of (s ∷ rest) = also s (stmts_of rest)

-- whether there are any
abbrev pub are_any : {C L : Type 0} → Stmts C L → Bool
are_any done = false
are_any (also s rest) = true

abbrev pub macro_name : {C L : Type 0} → Macro C L → Text
macro_name (macro n x args defaults body) = x

-- an argument of a macro, and its default
pub record Parameter (C : Type 0) : Type 0 where
  pub target : Expr C
  pub default : Optional C

-- targets, of which the first ones have these defaults
abbrev pub defaulted : {C : Type 0} → List (Expr C) → List (Expr C) → List (Parameter C)
defaulted [] ds = []
defaulted (e ∷ es) [] = record { target = e; default = absent } ∷ defaulted es []
defaulted (e ∷ es) (d ∷ ds) = record { target = e; default = present d } ∷ defaulted es ds

-- the arguments of a macro, the last one first, with their defaults
abbrev pub parameters : {C : Type 0} → (args defaults : List (Expr C)) → List (Parameter C)
parameters args defaults = defaulted (reverse args) (reverse defaults)

-- the target of a name that is imported from a template: its alias, if it has one
abbrev pub stored_as : {C : Type 0} → Expr C × Optional C → Expr C
stored_as (e, absent) = e
stored_as (e, present alias) = alias

-- the names of variables
abbrev pub variable_names : {C : Type 0} → List (Expr C) → List Text
variable_names [] = []
variable_names (variable x ∷ es) = x ∷ variable_names es
variable_names (_ ∷ es) = variable_names es

-- ---- the blocks of a tree

pub record Block (C L : Type 0) : Type 0 where
  pub name : Text
  pub required : Bool
  pub body : Stmts C L

-- the blocks within a statement, each before those within it
abbrev mutual
  pub blocks : {C L : Type 0} → Stmt C L → List (Block C L)
  blocks (template ss) = all_blocks ss
  blocks (data_text t) = []
  blocks (output e) = []
  blocks (assignment target e) = []
  blocks (for_loop n target e only recursive body else_body) = all_blocks body ++ all_blocks else_body
  blocks (if_cond e true_body false_body) = all_blocks true_body ++ all_blocks false_body
  blocks (with_block assignments body) = all_blocks body
  blocks (set_block target chain body) = all_blocks body
  blocks (auto_escape e body) = all_blocks body
  blocks (filter_block chain body) = all_blocks body
  blocks (named_block x required body) = record { name = x; required = required; body = body } ∷ all_blocks body
  blocks (extends e) = []
  blocks (include e ignore) = []
  blocks (import_all e target) = []
  blocks (from_import e names) = []
  blocks (declare m) = macro_blocks m
  blocks (call_block e args m) = macro_blocks m
  blocks (do_call e args) = []
  blocks break_loop = []
  blocks continue_loop = []

  pub all_blocks : {C L : Type 0} → Stmts C L → List (Block C L)
  all_blocks done = []
  all_blocks (also s rest) = blocks s ++ all_blocks rest

  pub macro_blocks : {C L : Type 0} → Macro C L → List (Block C L)
  macro_blocks (macro n x args defaults body) = all_blocks body

-- their names
abbrev pub names_of_blocks : {C L : Type 0} → List (Block C L) → List Text
names_of_blocks [] = []
names_of_blocks (b ∷ bs) = b.name ∷ names_of_blocks bs

abbrev pub block_names : {C L : Type 0} → Stmt C L → List Text
block_names s = names_of_blocks (blocks s)

abbrev pub all_block_names : {C L : Type 0} → Stmts C L → List Text
all_block_names ss = names_of_blocks (all_blocks ss)
