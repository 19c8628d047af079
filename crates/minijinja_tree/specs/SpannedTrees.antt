-- Trees whose nodes have spans, over what values hold.
pub use Rattle.minijinja_tree_expr.specs.SpannedTrees.{Expr, variable, constant, slice, unary, binary, compare, if_expr, filter, test, attribute, item, call, list, tuple, map, Optional, absent, present, Exprs, no_more, more, Comparisons, compared, against, Args, no_args, pos, pos_splat, kwarg, kwarg_splat, Arg, positional, starred, keyword, double_starred, optional_of, exprs_of, comparisons_of, args_of, bare_expr, bare_optional, bare_exprs, bare_comparisons, bare_args, bare_bindings, bare_list, bare_names}
use Rattle.std.specs.Prelude.{Bool, List, [], ◌∷◌, Option}
use Rattle.std.specs.Prelude as std
use Rattle.std.specs.List.{filter_map}
use Rattle.minijinja_syntax.specs.Texts.{Text}
use Rattle.minijinja_syntax.specs.declared.tokens.Span.{Span}
use Rattle.minijinja_tree.specs.Tree as bare

mutual
  pub data Stmt (C : Type 0) : Type 0 where
    template : Stmts C → Span → Stmt C
    data_text : Text → Span → Stmt C
    output : Expr C → Span → Stmt C
    assignment : Expr C → Expr C → Span → Stmt C
    for_loop : Expr C → Expr C → Optional C → Bool → Stmts C → Stmts C → Span → Stmt C
    if_cond : Expr C → Stmts C → Stmts C → Span → Stmt C
    with_block : List (Expr C × Expr C) → Stmts C → Span → Stmt C
    set_block : Expr C → Optional C → Stmts C → Span → Stmt C
    auto_escape : Expr C → Stmts C → Span → Stmt C
    filter_block : Expr C → Stmts C → Span → Stmt C
    named_block : Text → Bool → Stmts C → Span → Stmt C
    extends : Expr C → Span → Stmt C
    include : Expr C → Bool → Span → Stmt C
    import_all : Expr C → Expr C → Span → Stmt C
    from_import : Expr C → List (Expr C × Optional C) → Span → Stmt C
    -- the statement stands where the macro does
    declare : Macro C → Stmt C
    -- what is called, the arguments, where the call stands, and the macro
    call_block : Expr C → Args C → Span → Macro C → Span → Stmt C
    -- what is called, the arguments, and where the call stands
    do_call : Expr C → Args C → Span → Span → Stmt C
    break_loop continue_loop : Span → Stmt C

  pub data Macro (C : Type 0) : Type 0 where
    macro : Text → List (Expr C) → List (Expr C) → Stmts C → Span → Macro C

  pub data Stmts (C : Type 0) : Type 0 where
    done : Stmts C
    also : Stmt C → Stmts C → Stmts C

abbrev pub stmts_of : {C : Type 0} → List (Stmt C) → Stmts C
stmts_of [] = done
stmts_of (s ∷ rest) = also s (stmts_of rest)

-- a macro of arguments, each with its default
abbrev pub macro_of : {C : Type 0} → Text → List (Expr C × Option (Expr C)) → List (Stmt C) → Span → Macro C
macro_of x ps ss s = macro x (std.map (λ p. p.0) ps) (filter_map (λ p. p.1) ps) (stmts_of ss) s

-- ---- without the spans

-- loops and macros have no label of their own
abbrev mutual
  pub bare_stmt : {C : Type 0} → Stmt C → bare.Stmt C (Unit {0})
  bare_stmt (template ss s) = bare.template (bare_stmts ss)
  bare_stmt (data_text t s) = bare.data_text t
  bare_stmt (output e s) = bare.output (bare_expr e)
  bare_stmt (assignment t e s) = bare.assignment (bare_expr t) (bare_expr e)
  bare_stmt (for_loop t e only again ss other s) = bare.for_loop tt (bare_expr t) (bare_expr e) (bare_optional only) again (bare_stmts ss) (bare_stmts other)
  bare_stmt (if_cond e ss other s) = bare.if_cond (bare_expr e) (bare_stmts ss) (bare_stmts other)
  bare_stmt (with_block bs ss s) = bare.with_block (bare_bindings bs) (bare_stmts ss)
  bare_stmt (set_block t e ss s) = bare.set_block (bare_expr t) (bare_optional e) (bare_stmts ss)
  bare_stmt (auto_escape e ss s) = bare.auto_escape (bare_expr e) (bare_stmts ss)
  bare_stmt (filter_block e ss s) = bare.filter_block (bare_expr e) (bare_stmts ss)
  bare_stmt (named_block x required ss s) = bare.named_block x required (bare_stmts ss)
  bare_stmt (extends e s) = bare.extends (bare_expr e)
  bare_stmt (include e ignore s) = bare.include (bare_expr e) ignore
  bare_stmt (import_all e t s) = bare.import_all (bare_expr e) (bare_expr t)
  bare_stmt (from_import e ns s) = bare.from_import (bare_expr e) (bare_names ns)
  bare_stmt (declare m) = bare.declare (bare_macro m)
  bare_stmt (call_block e args from m s) = bare.call_block (bare_expr e) (bare_args args) (bare_macro m)
  bare_stmt (do_call e args from s) = bare.do_call (bare_expr e) (bare_args args)
  bare_stmt (break_loop s) = bare.break_loop
  bare_stmt (continue_loop s) = bare.continue_loop

  pub bare_stmts : {C : Type 0} → Stmts C → bare.Stmts C (Unit {0})
  bare_stmts done = bare.done
  bare_stmts (also s ss) = bare.also (bare_stmt s) (bare_stmts ss)

  pub bare_macro : {C : Type 0} → Macro C → bare.Macro C (Unit {0})
  bare_macro (macro x args defaults ss s) = bare.macro tt x (bare_list args) (bare_list defaults) (bare_stmts ss)
