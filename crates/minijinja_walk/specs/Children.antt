-- The nodes right below a node of a tree.
use Rattle.std.specs.Prelude.{List, [], ◌∷◌, ◌++◌}
use Rattle.minijinja_tree.specs.SpannedTrees.{Expr, variable, constant, slice, unary, binary, compare, if_expr, filter, test, attribute, item, call, list, tuple, map, Optional, absent, present, Exprs, no_more, more, Comparisons, compared, against, Args, no_args, pos, pos_splat, kwarg, kwarg_splat, exprs_of, Stmt, template, data_text, output, assignment, for_loop, if_cond, with_block, set_block, auto_escape, filter_block, named_block, extends, include, import_all, from_import, declare, call_block, do_call, break_loop, continue_loop, Macro, macro, Stmts, done, also}

pub data Node (C : Type 0) : Type 0 where
  expr : Expr C → Node C
  stmt : Stmt C → Node C

-- ---- parts

abbrev pub if_any : {C : Type 0} → Optional C → List (Node C)
if_any absent = []
if_any (present e) = expr e ∷ []

abbrev pub exprs : {C : Type 0} → Exprs C → List (Node C)
exprs no_more = []
exprs (more e es) = expr e ∷ exprs es

abbrev pub operands : {C : Type 0} → Comparisons C → List (Node C)
operands compared = []
operands (against o e cs) = expr e ∷ operands cs

abbrev pub arguments : {C : Type 0} → Args C → List (Node C)
arguments no_args = []
arguments (pos e xs) = expr e ∷ arguments xs
arguments (pos_splat e xs) = expr e ∷ arguments xs
arguments (kwarg x e xs) = expr e ∷ arguments xs
arguments (kwarg_splat e xs) = expr e ∷ arguments xs

-- targets, each before its value
abbrev pub pairs : {C : Type 0} → List (Expr C × Expr C) → List (Node C)
pairs [] = []
pairs (b ∷ bs) = expr b.0 ∷ expr b.1 ∷ pairs bs

-- names, each before its alias, if it has one
abbrev pub imported : {C : Type 0} → List (Expr C × Optional C) → List (Node C)
imported [] = []
imported (n ∷ ns) = expr n.0 ∷ if_any n.1 ++ imported ns

abbrev pub body : {C : Type 0} → Stmts C → List (Node C)
body done = []
body (also s ss) = stmt s ∷ body ss

abbrev pub macro_children : {C : Type 0} → Macro C → List (Node C)
macro_children (macro x args defaults ss s) = exprs (exprs_of args) ++ exprs (exprs_of defaults) ++ body ss

-- ---- nodes

abbrev pub expr_children : {C : Type 0} → Expr C → List (Node C)
expr_children (variable x s) = []
expr_children (constant c s) = []
expr_children (slice e start stop step s) = expr e ∷ if_any start ++ if_any stop ++ if_any step
expr_children (unary o e s) = expr e ∷ []
expr_children (binary o a b s) = expr a ∷ expr b ∷ []
expr_children (compare e cs s) = expr e ∷ operands cs
expr_children (if_expr t a b s) = expr t ∷ expr a ∷ if_any b
expr_children (filter e x args s) = if_any e ++ arguments args
expr_children (test e x args s) = expr e ∷ arguments args
expr_children (attribute e x s) = expr e ∷ []
expr_children (item e i s) = expr e ∷ expr i ∷ []
expr_children (call e args s) = expr e ∷ arguments args
expr_children (list es s) = exprs es
expr_children (tuple es s) = exprs es
expr_children (map ks vs s) = exprs ks ++ exprs vs

abbrev pub stmt_children : {C : Type 0} → Stmt C → List (Node C)
stmt_children (template ss s) = body ss
stmt_children (data_text t s) = []
stmt_children (output e s) = expr e ∷ []
stmt_children (assignment t e s) = expr t ∷ expr e ∷ []
stmt_children (for_loop t e only again ss other s) = expr t ∷ expr e ∷ if_any only ++ body ss ++ body other
stmt_children (if_cond e ss other s) = expr e ∷ body ss ++ body other
stmt_children (with_block bs ss s) = pairs bs ++ body ss
stmt_children (set_block t e ss s) = expr t ∷ if_any e ++ body ss
stmt_children (auto_escape e ss s) = expr e ∷ body ss
stmt_children (filter_block e ss s) = expr e ∷ body ss
stmt_children (named_block x required ss s) = body ss
stmt_children (extends e s) = expr e ∷ []
stmt_children (include e ignore s) = expr e ∷ []
stmt_children (import_all e t s) = expr e ∷ expr t ∷ []
stmt_children (from_import e ns s) = expr e ∷ imported ns
stmt_children (declare m) = macro_children m
stmt_children (call_block e args from m s) = expr e ∷ arguments args ++ macro_children m
stmt_children (do_call e args from s) = expr e ∷ arguments args
stmt_children (break_loop s) = []
stmt_children (continue_loop s) = []

abbrev pub children_of : {C : Type 0} → Node C → List (Node C)
children_of (expr e) = expr_children e
children_of (stmt s) = stmt_children s
