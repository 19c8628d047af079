-- The name of a statement's own block, and its bodies.
use Rattle.std.specs.Prelude.{List, [], ◌∷◌}
use Rattle.minijinja_syntax.specs.Texts.{Text}
use Rattle.minijinja_tree.specs.Tree.{Stmt, template, for_loop, if_cond, with_block, set_block, auto_escape, filter_block, named_block, declare, call_block, Stmts, done, Macro, macro}

-- the name of a block
abbrev pub own : {C L : Type 0} → Stmt C L → List Text
own (named_block x required body) = x ∷ []
own _ = []

abbrev pub macro_body : {C L : Type 0} → Macro C L → Stmts C L
macro_body (macro n x args defaults body) = body

-- the body, or the first one of two
abbrev pub first_body : {C L : Type 0} → Stmt C L → Stmts C L
first_body (template ss) = ss
first_body (for_loop n target e only recursive body else_body) = body
first_body (if_cond e true_body false_body) = true_body
first_body (with_block assignments body) = body
first_body (set_block target chain body) = body
first_body (auto_escape e body) = body
first_body (filter_block chain body) = body
first_body (named_block x required body) = body
first_body (declare m) = macro_body m
first_body (call_block e args m) = macro_body m
first_body _ = done

-- the second body, if there are two
abbrev pub second_body : {C L : Type 0} → Stmt C L → Stmts C L
second_body (for_loop n target e only recursive body else_body) = else_body
second_body (if_cond e true_body false_body) = false_body
second_body _ = done
