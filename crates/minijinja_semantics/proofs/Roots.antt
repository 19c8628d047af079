-- The root of a tree is a template of statements, or another statement by itself.
use Rattle.std.specs.Prelude.{false}
use Rattle.minijinja_tree.specs.Tree.{Stmt, template, data_text, output, assignment, for_loop, if_cond, with_block, set_block, auto_escape, filter_block, named_block, extends, include, import_all, from_import, declare, call_block, do_call, break_loop, continue_loop, Stmts}
use Rattle.minijinja_tree.specs.WellFormed.{IsInner, AreInner, IsRoot, IsWellFormed}

pub at_root_of : {C L : Type 0} (P : Stmt C L → Type 0) → ((ss : Stmts C L) → AreInner false ss → P (template ss)) → ((s : Stmt C L) → IsInner false s → P s) → (s : Stmt C L) → IsRoot s → P s
at_root_of P h k (template ss) is = h ss is
at_root_of P h k (data_text t) is = k (data_text t) is
at_root_of P h k (output e) is = k (output e) is
at_root_of P h k (assignment e v) is = k (assignment e v) is
at_root_of P h k (for_loop n e v only recursive body else_body) is = k (for_loop n e v only recursive body else_body) is
at_root_of P h k (if_cond e true_body false_body) is = k (if_cond e true_body false_body) is
at_root_of P h k (with_block ts body) is = k (with_block ts body) is
at_root_of P h k (set_block e chain body) is = k (set_block e chain body) is
at_root_of P h k (auto_escape e body) is = k (auto_escape e body) is
at_root_of P h k (filter_block chain body) is = k (filter_block chain body) is
at_root_of P h k (named_block x required body) is = k (named_block x required body) is
at_root_of P h k (extends e) is = k (extends e) is
at_root_of P h k (include e ignore) is = k (include e ignore) is
at_root_of P h k (import_all e t) is = k (import_all e t) is
at_root_of P h k (from_import e ns) is = k (from_import e ns) is
at_root_of P h k (declare m) is = k (declare m) is
at_root_of P h k (call_block e args m) is = k (call_block e args m) is
at_root_of P h k (do_call e args) is = k (do_call e args) is
at_root_of P h k break_loop is = k break_loop is
at_root_of P h k continue_loop is = k continue_loop is

pub at_root : {C L : Type 0} (P : Stmt C L → Type 0) → ((ss : Stmts C L) → AreInner false ss → P (template ss)) → ((s : Stmt C L) → IsInner false s → P s) → (s : Stmt C L) → IsWellFormed s → P s
at_root P h k s is = at_root_of P h k s is.0
