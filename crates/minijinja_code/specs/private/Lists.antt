-- The lists of instructions of blocks, while they are being made.
use Rattle.std.specs.Prelude.{◌≡◌, ◌≢◌, List, [], ◌∷◌, All, map}
use Rattle.std.specs.Borrow.{Bor}
use Rattle.std.specs.BTreeMap.{BTreeMap}
use Rattle.minijinja_syntax.specs.Texts.{Text}
use Rattle.minijinja_value.specs.Values.{Functions}
use Rattle.minijinja_tree_expr.specs.Nodes.{node_of, span_of}
use Rattle.minijinja_tree_expr.specs.declared.ast.Spanned.{Spanned}
use Rattle.minijinja_tree.specs.SpannedErasure.{stmt_nodes}
use Rattle.minijinja_tree.specs.SpannedTrees as spanned
use Rattle.minijinja_instructions.specs.InstructionLists.{Instructions}
use Rattle.minijinja_code.specs.BlockLists.{list_of}
use Rattle.minijinja_code.specs.BlockMarks.{MarkedBlock, HaveMarks}
use Rattle.minijinja_tree.specs.Erasure.{stmt_tree}
use Rattle.minijinja_tree.specs.Tree as tree
use Rattle.minijinja_tree.specs.Tree.{template, data_text, output, assignment, for_loop, if_cond, with_block, set_block, auto_escape, filter_block, named_block, extends, include, import_all, from_import, declare, call_block, do_call, break_loop, continue_loop, Stmts, done, Macro, macro, Block, stmts_of}
use Rattle.minijinja_tree.specs.declared.ast.Block.{Block as BlockNode}

-- the block that a node is
abbrev pub block_tree : {V F C : Type 0} → (V → C) → BlockNode V F → Block C (Unit {0})
block_tree c b = record { name = b.name.now; required = b.required; body = stmts_of (map (stmt_tree c) b.body.items) }

-- the block that a statement is, if it is one
abbrev pub own_block : {C L : Type 0} → tree.Stmt C L → List (Block C L)
own_block (named_block x required body) = record { name = x; required = required; body = body } ∷ []
own_block _ = []

-- the body of a macro
abbrev pub macro_body : {C L : Type 0} → Macro C L → Stmts C L
macro_body (macro n x args defaults body) = body

-- the bodies of a statement; where it has fewer than two, the others are empty
abbrev pub bodies_of : {C L : Type 0} → tree.Stmt C L → Stmts C L × Stmts C L
bodies_of (template ss) = (ss, done)
bodies_of (data_text t) = (done, done)
bodies_of (output e) = (done, done)
bodies_of (assignment e v) = (done, done)
bodies_of (for_loop n e v only recursive body else_body) = (body, else_body)
bodies_of (if_cond e true_body false_body) = (true_body, false_body)
bodies_of (with_block ts body) = (body, done)
bodies_of (set_block e chain body) = (body, done)
bodies_of (auto_escape e body) = (body, done)
bodies_of (filter_block chain body) = (body, done)
bodies_of (named_block x required body) = (body, done)
bodies_of (extends e) = (done, done)
bodies_of (include e ignore) = (done, done)
bodies_of (import_all e t) = (done, done)
bodies_of (from_import e names) = (done, done)
bodies_of (declare m) = (macro_body m, done)
bodies_of (call_block e args m) = (macro_body m, done)
bodies_of (do_call e args) = (done, done)
bodies_of break_loop = (done, done)
bodies_of continue_loop = (done, done)

-- The same with spans.

-- the block that a node is
abbrev pub marked_block : {V F C : Type 0} → (V → C) → Spanned (BlockNode V F) → MarkedBlock C
marked_block c b = record { name = (node_of b).name.now; span = span_of b; body = spanned.stmts_of (stmt_nodes c (node_of b).body.items) }

-- the block that a statement is, if it is one
abbrev pub own_marked : {C : Type 0} → spanned.Stmt C → List (MarkedBlock C)
own_marked (spanned.named_block x required body s) = record { name = x; span = s; body = body } ∷ []
own_marked _ = []

-- the body of a macro
abbrev pub marked_macro_body : {C : Type 0} → spanned.Macro C → spanned.Stmts C
marked_macro_body (spanned.macro x args defaults body s) = body

-- the bodies of a statement; where it has fewer than two, the others are empty
abbrev pub marked_bodies_of : {C : Type 0} → spanned.Stmt C → spanned.Stmts C × spanned.Stmts C
marked_bodies_of (spanned.template ss s) = (ss, spanned.done)
marked_bodies_of (spanned.data_text t s) = (spanned.done, spanned.done)
marked_bodies_of (spanned.output e s) = (spanned.done, spanned.done)
marked_bodies_of (spanned.assignment t e s) = (spanned.done, spanned.done)
marked_bodies_of (spanned.for_loop t e only recursive body else_body s) = (body, else_body)
marked_bodies_of (spanned.if_cond e true_body false_body s) = (true_body, false_body)
marked_bodies_of (spanned.with_block ts body s) = (body, spanned.done)
marked_bodies_of (spanned.set_block t chain body s) = (body, spanned.done)
marked_bodies_of (spanned.auto_escape e body s) = (body, spanned.done)
marked_bodies_of (spanned.filter_block chain body s) = (body, spanned.done)
marked_bodies_of (spanned.named_block x required body s) = (body, spanned.done)
marked_bodies_of (spanned.extends e s) = (spanned.done, spanned.done)
marked_bodies_of (spanned.include e ignore s) = (spanned.done, spanned.done)
marked_bodies_of (spanned.import_all e t s) = (spanned.done, spanned.done)
marked_bodies_of (spanned.from_import e names s) = (spanned.done, spanned.done)
marked_bodies_of (spanned.declare m) = (marked_macro_body m, spanned.done)
marked_bodies_of (spanned.call_block e args from m s) = (marked_macro_body m, spanned.done)
marked_bodies_of (spanned.do_call e args from s) = (spanned.done, spanned.done)
marked_bodies_of (spanned.break_loop s) = (spanned.done, spanned.done)
marked_bodies_of (spanned.continue_loop s) = (spanned.done, spanned.done)

-- the lists of these blocks were added with their marks, and lists under other names stay as they
-- were
pub record AddsMarks {V E C F : Type 0} (f : Functions C F) (bs : List (MarkedBlock C)) (old new : BTreeMap (Bor Text) (Instructions V E)) : Type 0 where
  pub added : HaveMarks f bs new
  pub others : (x : Text) → All (λ b. b.name ≢ x) bs → list_of new x ≡ list_of old x
