-- The lines and spans in the lists of instructions of a tree's blocks.
use Rattle.std.specs.Prelude.{◌≡◌, List, [], ◌∷◌, ◌++◌, All, Some}
use Rattle.std.specs.Borrow.{Bor}
use Rattle.std.specs.BTreeMap.{BTreeMap}
use Rattle.minijinja_syntax.specs.Texts.{Text}
use Rattle.minijinja_syntax.specs.declared.tokens.Span.{Span}
use Rattle.minijinja_value.specs.Values.{Functions}
use Rattle.minijinja_tree.specs.SpannedTrees.{Stmt, template, data_text, output, assignment, for_loop, if_cond, with_block, set_block, auto_escape, filter_block, named_block, extends, include, import_all, from_import, declare, call_block, do_call, break_loop, continue_loop, Stmts, done, also, Macro, macro}
use Rattle.minijinja_instructions.specs.InstructionLists.{Instructions, marks_of}
use Rattle.minijinja_semantics.specs.Marks.{block_marks}
use Rattle.minijinja_code.specs.BlockLists.{list_of}

-- a block, and where it stands
pub record MarkedBlock (C : Type 0) : Type 0 where
  pub name : Text
  pub span : Span
  pub body : Stmts C

-- the blocks within a statement, each before those within it
abbrev mutual
  pub marked_blocks : {C : Type 0} → Stmt C → List (MarkedBlock C)
  marked_blocks (template ss s) = all_marked_blocks ss
  marked_blocks (data_text t s) = []
  marked_blocks (output e s) = []
  marked_blocks (assignment t e s) = []
  marked_blocks (for_loop t e only recursive body else_body s) = all_marked_blocks body ++ all_marked_blocks else_body
  marked_blocks (if_cond e true_body false_body s) = all_marked_blocks true_body ++ all_marked_blocks false_body
  marked_blocks (with_block ts body s) = all_marked_blocks body
  marked_blocks (set_block t chain body s) = all_marked_blocks body
  marked_blocks (auto_escape e body s) = all_marked_blocks body
  marked_blocks (filter_block chain body s) = all_marked_blocks body
  marked_blocks (named_block x required body s) = record { name = x; span = s; body = body } ∷ all_marked_blocks body
  marked_blocks (extends e s) = []
  marked_blocks (include e ignore s) = []
  marked_blocks (import_all e t s) = []
  marked_blocks (from_import e names s) = []
  marked_blocks (declare m) = macro_marked_blocks m
  marked_blocks (call_block e args from m s) = macro_marked_blocks m
  marked_blocks (do_call e args from s) = []
  marked_blocks (break_loop s) = []
  marked_blocks (continue_loop s) = []

  pub all_marked_blocks : {C : Type 0} → Stmts C → List (MarkedBlock C)
  all_marked_blocks done = []
  all_marked_blocks (also s rest) = marked_blocks s ++ all_marked_blocks rest

  pub macro_marked_blocks : {C : Type 0} → Macro C → List (MarkedBlock C)
  macro_marked_blocks (macro x args defaults body s) = all_marked_blocks body

-- the list of each of these blocks has the lines and the spans of its body, and begins on the
-- block's line
abbrev pub HaveMarks : {V E C F : Type 0} → Functions C F → List (MarkedBlock C) → BTreeMap (Bor Text) (Instructions V E) → Type 0
HaveMarks {V} {E} f bs lists = All (λ b. (c : Instructions V E) × (list_of lists b.name ≡ Some c) × (marks_of c ≡ block_marks f b.span b.body)) bs
