-- Which trees are well formed, so that code can be generated from them.
pub use Rattle.minijinja_tree_expr.specs.WellFormed.{most_arguments, expr_count, arg_count, IsChain, IsWhole, IsWholeIfAny, AreWhole, AreCompared, AreArguments, IsTarget, AreTargets, AreAssignments, IsChainOfFilters, IsChainIfAny, IsVariable, AreVariables, AreAllWhole, IsVariableIfAny, AreNames}
use Rattle.std.specs.Prelude.{◌≡◌, ◌≢◌, ◌≤◌, Bool, true, false, IsTrue, List, [], length, AllPairs}
use Rattle.minijinja_syntax.specs.Texts.{Text}
use Rattle.minijinja_tree.specs.Tree.{call, Stmt, template, data_text, output, assignment, for_loop, if_cond, with_block, set_block, auto_escape, filter_block, named_block, extends, include, import_all, from_import, declare, call_block, do_call, break_loop, continue_loop, Stmts, done, also, Macro, macro, block_names, all_block_names}

-- no two of these are the same
abbrev pub AreDistinct : List Text → Type 0
AreDistinct xs = AllPairs (λ x y. x ≢ y) xs

-- A whole template stands only at the root. `break` and `continue` stand only in a loop's body, and
-- not in the loop's else body, nor in a block or a macro within the body. No block stands in a
-- macro.
abbrev mutual
  pub IsInner : {C L : Type 0} → (in_loop : Bool) → Stmt C L → Type 0
  IsInner l (template ss) = ⊥
  IsInner l (data_text t) = Unit {0}
  IsInner l (output e) = IsWhole e
  IsInner l (assignment e v) = IsTarget e × IsWhole v
  IsInner l (for_loop n target e only recursive body else_body) = IsTarget target × IsWhole e × IsWholeIfAny only × AreInner true body × AreInner l else_body
  IsInner l (if_cond e true_body false_body) = IsWhole e × AreInner l true_body × AreInner l false_body
  IsInner l (with_block assignments body) = AreAssignments assignments × AreInner l body
  IsInner l (set_block target chain body) = IsTarget target × IsChainIfAny chain × AreInner l body
  IsInner l (auto_escape e body) = IsWhole e × AreInner l body
  IsInner l (filter_block chain body) = IsChainOfFilters chain × AreInner l body
  IsInner l (named_block x required body) = AreInner false body
  IsInner l (extends e) = IsWhole e
  IsInner l (include e ignore) = IsWhole e
  IsInner l (import_all e target) = IsWhole e × IsTarget target
  IsInner l (from_import e names) = IsWhole e × AreNames names
  IsInner l (declare m) = IsMacro m
  IsInner l (call_block e args m) = IsWhole (call e args) × IsMacro m
  IsInner l (do_call e args) = IsWhole (call e args)
  IsInner l break_loop = IsTrue l
  IsInner l continue_loop = IsTrue l

  -- each of these statements
  pub AreInner : {C L : Type 0} → (in_loop : Bool) → Stmts C L → Type 0
  AreInner l done = Unit {0}
  AreInner l (also s rest) = IsInner l s × AreInner l rest

  -- the arguments are variables, and not fewer than the defaults
  pub IsMacro : {C L : Type 0} → Macro C L → Type 0
  IsMacro (macro n x args defaults body) = AreVariables args × AreAllWhole defaults × (length defaults ≤ length args) × AreInner false body × (all_block_names body ≡ [])

-- a template, or a statement that stands in one
abbrev pub IsRoot : {C L : Type 0} → Stmt C L → Type 0
IsRoot (template ss) = AreInner false ss
IsRoot s = IsInner false s

-- a root in which no two blocks have the same name
abbrev pub IsWellFormed : {C L : Type 0} → Stmt C L → Type 0
IsWellFormed s = IsRoot s × AreDistinct (block_names s)
