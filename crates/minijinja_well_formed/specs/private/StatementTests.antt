-- Tests that decide which trees are well formed.
pub use Rattle.minijinja_well_formed.specs.private.ExpressionTests.{is_chain, is_whole, is_whole_if_any, is_whole_operand, are_whole, are_compared, are_arguments, long_side, takes_arguments, is_whole_beside, is_target, are_targets, are_assignments, is_chain_of_filters, is_chain_if_any, is_variable, are_variables, are_all_whole, is_variable_if_any, are_names}
use Rattle.std.specs.Prelude.{Bool, true, false, not, ◌&&◌, ◌==◌, List, [], ◌∷◌, length, count_by, nat_le, bytes_eq}
use Rattle.std.specs.List.{list_any}
use Rattle.minijinja_syntax.specs.Texts.{Text}
use Rattle.minijinja_tree.specs.Tree.{Stmt, template, data_text, output, assignment, for_loop, if_cond, with_block, set_block, auto_escape, filter_block, named_block, extends, include, import_all, from_import, declare, call_block, do_call, break_loop, continue_loop, Stmts, done, also, Macro, macro, block_names}

-- a macro, except its body
abbrev pub is_macro_headed : {C L : Type 0} → Macro C L → Bool
is_macro_headed (macro n x args defaults body) = are_variables args && (are_all_whole defaults && nat_le (length defaults) (length args))

-- a statement, except its bodies
abbrev pub is_headed : {C L : Type 0} → (in_loop in_macro : Bool) → Stmt C L → Bool
is_headed l m (template ss) = false
is_headed l m (data_text t) = true
is_headed l m (output e) = is_whole e
is_headed l m (assignment e v) = is_target e && is_whole v
is_headed l m (for_loop n target e only recursive body else_body) = is_target target && (is_whole e && is_whole_if_any only)
is_headed l m (if_cond e true_body false_body) = is_whole e
is_headed l m (with_block assignments body) = are_assignments assignments
is_headed l m (set_block target chain body) = is_target target && is_chain_if_any chain
is_headed l m (auto_escape e body) = is_whole e
is_headed l m (filter_block chain body) = is_chain_of_filters chain
is_headed l m (named_block x required body) = not m
is_headed l m (extends e) = is_whole e
is_headed l m (include e ignore) = is_whole e
is_headed l m (import_all e target) = is_whole e && is_target target
is_headed l m (from_import e names) = is_whole e && are_names names
is_headed l m (declare d) = is_macro_headed d
is_headed l m (call_block e args d) = (is_whole e && takes_arguments args) && is_macro_headed d
is_headed l m (do_call e args) = is_whole e && takes_arguments args
is_headed l m break_loop = l
is_headed l m continue_loop = l

abbrev mutual
  -- a statement that stands in a template
  pub is_inner : {C L : Type 0} → (in_loop in_macro : Bool) → Stmt C L → Bool
  is_inner l m (template ss) = false
  is_inner l m (data_text t) = true
  is_inner l m (output e) = is_whole e
  is_inner l m (assignment e v) = is_target e && is_whole v
  is_inner l m (for_loop n target e only recursive body else_body) = (is_target target && (is_whole e && is_whole_if_any only)) && (are_inner true m body && are_inner l m else_body)
  is_inner l m (if_cond e true_body false_body) = is_whole e && (are_inner l m true_body && are_inner l m false_body)
  is_inner l m (with_block assignments body) = are_assignments assignments && are_inner l m body
  is_inner l m (set_block target chain body) = (is_target target && is_chain_if_any chain) && are_inner l m body
  is_inner l m (auto_escape e body) = is_whole e && are_inner l m body
  is_inner l m (filter_block chain body) = is_chain_of_filters chain && are_inner l m body
  is_inner l m (named_block x required body) = not m && are_inner false m body
  is_inner l m (extends e) = is_whole e
  is_inner l m (include e ignore) = is_whole e
  is_inner l m (import_all e target) = is_whole e && is_target target
  is_inner l m (from_import e names) = is_whole e && are_names names
  is_inner l m (declare d) = is_macro d
  is_inner l m (call_block e args d) = (is_whole e && takes_arguments args) && is_macro d
  is_inner l m (do_call e args) = is_whole e && takes_arguments args
  is_inner l m break_loop = l
  is_inner l m continue_loop = l

  -- each of these statements
  pub are_inner : {C L : Type 0} → (in_loop in_macro : Bool) → Stmts C L → Bool
  are_inner l m done = true
  are_inner l m (also s rest) = is_inner l m s && are_inner l m rest

  pub is_macro : {C L : Type 0} → Macro C L → Bool
  is_macro (macro n x args defaults body) = is_macro_headed (macro n x args defaults body) && are_inner false true body

-- the body of a macro
abbrev pub has_macro_body : {C L : Type 0} → Macro C L → Bool
has_macro_body (macro n x args defaults body) = are_inner false true body

-- the bodies of a statement
abbrev pub has_bodies : {C L : Type 0} → (in_loop in_macro : Bool) → Stmt C L → Bool
has_bodies l m (for_loop n target e only recursive body else_body) = are_inner true m body && are_inner l m else_body
has_bodies l m (if_cond e true_body false_body) = are_inner l m true_body && are_inner l m false_body
has_bodies l m (with_block assignments body) = are_inner l m body
has_bodies l m (set_block target chain body) = are_inner l m body
has_bodies l m (auto_escape e body) = are_inner l m body
has_bodies l m (filter_block chain body) = are_inner l m body
has_bodies l m (named_block x required body) = are_inner false m body
has_bodies l m (declare d) = has_macro_body d
has_bodies l m (call_block e args d) = has_macro_body d
has_bodies l m _ = true

-- a template, or a statement that stands in one
abbrev pub is_root : {C L : Type 0} → Stmt C L → Bool
is_root (template ss) = are_inner false false ss
is_root s = is_inner false false s

-- no two of these are the same
abbrev pub are_distinct : List Text → Bool
are_distinct [] = true
are_distinct (x ∷ xs) = not (list_any (bytes_eq x) xs) && are_distinct xs

-- each of the first occurs once among the others
abbrev pub are_single : List Text → List Text → Bool
are_single [] ys = true
are_single (x ∷ xs) ys = (count_by (bytes_eq x) ys == 1) && are_single xs ys

abbrev pub is_well_formed : {C L : Type 0} → Stmt C L → Bool
is_well_formed s = is_root s && are_distinct (block_names s)
