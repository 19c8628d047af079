-- The hint: how large a buffer the output of a template may need.
use Rattle.std.specs.Prelude.{◌≡◌, ℕ, ◌+◌, ◌*◌, ◌^◌, ◌≤◌, ◌⊎◌, length}
use Rattle.minijinja_tree.specs.Callees.{Callee, block, callee}
use Rattle.minijinja_tree.specs.Tree.{Stmt, template, data_text, output, assignment, for_loop, if_cond, with_block, set_block, auto_escape, filter_block, named_block, extends, include, import_all, from_import, declare, call_block, do_call, break_loop, continue_loop, Stmts, done, also, Macro, macro}

-- what counts of the macro that a call takes along: all of it, unless a block is called, which
-- takes no macro
abbrev pub if_made : {C : Type 0} → Callee C → ℕ → ℕ
if_made (block x) n = 0
if_made _ n = n

-- the bytes of text outside of tags in a list of instructions; those in blocks are not counted,
-- since blocks have lists of their own
abbrev mutual
  pub data_bytes : {C L : Type 0} → Stmt C L → ℕ
  data_bytes (template ss) = all_data_bytes ss
  data_bytes (data_text t) = length t
  data_bytes (output e) = 0
  data_bytes (assignment e v) = 0
  data_bytes (for_loop n e v only recursive body else_body) = all_data_bytes body + all_data_bytes else_body
  data_bytes (if_cond e true_body false_body) = all_data_bytes true_body + all_data_bytes false_body
  data_bytes (with_block ts body) = all_data_bytes body
  data_bytes (set_block e chain body) = all_data_bytes body
  data_bytes (auto_escape e body) = all_data_bytes body
  data_bytes (filter_block chain body) = all_data_bytes body
  data_bytes (named_block x required body) = 0
  data_bytes (extends e) = 0
  data_bytes (include e ignore) = 0
  data_bytes (import_all e t) = 0
  data_bytes (from_import e names) = 0
  data_bytes (declare m) = macro_bytes m
  data_bytes (call_block e args m) = if_made (callee e) (macro_bytes m)
  data_bytes (do_call e args) = 0
  data_bytes break_loop = 0
  data_bytes continue_loop = 0

  pub all_data_bytes : {C L : Type 0} → Stmts C L → ℕ
  all_data_bytes done = 0
  all_data_bytes (also s rest) = data_bytes s + all_data_bytes rest

  pub macro_bytes : {C L : Type 0} → Macro C L → ℕ
  macro_bytes (macro n x args defaults body) = all_data_bytes body

-- the least power of two that is at least twice the given number of bytes, and at most 2 ^ 63
pub record IsHint (bytes hint : ℕ) : Type 0 where
  pub power : (k : ℕ) × (hint ≡ 2 ^ k)
  pub limit : hint ≤ 2 ^ 63
  pub enough : (2 * bytes ≤ hint) ⊎ (hint ≡ 2 ^ 63)
  pub least : (k : ℕ) → 2 * bytes ≤ 2 ^ k → hint ≤ 2 ^ k
