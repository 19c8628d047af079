-- A property of statements outside of all loops holds of each block's body in a well-formed tree.
use Rattle.std.specs.Prelude.{Bool, true, false, List, [], ◌++◌, All}
use Rattle.std.proofs.lemmas.List.Elements.{All-nil, All-cons, All-append}
use Rattle.minijinja_tree.specs.Tree.{Stmt, template, data_text, output, assignment, for_loop, if_cond, with_block, set_block, auto_escape, filter_block, named_block, extends, include, import_all, from_import, declare, call_block, do_call, break_loop, continue_loop, Stmts, done, also, Macro, macro, Block, blocks, all_blocks, macro_blocks}
use Rattle.minijinja_tree.specs.WellFormed.{IsInner, AreInner, IsMacro, IsWellFormed}
use Rattle.minijinja_semantics.proofs.Roots.{at_root}

module _ {C L : Type 0} (P : Stmts C L → Type 0) (holds : (ss : Stmts C L) → AreInner false ss → P ss) where
  abbrev OfBody : Block C L → Type 0
  OfBody b = P b.body

  none : All OfBody []
  none = All-nil OfBody

  both : (a b : List (Block C L)) → All OfBody a → All OfBody b → All OfBody (a ++ b)
  both a b = All-append OfBody a b

  mutual
    of_blocks_in : (s : Stmt C L) (l : Bool) → IsInner l s → All OfBody (blocks s)
    of_blocks_in (template ss) l is = absurd is
    of_blocks_in (data_text t) l is = none
    of_blocks_in (output e) l is = none
    of_blocks_in (assignment target e) l is = none
    of_blocks_in (for_loop n target e only recursive body else_body) l is = both (all_blocks body) (all_blocks else_body) (of_all_blocks body true is.3) (of_all_blocks else_body l is.4)
    of_blocks_in (if_cond e true_body false_body) l is = both (all_blocks true_body) (all_blocks false_body) (of_all_blocks true_body l is.1) (of_all_blocks false_body l is.2)
    of_blocks_in (with_block assignments body) l is = of_all_blocks body l is.1
    of_blocks_in (set_block target chain body) l is = of_all_blocks body l is.2
    of_blocks_in (auto_escape e body) l is = of_all_blocks body l is.1
    of_blocks_in (filter_block chain body) l is = of_all_blocks body l is.1
    of_blocks_in (named_block x required body) l is = All-cons OfBody (record { name = x; required = required; body = body }) (all_blocks body) (holds body is) (of_all_blocks body false is)
    of_blocks_in (extends e) l is = none
    of_blocks_in (include e ignore) l is = none
    of_blocks_in (import_all e target) l is = none
    of_blocks_in (from_import e names) l is = none
    of_blocks_in (declare m) l is = of_macro_blocks m is
    of_blocks_in (call_block e args m) l is = of_macro_blocks m is.1
    of_blocks_in (do_call e args) l is = none
    of_blocks_in break_loop l is = none
    of_blocks_in continue_loop l is = none

    of_all_blocks : (ss : Stmts C L) (l : Bool) → AreInner l ss → All OfBody (all_blocks ss)
    of_all_blocks done l is = none
    of_all_blocks (also s rest) l is = both (blocks s) (all_blocks rest) (of_blocks_in s l is.0) (of_all_blocks rest l is.1)

    of_macro_blocks : (m : Macro C L) → IsMacro m → All OfBody (macro_blocks m)
    of_macro_blocks (macro n x args defaults body) is = of_all_blocks body false is.3

  pub of_blocks : (t : Stmt C L) → IsWellFormed t → All OfBody (blocks t)
  of_blocks = at_root (λ t. All OfBody (blocks t)) (λ ss is. of_all_blocks ss false is) (λ s is. of_blocks_in s false is)
