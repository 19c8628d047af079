-- The outputs that are written apart from others: calls of `super`, of `loop` and of a block.
use Rattle.std.specs.Prelude.{Bool, true, false, codes, bytes_eq}
use Rattle.minijinja_syntax.specs.Texts.{Text}
use Rattle.minijinja_tree.specs.Callees.{Callee, function, method, block, object, callee}
use Rattle.minijinja_tree.specs.Tree.{Expr, call, Args, no_args, pos}

-- what an output may write: the block that the current one overrides, the recursive loop run again
-- on other items, a block, or a value
pub data Written (C : Type 0) : Type 0 where
  Super : Written C
  Recursion : Expr C → Written C
  BlockOf : Text → Written C
  Plain : Written C

-- a call of `super` without arguments
abbrev pub written_super : {C : Type 0} → Bool → Written C → Written C
written_super true other = Super
written_super false other = other

-- a call of `loop` with an argument
abbrev pub written_loop : {C : Type 0} → Bool → Expr C → Written C
written_loop true e = Recursion e
written_loop false e = Plain

-- a call of a function: `super` without arguments and `loop` with exactly one positional argument
-- are written apart
abbrev pub written_function : {C : Type 0} → Text → Args C → Written C
written_function x no_args = written_super (bytes_eq x (codes "super")) Plain
written_function x (pos e no_args) = written_loop (bytes_eq x (codes "loop")) e
written_function x _ = Plain

-- a call: of a function, of a block, or of another thing
abbrev pub written_call : {C : Type 0} → Callee C → Args C → Written C
written_call (function x) args = written_function x args
written_call (block x) args = BlockOf x
written_call (method e x) args = Plain
written_call (object e) args = Plain

-- what an output of this expression writes
abbrev pub written : {C : Type 0} → Expr C → Written C
written (call e args) = written_call (callee e) args
written _ = Plain
