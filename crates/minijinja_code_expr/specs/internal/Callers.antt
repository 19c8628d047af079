-- The code of calls that take a macro along, while it is being made.
use Rattle.std.specs.Prelude.{◌≡◌, ℕ, [], Option, Some, None}
use Rattle.minijinja_syntax.specs.Texts.{Text}
use Rattle.minijinja_value.specs.Values.{Functions}
use Rattle.minijinja_tree.specs.Callees.{Callee, function, method, block, object, callee}
use Rattle.minijinja_tree.specs.Tree.{Expr, Args}
use Rattle.minijinja_semantics.specs.Code.{Call}
use Rattle.minijinja_semantics.specs.Events.{CallFunction, CallMethod, CallObject}
use Rattle.minijinja_semantics.specs.Layout.{count_positional, count_with_caller, count_all_with_caller, counted, merged, spreading}
use Rattle.minijinja_semantics.specs.Pieces.{Piece, nothing, one, ◌▸◌}
use Rattle.minijinja_semantics.specs.Places.{before_caller}
use Rattle.minijinja_code_expr.specs.declared.arguments.Counts.{Counts}
use Rattle.minijinja_code_expr.specs.internal.Calling.{captured}
use Rattle.minijinja_emitter.specs.internal.Making.{Made, Adds}
use Rattle.minijinja_code_expr.specs.internal.Parts.{count_of, operands}

-- these are the counts of the arguments of a call with the given number of operands below them,
-- whose last keyword argument is a macro
pub record AreCounts {C : Type 0} (args : Args C) (front : ℕ) (c : Counts) : Type 0 where
  pub positional : count_of c.positional ≡ count_positional args (operands front)
  pub keyword : count_of c.keyword ≡ count_with_caller args

-- a call of a block takes no macro along, any other does
abbrev pub TakesCaller : {C : Type 0} → Callee C → Type 0
TakesCaller (block x) = ⊥
TakesCaller _ = Unit {0}

-- how many operands stand before the arguments of a call
abbrev pub front_of : {C : Type 0} → Callee C → ℕ
front_of (function x) = 0
front_of (method e x) = 1
front_of (block x) = 0
front_of (object e) = 1

-- a call after its arguments, of which there is the given number
abbrev pub called : {C : Type 0} → Callee C → Option ℕ → Piece C
called (function x) n = one (Call CallFunction x n)
called (method e x) n = one (Call CallMethod x n)
called (block x) n = nothing
called (object e) n = one (Call CallObject [] n)

-- what ends the arguments after the macro
abbrev pub arguments_end : {C : Type 0} → Args C → (front : ℕ) → Piece C
arguments_end args front =
    let k = count_with_caller args in
    let c = count_all_with_caller args front in
    merged k.batches k.waiting ▸ spreading c.batches c.waiting

-- how many operands the call has then
abbrev pub end_count : {C : Type 0} → Args C → (front : ℕ) → Option ℕ
end_count args front = let c = count_all_with_caller args front in counted c.batches c.waiting

-- what ends a call of this after the macro
abbrev pub behind_caller : {C : Type 0} → Callee C → Args C → Piece C
behind_caller k args = arguments_end args (front_of k) ▸ called k (end_count args (front_of k))

-- A call was added up to the macro that it takes along, with these counts; or it takes none, and
-- all of it was added.
pub record UpToCaller {C F : Type 0} (f : Functions C F) (e : Expr C) (args : Args C) (c : Counts) (old new : Made C) : Type 0 where
  pub takes : TakesCaller (callee e)
  pub counts : AreCounts args (front_of (callee e)) c
  pub added : Adds old new (before_caller f (callee e) e args)

pub record WholeBlock {C : Type 0} (e : Expr C) (old new : Made C) : Type 0 where
  pub name : Text
  pub is : callee e ≡ block name
  pub added : Adds old new (captured name)

abbrev pub BeginsCall : {C F : Type 0} → Functions C F → Expr C → Args C → Option Counts → (old new : Made C) → Type 0
BeginsCall f e args None old new = WholeBlock e old new
BeginsCall f e args (Some c) old new = UpToCaller f e args c old new
