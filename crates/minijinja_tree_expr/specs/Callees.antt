-- What a call calls.
use Rattle.std.specs.Prelude.{codes, if◌then◌else◌}
use Rattle.std.specs.Str.{bytes_eq}
use Rattle.minijinja_syntax.specs.Texts.{Text}
use Rattle.minijinja_tree_expr.specs.Tree.{Expr, variable, attribute}

-- a function by its name, a method of an object, a block by its name, or what an expression gives
pub data Callee (C : Type 0) : Type 0 where
  function : Text → Callee C
  method : Expr C → Text → Callee C
  block : Text → Callee C
  object : Expr C → Callee C

-- the attribute of `self` is a block
abbrev pub callee_of_attribute : {C : Type 0} → Expr C → Text → Callee C
callee_of_attribute (variable x) name = if bytes_eq x (codes "self") then block name else method (variable x) name
callee_of_attribute e name = method e name

abbrev pub callee : {C : Type 0} → Expr C → Callee C
callee (variable x) = function x
callee (attribute e name) = callee_of_attribute e name
callee e = object e
