-- The callee that a call type names, and where its object stands in the tree.
use Rattle.std.specs.Prelude.{◌≡◌}
use Rattle.minijinja_tree_expr.specs.Erasure.{expr_tree}
use Rattle.minijinja_tree_expr.specs.Callees.{Callee, function, method, block, object}
use Rattle.minijinja_tree_expr.specs.Nodes.{node_of}
use Rattle.minijinja_tree_expr.specs.declared.ast.CallType.{CallType}
use Rattle.minijinja_tree_expr.specs.declared.ast.CallType.TheVariants.{Function, Method, Block, Object}
use Rattle.minijinja_tree_expr.specs.declared.ast.Expr.{Expr}
use Rattle.minijinja_tree_expr.specs.declared.ast.Expr.TheVariants.{GetAttr}

abbrev pub callee_shown : {V F C : Type 0} → (V → C) → CallType V F → Callee C
callee_shown c (Function name) = function name.now
callee_shown c (Method e name) = method (expr_tree c e.now) name.now
callee_shown c (Block name) = block name.now
callee_shown c (Object e) = object (expr_tree c e.now)

-- an object is the node that is called, and not an equal one elsewhere
abbrev pub ReferenceTo : {V F : Type 0} → CallType V F → Expr V F → Type 0
ReferenceTo (Function name) called = Unit {0}
ReferenceTo (Method e name) called = (a : _) × (called ≡ GetAttr a) × (e.now ≡ (node_of a).expr)
ReferenceTo (Block name) called = Unit {0}
ReferenceTo (Object e) called = e.now ≡ called

-- the object of a method is that node
abbrev pub MethodOf : {V F : Type 0} → CallType V F → Expr V F → Type 0
MethodOf (Function name) operand = ⊥
MethodOf (Method e name) operand = e.now ≡ operand
MethodOf (Block name) operand = Unit {0}
MethodOf (Object e) operand = ⊥
