-- The parts of an expression: the long side, which rows nest in without a bound, and the rest.
use Rattle.std.specs.Prelude.{◌≡◌, ℕ, ◌<◌, List, [], ◌∷◌, Option, Some, None, IfSome}
use Rattle.std.specs.Borrow.{Bor}
use Rattle.std.specs.Option.{option_map}
use denote.Param.Weighed.{most}
use Rattle.minijinja_syntax.specs.Texts.{Text}
use Rattle.minijinja_tree.specs.SpannedErasure.{expr_node}
use Rattle.minijinja_tree.specs.SpannedTrees.{Expr, variable, constant, slice, unary, binary, compare, if_expr, filter, test, attribute, item, call, list, tuple, map, Optional, optional_of, Arg, positional, starred, keyword, double_starred}
use Rattle.minijinja_tree_expr.specs.Sizes.{size_of}
use Rattle.minijinja_tree_expr.specs.declared.ast.CallArg.{CallArg, size-CallArg}
use Rattle.minijinja_tree_expr.specs.declared.ast.Expr.{Expr as Node}
use Rattle.minijinja_tree_expr.specs.declared.ast.Map.{Map, size-Map}
use Rattle.minijinja_meta.specs.Mentions.{Way, in_turn, chained, through, through_if_any, through_all, each, through_compared, through_positional, through_keyword}
use Rattle.minijinja_meta.specs.declared.parts.Start.{Start}
use Rattle.minijinja_meta.specs.declared.parts.Start.TheVariants.{Side, Parts}

-- the way through the parts of an expression but its long side, and but the test of an if
-- expression
abbrev pub rest : {C : Type 0} → Expr C → Way → Way
rest (variable x s) w = w
rest (constant c s) w = w
rest (slice e start stop step s) w = through_if_any start (through_if_any stop (through_if_any step w))
rest (unary o e s) w = w
rest (binary o a b s) w = through b w
rest (compare e cs s) w = through_compared cs w
rest (if_expr t a b s) w = through_if_any b w
rest (filter e x args s) w = through_positional args (through_keyword args w)
rest (test e x args s) w = through_positional args (through_keyword args w)
rest (attribute e y s) w = w
rest (item e k s) w = through k w
rest (call e args s) w = through_positional args (through_keyword args w)
rest (list es s) w = through_all es w
rest (tuple es s) w = through_all es w
rest (map ks vs s) w = in_turn (each ks) (each vs) w

-- the rests of expressions, of the last one first
abbrev pub rests : {V F C : Type 0} → (V → C) → List (Bor (Node V F)) → Way → Way
rests c [] w = w
rests c (x ∷ xs) w = rests c xs (rest (expr_node c x.now) w)

-- the rest of an expression that may be absent
abbrev pub rest_if_any : {V F C : Type 0} → (V → C) → Option (Bor (Node V F)) → Way → Way
rest_if_any c None w = w
rest_if_any c (Some x) w = rest (expr_node c x.now) w

-- an expression that may be absent
abbrev pub any_node : {V F C : Type 0} → (V → C) → Option (Bor (Node V F)) → Optional C
any_node c o = optional_of (option_map (λ e. expr_node c e.now) o)

-- it is no attribute
abbrev pub IsBase : {C : Type 0} → Expr C → Type 0
IsBase (attribute e y s) = ⊥
IsBase _ = Unit {0}

-- it is no attribute and no variable
abbrev pub HasParts : {C : Type 0} → Expr C → Type 0
HasParts (attribute e y s) = ⊥
HasParts (variable x s) = ⊥
HasParts _ = Unit {0}

-- the way through an expression begins so, if it is no attribute and no variable
abbrev pub IsStart : {V F C : Type 0} → (V → C) → Node V F → Start V F → Type 0
IsStart c e (Side t x) = (ys : List Text) (w : Way) → chained ys (expr_node c e) w ≡ through_if_any (any_node c t) (through (expr_node c x.now) (rest (expr_node c e) w))
IsStart c e Parts = (ys : List Text) (w : Way) → chained ys (expr_node c e) w ≡ rest (expr_node c e) w

-- what it begins with is smaller than the expression
abbrev pub IsSmaller : {V F : Type 0} → Node V F → Start V F → Type 0
IsSmaller e (Side t x) = IfSome t (λ t. size_of t.now < size_of e) × (size_of x.now < size_of e)
IsSmaller e Parts = Unit {0}

-- the expression of a positional or `*` argument
abbrev pub positional_of : {C : Type 0} → Arg C → Option (Expr C)
positional_of (positional e) = Some e
positional_of (starred e) = Some e
positional_of (keyword x e) = None
positional_of (double_starred e) = None

-- the expression of a keyword or `**` argument
abbrev pub keyword_of : {C : Type 0} → Arg C → Option (Expr C)
keyword_of (positional e) = None
keyword_of (starred e) = None
keyword_of (keyword x e) = Some e
keyword_of (double_starred e) = Some e

-- how deep a map and an argument are, and how deep the deepest of expressions is
abbrev pub map_size : {V F : Type 0} → Map V F → ℕ
map_size {V} {F} m = size-Map V F m

abbrev pub arg_size : {V F : Type 0} → CallArg V F → ℕ
arg_size {V} {F} a = size-CallArg V F a

abbrev pub most_size : {V F : Type 0} → List (Node V F) → ℕ
most_size es = most size_of es
