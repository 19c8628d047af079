-- Names that are taken from a template, with their aliases.
use Rattle.std.proofs.Common.{◌≡◌, List, [], ◌∷◌, map, Option, refl, ap}
use Rattle.minijinja_tree.specs.SpannedErasure.{expr_node, names_of, optional_of}
use Rattle.minijinja_tree_expr.specs.declared.ast.Expr.{Expr}
use Rattle.minijinja_parser_stmt.specs.internal.Made.{param_of, with_aliases}

pub aliases_are : {V F C : Type 0} (c : V → C) (ns : List (Expr V F × Option (Expr V F))) → names_of c ns ≡ with_aliases (map (param_of (expr_node c)) ns)
aliases_are c [] = refl
aliases_are c (n ∷ ns) = ap (λ ms. (expr_node c n.0, optional_of c n.1) ∷ ms) (aliases_are c ns)
