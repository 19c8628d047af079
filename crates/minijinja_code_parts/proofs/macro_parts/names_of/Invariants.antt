use Rattle.std.proofs.Common.{◌≡◌, ◌++◌, drop, map}
use Rattle.minijinja_tree.specs.Erasure.{expr_tree}
use Rattle.minijinja_tree.specs.Tree.{variable_names}
use Rattle.minijinja_code_parts.proofs.macro_parts.names_of.Given as goal

abbrev pub invariant-loop-arg : goal.invariant-loop-arg
invariant-loop-arg g l =
    let v = g.V.TemplateValue.contents in
    let f = g.V.TemplateValue.functions in
    map v l.names.items ++ map f.of_str (variable_names (map (expr_tree v) (drop l.arg-index l.args))) ≡ map f.of_str (variable_names (map (expr_tree v) l.args))
