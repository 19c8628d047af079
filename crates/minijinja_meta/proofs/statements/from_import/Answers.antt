use Rattle.std.proofs.Common.{ap}
use Rattle.minijinja_tree.specs.SpannedErasure.{expr_node, names_of}
use Rattle.minijinja_meta.specs.Mentions.{through, to_names}
use Rattle.minijinja_meta.proofs.Walking.{then-walks, walks-as}
use Rattle.minijinja_meta.proofs.statements.from_import.Goals as goal

pub returns : goal.returns
returns g c =
    let v = g.V.TemplateValue.contents in
    let n = c.args.import.now in
    then-walks v c.imported.result c.args.walker.now c.expression.new.walker c.imported.new.walker (through (expr_node v n.expr)) (to_names (names_of v n.names.items)) c.in_ok-expression.ensures
    (walks-as v c.imported.result c.expression.new.walker c.imported.new.walker _ _ (ap (λ xs. to_names (names_of v xs)) c.deref.ensures.value) c.imported.ensures)
