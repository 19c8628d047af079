use Rattle.minijinja_tree_expr.specs.Erasure.{expr_tree}
use Rattle.minijinja_well_formed.proofs.ExpressionTesting.{whole-decided}
use Rattle.minijinja_well_formed.proofs.well_formed.ExprWellFormed.is_well_formed.Goals as goal

pub returns : goal.returns
returns g c = whole-decided (expr_tree g.V.TemplateValue.contents c.args.self.now) c.is_whole.result c.is_whole.ensures
