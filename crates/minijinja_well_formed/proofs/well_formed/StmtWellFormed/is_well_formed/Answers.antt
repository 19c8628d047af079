use Rattle.minijinja_tree.specs.Erasure.{stmt_tree}
use Rattle.minijinja_well_formed.proofs.StatementTesting.{formed-decided}
use Rattle.minijinja_well_formed.proofs.well_formed.StmtWellFormed.is_well_formed.Goals as goal

pub returns : goal.returns
returns g c = formed-decided (stmt_tree g.V.TemplateValue.contents c.args.self.now) c.is_formed.result c.is_formed.ensures
