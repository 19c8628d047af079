use Rattle.std.proofs.Common.{◌∙◌}
use Rattle.minijinja_tree.specs.Erasure.{stmt_tree}
use Rattle.minijinja_tree.specs.Tree.{block_names}
use Rattle.minijinja_well_formed.proofs.Singles.{singles-differ}
use Rattle.minijinja_well_formed.proofs.distinct.has_distinct_blocks.Goals as goal

pub returns : goal.returns
returns g c = c.is_named_once.ensures ∙ singles-differ (block_names (stmt_tree g.V.TemplateValue.contents c.args.root.now))
