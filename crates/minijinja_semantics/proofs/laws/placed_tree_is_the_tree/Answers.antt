-- The placed tree and the placed block without names.
use Rattle.std.specs.Prelude.{[]}
use Rattle.minijinja_semantics.specs.Pieces.{start}
use Rattle.minijinja_semantics.proofs.Unlabelled.{same_tree, same_trees}
use Rattle.minijinja_semantics.proofs.laws.placed_tree_is_the_tree.Goals as goal

pub returns : goal.returns
returns g c = let f = g.V.TemplateValue.functions in record { tree = λ t h. same_tree f t [] h; block = λ ss. same_trees f ss [] start }
