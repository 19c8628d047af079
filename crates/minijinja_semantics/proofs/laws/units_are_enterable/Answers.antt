-- The units with the names that they have in the placed tree.
use Rattle.std.specs.Prelude.{[]}
use Rattle.minijinja_semantics.specs.Pieces.{start}
use Rattle.minijinja_semantics.specs.Places.{begin_of, spanned, all_spanned}
use Rattle.minijinja_semantics.proofs.UnitNodes.{enterable_same, all_enterable_same}
use Rattle.minijinja_semantics.proofs.laws.units_are_enterable.Goals as goal

pub returns : goal.returns
returns g c =
    let f = g.V.TemplateValue.functions in
    record { tree = λ t h. enterable_same begin_of (spanned f [] t h); block = λ ss. all_enterable_same begin_of (all_spanned f [] ss start) }
