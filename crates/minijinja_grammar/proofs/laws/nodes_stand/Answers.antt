use Rattle.minijinja_grammar.proofs.PlaceExamples.{places_shown}
use Rattle.minijinja_grammar.proofs.laws.nodes_stand.Goals as goal

pub returns : goal.returns
returns g c = places_shown g.V.TemplateValue.functions
