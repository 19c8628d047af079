-- What macros and templates mention while it is not stored.
use Rattle.minijinja_semantics.proofs.Closures.{macro_needs, template_needs}
use Rattle.minijinja_semantics.proofs.laws.closures_are_enough.Goals as goal

pub returns : goal.returns
returns g c = let f = g.V.TemplateValue.functions in record { macro_body = macro_needs _ f; template = λ t is. template_needs _ f t is.0 }
