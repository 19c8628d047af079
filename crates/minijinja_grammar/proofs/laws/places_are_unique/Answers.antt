use Rattle.minijinja_grammar.proofs.Derivations.{one_spanned_expr, one_spanned_template}
use Rattle.minijinja_grammar.proofs.laws.places_are_unique.Goals as goal

pub returns-clause-template : goal.returns-clause-template
returns-clause-template g c = λ p t u. one_spanned_template g.V.TemplateValue.functions p t u

pub returns-clause-expression : goal.returns-clause-expression
returns-clause-expression g c = λ p t u. one_spanned_expr g.V.TemplateValue.functions p t u
