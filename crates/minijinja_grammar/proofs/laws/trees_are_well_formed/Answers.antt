use Rattle.minijinja_grammar.proofs.Derivations.{expr_whole, template_formed}
use Rattle.minijinja_grammar.proofs.laws.trees_are_well_formed.Goals as goal

pub returns-clause-template : goal.returns-clause-template
returns-clause-template g c = template_formed g.V.TemplateValue.functions

pub returns-clause-expression : goal.returns-clause-expression
returns-clause-expression g c = expr_whole g.V.TemplateValue.functions
