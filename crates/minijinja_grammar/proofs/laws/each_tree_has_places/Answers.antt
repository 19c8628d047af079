use Rattle.minijinja_grammar.proofs.Derivations.{expr_placed, template_placed}
use Rattle.minijinja_grammar.proofs.laws.each_tree_has_places.Goals as goal

pub returns-clause-template : goal.returns-clause-template
returns-clause-template g c = λ p t a. template_placed g.V.TemplateValue.functions p t a

pub returns-clause-expression : goal.returns-clause-expression
returns-clause-expression g c = λ p e a. expr_placed g.V.TemplateValue.functions p e a
