use Rattle.minijinja_grammar.proofs.Derivations.{one_expr, one_template}
use Rattle.minijinja_grammar.proofs.laws.one_tree.Goals as goal

pub returns-clause-template : goal.returns-clause-template
returns-clause-template g c = λ p t u. one_template g.V.TemplateValue.functions p t u

pub returns-clause-expression : goal.returns-clause-expression
returns-clause-expression g c = λ p t u. one_expr g.V.TemplateValue.functions p t u
