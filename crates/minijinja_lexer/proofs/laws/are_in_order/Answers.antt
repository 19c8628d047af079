use Rattle.minijinja_lexer.proofs.Order.{template_in_order, expression_in_order, in_order_at}
use Rattle.minijinja_lexer.proofs.laws.are_in_order.Goals as goal

pub returns : goal.returns
returns c = record { template = λ s source built. template_in_order s source built; expression = λ s source built. expression_in_order s source; expression_at = λ s text at built. in_order_at s text at }
