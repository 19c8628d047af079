use Rattle.minijinja_syntax.specs.Syntax.{default_syntax}
use Rattle.minijinja_tree.specs.SpannedErasure.{expr_node, stmt_node}
use Rattle.minijinja_grammar.proofs.Derivations.{one_spanned_expr, one_spanned_template}
use Rattle.minijinja_parser.specs.Derived.{expr_place, template_place}
use Rattle.minijinja_compiler.proofs.laws.compiled_nodes_are_parsed.Goals as goal

pub returns-clause-template : goal.returns-clause-template
returns-clause-template g c = λ syntax source filename d k s h.
    one_spanned_template g.V.TemplateValue.functions (template_place syntax source) k.nodes (stmt_node g.V.TemplateValue.contents s) k.places h

pub returns-clause-expression : goal.returns-clause-expression
returns-clause-expression g c = λ source d k e h.
    one_spanned_expr g.V.TemplateValue.functions (expr_place default_syntax source) k.nodes (expr_node g.V.TemplateValue.contents e) k.places h
