-- The marks of compiled templates, of their blocks and of compiled expressions.
use Rattle.minijinja_compiler.proofs.CompiledMarks.{blocks_each, blocks_marks, expression_each, expression_marks, statement_each, statement_marks}
use Rattle.minijinja_compiler.proofs.laws.compiled_marks_are_of_nodes.Goals as goal

pub returns : goal.returns
returns g c =
    let f = g.V.TemplateValue.functions in
    let v = g.V.TemplateValue.contents in
    record { template = statement_marks f v; blocks = blocks_marks f v; expression = expression_marks f v; each_of_template = statement_each f v; each_of_blocks = blocks_each f v; each_of_expression = expression_each f v }
