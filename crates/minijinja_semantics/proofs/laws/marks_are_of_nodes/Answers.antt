-- Marks of templates, blocks and expressions by themselves.
use Rattle.std.proofs.Common.{◌≡◌, true}
use Rattle.minijinja_semantics.proofs.MarkedByNodes.{block_marked, expr_marked, template_marked}
use Rattle.minijinja_semantics.proofs.StmtFitting.{block_marks_are, expr_marks_are, template_marks_are}
use Rattle.minijinja_semantics.proofs.laws.marks_are_of_nodes.Goals as goal

pub returns : goal.returns
returns g c =
    let f = g.V.TemplateValue.functions in
    record {
      template = template_marks_are f;
      block = block_marks_are f;
      expression = expr_marks_are f;
      each_of_template = λ p ss at h. template_marked (λ s. p s ≡ true) f ss at h;
      each_of_block = λ p at ss h k. block_marked (λ s. p s ≡ true) f at ss h k;
      each_of_expression = λ p e h. expr_marked (λ s. p s ≡ true) f e h;
    }
