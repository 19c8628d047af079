use Rattle.std.proofs.Common.{sym, ap, ◌∙◌, refl}
use Rattle.minijinja_tree.specs.Nodes.{node_of, span_of}
use Rattle.minijinja_emitter.specs.internal.AtEmitter.{margin_of}
use Rattle.minijinja_emitter.specs.internal.Margins.{opened}
use Rattle.minijinja_code_expr.specs.internal.NodeMarks.{begun}
use Rattle.minijinja_code_expr.proofs.NodeArms.{spanned_compare}
use Rattle.minijinja_code_expr.proofs.leading.begin.Goals as goal

pub returns-in-Compare-clause-marked : goal.returns-in-Compare-clause-marked
returns-in-Compare-clause-marked g c =
    let s = c.in-Compare.node in
    let old = margin_of c.args.code.now in
    c.enter-in-Compare.ensures.marked
    ∙ ap (λ t. opened t old) c.span-in-Compare.ensures
    ∙ sym (ap (λ e. begun e old) (spanned_compare g.V.TemplateValue.contents c.args.node.now s (node_of s) (span_of s) c.in-Compare.is refl refl))
