use Rattle.std.proofs.Common.{◌≡◌, sym, ap, ◌∙◌, refl}
use Rattle.minijinja_tree.specs.Erasure.{expr_tree}
use Rattle.minijinja_tree.specs.Tree as tree
use Rattle.minijinja_tree.specs.SpannedErasure.{expr_node}
use Rattle.minijinja_tree.specs.SpannedTrees as spanned
use Rattle.minijinja_semantics.specs.Calls.{written}
use Rattle.minijinja_semantics.specs.Layout as layout
use Rattle.minijinja_semantics.specs.Marks as marks
use Rattle.minijinja_emitter.proofs.Adding.{adds_as}
use Rattle.minijinja_emitter.specs.internal.AtEmitter.{margin_of}
use Rattle.minijinja_code_expr.proofs.Results.{ok_gives}
use Rattle.minijinja_code_parts.proofs.Marking.{ok_marked}
use Rattle.minijinja_code_parts.proofs.simple.emit_expr.Goals as goal

pub returns-in-Var-clause-added : goal.returns-in-Var-clause-added
returns-in-Var-clause-added g c =
    let v = g.V.TemplateValue.contents in
    let f = g.V.TemplateValue.functions in
    let is : expr_tree v c.args.expr.now ≡ tree.variable c.node.result.now.id.now = rw (c.in-Var.is, c.node.ensures) refl in
    ok_gives c.emit_variable.result (adds_as (sym (ap (λ e. layout.write f (written e) (layout.expr f e)) is))) c.emit_variable.ensures.added

pub returns-in-Var-clause-marked : goal.returns-in-Var-clause-marked
returns-in-Var-clause-marked g c =
    let v = g.V.TemplateValue.contents in
    let f = g.V.TemplateValue.functions in
    let m = margin_of c.args.code.now in
    let is : expr_tree v c.args.expr.now ≡ tree.variable c.node.result.now.id.now = rw (c.in-Var.is, c.node.ensures) refl in
    let at : expr_node v c.args.expr.now ≡ spanned.variable c.node.result.now.id.now c.span.result = rw (c.in-Var.is, c.node.ensures, c.span.ensures) refl in
    ok_marked c.emit_variable.result (margin_of c.emit_variable.new.code) (sym (ap (λ n. marks.write f (written (expr_tree v c.args.expr.now)) n m) at ∙ ap (λ e. marks.write f (written e) (spanned.variable c.node.result.now.id.now c.span.result) m) is)) c.emit_variable.ensures.marked
