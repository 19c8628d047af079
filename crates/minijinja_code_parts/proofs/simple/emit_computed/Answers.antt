use Rattle.std.proofs.Common.{sym, ap, ◌∙◌}
use Rattle.minijinja_tree.specs.Erasure.{expr_tree}
use Rattle.minijinja_tree.specs.SpannedErasure as node
use Rattle.minijinja_semantics.specs.Layout as layout
use Rattle.minijinja_semantics.specs.Marks as marks
use Rattle.minijinja_emitter.proofs.Adding.{adds_as, adds_then}
use Rattle.minijinja_emitter.specs.internal.AtEmitter.{margin_of}
use Rattle.minijinja_code_expr.specs.internal.Outputs.{output_shown}
use Rattle.minijinja_code_expr.proofs.Outputs.{recursion_whole}
use Rattle.minijinja_code_expr.proofs.Results.{ok_gives}
use Rattle.minijinja_code_parts.proofs.Marking.{adds_from, items_marked, ok_marked, span_is, within_made}
use Rattle.minijinja_code_parts.proofs.simple.emit_computed.Goals as goal

pub expression-requires : goal.expression-requires
expression-requires g c =
    let v = g.V.TemplateValue.contents in
    recursion_whole (expr_tree v c.args.expr.now) (expr_tree v c.in-Recursion.items.now) c.requires (sym c.output_of.ensures.shown ∙ ap (output_shown v) c.in-Recursion.is)

pub returns-in-Super-clause-marked : goal.returns-in-Super-clause-marked
returns-in-Super-clause-marked g c =
    let v = g.V.TemplateValue.contents in
    let f = g.V.TemplateValue.functions in
    let n = node.expr_node v c.args.expr.now in
    let m = margin_of c.args.code.now in
    let at = c.span-span.ensures ∙ span_is v c.args.expr.now in
    let is = sym (ap (output_shown v) c.in-Super.is) ∙ c.output_of.ensures.shown in
    ok_marked c.add_at.result (margin_of c.add_at.new.self) (ap (marks.alone_at c.span-span.result) c.on_line.ensures.marked ∙ ap (λ p. marks.alone_at p (marks.on_line p m)) at ∙ ap (λ w. marks.write f w n m) is) c.add_at.ensures.marked

pub returns-in_ok-expression-in-Recursion-clause-added : goal.returns-in_ok-expression-in-Recursion-clause-added
returns-in_ok-expression-in-Recursion-clause-added g c =
    let v = g.V.TemplateValue.contents in
    let f = g.V.TemplateValue.functions in
    let e = expr_tree v c.args.expr.now in
    let is = sym (ap (output_shown v) c.in-Recursion.is) ∙ c.output_of.ensures.shown in
    let items = adds_from (layout.expr f (expr_tree v c.in-Recursion.items.now)) c.on_line-in-Recursion.ensures.made c.in_ok-expression-in-Recursion.ensures.added in
    ok_gives c.add_at-in-Recursion.result (λ s. adds_as (ap (λ w. layout.write f w (layout.expr f e)) is) (adds_then items s)) c.add_at-in-Recursion.ensures.added

pub returns-in_ok-expression-in-Recursion-clause-marked : goal.returns-in_ok-expression-in-Recursion-clause-marked
returns-in_ok-expression-in-Recursion-clause-marked g c =
    let v = g.V.TemplateValue.contents in
    let f = g.V.TemplateValue.functions in
    let n = node.expr_node v c.args.expr.now in
    let m = margin_of c.args.code.now in
    let at = c.span-span.ensures ∙ span_is v c.args.expr.now in
    let is = sym (ap (output_shown v) c.in-Recursion.is) ∙ c.output_of.ensures.shown in
    let items = node.expr_node v c.in-Recursion.items.now in
    let made = c.in_ok-expression-in-Recursion.ensures.marked ∙ ap (marks.expr f items) c.on_line-in-Recursion.ensures.marked
    ∙ sym (items_marked v f c.output_of.result c.in-Recursion.items n (marks.on_line c.span-span.result m) c.in-Recursion.is c.output_of.ensures.items) in
    ok_marked c.add_at-in-Recursion.result (margin_of c.add_at-in-Recursion.new.self) (ap (marks.alone_at c.span-span.result) made ∙ ap (λ p. marks.alone_at p (marks.arguments_of f n (marks.on_line p m))) at ∙ ap (λ w. marks.write f w n m) is) c.add_at-in-Recursion.ensures.marked

pub returns-in-Block-clause-marked : goal.returns-in-Block-clause-marked
returns-in-Block-clause-marked g c =
    let v = g.V.TemplateValue.contents in
    let f = g.V.TemplateValue.functions in
    let n = node.expr_node v c.args.expr.now in
    let m = margin_of c.args.code.now in
    let at = c.span-span.ensures ∙ span_is v c.args.expr.now in
    let is = sym (ap (output_shown v) c.in-Block.is) ∙ c.output_of.ensures.shown in
    ok_marked c.add.result (margin_of c.add.new.self) (ap (marks.here 1) (c.on_line-in-Block.ensures.marked ∙ ap (λ p. marks.on_line p m) at) ∙ ap (λ w. marks.write f w n m) is) c.add.ensures.marked

pub returns-in_ok-add-in-Plain-clause-marked : goal.returns-in_ok-add-in-Plain-clause-marked
returns-in_ok-add-in-Plain-clause-marked g c =
    let v = g.V.TemplateValue.contents in
    let f = g.V.TemplateValue.functions in
    let n = node.expr_node v c.args.expr.now in
    let m = margin_of c.args.code.now in
    let at = c.span-span.ensures ∙ span_is v c.args.expr.now in
    let is = sym (ap (output_shown v) c.in-Plain.is) ∙ c.output_of.ensures.shown in
    within_made (λ t. marks.here 1 (marks.expr f n t)) m at c.open-outer.ensures.outer c.open-outer.ensures.marked
    (c.in_ok-add-in-Plain.ensures.marked ∙ ap (marks.here 1) c.in_ok-expression-in-Plain.ensures.marked) c.close.ensures.marked
    ∙ ap (λ w. marks.write f w n m) is
