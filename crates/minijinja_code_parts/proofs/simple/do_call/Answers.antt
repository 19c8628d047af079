use Rattle.std.proofs.Common.{ap, ◌∙◌}
use Rattle.minijinja_tree.specs.Erasure.{args_of, expr_tree}
use Rattle.minijinja_tree.specs.Tree as tree
use Rattle.minijinja_tree.specs.Nodes.{node_of}
use Rattle.minijinja_tree.specs.SpannedErasure as node
use Rattle.minijinja_tree.specs.SpannedTrees as spanned
use Rattle.minijinja_semantics.specs.Layout as layout
use Rattle.minijinja_semantics.specs.Marks as marks
use Rattle.minijinja_emitter.proofs.Adding.{adds_as, adds_then}
use Rattle.minijinja_emitter.specs.internal.AtEmitter.{margin_of}
use Rattle.minijinja_code_expr.proofs.Results.{ok_gives}
use Rattle.minijinja_code_parts.proofs.Marking.{ok_marked}
use Rattle.minijinja_code_parts.proofs.simple.do_call.Goals as goal

pub returns-clause-added : goal.returns-clause-added
returns-clause-added g c =
    let v = g.V.TemplateValue.contents in
    let f = g.V.TemplateValue.functions in
    ok_gives c.add.result (adds_then (adds_as (ap (λ n. layout.expr f (tree.call (expr_tree v n.expr) (args_of v n.args.items))) c.node.ensures) c.in_ok-call.ensures.added)) c.add.ensures.added

pub returns-clause-marked : goal.returns-clause-marked
returns-clause-marked g c =
    let v = g.V.TemplateValue.contents in
    let f = g.V.TemplateValue.functions in
    let m = margin_of c.args.code.now in
    let called = c.in_ok-call.ensures.marked
    ∙ ap (λ n. marks.expr f (spanned.call (node.expr_node v n.expr) (node.args_of v n.args.items) c.span.result) m) c.node.ensures
    ∙ ap (λ s. let n = node_of c.args.called.now.call in marks.expr f (spanned.call (node.expr_node v n.expr) (node.args_of v n.args.items) s) m) c.span.ensures in
    ok_marked c.add.result (margin_of c.add.new.self) (ap (marks.here 1) called) c.add.ensures.marked
