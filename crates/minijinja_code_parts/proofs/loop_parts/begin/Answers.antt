use Rattle.minijinja_tree.specs.SpannedErasure as node
use Rattle.minijinja_emitter.specs.internal.AtEmitter.{made_of, margin_of}
use Rattle.minijinja_code_expr.proofs.Results.{ok_value_gives}
use Rattle.minijinja_code_parts.proofs.Marking.{began_over}
use Rattle.minijinja_code_parts.proofs.loop_parts.begin.Goals as goal

pub returns-clause-begun : goal.returns-clause-begun
returns-clause-begun g c =
    ok_value_gives c.begin_turns.result (λ enclosing begins. record { given = made_of g.V.TemplateValue.contents c.items.new.code; items_added = c.in_ok-outer.ensures.added; begins = begins }) c.begin_turns.ensures.begun

pub returns-clause-marked : goal.returns-clause-marked
returns-clause-marked g c =
    let v = g.V.TemplateValue.contents in
    let n = c.args.each.now in
    began_over g.V.TemplateValue.functions c.begin_turns.result (node.expr_node v n.target) (node.expr_node v n.iter) (node.optional_of v n.filter_expr) (margin_of c.args.code.now) (margin_of c.begin_turns.new.code) c.in_ok-outer.ensures.outer c.in_ok-outer.ensures.marked c.begin_turns.ensures.marked
