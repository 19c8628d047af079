use Rattle.minijinja_tree.specs.Erasure.{expr_tree}
use Rattle.minijinja_tree.specs.SpannedErasure as node
use Rattle.minijinja_emitter.specs.internal.AtEmitter.{margin_of}
use Rattle.minijinja_code_expr.proofs.Results.{ok_gives}
use Rattle.minijinja_code_parts.proofs.MacroParts.{takes_default, takes_none, variable_target, whole_default}
use Rattle.minijinja_code_parts.proofs.Marking.{marked_alone, marked_default}
use Rattle.minijinja_code_parts.proofs.macro_parts.take_argument.Goals as goal

pub take_default-requires : goal.take_default-requires
take_default-requires g c = whole_default g.V.TemplateValue.contents c.args.default _ c.in-Some.is c.requires.default

pub assign-requires : goal.assign-requires
assign-requires g c = variable_target (expr_tree g.V.TemplateValue.contents c.args.arg.now) c.requires.arg

pub assign-requires-in-None : goal.assign-requires-in-None
assign-requires-in-None g c = variable_target (expr_tree g.V.TemplateValue.contents c.args.arg.now) c.requires.arg

pub returns-in_ok-take_default-in-Some-clause-added : goal.returns-in_ok-take_default-in-Some-clause-added
returns-in_ok-take_default-in-Some-clause-added g c =
    let v = g.V.TemplateValue.contents in
    ok_gives c.assign.result (λ s. takes_default v g.V.TemplateValue.functions c.args.default _ (expr_tree v c.args.arg.now) c.in-Some.is c.in_ok-take_default-in-Some.ensures.added s) c.assign.ensures.added

pub returns-in-None-clause-added : goal.returns-in-None-clause-added
returns-in-None-clause-added g c =
    let v = g.V.TemplateValue.contents in
    ok_gives c.assign-in-None.result (λ s. takes_none v g.V.TemplateValue.functions c.args.default (expr_tree v c.args.arg.now) c.in-None.is s) c.assign-in-None.ensures.added

pub returns-in_ok-take_default-in-Some-clause-marked : goal.returns-in_ok-take_default-in-Some-clause-marked
returns-in_ok-take_default-in-Some-clause-marked g c =
    let v = g.V.TemplateValue.contents in
    ok_gives c.assign.result (λ s. marked_default v g.V.TemplateValue.functions c.args.default _ (node.expr_node v c.args.arg.now) (margin_of c.args.code.now) (margin_of c.take_default.new.code) (margin_of c.assign.new.code) c.in-Some.is c.in_ok-take_default-in-Some.ensures.marked s) c.assign.ensures.marked

pub returns-in-None-clause-marked : goal.returns-in-None-clause-marked
returns-in-None-clause-marked g c =
    let v = g.V.TemplateValue.contents in
    ok_gives c.assign-in-None.result (λ s. marked_alone v g.V.TemplateValue.functions c.args.default (node.expr_node v c.args.arg.now) (margin_of c.args.code.now) (margin_of c.assign-in-None.new.code) c.in-None.is s) c.assign-in-None.ensures.marked
