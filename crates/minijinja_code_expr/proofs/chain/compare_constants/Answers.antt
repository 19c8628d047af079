use Rattle.std.proofs.Common.{Some, None, length}
use Rattle.minijinja_tree.specs.Comparisons.{compares}
use Rattle.minijinja_tree.specs.Erasure.{compare_op}
use Rattle.minijinja_tree_expr.proofs.FoldedOutcomes.{comparison_without_fault}
use Rattle.minijinja_emitter.specs.internal.AtEmitter.{made_of}
use Rattle.minijinja_emitter.specs.internal.Making.{alone, between}
use Rattle.minijinja_code_expr.proofs.ChainFolds.{up_to_end, known_both, known_left, known_right, known_nothing}
use Rattle.minijinja_code_expr.proofs.chain.compare_constants.Goals as goal

pub returns-in-Some-constant-2 : goal.returns-in-Some-constant-2
returns-in-Some-constant-2 g c value held =
    let f = g.V.TemplateValue.functions in
    let v = g.V.TemplateValue.contents in
    let code = (made_of v c.args.code.now).code in
    let a = v c.in-Some-constant.left.now in
    let b = v c.in-Some-constant-2.right.now in
    known_both f (compare_op c.args.op) code value (alone (between c.args.place (length code) code)) a b c.in-Some.is c.in-Some-constant.ensures
    (up_to_end code (Some b) c.args.place c.place-end.result c.place-end.ensures c.in-Some-constant-2.ensures)
    (comparison_without_fault g.V.TemplateValue.fault_contents (compares f (compare_op c.args.op) a b) c.holds.result _ c.holds.ensures.outcome c.in_ok-without_fault.ensures.value) held

pub returns-in_default-constant-2 : goal.returns-in_default-constant-2
returns-in_default-constant-2 g c value held =
    let v = g.V.TemplateValue.contents in
    let code = (made_of v c.args.code.now).code in
    known_right g.V.TemplateValue.functions (compare_op c.args.op) value (alone (between c.args.place (length code) code)) (up_to_end code None c.args.place c.place-end.result c.place-end.ensures c.in_default-constant-2.ensures)

pub returns-in_default-constant : goal.returns-in_default-constant
returns-in_default-constant g c value held =
    let code = (made_of g.V.TemplateValue.contents c.args.code.now).code in
    known_left g.V.TemplateValue.functions (compare_op c.args.op) code value (alone (between c.args.place (length code) code)) c.in-Some.is c.in_default-constant.ensures held

pub returns-in_default : goal.returns-in_default
returns-in_default g c value held =
    let code = (made_of g.V.TemplateValue.contents c.args.code.now).code in
    known_nothing g.V.TemplateValue.functions (compare_op c.args.op) code value (alone (between c.args.place (length code) code)) c.in_default.is held
