use Rattle.std.proofs.Common.{ap, ◌∙◌, ◌≤◌, length, arith}
use Rattle.std.specs.Option.{option_map}
use Rattle.minijinja_tree.specs.Erasure.{bin_op}
use Rattle.minijinja_tree.specs.Operators.{working}
use Rattle.minijinja_tree_expr.proofs.FoldedOutcomes.{binary_without_fault}
use Rattle.minijinja_emitter.specs.internal.AtEmitter.{made_of}
use Rattle.minijinja_emitter.specs.internal.Making.{alone, between}
use Rattle.minijinja_code_expr.proofs.OperatorCode.{known_both, known_not_left, known_not_right}
use Rattle.minijinja_code_expr.proofs.operators.fold_between.Goals as goal
use Rattle.minijinja_code_expr.proofs.operators.fold_between.Goals.{in-Some+in_default-constant, in_default}

pub returns-in-Some-constant : goal.returns-in-Some-constant
returns-in-Some-constant g c within =
    let f = g.V.TemplateValue.functions in
    let v = g.V.TemplateValue.contents in
    let code = (made_of v c.args.code.now).code in
    let w = working (bin_op c.args.op) in
    let all : c.place.result ≤ length code = omega arith in
    ap (option_map v) c.flatten.ensures
    ∙ binary_without_fault f v g.V.TemplateValue.fault_contents w (v c.in-Some.left.now) (v c.in-Some-constant.right.now) c.fold_of.result _ c.fold_of.ensures.outcome c.in_ok-without_fault.ensures.value
    ∙ known_both f w code c.args.start c.args.middle (c.in-Some.ensures within) (c.in-Some-constant.ensures all ∙ ap (λ n. alone (between c.args.middle n code)) c.place.ensures)

pub returns : goal.returns
returns g c =
    let code = (made_of g.V.TemplateValue.contents c.args.code.now).code in
    let w = working (bin_op c.args.op) in
    elim c.match-constant.branch [
      | in-Some+in_default-constant w' ↦ λ within.
          let all : w'.place.result ≤ length code = omega (arith, w'.place.ensures) in
          known_not_right g.V.TemplateValue.functions w code c.args.start c.args.middle (w'.in_default-constant.ensures all ∙ ap (λ n. alone (between c.args.middle n code)) w'.place.ensures)
      | in_default w' ↦ λ within. known_not_left g.V.TemplateValue.functions w code c.args.start c.args.middle (w'.in_default.ensures within)
    ]
