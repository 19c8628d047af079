use Rattle.std.proofs.Common.{◌≡◌, sym, ap, ◌∙◌}
use Rattle.std.specs.Option.{option_map}
use Rattle.minijinja_tree.specs.Erasure.{unary_op}
use Rattle.minijinja_semantics.specs.Pieces.{one}
use Rattle.minijinja_semantics.specs.Layout.{unary_instr}
use Rattle.minijinja_semantics.specs.Marks.{unary_operator}
use Rattle.minijinja_tree_expr.specs.declared.ast.UnaryOpKind.TheVariants as unary
use Rattle.minijinja_tree_expr.proofs.FoldedOutcomes.{unary_without_fault}
use Rattle.minijinja_emitter.specs.internal.AtEmitter.{made_of, margin_of}
use Rattle.minijinja_emitter.specs.internal.Making.{Adds}
use Rattle.minijinja_emitter.proofs.Adding.{adds_as}
use Rattle.minijinja_code_expr.proofs.FoldedMarks.{unary_given_marks, unary_faults_marks, unary_unknown_marks}
use Rattle.minijinja_code_expr.proofs.OperatorCode.{unary_given, unary_faults, unary_unknown}
use Rattle.minijinja_code_expr.proofs.Results.{ok_gives}
use Rattle.minijinja_code_expr.proofs.operators.end_unary.Goals as goal
use Rattle.minijinja_code_expr.proofs.operators.end_unary.Goals.{in-Some+in_ok-value+in_default-2, in_default}

pub returns-in-Some-2-clause-added : goal.returns-in-Some-2-clause-added
returns-in-Some-2-clause-added g c =
    let v = g.V.TemplateValue.contents in
    let value = ap (option_map v) (sym c.in-Some-2.is) ∙ unary_without_fault g.V.TemplateValue.functions v g.V.TemplateValue.fault_contents (unary_op c.args.op) _ c.fold.result _ c.fold.ensures.outcome c.in_ok-value.ensures.value in
    ok_gives c.replace.result (unary_given g.V.TemplateValue.functions (unary_op c.args.op) (made_of v c.args.code.now) (made_of v c.replace.new.self) c.place.ensures c.in-Some.ensures value) c.replace.ensures.replaced

pub returns-in-Some-2-clause-marked : goal.returns-in-Some-2-clause-marked
returns-in-Some-2-clause-marked g c =
    let v = g.V.TemplateValue.contents in
    let value = ap (option_map v) (sym c.in-Some-2.is) ∙ unary_without_fault g.V.TemplateValue.functions v g.V.TemplateValue.fault_contents (unary_op c.args.op) _ c.fold.result _ c.fold.ensures.outcome c.in_ok-value.ensures.value in
    ok_gives c.replace.result (unary_given_marks g.V.TemplateValue.functions (unary_op c.args.op) (made_of v c.args.code.now) c.args.site (margin_of c.args.code.now) c.place.ensures c.in-Some.ensures value) c.replace.ensures.marked

pub returns-in-Not-clause-added : goal.returns-in-Not-clause-added
returns-in-Not-clause-added g c =
    let v = g.V.TemplateValue.contents in
    let f = g.V.TemplateValue.functions in
    let old = made_of v c.args.code.now in
    let new = made_of v c.add.new.self in
    let o = unary_op c.args.op in
    let adds : Adds old new (one (unary_instr (unary_op unary.Not))) → Adds old new (one (unary_instr o)) = λ s. adds_as (ap (λ k. one (unary_instr (unary_op k))) (sym c.in-Not.is)) s in
    elim c.match-constant.branch [
      | in-Some+in_ok-value+in_default-2 w ↦ ok_gives c.add.result (λ s. unary_faults f o old new c.place.ensures w.in-Some.ensures (ap (option_map v) (sym w.in_default-2.is) ∙ unary_without_fault f v g.V.TemplateValue.fault_contents o _ w.fold.result _ w.fold.ensures.outcome w.in_ok-value.ensures.value) (adds s)) c.add.ensures.added
      | in_default w ↦ ok_gives c.add.result (λ s. unary_unknown f o old new c.place.ensures w.in_default.ensures (adds s)) c.add.ensures.added
    ]

pub returns-in-Not-clause-marked : goal.returns-in-Not-clause-marked
returns-in-Not-clause-marked g c =
    let v = g.V.TemplateValue.contents in
    let f = g.V.TemplateValue.functions in
    let made = made_of v c.args.code.now in
    let old = margin_of c.args.code.now in
    let new = margin_of c.add.new.self in
    let o = unary_op c.args.op in
    let marked : new ≡ unary_operator (unary_op unary.Not) c.args.site.node old → new ≡ unary_operator o c.args.site.node old = λ s. s ∙ ap (λ k. unary_operator (unary_op k) c.args.site.node old) (sym c.in-Not.is) in
    elim c.match-constant.branch [
      | in-Some+in_ok-value+in_default-2 w ↦ ok_gives c.add.result (λ s. unary_faults_marks f o made c.args.site (margin_of c.args.code.now) c.place.ensures w.in-Some.ensures (ap (option_map v) (sym w.in_default-2.is) ∙ unary_without_fault f v g.V.TemplateValue.fault_contents o _ w.fold.result _ w.fold.ensures.outcome w.in_ok-value.ensures.value) (marked s)) c.add.ensures.marked
      | in_default w ↦ ok_gives c.add.result (λ s. unary_unknown_marks f o made c.args.site (margin_of c.args.code.now) c.place.ensures w.in_default.ensures (marked s)) c.add.ensures.marked
    ]

pub returns-in-Neg-clause-added : goal.returns-in-Neg-clause-added
returns-in-Neg-clause-added g c =
    let v = g.V.TemplateValue.contents in
    let f = g.V.TemplateValue.functions in
    let old = made_of v c.args.code.now in
    let new = made_of v c.add_at.new.self in
    let o = unary_op c.args.op in
    let adds : Adds old new (one (unary_instr (unary_op unary.Neg))) → Adds old new (one (unary_instr o)) = λ s. adds_as (ap (λ k. one (unary_instr (unary_op k))) (sym c.in-Neg.is)) s in
    elim c.match-constant.branch [
      | in-Some+in_ok-value+in_default-2 w ↦ ok_gives c.add_at.result (λ s. unary_faults f o old new c.place.ensures w.in-Some.ensures (ap (option_map v) (sym w.in_default-2.is) ∙ unary_without_fault f v g.V.TemplateValue.fault_contents o _ w.fold.result _ w.fold.ensures.outcome w.in_ok-value.ensures.value) (adds s)) c.add_at.ensures.added
      | in_default w ↦ ok_gives c.add_at.result (λ s. unary_unknown f o old new c.place.ensures w.in_default.ensures (adds s)) c.add_at.ensures.added
    ]

pub returns-in-Neg-clause-marked : goal.returns-in-Neg-clause-marked
returns-in-Neg-clause-marked g c =
    let v = g.V.TemplateValue.contents in
    let f = g.V.TemplateValue.functions in
    let made = made_of v c.args.code.now in
    let old = margin_of c.args.code.now in
    let new = margin_of c.add_at.new.self in
    let o = unary_op c.args.op in
    let marked : new ≡ unary_operator (unary_op unary.Neg) c.args.site.node old → new ≡ unary_operator o c.args.site.node old = λ s. s ∙ ap (λ k. unary_operator (unary_op k) c.args.site.node old) (sym c.in-Neg.is) in
    elim c.match-constant.branch [
      | in-Some+in_ok-value+in_default-2 w ↦ ok_gives c.add_at.result (λ s. unary_faults_marks f o made c.args.site (margin_of c.args.code.now) c.place.ensures w.in-Some.ensures (ap (option_map v) (sym w.in_default-2.is) ∙ unary_without_fault f v g.V.TemplateValue.fault_contents o _ w.fold.result _ w.fold.ensures.outcome w.in_ok-value.ensures.value) (marked s)) c.add_at.ensures.marked
      | in_default w ↦ ok_gives c.add_at.result (λ s. unary_unknown_marks f o made c.args.site (margin_of c.args.code.now) c.place.ensures w.in_default.ensures (marked s)) c.add_at.ensures.marked
    ]
