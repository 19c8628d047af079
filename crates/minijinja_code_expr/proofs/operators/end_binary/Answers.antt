use Rattle.std.proofs.Common.{OnOk, sym, ap, subst, ◌∙◌}
use Rattle.std.specs.Option.{option_map}
use Rattle.minijinja_tree.specs.Erasure.{bin_op}
use Rattle.minijinja_semantics.specs.Pieces.{one}
use Rattle.minijinja_emitter.specs.internal.AtEmitter.{made_of, margin_of}
use Rattle.minijinja_code_expr.specs.private.Operating.{EndsBinary}
use Rattle.minijinja_code_expr.specs.private.OperatorMarks.{EndsBinaryMarks}
use Rattle.minijinja_emitter.proofs.Adding.{adds_as}
use Rattle.minijinja_code_expr.proofs.FoldedMarks.{strict_given_marks, strict_unknown_marks}
use Rattle.minijinja_code_expr.proofs.OperatorCode.{strict_given, strict_unknown}
use Rattle.minijinja_code_expr.proofs.Results.{ok_gives}
use Rattle.minijinja_code_expr.proofs.operators.end_binary.Goals as goal

pub returns-in-Some-clause-added : goal.returns-in-Some-clause-added
returns-in-Some-clause-added g c =
    let v = g.V.TemplateValue.contents in
    let made = made_of v c.args.code.now in
    ok_gives c.replace.result (strict_given g.V.TemplateValue.functions (bin_op c.args.op) made (made_of v c.replace.new.self) (sym c.is_lazy.ensures ∙ c.if-is_lazy.false) (λ within. ap (option_map v) (sym c.in-Some.is) ∙ c.in_ok-value.ensures within)) c.replace.ensures.replaced

pub returns-in-None-clause-added : goal.returns-in-None-clause-added
returns-in-None-clause-added g c =
    let v = g.V.TemplateValue.contents in
    let made = made_of v c.args.code.now in
    ok_gives c.add.result (λ s. strict_unknown g.V.TemplateValue.functions (bin_op c.args.op) made (made_of v c.add.new.self) (sym c.is_lazy.ensures ∙ c.if-is_lazy.false) (λ within. ap (option_map v) (sym c.in-None.is) ∙ c.in_ok-value.ensures within) (adds_as (ap (λ i. one i) c.operator.ensures.is) s)) c.add.ensures.added

pub returns-in-Concat-clause-added : goal.returns-in-Concat-clause-added
returns-in-Concat-clause-added g c =
    let v = g.V.TemplateValue.contents in
    subst (λ o. OnOk c.end_concat.result (EndsBinary g.V.TemplateValue.functions (bin_op o) c.args.start c.args.middle (made_of v c.args.code.now) (made_of v c.end_concat.new.code))) (sym c.in-Concat.is) c.end_concat.ensures.added

pub returns-in-Some-clause-marked : goal.returns-in-Some-clause-marked
returns-in-Some-clause-marked g c =
    let v = g.V.TemplateValue.contents in
    let made = made_of v c.args.code.now in
    ok_gives c.replace.result (strict_given_marks g.V.TemplateValue.functions (bin_op c.args.op) made c.args.site (margin_of c.args.code.now) (sym c.is_lazy.ensures ∙ c.if-is_lazy.false) (λ within. ap (option_map v) (sym c.in-Some.is) ∙ c.in_ok-value.ensures within)) c.replace.ensures.marked

pub returns-in-None-clause-marked : goal.returns-in-None-clause-marked
returns-in-None-clause-marked g c =
    let v = g.V.TemplateValue.contents in
    let made = made_of v c.args.code.now in
    ok_gives c.add.result (strict_unknown_marks g.V.TemplateValue.functions (bin_op c.args.op) made c.args.site (margin_of c.args.code.now) (sym c.is_lazy.ensures ∙ c.if-is_lazy.false) (λ within. ap (option_map v) (sym c.in-None.is) ∙ c.in_ok-value.ensures within)) c.add.ensures.marked

pub returns-in-Concat-clause-marked : goal.returns-in-Concat-clause-marked
returns-in-Concat-clause-marked g c =
    let v = g.V.TemplateValue.contents in
    subst (λ o. OnOk c.end_concat.result (EndsBinaryMarks g.V.TemplateValue.functions (bin_op o) c.args.start c.args.middle c.args.site (made_of v c.args.code.now) (margin_of c.args.code.now) (margin_of c.end_concat.new.code))) (sym c.in-Concat.is) c.end_concat.ensures.marked
