use Rattle.std.proofs.Common.{sym, ◌∙◌}
use Rattle.minijinja_tree.specs.Erasure.{compare_op}
use Rattle.minijinja_tree_expr.specs.declared.ast.CompareOp.{CompareOp as Comparison}
use Rattle.minijinja_semantics.specs.Marks.{comparison}
use Rattle.minijinja_emitter.specs.internal.AtEmitter.{made_of, margin_of}
use Rattle.minijinja_emitter.proofs.Adding.{adds_as}
use Rattle.minijinja_code_expr.proofs.ArgumentMarks.{last_marks}
use Rattle.minijinja_code_expr.proofs.ChainLast.{last_left, none_left}
use Rattle.minijinja_code_expr.proofs.Results.{ok_gives}
use Rattle.minijinja_code_expr.proofs.chain.add_last.Goals as goal

pub returns-in-Some-clause-added : goal.returns-in-Some-clause-added
returns-in-Some-clause-added g c =
    let v = g.V.TemplateValue.contents in
    ok_gives c.add_plain.result (λ s failed. adds_as (sym (last_left g.V.TemplateValue.functions v failed c.args.ops.now c.in-Some.last.now (sym c.in-Some.ensures.value))) s) c.add_plain.ensures.added

pub returns-in-None-clause-added : goal.returns-in-None-clause-added
returns-in-None-clause-added g c =
    let v = g.V.TemplateValue.contents in
    λ failed. none_left g.V.TemplateValue.functions v failed (made_of v c.args.code.now) c.args.ops.now c.in-None.ensures.item.3

pub returns-in-Some-clause-marked : goal.returns-in-Some-clause-marked
returns-in-Some-clause-marked g c =
    let mark = λ (x : Comparison g.row.V.Denot g.row.V-Fault.Denot). comparison (compare_op x.op) in
    ok_gives c.add_plain.result (λ s. s ∙ last_marks mark c.args.ops.now c.in-Some.last.now (margin_of c.args.code.now) (sym c.in-Some.ensures.value)) c.add_plain.ensures.marked
