use Rattle.std.proofs.Common.{sym, ap, ◌∙◌}
use Rattle.std.specs.Prelude.{slice_set}
use Rattle.minijinja_semantics.specs.Code.{Instr}
use Rattle.minijinja_tree.specs.Erasure.{bin_op}
use Rattle.minijinja_tree.specs.Operators.{working}
use Rattle.minijinja_emitter.specs.internal.AtEmitter.{made_of, margin_of}
use Rattle.minijinja_emitter.specs.internal.Making.{Made}
use Rattle.minijinja_code_expr.specs.internal.Parts.{jump_of}
use Rattle.minijinja_code_expr.proofs.FoldedMarks.{gives_right_marks, gives_left_marks, lazy_left_unknown_marks, lazy_right_unknown_marks}
use Rattle.minijinja_code_expr.proofs.OperatorCode.{gives_right_on, gives_left_on, lazy_left_unknown, lazy_right_unknown}
use Rattle.minijinja_code_expr.proofs.Results.{ok_gives}
use Rattle.minijinja_code_expr.proofs.operators.end_lazy.Goals as goal
use Rattle.minijinja_code_expr.proofs.operators.end_lazy.Goals.{in-Some+else-is_some, in_default}

pub returns-then-gives_right-clause-added : goal.returns-then-gives_right-clause-added
returns-then-gives_right-clause-added g c =
    let v = g.V.TemplateValue.contents in
    ok_gives c.keep_last.result (gives_right_on g.V.TemplateValue.functions (bin_op c.args.op) (made_of v c.args.code.now) (made_of v c.keep_last.new.self) (λ x. v x.now) c.constant-in-Some.result c.requires c.place-end.ensures c.place-end.type_inv c.saturating_add.ensures c.in-Some.ensures c.constant-in-Some.ensures (sym c.if-is_some.ensures) c.if-gives_right.ensures) c.keep_last.ensures.kept

pub returns-then-is_some-clause-added : goal.returns-then-is_some-clause-added
returns-then-is_some-clause-added g c =
    let v = g.V.TemplateValue.contents in
    ok_gives c.keep_last-then-is_some.result (gives_left_on g.V.TemplateValue.functions (bin_op c.args.op) (made_of v c.args.code.now) (made_of v c.cut.new.self) (made_of v c.keep_last-then-is_some.new.self) (λ x. v x.now) c.constant-in-Some.result c.requires c.place-end.ensures c.place-end.type_inv c.saturating_add.ensures c.in-Some.ensures c.constant-in-Some.ensures (sym c.if-is_some.ensures) c.if-gives_right.ensures c.cut.ensures.cut) c.keep_last-then-is_some.ensures.kept

pub returns-then-gives_right-clause-marked : goal.returns-then-gives_right-clause-marked
returns-then-gives_right-clause-marked g c =
    let v = g.V.TemplateValue.contents in
    ok_gives c.keep_last.result (gives_right_marks g.V.TemplateValue.functions (bin_op c.args.op) (made_of v c.args.code.now) (λ x. v x.now) c.constant-in-Some.result c.args.site (margin_of c.args.code.now) c.requires c.place-end.ensures c.place-end.type_inv c.saturating_add.ensures c.in-Some.ensures c.constant-in-Some.ensures (sym c.if-is_some.ensures) c.if-gives_right.ensures) c.keep_last.ensures.marked

pub returns-then-is_some-clause-marked : goal.returns-then-is_some-clause-marked
returns-then-is_some-clause-marked g c =
    let v = g.V.TemplateValue.contents in
    ok_gives c.keep_last-then-is_some.result (gives_left_marks g.V.TemplateValue.functions (bin_op c.args.op) (made_of v c.args.code.now) (made_of v c.cut.new.self) (λ x. v x.now) c.constant-in-Some.result c.args.site (margin_of c.args.code.now) c.requires c.place-end.ensures c.place-end.type_inv c.saturating_add.ensures c.in-Some.ensures c.constant-in-Some.ensures (sym c.if-is_some.ensures) c.if-gives_right.ensures c.cut.ensures.cut c.cut.ensures.marked) c.keep_last-then-is_some.ensures.marked

pub returns-clause-added : goal.returns-clause-added
returns-clause-added g c =
    let v = g.V.TemplateValue.contents in
    let f = g.V.TemplateValue.functions in
    let o = bin_op c.args.op in
    let old = made_of v c.args.code.now in
    let new = made_of v c.fill.new.self in
    let put : Instr g.V.TemplateValue.Contents → Made g.V.TemplateValue.Contents = λ i. record old { code = slice_set old.code c.args.middle i } in
    let filled = c.fill.ensures.filled ∙ ap put (c.lazy_jump.ensures ∙ ap (jump_of (working o)) c.here.ensures) in
    elim c.match-constant.branch [
      | in-Some+else-is_some w ↦ lazy_right_unknown f o old new (λ x. v x.now) w.constant-in-Some.result c.requires c.place-end.ensures c.place-end.type_inv w.saturating_add.ensures w.constant-in-Some.ensures (sym w.if-is_some.ensures) filled
      | in_default w ↦ lazy_left_unknown f o old new c.requires w.in_default.ensures filled
    ]

pub returns-clause-marked : goal.returns-clause-marked
returns-clause-marked g c =
    let v = g.V.TemplateValue.contents in
    let f = g.V.TemplateValue.functions in
    let o = bin_op c.args.op in
    let made = made_of v c.args.code.now in
    elim c.match-constant.branch [
      | in-Some+else-is_some w ↦ lazy_right_unknown_marks f o made (λ x. v x.now) w.constant-in-Some.result c.args.site (margin_of c.args.code.now) c.requires c.place-end.ensures c.place-end.type_inv w.saturating_add.ensures w.constant-in-Some.ensures (sym w.if-is_some.ensures) c.fill.ensures.marked
      | in_default w ↦ lazy_left_unknown_marks f o made c.args.site (margin_of c.args.code.now) c.requires w.in_default.ensures c.fill.ensures.marked
    ]
