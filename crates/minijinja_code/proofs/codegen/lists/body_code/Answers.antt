use Rattle.std.proofs.Common.{◌∙◌, ap, refl}
use Rattle.minijinja_tree.proofs.Rows.{body_of}
use Rattle.minijinja_emitter.specs.internal.AtEmitter.{made_of}
use Rattle.minijinja_code_parts.specs.internal.EnclosingLoops.{Around}
use Rattle.minijinja_code.proofs.Bodies.{inner_in}
use Rattle.minijinja_semantics.specs.Marks.{Margin, on_line}
use Rattle.minijinja_code.proofs.MarkSteps.{nodes_as}
use Rattle.minijinja_code.proofs.ListParts.{body_added}
use Rattle.minijinja_code.proofs.codegen.lists.body_code.Goals as goal

pub statements-requires : goal.statements-requires
statements-requires g c = inner_in g.V.TemplateValue.contents _ _ c.args.body.now (ap (λ (a : Around). a.in_loop) c.outside-enclosing.ensures) c.requires

pub returns-clause-code : goal.returns-clause-code
returns-clause-code g c =
    let v = g.V.TemplateValue.contents in
    let same = c.in_ok-make_room.ensures.made ∙ c.on_line.ensures.made in
    c.into_parts.ensures.code ∙ body_added g.V.TemplateValue.functions (body_of v c.args.body.now) (made_of v c.new-code.result) (ap (λ h. h) c.new-code.ensures.here) same c.outside-enclosing.ensures c.in_ok-statements.ensures.added

pub returns-clause-marks : goal.returns-clause-marks
returns-clause-marks g c =
    let v = g.V.TemplateValue.contents in
    let began = c.in_ok-make_room.ensures.marked ∙ c.on_line.ensures.marked ∙ ap (on_line c.args.span) c.new-code.ensures.margin in
    c.into_parts.ensures.marks ∙ ap (λ (m : Margin). m.marks) (nodes_as g.V.TemplateValue.functions v {xs = c.args.body.now} (ap (λ (a : Around). a.opened) c.outside-enclosing.ensures) refl began c.in_ok-statements.ensures.marked)
