use Rattle.std.proofs.Common.{sym, ap, subst, ◌∙◌}
use Rattle.minijinja_tree.specs.Erasure.{args_of}
use Rattle.minijinja_tree.specs.SpannedErasure as node
use Rattle.minijinja_semantics.specs.Layout as layout
use Rattle.minijinja_semantics.specs.Layout.{argument_count}
use Rattle.minijinja_semantics.specs.Marks.{here}
use Rattle.minijinja_semantics.specs.Pieces.{◌▸◌}
use Rattle.minijinja_emitter.specs.internal.AtEmitter.{made_of, margin_of}
use Rattle.minijinja_emitter.specs.internal.Making.{Adds}
use Rattle.minijinja_emitter.specs.internal.Margins.{closed}
use Rattle.minijinja_code_expr.specs.internal.NodeMarks.{given_marks}
use Rattle.minijinja_code_expr.specs.internal.Parts.{given}
use Rattle.minijinja_emitter.proofs.Adding.{adds_as, adds_then}
use Rattle.minijinja_code_expr.proofs.filters.apply.Goals as goal

pub returns-clause-added : goal.returns-clause-added
returns-clause-added g c =
    let v = g.V.TemplateValue.contents in
    let f = g.V.TemplateValue.functions in
    let name = c.args.waiting.filter.now.name.now in
    let made = made_of v in
    let applied = adds_then c.in_ok-count.ensures.added (adds_as (ap (layout.apply_filter name) c.in_ok-count.ensures.count) c.in_ok-apply_filter.ensures.added) in
    subst (λ xs. Adds (made c.args.code.now) (made c.close.new.self) (given f (args_of v xs) 1 ▸ layout.apply_filter name (argument_count (args_of v xs) 1))) c.deref.ensures.value
    (subst (λ m. Adds (made c.args.code.now) m (given f (args_of v c.deref.result.now) 1 ▸ layout.apply_filter name (argument_count (args_of v c.deref.result.now) 1))) (sym c.close.ensures.made) applied)

pub returns-clause-marked : goal.returns-clause-marked
returns-clause-marked g c =
    let v = g.V.TemplateValue.contents in
    let f = g.V.TemplateValue.functions in
    let given = c.in_ok-count.ensures.marked ∙ ap (λ xs. given_marks f (node.args_of v xs) 1 (margin_of c.args.code.now)) c.deref.ensures.value in
    c.close.ensures.marked ∙ ap (closed c.args.waiting.outer) (c.in_ok-apply_filter.ensures.marked ∙ ap (here 1) given)
