use Rattle.std.proofs.Common.{ap, ◌∙◌}
use Rattle.minijinja_tree.specs.Erasure.{names_of}
use Rattle.minijinja_tree.specs.SpannedErasure as node
use Rattle.minijinja_semantics.specs.Layout.{looking_up, storing_back}
use Rattle.minijinja_semantics.specs.Marks as marks
use Rattle.minijinja_emitter.proofs.Adding.{adds_as, adds_then}
use Rattle.minijinja_emitter.specs.internal.AtEmitter.{margin_of}
use Rattle.minijinja_code_expr.proofs.Results.{ok_gives}
use Rattle.minijinja_code_parts.proofs.Marking.{ok_marked}
use Rattle.minijinja_code_parts.proofs.modules.from_import.Goals as goal

pub returns-clause-added : goal.returns-clause-added
returns-clause-added g c =
    let v = g.V.TemplateValue.contents in
    let f = g.V.TemplateValue.functions in
    let looks = adds_as (ap (λ xs. looking_up f (names_of v xs)) c.deref.ensures.value) c.in_ok-look_up.ensures.added in
    let stores = adds_as (ap (λ xs. storing_back f (names_of v xs)) c.deref-2.ensures.value) c.in_ok-store_back.ensures.added in
    ok_gives c.add-3.result (λ s. adds_then c.in_ok-begin_import.ensures.added (adds_then looks (adds_then c.in_ok-add.ensures.added (adds_then stores (adds_then c.in_ok-add-2.ensures.added s))))) c.add-3.ensures.added

pub returns-clause-marked : goal.returns-clause-marked
returns-clause-marked g c =
    let v = g.V.TemplateValue.contents in
    let f = g.V.TemplateValue.functions in
    let names = c.args.import.now.names.items in
    let looks = c.in_ok-look_up.ensures.marked ∙ ap (λ xs. marks.looking_up f (node.names_of v xs) (margin_of c.begin_import.new.code)) c.deref.ensures.value in
    let stores = c.in_ok-store_back.ensures.marked ∙ ap (λ xs. marks.storing_back f (node.names_of v xs) (margin_of c.add.new.self)) c.deref-2.ensures.value in
    let before = c.in_ok-add.ensures.marked ∙ ap (marks.here 1) (looks ∙ ap (marks.looking_up f (node.names_of v names)) c.in_ok-begin_import.ensures.marked) in
    let after = c.in_ok-add-2.ensures.marked ∙ ap (marks.here 1) (stores ∙ ap (marks.storing_back f (node.names_of v names)) before) in
    ok_marked c.add-3.result (margin_of c.add-3.new.self) (ap (marks.here 1) after) c.add-3.ensures.marked
