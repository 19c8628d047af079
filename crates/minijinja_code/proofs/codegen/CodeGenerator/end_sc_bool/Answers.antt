use Rattle.std.proofs.Common.{List, [], rules, sym, ap, ap₂, ◌∙◌}
use Rattle.minijinja_semantics.specs.Code.{Instr}
use Rattle.minijinja_semantics.specs.Marks.{Margin}
use Rattle.minijinja_code.specs.Building.{Building, conditions_ended_at}
use Rattle.minijinja_code.specs.declared.codegen.building.Pending.TheVariants as pending
use Rattle.minijinja_code.specs.internal.AtGenerator.{building, open_of, outer_spans}
use Rattle.minijinja_code.specs.internal.OpenBlocks.{all_opened_in}
use Rattle.minijinja_code.proofs.OpenBlocks.{condition_led, last_kept, no_row, no_row_ended, opened_when_taken, row_begun}
use Rattle.minijinja_code.proofs.codegen.CodeGenerator.end_sc_bool.Goals as goal

pub loop-jump-preserved : goal.loop-jump-preserved
loop-jump-preserved g c =
    let v = g.V.TemplateValue.contents in
    let l = c.loop-jump in
    let left = l.self.pending in
    let next = c.next_instruction-end.result in
    let b = building v l.self in
    let bs = all_opened_in [] c.pop.new.self.items in
    let kept = last_kept c.copied.result c.deref.ensures.value (c.copied.ensures ∙ c.last.ensures.value) in
    let was = opened_when_taken left.items c.pop.new.self.items left.len (pending.Condition c.in-Some.jump) left.ok.0 (sym kept ∙ c.in-Some.ensures.some) c.pop.ensures.rest in
    let shown : List (Instr g.V.TemplateValue.Contents) → Margin → Building g.V.TemplateValue.Contents = λ is m. record { code = is; margin = m; outer = outer_spans l.self; blocks = bs } in
    record {
      ended = ap (conditions_ended_at next bs) (ap₂ shown (ap (λ m. m.code) c.lead_to.ensures.led) c.lead_to.ensures.marked)
          ∙ condition_led next c.in-Some.jump bs b ∙ ap (λ o. conditions_ended_at next o b) (sym was) ∙ l.invariant.ended;
      rest = search rules;
    }

pub returns-then-begins_row-clause-ended : goal.returns-then-begins_row-clause-ended
returns-then-begins_row-clause-ended g c =
    let v = g.V.TemplateValue.contents in
    let l = c.loop-jump in
    let left = l.self.pending in
    let next = c.next_instruction-end.result in
    let old = c.args.self.now in
    let kept = last_kept c.copied-2.result c.deref-2.ensures.value (c.copied-2.ensures ∙ c.last-2.ensures.value) in
    let begun = row_begun c.copied-2.result (sym c.begins_row.ensures ∙ c.if-begins_row.true) in
    let was = opened_when_taken left.items c.pop-then-begins_row.new.self.items left.len pending.Conditions left.ok.0 (sym kept ∙ begun) c.pop-then-begins_row.ensures.rest in
    ap (λ o. conditions_ended_at next o (building v l.self)) (sym was) ∙ l.invariant.ended ∙ ap (λ n. conditions_ended_at n (open_of old) (building v old)) c.next_instruction-end.ensures

pub returns-else-begins_row-clause-ended : goal.returns-else-begins_row-clause-ended
returns-else-begins_row-clause-ended g c =
    let v = g.V.TemplateValue.contents in
    let l = c.loop-jump in
    let next = c.next_instruction-end.result in
    let old = c.args.self.now in
    let first = last_kept c.copied.result c.deref.ensures.value (c.copied.ensures ∙ c.last.ensures.value) in
    let second = last_kept c.copied-2.result c.deref-2.ensures.value (c.copied-2.ensures ∙ c.last-2.ensures.value) in
    let none = no_row l.self.pending.items c.copied.result c.copied-2.result first second c.in_default.ensures.none (sym c.begins_row.ensures ∙ c.if-begins_row.false) in
    sym (no_row_ended next (open_of l.self) (building v l.self) none) ∙ l.invariant.ended ∙ ap (λ n. conditions_ended_at n (open_of old) (building v old)) c.next_instruction-end.ensures
