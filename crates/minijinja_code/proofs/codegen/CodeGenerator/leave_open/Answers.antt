use Rattle.std.proofs.Common.{List, [], ap, ◌∙◌}
use Rattle.minijinja_syntax.specs.declared.tokens.Span.{Span}
use Rattle.minijinja_semantics.specs.Code.{Instr}
use Rattle.minijinja_semantics.specs.Marks.{Margin}
use Rattle.minijinja_code.specs.Building.{Building, OpenBlock}
use Rattle.minijinja_code.specs.internal.AtGenerator.{generated, margin_so_far, open_of, outer_spans}
use Rattle.minijinja_code.specs.internal.OpenBlocks.{all_opened_in}
use Rattle.minijinja_code.proofs.Ending.{outcome_ok}
use Rattle.minijinja_code.proofs.OpenBlocks.{opened_last}
use Rattle.minijinja_code.proofs.codegen.CodeGenerator.leave_open.Goals as goal
use Rattle.minijinja_code_expr.proofs.Results.{ok_gives}

pub returns-clause-opened : goal.returns-clause-opened
returns-clause-opened g c =
    let v = g.V.TemplateValue.contents in
    let old = c.args.self.now in
    let r = c.ended.result in
    let ended = c.ended.ensures in
    let shown : List (Instr g.V.TemplateValue.Contents) → Margin → List Span → List OpenBlock → Building g.V.TemplateValue.Contents = λ is m ss bs. record { code = is; margin = m; outer = ss; blocks = bs } in
    ok_gives r (λ e.
    ap (λ is. shown is (margin_so_far c.ended.new.self) (outer_spans c.ended.new.self) (open_of c.ended.new.self)) ended.code
    ∙ ap (λ m. shown (generated v old) m (outer_spans c.ended.new.self) (open_of c.ended.new.self)) ended.margin
    ∙ ap (λ ss. shown (generated v old) (margin_so_far old) ss (open_of c.ended.new.self)) ended.outer
    ∙ ap (shown (generated v old) (margin_so_far old) (outer_spans old)) (ended.left_open ∙ ap (all_opened_in []) e ∙ opened_last [] old.pending.items c.args.pending))
    (outcome_ok _ r c.push-outcome.result tt ended.outcome c.push-outcome.ensures)
