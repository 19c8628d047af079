use Rattle.std.proofs.Common.{◌≡◌, length}
use Rattle.std.specs.Prelude.{reverse}
use Rattle.minijinja_tree.specs.Erasure.{expr_tree}
use Rattle.minijinja_tree.specs.SpannedErasure.{expr_node}
use Rattle.minijinja_tree_expr.specs.declared.ast.Filter.{size-Filter}
use Rattle.minijinja_semantics.specs.Marks as marks
use Rattle.minijinja_emitter.specs.internal.AtEmitter.{made_of, margin_of}
use Rattle.minijinja_code_expr.proofs.FilterChains.{Going, Rest}
use Rattle.minijinja_code_expr.proofs.FilterMarks.{Left, unwound}
use Rattle.minijinja_code_expr.proofs.filters.filters.Given as goal

-- going down a chain adds no code
abbrev pub invariant-loop-last : goal.invariant-loop-last
invariant-loop-last g l =
    let v = g.V.TemplateValue.contents in
    let f = g.V.TemplateValue.functions in
    record {
      same : made_of v l.code ≡ made_of v l.fn.code;
      going : Going f v (made_of v l.fn.code) (expr_tree v l.fn.chain) l.last.filter.now (reverse l.waiting.items);
      left : Left f v l.last (reverse l.waiting.items) (margin_of l.code) (marks.expr f (expr_node v l.fn.chain) (margin_of l.fn.code));
    }

abbrev pub decreases-loop-last : goal.decreases-loop-last
decreases-loop-last g l = size-Filter g.row.V.Denot g.row.V-Fault.Denot l.last.filter.now

abbrev pub invariant-loop-next : goal.invariant-loop-next
invariant-loop-next g l =
    let v = g.V.TemplateValue.contents in
    let f = g.V.TemplateValue.functions in
    record {
      rest : Rest f v (made_of v l.fn.code) (expr_tree v l.fn.chain) (reverse l.waiting.items) (made_of v l.code);
      left : unwound f v (reverse l.waiting.items) (margin_of l.code) ≡ marks.expr f (expr_node v l.fn.chain) (margin_of l.fn.code);
    }

abbrev pub decreases-loop-next : goal.decreases-loop-next
decreases-loop-next g l = length l.waiting.items
