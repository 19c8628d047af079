use Rattle.std.proofs.Common.{sym, ◌∙◌}
use Rattle.minijinja_lexer.proofs.Runs.{run_step, run_stop, run_end, run_boundary, run_is}
use Rattle.minijinja_lexer.proofs.whitespace.line_space_len.Goals as goal

pub returns-then-not-is_line_space-clause-value : goal.returns-then-not-is_line_space-clause-value
returns-then-not-is_line_space-clause-value c =
    run_is c.args.text.now c.loop-c.len
    (run_stop c.args.text.now c.loop-c.len c.loop-c.c-iterator.rest.now c.next.new.self.rest.now c.in-Some.c c.loop-c.invariant (c.in-Some.ensures.steps.0) (sym c.is_line_space.ensures ∙ c.if-not-is_line_space.true))
    (run_boundary c.args.text.now c.loop-c.len c.loop-c.c-iterator.rest.now c.loop-c.invariant)

pub returns-then-not-is_line_space-clause-boundary : goal.returns-then-not-is_line_space-clause-boundary
returns-then-not-is_line_space-clause-boundary c = run_boundary c.args.text.now c.loop-c.len c.loop-c.c-iterator.rest.now c.loop-c.invariant

pub loop-c-preserved : goal.loop-c-preserved
loop-c-preserved c =
    rw c.len_utf8-len.ensures.value
    (run_step c.args.text.now c.loop-c.len c.loop-c.c-iterator.rest.now c.next.new.self.rest.now c.in-Some.c c.loop-c.invariant (c.in-Some.ensures.steps.0) (sym c.is_line_space.ensures ∙ c.if-not-is_line_space.false))

pub returns-clause-value : goal.returns-clause-value
returns-clause-value c =
    run_is c.args.text.now c.loop-c.len
    (run_end c.args.text.now c.loop-c.len c.loop-c.c-iterator.rest.now c.loop-c.invariant c.in-None.ensures.steps.0.0)
    (run_boundary c.args.text.now c.loop-c.len c.loop-c.c-iterator.rest.now c.loop-c.invariant)

pub returns-clause-boundary : goal.returns-clause-boundary
returns-clause-boundary c = run_boundary c.args.text.now c.loop-c.len c.loop-c.c-iterator.rest.now c.loop-c.invariant
