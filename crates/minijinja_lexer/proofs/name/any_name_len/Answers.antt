use Rattle.std.proofs.Common.{sym, ◌∙◌}
use Rattle.minijinja_lexer.proofs.Scanning.{name_step, name_stop, name_end, name_boundary}
use Rattle.minijinja_lexer.proofs.name.any_name_len.Goals as goal

pub returns-then-not-continues_name-clause-value : goal.returns-then-not-continues_name-clause-value
returns-then-not-continues_name-clause-value c =
    name_stop c.args.text.now c.loop-c.len c.loop-c.c-iterator.rest.now c.next.new.self.rest.now c.in-Some.c c.loop-c.invariant (c.in-Some.ensures.steps.0) (sym c.continues_name.ensures ∙ c.if-not-continues_name.true)

pub returns-then-not-continues_name-clause-boundary : goal.returns-then-not-continues_name-clause-boundary
returns-then-not-continues_name-clause-boundary c = name_boundary c.args.text.now c.loop-c.len c.loop-c.c-iterator.rest.now c.loop-c.invariant

pub loop-c-preserved : goal.loop-c-preserved
loop-c-preserved c =
    rw c.len_utf8-len.ensures.value
    (name_step c.args.text.now c.loop-c.len c.loop-c.c-iterator.rest.now c.next.new.self.rest.now c.in-Some.c c.loop-c.invariant (c.in-Some.ensures.steps.0) (sym c.continues_name.ensures ∙ c.if-not-continues_name.false))

pub returns-clause-value : goal.returns-clause-value
returns-clause-value c = name_end c.args.text.now c.loop-c.len c.loop-c.c-iterator.rest.now c.loop-c.invariant c.in-None.ensures.steps.0.0

pub returns-clause-boundary : goal.returns-clause-boundary
returns-clause-boundary c = name_boundary c.args.text.now c.loop-c.len c.loop-c.c-iterator.rest.now c.loop-c.invariant
