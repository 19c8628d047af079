use Rattle.std.proofs.Common.{arith}
use Rattle.minijinja_lexer.proofs.Quoting.{past_backslash, past_other, quoted_stop}
use Rattle.minijinja_lexer.proofs.quoted.quoted_len.Goals as goal
use Rattle.minijinja_lexer.proofs.quoted.quoted_len.Goals.{else-text-len-eq92-via-then-text-len-eq92+else-text-len-gt1, else-text-len-eq92-via-else-text-len-eq92}

pub loop-len-preserved-then-text-len-gt1 : goal.loop-len-preserved-then-text-len-gt1
loop-len-preserved-then-text-len-gt1 c = past_backslash c.args.quote c.args.text.now c.loop-len.len c.loop-len.invariant (omega arith) c.if-text-len.true c.if-text-len-eq92.true

pub loop-len-preserved : goal.loop-len-preserved
loop-len-preserved c = elim c.else-text-len-eq92.branch [
  | else-text-len-eq92-via-then-text-len-eq92+else-text-len-gt1 w ↦ past_other c.args.quote c.args.text.now c.loop-len.len c.loop-len.invariant c.loop-len-test.true c.if-text-len.true (λ l e. omega (arith, l, w.if-text-len-gt1.false))
  | else-text-len-eq92-via-else-text-len-eq92 w ↦ past_other c.args.quote c.args.text.now c.loop-len.len c.loop-len.invariant c.loop-len-test.true c.if-text-len.true (λ _. w.if-text-len-eq92.false)
]

pub returns-else-text-len-clause-value : goal.returns-else-text-len-clause-value
returns-else-text-len-clause-value c = quoted_stop c.args.quote c.args.text.now c.loop-len.len c.loop-len.invariant c.loop-len-test.true c.if-text-len.false
