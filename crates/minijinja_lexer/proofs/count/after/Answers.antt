use Rattle.std.proofs.Common.{min, arith}
use Rattle.minijinja_lexer.proofs.Counting.{line_step, column_step}
use Rattle.minijinja_lexer.proofs.count.after.Goals as goal

pub loop-i-preserved : goal.loop-i-preserved
loop-i-preserved c = (
  line_step c.args.text.now c.as_bytes-bytes.result.now c.loop-i.i (min 65535 c.loop-i.line) (min 65535 c.step.result.0) c.as_bytes-bytes.ensures.value (omega arith) c.loop-i.invariant.0 c.step.ensures.line,
  column_step c.args.text.now c.as_bytes-bytes.result.now c.loop-i.i (min 65535 c.loop-i.column) (min 65535 c.step.result.1) c.as_bytes-bytes.ensures.value (omega arith) c.loop-i.invariant.1 c.step.ensures.column,
  (let a = c.loop-i.invariant.2 in let b = c.step.ensures.line_bound in omega (arith, a, b)),
  (let a = c.loop-i.invariant.3 in let b = c.step.ensures.column_bound in omega (arith, a, b)),
)
