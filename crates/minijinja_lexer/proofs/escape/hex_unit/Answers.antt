use Rattle.std.proofs.Common.{arith, lit<}
use Rattle.minijinja_lexer.proofs.Escaping.{no_hex_unit}
use Rattle.minijinja_lexer.proofs.escape.hex_unit.Goals as goal
use Rattle.minijinja_lexer.proofs.escape.hex_unit.Goals.{else-a-lt16-via-then-a-lt16+then-b-lt16+then-c-lt16+else-d-lt16, else-a-lt16-via-then-a-lt16+then-b-lt16+else-c-lt16, else-a-lt16-via-then-a-lt16+else-b-lt16, else-a-lt16-via-else-a-lt16}

pub returns-else-a-lt16-clause-value : goal.returns-else-a-lt16-clause-value
returns-else-a-lt16-clause-value c = elim c.else-a-lt16.branch [
  | else-a-lt16-via-then-a-lt16+then-b-lt16+then-c-lt16+else-d-lt16 w ↦ no_hex_unit c.args.text.now 3 (omega arith) (lit< tt) (omega (arith, w.if-d-lt16.false, c.digit_of-d.ensures.value))
  | else-a-lt16-via-then-a-lt16+then-b-lt16+else-c-lt16 w ↦ no_hex_unit c.args.text.now 2 (omega arith) (lit< tt) (omega (arith, w.if-c-lt16.false, c.digit_of-c.ensures.value))
  | else-a-lt16-via-then-a-lt16+else-b-lt16 w ↦ no_hex_unit c.args.text.now 1 (omega arith) (lit< tt) (omega (arith, w.if-b-lt16.false, c.digit_of-b.ensures.value))
  | else-a-lt16-via-else-a-lt16 w ↦ no_hex_unit c.args.text.now 0 (omega arith) (lit< tt) (omega (arith, w.if-a-lt16.false, c.digit_of-a.ensures.value))
]
