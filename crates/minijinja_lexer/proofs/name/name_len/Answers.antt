use Rattle.std.proofs.Common.{length, drop, get_or, ap, sym, ◌∙◌, arith}
use Rattle.std.specs.Prelude.{◌&&◌, nat_lt}
use Rattle.minijinja_lexer.specs.Names.{continues_name}
use Rattle.minijinja_lexer.proofs.Scanning.{ascii_step, ascii_stop, name_boundary, name_end}
use Rattle.minijinja_lexer.proofs.name.name_len.Goals as goal

pub range_from-requires : goal.range_from-requires
range_from-requires c = λ _. name_boundary c.args.text.now c.loop-len.len (drop c.loop-len.len c.args.text.now) c.loop-len.invariant

pub returns-then-byte-lt128-clause-value : goal.returns-then-byte-lt128-clause-value
returns-then-byte-lt128-clause-value c =
    let len = c.loop-len.len in
    let byte = ap (λ t. get_or t len 0) c.as_bytes-bytes.ensures.value in
    let l = ap length c.as_bytes-bytes.ensures.value in
    ascii_stop c.args.text.now len c.loop-len.invariant (omega (arith, l, c.loop-len-test.true)) (omega (arith, byte, c.if-byte-lt128.true))
    (ap (λ b. nat_lt b 128 && continues_name b) (sym byte) ∙ sym c.continues_ascii.ensures ∙ c.if-not-continues_ascii.true)

pub loop-len-preserved : goal.loop-len-preserved
loop-len-preserved c =
    let len = c.loop-len.len in
    let byte = ap (λ t. get_or t len 0) c.as_bytes-bytes.ensures.value in
    let l = ap length c.as_bytes-bytes.ensures.value in
    ascii_step c.args.text.now len c.loop-len.invariant (omega (arith, l, c.loop-len-test.true))
    (ap (λ b. nat_lt b 128 && continues_name b) (sym byte) ∙ sym c.continues_ascii.ensures ∙ c.if-not-continues_ascii.false)

pub returns-clause-value : goal.returns-clause-value
returns-clause-value c = name_end c.args.text.now c.loop-len.len (drop c.loop-len.len c.args.text.now) c.loop-len.invariant (let l = c.loop-len.invariant.lens in omega (arith, l, c.loop-len-test.false))
