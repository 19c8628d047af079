use Rattle.std.proofs.Common.{arith}
use Rattle.minijinja_parser_tokens.proofs.Turned.{take_shorter}
use Rattle.minijinja_parser_expr.proofs.atoms.joined_text.Goals as goal

pub loop-tokens-smaller-in_ok-push_text : goal.loop-tokens-smaller-in_ok-push_text
loop-tokens-smaller-in_ok-push_text g c = omega (arith, take_shorter _ _ _ c.in_ok-token.ensures.read)

pub loop-tokens-smaller-in_ok-push_text-2 : goal.loop-tokens-smaller-in_ok-push_text-2
loop-tokens-smaller-in_ok-push_text-2 g c = omega (arith, take_shorter _ _ _ c.in_ok-token.ensures.read)

pub loop-tokens-smaller : goal.loop-tokens-smaller
loop-tokens-smaller g c = omega (arith, take_shorter _ _ _ c.in_ok-token.ensures.read)
