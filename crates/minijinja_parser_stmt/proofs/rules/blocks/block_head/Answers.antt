use Rattle.std.proofs.Common.{rules, refl}
use Rattle.minijinja_parser_stmt.proofs.Blocks.{head_is}
use Rattle.minijinja_parser_stmt.proofs.rules.blocks.block_head.Goals as goal

pub returns-in_err-name : goal.returns-in_err-name
returns-in_err-name g c =
    rw (head_is (g.S.Input.Tokens.place c.args.tokens.now)) (search rules)

pub returns-in_err-eat : goal.returns-in_err-eat
returns-in_err-eat g c =
    rw (head_is (g.S.Input.Tokens.place c.args.tokens.now), c.in_ok-name.ensures) (search rules)

pub returns-in_err-required : goal.returns-in_err-required
returns-in_err-required g c =
    rw (head_is (g.S.Input.Tokens.place c.args.tokens.now), c.in_ok-name.ensures, c.in_ok-eat.ensures) (search rules)

pub returns : goal.returns
returns g c =
    rw (head_is (g.S.Input.Tokens.place c.args.tokens.now), c.in_ok-name.ensures, c.in_ok-eat.ensures, c.in_ok-required.ensures) refl
