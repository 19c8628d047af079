use Rattle.std.proofs.Common.{◌≡◌, Some, arith, rules}
use Rattle.minijinja_parser_tokens.proofs.InView.{shown}
use Rattle.minijinja_parser_tokens.proofs.tokens.TokenStreamTokens.misfit.Goals as goal

pub returns-in-Ok-Some : goal.returns-in-Ok-Some
returns-in-Ok-Some c =
    let some : c.in-Ok-Some.field-0 ≡ Some c.in-Ok-Some.field-0-0 = first_of (cc, search rules, grind arith) in
    (_, _, shown c.self.inside c.args.self.now c.in-Ok-Some.field-0 c.in-Ok-Some.field-0-0 c.self.view_is c.in-Ok-Some.is some)
