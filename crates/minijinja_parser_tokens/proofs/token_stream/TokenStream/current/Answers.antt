use Rattle.std.proofs.Common.{◌≡◌, Some, arith, rules}
use Rattle.minijinja_parser_tokens.proofs.InView.{shown}
use Rattle.minijinja_parser_tokens.proofs.token_stream.TokenStream.current.Goals as goal

pub returns-in-Ok-Some-clause-shows : goal.returns-in-Ok-Some-clause-shows
returns-in-Ok-Some-clause-shows c =
    let some : c.in-Ok-Some.field-0 ≡ Some (c.in-Ok-Some.token, c.in-Ok-Some.span) = first_of (cc, search rules, grind arith) in
    (_, shown c.self.inside c.args.self.now c.in-Ok-Some.field-0 (c.in-Ok-Some.token, c.in-Ok-Some.span) c.self.view_is c.in-Ok-Some.is some)
