use Rattle.std.proofs.Common.{◌≡◌, ◌+◌, subst, sym, arith}
use Rattle.std.specs.Str.{IsCharBoundary}
use Rattle.std.proofs.lemmas.Grind.{common_steps}
use Rattle.minijinja_lexer.specs.Numbers.{number_len}
use Rattle.minijinja_lexer.proofs.Digits.{number_boundary}
use Rattle.minijinja_lexer.proofs.number.number_len.Goals as goal

pub returns-clause-boundary : goal.returns-clause-boundary
returns-clause-boundary c =
    let e : c.prefix_size-start.result + c.taken_len.result ≡ number_len c.args.text.now = grind (arith, common_steps) in
    subst (λ m. IsCharBoundary c.args.text.now m) (sym e) (number_boundary c.args.text.now c.utf8.text)
