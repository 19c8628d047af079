use Rattle.std.proofs.Common.{lit≤, subst}
use Rattle.std.specs.Str.{IsCharBoundary}
use Rattle.minijinja_syntax.specs.Texts.{Text}
use Rattle.std.proofs.lemmas.Str.{IsCharBoundary-start}
use Rattle.minijinja_lexer.proofs.scan.word_front.Goals as goal

pub returns-else-begins_name-clause-places : goal.returns-else-begins_name-clause-places
returns-else-begins_name-clause-places c =
    let start = IsCharBoundary-start c.range_from-rest.result.now c.range_from-rest.utf8 in
    record { onwards = lit≤ tt; boundary = subst (λ (t : Text). IsCharBoundary t 0) c.range_from-rest.ensures.value start }
