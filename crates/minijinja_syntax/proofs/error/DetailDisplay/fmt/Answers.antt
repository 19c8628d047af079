-- Where a detail has more than one word of its own, the pieces that are written are its words.
use Rattle.std.proofs.Common.{◌++◌, ◌∙◌, codes, sym, ap}
use Rattle.std.proofs.lemmas.List.{append_assoc}
use Rattle.std.proofs.Output.{has_written_of_eq}
use Rattle.minijinja_syntax.specs.DetailWords.{detail_words, expected_words, found_words}
use Rattle.minijinja_syntax.proofs.error.DetailDisplay.fmt.Goals as goal

pub returns-in-UnexpectedToken-clause-writes : goal.returns-in-UnexpectedToken-clause-writes
returns-in-UnexpectedToken-clause-writes g c =
    let nested = append_assoc (codes "unexpected `" ++ c.in-UnexpectedToken.found.now) (codes "`, expected ") (expected_words c.in-UnexpectedToken.expected) in
    λ p ok. has_written_of_eq _ _ _ _ _ (sym nested ∙ ap detail_words (sym c.in-UnexpectedToken.is)) (c.write-in-UnexpectedToken.ensures.writes p ok)

pub returns-in-Unexpected-clause-writes : goal.returns-in-Unexpected-clause-writes
returns-in-Unexpected-clause-writes g c =
    let nested = append_assoc (codes "unexpected " ++ found_words c.in-Unexpected.found) (codes ", expected ") (expected_words c.in-Unexpected.wanted) in
    λ p ok. has_written_of_eq _ _ _ _ _ (sym nested ∙ ap detail_words (sym c.in-Unexpected.is)) (c.write-in-Unexpected.ensures.writes p ok)

pub returns-in-StrayEnd-clause-writes : goal.returns-in-StrayEnd-clause-writes
returns-in-StrayEnd-clause-writes g c = λ p ok. has_written_of_eq _ _ _ _ _ (ap detail_words (sym c.in-StrayEnd.is)) (c.write-in-StrayEnd.ensures.writes p ok)

pub returns-in-OutsideLoop-clause-writes : goal.returns-in-OutsideLoop-clause-writes
returns-in-OutsideLoop-clause-writes g c = λ p ok. has_written_of_eq _ _ _ _ _ (ap detail_words (sym c.in-OutsideLoop.is)) (c.write-in-OutsideLoop.ensures.writes p ok)
