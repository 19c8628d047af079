use Rattle.std.proofs.Common.{take}
use Rattle.minijinja_meta.specs.Occurrences.{found_of}
use Rattle.minijinja_lint.specs.Findings.{mentioned}
use Rattle.minijinja_lint.specs.private.First.{AreNames}
use Rattle.minijinja_lint.proofs.lint.mentioned_names.Given as goal

abbrev pub invariant-loop-occurrence : goal.invariant-loop-occurrence
invariant-loop-occurrence g l = AreNames (mentioned (found_of g.V.TemplateValue.contents (take l.occurrence-index l.found))) l.names
