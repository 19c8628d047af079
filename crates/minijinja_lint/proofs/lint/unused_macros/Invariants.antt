use Rattle.std.proofs.Common.{◌≡◌, take}
use Rattle.minijinja_meta.specs.Occurrences.{found_of, macros_of}
use Rattle.minijinja_lint.specs.Findings.{unused_macros}
use Rattle.minijinja_lint.proofs.lint.unused_macros.Given as goal

abbrev pub invariant-loop-name : goal.invariant-loop-name
invariant-loop-name g l = macros_of l.unused.items ≡ unused_macros (found_of g.V.TemplateValue.contents l.found) (macros_of (take l.name-index l.macros))
