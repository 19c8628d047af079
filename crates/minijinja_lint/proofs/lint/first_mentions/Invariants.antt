use Rattle.std.proofs.Common.{◌≡◌, ◌≤◌, length, drop}
use Rattle.minijinja_syntax.specs.Texts.{Text}
use Rattle.minijinja_meta.specs.Mentions.{free_of}
use Rattle.minijinja_meta.specs.Occurrences.{found_of}
use Rattle.minijinja_lint.specs.Findings.{spans_of}
use Rattle.minijinja_lint.specs.private.First.{IsOrdered, at, first_of}
use Rattle.minijinja_lint.proofs.lint.first_mentions.Given as goal

-- those that were put are the last ones
abbrev pub invariant-loop-left : goal.invariant-loop-left
invariant-loop-left g l = record {
  first : (x : Text) → at x l.first ≡ first_of (spans_of x (free_of (found_of g.V.TemplateValue.contents (drop l.left l.found))));
  ordered : IsOrdered l.first;
  within : l.left ≤ length l.found;
}

abbrev pub decreases-loop-left : goal.decreases-loop-left
decreases-loop-left g l = l.left
