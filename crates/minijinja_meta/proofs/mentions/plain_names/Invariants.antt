use Rattle.std.proofs.Common.{◌≡◌, ◌≤◌, length, drop, map}
use Rattle.std.specs.BTreeSet.{keys}
use Rattle.minijinja_meta.specs.Mentions.{free_of, in_order, names_of}
use Rattle.minijinja_meta.specs.Occurrences.{found_of}
use Rattle.minijinja_meta.proofs.mentions.plain_names.Given as goal

-- those that were put are the last ones
abbrev pub invariant-loop-left : goal.invariant-loop-left
invariant-loop-left g l = record {
  names : map (λ x. x.now) (keys l.names) ≡ in_order (names_of (free_of (found_of g.V.TemplateValue.contents (drop l.left l.found))));
  within : l.left ≤ length l.found;
}

abbrev pub decreases-loop-left : goal.decreases-loop-left
decreases-loop-left g l = l.left
