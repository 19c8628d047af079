use Rattle.std.proofs.Common.{◌≡◌, ◌≤◌, ◌++◌, length, drop, map}
use Rattle.std.specs.Prelude.{reverse, string_bytes}
use Rattle.minijinja_meta.specs.Mentions.{after_dots}
use Rattle.minijinja_meta.proofs.mentions.push_attributes.Given as goal

-- the last ones are written
abbrev pub invariant-loop-left : goal.invariant-loop-left
invariant-loop-left l = record {
  text : string_bytes l.text ≡ string_bytes l.initial.text ++ after_dots (reverse (map (λ x. x.now) (drop l.left l.attributes)));
  within : l.left ≤ length l.attributes;
}

abbrev pub decreases-loop-left : goal.decreases-loop-left
decreases-loop-left l = l.left
