-- The copies so far are those of the first values.
use Rattle.std.proofs.Common.{◌≡◌, map, take}
use Rattle.minijinja_replay.proofs.asking.copies.Given as goal

abbrev pub invariant-loop-value : goal.invariant-loop-value
invariant-loop-value g l = map g.V.TemplateValue.contents l.copies.items ≡ map g.V.TemplateValue.contents (take l.value-index l.values)
