use Rattle.std.proofs.Common.{◌<◌, ◌≤◌, length, arith, sym, ◌∙◌}
use Rattle.std.specs.Prelude.{reverse}
use Rattle.std.proofs.lemmas.List.{get_or-reverse, length-reverse}
use Rattle.std.proofs.lemmas.Option.{slice_get_read, slice_get_past}
use Rattle.minijinja_meta.proofs.targets.from_end.Goals as goal

pub returns-then-place-exprs : goal.returns-then-place-exprs
returns-then-place-exprs g c =
    let xs = c.args.exprs.now in
    let k = c.args.place in
    let x = c.index-exprs-exprs.result in
    let within : k < length xs = omega arith in
    sym (slice_get_read (reverse xs) (length xs) k x (sym (length-reverse xs)) within (c.index-exprs-exprs.is ∙ sym (get_or-reverse xs k x within)))

pub returns-else-place-exprs : goal.returns-else-place-exprs
returns-else-place-exprs g c =
    let xs = c.args.exprs.now in
    let past : length (reverse xs) ≤ c.args.place = omega (arith, length-reverse xs) in
    sym (slice_get_past (reverse xs) c.args.place past)
