use Rattle.std.proofs.Common.{◌≡◌, take, sym, ap, ◌∙◌}
use Rattle.std.proofs.lemmas.List.{take_all}
use Rattle.minijinja_value.specs.ValueContents.{pairs_of}
use Rattle.minijinja_value.specs.ValueViews.{pairs_view}
use Rattle.minijinja_value.proofs.MapViews.{map_view-out, map_view-roll}
use Rattle.minijinja_value.proofs.value.build.+copy.Goals as goal

pub copy_map-returns : goal.copy_map-returns
copy_map-returns t c =
    let ps = c.deref-key-items.result.now in
    let whole : take c.loop-key.key-index ps ≡ ps = take_all c.loop-key.key-index ps c.loop-key-test.false in
    map_view-roll (record { pairs = c.loop-key.copies }) ∙ ap pairs_of c.loop-key.invariant ∙ ap pairs_view whole ∙ ap pairs_view c.deref-key-items.ensures.value ∙ sym (map_view-out c.args.map.now)
