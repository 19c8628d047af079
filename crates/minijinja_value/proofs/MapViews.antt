-- What a map holds, seen on its pairs.
use Rattle.std.proofs.Common.{◌≡◌, Bool, true, false, List, [], ◌∷◌, length, refl, arith}
use Rattle.std.specs.Prelude.{◌==◌, ◌↔◌, IsTrue}
use Rattle.minijinja_value.specs.ValueContents.{Contents, Pairs, no_pairs}
use Rattle.minijinja_value.specs.ValueViews.{contents_step, map_step, map_view, pairs_view}
use Rattle.minijinja_value.specs.declared.value.Value.{Value}
use Rattle.minijinja_value.specs.declared.value.ValueMap.{ValueMap, out-ValueMap}
use Rattle.minijinja_value.specs.declared.value.Value.TheViews.{roll-ValueMap}
use Rattle.minijinja_value.specs.declared.value.Value.TheOpen.{ValueMap-F}
use Rattle.minijinja_value.specs.declared.value.Value.TheFolds.{fold-roll-ValueMap, fold_out-ValueMap}

pub map_view-out : (m : ValueMap) → map_view m ≡ pairs_view (out-ValueMap m).pairs.items
map_view-out m = fold_out-ValueMap Contents Pairs contents_step map_step m

pub map_view-roll : (m : ValueMap-F Value ValueMap) → map_view (roll-ValueMap m) ≡ pairs_view m.pairs.items
map_view-roll m = fold-roll-ValueMap Contents Pairs contents_step map_step m

pub is_empty-view : (ps : List (Value × Value)) (b : Bool) → b ≡ (length ps == 0) → IsTrue b ↔ (pairs_view ps ≡ no_pairs)
is_empty-view [] b e = (λ _. refl, λ _. grind (arith, e))
is_empty-view (p ∷ ps) true e = absurd (grind (arith, e))
is_empty-view (p ∷ ps) false e = (λ h. absurd (cc h), λ h. absurd (cc h))
