-- Which occurrences are free depends only on which names are stored.
use Rattle.std.proofs.Common.{◌≡◌, refl, ap, ap₂}
use Rattle.std.specs.Prelude.{not, ◌||◌, List, ◌∷◌, ◌++◌}
use Rattle.std.specs.Str.{bytes_eq}
use Rattle.minijinja_syntax.specs.Texts.{Text}
use Rattle.minijinja_meta.specs.Mentions.{Way, end, occurs, stores, declares, region, is_among, marked}

pub marked-same : (xs ys : List Text) → ((y : Text) → is_among y xs ≡ is_among y ys) → (w : Way) → marked xs w ≡ marked ys w
marked-same xs ys same end = refl
marked-same xs ys same (occurs m w) = ap₂ (λ b os. (m, not b) ∷ os) (same m.name) (marked-same xs ys same w)
marked-same xs ys same (stores x w) = marked-same (x ∷ xs) (x ∷ ys) (λ y. ap (λ b. bytes_eq y x || b) (same y)) w
marked-same xs ys same (declares x s w) = marked-same xs ys same w
marked-same xs ys same (region v w) = ap₂ ◌++◌ (marked-same xs ys same v) (marked-same xs ys same w)
