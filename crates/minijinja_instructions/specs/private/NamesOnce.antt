-- Names of which each is kept once, beside the set of them.
use Rattle.std.specs.Prelude.{◌≡◌, Bool, List, [], ◌∷◌, ◌++◌, Option, Some, None, if◌then◌else◌, bytes_eq}
use Rattle.std.specs.Borrow.{Bor}
use Rattle.std.specs.BTreeSet.{BTreeSet, contains_by}
use Rattle.std.specs.Cmp.Lexicographic.{slice_cmp}
use Rattle.std.specs.List.{list_any}
use Rattle.std.specs.Ordering.{nat_cmp}
use Rattle.minijinja_syntax.specs.Texts.{Text}

-- whether a name is one of these
abbrev pub is_among : Text → List Text → Bool
is_among x xs = list_any (bytes_eq x) xs

-- whether a name is in a set
abbrev pub is_in_set : Text → BTreeSet (Bor Text) → Bool
is_in_set x s = contains_by (λ k. slice_cmp nat_cmp x k.now) s

-- the set has these names and no others
pub record IsSetOf (xs : List Text) (s : BTreeSet (Bor Text)) : Type 0 where
  pub same : (x : Text) → is_in_set x s ≡ is_among x xs

-- the names with one more, unless it is among them
abbrev pub with_name : List Text → Text → List Text
with_name xs x = if is_among x xs then xs else xs ++ x ∷ []

-- the same with one more, if there is one
abbrev pub with_any : List Text → Option Text → List Text
with_any xs None = xs
with_any xs (Some x) = with_name xs x

-- the names with more of them, in order
abbrev pub with_names : List Text → List Text → List Text
with_names xs [] = xs
with_names xs (y ∷ ys) = with_names (with_name xs y) ys
