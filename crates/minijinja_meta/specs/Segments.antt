-- The segments of names with their attributes: of `a.b.c` these are a, b and c.
use Rattle.std.specs.Prelude.{◌≡◌, ◌==◌, ◌++◌, false, List, [], ◌∷◌, map}
use Rattle.std.specs.BTreeSet.{insert_key}
use Rattle.std.specs.Cmp.Lexicographic.{slice_cmp}
use Rattle.std.specs.List.{before_first, list_any}
use Rattle.std.specs.Ordering.{nat_cmp}
use Rattle.minijinja_syntax.specs.Texts.{Text}
use Rattle.minijinja_meta.specs.Mentions.{Mention, Way, after_dots, free}

abbrev pub segments_of : Mention → List Text
segments_of m = m.name ∷ m.attributes

-- lists of segments in order, each once
abbrev pub each_once : List (List Text) → List (List Text)
each_once [] = []
each_once (x ∷ xs) = insert_key (slice_cmp (slice_cmp nat_cmp)) (each_once xs) x

-- the segments of what occurs free
abbrev pub nested_segments : Way → List (List Text)
nested_segments w = each_once (map segments_of (free w))

abbrev pub first_segment : List Text → Text
first_segment [] = []
first_segment (x ∷ xs) = x

-- segments with a dot between each two
abbrev pub joined : List Text → Text
joined [] = []
joined (x ∷ xs) = x ++ after_dots xs

-- a text up to its first dot
abbrev pub before_dot : Text → Text
before_dot x = before_first (λ b. b == 46) x

abbrev pub HasNoDot : Text → Type 0
HasNoDot x = list_any (λ b. b == 46) x ≡ false
