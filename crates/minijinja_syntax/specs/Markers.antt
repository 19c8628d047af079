-- Where a start marker begins in a text: the leftmost eligible one, and at one place the longest.
use Rattle.std.specs.Prelude.{◌≡◌, ℕ, zero, suc, ◌+◌, ◌-◌, ◌<◌, ◌≤◌, Bool, true, false, not, ◌&&◌, ◌||◌, ◌==◌, nat_lt, nat_eq, if◌then◌else◌, length, take, drop, reverse, find, Option, Some, None, is_some, List, [], ◌∷◌}
use Rattle.std.specs.List.{starts_with}
use Rattle.std.specs.Option.{option_map_or}
use Rattle.std.specs.Str.{IsCharBoundary}
use Rattle.minijinja_syntax.specs.Texts.{Text}
use Rattle.minijinja_syntax.specs.Syntax.{Syntax, start_of}
use Rattle.minijinja_syntax.specs.declared.syntax.StartMarker.{StartMarker}
use Rattle.minijinja_syntax.specs.declared.syntax.StartMarker.TheVariants.{Variable, Block, Comment, LineStatement, LineComment}

-- the delimiter stands in the text at the place
abbrev pub stands : Text → Text → ℕ → Bool
stands delimiter text at = starts_with nat_eq (drop at text) delimiter

-- a space or a tab
abbrev pub is_blank : ℕ → Bool
is_blank b = b == 32 || b == 9

-- `\r` or `\n`
abbrev pub is_line_end : ℕ → Bool
is_line_end b = b == 13 || b == 10

-- the last byte before the place that is neither a space nor a tab ends a line, or there is none
unfoldable pub starts_line : Text → ℕ → Bool
starts_line text at = option_map_or is_line_end (find (λ b. not (is_blank b)) (reverse (take at text))) true

-- a line statement begins only where a line starts
abbrev pub may_begin : Bool → StartMarker → Bool
may_begin line_start LineStatement = line_start
may_begin line_start Variable = true
may_begin line_start Block = true
may_begin line_start Comment = true
may_begin line_start LineComment = true

-- a marker that is on stands at the place, and may
abbrev pub is_eligible : Syntax → Text → ℕ → StartMarker → Bool
is_eligible s text at m = may_begin (starts_line text at) m && nat_lt 0 (length (start_of s m)) && stands (start_of s m) text at

-- a marker begins at the place, and none that is longer
pub record IsMarkerAt (s : Syntax) (text : Text) (at : ℕ) (m : StartMarker) : Type 0 where
  pub eligible : is_eligible s text at m ≡ true
  pub longest : (n : StartMarker) → is_eligible s text at n ≡ true → length (start_of s n) ≤ length (start_of s m)

-- no marker begins at the place
abbrev pub NoMarkerAt : Syntax → Text → ℕ → Type 0
NoMarkerAt s text at = (m : StartMarker) → is_eligible s text at m ≡ false

-- no marker begins at the places from `start` on, up to `stop`
abbrev pub NoMarkerBetween : Syntax → Text → ℕ → ℕ → Type 0
NoMarkerBetween s text start stop = (p : ℕ) → start ≤ p → p < stop → NoMarkerAt s text p

-- what is found from a place on: how far from it, the marker and its length
abbrev pub FindsMarker : Syntax → Text → ℕ → Option (ℕ × StartMarker × ℕ) → Type 0
FindsMarker s text offset (Some found) =
    IsMarkerAt s text (offset + found.0) found.1
    × (found.2 ≡ length (start_of s found.1))
    × NoMarkerBetween s text offset (offset + found.0)
FindsMarker s text offset None = NoMarkerBetween s text offset (length text)

-- ---- the marker that is found, as functions that compute it

-- the longer of two markers, the first where they are as long, or the one that there is
abbrev pub longer : Syntax → Option StartMarker → Option StartMarker → Option StartMarker
longer s None y = y
longer s (Some m) None = Some m
longer s (Some m) (Some n) = if nat_lt (length (start_of s m)) (length (start_of s n)) then Some n else Some m

-- the longest of the markers that pass the test, the first of them where two are as long
abbrev pub longest_of : Syntax → (StartMarker → Bool) → StartMarker → List StartMarker → Option StartMarker
longest_of s p m [] = if p m then Some m else None
longest_of s p m (n ∷ ns) = longer s (if p m then Some m else None) (longest_of s p n ns)

-- the marker that begins at a place
unfoldable pub marker_at : Syntax → Text → ℕ → Option StartMarker
marker_at s text at = longest_of s (is_eligible s text at) Variable (Block ∷ Comment ∷ LineStatement ∷ LineComment ∷ [])

-- the first of the given number of places that passes the test, or the place after them
abbrev pub next_place : (ℕ → Bool) → (at left : ℕ) → ℕ
next_place p at zero = at
next_place p at (suc left) = if p at then at else next_place p (at + 1) left

-- the first place from `at` on where a marker begins, or the end of the text
unfoldable pub next_marker : Syntax → Text → ℕ → ℕ
next_marker s text at = next_place (λ p. is_some (marker_at s text p)) at (length text - at)

-- the marker of a place, if there is one, after how far it is from the offset and before its length
abbrev pub found_at : Syntax → (offset place : ℕ) → Option StartMarker → Option (ℕ × StartMarker × ℕ)
found_at s offset place None = None
found_at s offset place (Some m) = Some (place - offset, m, length (start_of s m))

-- how far from a place on the next marker begins, which it is, and its length
abbrev pub found_marker : Syntax → Text → ℕ → Option (ℕ × StartMarker × ℕ)
found_marker s text offset = let place = next_marker s text offset in found_at s offset place (marker_at s text place)

-- the text may be cut before the marker and after it
pub record IsMarkerPlace (s : Syntax) (text : Text) (at : ℕ) (m : StartMarker) : Type 0 where
  pub start : IsCharBoundary text at
  pub stop : IsCharBoundary text (at + length (start_of s m))
