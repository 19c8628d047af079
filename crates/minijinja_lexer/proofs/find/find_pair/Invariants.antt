use Rattle.std.proofs.Common.{◌-◌, ◌≤◌, ◌∷◌, [], length}
use Rattle.memchr.specs.Find.{Nowhere, OccursAt}
use Rattle.minijinja_lexer.proofs.find.find_pair.Given as goal

-- the two bytes stand nowhere before the place
abbrev pub invariant-loop-ahead : goal.invariant-loop-ahead
invariant-loop-ahead l = (l.place ≤ length l.fn.haystack) × Nowhere (OccursAt l.fn.haystack (l.fn.first ∷ l.fn.second ∷ [])) 0 l.place

abbrev pub decreases-loop-ahead : goal.decreases-loop-ahead
decreases-loop-ahead l = length l.fn.haystack - l.place
