-- What derivations have in common: the tokens that follow, and the bound of the depth.
use Rattle.std.specs.Prelude.{◌≡◌, ℕ, suc, List, [], ◌∷◌, ◌++◌, Option, Some, None}
use Rattle.minijinja_syntax.specs.Tokens.{Tok}
use Rattle.minijinja_syntax.specs.Streams.{SpannedTok}

-- the first token, if there is one
abbrev pub first : List SpannedTok → Option Tok
first [] = None
first (t ∷ ts) = Some t.0

-- Of the tokens that follow a stretch only the first counts, and not where it stands: the stretch
-- is one also before any others that begin with it. `Is ts rest` says that it lies between these
-- two.
abbrev pub OnlyNextCounts : (List SpannedTok → List SpannedTok → Type 0) → Type 0
OnlyNextCounts Is = (ts rest others : List SpannedTok) → Is ts rest → first rest ≡ first others →
    (stretch : List SpannedTok) × (ts ≡ stretch ++ rest) × Is (stretch ++ others) others

-- what is of a depth is of each greater one
abbrev pub IsOfGreaterDepth : (ℕ → List SpannedTok → List SpannedTok → Type 0) → Type 0
IsOfGreaterDepth Is = (d : ℕ) (ts rest : List SpannedTok) → Is d ts rest → Is (suc d) ts rest
