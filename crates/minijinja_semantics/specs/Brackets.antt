-- What a record of events opens and closes: scopes with loops, autoescape, and captures.
use Rattle.std.specs.Prelude.{◌≡◌, List, [], ◌∷◌, Option, Some, None, Bool, true, false, if◌then◌else◌}
use Rattle.minijinja_semantics.specs.Events.{Kind, PushWith, PopFrame, PushLoop, PopLoopFrame, PushAutoEscape, PopAutoEscape, BeginCapture, EndCapture, Event, Answer, Did, Gave, Ended}

-- what may be open
pub data Bracket : Type 0 where
  ScopeBracket LoopBracket AutoEscapeBracket CaptureBracket : Bracket

-- brackets that have to be nested among each other: scopes and loops together, autoescape and
-- captures each by themselves
pub data Family : Type 0 where
  ScopesAndLoops AutoEscapes Captures : Family

-- whether a bracket is of this family
abbrev pub is_of : Family → Bracket → Bool
is_of ScopesAndLoops ScopeBracket = true
is_of ScopesAndLoops LoopBracket = true
is_of AutoEscapes AutoEscapeBracket = true
is_of Captures CaptureBracket = true
is_of _ _ = false

-- whether two brackets are the same
abbrev pub same_bracket : Bracket → Bracket → Bool
same_bracket ScopeBracket ScopeBracket = true
same_bracket LoopBracket LoopBracket = true
same_bracket AutoEscapeBracket AutoEscapeBracket = true
same_bracket CaptureBracket CaptureBracket = true
same_bracket _ _ = false

-- what an event opens or closes
pub data Mark : Type 0 where
  Opens Closes : Bracket → Mark
  Neither : Mark

-- the mark of each kind of event; all others open and close nothing
abbrev pub mark : Kind → Mark
mark PushWith = Opens ScopeBracket
mark PopFrame = Closes ScopeBracket
mark (PushLoop flags) = Opens LoopBracket
mark PopLoopFrame = Closes LoopBracket
mark PushAutoEscape = Opens AutoEscapeBracket
mark PopAutoEscape = Closes AutoEscapeBracket
mark (BeginCapture mode) = Opens CaptureBracket
mark EndCapture = Closes CaptureBracket
mark _ = Neither

-- what is open after one more bracket is opened
abbrev pub after_opening : Bracket → Option (List Bracket) → Option (List Bracket)
after_opening b None = None
after_opening b (Some bs) = Some (b ∷ bs)

-- what is open after this bracket is closed, which has to be the innermost one
abbrev pub after_closing : Bracket → Option (List Bracket) → Option (List Bracket)
after_closing b None = None
after_closing b (Some []) = None
after_closing b (Some (c ∷ bs)) = if same_bracket b c then Some bs else None

-- what is open of a family after an event, the innermost first; none where it closes what is not
-- open last
unfoldable pub marked : Family → Mark → Option (List Bracket) → Option (List Bracket)
marked y (Opens b) open_ones = if is_of y b then after_opening b open_ones else open_ones
marked y (Closes b) open_ones = if is_of y b then after_closing b open_ones else open_ones
marked y Neither open_ones = open_ones

-- what a record, latest event first, leaves open of a family
abbrev pub brackets : {N C : Type 0} → Family → List (Event N C × Answer C) → Option (List Bracket)
brackets y [] = Some []
brackets y (a ∷ taken) = marked y (mark a.0.kind) (brackets y taken)

-- if the run finishes, everything that its record opened is closed
abbrev pub IsBalanced : {N C F X : Type 0} → Did (Event N C) C F X → Type 0
IsBalanced (Gave w x) = (y : Family) → brackets y w.record_so_far ≡ Some []
IsBalanced (Ended w e) = Unit {0}
