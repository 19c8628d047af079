-- Runs that go as a tree means.
use Rattle.std.specs.Prelude.{◌≡◌, ℕ, ◌+◌, ◌*◌, ◌≤◌, List, [], length, map, reverse}
use Rattle.minijinja_semantics.specs.Events as event
use Rattle.minijinja_semantics.specs.Events.{Event, Did, Gave, Ended}
use Rattle.minijinja_semantics.specs.Code.{Instr}
use Rattle.minijinja_replay.specs.Replay.{Ending, Finished, Stopped, end_of, noted}
use Rattle.minijinja_replay.specs.declared.replay.Event.{Event as Row}
use Rattle.minijinja_replay.specs.declared.replay.Run.{Run}

-- the events that were noted, each with its answer
abbrev pub events_of : {V C : Type 0} → (V → C) → List (Instr C) → List (Row V) → List (Event ℕ C × event.Answer C)
events_of c code rows = map (λ r. ((noted c code r).0.event, (noted c code r).1)) rows

-- the record of a meaning, latest event first
abbrev pub record_meant : {E C F X : Type 0} → Did E C F X → List (E × event.Answer C)
record_meant (Gave w x) = w.record_so_far
record_meant (Ended w e) = w.record_so_far

-- how a meaning ends
abbrev pub ending_meant : {E C F X : Type 0} → Did E C F X → Ending F
ending_meant (Gave w x) = Finished
ending_meant (Ended w e) = Stopped e

-- what a meaning leaves on the operands, the topmost first
abbrev pub operands_meant : {E C F X : Type 0} → (X → List C) → Did E C F X → List C
operands_meant leaves (Gave w x) = leaves x
operands_meant leaves (Ended w e) = []

-- The run has the events of the meaning, with the same operands and answers in the same order, ends
-- as the meaning ends, and leaves what it leaves, within (answers + 1) * (code length + 1) steps.
pub record IsMeant {V G C F X : Type 0} (c : V → C) (fc : G → F) (code : List (Instr C)) (leaves : X → List C) (meaning : Did (Event ℕ C) C F X) (answers : List (event.Answer C)) (r : Run V G) : Type 0 where
  pub events : events_of c code r.events.items ≡ reverse (record_meant meaning)
  pub ending : end_of fc r.ending ≡ ending_meant meaning
  pub operands : reverse (map c r.operands.items) ≡ operands_meant leaves meaning
  pub within : r.steps ≤ (length answers + 1) * (length code + 1)
