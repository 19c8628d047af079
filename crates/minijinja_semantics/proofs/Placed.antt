-- The machine that notes each event as it is, with nodes named by their places.
use Rattle.std.proofs.Common.{◌≡◌, ℕ, ◌<◌}
use Rattle.std.specs.Prelude.{false}
use Rattle.minijinja_semantics.specs.Events as events
use Rattle.minijinja_semantics.specs.Events.{Event, Means}
use Rattle.minijinja_semantics.specs.Machine as machine
use Rattle.minijinja_semantics.specs.Machine.{Notes, Finish, is_over}

-- its worlds, what pieces come to in them and do, and its states
abbrev pub World : Type 0 → Type 0
World C = events.World (Event ℕ C) C

abbrev pub Did : Type 0 → Type 0 → Type 0 → Type 0
Did C F X = events.Did (Event ℕ C) C F X

abbrev pub Act : Type 0 → Type 0 → Type 0 → Type 0
Act C F X = Means ℕ C F X

abbrev pub State : Type 0 → Type 0 → Type 0
State C F = machine.State (Event ℕ C) C F

-- the event alone
abbrev pub bare : {C : Type 0} → Notes (Event ℕ C) C
bare p e = e

-- the places that lie before a run's end, where a run goes on
pub record Stretch : Type 0 where
  pub finish : Finish
  pub end : ℕ
  pub goes_on : (p : ℕ) → p < end → is_over finish p ≡ false
