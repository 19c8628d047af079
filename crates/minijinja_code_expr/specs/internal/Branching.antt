-- The code of what branches, while it is being made.
use Rattle.std.specs.Prelude.{◌≡◌, ℕ, length, slice_set}
use Rattle.minijinja_semantics.specs.Code.{Instr, Jump, JumpIfFalse}
use Rattle.minijinja_semantics.specs.Pieces.{one}
use Rattle.minijinja_emitter.specs.internal.Making.{Made, Adds, hole, reach}

-- what is being made, with an instruction at a place
abbrev pub set_at : {C : Type 0} → Made C → ℕ → Instr C → Made C
set_at m p i = record m { code = slice_set m.code p i }

-- with a jump to the end at a place
abbrev pub ending_at : {C : Type 0} → ℕ → Made C → Made C
ending_at p m = set_at m p (Jump (reach (length m.code)))

-- after what comes where a test is true, room was left for the jump past the rest, and the test's
-- jump leads behind that
pub record Opened {C : Type 0} (test end : ℕ) (now room jumped : Made C) : Type 0 where
  pub added : Adds now room (one hole)
  pub at : end ≡ length now.code
  pub filled : jumped ≡ set_at room test (JumpIfFalse (reach (length room.code)))

-- what comes where a test is false was begun
pub record BeginsElse {C : Type 0} (test end : ℕ) (old new : Made C) : Type 0 where
  pub room : Made C
  pub opened : Opened test end old room new
