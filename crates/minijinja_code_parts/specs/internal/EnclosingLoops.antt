-- What is being compiled within a loop, and what statements add there.
use Rattle.std.specs.Prelude.{◌≡◌, ℕ, ◌+◌, ◌<◌, ◌≤◌, Bool, false, List, [], ◌∷◌, length, min, slice_set}
use Rattle.minijinja_value.specs.Values.{Functions}
use Rattle.minijinja_tree.specs.Tree.{Stmt, Stmts}
use Rattle.minijinja_semantics.specs.Code.{Instr, Jump}
use Rattle.minijinja_semantics.specs.Layout.{stmt, stmts}
use Rattle.minijinja_semantics.specs.Pieces.{Leading, Exits, Open, leading_to}
use Rattle.minijinja_code_parts.specs.Hint.{data_bytes, all_data_bytes}
use Rattle.minijinja_emitter.specs.internal.Making.{Made, Adds, reach}

-- The loop around what is being compiled: whether there is one, the place where it asks for its
-- next item, what is open within it, the innermost first, and the places of jumps to its end, which
-- is not known yet; and the bytes outside of tags so far.
pub record Around : Type 0 where
  pub in_loop : Bool
  pub iterate : ℕ
  pub opened : List Open
  pub breaks : List ℕ
  pub bytes : ℕ

-- where a statement in it leads
abbrev pub exits : (end : ℕ) → Around → Exits
exits end t = record { break_to = end; continue_to = t.iterate }

-- the instructions with a jump to a target at each of these places
abbrev pub with_ends : {C : Type 0} → List ℕ → (target : ℕ) → List (Instr C) → List (Instr C)
with_ends [] n code = code
with_ends (p ∷ ps) n code = with_ends ps n (slice_set code p (Jump n))

-- the code so far, once the loop's end is known: with a jump to the end at each place that is
-- reserved for one
abbrev pub ending : {C : Type 0} → (end : ℕ) → Around → Made C → Made C
ending end t m = record m { code = with_ends t.breaks (reach end) m.code }

-- each of these places is before this one
abbrev pub AreBefore : ℕ → List ℕ → Type 0
AreBefore n [] = Unit {0}
AreBefore n (p ∷ ps) = (p < n) × AreBefore n ps

-- none of these places is this one
abbrev pub AreOthers : ℕ → List ℕ → Type 0
AreOthers n [] = Unit {0}
AreOthers n (p ∷ ps) = (p ≡ n → ⊥) × AreOthers n ps

-- A piece was added within a loop, with the given number of bytes outside of tags: whatever the
-- loop's end is, once the reserved jumps lead there, the piece stands there with its jumps. Only
-- new places are reserved, and none outside of loops.
pub record Follows {C : Type 0} (t : Around) (old : Made C) (u : Around) (new : Made C) (more : ℕ) (p : Leading Exits C) : Type 0 where
  pub in_loop : u.in_loop ≡ t.in_loop
  pub iterate : u.iterate ≡ t.iterate
  pub opened : u.opened ≡ t.opened
  pub bytes : min 18446744073709551615 u.bytes ≡ min 18446744073709551615 (t.bytes + more)
  pub none : t.in_loop ≡ false → u.breaks ≡ t.breaks
  pub longer : length old.code ≤ length new.code
  pub before : AreBefore (length old.code) t.breaks → AreBefore (length new.code) u.breaks
  pub others : (place : ℕ) → place < length old.code → AreOthers place t.breaks → AreOthers place u.breaks
  pub adds : AreBefore (length old.code) t.breaks → (end : ℕ) → Adds (ending end t old) (ending end u new) (leading_to (exits end t) p)

-- a statement was added
abbrev pub FollowsStmt : {C L F : Type 0} → Functions C F → (t : Around) (old : Made C) (u : Around) (new : Made C) → Stmt C L → Type 0
FollowsStmt f t old u new s = Follows t old u new (data_bytes s) (stmt f t.opened s)

-- statements were added
abbrev pub FollowsStmts : {C L F : Type 0} → Functions C F → (t : Around) (old : Made C) (u : Around) (new : Made C) → Stmts C L → Type 0
FollowsStmts f t old u new ss = Follows t old u new (all_data_bytes ss) (stmts f t.opened ss)

-- the loop, within what opens this
abbrev pub opening : Open → Around → Around
opening o t = record t { opened = o ∷ t.opened }

-- the loop, with the given number of bytes more outside of tags
abbrev pub counting : ℕ → Around → Around
counting n t = record t { bytes = min 18446744073709551615 (t.bytes + n) }

-- the given number of bytes more outside of tags was counted, and nothing else
pub record Counted (more : ℕ) (t u : Around) : Type 0 where
  pub same : u ≡ record t { bytes = u.bytes }
  pub bytes : min 18446744073709551615 u.bytes ≡ min 18446744073709551615 (t.bytes + more)
