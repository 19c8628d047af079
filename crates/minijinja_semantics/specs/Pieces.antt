-- Pieces of code: their instructions, and what stands after a piece that begins at a place.
use Rattle.std.specs.Prelude.{ℕ, suc, ◌+◌, List, [], ◌∷◌, ◌++◌, length, if◌then◌else◌, bytes_eq, nat_lt}
use Rattle.minijinja_syntax.specs.Texts.{Text}
use Rattle.minijinja_semantics.specs.Events.{PopFrame, PopAutoEscape, EndCapture}
use Rattle.minijinja_semantics.specs.Code.{Instr, Do, Iterate, Jump, JumpIfFalse, DiscardTop}

-- where code stands: its place in the list, and the names of filters and of tests that have an id
-- by then, in order of first use
pub record Here : Type 0 where
  pub place : ℕ
  pub filters : List Text
  pub tests : List Text

-- the given number of instructions further on
abbrev pub behind : ℕ → Here → Here
behind n h = record h { place = h.place + n }

-- a piece of code, wherever it stands
pub record Piece (C : Type 0) : Type 0 where
  pub past : Here → Here
  pub code : Here → List (Instr C)

-- a piece of code that may lead to places outside of it, wherever it stands; what stands after it
-- does not depend on these
pub record Leading (X C : Type 0) : Type 0 where
  pub past : Here → Here
  pub code : X → Here → List (Instr C)

-- the places to which a `break` and a `continue` lead
pub record Exits : Type 0 where
  pub break_to : ℕ
  pub continue_to : ℕ

-- outside of all loops there is no `break` and no `continue`
abbrev pub outside : Exits
outside = record { break_to = 0; continue_to = 0 }

-- what a statement may stand in within its loop, and what has to be closed where it leaves the
-- loop's turn
pub data Open : Type 0 where
  OpenScope OpenAutoEscape OpenCapture : Open

-- where the code of a template, or of an expression by itself, begins
abbrev pub start : Here
start = record { place = 0; filters = []; tests = [] }

-- no instruction
abbrev pub nothing : {C : Type 0} → Piece C
nothing = record { past = λ h. h; code = λ h. [] }

-- one instruction
abbrev pub one : {C : Type 0} → Instr C → Piece C
one i = record { past = behind 1; code = λ h. i ∷ [] }

-- one piece and then another
infixr 5 ◌▸◌
abbrev pub ◌▸◌ : {C : Type 0} → Piece C → Piece C → Piece C
p ▸ q = record { past = λ h. q.past (p.past h); code = λ h. p.code h ++ q.code (p.past h) }

-- a piece that leads nowhere else
abbrev pub plain : {X C : Type 0} → Piece C → Leading X C
plain p = record { past = p.past; code = λ x h. p.code h }

-- a piece that may lead elsewhere, where these are the places that it may lead to
abbrev pub leading_to : {X C : Type 0} → X → Leading X C → Piece C
leading_to x p = record { past = p.past; code = p.code x }

-- one piece that may lead elsewhere, and then another
infixr 5 ◌▹◌
abbrev pub ◌▹◌ : {X C : Type 0} → Leading X C → Leading X C → Leading X C
p ▹ q = record { past = λ h. q.past (p.past h); code = λ x h. p.code x h ++ q.code x (p.past h) }

-- an instruction that may lead past a piece, and the piece
abbrev pub skipping : {C : Type 0} → (ℕ → Instr C) → Piece C → Piece C
skipping jump p = record { past = λ h. p.past (behind 1 h); code = λ h. jump (p.past (behind 1 h)).place ∷ p.code (behind 1 h) }

-- the first piece where the value on top is true, otherwise the second
abbrev pub branches : {C : Type 0} → Piece C → Piece C → Piece C
branches p q = record {
  past = λ h. q.past (behind 1 (p.past (behind 1 h)));
  code = λ h.
      let other = behind 1 (p.past (behind 1 h)) in
      JumpIfFalse other.place ∷ (p.code (behind 1 h) ++ Jump (q.past other).place ∷ q.code other);
}

-- an instruction that may lead past a piece that may lead elsewhere, and that piece
abbrev pub skipping_out : {X C : Type 0} → (ℕ → Instr C) → Leading X C → Leading X C
skipping_out jump p = record { past = λ h. p.past (behind 1 h); code = λ x. (skipping jump (leading_to x p)).code }

-- the first piece where the value on top is true, otherwise the second; both may lead elsewhere
abbrev pub branches_out : {X C : Type 0} → Leading X C → Leading X C → Leading X C
branches_out p q = record {
  past = λ h. q.past (behind 1 (p.past (behind 1 h)));
  code = λ x. (branches (leading_to x p) (leading_to x q)).code;
}

-- the turns of a loop: each asks for the next item, does the piece, which may leave the loop or
-- begin its next turn, and begins anew
abbrev pub turning : {C : Type 0} → Leading Exits C → Piece C
turning p = record {
  past = λ h. behind 1 (p.past (behind 1 h));
  code = λ h.
      let end = behind 1 (p.past (behind 1 h)) in
      Iterate end.place ∷ (p.code (record { break_to = end.place; continue_to = h.place }) (behind 1 h) ++ Jump h.place ∷ []);
}

-- the instructions that close what is open, the innermost first
abbrev pub closing_instructions : {C : Type 0} → List Open → List (Instr C)
closing_instructions [] = []
closing_instructions (OpenScope ∷ os) = Do PopFrame [] 0 ∷ closing_instructions os
closing_instructions (OpenAutoEscape ∷ os) = Do PopAutoEscape [] 0 ∷ closing_instructions os
closing_instructions (OpenCapture ∷ os) = Do EndCapture [] 0 ∷ DiscardTop ∷ closing_instructions os

-- the instructions that close what is open, and a jump to one of the loop's exits
abbrev pub leaving : {C : Type 0} → (Exits → ℕ) → List Open → Leading Exits C
leaving {C} exit os = record {
  past = behind (length (closing_instructions {C = C} os) + 1);
  code = λ x h. closing_instructions os ++ Jump (exit x) ∷ [];
}

-- how many names of filters, and of tests, have an id of their own
abbrev pub most_ids : ℕ
most_ids = 50

-- the id of a name, after n others: its place among the names, the next one for a new name, and 255
-- where the ids are all taken
abbrev pub id_behind : ℕ → Text → List Text → ℕ
id_behind n x [] = if nat_lt n most_ids then n else 255
id_behind n x (y ∷ names) = if bytes_eq x y then n else id_behind (suc n) x names

-- the id of a name among these
abbrev pub id_of : Text → List Text → ℕ
id_of = id_behind 0

-- the names that have an id, once this one is used after n others
abbrev pub noted_behind : ℕ → Text → List Text → List Text
noted_behind n x [] = if nat_lt n most_ids then x ∷ [] else []
noted_behind n x (y ∷ names) = if bytes_eq x y then y ∷ names else y ∷ noted_behind (suc n) x names

-- the names, once this one is used
abbrev pub noted : Text → List Text → List Text
noted = noted_behind 0
