-- What the calls do that add instructions one by one, and those that open and close blocks.
use Rattle.std.specs.Prelude.{ℕ, ◌+◌, Bool, true, false, List, [], ◌∷◌, ◌++◌, length, if◌then◌else◌}
use Rattle.minijinja_syntax.specs.declared.tokens.Span.{Span}
use Rattle.minijinja_semantics.specs.Code.{Instr, PushLoop, Iterate, PushDidNotIterate, PopLoopFrame, Jump, JumpIfFalse, JumpIfFalseOrPop, JumpIfTrueOrPop}
use Rattle.minijinja_semantics.specs.Jumps.{last_target, reach, with_target, with_targets}
use Rattle.minijinja_semantics.specs.Marks.{Margin, again, alone_at, here}

-- A block that is open: a condition or an else part, by the index of the jump that leads past it; a
-- loop, by the index at which it asks for its next item; or a row of `and` or `or`, by the indices
-- of its jumps, the last one first.
pub data OpenBlock : Type 0 where
  Branch : ℕ → OpenBlock
  Loop : ℕ → OpenBlock
  Conditions : List ℕ → OpenBlock

-- the instructions so far with their marks, the line in force and the innermost open span; the
-- spans that are open round that one, and the open blocks, each the innermost first
pub record Building (C : Type 0) : Type 0 where
  pub code : List (Instr C)
  pub margin : Margin
  pub outer : List Span
  pub blocks : List OpenBlock

-- the index of the next instruction, as a jump names it
abbrev pub next_index : {C : Type 0} → List (Instr C) → ℕ
next_index code = reach (length code)

-- ---- lines and spans

abbrev pub line_set : {C : Type 0} → ℕ → Building C → Building C
line_set n b = record b { margin = record b.margin { line = n } }

abbrev pub span_pushed : {C : Type 0} → Span → Building C → Building C
span_pushed s b = record b { margin = record b.margin { line = s.start_line; span = s }; outer = b.margin.span ∷ b.outer }

-- the line stays
abbrev pub popped_to : {C : Type 0} → List Span → Building C → Building C
popped_to [] b = b
popped_to (s ∷ outer) b = record b { margin = record b.margin { span = s }; outer = outer }

abbrev pub span_popped : {C : Type 0} → Building C → Building C
span_popped b = popped_to b.outer b

-- ---- instructions

-- marked by the line in force and the innermost open span
abbrev pub added : {C : Type 0} → Instr C → Building C → Building C
added i b = record b { code = b.code ++ i ∷ []; margin = here 1 b.margin }

-- marked by a span of its own
abbrev pub added_at : {C : Type 0} → Span → Instr C → Building C → Building C
added_at s i b = record b { code = b.code ++ i ∷ []; margin = alone_at s b.margin }

-- marked as the one before
abbrev pub added_again : {C : Type 0} → Instr C → Building C → Building C
added_again i b = record b { code = b.code ++ i ∷ []; margin = again b.margin }

-- ---- conditions

abbrev pub left_open : {C : Type 0} → OpenBlock → Building C → Building C
left_open o b = record b { blocks = o ∷ b.blocks }

abbrev pub if_started : {C : Type 0} → Building C → Building C
if_started b = left_open (Branch (length b.code)) (added (JumpIfFalse last_target) b)

-- the open branch ends behind a jump past the else part, which is open in its place
abbrev pub else_of : {C : Type 0} → List OpenBlock → Building C → Building C
else_of (Branch p ∷ rest) b =
    let jumped = added (Jump last_target) b in
    record jumped { code = with_target (next_index jumped.code) jumped.code p; blocks = Branch (length b.code) ∷ rest }
else_of _ b = b

abbrev pub else_started : {C : Type 0} → Building C → Building C
else_started b = else_of b.blocks b

abbrev pub branch_ended : {C : Type 0} → List OpenBlock → Building C → Building C
branch_ended (Branch p ∷ rest) b = record b { code = with_target (next_index b.code) b.code p; blocks = rest }
branch_ended _ b = b

abbrev pub if_ended : {C : Type 0} → Building C → Building C
if_ended b = branch_ended b.blocks b

-- ---- loops

abbrev pub flags_of : (with_loop_var recursive : Bool) → ℕ
flags_of with_loop_var recursive = (if with_loop_var then 1 else 0) + (if recursive then 2 else 0)

abbrev pub loop_started : {C : Type 0} → (flags : ℕ) → Building C → Building C
loop_started flags b = left_open (Loop (length b.code + 1)) (added (Iterate last_target) (added (PushLoop flags) b))

-- it goes back to where it asks for its next item, which leads behind that where there is none
abbrev pub loop_ended_at : {C : Type 0} → (push_did_not_iterate : Bool) → List OpenBlock → Building C → Building C
loop_ended_at asked (Loop p ∷ rest) b =
    let jumped = added (Jump p) b in
    let popped = added PopLoopFrame (if asked then added PushDidNotIterate jumped else jumped) in
    record popped { code = with_target (next_index jumped.code) popped.code p; blocks = rest }
loop_ended_at asked _ b = b

abbrev pub loop_ended : {C : Type 0} → (push_did_not_iterate : Bool) → Building C → Building C
loop_ended asked b = loop_ended_at asked b.blocks b

-- ---- rows of `and` or `or`

abbrev pub conditions_started : {C : Type 0} → Building C → Building C
conditions_started b = left_open (Conditions []) b

abbrev pub with_condition : ℕ → List OpenBlock → List OpenBlock
with_condition p (Conditions ps ∷ rest) = Conditions (p ∷ ps) ∷ rest
with_condition p blocks = Conditions (p ∷ []) ∷ blocks

abbrev pub condition_jump : {C : Type 0} → (and : Bool) → Instr C
condition_jump true = JumpIfFalseOrPop last_target
condition_jump false = JumpIfTrueOrPop last_target

abbrev pub condition_added : {C : Type 0} → (and : Bool) → Building C → Building C
condition_added and b =
    let jumped = added_again (condition_jump and) b in
    record jumped { blocks = with_condition (length b.code) b.blocks }

-- its jumps lead to what follows
abbrev pub conditions_ended_at : {C : Type 0} → (next : ℕ) → List OpenBlock → Building C → Building C
conditions_ended_at next (Conditions ps ∷ rest) b = record b { code = with_targets next b.code ps; blocks = rest }
conditions_ended_at next _ b = b

abbrev pub conditions_ended : {C : Type 0} → Building C → Building C
conditions_ended b = conditions_ended_at (next_index b.code) b.blocks b

-- ---- what is open

abbrev pub is_branch : List OpenBlock → Bool
is_branch (Branch p ∷ rest) = true
is_branch _ = false

abbrev pub is_loop : List OpenBlock → Bool
is_loop (Loop p ∷ rest) = true
is_loop _ = false

abbrev pub is_conditions : List OpenBlock → Bool
is_conditions (Conditions ps ∷ rest) = true
is_conditions _ = false

abbrev pub are_closed : List OpenBlock → Bool
are_closed [] = true
are_closed (o ∷ rest) = false
