-- The code of chains of comparisons while it is being made.
use Rattle.std.specs.Prelude.{◌≡◌, ℕ, zero, suc, Bool, List, [], ◌∷◌, ◌++◌, map, drop, slice_get, slice_set, Option, Some, None, option_to_list}
use Rattle.minijinja_value.specs.Values.{Functions}
use Rattle.minijinja_tree.specs.CompareOps.{CompareOp}
use Rattle.minijinja_tree.specs.Comparisons.{compares}
use Rattle.minijinja_tree.specs.Folding.{if_some, unless_fault}
use Rattle.minijinja_tree.specs.Tree.{Comparisons, compared, against}
use Rattle.minijinja_tree.specs.Erasure.{comparisons_of}
use Rattle.minijinja_tree_expr.specs.declared.ast.CompareOp.{CompareOp as Comparison}
use Rattle.minijinja_semantics.specs.Code.{Instr, Load, Jump, JumpIfFalseOrPop, Swap, DiscardTop}
use Rattle.minijinja_semantics.specs.Pieces.{behind, Piece, nothing, one, ◌▸◌, plain, skipping}
use Rattle.minijinja_semantics.specs.Layout.{Failing, expr, comparisons}
use Rattle.minijinja_code_expr.specs.declared.chain.Jumps.{Jumps}
use Rattle.minijinja_emitter.specs.internal.Making.{Made, here_of, reach, capped}

-- the places of jumps, in order
abbrev pub places_of : Jumps → List ℕ
places_of jumps = jumps.earlier.items ++ option_to_list jumps.latest

-- the instructions with a jump to a target at each of these places
abbrev pub with_jumps : {C : Type 0} → List ℕ → (target : ℕ) → List (Instr C) → List (Instr C)
with_jumps [] n code = code
with_jumps (p ∷ ps) n code = with_jumps ps n (slice_set code p (JumpIfFalseOrPop n))

-- the code so far, with a jump to a target at each of these places
abbrev pub jumping : {C : Type 0} → List ℕ → (target : ℕ) → Made C → Made C
jumping ps n m = record m { code = with_jumps ps n m.code }

-- an operand and then comparisons
abbrev pub operand_then : {C : Type 0} → Piece C → Failing C → Failing C
operand_then p r = record { past = λ h. r.past (p.past h); code = λ failed h. p.code h ++ r.code failed (p.past h) }

-- comparisons after their first operand
abbrev pub after_one : {C F : Type 0} → Functions C F → Comparisons C → Failing C
after_one f compared = plain nothing
after_one f (against o e cs) = operand_then (expr f e) (comparisons f o cs)

-- comparisons after their first two operands
abbrev pub after_two : {C F : Type 0} → Functions C F → Comparisons C → Failing C
after_two f compared = plain nothing
after_two f (against o e cs) = comparisons f o cs

-- what is left of comparisons after the operand of the given number of them
abbrev pub ahead : {V K C F : Type 0} → Functions C F → (V → C) → List (Comparison V K) → ℕ → Failing C
ahead f c xs zero = after_one f (comparisons_of c xs)
ahead f c xs (suc i) = after_two f (comparisons_of c (drop i xs))

-- with these places that wait for the target of comparisons that fail, adding what was left before
-- is adding what is left now
pub record Leads {C : Type 0} (old : Made C) (ps : List ℕ) (r : Failing C) (new : Made C) (qs : List ℕ) (s : Failing C) : Type 0 where
  pub past : s.past (here_of new) ≡ r.past (here_of old)
  pub code : (failed : ℕ) (more : List (Instr C)) → with_jumps qs (reach failed) (new.code ++ map capped (s.code failed (here_of new) ++ more)) ≡ with_jumps ps (reach failed) (old.code ++ map capped (r.code failed (here_of old) ++ more))

-- the end of a chain: a jump past the rest, where one that failed drops the operand kept below its
-- answer
abbrev pub leaving : {C : Type 0} → Piece C
leaving = skipping Jump (one Swap ▸ one DiscardTop)

-- what was left was added, and the end of the chain, to which the jumps lead now
pub record Closes {C : Type 0} (old : Made C) (ps : List ℕ) (r : Failing C) (new : Made C) : Type 0 where
  pub code : new.code ≡ with_jumps ps (reach (behind 1 (r.past (here_of old))).place) (old.code ++ map capped (r.code (behind 1 (r.past (here_of old))).place (here_of old) ++ (leaving {C = C}).code (r.past (here_of old))))
  pub past : here_of new ≡ (leaving {C = C}).past (r.past (here_of old))

-- a place, and the constant that is loaded there; or neither
abbrev pub Holds : {C : Type 0} → List (Instr C) → Option ℕ → Option C → Type 0
Holds code None None = Unit {0}
Holds code (Some p) (Some c) = slice_get code p ≡ Some (Load c)
Holds code _ _ = ⊥

-- whether a comparison holds of two constants, if both are known and it does not fault
abbrev pub known : {C F : Type 0} → Functions C F → CompareOp → Option C → Option C → Option Bool
known f o a b = if_some a (λ a. if_some b (λ b. unless_fault (compares f o a b)))
