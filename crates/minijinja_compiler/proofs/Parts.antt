-- The contracts of the layers, put together.
use Rattle.std.proofs.Common.{◌≡◌, ◌≢◌, ℕ, ◌+◌, ◌*◌, ◌^◌, ◌<◌, ◌≤◌, min, List, [], ◌++◌, length, true, sym, ap, ap₂, ◌∙◌, subst, arith, ◌⊎◌, inl, inr, ⊎_elim, Option, Some, None, IfNone, Result, Ok, Err, IfErr, IsErrAnd}
use Rattle.std.specs.Prelude.{◌&&◌, is_none}
use Rattle.std.proofs.lemmas.Bool.{cases_lt}
use Rattle.minijinja_syntax.specs.Errors.{kind_of}
use Rattle.minijinja_syntax.specs.declared.error.Error.{Error}
use Rattle.minijinja_syntax.specs.declared.error.ErrorKind.TheVariants.{OutOfMemory, TooManyInstructions}
use Rattle.minijinja_parser.specs.Causes as parser
use Rattle.minijinja_parser.specs.Causes.{IsRefusal}
use Rattle.minijinja_compiler.specs.Headline.{IsCompileLimit, IsCompileUnplaced}
use Rattle.minijinja_code.specs.Building.{OpenBlock, are_closed}
use Rattle.minijinja_code.specs.Generator.{OnlyWhereTooLong}
use Rattle.minijinja_semantics.specs.Code.{Instr}
use Rattle.minijinja_instructions.specs.InstructionLists.{HasNoPlaceOrName, IsAddError}
use Rattle.minijinja_semantics.specs.Pieces.{Here, start}
use Rattle.minijinja_code.specs.Hint.{IsHint}

-- a generator that has not failed, and in which nothing was opened, is closed
pub closed_still : (refusal : Option Error) (blocks : List OpenBlock) → refusal ≡ None → blocks ≡ [] → (is_none refusal && are_closed blocks) ≡ true
closed_still refusal blocks ready empty = ap₂ (λ o bs. is_none o && are_closed bs) ready empty

-- what is added to an empty list is the list
pub whole_code : {C : Type 0} (before after code : List (Instr C)) (here : Here) (p : Here → List (Instr C)) → before ≡ [] → here ≡ start → after ≡ before ++ p here → code ≡ after → code ≡ p start
whole_code before after code here p empty at added e =
    e ∙ added ∙ ap (λ (is : List (Instr _)). is ++ p here) empty ∙ ap p at

-- what holds of what was added to an empty list holds of the list
pub whole_does : {C : Type 0} (Holds : List (Instr C) → ℕ → ℕ → Type 0) (before after code : List (Instr C)) → before ≡ [] → Holds after (length before) (length after) → code ≡ after → Holds code 0 (length code)
whole_does Holds before after code empty d e =
    subst (λ (is : List (Instr _)). Holds is 0 (length is)) (sym e)
    (subst (λ (is : List (Instr _)). Holds after (length is) (length after)) empty d)

-- bytes past 2 ^ 64 - 1 make no difference to the hint
pub hint_of_all : (bytes counted start hint : ℕ) → start ≡ 0 → counted ≡ min 18446744073709551615 (start + bytes) → IsHint counted hint → IsHint bytes hint
hint_of_all bytes counted start hint none is h =
    let limit = h.limit in
    record {
      power = h.power;
      limit = h.limit;
      enough = ⊎_elim
          (λ (few : 2 * counted ≤ hint). ⊎_elim
          (λ (many : 18446744073709551615 < bytes). absurd (omega arith))
          (λ (all : bytes ≤ 18446744073709551615). inl (omega arith))
          (cases_lt 18446744073709551615 bytes))
          (λ (most : hint ≡ 2 ^ 63). inr most)
          h.enough;
      least = λ k le. h.least k (omega arith);
    }

-- what holds of each refusal of an instruction holds of what a generator that had refused nothing
-- answers
refused_at_instruction : {A : Type 0} (Holds : Error → Type 0) → ((x : Error) → IsAddError x → Holds x) → (kept : Option Error) (e : Error) (r : Result A Error) → kept ≡ None → IfNone kept (IsAddError e) → IsErrAnd r (λ x. x ≡ e) → IfErr r Holds
refused_at_instruction Holds all None e (Err x) none h same = all x (subst (λ y. IsAddError y) (sym same) h)
refused_at_instruction Holds all None e (Ok a) none h same = absurd same
refused_at_instruction Holds all (Some k) e r none h same = cc

-- what refuses an instruction is no fault of the text
limit_not_refusal : (e : Error) → IsAddError e → IsRefusal e → ⊥
limit_not_refusal e (inl memory) (inl syntax) = cc
limit_not_refusal e (inl memory) (inr escape) = cc
limit_not_refusal e (inr many) (inl syntax) = cc
limit_not_refusal e (inr many) (inr escape) = cc

-- so nothing is said of it where a fault of the text is told
pub never_refusal : {A : Type 0} (P : Error → Type 0) (kept : Option Error) (e : Error) (r : Result A Error) → kept ≡ None → IfNone kept (IsAddError e) → IsErrAnd r (λ x. x ≡ e) → IfErr r (λ x. IsRefusal x → P x)
never_refusal P = refused_at_instruction (λ (x : Error). IsRefusal x → P x) (λ x h refusal. absurd (limit_not_refusal x h refusal))

-- what refuses an instruction is refused memory or the limit
limit_is_known : (e : Error) → IsAddError e → kind_of e ≢ OutOfMemory → kind_of e ≢ TooManyInstructions → ⊥
limit_is_known e (inl memory) room few = room memory
limit_is_known e (inr many) room few = few many

-- so nothing is said of it where these two are set aside
pub never_another : {A : Type 0} (P : Error → Type 0) (kept : Option Error) (e : Error) (r : Result A Error) → kept ≡ None → IfNone kept (IsAddError e) → IsErrAnd r (λ x. x ≡ e) → IfErr r (λ x. kind_of x ≢ OutOfMemory → kind_of x ≢ TooManyInstructions → P x)
never_another P = refused_at_instruction (λ (x : Error). kind_of x ≢ OutOfMemory → kind_of x ≢ TooManyInstructions → P x) (λ x h room few. absurd (limit_is_known x h room few))

-- where a generator that had refused nothing refuses, the refusal for memory or for length is
-- without a place
pub generator_unplaced : {A : Type 0} (kept : Option Error) (e : Error) (r : Result A Error) → kept ≡ None → IfNone kept (HasNoPlaceOrName e) → IsErrAnd r (λ x. x ≡ e) → IfErr r IsCompileUnplaced
generator_unplaced None e (Err x) none h same =
    let u = subst (λ y. HasNoPlaceOrName y) (sym same) h in
    record { memory = u.memory; source = λ k. u.no_span; code = λ k. u.no_span }
generator_unplaced None e (Ok a) none h same = absurd same
generator_unplaced (Some k) e r none h same = cc

-- the parser never refuses code as too long
parser_never_many : (e : Error) → parser.IsCause e → kind_of e ≡ TooManyInstructions → ⊥
parser_never_many e (inl (inl syntax)) many = cc
parser_never_many e (inl (inr escape)) many = cc
parser_never_many e (inr (inl memory)) many = cc
parser_never_many e (inr (inr long)) many = cc

-- where the parser refuses, the refusal for memory or for length is without a place
pub parser_unplaced : (e : Error) → parser.IsCause e → parser.IsUnplaced e → IsCompileUnplaced e
parser_unplaced e cause u = record { memory = u.memory; source = u.length; code = λ k. absurd (parser_never_many e cause k) }

-- the limits of the parser are limits
pub limit_of_parser : (e : Error) → parser.IsLimit e → IsCompileLimit e
limit_of_parser e (inl memory) = inl memory
limit_of_parser e (inr long) = inr (inl long)

-- what a generator that had refused nothing says of a refusal
pub unkept : {A : Type 0} (kept : Option Error) → kept ≡ None → IfNone kept A → A
unkept None none h = h
unkept (Some k) none h = cc

-- where a list that was empty has no room, the code is too long
pub too_long_list : {C : Type 0} (before : List (Instr C)) (here : Here) (p : Here → List (Instr C)) (e : Error) → before ≡ [] → here ≡ start →
    OnlyWhereTooLong e (before ++ p here) → kind_of e ≡ TooManyInstructions → 2 ^ 32 ≤ length (p start)
too_long_list before here p e empty at long k = subst (λ (h : Here). 2 ^ 32 ≤ length (p h)) at (subst (λ (is : List (Instr _)). 2 ^ 32 ≤ length (is ++ p here)) empty (long k))

-- where a list that was empty has no room, or that of a block has none, one of these is too long
pub too_long_lists : {C : Type 0} (before : List (Instr C)) (here : Here) (p : Here → List (Instr C)) (e : Error) (of_blocks : Type 0) → before ≡ [] → here ≡ start →
    (kind_of e ≡ TooManyInstructions → (2 ^ 32 ≤ length (before ++ p here)) ⊎ of_blocks) → kind_of e ≡ TooManyInstructions → (2 ^ 32 ≤ length (p start)) ⊎ of_blocks
too_long_lists before here p e of_blocks empty at long k = subst (λ (h : Here). (2 ^ 32 ≤ length (p h)) ⊎ of_blocks) at (subst (λ (is : List (Instr _)). (2 ^ 32 ≤ length (is ++ p here)) ⊎ of_blocks) empty (long k))
