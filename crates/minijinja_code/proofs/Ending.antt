-- What a public call of a generator returns, by what it added.
use Rattle.std.proofs.Common.{◌≡◌, ◌≤◌, ◌^◌, ◌++◌, List, Option, Some, None, Result, Ok, Err, length, subst, inl, inr}
use Rattle.std.specs.Prelude.{IfErr, IfNone, OnOk}
use Rattle.minijinja_syntax.specs.Errors.{kind_of}
use Rattle.minijinja_syntax.specs.declared.error.Error.{Error}
use Rattle.minijinja_syntax.specs.declared.error.ErrorKind.TheVariants.{TooManyInstructions}
use Rattle.minijinja_value.specs.Values.{Functions}
use Rattle.minijinja_tree.specs.Tree.{Block}
use Rattle.minijinja_semantics.specs.Code.{Instr}
use Rattle.minijinja_code.specs.Generator.{HaveTooLong, OnlyWhereOneIsTooLong, OnlyWhereTooLong}
use Rattle.minijinja_emitter.specs.internal.Making.{Made, here_of, Adds}
use Rattle.minijinja_code.proofs.Uncapped.{added_length}
use Rattle.minijinja_semantics.specs.Pieces.{Piece}

-- what holds of the outcome of making holds where the call succeeded
pub outcome_ok : {X E Y D : Type 0} (A : Type 0) (r : Result X E) (o : Result Y D) (y : Y) → OnOk r (o ≡ Ok y) → OnOk o A → OnOk r A
outcome_ok A (Ok x) o y e h = subst (λ p. OnOk p A) e h
outcome_ok A (Err d) o y e h = tt

-- two facts of a call that succeeded
pub both_ok : {X E A B P : Type 0} (r : Result X E) → OnOk r A → OnOk r B → (A → B → P) → OnOk r P
both_ok (Ok x) a b k = k a b
both_ok (Err e) a b k = tt

pub if_none : {X : Type 0} {P : Type 0} (o : Option X) → P → IfNone o P
if_none None p = p
if_none (Some x) p = tt

-- a list that became too long has too many instructions
pub too_long : {X Y D C : Type 0} (r : Result X Error) (o : Result Y D) (y : Y) (a b : Made C) (p : Piece C) →
    IfErr r (λ e. kind_of e ≡ TooManyInstructions → (2 ^ 32 ≤ length b.code) × (o ≡ Ok y)) → OnOk o (Adds a b p) → IfErr r (λ e. OnlyWhereTooLong e (a.code ++ p.code (here_of a)))
too_long (Ok x) o y a b p h s = tt
too_long (Err e) o y a b p h s = λ k.
    let both = h k in
    let added = subst (λ q. OnOk q (Adds a b p)) both.1 s in
    subst (λ n. 2 ^ 32 ≤ n) (added_length p added) both.0

wrong : {Y D : Type 0} (d : D) (y : Y) → Err d ≡ Ok y → ⊥
wrong d y h = cc

-- a call that succeeded did not begin with a refusal
pub never_ok : {X E Y D : Type 0} (P : Type 0) (r : Result X E) (d : D) (y : Y) → OnOk r (Err d ≡ Ok y) → OnOk r P
never_ok P (Ok x) d y h = absurd (wrong d y h)
never_ok P (Err e) d y h = tt

-- and one that did says nothing of a list that became too long
pub never_long : {X Y D : Type 0} (A P : Type 0) (r : Result X Error) (d : D) (y : Y) → IfErr r (λ e. kind_of e ≡ TooManyInstructions → A × (Err d ≡ Ok y)) → IfErr r (λ e. kind_of e ≡ TooManyInstructions → P)
never_long A P (Ok x) d y h = tt
never_long A P (Err e) d y h = λ k. let both = h k in absurd (wrong d y both.1)

-- what holds at any rate holds of a call that succeeded
pub always_ok : {X E P : Type 0} (r : Result X E) → P → OnOk r P
always_ok (Ok x) p = p
always_ok (Err e) p = tt

-- a list that became too long is that of the statement, or of a block in it
pub one_too_long : {X Y D C L F : Type 0} (f : Functions C F) (bs : List (Block C L)) (r : Result X Error) (o : Result Y D) (y : Y) (a b : Made C) (p : Piece C) →
    IfErr r (λ e. kind_of e ≡ TooManyInstructions → (2 ^ 32 ≤ length b.code) × (o ≡ Ok y)) → OnOk o (Adds a b p) → IfErr r (λ e. OnlyWhereOneIsTooLong f e (a.code ++ p.code (here_of a)) bs)
one_too_long f bs (Ok x) o y a b p h s = tt
one_too_long f bs (Err e) o y a b p h s = λ k.
    let both = h k in
    let added = subst (λ q. OnOk q (Adds a b p)) both.1 s in
    inl (subst (λ n. 2 ^ 32 ≤ n) (added_length p added) both.0)

pub block_too_long : {X C L F : Type 0} (f : Functions C F) (bs : List (Block C L)) (r : Result X Error) (code : List (Instr C)) → IfErr r (λ e. kind_of e ≡ TooManyInstructions → HaveTooLong f bs) → IfErr r (λ e. OnlyWhereOneIsTooLong f e code bs)
block_too_long f bs (Ok x) code h = tt
block_too_long f bs (Err e) code h = λ k. inr (h k)
