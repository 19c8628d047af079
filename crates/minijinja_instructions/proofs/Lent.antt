-- What lending an instruction leaves of a list.
use Rattle.std.proofs.Common.{◌≡◌, ℕ, ◌<◌, ◌≤◌, List, length, refl, sym, ap}
use Rattle.std.specs.Prelude.{Option, Some, None, IfSome, slice_get, slice_index_or, vec_len}
use Rattle.std.specs.Borrow.{MutBor}
use Rattle.std.specs.List.{HoldsAt}
use Rattle.std.specs.Option.{MatchOption, option_copied_mut}
use Rattle.std.specs.Vec.{with_item}
use Rattle.std.proofs.Props.{props}
use Rattle.std.proofs.lemmas.Option.{slice_get_past, slice_get_read}
use Rattle.minijinja_instructions.specs.MarkLists.{marks_in}
use Rattle.minijinja_instructions.specs.declared.instructions.InstructionList.{InstructionList}

-- as many marks as instructions
abbrev AreMarked : {I : Type 0} → InstructionList I → Type 0
AreMarked x = length (marks_in x.marks) ≡ vec_len x.instructions

is-prop : {I : Type 0} (x : InstructionList I) → IsProp (AreMarked x)
is-prop x = hlevel props

-- lists that differ in this proof alone are the same
pub same-list : {I : Type 0} (x : InstructionList I) (p q : AreMarked x) → record x { marked = p } ≡ record x { marked = q }
same-list x p q = ap (λ e. record x { marked = e }) (is-prop x p q)

pub same-lent : {I : Type 0} (x : InstructionList I) (index : ℕ) (p q : (w : I) → AreMarked x) →
    ◌≡◌ {A = I → InstructionList I} (λ w. record x { instructions = with_item x.instructions index w; marked = p w }) (λ w. record x { instructions = with_item x.instructions index w; marked = q w })
same-lent x index p q = λ i w. record x { instructions = with_item x.instructions index w; marked = is-prop x (p w) (q w) i }

-- what is lent is the element at the index
pub lent-is : {X : Type 0} (xs : List X) (i : ℕ) (r : Option (MutBor X)) → MatchOption r (length xs ≤ i) (λ x. (i < length xs) × HoldsAt (λ y. x.now ≡ y) xs i) → IfSome r (λ x. x.now ≡ slice_index_or xs i x.now) → option_copied_mut r ≡ slice_get xs i
lent-is xs i None past h = sym (slice_get_past xs i past)
lent-is xs i (Some x) at h = sym (slice_get_read xs (length xs) i x.now refl at.0 h)
