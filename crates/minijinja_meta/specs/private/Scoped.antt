-- The names that are stored where a region is still open.
use Rattle.std.specs.Prelude.{◌≡◌, ℕ, Bool, false, List, [], ◌∷◌, ◌++◌, length, map}
use Rattle.std.specs.Borrow.{Bor}
use Rattle.std.specs.BTreeSet.{BTreeSet, contains_by}
use Rattle.std.specs.Cmp.Lexicographic.{slice_cmp}
use Rattle.std.specs.Ordering.{nat_cmp, ordering_then}
use Rattle.std.specs.declared.cmp.Ordering.{Ordering}
use Rattle.minijinja_syntax.specs.Texts.{Text}
use Rattle.minijinja_meta.specs.Mentions.{is_among}
use Rattle.minijinja_meta.specs.declared.scopes.Scopes.{Scopes}

-- a name after its length
abbrev pub Sized : Type 0
Sized = ℕ × Bor Text

-- the order of names by their lengths, and then by their bytes
abbrev pub by_length : Sized → Sized → Ordering
by_length x y = ordering_then (nat_cmp x.0 y.0) (slice_cmp nat_cmp x.1.now y.1.now)

abbrev pub among : Text → BTreeSet Sized → Bool
among y s = contains_by (by_length (length y, record { ref_ptr = (0, 0); now = y })) s

-- the stored names in the order in which they were stored
abbrev pub log : Scopes → List Text
log s = map (λ x. x.now) s.log.items

-- each once
abbrev pub AreOnce : List Text → Type 0
AreOnce [] = Unit {0}
AreOnce (x ∷ xs) = (is_among x xs ≡ false) × AreOnce xs

-- what is stored is on the log, each once
pub record IsLogged (s : Scopes) : Type 0 where
  pub same : (y : Text) → among y s.stored ≡ is_among y (log s)
  pub once : AreOnce (log s)

-- one name more is stored, and those that were are still on the log
pub record Stores (s t : Scopes) (x : Text) : Type 0 where
  pub logged : IsLogged t
  pub has : (y : Text) → is_among y (log t) ≡ is_among y (x ∷ log s)
  pub log : (more : List Text) × (log t ≡ log s ++ more)
