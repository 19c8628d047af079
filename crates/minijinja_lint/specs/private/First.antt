-- The first of some spans, and what is kept of names.
use Rattle.std.specs.Prelude.{◌≡◌, Bool, false, ◌&&◌, nat_lt, if◌then◌else◌, Option, None, Some, List, [], ◌∷◌}
use Rattle.std.specs.BTreeMap.{BTreeMap, get_by}
use Rattle.std.specs.BTreeMap as tree
use Rattle.std.specs.BTreeSet.{BTreeSet, contains_by}
use Rattle.std.specs.Borrow.{Bor}
use Rattle.std.specs.Cmp.Lexicographic.{slice_cmp}
use Rattle.std.specs.Ordering.{nat_cmp}
use Rattle.std.specs.Str.{bytes_eq}
use Rattle.minijinja_syntax.specs.Texts.{Text}
use Rattle.minijinja_syntax.specs.declared.tokens.Span.{Span}
use Rattle.minijinja_meta.specs.Mentions.{is_among}

-- ---- spans

-- whether there is a span that starts before this one
abbrev pub starts_before : Option Span → Span → Bool
starts_before None s = false
starts_before (Some t) s = nat_lt t.start_offset s.start_offset

-- the span that there is if it starts before this one, and else this one
abbrev pub earlier : Span → Option Span → Option Span
earlier s o = if starts_before o s then o else Some s

-- the first one of those that start first
abbrev pub first_of : List Span → Option Span
first_of [] = None
first_of (s ∷ ss) = earlier s (first_of ss)

-- ---- spans by names

abbrev pub ByName : Type 0
ByName = BTreeMap (Bor Text) Span

-- the span of a name
abbrev pub at : Text → ByName → Option Span
at x m = get_by (λ k. slice_cmp nat_cmp x k.now) m

abbrev pub IsOrdered : ByName → Type 0
IsOrdered m = tree.IsOrdered (λ x y. slice_cmp nat_cmp x.now y.now) m

-- one mention more, before the others, changes what is first of its name if it is free
abbrev pub PutsMention : (is_free : Bool) → Text → Span → (old new : ByName) → Type 0
PutsMention is_free x s old new = (y : Text) → at y new ≡ (if is_free && bytes_eq x y then earlier s (at y old) else at y old)

-- ---- sets of names

-- the set has these names
abbrev pub AreNames : List Text → BTreeSet (Bor Text) → Type 0
AreNames xs s = (x : Text) → contains_by (λ k. slice_cmp nat_cmp x k.now) s ≡ is_among x xs
