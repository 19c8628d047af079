-- What a linter finds in a template.
use Rattle.std.specs.Prelude.{◌≡◌, ℕ, ◌≤◌, ◌==◌, Bool, not, Some, List, ◌++◌, All, filter, find, map}
use Rattle.std.specs.List.Sorted.{IsNonDecreasingBy}
use Rattle.std.specs.Str.{bytes_eq}
use Rattle.minijinja_syntax.specs.Texts.{Text}
use Rattle.minijinja_syntax.specs.declared.tokens.Span.{Span}
use Rattle.minijinja_meta.specs.Mentions.{Mention, Way, declared, free, is_among, occurrences, plain_names}
use Rattle.minijinja_lint.specs.declared.lint.Finding.{Finding}
use Rattle.minijinja_lint.specs.declared.lint.Finding.TheVariants.{Free, UnusedMacro}

-- ---- what a finding says

-- that a template needs a name, which is mentioned here first, or that it does not use a macro,
-- whose statement stands here
pub data Remark : Type 0 where
  needs : Text → Span → Remark
  does_not_use : Text → Span → Remark

abbrev pub remark_of : Finding → Remark
remark_of (Free x s) = needs x.now s
remark_of (UnusedMacro x s) = does_not_use x.now s

-- that it needs each of the first ones, and then that it does not use each of the second ones
abbrev pub remarks_of : (needed unused : List (Text × Span)) → List Remark
remarks_of needed unused = map (λ d. needs d.0 d.1) needed ++ map (λ d. does_not_use d.0 d.1) unused

-- ---- the first mention of a name

-- where the name is mentioned, in order of execution
abbrev pub spans_of : Text → List Mention → List Span
spans_of x ms = map (λ m. m.span) (filter (λ m. bytes_eq m.name x) ms)

-- no mention of the name starts before this one, and of those that start there this is the first
pub record IsFirstMention (ms : List Mention) (x : Text) (s : Span) : Type 0 where
  pub least : All (λ t. s.start_offset ≤ t.start_offset) (spans_of x ms)
  pub first : find (λ t. t.start_offset == s.start_offset) (spans_of x ms) ≡ Some s

-- ---- unused macros

-- the names of what occurs, whether it is free or not
abbrev pub mentioned : List (Mention × Bool) → List Text
mentioned os = map (λ o. o.0.name) os

-- the macro statements whose names are not mentioned
abbrev pub unused_macros : List (Mention × Bool) → List (Text × Span) → List (Text × Span)
unused_macros os ds = filter (λ d. not (is_among d.0 (mentioned os))) ds

-- the second list has the macro statements of the first one in order of where they start, and those
-- that start in one place in the order of the first one
pub record IsByStart (ds es : List (Text × Span)) : Type 0 where
  pub ordered : IsNonDecreasingBy (λ d. d.1.start_offset) es
  pub kept : (n : ℕ) → filter (λ d. d.1.start_offset == n) es ≡ filter (λ d. d.1.start_offset == n) ds

-- ---- all findings

-- that the template needs each of its free names, and then that it does not use each of its macro
-- statements that are unused
pub record AreFindings (w : Way) (rs : List Remark) : Type 0 where
  pub needed : List (Text × Span)
  pub unused : List (Text × Span)
  pub are : rs ≡ remarks_of needed unused
  pub names : map (λ d. d.0) needed ≡ plain_names w
  pub first : All (λ d. IsFirstMention (free w) d.0 d.1) needed
  pub macros : IsByStart (unused_macros (occurrences w) (declared w)) unused
