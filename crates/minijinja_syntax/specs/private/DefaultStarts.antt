-- The starts of markers by default, which all begin with `{`.
use Rattle.std.specs.Prelude.{◌≡◌, ℕ, Bool, true, ◌==◌, if◌then◌else◌, Option, Some, None}
use Rattle.minijinja_syntax.specs.Syntax.{Syntax, IsBuildable, start_of, default_syntax}
use Rattle.minijinja_syntax.specs.declared.syntax.StartMarker.{StartMarker}
use Rattle.minijinja_syntax.specs.declared.syntax.StartMarker.TheVariants.{Variable, Block, Comment}

-- tags begin as by default, and both prefixes are off
pub record HasDefaultStarts (s : Syntax) : Type 0 where
  pub start : (m : StartMarker) → start_of s m ≡ start_of default_syntax m

-- the marker that begins with `{` and this byte
abbrev pub braced_marker : ℕ → Option StartMarker
braced_marker b = if b == 123 then Some Variable else (if b == 37 then Some Block else (if b == 35 then Some Comment else None))

-- the syntax can be built, and all its start markers begin with `{` if the flag says so
pub record MayBeSearched (s : Syntax) (by_brace : Bool) : Type 0 where
  pub built : IsBuildable s
  pub starts : by_brace ≡ true → HasDefaultStarts s
