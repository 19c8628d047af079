-- What the enclosing loop of a statement shows of itself.
use Rattle.std.specs.Prelude.{List, map, reverse}
use Rattle.minijinja_semantics.specs.Pieces as pieces
use Rattle.minijinja_code_parts.specs.declared.enclosing_loop.Open.{Open}
use Rattle.minijinja_code_parts.specs.declared.enclosing_loop.Open.TheVariants as kind
use Rattle.minijinja_code_parts.specs.declared.enclosing_loop.EnclosingLoop.{EnclosingLoop}
use Rattle.minijinja_code_parts.specs.internal.EnclosingLoops.{Around}

-- what is open
abbrev pub open_of : Open → pieces.Open
open_of kind.Scope = pieces.OpenScope
open_of kind.AutoEscape = pieces.OpenAutoEscape
open_of kind.Capture = pieces.OpenCapture

-- what is open, in a list with the innermost last, as a list with the innermost first
abbrev pub opened_in : List Open → List pieces.Open
opened_in os = map open_of (reverse os)

-- the loop around what is being compiled
abbrev pub around_of : EnclosingLoop → Around
around_of t = record { in_loop = t.in_loop; iterate = t.iterate; opened = opened_in t.opened.items; breaks = t.breaks.items; bytes = t.data_bytes }
