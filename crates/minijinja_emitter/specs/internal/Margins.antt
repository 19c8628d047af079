-- How the marks that go with code change while it is being made.
use Rattle.std.specs.Prelude.{ℕ, Bool, true, false, take}
use Rattle.minijinja_syntax.specs.declared.tokens.Span.{Span}
use Rattle.minijinja_semantics.specs.Marks.{Margin, here}
use Rattle.minijinja_emitter.specs.declared.emit.Site.{Site}

-- from here on a span is open, and the line is where it begins
abbrev pub opened : Span → Margin → Margin
opened s t = record t { line = s.start_line; span = s }

-- this span is open again
abbrev pub closed : Span → Margin → Margin
closed s t = record t { span = s }

-- the marks before a place
abbrev pub trimmed : ℕ → Margin → Margin
trimmed n t = record t { marks = take n t.marks }

-- one instruction stands from a place on for a whole node: on the line where the node begins, and
-- within what was open before
abbrev pub replaced : (place : ℕ) → Site → Margin → Margin
replaced place site t = here 1 (record { marks = take place t.marks; line = site.node.start_line; span = site.outer })

-- that is so, or nothing changed
abbrev pub replaced_if : Bool → (place : ℕ) → Site → Margin → Margin
replaced_if true place site t = replaced place site t
replaced_if false place site t = t
