-- The marks of loops while their code is made.
use Rattle.minijinja_value.specs.Values.{Functions}
use Rattle.minijinja_syntax.specs.declared.tokens.Span.{Span}
use Rattle.minijinja_tree.specs.SpannedTrees.{Expr, Optional, absent, present}
use Rattle.minijinja_semantics.specs.Marks.{Marking, expr, here, span_of, target, within, ◌⟫◌}
use Rattle.minijinja_emitter.specs.internal.Margins.{closed, opened}

-- what gives a loop its items; their span is still open, unless they have to pass a test
abbrev pub items_marks : {C F : Type 0} → Functions C F → (target iterable : Expr C) → Optional C → Marking
items_marks f t e absent = opened (span_of e) ⟫ expr f e
items_marks f t e (present c) =
    here 1 ⟫ within (span_of e) (expr f e) ⟫ within (span_of c) (here 3 ⟫ target f t ⟫ expr f c ⟫ here 6) ⟫ here 3

-- a loop up to its body
abbrev pub begun : {C F : Type 0} → Functions C F → Expr C → (outer : Span) → Marking
begun f t outer = here 2 ⟫ closed outer ⟫ target f t
