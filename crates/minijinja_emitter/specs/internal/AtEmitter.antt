-- What an emitter shows of itself.
use Rattle.std.specs.Prelude.{List, map}
use Rattle.minijinja_syntax.specs.Texts.{Text}
use Rattle.minijinja_semantics.specs.Marks.{Margin}
use Rattle.minijinja_instructions.specs.Instructions.{instr_of}
use Rattle.minijinja_instructions.specs.MarkLists.{marks_in}
use Rattle.minijinja_emitter.specs.declared.emit.Emitter.{Emitter}
use Rattle.minijinja_emitter.specs.declared.names.Names.{Names}
use Rattle.minijinja_emitter.specs.internal.Making.{Made}

-- the names, in the order of their ids
abbrev pub texts_of : Names → List Text
texts_of names = map (λ x. x.now) names.names.items

-- what an emitter has made
abbrev pub made_of : {V F C : Type 0} → (V → C) → Emitter V F → Made C
made_of c e = record { code = map (instr_of c) e.code.list.items; filters = texts_of e.filters; tests = texts_of e.tests }

-- the marks of what it has made, the line in force, and the span that is open
abbrev pub margin_of : {V F : Type 0} → Emitter V F → Margin
margin_of e = record { marks = marks_in e.code.marks; line = e.line; span = e.span }
