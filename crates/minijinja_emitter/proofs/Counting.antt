-- An emitter has a mark for each instruction.
use Rattle.std.proofs.Common.{◌≡◌, length, sym, ◌∙◌}
use Rattle.std.proofs.lemmas.List.{length-map}
use Rattle.minijinja_instructions.specs.Instructions.{instr_of}
use Rattle.minijinja_emitter.specs.declared.emit.Emitter.{Emitter}
use Rattle.minijinja_emitter.specs.internal.AtEmitter.{made_of, margin_of}

pub as_many : {V F C : Type 0} (c : V → C) (e : Emitter V F) → length (margin_of e).marks ≡ length (made_of c e).code
as_many c e = e.code.as_many ∙ e.code.list.ok.0 ∙ sym (length-map e.code.list.items (instr_of c))
