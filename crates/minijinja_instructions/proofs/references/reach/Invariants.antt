use Rattle.std.proofs.Common.{◌≡◌, ◌+◌, ◌≤◌, drop, map}
use Rattle.minijinja_instructions.specs.Instructions.{instr_of}
use Rattle.minijinja_instructions.specs.private.Scanning.{reach, reach_from}
use Rattle.minijinja_instructions.proofs.references.reach.Given as goal

-- what is found from here on is what is found from the place on
abbrev pub invariant-loop-instruction : goal.invariant-loop-instruction
invariant-loop-instruction g l =
    let v = instr_of g.V.TemplateValue.contents in
    let code = map v l.instructions in
    record {
      same : reach_from code l.index (map v (drop l.instruction-index l.instruction-items)) l.end ≡ reach code l.index;
      within : l.end ≤ l.index + 1;
    }
