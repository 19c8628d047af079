use Rattle.std.proofs.Common.{◌≡◌, ◌≤◌, length, map}
use Rattle.minijinja_semantics.specs.MacroBodies.{each_once}
use Rattle.minijinja_instructions.specs.Instructions.{instr_of}
use Rattle.minijinja_instructions.specs.private.NamesOnce.{with_names}
use Rattle.minijinja_instructions.specs.private.Scanning.{visited_below, visited_in}
use Rattle.minijinja_instructions.proofs.references.names_of.Given as goal

-- the names so far, with those that are left to visit, are all of them
abbrev pub invariant-loop-end : goal.invariant-loop-end
invariant-loop-end g l =
    let code = map (instr_of g.V.TemplateValue.contents) l.instructions in
    record {
      within : l.end ≤ length l.instructions;
      names : with_names (map (λ x. x.now) l.names.in_order.items) (visited_below l.part.start code l.end l.end) ≡ each_once (visited_in code l.part);
    }

abbrev pub decreases-loop-end : goal.decreases-loop-end
decreases-loop-end g l = l.end
