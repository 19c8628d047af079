use Rattle.std.proofs.Common.{arith}
use Rattle.minijinja_instructions.specs.Instructions.{instr_of}
use Rattle.minijinja_instructions.proofs.Scans.{scan_begins}
use Rattle.minijinja_instructions.proofs.references.reach.Goals as goal

pub loop-instruction-init : goal.loop-instruction-init
loop-instruction-init g c = record {
  same = scan_begins (instr_of g.V.TemplateValue.contents) c.args.instructions.now c.args.index;
  within = omega arith;
}
