use Rattle.std.proofs.Common.{◌∙◌}
use Rattle.minijinja_code.proofs.OpenBlocks.{closed_told}
use Rattle.minijinja_code.proofs.codegen.CodeGenerator.is_closed.Goals as goal

pub returns-then-is_none : goal.returns-then-is_none
returns-then-is_none g c =
    let self = c.args.self.now in
    c.is_empty.ensures ∙ closed_told self.refusal self.pending.items self.pending.len c.if-is_none.ensures self.pending.ok.0
