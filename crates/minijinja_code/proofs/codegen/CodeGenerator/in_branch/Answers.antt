use Rattle.std.proofs.Common.{◌∙◌}
use Rattle.minijinja_code.proofs.OpenBlocks.{last_kept, branch_tested, branch_told}
use Rattle.minijinja_code.proofs.codegen.CodeGenerator.in_branch.Goals as goal

pub returns-then-is_none : goal.returns-then-is_none
returns-then-is_none g c =
    let self = c.args.self.now in
    let kept = last_kept c.copied.result c.deref.ensures.value (c.copied.ensures ∙ c.last.ensures.value) in
    c.is_some.ensures ∙ branch_told c.copied.result c.branch_in.result c.branch_in.ensures.some c.branch_in.ensures.none
    ∙ branch_tested self.refusal self.pending.items c.copied.result c.if-is_none.ensures kept
