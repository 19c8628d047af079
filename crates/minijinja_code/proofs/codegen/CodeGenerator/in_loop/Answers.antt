use Rattle.std.proofs.Common.{◌∙◌}
use Rattle.minijinja_code.proofs.OpenBlocks.{last_kept, loop_tested, loop_told}
use Rattle.minijinja_code.proofs.codegen.CodeGenerator.in_loop.Goals as goal

pub returns-then-is_none : goal.returns-then-is_none
returns-then-is_none g c =
    let self = c.args.self.now in
    let kept = last_kept c.copied.result c.deref.ensures.value (c.copied.ensures ∙ c.last.ensures.value) in
    c.is_some.ensures ∙ loop_told c.copied.result c.loop_in.result c.loop_in.ensures.some c.loop_in.ensures.none
    ∙ loop_tested self.refusal self.pending.items c.copied.result c.if-is_none.ensures kept
