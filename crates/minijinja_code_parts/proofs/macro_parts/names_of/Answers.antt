use Rattle.std.proofs.Common.{arith}
use Rattle.minijinja_code_parts.proofs.MacroParts.{names_skip}
use Rattle.minijinja_code_parts.proofs.macro_parts.names_of.Goals as goal

pub loop-arg-preserved-in_default : goal.loop-arg-preserved-in_default
loop-arg-preserved-in_default g c =
    names_skip g.V.TemplateValue.contents g.V.TemplateValue.functions.of_str c.loop-arg.names.items c.args.args.now c.loop-arg.arg-index c.arg-item.result _ (omega arith) c.arg-item.is c.in_default.not-Var c.loop-arg.invariant
