use Rattle.std.proofs.Common.{◌∙◌, ap, sym}
use Rattle.minijinja_code_parts.specs.internal.Macros.{before_last}
use Rattle.minijinja_code_parts.proofs.MacroParts.{left_is}
use Rattle.minijinja_code_parts.proofs.macro_parts.default_before.Goals as goal

pub returns-in-Some : goal.returns-in-Some
returns-in-Some g c = left_is c.split_last.result c.in-Some.before.now c.split_last.ensures.cases ∙ sym (ap before_last c.in-Some.is)
