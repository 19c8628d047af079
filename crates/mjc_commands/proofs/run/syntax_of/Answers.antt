-- The error of a syntax that cannot be built is told so.
use Rattle.mjc_commands.proofs.Told.{syntax_refusal}
use Rattle.mjc_commands.proofs.run.syntax_of.Goals as goal

pub returns-in-Err-clause-told : goal.returns-in-Err-clause-told
returns-in-Err-clause-told c = syntax_refusal c.in-Err.error c.of_refusal.result c.of_refusal.ensures.value c.of_refusal.ensures.kind c.in-Err.ensures.refused
