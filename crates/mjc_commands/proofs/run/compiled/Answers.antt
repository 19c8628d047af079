-- A text that has a tree compiles, except for the limits, and an error is told.
use Rattle.mjc_commands.proofs.Limits.{limit_of_failure}
use Rattle.mjc_commands.proofs.run.compiled.Goals as goal

pub returns-in-Err-clause-succeeds : goal.returns-in-Err-clause-succeeds
returns-in-Err-clause-succeeds c = λ tree.
    limit_of_failure _ _ c.in-Err.error c.of_refusal.result c.of_refusal.ensures.kind c.in-Err.ensures.too_long_only c.in-Err.ensures.too_many_only (c.in-Err.ensures.accepted tree.0 tree.1)

pub returns-in-Err-clause-told : goal.returns-in-Err-clause-told
returns-in-Err-clause-told c =
    let told = c.in-Err.ensures in
    record { error = c.in-Err.error; no_tree = told.refused; escapes = told.bad_escape; first = told.first; placed = told.placed; cause = told.causes; tells = c.of_refusal.ensures.value }
