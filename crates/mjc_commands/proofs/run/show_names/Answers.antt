-- A text that has a tree is parsed, except for the limits, and an error is told.
use Rattle.std.proofs.Common.{inr}
use Rattle.mjc_commands.proofs.Limits.{cause_of_parse, limit_of_parse}
use Rattle.mjc_commands.proofs.run.show_names.Goals as goal

pub returns-in-Err-clause-succeeds : goal.returns-in-Err-clause-succeeds
returns-in-Err-clause-succeeds g c = λ unfailed tree.
    limit_of_parse _ c.in-Err.error c.of_refusal.result c.of_refusal.ensures.kind c.in-Err.ensures.too_long_only (c.in-Err.ensures.only tree.0 tree.1)

pub returns-in-Err-clause-told : goal.returns-in-Err-clause-told
returns-in-Err-clause-told g c = λ refused.
    let told = c.in-Err.ensures in
    inr (record { error = c.in-Err.error; no_tree = told.refused; escapes = told.bad_escape; first = told.first; placed = told.placed; cause = cause_of_parse c.in-Err.error told.causes; tells = c.of_refusal.ensures.value })
