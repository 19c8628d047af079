-- An expression that has a tree compiles, except for the limits, and the words of its code are printed.
use Rattle.std.proofs.Common.{rules, inr, refl}
use Rattle.mjc_commands.specs.Output.{IsExprOutput}
use Rattle.mjc_commands.specs.Printed.{expression_words}
use Rattle.mjc_commands.proofs.Limits.{limit_of_failure}
use Rattle.mjc_commands.proofs.run.show_expression.Goals as goal

pub returns-in-Err-clause-run : goal.returns-in-Err-clause-run
returns-in-Err-clause-run g c =
    let e = c.in-Err.error in
    let told = c.in-Err.ensures in
    record {
      shown = search rules;
      printed = search rules;
      told = λ refused. inr (record { error = e; no_tree = told.refused; escapes = told.bad_escape; first = told.first; placed = told.placed; cause = told.causes; tells = c.of_refusal.ensures.value });
      succeeds = λ unfailed tree. limit_of_failure _ _ e c.of_refusal.result c.of_refusal.ensures.kind told.too_long_only told.too_many_only (told.accepted tree.0 tree.1);
      out_written = search rules;
      unfailed = search rules;
    }

pub returns-in_ok-map_err-in-Ok-clause-run : goal.returns-in_ok-map_err-in-Ok-clause-run
returns-in_ok-map_err-in-Ok-clause-run g c =
    let code = c.in-Ok.code in
    let of : IsExprOutput c.args.text.now (expression_words code) = record { code = code; compiled = c.in-Ok.ensures.compiled; words = refl } in
    record {
      shown = search rules;
      printed = record { printed = expression_words code; is = of; written = search rules };
      told = search rules;
      succeeds = search rules;
      out_written = search rules;
      unfailed = search rules;
    }
