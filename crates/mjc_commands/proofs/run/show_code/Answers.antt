-- The words of the code that was compiled are printed.
use Rattle.std.proofs.Common.{rules, refl}
use Rattle.mjc_commands.specs.Output.{IsCodeOutput}
use Rattle.mjc_commands.specs.Printed.{code_words}
use Rattle.mjc_commands.proofs.run.show_code.Goals as goal

pub returns-clause-printed : goal.returns-clause-printed
returns-clause-printed g c =
    let code = c.in_ok-code.code in
    let of : IsCodeOutput c.args.syntax.now c.args.text.now (code_words code) = record { filename = c.args.path.now; code = code; compiled = c.in_ok-code.ensures.compiled; words = refl } in
    record { printed = code_words code; is = of; written = search rules }
