-- What is asked of a file is asked of standard input that holds an expression, or of a template.
use Rattle.std.proofs.Common.{refl}
use Rattle.mjc_commands.specs.private.AtUsage.{input_request}
use Rattle.mjc_commands.proofs.Requests.{asks_input}
use Rattle.mjc_commands.proofs.usage.parse_file_command.Goals as goal

pub returns-in-Some-clause-usage : goal.returns-in-Some-clause-usage
returns-in-Some-clause-usage c =
    (λ _. record { request = input_request; asks = asks_input c.args.args.now (c.in-Some.ensures.usage.0 refl) }, λ _. refl)
