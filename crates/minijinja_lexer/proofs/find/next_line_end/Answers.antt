use Rattle.std.proofs.Common.{drop, ap, ◌∙◌, Some, None}
use Rattle.std.proofs.lemmas.List.{take_rest}
use Rattle.minijinja_lexer.proofs.Occurrences.{line_end_found}
use Rattle.minijinja_lexer.proofs.find.next_line_end.Goals as goal

pub returns-in-Some-clause-value : goal.returns-in-Some-clause-value
returns-in-Some-clause-value c = line_end_found c.args.text.now _ c.args.at (Some c.in-Some.ahead) c.requires (take_rest c.as_bytes.result.now c.args.at ∙ ap (drop c.args.at) c.as_bytes.ensures.value) c.in-Some.ensures

pub returns-in-None-clause-value : goal.returns-in-None-clause-value
returns-in-None-clause-value c = line_end_found c.args.text.now _ c.args.at None c.requires (take_rest c.as_bytes.result.now c.args.at ∙ ap (drop c.args.at) c.as_bytes.ensures.value) c.in-None.ensures
