use Rattle.std.proofs.Common.{ap, ◌∙◌, ◌+◌, length, min}
use Rattle.std.proofs.lemmas.List.{take_rest}
use Rattle.minijinja_lexer.proofs.Stretches.{line_moved, line_stays, column_moved, column_restarts}
use Rattle.minijinja_lexer.proofs.count.far_after.Goals as goal

pub returns-in-Some-clause-line : goal.returns-in-Some-clause-line
returns-in-Some-clause-line c = line_moved c.args.text.now c.args.at c.args.to c.args.line c.count.result c.moved.result c.requires.ordered c.requires.line (c.count.ensures ∙ ap length c.memchr_iter.ensures.value) c.moved.ensures

pub returns-in-None-clause-line : goal.returns-in-None-clause-line
returns-in-None-clause-line c = line_stays c.args.text.now c.args.at c.args.to c.args.line c.requires.ordered c.requires.line c.in-None.ensures

pub returns-in-None-clause-column : goal.returns-in-None-clause-column
returns-in-None-clause-column c = column_moved c.args.text.now c.args.at c.args.to c.args.column c.moved-in-None.result c.requires.ordered c.requires.column c.in-None.ensures (c.moved-in-None.ensures ∙ ap (λ n. min 65535 (c.args.column + n)) c.char_count-in-None.ensures)

pub returns-in-Some-clause-column : goal.returns-in-Some-clause-column
returns-in-Some-clause-column c =
    column_restarts c.args.text.now _ c.args.at c.args.to c.in-Some.last c.moved-in-Some.result c.requires.ordered (take_rest _ (c.in-Some.last + 1)) c.in-Some.ensures
    (c.moved-in-Some.ensures ∙ ap (λ n. min 65535 (0 + n)) c.char_count.ensures)
