use Rattle.std.proofs.Common.{◌+◌, ◌-◌, length, take, drop, ap, ◌∙◌, arith, subst, Some, None}
use Rattle.std.proofs.lemmas.List.{take_rest}
use Rattle.memchr.specs.Find.{FindsNeedle}
use Rattle.minijinja_syntax.specs.Texts.{Text}
use Rattle.minijinja_syntax.proofs.Delimiters.{start_boundary, end_boundary, stands_within}
use Rattle.minijinja_lexer.proofs.Occurrences.{delimiter_found, delimiter_stands}
use Rattle.minijinja_lexer.proofs.find.next_delimiter.Goals as goal

pub returns-in-Some-clause-value : goal.returns-in-Some-clause-value
returns-in-Some-clause-value c =
    let text = c.as_bytes.result.now in
    let rest : Text = take (length text - c.args.at) (drop c.args.at text) in
    delimiter_found c.args.delimiter.now c.args.text.now rest c.args.at (Some c.in-Some.ahead) c.requires.some c.requires.within (take_rest text c.args.at ∙ ap (drop c.args.at) c.as_bytes.ensures.value)
    (subst (λ d. FindsNeedle rest d 0 (Some c.in-Some.ahead)) c.as_bytes-2.ensures.value c.in-Some.ensures)

pub returns-in-None-clause-value : goal.returns-in-None-clause-value
returns-in-None-clause-value c =
    let text = c.as_bytes.result.now in
    let rest : Text = take (length text - c.args.at) (drop c.args.at text) in
    delimiter_found c.args.delimiter.now c.args.text.now rest c.args.at None c.requires.some c.requires.within (take_rest text c.args.at ∙ ap (drop c.args.at) c.as_bytes.ensures.value)
    (subst (λ d. FindsNeedle rest d 0 None) c.as_bytes-2.ensures.value c.in-None.ensures)

pub returns-in-Some-clause-start : goal.returns-in-Some-clause-start
returns-in-Some-clause-start c =
    let text = c.as_bytes.result.now in
    let rest : Text = take (length text - c.args.at) (drop c.args.at text) in
    let stands = delimiter_stands c.args.delimiter.now c.args.text.now rest c.args.at c.in-Some.ahead (take_rest text c.args.at ∙ ap (drop c.args.at) c.as_bytes.ensures.value)
    (subst (λ d. FindsNeedle rest d 0 (Some c.in-Some.ahead)) c.as_bytes-2.ensures.value c.in-Some.ensures) in
    start_boundary c.args.delimiter.now c.args.text.now (c.args.at + c.in-Some.ahead) c.utf8.delimiter c.requires.some (let w = stands_within c.args.delimiter.now c.args.text.now (c.args.at + c.in-Some.ahead) c.requires.some stands in omega (arith, w)) stands

pub returns-in-Some-clause-end : goal.returns-in-Some-clause-end
returns-in-Some-clause-end c = λ h.
    let text = c.as_bytes.result.now in
    let rest : Text = take (length text - c.args.at) (drop c.args.at text) in
    let stands = delimiter_stands c.args.delimiter.now c.args.text.now rest c.args.at c.in-Some.ahead (take_rest text c.args.at ∙ ap (drop c.args.at) c.as_bytes.ensures.value)
    (subst (λ d. FindsNeedle rest d 0 (Some c.in-Some.ahead)) c.as_bytes-2.ensures.value c.in-Some.ensures) in
    end_boundary c.args.delimiter.now c.args.text.now (c.args.at + c.in-Some.ahead) c.utf8.delimiter c.utf8.text c.requires.some (omega (arith, h)) stands
