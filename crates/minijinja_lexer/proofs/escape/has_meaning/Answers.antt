use Rattle.std.proofs.Common.{sym, ap, ◌∙◌, subst}
use Rattle.std.proofs.lemmas.List.{take_rest}
use Rattle.minijinja_lexer.specs.private.AsciiEnds.{EndsInAscii}
use Rattle.minijinja_lexer.specs.Escapes.{escape}
use Rattle.minijinja_lexer.proofs.Escaping.{same_bad, same_past_escape, same_past_byte, same_end}
use Rattle.minijinja_lexer.proofs.escape.has_meaning.Goals as goal

pub returns-in_default : goal.returns-in_default
returns-in_default c =
    same_bad c.args.inside.now c.loop-at.at c.loop-at.invariant c.if-inside-at-eq92.true
    (ap escape (sym (take_rest c.args.inside.now c.loop-at.at)) ∙ sym c.escape.ensures.value ∙ c.in_default.is)

pub loop-at-preserved-then-inside-at-eq92 : goal.loop-at-preserved-then-inside-at-eq92
loop-at-preserved-then-inside-at-eq92 c =
    same_past_escape c.args.inside.now c.loop-at.at c.loop-at.invariant c.in-Some.field-0-0 c.in-Some.len
    (ap escape (sym (take_rest c.args.inside.now c.loop-at.at)) ∙ sym c.in-Some.ensures.value)
    (subst (λ t. EndsInAscii t c.in-Some.len) (take_rest c.args.inside.now c.loop-at.at) c.in-Some.ensures.places)

pub loop-at-preserved : goal.loop-at-preserved
loop-at-preserved c = same_past_byte c.args.inside.now c.loop-at.at c.loop-at.invariant c.loop-at-test.true c.if-inside-at-eq92.false

pub returns : goal.returns
returns c = same_end c.args.inside.now c.loop-at.at c.loop-at.invariant c.loop-at-test.false
