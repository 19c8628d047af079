use Rattle.std.proofs.Common.{not, rules, tests}
use Rattle.std.specs.Char.{is_whitespace}
use Rattle.std.proofs.lemmas.Iterator.Search.{YieldsList-from_take_while, all_from_yields_List}
use Rattle.minijinja_syntax.specs.Markers.{is_line_end}
use Rattle.minijinja_lexer.specs.Whitespace.{ends_blank}
use Rattle.minijinja_lexer.proofs.Backwards.{YieldsList-from_rev_chars}
use Rattle.minijinja_lexer.proofs.data.ends_blank.Goals as goal

pub returns : goal.returns
unfolding ends_blank
returns c =
    all_from_yields_List is_whitespace _ _ c.all.result c.all.ensures.ran
    (YieldsList-from_take_while _ (λ x. not (is_line_end x)) (YieldsList-from_rev_chars c.args.text.now c.utf8.text (cc)) c.take_while.ensures.closure c.take_while.ensures.done (λ x b q k. search (rules, tests)))
    (λ x b q k. search (rules, tests))
