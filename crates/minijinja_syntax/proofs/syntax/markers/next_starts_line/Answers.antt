use Rattle.std.proofs.Common.{sym, ◌∙◌}
use Rattle.minijinja_syntax.proofs.LineStarts.{starts_line-blank, starts_line-other}
use Rattle.minijinja_syntax.proofs.syntax.markers.next_starts_line.Goals as goal

pub returns-then-is_blank : goal.returns-then-is_blank
returns-then-is_blank c here = here ∙ sym (starts_line-blank c.args.text.now c.args.at c.requires (sym c.is_blank.ensures ∙ c.if-is_blank.true))

pub returns-else-is_blank : goal.returns-else-is_blank
returns-else-is_blank c _ = c.is_line_end.ensures ∙ sym (starts_line-other c.args.text.now c.args.at c.requires (sym c.is_blank.ensures ∙ c.if-is_blank.false))
