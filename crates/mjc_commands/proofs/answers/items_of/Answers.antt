-- Only a list has items.
use Rattle.std.proofs.Common.{ap, sym, ◌∙◌}
use Rattle.minijinja_value.specs.ValueViews.{contents_of}
use Rattle.mjc_commands.specs.private.AtAnswers.{items_in}
use Rattle.mjc_commands.proofs.AnswerLines.{list_items, not-list}
use Rattle.mjc_commands.proofs.answers.items_of.Goals as goal

pub returns-in-List : goal.returns-in-List
returns-in-List c = sym (ap (λ v. items_in (contents_of v)) c.in-List.is ∙ list_items c.in-List.items)

pub returns : goal.returns
returns c = not-list c.args.value c.in_default.not-List
