-- The first word is `expr`, and the second is the text.
use Rattle.std.proofs.Common.{sym, ◌∙◌, []}
use Rattle.mjc_commands.proofs.Requests.{expr_words}
use Rattle.mjc_commands.proofs.usage.expr_word.Goals as goal

pub returns-in-len2-clause-some : goal.returns-in-len2-clause-some
returns-in-len2-clause-some c =
    expr_words c.args.args.now (record { ref_ptr = (0, 0); now = [] }) _ c.in-len2.len_at_least c.in-len2.len_below (sym c.eq.ensures ∙ c.if-eq.true)
