use Rattle.std.proofs.Common.{◌≡◌, length}
use Rattle.std.specs.String.{string_bytes}
use Rattle.minijinja_grammar.specs.internal.Forms.{reads}
use Rattle.minijinja_grammar.specs.internal.ExprForms as form
use Rattle.minijinja_parser_expr.proofs.atoms.joined_text.Given as goal

abbrev pub invariant-loop-tokens : goal.invariant-loop-tokens
invariant-loop-tokens g l =
    reads (form.texts g.V.TemplateValue.functions l.from (string_bytes l.fn.text)) l.fn.tokens.place ≡
    reads (form.texts g.V.TemplateValue.functions l.from (string_bytes l.joined)) l.tokens.place

abbrev pub decreases-loop-tokens : goal.decreases-loop-tokens
decreases-loop-tokens g l = length l.tokens.place.tokens
