use Rattle.std.proofs.Common.{◌≡◌, length}
use Rattle.minijinja_lexer.specs.Slices.{IsBetweenChars}
use Rattle.minijinja_grammar.specs.internal.Forms.{reads}
use Rattle.minijinja_grammar.specs.internal.ExprForms as form
use Rattle.minijinja_parser_expr.proofs.atoms.name_parts.Given as goal

abbrev pub invariant-loop-last : goal.invariant-loop-last
invariant-loop-last l = record {
  read : reads (form.name_parts l.fn.first) l.fn.tokens.place ≡ reads (form.name_parts l.last) l.tokens.place;
  between : IsBetweenChars l.tokens.place.source l.last;
}

abbrev pub decreases-loop-last : goal.decreases-loop-last
decreases-loop-last l = length l.tokens.place.tokens
