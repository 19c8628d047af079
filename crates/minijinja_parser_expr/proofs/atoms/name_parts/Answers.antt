use Rattle.std.proofs.Common.{◌∙◌, refl, sym, arith}
use Rattle.minijinja_syntax.specs.Tokens.{dot}
use Rattle.minijinja_grammar.specs.internal.Forms.{one}
use Rattle.minijinja_grammar.specs.internal.ExprForms.{ident_and_span}
use Rattle.minijinja_parser_expr.proofs.Names.{parts_more, still_between}
use Rattle.minijinja_parser_tokens.proofs.Turned.{next_shorter, read_no_longer}
use Rattle.minijinja_parser_expr.proofs.atoms.name_parts.Goals as goal

pub loop-last-smaller : goal.loop-last-smaller
loop-last-smaller c = omega (
  arith,
  next_shorter dot c.loop-last.tokens.place c.expect.new.self.place _ c.in_ok-expect.ensures,
  read_no_longer (one ident_and_span) c.expect.new.self.place c.ident.new.tokens.place _ c.in_ok-part.ensures.read,
)

pub loop-last-preserved : goal.loop-last-preserved
loop-last-preserved c = record {
  read = c.loop-last.invariant.read ∙ parts_more _ _ (sym c.at.ensures ∙ c.loop-last-test.true) ∙ rw (c.in_ok-expect.ensures, c.in_ok-part.ensures.read) refl;
  between = still_between (one ident_and_span) c.expect.new.self.place c.ident.new.tokens.place _ _ c.in_ok-part.ensures.read c.in_ok-part.ensures.between;
}
