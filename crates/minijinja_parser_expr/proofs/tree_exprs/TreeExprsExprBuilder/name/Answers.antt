use Rattle.std.proofs.Common.{sym, subst}
use Rattle.minijinja_lexer.specs.Slices.{IsBetweenChars}
use Rattle.minijinja_grammar.specs.internal.Forms.{one}
use Rattle.minijinja_grammar.specs.internal.ExprForms.{ident_and_span, name_parts}
use Rattle.minijinja_parser_expr.proofs.Names.{still_between}
use Rattle.minijinja_parser_expr.proofs.tree_exprs.TreeExprsExprBuilder.name.Goals as goal

pub name_parts-requires : goal.name_parts-requires
name_parts-requires g c = still_between (one ident_and_span) c.args.tokens.now.place c.ident.new.tokens.place _ _ c.in_ok-name.ensures.read c.in_ok-name.ensures.between

pub source_between-requires-clause-first : goal.source_between-requires-clause-first
source_between-requires-clause-first g c = subst (λ t. IsBetweenChars t c.in_ok-name.first) (sym c.source.ensures)
    (still_between (name_parts c.in_ok-name.first) c.ident.new.tokens.place c.name_parts.new.tokens.place _ _ c.in_ok-last.ensures.read
    (still_between (one ident_and_span) c.args.tokens.now.place c.ident.new.tokens.place _ _ c.in_ok-name.ensures.read c.in_ok-name.ensures.between))
