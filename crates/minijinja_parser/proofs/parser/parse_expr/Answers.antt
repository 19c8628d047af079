use Rattle.std.proofs.Common.{◌∙◌, ap, subst, None}
use Rattle.minijinja_syntax.specs.Syntax.{default_syntax}
use Rattle.minijinja_syntax.specs.declared.error.ErrorKind.TheVariants.{OutOfMemory}
use Rattle.minijinja_lexer.specs.TextTokens.{text_of, tokens_of_expression}
use Rattle.minijinja_tree.specs.Erasure.{expr_tree}
use Rattle.minijinja_grammar.specs.Derived.{IsExprTree}
use Rattle.minijinja_parser_tokens.specs.TokenStreams.{Comes, stream_at}
use Rattle.minijinja_parser.proofs.Begun.{begun_refused, begun_only, begun_placed, begun_first}
use Rattle.minijinja_parser.proofs.Endings.{expression_ends}
use Rattle.minijinja_parser.proofs.parser.parse_expr.Goals as goal

pub returns-clause-refused : goal.returns-clause-refused
returns-clause-refused g c =
    begun_refused (IsExprTree g.V.TemplateValue.functions) (expr_tree {F = g.row.V-Fault.Denot} g.V.TemplateValue.contents)
    (text_of default_syntax c.args.source.now) (tokens_of_expression default_syntax c.args.source.now) c.new-parser.result.place c.parse_standalone_expr.result
    (c.new-parser.ensures.source ∙ ap (λ y. text_of y c.args.source.now) c.default-syntax.ensures) c.new-parser.ensures.last c.new-parser.ensures.names
    (subst (λ y. Comes (tokens_of_expression y c.args.source.now) (stream_at c.new-parser.result.place)) c.default-syntax.ensures c.new-parser.ensures.stream) (c.parse_standalone_expr.ensures.again OutOfMemory None) c.parse_standalone_expr.ensures.refused

pub returns-clause-placed : goal.returns-clause-placed
returns-clause-placed g c =
    begun_placed (IsExprTree g.V.TemplateValue.functions) (expr_tree {F = g.row.V-Fault.Denot} g.V.TemplateValue.contents)
    (text_of default_syntax c.args.source.now) (tokens_of_expression default_syntax c.args.source.now) c.new-parser.result.place c.parse_standalone_expr.result
    (c.new-parser.ensures.source ∙ ap (λ y. text_of y c.args.source.now) c.default-syntax.ensures) c.new-parser.ensures.last c.new-parser.ensures.names
    (subst (λ y. Comes (tokens_of_expression y c.args.source.now) (stream_at c.new-parser.result.place)) c.default-syntax.ensures c.new-parser.ensures.stream) (c.parse_standalone_expr.ensures.again OutOfMemory None)
    (expression_ends default_syntax c.args.source.now) c.parse_standalone_expr.ensures.placed

pub returns-clause-only : goal.returns-clause-only
returns-clause-only g c =
    begun_only (IsExprTree g.V.TemplateValue.functions) (expr_tree {F = g.row.V-Fault.Denot} g.V.TemplateValue.contents)
    (text_of default_syntax c.args.source.now) (tokens_of_expression default_syntax c.args.source.now) c.new-parser.result.place c.parse_standalone_expr.result
    (c.new-parser.ensures.source ∙ ap (λ y. text_of y c.args.source.now) c.default-syntax.ensures) c.new-parser.ensures.last c.new-parser.ensures.names
    (subst (λ y. Comes (tokens_of_expression y c.args.source.now) (stream_at c.new-parser.result.place)) c.default-syntax.ensures c.new-parser.ensures.stream) (c.parse_standalone_expr.ensures.again OutOfMemory None) c.parse_standalone_expr.ensures.only

pub returns-clause-first : goal.returns-clause-first
returns-clause-first g c = λ short.
    begun_first (IsExprTree g.V.TemplateValue.functions) (expr_tree {F = g.row.V-Fault.Denot} g.V.TemplateValue.contents)
    (text_of default_syntax c.args.source.now) (tokens_of_expression default_syntax c.args.source.now) c.new-parser.result.place c.parse_standalone_expr.result
    (c.new-parser.ensures.source ∙ ap (λ y. text_of y c.args.source.now) c.default-syntax.ensures) c.new-parser.ensures.last c.new-parser.ensures.names
    (subst (λ y. Comes (tokens_of_expression y c.args.source.now) (stream_at c.new-parser.result.place)) c.default-syntax.ensures c.new-parser.ensures.stream) (c.parse_standalone_expr.ensures.again OutOfMemory None) c.parse_standalone_expr.ensures.first
