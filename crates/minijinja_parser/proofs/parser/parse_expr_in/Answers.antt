use Rattle.std.proofs.Common.{None, take}
use Rattle.minijinja_syntax.specs.declared.error.ErrorKind.TheVariants.{OutOfMemory}
use Rattle.minijinja_lexer.specs.TextTokens.{tokens_of_expression_at}
use Rattle.minijinja_tree.specs.Erasure.{expr_tree}
use Rattle.minijinja_grammar.specs.Derived.{IsExprTree}
use Rattle.minijinja_parser.specs.Answers.{ExprHasPlacesAt, ExprStandsAt, IsExprAt}
use Rattle.minijinja_parser.proofs.Begun.{begun_first, begun_ok, begun_only, begun_placed, begun_refused}
use Rattle.minijinja_parser.proofs.Endings.{expression_at_ends}
use Rattle.minijinja_parser.proofs.parser.parse_expr_in.Goals as goal

pub returns-clause-refused : goal.returns-clause-refused
returns-clause-refused g c =
    begun_refused (IsExprTree g.V.TemplateValue.functions) (expr_tree {F = g.row.V-Fault.Denot} g.V.TemplateValue.contents)
    (take c.args.range.end c.args.file.now) (tokens_of_expression_at c.args.syntax.now (take c.args.range.end c.args.file.now) c.args.range.start) c.expression_in-parser.result.place c.parse_standalone_expr.result
    c.expression_in-parser.ensures.source c.expression_in-parser.ensures.last c.expression_in-parser.ensures.names c.expression_in-parser.ensures.stream (c.parse_standalone_expr.ensures.again OutOfMemory None) c.parse_standalone_expr.ensures.refused

pub returns-clause-placed : goal.returns-clause-placed
returns-clause-placed g c =
    begun_placed (IsExprTree g.V.TemplateValue.functions) (expr_tree {F = g.row.V-Fault.Denot} g.V.TemplateValue.contents)
    (take c.args.range.end c.args.file.now) (tokens_of_expression_at c.args.syntax.now (take c.args.range.end c.args.file.now) c.args.range.start) c.expression_in-parser.result.place c.parse_standalone_expr.result
    c.expression_in-parser.ensures.source c.expression_in-parser.ensures.last c.expression_in-parser.ensures.names c.expression_in-parser.ensures.stream (c.parse_standalone_expr.ensures.again OutOfMemory None)
    (expression_at_ends c.args.syntax.now (take c.args.range.end c.args.file.now) c.args.range.start) c.parse_standalone_expr.ensures.placed

pub returns-clause-only : goal.returns-clause-only
returns-clause-only g c =
    begun_only (IsExprTree g.V.TemplateValue.functions) (expr_tree {F = g.row.V-Fault.Denot} g.V.TemplateValue.contents)
    (take c.args.range.end c.args.file.now) (tokens_of_expression_at c.args.syntax.now (take c.args.range.end c.args.file.now) c.args.range.start) c.expression_in-parser.result.place c.parse_standalone_expr.result
    c.expression_in-parser.ensures.source c.expression_in-parser.ensures.last c.expression_in-parser.ensures.names c.expression_in-parser.ensures.stream (c.parse_standalone_expr.ensures.again OutOfMemory None) c.parse_standalone_expr.ensures.only

pub returns-clause-first : goal.returns-clause-first
returns-clause-first g c = λ short.
    begun_first (IsExprTree g.V.TemplateValue.functions) (expr_tree {F = g.row.V-Fault.Denot} g.V.TemplateValue.contents)
    (take c.args.range.end c.args.file.now) (tokens_of_expression_at c.args.syntax.now (take c.args.range.end c.args.file.now) c.args.range.start) c.expression_in-parser.result.place c.parse_standalone_expr.result
    c.expression_in-parser.ensures.source c.expression_in-parser.ensures.last c.expression_in-parser.ensures.names c.expression_in-parser.ensures.stream (c.parse_standalone_expr.ensures.again OutOfMemory None) c.parse_standalone_expr.ensures.first

pub returns-clause-found : goal.returns-clause-found
returns-clause-found g c =
    begun_ok (IsExprTree g.V.TemplateValue.functions) (expr_tree {F = g.row.V-Fault.Denot} g.V.TemplateValue.contents)
    (take c.args.range.end c.args.file.now) (tokens_of_expression_at c.args.syntax.now (take c.args.range.end c.args.file.now) c.args.range.start) c.expression_in-parser.result.place c.parse_standalone_expr.result
    c.expression_in-parser.ensures.source c.expression_in-parser.ensures.last c.expression_in-parser.ensures.names c.expression_in-parser.ensures.stream (c.parse_standalone_expr.ensures.again OutOfMemory None) (λ p x. IsExprAt g.V.TemplateValue.functions g.V.TemplateValue.contents p x) c.parse_standalone_expr.ensures.found

pub returns-clause-spans : goal.returns-clause-spans
returns-clause-spans g c =
    begun_ok (IsExprTree g.V.TemplateValue.functions) (expr_tree {F = g.row.V-Fault.Denot} g.V.TemplateValue.contents)
    (take c.args.range.end c.args.file.now) (tokens_of_expression_at c.args.syntax.now (take c.args.range.end c.args.file.now) c.args.range.start) c.expression_in-parser.result.place c.parse_standalone_expr.result
    c.expression_in-parser.ensures.source c.expression_in-parser.ensures.last c.expression_in-parser.ensures.names c.expression_in-parser.ensures.stream (c.parse_standalone_expr.ensures.again OutOfMemory None) (λ p x. ExprStandsAt g.V.TemplateValue.contents p x) c.parse_standalone_expr.ensures.spans

pub returns-clause-places : goal.returns-clause-places
returns-clause-places g c =
    begun_ok (IsExprTree g.V.TemplateValue.functions) (expr_tree {F = g.row.V-Fault.Denot} g.V.TemplateValue.contents)
    (take c.args.range.end c.args.file.now) (tokens_of_expression_at c.args.syntax.now (take c.args.range.end c.args.file.now) c.args.range.start) c.expression_in-parser.result.place c.parse_standalone_expr.result
    c.expression_in-parser.ensures.source c.expression_in-parser.ensures.last c.expression_in-parser.ensures.names c.expression_in-parser.ensures.stream (c.parse_standalone_expr.ensures.again OutOfMemory None) (λ p x. ExprHasPlacesAt g.V.TemplateValue.functions g.V.TemplateValue.contents p x) c.parse_standalone_expr.ensures.places
