use Rattle.std.proofs.Common.{None}
use Rattle.minijinja_syntax.specs.declared.error.ErrorKind.TheVariants.{OutOfMemory}
use Rattle.minijinja_lexer.specs.TextTokens.{text_of, tokens_of_template}
use Rattle.minijinja_tree.specs.Erasure.{stmt_tree}
use Rattle.minijinja_grammar.specs.Derived.{IsTemplateTree}
use Rattle.minijinja_parser.specs.Answers.{HasPlacesAt, IsTemplateAt, StandsAt}
use Rattle.minijinja_parser.proofs.Begun.{begun_first, begun_ok, begun_only, begun_placed, begun_refused}
use Rattle.minijinja_parser.proofs.Endings.{template_ends}
use Rattle.minijinja_parser.proofs.parser.parse.Goals as goal

pub returns-clause-refused : goal.returns-clause-refused
returns-clause-refused g c =
    begun_refused (IsTemplateTree g.V.TemplateValue.functions) (stmt_tree {F = g.row.V-Fault.Denot} g.V.TemplateValue.contents)
    (text_of c.args.syntax.now c.args.source.now) (tokens_of_template c.args.syntax.now c.args.source.now) c.new-parser.result.place c.parse.result
    c.new-parser.ensures.source c.new-parser.ensures.last c.new-parser.ensures.names c.new-parser.ensures.stream (c.parse.ensures.again OutOfMemory None) c.parse.ensures.refused

pub returns-clause-placed : goal.returns-clause-placed
returns-clause-placed g c =
    begun_placed (IsTemplateTree g.V.TemplateValue.functions) (stmt_tree {F = g.row.V-Fault.Denot} g.V.TemplateValue.contents)
    (text_of c.args.syntax.now c.args.source.now) (tokens_of_template c.args.syntax.now c.args.source.now) c.new-parser.result.place c.parse.result
    c.new-parser.ensures.source c.new-parser.ensures.last c.new-parser.ensures.names c.new-parser.ensures.stream (c.parse.ensures.again OutOfMemory None)
    (template_ends c.args.syntax.now c.args.source.now) c.parse.ensures.placed

pub returns-clause-only : goal.returns-clause-only
returns-clause-only g c =
    begun_only (IsTemplateTree g.V.TemplateValue.functions) (stmt_tree {F = g.row.V-Fault.Denot} g.V.TemplateValue.contents)
    (text_of c.args.syntax.now c.args.source.now) (tokens_of_template c.args.syntax.now c.args.source.now) c.new-parser.result.place c.parse.result
    c.new-parser.ensures.source c.new-parser.ensures.last c.new-parser.ensures.names c.new-parser.ensures.stream (c.parse.ensures.again OutOfMemory None) c.parse.ensures.only

pub returns-clause-first : goal.returns-clause-first
returns-clause-first g c = λ short.
    begun_first (IsTemplateTree g.V.TemplateValue.functions) (stmt_tree {F = g.row.V-Fault.Denot} g.V.TemplateValue.contents)
    (text_of c.args.syntax.now c.args.source.now) (tokens_of_template c.args.syntax.now c.args.source.now) c.new-parser.result.place c.parse.result
    c.new-parser.ensures.source c.new-parser.ensures.last c.new-parser.ensures.names c.new-parser.ensures.stream (c.parse.ensures.again OutOfMemory None) c.parse.ensures.first

pub returns-clause-found : goal.returns-clause-found
returns-clause-found g c =
    begun_ok (IsTemplateTree g.V.TemplateValue.functions) (stmt_tree {F = g.row.V-Fault.Denot} g.V.TemplateValue.contents)
    (text_of c.args.syntax.now c.args.source.now) (tokens_of_template c.args.syntax.now c.args.source.now) c.new-parser.result.place c.parse.result
    c.new-parser.ensures.source c.new-parser.ensures.last c.new-parser.ensures.names c.new-parser.ensures.stream (c.parse.ensures.again OutOfMemory None) (λ p x. IsTemplateAt g.V.TemplateValue.functions g.V.TemplateValue.contents p x) c.parse.ensures.found

pub returns-clause-spans : goal.returns-clause-spans
returns-clause-spans g c =
    begun_ok (IsTemplateTree g.V.TemplateValue.functions) (stmt_tree {F = g.row.V-Fault.Denot} g.V.TemplateValue.contents)
    (text_of c.args.syntax.now c.args.source.now) (tokens_of_template c.args.syntax.now c.args.source.now) c.new-parser.result.place c.parse.result
    c.new-parser.ensures.source c.new-parser.ensures.last c.new-parser.ensures.names c.new-parser.ensures.stream (c.parse.ensures.again OutOfMemory None) (λ p x. StandsAt g.V.TemplateValue.contents p x) c.parse.ensures.spans

pub returns-clause-places : goal.returns-clause-places
returns-clause-places g c =
    begun_ok (IsTemplateTree g.V.TemplateValue.functions) (stmt_tree {F = g.row.V-Fault.Denot} g.V.TemplateValue.contents)
    (text_of c.args.syntax.now c.args.source.now) (tokens_of_template c.args.syntax.now c.args.source.now) c.new-parser.result.place c.parse.result
    c.new-parser.ensures.source c.new-parser.ensures.last c.new-parser.ensures.names c.new-parser.ensures.stream (c.parse.ensures.again OutOfMemory None) (λ p x. HasPlacesAt g.V.TemplateValue.functions g.V.TemplateValue.contents p x) c.parse.ensures.places
