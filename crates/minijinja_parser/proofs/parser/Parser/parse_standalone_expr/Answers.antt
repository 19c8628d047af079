use Rattle.std.proofs.Common.{ap, subst}
use Rattle.minijinja_tree.specs.SpannedErasure.{expr_node}
use Rattle.minijinja_grammar.specs.internal.ExprForms.{expr_at}
use Rattle.minijinja_grammar.specs.Derived.{max_depth}
use Rattle.minijinja_grammar.specs.Derived.{IsExprTree}
use Rattle.minijinja_grammar.proofs.Derivations.{derived_expr, expr_derived, expr_fits, expr_spanned, expr_whole, one_expr}
use Rattle.minijinja_grammar.proofs.Trees.{expression_stands}
use Rattle.minijinja_tree.specs.Erasure.{expr_tree}
use Rattle.minijinja_tree_expr.proofs.Bare.{expr_is}
use Rattle.minijinja_parser.proofs.NoTokens.{no_expr}
use Rattle.minijinja_parser.proofs.Wholes.{whole_of, unrefused, refused_whole, memory_at, not_derived, answers, escapes, placed, at_fault}
use Rattle.minijinja_parser.proofs.parser.Parser.parse_standalone_expr.Goals as goal

-- a tree
pub returns-in-Ok-clause-found : goal.returns-in-Ok-clause-found
returns-in-Ok-clause-found g c =
    subst (IsExprTree g.V.TemplateValue.functions c.args.self.now.place) (expr_is g.V.TemplateValue.contents c.in-Ok.expr)
    (derived_expr g.V.TemplateValue.functions c.args.self.now.place (expr_node g.V.TemplateValue.contents c.in-Ok.expr)
    (whole_of (expr_at g.V.TemplateValue.functions max_depth) c.args.self.now.place c.whole_expr.new.self.place (expr_node g.V.TemplateValue.contents c.in-Ok.expr) c.in-Ok.ensures.read.0 c.in-Ok.ensures.read.1))

pub returns-in-Ok-clause-only : goal.returns-in-Ok-clause-only
returns-in-Ok-clause-only g c = λ t d.
    one_expr g.V.TemplateValue.functions c.args.self.now.place (expr_tree g.V.TemplateValue.contents c.in-Ok.expr) t
    (returns-in-Ok-clause-found g c) d

pub returns-in-Ok-clause-first : goal.returns-in-Ok-clause-first
returns-in-Ok-clause-first g c = λ kind span e h.
    unrefused (expr_at g.V.TemplateValue.functions max_depth) c.args.self.now.place c.whole_expr.new.self.place (expr_node g.V.TemplateValue.contents c.in-Ok.expr) kind span c.in-Ok.ensures.read.0 c.in-Ok.ensures.read.1 e

pub returns-in-Ok-clause-well_formed : goal.returns-in-Ok-clause-well_formed
returns-in-Ok-clause-well_formed g c =
    expr_whole g.V.TemplateValue.functions c.args.self.now.place (expr_tree g.V.TemplateValue.contents c.in-Ok.expr) (returns-in-Ok-clause-found g c)

pub returns-in-Ok-clause-spans : goal.returns-in-Ok-clause-spans
returns-in-Ok-clause-spans g c =
    expression_stands g.V.TemplateValue.functions c.args.self.now.place (expr_node g.V.TemplateValue.contents c.in-Ok.expr)
    (whole_of (expr_at g.V.TemplateValue.functions max_depth) c.args.self.now.place c.whole_expr.new.self.place (expr_node g.V.TemplateValue.contents c.in-Ok.expr) c.in-Ok.ensures.read.0 c.in-Ok.ensures.read.1)

pub returns-in-Ok-clause-places : goal.returns-in-Ok-clause-places
returns-in-Ok-clause-places g c =
    expr_spanned g.V.TemplateValue.functions c.args.self.now.place (expr_node g.V.TemplateValue.contents c.in-Ok.expr)
    (whole_of (expr_at g.V.TemplateValue.functions max_depth) c.args.self.now.place c.whole_expr.new.self.place (expr_node g.V.TemplateValue.contents c.in-Ok.expr) c.in-Ok.ensures.read.0 c.in-Ok.ensures.read.1)

pub returns-in-Ok-clause-again : goal.returns-in-Ok-clause-again
returns-in-Ok-clause-again g c = λ kind span h. c.in_ok-unrefused.ensures.none kind span h

pub returns-in-Ok-clause-nothing : goal.returns-in-Ok-clause-nothing
returns-in-Ok-clause-nothing g c = λ e.
    no_expr g.V.TemplateValue.functions max_depth c.args.self.now.place c.whole_expr.new.self.place (expr_node g.V.TemplateValue.contents c.in-Ok.expr) (ap (λ s. s.tokens) e) c.in-Ok.ensures.read.0

-- a refusal
pub returns-in-Err-clause-refused : goal.returns-in-Err-clause-refused
returns-in-Err-clause-refused g c = λ fault t d.
    let v = expr_derived g.V.TemplateValue.functions c.args.self.now.place t d in
    not_derived (expr_at g.V.TemplateValue.functions max_depth) (expr_node {F = g.row.V-Fault.Denot} g.V.TemplateValue.contents) c.args.self.now.place c.whole_expr.new.self.place c.in-Err.refusal c.refuse.result v.0 c.in-Err.ensures.read c.refuse.ensures.is fault v.1

pub returns-in-Err-clause-only : goal.returns-in-Err-clause-only
returns-in-Err-clause-only g c = λ t d.
    let v = expr_derived g.V.TemplateValue.functions c.args.self.now.place t d in
    memory_at c.whole_expr.new.self.place c.in-Err.refusal c.refuse.result (refused_whole (expr_at g.V.TemplateValue.functions max_depth) (expr_node {F = g.row.V-Fault.Denot} g.V.TemplateValue.contents) c.args.self.now.place c.whole_expr.new.self.place c.in-Err.refusal v.0 c.in-Err.ensures.read v.1) c.refuse.ensures.is

pub returns-in-Err-clause-bad_escape : goal.returns-in-Err-clause-bad_escape
returns-in-Err-clause-bad_escape g c = λ k.
    escapes (expr_at g.V.TemplateValue.functions max_depth) (expr_node {F = g.row.V-Fault.Denot} g.V.TemplateValue.contents) c.args.self.now.place c.whole_expr.new.self.place c.in-Err.refusal c.refuse.result c.in-Err.ensures.read c.refuse.ensures.is k

pub returns-in-Err-clause-placed : goal.returns-in-Err-clause-placed
returns-in-Err-clause-placed g c =
    placed (expr_at g.V.TemplateValue.functions max_depth) (expr_node {F = g.row.V-Fault.Denot} g.V.TemplateValue.contents) c.args.self.now.place c.whole_expr.new.self.place c.in-Err.refusal c.refuse.result c.in-Err.ensures.read c.refuse.ensures.is

pub returns-in-Err-clause-first : goal.returns-in-Err-clause-first
returns-in-Err-clause-first g c = λ kind span e h.
    answers (expr_at g.V.TemplateValue.functions max_depth) (expr_node {F = g.row.V-Fault.Denot} g.V.TemplateValue.contents) c.args.self.now.place c.whole_expr.new.self.place c.in-Err.refusal c.refuse.result c.in-Err.ensures.read c.refuse.ensures.is kind span e
    (expr_fits g.V.TemplateValue.functions c.args.self.now.place h)

pub returns-in-Err-clause-again : goal.returns-in-Err-clause-again
returns-in-Err-clause-again g c = λ kind span h. absurd (c.in_ok-unrefused.ensures.none kind span h)

pub returns-in-Err-clause-nothing : goal.returns-in-Err-clause-nothing
returns-in-Err-clause-nothing g c = λ e.
    at_fault (expr_at g.V.TemplateValue.functions max_depth) (expr_node {F = g.row.V-Fault.Denot} g.V.TemplateValue.contents) c.args.self.now.place c.whole_expr.new.self.place c.in-Err.refusal c.refuse.result c.in-Err.ensures.read c.refuse.ensures.is (ap (λ s. s.ending) e)
