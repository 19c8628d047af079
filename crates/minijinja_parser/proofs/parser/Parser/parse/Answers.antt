use Rattle.std.proofs.Common.{◌∙◌, sym, ap, subst}
use Rattle.minijinja_tree.specs.SpannedErasure.{stmt_node}
use Rattle.minijinja_grammar.specs.Derived.{max_depth}
use Rattle.minijinja_grammar.specs.internal.TemplateForms.{template_at}
use Rattle.minijinja_grammar.specs.Derived.{IsTemplateTree}
use Rattle.minijinja_grammar.proofs.Derivations.{derived_template, one_template, template_derived, template_fits, template_formed, template_spanned}
use Rattle.minijinja_grammar.proofs.Trees.{template_stands}
use Rattle.minijinja_tree.specs.Erasure.{stmt_tree}
use Rattle.minijinja_tree.proofs.Bare.{stmt_is}
use Rattle.minijinja_parser.proofs.NoTokens.{empty_template, empty_derived}
use Rattle.minijinja_parser.proofs.Wholes.{whole_of, unrefused, refused_whole, memory_at, not_derived, answers, escapes, placed}
use Rattle.minijinja_parser.proofs.parser.Parser.parse.Goals as goal

-- a tree
pub returns-in-Ok-clause-found : goal.returns-in-Ok-clause-found
returns-in-Ok-clause-found g c =
    subst (IsTemplateTree g.V.TemplateValue.functions c.args.self.now.place) (stmt_is g.V.TemplateValue.contents c.in-Ok.template)
    (derived_template g.V.TemplateValue.functions c.args.self.now.place (stmt_node g.V.TemplateValue.contents c.in-Ok.template)
    (whole_of (template_at g.V.TemplateValue.functions max_depth) c.args.self.now.place c.whole_template.new.self.place (stmt_node g.V.TemplateValue.contents c.in-Ok.template) c.in-Ok.ensures.read.0 c.in-Ok.ensures.read.1))

pub returns-in-Ok-clause-only : goal.returns-in-Ok-clause-only
returns-in-Ok-clause-only g c = λ t d.
    one_template g.V.TemplateValue.functions c.args.self.now.place (stmt_tree g.V.TemplateValue.contents c.in-Ok.template) t
    (returns-in-Ok-clause-found g c) d

pub returns-in-Ok-clause-first : goal.returns-in-Ok-clause-first
returns-in-Ok-clause-first g c = λ kind span e h.
    unrefused (template_at g.V.TemplateValue.functions max_depth) c.args.self.now.place c.whole_template.new.self.place (stmt_node g.V.TemplateValue.contents c.in-Ok.template) kind span c.in-Ok.ensures.read.0 c.in-Ok.ensures.read.1 e

pub returns-in-Ok-clause-well_formed : goal.returns-in-Ok-clause-well_formed
returns-in-Ok-clause-well_formed g c =
    template_formed g.V.TemplateValue.functions c.args.self.now.place (stmt_tree g.V.TemplateValue.contents c.in-Ok.template) (returns-in-Ok-clause-found g c)

pub returns-in-Ok-clause-spans : goal.returns-in-Ok-clause-spans
returns-in-Ok-clause-spans g c =
    template_stands g.V.TemplateValue.functions c.args.self.now.place (stmt_node g.V.TemplateValue.contents c.in-Ok.template)
    (whole_of (template_at g.V.TemplateValue.functions max_depth) c.args.self.now.place c.whole_template.new.self.place (stmt_node g.V.TemplateValue.contents c.in-Ok.template) c.in-Ok.ensures.read.0 c.in-Ok.ensures.read.1)

pub returns-in-Ok-clause-places : goal.returns-in-Ok-clause-places
returns-in-Ok-clause-places g c =
    template_spanned g.V.TemplateValue.functions c.args.self.now.place (stmt_node g.V.TemplateValue.contents c.in-Ok.template)
    (whole_of (template_at g.V.TemplateValue.functions max_depth) c.args.self.now.place c.whole_template.new.self.place (stmt_node g.V.TemplateValue.contents c.in-Ok.template) c.in-Ok.ensures.read.0 c.in-Ok.ensures.read.1)

pub returns-in-Ok-clause-again : goal.returns-in-Ok-clause-again
returns-in-Ok-clause-again g c = λ kind span h. c.in_ok-unrefused.ensures.none kind span h

pub returns-in-Ok-clause-empty : goal.returns-in-Ok-clause-empty
returns-in-Ok-clause-empty g c = λ e.
    sym (stmt_is g.V.TemplateValue.contents c.in-Ok.template) ∙
    empty_template g.V.TemplateValue.functions max_depth c.args.self.now.place c.whole_template.new.self.place (stmt_node g.V.TemplateValue.contents c.in-Ok.template) (ap (λ s. s.tokens) e) c.in-Ok.ensures.read.0

-- a refusal
pub returns-in-Err-clause-refused : goal.returns-in-Err-clause-refused
returns-in-Err-clause-refused g c = λ fault t d.
    let v = template_derived g.V.TemplateValue.functions c.args.self.now.place t d in
    not_derived (template_at g.V.TemplateValue.functions max_depth) (stmt_node {F = g.row.V-Fault.Denot} g.V.TemplateValue.contents) c.args.self.now.place c.whole_template.new.self.place c.in-Err.refusal c.refuse.result v.0 c.in-Err.ensures.read c.refuse.ensures.is fault v.1

pub returns-in-Err-clause-only : goal.returns-in-Err-clause-only
returns-in-Err-clause-only g c = λ t d.
    let v = template_derived g.V.TemplateValue.functions c.args.self.now.place t d in
    memory_at c.whole_template.new.self.place c.in-Err.refusal c.refuse.result (refused_whole (template_at g.V.TemplateValue.functions max_depth) (stmt_node {F = g.row.V-Fault.Denot} g.V.TemplateValue.contents) c.args.self.now.place c.whole_template.new.self.place c.in-Err.refusal v.0 c.in-Err.ensures.read v.1) c.refuse.ensures.is

pub returns-in-Err-clause-bad_escape : goal.returns-in-Err-clause-bad_escape
returns-in-Err-clause-bad_escape g c = λ k.
    escapes (template_at g.V.TemplateValue.functions max_depth) (stmt_node {F = g.row.V-Fault.Denot} g.V.TemplateValue.contents) c.args.self.now.place c.whole_template.new.self.place c.in-Err.refusal c.refuse.result c.in-Err.ensures.read c.refuse.ensures.is k

pub returns-in-Err-clause-placed : goal.returns-in-Err-clause-placed
returns-in-Err-clause-placed g c =
    placed (template_at g.V.TemplateValue.functions max_depth) (stmt_node {F = g.row.V-Fault.Denot} g.V.TemplateValue.contents) c.args.self.now.place c.whole_template.new.self.place c.in-Err.refusal c.refuse.result c.in-Err.ensures.read c.refuse.ensures.is

pub returns-in-Err-clause-first : goal.returns-in-Err-clause-first
returns-in-Err-clause-first g c = λ kind span e h.
    answers (template_at g.V.TemplateValue.functions max_depth) (stmt_node {F = g.row.V-Fault.Denot} g.V.TemplateValue.contents) c.args.self.now.place c.whole_template.new.self.place c.in-Err.refusal c.refuse.result c.in-Err.ensures.read c.refuse.ensures.is kind span e
    (template_fits g.V.TemplateValue.functions c.args.self.now.place h)

pub returns-in-Err-clause-again : goal.returns-in-Err-clause-again
returns-in-Err-clause-again g c = λ kind span h. absurd (c.in_ok-unrefused.ensures.none kind span h)

pub returns-in-Err-clause-empty : goal.returns-in-Err-clause-empty
returns-in-Err-clause-empty g c = λ e.
    memory_at c.whole_template.new.self.place c.in-Err.refusal c.refuse.result (refused_whole (template_at g.V.TemplateValue.functions max_depth) (stmt_node {F = g.row.V-Fault.Denot} g.V.TemplateValue.contents) c.args.self.now.place c.whole_template.new.self.place c.in-Err.refusal _ c.in-Err.ensures.read
    (empty_derived g.V.TemplateValue.functions max_depth c.args.self.now.place (ap (λ s. s.tokens) e) (ap (λ s. s.ending) e))) c.refuse.ensures.is
