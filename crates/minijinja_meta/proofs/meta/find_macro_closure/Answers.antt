use Rattle.std.proofs.Common.{ap, ◌∙◌, refl, subst, true}
use Rattle.minijinja_tree.specs.SpannedErasure.{trees}
use Rattle.minijinja_meta.specs.Mentions.{free_of, in_order, names_of, through_stmts, to_parameters}
use Rattle.minijinja_meta.specs.Occurrences.{found_of}
use Rattle.minijinja_meta.specs.private.Walked.{Walks}
use Rattle.minijinja_meta.proofs.Finding.{closure-is, names-are}
use Rattle.minijinja_meta.proofs.StatementNodes.{body_of}
use Rattle.minijinja_meta.proofs.Walking.{walks-on}
use Rattle.minijinja_meta.proofs.meta.find_macro_closure.Goals as goal

pub returns-clause-closure : goal.returns-clause-closure
returns-clause-closure g c =
    let v = g.V.TemplateValue.contents in
    let m = c.args.declared.now in
    let s = c.new-walker.result in
    let t = c.statements.new.walker in
    let heads = to_parameters (trees v m.args.items) (trees v m.defaults.items) in
    let body = through_stmts (body_of v m.body.items) in
    let second : Walks v c.parameters.new.walker t body = subst (λ xs. Walks v c.parameters.new.walker t (through_stmts (body_of v xs))) c.deref.ensures.value c.in_ok-statements.ensures in
    let walked = walks-on v s c.parameters.new.walker t heads body c.in_ok-parameters.ensures second in
    c.in_ok-plain_names.ensures ∙ ap (λ os. in_order (names_of (free_of (found_of v os)))) c.deref-2.ensures.value
    ∙ names-are v s t true c.new-walker.ensures (λ w. heads (body w)) walked refl ∙ closure-is v m
