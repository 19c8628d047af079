use Rattle.std.proofs.Common.{◌≡◌, ap, map, subst, ◌∙◌}
use Rattle.minijinja_tree.specs.SpannedErasure.{stmt_node}
use Rattle.minijinja_meta.specs.Mentions.{free_of, way}
use Rattle.minijinja_meta.specs.Occurrences.{found_of, macros_of}
use Rattle.minijinja_lint.specs.Findings.{IsByStart, remark_of, remarks_of, spans_of, unused_macros}
use Rattle.minijinja_lint.specs.private.First.{first_of}
use Rattle.minijinja_lint.proofs.Collected.{are-findings}
use Rattle.minijinja_lint.proofs.lint.lint.Goals as goal

pub returns-clause-findings : goal.returns-clause-findings
returns-clause-findings g c =
    let v = g.V.TemplateValue.contents in
    let w = way (stmt_node v c.args.template.now) in
    let all = c.in_ok-occurrences.occurrences in
    let os = found_of v all.found.items in
    let ds = macros_of all.macros.items in
    let first = c.in_ok-first.first in
    let sorted = macros_of c.sort_by_start.new.macros.items in
    let kept : macros_of c.in_ok-unused.unused.items ≡ unused_macros os ds =
    subst (λ found. macros_of c.in_ok-unused.unused.items ≡ unused_macros (found_of v found) ds) c.deref-2.ensures.value
    (subst (λ macros. macros_of c.in_ok-unused.unused.items ≡ unused_macros (found_of v c.deref-2.result.now) (macros_of macros)) c.deref-3.ensures.value c.in_ok-unused.ensures) in
    let are : map remark_of c.in_ok-findings.field-0.items ≡ remarks_of (macros_of first.entries) sorted =
    subst (λ macros. map remark_of c.in_ok-findings.field-0.items ≡ remarks_of (macros_of first.entries) (macros_of macros)) c.deref-4.ensures.value c.in_ok-findings.ensures in
    are-findings w os ds c.in_ok-occurrences.ensures.found c.in_ok-occurrences.ensures.macros first c.in_ok-first.ensures.ordered
    (λ x. c.in_ok-first.ensures.first x ∙ ap (λ found. first_of (spans_of x (free_of (found_of v found)))) c.deref.ensures.value) sorted
    (subst (λ macros. IsByStart macros sorted) kept c.in_ok-sort_by_start.ensures) (map remark_of c.in_ok-findings.field-0.items) are
