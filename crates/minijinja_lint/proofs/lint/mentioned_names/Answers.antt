use Rattle.std.proofs.Common.{subst, sym, take}
use Rattle.minijinja_meta.specs.Occurrences.{found_of}
use Rattle.minijinja_lint.specs.Findings.{mentioned}
use Rattle.minijinja_lint.specs.private.First.{AreNames}
use Rattle.minijinja_lint.proofs.Unused.{mentioned-more, put-name}
use Rattle.minijinja_lint.proofs.lint.mentioned_names.Goals as goal

pub loop-occurrence-preserved : goal.loop-occurrence-preserved
loop-occurrence-preserved g c =
    let found = c.args.found.now in
    let i = c.loop-occurrence.occurrence-index in
    let o = c.occurrence-item.result in
    subst (λ xs. AreNames xs c.insert.new.self) (sym (mentioned-more g.V.TemplateValue.contents found i o c.loop-occurrence-test.true c.occurrence-item.is))
    (put-name c.loop-occurrence.names c.insert.new.self o.name (mentioned (found_of g.V.TemplateValue.contents (take i found))) c.in_ok-insert.ensures.updates c.loop-occurrence.invariant)
