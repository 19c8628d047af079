use Rattle.std.proofs.Common.{◌≡◌, true, false, get_or, ap, sym, ◌∙◌}
use Rattle.std.proofs.lemmas.List.{append-nil}
use Rattle.minijinja_meta.specs.Mentions.{is_among}
use Rattle.minijinja_meta.specs.Occurrences.{found_of}
use Rattle.minijinja_lint.specs.Findings.{mentioned}
use Rattle.minijinja_lint.proofs.Sorting.{starter}
use Rattle.minijinja_lint.proofs.Unused.{unused-step}
use Rattle.minijinja_lint.proofs.lint.unused_macros.Goals as goal
use Rattle.minijinja_lint.proofs.lint.unused_macros.Goals.{then-not-contains+in_ok-push, else-not-contains}

pub loop-name-preserved : goal.loop-name-preserved
loop-name-preserved g c =
    let os = found_of g.V.TemplateValue.contents c.args.found.now in
    let ds = c.args.macros.now in
    let old = c.loop-name.unused.items in
    let new = c.if-not-contains.unused.items in
    let i = c.loop-name.name-index in
    let d = starter 0 in
    let is : is_among (get_or ds i d).0.now (mentioned os) ≡ c.contains.result = sym (c.contains.ensures ∙ c.in_ok-mentioned.ensures (get_or ds i d).0.now) in
    elim c.if-not-contains.branch [
      | then-not-contains+in_ok-push w ↦
          unused-step os ds old w.push.new.self.items new i d false c.loop-name-test.true (is ∙ w.if-not-contains.true) w.in_ok-push.ensures.items (ap (λ v. v.items) w.unused-is) c.loop-name.invariant
      | else-not-contains w ↦
          unused-step os ds old old new i d true c.loop-name-test.true (is ∙ w.if-not-contains.false) (sym (append-nil old)) (ap (λ v. v.items) w.unused-is) c.loop-name.invariant
    ]
