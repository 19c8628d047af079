use Rattle.std.proofs.Common.{List, Bor, map, sym, ap, ◌∙◌}
use Rattle.minijinja_syntax.specs.Texts.{Text}
use Rattle.minijinja_semantics.specs.Pieces.{noted}
use Rattle.minijinja_emitter.proofs.FoundNames.{found_noted}
use Rattle.minijinja_emitter.proofs.names.Names.id.Goals as goal

pub returns-then-eq-clause-noted : goal.returns-then-eq-clause-noted
returns-then-eq-clause-noted c =
    let texts = λ (xs : List (Bor Text)). map (λ x. x.now) xs in
    let is = c.deref-known-items.ensures.value in
    ap texts (sym is) ∙ found_noted c.deref-known-items.result.now c.loop-i.i c.args.name.now _ c.loop-i-test.true (sym c.eq.ensures ∙ c.if-eq.true) c.loop-i.invariant.noted ∙ ap (λ xs. noted c.args.name.now (texts xs)) is
