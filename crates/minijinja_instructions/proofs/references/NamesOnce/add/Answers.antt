use Rattle.std.proofs.Common.{map, sym, ap, ◌∙◌, subst}
use Rattle.std.specs.Prelude.{◌++◌, ◌∷◌, []}
use Rattle.std.proofs.lemmas.List.{map-append}
use Rattle.minijinja_instructions.specs.private.NamesOnce.{IsSetOf}
use Rattle.minijinja_instructions.proofs.EachOnce.{set-more}
use Rattle.minijinja_instructions.proofs.references.NamesOnce.add.Goals as goal

pub invariant_of-self-then-branch : goal.invariant_of-self-then-branch
invariant_of-self-then-branch c =
    let old = c.args.self.now in
    let items = c.push_reserved.ensures.items ∙ ap (λ l. l ++ c.in-Some.name ∷ []) c.in_ok-reserve.ensures.items in
    let shown = ap (map (λ x. x.now)) items ∙ map-append (λ x. x.now) old.in_order.items (c.in-Some.name ∷ []) in
    let more = set-more (map (λ x. x.now) old.in_order.items) old.seen c.insert.new.self c.in-Some.name old.same c.in_ok-insert.ensures.updates in
    record { same = subst (λ l. IsSetOf l c.insert.new.self) (sym shown) more }
