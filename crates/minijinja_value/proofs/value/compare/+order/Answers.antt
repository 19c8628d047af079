use Rattle.std.proofs.Common.{◌≡◌, length, sym, ap, ap₂, ◌∙◌, arith}
use Rattle.std.specs.Prelude.{Some}
use Rattle.std.specs.Ordering.{nat_cmp}
use Rattle.minijinja_value.proofs.Comparisons.{items_order-ends}
use Rattle.minijinja_value.proofs.value.compare.+order.Goals as goal

pub items_order-returns : goal.items_order-returns
items_order-returns t c =
    let l = c.loop-i in
    let m : c.len-3.result ≡ length c.args.items.now.items = omega arith in
    let n : c.len-4.result ≡ length c.args.others.now.items = omega arith in
    ap Some (c.cmp.ensures ∙ ap₂ nat_cmp m n) ∙ sym (items_order-ends c.args.items.now.items c.args.others.now.items l.i (omega arith)) ∙ l.invariant
