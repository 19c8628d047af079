use Rattle.std.proofs.Common.{◌≡◌, Bool, true, false, List, drop, ◌+◌, sym, ap, ◌∙◌, arith}
use Rattle.std.specs.Prelude.{◌&&◌}
use Rattle.std.proofs.lemmas.List.{drop_all}
use Rattle.minijinja_value.specs.ValueComparison.{equals, has_pair, are_pairs_in}
use Rattle.minijinja_value.specs.ValueViews.{contents_of, pairs_view}
use Rattle.minijinja_value.specs.declared.value.Value.{Value}
use Rattle.minijinja_value.proofs.Comparisons.{items_equal-lengths, pairs_differ, pairs_decide, pairs_in-step, has_pair-end, has_pair-found}
use Rattle.minijinja_value.proofs.value.compare.+equals.Goals as goal

pub items_equal-returns-then-len : goal.items_equal-returns-then-len
items_equal-returns-then-len t c = items_equal-lengths c.args.items.now.items c.args.others.now.items (λ e. omega (arith, e))

pub pairs_equal-returns-then-len : goal.pairs_equal-returns-then-len
pairs_equal-returns-then-len t c = pairs_differ c.args.pairs.now.items c.args.others.now.items _ (λ e. omega (arith, e))

pub pairs_equal-pairs-preserved : goal.pairs_equal-pairs-preserved
pairs_equal-pairs-preserved t c =
    let ps = c.deref-key-items.result.now in
    let qs = c.deref-other_key-items.result.now in
    let p = c.pairs-item.result in
    let is_key = equals (contents_of p.0) in
    let is_value = equals (contents_of p.1) in
    let found : has_pair is_key is_value (pairs_view qs) ≡ true =
    sym c.loop-other_key.invariant ∙ has_pair-found is_key is_value qs c.loop-other_key.other_key-index c.loop-other_key-item.result c.loop-other_key-test.true c.loop-other_key-item.is (sym c.if-equals.ensures) (sym c.if-equals-2.ensures)
    in
    let same : has_pair is_key is_value (pairs_view c.args.others.now.items) ≡ true = rw c.deref-other_key-items.ensures.value at found in
    sym (pairs_in-step ps (pairs_view c.args.others.now.items) c.pairs.key-index p c.pairs-test.true c.pairs-item.is ∙ ap (λ (b : Bool). b && are_pairs_in (pairs_view (drop (c.pairs.key-index + 1) ps)) (pairs_view c.args.others.now.items)) same)
    ∙ c.pairs.invariant

pub pairs_equal-returns-in-pairs : goal.pairs_equal-returns-in-pairs
pairs_equal-returns-in-pairs t c =
    let ps = c.deref-key-items.result.now in
    let qs = c.deref-other_key-items.result.now in
    let p = c.pairs-item.result in
    let is_key = equals (contents_of p.0) in
    let is_value = equals (contents_of p.1) in
    let missed : has_pair is_key is_value (pairs_view qs) ≡ false =
    sym c.loop-other_key.invariant ∙ has_pair-end is_key is_value qs c.loop-other_key.other_key-index c.loop-other_key-test.false
    in
    let same : has_pair is_key is_value (pairs_view c.args.others.now.items) ≡ false = rw c.deref-other_key-items.ensures.value at missed in
    let left : false ≡ are_pairs_in (pairs_view ps) (pairs_view c.args.others.now.items) =
    sym (pairs_in-step ps (pairs_view c.args.others.now.items) c.pairs.key-index p c.pairs-test.true c.pairs-item.is ∙ ap (λ (b : Bool). b && are_pairs_in (pairs_view (drop (c.pairs.key-index + 1) ps)) (pairs_view c.args.others.now.items)) same)
    ∙ c.pairs.invariant
    in
    pairs_decide c.args.pairs.now.items c.args.others.now.items false (omega arith) (rw c.deref-key-items.ensures.value at left)

pub pairs_equal-returns : goal.pairs_equal-returns
pairs_equal-returns t c =
    let ps = c.deref-key-items.result.now in
    let left : true ≡ are_pairs_in (pairs_view ps) (pairs_view c.args.others.now.items) =
    sym (ap (λ (l : List (Value × Value)). are_pairs_in (pairs_view l) (pairs_view c.args.others.now.items)) (drop_all c.pairs.key-index ps c.pairs-test.false)) ∙ c.pairs.invariant
    in
    pairs_decide c.args.pairs.now.items c.args.others.now.items true (omega arith) (rw c.deref-key-items.ensures.value at left)
