use Rattle.std.proofs.Common.{rules, arith, ◌≡◌, ◌+◌, ◌++◌, take, map, refl, true, ap, sym, ◌∙◌, append_assoc}
use Rattle.std.specs.Prelude.{codes}
use Rattle.std.specs.Fmt.{HasWritten}
use Rattle.std.proofs.Output.{has_written_append, has_written_of_eq}
use Rattle.minijinja_value.specs.ValueContents.{Contents, Pairs, tuple, mapping, keywords}
use Rattle.minijinja_value.specs.ValueWords.{words, joined, each_words, pair_words}
use Rattle.minijinja_value.specs.ValueViews.{contents_of, contents_step, map_step, items_view, pairs_view}
use Rattle.minijinja_value.specs.declared.value.Value.TheFolds.{fold-roll-Value, fold_out-Value}
use Rattle.minijinja_value.specs.declared.value.Value.TheViews.{the_lemmas}
use Rattle.minijinja_value.specs.declared.value.ValueMap.{out-ValueMap}
use Rattle.minijinja_value.proofs.MapViews.{map_view-out}
use Rattle.minijinja_value.proofs.Printing.{value_text, pair_text, each_words-view, pair_words-view, joined-later, joined-first, tuple_words-one, tuple_words-other}
use Rattle.minijinja_value.proofs.value.print.+show.Goals as goal
use Rattle.minijinja_value.proofs.value.print.+show.Goals.{show-then-len-eq1, show-else-len-eq1, show_items-then-i-gt0+in_ok-write_str, show_items-else-i-gt0, show_pairs-then-i-gt0+in_ok-write_str, show_pairs-else-i-gt0}

pub show-returns-in_ok-show_pairs-in-Map : goal.show-returns-in_ok-show_pairs-in-Map
show-returns-in_ok-show_pairs-in-Map g t c =
    let seen : mapping (pairs_view (out-ValueMap c.in-Map.map).pairs.items) ≡ contents_of c.args.value.now = ap mapping (sym (map_view-out c.in-Map.map)) ∙ search (rules, the_lemmas, fold-roll-Value Contents Pairs contents_step map_step, fold_out-Value Contents Pairs contents_step map_step) in
    λ p ok.
    let front = c.in_ok-write_str-in-Map.ensures.writes p (refl {a = true}) in
    let inner = c.in_ok-show_pairs-in-Map.ensures front.plain (refl {a = true}) in
    has_written_of_eq _ _ _ _ _ (ap words seen) (has_written_append _ _ _ _ _ _ front (has_written_append _ _ _ _ _ _ inner (c.write_str-in-Map-2.ensures.writes inner.plain ok)))

pub show-returns-in_ok-show_pairs-in-Kwargs : goal.show-returns-in_ok-show_pairs-in-Kwargs
show-returns-in_ok-show_pairs-in-Kwargs g t c =
    let seen : keywords (pairs_view (out-ValueMap c.in-Kwargs.map).pairs.items) ≡ contents_of c.args.value.now = ap keywords (sym (map_view-out c.in-Kwargs.map)) ∙ search (rules, the_lemmas, fold-roll-Value Contents Pairs contents_step map_step, fold_out-Value Contents Pairs contents_step map_step) in
    λ p ok.
    let front = c.in_ok-write_str-in-Kwargs.ensures.writes p (refl {a = true}) in
    let inner = c.in_ok-show_pairs-in-Kwargs.ensures front.plain (refl {a = true}) in
    has_written_of_eq _ _ _ _ _ (ap words seen) (has_written_append _ _ _ _ _ _ front (has_written_append _ _ _ _ _ _ inner (c.write_str-in-Kwargs-2.ensures.writes inner.plain ok)))

pub show-returns-after-len-eq1 : goal.show-returns-after-len-eq1
show-returns-after-len-eq1 g t c =
    let xs = c.in-Tuple.items.items in
    let seen : tuple (items_view xs) ≡ contents_of c.args.value.now = search (rules, the_lemmas, fold-roll-Value Contents Pairs contents_step map_step, fold_out-Value Contents Pairs contents_step map_step) in
    let bytes : codes "(" ++ (joined (each_words (items_view xs)) ++ c.if-len-eq1.write_str.now) ≡ words (contents_of c.args.value.now) = elim c.if-len-eq1.branch [
      | show-then-len-eq1 w ↦ rw w.write_str-is (tuple_words-one xs (omega (arith, w.if-len-eq1.true)) ∙ ap words seen)
      | show-else-len-eq1 w ↦ rw w.write_str-is (tuple_words-other xs (λ e. w.if-len-eq1.false (omega (arith, e))) ∙ ap words seen)
    ] in
    λ p ok.
    let front = c.in_ok-write_str-in-Tuple.ensures.writes p (refl {a = true}) in
    let inner = c.in_ok-show_items-in-Tuple.ensures front.plain (refl {a = true}) in
    has_written_of_eq _ _ _ _ _ bytes (has_written_append _ _ _ _ _ _ front (has_written_append _ _ _ _ _ _ inner (c.write_str-in-Tuple-2.ensures.writes inner.plain ok)))

pub show_items-loop-i-preserved : goal.show_items-loop-i-preserved
show_items-loop-i-preserved g t c =
    let xs = c.deref-item-items.result.now in
    let i = c.loop-i.i in
    let x = c.item-item.result in
    let so_far : joined (each_words (items_view (take i xs))) ≡ joined (map value_text (take i xs)) = ap joined (each_words-view (take i xs)) in
    let after : joined (map value_text (take (i + 1) xs)) ≡ joined (each_words (items_view (take (i + 1) xs))) = ap joined (sym (each_words-view (take (i + 1) xs))) in
    λ p.
    let front = has_written_of_eq _ _ _ _ _ so_far (c.loop-i.invariant p) in
    elim c.if-i-gt0.branch [
      | show_items-then-i-gt0+in_ok-write_str w ↦
          let comma = w.in_ok-write_str.ensures.writes front.plain (refl {a = true}) in
          let both = has_written_append _ _ _ _ _ _ front comma in
          let so : HasWritten g.W.Write.write_str_gives c.args.f.now (joined (map value_text (take i xs)) ++ codes ", ") c.if-i-gt0.f = rw w.f-is both in
          let last = c.in_ok-show.ensures so.plain (refl {a = true}) in
          has_written_of_eq _ _ _ _ _ (joined-later value_text xs i x c.loop-i-test.true c.item-item.is w.if-i-gt0.true ∙ after) (has_written_append _ _ _ _ _ _ so last)
      | show_items-else-i-gt0 w ↦
          let so : HasWritten g.W.Write.write_str_gives c.args.f.now (joined (map value_text (take i xs))) c.if-i-gt0.f = rw w.f-is front in
          let last = c.in_ok-show.ensures so.plain (refl {a = true}) in
          has_written_of_eq _ _ _ _ _ (joined-first value_text xs i x c.loop-i-test.true c.item-item.is (omega (arith, w.if-i-gt0.false)) ∙ after) (has_written_append _ _ _ _ _ _ so last)
    ]

pub show_pairs-loop-i-preserved : goal.show_pairs-loop-i-preserved
show_pairs-loop-i-preserved g t c =
    let ps = c.deref-pair-items.result.now in
    let i = c.loop-i.i in
    let p = c.pair-item.result in
    let so_far : joined (pair_words (pairs_view (take i ps))) ≡ joined (map pair_text (take i ps)) = ap joined (pair_words-view (take i ps)) in
    let after : joined (map pair_text (take (i + 1) ps)) ≡ joined (pair_words (pairs_view (take (i + 1) ps))) = ap joined (sym (pair_words-view (take (i + 1) ps))) in
    let parts : value_text p.0 ++ (codes ": " ++ value_text p.1) ≡ pair_text p = sym (append_assoc (value_text p.0) (codes ": ") (value_text p.1)) in
    λ plain.
    let front = has_written_of_eq _ _ _ _ _ so_far (c.loop-i.invariant plain) in
    elim c.if-i-gt0.branch [
      | show_pairs-then-i-gt0+in_ok-write_str w ↦
          let comma = w.in_ok-write_str.ensures.writes front.plain (refl {a = true}) in
          let both = has_written_append _ _ _ _ _ _ front comma in
          let so : HasWritten g.W.Write.write_str_gives c.args.f.now (joined (map pair_text (take i ps)) ++ codes ", ") c.if-i-gt0.f = rw w.f-is both in
          let key = c.in_ok-show.ensures so.plain (refl {a = true}) in
          let colon = c.in_ok-write_str-2.ensures.writes key.plain (refl {a = true}) in
          let value = c.in_ok-show-2.ensures colon.plain (refl {a = true}) in
          let whole = has_written_of_eq _ _ _ _ _ parts (has_written_append _ _ _ _ _ _ key (has_written_append _ _ _ _ _ _ colon value)) in
          has_written_of_eq _ _ _ _ _ (joined-later pair_text ps i p c.loop-i-test.true c.pair-item.is w.if-i-gt0.true ∙ after) (has_written_append _ _ _ _ _ _ so whole)
      | show_pairs-else-i-gt0 w ↦
          let so : HasWritten g.W.Write.write_str_gives c.args.f.now (joined (map pair_text (take i ps))) c.if-i-gt0.f = rw w.f-is front in
          let key = c.in_ok-show.ensures so.plain (refl {a = true}) in
          let colon = c.in_ok-write_str-2.ensures.writes key.plain (refl {a = true}) in
          let value = c.in_ok-show-2.ensures colon.plain (refl {a = true}) in
          let whole = has_written_of_eq _ _ _ _ _ parts (has_written_append _ _ _ _ _ _ key (has_written_append _ _ _ _ _ _ colon value)) in
          has_written_of_eq _ _ _ _ _ (joined-first pair_text ps i p c.loop-i-test.true c.pair-item.is (omega (arith, w.if-i-gt0.false)) ∙ after) (has_written_append _ _ _ _ _ _ so whole)
    ]
