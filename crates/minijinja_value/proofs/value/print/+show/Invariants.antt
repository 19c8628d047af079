use Rattle.std.proofs.Common.{take}
use Rattle.std.specs.Fmt.{HasWritten, IsPlainFormatter}
use Rattle.minijinja_value.specs.ValueWords.{joined, each_words, pair_words}
use Rattle.minijinja_value.specs.ValueViews.{items_view, pairs_view}
use Rattle.minijinja_value.proofs.value.print.+show.Given as goal

-- the words so far are written
abbrev pub invariant-show_items-loop-i : goal.invariant-show_items-loop-i
invariant-show_items-loop-i g l =
    IsPlainFormatter l.fn.f → HasWritten g.W.Write.write_str_gives l.fn.f (joined (each_words (items_view (take l.i l.item-items)))) l.f

abbrev pub invariant-show_pairs-loop-i : goal.invariant-show_pairs-loop-i
invariant-show_pairs-loop-i g l =
    IsPlainFormatter l.fn.f → HasWritten g.W.Write.write_str_gives l.fn.f (joined (pair_words (pairs_view (take l.i l.pair-items)))) l.f
