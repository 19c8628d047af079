use Rattle.std.proofs.Common.{rules}
use Rattle.std.proofs.lemmas.List.Sorted.{IsNonDecreasingBy-from_sort_by_key, answers_always}
use Rattle.minijinja_lint.proofs.Sorting.{by-start}
use Rattle.minijinja_lint.proofs.lint.sort_by_start.Goals as goal

pub returns : goal.returns
returns c =
    by-start _ _ (IsNonDecreasingBy-from_sort_by_key (λ d. d.1.start_offset) _ c.in_ok-sort_by_key.ensures.sorted (λ a r q k. search rules))
    (c.sort_by_key.ensures.stable (λ d. d.1.start_offset) (answers_always _ _ _ (λ f a r g h. search rules)))
