-- The end of the arguments of a call that takes a macro along.
use Rattle.std.proofs.Common.{◌≡◌, ℕ, zero, suc, ◌+◌, refl, ap, ◌∙◌, add-one}
use Rattle.minijinja_tree.specs.Tree.{Args}
use Rattle.minijinja_semantics.specs.Layout.{Count, map_count, merged, spreading, counted}
use Rattle.minijinja_code_expr.specs.declared.arguments.Counts.{Counts}
use Rattle.minijinja_code_expr.specs.internal.Callers.{AreCounts, arguments_end, end_count}
use Rattle.minijinja_emitter.specs.internal.Making.{Made, Adds}
use Rattle.minijinja_emitter.proofs.Adding.{adds_as, adds_then}

-- with the macro there is a map
one_map : (b n : ℕ) → map_count b (suc n) ≡ 1
unfolding map_count
one_map zero n = refl
one_map (suc b) n = refl

module _ {C : Type 0} (args : Args C) (front : ℕ) (cs : Counts) (are : AreCounts args front cs) (maps : ℕ) (is : maps ≡ map_count cs.keyword.batches cs.keyword.waiting) where
  with_map : maps ≡ 1
  with_map = is ∙ ap (λ (k : Count). map_count k.batches k.waiting) are.keyword ∙ one_map _ _

  pub one_more : cs.positional.waiting + maps ≡ suc cs.positional.waiting
  one_more = ap (λ n. cs.positional.waiting + n) with_map ∙ add-one cs.positional.waiting

  pub counted_end : counted cs.positional.batches (cs.positional.waiting + maps) ≡ end_count args front
  counted_end = ap (λ n. counted cs.positional.batches n) one_more ∙ ap (λ (k : Count). counted k.batches (suc k.waiting)) are.positional

  pub end_added : {a b c : Made C} → Adds a b (merged cs.keyword.batches cs.keyword.waiting) → Adds b c (spreading cs.positional.batches (cs.positional.waiting + maps)) → Adds a c (arguments_end args front)
  end_added s t =
      adds_then (adds_as (ap (λ (k : Count). merged k.batches k.waiting) are.keyword) s)
      (adds_as (ap (λ n. spreading cs.positional.batches n) one_more ∙ ap (λ (k : Count). spreading k.batches (suc k.waiting)) are.positional) t)
