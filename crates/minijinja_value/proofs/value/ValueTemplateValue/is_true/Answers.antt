use Rattle.std.proofs.Common.{rules, ◌≡◌, ℕ, length, ap, ◌∙◌, arith, inl, inr}
use Rattle.std.specs.Prelude.{not, ◌==◌}
use Rattle.minijinja_value.proofs.Emptiness.{is_true-list, is_true-tuple, is_true-mapping, is_true-keywords}
use Rattle.minijinja_value.specs.ValueFunctions.{is_true}
use Rattle.minijinja_value.specs.ValueViews.{contents_of, contents_step, map_step, items_view, map_view}
use Rattle.minijinja_value.specs.ValueContents.{Contents, Pairs, list, tuple, mapping, keywords}
use Rattle.minijinja_value.specs.declared.value.Value.TheViews.{the_lemmas}
use Rattle.minijinja_value.specs.declared.value.Value.TheFolds.{fold-roll-Value, fold_out-Value}
use Rattle.minijinja_value.proofs.value.ValueTemplateValue.is_true.Goals as goal

pub returns-in-Map : goal.returns-in-Map
returns-in-Map c =
    let ps = map_view c.in-Map.map in
    elim c.in-Map.is [
      | inl e ↦ let seen : mapping ps ≡ contents_of c.args.self.now = search (rules, the_lemmas, fold-roll-Value Contents Pairs contents_step map_step, fold_out-Value Contents Pairs contents_step map_step) in is_true-mapping ps c.is_empty-in-Map.result c.is_empty-in-Map.ensures ∙ ap is_true seen
      | inr e ↦ let seen : keywords ps ≡ contents_of c.args.self.now = search (rules, the_lemmas, fold-roll-Value Contents Pairs contents_step map_step, fold_out-Value Contents Pairs contents_step map_step) in is_true-keywords ps c.is_empty-in-Map.result c.is_empty-in-Map.ensures ∙ ap is_true seen
    ]

pub returns-in-List : goal.returns-in-List
returns-in-List c =
    let xs = c.in-List.items.items in
    let long : not c.is_empty-in-List.result ≡ not (length xs == 0) = ap not (c.is_empty-in-List.ensures ∙ ap (λ (n : ℕ). n == 0) (omega arith)) in
    elim c.in-List.is [
      | inl e ↦ let seen : list (items_view xs) ≡ contents_of c.args.self.now = search (rules, the_lemmas, fold-roll-Value Contents Pairs contents_step map_step, fold_out-Value Contents Pairs contents_step map_step) in long ∙ is_true-list xs ∙ ap is_true seen
      | inr e ↦ let seen : tuple (items_view xs) ≡ contents_of c.args.self.now = search (rules, the_lemmas, fold-roll-Value Contents Pairs contents_step map_step, fold_out-Value Contents Pairs contents_step map_step) in long ∙ is_true-tuple xs ∙ ap is_true seen
    ]
