use Rattle.std.proofs.Common.{◌≡◌, sym, ap, ◌∙◌}
use Rattle.std.specs.Prelude.{Some, None, option_map, slice_get, reverse}
use Rattle.minijinja_tree.specs.SpannedErasure.{expr_node, trees}
use Rattle.minijinja_meta.proofs.TargetWays.{tree-at, one-parameter, no-parameter}
use Rattle.minijinja_meta.proofs.targets.parameter.Goals as goal

pub returns-in_default : goal.returns-in_default
returns-in_default g c =
    let v = g.V.TemplateValue.contents in
    let m = c.args.declared.now in
    let none : None ≡ slice_get (reverse (trees v m.args.items)) c.args.place =
    ap (option_map (λ e. expr_node v e.now)) (sym c.in_default.is) ∙ tree-at v m.args.items c.args.place c.from_end.result (c.from_end.ensures ∙ ap (λ xs. slice_get (reverse xs) c.args.place) c.deref.ensures.value) in
    no-parameter v c.args.walker.now (reverse (trees v m.args.items)) (reverse (trees v m.defaults.items)) c.args.place c.requires none

pub returns-in-Some-from_end : goal.returns-in-Some-from_end
returns-in-Some-from_end g c =
    let v = g.V.TemplateValue.contents in
    let m = c.args.declared.now in
    let arg : Some (expr_node v c.in-Some.arg.now) ≡ slice_get (reverse (trees v m.args.items)) c.args.place =
    ap (option_map (λ e. expr_node v e.now)) (sym c.in-Some.is) ∙ tree-at v m.args.items c.args.place c.from_end.result (c.from_end.ensures ∙ ap (λ xs. slice_get (reverse xs) c.args.place) c.deref.ensures.value) in
    let default : Some (expr_node v c.in-Some-from_end.default.now) ≡ slice_get (reverse (trees v m.defaults.items)) c.args.place =
    ap (option_map (λ e. expr_node v e.now)) (sym c.in-Some-from_end.is) ∙ tree-at v m.defaults.items c.args.place c.from_end-2.result (c.from_end-2.ensures ∙ ap (λ xs. slice_get (reverse xs) c.args.place) c.deref-2.ensures.value) in
    one-parameter v c.defaulted.result c.args.walker.now c.defaulted.new.walker (reverse (trees v m.args.items)) (reverse (trees v m.defaults.items)) c.args.place (expr_node v c.in-Some.arg.now) (Some (expr_node v c.in-Some-from_end.default.now)) arg default c.defaulted.ensures

pub returns-in-None : goal.returns-in-None
returns-in-None g c =
    let v = g.V.TemplateValue.contents in
    let m = c.args.declared.now in
    let arg : Some (expr_node v c.in-Some.arg.now) ≡ slice_get (reverse (trees v m.args.items)) c.args.place =
    ap (option_map (λ e. expr_node v e.now)) (sym c.in-Some.is) ∙ tree-at v m.args.items c.args.place c.from_end.result (c.from_end.ensures ∙ ap (λ xs. slice_get (reverse xs) c.args.place) c.deref.ensures.value) in
    let default : None ≡ slice_get (reverse (trees v m.defaults.items)) c.args.place =
    ap (option_map (λ e. expr_node v e.now)) (sym c.in-None.is) ∙ tree-at v m.defaults.items c.args.place c.from_end-2.result (c.from_end-2.ensures ∙ ap (λ xs. slice_get (reverse xs) c.args.place) c.deref-2.ensures.value) in
    one-parameter v c.target.result c.args.walker.now c.target.new.walker (reverse (trees v m.args.items)) (reverse (trees v m.defaults.items)) c.args.place (expr_node v c.in-Some.arg.now) None arg default c.target.ensures
