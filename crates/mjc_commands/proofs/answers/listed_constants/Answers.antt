-- A list of constants folds to the list of what they hold.
use Rattle.std.proofs.Common.{ap, sym, ◌∙◌}
use Rattle.std.specs.Option.{option_map}
use Rattle.minijinja_value.specs.ValueFunctions.{value_functions}
use Rattle.minijinja_value.specs.ValueViews.{contents_of}
use Rattle.minijinja_tree_expr.specs.Erasure.{expr_tree, exprs_of}
use Rattle.minijinja_tree_expr.specs.Folding.{fold}
use Rattle.minijinja_tree_expr.specs.Tree.{list}
use Rattle.minijinja_tree_expr.proofs.SpannedNodes.{list_is}
use Rattle.mjc_commands.specs.AnswerFile.{listed_constants}
use Rattle.mjc_commands.proofs.AnswerLines.{folded_items, not-listed, not_folded}
use Rattle.mjc_commands.proofs.answers.listed_constants.Goals as goal

pub returns-in_default : goal.returns-in_default
returns-in_default c = sym (not-listed c.args.expr.now c.in_default.not-List)

pub returns-in-Ok-Some : goal.returns-in-Ok-Some
returns-in-Ok-Some c =
    let is = ap (λ e. listed_constants (expr_tree contents_of e)) c.in-List.is ∙ ap listed_constants (list_is contents_of c.in-List.list) in
    let folds = ap (option_map contents_of) (sym c.in-Ok-Some.field-0-is) ∙ c.in-Ok-Some.ensures.folds ∙ ap (λ n. fold value_functions (list (exprs_of contents_of n.items.items))) c.node.ensures in
    c.items_of.ensures ∙ folded_items _ _ folds ∙ sym is

pub returns-in-Ok-None : goal.returns-in-Ok-None
returns-in-Ok-None c =
    let is = ap (λ e. listed_constants (expr_tree contents_of e)) c.in-List.is ∙ ap listed_constants (list_is contents_of c.in-List.list) in
    let folds = ap (option_map contents_of) (sym c.in-Ok-None.field-0-is) ∙ c.in-Ok-None.ensures.folds ∙ ap (λ n. fold value_functions (list (exprs_of contents_of n.items.items))) c.node.ensures in
    not_folded _ folds ∙ sym is
