use Rattle.std.proofs.Common.{map, subst, sym, ap, ◌∙◌}
use Rattle.std.specs.Prelude.{reverse}
use Rattle.minijinja_tree.specs.Erasure.{expr_tree}
use Rattle.minijinja_tree.specs.WellFormed.{AreAllWhole, AreVariables}
use Rattle.minijinja_tree.specs.SpannedErasure.{trees}
use Rattle.minijinja_semantics.specs.Marks as marks
use Rattle.minijinja_emitter.specs.internal.AtEmitter.{made_of, margin_of}
use Rattle.minijinja_code_parts.proofs.MacroParts.{left_is, left_smaller, take_begin, take_end, take_step, variable_arg, variables_before, whole_before}
use Rattle.minijinja_code_parts.specs.internal.Macros.{left_of}
use Rattle.minijinja_code_parts.proofs.Marking.{taking_end, taking_next}
use Rattle.minijinja_code_parts.proofs.macro_parts.take.Goals as goal

pub loop-left-init : goal.loop-left-init
loop-left-init g c =
    let v = g.V.TemplateValue.contents in
    let args = left_is c.split_last-left.result c.args.args.now c.split_last-left.ensures.cases in
    let defaults = left_is c.split_last-default.result c.args.defaults.now c.split_last-default.ensures.cases in
    let f = g.V.TemplateValue.functions in
    let m = margin_of c.args.code.now in
    record {
      args = subst (λ xs. AreVariables (map (expr_tree v) xs)) (sym args) c.requires.args;
      defaults = subst (λ xs. AreAllWhole (map (expr_tree v) xs)) (sym defaults) c.requires.defaults;
      marked = ap (λ xs. marks.taking f (reverse (trees v xs)) (reverse (trees v (left_of c.split_last-default.result))) m) args ∙ ap (λ xs. marks.taking f (reverse (trees v c.args.args.now)) (reverse (trees v xs)) m) defaults;
      leads = take_begin v f c.split_last-left.result c.split_last-default.result c.args.args.now c.args.defaults.now (made_of v c.args.code.now) args defaults;
    }

pub take_argument-requires-clause-arg : goal.take_argument-requires-clause-arg
take_argument-requires-clause-arg g c = variable_arg g.V.TemplateValue.contents c.loop-left.left _ c.in-Some.is c.loop-left.invariant.args

pub loop-left-preserved : goal.loop-left-preserved
loop-left-preserved g c =
    let v = g.V.TemplateValue.contents in
    let l = c.loop-left in
    let left = left_is c.split_last-left-in-Some.result c.in-Some.before.now c.split_last-left-in-Some.ensures.cases in
    record {
      args = variables_before v l.left c.split_last-left-in-Some.result _ c.in-Some.is left l.invariant.args;
      defaults = subst (λ xs. AreAllWhole (map (expr_tree v) xs)) (sym c.default_before-default.ensures) (whole_before v l.default l.invariant.defaults);
      marked = taking_next v g.V.TemplateValue.functions l.left c.split_last-left-in-Some.result l.default c.default_before-default.result _ (margin_of l.code) (margin_of c.take_argument.new.code) c.in-Some.is left c.default_before-default.ensures c.in_ok-take_argument.ensures.marked l.invariant.marked;
      leads = take_step v g.V.TemplateValue.functions l.left c.split_last-left-in-Some.result l.default c.default_before-default.result _ c.in-Some.is left c.default_before-default.ensures c.in_ok-take_argument.ensures.added l.invariant.leads;
    }

pub loop-left-smaller : goal.loop-left-smaller
loop-left-smaller g c = left_smaller c.loop-left.left c.split_last-left-in-Some.result _ c.in-Some.is (left_is c.split_last-left-in-Some.result c.in-Some.before.now c.split_last-left-in-Some.ensures.cases)

pub returns-clause-added : goal.returns-clause-added
returns-clause-added g c = take_end g.V.TemplateValue.contents g.V.TemplateValue.functions c.loop-left.left c.loop-left.default c.in_default.is c.loop-left.invariant.leads

pub returns-clause-marked : goal.returns-clause-marked
returns-clause-marked g c =
    let l = c.loop-left in
    taking_end g.V.TemplateValue.contents g.V.TemplateValue.functions l.left (reverse (trees g.V.TemplateValue.contents (left_of l.default))) (margin_of l.code) c.in_default.is l.invariant.marked
