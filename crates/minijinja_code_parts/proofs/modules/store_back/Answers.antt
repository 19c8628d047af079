use Rattle.std.proofs.Common.{subst, sym, ap}
use Rattle.minijinja_tree.specs.Erasure.{names_of}
use Rattle.minijinja_tree.specs.WellFormed.{AreNames}
use Rattle.minijinja_tree.specs.SpannedErasure as node
use Rattle.minijinja_semantics.specs.Layout.{storing_back}
use Rattle.minijinja_semantics.specs.Marks as marks
use Rattle.minijinja_emitter.specs.internal.AtEmitter.{made_of, margin_of}
use Rattle.minijinja_code_expr.proofs.InOrder.{leads_end, leads_whole}
use Rattle.minijinja_code_parts.proofs.ImportParts.{name_stored, stores_end, stores_step, names_left}
use Rattle.minijinja_code_parts.proofs.MacroParts.{left_is, left_none, left_smaller}
use Rattle.minijinja_code_parts.proofs.Marking.{storing_next, storing_end}
use Rattle.minijinja_code_parts.proofs.modules.store_back.Goals as goal

pub loop-left-init : goal.loop-left-init
loop-left-init g c =
    let v = g.V.TemplateValue.contents in
    let f = g.V.TemplateValue.functions in
    let left = left_is c.split_last-left.result c.args.names.now c.split_last-left.ensures.cases in
    record {
      names = subst (λ xs. AreNames (names_of v xs)) (sym left) c.requires;
      marked = ap (λ xs. marks.storing_back f (node.names_of v xs) (margin_of c.args.code.now)) left;
      leads = leads_whole (made_of v c.args.code.now) _ _ (ap (λ xs. storing_back f (names_of v xs)) left);
    }

pub store_name-requires : goal.store_name-requires
store_name-requires g c = name_stored g.V.TemplateValue.contents c.loop-left.left _ c.in-Some.is c.loop-left.invariant.names

pub loop-left-preserved : goal.loop-left-preserved
loop-left-preserved g c =
    let v = g.V.TemplateValue.contents in
    let l = c.loop-left in
    let left = left_is c.split_last-left-in-Some.result c.in-Some.before.now c.split_last-left-in-Some.ensures.cases in
    let f = g.V.TemplateValue.functions in
    record {
      names = names_left v l.left c.split_last-left-in-Some.result _ c.in-Some.is left l.invariant.names;
      marked = storing_next v f l.left c.split_last-left-in-Some.result _ (margin_of l.code) (margin_of c.store_name.new.code) c.in-Some.is left c.in_ok-store_name.ensures.marked l.invariant.marked;
      leads = stores_step v f l.left c.split_last-left-in-Some.result _ c.in-Some.is left c.in_ok-store_name.ensures.added l.invariant.leads;
    }

pub loop-left-smaller : goal.loop-left-smaller
loop-left-smaller g c = left_smaller c.loop-left.left c.split_last-left-in-Some.result _ c.in-Some.is (left_is c.split_last-left-in-Some.result c.in-Some.before.now c.split_last-left-in-Some.ensures.cases)

pub returns-clause-added : goal.returns-clause-added
returns-clause-added g c =
    let v = g.V.TemplateValue.contents in
    leads_end (stores_end v g.V.TemplateValue.functions _ (left_none c.loop-left.left c.in_default.is)) c.loop-left.invariant.leads

pub returns-clause-marked : goal.returns-clause-marked
returns-clause-marked g c = storing_end g.V.TemplateValue.contents g.V.TemplateValue.functions c.loop-left.left (margin_of c.loop-left.code) c.in_default.is c.loop-left.invariant.marked
