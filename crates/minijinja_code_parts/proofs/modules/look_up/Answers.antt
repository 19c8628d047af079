use Rattle.std.proofs.Common.{◌≤◌, length, arith, ◌<◌, refl}
use Rattle.std.proofs.lemmas.List.{at_drop_all}
use Rattle.minijinja_tree.specs.Erasure.{names_of}
use Rattle.minijinja_tree.specs.SpannedErasure as node
use Rattle.minijinja_semantics.specs.Layout.{looking_up}
use Rattle.minijinja_semantics.specs.Marks as marks
use Rattle.minijinja_emitter.specs.internal.AtEmitter.{margin_of}
use Rattle.minijinja_code_expr.proofs.InOrder.{leads_end}
use Rattle.minijinja_code_parts.proofs.ImportParts.{look_next, names_after}
use Rattle.minijinja_code_parts.proofs.Marking.{marked_next, marked_end}
use Rattle.minijinja_code_parts.proofs.modules.look_up.Goals as goal

pub returns-clause-added : goal.returns-clause-added
returns-clause-added g c =
    let v = g.V.TemplateValue.contents in
    let f = g.V.TemplateValue.functions in
    let xs = c.args.names.now in
    let ended : length xs ≤ c.loop-name.name-index = omega arith in
    leads_end (at_drop_all (λ ys. looking_up f (names_of v ys)) xs c.loop-name.name-index ended) c.loop-name.invariant.leads

pub loop-name-preserved : goal.loop-name-preserved
loop-name-preserved g c =
    let v = g.V.TemplateValue.contents in
    let f = g.V.TemplateValue.functions in
    let l = c.loop-name in
    let xs = c.args.names.now in
    let x = c.loop-name-item.result in
    let within : l.name-index < length xs = omega arith in
    record {
      names = names_after v f xs l.name-index x within l.invariant.names;
      marked = marked_next (λ ys. marks.looking_up f (node.names_of v ys)) (λ y t. marks.expr f (node.expr_node v y.0) t) (λ y ys t. refl) xs l.name-index x (margin_of l.code) (margin_of c.expression.new.code) within c.loop-name-item.is c.in_ok-expression.ensures.marked l.invariant.marked;
      leads = look_next v f xs l.name-index x within c.loop-name-item.is c.in_ok-expression.ensures.added l.invariant.leads;
    }

pub returns-clause-marked : goal.returns-clause-marked
returns-clause-marked g c =
    let v = g.V.TemplateValue.contents in
    let f = g.V.TemplateValue.functions in
    let l = c.loop-name in
    let xs = c.args.names.now in
    let ended : length xs ≤ l.name-index = omega arith in
    marked_end (λ ys. marks.looking_up f (node.names_of v ys)) (λ t. refl) xs l.name-index (margin_of l.code) ended l.invariant.marked
