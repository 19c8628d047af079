use Rattle.std.proofs.Common.{◌≡◌, drop}
use Rattle.minijinja_tree.specs.Erasure.{names_of}
use Rattle.minijinja_tree.specs.SpannedErasure as node
use Rattle.minijinja_tree.specs.WellFormed.{AreNames}
use Rattle.minijinja_semantics.specs.Layout.{looking_up}
use Rattle.minijinja_semantics.specs.Marks as marks
use Rattle.minijinja_emitter.specs.internal.AtEmitter.{made_of, margin_of}
use Rattle.minijinja_code_expr.proofs.InOrder.{Leads}
use Rattle.minijinja_code_parts.proofs.modules.look_up.Given as goal

abbrev pub invariant-loop-name : goal.invariant-loop-name
invariant-loop-name g l =
    let v = g.V.TemplateValue.contents in
    let f = g.V.TemplateValue.functions in
    let left = names_of v (drop l.name-index l.names) in
    record {
      names : AreNames left;
      marked : marks.looking_up f (node.names_of v (drop l.name-index l.names)) (margin_of l.code) ≡ marks.looking_up f (node.names_of v l.names) (margin_of l.initial.code);
      leads : Leads (made_of v l.initial.code) (made_of v l.code) (looking_up f left) (looking_up f (names_of v l.names));
    }
