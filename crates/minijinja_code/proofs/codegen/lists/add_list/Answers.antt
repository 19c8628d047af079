use Rattle.std.proofs.Common.{◌≡◌, ◌∙◌, ◌<◌, ◌^◌, ◌∷◌, [], map, length, ap, ap₂, arith, subst, sym}
use Rattle.std.proofs.lemmas.List.{length-map}
use Rattle.minijinja_instructions.specs.Instructions.{instr_of, code_of}
use Rattle.minijinja_semantics.specs.Laws.{Laws}
use Rattle.minijinja_semantics.specs.Layout.{block_code}
use Rattle.minijinja_tree.proofs.Rows.{body_of}
use Rattle.minijinja_emitter.specs.internal.Making.{capped}
use Rattle.minijinja_code.specs.private.Lists.{AddsMarks, block_tree}
use Rattle.std.specs.Prelude.{false}
use Rattle.minijinja_tree.specs.Nodes.{span_of}
use Rattle.minijinja_tree.specs.WellFormed.{AreInner}
use Rattle.minijinja_tree.specs.declared.ast.Block.{Block}
use Rattle.minijinja_semantics.specs.Marks.{block_marks}
use Rattle.minijinja_code.specs.BlockLists.{AddsLists}
use Rattle.minijinja_code.specs.BlockMarks.{MarkedBlock}
use Rattle.minijinja_code.proofs.MarkWalks.{marks_added, nodes_of}
use Rattle.minijinja_code.proofs.ListParts.{list_added, others_stay}
use Rattle.minijinja_code.proofs.codegen.lists.add_list.Goals as goal

pub body_code-requires : goal.body_code-requires
body_code-requires g c =
    let v = g.V.TemplateValue.contents in
    subst (λ xs. AreInner false (body_of v xs)) (sym c.deref.ensures.value) (subst (λ (b : Block g.row.V.Denot g.row.V-Fault.Denot). AreInner false (block_tree v b).body) (sym c.node-block.ensures) c.requires)

pub returns-clause-added : goal.returns-clause-added
returns-clause-added g c =
    let v = g.V.TemplateValue.contents in
    let f = g.V.TemplateValue.functions in
    let laws : Laws f = record { truth = g.met.V.TemplateValue.is_true_of_bool; count = g.met.V.TemplateValue.as_count_of_u64; one_more = g.met.V.TemplateValue.add_one } in
    let n = c.node-block.result.now in
    let b = block_tree v n in
    let list = c.listed-list.result in
    let old = c.args.lists.now in
    let new = c.insert.new.self in
    let few : length (code_of v list) < 2 ^ 32 = omega (arith, length-map list.instructions.items (instr_of v), ap length c.listed-list.ensures.instructions) in
    let is : code_of v list ≡ map capped (block_code f b.body) = ap (map (instr_of v)) c.listed-list.ensures.instructions ∙ c.in_ok-instructions.ensures.code ∙ ap (λ xs. map capped (block_code f (body_of v xs))) c.deref.ensures.value in
    let inner : AreInner false b.body = subst (λ (k : Block g.row.V.Denot g.row.V-Fault.Denot). AreInner false (block_tree v k).body) (sym c.node-block.ensures) c.requires in
    subst (λ (k : Block g.row.V.Denot g.row.V-Fault.Denot). AddsLists f v c.args.source.text.now c.args.source.name.now (block_tree v k ∷ []) old new) c.node-block.ensures
    (list_added f v c.args.source.text.now c.args.source.name.now laws b list old new inner is few
    c.listed-list.ensures.required c.listed-list.ensures.name c.listed-list.ensures.source c.in_ok-insert.ensures.updates.1
    (others_stay n.name.now old new _ c.in_ok-insert.ensures.updates))

pub returns-clause-marked : goal.returns-clause-marked
returns-clause-marked g c =
    let v = g.V.TemplateValue.contents in
    let f = g.V.TemplateValue.functions in
    let n = c.node-block.result.now in
    let list = c.listed-list.result in
    let old = c.args.lists.now in
    let new = c.insert.new.self in
    let is = c.listed-list.ensures.marks ∙ c.in_ok-instructions.ensures.marks ∙ ap₂ (λ s xs. block_marks f s (nodes_of v xs)) c.span-span.ensures c.deref.ensures.value in
    let b : MarkedBlock g.V.TemplateValue.Contents = record { name = n.name.now; span = span_of c.args.block.now; body = nodes_of v n.body.items } in
    subst (λ (k : Block g.row.V.Denot g.row.V-Fault.Denot). AddsMarks f (record { name = k.name.now; span = span_of c.args.block.now; body = nodes_of v k.body.items } ∷ []) old new) c.node-block.ensures
    (marks_added f b list old new is c.in_ok-insert.ensures.updates.1 (others_stay n.name.now old new _ c.in_ok-insert.ensures.updates))
