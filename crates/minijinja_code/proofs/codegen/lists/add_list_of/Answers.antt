use Rattle.std.proofs.Common.{◌≡◌, refl, sym, subst}
use Rattle.minijinja_tree.specs.Erasure.{stmt_tree}
use Rattle.minijinja_tree.specs.Nodes.{node_of}
use Rattle.minijinja_tree.specs.SpannedErasure.{stmt_node}
use Rattle.minijinja_code.specs.BlockLists.{AddsLists}
use Rattle.minijinja_code.specs.declared.codegen.lists.ListError.TheVariants.{TooMany}
use Rattle.minijinja_code.specs.private.Lists.{AddsMarks, block_tree, own_block, own_marked}
use Rattle.minijinja_code_expr.proofs.Results.{ok_gives}
use Rattle.minijinja_code.proofs.MarkWalks.{marks_none}
use Rattle.minijinja_code.proofs.ListWalks.{adds_none}
use Rattle.minijinja_code.proofs.OwnBlocks.{block_inner, no_block, no_marked_block, one_block, one_marked_block, one_long}
use Rattle.minijinja_code.proofs.codegen.lists.add_list_of.Goals as goal

pub add_list-requires : goal.add_list-requires
add_list-requires g c = block_inner g.V.TemplateValue.contents c.args.stmt.now c.in-Block.block (node_of c.in-Block.block) c.in-Block.is refl c.requires

pub returns-in-Block-clause-added : goal.returns-in-Block-clause-added
returns-in-Block-clause-added g c =
    let v = g.V.TemplateValue.contents in
    let f = g.V.TemplateValue.functions in
    ok_gives c.add_list.result (subst (λ bs. AddsLists f v c.args.source.text.now c.args.source.name.now bs c.args.lists.now c.add_list.new.lists) (sym (one_block v c.args.stmt.now c.in-Block.block (node_of c.in-Block.block) c.in-Block.is refl))) c.add_list.ensures.added

pub returns-in-Block-clause-marked : goal.returns-in-Block-clause-marked
returns-in-Block-clause-marked g c =
    let v = g.V.TemplateValue.contents in
    ok_gives c.add_list.result (subst (λ bs. AddsMarks g.V.TemplateValue.functions bs c.args.lists.now c.add_list.new.lists) (sym (one_marked_block v c.args.stmt.now c.in-Block.block c.in-Block.is))) c.add_list.ensures.marked

pub returns-in-Block-clause-too_many : goal.returns-in-Block-clause-too_many
returns-in-Block-clause-too_many g c =
    let v = g.V.TemplateValue.contents in
    one_long (λ refusal. refusal ≡ TooMany) g.V.TemplateValue.functions (block_tree v (node_of c.in-Block.block)) (own_block (stmt_tree v c.args.stmt.now)) c.add_list.result (one_block v c.args.stmt.now c.in-Block.block (node_of c.in-Block.block) c.in-Block.is refl) c.add_list.ensures.too_many

pub returns-in_default : goal.returns-in_default
returns-in_default g c =
    let v = g.V.TemplateValue.contents in
    let f = g.V.TemplateValue.functions in
    let lists = c.args.lists.now in
    record {
      added = subst (λ bs. AddsLists f v c.args.source.text.now c.args.source.name.now bs lists lists) (sym (no_block v c.args.stmt.now c.in_default.not-Block)) (adds_none f v c.args.source.text.now c.args.source.name.now lists);
      marked = marks_none f (own_marked (stmt_node v c.args.stmt.now)) lists (no_marked_block v c.args.stmt.now c.in_default.not-Block);
      too_many = tt;
    }
