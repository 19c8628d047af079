use Rattle.std.proofs.Common.{◌++◌, drop}
use Rattle.minijinja_tree.specs.Erasure.{stmt_tree}
use Rattle.minijinja_tree.specs.Tree.{all_blocks, blocks}
use Rattle.minijinja_tree.proofs.Rows.{body_of}
use Rattle.minijinja_tree.specs.SpannedErasure.{stmt_node}
use Rattle.minijinja_code.specs.BlockMarks.{all_marked_blocks, marked_blocks}
use Rattle.minijinja_code.proofs.MarkWalks.{MarkWalking, nodes_of}
use Rattle.minijinja_code.proofs.ListWalks.{StandSomewhere, Walking}
use Rattle.minijinja_code.proofs.codegen.lists.+add_lists.Given as goal

abbrev pub invariant-loop-inner : goal.invariant-loop-inner
invariant-loop-inner g l =
    let v = g.V.TemplateValue.contents in
    let body = body_of v (drop l.inner-index l.first) in
    record {
      stand : StandSomewhere body;
      walking : Walking g.V.TemplateValue.functions v l.fn.source.text.now l.fn.source.name.now (blocks (stmt_tree v l.fn.stmt)) l.fn.lists (all_blocks body ++ all_blocks (body_of v l.second)) l.lists;
      marking : MarkWalking g.V.TemplateValue.functions (marked_blocks (stmt_node v l.fn.stmt)) l.fn.lists (all_marked_blocks (nodes_of v (drop l.inner-index l.first)) ++ all_marked_blocks (nodes_of v l.second)) l.lists;
    }

abbrev pub invariant-loop-inner-2 : goal.invariant-loop-inner-2
invariant-loop-inner-2 g l =
    let v = g.V.TemplateValue.contents in
    let body = body_of v (drop l.inner-index l.second) in
    record {
      stand : StandSomewhere body;
      walking : Walking g.V.TemplateValue.functions v l.fn.source.text.now l.fn.source.name.now (blocks (stmt_tree v l.fn.stmt)) l.fn.lists (all_blocks body) l.lists;
      marking : MarkWalking g.V.TemplateValue.functions (marked_blocks (stmt_node v l.fn.stmt)) l.fn.lists (all_marked_blocks (nodes_of v (drop l.inner-index l.second))) l.lists;
    }
