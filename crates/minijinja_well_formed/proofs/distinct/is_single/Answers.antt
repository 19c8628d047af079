use Rattle.std.proofs.Common.{sym, ap, ◌∙◌}
use Rattle.minijinja_tree.specs.Erasure.{stmt_tree}
use Rattle.minijinja_tree.specs.Tree.{named_block, block_names}
use Rattle.minijinja_well_formed.specs.private.BlockNames.{own}
use Rattle.minijinja_well_formed.specs.private.StatementTests.{are_single}
use Rattle.minijinja_well_formed.proofs.NamesOfBlocks.{counted-once, count}
use Rattle.minijinja_tree.proofs.Rows.{body_of, block_is}
use Rattle.minijinja_well_formed.proofs.distinct.is_single.Goals as goal

pub returns-in-Block : goal.returns-in-Block
returns-in-Block g c =
    let v = g.V.TemplateValue.contents in
    let ys = block_names (stmt_tree v c.args.root.now) in
    counted-once c.times.result (count c.node.result.now.name.now ys) c.times.ensures
    ∙ ap (λ n. are_single (own (named_block n.name.now n.required (body_of v n.body.items))) ys) c.node.ensures
    ∙ ap (λ t. are_single (own t) ys) (sym (block_is v c.in-Block.block))
    ∙ ap (λ s. are_single (own (stmt_tree v s)) ys) (sym c.in-Block.is)
