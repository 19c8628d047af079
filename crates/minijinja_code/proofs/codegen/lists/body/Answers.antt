use Rattle.std.proofs.Common.{rules, arith, ◌<◌, ap, refl, sym, ◌∙◌}
use denote.Param.Weighed.{most}
use Rattle.minijinja_tree.specs.declared.ast.Stmt.{size-Stmt, the_lemmas}
use Rattle.minijinja_tree.specs.declared.ast.Template.{size-Template, the_lemmas as template_lemmas}
use Rattle.minijinja_tree.specs.declared.ast.ForLoop.{size-ForLoop, the_lemmas as forloop_lemmas}
use Rattle.minijinja_tree.specs.declared.ast.IfCond.{size-IfCond, the_lemmas as ifcond_lemmas}
use Rattle.minijinja_tree.specs.declared.ast.WithBlock.{size-WithBlock, the_lemmas as withblock_lemmas}
use Rattle.minijinja_tree.specs.declared.ast.SetBlock.{size-SetBlock, the_lemmas as setblock_lemmas}
use Rattle.minijinja_tree.specs.declared.ast.AutoEscape.{size-AutoEscape, the_lemmas as autoescape_lemmas}
use Rattle.minijinja_tree.specs.declared.ast.FilterBlock.{size-FilterBlock, the_lemmas as filterblock_lemmas}
use Rattle.minijinja_tree.specs.declared.ast.Block.{size-Block, the_lemmas as block_lemmas}
use Rattle.minijinja_tree.specs.declared.ast.Macro.{Macro, size-Macro, the_lemmas as macro_lemmas}
use Rattle.minijinja_tree.specs.declared.ast.CallBlock.{size-CallBlock, the_lemmas as callblock_lemmas}
use Rattle.minijinja_tree.proofs.Rows.{body_of}
use Rattle.minijinja_code.specs.private.Lists.{bodies_of, marked_bodies_of}
use Rattle.minijinja_code.proofs.ListWalks.{each_smaller}
use Rattle.minijinja_tree.specs.Nodes.{span_of}
use Rattle.minijinja_code.proofs.MarkWalks.{nodes_of}
use Rattle.minijinja_code.proofs.SpannedArms.{template_node, for_node, if_node, with_node, set_block_node, escape_node, filter_block_node, block_node, declare_node, called_node}
use Rattle.minijinja_code.proofs.StatementArms.{for_arm, if_arm, with_arm, set_block_arm, escape_arm, filter_block_arm, block_arm, macro_arm, call_block_arm}
use Rattle.minijinja_code.proofs.Templates.{tree_is}
use Rattle.minijinja_code.proofs.codegen.lists.body.Goals as goal

pub returns-in-Template : goal.returns-in-Template
returns-in-Template g c =
    let v = g.V.TemplateValue.contents in
    let n = c.node.result.now in
    let is = tree_is {F = g.row.V-Fault.Denot} v c.args.stmt.now c.in-Template.template n c.deref.result.now c.in-Template.is c.node.ensures c.deref.ensures.value in
    let whole : size-Template g.row.V.Denot g.row.V-Fault.Denot n < size-Stmt g.row.V.Denot g.row.V-Fault.Denot c.args.stmt.now = search (rules, the_lemmas) in
    let first : most (size-Stmt g.row.V.Denot g.row.V-Fault.Denot) c.deref.result.now < size-Template g.row.V.Denot g.row.V-Fault.Denot n = search (rules, template_lemmas) in
    let node = template_node v c.args.stmt.now c.in-Template.template n (span_of c.in-Template.template) c.in-Template.is c.node.ensures refl in
    record {
      is = sym (ap (λ t. (bodies_of t).0) is);
      nodes = ap (nodes_of v) c.deref.ensures.value ∙ sym (ap (λ t. (marked_bodies_of t).0) node);
      smaller = each_smaller (size-Stmt g.row.V.Denot g.row.V-Fault.Denot c.args.stmt.now) c.deref.result.now (omega (arith, first, whole));
    }

pub returns-in-ForLoop : goal.returns-in-ForLoop
returns-in-ForLoop g c =
    let v = g.V.TemplateValue.contents in
    let n = c.node-in-ForLoop.result.now in
    let is = for_arm v c.args.stmt.now c.in-ForLoop.each n c.in-ForLoop.is c.node-in-ForLoop.ensures in
    let whole : size-ForLoop g.row.V.Denot g.row.V-Fault.Denot n < size-Stmt g.row.V.Denot g.row.V-Fault.Denot c.args.stmt.now = search (rules, the_lemmas) in
    let first : most (size-Stmt g.row.V.Denot g.row.V-Fault.Denot) c.deref-in-ForLoop.result.now < size-ForLoop g.row.V.Denot g.row.V-Fault.Denot n = search (rules, forloop_lemmas) in
    let node = for_node v c.args.stmt.now c.in-ForLoop.each n (span_of c.in-ForLoop.each) c.in-ForLoop.is c.node-in-ForLoop.ensures refl in
    record {
      is = ap (body_of v) c.deref-in-ForLoop.ensures.value ∙ sym (ap (λ t. (bodies_of t).0) is);
      nodes = ap (nodes_of v) c.deref-in-ForLoop.ensures.value ∙ sym (ap (λ t. (marked_bodies_of t).0) node);
      smaller = each_smaller (size-Stmt g.row.V.Denot g.row.V-Fault.Denot c.args.stmt.now) c.deref-in-ForLoop.result.now (omega (arith, first, whole));
    }

pub returns-in-IfCond : goal.returns-in-IfCond
returns-in-IfCond g c =
    let v = g.V.TemplateValue.contents in
    let n = c.node-in-IfCond.result.now in
    let is = if_arm v c.args.stmt.now c.in-IfCond.choice n c.in-IfCond.is c.node-in-IfCond.ensures in
    let whole : size-IfCond g.row.V.Denot g.row.V-Fault.Denot n < size-Stmt g.row.V.Denot g.row.V-Fault.Denot c.args.stmt.now = search (rules, the_lemmas) in
    let first : most (size-Stmt g.row.V.Denot g.row.V-Fault.Denot) c.deref-in-IfCond.result.now < size-IfCond g.row.V.Denot g.row.V-Fault.Denot n = search (rules, ifcond_lemmas) in
    let node = if_node v c.args.stmt.now c.in-IfCond.choice n (span_of c.in-IfCond.choice) c.in-IfCond.is c.node-in-IfCond.ensures refl in
    record {
      is = ap (body_of v) c.deref-in-IfCond.ensures.value ∙ sym (ap (λ t. (bodies_of t).0) is);
      nodes = ap (nodes_of v) c.deref-in-IfCond.ensures.value ∙ sym (ap (λ t. (marked_bodies_of t).0) node);
      smaller = each_smaller (size-Stmt g.row.V.Denot g.row.V-Fault.Denot c.args.stmt.now) c.deref-in-IfCond.result.now (omega (arith, first, whole));
    }

pub returns-in-WithBlock : goal.returns-in-WithBlock
returns-in-WithBlock g c =
    let v = g.V.TemplateValue.contents in
    let n = c.node-in-WithBlock.result.now in
    let is = with_arm v c.args.stmt.now c.in-WithBlock.block n c.in-WithBlock.is c.node-in-WithBlock.ensures in
    let whole : size-WithBlock g.row.V.Denot g.row.V-Fault.Denot n < size-Stmt g.row.V.Denot g.row.V-Fault.Denot c.args.stmt.now = search (rules, the_lemmas) in
    let first : most (size-Stmt g.row.V.Denot g.row.V-Fault.Denot) c.deref-in-WithBlock.result.now < size-WithBlock g.row.V.Denot g.row.V-Fault.Denot n = search (rules, withblock_lemmas) in
    let node = with_node v c.args.stmt.now c.in-WithBlock.block n (span_of c.in-WithBlock.block) c.in-WithBlock.is c.node-in-WithBlock.ensures refl in
    record {
      is = ap (body_of v) c.deref-in-WithBlock.ensures.value ∙ sym (ap (λ t. (bodies_of t).0) is);
      nodes = ap (nodes_of v) c.deref-in-WithBlock.ensures.value ∙ sym (ap (λ t. (marked_bodies_of t).0) node);
      smaller = each_smaller (size-Stmt g.row.V.Denot g.row.V-Fault.Denot c.args.stmt.now) c.deref-in-WithBlock.result.now (omega (arith, first, whole));
    }

pub returns-in-SetBlock : goal.returns-in-SetBlock
returns-in-SetBlock g c =
    let v = g.V.TemplateValue.contents in
    let n = c.node-in-SetBlock.result.now in
    let is = set_block_arm v c.args.stmt.now c.in-SetBlock.block n c.in-SetBlock.is c.node-in-SetBlock.ensures in
    let whole : size-SetBlock g.row.V.Denot g.row.V-Fault.Denot n < size-Stmt g.row.V.Denot g.row.V-Fault.Denot c.args.stmt.now = search (rules, the_lemmas) in
    let first : most (size-Stmt g.row.V.Denot g.row.V-Fault.Denot) c.deref-in-SetBlock.result.now < size-SetBlock g.row.V.Denot g.row.V-Fault.Denot n = search (rules, setblock_lemmas) in
    let node = set_block_node v c.args.stmt.now c.in-SetBlock.block n (span_of c.in-SetBlock.block) c.in-SetBlock.is c.node-in-SetBlock.ensures refl in
    record {
      is = ap (body_of v) c.deref-in-SetBlock.ensures.value ∙ sym (ap (λ t. (bodies_of t).0) is);
      nodes = ap (nodes_of v) c.deref-in-SetBlock.ensures.value ∙ sym (ap (λ t. (marked_bodies_of t).0) node);
      smaller = each_smaller (size-Stmt g.row.V.Denot g.row.V-Fault.Denot c.args.stmt.now) c.deref-in-SetBlock.result.now (omega (arith, first, whole));
    }

pub returns-in-AutoEscape : goal.returns-in-AutoEscape
returns-in-AutoEscape g c =
    let v = g.V.TemplateValue.contents in
    let n = c.node-in-AutoEscape.result.now in
    let is = escape_arm v c.args.stmt.now c.in-AutoEscape.block n c.in-AutoEscape.is c.node-in-AutoEscape.ensures in
    let whole : size-AutoEscape g.row.V.Denot g.row.V-Fault.Denot n < size-Stmt g.row.V.Denot g.row.V-Fault.Denot c.args.stmt.now = search (rules, the_lemmas) in
    let first : most (size-Stmt g.row.V.Denot g.row.V-Fault.Denot) c.deref-in-AutoEscape.result.now < size-AutoEscape g.row.V.Denot g.row.V-Fault.Denot n = search (rules, autoescape_lemmas) in
    let node = escape_node v c.args.stmt.now c.in-AutoEscape.block n (span_of c.in-AutoEscape.block) c.in-AutoEscape.is c.node-in-AutoEscape.ensures refl in
    record {
      is = ap (body_of v) c.deref-in-AutoEscape.ensures.value ∙ sym (ap (λ t. (bodies_of t).0) is);
      nodes = ap (nodes_of v) c.deref-in-AutoEscape.ensures.value ∙ sym (ap (λ t. (marked_bodies_of t).0) node);
      smaller = each_smaller (size-Stmt g.row.V.Denot g.row.V-Fault.Denot c.args.stmt.now) c.deref-in-AutoEscape.result.now (omega (arith, first, whole));
    }

pub returns-in-FilterBlock : goal.returns-in-FilterBlock
returns-in-FilterBlock g c =
    let v = g.V.TemplateValue.contents in
    let n = c.node-in-FilterBlock.result.now in
    let is = filter_block_arm v c.args.stmt.now c.in-FilterBlock.block n c.in-FilterBlock.is c.node-in-FilterBlock.ensures in
    let whole : size-FilterBlock g.row.V.Denot g.row.V-Fault.Denot n < size-Stmt g.row.V.Denot g.row.V-Fault.Denot c.args.stmt.now = search (rules, the_lemmas) in
    let first : most (size-Stmt g.row.V.Denot g.row.V-Fault.Denot) c.deref-in-FilterBlock.result.now < size-FilterBlock g.row.V.Denot g.row.V-Fault.Denot n = search (rules, filterblock_lemmas) in
    let node = filter_block_node v c.args.stmt.now c.in-FilterBlock.block n (span_of c.in-FilterBlock.block) c.in-FilterBlock.is c.node-in-FilterBlock.ensures refl in
    record {
      is = ap (body_of v) c.deref-in-FilterBlock.ensures.value ∙ sym (ap (λ t. (bodies_of t).0) is);
      nodes = ap (nodes_of v) c.deref-in-FilterBlock.ensures.value ∙ sym (ap (λ t. (marked_bodies_of t).0) node);
      smaller = each_smaller (size-Stmt g.row.V.Denot g.row.V-Fault.Denot c.args.stmt.now) c.deref-in-FilterBlock.result.now (omega (arith, first, whole));
    }

pub returns-in-Block : goal.returns-in-Block
returns-in-Block g c =
    let v = g.V.TemplateValue.contents in
    let n = c.node-in-Block.result.now in
    let is = block_arm v c.args.stmt.now c.in-Block.block n c.in-Block.is c.node-in-Block.ensures in
    let whole : size-Block g.row.V.Denot g.row.V-Fault.Denot n < size-Stmt g.row.V.Denot g.row.V-Fault.Denot c.args.stmt.now = search (rules, the_lemmas) in
    let first : most (size-Stmt g.row.V.Denot g.row.V-Fault.Denot) c.deref-in-Block.result.now < size-Block g.row.V.Denot g.row.V-Fault.Denot n = search (rules, block_lemmas) in
    let node = block_node v c.args.stmt.now c.in-Block.block n (span_of c.in-Block.block) c.in-Block.is c.node-in-Block.ensures refl in
    record {
      is = ap (body_of v) c.deref-in-Block.ensures.value ∙ sym (ap (λ t. (bodies_of t).0) is);
      nodes = ap (nodes_of v) c.deref-in-Block.ensures.value ∙ sym (ap (λ t. (marked_bodies_of t).0) node);
      smaller = each_smaller (size-Stmt g.row.V.Denot g.row.V-Fault.Denot c.args.stmt.now) c.deref-in-Block.result.now (omega (arith, first, whole));
    }

pub returns-in-Macro : goal.returns-in-Macro
returns-in-Macro g c =
    let v = g.V.TemplateValue.contents in
    let n = c.node-in-Macro.result.now in
    let is = macro_arm v c.args.stmt.now c.in-Macro.declared n c.in-Macro.is c.node-in-Macro.ensures in
    let whole : size-Macro g.row.V.Denot g.row.V-Fault.Denot n < size-Stmt g.row.V.Denot g.row.V-Fault.Denot c.args.stmt.now = search (rules, the_lemmas) in
    let first : most (size-Stmt g.row.V.Denot g.row.V-Fault.Denot) c.deref-in-Macro.result.now < size-Macro g.row.V.Denot g.row.V-Fault.Denot n = search (rules, macro_lemmas) in
    let node = declare_node v c.args.stmt.now c.in-Macro.declared n (span_of c.in-Macro.declared) c.in-Macro.is c.node-in-Macro.ensures refl in
    record {
      is = ap (body_of v) c.deref-in-Macro.ensures.value ∙ sym (ap (λ t. (bodies_of t).0) is);
      nodes = ap (nodes_of v) c.deref-in-Macro.ensures.value ∙ sym (ap (λ t. (marked_bodies_of t).0) node);
      smaller = each_smaller (size-Stmt g.row.V.Denot g.row.V-Fault.Denot c.args.stmt.now) c.deref-in-Macro.result.now (omega (arith, first, whole));
    }

pub returns-in-CallBlock : goal.returns-in-CallBlock
returns-in-CallBlock g c =
    let v = g.V.TemplateValue.contents in
    let n = c.node-in-CallBlock.result.now in
    let is = call_block_arm v c.args.stmt.now c.in-CallBlock.block n c.in-CallBlock.is c.node-in-CallBlock.ensures in
    let same = c.deref-in-CallBlock.ensures.value ∙ ap (λ (m : Macro g.row.V.Denot g.row.V-Fault.Denot). m.body.items) c.node-in-CallBlock-2.ensures in
    let whole : size-CallBlock g.row.V.Denot g.row.V-Fault.Denot n < size-Stmt g.row.V.Denot g.row.V-Fault.Denot c.args.stmt.now = search (rules, the_lemmas) in
    let first : most (size-Stmt g.row.V.Denot g.row.V-Fault.Denot) c.deref-in-CallBlock.result.now < size-CallBlock g.row.V.Denot g.row.V-Fault.Denot n = search (rules, callblock_lemmas, macro_lemmas) in
    let node = called_node v c.args.stmt.now c.in-CallBlock.block n (span_of c.in-CallBlock.block) c.in-CallBlock.is c.node-in-CallBlock.ensures refl in
    record {
      is = ap (body_of v) same ∙ sym (ap (λ t. (bodies_of t).0) is);
      nodes = ap (nodes_of v) same ∙ sym (ap (λ t. (marked_bodies_of t).0) node);
      smaller = each_smaller (size-Stmt g.row.V.Denot g.row.V-Fault.Denot c.args.stmt.now) c.deref-in-CallBlock.result.now (omega (arith, first, whole));
    }
