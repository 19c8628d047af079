use Rattle.std.proofs.Common.{rules, arith, ◌<◌, ap, refl, sym, ◌∙◌}
use denote.Param.Weighed.{most}
use Rattle.minijinja_tree.specs.declared.ast.Stmt.{size-Stmt, the_lemmas}
use Rattle.minijinja_tree.specs.declared.ast.ForLoop.{size-ForLoop, the_lemmas as forloop_lemmas}
use Rattle.minijinja_tree.specs.declared.ast.IfCond.{size-IfCond, the_lemmas as ifcond_lemmas}
use Rattle.minijinja_tree.proofs.Rows.{body_of}
use Rattle.minijinja_code.specs.private.Lists.{bodies_of, marked_bodies_of}
use Rattle.minijinja_code.proofs.ListWalks.{each_smaller}
use Rattle.minijinja_tree.specs.Nodes.{span_of}
use Rattle.minijinja_code.proofs.MarkWalks.{nodes_of}
use Rattle.minijinja_code.proofs.SpannedArms.{for_node, if_node}
use Rattle.minijinja_code.proofs.StatementArms.{for_arm, if_arm}
use Rattle.minijinja_code.proofs.codegen.lists.else_body.Goals as goal

pub returns-in-ForLoop : goal.returns-in-ForLoop
returns-in-ForLoop g c =
    let v = g.V.TemplateValue.contents in
    let n = c.node.result.now in
    let is = for_arm v c.args.stmt.now c.in-ForLoop.each n c.in-ForLoop.is c.node.ensures in
    let whole : size-ForLoop g.row.V.Denot g.row.V-Fault.Denot n < size-Stmt g.row.V.Denot g.row.V-Fault.Denot c.args.stmt.now = search (rules, the_lemmas) in
    let part : most (size-Stmt g.row.V.Denot g.row.V-Fault.Denot) c.deref.result.now < size-ForLoop g.row.V.Denot g.row.V-Fault.Denot n = search (rules, forloop_lemmas) in
    let node = for_node v c.args.stmt.now c.in-ForLoop.each n (span_of c.in-ForLoop.each) c.in-ForLoop.is c.node.ensures refl in
    record {
      is = ap (body_of v) c.deref.ensures.value ∙ sym (ap (λ t. (bodies_of t).1) is);
      nodes = ap (nodes_of v) c.deref.ensures.value ∙ sym (ap (λ t. (marked_bodies_of t).1) node);
      smaller = each_smaller (size-Stmt g.row.V.Denot g.row.V-Fault.Denot c.args.stmt.now) c.deref.result.now (omega (arith, part, whole));
    }

pub returns-in-IfCond : goal.returns-in-IfCond
returns-in-IfCond g c =
    let v = g.V.TemplateValue.contents in
    let n = c.node-in-IfCond.result.now in
    let is = if_arm v c.args.stmt.now c.in-IfCond.choice n c.in-IfCond.is c.node-in-IfCond.ensures in
    let whole : size-IfCond g.row.V.Denot g.row.V-Fault.Denot n < size-Stmt g.row.V.Denot g.row.V-Fault.Denot c.args.stmt.now = search (rules, the_lemmas) in
    let part : most (size-Stmt g.row.V.Denot g.row.V-Fault.Denot) c.deref-in-IfCond.result.now < size-IfCond g.row.V.Denot g.row.V-Fault.Denot n = search (rules, ifcond_lemmas) in
    let node = if_node v c.args.stmt.now c.in-IfCond.choice n (span_of c.in-IfCond.choice) c.in-IfCond.is c.node-in-IfCond.ensures refl in
    record {
      is = ap (body_of v) c.deref-in-IfCond.ensures.value ∙ sym (ap (λ t. (bodies_of t).1) is);
      nodes = ap (nodes_of v) c.deref-in-IfCond.ensures.value ∙ sym (ap (λ t. (marked_bodies_of t).1) node);
      smaller = each_smaller (size-Stmt g.row.V.Denot g.row.V-Fault.Denot c.args.stmt.now) c.deref-in-IfCond.result.now (omega (arith, part, whole));
    }
