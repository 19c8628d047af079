use Rattle.std.proofs.Common.{◌≡◌, map, drop}
use Rattle.minijinja_tree.specs.Erasure.{stmt_tree}
use Rattle.minijinja_tree.specs.Tree.{stmts_of}
use Rattle.minijinja_tree.specs.WellFormed.{AreInner}
use Rattle.minijinja_code_parts.specs.internal.AtEnclosingLoop.{around_of}
use Rattle.minijinja_emitter.specs.internal.AtEmitter.{made_of, margin_of}
use Rattle.minijinja_code_parts.proofs.Rounds.{Onward}
use Rattle.minijinja_semantics.specs.Marks.{stmts}
use Rattle.minijinja_code.proofs.MarkWalks.{nodes_of}
use Rattle.minijinja_code.proofs.+stmt.Given as goal

abbrev pub invariant-stmt::statements-loop-stmt : goal.invariant-stmt::statements-loop-stmt
invariant-stmt::statements-loop-stmt g l =
    let c = g.V.TemplateValue.contents in
    let rest = stmts_of (map (stmt_tree c) (drop l.stmt-index l.stmts)) in
    record {
      inner : AreInner (around_of l.enclosing).in_loop rest;
      opened : (around_of l.enclosing).opened ≡ (around_of l.fn.enclosing).opened;
      left : stmts g.V.TemplateValue.functions (around_of l.fn.enclosing).opened (nodes_of c (drop l.stmt-index l.stmts)) (margin_of l.code) ≡ stmts g.V.TemplateValue.functions (around_of l.fn.enclosing).opened (nodes_of c l.stmts) (margin_of l.fn.code);
      onward : Onward g.V.TemplateValue.functions (around_of l.fn.enclosing) (made_of c l.fn.code) (around_of l.enclosing) (made_of c l.code) rest (stmts_of (map (stmt_tree c) l.stmts));
    }
