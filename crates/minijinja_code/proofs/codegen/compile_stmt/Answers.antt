use Rattle.std.proofs.Common.{◌∙◌, [], ap, arith, subst}
use Rattle.minijinja_tree.specs.Erasure.{stmt_tree}
use Rattle.minijinja_tree.specs.SpannedErasure.{stmt_node}
use Rattle.minijinja_semantics.specs.Marks.{stmt}
use Rattle.minijinja_emitter.specs.internal.AtEmitter.{made_of, margin_of}
use Rattle.minijinja_emitter.specs.internal.Making.{Adds}
use Rattle.minijinja_code.specs.private.Statements.{stmt_piece}
use Rattle.minijinja_code_parts.specs.internal.EnclosingLoops.{Around}
use Rattle.minijinja_code.proofs.Bodies.{root_stands}
use Rattle.minijinja_code_parts.proofs.Rounds.{bytes_outside, stmt_outside}
use Rattle.minijinja_code.proofs.codegen.compile_stmt.Goals as goal

pub statement-requires : goal.statement-requires
statement-requires g c = root_stands _ (stmt_tree g.V.TemplateValue.contents c.args.stmt.now) (ap (λ (t : Around). t.in_loop) c.outside-enclosing.ensures) c.requires

pub returns-clause-added : goal.returns-clause-added
returns-clause-added g c =
    let tree = stmt_tree g.V.TemplateValue.contents c.args.stmt.now in
    subst (λ m. Adds m (made_of g.V.TemplateValue.contents c.statement.new.code) (stmt_piece g.V.TemplateValue.functions tree)) c.in_ok-make_room.ensures.made
    (stmt_outside g.V.TemplateValue.functions tree c.outside-enclosing.ensures c.in_ok-statement.ensures.added)

pub returns-clause-counted : goal.returns-clause-counted
returns-clause-counted g c = bytes_outside _ c.outside-enclosing.ensures c.in_ok-statement.ensures.added c.data_bytes.ensures (omega arith)

pub returns-clause-marked : goal.returns-clause-marked
returns-clause-marked g c =
    let node = stmt_node g.V.TemplateValue.contents c.args.stmt.now in
    c.in_ok-statement.ensures.marked ∙ ap (λ (a : Around). stmt g.V.TemplateValue.functions a.opened node (margin_of c.make_room.new.code)) c.outside-enclosing.ensures
    ∙ ap (stmt g.V.TemplateValue.functions [] node) c.in_ok-make_room.ensures.marked
