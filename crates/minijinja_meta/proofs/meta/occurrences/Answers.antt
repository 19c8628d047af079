use Rattle.std.proofs.Common.{ap, ◌∙◌, refl, subst, sym, false}
use Rattle.std.specs.Prelude.{All}
use Rattle.minijinja_tree.specs.SpannedErasure.{stmt_node}
use Rattle.minijinja_meta.specs.Mentions.{through_stmt}
use Rattle.minijinja_meta.specs.Occurrences.{IsChain, found_of, macros_of}
use Rattle.minijinja_meta.proofs.Finding.{chains-are, found-is, macros-are}
use Rattle.minijinja_meta.proofs.meta.occurrences.Goals as goal

pub returns-clause-found : goal.returns-clause-found
returns-clause-found g c =
    let v = g.V.TemplateValue.contents in
    ap (λ f. found_of v f.items) c.finish.ensures.found ∙ found-is v c.new-walker.result c.statement.new.walker false c.new-walker.ensures (through_stmt (stmt_node v c.args.stmt.now)) c.in_ok-statement.ensures refl

pub returns-clause-macros : goal.returns-clause-macros
returns-clause-macros g c =
    let v = g.V.TemplateValue.contents in
    ap (λ f. macros_of f.items) c.finish.ensures.macros ∙ macros-are v c.new-walker.result c.statement.new.walker false c.new-walker.ensures (through_stmt (stmt_node v c.args.stmt.now)) c.in_ok-statement.ensures

pub returns-clause-chains : goal.returns-clause-chains
returns-clause-chains g c =
    let v = g.V.TemplateValue.contents in
    subst (λ f. All (IsChain v) f.items) (sym c.finish.ensures.found) (chains-are v c.new-walker.result c.statement.new.walker false c.new-walker.ensures (through_stmt (stmt_node v c.args.stmt.now)) c.in_ok-statement.ensures)
