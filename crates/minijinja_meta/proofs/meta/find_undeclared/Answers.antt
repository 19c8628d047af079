use Rattle.std.proofs.Common.{map, ap, ◌∙◌}
use Rattle.minijinja_tree.specs.SpannedErasure.{stmt_node}
use Rattle.minijinja_meta.specs.Mentions.{free_of, in_order, through_stmt}
use Rattle.minijinja_meta.specs.Occurrences.{found_of}
use Rattle.minijinja_meta.specs.private.Written.{name_written}
use Rattle.minijinja_meta.proofs.Finding.{written-is}
use Rattle.minijinja_meta.proofs.meta.find_undeclared.Goals as goal

pub returns-clause-names : goal.returns-clause-names
returns-clause-names g c =
    let v = g.V.TemplateValue.contents in
    let b = c.args.track_nested in
    let t = stmt_node v c.args.stmt.now in
    c.in_ok-written_names.ensures ∙ ap (λ os. in_order (map (name_written b) (free_of (found_of v os)))) c.deref.ensures.value
    ∙ written-is v c.new-walker.result c.statement.new.walker b c.new-walker.ensures (through_stmt t) c.in_ok-statement.ensures
