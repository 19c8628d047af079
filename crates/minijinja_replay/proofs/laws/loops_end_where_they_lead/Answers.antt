-- By the layout of each loop.
use Rattle.std.specs.Prelude.{All, []}
use Rattle.minijinja_semantics.specs.Layout.{block_code, stmt_code}
use Rattle.minijinja_semantics.specs.Pieces.{start}
use Rattle.minijinja_semantics.specs.Units.{all_units, units}
use Rattle.minijinja_semantics.proofs.BlockBodies.{of_blocks}
use Rattle.minijinja_replay.specs.Replay.{EndsWhereItLeads}
use Rattle.minijinja_replay.proofs.LoopEnds.{block_units_end, each_all, template_units_end}
use Rattle.minijinja_replay.proofs.laws.loops_end_where_they_lead.Goals as goal

pub returns : goal.returns
returns g c =
    let f = g.V.TemplateValue.functions in
    record {
      template = λ t well. each_all (stmt_code f t start) (units f [] t start) (template_units_end f t well);
      blocks = λ t well. of_blocks (λ body. All (EndsWhereItLeads (block_code f body)) (all_units f [] body start))
          (λ body is. each_all (block_code f body) (all_units f [] body start) (block_units_end f body is)) t well;
    }
