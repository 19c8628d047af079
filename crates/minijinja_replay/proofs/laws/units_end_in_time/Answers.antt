-- The code of each unit does what the unit means, and that of a loop ends where it leads.
use Rattle.std.proofs.Common.{◌≡◌, List, [], sym, subst}
use Rattle.std.specs.Prelude.{All}
use Rattle.minijinja_semantics.specs.Code.{Instr}
use Rattle.minijinja_semantics.specs.Layout.{block_code}
use Rattle.minijinja_semantics.specs.Pieces.{start}
use Rattle.minijinja_semantics.specs.Units.{DoesBlock, all_units, units}
use Rattle.minijinja_semantics.proofs.BlockBodies.{of_blocks}
use Rattle.minijinja_replay.specs.Replay.{UnitEndsInTime}
use Rattle.minijinja_replay.proofs.LoopEnds.{EachEnds, block_units_end, template_units_end}
use Rattle.minijinja_replay.proofs.UnitsInTime.{each_in_time}
use Rattle.minijinja_replay.proofs.laws.units_end_in_time.Goals as goal

pub returns : goal.returns
returns g c =
    let t = g.V.TemplateValue in
    let f = t.functions in
    record {
      template = λ s code answers well few is does. each_in_time f code answers few (units f [] s start) does
          (subst (λ l. EachEnds l (units f [] s start)) (sym is) (template_units_end f s well));
      blocks = λ s answers well few. of_blocks
          (λ body. (code : List (Instr t.Contents)) → code ≡ block_code f body → DoesBlock f code body → All (UnitEndsInTime f code answers) (all_units f [] body start))
          (λ body inner code is does. each_in_time f code answers few (all_units f [] body start) does.units
          (subst (λ l. EachEnds l (all_units f [] body start)) (sym is) (block_units_end f body inner))) s well;
    }
