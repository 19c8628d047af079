use Rattle.std.proofs.Common.{leb, sym, take, ◌∙◌, rules}
use Rattle.std.specs.Prelude.{None}
use Rattle.std.proofs.lemmas.List.Sorted.{IsPartitionPoint-from_clause, IsPartitionedBy-leb}
use Rattle.minijinja_instructions.proofs.Running.{halved, last-is}
use Rattle.minijinja_instructions.proofs.runs.value_at.Goals as goal

pub returns : goal.returns
returns g c =
    let rs = c.args.runs.now in
    let i = c.args.place in
    let k = c.partition_point-after.result in
    let point = IsPartitionPoint-from_clause (λ r. leb r.first i) rs k c.partition_point-after.ensures.partitioned (IsPartitionedBy-leb (λ r. r.first) rs i c.requires) (λ a r q h. search rules) in
    c.value_of.ensures ∙ last-is (take k rs) c.last.result c.last.ensures.value ∙ sym (halved None rs i k c.partition_point-after.ensures.bound point.0 point.1)
