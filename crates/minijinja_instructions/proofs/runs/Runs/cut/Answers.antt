use Rattle.std.proofs.Common.{◌∙◌, ◌<◌, List, rules, sym, ap, ap₂, subst, take}
use Rattle.std.specs.Prelude.{All}
use Rattle.std.specs.List.Sorted.{IsNonDecreasingBy}
use Rattle.std.proofs.Math.Dec.{ltb}
use Rattle.std.proofs.lemmas.List.Sorted.{IsNonDecreasingBy-take, IsPartitionPoint-from_clause, IsPartitionedBy-ltb}
use Rattle.minijinja_instructions.specs.RunLists.{values_up_to}
use Rattle.minijinja_instructions.specs.declared.runs.Run.{Run}
use Rattle.minijinja_instructions.proofs.Running.{cut-before, cut-shows}
use Rattle.minijinja_instructions.proofs.runs.Runs.cut.Goals as goal

pub returns : goal.returns
returns g c =
    let s = c.args.self.now in
    let n = c.args.place in
    let rs = c.deref.result.now in
    let k = c.partition_point-begun.result in
    let is = c.deref.ensures.value in
    let rising = subst (λ (l : List (Run g.row.T.Denot)). IsNonDecreasingBy (λ r. r.first) l) (sym is) s.before.rising in
    let point = IsPartitionPoint-from_clause (λ r. ltb r.first n) rs k c.partition_point-begun.ensures.partitioned (IsPartitionedBy-ltb (λ r. r.first) rs n rising) (λ a r q h. search rules) in
    ap₂ values_up_to (c.truncate.ensures.items ∙ ap (take k) (sym is)) c.min-self.ensures
    ∙ cut-shows rs k n s.len point.0 point.1
    ∙ ap (λ l. take n (values_up_to l s.len)) is

pub invariant_of-self : goal.invariant_of-self
invariant_of-self g c =
    let s = c.args.self.now in
    let n = c.args.place in
    let rs = c.deref.result.now in
    let k = c.partition_point-begun.result in
    let is = c.deref.ensures.value in
    let cut = c.truncate.ensures.items ∙ ap (take k) (sym is) in
    let rising = subst (λ (l : List (Run g.row.T.Denot)). IsNonDecreasingBy (λ r. r.first) l) (sym is) s.before.rising in
    let before = subst (λ (l : List (Run g.row.T.Denot)). All (λ r. r.first < s.len) l) (sym is) s.before.before in
    let point = IsPartitionPoint-from_clause (λ r. ltb r.first n) rs k c.partition_point-begun.ensures.partitioned (IsPartitionedBy-ltb (λ r. r.first) rs n rising) (λ a r q h. search rules) in
    record {
      before = record {
        rising = subst (λ (l : List (Run g.row.T.Denot)). IsNonDecreasingBy (λ r. r.first) l) (sym cut) (IsNonDecreasingBy-take (λ r. r.first) k rs rising);
        before = subst (λ (l : List (Run g.row.T.Denot)). All (λ r. r.first < c.min-self.result) l) (sym cut) (subst (λ m. All (λ r. r.first < m) (take k rs)) (sym c.min-self.ensures) (cut-before rs k n s.len c.partition_point-begun.ensures.bound point.0 before));
      };
    }
