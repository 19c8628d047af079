-- By the lemma for every value type.
use Rattle.minijinja_replay.proofs.Meaning.{is_meant}
use Rattle.minijinja_replay.proofs.laws.runs_go_as_meant.Goals as goal

pub returns : goal.returns
returns g c =
    let t = g.V.TemplateValue in
    λ code u meaning answers e r does place finish is. is_meant t.functions t.contents t.fault_contents code u meaning answers e r does place finish is
