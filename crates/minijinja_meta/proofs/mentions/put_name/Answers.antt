use Rattle.std.proofs.Common.{map, sym, ap, ◌∙◌}
use Rattle.std.specs.BTreeSet.{keys}
use Rattle.minijinja_meta.specs.private.Written.{put_if}
use Rattle.minijinja_meta.proofs.Written.{map-insert}
use Rattle.minijinja_meta.proofs.mentions.put_name.Goals as goal

pub returns-in_ok-insert : goal.returns-in_ok-insert
returns-in_ok-insert g c =
    let ks = keys c.args.names.now in
    let name = c.args.occurrence.now.name in
    ap (map (λ x. x.now)) c.in_ok-insert.ensures.keys ∙ map-insert (λ x. x.now) ks name ∙ ap (λ b. put_if b (map (λ x. x.now) ks) name.now) (sym c.if-occurrence.true)
