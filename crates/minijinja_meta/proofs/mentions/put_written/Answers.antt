use Rattle.std.proofs.Common.{map, sym, ap, ap₂, ◌∙◌}
use Rattle.std.specs.BTreeSet.{keys}
use Rattle.std.specs.Prelude.{string_bytes}
use Rattle.minijinja_meta.specs.private.Written.{put_if}
use Rattle.minijinja_meta.proofs.Written.{map-insert}
use Rattle.minijinja_meta.proofs.mentions.put_written.Goals as goal

pub returns-in_ok-insert : goal.returns-in_ok-insert
returns-in_ok-insert g c =
    let ks = keys c.args.names.now in
    ap (map string_bytes) c.in_ok-insert.ensures.keys ∙ map-insert string_bytes ks c.in_ok-written.field-0
    ∙ ap₂ (λ b x. put_if b (map string_bytes ks) x) (sym c.if-occurrence.true) c.in_ok-written.ensures
