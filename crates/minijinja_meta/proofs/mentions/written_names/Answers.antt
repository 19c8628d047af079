use Rattle.std.proofs.Common.{◌≡◌, suc, ◌-◌, ◌<◌, length, drop, map, arith, ap, sym, ◌∙◌}
use Rattle.minijinja_meta.specs.Mentions.{free_of, in_order}
use Rattle.minijinja_meta.specs.Occurrences.{found_of, mention_of}
use Rattle.minijinja_meta.specs.private.Written.{put_if}
use Rattle.minijinja_meta.specs.private.Written.{name_written}
use Rattle.minijinja_meta.proofs.Written.{drop-before, put-first}
use Rattle.minijinja_meta.proofs.mentions.written_names.Goals as goal

pub loop-left-preserved : goal.loop-left-preserved
loop-left-preserved g c =
    let v = g.V.TemplateValue.contents in
    let f = (name_written c.args.with_attributes) in
    let n = c.loop-left.left in
    let e : n ≡ suc (n - 1) = omega arith in
    let below : n - 1 < length c.args.found.now = omega (arith, c.loop-left.invariant.within) in
    let x = c.index-found-left.result in
    record {
      names = c.in_ok-put_written.ensures ∙ ap (λ l. put_if x.is_free l (f (mention_of v x))) c.loop-left.invariant.names
          ∙ sym (put-first f (mention_of v x) x.is_free (found_of v (drop n c.args.found.now)))
          ∙ ap (λ l. in_order (map f (free_of (found_of v l)))) (sym (drop-before c.args.found.now (n - 1) n x e below c.index-found-left.is));
      within = omega (arith, c.loop-left.invariant.within);
    }
