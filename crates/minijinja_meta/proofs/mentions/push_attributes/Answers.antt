use Rattle.std.proofs.Common.{◌≡◌, suc, ◌-◌, ◌<◌, ◌++◌, length, drop, get_or, map, arith, ap, sym, ◌∙◌}
use Rattle.std.proofs.Math.Utf8.{encode}
use Rattle.std.specs.Borrow.{Bor}
use Rattle.std.specs.Prelude.{[], reverse, string_bytes}
use Rattle.minijinja_syntax.specs.Texts.{Text}
use Rattle.minijinja_meta.specs.Mentions.{after_dots}
use Rattle.minijinja_meta.proofs.Written.{dots-more, drop-at}
use Rattle.minijinja_meta.proofs.mentions.push_attributes.Goals as goal

pub loop-left-preserved : goal.loop-left-preserved
unfolding encode
loop-left-preserved c =
    let xs = c.args.attributes.now in
    let n = c.loop-left.left in
    let e : n ≡ suc (n - 1) = omega arith in
    let below : n - 1 < length xs = omega (arith, c.loop-left.invariant.within) in
    let none : Bor Text = record { ref_ptr = (0, 0); now = [] } in
    let x = get_or xs (n - 1) none in
    let old = string_bytes c.args.text.now in
    record {
      text = c.in_ok-push_str.ensures.bytes ∙ ap (λ l. l ++ x.now) c.in_ok-push.ensures.bytes ∙ dots-more (string_bytes c.loop-left.text) old (drop n xs) x c.loop-left.invariant.text
          ∙ ap (λ ys. old ++ after_dots (reverse (map (λ x. x.now) ys))) (sym (drop-at xs (n - 1) n none e below));
      within = omega (arith, c.loop-left.invariant.within);
    }
