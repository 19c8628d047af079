use Rattle.std.proofs.Common.{◌≡◌, ◌+◌, ◌-◌, ◌<◌, drop, take, length, arith, sym, ap, ◌∙◌, subst}
use Rattle.std.specs.String.{string_bytes}
use Rattle.minijinja_lexer.specs.private.AsciiEnds.{EndsInAscii}
use Rattle.minijinja_lexer.specs.Escapes.{escape}
use Rattle.std.proofs.lemmas.List.{take_rest}
use Rattle.minijinja_lexer.proofs.Escaping.{Decoded, decoded_start, decoded_plain, decoded_escape, plain_moves, decoded_end}
use Rattle.minijinja_lexer.proofs.escape.unescape.Goals as goal

pub loop-at-init : goal.loop-at-init
loop-at-init c = decoded_start c.args.inside.now _ c.utf8.inside c.in_ok-decoded.ensures.bytes

pub loop-at-preserved-in-Some : goal.loop-at-preserved-in-Some
loop-at-preserved-in-Some c =
    let inside = c.args.inside.now in
    let at = c.loop-at.at + c.plain_len-plain.result in
    let there : c.range_from-rest.result.now ≡ drop c.loop-at.at inside = c.range_from-rest.ensures.value in
    let whole : c.plain_len-plain.result - 0 ≡ c.plain_len-plain.result = omega arith in
    let plain = decoded_plain inside _ c.loop-at.at c.loop-at.invariant c.range_from-rest.result.now c.range.result.now c.plain_len-plain.result there c.plain_len-plain.ensures.boundary c.plain_len-plain.ensures.value (c.range.ensures.value ∙ ap (λ k. take k c.range_from-rest.result.now) whole) in
    let d : Decoded inside (string_bytes c.push_str.new.self) at = subst (λ t. Decoded inside t at) (sym c.in_ok-push_str.ensures.bytes) plain in
    let slice = take_rest c.as_bytes.result.now at ∙ ap (drop at) c.as_bytes.ensures.value in
    subst (λ t. Decoded inside t (at + c.in-Some.len)) (sym c.in_ok-push.ensures.bytes)
    (decoded_escape inside (string_bytes c.push_str.new.self) at d c.in-Some.c c.in-Some.len c.utf8.inside (ap escape (sym slice) ∙ sym c.in-Some.ensures.value) (subst (λ t. EndsInAscii t c.in-Some.len) slice c.in-Some.ensures.places))

pub loop-at-preserved : goal.loop-at-preserved
loop-at-preserved c =
    let inside = c.args.inside.now in
    let at = c.loop-at.at + c.plain_len-plain.result in
    let there : c.range_from-rest.result.now ≡ drop c.loop-at.at inside = c.range_from-rest.ensures.value in
    let whole : c.plain_len-plain.result - 0 ≡ c.plain_len-plain.result = omega arith in
    let plain = decoded_plain inside _ c.loop-at.at c.loop-at.invariant c.range_from-rest.result.now c.range.result.now c.plain_len-plain.result there c.plain_len-plain.ensures.boundary c.plain_len-plain.ensures.value (c.range.ensures.value ∙ ap (λ k. take k c.range_from-rest.result.now) whole) in
    subst (λ t. Decoded inside t at) (sym c.in_ok-push_str.ensures.bytes) plain

pub loop-at-smaller : goal.loop-at-smaller
loop-at-smaller c =
    let inside = c.args.inside.now in
    let at = c.loop-at.at + c.plain_len-plain.result in
    let slice = take_rest c.as_bytes.result.now at ∙ ap (drop at) c.as_bytes.ensures.value in
    let some : 0 < c.plain_len-plain.result =
    plain_moves inside _ c.loop-at.at c.loop-at.invariant c.range_from-rest.result.now c.plain_len-plain.result c.range_from-rest.ensures.value c.requires c.loop-at-test.true c.plain_len-plain.ensures.backslash (ap escape (sym slice) ∙ sym c.escape.ensures.value ∙ c.in_default.is) in
    let less : length inside - at < length inside - c.loop-at.at = omega arith in
    less

pub returns : goal.returns
returns c = decoded_end c.args.inside.now _ c.loop-at.at c.loop-at.invariant c.loop-at-test.false
