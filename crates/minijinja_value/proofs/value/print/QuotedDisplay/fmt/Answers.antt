use Rattle.std.proofs.Common.{rules, arith, ◌≡◌, ℕ, List, ◌+◌, ◌<◌, ◌++◌, ◌∷◌, [], length, get_or, take, refl, true, ap, sym, subst, ◌∙◌}
use Rattle.std.proofs.lemmas.Str.{IsCharBoundary-start, IsCharBoundary-after_ascii}
use Rattle.std.proofs.Output.{has_written_append, has_written_of_eq}
use Rattle.std.specs.List.{flat_map}
use Rattle.std.specs.Str.{IsUtf8}
use Rattle.minijinja_text.specs.Quotes.{escaped, quoted, quote_mark}
use Rattle.minijinja_text.specs.Texts.{slice}
use Rattle.minijinja_value.proofs.Quotes.{ArePlain, none_plain, plain_more, written_more, written_whole}
use Rattle.minijinja_value.proofs.value.print.QuotedDisplay.fmt.Goals as goal
use Rattle.minijinja_value.proofs.value.print.QuotedDisplay.fmt.Goals.{in-Some+in_ok-write_str-2+in_ok-write_str-3, in_default}

pub loop-at-init : goal.loop-at-init
loop-at-init g c = record {
  same = c.as_bytes-byte-items.ensures.value;
  in_order = omega arith;
  boundary = IsCharBoundary-start _ (subst IsUtf8 c.as_bytes-byte-items.ensures.value c.as_bytes-byte-items.ensures.utf8);
  plain = none_plain _ 0;
  written = search rules;
}

pub loop-at-preserved : goal.loop-at-preserved
loop-at-preserved g c =
    let text = c.args.self.now.0.now in
    let at = c.loop-at.at in
    let start = c.loop-at.plain_start in
    let value = c.as_bytes-byte-items.ensures.value in
    let utf8 : IsUtf8 text = subst IsUtf8 value c.as_bytes-byte-items.ensures.utf8 in
    let inside : at < length text = omega (arith, ap length value) in
    let byte : get_or text at 0 ≡ get_or c.as_bytes-byte-items.result.now at 0 = ap (λ (bytes : List ℕ). get_or bytes at 0) (sym value) in
    elim c.match-escape_of.branch [
      | in-Some+in_ok-write_str-2+in_ok-write_str-3 w ↦
          let escape : escaped (get_or text at 0) ≡ w.in-Some.escape.now = ap escaped byte ∙ w.in-Some.ensures.text in
          let ascii : get_or text at 0 < 128 = omega (arith, byte, w.in-Some.ensures.ascii) in
          let before = quote_mark ∷ flat_map escaped (take start text) in
          let bytes : before ++ (w.range.result.now ++ w.in-Some.escape.now) ≡ quote_mark ∷ flat_map escaped (take (at + 1) text) =
          ap (λ (front : List ℕ). before ++ (front ++ w.in-Some.escape.now)) w.range.ensures.value
          ∙ ap (λ (last : List ℕ). before ++ (slice text start at ++ last)) (sym escape)
          ∙ written_more text start at inside c.loop-at.invariant.plain
          in
          record {
            same = value;
            in_order = omega arith;
            boundary = rw w.plain_start-is (IsCharBoundary-after_ascii text at utf8 inside ascii);
            plain = rw w.plain_start-is (none_plain text (at + 1));
            written = λ p.
                let so_far = c.loop-at.invariant.written p in
                let front = w.in_ok-write_str-2.ensures.writes so_far.plain (refl {a = true}) in
                let last = w.in_ok-write_str-3.ensures.writes front.plain (refl {a = true}) in
                rw (w.plain_start-is, w.f-is) (has_written_of_eq _ _ _ _ _ bytes (has_written_append _ _ _ _ _ _ so_far (has_written_append _ _ _ _ _ _ front last)));
          }
      | in_default w ↦
          let same : escaped (get_or text at 0) ≡ get_or text at 0 ∷ [] = ap escaped byte ∙ w.in_default.ensures.text ∙ ap (λ (b : ℕ). b ∷ []) (sym byte) in
          record {
            same = value;
            in_order = omega arith;
            boundary = rw w.plain_start-is c.loop-at.invariant.boundary;
            plain = rw w.plain_start-is (plain_more text start at c.loop-at.invariant.in_order inside same c.loop-at.invariant.plain);
            written = λ p. rw (w.plain_start-is, w.f-is) (c.loop-at.invariant.written p);
          }
    ]

pub returns-clause-writes : goal.returns-clause-writes
returns-clause-writes g c =
    let text = c.args.self.now.0.now in
    let start = c.loop-at.plain_start in
    let value = c.as_bytes-byte-items.ensures.value in
    let at_end : c.loop-at.at ≡ length text = omega (arith, ap length value) in
    let before = quote_mark ∷ flat_map escaped (take start text) in
    let bytes : before ++ (c.range_from.result.now ++ quote_mark ∷ []) ≡ quoted text =
    ap (λ (front : List ℕ). before ++ (front ++ quote_mark ∷ [])) c.range_from.ensures.value
    ∙ written_whole text start (subst (ArePlain text start) at_end c.loop-at.invariant.plain)
    in
    λ p ok.
    let so_far = c.loop-at.invariant.written p in
    let front = c.in_ok-write_str-4.ensures.writes so_far.plain (refl {a = true}) in
    has_written_of_eq _ _ _ _ _ bytes (has_written_append _ _ _ _ _ _ so_far (has_written_append _ _ _ _ _ _ front (c.write_str-3.ensures.writes front.plain ok)))
