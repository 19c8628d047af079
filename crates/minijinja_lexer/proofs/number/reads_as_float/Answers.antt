use Rattle.std.proofs.Common.{◌≡◌, arith, ap, sym, ◌∙◌, get_or}
use Rattle.std.proofs.lemmas.Str.{IsCharBoundary-after_ascii}
use Rattle.minijinja_lexer.proofs.Scanning.{get_some}
use Rattle.minijinja_lexer.proofs.number.reads_as_float.Goals as goal

pub range_from-rest-requires : goal.range_from-rest-requires
range_from-rest-requires c = λ _.
    let dot : get_or c.args.text.now 0 0 ≡ 46 = sym (c.byte_at-first.ensures ∙ ap (λ t. get_or t 0 0) c.as_bytes.ensures.value) ∙ c.if-first-ne46.false.1 in
    IsCharBoundary-after_ascii c.args.text.now 0 c.utf8.text (get_some c.args.text.now 0 (omega (arith, dot))) (omega (arith, dot))
