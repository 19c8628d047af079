use Rattle.std.proofs.Common.{◌<◌, ◌-◌, length, take, drop, refl, sym, ap, ◌∙◌, subst, get_or, arith}
use Rattle.std.proofs.lemmas.List.{take_rest}
use Rattle.minijinja_lexer.specs.Quoted.{is_quote, quoted_len}
use Rattle.minijinja_lexer.specs.private.TokenPlaces.{ScanPlaces}
use Rattle.minijinja_lexer.proofs.Scanning.{quote_low}
use Rattle.minijinja_lexer.proofs.Quoting.{quoted_found, quoted_open, quoted_places}
use Rattle.minijinja_lexer.proofs.quoted.quoted.Goals as goal

pub returns-then-len-rest-clause-value : goal.returns-then-len-rest-clause-value
returns-then-len-rest-clause-value c =
    let bytes = c.as_bytes-bytes.result.now in
    let there = take_rest bytes 1 ∙ ap (drop 1) c.as_bytes-bytes.ensures.value in
    quoted_open c.args.text.now _ c.quoted_len-len.result there (c.quoted_len-len.ensures.value ∙ ap (λ t. quoted_len (get_or t 0 0) (take (length bytes - 1) (drop 1 bytes))) c.as_bytes-bytes.ensures.value) c.if-len-rest.true

pub returns-clause-value : goal.returns-clause-value
returns-clause-value c =
    let bytes = c.as_bytes-bytes.result.now in
    let there = take_rest bytes 1 ∙ ap (drop 1) c.as_bytes-bytes.ensures.value in
    let within : c.quoted_len-len.result < length (take (length bytes - 1) (drop 1 bytes)) = let w = c.quoted_len-len.ensures.within in let f = c.if-len-rest.false in omega (arith, w, f) in
    c.quoted_inside.ensures
    ∙ quoted_found c.args.text.now _ c.quoted_len-len.result there (c.quoted_len-len.ensures.value ∙ ap (λ t. quoted_len (get_or t 0 0) (take (length bytes - 1) (drop 1 bytes))) c.as_bytes-bytes.ensures.value) _ within refl

pub returns-clause-places : goal.returns-clause-places
returns-clause-places c =
    let bytes = c.as_bytes-bytes.result.now in
    let there = take_rest bytes 1 ∙ ap (drop 1) c.as_bytes-bytes.ensures.value in
    let within : c.quoted_len-len.result < length (take (length bytes - 1) (drop 1 bytes)) = let w = c.quoted_len-len.ensures.within in let f = c.if-len-rest.false in omega (arith, w, f) in
    let q = quote_low _ (ap (λ s. is_quote (get_or s 0 0)) c.as_bytes-bytes.ensures.value ∙ c.requires) in
    subst (ScanPlaces c.args.text.now 0) (sym c.quoted_inside.ensures)
    (quoted_places c.args.text.now _ (take c.quoted_len-len.result (take (length bytes - 1) (drop 1 bytes))) c.quoted_len-len.result _ c.utf8.text there within (c.quoted_len-len.ensures.found within) q (ap (λ s. get_or s 0 0) (sym c.as_bytes-bytes.ensures.value)) refl)
