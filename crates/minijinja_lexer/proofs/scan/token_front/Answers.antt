use Rattle.std.proofs.Common.{◌≡◌, ◌<◌, true, length, get_or, ap, sym, ◌∙◌, arith, subst, Ok}
use Rattle.std.specs.Char.{is_ascii_lowercase}
use Rattle.std.specs.Str.{IsCharBoundary}
use Rattle.minijinja_lexer.specs.Sorts.{Ident}
use Rattle.minijinja_lexer.specs.TokenAt.{is_behind_dot, token_front}
use Rattle.minijinja_lexer.specs.private.AsciiEnds.{EndsInAscii}
use Rattle.minijinja_syntax.specs.Texts.{Text}
use Rattle.minijinja_lexer.proofs.Scanning.{ascii_end}
use Rattle.minijinja_lexer.proofs.Letters.{letter_front, letter_some}
use Rattle.minijinja_lexer.proofs.scan.token_front.Goals as goal
use Rattle.minijinja_lexer.proofs.scan.token_front.Goals.{After-name_len}

-- the rest begins with a small letter
letter : (c : After-name_len) → is_ascii_lowercase (get_or c.range_from-rest.result.now 0 0) ≡ true
letter c = ap (λ t. is_ascii_lowercase (get_or t 0 0)) (sym c.as_bytes.ensures.value) ∙ sym c.is_ascii_lowercase.ensures.value ∙ c.if-is_ascii_lowercase.true

some : (c : After-name_len) → 0 < length c.range_from-rest.result.now
some c = let l = c.range_from-rest.ensures.len in omega (arith, l, c.requires.within)

pub returns-in-Some-clause-places : goal.returns-in-Some-clause-places
returns-in-Some-clause-places c =
    let rest = c.range_from-rest.result.now in
    let ends : EndsInAscii rest c.in-Some.len = subst (λ t. EndsInAscii t c.in-Some.len) c.as_bytes-2.ensures.value c.in-Some.ensures.places in
    let boundary = ascii_end rest c.in-Some.len c.range_from-rest.utf8 ends in
    record { some = ends.some; boundary = subst (λ (t : Text). IsCharBoundary t c.in-Some.len) c.range_from-rest.ensures.value boundary; inside = tt }

pub returns-then-is_ascii_lowercase-clause-value : goal.returns-then-is_ascii_lowercase-clause-value
returns-then-is_ascii_lowercase-clause-value c =
    let rest = c.range_from-rest.result.now in
    let dot = is_behind_dot c.args.text.now c.args.at in
    ap (λ n. Ok (Ident, n)) c.name_len.ensures.value ∙ letter_front rest c.range_from-rest.utf8 (some c) (letter c) dot ∙ ap (token_front dot) c.range_from-rest.ensures.value

pub returns-then-is_ascii_lowercase-clause-places : goal.returns-then-is_ascii_lowercase-clause-places
returns-then-is_ascii_lowercase-clause-places c =
    let rest = c.range_from-rest.result.now in
    let n = c.name_len.ensures.value in
    record {
      some = omega (arith, n, letter_some rest c.range_from-rest.utf8 (some c) (letter c));
      boundary = subst (λ (t : Text). IsCharBoundary t c.name_len.result) c.range_from-rest.ensures.value c.name_len.ensures.boundary;
      inside = tt;
    }
