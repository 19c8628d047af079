use Rattle.std.proofs.Common.{◌≡◌, subst, sym, ◌∙◌, ap}
use Rattle.std.specs.List.{prefix_len}
use Rattle.std.specs.Char.{is_ascii_whitespace}
use Rattle.std.specs.Str.{IsCharBoundary}
use Rattle.std.proofs.lemmas.List.Sums.{prefix_len-le-length}
use Rattle.minijinja_lexer.proofs.Scanning.{ascii_run, space_low}
use Rattle.minijinja_lexer.proofs.scan.space_len.Goals as goal

pub returns-clause-boundary : goal.returns-clause-boundary
returns-clause-boundary c =
    let e : c.space_run.result ≡ prefix_len is_ascii_whitespace c.args.text.now = c.space_run.ensures ∙ ap (prefix_len is_ascii_whitespace) c.as_bytes.ensures.value in
    subst (λ m. IsCharBoundary c.args.text.now m) (sym e) (ascii_run is_ascii_whitespace c.args.text.now space_low c.utf8.text (prefix_len-le-length is_ascii_whitespace c.args.text.now))
