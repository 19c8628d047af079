use Rattle.std.proofs.Common.{ap, sym, ◌∙◌, ◌==◌}
use Rattle.std.specs.Prelude.{◌||◌}
use Rattle.minijinja_lexer.proofs.Scanning.{ascii_continues, mark_stops, small_letter_continues}
use Rattle.minijinja_lexer.proofs.name.continues_ascii.Goals as goal

pub returns-then-is_ascii_lowercase : goal.returns-then-is_ascii_lowercase
returns-then-is_ascii_lowercase c = sym (small_letter_continues c.args.byte (sym c.is_ascii_lowercase.ensures.value ∙ c.if-is_ascii_lowercase.true))

pub returns-then-byte-lt48 : goal.returns-then-byte-lt48
returns-then-byte-lt48 c = mark_stops c.args.byte c.if-byte-lt48.true

pub returns : goal.returns
returns c = ap (λ t. t || (c.args.byte == 95)) c.is_ascii_alphanumeric.ensures.value ∙ ascii_continues c.args.byte
