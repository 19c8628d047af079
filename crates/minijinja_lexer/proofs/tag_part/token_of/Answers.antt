use Rattle.std.proofs.Common.{ap, ◌∙◌, Ok}
use Rattle.std.specs.Prelude.{is_some}
use Rattle.minijinja_lexer.specs.private.Views.{sort_view}
use Rattle.minijinja_lexer.specs.Escapes.{unescaped}
use Rattle.minijinja_lexer.proofs.Tokens.{string_means, some_is}
use Rattle.minijinja_lexer.proofs.tag_part.token_of.Goals as goal

pub unescape-requires : goal.unescape-requires
unescape-requires c =
    let l = c.args.lexeme in
    let scanned = c.requires.scanned ∙ ap (λ x. Ok (sort_view x, l.stop)) c.in-String.is in
    some_is _ (ap (λ t. is_some (unescaped t)) c.range-in-String.ensures.value ∙ string_means c.args.text.now l.start l.stop scanned)
