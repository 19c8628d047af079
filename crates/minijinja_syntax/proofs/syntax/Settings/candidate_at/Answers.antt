use Rattle.std.proofs.Common.{sym, ap, ◌∙◌, get_or}
use Rattle.minijinja_syntax.specs.private.SyntaxFields.{syntax_of}
use Rattle.minijinja_syntax.specs.private.FirstBytes.{is_first_byte}
use Rattle.minijinja_syntax.proofs.Braces.{marker_at-unmet}
use Rattle.minijinja_syntax.proofs.syntax.Settings.candidate_at.Goals as goal

pub returns-else-contains-clause-value : goal.returns-else-contains-clause-value
returns-else-contains-clause-value c =
    let s = syntax_of c.args.self.now in
    sym (marker_at-unmet s c.args.text.now c.args.at
    (ap (λ f. is_first_byte f (get_or c.args.text.now c.args.at 0)) (sym c.requires.first)
    ∙ ap (λ t. is_first_byte c.args.first (get_or t c.args.at 0)) (sym c.as_bytes.ensures.value)
    ∙ sym c.contains.ensures ∙ c.if-contains.false))
