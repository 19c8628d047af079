use Rattle.minijinja_syntax.specs.private.SyntaxFields.{syntax_of}
use Rattle.minijinja_syntax.proofs.Braces.{default_from_all, all_from_default}
use Rattle.minijinja_syntax.proofs.syntax.Settings.has_default_starts.Goals as goal

pub returns : goal.returns
returns c =
    let s = syntax_of c.args.self.now in
    (λ t. default_from_all s (c.all_start_by_default.ensures.0 t), λ h. c.all_start_by_default.ensures.1 (all_from_default s h))
