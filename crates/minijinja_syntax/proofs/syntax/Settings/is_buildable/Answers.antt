use Rattle.std.proofs.Common.{◌≡◌, Bool, true, false}
use Rattle.minijinja_syntax.specs.private.SyntaxFields.{syntax_of}
use Rattle.minijinja_syntax.proofs.Building.{buildable_from, both_of, apart_of}
use Rattle.minijinja_syntax.proofs.syntax.Settings.is_buildable.Goals as goal

true_and_false : {b : Bool} → b ≡ true → b ≡ false → ⊥
true_and_false t f = cc

pub returns-then-have_both : goal.returns-then-have_both
returns-then-have_both c =
    let s = syntax_of c.args.self.now in
    (λ t. buildable_from s (c.have_both.ensures.0 c.if-have_both.true) (c.are_all_apart.ensures.0 t), λ built. c.are_all_apart.ensures.1 (apart_of s built))

pub returns-else-have_both : goal.returns-else-have_both
returns-else-have_both c = (λ t. absurd (true_and_false t c.if-have_both.false), λ built. c.have_both.ensures.1 (both_of (syntax_of c.args.self.now) built))
