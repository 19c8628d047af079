use Rattle.std.proofs.Common.{◌≤◌, subst, sym}
use Rattle.std.specs.Str.{IsCharBoundary}
use Rattle.minijinja_lexer.specs.private.Place.{Place}
use Rattle.minijinja_lexer.proofs.Cursors.{cursor_ahead}
use Rattle.minijinja_lexer.proofs.cursor.Cursor.advance.Goals as goal

pub invariant_of-self : goal.invariant_of-self
invariant_of-self c =
    let cursor = c.self.inside in
    let boundary : IsCharBoundary cursor.text.now c.args.to = subst (λ (p : Place). IsCharBoundary p.text c.args.to) (sym c.self.view_is) c.requires.boundary in
    let onwards : cursor.at ≤ c.args.to = subst (λ (p : Place). p.at ≤ c.args.to) (sym c.self.view_is) c.requires.onwards in
    cursor_ahead cursor c.self.invariant c.args.to onwards c.if-to-self.true boundary
