use Rattle.std.proofs.Common.{◌≤◌, ap, sym, ◌∙◌, subst, arith}
use Rattle.std.specs.Str.{IsCharBoundary}
use Rattle.minijinja_syntax.specs.Positions.{span_at}
use Rattle.minijinja_lexer.specs.private.Place.{Place}
use Rattle.minijinja_lexer.proofs.Cursors.{cursor_ahead, span_ahead}
use Rattle.minijinja_lexer.proofs.cursor.Cursor.span.Goals as goal

pub invariant_of-self : goal.invariant_of-self
invariant_of-self c =
    let a = c.self.inside in
    let boundary : IsCharBoundary a.text.now c.args.stop = subst (λ (p : Place). IsCharBoundary p.text c.args.stop) (sym c.self.view_is) c.requires.stop_boundary in
    let onwards : a.at ≤ c.args.start = subst (λ (p : Place). p.at ≤ c.args.start) (sym c.self.view_is) c.requires.onwards in
    let exact = c.self.invariant.exact in
    cursor_ahead a c.self.invariant c.args.stop (omega (arith, onwards, c.requires.ordered)) (omega (arith, exact, c.if-stop-self.true)) boundary

pub returns-then-stop-self-clause-span : goal.returns-then-stop-self-clause-span
returns-then-stop-self-clause-span c =
    let a = c.self.inside in
    let onwards : a.at ≤ c.args.start = subst (λ (p : Place). p.at ≤ c.args.start) (sym c.self.view_is) c.requires.onwards in
    let start_boundary : IsCharBoundary a.text.now c.args.start = subst (λ (p : Place). IsCharBoundary p.text c.args.start) (sym c.self.view_is) c.requires.start_boundary in
    let stop_boundary : IsCharBoundary a.text.now c.args.stop = subst (λ (p : Place). IsCharBoundary p.text c.args.stop) (sym c.self.view_is) c.requires.stop_boundary in
    span_ahead a c.self.invariant c.args.start c.args.stop onwards c.requires.ordered c.if-stop-self.true start_boundary stop_boundary
    ∙ ap (λ (p : Place). span_at p.text c.args.start c.args.stop) c.self.view_is
