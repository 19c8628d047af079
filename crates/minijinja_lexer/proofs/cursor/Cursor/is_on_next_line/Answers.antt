use Rattle.std.proofs.Common.{◌≡◌, ◌+◌, ◌<◌, length, get_or, min, ap, sym, ◌∙◌, subst, arith}
use Rattle.std.specs.Str.{IsCharBoundary, IsUtf8}
use Rattle.minijinja_syntax.specs.Texts.{Text}
use Rattle.minijinja_lexer.specs.private.Place.{Place}
use Rattle.minijinja_lexer.specs.private.AtCursor.{IsCursor}
use Rattle.minijinja_lexer.proofs.Cursors.{cursor_begun, cursor_ahead}
use Rattle.minijinja_lexer.proofs.cursor.Cursor.is_on_next_line.Goals as goal
use Rattle.minijinja_lexer.proofs.cursor.Cursor.is_on_next_line.Goals.{After-min-self-inside}

boundary : (c : After-min-self-inside) → IsCharBoundary c.self.inside.text.now c.args.to
boundary c = subst (λ (p : Place). IsCharBoundary p.text c.args.to) (sym c.self.view_is) c.requires.boundary

begun : (c : After-min-self-inside) → IsCursor (record { text = c.self.inside.text; at = c.self.inside.plain + 1; plain = c.plain_end-plain.result; exact = c.min-self-inside.result; origin = c.self.inside.plain + 1; line = c.stopped-self-inside.result })
begun c =
    let a = c.self.inside in
    let there = boundary c in
    let within : a.plain < length a.text.now = omega (arith, c.if-end-to.false, there.0) in
    let newline : get_or a.text.now a.plain 0 ≡ 10 = ap (λ (t : Text). get_or t a.plain 0) (sym c.as_bytes.ensures.value) ∙ c.if-as_bytes-end-ne10.false in
    cursor_begun a c.self.invariant (subst IsUtf8 c.as_bytes.ensures.value c.as_bytes.ensures.utf8) within newline c.plain_end-plain.result c.min-self-inside.result c.stopped-self-inside.result
    c.plain_end-plain.ensures.onwards c.plain_end-plain.ensures.plain (omega (arith, c.min-self-inside.ensures)) (omega (arith, c.min-self-inside.ensures))
    (c.stopped-self-inside.ensures ∙ ap (λ n. min 65535 (n + 1)) c.from.ensures)

pub invariant_of-self : goal.invariant_of-self
invariant_of-self c = begun (goal.at-invariant_of-self c).After-min-self-inside

pub invariant_of-self-2 : goal.invariant_of-self-2
invariant_of-self-2 c =
    let d = (goal.at-invariant_of-self-2 c).After-min-self-inside in
    cursor_ahead _ (begun d) c.args.to (omega (arith, c.if-end-to.false)) (omega (arith, c.if-to-plain.false)) (boundary d)
