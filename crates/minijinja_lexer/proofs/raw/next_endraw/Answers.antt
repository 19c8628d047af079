use Rattle.std.proofs.Common.{◌≡◌, ◌+◌, ◌∙◌, sym, ap, length, arith}
use Rattle.minijinja_syntax.specs.declared.syntax.StartMarker.TheVariants.{Block}
use Rattle.minijinja_lexer.specs.private.Views.{end_view}
use Rattle.minijinja_lexer.specs.Raw.{endraw_at, next_endraw, or_later}
use Rattle.minijinja_lexer.specs.Cut.{next_delimiter}
use Rattle.minijinja_lexer.proofs.Searching.{endraw-none, endraw-found, endraw-over}
use Rattle.minijinja_lexer.proofs.raw.next_endraw.Goals as goal
use Rattle.minijinja_lexer.proofs.raw.next_endraw.Goals.{After-endraw_at}

pub next_delimiter-place-requires-clause-some : goal.next_delimiter-place-requires-clause-some
next_delimiter-place-requires-clause-some c = let l = ap length c.block_delimiters.ensures.start in let some = c.block_delimiters.ensures.built.delimiters Block tt in omega (arith, l, some.0)

pub returns-then-place-text-clause-value : goal.returns-then-place-text-clause-value
returns-then-place-text-clause-value c =
    let s = c.args.syntax.now in
    sym (sym c.loop-from.invariant.0
    ∙ endraw-none s c.args.text.now c.loop-from.from c.next_delimiter-place.result (omega arith)
    (sym (c.next_delimiter-place.ensures.value ∙ ap (λ d. next_delimiter d c.args.text.now c.loop-from.from) c.block_delimiters.ensures.start))
    c.if-place-text.true)

-- the block start that is found
pub found : (c : After-endraw_at) → next_endraw c.args.syntax.now c.args.text.now c.loop-from.from ≡ or_later c.next_delimiter-place.result (end_view c.endraw_at.result) (next_endraw c.args.syntax.now c.args.text.now (c.next_delimiter-place.result + length c.args.syntax.now.block_start))
found c =
    let s = c.args.syntax.now in
    let l = ap length c.block_delimiters.ensures.start in
    endraw-found s c.args.text.now c.loop-from.from c.next_delimiter-place.result (end_view c.endraw_at.result) (c.block_delimiters.ensures.built.delimiters Block tt).0 (omega arith)
    (sym (c.next_delimiter-place.ensures.value ∙ ap (λ d. next_delimiter d c.args.text.now c.loop-from.from) c.block_delimiters.ensures.start))
    (let w = c.next_delimiter-place.ensures.within in let f = c.if-place-text.false in omega (arith, w, f))
    (ap (λ n. endraw_at s c.args.text.now (c.next_delimiter-place.result + n)) (sym l) ∙ sym c.endraw_at.ensures.value)

pub returns-in-Some-clause-value : goal.returns-in-Some-clause-value
returns-in-Some-clause-value c =
    let d = (goal.at-returns-in-Some-clause-value c).After-endraw_at in
    let s = c.args.syntax.now in
    let p = c.next_delimiter-place.result in
    sym (ap (λ x. or_later p (end_view x) (next_endraw s c.args.text.now (p + length s.block_start))) c.in-Some.is) ∙ sym (found d) ∙ c.loop-from.invariant.0

pub loop-from-smaller : goal.loop-from-smaller
loop-from-smaller c =
    let l = ap length c.block_delimiters.ensures.start in
    let some = c.block_delimiters.ensures.built.delimiters Block tt in
    let w = c.next_delimiter-place.ensures.within in
    let f = c.if-place-text.false in
    let e = c.next_delimiter-place.ensures.end (omega (arith, w, f)) in
    omega (arith, l, some.0, w, e.0)

pub loop-from-preserved : goal.loop-from-preserved
loop-from-preserved c =
    let d = (goal.at-loop-from-preserved c).After-endraw_at in
    let s = c.args.syntax.now in
    let p = c.next_delimiter-place.result in
    let l = ap length c.block_delimiters.ensures.start in
    let w = c.next_delimiter-place.ensures.within in
    let f = c.if-place-text.false in (
      ap (λ n. next_endraw s c.args.text.now (p + n)) l
          ∙ sym (ap (λ x. or_later p (end_view x) (next_endraw s c.args.text.now (p + length s.block_start))) c.in_default.is) ∙ sym (found d) ∙ c.loop-from.invariant.0,
      c.next_delimiter-place.ensures.end (omega (arith, w, f)),
      omega arith,
    )

pub returns-clause-value : goal.returns-clause-value
returns-clause-value c = sym (sym c.loop-from.invariant.0 ∙ endraw-over c.args.syntax.now c.args.text.now c.loop-from.from (omega arith))
