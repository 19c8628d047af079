-- Places in the plain text ahead of a cursor, and on the next line.
use Rattle.std.proofs.Common.{◌≡◌, ℕ, ◌+◌, ◌-◌, ◌<◌, ◌≤◌, take, length, get_or, min, refl, ap, sym, ◌∙◌, arith}
use Rattle.std.specs.Str.{IsCharBoundary, IsUtf8}
use Rattle.std.proofs.lemmas.Str.{IsCharBoundary-after_ascii}
use Rattle.minijinja_syntax.specs.Positions.{line_after, column_after, span_at}
use Rattle.minijinja_syntax.specs.declared.tokens.Span.{Span}
use Rattle.minijinja_lexer.specs.declared.cursor.Cursor.TheInside.{Inside}
use Rattle.minijinja_lexer.specs.private.AtCursor.{IsCursor}
use Rattle.minijinja_lexer.specs.private.Place.{next_line, next_column}
use Rattle.minijinja_lexer.specs.private.Plain.{IsPlain}
use Rattle.minijinja_lexer.proofs.Counting.{line_step, column_step}
use Rattle.minijinja_lexer.proofs.Plain.{plain_line, plain_column}

module _ (a : Inside) (is : IsCursor a) (to : ℕ) (onwards : a.at ≤ to) (ahead : to ≤ a.plain) (boundary : IsCharBoundary a.text.now to) where
  pub line_ahead : a.line ≡ line_after (take to a.text.now)
  line_ahead = plain_line a.text.now a.at to a.plain a.line onwards ahead boundary.0 is.plain is.line

  pub column_ahead : min 65535 (to - a.origin) ≡ column_after (take to a.text.now)
  column_ahead =
      let o = is.origin in
      plain_column a.text.now a.at to a.plain (min 65535 (a.at - a.origin)) (min 65535 (to - a.origin)) onwards ahead boundary.0 is.plain is.column (omega (arith, o, onwards))

  pub cursor_ahead : IsCursor (record a { at = to })
  cursor_ahead = record {
    short = is.short;
    boundary = boundary;
    line = line_ahead;
    origin = let o = is.origin in omega (arith, o, onwards);
    column = column_ahead;
    ahead = ahead;
    plain = λ k low high. is.plain k (omega (arith, onwards, low)) high;
    exact = is.exact;
    counted = is.counted;
  }

-- the span of a stretch in the exact part of the plain text ahead
abbrev span_of : ℕ → ℕ → ℕ → ℕ → ℕ → ℕ → Span
span_of start_line start_col start_offset end_line end_col end_offset = record {
  start_line = start_line;
  start_col = start_col;
  start_offset = start_offset;
  end_line = end_line;
  end_col = end_col;
  end_offset = end_offset;
}

module _ (a : Inside) (is : IsCursor a) (start stop : ℕ) (onwards : a.at ≤ start) (ordered : start ≤ stop) (ahead : stop ≤ a.exact) (start_boundary : IsCharBoundary a.text.now start) (stop_boundary : IsCharBoundary a.text.now stop) where
  column_is : (to : ℕ) → a.at ≤ to → to ≤ stop → IsCharBoundary a.text.now to → to - a.origin ≡ column_after (take to a.text.now)
  column_is to from before boundary =
      let exact = is.exact in
      let counted = is.counted in
      let low : to - a.origin ≡ min 65535 (to - a.origin) = omega (arith, counted, before, ahead) in
      low ∙ column_ahead a is to from (omega (arith, exact, before, ahead)) boundary

  line_is : (to : ℕ) → a.at ≤ to → to ≤ stop → IsCharBoundary a.text.now to → a.line ≡ line_after (take to a.text.now)
  line_is to from before boundary = let exact = is.exact in line_ahead a is to from (omega (arith, exact, before, ahead)) boundary

  pub span_ahead : span_of a.line (start - a.origin) start a.line (stop - a.origin) stop ≡ span_at a.text.now start stop
  span_ahead =
      ap (λ l. span_of l (start - a.origin) start a.line (stop - a.origin) stop) (line_is start onwards ordered start_boundary)
      ∙ ap (λ c. span_of (line_after (take start a.text.now)) c start a.line (stop - a.origin) stop) (column_is start onwards ordered start_boundary)
      ∙ ap (λ l. span_of (line_after (take start a.text.now)) (column_after (take start a.text.now)) start l (stop - a.origin) stop) (line_is stop (omega (arith, onwards, ordered)) (omega arith) stop_boundary)
      ∙ ap (λ c. span_of (line_after (take start a.text.now)) (column_after (take start a.text.now)) start (line_after (take stop a.text.now)) c stop) (column_is stop (omega (arith, onwards, ordered)) (omega arith) stop_boundary)

-- a newline stands where the plain text ahead ends, and after it there is plain text again
module _ (a : Inside) (is : IsCursor a) (utf8 : IsUtf8 a.text.now) (within : a.plain < length a.text.now) (newline : get_or a.text.now a.plain 0 ≡ 10) (plain exact line : ℕ) (onwards : a.plain + 1 ≤ plain) (ahead : IsPlain a.text.now (a.plain + 1) plain) (below : exact ≤ plain) (counted : exact ≤ a.plain + 1 + 65535) (next : line ≡ min 65535 (a.line + 1)) where
  line_begun : line ≡ line_after (take (a.plain + 1) a.text.now)
  line_begun =
      line_step a.text.now a.text.now a.plain a.line line refl within
      (plain_line a.text.now a.at a.plain a.plain a.line is.ahead (omega arith) (omega (arith, within)) is.plain is.line) (next ∙ sym (ap (next_line a.line) newline))

  column_begun : 0 ≡ column_after (take (a.plain + 1) a.text.now)
  column_begun = column_step a.text.now a.text.now a.plain (column_after (take a.plain a.text.now)) 0 refl within refl (sym (ap (next_column (column_after (take a.plain a.text.now))) newline))

  pub cursor_begun : IsCursor (record { text = a.text; at = a.plain + 1; plain = plain; exact = exact; origin = a.plain + 1; line = line })
  cursor_begun = record {
    short = is.short;
    boundary = IsCharBoundary-after_ascii a.text.now a.plain utf8 within (omega (arith, newline));
    line = line_begun;
    origin = omega arith;
    column = (let none : min 65535 (a.plain + 1 - (a.plain + 1)) ≡ 0 = omega arith in none) ∙ column_begun;
    ahead = onwards;
    plain = ahead;
    exact = below;
    counted = counted;
  }
