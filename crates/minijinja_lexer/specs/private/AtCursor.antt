-- The model of `Cursor`: a place.
use Rattle.std.specs.Prelude.{◌≡◌, ◌+◌, ◌-◌, ◌<◌, ◌≤◌, ◌^◌, min, take, length}
use Rattle.std.specs.Str.{IsCharBoundary}
use Rattle.minijinja_syntax.specs.Positions.{line_after, column_after}
use Rattle.minijinja_lexer.specs.declared.cursor.Cursor.TheInside.{Inside}
use Rattle.minijinja_lexer.specs.private.Place.{Place}
use Rattle.minijinja_lexer.specs.private.Plain.{IsPlain}

-- its text, and where it is
abbrev pub cursor_view : Inside → Place
cursor_view a = record { text = a.text.now; at = a.at }

-- it is between characters, and its line and column are those of its place; in the exact part of
-- the plain text ahead the columns are at most 65535
pub record IsCursor (a : Inside) : Type 0 where
  pub short : length a.text.now < 2 ^ 32
  pub boundary : IsCharBoundary a.text.now a.at
  pub line : a.line ≡ line_after (take a.at a.text.now)
  pub origin : a.origin ≤ a.at
  pub column : min 65535 (a.at - a.origin) ≡ column_after (take a.at a.text.now)
  pub ahead : a.at ≤ a.plain
  pub plain : IsPlain a.text.now a.at a.plain
  pub exact : a.exact ≤ a.plain
  pub counted : a.exact ≤ a.origin + 65535
