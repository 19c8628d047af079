-- Controls, line ends, and the whitespace that is skipped after an end or cut off before a marker.
use Rattle.std.specs.Prelude.{ℕ, ◌+◌, ◌-◌, Bool, true, false, not, ◌||◌, ◌&&◌, ◌==◌, if◌then◌else◌, min, List, [], ◌∷◌, length, take, drop, reverse, slice_index, Option, Some, None}
use Rattle.std.specs.List.{prefix_len, suffix_len, list_all, take_while}
use Rattle.std.specs.Char.{is_ascii_whitespace, is_whitespace, len_utf8}
use Rattle.std.specs.Str.{chars, trim_start, trim_end}
use Rattle.minijinja_syntax.specs.Texts.{Text}
use Rattle.minijinja_syntax.specs.Syntax.{Syntax, start_of}
use Rattle.minijinja_syntax.specs.Positions.{slice, is_newline}
use Rattle.minijinja_syntax.specs.Markers.{is_line_end, marker_at}
use Rattle.minijinja_syntax.specs.declared.syntax.StartMarker.{StartMarker}
use Rattle.minijinja_syntax.specs.declared.syntax.StartMarker.TheVariants as marker
use Rattle.minijinja_lexer.specs.Bytes.{minus_sign, plus_sign}
use Rattle.minijinja_lexer.specs.Controls.{Control, Absent, Remove, Preserve}

-- ---- controls

-- - removes whitespace and + keeps it
abbrev pub control_of : ℕ → Control
control_of b = if b == minus_sign then Remove else if b == plus_sign then Preserve else Absent

-- how many bytes a control has
abbrev pub control_len : Control → ℕ
control_len Absent = 0
control_len Remove = 1
control_len Preserve = 1

-- a control stands there
abbrev pub is_given : Control → Bool
is_given Absent = false
is_given Remove = true
is_given Preserve = true

-- the control at a place
abbrev pub control_at : Text → ℕ → Control
control_at text at = control_of (slice_index text at)

-- the control of a marker that ends at a place: a line statement's has none
abbrev pub control_behind : Text → ℕ → StartMarker → Control
control_behind text at marker.Variable = control_at text at
control_behind text at marker.Block = control_at text at
control_behind text at marker.Comment = control_at text at
control_behind text at marker.LineComment = control_at text at
control_behind text at marker.LineStatement = Absent

-- where the marker at a place ends, its control included
abbrev pub body_of : Syntax → Text → StartMarker → ℕ → ℕ
body_of s text m at = let stop = at + length (start_of s m) in stop + control_len (control_behind text stop m)

-- the marker of a variable
abbrev pub is_variable : StartMarker → Bool
is_variable marker.Variable = true
is_variable marker.Block = false
is_variable marker.Comment = false
is_variable marker.LineStatement = false
is_variable marker.LineComment = false

-- the marker of a line statement or of a line comment
abbrev pub is_of_line : StartMarker → Bool
is_of_line marker.Variable = false
is_of_line marker.Block = false
is_of_line marker.Comment = false
is_of_line marker.LineStatement = true
is_of_line marker.LineComment = true

-- ---- places

-- the first place from `at` on that holds no ASCII whitespace
abbrev pub past_space : Text → ℕ → ℕ
past_space text at = at + prefix_len is_ascii_whitespace (drop at text)

-- whitespace other than \r and \n
abbrev pub is_line_space : ℕ → Bool
is_line_space c = is_whitespace c && not (is_line_end c)

-- the bytes of the characters at the front that are whitespace other than \r and \n
abbrev pub line_space_run : List ℕ → ℕ
line_space_run [] = 0
line_space_run (c ∷ cs) = if is_line_space c then len_utf8 c + line_space_run cs else 0

-- Their length in a text. The bound is for bytes that are not UTF-8, of which `chars` may make
-- longer characters.
abbrev pub line_space_len : Text → ℕ
line_space_len text = min (length text) (line_space_run (chars text))

-- the first place from `at` on that holds no whitespace other than \r and \n
abbrev pub past_line_space : Text → ℕ → ℕ
past_line_space text at = at + line_space_len (drop at text)

-- one \r and then one \n at the front, if they stand there: a line end, or nothing
abbrev pub line_end_len : Text → ℕ
line_end_len text =
    let r = if slice_index text 0 == 13 then 1 else 0 in  -- 13 is \r
    r + (if is_newline (slice_index text r) then 1 else 0)

-- ---- after an end

-- how much of the text after an end with the control is skipped
unfoldable pub tail_len : Syntax → StartMarker → Control → Text → ℕ
tail_len s m Remove text = length text - length (trim_start text)
tail_len s m Preserve text = 0
tail_len s m Absent text = if s.trim_blocks && not (is_variable m) then line_end_len text else 0

-- ---- before a marker

-- where the text's last line begins: after the last \r or \n
abbrev pub last_line : Text → ℕ
last_line text = length text - suffix_len (λ b. not (is_line_end b)) text

-- The length without the whitespace at the end. The bound is for bytes that are not UTF-8.
abbrev pub trimmed_len : Text → ℕ
trimmed_len text = min (length text) (length (trim_end text))

-- the characters after the last \r or \n, or all of them where there is none, the last one first
abbrev pub back_to_line_end : Text → List ℕ
back_to_line_end text = take_while (λ c. not (is_line_end c)) (reverse (chars text))

-- the last line has only whitespace: each of those characters is whitespace
unfoldable pub ends_blank : Text → Bool
ends_blank text = list_all is_whitespace (back_to_line_end text)

-- the place is the first, or after a \n
abbrev pub begins_line : Text → ℕ → Bool
begins_line text at = at == 0 || is_newline (slice_index text (at - 1))

-- The line rule: a blank last line is removed if nothing or a \n stands before it.
unfoldable pub line_kept_len : Text → ℕ
line_kept_len text = if ends_blank text && begins_line text (last_line text) then last_line text else length text

-- The line rule cuts data before a marker without a control: with lstrip_blocks where the line
-- before the marker is blank, unless it is a variable's marker; without it before the marker of a
-- line.
abbrev pub is_line_cut : Syntax → StartMarker → (before : Text) → Bool
is_line_cut s m before = if s.lstrip_blocks then not (is_variable m) && ends_blank before else is_of_line m

-- how much is kept of data before a marker with the control, of a text that has `before` before the
-- marker
unfoldable pub kept_len : Syntax → StartMarker → Control → (before text : Text) → ℕ
kept_len s m Remove before text = trimmed_len text
kept_len s m Preserve before text = length text
kept_len s m Absent before text = if is_line_cut s m before then line_kept_len text else length text

-- the place up to which data is kept before a marker that follows, or before the end of the text
abbrev pub kept_before : Syntax → Text → (start stop : ℕ) → Option StartMarker → ℕ
kept_before s text start stop None = stop
kept_before s text start stop (Some m) =
    start + kept_len s m (control_behind text (stop + length (start_of s m)) m) (take stop text) (slice text start stop)

-- the place up to which the data from a place to another is kept
unfoldable pub kept_stop : Syntax → Text → (start stop : ℕ) → ℕ
kept_stop s text start stop = kept_before s text start stop (marker_at s text stop)
