-- Where the tokens of a text stand in a larger text, of which it is the end.
use Rattle.std.specs.Prelude.{ℕ, ◌+◌, ◌++◌, length, Option, Some, None}
use Rattle.std.specs.Option.{option_map}
use Rattle.minijinja_syntax.specs.Texts.{Text}
use Rattle.minijinja_syntax.specs.Positions.{span_at}
use Rattle.minijinja_syntax.specs.declared.error.ErrorKind.{ErrorKind}
use Rattle.minijinja_syntax.specs.Streams.{SpannedTok, Ending, finished, refused}

-- the token, which stands as many bytes further on, in the lines and columns of the larger text
abbrev pub token_behind : (front text : Text) → SpannedTok → SpannedTok
token_behind front text t = (t.0, span_at (front ++ text) (length front + t.1.start_offset) (length front + t.1.end_offset))

-- the kind of a refusal, and where it begins if the given number of bytes stands before the text
abbrev pub refusal_behind : ℕ → Ending → Option (ErrorKind × Option ℕ)
refusal_behind bytes finished = None
refusal_behind bytes (refused kind span) = Some (kind, option_map (λ s. bytes + s.start_offset) span)
