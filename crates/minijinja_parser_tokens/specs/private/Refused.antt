-- Places where a refusal is all that is left.
use Rattle.std.specs.Prelude.{◌≡◌, [], Option, Some, None}
use Rattle.minijinja_syntax.specs.Errors.{kind_of, span_of}
use Rattle.minijinja_syntax.specs.Streams.{Ending, finished, refused}
use Rattle.minijinja_syntax.specs.declared.error.Error.{Error}
use Rattle.minijinja_grammar.specs.Places.{Place}

-- no token is left, only that ending
abbrev pub ended_at : Place → Ending → Place
ended_at p ending = record p { tokens = []; ending = ending }

-- the refusal that no token precedes
abbrev pub Refused : Place → Option Error → Type 0
Refused p (Some e) = (p.tokens ≡ []) × (p.ending ≡ refused (kind_of e) (span_of e))
Refused p None = p.tokens ≡ [] → p.ending ≡ finished
