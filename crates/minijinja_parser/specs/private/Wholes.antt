-- Whole texts: what is read up to the end of the tokens, and refusals that stand.
use Rattle.std.specs.Prelude.{◌≡◌, ◌≢◌, [], Some, Result, Ok, Err}
use Rattle.minijinja_syntax.specs.Errors.{kind_of, span_of}
use Rattle.minijinja_syntax.specs.Streams.{SpannedTok, Ending, finished, refused}
use Rattle.minijinja_syntax.specs.declared.tokens.Span.{Span}
use Rattle.minijinja_syntax.specs.declared.error.Error.{Error}
use Rattle.minijinja_syntax.specs.declared.error.ErrorKind.TheVariants.{OutOfMemory, SyntaxError}
use Rattle.minijinja_grammar.specs.Places.{Place}
use Rattle.minijinja_grammar.specs.internal.Forms.{Read, got, short, wrong, Takes}
use Rattle.minijinja_parser_tokens.specs.declared.refusal.Refusal.{Refusal}
use Rattle.minijinja_parser_tokens.specs.declared.refusal.Refusal.TheVariants as refusal

-- nothing is left
pub record IsOver (p : Place) : Type 0 where
  pub none_left : p.tokens ≡ []
  pub unrefused : p.ending ≡ finished

-- a refusal is all that is left
pub record IsRefused (p : Place) : Type 0 where
  pub none_left : p.tokens ≡ []
  pub refused : p.ending ≢ finished

-- the next token was taken
abbrev pub HasTakenOne : Place → Place → Type 0
HasTakenOne old new = (t : SpannedTok) × Takes Some old new t

-- nothing is left, or why not
abbrev pub Ends : Place → Result (Unit {0}) Refusal → Place → Type 0
Ends old (Ok x) new = IsOver old × (new ≡ old)
Ends old (Err refusal.OutOfMemory) new = Unit {0}
Ends old (Err (refusal.Ended w)) new = IsRefused old × (new ≡ old)
Ends old (Err (refusal.Wrong w)) new = HasTakenOne old new

-- reading came to the place, where a token is wanted or a refusal stands
abbrev pub IsCutAt : {A : Type 0} → Place → Read A → Type 0
IsCutAt p (got x q) = (q ≡ p) × IsRefused p
IsCutAt p (short q) = q ≡ p
IsCutAt p (wrong q) = ⊥

-- a token does not fit, and reading came to the place after it
abbrev pub HasMisfit : {A : Type 0} → Place → Read A → Type 0
HasMisfit p (got x q) = HasTakenOne q p
HasMisfit p (short q) = ⊥
HasMisfit p (wrong q) = q ≡ p

-- all tokens are read, or why not
abbrev pub ReadsWhole : {A X : Type 0} → (X → A) → Read A → Result X Refusal → Place → Type 0
ReadsWhole view read (Ok x) new = (read ≡ got (view x) new) × IsOver new
ReadsWhole view read (Err refusal.OutOfMemory) new = Unit {0}
ReadsWhole view read (Err (refusal.Ended w)) new = IsCutAt new read
ReadsWhole view read (Err (refusal.Wrong w)) new = HasMisfit new read

-- a syntax error that stands there
pub record IsSyntaxErrorAt (place : Span) (e : Error) : Type 0 where
  pub kind : kind_of e ≡ SyntaxError
  pub span : span_of e ≡ Some place

-- the error of tokens that end so, of which the last one stands there
abbrev pub IsOfEnding : Span → Ending → Error → Type 0
IsOfEnding last finished e = IsSyntaxErrorAt last e
IsOfEnding last (refused kind span) e = (kind_of e ≡ kind) × (span_of e ≡ span)

-- the error for a refusal at the place
abbrev pub IsErrorAt : Place → Refusal → Error → Type 0
IsErrorAt p refusal.OutOfMemory e = kind_of e ≡ OutOfMemory
IsErrorAt p (refusal.Ended w) e = p.tokens ≡ [] → IsOfEnding p.last p.ending e
IsErrorAt p (refusal.Wrong w) e = IsSyntaxErrorAt p.last e
