-- What a function of the parser returns: what reading a form comes to, unless memory is refused.
use Rattle.std.specs.Prelude.{◌≡◌, ℕ, List, [], ◌∷◌, Bool, true, false, if◌then◌else◌, Option, Some, None, Result, Ok, Err}
use Rattle.std.specs.Option.{option_map}
use Rattle.minijinja_syntax.specs.Texts.{Text}
use Rattle.minijinja_syntax.specs.declared.tokens.Span.{Span}
use Rattle.minijinja_syntax.specs.Tokens.{Tok, int, str}
use Rattle.minijinja_syntax.specs.Streams.{SpannedTok}
use Rattle.minijinja_grammar.specs.Words.{is}
use Rattle.minijinja_grammar.specs.internal.ExprForms.{ident_and_span, next}
use Rattle.minijinja_grammar.specs.Places.{Place}
use Rattle.minijinja_grammar.specs.internal.Forms.{Read, got, short, wrong, one, read_then, reads}
use Rattle.minijinja_grammar.specs.Ahead.{comes}
use Rattle.minijinja_parser_tokens.specs.declared.refusal.Refusal.{Refusal}
use Rattle.minijinja_parser_tokens.specs.declared.refusal.Refusal.TheVariants.{OutOfMemory, Ended, Wrong}

abbrev pub Reads : {A X : Type 0} → (X → A) → Read A → Result X Refusal → Place → Type 0
Reads view read (Ok x) new = read ≡ got (view x) new
Reads view read (Err OutOfMemory) new = Unit {0}
Reads view read (Err (Ended w)) new = read ≡ short new
Reads view read (Err (Wrong w)) new = read ≡ wrong new

-- whether that token comes next, and if so it is taken
abbrev pub eaten : Tok → Place → Read Bool
eaten m p = if comes (is m) p.tokens then read_then (reads (next m) p) (λ s q. got true q) else got false p

-- no token fits: none is left, or the next one does not
abbrev pub Misfits : Place → Refusal → Type 0
Misfits p OutOfMemory = ⊥
Misfits p (Ended w) = p.tokens ≡ []
Misfits p (Wrong w) = (t : SpannedTok) × (ts : List SpannedTok) × (p.tokens ≡ t ∷ ts)

-- where the next token stands, which is taken
abbrev pub skipped : Place → Read Span
skipped p = reads (one (λ t. Some t.1)) p

-- the identifier that comes next
abbrev pub next_ident : List SpannedTok → Option Text
next_ident [] = None
next_ident (t ∷ ts) = option_map (λ x. x.0) (ident_and_span t)

-- the string without escapes that comes next
abbrev pub next_str : List SpannedTok → Option Text
next_str [] = None
next_str (t ∷ ts) = str_of t.0
  where
    str_of : Tok → Option Text
    str_of (str x) = Some x
    str_of _ = None

-- the number of at most 64 bits that comes next
abbrev pub next_int : List SpannedTok → Option ℕ
next_int [] = None
next_int (t ∷ ts) = int_of t.0
  where
    int_of : Tok → Option ℕ
    int_of (int n) = Some n
    int_of _ = None
