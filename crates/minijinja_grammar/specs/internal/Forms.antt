-- Forms, which a reader that looks one token ahead follows: what they derive, and how they are read
-- from the left.
use Rattle.std.specs.Prelude.{◌≡◌, ◌⊎◌, ℕ, Bool, true, false, zero, suc, List, [], ◌∷◌, length, if◌then◌else◌, Option, Some, None}
use Rattle.std.specs.Str.{bytes_eq}
use Rattle.std.specs.Ordering.{nat_cmp}
use Rattle.std.specs.List.{list_any}
use Rattle.std.specs.BTreeSet.{insert_key}
use Rattle.std.specs.Cmp.Lexicographic.{slice_cmp}
use Rattle.minijinja_syntax.specs.Texts.{Text}
use Rattle.minijinja_syntax.specs.Tokens.{Tok}
use Rattle.minijinja_syntax.specs.declared.tokens.Span.{Span}
use Rattle.minijinja_syntax.specs.Streams.{SpannedTok}
use Rattle.minijinja_grammar.specs.Ahead.{comes, held_next}
use Rattle.minijinja_grammar.specs.Places.{Place}
use Rattle.minijinja_grammar.specs.TokenSpans.{first_span}

-- a turn of a repetition: more may follow, or none
pub data Turn (A : Type 0) : Type 0 where
  go_on : A → Turn A
  over : A → Turn A

pub data Form : Type 0 → Type 1 where
  pure : {A : Type 0} → A → Form A
  nothing : {A : Type 0} → Form A
  one : {A : Type 0} → (SpannedTok → Option A) → Form A
  source : Form Text
  start : Form Span
  last : Form Span
  -- a name that was not given before
  new_name : Text → Form (Unit {0})
  and_then : {A B : Type 0} → Form A → (A → Form B) → Form B
  either : {A : Type 0} → (Tok → Bool) → Form A → Form A → Form A
  many : {A B : Type 0} → (SpannedTok → Option B) → (A → B → Form (Turn A)) → A → Form A

-- ---- what a form derives

-- where the next token stands, or the one taken last if none comes
abbrev pub start_at : Place → Span
start_at p = first_span p.last p.tokens

-- the place after the next token
abbrev pub after : Place → SpannedTok → List SpannedTok → Place
after p t ts = record p { tokens = ts; last = t.1 }

-- whether the name was given before
abbrev pub is_given : Text → Place → Bool
is_given x p = list_any (bytes_eq x) p.names

-- the place where it was given
abbrev pub giving : Text → Place → Place
giving x p = record p { names = insert_key (slice_cmp nat_cmp) p.names x }

-- the next token is taken, and holds that
pub record Takes {A : Type 0} (held : SpannedTok → Option A) (p q : Place) (x : A) : Type 0 where
  pub token : SpannedTok
  pub rest : List SpannedTok
  pub next : p.tokens ≡ token ∷ rest
  pub holds : held token ≡ Some x
  pub behind : q ≡ after p token rest

-- turns, one after another, wherever the next token begins one
pub data Turns {A B : Type 0} (held : SpannedTok → Option B) (T : A → B → Place → Place → Turn A → Type 0) : A → Place → Place → A → Type 0 where
  no_turn : {x : A} {p : Place} → held_next held p.tokens ≡ None → Turns held T x p p x
  last_turn : {x y : A} {h : B} {p q r : Place} → Takes held p q h → T x h q r (over y) → Turns held T x p r y
  turn : {x y z : A} {h : B} {p q r s : Place} → Takes held p q h → T x h q r (go_on y) → Turns held T y r s z → Turns held T x p s z

-- the tokens from one place to another are of the form, and that is their tree
abbrev pub Derives : {A : Type 0} → Form A → Place → Place → A → Type 0
Derives (pure x) p q y = (p ≡ q) × (x ≡ y)
Derives nothing p q y = ⊥
Derives (one held) p q y = Takes held p q y
Derives source p q y = (p ≡ q) × (p.source ≡ y)
Derives start p q y = (p ≡ q) × (start_at p ≡ y)
Derives last p q y = (p ≡ q) × (p.last ≡ y)
Derives (new_name x) p q y = (is_given x p ≡ false) × (q ≡ giving x p)
Derives (and_then {A = A} f g) p r y = (x : A) × (q : Place) × Derives f p q x × Derives (g x) q r y
Derives (either begins f g) p q y = ((comes begins p.tokens ≡ true) × Derives f p q y) ⊎ ((comes begins p.tokens ≡ false) × Derives g p q y)
Derives (many held t x) p q y = Turns held (λ x h. Derives (t x h)) x p q y

-- ---- how a form is read

-- what reading comes to: a tree and the place after it; the place where a token is wanted and none
-- is left; or the place of the token that does not fit, as the last one taken
pub data Read (A : Type 0) : Type 0 where
  got : A → Place → Read A
  short : Place → Read A
  wrong : Place → Read A

abbrev pub read_then : {A B : Type 0} → Read A → (A → Place → Read B) → Read B
read_then (got x p) f = f x p
read_then (short p) f = short p
read_then (wrong p) f = wrong p

abbrev pub held_or_wrong : {A : Type 0} → Option A → Place → Read A
held_or_wrong None p = wrong p
held_or_wrong (Some x) p = got x p

abbrev pub read_one : {A : Type 0} → (SpannedTok → Option A) → Place → List SpannedTok → Read A
read_one held p [] = short p
read_one held p (t ∷ ts) = held_or_wrong (held t) (after p t ts)

-- no token fits
abbrev pub misfit : {A : Type 0} → Place → List SpannedTok → Read A
misfit p [] = short p
misfit p (t ∷ ts) = wrong p

abbrev pub read_turn : {A : Type 0} → Read (Turn A) → (A → Place → Read A) → Read A
read_turn (got (go_on x) p) f = f x p
read_turn (got (over x) p) f = got x p
read_turn (short p) f = short p
read_turn (wrong p) f = wrong p

abbrev pub if_held : {A B : Type 0} → Option B → (B → Read A) → Read A → Read A
if_held None f other = other
if_held (Some h) f other = f h

-- a turn, where the next token begins one
abbrev pub read_any : {A B : Type 0} → (SpannedTok → Option B) → (B → Place → Read A) → A → Place → List SpannedTok → Read A
read_any held f x p [] = got x p
read_any held f x p (t ∷ ts) = if_held (held t) (λ h. f h (after p t ts)) (got x p)

-- The number bounds the turns.
abbrev pub read_many : {A B : Type 0} → (SpannedTok → Option B) → (A → B → Place → Read (Turn A)) → ℕ → A → Place → Read A
read_many held t zero x p = short p
read_many held t (suc n) x p = read_any held (λ h q. read_turn (t x h q) (read_many held t n)) x p p.tokens

unfoldable pub reads : {A : Type 0} → Form A → Place → Read A
reads (pure x) p = got x p
reads nothing p = misfit p p.tokens
reads (one held) p = read_one held p p.tokens
reads source p = got p.source p
reads start p = got (start_at p) p
reads last p = got p.last p
reads (new_name x) p = if is_given x p then misfit p p.tokens else got tt (giving x p)
reads (and_then f g) p = read_then (reads f p) (λ x q. reads (g x) q)
reads (either begins f g) p = if comes begins p.tokens then reads f p else reads g p
reads (many held t x) p = read_many held (λ x h. reads (t x h)) (suc (length p.tokens)) x p

-- ---- forms made of others

infixl 10 ◌>>=◌
abbrev pub ◌>>=◌ : {A B : Type 0} → Form A → (A → Form B) → Form B
f >>= g = and_then f g

infixl 10 ◌>>◌
abbrev pub ◌>>◌ : {A B : Type 0} → Form A → Form B → Form B
f >> g = and_then f (λ _. g)
