-- What holds of all that a form derives, told along the form.
use Rattle.std.specs.Prelude.{◌≡◌, Some}
use Rattle.minijinja_syntax.specs.Texts.{Text}
use Rattle.minijinja_syntax.specs.declared.tokens.Span.{Span}
use Rattle.minijinja_syntax.specs.Streams.{SpannedTok}
use Rattle.minijinja_grammar.specs.internal.Forms.{Turn, go_on, over, Form, pure, nothing, one, source, start, last, new_name, and_then, either, many}

pub record Holds (X : Type 0) : Type 1 where
  pub it : X

-- what a turn of a repetition keeps, or gives as the last one
abbrev pub Kept : {A : Type 0} → (A → Type 0) → Turn A → Type 0
Kept I (go_on x) = I x
Kept I (over x) = I x

-- From tokens for which the first holds, and spans for which the second does, such a thing is
-- derived, and the names for which the third holds are the only ones that are given. A repetition
-- has something that each turn keeps.
abbrev pub Ensured : {A : Type 0} → (SpannedTok → Type 0) → (Span → Type 0) → (Text → Type 0) → Form A → (A → Type 1) → Type 1
Ensured T S G (pure x) P = P x
Ensured T S G nothing P = Holds (Unit {0})
Ensured T S G (one held) P = (t : SpannedTok) (x : _) → T t → held t ≡ Some x → P x
Ensured T S G source P = (x : Text) → P x
Ensured T S G start P = (s : Span) → S s → P s
Ensured T S G last P = (s : Span) → S s → P s
Ensured T S G (new_name x) P = Holds (G x) × P tt
Ensured T S G (and_then f g) P = Ensured T S G f (λ x. Ensured T S G (g x) P)
Ensured T S G (either begins f g) P = Ensured T S G f P × Ensured T S G g P
Ensured T S G (many {A = A} held t x) P =
    (I : A → Type 0) × Holds (I x) ×
    ((y : A) (u : SpannedTok) (h : _) → I y → T u → held u ≡ Some h → Ensured T S G (t y h) (λ z. Holds (Kept I z))) ×
    ((y : A) → I y → P y)
