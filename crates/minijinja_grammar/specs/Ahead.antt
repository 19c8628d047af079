-- What stands next, names and texts.
use Rattle.std.specs.Prelude.{◌≡◌, Bool, true, false, List, [], ◌∷◌, ◌++◌, Option, Some, None}
use Rattle.minijinja_syntax.specs.Texts.{Text}
use Rattle.minijinja_syntax.specs.Positions.{slice}
use Rattle.minijinja_syntax.specs.Tokens.{Tok, ident, dot}
use Rattle.minijinja_syntax.specs.declared.tokens.Span.{Span}
use Rattle.minijinja_syntax.specs.Streams.{SpannedTok}
use Rattle.minijinja_tree.specs.BinOps.{BinOp}
use Rattle.minijinja_tree.specs.CompareOps as cmp
use Rattle.minijinja_tree.specs.CompareOps.{CompareOp}
use Rattle.minijinja_grammar.specs.Words.{is, text_of, compare_op, not_word, in_word, or_op, and_op, sum_op, cat_op, term_op}

-- whether a token of that kind comes next
abbrev pub comes : (Tok → Bool) → List SpannedTok → Bool
comes kind [] = false
comes kind (t ∷ ts) = kind t.0

-- what a token holds
abbrev pub held : {A : Type 0} → (Tok → Option A) → SpannedTok → Option A
held what t = what t.0

-- the thing that the next token holds, if it holds such a thing
abbrev pub held_next : {A : Type 0} → (SpannedTok → Option A) → List SpannedTok → Option A
held_next held [] = None
held_next held (t ∷ ts) = held t

-- { . Ident }, after a part at the first span: the last part stands at the second
pub data IsDots : Span → List SpannedTok → List SpannedTok → Span → Type 0 where
  no_dot : {s : Span} {rest : List SpannedTok} → comes (is dot) rest ≡ false → IsDots s rest rest s
  dot_part : {s a b to : Span} {x : Text} {ts rest : List SpannedTok} → IsDots b ts rest to → IsDots s ((dot, a) ∷ (ident x, b) ∷ ts) rest to

-- Name = Ident { . Ident }: with a dot, the source from the start of the first part to the end of
-- the last one
pub data IsName (source : Text) : List SpannedTok → List SpannedTok → Text → Type 0 where
  plain_name : {x : Text} {s : Span} {rest : List SpannedTok} → comes (is dot) rest ≡ false → IsName source ((ident x, s) ∷ rest) rest x
  dotted_name : {x : Text} {s to : Span} {ts rest : List SpannedTok} → comes (is dot) ts ≡ true → IsDots s ts rest to →
      IsName source ((ident x, s) ∷ ts) rest (slice source s.start_offset to.end_offset)

-- { String }, joined
pub data IsTexts : List SpannedTok → List SpannedTok → Text → Type 0 where
  no_text : {rest : List SpannedTok} → held_next (held text_of) rest ≡ None → IsTexts rest rest []
  one_text : {t : Tok} {s : Span} {x y : Text} {ts rest : List SpannedTok} → text_of t ≡ Some x → IsTexts ts rest y → IsTexts ((t, s) ∷ ts) rest (x ++ y)

-- CmpOp = == | != | < | <= | > | >= | "in" | "not" "in"
pub data IsCmpOp : List SpannedTok → List SpannedTok → CompareOp → Type 0 where
  one_token : {t : Tok} {s : Span} {o : CompareOp} {rest : List SpannedTok} → compare_op t ≡ Some o → IsCmpOp ((t, s) ∷ rest) rest o
  not_in_words : {s r : Span} {rest : List SpannedTok} → IsCmpOp ((not_word, s) ∷ (in_word, r) ∷ rest) rest cmp.not_in

-- the five levels of operators that group to the left, the weakest first
pub data Level : Type 0 where
  or_level and_level sum_level cat_level term_level : Level

abbrev pub operator : Level → Tok → Option BinOp
operator or_level = or_op
operator and_level = and_op
operator sum_level = sum_op
operator cat_level = cat_op
operator term_level = term_op
