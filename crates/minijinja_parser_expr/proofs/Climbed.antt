-- Binary operators by climbing, by the operator that comes next.
use Rattle.std.proofs.Common.{◌≡◌, ◌≤◌, ℕ, ◌+◌, ◌*◌, length, Bool, true, false, List, [], ◌∷◌, if◌then◌else◌, Option, Some, None, refl, sym, ap, ◌∙◌}
use Rattle.std.specs.Prelude.{codes, nat_lt}
use Rattle.std.specs.Str.{bytes_eq}
use Rattle.std.specs.Option.{option_map}
use Rattle.minijinja_value.specs.Values.{Functions}
use Rattle.minijinja_syntax.specs.Tokens.{Tok, ident}
use Rattle.minijinja_syntax.specs.Streams.{SpannedTok}
use Rattle.minijinja_syntax.specs.declared.tokens.Span.{Span}
use Rattle.minijinja_tree.specs.BinOps as bin
use Rattle.minijinja_tree.specs.SpannedTrees.{Expr, binary}
use Rattle.minijinja_tree.specs.Erasure.{bin_op}
use Rattle.minijinja_tree_expr.specs.declared.ast.BinOpKind.{BinOpKind}
use Rattle.minijinja_grammar.specs.internal.ExprForms.{below, expanded, pow_level}
use Rattle.minijinja_tree_expr.specs.declared.ast.BinOpKind.TheVariants as op
use Rattle.minijinja_grammar.specs.Words.{is, not_word, begins_comparison}
use Rattle.minijinja_grammar.specs.Places.{Place}
use Rattle.minijinja_grammar.specs.internal.Forms.{Form, Read, start_at, got, read_then, read_one, reads}
use Rattle.minijinja_grammar.specs.Ahead.{comes}
use Rattle.minijinja_grammar.specs.internal.Climbing.{Row, binaries, comparing, negation_in, Infix, binary_of, comparing_of, or_else, infix_in, next_infix, first_of, rest_of, operation, comparisons}
use Rattle.minijinja_grammar.proofs.Climbing.{EndsQuietly, ends_quietly, level_first, rest_over, rest_next}
use Rattle.minijinja_parser_tokens.specs.internal.Levels.{rows, tighter, has_not, operator_of, if_as_tight, infix_of, next_operator}
use Rattle.minijinja_parser_tokens.specs.declared.operators.Level.{Level}
use Rattle.minijinja_parser_tokens.specs.declared.operators.Level.TheVariants.{Or, And, Not, Sum, Cat, Term, Operand}
use Rattle.minijinja_parser_tokens.specs.declared.operators.Operator.{Operator}
use Rattle.minijinja_parser_tokens.specs.declared.operators.Operator.TheVariants.{Binary, Comparison}
use Rattle.minijinja_parser_expr.specs.private.Levels.{level_at, first_at, operation_at}
use Rattle.minijinja_parser_tokens.specs.internal.Reads.{skipped}
use Rattle.minijinja_parser_tokens.proofs.Turned.{read_no_longer}

-- ---- the operator that comes, as the grammar has it

each : (P : Level → Type 0) → P Or → P And → P Not → P Sum → P Cat → P Term → P Operand → (l : Level) → P l
each P a b c d e f g Or = a
each P a b c d e f g And = b
each P a b c d e f g Not = c
each P a b c d e f g Sum = d
each P a b c d e f g Cat = e
each P a b c d e f g Term = f
each P a b c d e f g Operand = g

-- what a word is or begins, by whether it begins a comparison, and whether it is "and" or "or"
abbrev word_is : Bool → Bool → Bool → Option Operator
word_is c a o = if c then Some Comparison else if a then Some (Binary op.ScAnd And) else if o then Some (Binary op.ScOr Or) else None

abbrev not_infix : Bool → Option Infix
not_infix c = or_else None (if c then Some (comparing_of (rows Sum)) else None)

abbrev and_infix : Bool → Bool → Option Infix
and_infix c a = or_else (not_infix c) (option_map (λ b. binary_of b (rows Not)) (if a then Some bin.sc_and else None))

abbrev word_infix : Bool → Bool → Bool → Level → Option Infix
word_infix c a o Or = or_else (and_infix c a) (option_map (λ b. binary_of b (rows And)) (if o then Some bin.sc_or else None))
word_infix c a o And = and_infix c a
word_infix c a o Not = not_infix c
word_infix c a o _ = None

word_agrees : (c a o : Bool) (l : Level) → option_map infix_of (if_as_tight l (word_is c a o)) ≡ word_infix c a o l
word_agrees true a o l = each (λ l. option_map infix_of (if_as_tight l (word_is true a o)) ≡ word_infix true a o l) refl refl refl refl refl refl refl l
word_agrees false true o l = each (λ l. option_map infix_of (if_as_tight l (word_is false true o)) ≡ word_infix false true o l) refl refl refl refl refl refl refl l
word_agrees false false true l = each (λ l. option_map infix_of (if_as_tight l (word_is false false true)) ≡ word_infix false false true l) refl refl refl refl refl refl refl l
word_agrees false false false l = each (λ l. option_map infix_of (if_as_tight l (word_is false false false)) ≡ word_infix false false false l) refl refl refl refl refl refl refl l

abbrev Agrees : Tok → Level → Type 0
Agrees t l = option_map infix_of (if_as_tight l (operator_of t)) ≡ infix_in (rows l) t

agrees : (t : Tok) (l : Level) → Agrees t l
agrees (ident x) l = each (Agrees (ident x)) (w Or) (w And) (w Not) (w Sum) (w Cat) (w Term) (w Operand) l
  where
    w : (k : Level) → option_map infix_of (if_as_tight k (word_is (begins_comparison (ident x)) (bytes_eq x (codes "and")) (bytes_eq x (codes "or")))) ≡
        word_infix (begins_comparison (ident x)) (bytes_eq x (codes "and")) (bytes_eq x (codes "or")) k
    w k = word_agrees (begins_comparison (ident x)) (bytes_eq x (codes "and")) (bytes_eq x (codes "or")) k
agrees t l = each (Agrees t) refl refl refl refl refl refl refl l

next_agrees : (l : Level) (ts : List SpannedTok) → option_map infix_of (next_operator l ts) ≡ next_infix (rows l) ts
next_agrees l [] = refl
next_agrees l (t ∷ ts) = agrees t.0 l

-- ---- which operators come at all

as_tight : (l : Level) (o : Option Operator) (x : Operator) → if_as_tight l o ≡ Some x → o ≡ Some x
as_tight l None x e = cc
as_tight l (Some (Binary b k)) x e = go (nat_lt _ _) e
  where
    go : (c : Bool) → (if c then None else Some (Binary b k)) ≡ Some x → Some (Binary b k) ≡ Some x
    go true h = cc
    go false h = h
as_tight l (Some Comparison) x e = go (nat_lt _ _) e
  where
    go : (c : Bool) → (if c then None else Some Comparison) ≡ Some x → Some Comparison ≡ Some x
    go true h = cc
    go false h = h

loosest : (o : Option Operator) → if_as_tight Or o ≡ o
loosest None = refl
loosest (Some (Binary b l)) = each (λ l. if_as_tight Or (Some (Binary b l)) ≡ Some (Binary b l)) refl refl refl refl refl refl refl l
loosest (Some Comparison) = refl

begins : (t : Tok) → operator_of t ≡ Some Comparison → begins_comparison t ≡ true
begins (ident x) e = go (begins_comparison (ident x)) (bytes_eq x (codes "and")) (bytes_eq x (codes "or")) e
  where
    go : (c a o : Bool) → word_is c a o ≡ Some Comparison → c ≡ true
    go true a o h = refl
    go false true o h = cc
    go false false true h = cc
    go false false false h = cc
begins t e = cc

pub comparison_comes : (l : Level) (ts : List SpannedTok) → next_operator l ts ≡ Some Comparison → comes begins_comparison ts ≡ true
comparison_comes l [] e = cc
comparison_comes l (t ∷ ts) e = begins t.0 (as_tight l (operator_of t.0) Comparison e)

-- ---- a level

module _ {C F : Type 0} (f : Functions C F) (depth : ℕ) where
  abbrev negation : Form (Expr C)
  negation = negation_in (below f depth)

  abbrev operand : Form (Expr C)
  operand = pow_level f (below f depth)

  -- what follows the first operand of a level
  abbrev pub rest_at : Level → (from before : Span) → Expr C → Form (Expr C)
  rest_at l = rest_of negation operand (rows l)

  -- the first operand of a level: a negation, where the level has one and `not` comes
  pub first_is : (l : Level) (p : Place) → first_at f depth l p ≡
      (if has_not l then (if comes (is not_word) p.tokens then reads negation p else reads operand p) else reads operand p)
  first_is l p = each (λ l. first_at f depth l p ≡
      (if has_not l then (if comes (is not_word) p.tokens then reads negation p else reads operand p) else reads operand p)) refl refl refl refl refl refl refl l

  ends_at : (l : Level) → EndsQuietly negation operand (rows l)
  ends_at l = each (λ l. EndsQuietly negation operand (rows l)) (ends_quietly f depth) (ends_quietly f depth) (ends_quietly f depth) tt tt tt tt l

  -- a level is its first operand, and what follows it
  pub level_is : (l : Level) (p : Place) → reads (level_at f depth l) p ≡
      read_then (first_at f depth l p) (λ x q. reads (rest_at l (start_at p) p.last x) q)
  level_is l p = level_first negation operand (rows l) (ends_at l) p

  pub rest_ends : (l : Level) (from before : Span) (x : Expr C) (q : Place) → next_operator l q.tokens ≡ None → reads (rest_at l from before x) q ≡ got x q
  rest_ends l from before x q e = rest_over negation operand (rows l) from before x q (sym (next_agrees l q.tokens) ∙ ap (option_map infix_of) e)

  pub rest_goes_on : (l : Level) (from before : Span) (x : Expr C) (q : Place) (o : Operator) → next_operator l q.tokens ≡ Some o →
      reads (rest_at l from before x) q ≡ read_then (operation_at f depth o from before x q) (λ y u. reads (rest_at l from before y) u)
  rest_goes_on l from before x q o e = rest_next negation operand (rows l) (ends_at l) from before x q (infix_of o) (sym (next_agrees l q.tokens) ∙ ap (option_map infix_of) e)

  -- ---- an operation

  pub binary_is : (b : BinOpKind) (k : Level) (from before : Span) (x : Expr C) (p : Place) → operation_at f depth (Binary b k) from before x p ≡
      read_then (skipped p) (λ t q. read_then (reads (level_at f depth (tighter k)) q) (λ r s. got (binary (bin_op b) x r (expanded from s.last)) s))
  unfolding operation reads
  binary_is b k from before x p = go p.tokens
    where
      right : Place → Read (Expr C)
      right q = read_then (reads (level_at f depth (tighter k)) q) (λ r s. got (binary (bin_op b) x r (expanded from s.last)) s)

      go : (ts : List SpannedTok) → read_then (read_one Some p ts) (λ t q. right q) ≡ read_then (read_one (λ t. Some t.1) p ts) (λ s q. right q)
      go [] = refl
      go (t ∷ ts) = refl

  pub comparing_is : (from before : Span) (x : Expr C) (p : Place) → operation_at f depth Comparison from before x p ≡ reads (comparisons (level_at f depth Sum) before x) p
  unfolding operation
  comparing_is from before x p = refl

  -- ---- how many tokens are left

  no_longer : (rs : List Row) (p q : Place) (x : Expr C) → first_of negation operand rs p ≡ got x q → length q.tokens ≤ length p.tokens
  no_longer [] p q x e = read_no_longer operand p q x e
  no_longer (binaries b ∷ rs) p q x e = no_longer rs p q x e
  no_longer (comparing ∷ rs) p q x e = go (comes (is not_word) p.tokens) (no_longer rs p q x) e
    where
      go : (b : Bool) → (first_of negation operand rs p ≡ got x q → length q.tokens ≤ length p.tokens) →
          (if b then reads negation p else first_of negation operand rs p) ≡ got x q → length q.tokens ≤ length p.tokens
      go true inner k = read_no_longer negation p q x k
      go false inner k = inner k

  pub first_no_longer : (l : Level) (p q : Place) (x : Expr C) → first_at f depth l p ≡ got x q → length q.tokens ≤ length p.tokens
  first_no_longer l p q x e = no_longer (rows l) p q x e

-- ---- how calls without a token go down

abbrev pub steps : ℕ → Place → ℕ
steps n p = 8 * length p.tokens + n
