-- The forms of expressions.
use Rattle.std.specs.Prelude.{ℕ, zero, suc, List, [], ◌∷◌, ◌++◌, length, Bool, true, false, ◌&&◌, ◌||◌, not, nat_lt, if◌then◌else◌, Option, Some, None}
use Rattle.minijinja_syntax.specs.Texts.{Text}
use Rattle.minijinja_value.specs.Values.{Functions}
use Rattle.minijinja_syntax.specs.Positions.{slice}
pub use Rattle.minijinja_syntax.specs.Positions.{expanded}
use Rattle.minijinja_syntax.specs.declared.tokens.Span.{Span}
use Rattle.minijinja_tree.specs.BinOps as bin
use Rattle.minijinja_tree.specs.BinOps.{BinOp}
use Rattle.minijinja_tree.specs.CompareOps as cmp
use Rattle.minijinja_tree.specs.CompareOps.{CompareOp}
use Rattle.minijinja_syntax.specs.Tokens.{Tok, ident, str, string, int, int128, minus, mul, pow, dot, comma, colon, assign, pipe, bracket_open, bracket_close, paren_open, paren_close, brace_open, brace_close}
use Rattle.minijinja_tree.specs.Tree.{UnaryOp, logical_not, negation}
use Rattle.minijinja_tree.specs.WellFormed.{most_arguments}
use Rattle.minijinja_tree.specs.SpannedTrees as tree
use Rattle.minijinja_tree.specs.SpannedTrees.{Expr, variable, constant, unary, binary, if_expr, filter, test, attribute, item, call, list, tuple, present, Arg, positional, starred, keyword, double_starred, optional_of, exprs_of, args_of}
use Rattle.minijinja_grammar.specs.Words.{is, is_true_word, is_false_word, is_none_word, if_word, else_word, not_word, in_word, text_of, or_op, and_op, sum_op, cat_op, term_op, compare_op, begins_primary, begins_expr, begins_arg, begins_postfix, begins_suffix, begins_comparison, begins_bare}
use Rattle.minijinja_syntax.specs.Streams.{SpannedTok}
use Rattle.minijinja_grammar.specs.Ahead.{held}
pub use Rattle.minijinja_grammar.specs.SpannedExpressions.{compare_two, compare_all}
use Rattle.minijinja_grammar.specs.internal.Forms.{Form, pure, nothing, one, source, start, last, either, many, Turn, go_on, over, ◌>>=◌, ◌>>◌}

-- ---- tokens

-- a token that begins such a part, and where it stands
abbrev pub of_kind : (Tok → Bool) → SpannedTok → Option SpannedTok
of_kind begins t = if begins t.0 then Some t else None

-- this token, and where it stands
abbrev pub span_of_mark : Tok → SpannedTok → Option Span
span_of_mark m t = if is m t.0 then Some t.1 else None

abbrev pub next : Tok → Form Span
next m = one (span_of_mark m)

abbrev pub ident_and_span : SpannedTok → Option (Text × Span)
ident_and_span (ident x, s) = Some (x, s)
ident_and_span _ = None

-- the form, if that holds
abbrev pub when : {A : Type 0} → Bool → Form A → Form A
when true f = f
when false f = nothing

-- the first after this token, where it comes next, and else the second
abbrev pub behind : {A : Type 0} → Tok → Form A → Form A → Form A
behind m f g = either (is m) (next m >> f) g

-- what is made with the span from the start of one to the end of the token taken last
abbrev pub spanned : {A : Type 0} → Span → (Span → A) → Form A
spanned from make = do
  to ← last
  pure (make (expanded from to))

-- `[ X { , X } [,] ]`, where an X takes what was read so far: a comma that no X follows is the last
-- one
abbrev pub items : {A : Type 0} → (Tok → Bool) → (A → Form A) → A → Form A
items begins part x =
    either begins (part x >>= many (span_of_mark comma) (λ y _. either begins (part y >>= (λ z. pure (go_on z))) (pure (over y)))) (pure x)

-- the name of an expression that is a variable
abbrev pub name_of_variable : {C : Type 0} → Expr C → Option Text
name_of_variable (variable x s) = Some x
name_of_variable _ = None

-- ---- names of filters and tests

-- . Ident
unfoldable pub name_part : Span → Span → Form (Turn Span)
name_part before at = do
  x ← one ident_and_span
  pure (go_on x.1)

-- { . Ident }, after the first part: where the last one stands
unfoldable pub name_parts : Span → Form Span
name_parts at = many (span_of_mark dot) name_part at

-- Name = Ident { . Ident }: with a dot, the source from the start of the first part to the end of
-- the last one
unfoldable pub name : Form Text
name = do
  x ← one ident_and_span
  either (is dot)
      (do
        to ← name_parts x.1
        text ← source
        pure (slice text x.1.start_offset to.end_offset))
      (pure x.0)

-- ---- primaries

unfoldable pub word : {C F : Type 0} → Functions C F → Text → Span → Expr C
word f x s =
    if is_true_word x then constant (f.of_bool true) s
    else if is_false_word x then constant (f.of_bool false) s
    else if is_none_word x then constant f.none s
    else variable x s

-- String { String }, after the first: neighbours join
unfoldable pub texts : {C F : Type 0} → Functions C F → Span → Text → Form (Expr C)
texts f from t = do
  whole ← many (held text_of) (λ t u. pure (go_on (t ++ u))) t
  spanned from (constant (f.of_str whole))

-- ---- which arguments may stand together

abbrev pub is_plain : {C : Type 0} → Arg C → Bool
is_plain (positional e) = true
is_plain _ = false

abbrev pub is_named : {C : Type 0} → Arg C → Bool
is_named (keyword x e) = true
is_named (double_starred e) = true
is_named _ = false

abbrev pub has_named : {C : Type 0} → List (Arg C) → Bool
has_named [] = false
has_named (x ∷ xs) = is_named x || has_named xs

-- no plain argument after a keyword argument or a **, and no argument after the most that a call
-- may have
abbrev pub is_allowed : {C : Type 0} → List (Arg C) → Arg C → Bool
is_allowed xs x = not (is_plain x && has_named xs) && nat_lt (length xs) most_arguments

module _ {C : Type 0} (expr : Form (Expr C)) where
  unfoldable pub also : List (Expr C) → Form (List (Expr C))
  also es = do
    e ← expr
    pure (es ++ e ∷ [])

  -- Expr { , Expr } [,], if one begins
  unfoldable pub exprs : List (Expr C) → Form (List (Expr C))
  exprs = items begins_expr also

  -- the rest of a tuple, after the comma that follows its first item
  abbrev pub rest_of_tuple : Span → Expr C → Form (Expr C)
  rest_of_tuple from e = do
    es ← exprs (e ∷ [])
    next paren_close
    spanned from (tuple (exprs_of es))

  -- after ( and an Expr: the Expr itself, or a tuple where a comma follows
  unfoldable pub rest_of_group : Span → Expr C → Form (Expr C)
  rest_of_group from e = behind comma (rest_of_tuple from e)
      (do
        next paren_close
        pure e)

  -- after (
  unfoldable pub group : Span → Form (Expr C)
  group from = behind paren_close (spanned from (tuple (exprs_of []))) (expr >>= rest_of_group from)

  -- after [
  unfoldable pub in_brackets : Span → Form (Expr C)
  in_brackets from = do
    es ← exprs []
    next bracket_close
    spanned from (list (exprs_of es))

  -- Expr : Expr, after the keys and the values so far
  unfoldable pub entry : List (Expr C) × List (Expr C) → Form (List (Expr C) × List (Expr C))
  entry kvs = do
    k ← expr
    next colon
    v ← expr
    pure (kvs.0 ++ k ∷ [], kvs.1 ++ v ∷ [])

  -- [ Expr : Expr { , Expr : Expr } [,] ], after the keys and the values so far
  unfoldable pub entries : List (Expr C) × List (Expr C) → Form (List (Expr C) × List (Expr C))
  entries = items begins_expr entry

  -- after {
  unfoldable pub in_braces : Span → Form (Expr C)
  in_braces from = do
    kvs ← entries ([], [])
    next brace_close
    spanned from (tree.map (exprs_of kvs.0) (exprs_of kvs.1))

  abbrev pub begun : {F : Type 0} → Functions C F → SpannedTok → Form (Expr C)
  begun f (ident x, s) = pure (word f x s)
  begun f (str t, s) = texts f s t
  begun f (string t, s) = texts f s t
  begun f (int n, s) = pure (constant (f.of_u64 n) s)
  begun f (int128 n, s) = pure (constant (f.of_u128 n) s)
  begun f (paren_open, s) = group s
  begun f (bracket_open, s) = in_brackets s
  begun f (brace_open, s) = in_braces s
  begun f _ = nothing

  unfoldable pub primary : {F : Type 0} → Functions C F → Form (Expr C)
  primary f = one (of_kind begins_primary) >>= begun f

  -- ---- arguments

  -- after a =: before it has to stand a variable
  abbrev pub named : Option Text → Form (Arg C)
  named None = nothing
  named (Some x) = expr >>= (λ e. pure (keyword x e))

  -- after an Expr that neither a * nor a ** precedes
  abbrev pub rest_of_arg : Expr C → Form (Arg C)
  rest_of_arg e = behind assign (named (name_of_variable e)) (pure (positional e))

  -- Arg = Expr | Expr = Expr | * Expr | ** Expr
  unfoldable pub arg : Form (Arg C)
  arg = behind mul (expr >>= (λ e. pure (starred e))) (behind pow (expr >>= (λ e. pure (double_starred e))) (expr >>= rest_of_arg))

  -- one argument more
  unfoldable pub also_arg : List (Arg C) → Form (List (Arg C))
  also_arg xs = do
    x ← arg
    when (is_allowed xs x) (pure (xs ++ x ∷ []))

  -- [ Arg { , Arg } [,] ], after those so far
  unfoldable pub arg_items : List (Arg C) → Form (List (Arg C))
  arg_items = items begins_arg also_arg

  -- the rest of Args = ( [ Arg { , Arg } [,] ] ), after its (
  unfoldable pub args : Form (List (Arg C))
  args = do
    xs ← arg_items []
    next paren_close
    pure xs

  -- [Args]
  abbrev pub maybe_args : Form (List (Arg C))
  maybe_args = behind paren_open args (pure [])

  -- ---- operands

  -- [Expr]
  abbrev pub maybe_expr : Form (Option (Expr C))
  maybe_expr = either begins_expr (expr >>= (λ e. pure (Some e))) (pure None)

  -- [ : [Expr] ], the last part of a slice
  abbrev pub step : Form (Option (Expr C))
  step = behind colon maybe_expr (pure None)

  -- after [ [Expr] :
  unfoldable pub range : Expr C → Span → Option (Expr C) → Form (Expr C)
  range e from start' = do
    stop ← maybe_expr
    by ← step
    next bracket_close
    spanned from (tree.slice e (optional_of start') (optional_of stop) (optional_of by))

  -- after [ Expr: an item, or a slice
  unfoldable pub rest_of_subscript : Expr C → Span → Expr C → Form (Expr C)
  rest_of_subscript e from i = behind colon (range e from (Some i)) (next bracket_close >> spanned from (item e i))

  -- after [
  unfoldable pub subscript : Expr C → Span → Form (Expr C)
  subscript e from = behind colon (range e from None) (expr >>= rest_of_subscript e from)

  -- after .
  abbrev pub begins_member : Tok → Bool
  begins_member (ident x) = true
  begins_member (int n) = true
  begins_member (int128 n) = true
  begins_member _ = false

  abbrev pub member_of : {F : Type 0} → Functions C F → Expr C → Span → SpannedTok → Form (Expr C)
  member_of f e from (ident x, s) = spanned from (attribute e x)
  member_of f e from (int n, s) = spanned from (item e (constant (f.of_u64 n) s))
  member_of f e from (int128 n, s) = spanned from (item e (constant (f.of_u128 n) s))
  member_of f e from _ = nothing

  unfoldable pub member : {F : Type 0} → Functions C F → Expr C → Span → Form (Expr C)
  member f e from = one (of_kind begins_member) >>= member_of f e from

  -- Postfix, after its first token
  abbrev pub postfix : {F : Type 0} → Functions C F → Expr C → Span → Tok → Form (Expr C)
  postfix f e from dot = member f e from
  postfix f e from bracket_open = subscript e from
  postfix f e from _ = args >>= (λ xs. spanned from (call e (args_of xs)))

  -- an operand so far, and where the next Postfix begins the node that it makes
  abbrev pub postfix_turn : {F : Type 0} → Functions C F → Expr C × Span → SpannedTok → Form (Turn (Expr C × Span))
  postfix_turn f e t = postfix f e.0 e.1 t.0 >>= (λ x. pure (go_on (x, t.1)))

-- What nests in a part of an expression, with a depth of one less: an Expr, or the Cond after an
-- `else`, which is the same; the operand of a `not`; the right operand of a `**`; the operand of a
-- `-`; a Primary.
pub record Below (C : Type 0) : Type 1 where
  pub expr : Form (Expr C)
  pub opposite : Form (Expr C)
  pub power : Form (Expr C)
  pub negated : Form (Expr C)
  pub primary : Form (Expr C)

-- op X, from the operator on
abbrev pub prefixed : {C : Type 0} → Tok → UnaryOp → Form (Expr C) → Form (Expr C)
prefixed m o f = do
  from ← next m
  e ← f
  spanned from (unary o e)

module _ {C F : Type 0} (f : Functions C F) (b : Below C) where
  unfoldable pub postfixed : Form (Expr C)
  postfixed = do
    from ← start
    e ← b.primary
    whole ← many (of_kind begins_postfix) (postfix_turn b.expr f) (e, from)
    pure whole.0

  -- Operand = - Operand | Primary { Postfix }
  unfoldable pub operand : Form (Expr C)
  operand = either (is minus) (prefixed minus negation b.negated) postfixed

  -- ---- filters and tests

  -- [Args | Operand], after the name of a test
  unfoldable pub test_args : Form (List (Arg C))
  test_args = behind paren_open (args b.expr) (either begins_bare (operand >>= (λ e. pure (positional e ∷ []))) (pure []))

  -- Name [Args | Operand], the test of e
  unfoldable pub named_test : Expr C → Form (Expr C)
  named_test e = do
    from ← start
    x ← name
    xs ← test_args
    spanned from (test e x (args_of xs))

  -- after "is"
  unfoldable pub any_test : Expr C → Form (Expr C)
  any_test e = behind not_word
      (do
        from ← start
        t ← named_test e
        spanned from (unary logical_not t))
      (named_test e)

  -- after |
  unfoldable pub filtered : Expr C → Form (Expr C)
  filtered e = do
    from ← start
    x ← name
    xs ← maybe_args b.expr
    spanned from (filter (present e) x (args_of xs))

  -- what follows the first token of a filter or a test
  abbrev pub suffix : Expr C → Tok → Form (Expr C)
  suffix e pipe = filtered e
  suffix e _ = any_test e

  abbrev pub suffix_turn : Expr C → SpannedTok → Form (Turn (Expr C))
  suffix_turn e t = suffix e t.0 >>= (λ x. pure (go_on x))

  -- Unary = Operand { | Name [Args] | "is" ["not"] Name [Args | Operand] }
  unfoldable pub unary_level : Form (Expr C)
  unary_level = operand >>= many (of_kind begins_suffix) suffix_turn

-- ---- operators of two sides

-- X { op X }, grouped to the left
unfoldable pub level : {C : Type 0} → (Tok → Option BinOp) → Form (Expr C) → Form (Expr C)
level op f = do
  from ← start
  l ← f
  many (held op) (λ l o. f >>= (λ r. spanned from (λ s. go_on (binary o l r s)))) l

-- CmpOp = == | != | < | <= | > | >= | "in" | "not" "in", after its first token
abbrev pub compare_operator : Option CompareOp → Form CompareOp
compare_operator (Some o) = pure o
compare_operator None = next in_word >> pure cmp.not_in

unfoldable pub comparison : {C : Type 0} → Form (Expr C) → List (CompareOp × Expr C) → SpannedTok → Form (Turn (List (CompareOp × Expr C)))
comparison sum cs t = do
  o ← compare_operator (compare_op t.0)
  e ← sum
  pure (go_on (cs ++ (o, e) ∷ []))

-- Cmp = Sum { CmpOp Sum }
unfoldable pub compared_level : {C : Type 0} → Form (Expr C) → Form (Expr C)
compared_level sum = do
  from ← last
  e ← sum
  cs ← many (of_kind begins_comparison) (comparison sum) []
  spanned from (compare_all e cs)

-- ---- if expressions

-- [ "else" Cond ], where the Cond nests
abbrev pub else_part : {C : Type 0} → Form (Expr C) → Form (Option (Expr C))
else_part nested = behind else_word (nested >>= (λ e. pure (Some e))) (pure None)

-- "if" Or [ "else" Cond ], after the "if": what was read so far is the true part
unfoldable pub if_turn : {C : Type 0} → (or nested : Form (Expr C)) → Expr C × Span → Span → Form (Turn (Expr C × Span))
if_turn or nested x at = do
  t ← or
  o ← else_part nested
  to ← last
  pure (go_on (if_expr t x.0 (optional_of o) (expanded x.1 to), to))

-- Cond = Or { "if" Or [ "else" Cond ] }
unfoldable pub cond : {C : Type 0} → (or nested : Form (Expr C)) → Form (Expr C)
cond or nested = do
  from ← last
  e ← or
  x ← many (span_of_mark if_word) (if_turn or nested) (e, from)
  pure x.0

-- ---- the levels

module _ {C F : Type 0} (f : Functions C F) (b : Below C) where
  -- Pow = Unary [ ** Pow ]
  unfoldable pub pow_level : Form (Expr C)
  pow_level = do
    from ← start
    l ← unary_level f b
    behind pow (b.power >>= (λ r. spanned from (binary bin.pow l r))) (pure l)

  -- Term = Pow { (* | / | // | %) Pow }
  abbrev pub term_level : Form (Expr C)
  term_level = level term_op pow_level

  -- Cat = Term { ~ Term }
  abbrev pub cat_level : Form (Expr C)
  cat_level = level cat_op term_level

  -- Sum = Cat { (+ | -) Cat }
  abbrev pub sum_level : Form (Expr C)
  sum_level = level sum_op cat_level

  -- Not = "not" Not | Cmp
  unfoldable pub not_level : Form (Expr C)
  not_level = either (is not_word) (prefixed not_word logical_not b.opposite) (compared_level sum_level)

  -- And = Not { "and" Not }
  abbrev pub and_level : Form (Expr C)
  and_level = level and_op not_level

  -- Or = And { "or" And }
  abbrev pub or_level : Form (Expr C)
  or_level = level or_op and_level

  -- Cond
  abbrev pub cond_level : Form (Expr C)
  cond_level = cond or_level b.expr

-- ---- depth: each part that nests counts 1

-- what nests with a depth of one more, by what nests in it
abbrev pub deeper : {C F : Type 0} → Functions C F → Below C → Below C
deeper f b = record {
  expr = cond_level f b;
  opposite = not_level f b;
  power = pow_level f b;
  negated = operand f b;
  primary = primary b.expr f;
}

-- what nests, with a depth of at most the number
unfoldable pub below : {C F : Type 0} → Functions C F → ℕ → Below C
below f zero = record { expr = nothing; opposite = nothing; power = nothing; negated = nothing; primary = nothing }
below f (suc d) = deeper f (below f d)

-- the expressions of a depth of at most the number
abbrev pub expr_at : {C F : Type 0} → Functions C F → ℕ → Form (Expr C)
expr_at f d = (below f d).expr
