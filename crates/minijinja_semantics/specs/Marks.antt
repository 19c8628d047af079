-- Which line and span each instruction of a tree's code has. They ride beside the layout: no
-- instruction depends on them.
use Rattle.std.specs.Prelude.{ℕ, zero, suc, ◌==◌, ◌&&◌, Bool, true, false, List, [], ◌∷◌, ◌++◌, length, reverse, Option, Some, None, if◌then◌else◌}
use Rattle.minijinja_value.specs.Values.{Functions}
use Rattle.minijinja_syntax.specs.declared.tokens.Span.{Span}
use Rattle.minijinja_tree.specs.CompareOps.{CompareOp, not_in}
use Rattle.minijinja_tree.specs.Operators.{Working, Makes, Divides, IfTrue, IfFalse, working}
use Rattle.minijinja_tree.specs.Callees.{Callee, function, method, block, object, callee}
use Rattle.minijinja_tree.specs.Folding.{fold, constant_keywords, fold_keywords}
use Rattle.minijinja_tree_expr.specs.Tree.{UnaryOp, logical_not, negation}
use Rattle.minijinja_tree.specs.SpannedTrees.{Expr, variable, constant, slice, unary, binary, compare, if_expr, filter, test, attribute, item, call, list, tuple, map, Optional, absent, present, Exprs, no_more, more, Comparisons, compared, against, Args, no_args, pos, pos_splat, kwarg, kwarg_splat, Stmt, template, data_text, output, assignment, for_loop, if_cond, with_block, set_block, auto_escape, filter_block, named_block, extends, include, import_all, from_import, declare, call_block, do_call, break_loop, continue_loop, Stmts, done, also, Macro, macro, bare_expr, bare_args, bare_macro}
use Rattle.minijinja_semantics.specs.Calls.{Written, Super, Recursion, BlockOf, Plain, written}
use Rattle.minijinja_semantics.specs.Layout.{batch_count, count_keyword, count_all, count_with_caller, count_all_with_caller}
use Rattle.minijinja_semantics.specs.Macros.{enclosed}
use Rattle.minijinja_semantics.specs.Pieces.{Open, OpenScope, OpenAutoEscape, OpenCapture}

-- ---- marks

-- the line of an instruction and its span, each if it has one
pub record Mark : Type 0 where
  pub line : Option ℕ
  pub span : Option Span

-- neither
abbrev pub unmarked : Mark
unmarked = record { line = None; span = None }

-- a span of zeros is no place
abbrev pub is_nowhere : Span → Bool
is_nowhere s = s.start_line == 0 && (s.start_col == 0 && (s.start_offset == 0 && (s.end_line == 0 && (s.end_col == 0 && s.end_offset == 0))))

abbrev pub shown : Span → Option Span
shown s = if is_nowhere s then None else Some s

-- an instruction that was added with a line alone, and one that was added with a span
abbrev pub at_line : ℕ → Mark
at_line n = record { line = Some n; span = None }

abbrev pub at_span : Span → Mark
at_span s = record { line = Some s.start_line; span = shown s }

-- the last element, and in an empty list this one
abbrev pub last_or : {X : Type 0} → X → List X → X
last_or d [] = d
last_or d (x ∷ xs) = last_or x xs

-- an instruction that was added with neither has what the last one has
abbrev pub last_mark : List Mark → Mark
last_mark ms = last_or unmarked ms

-- What is known while code is made: the mark of each instruction so far, the line in force, and the
-- innermost span that is open, one of zeros where none is.
pub record Margin : Type 0 where
  pub marks : List Mark
  pub line : ℕ
  pub span : Span

-- the mark of what is added now: the span that is open, if it begins on the line in force, else
-- that line alone
abbrev pub mark_now : Margin → Mark
mark_now t = if t.span.start_line == t.line then at_span t.span else at_line t.line

-- what a part of a tree adds
abbrev pub Marking : Type 0
Marking = Margin → Margin

infixr 5 ◌⟫◌
-- one part and then another
abbrev pub ◌⟫◌ : Marking → Marking → Marking
g ⟫ h = λ t. h (g t)

abbrev pub nowhere_else : Marking
nowhere_else t = t

abbrev pub noted : Mark → Marking
noted m t = record t { marks = t.marks ++ m ∷ [] }

-- the given number of instructions
abbrev pub here : ℕ → Marking
here zero t = t
here (suc n) t = here n (noted (mark_now t) t)

-- one that has what the one before has
abbrev pub again : Marking
again t = noted (last_mark t.marks) t

-- one that has a span of its own
abbrev pub alone_at : Span → Marking
alone_at s t = noted (at_span s) t

-- from here on the line is where this begins
abbrev pub on_line : Span → Marking
on_line s t = record t { line = s.start_line }

-- the same, and the span is open meanwhile
abbrev pub within : Span → Marking → Marking
within s g t = record (g (record t { line = s.start_line; span = s })) { span = t.span }

-- ---- expressions

-- a constant in place of what computes it
unfoldable pub folded : {C : Type 0} → Option C → Span → Marking → Marking
folded None s g = g
folded (Some c) s g = on_line s ⟫ here 1

unfoldable pub loaded : {C : Type 0} → Option C → Marking → Marking
loaded None g = g
loaded (Some c) g = here 1

abbrev pub unary_operator : UnaryOp → Span → Marking
unary_operator logical_not s = here 1
unary_operator negation s = alone_at s

-- the jump of an operator that may leave out its right side belongs to its left side
abbrev pub operation : Working → Marking → Marking
operation (Makes o) right = right ⟫ here 1
operation Divides right = right ⟫ here 1
operation IfTrue right = again ⟫ right
operation IfFalse right = again ⟫ right

abbrev pub comparison : CompareOp → Marking
comparison not_in = here 2
comparison _ = here 1

abbrev pub paired : List Marking → List Marking → Marking
paired [] vs = nowhere_else
paired (k ∷ ks) [] = nowhere_else
paired (k ∷ ks) (v ∷ vs) = k ⟫ v ⟫ paired ks vs

-- what makes one map of keyword arguments, and what spreads batches
unfoldable pub merged : (batches waiting : ℕ) → Marking
merged zero zero = nowhere_else
merged zero (suc n) = here 1
merged (suc b) n = here (batch_count n) ⟫ here 1

unfoldable pub spreading : (batches waiting : ℕ) → Marking
spreading zero n = nowhere_else
spreading (suc b) n = here (batch_count n) ⟫ here 1

abbrev pub arguments : {C F : Type 0} → Functions C F → Args C → (front : ℕ) → Marking → Marking → Marking
arguments f args front positional_ones keyword_ones =
    let k = count_keyword (bare_args args) (record { batches = 0; waiting = 0 }) in
    let c = count_all (bare_args args) front in
    positional_ones ⟫ loaded (fold_keywords f (constant_keywords f (bare_args args))) (keyword_ones ⟫ merged k.batches k.waiting) ⟫ spreading c.batches c.waiting

abbrev pub call_of : {X : Type 0} → Callee X → Marking → Marking → (ℕ → Marking) → Marking
call_of (function x) base value given = given 0 ⟫ here 1
call_of (block x) base value given = here 3
call_of (method e x) base value given = base ⟫ given 1 ⟫ here 1
call_of (object e) base value given = value ⟫ given 1 ⟫ here 1

abbrev mutual
  pub expr : {C F : Type 0} → Functions C F → Expr C → Marking
  expr f (variable x s) = on_line s ⟫ here 1
  expr f (constant c s) = on_line s ⟫ here 1
  expr f (slice e start stop step s) = within s (expr f e ⟫ optional f start ⟫ optional f stop ⟫ optional f step ⟫ here 1)
  expr f (unary o e s) = folded (fold f (bare_expr (unary o e s))) s (on_line s ⟫ expr f e ⟫ unary_operator o s)
  expr f (binary o a b s) = folded (fold f (bare_expr (binary o a b s))) s (within s (expr f a ⟫ operation (working o) (expr f b)))
  expr f (compare e cs s) = folded (fold f (bare_expr (compare e cs s))) s (within s (expr f e ⟫ chain f cs))
  expr f (if_expr t a b s) = on_line s ⟫ expr f t ⟫ here 1 ⟫ expr f a ⟫ here 1 ⟫ optional f b
  expr f (filter o x args s) = within s (operand f o ⟫ arguments f args 1 (positional f args 1) (keyword f args 0) ⟫ here 1)
  expr f (test e x args s) = within s (expr f e ⟫ arguments f args 1 (positional f args 1) (keyword f args 0) ⟫ here 1)
  expr f (attribute e x s) = within s (expr f e ⟫ here 1)
  expr f (item e k s) = within s (expr f e ⟫ expr f k ⟫ here 1)
  expr f (call e args s) = within s (call_of (callee (bare_expr e)) (base f e) (expr f e) (λ n. arguments f args n (positional f args n) (keyword f args 0)))
  expr f (list es s) = folded (fold f (bare_expr (list es s))) s (on_line s ⟫ items f es ⟫ here 1)
  expr f (tuple es s) = folded (fold f (bare_expr (tuple es s))) s (on_line s ⟫ items f es ⟫ here 1)
  expr f (map ks vs s) = folded (fold f (bare_expr (map ks vs s))) s (on_line s ⟫ paired (each f ks) (each f vs) ⟫ here 1)

  pub base : {C F : Type 0} → Functions C F → Expr C → Marking
  base f (attribute e x s) = expr f e
  base f _ = here 1

  pub optional : {C F : Type 0} → Functions C F → Optional C → Marking
  optional f absent = here 1
  optional f (present e) = expr f e

  pub operand : {C F : Type 0} → Functions C F → Optional C → Marking
  operand f absent = nowhere_else
  operand f (present e) = expr f e

  pub items : {C F : Type 0} → Functions C F → Exprs C → Marking
  items f no_more = nowhere_else
  items f (more e es) = expr f e ⟫ items f es

  pub each : {C F : Type 0} → Functions C F → Exprs C → List Marking
  each f no_more = []
  each f (more e es) = expr f e ∷ each f es

  pub chain : {C F : Type 0} → Functions C F → Comparisons C → Marking
  chain f compared = nowhere_else
  chain f (against o e cs) = expr f e ⟫ comparisons f o cs ⟫ here 3

  pub comparisons : {C F : Type 0} → Functions C F → CompareOp → Comparisons C → Marking
  comparisons f o compared = comparison o
  comparisons f o (against o' e cs) = here 2 ⟫ expr f e ⟫ comparisons f o' cs

  pub positional : {C F : Type 0} → Functions C F → Args C → (waiting : ℕ) → Marking
  positional f no_args n = nowhere_else
  positional f (pos e args) n = expr f e ⟫ positional f args (suc n)
  positional f (pos_splat e args) n = here (batch_count n) ⟫ expr f e ⟫ positional f args 0
  positional f (kwarg x e args) n = positional f args n
  positional f (kwarg_splat e args) n = positional f args n

  pub keyword : {C F : Type 0} → Functions C F → Args C → (waiting : ℕ) → Marking
  keyword f no_args n = nowhere_else
  keyword f (pos e args) n = keyword f args n
  keyword f (pos_splat e args) n = keyword f args n
  keyword f (kwarg x e args) n = here 1 ⟫ expr f e ⟫ keyword f args (suc n)
  keyword f (kwarg_splat e args) n = here (batch_count n) ⟫ expr f e ⟫ keyword f args 0

-- ---- statements

abbrev pub span_of : {C : Type 0} → Expr C → Span
span_of (variable x s) = s
span_of (constant c s) = s
span_of (slice e start stop step s) = s
span_of (unary o e s) = s
span_of (binary o a b s) = s
span_of (compare e cs s) = s
span_of (if_expr t a b s) = s
span_of (filter o x args s) = s
span_of (test e x args s) = s
span_of (attribute e x s) = s
span_of (item e k s) = s
span_of (call e args s) = s
span_of (list es s) = s
span_of (tuple es s) = s
span_of (map ks vs s) = s

abbrev mutual
  pub target : {C F : Type 0} → Functions C F → Expr C → Marking
  target f (variable x s) = here 1
  target f (attribute e x s) = within s (expr f e ⟫ here 1)
  target f (list es s) = within s (here 1 ⟫ targets f es)
  target f _ = nowhere_else

  pub targets : {C F : Type 0} → Functions C F → Exprs C → Marking
  targets f no_more = nowhere_else
  targets f (more e es) = target f e ⟫ targets f es

abbrev pub assignments : {C F : Type 0} → Functions C F → List (Expr C × Expr C) → Marking
assignments f [] = nowhere_else
assignments f (a ∷ rest) = expr f a.1 ⟫ target f a.0 ⟫ assignments f rest

-- the arguments of a call that stands in an output
abbrev pub arguments_of : {C F : Type 0} → Functions C F → Expr C → Marking
arguments_of f (call e args s) = positional f args 0
arguments_of f _ = nowhere_else

abbrev pub write : {C F X : Type 0} → Functions C F → Written X → Expr C → Marking
write f Super e = on_line (span_of e) ⟫ alone_at (span_of e)
write f (Recursion x) e = on_line (span_of e) ⟫ arguments_of f e ⟫ alone_at (span_of e)
write f (BlockOf x) e = on_line (span_of e) ⟫ here 1
write f Plain e = within (span_of e) (expr f e ⟫ here 1)

-- what gives a loop its items, up to where it asks for the first
abbrev pub looped_over : {C F : Type 0} → Functions C F → (target iterable : Expr C) → Optional C → Marking
looped_over f t e absent = within (span_of e) (expr f e ⟫ here 2)
looped_over f t e (present c) =
    here 1 ⟫ within (span_of e) (expr f e) ⟫ within (span_of c) (here 3 ⟫ target f t ⟫ expr f c ⟫ here 6) ⟫ here 3 ⟫ here 2

-- what ends a loop, and what asks for its else body
abbrev pub popping : (has_else : Bool) → Marking
popping true = here 2
popping false = here 1

abbrev pub if_any : Bool → Marking → Marking
if_any true g = here 1 ⟫ g
if_any false g = nowhere_else

abbrev pub filters : {C F : Type 0} → Functions C F → Optional C → Marking
filters f absent = nowhere_else
filters f (present chain) = expr f chain

-- arguments of a macro, the last one first
abbrev pub taking : {C F : Type 0} → Functions C F → (args defaults : List (Expr C)) → Marking
taking f [] ds = nowhere_else
taking f (e ∷ es) [] = target f e ⟫ taking f es []
taking f (e ∷ es) (d ∷ ds) = (here 3 ⟫ here 1 ⟫ expr f d) ⟫ target f e ⟫ taking f es ds

abbrev pub looking_up : {C F : Type 0} → Functions C F → List (Expr C × Optional C) → Marking
looking_up f [] = nowhere_else
looking_up f (n ∷ ns) = expr f n.0 ⟫ looking_up f ns

abbrev pub stored_as : {C : Type 0} → Expr C × Optional C → Expr C
stored_as (e, absent) = e
stored_as (e, present alias) = alias

abbrev pub storing_back : {C F : Type 0} → Functions C F → List (Expr C × Optional C) → Marking
storing_back f [] = nowhere_else
storing_back f (n ∷ ns) = storing_back f ns ⟫ target f (stored_as n)

abbrev pub arguments_with : {C F : Type 0} → Functions C F → Args C → (front : ℕ) → Marking → Marking
arguments_with f args front m =
    let k = count_with_caller (bare_args args) in
    let c = count_all_with_caller (bare_args args) front in
    positional f args front ⟫ keyword f args 0 ⟫ here 1 ⟫ m ⟫ merged k.batches k.waiting ⟫ spreading c.batches c.waiting

abbrev pub are_any : {C : Type 0} → Stmts C → Bool
are_any done = false
are_any (also s rest) = true

-- how many instructions close what is open
abbrev pub closing_count : List Open → ℕ
closing_count [] = 0
closing_count (OpenScope ∷ os) = suc (closing_count os)
closing_count (OpenAutoEscape ∷ os) = suc (closing_count os)
closing_count (OpenCapture ∷ os) = suc (suc (closing_count os))

abbrev mutual
  pub stmt : {C F : Type 0} → Functions C F → List Open → Stmt C → Marking
  stmt f os (template ss s) = on_line s ⟫ stmts f os ss
  stmt f os (data_text t s) = on_line s ⟫ here 1
  stmt f os (output e s) = write f (written (bare_expr e)) e
  stmt f os (assignment t e s) = on_line s ⟫ expr f e ⟫ target f t
  stmt f os (for_loop t e only recursive body else_body s) =
      on_line s ⟫ looped_over f t e only ⟫ target f t ⟫ stmts f [] body ⟫ here 1 ⟫ popping (are_any else_body) ⟫ if_any (are_any else_body) (stmts f os else_body)
  stmt f os (if_cond e true_body false_body s) =
      on_line s ⟫ within (span_of e) (expr f e ⟫ here 1) ⟫ stmts f os true_body ⟫ if_any (are_any false_body) (stmts f os false_body)
  stmt f os (with_block ts body s) = on_line s ⟫ here 1 ⟫ assignments f ts ⟫ stmts f (OpenScope ∷ os) body ⟫ here 1
  stmt f os (set_block t chain body s) = on_line s ⟫ here 1 ⟫ stmts f (OpenCapture ∷ os) body ⟫ here 1 ⟫ filters f chain ⟫ target f t
  stmt f os (auto_escape e body s) = on_line s ⟫ expr f e ⟫ here 1 ⟫ stmts f (OpenAutoEscape ∷ os) body ⟫ here 1
  stmt f os (filter_block chain body s) = on_line s ⟫ here 1 ⟫ stmts f (OpenCapture ∷ os) body ⟫ here 1 ⟫ expr f chain ⟫ here 1
  stmt f os (named_block x required body s) = on_line s ⟫ here 1
  stmt f os (extends e s) = on_line s ⟫ expr f e ⟫ alone_at s
  stmt f os (include e ignore s) = on_line s ⟫ expr f e ⟫ alone_at s
  stmt f os (import_all e t s) = here 2 ⟫ expr f e ⟫ alone_at s ⟫ here 4 ⟫ target f t
  stmt f os (from_import e names s) = here 2 ⟫ expr f e ⟫ alone_at s ⟫ looking_up f names ⟫ here 1 ⟫ storing_back f names ⟫ here 2
  stmt f os (declare m) = macro_value f m ⟫ here 1
  stmt f os (call_block e args from m s) =
      within from (call_of (callee (bare_expr e)) (base f e) (expr f e) (λ n. arguments_with f args n (macro_value f m))) ⟫ here 1
  stmt f os (do_call e args from s) = expr f (call e args from) ⟫ here 1
  stmt f os (break_loop s) = on_line s ⟫ here (closing_count os) ⟫ here 1
  stmt f os (continue_loop s) = on_line s ⟫ here (closing_count os) ⟫ here 1

  pub stmts : {C F : Type 0} → Functions C F → List Open → Stmts C → Marking
  stmts f os done = nowhere_else
  stmts f os (also s rest) = stmt f os s ⟫ stmts f os rest

  pub macro_value : {C F : Type 0} → Functions C F → Macro C → Marking
  macro_value f (macro x args defaults body s) =
      on_line s ⟫ here 1 ⟫ taking f (reverse args) (reverse defaults) ⟫ stmts f [] body ⟫ here 1
      ⟫ here (length (enclosed (bare_macro (macro x args defaults body s)))) ⟫ here 3

-- where the code of a template begins, and that of a block, which has a list of its own: on the
-- block's line
abbrev pub start : Margin
start = record { marks = []; line = 0; span = record { start_line = 0; start_col = 0; start_offset = 0; end_line = 0; end_col = 0; end_offset = 0 } }

abbrev pub stmt_marks : {C F : Type 0} → Functions C F → Stmt C → List Mark
stmt_marks f s = (stmt f [] s start).marks

abbrev pub block_marks : {C F : Type 0} → Functions C F → Span → Stmts C → List Mark
block_marks f s body = (stmts f [] body (on_line s start)).marks

abbrev pub expr_marks : {C F : Type 0} → Functions C F → Expr C → List Mark
expr_marks f e = (expr f e start).marks
