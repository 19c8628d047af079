-- The variables and the data of a tree that have an instruction of their own, in the order of the
-- code, and what their marks say.
use Rattle.std.specs.Prelude.{◌≡◌, ⊤, ℕ, List, [], ◌∷◌, ◌++◌, length, reverse, Option, Some, None, Contains, MatchOption}
use Rattle.minijinja_syntax.specs.Texts.{Text}
use Rattle.minijinja_value.specs.Values.{Functions}
use Rattle.minijinja_syntax.specs.declared.tokens.Span.{Span}
use Rattle.minijinja_tree.specs.Callees.{Callee, function, method, block, object, callee}
use Rattle.minijinja_tree.specs.Folding.{fold, constant_keywords, fold_keywords}
use Rattle.minijinja_tree.specs.SpannedTrees.{Expr, variable, constant, slice, unary, binary, compare, if_expr, filter, test, attribute, item, call, list, tuple, map, Optional, absent, present, Exprs, no_more, more, Comparisons, compared, against, Args, no_args, pos, pos_splat, kwarg, kwarg_splat, Stmt, template, data_text, output, assignment, for_loop, if_cond, with_block, set_block, auto_escape, filter_block, named_block, extends, include, import_all, from_import, declare, call_block, do_call, break_loop, continue_loop, Stmts, done, also, Macro, macro, bare_expr, bare_args}
use Rattle.minijinja_semantics.specs.Calls.{Written, Super, Recursion, BlockOf, Plain, written}
use Rattle.minijinja_semantics.specs.Code.{Instr, Do}
use Rattle.minijinja_semantics.specs.Events.{Lookup, EmitRaw}
use Rattle.minijinja_semantics.specs.Marks.{Mark, span_of, stored_as}

-- a variable or data, where it stands, and the spans that its mark may have: its own, those of the
-- nodes round it, and those of the calls of the call blocks round it
pub record Look : Type 0 where
  pub text : Text
  pub span : Span
  pub around : List Span

abbrev pub look : Text → Span → List Span → List Look
look x s r = record { text = x; span = s; around = s ∷ r } ∷ []

-- what is known before a template runs has no other code
unfoldable pub unless : {C : Type 0} → Option C → List Look → List Look
unless None ls = ls
unless (Some c) ls = []

abbrev pub in_turn : List (List Look) → List (List Look) → List Look
in_turn [] vs = []
in_turn (k ∷ ks) [] = []
in_turn (k ∷ ks) (v ∷ vs) = k ++ (v ++ in_turn ks vs)

abbrev pub called : {X : Type 0} → Callee X → List Look → List Look → List Look → List Look
called (function x) base value args = args
called (block x) base value args = []
called (method e x) base value args = base ++ args
called (object e) base value args = value ++ args

-- of arguments, of the positional ones and those with a keyword
abbrev pub given : {C F : Type 0} → Functions C F → Args C → List Look → List Look → List Look
given f args ps ks = ps ++ unless (fold_keywords f (constant_keywords f (bare_args args))) ks

-- of an expression, within these spans
abbrev mutual
  pub looks : {C F : Type 0} → Functions C F → List Span → Expr C → List Look
  looks f r (variable x s) = look x s r
  looks f r (constant c s) = []
  looks f r (slice e start stop step s) = looks f (s ∷ r) e ++ (optional_looks f (s ∷ r) start ++ (optional_looks f (s ∷ r) stop ++ optional_looks f (s ∷ r) step))
  looks f r (unary o e s) = unless (fold f (bare_expr (unary o e s))) (looks f (s ∷ r) e)
  looks f r (binary o a b s) = unless (fold f (bare_expr (binary o a b s))) (looks f (s ∷ r) a ++ looks f (s ∷ r) b)
  looks f r (compare e cs s) = unless (fold f (bare_expr (compare e cs s))) (looks f (s ∷ r) e ++ compared_looks f (s ∷ r) cs)
  looks f r (if_expr t a b s) = looks f (s ∷ r) t ++ (looks f (s ∷ r) a ++ optional_looks f (s ∷ r) b)
  looks f r (filter o x args s) = optional_looks f (s ∷ r) o ++ given f args (positional_looks f (s ∷ r) args) (keyword_looks f (s ∷ r) args)
  looks f r (test e x args s) = looks f (s ∷ r) e ++ given f args (positional_looks f (s ∷ r) args) (keyword_looks f (s ∷ r) args)
  looks f r (attribute e x s) = looks f (s ∷ r) e
  looks f r (item e k s) = looks f (s ∷ r) e ++ looks f (s ∷ r) k
  looks f r (call e args s) = called (callee (bare_expr e)) (base_looks f (s ∷ r) e) (looks f (s ∷ r) e) (given f args (positional_looks f (s ∷ r) args) (keyword_looks f (s ∷ r) args))
  looks f r (list es s) = unless (fold f (bare_expr (list es s))) (all_looks f (s ∷ r) es)
  looks f r (tuple es s) = unless (fold f (bare_expr (tuple es s))) (all_looks f (s ∷ r) es)
  looks f r (map ks vs s) = unless (fold f (bare_expr (map ks vs s))) (in_turn (each_looks f (s ∷ r) ks) (each_looks f (s ∷ r) vs))

  pub base_looks : {C F : Type 0} → Functions C F → List Span → Expr C → List Look
  base_looks f r (attribute e x s) = looks f r e
  base_looks f r _ = []

  pub optional_looks : {C F : Type 0} → Functions C F → List Span → Optional C → List Look
  optional_looks f r absent = []
  optional_looks f r (present e) = looks f r e

  pub all_looks : {C F : Type 0} → Functions C F → List Span → Exprs C → List Look
  all_looks f r no_more = []
  all_looks f r (more e es) = looks f r e ++ all_looks f r es

  pub each_looks : {C F : Type 0} → Functions C F → List Span → Exprs C → List (List Look)
  each_looks f r no_more = []
  each_looks f r (more e es) = looks f r e ∷ each_looks f r es

  pub compared_looks : {C F : Type 0} → Functions C F → List Span → Comparisons C → List Look
  compared_looks f r compared = []
  compared_looks f r (against o e cs) = looks f r e ++ compared_looks f r cs

  pub positional_looks : {C F : Type 0} → Functions C F → List Span → Args C → List Look
  positional_looks f r no_args = []
  positional_looks f r (pos e args) = looks f r e ++ positional_looks f r args
  positional_looks f r (pos_splat e args) = looks f r e ++ positional_looks f r args
  positional_looks f r (kwarg x e args) = positional_looks f r args
  positional_looks f r (kwarg_splat e args) = positional_looks f r args

  pub keyword_looks : {C F : Type 0} → Functions C F → List Span → Args C → List Look
  keyword_looks f r no_args = []
  keyword_looks f r (pos e args) = keyword_looks f r args
  keyword_looks f r (pos_splat e args) = keyword_looks f r args
  keyword_looks f r (kwarg x e args) = looks f r e ++ keyword_looks f r args
  keyword_looks f r (kwarg_splat e args) = looks f r e ++ keyword_looks f r args

-- of a target
abbrev mutual
  pub target_looks : {C F : Type 0} → Functions C F → List Span → Expr C → List Look
  target_looks f r (attribute e x s) = looks f (s ∷ r) e
  target_looks f r (list es s) = targets_looks f (s ∷ r) es
  target_looks f r _ = []

  pub targets_looks : {C F : Type 0} → Functions C F → List Span → Exprs C → List Look
  targets_looks f r no_more = []
  targets_looks f r (more e es) = target_looks f r e ++ targets_looks f r es

abbrev pub assigned_looks : {C F : Type 0} → Functions C F → List Span → List (Expr C × Expr C) → List Look
assigned_looks f r [] = []
assigned_looks f r (a ∷ rest) = looks f r a.1 ++ (target_looks f r a.0 ++ assigned_looks f r rest)

abbrev pub arguments_looks : {C F : Type 0} → Functions C F → List Span → Expr C → List Look
arguments_looks f r (call e args s) = positional_looks f r args
arguments_looks f r _ = []

abbrev pub write_looks : {C F X : Type 0} → Functions C F → List Span → Written X → Expr C → List Look
write_looks f r Super e = []
write_looks f r (Recursion x) e = arguments_looks f r e
write_looks f r (BlockOf x) e = []
write_looks f r Plain e = looks f (span_of e ∷ r) e

abbrev pub looped_looks : {C F : Type 0} → Functions C F → List Span → (target iterable : Expr C) → Optional C → List Look
looped_looks f r t e absent = looks f (span_of e ∷ r) e
looped_looks f r t e (present c) = looks f (span_of e ∷ r) e ++ (target_looks f (span_of c ∷ r) t ++ looks f (span_of c ∷ r) c)

abbrev pub taken_looks : {C F : Type 0} → Functions C F → List Span → (args defaults : List (Expr C)) → List Look
taken_looks f r [] ds = []
taken_looks f r (e ∷ es) [] = target_looks f r e ++ taken_looks f r es []
taken_looks f r (e ∷ es) (d ∷ ds) = looks f r d ++ (target_looks f r e ++ taken_looks f r es ds)

abbrev pub imported_looks : {C F : Type 0} → Functions C F → List Span → List (Expr C × Optional C) → List Look
imported_looks f r [] = []
imported_looks f r (n ∷ ns) = looks f r n.0 ++ imported_looks f r ns

abbrev pub stored_looks : {C F : Type 0} → Functions C F → List Span → List (Expr C × Optional C) → List Look
stored_looks f r [] = []
stored_looks f r (n ∷ ns) = stored_looks f r ns ++ target_looks f r (stored_as n)

-- of a statement, within the calls of these call blocks
abbrev mutual
  pub stmt_looks : {C F : Type 0} → Functions C F → List Span → Stmt C → List Look
  stmt_looks f r (template ss s) = stmts_looks f r ss
  stmt_looks f r (data_text t s) = look t s r
  stmt_looks f r (output e s) = write_looks f r (written (bare_expr e)) e
  stmt_looks f r (assignment t e s) = looks f r e ++ target_looks f r t
  stmt_looks f r (for_loop t e only recursive body else_body s) = (looped_looks f r t e only ++ (target_looks f r t ++ stmts_looks f r body)) ++ stmts_looks f r else_body
  stmt_looks f r (if_cond e true_body false_body s) = looks f (span_of e ∷ r) e ++ (stmts_looks f r true_body ++ stmts_looks f r false_body)
  stmt_looks f r (with_block ts body s) = assigned_looks f r ts ++ stmts_looks f r body
  stmt_looks f r (set_block t chain body s) = stmts_looks f r body ++ (optional_looks f r chain ++ target_looks f r t)
  stmt_looks f r (auto_escape e body s) = looks f r e ++ stmts_looks f r body
  stmt_looks f r (filter_block chain body s) = stmts_looks f r body ++ looks f r chain
  stmt_looks f r (named_block x required body s) = []
  stmt_looks f r (extends e s) = looks f r e
  stmt_looks f r (include e ignore s) = looks f r e
  stmt_looks f r (import_all e t s) = looks f r e ++ target_looks f r t
  stmt_looks f r (from_import e names s) = looks f r e ++ (imported_looks f r names ++ stored_looks f r names)
  stmt_looks f r (declare m) = macro_looks f r m
  stmt_looks f r (call_block e args from m s) =
      called (callee (bare_expr e)) (base_looks f (from ∷ r) e) (looks f (from ∷ r) e) ((positional_looks f (from ∷ r) args ++ keyword_looks f (from ∷ r) args) ++ macro_looks f (from ∷ r) m)
  stmt_looks f r (do_call e args from s) = looks f r (call e args from)
  stmt_looks f r (break_loop s) = []
  stmt_looks f r (continue_loop s) = []

  pub stmts_looks : {C F : Type 0} → Functions C F → List Span → Stmts C → List Look
  stmts_looks f r done = []
  stmts_looks f r (also s rest) = stmt_looks f r s ++ stmts_looks f r rest

  pub macro_looks : {C F : Type 0} → Functions C F → List Span → Macro C → List Look
  macro_looks f r (macro x args defaults body s) = taken_looks f r (reverse args) (reverse defaults) ++ stmts_looks f r body

-- the text of an instruction that looks up a variable or writes data
abbrev pub text_looked : {C : Type 0} → Instr C → Option Text
text_looked (Do Lookup x n) = Some x
text_looked (Do EmitRaw t n) = Some t
text_looked _ = None

abbrev pub and_sight : Option Text → Mark → List (Text × Mark) → List (Text × Mark)
and_sight None m rest = rest
and_sight (Some x) m rest = (x, m) ∷ rest

-- these instructions, with their marks
abbrev pub sights : {C : Type 0} → List (Instr C) → List Mark → List (Text × Mark)
sights [] ms = []
sights (i ∷ is) [] = []
sights (i ∷ is) (m ∷ ms) = and_sight (text_looked i) m (sights is ms)

-- the text is the node's, and the mark has the line where the node begins, and no span or one of
-- those round it
pub record IsSeen (p : Text × Mark) (l : Look) : Type 0 where
  pub text : p.0 ≡ l.text
  pub line : p.1.line ≡ Some l.span.start_line
  pub span : MatchOption p.1.span ⊤ (λ s. Contains l.around s)

-- one after another
abbrev pub AreSeen : List (Text × Mark) → List Look → Type 0
AreSeen [] [] = Unit {0}
AreSeen (p ∷ ps) (l ∷ ls) = IsSeen p l × AreSeen ps ls
AreSeen _ _ = ⊥

-- one mark for each instruction, and those of variables and data are their nodes' own
pub record AreMarksOf {C : Type 0} (code : List (Instr C)) (ms : List Mark) (ls : List Look) : Type 0 where
  pub as_many : length code ≡ length ms
  pub seen : AreSeen (sights code ms) ls

-- ---- whose lines and spans marks have

-- a line on which a span begins of which this holds
abbrev pub IsLineOf : (Span → Type 0) → ℕ → Type 0
IsLineOf S l = (s : Span) × S s × (l ≡ s.start_line)

-- the line is one of these, and the span is one of which this holds
pub record IsMarkOf (S : Span → Type 0) (m : Mark) : Type 0 where
  pub line : MatchOption m.line ⊤ (IsLineOf S)
  pub span : MatchOption m.span ⊤ S
