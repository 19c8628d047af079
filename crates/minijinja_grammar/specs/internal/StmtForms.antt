-- The forms of statements, over those of expressions.
use Rattle.std.specs.Prelude.{ℕ, zero, suc, List, [], ◌∷◌, ◌++◌, Bool, true, false, not, ◌||◌, if◌then◌else◌, Option, Some, None, is_some, nat_eq, codes}
use Rattle.std.specs.List.{list_any, starts_with}
use Rattle.std.specs.Option.{option_map}
use Rattle.minijinja_syntax.specs.Texts.{Text}
use Rattle.minijinja_value.specs.Values.{Functions}
use Rattle.minijinja_syntax.specs.Tokens.{Tok, ident, template_data, variable_start, variable_end, block_start, block_end, assign, comma, pipe, paren_open, paren_close}
use Rattle.minijinja_syntax.specs.declared.tokens.Span.{Span}
use Rattle.minijinja_tree.specs.SpannedTrees.{Expr, Args, variable, attribute, call, filter, list, tuple, Optional, absent, present, optional_of, Exprs, no_more, more, exprs_of, args_of, Stmt, data_text, output, assignment, for_loop, if_cond, with_block, set_block, auto_escape, filter_block, named_block, extends, include, import_all, from_import, declare, call_block, do_call, break_loop, continue_loop, stmts_of, macro_of}
use Rattle.minijinja_grammar.specs.Words.{is, is_identifier, in_word, if_word, else_word, elif_word, recursive_word, as_word, import_word, scoped_word, required_word, ignore_word, missing_word, context_word, endfor_word, endif_word, endwith_word, endset_word, endautoescape_word, endfilter_word, endblock_word, endmacro_word, endcall_word}
use Rattle.minijinja_grammar.specs.Statements.{Ends, at_endfor_or_else, at_endfor, at_endif_else_or_elif, at_endif, at_endwith, at_endset, at_endautoescape, at_endfilter, at_endblock, at_endmacro, at_endcall, ends_body, Context, inside_loop, inside_block, inside_macro, begins_context, ends_names, is_blank}
use Rattle.minijinja_grammar.specs.internal.Keywords.{Keyword, for_keyword, if_keyword, with_keyword, set_keyword, autoescape_keyword, filter_keyword, block_keyword, extends_keyword, include_keyword, import_keyword, from_keyword, macro_keyword, call_keyword, do_keyword, break_keyword, continue_keyword, keyword_of}
use Rattle.minijinja_syntax.specs.Streams.{SpannedTok}
use Rattle.minijinja_grammar.specs.internal.Forms.{Form, Turn, go_on, over, pure, nothing, one, start, new_name, many, either, ◌>>=◌, ◌>>◌}
use Rattle.minijinja_grammar.specs.internal.ExprForms.{next, of_kind, span_of_mark, when, spanned, behind, ident_and_span, items, exprs, maybe_args, name, Below, below, or_level}
use Rattle.minijinja_grammar.specs.internal.TargetForms.{name_word, stored_name, any_targets}

-- ---- words

-- the statement that a word begins, and where the word stands
abbrev pub keyword_and_span : SpannedTok → Option (Keyword × Span)
keyword_and_span (ident x, s) = option_map (λ k. (k, s)) (keyword_of x)
keyword_and_span _ = None

-- ---- bodies

-- every token, whichever it is
abbrev pub any_token : SpannedTok → Option SpannedTok
any_token t = Some t

-- an output, after its start: it ends before the end of its tag
unfoldable pub shown : {C : Type 0} → Form (Expr C) → Span → Form (Stmt C)
shown expr from = do
  e ← expr
  s ← spanned from (output e)
  next variable_end
  pure s

-- a statement and the end of its tag, after the start of it
unfoldable pub tag : {C : Type 0} → Form (Stmt C) → Form (Stmt C)
tag stmt = do
  s ← stmt
  next block_end
  pure s

-- one part more
abbrev pub also_part : {C : Type 0} → List (Stmt C) → Form (Stmt C) → Form (Turn (List (Stmt C)))
also_part ss f = f >>= (λ s. pure (go_on (ss ++ s ∷ [])))

-- Data | {{ Expr }} | {% Stmt %}, from its first token on, or the {% of the word that the body ends
-- at
abbrev pub part : {C : Type 0} → Form (Expr C) → Form (Stmt C) → Ends → List (Stmt C) → SpannedTok → Form (Turn (List (Stmt C)))
part expr stmt ends ss (template_data t, s) = pure (go_on (ss ++ data_text t s ∷ []))
part expr stmt ends ss (variable_start, s) = also_part ss (shown expr s)
part expr stmt ends ss (block_start, s) = either (ends_body ends) (pure (over ss)) (also_part ss (tag stmt))
part expr stmt ends ss _ = nothing

-- Body w = { Data | {{ Expr }} | {% Stmt %} } up to the first {% whose next token is a word of w:
-- no other token may come
unfoldable pub body : {C : Type 0} → Form (Expr C) → Form (Stmt C) → Ends → Form (List (Stmt C))
body expr stmt ends = many any_token (part expr stmt ends) []

-- ---- statements

-- Expr [ , [ Expr { , Expr } [,] ] ]: with a comma a tuple, which begins after that comma
unfoldable pub value : {C : Type 0} → Form (Expr C) → Form (Expr C)
value expr = do
  e ← expr
  behind comma
      (do
        from ← start
        es ← exprs expr (e ∷ [])
        spanned from (tuple (exprs_of es)))
      (pure e)

-- Name [Args], on an operand that is absent at the start of a chain
unfoldable pub chained : {C : Type 0} → Form (Expr C) → Option (Expr C) → Form (Expr C)
chained expr e = do
  from ← start
  x ← name
  xs ← maybe_args expr
  spanned from (filter (optional_of e) x (args_of xs))

-- Chain = Name [Args] { | Name [Args] }
unfoldable pub chain : {C : Type 0} → Form (Expr C) → Form (Expr C)
chain expr = do
  e ← chained expr None
  many (span_of_mark pipe) (λ e _. chained expr (Some e) >>= (λ x. pure (go_on x))) e

-- ( Targets ) | Ident, in parentheses of that depth at most
unfoldable pub bound_target : {C : Type 0} → ℕ → Form (Expr C)
bound_target zero = stored_name
bound_target (suc d) = behind paren_open
    (do
      t ← any_targets false d
      next paren_close
      pure t)
    stored_name

-- With = ( ( Targets ) | Ident ) = Expr
unfoldable pub binding : {C : Type 0} → (bound expr : Form (Expr C)) → Form (Expr C × Expr C)
binding bound expr = do
  t ← bound
  next assign
  e ← expr
  pure (t, e)

-- [ With { , With } ]
unfoldable pub bindings : {C : Type 0} → (bound expr : Form (Expr C)) → Form (List (Expr C × Expr C))
bindings bound expr = either (is block_end) (pure [])
    (binding bound expr >>= (λ b. many (span_of_mark comma) (λ bs _. binding bound expr >>= (λ c. pure (go_on (bs ++ c ∷ [])))) (b ∷ [])))

-- ["if" Expr], the test that the items of a loop have to pass
unfoldable pub loop_filter : {C : Type 0} → Form (Expr C) → Form (Option (Expr C))
loop_filter expr = behind if_word (expr >>= (λ e. pure (Some e))) (pure None)

-- [ | Chain ]
unfoldable pub filters_if_any : {C : Type 0} → Form (Expr C) → Form (Option (Expr C))
filters_if_any chain' = behind pipe (chain' >>= (λ e. pure (Some e))) (pure None)

-- = Expr [ , [ Expr { , Expr } [,] ] ], after the targets of a `set`
unfoldable pub rest_of_set : {C : Type 0} → Form (Expr C) → Span → Expr C → Form (Stmt C)
rest_of_set value' from t = do
  next assign
  v ← value'
  spanned from (assignment t v)

-- a call: what is called, the arguments, and where the call stands
abbrev pub call_of : {C : Type 0} → Expr C → Option (Expr C × Args C × Span)
call_of (call e xs s) = Some (e, xs, s)
call_of _ = None

-- `do` wants a call
abbrev pub done : {C : Type 0} → Span → Option (Expr C × Args C × Span) → Form (Stmt C)
done from None = nothing
done from (Some c) = spanned from (do_call c.0 c.1 c.2)

-- "do" Expr
unfoldable pub do_stmt : {C : Type 0} → Form (Expr C) → Span → Form (Stmt C)
do_stmt expr from = expr >>= (λ e. done from (call_of e))

-- an expression that has to be a call: what is called, the arguments, and where the call stands
abbrev pub call_in : {C : Type 0} → Option (Expr C × Args C × Span) → Form (Expr C × Args C × Span)
call_in None = nothing
call_in (Some c) = pure c

unfoldable pub called : {C : Type 0} → Form (Expr C) → Form (Expr C × Args C × Span)
called expr = expr >>= (λ e. call_in (call_of e))

-- ---- other templates

-- [ ("with" | "without") "context" ], and whether it was there
unfoldable pub context_if_any : Form Bool
context_if_any = either begins_context (one (of_kind begins_context) >> next context_word >> pure true) (pure false)

-- the same, unless it was there before
abbrev pub context_unless : Bool → Form Bool
context_unless true = pure true
context_unless false = context_if_any

-- "extends" Expr
unfoldable pub extends_stmt : {C : Type 0} → Form (Expr C) → Span → Form (Stmt C)
extends_stmt expr from = do
  e ← expr
  spanned from (extends e)

-- "include" Expr [Ctx] [ "ignore" "missing" [Ctx] ]
unfoldable pub include_stmt : {C : Type 0} → Form (Expr C) → Span → Form (Stmt C)
include_stmt expr from = do
  e ← expr
  had ← context_if_any
  ignore ← behind ignore_word (next missing_word >> context_unless had >> pure true) (pure false)
  spanned from (include e ignore)

-- a variable, an attribute, or a list of such
abbrev mutual
  pub is_storable : {C : Type 0} → Expr C → Bool
  is_storable (variable x s) = true
  is_storable (attribute e x s) = true
  is_storable (list es s) = are_storable es
  is_storable _ = false

  pub are_storable : {C : Type 0} → Exprs C → Bool
  are_storable no_more = true
  are_storable (more e es) = if is_storable e then are_storable es else false

-- "import" Expr "as" Expr [Ctx]: what all that the template stores is stored to has to be storable
unfoldable pub import_stmt : {C : Type 0} → Form (Expr C) → Span → Form (Stmt C)
import_stmt expr from = do
  e ← expr
  next as_word
  t ← expr
  when (is_storable t) (context_if_any >> spanned from (import_all e t))

-- a name that may be taken from a template: it is not reserved, and has no `_` in front
abbrev pub public_word : SpannedTok → Option (Text × Span)
public_word (ident x, s) = if starts_with nat_eq x (codes "_") then None else name_word (ident x, s)
public_word _ = None

-- Imp = Ident [ "as" Ident ]
unfoldable pub imported : {C : Type 0} → Form (Expr C × Optional C)
imported = do
  x ← one public_word
  alias ← behind as_word (stored_name >>= (λ e. pure (present e))) (pure absent)
  pure (variable x.0 x.1, alias)

-- the name after a comma, unless that was the last one
unfoldable pub next_imported : {C : Type 0} → List (Expr C × Optional C) → Span → Form (Turn (List (Expr C × Optional C)))
next_imported ns at = either ends_names (pure (over ns)) (imported >>= (λ n. pure (go_on (ns ++ n ∷ []))))

-- [ Imp { , Imp } [,] ]
unfoldable pub imports : {C : Type 0} → Form (List (Expr C × Optional C))
imports = either ends_names (pure []) (imported >>= (λ n. many (span_of_mark comma) next_imported (n ∷ [])))

-- "from" Expr "import" [ Imp { , Imp } [,] ] [Ctx]
unfoldable pub from_stmt : {C : Type 0} → Form (Expr C) → Span → Form (Stmt C)
from_stmt expr from = do
  e ← expr
  next import_word
  ns ← imports
  context_if_any
  spanned from (from_import e ns)

-- ---- blocks

-- an identifier that no block before it has as its name
unfoldable pub block_name : Form Text
block_name = do
  x ← one ident_and_span
  new_name x.0
  pure x.0

-- ["scoped"], which changes nothing
abbrev pub scoped_if_any : Form (Unit {0})
scoped_if_any = behind scoped_word (pure tt) (pure tt)

-- [Ident], which has to be that name
unfoldable pub end_name : Text → Form (Unit {0})
end_name x = either is_identifier (next (ident x) >> pure tt) (pure tt)

-- Data that is whitespace, from its token on, or the {% of the word that the body ends at
abbrev pub blank_part : {C : Type 0} → List (Stmt C) → SpannedTok → Form (Turn (List (Stmt C)))
blank_part ss (template_data t, s) = when (is_blank t) (pure (go_on (ss ++ data_text t s ∷ [])))
blank_part ss (block_start, s) = pure (over ss)
blank_part ss _ = nothing

-- { Data }, all of it whitespace, up to the first {%
unfoldable pub blank_body : {C : Type 0} → Form (List (Stmt C))
blank_body = many any_token blank_part []

-- ---- macros

-- whether an argument of a macro has a default
abbrev pub have_default : {C : Type 0} → List (Expr C × Option (Expr C)) → Bool
have_default ps = list_any (λ p. is_some p.1) ps

-- [ = Expr ]: after an argument that has a default all have one
abbrev pub default_of : {C : Type 0} → Form (Expr C) → (has_to_have : Bool) → Form (Option (Expr C))
default_of expr true = next assign >> expr >>= (λ d. pure (Some d))
default_of expr false = behind assign (expr >>= (λ d. pure (Some d))) (pure None)

-- Param = Ident [ = Expr ], after those so far
unfoldable pub param : {C : Type 0} → Form (Expr C) → List (Expr C × Option (Expr C)) → Form (List (Expr C × Option (Expr C)))
param expr ps = do
  e ← stored_name
  d ← default_of expr (have_default ps)
  pure (ps ++ (e, d) ∷ [])

-- Params ), with Params = [ Param { , Param } [,] ], after the (
unfoldable pub params : {C : Type 0} → Form (Expr C) → Form (List (Expr C × Option (Expr C)))
params expr = do
  ps ← items is_identifier (param expr) []
  next paren_close
  pure ps

-- what follows the targets of a set block: the end of its tag, or filters
abbrev pub begins_set_block : Tok → Bool
begins_set_block t = is block_end t || is pipe t

-- What statements are made of: expressions, those that no `if` part ends, values that may be
-- tuples, chains of filters, targets, those of a `with`, bodies, the bodies of loops, of blocks and
-- of macros, and the If after an `elif`, from where that word stands.
pub record Parts (C : Type 0) : Type 1 where
  pub expr : Form (Expr C)
  pub or : Form (Expr C)
  pub value : Form (Expr C)
  pub chain : Form (Expr C)
  pub targets : (dotted : Bool) → Form (Expr C)
  pub bound : Form (Expr C)
  pub body : Ends → Form (List (Stmt C))
  pub loop_body : Ends → Form (List (Stmt C))
  pub block_body : Ends → Form (List (Stmt C))
  pub macro_body : Ends → Form (List (Stmt C))
  pub if_ : Span → Form (Stmt C)

module _ {C : Type 0} (p : Parts C) where
  -- %} Body w, and the word w
  unfoldable pub closed_body : Ends → Tok → Form (List (Stmt C))
  closed_body ends word = do
    next block_end
    ss ← p.body ends
    next word
    pure ss

  -- [ "else" %} Body w ], and the word w
  unfoldable pub else_body : Ends → Tok → Form (List (Stmt C))
  else_body ends word = behind else_word (closed_body ends word) (next word >> pure [])

  -- %} Body, of a loop
  unfoldable pub loop_body : Form (List (Stmt C))
  loop_body = next block_end >> p.loop_body at_endfor_or_else

  -- "for" Targets "in" Or ["if" Expr] ["recursive"] %} Body [ "else" %} Body ] "endfor"
  unfoldable pub for_stmt : Span → Form (Stmt C)
  for_stmt from = do
    t ← p.targets false
    next in_word
    e ← p.or
    only ← loop_filter p.expr
    again ← behind recursive_word (pure true) (pure false)
    ss ← loop_body
    other ← else_body at_endfor endfor_word
    spanned from (for_loop t e (optional_of only) again (stmts_of ss) (stmts_of other))

  -- "endif" | "else" %} Body endif "endif" | "elif" If: the false body
  unfoldable pub otherwise : Form (List (Stmt C))
  otherwise = either (is elif_word) (next elif_word >>= p.if_ >>= (λ s. pure (s ∷ []))) (else_body at_endif endif_word)

  -- If = Or %} Body endif,else,elif ( "endif" | "else" %} Body endif "endif" | "elif" If ), after
  -- the `if` or `elif` at the span
  unfoldable pub if_level : Span → Form (Stmt C)
  if_level from = do
    e ← p.or
    next block_end
    ss ← p.body at_endif_else_or_elif
    other ← otherwise
    spanned from (if_cond e (stmts_of ss) (stmts_of other))

  -- "with" [ With { , With } ] %} Body "endwith"
  unfoldable pub with_stmt : Span → Form (Stmt C)
  with_stmt from = do
    bs ← bindings p.bound p.expr
    ss ← closed_body at_endwith endwith_word
    spanned from (with_block bs (stmts_of ss))

  -- [ | Chain ] %} Body "endset", after the targets
  unfoldable pub rest_of_set_block : Span → Expr C → Form (Stmt C)
  rest_of_set_block from t = do
    e ← filters_if_any p.chain
    ss ← closed_body at_endset endset_word
    spanned from (set_block t (optional_of e) (stmts_of ss))

  -- "set" Targets, and a block or a value
  unfoldable pub set_stmt : Span → Form (Stmt C)
  set_stmt from = do
    t ← p.targets true
    either begins_set_block (rest_of_set_block from t) (rest_of_set p.value from t)

  -- "autoescape" Expr %} Body "endautoescape"
  unfoldable pub autoescape_stmt : Span → Form (Stmt C)
  autoescape_stmt from = do
    e ← p.expr
    ss ← closed_body at_endautoescape endautoescape_word
    spanned from (auto_escape e (stmts_of ss))

  -- "filter" Chain %} Body "endfilter"
  unfoldable pub filter_stmt : Span → Form (Stmt C)
  filter_stmt from = do
    e ← p.chain
    ss ← closed_body at_endfilter endfilter_word
    spanned from (filter_block e (stmts_of ss))

  -- %} Body, of a block: where it has to be overridden, whitespace
  unfoldable pub block_body : Bool → Form (List (Stmt C))
  block_body true = next block_end >> blank_body
  block_body false = next block_end >> p.block_body at_endblock

  -- "block" Ident ["scoped"] ["required"] %} Body "endblock" [Ident]
  unfoldable pub block_stmt : Span → Form (Stmt C)
  block_stmt from = do
    x ← block_name
    scoped_if_any
    required ← behind required_word (pure true) (pure false)
    ss ← block_body required
    next endblock_word
    end_name x
    spanned from (named_block x required (stmts_of ss))

  -- %} Body w, of a macro, and the word w
  unfoldable pub macro_body : Ends → Tok → Form (List (Stmt C))
  macro_body ends word = do
    next block_end
    ss ← p.macro_body ends
    next word
    pure ss

  -- "macro" Ident ( Params ) %} Body "endmacro"
  unfoldable pub macro_stmt : Span → Form (Stmt C)
  macro_stmt from = do
    x ← one ident_and_span
    next paren_open
    ps ← params p.expr
    ss ← macro_body at_endmacro endmacro_word
    spanned from (λ s. declare (macro_of x.0 ps ss s))

  -- "call" [ ( Params ) ] Expr %} Body "endcall": the macro is named `caller`, and stands where the
  -- statement does
  unfoldable pub call_stmt : Span → Form (Stmt C)
  call_stmt from = do
    ps ← behind paren_open (params p.expr) (pure [])
    c ← called p.expr
    ss ← macro_body at_endcall endcall_word
    spanned from (λ s. call_block c.0 c.1 c.2 (macro_of (codes "caller") ps ss s) s)

-- ---- in their context

unfoldable pub break_stmt : {C : Type 0} → Context → Span → Form (Stmt C)
break_stmt c from = when c.in_loop (spanned from break_loop)

unfoldable pub continue_stmt : {C : Type 0} → Context → Span → Form (Stmt C)
continue_stmt c from = when c.in_loop (spanned from continue_loop)

-- Stmt, after its first word
abbrev pub stmt_of : {C : Type 0} → Context → Parts C → Keyword × Span → Form (Stmt C)
stmt_of c p (for_keyword, from) = for_stmt p from
stmt_of c p (if_keyword, from) = if_level p from
stmt_of c p (with_keyword, from) = with_stmt p from
stmt_of c p (set_keyword, from) = set_stmt p from
stmt_of c p (autoescape_keyword, from) = autoescape_stmt p from
stmt_of c p (filter_keyword, from) = filter_stmt p from
stmt_of c p (block_keyword, from) = when (not c.in_macro) (block_stmt p from)
stmt_of c p (extends_keyword, from) = extends_stmt p.expr from
stmt_of c p (include_keyword, from) = include_stmt p.expr from
stmt_of c p (import_keyword, from) = import_stmt p.expr from
stmt_of c p (from_keyword, from) = from_stmt p.expr from
stmt_of c p (macro_keyword, from) = macro_stmt p from
stmt_of c p (call_keyword, from) = call_stmt p from
stmt_of c p (do_keyword, from) = do_stmt p.expr from
stmt_of c p (break_keyword, from) = break_stmt c from
stmt_of c p (continue_keyword, from) = continue_stmt c from

-- ---- depth

-- the level of expressions that takes no `if` part, with so much depth left for what nests in it
abbrev pub or_at : {C F : Type 0} → Functions C F → ℕ → Form (Expr C)
or_at f d = or_level f (below f d)

-- what nests in a part of a statement, beside its expressions: a Stmt in a body, and the If after
-- an `elif`, from where that word stands
pub record Within (C : Type 0) : Type 1 where
  pub stmt : Context → Form (Stmt C)
  pub if_ : Context → Span → Form (Stmt C)

-- the parts of a statement in which such expressions and such statements nest, and targets so deep
-- at most
abbrev pub parts_of : {C F : Type 0} → Functions C F → ℕ → Below C → Within C → Context → Parts C
parts_of f d b w c = record {
  expr = b.expr;
  or = or_level f b;
  value = value b.expr;
  chain = chain b.expr;
  targets = λ dotted. any_targets dotted d;
  bound = bound_target d;
  body = body b.expr (w.stmt c);
  loop_body = body b.expr (w.stmt (inside_loop c));
  block_body = body b.expr (w.stmt (inside_block c));
  macro_body = body b.expr (w.stmt inside_macro);
  if_ = w.if_ c;
}

-- Stmt
unfoldable pub stmt_level : {C : Type 0} → Context → Parts C → Form (Stmt C)
stmt_level c p = one keyword_and_span >>= stmt_of c p

-- what nests with a depth of one more, by what nests in it: each nested Stmt, and each If after an
-- `elif`, counts 1
abbrev pub also_within : {C F : Type 0} → Functions C F → ℕ → Below C → Within C → Within C
also_within f d b w = record {
  stmt = λ c. stmt_level c (parts_of f d b w c);
  if_ = λ c. if_level (parts_of f d b w c);
}

-- what nests, with a depth of at most the number
unfoldable pub within : {C F : Type 0} → Functions C F → ℕ → Within C
within f zero = record { stmt = λ c. nothing; if_ = λ c from. nothing }
within f (suc d) = also_within f d (below f d) (within f d)

-- the statements of a depth of at most the number
abbrev pub stmt_at : {C F : Type 0} → Functions C F → Context → ℕ → Form (Stmt C)
stmt_at f c d = (within f d).stmt c

-- the parts of a statement in which statements and expressions nest so deep at most
abbrev pub parts_at : {C F : Type 0} → Functions C F → Context → ℕ → Parts C
parts_at f c d = parts_of f d (below f d) (within f d) c
