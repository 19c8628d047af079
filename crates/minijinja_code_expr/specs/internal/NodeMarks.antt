-- How the marks of nodes come to be while their code is made.
use Rattle.std.specs.Prelude.{◌≡◌, ℕ, Bool, true, false, Option, Some, None}
use Rattle.minijinja_value.specs.Values.{Functions}
use Rattle.minijinja_syntax.specs.declared.tokens.Span.{Span}
use Rattle.minijinja_tree.specs.Callees.{Callee, function, method, block, object, callee}
use Rattle.minijinja_tree.specs.Folding.{fold}
use Rattle.minijinja_tree.specs.Operators.{working}
use Rattle.minijinja_tree.specs.Tree as tree
use Rattle.minijinja_tree.specs.SpannedTrees.{Expr, variable, constant, slice, unary, binary, compare, if_expr, filter, test, attribute, item, call, list, tuple, map, present, Args, bare_expr, bare_args}
use Rattle.minijinja_semantics.specs.Layout.{count_with_caller, count_all_with_caller}
use Rattle.minijinja_semantics.specs.Marks.{Margin, Marking, here, nowhere_else, on_line, ◌⟫◌, loaded, unary_operator, operation, arguments, positional, keyword, merged, spreading, expr, base, optional, items, each, paired, chain}
use Rattle.minijinja_emitter.specs.declared.emit.Site.{Site}
use Rattle.minijinja_emitter.specs.internal.Making.{Made}
use Rattle.minijinja_emitter.specs.internal.Margins.{closed, opened, replaced}
use Rattle.minijinja_code_expr.specs.internal.Leading.{Ready}

-- what a call is made on, of the expression that is called
abbrev pub base_node : {C : Type 0} → Expr C → Option (Expr C)
base_node (attribute e x s) = Some e
base_node _ = None

abbrev pub called_on_node : {C X : Type 0} → Callee X → Expr C → Option (Expr C)
called_on_node (function x) e = None
called_on_node (method o x) e = base_node e
called_on_node (block x) e = None
called_on_node (object o) e = Some e

-- the operand that a node's code begins with, if there is one; of an if expression the one after
-- its test
abbrev pub leading_node : {C : Type 0} → Expr C → Option (Expr C)
leading_node (slice e start stop step s) = Some e
leading_node (unary o e s) = Some e
leading_node (binary o a b s) = Some a
leading_node (compare e cs s) = Some e
leading_node (if_expr t a b s) = Some a
leading_node (filter (present e) x args s) = Some e
leading_node (test e x args s) = Some e
leading_node (attribute e x s) = Some e
leading_node (item e k s) = Some e
leading_node (call e args s) = called_on_node (callee (bare_expr e)) e
leading_node _ = None

-- the test of an if expression
abbrev pub test_node : {C : Type 0} → Expr C → Option (Expr C)
test_node (if_expr t a b s) = Some t
test_node e = None

-- where a node begins: it opens its span, or only sets the line
abbrev pub begun : {C : Type 0} → Expr C → Marking
begun (variable x s) = on_line s
begun (constant c s) = on_line s
begun (slice e start stop step s) = opened s
begun (unary o e s) = on_line s
begun (binary o a b s) = opened s
begun (compare e cs s) = opened s
begun (if_expr t a b s) = on_line s
begun (filter o x args s) = opened s
begun (test e x args s) = opened s
begun (attribute e x s) = opened s
begun (item e k s) = opened s
begun (call e args s) = opened s
begun (list es s) = on_line s
begun (tuple es s) = on_line s
begun (map ks vs s) = on_line s

-- all the arguments of a call, with the given number of operands below them
abbrev pub given_marks : {C F : Type 0} → Functions C F → Args C → (front : ℕ) → Marking
given_marks f args front = arguments f args front (positional f args front) (keyword f args 0)

-- what comes after what a call is made on
abbrev pub call_ending : {X : Type 0} → Callee X → (ℕ → Marking) → Marking
call_ending (function x) given = given 0 ⟫ here 1
call_ending (block x) given = here 3
call_ending (method e x) given = given 1 ⟫ here 1
call_ending (object e) given = given 1 ⟫ here 1

-- what comes after the leading operand of a node
abbrev pub ending : {C F : Type 0} → Functions C F → Expr C → Marking
ending f (variable x s) = here 1
ending f (constant c s) = here 1
ending f (slice e start stop step s) = optional f start ⟫ optional f stop ⟫ optional f step ⟫ here 1
ending f (unary o e s) = unary_operator o s
ending f (binary o a b s) = operation (working o) (expr f b)
ending f (compare e cs s) = chain f cs
ending f (if_expr t a b s) = here 1 ⟫ optional f b
ending f (filter o x args s) = given_marks f args 1 ⟫ here 1
ending f (test e x args s) = given_marks f args 1 ⟫ here 1
ending f (attribute e x s) = here 1
ending f (item e k s) = expr f k ⟫ here 1
ending f (call e args s) = call_ending (callee (bare_expr e)) (given_marks f args)
ending f (list es s) = loaded (fold f (bare_expr (list es s))) (items f es ⟫ here 1)
ending f (tuple es s) = loaded (fold f (bare_expr (tuple es s))) (items f es ⟫ here 1)
ending f (map ks vs s) = loaded (fold f (bare_expr (map ks vs s))) (paired (each f ks) (each f vs) ⟫ here 1)

-- one instruction stands for a node that folds; of any other this is added
unfoldable pub taken_back : {C : Type 0} → Option C → (place : ℕ) → Site → Marking → Marking
taken_back None place site g = g
taken_back (Some c) place site g = replaced place site

abbrev pub site_of : Span → (outer : Span) → Site
site_of s outer = record { node = s; outer = outer }

-- what is left of a node after its leading operand, and what was open before it is open again
abbrev pub finished : {C F : Type 0} → Functions C F → Expr C → (place : ℕ) (outer : Span) → Marking
finished f (unary o e s) place outer = taken_back (fold f (bare_expr (unary o e s))) place (site_of s outer) (ending f (unary o e s) ⟫ closed outer)
finished f (binary o a b s) place outer = taken_back (fold f (bare_expr (binary o a b s))) place (site_of s outer) (ending f (binary o a b s) ⟫ closed outer)
finished f (compare e cs s) place outer = taken_back (fold f (bare_expr (compare e cs s))) place (site_of s outer) (ending f (compare e cs s) ⟫ closed outer)
finished f e place outer = ending f e ⟫ closed outer

-- so the marks changed of a node whose leading operand was added
abbrev pub FinishesMarks : {C F : Type 0} → Functions C F → tree.Expr C → Expr C → (place : ℕ) (outer : Span) → Made C → (old new : Margin) → Type 0
FinishesMarks {C} f t e place outer made old new = (start : Made C) → Ready f t place start made → closed outer new ≡ finished f e place outer old

-- one instruction was added, or none
abbrev pub added_if : Bool → Marking
added_if true = here 1
added_if false = nowhere_else

-- the arguments of a call up to the macro that it takes along
abbrev pub up_to_caller : {C F : Type 0} → Functions C F → Args C → (front : ℕ) → Marking
up_to_caller f args front = positional f args front ⟫ keyword f args 0 ⟫ here 1

-- and what ends them after it
abbrev pub behind_caller : {C : Type 0} → Args C → (front : ℕ) → Marking
behind_caller args front =
    let k = count_with_caller (bare_args args) in
    let c = count_all_with_caller (bare_args args) front in
    merged k.batches k.waiting ⟫ spreading c.batches c.waiting

-- a call up to the macro that it takes along; a call of a block takes none
abbrev pub call_begin : {X : Type 0} → Callee X → (base value : Marking) → (ℕ → Marking) → Marking
call_begin (function x) base value given = given 0
call_begin (block x) base value given = here 3
call_begin (method e x) base value given = base ⟫ given 1
call_begin (object e) base value given = value ⟫ given 1

abbrev pub call_end : {X : Type 0} → Callee X → (ℕ → Marking) → Marking
call_end (function x) given = given 0 ⟫ here 1
call_end (block x) given = nowhere_else
call_end (method e x) given = given 1 ⟫ here 1
call_end (object e) given = given 1 ⟫ here 1
