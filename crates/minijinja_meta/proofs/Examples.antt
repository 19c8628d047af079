-- What occurs in small templates.
use Rattle.std.proofs.Common.{◌≡◌, ℕ, List, [], ◌∷◌, refl}
use Rattle.std.specs.Prelude.{Bool, true, false, codes}
use Rattle.std.specs.Prelude as std
use Rattle.minijinja_syntax.specs.Texts.{Text}
use Rattle.minijinja_syntax.specs.declared.tokens.Span.{Span}
use Rattle.minijinja_tree.specs.SpannedTrees.{Expr, variable, constant, slice, if_expr, filter, attribute, item, call, map, absent, present, no_more, more, no_args, pos, pos_splat, kwarg, kwarg_splat, Stmt, template, output, assignment, for_loop, if_cond, with_block, set_block, auto_escape, filter_block, named_block, from_import, declare, call_block, Stmts, stmts_of, macro}
use Rattle.minijinja_meta.specs.Mentions.{declared, nested_names, occurrences, plain_names, way}

-- all spans
abbrev here : Span
here = record { start_line = 0; start_col = 0; start_offset = 0; end_line = 0; end_col = 0; end_offset = 0 }

-- variables
abbrev a : Expr ℕ
a = variable (codes "a") here

abbrev b : Expr ℕ
b = variable (codes "b") here

abbrev c : Expr ℕ
c = variable (codes "c") here

abbrev d : Expr ℕ
d = variable (codes "d") here

abbrev e : Expr ℕ
e = variable (codes "e") here

abbrev f : Expr ℕ
f = variable (codes "f") here

abbrev g : Expr ℕ
g = variable (codes "g") here

abbrev x : Expr ℕ
x = variable (codes "x") here

abbrev y : Expr ℕ
y = variable (codes "y") here

abbrev loop : Expr ℕ
loop = variable (codes "loop") here

abbrev caller : Expr ℕ
caller = variable (codes "caller") here

abbrev super : Expr ℕ
super = variable (codes "super") here

abbrev self : Expr ℕ
self = variable (codes "self") here

abbrev one : Expr ℕ
one = constant 1 here

-- an attribute
abbrev of : Expr ℕ → Text → Expr ℕ
of e y = attribute e y here

-- outputs of expressions
abbrev outputs : List (Expr ℕ) → List (Stmt ℕ)
outputs [] = []
outputs (e ∷ es) = output e here ∷ outputs es

abbrev body : List (Expr ℕ) → Stmts ℕ
body es = stmts_of (outputs es)

-- an assignment
abbrev set : Expr ℕ → Expr ℕ → Stmt ℕ
set t e = assignment t e here

-- a template
abbrev page : List (Stmt ℕ) → Stmt ℕ
page ss = template (stmts_of ss) here

-- each variable that occurs, with its attributes, and whether it is free
abbrev shown : List (Stmt ℕ) → List (Text × List Text × Bool)
shown ss = std.map (λ o. (o.0.name, o.0.attributes, o.1)) (occurrences (way (page ss)))

-- a variable with no attributes
abbrev free : Text → Text × List Text × Bool
free z = (z, [], true)

abbrev bound : Text → Text × List Text × Bool
bound z = (z, [], false)

-- ---- regions

-- {% if a %}{% set x = 1 %}{% else %}{{ x }}{% endif %}{{ x }}
branches-are : shown (if_cond a (stmts_of (set x one ∷ [])) (body (x ∷ [])) here ∷ outputs (x ∷ [])) ≡ free (codes "a") ∷ free (codes "x") ∷ free (codes "x") ∷ []
branches-are = refl

-- {% for x in x if x %}{{ x }}{{ loop }}{% else %}{{ x }}{{ loop }}{% endfor %}{{ x }}
loops-are : shown (for_loop x x (present x) false (body (x ∷ loop ∷ [])) (body (x ∷ loop ∷ [])) here ∷ outputs (x ∷ [])) ≡
    free (codes "x") ∷ bound (codes "x") ∷ bound (codes "x") ∷ bound (codes "loop") ∷ free (codes "x") ∷ free (codes "loop") ∷ free (codes "x") ∷ []
loops-are = refl

-- {% for x in y if loop %}{% endfor %}
filters-are : shown (for_loop x y (present loop) false (body []) (body []) here ∷ []) ≡ free (codes "y") ∷ free (codes "loop") ∷ []
filters-are = refl

-- {% with a = a, b = a %}{{ b }}{% endwith %}{{ b }}
withs-are : shown (with_block ((a, a) ∷ (b, a) ∷ []) (body (b ∷ [])) here ∷ outputs (b ∷ [])) ≡ free (codes "a") ∷ bound (codes "a") ∷ bound (codes "b") ∷ free (codes "b") ∷ []
withs-are = refl

-- {% autoescape x %}{% set x = a %}{{ x }}{% endautoescape %}{{ x }}
escapes-are : shown (auto_escape x (stmts_of (set x a ∷ outputs (x ∷ []))) here ∷ outputs (x ∷ [])) ≡ free (codes "x") ∷ free (codes "a") ∷ bound (codes "x") ∷ free (codes "x") ∷ []
escapes-are = refl

-- {% set x | f(y) %}{% set y = x %}{% endset %}{{ x }}
set_blocks-are : shown (set_block x (present (filter absent (codes "f") (pos y no_args) here)) (stmts_of (set y x ∷ [])) here ∷ outputs (x ∷ [])) ≡ free (codes "x") ∷ free (codes "y") ∷ bound (codes "x") ∷ []
set_blocks-are = refl

-- {% filter f(x) %}{% set x = a %}{% endfilter %}
filter_blocks-are : shown (filter_block (filter absent (codes "f") (pos x no_args) here) (stmts_of (set x a ∷ [])) here ∷ []) ≡ free (codes "a") ∷ free (codes "x") ∷ []
filter_blocks-are = refl

-- {% block b %}{{ super }}{{ self }}{% endblock %}{{ super }}
blocks-are : shown (named_block (codes "b") false (body (super ∷ self ∷ [])) here ∷ outputs (super ∷ [])) ≡ bound (codes "super") ∷ bound (codes "self") ∷ free (codes "super") ∷ []
blocks-are = refl

-- {% macro f(a=b, c=a) %}{{ f }}{{ caller }}{{ c }}{% endmacro %}{{ c }}{{ caller }}
abbrev macros : List (Stmt ℕ)
macros = declare (macro (codes "f") (a ∷ c ∷ []) (b ∷ a ∷ []) (body (f ∷ caller ∷ c ∷ [])) here) ∷ outputs (c ∷ caller ∷ [])

macros-are : shown macros ≡ free (codes "a") ∷ free (codes "b") ∷ bound (codes "f") ∷ bound (codes "caller") ∷ bound (codes "c") ∷ free (codes "c") ∷ free (codes "caller") ∷ []
macros-are = refl

macros-declared : declared (way (page macros)) ≡ (codes "f", here) ∷ []
macros-declared = refl

-- {% macro f(a, b=a) %}{% endmacro %}
defaults-are : shown (declare (macro (codes "f") (a ∷ b ∷ []) (a ∷ []) (body []) here) ∷ []) ≡ free (codes "a") ∷ []
defaults-are = refl

-- {% call(a=b) f(c, x=d, *e, **g) %}{{ a }}{{ caller }}{% endcall %}{{ caller }}
calls-are : shown (call_block f (pos c (kwarg (codes "x") d (pos_splat e (kwarg_splat g no_args)))) here (macro (codes "caller") (a ∷ []) (b ∷ []) (body (a ∷ caller ∷ [])) here) here ∷ outputs (caller ∷ [])) ≡
    free (codes "f") ∷ free (codes "c") ∷ free (codes "e") ∷ free (codes "d") ∷ free (codes "g") ∷ free (codes "b") ∷ bound (codes "a") ∷ bound (codes "caller") ∷ free (codes "caller") ∷ []
calls-are = refl

-- {% from a import b as c, d %}{{ b }}{{ c }}{{ d }}
imports-are : shown (from_import a ((b, present c) ∷ (d, absent) ∷ []) here ∷ outputs (b ∷ c ∷ d ∷ [])) ≡ free (codes "a") ∷ free (codes "b") ∷ bound (codes "c") ∷ bound (codes "d") ∷ []
imports-are = refl

-- ---- expressions

-- {{ a if b else c }}
if_exprs-are : shown (outputs (if_expr b a (present c) here ∷ [])) ≡ free (codes "b") ∷ free (codes "a") ∷ free (codes "c") ∷ []
if_exprs-are = refl

-- {{ {a: b, c: d} }}
maps-are : shown (outputs (map (more a (more c no_more)) (more b (more d no_more)) here ∷ [])) ≡ free (codes "a") ∷ free (codes "b") ∷ free (codes "c") ∷ free (codes "d") ∷ []
maps-are = refl

-- {{ x[a:b] }}
slices-are : shown (outputs (slice x (present a) (present b) absent here ∷ [])) ≡ free (codes "x") ∷ free (codes "a") ∷ free (codes "b") ∷ []
slices-are = refl

-- ---- attributes

-- {{ a.b.c }}{{ a["k"].d }}{{ a.b(c)|f }}
abbrev chains : List (Stmt ℕ)
chains = outputs (of (of a (codes "b")) (codes "c") ∷ of (item a one here) (codes "d") ∷ filter (present (call (of a (codes "b")) (pos c no_args) here)) (codes "f") no_args here ∷ [])

chains-are : shown chains ≡ (codes "a", codes "b" ∷ codes "c" ∷ [], true) ∷ free (codes "a") ∷ (codes "a", codes "b" ∷ [], true) ∷ free (codes "c") ∷ []
chains-are = refl

chains-plain : plain_names (way (page chains)) ≡ codes "a" ∷ codes "c" ∷ []
chains-plain = refl

chains-nested : nested_names (way (page chains)) ≡ codes "a" ∷ codes "a.b" ∷ codes "a.b.c" ∷ codes "c" ∷ []
chains-nested = refl

-- {% set a.b = c %}{% set a.b.c = 1 %}
targets-are : shown (set (of a (codes "b")) c ∷ set (of (of a (codes "b")) (codes "c")) one ∷ []) ≡ free (codes "c") ∷ free (codes "a") ∷ (codes "a", codes "b" ∷ [], true) ∷ []
targets-are = refl
