-- The names that are referenced at places of the code of small templates, computed.
use Rattle.std.proofs.Common.{◌≡◌, ℕ, List, [], ◌∷◌, refl}
use Rattle.std.specs.Prelude.{codes, false}
use Rattle.minijinja_syntax.specs.Texts.{Text}
use Rattle.minijinja_tree.specs.Tree.{variable, call, absent, no_args, Stmt, template, output, for_loop, declare, Stmts, done, also, macro}
use Rattle.minijinja_tree.specs.Folding.{fold, if_some, fold_on, fold_keywords}
use Rattle.minijinja_tree.specs.Operators.{compute}
use Rattle.minijinja_tree.specs.Comparisons.{compares}
use Rattle.minijinja_semantics.specs.Pieces.{start}
use Rattle.minijinja_semantics.specs.Layout.{folded, merged, map_count, spreading, counted, stmt_code}
use Rattle.minijinja_semantics.specs.MacroBodies.{macro_bodies, referenced}
use Rattle.minijinja_semantics.specs.Places.{Extent}
use Rattle.minijinja_semantics.proofs.Samples.{Value, sample}

-- trees whose loops and macros have no names
abbrev Tree : Type 0
Tree = Stmt Value (Unit {0})

abbrev Trees : Type 0
Trees = Stmts Value (Unit {0})

abbrev written : Text → Tree
written x = output (variable x)

-- the names that are referenced at a place of the code of a template
unfoldable names_at : Tree → ℕ → List Text
unfolding folded merged map_count spreading counted fold if_some fold_on fold_keywords compute compares
names_at t i = referenced (stmt_code sample t start) (macro_bodies sample [] t start) i

-- the bodies in it
unfoldable bodies : Tree → List Extent
unfolding folded merged map_count spreading counted fold if_some fold_on fold_keywords compute compares
bodies t = macro_bodies sample [] t start

-- {% for x in y %}{{ x }}{% endfor %}
abbrev loop : Tree
loop = template (also (for_loop tt (variable (codes "x")) (variable (codes "y")) absent false (also (written (codes "x")) done) done) done)

loop-at_2 : names_at loop 2 ≡ codes "loop" ∷ codes "y" ∷ []
unfolding names_at
loop-at_2 = refl

loop-at_7 : names_at loop 7 ≡ codes "x" ∷ codes "loop" ∷ codes "y" ∷ []
unfolding names_at
loop-at_7 = refl

loop-at_99 : names_at loop 99 ≡ codes "x" ∷ codes "loop" ∷ codes "y" ∷ []
unfolding names_at
loop-at_99 = refl

-- {% macro n() %}{{ c }}{% endmacro %}
abbrev inner : Tree
inner = declare (macro tt (codes "n") [] [] (also (written (codes "c")) done))

-- {{ a }}{% macro m(x) %}{{ x }}..{{ b }}{% endmacro %}{{ m() }}, with that macro in between
abbrev nested : Tree
nested =
    let body : Trees = also (written (codes "x")) (also inner (also (written (codes "b")) done)) in
    template (also (written (codes "a")) (also (declare (macro tt (codes "m") (variable (codes "x") ∷ []) [] body)) (also (output (call (variable (codes "m")) no_args)) done)))

-- its bodies: that of `m`, and in it that of `n`
nested-bodies : bodies nested ≡ record { begin = 2; end = 18 } ∷ record { begin = 6; end = 10 } ∷ []
unfolding bodies
nested-bodies = refl

-- before the macros, and in `m`, where the jump before it belongs to it
nested-at_1 : names_at nested 1 ≡ codes "a" ∷ []
unfolding names_at
nested-at_1 = refl

nested-at_2 : names_at nested 2 ≡ []
unfolding names_at
nested-at_2 = refl

nested-at_5 : names_at nested 5 ≡ codes "x" ∷ []
unfolding names_at
nested-at_5 = refl

-- in `n`, and behind its body: there its names do not count
nested-at_8 : names_at nested 8 ≡ codes "c" ∷ []
unfolding names_at
nested-at_8 = refl

nested-at_11 : names_at nested 11 ≡ codes "x" ∷ []
unfolding names_at
nested-at_11 = refl

nested-at_16 : names_at nested 16 ≡ codes "b" ∷ codes "n" ∷ codes "x" ∷ []
unfolding names_at
nested-at_16 = refl

-- behind the body of `m`, before and after it is made and called
nested-at_19 : names_at nested 19 ≡ codes "a" ∷ []
unfolding names_at
nested-at_19 = refl

nested-at_99 : names_at nested 99 ≡ codes "m" ∷ codes "a" ∷ []
unfolding names_at
nested-at_99 = refl
