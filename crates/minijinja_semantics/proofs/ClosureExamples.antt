-- What small templates mention while it is not stored.
use Rattle.std.proofs.Common.{◌≡◌, ◌⊎◌, inl, inr, ⊎_elim, Bool, true, false, true≢false, List, [], ◌∷◌, Some, refl, sym, ◌∙◌}
use Rattle.std.specs.Prelude.{Contains, codes, bytes_eq, ◌||◌}
use Rattle.std.specs.List.{list_any}
use Rattle.std.specs.Cmp.Lexicographic.{nat_list_eq_equiv}
use Rattle.std.proofs.lemmas.Slice.Eq.{bytes_eq-Decides}
use Rattle.std.proofs.lemmas.Map.Views.{Contains-from_any, list_any-from_Contains}
use Rattle.minijinja_syntax.specs.Texts.{Text}
use Rattle.minijinja_tree.specs.Tree.{Expr, variable, call, absent, present, no_args, Stmt, template, output, for_loop, with_block, from_import, declare, Stmts, done, also, macro}
use Rattle.minijinja_tree.specs.Operators.{compute}
use Rattle.minijinja_tree.specs.Comparisons.{compares}
use Rattle.minijinja_tree.specs.FreeNames.{closure}
use Rattle.minijinja_semantics.specs.Events.{Answer, Fault, Values, Event, Did, next, choose, operated, fitted, answered, ask}
use Rattle.minijinja_semantics.specs.Correct.{fresh}
use Rattle.minijinja_semantics.specs.Meaning.{keyword_map, spread, if_on, with_item, turns, all_turns, Signal, stmts}
use Rattle.minijinja_semantics.specs.Needs.{Scope, Begun, Loaded, bare_scope, IsStored, IsKnown, undeclared, NeedsOnly}
use Rattle.minijinja_semantics.proofs.Samples.{Value, WrongOperand, sample, number}

-- statements whose loops and macros have no names
abbrev Body : Type 0
Body = Stmts Value (Unit {0})

-- the variable a
abbrev a : Expr Value
a = variable (codes "a")

-- the variable x
abbrev x : Expr Value
x = variable (codes "x")

-- the loop variable
abbrev loop : Expr Value
loop = variable (codes "loop")

-- one statement
abbrev only : Stmt Value (Unit {0}) → Body
only s = also s done

-- one statement after another
abbrev two : Stmt Value (Unit {0}) → Stmt Value (Unit {0}) → Body
two s t = also s (also t done)

-- a macro without arguments that writes what a function gives
abbrev calling : (name function : Text) → Stmt Value (Unit {0})
calling m g = declare (macro tt m [] [] (only (output (call (variable g) no_args))))

-- the answer of no value
abbrev nothing : Answer Value
nothing = Values []

-- the answer of one value
abbrev one : Answer Value
one = Values (number 1 ∷ [])

-- a run of statements
unfoldable ran : Body → List (Answer Value) → Did (Event (Unit {0}) Value) Value WrongOperand Signal
unfolding next choose ask answered fitted operated if_on compute compares spread keyword_map with_item turns all_turns
ran ss answers = stmts sample ss (fresh answers)

-- ---- whether a name is known

-- whether a name is among these, or stored in these scopes
abbrev is_known : List Text → Text → List Scope → Bool
is_known names y [] = list_any (bytes_eq y) names
is_known names y (s ∷ around) = list_any (bytes_eq y) s.stored || is_known names y around

either_true : (p q : Bool) → p ≡ true → (p || q) ≡ true
either_true p q e = cc

second_true : (p q : Bool) → q ≡ true → (p || q) ≡ true
second_true true q e = refl
second_true false q e = e

one_true : (p q : Bool) → (p || q) ≡ true → (p ≡ true) ⊎ (q ≡ true)
one_true true q e = inl refl
one_true false q e = inr e

-- a name that the test finds is known
known : (names : List Text) (y : Text) (around : List Scope) → is_known names y around ≡ true → IsKnown names y around
known names y [] e = inr (Contains-from_any (λ u v. (bytes_eq-Decides u v).0) y names e)
known names y (s ∷ around) e = ⊎_elim (λ h. inl (inl (Contains-from_any (λ u v. (bytes_eq-Decides u v).0) y s.stored h))) (λ h. ⊎_elim (λ k. inl (inr k)) (λ m. inr m) (known names y around h))
    (one_true (list_any (bytes_eq y) s.stored) (is_known names y around) e)

stored_tested : (names : List Text) (y : Text) (around : List Scope) → IsStored y around → is_known names y around ≡ true
stored_tested names y [] k = absurd k
stored_tested names y (s ∷ around) (inl c) = either_true _ _ (list_any-from_Contains nat_list_eq_equiv y s.stored c)
stored_tested names y (s ∷ around) (inr k) = second_true (list_any (bytes_eq y) s.stored) _ (stored_tested names y around k)

among_tested : (names : List Text) (y : Text) (around : List Scope) → Contains names y → is_known names y around ≡ true
among_tested names y [] c = list_any-from_Contains nat_list_eq_equiv y names c
among_tested names y (s ∷ around) c = second_true (list_any (bytes_eq y) s.stored) _ (among_tested names y around c)

-- and no other name is
unknown : (names : List Text) (y : Text) (around : List Scope) → is_known names y around ≡ false → IsKnown names y around → ⊥
unknown names y around e k = true≢false (sym (⊎_elim (stored_tested names y around) (among_tested names y around) k) ∙ e)

-- a macro of another name
other : (y z : Text) → bytes_eq y z ≡ false → Some y ≡ Some z → ⊥
other y z apart e = let same : y ≡ z = cc in true≢false (sym ((bytes_eq-Decides y z).1 same) ∙ apart)

-- a scope in which one name is stored
abbrev holding : Text → Scope
holding y = record bare_scope { stored = y ∷ [] }

-- ---- what is stored

-- {% with x = a %}{{ x }}{% endwith %}
abbrev within_with : Body
within_with = only (with_block ((x, a) ∷ []) (only (output x)))

-- what a `with` stores is stored in its body
within_with_is_stored : NeedsOnly (codes "a" ∷ []) [] (ran within_with (nothing ∷ one ∷ nothing ∷ one ∷ nothing ∷ nothing ∷ []))
unfolding ran
within_with_is_stored =
    (tt, (tt, (inl (known (codes "a" ∷ []) (codes "x") (holding (codes "x") ∷ bare_scope ∷ []) refl), (tt, (inl (known (codes "a" ∷ []) (codes "a") (bare_scope ∷ bare_scope ∷ []) refl), (tt, tt))))))

-- {% with x = a %}{% endwith %}{{ x }}
abbrev after_with : Body
after_with = two (with_block ((x, a) ∷ []) done) (output x)

-- what a `with` stores is not stored after it
after_with_is_mentioned : NeedsOnly (codes "a" ∷ []) [] (ran after_with (nothing ∷ one ∷ nothing ∷ nothing ∷ one ∷ nothing ∷ [])) → ⊥
unfolding ran
after_with_is_mentioned h = ⊎_elim (unknown (codes "a" ∷ []) (codes "x") (bare_scope ∷ []) refl) (λ e. absurd (cc)) h.1.0

after_with_is_needed : undeclared (template after_with) ≡ codes "a" ∷ codes "x" ∷ []
after_with_is_needed = refl

-- {% for x in a %}{{ loop }}{% endfor %}
abbrev within_loop : Body
within_loop = only (for_loop tt x a absent false (only (output loop)) done)

-- a loop stores its loop variable
within_loop_is_stored : NeedsOnly (codes "a" ∷ []) [] (ran within_loop (one ∷ nothing ∷ one ∷ nothing ∷ one ∷ nothing ∷ nothing ∷ nothing ∷ []))
unfolding ran
within_loop_is_stored =
    (tt, (tt, (tt, (inl (known (codes "a" ∷ []) (codes "loop") (record bare_scope { stored = codes "x" ∷ codes "loop" ∷ [] } ∷ bare_scope ∷ []) refl), (tt, (tt, (tt, (inl (known (codes "a" ∷ []) (codes "a") (bare_scope ∷ []) refl), tt))))))))

-- {% for x in a %}{% endfor %}{{ loop }}
abbrev after_loop : Body
after_loop = two (for_loop tt x a absent false done done) (output loop)

-- the loop variable is not stored after the loop
after_loop_is_mentioned : NeedsOnly (codes "a" ∷ []) [] (ran after_loop (one ∷ nothing ∷ nothing ∷ nothing ∷ one ∷ nothing ∷ [])) → ⊥
unfolding ran
after_loop_is_mentioned h = ⊎_elim (unknown (codes "a" ∷ []) (codes "loop") (bare_scope ∷ []) refl) (λ e. absurd (cc)) h.1.0

-- {% for x in a if loop %}{% endfor %}
abbrev filtered_loop : Body
filtered_loop = only (for_loop tt x a (present loop) false done done)

-- the pass of a loop's filter has no loop variable; here no answer is left after it is looked up
filtered_loop_is_mentioned : NeedsOnly (codes "a" ∷ []) [] (ran filtered_loop (one ∷ nothing ∷ one ∷ nothing ∷ one ∷ [])) → ⊥
unfolding ran
filtered_loop_is_mentioned h = ⊎_elim (unknown (codes "a" ∷ []) (codes "loop") (holding (codes "x") ∷ bare_scope ∷ []) refl) (λ e. absurd (cc)) h.2.0

-- ---- macros

-- {% macro m() %}{{ m() }}{% endmacro %}
abbrev recursive : Body
recursive = only (calling (codes "m") (codes "m"))

-- a macro may enclose its own name
recursive_stands_aside : NeedsOnly [] (codes "m" ∷ []) (ran recursive (nothing ∷ one ∷ one ∷ nothing ∷ []))
unfolding ran
recursive_stands_aside = (tt, (tt, (tt, (inr refl, tt))))

-- {% macro n() %}{{ m() }}{% endmacro %}
abbrev calls_other : Body
calls_other = only (calling (codes "n") (codes "m"))

-- another macro may not enclose that name
calls_other_is_mentioned : NeedsOnly [] (codes "n" ∷ codes "m" ∷ []) (ran calls_other (nothing ∷ one ∷ one ∷ nothing ∷ [])) → ⊥
unfolding ran
calls_other_is_mentioned h = ⊎_elim (unknown [] (codes "m") (bare_scope ∷ []) refl) (other (codes "n") (codes "m") refl) h.1.1.1.0

-- {% macro m() %}{{ m() }}{% endmacro %}{% macro n() %}{{ m() }}{% endmacro %}
abbrev calls_earlier : Body
calls_earlier = two (calling (codes "m") (codes "m")) (calling (codes "n") (codes "m"))

-- where m is stored, the other macro may enclose it
calls_earlier_is_stored : NeedsOnly [] (codes "m" ∷ codes "n" ∷ []) (ran calls_earlier (nothing ∷ one ∷ one ∷ nothing ∷ nothing ∷ one ∷ one ∷ nothing ∷ []))
unfolding ran
calls_earlier_is_stored = (tt, (tt, (tt, (inl (known [] (codes "m") (holding (codes "m") ∷ []) refl), (tt, (tt, (tt, (inr refl, tt))))))))

-- the same where the run ends before the macro is made
cut_off_stands_aside : NeedsOnly [] (codes "m" ∷ []) (ran recursive (Fault ∷ []))
unfolding ran
cut_off_stands_aside = (Some (codes "m"), Contains-from_any (λ u v. (bytes_eq-Decides u v).0) (codes "m") (codes "m" ∷ []) refl, (inr refl, tt))

-- ---- imports

-- {% from a import x %}{{ x }}
abbrev imported : Body
imported = two (from_import a ((x, absent) ∷ [])) (output x)

-- a from import looks a name up for itself, and then stores it
imported_stands_aside : NeedsOnly (codes "a" ∷ []) [] (ran imported (nothing ∷ nothing ∷ one ∷ nothing ∷ one ∷ nothing ∷ nothing ∷ one ∷ one ∷ nothing ∷ []))
unfolding ran
imported_stands_aside =
    (tt, (inl (known (codes "a" ∷ []) (codes "x") (holding (codes "x") ∷ []) refl), (tt, (tt, (tt, (inr refl, (tt, (inl (known (codes "a" ∷ []) (codes "a") (record bare_scope { import = Begun } ∷ bare_scope ∷ []) refl), (tt, (tt, tt))))))))))

-- {% from x import x %}
abbrev own_template : Body
own_template = only (from_import x ((x, absent) ∷ []))

-- it looks up the name of the template before, and not for itself
own_template_is_mentioned : NeedsOnly [] [] (ran own_template (nothing ∷ nothing ∷ one ∷ [])) → ⊥
unfolding ran
own_template_is_mentioned h = ⊎_elim (unknown [] (codes "x") (record bare_scope { import = Begun } ∷ bare_scope ∷ []) refl) (λ e. absurd (cc)) h.2.0

-- {% from a import x as loop %}{{ x }}
abbrev renamed : Body
renamed = two (from_import a ((x, present loop) ∷ [])) (output x)

-- what is imported under an alias is stored as the alias
renamed_is_mentioned : NeedsOnly (codes "a" ∷ []) [] (ran renamed (nothing ∷ nothing ∷ one ∷ nothing ∷ one ∷ nothing ∷ nothing ∷ one ∷ one ∷ nothing ∷ [])) → ⊥
unfolding ran
renamed_is_mentioned h = ⊎_elim (unknown (codes "a" ∷ []) (codes "x") (holding (codes "loop") ∷ []) refl) (λ e. absurd (cc)) h.1.0

-- ---- trees that are not well formed

-- a from import of what is no name
abbrev calling_import : Body
calling_import = only (from_import a ((call x no_args, present x) ∷ []))

calling_import_needs_less : undeclared (template calling_import) ≡ codes "a" ∷ []
calling_import_needs_less = refl

-- it calls a function that is not among what the tree needs
calling_import_is_mentioned : NeedsOnly (codes "self" ∷ codes "a" ∷ []) [] (ran calling_import (nothing ∷ nothing ∷ one ∷ nothing ∷ one ∷ [])) → ⊥
unfolding ran
calling_import_is_mentioned h = unknown (codes "self" ∷ codes "a" ∷ []) (codes "x") (record bare_scope { import = Loaded } ∷ bare_scope ∷ []) refl h.2.0

-- a template in a macro
abbrev inner_template : Body
inner_template = only (template (only (output (variable (codes "self")))))

inner_template_needs_less : closure (macro tt (codes "m") [] [] inner_template) ≡ []
inner_template_needs_less = refl

-- it looks up `self`, which is not among what the macro needs
inner_template_is_mentioned : NeedsOnly [] [] (ran inner_template (one ∷ nothing ∷ [])) → ⊥
unfolding ran
inner_template_is_mentioned h = ⊎_elim (unknown [] (codes "self") (bare_scope ∷ []) refl) (λ e. absurd (cc)) h.1.0
