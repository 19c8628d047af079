-- Where the nodes of targets stand: the tree of their derivation with spans, as for expressions
-- (SpannedExpressions). A variable stands where its identifier does, an attribute where its name
-- does, and a list goes from its first token to its last one, or, where it is empty, from the token
-- after it to the one before it.
use Rattle.std.specs.Prelude.{ℕ, Bool, List, [], ◌∷◌}
use Rattle.minijinja_syntax.specs.Positions.{expanded}
use Rattle.minijinja_syntax.specs.declared.tokens.Span.{Span}
use Rattle.minijinja_syntax.specs.Streams.{SpannedTok}
use Rattle.minijinja_tree.specs.Tree as bare
use Rattle.minijinja_tree.specs.SpannedTrees.{Expr, variable, attribute, list, exprs_of}
use Rattle.minijinja_grammar.specs.TokenSpans.{first_span}
use Rattle.minijinja_grammar.specs.Targets.{AreAttributes, no_attribute, also_attribute, IsTarget, in_parentheses, undotted, dotted_target, AreTargets, no_targets, one_target, list_of_targets, AreMoreTargets, no_more_targets, last_target, more_targets, IsBound, bound_targets, bound_name}

-- of the target so far, with its spans
abbrev pub spanned_attributes : {C : Type 0} {e t : bare.Expr C} {ts rest : List SpannedTok} → Expr C → (before : Span) → AreAttributes e ts rest t → Expr C × Span
spanned_attributes x before (no_attribute i) = (x, before)
spanned_attributes x before (also_attribute {r = r} {x = name} a) = spanned_attributes (attribute x name r) r a

module _ {C : Type 0} where
  abbrev mutual
    pub spanned_target : {dotted : Bool} {d : ℕ} {ts rest : List SpannedTok} {t : bare.Expr C} → IsTarget dotted d ts rest t → Expr C × Span
    spanned_target (in_parentheses {s = s} {r = r} a) = let x = spanned_targets s a in (x.0, r)
    spanned_target (undotted {x = x} {s = s} i j k) = (variable x s, s)
    spanned_target (dotted_target {x = x} {s = s} i j k a) = spanned_attributes (variable x s) s a

    pub spanned_targets : {dotted : Bool} {d : ℕ} {ts rest : List SpannedTok} {t : bare.Expr C} → (before : Span) → AreTargets dotted d ts rest t → Expr C × Span
    spanned_targets before (no_targets {rest = rest} i) = (list (exprs_of []) (expanded (first_span before rest) before), before)
    spanned_targets before (one_target i a j) = spanned_target a
    spanned_targets before (list_of_targets {s = s} {ts = ts} i a m) =
        let x = spanned_target a in
        let xs = spanned_more_targets s m in
        (list (exprs_of (x.0 ∷ xs.0)) (expanded (first_span before ts) xs.1), xs.1)

    pub spanned_more_targets : {dotted : Bool} {d : ℕ} {ts rest : List SpannedTok} {es : bare.Exprs C} → (before : Span) → AreMoreTargets dotted d ts rest es → List (Expr C) × Span
    spanned_more_targets before (no_more_targets i) = ([], before)
    spanned_more_targets before (last_target i a j) = let x = spanned_target a in (x.0 ∷ [], x.1)
    spanned_more_targets before (more_targets {s = s} i a m) =
        let x = spanned_target a in
        let xs = spanned_more_targets s m in
        (x.0 ∷ xs.0, xs.1)

-- the left of a With
abbrev pub spanned_bound : {C : Type 0} {d : ℕ} {ts rest : List SpannedTok} {t : bare.Expr C} → IsBound d ts rest t → Expr C × Span
spanned_bound (bound_targets {s = s} {r = r} a) = let x = spanned_targets s a in (x.0, r)
spanned_bound (bound_name {x = x} {s = s} i) = (variable x s, s)
