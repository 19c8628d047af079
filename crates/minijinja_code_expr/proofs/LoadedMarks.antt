-- The marks of literals and of arguments, which may be one constant.
use Rattle.std.proofs.Common.{◌≡◌, ℕ, ◌+◌, List, [], ◌∷◌, Option, Some, None, Result, OnOk, true, false, refl, sym, ap, ap₂, ◌∙◌, subst}
use Rattle.std.specs.Prelude.{Bool}
use Rattle.minijinja_syntax.specs.declared.tokens.Span.{Span}
use Rattle.minijinja_value.specs.Values.{Functions}
use Rattle.minijinja_tree.specs.BinOps.{BinOp}
use Rattle.minijinja_tree.specs.Erasure as bare
use Rattle.minijinja_tree.specs.Folding.{constant_keywords, fold, fold_keywords}
use Rattle.minijinja_tree.specs.SpannedErasure.{args_of}
use Rattle.minijinja_tree.specs.SpannedTrees.{Args, Exprs, bare_args, bare_expr, Expr, list, map, tuple}
use Rattle.minijinja_tree.specs.Tree as tree
use Rattle.minijinja_tree.specs.WellFormed.{IsWhole}
use Rattle.minijinja_tree_expr.specs.declared.ast.CallArg.{CallArg}
use Rattle.minijinja_tree_expr.specs.declared.ast.CallArg.TheVariants.{Pos, Kwarg, PosSplat, KwargSplat}
use Rattle.minijinja_tree_expr.proofs.Bare.{expr_is}
use Rattle.minijinja_semantics.specs.Layout.{Count, count_all, count_keyword, count_positional, map_count}
use Rattle.minijinja_semantics.specs.Marks.{Margin, Marking, each, here, items, keyword, loaded, merged, paired, positional, spreading, ◌⟫◌}
use Rattle.minijinja_emitter.specs.declared.emit.Site.{Site}
use Rattle.minijinja_emitter.specs.internal.Making.{Made}
use Rattle.minijinja_emitter.specs.internal.Margins.{replaced, replaced_if}
use Rattle.minijinja_code_expr.specs.internal.Leading.{FinishesIf}
use Rattle.minijinja_code_expr.specs.internal.NodeMarks.{FinishesMarks, added_if, ending, given_marks}
use Rattle.minijinja_code_expr.specs.internal.Parts.{AddsIf, operands}
use Rattle.minijinja_code_expr.proofs.Results.{ok_gives}

module _ {C F : Type 0} (f : Functions C F) where
  -- what was loaded is what a tree folds to
  pub loaded_some : (a b : Made C) (o : Option C) (l : Bool) → l ≡ true → AddsIf l o a b → (c : C) × (o ≡ Some c)
  loaded_some a b o true e k = (k.0, k.1)
  loaded_some a b o false e k = absurd (cc)

  pub loaded_not : (a b : Made C) (o : Option C) (l : Bool) → l ≡ false → AddsIf l o a b → o ≡ None
  loaded_not a b o true e k = absurd (cc)
  loaded_not a b o false e k = k.0

  abbrev pub items_then : Exprs C → Marking
  items_then es = items f es ⟫ here 1

  -- a node as a tree and as a tree with spans
  pub finishes_marks_as : {d e : tree.Expr C} {x y : Expr C} (place : ℕ) (outer : Span) (made : Made C) (old new : Margin) → d ≡ e → x ≡ y → FinishesMarks f e y place outer made old new → FinishesMarks f d x place outer made old new
  finishes_marks_as {d} {e} {x} {y} place outer made old new is at k = subst (λ z. FinishesMarks f d z place outer made old new) (sym at) (subst (λ z. FinishesMarks f z y place outer made old new) (sym is) k)

  -- what was not joined is as it was
  pub binary_same : (o : BinOp) (x y : tree.Expr C) (place : ℕ) (a b : Made C) (joined : Bool) → joined ≡ false → IsWhole x → (IsWhole x → FinishesIf f joined (tree.binary o x y) place a b) → b ≡ a
  binary_same o x y place a b joined e w k = subst (λ j. FinishesIf f j (tree.binary o x y) place a b) e (k w)

pub unjoined_marks : (place : ℕ) (site : Site) (joined : Bool) (old new : Margin) → joined ≡ false → new ≡ replaced_if joined place site old → new ≡ old
unjoined_marks place site true old new e k = absurd (cc)
unjoined_marks place site false old new e k = k

pub joined_replaced : (place : ℕ) (site : Site) (joined : Bool) (old new : Margin) → joined ≡ true → new ≡ replaced_if joined place site old → new ≡ replaced place site old
joined_replaced place site true old new e k = k
joined_replaced place site false old new e k = absurd (cc)

module _ {C : Type 0} where
  pub literal_loaded_marks : (l : Bool) (o : Option C) (old new : Margin) → l ≡ true → (c : C) × (o ≡ Some c) → new ≡ added_if l old → (g : Marking) → new ≡ loaded o g old
  unfolding loaded
  literal_loaded_marks true (Some c) old new e k h g = h
  literal_loaded_marks true None old new e k h g = let no = k.1 in absurd (cc)
  literal_loaded_marks false o old new e k h g = absurd (cc)

  pub loaded_none : (o : Option C) (g : Marking) (old : Margin) → o ≡ None → loaded o g old ≡ g old
  unfolding loaded
  loaded_none None g old e = refl
  loaded_none (Some c) g old e = absurd (cc)

-- a literal that does not fold: its elements and one instruction were added
module _ {C F : Type 0} (f : Functions C F) (e : Expr C) (s : Span) (o : Option C) (old last : Margin) where
  pub list_built : (es : Exprs C) {new : Margin} → fold f (bare_expr (list es s)) ≡ o → o ≡ None → e ≡ list es s → last ≡ items f es old → new ≡ here 1 last → new ≡ ending f e old
  list_built es folds none is made added = added ∙ ap (here 1) made ∙ sym (loaded_none (fold f (bare_expr (list es s))) (items f es ⟫ here 1) old (folds ∙ none)) ∙ ap (λ x. ending f x old) (sym is)

  pub tuple_built : (es : Exprs C) {new : Margin} → fold f (bare_expr (tuple es s)) ≡ o → o ≡ None → e ≡ tuple es s → last ≡ items f es old → new ≡ here 1 last → new ≡ ending f e old
  tuple_built es folds none is made added = added ∙ ap (here 1) made ∙ sym (loaded_none (fold f (bare_expr (tuple es s))) (items f es ⟫ here 1) old (folds ∙ none)) ∙ ap (λ x. ending f x old) (sym is)

  pub map_built : (ks vs : Exprs C) {new : Margin} → fold f (bare_expr (map ks vs s)) ≡ o → o ≡ None → e ≡ map ks vs s → last ≡ paired (each f ks) (each f vs) old → new ≡ here 1 last → new ≡ ending f e old
  map_built ks vs folds none is made added = added ∙ ap (here 1) made ∙ sym (loaded_none (fold f (bare_expr (map ks vs s))) (paired (each f ks) (each f vs) ⟫ here 1) old (folds ∙ none)) ∙ ap (λ x. ending f x old) (sym is)

pub literal_kept : (l : Bool) (old new : Margin) → l ≡ false → new ≡ added_if l old → new ≡ old
literal_kept true old new e h = absurd (cc)
literal_kept false old new e h = h

-- the arguments of a list, without their spans
pub args_bare : {V K C : Type 0} (c : V → C) (xs : List (CallArg V K)) → bare_args (args_of c xs) ≡ bare.args_of c xs
args_bare c [] = refl
args_bare c (Pos e ∷ xs) = ap₂ tree.pos (expr_is c e) (args_bare c xs)
args_bare c (PosSplat e ∷ xs) = ap₂ tree.pos_splat (expr_is c e) (args_bare c xs)
args_bare c (Kwarg x e ∷ xs) = ap₂ (tree.kwarg x.now) (expr_is c e) (args_bare c xs)
args_bare c (KwargSplat e ∷ xs) = ap₂ tree.kwarg_splat (expr_is c e) (args_bare c xs)

module _ {C F : Type 0} (f : Functions C F) (A : Args C) (args : tree.Args C) (is : bare_args A ≡ args) (front : ℕ) where
  abbrev given_of : tree.Args C → Marking
  given_of b =
      let k = count_keyword b (record { batches = 0; waiting = 0 }) in
      let c = count_all b front in
      positional f A front ⟫ loaded (fold_keywords f (constant_keywords f b)) (keyword f A 0 ⟫ merged k.batches k.waiting) ⟫ spreading c.batches c.waiting

  module _ (k : Count) (m : ℕ) (ek : k ≡ count_positional args (operands front)) (em : m ≡ map_count (count_keyword args (operands 0)).batches (count_keyword args (operands 0)).waiting) (old t u w : Margin) {X E : Type 0} (r : Result X E) where
    -- the keyword arguments, and what spreads the batches
    given_ended : t ≡ positional f A front old → u ≡ loaded (fold_keywords f (constant_keywords f args)) (keyword f A 0 ⟫ merged (count_keyword args (operands 0)).batches (count_keyword args (operands 0)).waiting) t → OnOk r (w ≡ spreading k.batches (k.waiting + m) u) → OnOk r (w ≡ given_marks f A front old)
    given_ended et eu h =
        ok_gives r (λ s. s
        ∙ ap₂ (λ (k : Count) m. spreading k.batches (k.waiting + m) u) ek em
        ∙ ap (spreading (count_all args front).batches (count_all args front).waiting)
        (eu ∙ ap (loaded (fold_keywords f (constant_keywords f args)) (keyword f A 0 ⟫ merged (count_keyword args (operands 0)).batches (count_keyword args (operands 0)).waiting)) et)
        ∙ ap (λ b. given_of b old) (sym is)) h

    pub given_loaded : (l : Bool) → l ≡ true → (c : C) × (fold_keywords f (constant_keywords f args) ≡ Some c) → t ≡ positional f A front old → u ≡ added_if l t → OnOk r (w ≡ spreading k.batches (k.waiting + m) u) → OnOk r (w ≡ given_marks f A front old)
    given_loaded l e known et eu h = given_ended et (literal_loaded_marks l (fold_keywords f (constant_keywords f args)) t u e known eu _) h

    pub given_merged : (l : Bool) → l ≡ false → fold_keywords f (constant_keywords f args) ≡ None → (p : Count) → p ≡ count_keyword args (operands 0) → (same pairs : Margin) → t ≡ positional f A front old → same ≡ added_if l t → pairs ≡ keyword f A 0 same → u ≡ merged p.batches p.waiting pairs → OnOk r (w ≡ spreading k.batches (k.waiting + m) u) → OnOk r (w ≡ given_marks f A front old)
    given_merged l e unknown p ep same pairs et es epairs eu h =
        given_ended et
        (eu ∙ ap₂ (λ (p : Count) x. merged p.batches p.waiting x) ep (epairs ∙ ap (keyword f A 0) (literal_kept l t same e es))
        ∙ sym (loaded_none (fold_keywords f (constant_keywords f args)) (keyword f A 0 ⟫ merged (count_keyword args (operands 0)).batches (count_keyword args (operands 0)).waiting) t unknown)) h
