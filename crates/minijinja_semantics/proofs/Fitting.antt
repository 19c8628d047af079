-- The marks of a tree fit its code.
use Rattle.std.proofs.lemmas.Bool.{eqb-true}
use Rattle.minijinja_value.specs.Values.{Functions}
use Rattle.minijinja_tree.specs.Operators.{Working, Makes, Divides, IfTrue, IfFalse, working}
use Rattle.minijinja_tree.specs.CompareOps.{CompareOp, eq, ne, lt, lte, gt, gte, is_in, not_in}
use Rattle.minijinja_tree.specs.Callees.{Callee, function, method, block, object, callee}
use Rattle.minijinja_tree_expr.specs.Tree.{logical_not, negation}
use Rattle.minijinja_tree.specs.SpannedTrees.{Expr, variable, constant, slice, unary, binary, compare, if_expr, filter, test, attribute, item, call, list, tuple, map, Optional, absent, present, Exprs, no_more, more, Comparisons, compared, against, Args, no_args, pos, pos_splat, kwarg, kwarg_splat, bare_expr, bare_optional, bare_exprs, bare_comparisons, bare_args}
use Rattle.minijinja_semantics.specs.Code.{Load, Apply, BuildKwargs, BuildList, Jump, JumpIfFalse, JumpIfFalseOrPop, JumpIfTrueOrPop, CompareAndPreserve, Swap, DiscardTop}
use Rattle.minijinja_semantics.specs.Events.{ApplyFilter, PerformTest}
use Rattle.minijinja_semantics.specs.Layout as layout
use Rattle.minijinja_semantics.specs.Marks as marks
use Rattle.std.proofs.Common.{◌≡◌, ℕ, zero, suc, ◌+◌, ◌==◌, ◌⊎◌, inl, inr, Bool, true, false, List, [], ◌∷◌, ◌++◌, length, Option, Some, None, Contains, refl, sym, ap, ◌∙◌, subst, append_assoc, length-append, arith}
use Rattle.std.specs.Prelude.{⊤, MatchOption, if◌then◌else◌}
use Rattle.minijinja_syntax.specs.Texts.{Text}
use Rattle.minijinja_syntax.specs.declared.tokens.Span.{Span}
use Rattle.minijinja_semantics.specs.Code.{Instr, Do}
use Rattle.minijinja_semantics.specs.Events.{Lookup}
use Rattle.minijinja_semantics.specs.Pieces.{id_of, Here, behind, Piece, Leading, nothing, one, ◌▸◌, plain, skipping, branches}
use Rattle.minijinja_semantics.specs.Marks.{Mark, Margin, Marking, is_nowhere, mark_now, at_line, at_span, here, again, within, on_line, ◌⟫◌, nowhere_else}
use Rattle.minijinja_semantics.specs.Looks.{Look, look, text_looked, and_sight, sights, IsSeen, AreSeen, unless, in_turn, called, looks, base_looks, optional_looks, all_looks, each_looks, compared_looks, given, positional_looks, keyword_looks}

-- no span is open, or one of these
abbrev pub IsOpen : List Span → Span → Type 0
IsOpen r s = (is_nowhere s ≡ true) ⊎ Contains r s

-- these instructions were added with a mark each, the span that is open is as it was, and those that look up variables are seen
pub record Fit {C : Type 0} (r : List Span) (is : List (Instr C)) (t u : Margin) (ls : List Look) : Type 0 where
  pub span : u.span ≡ t.span
  pub more : List Mark
  pub marks : u.marks ≡ t.marks ++ more
  pub as_many : length is ≡ length more
  pub seen : IsOpen r t.span → AreSeen (sights is more) ls

pub record Fits {C : Type 0} (r : List Span) (p : Piece C) (g : Marking) (ls : List Look) : Type 0 where
  pub fits : (h : Here) (t : Margin) → Fit r (p.code h) t (g t) ls

seen_append : (ps qs : List (Text × Mark)) (ls ks : List Look) → AreSeen ps ls → AreSeen qs ks → AreSeen (ps ++ qs) (ls ++ ks)
seen_append [] qs [] ks a b = b
seen_append [] qs (l ∷ ls) ks a b = absurd a
seen_append (p ∷ ps) qs [] ks a b = absurd a
seen_append (p ∷ ps) qs (l ∷ ls) ks a b = (a.0, seen_append ps qs ls ks a.1 b)

and_sight_append : (x : Option Text) (m : Mark) (ps qs : List (Text × Mark)) → and_sight x m (ps ++ qs) ≡ and_sight x m ps ++ qs
and_sight_append None m ps qs = refl
and_sight_append (Some x) m ps qs = refl

sights_append : {C : Type 0} (is js : List (Instr C)) (ms ns : List Mark) → length is ≡ length ms → sights (is ++ js) (ms ++ ns) ≡ sights is ms ++ sights js ns
sights_append [] js [] ns e = refl
sights_append [] js (m ∷ ms) ns e = absurd (omega (arith, e))
sights_append (i ∷ is) js [] ns e = absurd (omega (arith, e))
sights_append (i ∷ is) js (m ∷ ms) ns e =
    ap (and_sight (text_looked i) m) (sights_append is js ms ns (omega (arith, e))) ∙ and_sight_append (text_looked i) m (sights is ms) (sights js ns)

pub append_nil : {X : Type 0} (xs : List X) → xs ++ [] ≡ xs
append_nil [] = refl
append_nil (x ∷ xs) = ap (λ l. x ∷ l) (append_nil xs)

-- the span of what is added on a line is none, or the one that is open
spanned_now : (x : Text) (r : List Span) (s o : Span) → IsOpen (s ∷ r) o → (n : Bool) → is_nowhere o ≡ n → MatchOption (if n then None else Some o) ⊤ (λ k. Contains (s ∷ r) k)
spanned_now x r s o k true e = tt
spanned_now x r s o (inl nowhere) false e = absurd (cc)
spanned_now x r s o (inr within_it) false e = within_it

pub seen_now : (x : Text) (r : List Span) (s o : Span) → IsOpen (s ∷ r) o → (b : Bool) → (o.start_line == s.start_line) ≡ b → IsSeen (x, if b then at_span o else at_line s.start_line) (record { text = x; span = s; around = s ∷ r })
seen_now x r s o k true e = record { text = refl; line = ap Some (eqb-true o.start_line s.start_line e); span = spanned_now x r s o k (is_nowhere o) refl }
seen_now x r s o k false e = record { text = refl; line = refl; span = tt }

pub wider : (r : List Span) (s o : Span) → IsOpen r o → IsOpen (s ∷ r) o
wider r s o (inl nowhere) = inl nowhere
wider r s o (inr c) = inr (suc c.0, omega (arith, c.1), c.2)

module _ {C : Type 0} where
  pub fit_then : {r : List Span} {is js : List (Instr C)} {t u v : Margin} {ls ks : List Look} → Fit r is t u ls → Fit r js u v ks → Fit r (is ++ js) t v (ls ++ ks)
  fit_then {r} {is} {js} {t} {u} {v} {ls} {ks} a b = record {
    span = b.span ∙ a.span;
    more = a.more ++ b.more;
    marks = b.marks ∙ ap (λ (l : List Mark). l ++ b.more) a.marks ∙ append_assoc t.marks a.more b.more;
    as_many = length-append is js ∙ ap (λ n. n + length js) a.as_many ∙ ap (λ n. length a.more + n) b.as_many ∙ sym (length-append a.more b.more);
    seen = λ o. subst (λ ps. AreSeen ps (ls ++ ks)) (sym (sights_append is js a.more b.more a.as_many))
        (seen_append (sights is a.more) (sights js b.more) ls ks (a.seen o) (b.seen (subst (IsOpen r) (sym a.span) o)));
  }

  pub fits_nothing : {r : List Span} → Fits r (nothing {C = C}) nowhere_else []
  fits_nothing = record { fits = λ h t. record { span = refl; more = []; marks = sym (append_nil t.marks); as_many = refl; seen = λ o. tt } }

  pub fits_then : {r : List Span} {p q : Piece C} {g k : Marking} {ls ks : List Look} → Fits r p g ls → Fits r q k ks → Fits r (p ▸ q) (g ⟫ k) (ls ++ ks)
  fits_then {p = p} {g = g} a b = record { fits = λ h t. fit_then (a.fits h t) (b.fits (p.past h) (g t)) }

  pub fit_one : {r : List Span} (i : Instr C) (m : Mark) (t : Margin) → text_looked i ≡ None → Fit r (i ∷ []) t (record t { marks = t.marks ++ m ∷ [] }) []
  fit_one i m t e = record { span = refl; more = m ∷ []; marks = refl; as_many = refl; seen = λ o. subst (λ x. AreSeen (and_sight x m []) []) (sym e) tt }

  pub fits_here : {r : List Span} (i : Instr C) → text_looked i ≡ None → Fits r (one i) (here 1) []
  fits_here i e = record { fits = λ h t. fit_one i (mark_now t) t e }

  pub fits_within : {r : List Span} {s : Span} {p : Piece C} {g : Marking} {ls : List Look} → Fits (s ∷ r) p g ls → Fits r p (within s g) ls
  fits_within {s = s} a = record {
    fits = λ h t.
        let b = a.fits h (record t { line = s.start_line; span = s }) in
        record { span = refl; more = b.more; marks = b.marks; as_many = b.as_many; seen = λ o. b.seen (inr (zero, omega arith, refl)) };
  }

  pub fits_line : {r : List Span} (s : Span) {p : Piece C} {g : Marking} {ls : List Look} → Fits (s ∷ r) p g ls → Fits r p (on_line s ⟫ g) ls
  fits_line {r} s a = record {
    fits = λ h t.
        let b = a.fits h (record t { line = s.start_line }) in
        record { span = b.span; more = b.more; marks = b.marks; as_many = b.as_many; seen = λ o. b.seen (wider r s t.span o) };
  }

  pub fit_more : {r : List Span} (i : Instr C) {is : List (Instr C)} (m : Mark) {t u : Margin} {ls : List Look} → text_looked i ≡ None → Fit r is (record t { marks = t.marks ++ m ∷ [] }) u ls → Fit r (i ∷ is) t u ls
  fit_more i m {t} e a = fit_then (fit_one i m t e) a

  pub fits_alone : {r : List Span} (s : Span) (i : Instr C) → text_looked i ≡ None → Fits r (one i) (marks.alone_at s) []
  fits_alone s i e = record { fits = λ h t. fit_one i (at_span s) t e }

  -- without looks after it
  pub fits_quiet : {r : List Span} {p q : Piece C} {g k : Marking} {ls : List Look} → Fits r p g ls → Fits r q k [] → Fits r (p ▸ q) (g ⟫ k) ls
  fits_quiet {r} {p} {q} {g} {k} {ls} a b = record { fits = λ h t. subst (λ ks. Fit r (p.code h ++ q.code (p.past h)) t (k (g t)) ks) (append_nil ls) (fit_then (a.fits h t) (b.fits (p.past h) (g t))) }

  -- one more instruction at the end
  pub fits_end : {r : List Span} {p : Piece C} {g : Marking} {ls : List Look} (i : Instr C) → text_looked i ≡ None → Fits r p g ls → Fits r (p ▸ one i) (g ⟫ here 1) ls
  fits_end {r} {p} {g} {ls} i e a = record { fits = λ h t. subst (λ ks. Fit r (p.code h ++ i ∷ []) t (here 1 (g t)) ks) (append_nil ls) (fit_then (a.fits h t) (fit_one i (mark_now (g t)) (g t) e)) }

  pub fits_end_alone : {r : List Span} {p : Piece C} {g : Marking} {ls : List Look} (s : Span) (i : Instr C) → text_looked i ≡ None → Fits r p g ls → Fits r (p ▸ one i) (g ⟫ marks.alone_at s) ls
  fits_end_alone {r} {p} {g} {ls} s i e a = record { fits = λ h t. subst (λ ks. Fit r (p.code h ++ i ∷ []) t (marks.alone_at s (g t)) ks) (append_nil ls) (fit_then (a.fits h t) (fit_one i (at_span s) (g t) e)) }

  -- a variable that is looked up
  pub fits_variable : (r : List Span) (x : Text) (s : Span) → Fits {C = C} r (one (Do Lookup x 0)) (on_line s ⟫ here 1) (look x s r)
  fits_variable r x s = record {
    fits = λ h t. record {
      span = refl;
      more = mark_now (on_line s t) ∷ [];
      marks = refl;
      as_many = refl;
      seen = λ o. (seen_now x r s t.span (wider r s t.span o) (t.span.start_line == s.start_line) refl, tt);
    };
  }

  pub fits_folded : {r : List Span} {p : Piece C} {g : Marking} {ls : List Look} (o : Option C) (s : Span) → Fits r p g ls → Fits r (layout.folded o p) (marks.folded o s g) (unless o ls)
  unfolding layout.folded marks.folded unless
  fits_folded None s a = a
  fits_folded (Some c) s a = fits_line s (fits_here (Load c) refl)

  pub fits_loaded : {r : List Span} {p : Piece C} {g : Marking} {ls : List Look} (o : Option C) → Fits r p g ls → Fits r (layout.folded o p) (marks.loaded o g) (unless o ls)
  unfolding layout.folded marks.loaded unless
  fits_loaded None a = a
  fits_loaded (Some c) a = fits_here (Load c) refl

  -- a jump past a piece
  pub fits_skipping : {r : List Span} {p : Piece C} {g : Marking} {ls : List Look} (jump : ℕ → Instr C) → ((n : ℕ) → text_looked (jump n) ≡ None) → Fits r p g ls → Fits r (skipping jump p) (here 1 ⟫ g) ls
  fits_skipping {p = p} jump e a = record { fits = λ h t. fit_more (jump (p.past (behind 1 h)).place) (mark_now t) (e _) (a.fits (behind 1 h) (here 1 t)) }

  pub fits_skipping_again : {r : List Span} {p : Piece C} {g : Marking} {ls : List Look} (jump : ℕ → Instr C) → ((n : ℕ) → text_looked (jump n) ≡ None) → Fits r p g ls → Fits r (skipping jump p) (again ⟫ g) ls
  fits_skipping_again {p = p} jump e a = record { fits = λ h t. fit_more (jump (p.past (behind 1 h)).place) (marks.last_mark t.marks) (e _) (a.fits (behind 1 h) (again t)) }

  pub fits_branches : {r : List Span} {p q : Piece C} {g k : Marking} {ls ks : List Look} → Fits r p g ls → Fits r q k ks → Fits r (branches p q) (here 1 ⟫ g ⟫ here 1 ⟫ k) (ls ++ ks)
  fits_branches {p = p} {q} {g} a b = record {
    fits = λ h t.
        let other = behind 1 (p.past (behind 1 h)) in
        fit_more (JumpIfFalse other.place) (mark_now t) refl
        (fit_then (a.fits (behind 1 h) (here 1 t)) (fit_more (Jump (q.past other).place) (mark_now (g (here 1 t))) refl (b.fits other (here 1 (g (here 1 t))))));
  }

  -- a piece that leads elsewhere
  pub record FitsOut {X : Type 0} (r : List Span) (p : Leading X C) (g : Marking) (ls : List Look) : Type 0 where
    pub fits : (x : X) (h : Here) (t : Margin) → Fit r (p.code x h) t (g t) ls

  pub fits_plain : {X : Type 0} {r : List Span} {p : Piece C} {g : Marking} {ls : List Look} → Fits r p g ls → FitsOut {X = X} r (plain p) g ls
  fits_plain a = record { fits = λ x h t. a.fits h t }

  pub fits_batch : {r : List Span} (build : ℕ → Instr C) → ((n : ℕ) → text_looked (build n) ≡ None) → (n : ℕ) → Fits r (layout.batch build n) (here (layout.batch_count n)) []
  fits_batch build e zero = fits_nothing
  fits_batch build e (suc n) = fits_here (build (suc n)) (e (suc n))

  pub fits_merged : {r : List Span} (b n : ℕ) → Fits {C = C} r (layout.merged b n) (marks.merged b n) []
  unfolding layout.merged marks.merged
  fits_merged zero zero = fits_nothing
  fits_merged zero (suc n) = fits_here (BuildKwargs (suc n)) refl
  fits_merged (suc b) n = fits_end _ refl (fits_batch BuildKwargs (λ n. refl) n)

  pub fits_spreading : {r : List Span} (b n : ℕ) → Fits {C = C} r (layout.spreading b n) (marks.spreading b n) []
  unfolding layout.spreading marks.spreading
  fits_spreading zero n = fits_nothing
  fits_spreading (suc b) n = fits_end _ refl (fits_batch (λ n. BuildList (Some n)) (λ n. refl) n)

  fits_comparison : {r : List Span} (o : CompareOp) → Fits {C = C} r (layout.comparison o) (marks.comparison o) []
  fits_comparison eq = fits_here _ refl
  fits_comparison ne = fits_here _ refl
  fits_comparison lt = fits_here _ refl
  fits_comparison lte = fits_here _ refl
  fits_comparison gt = fits_here _ refl
  fits_comparison gte = fits_here _ refl
  fits_comparison is_in = fits_here _ refl
  fits_comparison not_in = fits_end _ refl (fits_here _ refl)

  fits_operation : {r : List Span} (w : Working) {p : Piece C} {g : Marking} {ls : List Look} → Fits r p g ls → Fits r (layout.operation w p) (marks.operation w g) ls
  fits_operation (Makes o) a = fits_end _ refl a
  fits_operation Divides a = fits_end _ refl a
  fits_operation IfTrue a = fits_skipping_again JumpIfFalseOrPop (λ n. refl) a
  fits_operation IfFalse a = fits_skipping_again JumpIfTrueOrPop (λ n. refl) a

  pub fits_called : {r : List Span} (k : Callee C) {base value : Piece C} {given : ℕ → Piece C} (count : ℕ → Option ℕ) {gb gv : Marking} {gg : ℕ → Marking} {bs vs gs : List Look} → Fits r base gb bs → Fits r value gv vs → ((n : ℕ) → Fits r (given n) (gg n) gs) → Fits r (layout.call_of k base value given count) (marks.call_of k gb gv gg) (called k bs vs gs)
  fits_called (function x) n a b c = fits_end _ refl (c 0)
  fits_called (block x) n a b c = fits_then (fits_here _ refl) (fits_then (fits_here _ refl) (fits_here _ refl))
  fits_called (method e x) n a b c = fits_then a (fits_end _ refl (c 1))
  fits_called (object e) n a b c = fits_then b (fits_end _ refl (c 1))

  -- a filter or test at the end
  fits_filter : {r : List Span} {p : Piece C} {g : Marking} {ls : List Look} (x : Text) (n : Option ℕ) → Fits r p g ls → Fits r (p ▸ layout.apply_filter x n) (g ⟫ here 1) ls
  fits_filter {r} x n a =
      let last : Fits r (layout.apply_filter {C = C} x n) (here 1) [] = record { fits = λ h t. fit_one (Apply ApplyFilter x n (id_of x h.filters)) (mark_now t) t refl } in
      fits_quiet a last

  fits_test : {r : List Span} {p : Piece C} {g : Marking} {ls : List Look} (x : Text) (n : Option ℕ) → Fits r p g ls → Fits r (p ▸ layout.perform_test x n) (g ⟫ here 1) ls
  fits_test {r} x n a =
      let last : Fits r (layout.perform_test {C = C} x n) (here 1) [] = record { fits = λ h t. fit_one (Apply PerformTest x n (id_of x h.tests)) (mark_now t) t refl } in
      fits_quiet a last

  -- a chain: its second operand, its comparisons, and its end
  fits_chained : {r : List Span} {p : Piece C} {q : Leading ℕ C} {g k : Marking} {ls ks : List Look} → Fits r p g ls → FitsOut r q k ks → Fits r (layout.chained p q) (g ⟫ k ⟫ here 3) (ls ++ ks)
  fits_chained {r} {p} {q} {g} {k} {ls} {ks} a b = record {
    fits = λ h t.
        let failed = behind 1 (q.past (p.past h)) in
        let e = behind 1 (behind 1 failed) in
        let u = k (g t) in
        let m = mark_now u in
        let ending : List (Instr C) = Jump e.place ∷ Swap ∷ DiscardTop ∷ [] in
        let tail : Fit r ending u (here 3 u) [] = fit_more (Jump e.place) m refl (fit_more Swap m refl (fit_one DiscardTop m (here 2 u) refl)) in
        fit_then (a.fits h t) (subst (λ ns. Fit r (q.code failed.place (p.past h) ++ Jump e.place ∷ Swap ∷ DiscardTop ∷ []) (g t) (here 3 u) ns) (append_nil ks) (fit_then (b.fits failed.place (p.past h) (g t)) tail));
  }

  fits_and_then : {r : List Span} (o : CompareOp) {p : Piece C} {q : Leading ℕ C} {g k : Marking} {ls ks : List Look} → Fits r p g ls → FitsOut r q k ks → FitsOut r (layout.and_then o p q) (here 2 ⟫ g ⟫ k) (ls ++ ks)
  fits_and_then o {p} {q} {g} a b = record {
    fits = λ x h t.
        let m = mark_now t in
        let h2 = behind 1 (behind 1 h) in
        fit_more (CompareAndPreserve o) m refl (fit_more (JumpIfFalseOrPop x) m refl (fit_then (a.fits h2 (here 2 t)) (b.fits x (p.past h2) (g (here 2 t)))));
  }

module _ {C F : Type 0} (f : Functions C F) where
  fits_arguments : {r : List Span} (args : Args C) (n : ℕ) {p q : Piece C} {g k : Marking} {ls ks : List Look} → Fits r p g ls → Fits r q k ks → Fits r (layout.arguments f (bare_args args) n p q) (marks.arguments f args n g k) (given f args ls ks)
  fits_arguments args n a b = fits_then a (fits_quiet (fits_loaded _ (fits_quiet b (fits_merged _ _))) (fits_spreading _ _))

  -- each by itself
  abbrev EachFits : List Span → Exprs C → Type 0
  EachFits r no_more = Unit {0}
  EachFits r (more e es) = Fits r (layout.expr f (bare_expr e)) (marks.expr f e) (looks f r e) × EachFits r es

  fits_paired : (r : List Span) (ks vs : Exprs C) → EachFits r ks → EachFits r vs → Fits r (layout.paired (layout.each f (bare_exprs ks)) (layout.each f (bare_exprs vs))) (marks.paired (marks.each f ks) (marks.each f vs)) (in_turn (each_looks f r ks) (each_looks f r vs))
  fits_paired r no_more vs a b = fits_nothing
  fits_paired r (more k ks) no_more a b = fits_nothing
  fits_paired r (more k ks) (more v vs) a b = fits_then a.0 (fits_then b.0 (fits_paired r ks vs a.1 b.1))

  mutual
    pub fits_expr : (r : List Span) (e : Expr C) → Fits r (layout.expr f (bare_expr e)) (marks.expr f e) (looks f r e)
    fits_expr r (variable x s) = fits_variable r x s
    fits_expr r (constant c s) = fits_line s (fits_here (Load c) refl)
    fits_expr r (slice e i j k s) = fits_within (fits_then (fits_expr (s ∷ r) e) (fits_then (fits_optional (s ∷ r) f.none i) (fits_then (fits_optional (s ∷ r) f.none j) (fits_end _ refl (fits_optional (s ∷ r) f.none k)))))
    fits_expr r (unary logical_not e s) = fits_folded _ s (fits_line s (fits_end _ refl (fits_expr (s ∷ r) e)))
    fits_expr r (unary negation e s) = fits_folded _ s (fits_line s (fits_end_alone s _ refl (fits_expr (s ∷ r) e)))
    fits_expr r (binary o a b s) = fits_folded _ s (fits_within (fits_then (fits_expr (s ∷ r) a) (fits_operation (working o) (fits_expr (s ∷ r) b))))
    fits_expr r (compare e cs s) = fits_folded _ s (fits_within (fits_then (fits_expr (s ∷ r) e) (fits_chain (s ∷ r) cs)))
    fits_expr r (if_expr t a b s) = fits_line s (fits_then (fits_expr (s ∷ r) t) (fits_branches (fits_expr (s ∷ r) a) (fits_optional (s ∷ r) f.silent_undefined b)))
    fits_expr r (filter o x args s) = fits_within (fits_then (fits_operand (s ∷ r) o) (fits_filter x (layout.argument_count (bare_args args) 1) (fits_arguments args 1 (fits_positional (s ∷ r) args 1) (fits_keyword (s ∷ r) args 0))))
    fits_expr r (test e x args s) = fits_within (fits_then (fits_expr (s ∷ r) e) (fits_test x (layout.argument_count (bare_args args) 1) (fits_arguments args 1 (fits_positional (s ∷ r) args 1) (fits_keyword (s ∷ r) args 0))))
    fits_expr r (attribute e x s) = fits_within (fits_end _ refl (fits_expr (s ∷ r) e))
    fits_expr r (item e k s) = fits_within (fits_then (fits_expr (s ∷ r) e) (fits_end _ refl (fits_expr (s ∷ r) k)))
    fits_expr r (call e args s) = fits_within (fits_called (callee (bare_expr e)) (layout.argument_count (bare_args args)) (fits_base (s ∷ r) e) (fits_expr (s ∷ r) e) (λ n. fits_arguments args n (fits_positional (s ∷ r) args n) (fits_keyword (s ∷ r) args 0)))
    fits_expr r (list es s) = fits_folded _ s (fits_line s (fits_end _ refl (fits_items (s ∷ r) es)))
    fits_expr r (tuple es s) = fits_folded _ s (fits_line s (fits_end _ refl (fits_items (s ∷ r) es)))
    fits_expr r (map ks vs s) = fits_folded _ s (fits_line s (fits_end _ refl (fits_paired (s ∷ r) ks vs (fits_each (s ∷ r) ks) (fits_each (s ∷ r) vs))))

    pub fits_base : (r : List Span) (e : Expr C) → Fits r (layout.base f (bare_expr e)) (marks.base f e) (base_looks f r e)
    fits_base r (attribute e x s) = fits_expr r e
    fits_base r e = fits_here (Load f.none) refl

    pub fits_optional : (r : List Span) (d : C) (o : Optional C) → Fits r (layout.optional f d (bare_optional o)) (marks.optional f o) (optional_looks f r o)
    fits_optional r d absent = fits_here (Load d) refl
    fits_optional r d (present e) = fits_expr r e

    fits_operand : (r : List Span) (o : Optional C) → Fits r (layout.operand f (bare_optional o)) (marks.operand f o) (optional_looks f r o)
    fits_operand r absent = fits_nothing
    fits_operand r (present e) = fits_expr r e

    fits_items : (r : List Span) (es : Exprs C) → Fits r (layout.items f (bare_exprs es)) (marks.items f es) (all_looks f r es)
    fits_items r no_more = fits_nothing
    fits_items r (more e es) = fits_then (fits_expr r e) (fits_items r es)

    fits_each : (r : List Span) (es : Exprs C) → EachFits r es
    fits_each r no_more = tt
    fits_each r (more e es) = (fits_expr r e, fits_each r es)

    fits_chain : (r : List Span) (cs : Comparisons C) → Fits r (layout.chain f (bare_comparisons cs)) (marks.chain f cs) (compared_looks f r cs)
    fits_chain r compared = fits_nothing
    fits_chain r (against o e cs) = fits_chained (fits_expr r e) (fits_comparisons r o cs)

    fits_comparisons : (r : List Span) (o : CompareOp) (cs : Comparisons C) → FitsOut r (layout.comparisons f o (bare_comparisons cs)) (marks.comparisons f o cs) (compared_looks f r cs)
    fits_comparisons r o compared = fits_plain (fits_comparison o)
    fits_comparisons r o (against o' e cs) = fits_and_then o (fits_expr r e) (fits_comparisons r o' cs)

    pub fits_positional : (r : List Span) (args : Args C) (n : ℕ) → Fits r (layout.positional f (bare_args args) n) (marks.positional f args n) (positional_looks f r args)
    fits_positional r no_args n = fits_nothing
    fits_positional r (pos e args) n = fits_then (fits_expr r e) (fits_positional r args (suc n))
    fits_positional r (pos_splat e args) n = fits_then (fits_batch (λ n. BuildList (Some n)) (λ n. refl) n) (fits_then (fits_expr r e) (fits_positional r args 0))
    fits_positional r (kwarg x e args) n = fits_positional r args n
    fits_positional r (kwarg_splat e args) n = fits_positional r args n

    pub fits_keyword : (r : List Span) (args : Args C) (n : ℕ) → Fits r (layout.keyword f (bare_args args) n) (marks.keyword f args n) (keyword_looks f r args)
    fits_keyword r no_args n = fits_nothing
    fits_keyword r (pos e args) n = fits_keyword r args n
    fits_keyword r (pos_splat e args) n = fits_keyword r args n
    fits_keyword r (kwarg x e args) n = fits_then (fits_here _ refl) (fits_then (fits_expr r e) (fits_keyword r args (suc n)))
    fits_keyword r (kwarg_splat e args) n = fits_then (fits_batch BuildKwargs (λ n. refl) n) (fits_then (fits_expr r e) (fits_keyword r args 0))
