-- The marks of statements fit their code.
use Rattle.std.proofs.Common.{inl, inr, arith, ◌≡◌, ℕ, zero, Bool, true, false, List, [], ◌∷◌, ◌++◌, length, reverse, None, refl, sym, ap, ◌∙◌, subst, append_assoc}
use Rattle.std.specs.Prelude.{◌==◌}
use Rattle.minijinja_syntax.specs.Texts.{Text}
use Rattle.minijinja_value.specs.Values.{Functions}
use Rattle.minijinja_syntax.specs.declared.tokens.Span.{Span}
use Rattle.minijinja_tree.specs.Callees.{Callee, function, block, callee}
use Rattle.minijinja_tree.specs.Tree as bare
use Rattle.minijinja_tree.specs.SpannedTrees.{Expr, variable, attribute, call, list, Optional, absent, present, Exprs, no_more, more, Args, no_args, pos, Stmt, template, data_text, output, assignment, for_loop, if_cond, with_block, set_block, auto_escape, filter_block, named_block, extends, include, import_all, from_import, declare, call_block, do_call, break_loop, continue_loop, Stmts, done, also, Macro, macro, bare_expr, bare_optional, bare_exprs, bare_args, bare_bindings, bare_list, bare_names, bare_stmt, bare_stmts, bare_macro}
use Rattle.minijinja_semantics.specs.Code.{Instr, Do, Load, PushLoop, PopLoopFrame, PushDidNotIterate, Iterate, BuildList, BuildMacro, DupTop, DiscardTop, Swap, IsUndefined, Jump, JumpIfFalse, Return}
use Rattle.minijinja_semantics.specs.Events.{FastRecurse, EmitRaw, Enclose}
use Rattle.minijinja_semantics.specs.Pieces.{Here, behind, Piece, Leading, Exits, Open, OpenScope, OpenAutoEscape, OpenCapture, closing_instructions, nothing, one, ◌▸◌, plain, ◌▹◌, leading_to, outside, start, skipping_out, branches_out}
use Rattle.minijinja_semantics.specs.Layout as layout
use Rattle.minijinja_semantics.specs.Meaning.{loop_flags}
use Rattle.minijinja_semantics.specs.Macros.{enclosed}
use Rattle.minijinja_semantics.specs.Calls.{Plain, written, written_call, written_super, written_loop}
use Rattle.std.specs.Prelude.{codes, bytes_eq}
use Rattle.std.proofs.lemmas.List.{reverse-append}
use Rattle.minijinja_semantics.specs.Marks as marks
use Rattle.minijinja_semantics.specs.Marks.{Margin, Marking, mark_now, here, within, on_line, ◌⟫◌, nowhere_else, span_of, closing_count}
use Rattle.minijinja_semantics.specs.Looks.{AreMarksOf, AreSeen, sights, write_looks, looped_looks, Look, look, looks, optional_looks, positional_looks, keyword_looks, target_looks, targets_looks, assigned_looks, taken_looks, imported_looks, stored_looks, stmt_looks, stmts_looks, macro_looks}
use Rattle.minijinja_semantics.proofs.Fitting.{Fit, Fits, FitsOut, fit_then, fit_one, fit_more, fits_nothing, fits_then, fits_here, fits_within, fits_alone, fits_end, fits_end_alone, fits_quiet, fits_plain, fits_skipping, fits_expr, fits_positional, fits_keyword, fits_base, fits_called, fits_merged, fits_spreading, append_nil, seen_now, wider}

module _ {C : Type 0} where
  -- the line alone is set
  pub fits_on : {r : List Span} (s : Span) {p : Piece C} {g : Marking} {ls : List Look} → Fits r p g ls → Fits r p (on_line s ⟫ g) ls
  fits_on s a = record {
    fits = λ h t.
        let b = a.fits h (record t { line = s.start_line }) in
        record { span = b.span; more = b.more; marks = b.marks; as_many = b.as_many; seen = b.seen };
  }

  pub outs_on : {X : Type 0} {r : List Span} (s : Span) {p : Leading X C} {g : Marking} {ls : List Look} → FitsOut r p g ls → FitsOut r p (on_line s ⟫ g) ls
  outs_on s a = record {
    fits = λ x h t.
        let b = a.fits x h (record t { line = s.start_line }) in
        record { span = b.span; more = b.more; marks = b.marks; as_many = b.as_many; seen = b.seen };
  }

  pub outs_then : {X : Type 0} {r : List Span} {p q : Leading X C} {g k : Marking} {ls ks : List Look} → FitsOut r p g ls → FitsOut r q k ks → FitsOut r (p ▹ q) (g ⟫ k) (ls ++ ks)
  outs_then {p = p} {g = g} a b = record { fits = λ x h t. fit_then (a.fits x h t) (b.fits x (p.past h) (g t)) }

  pub outs_end : {X : Type 0} {r : List Span} {p q : Leading X C} {g k : Marking} {ls : List Look} → FitsOut r p g ls → FitsOut r q k [] → FitsOut r (p ▹ q) (g ⟫ k) ls
  outs_end {r = r} {p} {q} {g} {k} {ls} a b = record { fits = λ x h t. subst (λ ks. Fit r (p.code x h ++ q.code x (p.past h)) t (k (g t)) ks) (append_nil ls) (fit_then (a.fits x h t) (b.fits x (p.past h) (g t))) }

  pub fits_leading : {X : Type 0} {r : List Span} {p : Leading X C} {g : Marking} {ls : List Look} (x : X) → FitsOut r p g ls → Fits r (leading_to x p) g ls
  fits_leading x a = record { fits = λ h t. a.fits x h t }

  pub outs_skipping : {X : Type 0} {r : List Span} {p : Leading X C} {g : Marking} {ls : List Look} → FitsOut r p g ls → FitsOut r (skipping_out JumpIfFalse p) (here 1 ⟫ g) ls
  outs_skipping {p = p} a = record { fits = λ x h t. fit_more (JumpIfFalse (p.past (behind 1 h)).place) (mark_now t) refl (a.fits x (behind 1 h) (here 1 t)) }

  -- data
  fits_data : (r : List Span) (x : Text) (s : Span) → Fits {C = C} r (one (Do EmitRaw x 0)) (on_line s ⟫ here 1) (look x s r)
  fits_data r x s = record {
    fits = λ h t. record {
      span = refl;
      more = mark_now (on_line s t) ∷ [];
      marks = refl;
      as_many = refl;
      seen = λ o. (seen_now x r s t.span (wider r s t.span o) (t.span.start_line == s.start_line) refl, tt);
    };
  }

  fit_moved : {r : List Span} (xs zs ys : List (Instr C)) {t u : Margin} {ls : List Look} → Fit r ((xs ++ zs) ++ ys) t u ls → Fit r (xs ++ (zs ++ ys)) t u ls
  fit_moved {r} xs zs ys {t} {u} {ls} a = subst (λ is. Fit r is t u ls) (append_assoc xs zs ys) a

  fit_within : {r : List Span} (s : Span) {is : List (Instr C)} {t u : Margin} {ls : List Look} → Fit (s ∷ r) is (record t { line = s.start_line; span = s }) u ls → Fit r is t (record u { span = t.span }) ls
  fit_within {r} s {is} {t} {u} {ls} b =
      record { span = refl; more = b.more; marks = b.marks; as_many = b.as_many; seen = λ o. b.seen (inr (zero, omega arith, refl)) }

  -- nothing is seen in what comes after
  fit_quiet : {r : List Span} {is js : List (Instr C)} {t u v : Margin} {ls : List Look} → Fit r is t u ls → Fit r js u v [] → Fit r (is ++ js) t v ls
  fit_quiet {r} {is} {js} {t} {u} {v} {ls} a b = subst (λ ks. Fit r (is ++ js) t v ks) (append_nil ls) (fit_then a b)

  fits_names : {r : List Span} (xs : List Text) → Fits {C = C} r (layout.enclosing xs) (here (length xs)) []
  fits_names [] = fits_nothing
  fits_names (x ∷ xs) = fits_then (fits_here (Do Enclose x 0) refl) (fits_names xs)

  outs_closing : {r : List Span} (os : List Open) (t : Margin) → Fit {C = C} r (closing_instructions os) t (here (closing_count os) t) []
  outs_closing [] t = record { span = refl; more = []; marks = sym (append_nil t.marks); as_many = refl; seen = λ o. tt }
  outs_closing (OpenScope ∷ os) t = fit_more _ (mark_now t) refl (outs_closing os _)
  outs_closing (OpenAutoEscape ∷ os) t = fit_more _ (mark_now t) refl (outs_closing os _)
  outs_closing (OpenCapture ∷ os) t = fit_more _ (mark_now t) refl (fit_more DiscardTop (mark_now t) refl (outs_closing os _))

bare_append : {C : Type 0} (xs ys : List (Expr C)) → bare_list (xs ++ ys) ≡ bare_list xs ++ bare_list ys
bare_append [] ys = refl
bare_append (x ∷ xs) ys = ap (λ l. bare_expr x ∷ l) (bare_append xs ys)

bare_reverse : {C : Type 0} (xs : List (Expr C)) → reverse (bare_list xs) ≡ bare_list (reverse xs)
bare_reverse [] = refl
bare_reverse (x ∷ xs) =
    reverse-append (bare_expr x ∷ []) (bare_list xs) ∙ ap (λ l. l ++ bare_expr x ∷ []) (bare_reverse xs) ∙ sym (bare_append (reverse xs) (x ∷ [])) ∙ ap bare_list (sym (reverse-append (x ∷ []) xs))

module _ {C F : Type 0} (f : Functions C F) where
  mutual
    pub fits_target : (r : List Span) (e : Expr C) → Fits r (layout.target f (bare_expr e)) (marks.target f e) (target_looks f r e)
    fits_target r (variable x s) = fits_here _ refl
    fits_target r (attribute e x s) = fits_within (fits_end _ refl (fits_expr f (s ∷ r) e))
    fits_target r (list es s) = fits_within (fits_then (fits_here _ refl) (fits_targets (s ∷ r) es))
    fits_target r e = fits_nothing

    fits_targets : (r : List Span) (es : Exprs C) → Fits r (layout.targets f (bare_exprs es)) (marks.targets f es) (targets_looks f r es)
    fits_targets r no_more = fits_nothing
    fits_targets r (more e es) = fits_then (fits_target r e) (fits_targets r es)

  fits_assigned : (r : List Span) (ts : List (Expr C × Expr C)) → Fits r (layout.assignments f (bare_bindings ts)) (marks.assignments f ts) (assigned_looks f r ts)
  fits_assigned r [] = fits_nothing
  fits_assigned r (a ∷ rest) = fits_then (fits_expr f r a.1) (fits_then (fits_target r a.0) (fits_assigned r rest))

  fits_imported : (r : List Span) (ns : List (Expr C × Optional C)) → Fits r (layout.looking_up f (bare_names ns)) (marks.looking_up f ns) (imported_looks f r ns)
  fits_imported r [] = fits_nothing
  fits_imported r (n ∷ ns) = fits_then (fits_expr f r n.0) (fits_imported r ns)

  fits_stored_as : (r : List Span) (n : Expr C × Optional C) → Fits r (layout.target f (bare.stored_as (bare_expr n.0, bare_optional n.1))) (marks.target f (marks.stored_as n)) (target_looks f r (marks.stored_as n))
  fits_stored_as r (e, absent) = fits_target r e
  fits_stored_as r (e, present alias) = fits_target r alias

  fits_stored : (r : List Span) (ns : List (Expr C × Optional C)) → Fits r (layout.storing_back f (bare_names ns)) (marks.storing_back f ns) (stored_looks f r ns)
  fits_stored r [] = fits_nothing
  fits_stored r (n ∷ ns) = fits_then (fits_stored r ns) (fits_stored_as r n)

  fits_taken : (r : List Span) (es ds : List (Expr C)) → Fits r (layout.taking f (bare.defaulted (bare_list es) (bare_list ds))) (marks.taking f es ds) (taken_looks f r es ds)
  fits_taken r [] ds = fits_nothing
  fits_taken r (e ∷ es) [] = fits_then fits_nothing (fits_then (fits_target r e) (fits_taken r es []))
  fits_taken r (e ∷ es) (d ∷ ds) =
      fits_then (fits_then (fits_here DupTop refl) (fits_then (fits_here IsUndefined refl) (fits_skipping JumpIfFalse (λ n. refl) (fits_then (fits_here DiscardTop refl) (fits_expr f r d)))))
      (fits_then (fits_target r e) (fits_taken r es ds))

  fits_filters : (r : List Span) (o : Optional C) → Fits r (layout.filters f (bare_optional o)) (marks.filters f o) (optional_looks f r o)
  fits_filters r absent = fits_nothing
  fits_filters r (present e) = fits_expr f r e

  fits_popping : (r : List Span) (b : Bool) → Fits {C = C} r (layout.popping b) (marks.popping b) []
  fits_popping r true = fits_then (fits_here PushDidNotIterate refl) (fits_here PopLoopFrame refl)
  fits_popping r false = fits_here PopLoopFrame refl

  -- a loop after its two first instructions: the rest of its turns, and its end
  fit_turns : (r : List Span) (t : Expr C) (has_else : Bool) (body : Leading Exits C) {g : Marking} {ls : List Look} → FitsOut r body g ls → (x : Exits) (h h' : Here) (n : ℕ) (u : Margin) →
      Fit r (((plain (layout.target f (bare_expr t)) ▹ body).code x h ++ Jump n ∷ []) ++ (layout.popping has_else).code h') u ((marks.target f t ⟫ g ⟫ here 1 ⟫ marks.popping has_else) u) (target_looks f r t ++ ls)
  fit_turns r t has_else body {g} {ls} a x h h' n u =
      let v = g (marks.target f t u) in
      fit_quiet (fit_quiet ((outs_then {X = Exits} (fits_plain (fits_target r t)) a).fits x h u) (fit_one (Jump n) (mark_now v) v refl)) ((fits_popping r has_else).fits h' (here 1 v))

  -- a loop over the items of an expression
  fits_over : (r : List Span) (t e : Expr C) (recursive has_else : Bool) (body : Leading Exits C) {g : Marking} {ls : List Look} → FitsOut r body g ls →
      Fits r (layout.expr f (bare_expr e) ▸ layout.looping f (bare_expr t) recursive has_else body)
      (within (span_of e) (marks.expr f e ⟫ here 2) ⟫ marks.target f t ⟫ g ⟫ here 1 ⟫ marks.popping has_else) (looks f (span_of e ∷ r) e ++ (target_looks f r t ++ ls))
  fits_over r t e recursive has_else body {g} {ls} a = record {
    fits = λ h u.
        let s = span_of e in
        let h1 = (layout.expr f (bare_expr e)).past h in
        let h2 = behind 1 h1 in
        let p : Leading Exits C = plain (layout.target f (bare_expr t)) ▹ body in
        let end = behind 1 (p.past (behind 1 h2)) in
        let x : Exits = record { break_to = end.place; continue_to = h2.place } in
        let two : List (Instr C) = PushLoop (loop_flags recursive) ∷ Iterate end.place ∷ [] in
        let v = marks.expr f e (record u { line = s.start_line; span = s }) in
        let first = fit_within s (fit_quiet ((fits_expr f (s ∷ r) e).fits h (record u { line = s.start_line; span = s })) (fit_more (PushLoop (loop_flags recursive)) (mark_now v) refl (fit_one (Iterate end.place) (mark_now v) (here 1 v) refl))) in
        let rest = fit_turns r t has_else body a x (behind 1 h2) end h2.place _ in
        fit_moved ((layout.expr f (bare_expr e)).code h) two _ (fit_then first rest);
  }

  fits_turned : (r : List Span) (t : Expr C) (recursive has_else : Bool) (body : Leading Exits C) {g : Marking} {ls : List Look} → FitsOut r body g ls →
      Fits r (layout.looping f (bare_expr t) recursive has_else body) (here 2 ⟫ marks.target f t ⟫ g ⟫ here 1 ⟫ marks.popping has_else) (target_looks f r t ++ ls)
  fits_turned r t recursive has_else body {g} {ls} a = record {
    fits = λ h u.
        let h2 = behind 1 h in
        let p : Leading Exits C = plain (layout.target f (bare_expr t)) ▹ body in
        let end = behind 1 (p.past (behind 1 h2)) in
        let x : Exits = record { break_to = end.place; continue_to = h2.place } in
        fit_more (PushLoop (loop_flags recursive)) (mark_now u) refl (fit_more (Iterate end.place) (mark_now u) refl (fit_turns r t has_else body a x (behind 1 h2) end h2.place (here 2 u)));
  }

  -- the items that pass a test
  fits_passing : (r : List Span) (t e c : Expr C) →
      Fits r (layout.passing f (bare_expr t) (bare.present (bare_expr c)) (layout.expr f (bare_expr e)))
      (here 1 ⟫ within (span_of e) (marks.expr f e) ⟫ within (span_of c) (here 3 ⟫ marks.target f t ⟫ marks.expr f c ⟫ here 6) ⟫ here 3)
      (looks f (span_of e ∷ r) e ++ (target_looks f (span_of c ∷ r) t ++ looks f (span_of c ∷ r) c))
  fits_passing r t e c = record {
    fits = λ h u.
        let s = span_of c in
        let x = layout.expr f (bare_expr e) in
        let kept : Piece C = one DupTop ▸ layout.target f (bare_expr t) ▸ layout.expr f (bare_expr c) ▸ layout.counting f in
        let h1 = behind 1 h in
        let h2 = x.past h1 in
        let h3 = behind 1 h2 in
        let h4 = behind 1 h3 in
        let end = behind 1 (kept.past h4) in
        let u1 = here 1 u in
        let u2 = within (span_of e) (marks.expr f e) u1 in
        let u3 = here 3 (record u2 { line = s.start_line; span = s }) in
        let h5 = behind 1 h4 in
        let h6 = (layout.target f (bare_expr t)).past h5 in
        let h7 = (layout.expr f (bare_expr c)).past h6 in
        let u4 = marks.target f t u3 in
        let u5 = marks.expr f c u4 in
        let m = mark_now (record u2 { line = s.start_line; span = s }) in
        let m5 = mark_now u5 in
        let u6 = within s (here 3 ⟫ marks.target f t ⟫ marks.expr f c ⟫ here 6) u2 in
        let m6 = mark_now u6 in
        let six : Fit (s ∷ r) ((layout.counting {C = C} f).code h7) u5 (here 6 u5) [] = fit_more _ m5 refl (fit_more Swap m5 refl (fit_more _ m5 refl (fit_more _ m5 refl (fit_more _ m5 refl (fit_one DiscardTop m5 _ refl))))) in
        let w = record u2 { line = s.start_line; span = s } in
        let k : List (Instr C) = kept.code h4 in
        let ks : List Look = target_looks f (s ∷ r) t ++ looks f (s ∷ r) c in
        let inside : Fit (s ∷ r) (PushLoop 0 ∷ Iterate end.place ∷ k) w (here 6 u5) ks =
        fit_more (PushLoop 0) m refl (fit_more (Iterate end.place) m refl (fit_more DupTop m refl (fit_then ((fits_target (s ∷ r) t).fits h5 u3) (fit_quiet ((fits_expr f (s ∷ r) c).fits h6 u4) six)))) in
        let turn : Fit r (PushLoop 0 ∷ Iterate end.place ∷ k) u2 u6 ks = fit_within s inside in
        let tail : List (Instr C) = Jump h3.place ∷ PopLoopFrame ∷ BuildList None ∷ [] in
        let last : Fit r tail u6 (here 3 u6) [] = fit_more (Jump h3.place) m6 refl (fit_more PopLoopFrame m6 refl (fit_one (BuildList None) m6 (here 2 u6) refl)) in
        let all : Fit r (PushLoop 0 ∷ Iterate end.place ∷ (k ++ tail)) u2 (here 3 u6) ks = fit_quiet turn last in
        let same : k ++ tail ≡ (k ++ Jump h3.place ∷ []) ++ PopLoopFrame ∷ BuildList None ∷ [] = sym (append_assoc k (Jump h3.place ∷ []) (PopLoopFrame ∷ BuildList None ∷ [])) in
        fit_more (Load (f.of_u64 0)) (mark_now u) refl (fit_then ((fits_within (fits_expr f (span_of e ∷ r) e)).fits h1 u1)
        (subst (λ is. Fit r (PushLoop 0 ∷ Iterate end.place ∷ is) u2 (here 3 u6) ks) same all));
  }

  -- an output
  fits_super : (r : List Span) (b : Bool) (e : Expr C) → Fits r (layout.write f (written_super b Plain) (layout.expr f (bare_expr e))) (marks.write f (written_super {C = C} b Plain) e) (write_looks f r (written_super {C = C} b Plain) e)
  fits_super r true e = fits_on (span_of e) (fits_alone (span_of e) _ refl)
  fits_super r false e = fits_within (fits_end _ refl (fits_expr f (span_of e ∷ r) e))

  fits_loop : (r : List Span) (b : Bool) (g a : Expr C) (s : Span) → Fits r (layout.write f (written_loop b (bare_expr a)) (layout.expr f (bare_expr (call g (pos a no_args) s)))) (marks.write f (written_loop b (bare_expr a)) (call g (pos a no_args) s)) (write_looks f r (written_loop b (bare_expr a)) (call g (pos a no_args) s))
  fits_loop r true g a s =
      let value : Fits r (layout.expr f (bare_expr a)) (marks.expr f a ⟫ nowhere_else) (looks f r a ++ []) = record { fits = λ h t. subst (λ ks. Fit r ((layout.expr f (bare_expr a)).code h) t (marks.expr f a t) ks) (sym (append_nil (looks f r a))) ((fits_expr f r a).fits h t) } in
      fits_on s (fits_end_alone s (Do FastRecurse [] 1) refl value)
  fits_loop r false g a s = fits_within (fits_end _ refl (fits_expr f (s ∷ r) (call g (pos a no_args) s)))

  fits_written : (r : List Span) (k : Callee C) (g : Expr C) (args : Args C) (s : Span) → Fits r (layout.write f (written_call k (bare_args args)) (layout.expr f (bare_expr (call g args s)))) (marks.write f (written_call k (bare_args args)) (call g args s)) (write_looks f r (written_call k (bare_args args)) (call g args s))
  fits_written r (function x) g no_args s = fits_super r (bytes_eq x (codes "super")) (call g no_args s)
  fits_written r (function x) g (pos a no_args) s = fits_loop r (bytes_eq x (codes "loop")) g a s
  fits_written r (block x) g args s = fits_on s (fits_here _ refl)
  fits_written r k g args s = fits_within (fits_end _ refl (fits_expr f (s ∷ r) (call g args s)))

  fits_write : (r : List Span) (e : Expr C) → Fits r (layout.write f (written (bare_expr e)) (layout.expr f (bare_expr e))) (marks.write f (written (bare_expr e)) e) (write_looks f r (written (bare_expr e)) e)
  fits_write r (call g args s) = fits_written r (callee (bare_expr g)) g args s
  fits_write r e = fits_within (fits_end _ refl (fits_expr f (span_of e ∷ r) e))

  -- the items of a loop, and its turns
  fits_each_turn : (r : List Span) (t e : Expr C) (only : Optional C) (recursive has_else : Bool) (body : Leading Exits C) {g : Marking} {ls : List Look} → FitsOut r body g ls →
      Fits r (layout.passing f (bare_expr t) (bare_optional only) (layout.expr f (bare_expr e)) ▸ layout.looping f (bare_expr t) recursive has_else body)
      (marks.looped_over f t e only ⟫ marks.target f t ⟫ g ⟫ here 1 ⟫ marks.popping has_else) (looped_looks f r t e only ++ (target_looks f r t ++ ls))
  fits_each_turn r t e absent recursive has_else body a = fits_over r t e recursive has_else body a
  fits_each_turn r t e (present c) recursive has_else body a = fits_then (fits_passing r t e c) (fits_turned r t recursive has_else body a)

  outs_quiet_end : {X : Type 0} {r : List Span} {p : Leading X C} {g : Marking} {ls : List Look} → FitsOut r p g ls → FitsOut r (p ▹ plain nothing) (g ⟫ nowhere_else) (ls ++ [])
  outs_quiet_end a = outs_then a (fits_plain fits_nothing)

  -- a test, and the body where it is true; and the other body
  fit_test : (r : List Span) (e : Expr C) (h : Here) (n : ℕ) (t : Margin) → Fit r ((layout.expr f (bare_expr e)).code h ++ JumpIfFalse n ∷ []) t (within (span_of e) (marks.expr f e ⟫ here 1) t) (looks f (span_of e ∷ r) e)
  fit_test r e h n t =
      let s = span_of e in
      let u = record t { line = s.start_line; span = s } in
      let v = marks.expr f e u in
      fit_within s (fit_quiet ((fits_expr f (s ∷ r) e).fits h u) (fit_one (JumpIfFalse n) (mark_now v) v refl))

  outs_if : (r : List Span) (e : Expr C) {p : Leading Exits C} {g : Marking} {ls : List Look} → FitsOut r p g ls → FitsOut r (plain (layout.expr f (bare_expr e)) ▹ skipping_out JumpIfFalse p) (within (span_of e) (marks.expr f e ⟫ here 1) ⟫ g) (looks f (span_of e ∷ r) e ++ (ls ++ []))
  outs_if r e {p} {g} {ls} a = record {
    fits = λ x h t.
        let h1 = behind 1 ((layout.expr f (bare_expr e)).past h) in
        let n = (p.past h1).place in
        let u = within (span_of e) (marks.expr f e ⟫ here 1) t in
        fit_moved ((layout.expr f (bare_expr e)).code h) (JumpIfFalse n ∷ []) (p.code x h1)
        (fit_then (fit_test r e h n t) (subst (λ ks. Fit r (p.code x h1) u (g u) ks) (sym (append_nil ls)) (a.fits x h1 u)));
  }

  outs_either : (r : List Span) (e : Expr C) {p q : Leading Exits C} {g k : Marking} {ls ks : List Look} → FitsOut r p g ls → FitsOut r q k ks → FitsOut r (plain (layout.expr f (bare_expr e)) ▹ branches_out p q) (within (span_of e) (marks.expr f e ⟫ here 1) ⟫ g ⟫ here 1 ⟫ k) (looks f (span_of e ∷ r) e ++ (ls ++ ks))
  outs_either r e {p} {q} {g} {k} a b = record {
    fits = λ x h t.
        let h1 = behind 1 ((layout.expr f (bare_expr e)).past h) in
        let other = behind 1 (p.past h1) in
        let jump = (q.past other).place in
        let u = within (span_of e) (marks.expr f e ⟫ here 1) t in
        let v = g u in
        fit_moved ((layout.expr f (bare_expr e)).code h) (JumpIfFalse other.place ∷ []) (p.code x h1 ++ Jump jump ∷ q.code x other)
        (fit_then (fit_test r e h other.place t) (fit_then (a.fits x h1 u) (fit_more (Jump jump) (mark_now v) refl (b.fits x other (here 1 v)))));
  }

  -- the arguments of a call that takes a macro along
  fits_with : (r : List Span) (args : Args C) (n : ℕ) {p : Piece C} {g : Marking} {ls : List Look} → Fits r p g ls → Fits r (layout.arguments_with f (bare_args args) n p) (marks.arguments_with f args n g) ((positional_looks f r args ++ keyword_looks f r args) ++ ls)
  fits_with r args n a = fits_then (fits_then (fits_positional f r args n) (fits_end _ refl (fits_keyword f r args 0))) (fits_quiet a (fits_quiet (fits_merged _ _) (fits_spreading _ _)))

  mutual
    pub fits_stmt : (r : List Span) (os : List Open) (s : Stmt C) → FitsOut r (layout.stmt f os (bare_stmt s)) (marks.stmt f os s) (stmt_looks f r s)
    fits_stmt r os (template ss s) = outs_on s (fits_stmts r os ss)
    fits_stmt r os (data_text t s) = fits_plain (fits_data r t s)
    fits_stmt r os (output e s) = fits_plain (fits_write r e)
    fits_stmt r os (assignment t e s) = fits_plain (fits_on s (fits_then (fits_expr f r e) (fits_target r t)))
    fits_stmt r os (for_loop t e only recursive body done s) = outs_on s (outs_quiet_end (fits_plain (fits_each_turn r t e only recursive false _ (fits_stmts r [] body))))
    fits_stmt r os (for_loop t e only recursive body (also first rest) s) = outs_on s (outs_then (fits_plain (fits_each_turn r t e only recursive true _ (fits_stmts r [] body))) (outs_skipping (outs_then (fits_stmt r os first) (fits_stmts r os rest))))
    fits_stmt r os (if_cond e true_body done s) = outs_on s (outs_if r e (fits_stmts r os true_body))
    fits_stmt r os (if_cond e true_body (also first rest) s) = outs_on s (outs_either r e (fits_stmts r os true_body) (outs_then (fits_stmt r os first) (fits_stmts r os rest)))
    fits_stmt r os (with_block ts body s) = outs_on s (outs_then (fits_plain (fits_then (fits_here _ refl) (fits_assigned r ts))) (outs_end (fits_stmts r (OpenScope ∷ os) body) (fits_plain (fits_here _ refl))))
    fits_stmt r os (set_block t chain body s) = outs_on s (outs_then (fits_plain (fits_here _ refl)) (outs_then (fits_stmts r (OpenCapture ∷ os) body) (fits_plain (fits_then (fits_here _ refl) (fits_then (fits_filters r chain) (fits_target r t))))))
    fits_stmt r os (auto_escape e body s) = outs_on s (outs_then (fits_plain (fits_end _ refl (fits_expr f r e))) (outs_end (fits_stmts r (OpenAutoEscape ∷ os) body) (fits_plain (fits_here _ refl))))
    fits_stmt r os (filter_block chain body s) = outs_on s (outs_then (fits_plain (fits_here _ refl)) (outs_then (fits_stmts r (OpenCapture ∷ os) body) (fits_plain (fits_then (fits_here _ refl) (fits_end _ refl (fits_expr f r chain))))))
    fits_stmt r os (named_block x required body s) = fits_plain (fits_on s (fits_here _ refl))
    fits_stmt r os (extends e s) = fits_plain (fits_on s (fits_end_alone s _ refl (fits_expr f r e)))
    fits_stmt r os (include e ignore s) = fits_plain (fits_on s (fits_end_alone s _ refl (fits_expr f r e)))
    fits_stmt r os (import_all e t s) = fits_plain (fits_then (fits_then (fits_here _ refl) (fits_then (fits_here _ refl) (fits_end_alone s _ refl (fits_expr f r e)))) (fits_then (fits_here _ refl) (fits_then (fits_here _ refl) (fits_then (fits_here _ refl) (fits_then (fits_here _ refl) (fits_target r t))))))
    fits_stmt r os (from_import e names s) = fits_plain (fits_then (fits_then (fits_here _ refl) (fits_then (fits_here _ refl) (fits_end_alone s _ refl (fits_expr f r e)))) (fits_then (fits_imported r names) (fits_then (fits_here _ refl) (fits_quiet (fits_stored r names) (fits_then (fits_here _ refl) (fits_here _ refl))))))
    fits_stmt r os (declare m) = fits_plain (fits_end _ refl (fits_macro r m))
    fits_stmt r os (call_block e args from m s) = fits_plain (fits_end _ refl (fits_within (fits_called (callee (bare_expr e)) _ (fits_base f (from ∷ r) e) (fits_expr f (from ∷ r) e) (λ n. fits_with (from ∷ r) args n (fits_macro (from ∷ r) m)))))
    fits_stmt r os (do_call e args from s) = fits_plain (fits_end _ refl (fits_expr f r (call e args from)))
    fits_stmt r os (break_loop s) = outs_on s (record { fits = λ x h t. fit_quiet (outs_closing os t) (fit_one _ (mark_now (here (closing_count os) t)) (here (closing_count os) t) refl) })
    fits_stmt r os (continue_loop s) = outs_on s (record { fits = λ x h t. fit_quiet (outs_closing os t) (fit_one _ (mark_now (here (closing_count os) t)) (here (closing_count os) t) refl) })

    pub fits_stmts : (r : List Span) (os : List Open) (ss : Stmts C) → FitsOut r (layout.stmts f os (bare_stmts ss)) (marks.stmts f os ss) (stmts_looks f r ss)
    fits_stmts r os done = fits_plain fits_nothing
    fits_stmts r os (also s rest) = outs_then (fits_stmt r os s) (fits_stmts r os rest)

    pub fits_macro : (r : List Span) (m : Macro C) → Fits r (layout.macro_value f (bare_macro m)) (marks.macro_value f m) (macro_looks f r m)
    fits_macro r (macro x args defaults body s) = record {
      fits = λ h t.
          let taking : Fits r (layout.taking f (bare.parameters (bare_list args) (bare_list defaults))) (marks.taking f (reverse args) (reverse defaults)) (taken_looks f r (reverse args) (reverse defaults)) =
          subst (λ ds. Fits r (layout.taking f (bare.defaulted (reverse (bare_list args)) ds)) (marks.taking f (reverse args) (reverse defaults)) (taken_looks f r (reverse args) (reverse defaults))) (sym (bare_reverse defaults))
          (subst (λ es. Fits r (layout.taking f (bare.defaulted es (bare_list (reverse defaults)))) (marks.taking f (reverse args) (reverse defaults)) (taken_looks f r (reverse args) (reverse defaults))) (sym (bare_reverse args)) (fits_taken r (reverse args) (reverse defaults))) in
          (fits_on s (fits_quiet (fits_skipping Jump (λ n. refl) (fits_then taking (fits_end Return refl (fits_leading _ (fits_stmts r [] body)))))
          (fits_quiet (fits_names (enclosed (bare_macro (macro x args defaults body s)))) (fits_then (fits_here _ refl) (fits_then (fits_here _ refl) (fits_here (BuildMacro x (behind 1 h).place _) refl)))))).fits h t;
    }

  -- the marks of whole lists

  pub template_marks_are : (s : Stmt C) → AreMarksOf (layout.stmt_code f (bare_stmt s) start) (marks.stmt_marks f s) (stmt_looks f [] s)
  template_marks_are s =
      let a = (fits_stmt [] [] s).fits outside start marks.start in
      record { as_many = a.as_many ∙ ap length (sym a.marks); seen = subst (λ ms. AreSeen (sights (layout.stmt_code f (bare_stmt s) start) ms) (stmt_looks f [] s)) (sym a.marks) (a.seen (inl refl)) }

  pub block_marks_are : (at : Span) (ss : Stmts C) → AreMarksOf (layout.block_code f (bare_stmts ss)) (marks.block_marks f at ss) (stmts_looks f [] ss)
  block_marks_are at ss =
      let a = (fits_stmts [] [] ss).fits outside start (on_line at marks.start) in
      record { as_many = a.as_many ∙ ap length (sym a.marks); seen = subst (λ ms. AreSeen (sights (layout.block_code f (bare_stmts ss)) ms) (stmts_looks f [] ss)) (sym a.marks) (a.seen (inl refl)) }

  pub expr_marks_are : (e : Expr C) → AreMarksOf (layout.expr_code f (bare_expr e) start) (marks.expr_marks f e) (looks f [] e)
  expr_marks_are e =
      let a = (fits_expr f [] e).fits start marks.start in
      record { as_many = a.as_many ∙ ap length (sym a.marks); seen = subst (λ ms. AreSeen (sights (layout.expr_code f (bare_expr e) start) ms) (looks f [] e)) (sym a.marks) (a.seen (inl refl)) }
