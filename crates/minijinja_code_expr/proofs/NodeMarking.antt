-- The marks of a node are those up to its leading operand, and then what finishes the node.
use Rattle.std.proofs.Common.{◌≡◌, ℕ, ◌≤◌, List, [], ◌++◌, length, take, Option, Some, None, refl, sym, ap, ◌∙◌, arith, append_assoc}
use Rattle.std.proofs.lemmas.List.{take-append-le, take_all}
use Rattle.minijinja_syntax.specs.declared.tokens.Span.{Span}
use Rattle.minijinja_value.specs.Values.{Functions}
use Rattle.minijinja_tree.specs.Callees.{Callee, function, method, block, object, callee}
use Rattle.minijinja_tree.specs.Folding.{fold}
use Rattle.minijinja_tree_expr.specs.Tree.{UnaryOp, logical_not, negation}
use Rattle.minijinja_tree.specs.SpannedTrees.{Expr, variable, constant, slice, unary, binary, compare, if_expr, filter, test, attribute, item, call, list, tuple, map, Optional, absent, present, Exprs, no_more, more, bare_expr}
use Rattle.minijinja_semantics.specs.Marks.{Mark, Margin, Marking, here, on_line, ◌⟫◌, within, folded, loaded, unary_operator, optional, items, each, paired, expr, base, call_of}
use Rattle.minijinja_semantics.specs.Pieces.{start}
use Rattle.minijinja_emitter.specs.declared.emit.Site.{Site}
use Rattle.minijinja_emitter.specs.internal.Margins.{closed, opened, replaced}
use Rattle.minijinja_code_expr.specs.internal.NodeMarks.{base_node, begun, called_on_node, call_ending, finished, given_marks, leading_node, site_of, taken_back, test_node}
use Rattle.minijinja_semantics.proofs.Fitting.{fits_expr}

-- marks were added
pub record Later (t u : Margin) : Type 0 where
  pub more : List Mark
  pub marks : u.marks ≡ t.marks ++ more

pub later_then : {t u v : Margin} → Later t u → Later u v → Later t v
later_then {t} {u} {v} a b = record { more = a.more ++ b.more; marks = b.marks ∙ ap (λ (l : List Mark). l ++ b.more) a.marks ∙ append_assoc t.marks a.more b.more }

pub later_here : (t : Margin) → Later t (here 1 t)
later_here t = record { more = _; marks = refl }

-- what is taken back is what was added
pub taken_before : {t u : Margin} (place : ℕ) → Later t u → place ≤ length t.marks → take place u.marks ≡ take place t.marks
taken_before {t} {u} place a within = ap (take place) a.marks ∙ take-append-le place t.marks a.more within

pub replaced_later : {t u : Margin} (place : ℕ) (site : Site) → Later t u → place ≤ length t.marks → replaced place site u ≡ replaced place site t
replaced_later place site a within = ap (λ (ms : List Mark). here 1 (record { marks = ms; line = site.node.start_line; span = site.outer })) (taken_before place a within)

replaced_start : {t u : Margin} (place : ℕ) (s : Span) → Later t u → place ≡ length t.marks → replaced place (site_of s t.span) u ≡ here 1 (on_line s t)
replaced_start {t} {u} place s a at =
    ap (λ (ms : List Mark). here 1 (record { marks = ms; line = s.start_line; span = t.span }))
    (taken_before place a (omega (arith, at)) ∙ take_all place t.marks (omega (arith, at)))

-- a span that is open is opened again
pub closed_same : (u : Margin) (s : Span) → u.span ≡ s → closed s u ≡ u
closed_same u s e = ap (λ k. record u { span = k }) (sym e)

taken_whole : {C : Type 0} (o : Option C) (s : Span) (t u : Margin) (place : ℕ) (g h : Marking) → Later t u → place ≡ length t.marks → h u ≡ g t → taken_back o place (site_of s t.span) h u ≡ folded o s g t
unfolding taken_back folded
taken_whole None s t u place g h a at e = e
taken_whole (Some c) s t u place g h a at e = replaced_start place s a at

loaded_whole : {C : Type 0} (o : Option C) (s : Span) (t : Margin) (g : Marking) → (g (on_line s t)).span ≡ t.span → closed t.span (loaded o g (on_line s t)) ≡ folded o s (on_line s ⟫ g) t
unfolding loaded folded
loaded_whole None s t g e = closed_same (g (on_line s t)) t.span e
loaded_whole (Some c) s t g e = refl

module _ {C F : Type 0} (f : Functions C F) where
  pub expr_span : (e : Expr C) (t : Margin) → (expr f e t).span ≡ t.span
  expr_span e t = let k = (fits_expr f [] e).fits start t in k.span

  pub expr_later : (e : Expr C) (t : Margin) → Later t (expr f e t)
  expr_later e t = let k = (fits_expr f [] e).fits start t in record { more = k.more; marks = k.marks }

  optional_span : (o : Optional C) (t : Margin) → (optional f o t).span ≡ t.span
  optional_span absent t = refl
  optional_span (present e) t = expr_span e t

  items_span : (es : Exprs C) (t : Margin) → (items f es t).span ≡ t.span
  items_span no_more t = refl
  items_span (more e es) t = items_span es (expr f e t) ∙ expr_span e t

  paired_span : (ks vs : Exprs C) (t : Margin) → (paired (each f ks) (each f vs) t).span ≡ t.span
  paired_span no_more vs t = refl
  paired_span (more k ks) no_more t = refl
  paired_span (more k ks) (more v vs) t = paired_span ks vs (expr f v (expr f k t)) ∙ expr_span v (expr f k t) ∙ expr_span k t

  unary_span : (o : UnaryOp) (s : Span) (u : Margin) → (unary_operator o s u).span ≡ u.span
  unary_span logical_not s u = refl
  unary_span negation s u = refl

  based : (e x : Expr C) (u : Margin) → base_node e ≡ Some x → base f e u ≡ expr f x u
  based (attribute a y s) x u h = let same : a ≡ x = cc in ap (λ z. expr f z u) same
  based e x u h = absurd (cc)

  -- a call on its operand
  pub called_whole : (k : Callee C) (e x : Expr C) (g : ℕ → Marking) (u : Margin) → called_on_node k e ≡ Some x → call_ending k g (expr f x u) ≡ call_of k (base f e) (expr f e) g u
  called_whole (function y) e x g u h = absurd (cc)
  called_whole (block y) e x g u h = absurd (cc)
  called_whole (method o y) e x g u h = ap (λ w. here 1 (g 1 w)) (sym (based e x u h))
  called_whole (object o) e x g u h = let same : e ≡ x = cc in ap (λ z. here 1 (g 1 (expr f z u))) (sym same)

  -- and one on none
  pub called_alone : (k : Callee C) (e : Expr C) (g : ℕ → Marking) (u : Margin) → callee (bare_expr e) ≡ k → called_on_node k e ≡ None → call_ending k g u ≡ call_of k (base f e) (expr f e) g u
  called_alone (function y) e g u same h = refl
  called_alone (block y) e g u same h = refl
  called_alone (method o y) (attribute a z s) g u same h = absurd (cc)
  called_alone (method o y) (variable z s) g u same h = absurd (cc)
  called_alone (method o y) (constant z s) g u same h = absurd (cc)
  called_alone (method o y) (slice z i j l s) g u same h = absurd (cc)
  called_alone (method o y) (unary z a s) g u same h = absurd (cc)
  called_alone (method o y) (binary z a b s) g u same h = absurd (cc)
  called_alone (method o y) (compare z cs s) g u same h = absurd (cc)
  called_alone (method o y) (if_expr z a b s) g u same h = absurd (cc)
  called_alone (method o y) (filter z a args s) g u same h = absurd (cc)
  called_alone (method o y) (test z a args s) g u same h = absurd (cc)
  called_alone (method o y) (item z a s) g u same h = absurd (cc)
  called_alone (method o y) (call z args s) g u same h = absurd (cc)
  called_alone (method o y) (list zs s) g u same h = absurd (cc)
  called_alone (method o y) (tuple zs s) g u same h = absurd (cc)
  called_alone (method o y) (map zs vs s) g u same h = absurd (cc)
  called_alone (object o) e g u same h = absurd (cc)

  -- a node with a leading operand
  pub whole_plain : (e x : Expr C) (t : Margin) (place : ℕ) → test_node e ≡ None → leading_node e ≡ Some x → place ≡ length t.marks → finished f e place t.span (expr f x (begun e t)) ≡ expr f e t
  whole_plain (variable y s) x t place n h at = absurd (cc)
  whole_plain (constant c s) x t place n h at = absurd (cc)
  whole_plain (slice e i j k s) x t place n h at = let same : e ≡ x = cc in ap (λ y. finished f (slice e i j k s) place t.span (expr f y (opened s t))) (sym same)
  whole_plain (unary o e s) x t place n h at =
      let same : e ≡ x = cc in
      let u = expr f e (on_line s t) in
      ap (λ y. finished f (unary o e s) place t.span (expr f y (on_line s t))) (sym same)
      ∙ taken_whole (fold f (bare_expr (unary o e s))) s t u place (on_line s ⟫ expr f e ⟫ unary_operator o s) (unary_operator o s ⟫ closed t.span) (record { more = (expr_later e (on_line s t)).more; marks = (expr_later e (on_line s t)).marks }) at
      (closed_same (unary_operator o s u) t.span (unary_span o s u ∙ expr_span e (on_line s t)))
  whole_plain (binary o a b s) x t place n h at =
      let same : a ≡ x = cc in
      ap (λ y. finished f (binary o a b s) place t.span (expr f y (opened s t))) (sym same)
      ∙ taken_whole (fold f (bare_expr (binary o a b s))) s t (expr f a (opened s t)) place _ _ (record { more = (expr_later a (opened s t)).more; marks = (expr_later a (opened s t)).marks }) at refl
  whole_plain (compare e cs s) x t place n h at =
      let same : e ≡ x = cc in
      ap (λ y. finished f (compare e cs s) place t.span (expr f y (opened s t))) (sym same)
      ∙ taken_whole (fold f (bare_expr (compare e cs s))) s t (expr f e (opened s t)) place _ _ (record { more = (expr_later e (opened s t)).more; marks = (expr_later e (opened s t)).marks }) at refl
  whole_plain (if_expr c a b s) x t place n h at = absurd (cc)
  whole_plain (filter absent y args s) x t place n h at = absurd (cc)
  whole_plain (filter (present e) y args s) x t place n h at = let same : e ≡ x = cc in ap (λ z. finished f (filter (present e) y args s) place t.span (expr f z (opened s t))) (sym same)
  whole_plain (test e y args s) x t place n h at = let same : e ≡ x = cc in ap (λ z. finished f (test e y args s) place t.span (expr f z (opened s t))) (sym same)
  whole_plain (attribute e y s) x t place n h at = let same : e ≡ x = cc in ap (λ z. finished f (attribute e y s) place t.span (expr f z (opened s t))) (sym same)
  whole_plain (item e k s) x t place n h at = let same : e ≡ x = cc in ap (λ z. finished f (item e k s) place t.span (expr f z (opened s t))) (sym same)
  whole_plain (call e args s) x t place n h at = ap (closed t.span) (called_whole (callee (bare_expr e)) e x (given_marks f args) (opened s t) h)
  whole_plain (list es s) x t place n h at = absurd (cc)
  whole_plain (tuple es s) x t place n h at = absurd (cc)
  whole_plain (map ks vs s) x t place n h at = absurd (cc)

  -- an if expression, with its test and the jump of the test
  pub whole_tested : (e c x : Expr C) (t : Margin) (place : ℕ) → test_node e ≡ Some c → leading_node e ≡ Some x → finished f e place t.span (expr f x (here 1 (expr f c (begun e t)))) ≡ expr f e t
  whole_tested (if_expr c' a b s) c x t place n h =
      let test_is : c' ≡ c = cc in
      let same : a ≡ x = cc in
      let u = expr f c' (on_line s t) in
      let w = expr f a (here 1 u) in
      ap (λ y. finished f (if_expr c' a b s) place t.span (expr f x (here 1 (expr f y (on_line s t))))) (sym test_is)
      ∙ ap (λ y. finished f (if_expr c' a b s) place t.span (expr f y (here 1 u))) (sym same)
      ∙ closed_same (optional f b (here 1 w)) t.span (optional_span b (here 1 w) ∙ expr_span a (here 1 u) ∙ expr_span c' (on_line s t))
  whole_tested e c x t place n h = absurd (cc)

  -- a node without a leading operand
  pub whole_leaf : (e : Expr C) (t : Margin) (place : ℕ) → leading_node e ≡ None → finished f e place t.span (begun e t) ≡ expr f e t
  whole_leaf (variable y s) t place h = refl
  whole_leaf (constant c s) t place h = refl
  whole_leaf (slice e i j k s) t place h = absurd (cc)
  whole_leaf (unary o e s) t place h = absurd (cc)
  whole_leaf (binary o a b s) t place h = absurd (cc)
  whole_leaf (compare e cs s) t place h = absurd (cc)
  whole_leaf (if_expr c a b s) t place h = absurd (cc)
  whole_leaf (filter absent y args s) t place h = refl
  whole_leaf (filter (present e) y args s) t place h = absurd (cc)
  whole_leaf (test e y args s) t place h = absurd (cc)
  whole_leaf (attribute e y s) t place h = absurd (cc)
  whole_leaf (item e k s) t place h = absurd (cc)
  whole_leaf (call e args s) t place h = ap (closed t.span) (called_alone (callee (bare_expr e)) e (given_marks f args) (opened s t) refl h)
  whole_leaf (list es s) t place h = loaded_whole (fold f (bare_expr (list es s))) s t (items f es ⟫ here 1) (items_span es (on_line s t))
  whole_leaf (tuple es s) t place h = loaded_whole (fold f (bare_expr (tuple es s))) s t (items f es ⟫ here 1) (items_span es (on_line s t))
  whole_leaf (map ks vs s) t place h = loaded_whole (fold f (bare_expr (map ks vs s))) s t (paired (each f ks) (each f vs) ⟫ here 1) (paired_span ks vs (on_line s t))
