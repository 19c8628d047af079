-- How the parts of statements are marked while their code is being made.
use Rattle.std.proofs.Common.{◌≡◌, ℕ, ◌+◌, ◌<◌, ◌≤◌, List, [], ◌∷◌, ◌++◌, length, map, drop, get_or, Option, Some, None, Result, Ok, Err, refl, sym, ap, ◌∙◌, subst, arith}
use Rattle.std.specs.Prelude.{◌==◌, OnOk, Bool, true, false, cond, not, reverse, bytes_eq}
use Rattle.std.specs.Borrow.{Bor}
use Rattle.std.proofs.lemmas.List.{at_drop_more, at_drop_all, map-append, reverse-append}
use Rattle.std.proofs.lemmas.List.Elements.{filter-append}
use Rattle.minijinja_syntax.specs.Texts.{Text}
use Rattle.minijinja_syntax.specs.declared.tokens.Span.{Span}
use Rattle.minijinja_value.specs.Values.{Functions}
use Rattle.minijinja_tree.specs.FreeNames.{closure}
use Rattle.minijinja_tree.specs.Tree.{Macro}
use Rattle.minijinja_tree.specs.SpannedErasure.{expr_node, optional_of, names_of, trees}
use Rattle.minijinja_tree.specs.SpannedTrees.{Expr, Optional, absent, call, exprs_of, present}
use Rattle.minijinja_tree.specs.Nodes as nodes
use Rattle.minijinja_tree.specs.Nodes.{node_of}
use Rattle.minijinja_tree_expr.specs.ExprSpans.{expr_span}
use Rattle.minijinja_tree_expr.specs.declared.ast.CallArg.TheBlock as block
use Rattle.minijinja_tree_expr.specs.declared.ast.Expr.{Expr as Node}
use Rattle.minijinja_tree_expr.specs.declared.ast.Expr.TheVariants as node
use Rattle.minijinja_tree_expr.specs.declared.ast.List.{List as ListNode}
use Rattle.minijinja_tree_expr.specs.declared.ast.Spanned.{Spanned}
use Rattle.minijinja_tree_expr.proofs.NodeRows.{list_is}
use Rattle.minijinja_tree_expr.specs.declared.ast.Expr.TheVariants.{Var, Const, GetAttr', Slice', UnaryOp', BinOp', Compare', IfExpr', Filter', Test', GetItem', Call', List', Tuple', Map'}
use Rattle.minijinja_semantics.specs.Marks.{Margin, Marking, ◌⟫◌, again, alone_at, at_span, on_line, unmarked, arguments_of, closing_count, expr, here, looped_over, positional, span_of, stored_as, storing_back, taking, target, targets, within}
use Rattle.minijinja_semantics.specs.Macros.{caller, enclosed}
use Rattle.minijinja_semantics.specs.Pieces.{Piece, Open, OpenScope, OpenAutoEscape, OpenCapture}
use Rattle.minijinja_instructions.proofs.Running.{last-pushed}
use Rattle.minijinja_emitter.specs.internal.Making.{Made, Adds}
use Rattle.minijinja_emitter.specs.internal.Margins.{closed, opened}
use Rattle.minijinja_code_expr.specs.declared.output.Output.{Output}
use Rattle.minijinja_code_expr.specs.declared.output.Output.TheVariants.{Recursion}
use Rattle.minijinja_code_expr.specs.internal.Outputs.{ItemsAre, arguments_in}
use Rattle.minijinja_code_parts.specs.declared.enclosing_loop.Open as kind
use Rattle.minijinja_code_parts.specs.internal.AtEnclosingLoop.{open_of}
use Rattle.minijinja_code_parts.specs.private.LoopMarks.{begun, items_marks}
use Rattle.minijinja_code_parts.specs.internal.Macros.{before_last, left_of}
use Rattle.minijinja_code_parts.specs.internal.MacroMarks.{TakesMarks}
use Rattle.minijinja_code_parts.proofs.MacroParts.{gone_through, kept}

-- what is marked if a call succeeded
pub ok_marked : {A E : Type 0} (r : Result A E) (z : Margin) {a b : Margin} → b ≡ a → OnOk r (z ≡ b) → OnOk r (z ≡ a)
ok_marked (Ok x) z e s = s ∙ e
ok_marked (Err x) z e s = tt

-- ---- lists

module _ {X : Type 0} (G : List X → Marking) (step : X → Marking) where
  -- one element is marked, and the rest is left
  pub marked_next : ((y : X) (ys : List X) (t : Margin) → G (y ∷ ys) t ≡ G ys (step y t)) → (xs : List X) (i : ℕ) (x : X) (m n : Margin) {w : Margin} → i < length xs → x ≡ get_or xs i x → n ≡ step x m → G (drop i xs) m ≡ w → G (drop (i + 1) xs) n ≡ w
  marked_next opens xs i x m n within at made left =
      let rest : Marking = G (drop (i + 1) xs) in
      ap rest made ∙ ap (λ y. rest (step y m)) at ∙ sym (opens (get_or xs i x) (drop (i + 1) xs) m) ∙ sym (ap (λ (g : Marking). g m) (at_drop_more G xs i x within)) ∙ left

module _ {X : Type 0} (G : List X → Marking) where
  pub marked_end : ((t : Margin) → G [] t ≡ t) → (xs : List X) (i : ℕ) (m : Margin) {w : Margin} → length xs ≤ i → G (drop i xs) m ≡ w → m ≡ w
  marked_end none xs i m past left = sym (none m) ∙ sym (ap (λ (g : Marking). g m) (at_drop_all G xs i past)) ∙ left

-- ---- spans

module _ {V F C : Type 0} (c : V → C) where
  comparison_span : (q : block.the_data-4 V F) (p s : _) → expr_span (Compare' p q s) ≡ span_of (expr_node c (Compare' p q s))
  comparison_span (block.struct-Compare e k ops) p s = refl

  -- where an expression stands
  pub span_is : (e : Node V F) → expr_span e ≡ span_of (expr_node c e)
  span_is (Compare' p q s) = comparison_span q p s
  span_is (Var s) = refl
  span_is (Const s) = refl
  span_is (GetAttr' p e n s) = refl
  span_is (Slice' p e start stop step s) = refl
  span_is (UnaryOp' p op e s) = refl
  span_is (BinOp' p op l r s) = refl
  span_is (IfExpr' p t e f s) = refl
  span_is (Filter' p name e k args s) = refl
  span_is (Test' p name e k args s) = refl
  span_is (GetItem' p e i s) = refl
  span_is (Call' p e k args s) = refl
  span_is (List' p k items s) = refl
  span_is (Tuple' p k items s) = refl
  span_is (Map' p k keys l values s) = refl

-- a span was opened, something was marked, and the span was closed again
pub within_made : (g : Marking) (a : Margin) {s s' outer : Span} {b m z : Margin} → s' ≡ s → outer ≡ a.span → b ≡ opened s' a → m ≡ g b → z ≡ closed outer m → z ≡ within s g a
within_made g a {s} {s'} {outer} {b} {m} es eo eb em ez =
    ez ∙ ap (λ o. closed o m) eo ∙ ap (closed a.span) (em ∙ ap g eb ∙ ap (λ x. g (opened x a)) es)

same_line : (n : ℕ) → (n == n) ≡ true
same_line n = grind arith

-- two instructions within a span that begins on the line in force
pub twice_within : (s : Span) (m : Margin) → again (alone_at s (on_line s m)) ≡ within s (on_line s ⟫ here 1 ⟫ here 1) m
twice_within s m = rw (same_line s.start_line, last-pushed unmarked m.marks (at_span s)) refl

module _ {C F : Type 0} (f : Functions C F) where
  -- the items of a loop that pass a test
  pub items_made : (t e only : Expr C) (m : Margin) {a b b' d x z : Margin} {s s' outer : Span} → a ≡ here 1 m → outer ≡ a.span → s ≡ span_of e → b ≡ opened s a → b' ≡ expr f e b → s' ≡ span_of only → d ≡ opened s' b' → x ≡ here 6 (expr f only (target f t (here 3 d))) → z ≡ closed outer x →
      here 3 z ≡ items_marks f t e (present only) m
  items_made t e only m {a} {b} {b'} {d} {x} {z} ea eo es eb eb' es' ed ex ez =
      let passing : Marking = λ k. here 6 (expr f only (target f t (here 3 k))) in
      let items : b' ≡ expr f e (opened (span_of e) a) = eb' ∙ ap (expr f e) (eb ∙ ap (λ k. opened k a) es) in
      let tested : x ≡ passing (opened (span_of only) (expr f e (opened (span_of e) a))) = ex ∙ ap passing (ed ∙ ap (λ k. opened k b') es' ∙ ap (opened (span_of only)) items) in
      ap (here 3) (ez ∙ ap (λ k. closed k x) eo ∙ ap (closed a.span) tested)
      ∙ ap (λ k. here 3 (closed k.span (passing (opened (span_of only) (expr f e (opened (span_of e) k)))))) ea

  began : (t e : Expr C) (only : Optional C) (m : Margin) → begun f t m.span (items_marks f t e only m) ≡ target f t (looped_over f t e only m)
  began t e absent m = refl
  began t e (present k) m = refl

  -- a loop up to its body
  looping : {outer : Span} (t e : Expr C) (only : Optional C) (m : Margin) → outer ≡ m.span → begun f t outer (items_marks f t e only m) ≡ target f t (looped_over f t e only m)
  looping t e only m at = ap (λ o. begun f t o (items_marks f t e only m)) at ∙ began t e only m

  pub began_over : {A E : Type 0} (r : Result A E) (t e : Expr C) (only : Optional C) (m z : Margin) {outer : Span} {x : Margin} → outer ≡ m.span → x ≡ items_marks f t e only m → OnOk r (z ≡ begun f t outer x) → OnOk r (z ≡ target f t (looped_over f t e only m))
  began_over (Ok v) t e only m z {outer} at given is = is ∙ ap (begun f t outer) given ∙ looping t e only m at
  began_over (Err v) t e only m z at given is = tt

-- what changes nothing that was made

module _ {C : Type 0} where
  pub adds_from : {a b c : Made C} (p : Piece C) → b ≡ a → Adds b c p → Adds a c p
  adds_from {c = c} p e s = subst (λ k. Adds k c p) e s

  pub adds_to : {a b c : Made C} (p : Piece C) → c ≡ b → Adds a b p → Adds a c p
  adds_to {a} p e s = subst (λ k. Adds a k p) (sym e) s

-- ---- targets

-- a list of targets
pub list_marked : {V K C F : Type 0} (f : Functions C F) (v : V → C) (e : Node V K) (s : Spanned (ListNode V K)) (n : ListNode V K) (xs : List (Node V K)) (at : Span) (m : Margin) {z : Margin} → e ≡ node.List s → n ≡ node_of s → at ≡ nodes.span_of s → xs ≡ n.items.items →
    z ≡ within at (λ t. targets f (exprs_of (trees v xs)) (here 1 t)) m → z ≡ target f (expr_node v e) m
list_marked {V} {K} f v e s n xs at m is same_node same_span same made =
    made ∙ ap (λ (ys : List (Node V K)). within at (λ t. targets f (exprs_of (trees v ys)) (here 1 t)) m) same
    ∙ ap (λ k. target f k m) (sym (ap (expr_node v) is ∙ list_is v s n at (sym same_node) (sym same_span)))

-- ---- the items of a recursion

arguments_marked : {C F : Type 0} (f : Functions C F) (e : Expr C) (t : Margin) → arguments_of f e t ≡ positional f (arguments_in e) 0 t
arguments_marked f (call e args s) t = refl
arguments_marked f _ t = refl

pub items_marked : {V K C F : Type 0} (v : V → C) (f : Functions C F) (o : Output V K) (e : Bor (Node V K)) (n : Expr C) (t : Margin) → o ≡ Recursion e → ItemsAre v o (arguments_in n) → arguments_of f n t ≡ expr f (expr_node v e.now) t
items_marked {V} {K} v f o e n t is w =
    arguments_marked f n t ∙ ap (λ args. positional f args 0 t) (subst (λ (p : Output V K). ItemsAre v p (arguments_in n)) is w)

-- ---- what is closed

closing_more : (os more : List Open) (t : Margin) → here (closing_count (os ++ more)) t ≡ here (closing_count more) (here (closing_count os) t)
closing_more [] more t = refl
closing_more (OpenScope ∷ os) more t = closing_more os more (here 1 t)
closing_more (OpenAutoEscape ∷ os) more t = closing_more os more (here 1 t)
closing_more (OpenCapture ∷ os) more t = closing_more os more (here 2 t)

-- one more is closed
pub closing_next : (kinds : List (Bor kind.Open)) (o : Bor kind.Open) (a : Margin) {b c : Margin} → b ≡ here (closing_count (map open_of (map (λ k. k.now) kinds))) a → c ≡ here (closing_count (open_of o.now ∷ [])) b → c ≡ here (closing_count (map open_of (map (λ k. k.now) (kinds ++ o ∷ [])))) a
closing_next kinds o a {b} {c} s t =
    let before : List Open = map open_of (map (λ (k : Bor kind.Open). k.now) kinds) in
    let all : map open_of (map (λ (k : Bor kind.Open). k.now) (kinds ++ o ∷ [])) ≡ before ++ open_of o.now ∷ [] =
    ap (map open_of) (map-append (λ (k : Bor kind.Open). k.now) kinds (o ∷ [])) ∙ map-append open_of (map (λ (k : Bor kind.Open). k.now) kinds) (o.now ∷ []) in
    t ∙ ap (here (closing_count (open_of o.now ∷ []))) s ∙ sym (closing_more before (open_of o.now ∷ []) a) ∙ ap (λ os. here (closing_count os) a) (sym all)

pub closing_one : (o k : Open) (n : ℕ) (b : Margin) {c : Margin} → o ≡ k → closing_count (k ∷ []) ≡ n → c ≡ here n b → c ≡ here (closing_count (o ∷ [])) b
closing_one o k n b is count s = s ∙ ap (λ m. here m b) (sym count) ∙ ap (λ p. here (closing_count (p ∷ [])) b) (sym is)

-- ---- names that a macro takes along

enclosing_more : (xs ys : List Text) (t : Margin) → here (length (xs ++ ys)) t ≡ here (length ys) (here (length xs) t)
enclosing_more [] ys t = refl
enclosing_more (x ∷ xs) ys t = enclosing_more xs ys (here 1 t)

kept_more : (ys : List (Bor (Bor Text))) (k : Bor (Bor Text)) → kept (gone_through (ys ++ k ∷ [])) ≡ kept (gone_through ys) ++ kept (k.now.now ∷ [])
kept_more ys k = ap kept (map-append (λ (b : Bor (Bor Text)). b.now.now) ys (k ∷ [])) ∙ filter-append (λ x. not (bytes_eq x caller)) (gone_through ys) (k.now.now ∷ [])

enclosing_next : (ys : List (Bor (Bor Text))) (k : Bor (Bor Text)) (a : Margin) {b c : Margin} → b ≡ here (length (kept (gone_through ys))) a → c ≡ here (length (kept (k.now.now ∷ []))) b → c ≡ here (length (kept (gone_through (ys ++ k ∷ [])))) a
enclosing_next ys k a s t =
    t ∙ ap (here (length (kept (k.now.now ∷ [])))) s ∙ sym (enclosing_more (kept (gone_through ys)) (kept (k.now.now ∷ [])) a) ∙ ap (λ xs. here (length xs) a) (sym (kept_more ys k))

pub marked_other : (ys : List (Bor (Bor Text))) (k : Bor (Bor Text)) (is_caller : Bool) (a : Margin) {b c : Margin} → is_caller ≡ bytes_eq k.now.now caller → is_caller ≡ false → b ≡ here (length (kept (gone_through ys))) a → c ≡ here 1 b → c ≡ here (length (kept (gone_through (ys ++ k ∷ [])))) a
marked_other ys k is_caller a {b} at is s t =
    enclosing_next ys k a s (t ∙ ap (λ (t : Bool). here (length (cond (not t) (k.now.now ∷ []) [])) b) (sym is ∙ at))

pub marked_enclosed : {C L : Type 0} (m : Macro C L) (a : Margin) {b : Margin} (xs : List Text) → xs ≡ closure m → b ≡ here (length (kept xs)) a → b ≡ here (length (enclosed m)) a
marked_enclosed m a xs e s = s ∙ ap (λ ys. here (length (kept ys)) a) e

-- ---- names that an import stores

module _ {C F : Type 0} (f : Functions C F) where
  storing_last : (ns : List (Expr C × Optional C)) (n : Expr C × Optional C) (t : Margin) → storing_back f (ns ++ n ∷ []) t ≡ storing_back f ns (target f (stored_as n) t)
  storing_last [] n t = refl
  storing_last (m ∷ ns) n t = ap (target f (stored_as m)) (storing_last ns n t)

-- what is left of a list, of which the last one was taken off
abbrev Left : Type 0 → Type 0
Left X = Option (Bor X × Bor (List X))

-- a name with its alias, if it has one
abbrev Name : Type 0 → Type 0 → Type 0
Name V K = Node V K × Option (Node V K)

module _ {V K C F : Type 0} (v : V → C) (f : Functions C F) where
  abbrev name_of : Name V K → Expr C × Optional C
  name_of n = (expr_node v n.0, optional_of v n.1)

  -- the last name is marked, and those before it are left
  pub storing_next : (o o' : Left (Name V K)) (p : Bor (Name V K) × Bor (List (Name V K))) (m n : Margin) {w : Margin} → o ≡ Some p → left_of o' ≡ p.1.now → n ≡ target f (stored_as (name_of p.0.now)) m → storing_back f (names_of v (left_of o)) m ≡ w → storing_back f (names_of v (left_of o')) n ≡ w
  storing_next o o' p m n is e made left =
      let before : List (Expr C × Optional C) = names_of v p.1.now in
      ap (λ (xs : List (Name V K)). storing_back f (names_of v xs) n) e
      ∙ ap (storing_back f before) made
      ∙ sym (storing_last f before (name_of p.0.now) m)
      ∙ sym (ap (λ (q : Left (Name V K)). storing_back f (names_of v (left_of q)) m) is ∙ ap (λ ns. storing_back f ns m) (map-append name_of p.1.now (p.0.now ∷ [])))
      ∙ left

  pub storing_end : (o : Left (Name V K)) (m : Margin) {w : Margin} → o ≡ None → storing_back f (names_of v (left_of o)) m ≡ w → m ≡ w
  storing_end o m is left = sym (ap (λ (q : Left (Name V K)). storing_back f (names_of v (left_of q)) m) is) ∙ left

-- ---- arguments of a macro

module _ {V K C F : Type 0} (v : V → C) (f : Functions C F) where
  reversed_last : (xs : List (Node V K)) (x : Node V K) → reverse (trees v (xs ++ x ∷ [])) ≡ expr_node v x ∷ reverse (trees v xs)
  reversed_last xs x = ap reverse (map-append (expr_node v) xs (x ∷ [])) ∙ reverse-append (trees v xs) (expr_node v x ∷ [])

  -- an argument with a default, and one without
  pub marked_default : (o : Left (Node V K)) (p : Bor (Node V K) × Bor (List (Node V K))) (e : Expr C) (a b c : Margin) → o ≡ Some p → b ≡ expr f (expr_node v p.0.now) (here 4 a) → c ≡ target f e b → TakesMarks f e (trees v (left_of o)) (trees v (before_last o)) a c
  marked_default o p e a b c is s t =
      subst (λ (q : Left (Node V K)). TakesMarks f e (trees v (left_of q)) (trees v (before_last q)) a c) (sym is)
      (λ before. ap (taking f before (reverse (trees v p.1.now))) (t ∙ ap (target f e) s) ∙ ap (λ ds. taking f (e ∷ before) ds a) (sym (reversed_last p.1.now p.0.now)))

  pub marked_alone : (o : Left (Node V K)) (e : Expr C) (a c : Margin) → o ≡ None → c ≡ target f e a → TakesMarks f e (trees v (left_of o)) (trees v (before_last o)) a c
  marked_alone o e a c is t =
      subst (λ (q : Left (Node V K)). TakesMarks f e (trees v (left_of q)) (trees v (before_last q)) a c) (sym is) (λ before. ap (taking f before []) t)

  -- the last argument is marked, and those before it are left
  pub taking_next : (o o' d d' : Left (Node V K)) (p : Bor (Node V K) × Bor (List (Node V K))) (m n : Margin) {w : Margin} → o ≡ Some p → left_of o' ≡ p.1.now → left_of d' ≡ before_last d → TakesMarks f (expr_node v p.0.now) (trees v (left_of d)) (trees v (before_last d)) m n →
      taking f (reverse (trees v (left_of o))) (reverse (trees v (left_of d))) m ≡ w → taking f (reverse (trees v (left_of o'))) (reverse (trees v (left_of d'))) n ≡ w
  taking_next o o' d d' p m n is e k t left =
      ap (λ (xs : List (Node V K)). taking f (reverse (trees v xs)) (reverse (trees v (left_of d'))) n) e
      ∙ ap (λ (ds : List (Node V K)). taking f (reverse (trees v p.1.now)) (reverse (trees v ds)) n) k
      ∙ t (reverse (trees v p.1.now))
      ∙ sym (ap (λ (q : Left (Node V K)). taking f (reverse (trees v (left_of q))) (reverse (trees v (left_of d))) m) is ∙ ap (λ es. taking f es (reverse (trees v (left_of d))) m) (reversed_last p.1.now p.0.now))
      ∙ left

  pub taking_end : (o : Left (Node V K)) (ds : List (Expr C)) (m : Margin) {w : Margin} → o ≡ None → taking f (reverse (trees v (left_of o))) ds m ≡ w → m ≡ w
  taking_end o ds m is left = sym (ap (λ (q : Left (Node V K)). taking f (reverse (trees v (left_of q))) ds m) is) ∙ left
