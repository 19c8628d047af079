-- Each line and each span of the marks is that of a node.
use Rattle.std.proofs.Common.{◌≡◌, ℕ, zero, suc, ◌==◌, ◌⊎◌, inl, inr, ◌++◌, List, [], ◌∷◌, Option, Some, None, length, refl, sym, ◌∙◌, subst}
use Rattle.std.specs.Prelude.{⊤, Bool, true, false, MatchOption, All, if◌then◌else◌, reverse}
use Rattle.std.proofs.lemmas.Bool.{eqb-true}
use Rattle.std.proofs.lemmas.List.{reverse-append}
use Rattle.std.proofs.lemmas.List.Elements.{All-head, All-nil, All-push, All-tail}
use Rattle.minijinja_syntax.specs.Streams.{SpannedTok}
use Rattle.minijinja_syntax.specs.declared.tokens.Span.{Span}
use Rattle.minijinja_value.specs.Values.{Functions}
use Rattle.minijinja_tree.specs.Callees.{Callee, function, method, block, object, callee}
use Rattle.minijinja_tree.specs.CompareOps.{CompareOp, eq, ne, lt, lte, gt, gte, is_in, not_in}
use Rattle.minijinja_tree.specs.Folding.{fold, constant_keywords, fold_keywords}
use Rattle.minijinja_tree.specs.Operators.{Working, Makes, Divides, IfTrue, IfFalse, working}
use Rattle.minijinja_tree_expr.specs.Tree.{UnaryOp, logical_not, negation}
use Rattle.minijinja_tree.specs.SpannedTrees.{Expr, variable, constant, slice, unary, binary, compare, if_expr, filter, test, attribute, item, call, list, tuple, map, Optional, absent, present, Exprs, no_more, more, Comparisons, compared, against, Args, no_args, pos, pos_splat, kwarg, kwarg_splat, Stmt, template, data_text, output, assignment, for_loop, if_cond, with_block, set_block, auto_escape, filter_block, named_block, extends, include, import_all, from_import, declare, call_block, do_call, break_loop, continue_loop, Stmts, done, also, Macro, macro, bare_expr, bare_args, bare_macro}
use Rattle.minijinja_semantics.specs.Calls.{Written, Super, Recursion, BlockOf, Plain, written}
use Rattle.minijinja_semantics.specs.Layout.{batch_count}
use Rattle.minijinja_semantics.specs.Macros.{enclosed}
use Rattle.minijinja_semantics.specs.Pieces.{Open, OpenScope, OpenAutoEscape, OpenCapture}
use Rattle.minijinja_semantics.specs.Marks as marks
use Rattle.minijinja_semantics.specs.Marks.{Mark, Margin, Marking, again, alone_at, at_line, at_span, closing_count, here, is_nowhere, last_or, mark_now, nowhere_else, on_line, span_of, unmarked, within, ◌⟫◌}
use Rattle.minijinja_semantics.specs.Looks.{IsLineOf, IsMarkOf}
use Rattle.minijinja_tree.specs.Standing.{AllStand, ArgsStand, BindingsStand, CompareStand, ExprsStand, MacroStands, NamesStand, Stands, StandsIfAny, StmtStands, StmtsStand}

module _ (S : Span → Type 0) where
  -- the marks so far are those of nodes, and so are the line in force and the span that is open
  pub record Kept (t : Margin) : Type 0 where
    pub marks : All (IsMarkOf S) t.marks
    pub line : IsLineOf S t.line
    pub span : (is_nowhere t.span ≡ true) ⊎ S t.span

  abbrev pub Keeps : Marking → Type 0
  Keeps g = (t : Margin) → Kept t → Kept (g t)

  -- ---- what is added

  shown_now : (o : Span) (n : Bool) → is_nowhere o ≡ n → (is_nowhere o ≡ true) ⊎ S o → MatchOption (if n then None else Some o) ⊤ S
  shown_now o true e h = tt
  shown_now o false e (inl nowhere) = absurd cc
  shown_now o false e (inr there) = there

  marked_now : (t : Margin) → Kept t → (b : Bool) → (t.span.start_line == t.line) ≡ b → IsMarkOf S (if b then at_span t.span else at_line t.line)
  marked_now t k true e = record { line = (k.line.0, k.line.1, eqb-true t.span.start_line t.line e ∙ k.line.2); span = shown_now t.span (is_nowhere t.span) refl k.span }
  marked_now t k false e = record { line = k.line; span = tt }

  mark_kept : (t : Margin) (m : Mark) → Kept t → IsMarkOf S m → Kept (record t { marks = t.marks ++ m ∷ [] })
  mark_kept t m k h = record { marks = All-push (IsMarkOf S) t.marks m k.marks h; line = k.line; span = k.span }

  pub keeps_nothing : Keeps nowhere_else
  keeps_nothing t k = k

  pub keeps_then : {g h : Marking} → Keeps g → Keeps h → Keeps (g ⟫ h)
  keeps_then {g} {h} a b t k = b (g t) (a t k)

  pub keeps_here : (n : ℕ) → Keeps (here n)
  keeps_here zero t k = k
  keeps_here (suc n) t k = keeps_here n (record t { marks = t.marks ++ mark_now t ∷ [] }) (mark_kept t (mark_now t) k (marked_now t k (t.span.start_line == t.line) refl))

  last_kept : (m : Mark) (ms : List Mark) → IsMarkOf S m → All (IsMarkOf S) ms → IsMarkOf S (last_or m ms)
  last_kept m [] h k = h
  last_kept m (n ∷ ns) h k = last_kept n ns (All-head (IsMarkOf S) n ns k) (All-tail (IsMarkOf S) n ns k)

  keeps_again : Keeps again
  keeps_again t k = mark_kept t (last_or unmarked t.marks) k (last_kept unmarked t.marks (record { line = tt; span = tt }) k.marks)

  keeps_alone : (s : Span) → S s → Keeps (alone_at s)
  keeps_alone s h t k = mark_kept t (at_span s) k (record { line = (s, h, refl); span = shown_now s (is_nowhere s) refl (inr h) })

  pub keeps_line : (s : Span) → S s → Keeps (on_line s)
  keeps_line s h t k = record { marks = k.marks; line = (s, h, refl); span = k.span }

  keeps_within : {g : Marking} (s : Span) → S s → Keeps g → Keeps (within s g)
  keeps_within {g} s h a t k =
      let now : Kept (g (record t { line = s.start_line; span = s })) = a (record t { line = s.start_line; span = s }) (record { marks = k.marks; line = (s, h, refl); span = inr h }) in
      record { marks = now.marks; line = now.line; span = k.span }

  keeps_folded : {C : Type 0} {g : Marking} (o : Option C) (s : Span) → S s → Keeps g → Keeps (marks.folded o s g)
  unfolding marks.folded
  keeps_folded None s h a = a
  keeps_folded (Some c) s h a = keeps_then (keeps_line s h) (keeps_here 1)

  keeps_loaded : {C : Type 0} {g : Marking} (o : Option C) → Keeps g → Keeps (marks.loaded o g)
  unfolding marks.loaded
  keeps_loaded None a = a
  keeps_loaded (Some c) a = keeps_here 1

  keeps_merged : (batches waiting : ℕ) → Keeps (marks.merged batches waiting)
  unfolding marks.merged
  keeps_merged zero zero = keeps_nothing
  keeps_merged zero (suc n) = keeps_here 1
  keeps_merged (suc b) n = keeps_then (keeps_here (batch_count n)) (keeps_here 1)

  keeps_spreading : (batches waiting : ℕ) → Keeps (marks.spreading batches waiting)
  unfolding marks.spreading
  keeps_spreading zero n = keeps_nothing
  keeps_spreading (suc b) n = keeps_then (keeps_here (batch_count n)) (keeps_here 1)

  keeps_operator : (o : UnaryOp) (s : Span) → S s → Keeps (marks.unary_operator o s)
  keeps_operator logical_not s h = keeps_here 1
  keeps_operator negation s h = keeps_alone s h

  keeps_operation : {g : Marking} (w : Working) → Keeps g → Keeps (marks.operation w g)
  keeps_operation (Makes o) a = keeps_then a (keeps_here 1)
  keeps_operation Divides a = keeps_then a (keeps_here 1)
  keeps_operation IfTrue a = keeps_then keeps_again a
  keeps_operation IfFalse a = keeps_then keeps_again a

  keeps_comparison : (o : CompareOp) → Keeps (marks.comparison o)
  keeps_comparison eq = keeps_here 1
  keeps_comparison ne = keeps_here 1
  keeps_comparison lt = keeps_here 1
  keeps_comparison lte = keeps_here 1
  keeps_comparison gt = keeps_here 1
  keeps_comparison gte = keeps_here 1
  keeps_comparison is_in = keeps_here 1
  keeps_comparison not_in = keeps_here 2

  keeps_call : {X : Type 0} {base value : Marking} {given : ℕ → Marking} (k : Callee X) → Keeps base → Keeps value → ((n : ℕ) → Keeps (given n)) → Keeps (marks.call_of k base value given)
  keeps_call (function x) a b g = keeps_then (g 0) (keeps_here 1)
  keeps_call (block x) a b g = keeps_here 3
  keeps_call (method e x) a b g = keeps_then a (keeps_then (g 1) (keeps_here 1))
  keeps_call (object e) a b g = keeps_then b (keeps_then (g 1) (keeps_here 1))

  abbrev EachKeeps : List Marking → Type 0
  EachKeeps [] = Unit {0}
  EachKeeps (g ∷ gs) = Keeps g × EachKeeps gs

  keeps_paired : (gs hs : List Marking) → EachKeeps gs → EachKeeps hs → Keeps (marks.paired gs hs)
  keeps_paired [] hs a b = keeps_nothing
  keeps_paired (g ∷ gs) [] a b = keeps_nothing
  keeps_paired (g ∷ gs) (h ∷ hs) a b = keeps_then a.0 (keeps_then b.0 (keeps_paired gs hs a.1 b.1))

  abbrev T : SpannedTok → Type 0
  T p = S p.1

  module _ {C F : Type 0} (f : Functions C F) where
    keeps_arguments : {p k : Marking} (args : Args C) (front : ℕ) → Keeps p → Keeps k → Keeps (marks.arguments f args front p k)
    keeps_arguments args front a b =
        keeps_then a (keeps_then (keeps_loaded (fold_keywords f (constant_keywords f (bare_args args))) (keeps_then b (keeps_merged _ _))) (keeps_spreading _ _))

    mutual
      pub keeps_expr : (e : Expr C) → Stands T S e → Keeps (marks.expr f e)
      keeps_expr (variable x s) h = keeps_then (keeps_line s h) (keeps_here 1)
      keeps_expr (constant c s) h = keeps_then (keeps_line s h) (keeps_here 1)
      keeps_expr (slice e start stop step s) h = keeps_within s h.0 (keeps_then (keeps_expr e h.1) (keeps_then (keeps_optional start h.2) (keeps_then (keeps_optional stop h.3) (keeps_then (keeps_optional step h.4) (keeps_here 1)))))
      keeps_expr (unary o e s) h = keeps_folded (fold f (bare_expr (unary o e s))) s h.0 (keeps_then (keeps_line s h.0) (keeps_then (keeps_expr e h.1) (keeps_operator o s h.0)))
      keeps_expr (binary o a b s) h = keeps_folded (fold f (bare_expr (binary o a b s))) s h.0 (keeps_within s h.0 (keeps_then (keeps_expr a h.1) (keeps_operation (working o) (keeps_expr b h.2))))
      keeps_expr (compare e cs s) h = keeps_folded (fold f (bare_expr (compare e cs s))) s h.0 (keeps_within s h.0 (keeps_then (keeps_expr e h.1) (keeps_chain cs h.2)))
      keeps_expr (if_expr t a b s) h = keeps_then (keeps_line s h.0) (keeps_then (keeps_expr t h.1) (keeps_then (keeps_here 1) (keeps_then (keeps_expr a h.2) (keeps_then (keeps_here 1) (keeps_optional b h.3)))))
      keeps_expr (filter o x args s) h = keeps_within s h.0 (keeps_then (keeps_operand o h.1) (keeps_then (keeps_arguments args 1 (keeps_positional args 1 h.2) (keeps_keyword args 0 h.2)) (keeps_here 1)))
      keeps_expr (test e x args s) h = keeps_within s h.0 (keeps_then (keeps_expr e h.1) (keeps_then (keeps_arguments args 1 (keeps_positional args 1 h.2) (keeps_keyword args 0 h.2)) (keeps_here 1)))
      keeps_expr (attribute e x s) h = keeps_within s h.0 (keeps_then (keeps_expr e h.1) (keeps_here 1))
      keeps_expr (item e k s) h = keeps_within s h.0 (keeps_then (keeps_expr e h.1) (keeps_then (keeps_expr k h.2) (keeps_here 1)))
      keeps_expr (call e args s) h = keeps_within s h.0 (keeps_call (callee (bare_expr e)) (keeps_base e h.1) (keeps_expr e h.1) (λ n. keeps_arguments args n (keeps_positional args n h.2) (keeps_keyword args 0 h.2)))
      keeps_expr (list es s) h = keeps_folded (fold f (bare_expr (list es s))) s h.0 (keeps_then (keeps_line s h.0) (keeps_then (keeps_items es h.1) (keeps_here 1)))
      keeps_expr (tuple es s) h = keeps_folded (fold f (bare_expr (tuple es s))) s h.0 (keeps_then (keeps_line s h.0) (keeps_then (keeps_items es h.1) (keeps_here 1)))
      keeps_expr (map ks vs s) h = keeps_folded (fold f (bare_expr (map ks vs s))) s h.0 (keeps_then (keeps_line s h.0) (keeps_then (keeps_paired (marks.each f ks) (marks.each f vs) (keeps_each ks h.1) (keeps_each vs h.2)) (keeps_here 1)))

      pub keeps_base : (e : Expr C) → Stands T S e → Keeps (marks.base f e)
      keeps_base (attribute e x s) h = keeps_expr e h.1
      keeps_base _ h = keeps_here 1

      keeps_optional : (o : Optional C) → StandsIfAny T S o → Keeps (marks.optional f o)
      keeps_optional absent h = keeps_here 1
      keeps_optional (present e) h = keeps_expr e h

      keeps_operand : (o : Optional C) → StandsIfAny T S o → Keeps (marks.operand f o)
      keeps_operand absent h = keeps_nothing
      keeps_operand (present e) h = keeps_expr e h

      keeps_items : (es : Exprs C) → ExprsStand T S es → Keeps (marks.items f es)
      keeps_items no_more h = keeps_nothing
      keeps_items (more e es) h = keeps_then (keeps_expr e h.0) (keeps_items es h.1)

      keeps_each : (es : Exprs C) → ExprsStand T S es → EachKeeps (marks.each f es)
      keeps_each no_more h = tt
      keeps_each (more e es) h = (keeps_expr e h.0, keeps_each es h.1)

      keeps_chain : (cs : Comparisons C) → CompareStand T S cs → Keeps (marks.chain f cs)
      keeps_chain compared h = keeps_nothing
      keeps_chain (against o e cs) h = keeps_then (keeps_expr e h.0) (keeps_then (keeps_comparisons o cs h.1) (keeps_here 3))

      keeps_comparisons : (o : CompareOp) (cs : Comparisons C) → CompareStand T S cs → Keeps (marks.comparisons f o cs)
      keeps_comparisons o compared h = keeps_comparison o
      keeps_comparisons o (against p e cs) h = keeps_then (keeps_here 2) (keeps_then (keeps_expr e h.0) (keeps_comparisons p cs h.1))

      pub keeps_positional : (args : Args C) (n : ℕ) → ArgsStand T S args → Keeps (marks.positional f args n)
      keeps_positional no_args n h = keeps_nothing
      keeps_positional (pos e args) n h = keeps_then (keeps_expr e h.0) (keeps_positional args (suc n) h.1)
      keeps_positional (pos_splat e args) n h = keeps_then (keeps_here (batch_count n)) (keeps_then (keeps_expr e h.0) (keeps_positional args 0 h.1))
      keeps_positional (kwarg x e args) n h = keeps_positional args n h.1
      keeps_positional (kwarg_splat e args) n h = keeps_positional args n h.1

      pub keeps_keyword : (args : Args C) (n : ℕ) → ArgsStand T S args → Keeps (marks.keyword f args n)
      keeps_keyword no_args n h = keeps_nothing
      keeps_keyword (pos e args) n h = keeps_keyword args n h.1
      keeps_keyword (pos_splat e args) n h = keeps_keyword args n h.1
      keeps_keyword (kwarg x e args) n h = keeps_then (keeps_here 1) (keeps_then (keeps_expr e h.0) (keeps_keyword args (suc n) h.1))
      keeps_keyword (kwarg_splat e args) n h = keeps_then (keeps_here (batch_count n)) (keeps_then (keeps_expr e h.0) (keeps_keyword args 0 h.1))

    -- ---- statements

    span_stands : (e : Expr C) → Stands T S e → S (span_of e)
    span_stands (variable x s) h = h
    span_stands (constant c s) h = h
    span_stands (slice e start stop step s) h = h.0
    span_stands (unary o e s) h = h.0
    span_stands (binary o a b s) h = h.0
    span_stands (compare e cs s) h = h.0
    span_stands (if_expr t a b s) h = h.0
    span_stands (filter o x args s) h = h.0
    span_stands (test e x args s) h = h.0
    span_stands (attribute e x s) h = h.0
    span_stands (item e k s) h = h.0
    span_stands (call e args s) h = h.0
    span_stands (list es s) h = h.0
    span_stands (tuple es s) h = h.0
    span_stands (map ks vs s) h = h.0

    mutual
      keeps_target : (e : Expr C) → Stands T S e → Keeps (marks.target f e)
      keeps_target (variable x s) h = keeps_here 1
      keeps_target (attribute e x s) h = keeps_within s h.0 (keeps_then (keeps_expr e h.1) (keeps_here 1))
      keeps_target (list es s) h = keeps_within s h.0 (keeps_then (keeps_here 1) (keeps_targets es h.1))
      keeps_target _ h = keeps_nothing

      keeps_targets : (es : Exprs C) → ExprsStand T S es → Keeps (marks.targets f es)
      keeps_targets no_more h = keeps_nothing
      keeps_targets (more e es) h = keeps_then (keeps_target e h.0) (keeps_targets es h.1)

    keeps_assignments : (bs : List (Expr C × Expr C)) → BindingsStand T S bs → Keeps (marks.assignments f bs)
    keeps_assignments [] h = keeps_nothing
    keeps_assignments (b ∷ bs) h = keeps_then (keeps_expr b.1 h.1) (keeps_then (keeps_target b.0 h.0) (keeps_assignments bs h.2))

    keeps_arguments_of : (e : Expr C) → Stands T S e → Keeps (marks.arguments_of f e)
    keeps_arguments_of (call e args s) h = keeps_positional args 0 h.2
    keeps_arguments_of _ h = keeps_nothing

    keeps_write : {X : Type 0} (w : Written X) (e : Expr C) → Stands T S e → Keeps (marks.write f w e)
    keeps_write Super e h = keeps_then (keeps_line (span_of e) (span_stands e h)) (keeps_alone (span_of e) (span_stands e h))
    keeps_write (Recursion x) e h = keeps_then (keeps_line (span_of e) (span_stands e h)) (keeps_then (keeps_arguments_of e h) (keeps_alone (span_of e) (span_stands e h)))
    keeps_write (BlockOf x) e h = keeps_then (keeps_line (span_of e) (span_stands e h)) (keeps_here 1)
    keeps_write Plain e h = keeps_within (span_of e) (span_stands e h) (keeps_then (keeps_expr e h) (keeps_here 1))

    keeps_looped : (t e : Expr C) (only : Optional C) → Stands T S t → Stands T S e → StandsIfAny T S only → Keeps (marks.looped_over f t e only)
    keeps_looped t e absent a b o = keeps_within (span_of e) (span_stands e b) (keeps_then (keeps_expr e b) (keeps_here 2))
    keeps_looped t e (present c) a b o =
        keeps_then (keeps_here 1) (keeps_then (keeps_within (span_of e) (span_stands e b) (keeps_expr e b))
        (keeps_then (keeps_within (span_of c) (span_stands c o) (keeps_then (keeps_here 3) (keeps_then (keeps_target t a) (keeps_then (keeps_expr c o) (keeps_here 6))))) (keeps_then (keeps_here 3) (keeps_here 2))))

    keeps_popping : (b : Bool) → Keeps (marks.popping b)
    keeps_popping true = keeps_here 2
    keeps_popping false = keeps_here 1

    keeps_if_any : {g : Marking} (b : Bool) → Keeps g → Keeps (marks.if_any b g)
    keeps_if_any true a = keeps_then (keeps_here 1) a
    keeps_if_any false a = keeps_nothing

    keeps_filters : (o : Optional C) → StandsIfAny T S o → Keeps (marks.filters f o)
    keeps_filters absent h = keeps_nothing
    keeps_filters (present e) h = keeps_expr e h

    keeps_taking : (es ds : List (Expr C)) → AllStand T S es → AllStand T S ds → Keeps (marks.taking f es ds)
    keeps_taking [] ds h k = keeps_nothing
    keeps_taking (e ∷ es) [] h k = keeps_then (keeps_target e h.0) (keeps_taking es [] h.1 tt)
    keeps_taking (e ∷ es) (d ∷ ds) h k = keeps_then (keeps_then (keeps_here 3) (keeps_then (keeps_here 1) (keeps_expr d k.0))) (keeps_then (keeps_target e h.0) (keeps_taking es ds h.1 k.1))

    keeps_looking_up : (ns : List (Expr C × Optional C)) → NamesStand T S ns → Keeps (marks.looking_up f ns)
    keeps_looking_up [] h = keeps_nothing
    keeps_looking_up (n ∷ ns) h = keeps_then (keeps_expr n.0 h.0) (keeps_looking_up ns h.2)

    keeps_stored_as : (n : Expr C × Optional C) → Stands T S n.0 → StandsIfAny T S n.1 → Keeps (marks.target f (marks.stored_as n))
    keeps_stored_as (e, absent) h k = keeps_target e h
    keeps_stored_as (e, present alias) h k = keeps_target alias k

    keeps_storing_back : (ns : List (Expr C × Optional C)) → NamesStand T S ns → Keeps (marks.storing_back f ns)
    keeps_storing_back [] h = keeps_nothing
    keeps_storing_back (n ∷ ns) h = keeps_then (keeps_storing_back ns h.2) (keeps_stored_as n h.0 h.1)

    keeps_arguments_with : {m : Marking} (args : Args C) (front : ℕ) → ArgsStand T S args → Keeps m → Keeps (marks.arguments_with f args front m)
    keeps_arguments_with args front h a =
        keeps_then (keeps_positional args front h) (keeps_then (keeps_keyword args 0 h) (keeps_then (keeps_here 1) (keeps_then a (keeps_then (keeps_merged _ _) (keeps_spreading _ _)))))

    stand_append : (xs ys : List (Expr C)) → AllStand T S xs → AllStand T S ys → AllStand T S (xs ++ ys)
    stand_append [] ys h k = k
    stand_append (x ∷ xs) ys h k = (h.0, stand_append xs ys h.1 k)

    stand_back : (xs : List (Expr C)) → AllStand T S xs → AllStand T S (reverse xs)
    stand_back [] h = tt
    stand_back (x ∷ xs) h = subst (AllStand T S) (sym (reverse-append (x ∷ []) xs)) (stand_append (reverse xs) (x ∷ []) (stand_back xs h.1) (h.0, tt))

    mutual
      pub keeps_stmt : (os : List Open) (s : Stmt C) → StmtStands T S s → Keeps (marks.stmt f os s)
      keeps_stmt os (template ss s) h = keeps_then (keeps_line s h.0) (keeps_stmts os ss h.1)
      keeps_stmt os (data_text t s) h = keeps_then (keeps_line s h) (keeps_here 1)
      keeps_stmt os (output e s) h = keeps_write (written (bare_expr e)) e h.1
      keeps_stmt os (assignment t e s) h = keeps_then (keeps_line s h.0) (keeps_then (keeps_expr e h.2) (keeps_target t h.1))
      keeps_stmt os (for_loop t e only recursive body else_body s) h =
          keeps_then (keeps_line s h.0) (keeps_then (keeps_looped t e only h.1 h.2 h.3) (keeps_then (keeps_target t h.1) (keeps_then (keeps_stmts [] body h.4)
          (keeps_then (keeps_here 1) (keeps_then (keeps_popping (marks.are_any else_body)) (keeps_if_any (marks.are_any else_body) (keeps_stmts os else_body h.5)))))))
      keeps_stmt os (if_cond e true_body false_body s) h =
          keeps_then (keeps_line s h.0) (keeps_then (keeps_within (span_of e) (span_stands e h.1) (keeps_then (keeps_expr e h.1) (keeps_here 1)))
          (keeps_then (keeps_stmts os true_body h.2) (keeps_if_any (marks.are_any false_body) (keeps_stmts os false_body h.3))))
      keeps_stmt os (with_block bs body s) h = keeps_then (keeps_line s h.0) (keeps_then (keeps_here 1) (keeps_then (keeps_assignments bs h.1) (keeps_then (keeps_stmts (OpenScope ∷ os) body h.2) (keeps_here 1))))
      keeps_stmt os (set_block t chain body s) h = keeps_then (keeps_line s h.0) (keeps_then (keeps_here 1) (keeps_then (keeps_stmts (OpenCapture ∷ os) body h.3) (keeps_then (keeps_here 1) (keeps_then (keeps_filters chain h.2) (keeps_target t h.1)))))
      keeps_stmt os (auto_escape e body s) h = keeps_then (keeps_line s h.0) (keeps_then (keeps_expr e h.1) (keeps_then (keeps_here 1) (keeps_then (keeps_stmts (OpenAutoEscape ∷ os) body h.2) (keeps_here 1))))
      keeps_stmt os (filter_block e body s) h = keeps_then (keeps_line s h.0) (keeps_then (keeps_here 1) (keeps_then (keeps_stmts (OpenCapture ∷ os) body h.2) (keeps_then (keeps_here 1) (keeps_then (keeps_expr e h.1) (keeps_here 1)))))
      keeps_stmt os (named_block x required body s) h = keeps_then (keeps_line s h.0) (keeps_here 1)
      keeps_stmt os (extends e s) h = keeps_then (keeps_line s h.0) (keeps_then (keeps_expr e h.1) (keeps_alone s h.0))
      keeps_stmt os (include e ignore s) h = keeps_then (keeps_line s h.0) (keeps_then (keeps_expr e h.1) (keeps_alone s h.0))
      keeps_stmt os (import_all e t s) h = keeps_then (keeps_here 2) (keeps_then (keeps_expr e h.1) (keeps_then (keeps_alone s h.0) (keeps_then (keeps_here 4) (keeps_target t h.2))))
      keeps_stmt os (from_import e ns s) h =
          keeps_then (keeps_here 2) (keeps_then (keeps_expr e h.1) (keeps_then (keeps_alone s h.0) (keeps_then (keeps_looking_up ns h.2) (keeps_then (keeps_here 1) (keeps_then (keeps_storing_back ns h.2) (keeps_here 2))))))
      keeps_stmt os (declare m) h = keeps_then (keeps_macro m h) (keeps_here 1)
      keeps_stmt os (call_block e args from m s) h =
          keeps_then (keeps_within from h.1 (keeps_call (callee (bare_expr e)) (keeps_base e h.2) (keeps_expr e h.2) (λ n. keeps_arguments_with args n h.3 (keeps_macro m h.4)))) (keeps_here 1)
      keeps_stmt os (do_call e args from s) h = keeps_then (keeps_expr (call e args from) (h.1, h.2, h.3)) (keeps_here 1)
      keeps_stmt os (break_loop s) h = keeps_then (keeps_line s h) (keeps_then (keeps_here (closing_count os)) (keeps_here 1))
      keeps_stmt os (continue_loop s) h = keeps_then (keeps_line s h) (keeps_then (keeps_here (closing_count os)) (keeps_here 1))

      pub keeps_stmts : (os : List Open) (ss : Stmts C) → StmtsStand T S ss → Keeps (marks.stmts f os ss)
      keeps_stmts os done h = keeps_nothing
      keeps_stmts os (also s rest) h = keeps_then (keeps_stmt os s h.0) (keeps_stmts os rest h.1)

      keeps_macro : (m : Macro C) → MacroStands T S m → Keeps (marks.macro_value f m)
      keeps_macro (macro x args defaults body s) h =
          keeps_then (keeps_line s h.0) (keeps_then (keeps_here 1) (keeps_then (keeps_taking (reverse args) (reverse defaults) (stand_back args h.1) (stand_back defaults h.2))
          (keeps_then (keeps_stmts [] body h.3) (keeps_then (keeps_here 1) (keeps_then (keeps_here (length (enclosed (bare_macro (macro x args defaults body s))))) (keeps_here 3))))))

    -- ---- whole lists

    begun : (s : Span) → S s → Kept (on_line s marks.start)
    begun s h = record { marks = All-nil _; line = (s, h, refl); span = inl refl }

    pub template_marked : (ss : Stmts C) (s : Span) → StmtStands T S (template ss s) → All (IsMarkOf S) (marks.stmt_marks f (template ss s))
    template_marked ss s h = (keeps_stmts [] ss h.1 (on_line s marks.start) (begun s h.0)).marks

    pub block_marked : (s : Span) (body : Stmts C) → S s → StmtsStand T S body → All (IsMarkOf S) (marks.block_marks f s body)
    block_marked s body h k = (keeps_stmts [] body k (on_line s marks.start) (begun s h)).marks

    -- an expression by itself begins on its own line

    folded_line : (g : Marking) (o : Option C) (s : Span) (t : Margin) → g t ≡ g (on_line s t) → marks.folded o s g t ≡ marks.folded o s g (on_line s t)
    unfolding marks.folded
    folded_line g None s t h = h
    folded_line g (Some c) s t h = refl

    line_first : (e : Expr C) (t : Margin) → marks.expr f e t ≡ marks.expr f e (on_line (span_of e) t)
    line_first (variable x s) t = refl
    line_first (constant c s) t = refl
    line_first (slice e start stop step s) t = refl
    line_first (unary o e s) t = folded_line _ (fold f (bare_expr (unary o e s))) s t refl
    line_first (binary o a b s) t = folded_line _ (fold f (bare_expr (binary o a b s))) s t refl
    line_first (compare e cs s) t = folded_line _ (fold f (bare_expr (compare e cs s))) s t refl
    line_first (if_expr c a b s) t = refl
    line_first (filter o x args s) t = refl
    line_first (test e x args s) t = refl
    line_first (attribute e x s) t = refl
    line_first (item e k s) t = refl
    line_first (call e args s) t = refl
    line_first (list es s) t = folded_line _ (fold f (bare_expr (list es s))) s t refl
    line_first (tuple es s) t = folded_line _ (fold f (bare_expr (tuple es s))) s t refl
    line_first (map ks vs s) t = folded_line _ (fold f (bare_expr (map ks vs s))) s t refl

    pub expr_marked : (e : Expr C) → Stands T S e → All (IsMarkOf S) (marks.expr_marks f e)
    expr_marked e h = subst (λ (t : Margin). All (IsMarkOf S) t.marks) (sym (line_first e marks.start)) (keeps_expr e h (on_line (span_of e) marks.start) (begun (span_of e) (span_stands e h))).marks
