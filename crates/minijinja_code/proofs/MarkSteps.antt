-- The marks of statements, put together while their code is made.
use Rattle.std.proofs.Common.{◌≡◌, List, Result, [], ◌∷◌, length, reverse, refl, sym, ap, ap₂, ◌∙◌}
use Rattle.std.specs.Prelude.{Bool, true, false, OnOk}
use Rattle.minijinja_syntax.specs.declared.tokens.Span.{Span}
use Rattle.minijinja_value.specs.Values.{Functions}
use Rattle.minijinja_tree.specs.Callees.{Callee, function, method, block, object, callee}
use Rattle.minijinja_tree.specs.Erasure.{expr_tree, macro_tree}
use Rattle.minijinja_tree.specs.SpannedErasure.{expr_node, stmt_node, trees}
use Rattle.minijinja_tree.specs.Nodes.{node_of}
use Rattle.minijinja_tree.specs.Nodes as places
use Rattle.minijinja_tree_expr.specs.declared.ast.Spanned.{Spanned}
use Rattle.minijinja_tree.specs.SpannedTrees as spanned
use Rattle.minijinja_tree.specs.SpannedTrees.{Args, Expr, Optional, Stmt, Stmts, also}
use Rattle.minijinja_tree.specs.declared.ast.Macro.{Macro}
use Rattle.minijinja_tree.specs.declared.ast.Stmt.{Stmt as Node}
use Rattle.minijinja_tree_expr.specs.declared.ast.Expr.{Expr as ExprNode}
use Rattle.minijinja_tree_expr.proofs.Bare.{expr_is}
use Rattle.minijinja_semantics.specs.Calls.{written}
use Rattle.minijinja_semantics.specs.Macros.{enclosed}
use Rattle.minijinja_semantics.specs.Marks.{Margin, Marking, ◌⟫◌, are_any, arguments_with, base, call_of, expr, here, if_any, looped_over, macro_value, on_line, popping, span_of, stmt, stmts, taking, target, within, write}
use Rattle.minijinja_semantics.specs.Pieces.{Open}
use Rattle.minijinja_emitter.specs.internal.Margins.{closed, opened}
use Rattle.minijinja_code_expr.specs.internal.Callers.{TakesCaller}
use Rattle.minijinja_code_expr.specs.internal.NodeMarks.{behind_caller, call_begin, call_end, up_to_caller}
use Rattle.minijinja_code_expr.proofs.Results.{ok_gives}
use Rattle.minijinja_code.specs.private.Statements.{call_block_marks, macro_node}
use Rattle.minijinja_code.proofs.MarkWalks.{nodes_of}
use Rattle.minijinja_code.proofs.SpannedArms.{bare_macro_is}

-- what is known after a call that succeeded
pub with_ok : {A E P Q : Type 0} (r : Result A E) → OnOk r P → (P → Q) → OnOk r Q
with_ok r p k = ok_gives r k p

module _ {V K C : Type 0} (c : V → C) where
  -- whether there is a statement
  pub no_nodes : (xs : List (Node V K)) → length xs ≡ 0 → are_any (nodes_of c xs) ≡ false
  no_nodes [] e = refl
  no_nodes (x ∷ xs) e = absurd (cc)

  pub some_nodes : (xs : List (Node V K)) → (length xs ≡ 0 → ⊥) → are_any (nodes_of c xs) ≡ true
  some_nodes [] n = absurd (n refl)
  some_nodes (x ∷ xs) n = refl

module _ {V K C F : Type 0} (f : Functions C F) (c : V → C) where
  -- the statement in other words
  pub node_as : {b : Margin} (a : Margin) (os : List Open) (s : Node V K) {s' : Stmt C} → stmt_node c s ≡ s' → b ≡ stmt f os s' a → b ≡ stmt f os (stmt_node c s) a
  node_as a os s e h = h ∙ ap (λ x. stmt f os x a) (sym e)

  -- the same body, in the same place, from the same margin
  pub nodes_as : {a a' b : Margin} {os os' : List Open} {xs ys : List (Node V K)} → os ≡ os' → xs ≡ ys → a ≡ a' → b ≡ stmts f os (nodes_of c xs) a → b ≡ stmts f os' (nodes_of c ys) a'
  nodes_as {a' = a'} {os = os} {os' = os'} {xs = xs} {ys = ys} eo e ea h =
      h ∙ ap (λ m. stmts f os (nodes_of c xs) m) ea ∙ ap (λ o. stmts f o (nodes_of c xs) a') eo ∙ ap (λ zs. stmts f os' (nodes_of c zs) a') e

  -- an output
  pub output_marks : {b : Margin} (a : Margin) (os : List Open) (e : ExprNode V K) (t : Span) → b ≡ write f (written (expr_tree c e)) (expr_node c e) a → b ≡ stmt f os (spanned.output (expr_node c e) t) a
  output_marks a os e t h = h ∙ ap (λ x. write f (written x) (expr_node c e) a) (sym (expr_is c e))

  pub template_marked : {began last : Margin} {xs : List (Node V K)} (os : List Open) (ys : List (Node V K)) (s : Span) (m : Margin) → began ≡ on_line s m → xs ≡ ys → last ≡ stmts f os (nodes_of c xs) began → last ≡ stmt f os (spanned.template (nodes_of c ys) s) m
  template_marked {began} os ys s m h e l = l ∙ ap (λ zs. stmts f os (nodes_of c zs) began) e ∙ ap (λ n. stmts f os (nodes_of c ys) n) h

  -- the turn of a statement
  pub marks_turn : {b end : Margin} {os os' : List Open} (a : Margin) (s : Node V K) {rest : Stmts C} (left : Stmts C) → rest ≡ also (stmt_node c s) left → os' ≡ os → b ≡ stmt f os' (stmt_node c s) a → stmts f os rest a ≡ end → stmts f os left b ≡ end
  marks_turn {os = os} a s left is eo h l = ap (stmts f os left) (h ∙ ap (λ o. stmt f o (stmt_node c s) a) eo) ∙ sym (ap (λ ss. stmts f os ss a) is) ∙ l

module _ {C F : Type 0} (f : Functions C F) where
  -- a loop without an else body, and one with it
  loop_marked : (os : List Open) (t e : Expr C) (only : Optional C) (again : Bool) (body else_body : Stmts C) (s : Span) (m : Margin) → are_any else_body ≡ false →
      here 1 (here 1 (stmts f [] body (target f t (looped_over f t e only (on_line s m))))) ≡ stmt f os (spanned.for_loop t e only again body else_body s) m
  loop_marked os t e only again body else_body s m none =
      ap (λ any. if_any any (stmts f os else_body) (popping any (here 1 (stmts f [] body (target f t (looped_over f t e only (on_line s m))))))) (sym none)

  pub loop_done : {ran back last : Margin} (os : List Open) (t e : Expr C) (only : Optional C) (again : Bool) (body else_body : Stmts C) (s : Span) (m : Margin) → are_any else_body ≡ false →
      ran ≡ stmts f [] body (target f t (looped_over f t e only (on_line s m))) → back ≡ here 1 ran → last ≡ here 1 back → last ≡ stmt f os (spanned.for_loop t e only again body else_body s) m
  loop_done os t e only again body else_body s m none r b l = l ∙ ap (λ n. here 1 n) (b ∙ ap (λ n. here 1 n) r) ∙ loop_marked os t e only again body else_body s m none

  pub loop_else_marked : (os : List Open) (t e : Expr C) (only : Optional C) (again : Bool) (body else_body : Stmts C) (s : Span) (m : Margin) → are_any else_body ≡ true →
      stmts f os else_body (here 3 (here 1 (stmts f [] body (target f t (looped_over f t e only (on_line s m)))))) ≡ stmt f os (spanned.for_loop t e only again body else_body s) m
  loop_else_marked os t e only again body else_body s m some =
      ap (λ any. if_any any (stmts f os else_body) (popping any (here 1 (stmts f [] body (target f t (looped_over f t e only (on_line s m))))))) (sym some)

  -- a true body alone, and with a false one
  pub condition_marked : {begun_at : Margin} (os : List Open) (e : Expr C) (true_body false_body : Stmts C) (s : Span) (m : Margin) → begun_at ≡ within (span_of e) (expr f e ⟫ here 1) (on_line s m) → are_any false_body ≡ false →
      stmts f os true_body begun_at ≡ stmt f os (spanned.if_cond e true_body false_body s) m
  condition_marked os e true_body false_body s m is none = ap (stmts f os true_body) is ∙ ap (λ any. if_any any (stmts f os false_body) (stmts f os true_body (within (span_of e) (expr f e ⟫ here 1) (on_line s m)))) (sym none)

  pub choice_marked : {begun_at : Margin} (os : List Open) (e : Expr C) (true_body false_body : Stmts C) (s : Span) (m : Margin) → begun_at ≡ within (span_of e) (expr f e ⟫ here 1) (on_line s m) → are_any false_body ≡ true →
      stmts f os false_body (here 1 (stmts f os true_body begun_at)) ≡ stmt f os (spanned.if_cond e true_body false_body s) m
  choice_marked os e true_body false_body s m is some = ap (λ n. stmts f os false_body (here 1 (stmts f os true_body n))) is ∙ ap (λ any. if_any any (stmts f os false_body) (stmts f os true_body (within (span_of e) (expr f e ⟫ here 1) (on_line s m)))) (sym some)

  -- a macro that is stored under its name
  pub declared_marked : {made last : Margin} (os : List Open) (d : spanned.Macro C) (m : Margin) → made ≡ macro_value f d m → last ≡ here 1 made → last ≡ stmt f os (spanned.declare d) m
  declared_marked os d m h l = l ∙ ap (λ n. here 1 n) h

  -- what closes a call is followed by what writes it
  pub written_marked : {last shut end : Margin} (outer : Span) (ended : Margin) → last ≡ here 1 shut → shut ≡ closed outer ended → here 1 (closed outer ended) ≡ end → last ≡ end
  written_marked outer ended l h k = l ∙ ap (λ n. here 1 n) h ∙ k

  -- a call up to its macro, the macro, and the end
  taking_along : {X : Type 0} (k : Callee X) (base value macro : Marking) (args : Args C) (m : Margin) → TakesCaller k →
      call_end k (behind_caller args) (macro (call_begin k base value (up_to_caller f args) m)) ≡ call_of k base value (λ n. arguments_with f args n macro) m
  taking_along (function x) base value macro args m is = refl
  taking_along (method o x) base value macro args m is = refl
  taking_along (block x) base value macro args m is = absurd is
  taking_along (object o) base value macro args m is = refl

  taking_none : {X : Type 0} (k : Callee X) (x : _) (base value macro : Marking) (args : Args C) (m : Margin) → k ≡ block x → call_begin k base value (up_to_caller f args) m ≡ call_of k base value (λ n. arguments_with f args n macro) m
  taking_none k x base value macro args m is = ap (λ j. call_begin j base value (up_to_caller f args) m) is ∙ ap (λ j. call_of j base value (λ n. arguments_with f args n macro) m) (sym is)

module _ {V K C F : Type 0} (f : Functions C F) (c : V → C) where
  -- a macro, with what it makes of itself in the end
  pub macro_marked : (n : Macro V K) (s : Span) (m : Margin) →
      here 3 (here (length (enclosed (macro_tree c n))) (here 1 (stmts f [] (nodes_of c n.body.items) (taking f (reverse (trees c n.args.items)) (reverse (trees c n.defaults.items)) (here 1 (on_line s m))))))
      ≡ macro_value f (spanned.macro n.name.now (trees c n.args.items) (trees c n.defaults.items) (nodes_of c n.body.items) s) m
  macro_marked n s m = ap (λ t. here 3 (here (length (enclosed t)) (here 1 (stmts f [] (nodes_of c n.body.items) (taking f (reverse (trees c n.args.items)) (reverse (trees c n.defaults.items)) (here 1 (on_line s m))))))) (sym (bare_macro_is c n s))

  pub macro_built : {began held took ran returned filled last : Margin} {args defaults : List (ExprNode V K)} {body : List (Node V K)} {os : List Open} (n : Macro V K) (s : Span) (m : Margin) →
      began ≡ on_line s m → held ≡ here 1 began → args ≡ n.args.items → defaults ≡ n.defaults.items → took ≡ taking f (reverse (trees c args)) (reverse (trees c defaults)) held → os ≡ [] → body ≡ n.body.items → ran ≡ stmts f os (nodes_of c body) took →
      returned ≡ here 1 ran → filled ≡ returned → last ≡ here 3 (here (length (enclosed (macro_tree c n))) filled) → last ≡ macro_value f (spanned.macro n.name.now (trees c n.args.items) (trees c n.defaults.items) (nodes_of c n.body.items) s) m
  macro_built {held = held} {took = took} {args = args} {defaults = defaults} {body = body} n s m hb hh ea ed ht eo eb hr hd hf hl =
      let takes : took ≡ taking f (reverse (trees c n.args.items)) (reverse (trees c n.defaults.items)) (here 1 (on_line s m)) =
      ht ∙ ap₂ (λ xs ys. taking f (reverse (trees c xs)) (reverse (trees c ys)) held) ea ed ∙ ap (λ k. taking f (reverse (trees c n.args.items)) (reverse (trees c n.defaults.items)) k) (hh ∙ ap (λ k. here 1 k) hb) in
      let runs = hr ∙ ap₂ (λ o xs. stmts f o (nodes_of c xs) took) eo eb ∙ ap (λ k. stmts f [] (nodes_of c n.body.items) k) takes in
      hl ∙ ap (λ k. here 3 (here (length (enclosed (macro_tree c n))) k)) (hf ∙ hd ∙ ap (λ k. here 1 k) runs) ∙ macro_marked n s m

  -- the marks of a call that takes a macro along, and of a call of a block, which takes none
  pub called_marked : {began taken ended : Margin} (e : ExprNode V K) (args : Args C) (macro : Marking) (s outer : Span) (m : Margin) → TakesCaller (callee (expr_tree c e)) → outer ≡ m.span →
      began ≡ call_begin (callee (expr_tree c e)) (base f (expr_node c e)) (expr f (expr_node c e)) (up_to_caller f args) (opened s m) → taken ≡ macro began → ended ≡ call_end (callee (expr_tree c e)) (behind_caller args) taken →
      here 1 (closed outer ended) ≡ call_block_marks f (expr_node c e) args s macro m
  called_marked e args macro s outer m takes at begins takes_along ends =
      let k = callee (expr_tree c e) in
      let x = base f (expr_node c e) in
      let y = expr f (expr_node c e) in
      let whole : Margin = call_end k (behind_caller args) (macro (call_begin k x y (up_to_caller f args) (opened s m))) in
      ap (λ n. here 1 (closed outer n)) (ends ∙ ap (call_end k (behind_caller args)) (takes_along ∙ ap macro begins))
      ∙ ap (λ o. here 1 (closed o whole)) at ∙ ap (λ n. here 1 (closed m.span n)) (taking_along f k x y macro args (opened s m) takes)
      ∙ ap (λ t. here 1 (within s (call_of (callee t) x y (λ n. arguments_with f args n macro)) m)) (sym (expr_is c e))

  pub block_called_marked : {began : Margin} (e : ExprNode V K) (x : _) (args : Args C) (macro : Marking) (s outer : Span) (m : Margin) → callee (expr_tree c e) ≡ block x → outer ≡ m.span →
      began ≡ call_begin (callee (expr_tree c e)) (base f (expr_node c e)) (expr f (expr_node c e)) (up_to_caller f args) (opened s m) → here 1 (closed outer began) ≡ call_block_marks f (expr_node c e) args s macro m
  block_called_marked e name args macro s outer m is at begins =
      let k = callee (expr_tree c e) in
      let x = base f (expr_node c e) in
      let y = expr f (expr_node c e) in
      ap (λ n. here 1 (closed outer n)) (begins ∙ taking_none f k name x y macro args (opened s m) is)
      ∙ ap (λ o. here 1 (closed o (call_of k x y (λ n. arguments_with f args n macro) (opened s m)))) at
      ∙ ap (λ t. here 1 (within s (call_of (callee t) x y (λ n. arguments_with f args n macro)) m)) (sym (expr_is c e))

  -- a macro by its node and its span
  pub macro_as : {b : Margin} (a : Margin) (d : Spanned (Macro V K)) (n : Macro V K) (s : Span) → n ≡ node_of d → s ≡ places.span_of d → b ≡ macro_value f (spanned.macro n.name.now (trees c n.args.items) (trees c n.defaults.items) (nodes_of c n.body.items) s) a → b ≡ macro_value f (macro_node c d) a
  macro_as a d n s at from h = h ∙ ap₂ (λ (q : Macro V K) u. macro_value f (spanned.macro q.name.now (trees c q.args.items) (trees c q.defaults.items) (nodes_of c q.body.items) u) a) at from
