-- The trees of statements, by the lists of the statements in them.
use Rattle.std.proofs.Common.{◌≡◌, map, List, [], ◌∷◌, ◌++◌, Option, Some, None, refl, sym, ap, ap₂, ◌∙◌}
use Rattle.std.specs.List.{filter_map}
use Rattle.std.proofs.lemmas.List.{map-append}
use Rattle.minijinja_syntax.specs.Texts.{Text}
use Rattle.minijinja_tree.specs.Nodes.{node_of, span_of}
use Rattle.minijinja_tree.specs.SpannedTrees as tree
use Rattle.minijinja_tree.specs.SpannedTrees.{also, macro_of, stmts_of}
use Rattle.minijinja_tree.specs.SpannedErasure.{any_tree, args_of, bindings_of, expr_node, params_of, stmt_node, stmts_node, trees}
use Rattle.minijinja_syntax.specs.declared.tokens.Span.{Span}
use Rattle.minijinja_tree_expr.specs.declared.ast.Spanned.{Spanned}
use Rattle.minijinja_tree_expr.specs.declared.ast.Call.{Call}
use Rattle.minijinja_tree_expr.specs.declared.ast.Expr.{Expr}
use Rattle.minijinja_tree.specs.declared.ast.Stmt.TheBlock as stmt_block
use Rattle.minijinja_tree.specs.declared.ast.Block.{Block}
use Rattle.minijinja_tree.specs.declared.ast.Macro.{Macro}
use Rattle.minijinja_tree.specs.declared.ast.CallBlock.{CallBlock, out-CallBlock, roll-CallBlock, out-roll-CallBlock}
use Rattle.minijinja_tree.specs.declared.ast.Template.{Template}
use Rattle.minijinja_tree.specs.declared.ast.ForLoop.{ForLoop}
use Rattle.minijinja_tree.specs.declared.ast.IfCond.{IfCond}
use Rattle.minijinja_tree.specs.declared.ast.WithBlock.{WithBlock}
use Rattle.minijinja_tree.specs.declared.ast.SetBlock.{SetBlock}
use Rattle.minijinja_tree.specs.declared.ast.AutoEscape.{AutoEscape}
use Rattle.minijinja_tree.specs.declared.ast.FilterBlock.{FilterBlock}
use Rattle.minijinja_tree.specs.declared.ast.Stmt.{Stmt, Row_of-Stmt, end_of-Stmt, more_of-Stmt, items-the_row-Stmt, items_hidden-the_row-Stmt-0, items_shown-the_row-Stmt-0}
use Rattle.minijinja_tree.specs.declared.ast.Stmt.TheVariants as stmt
use Rattle.minijinja_tree.specs.declared.ast.Stmt.TheVariants.{Template', ForLoop', IfCond', WithBlock', SetBlock', AutoEscape', FilterBlock', Block', Macro', CallBlock'}

stmts_are : {V F C : Type 0} (c : V → C) (n : _) (row : Row_of-Stmt V F n) → stmts_node c row ≡ stmts_of (map (stmt_node c) (items-the_row-Stmt V F n row))
stmts_are c n end_of-Stmt = refl
stmts_are c n (more_of-Stmt s rest) = ap (also (stmt_node c s)) (stmts_are c _ rest)

-- the first of the bodies of a statement
abbrev body_of : {V F : Type 0} → Stmt V F → (n : _) × Row_of-Stmt V F n
body_of (Template' p k xs s) = (_, xs)
body_of (ForLoop' p t e only again k xs l ys s) = (_, xs)
body_of (IfCond' p e k xs l ys s) = (_, xs)
body_of (WithBlock' p bs k xs s) = (_, xs)
body_of (SetBlock' p t e k xs s) = (_, xs)
body_of (AutoEscape' p e k xs s) = (_, xs)
body_of (FilterBlock' p e k xs s) = (_, xs)
body_of (Block' p x required k xs s) = (_, xs)
body_of (Macro' p x args defaults k xs s) = (_, xs)
body_of _ = (_, end_of-Stmt)

-- the second one
abbrev other_body_of : {V F : Type 0} → Stmt V F → (n : _) × Row_of-Stmt V F n
other_body_of (ForLoop' p t e only again k xs l ys s) = (_, ys)
other_body_of (IfCond' p e k xs l ys s) = (_, ys)
other_body_of _ = (_, end_of-Stmt)

-- a macro, and where it stands
abbrev macro_view : {V F C : Type 0} → (V → C) → Macro V F → Span → tree.Macro C
macro_view c m t = tree.macro m.name.now (trees c m.args.items) (trees c m.defaults.items) (stmts_of (map (stmt_node c) m.body.items)) t

-- a call with its macro
call_node_is : {V F C : Type 0} (c : V → C) (p : _) (b : CallBlock V F) (s : Span) → stmt_node c (CallBlock' p b s) ≡
    tree.call_block (expr_node c (node_of (out-CallBlock V F b).call).expr) (args_of c (node_of (out-CallBlock V F b).call).args.items) (span_of (out-CallBlock V F b).call)
    (macro_view c (node_of (out-CallBlock V F b).macro_decl) (span_of (out-CallBlock V F b).macro_decl)) s
unfolding out-CallBlock denote.Hole.Carrier.out
call_node_is {V} {F} c p (stmt_block.struct-CallBlock call r x args defaults k xs at) s =
    ap (λ ss. tree.call_block (expr_node c (node_of call).expr) (args_of c (node_of call).args.items) (span_of call) (tree.macro x.now (trees c args.items) (trees c defaults.items) ss at) s)
    (stmts_are c _ xs ∙ ap (λ ys. stmts_of (map (stmt_node c) ys)) (sym (items_shown-the_row-Stmt-0 V F k xs)))

-- arguments with their defaults
abbrev Params : (V F : Type 0) → Type 0
Params V F = List (Expr V F × Option (Expr V F))

module _ {V F C : Type 0} (c : V → C) where
  pub template_is : (s : Spanned (Template V F)) (n : Template V F) (t : Span) → node_of s ≡ n → span_of s ≡ t →
      stmt_node c (stmt.Template s) ≡ tree.template (stmts_of (map (stmt_node c) n.children.items)) t
  template_is s n t h i =
      ap (λ xs. tree.template xs (span_of s))
      (stmts_are c _ (body_of (stmt.Template s)).1 ∙ ap (λ xs. stmts_of (map (stmt_node c) xs)) (items_hidden-the_row-Stmt-0 V F (node_of s).children)) ∙
      ap₂ (λ (m : Template V F) u. tree.template (stmts_of (map (stmt_node c) m.children.items)) u) h i

  pub for_loop_is : (s : Spanned (ForLoop V F)) (n : ForLoop V F) (t : Span) → node_of s ≡ n → span_of s ≡ t →
      stmt_node c (stmt.ForLoop s) ≡ tree.for_loop (expr_node c n.target) (expr_node c n.iter) (tree.optional_of (any_tree c n.filter_expr)) n.recursive (stmts_of (map (stmt_node c) n.body.items)) (stmts_of (map (stmt_node c) n.else_body.items)) t
  for_loop_is s n t h i =
      ap₂ (λ xs ys. tree.for_loop (expr_node c (node_of s).target) (expr_node c (node_of s).iter) (tree.optional_of (any_tree c (node_of s).filter_expr)) (node_of s).recursive xs ys (span_of s))
      (stmts_are c _ (body_of (stmt.ForLoop s)).1 ∙ ap (λ xs. stmts_of (map (stmt_node c) xs)) (items_hidden-the_row-Stmt-0 V F (node_of s).body))
      (stmts_are c _ (other_body_of (stmt.ForLoop s)).1 ∙ ap (λ xs. stmts_of (map (stmt_node c) xs)) (items_hidden-the_row-Stmt-0 V F (node_of s).else_body)) ∙
      ap₂ (λ (m : ForLoop V F) u. tree.for_loop (expr_node c m.target) (expr_node c m.iter) (tree.optional_of (any_tree c m.filter_expr)) m.recursive (stmts_of (map (stmt_node c) m.body.items)) (stmts_of (map (stmt_node c) m.else_body.items)) u) h i

  pub if_cond_is : (s : Spanned (IfCond V F)) (n : IfCond V F) (t : Span) → node_of s ≡ n → span_of s ≡ t →
      stmt_node c (stmt.IfCond s) ≡ tree.if_cond (expr_node c n.expr) (stmts_of (map (stmt_node c) n.true_body.items)) (stmts_of (map (stmt_node c) n.false_body.items)) t
  if_cond_is s n t h i =
      ap₂ (λ xs ys. tree.if_cond (expr_node c (node_of s).expr) xs ys (span_of s))
      (stmts_are c _ (body_of (stmt.IfCond s)).1 ∙ ap (λ xs. stmts_of (map (stmt_node c) xs)) (items_hidden-the_row-Stmt-0 V F (node_of s).true_body))
      (stmts_are c _ (other_body_of (stmt.IfCond s)).1 ∙ ap (λ xs. stmts_of (map (stmt_node c) xs)) (items_hidden-the_row-Stmt-0 V F (node_of s).false_body)) ∙
      ap₂ (λ (m : IfCond V F) u. tree.if_cond (expr_node c m.expr) (stmts_of (map (stmt_node c) m.true_body.items)) (stmts_of (map (stmt_node c) m.false_body.items)) u) h i

  pub with_block_is : (s : Spanned (WithBlock V F)) (n : WithBlock V F) (t : Span) → node_of s ≡ n → span_of s ≡ t →
      stmt_node c (stmt.WithBlock s) ≡ tree.with_block (bindings_of c n.assignments.items) (stmts_of (map (stmt_node c) n.body.items)) t
  with_block_is s n t h i =
      ap (λ xs. tree.with_block (bindings_of c (node_of s).assignments.items) xs (span_of s))
      (stmts_are c _ (body_of (stmt.WithBlock s)).1 ∙ ap (λ xs. stmts_of (map (stmt_node c) xs)) (items_hidden-the_row-Stmt-0 V F (node_of s).body)) ∙
      ap₂ (λ (m : WithBlock V F) u. tree.with_block (bindings_of c m.assignments.items) (stmts_of (map (stmt_node c) m.body.items)) u) h i

  pub set_block_is : (s : Spanned (SetBlock V F)) (n : SetBlock V F) (t : Span) → node_of s ≡ n → span_of s ≡ t →
      stmt_node c (stmt.SetBlock s) ≡ tree.set_block (expr_node c n.target) (tree.optional_of (any_tree c n.filter)) (stmts_of (map (stmt_node c) n.body.items)) t
  set_block_is s n t h i =
      ap (λ xs. tree.set_block (expr_node c (node_of s).target) (tree.optional_of (any_tree c (node_of s).filter)) xs (span_of s))
      (stmts_are c _ (body_of (stmt.SetBlock s)).1 ∙ ap (λ xs. stmts_of (map (stmt_node c) xs)) (items_hidden-the_row-Stmt-0 V F (node_of s).body)) ∙
      ap₂ (λ (m : SetBlock V F) u. tree.set_block (expr_node c m.target) (tree.optional_of (any_tree c m.filter)) (stmts_of (map (stmt_node c) m.body.items)) u) h i

  pub auto_escape_is : (s : Spanned (AutoEscape V F)) (n : AutoEscape V F) (t : Span) → node_of s ≡ n → span_of s ≡ t →
      stmt_node c (stmt.AutoEscape s) ≡ tree.auto_escape (expr_node c n.enabled) (stmts_of (map (stmt_node c) n.body.items)) t
  auto_escape_is s n t h i =
      ap (λ xs. tree.auto_escape (expr_node c (node_of s).enabled) xs (span_of s))
      (stmts_are c _ (body_of (stmt.AutoEscape s)).1 ∙ ap (λ xs. stmts_of (map (stmt_node c) xs)) (items_hidden-the_row-Stmt-0 V F (node_of s).body)) ∙
      ap₂ (λ (m : AutoEscape V F) u. tree.auto_escape (expr_node c m.enabled) (stmts_of (map (stmt_node c) m.body.items)) u) h i

  pub filter_block_is : (s : Spanned (FilterBlock V F)) (n : FilterBlock V F) (t : Span) → node_of s ≡ n → span_of s ≡ t →
      stmt_node c (stmt.FilterBlock s) ≡ tree.filter_block (expr_node c n.filter) (stmts_of (map (stmt_node c) n.body.items)) t
  filter_block_is s n t h i =
      ap (λ xs. tree.filter_block (expr_node c (node_of s).filter) xs (span_of s))
      (stmts_are c _ (body_of (stmt.FilterBlock s)).1 ∙ ap (λ xs. stmts_of (map (stmt_node c) xs)) (items_hidden-the_row-Stmt-0 V F (node_of s).body)) ∙
      ap₂ (λ (m : FilterBlock V F) u. tree.filter_block (expr_node c m.filter) (stmts_of (map (stmt_node c) m.body.items)) u) h i

  pub named_block_is : (s : Spanned (Block V F)) (n : Block V F) (t : Span) → node_of s ≡ n → span_of s ≡ t →
      stmt_node c (stmt.Block s) ≡ tree.named_block n.name.now n.required (stmts_of (map (stmt_node c) n.body.items)) t
  named_block_is s n t h i =
      ap (λ xs. tree.named_block (node_of s).name.now (node_of s).required xs (span_of s))
      (stmts_are c _ (body_of (stmt.Block s)).1 ∙ ap (λ xs. stmts_of (map (stmt_node c) xs)) (items_hidden-the_row-Stmt-0 V F (node_of s).body)) ∙
      ap₂ (λ (m : Block V F) u. tree.named_block m.name.now m.required (stmts_of (map (stmt_node c) m.body.items)) u) h i

  declared_is : (s : Spanned (Macro V F)) (n : Macro V F) (t : Span) → node_of s ≡ n → span_of s ≡ t → stmt_node c (stmt.Macro s) ≡ tree.declare (macro_view c n t)
  declared_is s n t h i =
      ap (λ xs. tree.declare (tree.macro (node_of s).name.now (trees c (node_of s).args.items) (trees c (node_of s).defaults.items) xs (span_of s)))
      (stmts_are c _ (body_of (stmt.Macro s)).1 ∙ ap (λ xs. stmts_of (map (stmt_node c) xs)) (items_hidden-the_row-Stmt-0 V F (node_of s).body)) ∙
      ap₂ (λ m u. tree.declare (macro_view c m u)) h i

  targets_are : (ps : Params V F) → trees c (map (λ p. p.0) ps) ≡ map (λ p. p.0) (params_of c ps)
  targets_are [] = refl
  targets_are (p ∷ ps) = ap (λ l. expr_node c p.0 ∷ l) (targets_are ps)

  defaults_are : (ps : Params V F) → trees c (filter_map (λ p. p.1) ps) ≡ filter_map (λ p. p.1) (params_of c ps)
  defaults_are [] = refl
  defaults_are ((e, None) ∷ ps) = defaults_are ps
  defaults_are ((e, Some d) ∷ ps) = ap (λ l. expr_node c d ∷ l) (defaults_are ps)

  -- a macro of these parts
  pub record IsMade (m : Macro V F) (x : Text) (ps : Params V F) (ss : List (Stmt V F)) : Type 0 where
    pub name : m.name.now ≡ x
    pub args : m.args.items ≡ map (λ p. p.0) ps
    pub defaults : m.defaults.items ≡ filter_map (λ p. p.1) ps
    pub body : m.body.items ≡ ss

  made_is : (m : Macro V F) (x : Text) (ps : Params V F) (body : List (Stmt V F)) (t : Span) → IsMade m x ps body → macro_view c m t ≡ macro_of x (params_of c ps) (map (stmt_node c) body) t
  made_is m x ps body t made =
      ap₂ (λ y ss. tree.macro y (trees c m.args.items) (trees c m.defaults.items) (stmts_of (map (stmt_node c) ss)) t) made.name made.body ∙
      ap₂ (λ es ds. tree.macro x es ds (stmts_of (map (stmt_node c) body)) t) (ap (trees c) made.args ∙ targets_are ps) (ap (trees c) made.defaults ∙ defaults_are ps)

  pub declared_of : (s : Spanned (Macro V F)) (m : Macro V F) (t : Span) (x : Text) (ps : Params V F) (body : List (Stmt V F)) → node_of s ≡ m → span_of s ≡ t → IsMade m x ps body →
      stmt_node c (stmt.Macro s) ≡ tree.declare (macro_of x (params_of c ps) (map (stmt_node c) body) t)
  declared_of s m t x ps body h i made = declared_is s m t h i ∙ ap tree.declare (made_is m x ps body t made)

  -- a call with its macro
  pub call_block_of : (s : Spanned (CallBlock V F)) (call : Spanned (Call V F)) (d : Spanned (Macro V F)) (m : Macro V F) (t : Span) (x : Text) (ps : Params V F) (body : List (Stmt V F)) →
      node_of s ≡ roll-CallBlock V F (record { call = call; macro_decl = d }) → span_of s ≡ t → node_of d ≡ m → span_of d ≡ t → IsMade m x ps body →
      stmt_node c (stmt.CallBlock s) ≡ tree.call_block (expr_node c (node_of call).expr) (args_of c (node_of call).args.items) (span_of call) (macro_of x (params_of c ps) (map (stmt_node c) body) t) t
  call_block_of s call d m t x ps body h i hd id made =
      let with_macro : tree.Macro C → Span → tree.Stmt C = λ n u. tree.call_block (expr_node c (node_of call).expr) (args_of c (node_of call).args.items) (span_of call) n u in
      call_node_is c (record { value = tt; ptr = s.place.ptr; alloc = s.place.alloc }) (node_of s) (span_of s) ∙
      ap (λ o. tree.call_block (expr_node c (node_of {T = Call V F} o.call).expr) (args_of c (node_of {T = Call V F} o.call).args.items) (span_of o.call) (macro_view c (node_of {T = Macro V F} o.macro_decl) (span_of o.macro_decl)) (span_of s)) (ap (out-CallBlock V F) h ∙ out-roll-CallBlock V F (record { call = call; macro_decl = d })) ∙
      ap₂ with_macro (ap₂ (macro_view c) hd id ∙ made_is m x ps body t made) i

-- one argument more, with its default if it has one
module _ {E : Type 0} where
  pub target_more : (ps : List (E × Option E)) (e : E) (o : Option E) {xs ys : List E} → xs ≡ map (λ p. p.0) ps → ys ≡ xs ++ e ∷ [] → ys ≡ map (λ p. p.0) (ps ++ (e, o) ∷ [])
  target_more ps e o before more = more ∙ ap (λ l. l ++ e ∷ []) before ∙ sym (map-append (λ p. p.0) ps ((e, o) ∷ []))

  with_default : (ps : List (E × Option E)) (e d : E) → filter_map (λ p. p.1) (ps ++ (e, Some d) ∷ []) ≡ filter_map (λ p. p.1) ps ++ d ∷ []
  with_default [] e d = refl
  with_default ((x, None) ∷ ps) e d = with_default ps e d
  with_default ((x, Some y) ∷ ps) e d = ap (λ l. y ∷ l) (with_default ps e d)

  without_default : (ps : List (E × Option E)) (e : E) → filter_map (λ p. p.1) (ps ++ (e, None) ∷ []) ≡ filter_map (λ p. p.1) ps
  without_default [] e = refl
  without_default ((x, None) ∷ ps) e = without_default ps e
  without_default ((x, Some y) ∷ ps) e = ap (λ l. y ∷ l) (without_default ps e)

  pub default_more : (ps : List (E × Option E)) (e d : E) (o : Option E) {xs ys : List E} → o ≡ Some d → xs ≡ filter_map (λ p. p.1) ps → ys ≡ xs ++ d ∷ [] → ys ≡ filter_map (λ p. p.1) (ps ++ (e, o) ∷ [])
  default_more ps e d o is before more = more ∙ ap (λ l. l ++ d ∷ []) before ∙ sym (with_default ps e d) ∙ ap (λ q. filter_map (λ p. p.1) (ps ++ (e, q) ∷ [])) (sym is)

  pub no_default_more : (ps : List (E × Option E)) (e : E) (o : Option E) {xs : List E} → o ≡ None → xs ≡ filter_map (λ p. p.1) ps → xs ≡ filter_map (λ p. p.1) (ps ++ (e, o) ∷ [])
  no_default_more ps e o is before = before ∙ sym (without_default ps e) ∙ ap (λ q. filter_map (λ p. p.1) (ps ++ (e, q) ∷ [])) (sym is)
