-- The statements of the call that an expression is.
use Rattle.std.proofs.Common.{◌≡◌, true, false, Option, Some, None, refl, sym, ap, ◌∙◌}
use Rattle.std.specs.Prelude.{is_some, IfNone, IsSome}
use Rattle.minijinja_tree_expr.specs.declared.ast.Call.{Call}
use Rattle.minijinja_tree_expr.specs.declared.ast.Expr.{Expr}
use Rattle.minijinja_tree_expr.specs.declared.ast.Expr.TheVariants as expr
use Rattle.minijinja_tree_expr.specs.declared.ast.Spanned.{Spanned}
use Rattle.minijinja_syntax.specs.declared.tokens.Span.{Span}
use Rattle.minijinja_tree.specs.Nodes.{node_of, span_of}
use Rattle.minijinja_tree.specs.SpannedErasure.{args_of, expr_node}
use Rattle.minijinja_tree.specs.SpannedTrees as tree
use Rattle.minijinja_grammar.specs.internal.StmtForms.{call_of}
use Rattle.minijinja_parser_stmt.specs.internal.Made.{call_block_tree, call_tree, is_call}
use Rattle.minijinja_parser_expr.proofs.Calls.{no_call, some_call}

module _ {V F C : Type 0} (c : V → C) where
  pub do_call_is : (e : Expr V F) (s : Spanned (Call V F)) (span : Span) → e ≡ expr.Call s →
      tree.do_call (expr_node c (node_of s).expr) (args_of c (node_of s).args.items) (span_of s) span ≡ call_tree (call_of (expr_node c e)) span
  do_call_is e s span h = ap (λ o. call_tree o span) (some_call c e s h)

  pub call_block_is : (e : Expr V F) (s : Spanned (Call V F)) (m : tree.Macro C) (span : Span) → e ≡ expr.Call s →
      tree.call_block (expr_node c (node_of s).expr) (args_of c (node_of s).args.items) (span_of s) m span ≡ call_block_tree (call_of (expr_node c e)) m span
  call_block_is e s m span h = ap (λ o. call_block_tree o m span) (some_call c e s h)

  -- the parts of a call block and of `do` have an expression
  pub some_expr : (o : Option (Expr V F)) → is_call (expr_node c) o ≡ true → IsSome o
  some_expr None h = cc
  some_expr (Some e) h = refl

  -- and that is a call
  pub some_node : (o : Option (Expr V F)) (e : Expr V F) (r : Option (Spanned (Call V F))) → is_call (expr_node c) o ≡ true → o ≡ Some e → IfNone r ((s : Spanned (Call V F)) → e ≡ expr.Call s → ⊥) → IsSome r
  some_node o e (Some s) h k n = refl
  some_node o e None h k n = let a : true ≡ false = sym h ∙ ap (is_call (expr_node c)) k ∙ sym (ap is_some (no_call c e n)) in cc
