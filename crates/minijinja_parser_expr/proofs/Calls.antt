-- The call that an expression is.
use Rattle.std.proofs.Common.{◌≡◌, true, false, Some, None, refl, sym, ap, ◌∙◌}
use Rattle.std.specs.Prelude.{is_some}
use Rattle.minijinja_tree_expr.specs.declared.ast.Call.{Call}
use Rattle.minijinja_tree_expr.specs.declared.ast.CallArg.TheBlock as block
use Rattle.minijinja_tree_expr.specs.declared.ast.Expr.{Expr, roll-Expr, roll-out-Expr}
use Rattle.minijinja_tree_expr.specs.declared.ast.Expr.TheVariants as expr
use Rattle.minijinja_tree_expr.specs.declared.ast.Expr.TheVariants.{Call', Compare', outs-Call', rolls-Call}
use Rattle.minijinja_tree_expr.specs.declared.ast.Spanned.{Spanned}
use Rattle.minijinja_syntax.specs.declared.tokens.Span.{Span}
use Rattle.minijinja_tree.specs.Nodes.{node_of, span_of}
use Rattle.minijinja_tree.specs.SpannedErasure.{args_of, expr_node}
use Rattle.minijinja_tree.specs.SpannedTrees as tree
use Rattle.minijinja_grammar.specs.internal.StmtForms.{call_of}
use Rattle.minijinja_tree_expr.proofs.NodeRows.{call_is}

-- what is called, the arguments, and where the call stands
abbrev pub call_view : {V F C : Type 0} → (V → C) → Spanned (Call V F) → tree.Expr C × tree.Args C × Span
call_view c s = (expr_node c (node_of s).expr, args_of c (node_of s).args.items, span_of s)

module _ {V F C : Type 0} (c : V → C) where
  pub some_call : (e : Expr V F) (s : Spanned (Call V F)) → e ≡ expr.Call s → Some (call_view c s) ≡ call_of (expr_node c e)
  some_call e s h = ap (λ t. call_of t) (sym (ap (expr_node c) h ∙ call_is c s _ _ refl refl))

  pub no_call : (e : Expr V F) → ((s : Spanned (Call V F)) → e ≡ expr.Call s → ⊥) → ◌≡◌ {A = _} None (call_of (expr_node c e))
  no_call (Call' p e k xs s) h = absurd (h _ (sym (roll-out-Expr V F (Call' p e k xs s)) ∙ ap (roll-Expr V F) (outs-Call' p e k xs s) ∙ rolls-Call _))
  no_call (Compare' p (block.struct-Compare e k ops) s) h = refl
  no_call _ h = refl

  pub is_call : (e : Expr V F) (s : Spanned (Call V F)) → e ≡ expr.Call s → true ≡ is_some (call_of (expr_node c e))
  is_call e s h = ap is_some (some_call e s h)

  pub is_no_call : (e : Expr V F) → ((s : Spanned (Call V F)) → e ≡ expr.Call s → ⊥) → false ≡ is_some (call_of (expr_node c e))
  is_no_call e h = ap is_some (no_call e h)
