-- The marks of chains of filters while their code is made: each filter closes its span after its arguments.
use Rattle.std.proofs.Common.{◌≡◌, List, [], ◌∷◌, ◌++◌, Option, Some, None, sym, ap, ◌∙◌}
use Rattle.std.specs.Prelude.{reverse}
use Rattle.std.proofs.lemmas.List.{reverse-append}
use Rattle.minijinja_value.specs.Values.{Functions}
use Rattle.minijinja_syntax.specs.declared.tokens.Span.{Span}
use Rattle.minijinja_tree.specs.SpannedErasure.{expr_node, optional_of, args_of}
use Rattle.minijinja_tree_expr.specs.declared.ast.Expr.{Expr}
use Rattle.minijinja_tree_expr.specs.declared.ast.Filter.{Filter}
use Rattle.minijinja_semantics.specs.Marks as marks
use Rattle.minijinja_semantics.specs.Marks.{Margin, Marking, here, operand}
use Rattle.minijinja_emitter.specs.internal.Margins.{closed, opened}
use Rattle.minijinja_code_expr.specs.declared.filters.WaitingFilter.{WaitingFilter}
use Rattle.minijinja_code_expr.specs.internal.NodeMarks.{given_marks}
use Rattle.minijinja_code_expr.specs.private.Filtering.{filter_node}

module _ {V K C F : Type 0} (f : Functions C F) (c : V → C) where
  -- the end of a filter, after its operand
  abbrev pub unwinding : WaitingFilter V K → Marking
  unwinding w t = closed w.outer (here 1 (given_marks f (args_of c w.filter.now.args.items) 1 t))

  -- the filters that wait, the innermost first
  abbrev pub unwound : List (WaitingFilter V K) → Marking
  unwound [] t = t
  unwound (w ∷ ws) t = unwound ws (unwinding w t)

  abbrev pub operand_marks : Filter V K → Marking
  operand_marks n = operand f (optional_of c n.expr)

  -- with this margin, the operand of the last filter and the filters that wait make all these marks
  abbrev pub Left : WaitingFilter V K → List (WaitingFilter V K) → (now all : Margin) → Type 0
  Left last ws now all = unwound (last ∷ ws) (operand_marks last.filter.now now) ≡ all

  -- what a filter that was begun makes
  begun_marks : (e : Expr V K) (w : WaitingFilter V K) (old : Margin) {new : Margin} → w.outer ≡ old.span → (span : Span) → new ≡ opened span old → filter_node c w.filter.now span ≡ expr_node c e → unwinding w (operand_marks w.filter.now new) ≡ marks.expr f (expr_node c e) old
  begun_marks e w old {new} outer span at is =
      ap (λ s. closed s (here 1 (given_marks f (args_of c w.filter.now.args.items) 1 (operand_marks w.filter.now new)))) outer
      ∙ ap (λ t. closed old.span (here 1 (given_marks f (args_of c w.filter.now.args.items) 1 (operand_marks w.filter.now t)))) at
      ∙ ap (λ n. marks.expr f n old) is

  -- no filter waits yet
  pub left_begin : (e : Expr V K) (w : WaitingFilter V K) (ws : List (WaitingFilter V K)) (old : Margin) {new : Margin} → ws ≡ [] → w.outer ≡ old.span → (span : Span) → new ≡ opened span old → filter_node c w.filter.now span ≡ expr_node c e →
      Left w (reverse ws) new (marks.expr f (expr_node c e) old)
  left_begin e w ws old {new} none outer span at is =
      ap (λ (l : List (WaitingFilter V K)). unwound (w ∷ reverse l) (operand_marks w.filter.now new)) none ∙ begun_marks e w old outer span at is

  -- one filter more waits
  pub left_more : (last next : WaitingFilter V K) (operand : Expr V K) (ws xs : List (WaitingFilter V K)) (old : Margin) {new all : Margin} → last.filter.now.expr ≡ Some operand → xs ≡ ws ++ last ∷ [] → next.outer ≡ old.span → (span : Span) → new ≡ opened span old → filter_node c next.filter.now span ≡ expr_node c operand →
      Left last (reverse ws) old all → Left next (reverse xs) new all
  left_more last next operand ws xs old {new} e more outer span at is left =
      ap (λ l. unwound l (unwinding next (operand_marks next.filter.now new))) (ap reverse more ∙ reverse-append ws (last ∷ []))
      ∙ ap (λ t. unwound (last ∷ reverse ws) t) (begun_marks operand next old outer span at is)
      ∙ ap (λ (o : Option (Expr V K)). unwound (last ∷ reverse ws) (marks.operand f (optional_of c o) old)) (sym e)
      ∙ left

  -- the innermost filter, whose operand is there already
  pub left_last : (last : WaitingFilter V K) (ws : List (WaitingFilter V K)) (old : Margin) {new all : Margin} → last.filter.now.expr ≡ None → new ≡ unwinding last old → Left last ws old all → unwound ws new ≡ all
  left_last last ws old e at left =
      ap (unwound ws) at
      ∙ ap (λ (o : Option (Expr V K)). unwound (last ∷ ws) (marks.operand f (optional_of c o) old)) (sym e)
      ∙ left

  -- and one that waited
  pub unwound_next : (ws xs : List (WaitingFilter V K)) (w : WaitingFilter V K) (now : Margin) {next all : Margin} → xs ≡ ws ++ w ∷ [] → next ≡ unwinding w now → unwound (reverse xs) now ≡ all → unwound (reverse ws) next ≡ all
  unwound_next ws xs w now e at left =
      ap (unwound (reverse ws)) at ∙ sym (ap (λ l. unwound l now) (ap reverse e ∙ reverse-append ws (w ∷ []))) ∙ left
