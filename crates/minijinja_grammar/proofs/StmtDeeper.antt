-- What is derived at a depth is derived at each larger one: statements.
use Rattle.std.proofs.Common.{ℕ, suc, Bool, List}
use Rattle.minijinja_syntax.specs.Texts.{Text}
use Rattle.minijinja_value.specs.Values.{Functions}
use Rattle.minijinja_syntax.specs.Streams.{SpannedTok}
use Rattle.minijinja_syntax.specs.Tokens.{Tok}
use Rattle.minijinja_tree.specs.Tree.{Expr, Optional, Exprs, Stmt, Stmts}
use Rattle.minijinja_grammar.specs.Statements.{Context, Ends, IsValue, IsChainRow, IsChain, IsChainIfAny, IsFilterIfAny, AreBindings, AreSomeBindings, AreParams, AreMoreParams, AreParamsIfAny, IsBody, IsElse, IsIf, IsStmt, one_value, values, first_filter, also_filter, chain, no_chain, one_chain, no_filter, one_filter, last_binding, more_bindings, no_bindings, bindings, no_params, param, param_with_default, no_more_params, more_params, no_parentheses, params_in_parentheses, for_stmt, if_stmt, with_stmt, set_stmt, set_block_stmt, autoescape_stmt, filter_stmt, block_stmt, required_block_stmt, extends_stmt, include_stmt, import_stmt, from_stmt, macro_stmt, call_stmt, do_stmt, break_stmt, continue_stmt, body_end, text_end, data_part, output_part, stmt_part, no_else, else_part, if_alone, if_else, if_elif}
use Rattle.minijinja_grammar.specs.Targets.{IsTarget, AreTargets, AreMoreTargets, IsBound, in_parentheses, undotted, dotted_target, no_targets, one_target, list_of_targets, no_more_targets, last_target, more_targets, bound_targets, bound_name}
use Rattle.minijinja_grammar.proofs.Deeper.{deeper_IsExpr, deeper_IsLevel, deeper_AreArgsIfAny, deeper_AreExprs}

module _ {C : Type 0} where
  mutual
    pub deeper_IsTarget : {dotted : Bool} {d : ℕ} {ts : List SpannedTok} {rest : List SpannedTok} {e3 : Expr C} → IsTarget dotted d ts rest e3 → IsTarget dotted (suc d) ts rest e3
    deeper_IsTarget (in_parentheses a0) = in_parentheses (deeper_AreTargets a0)
    deeper_IsTarget (undotted a0 a1 a2) = undotted a0 a1 a2
    deeper_IsTarget (dotted_target a0 a1 a2 a3) = dotted_target a0 a1 a2 a3

    pub deeper_AreTargets : {dotted : Bool} {d : ℕ} {ts : List SpannedTok} {rest : List SpannedTok} {e3 : Expr C} → AreTargets dotted d ts rest e3 → AreTargets dotted (suc d) ts rest e3
    deeper_AreTargets (no_targets a0) = no_targets a0
    deeper_AreTargets (one_target a0 a1 a2) = one_target a0 (deeper_IsTarget a1) a2
    deeper_AreTargets (list_of_targets a0 a1 a2) = list_of_targets a0 (deeper_IsTarget a1) (deeper_AreMoreTargets a2)

    pub deeper_AreMoreTargets : {dotted : Bool} {d : ℕ} {ts : List SpannedTok} {rest : List SpannedTok} {e3 : Exprs C} → AreMoreTargets dotted d ts rest e3 → AreMoreTargets dotted (suc d) ts rest e3
    deeper_AreMoreTargets (no_more_targets a0) = no_more_targets a0
    deeper_AreMoreTargets (last_target a0 a1 a2) = last_target a0 (deeper_IsTarget a1) a2
    deeper_AreMoreTargets (more_targets a0 a1 a2) = more_targets a0 (deeper_IsTarget a1) (deeper_AreMoreTargets a2)

  pub deeper_IsBound : {d : ℕ} {ts : List SpannedTok} {rest : List SpannedTok} {e3 : Expr C} → IsBound d ts rest e3 → IsBound (suc d) ts rest e3
  deeper_IsBound (bound_targets a0) = bound_targets (deeper_AreTargets a0)
  deeper_IsBound (bound_name a0) = bound_name a0

module _ {C F : Type 0} (f : Functions C F) (src : Text) where
  pub deeper_IsValue : {d : ℕ} {ts : List SpannedTok} {rest : List SpannedTok} {e3 : Expr C} → IsValue f src d ts rest e3 → IsValue f src (suc d) ts rest e3
  deeper_IsValue (one_value a0 a1) = one_value (deeper_IsExpr f src a0) a1
  deeper_IsValue (values a0 a1) = values (deeper_IsExpr f src a0) (deeper_AreExprs f src a1)

  pub deeper_IsChainRow : {d : ℕ} {ts : List SpannedTok} {rest : List SpannedTok} {e3 : Expr C} → IsChainRow f src d ts rest e3 → IsChainRow f src (suc d) ts rest e3
  deeper_IsChainRow (first_filter a0 a1) = first_filter a0 (deeper_AreArgsIfAny f src a1)
  deeper_IsChainRow (also_filter a0 a1 a2) = also_filter (deeper_IsChainRow a0) a1 (deeper_AreArgsIfAny f src a2)

  pub deeper_IsChain : {d : ℕ} {ts : List SpannedTok} {rest : List SpannedTok} {e3 : Expr C} → IsChain f src d ts rest e3 → IsChain f src (suc d) ts rest e3
  deeper_IsChain (chain a0 a1) = chain (deeper_IsChainRow a0) a1

  pub deeper_IsChainIfAny : {d : ℕ} {ts : List SpannedTok} {rest : List SpannedTok} {e3 : Optional C} → IsChainIfAny f src d ts rest e3 → IsChainIfAny f src (suc d) ts rest e3
  deeper_IsChainIfAny (no_chain a0) = no_chain a0
  deeper_IsChainIfAny (one_chain a0) = one_chain (deeper_IsChain a0)

  pub deeper_IsFilterIfAny : {d : ℕ} {ts : List SpannedTok} {rest : List SpannedTok} {e3 : Optional C} → IsFilterIfAny f src d ts rest e3 → IsFilterIfAny f src (suc d) ts rest e3
  deeper_IsFilterIfAny (no_filter a0) = no_filter a0
  deeper_IsFilterIfAny (one_filter a0) = one_filter (deeper_IsExpr f src a0)

  pub deeper_AreSomeBindings : {d : ℕ} {ts : List SpannedTok} {rest : List SpannedTok} {e3 : List (Expr C × Expr C)} → AreSomeBindings f src d ts rest e3 → AreSomeBindings f src (suc d) ts rest e3
  deeper_AreSomeBindings (last_binding a0 a1 a2) = last_binding (deeper_IsBound a0) (deeper_IsExpr f src a1) a2
  deeper_AreSomeBindings (more_bindings a0 a1 a2) = more_bindings (deeper_IsBound a0) (deeper_IsExpr f src a1) (deeper_AreSomeBindings a2)

  pub deeper_AreBindings : {d : ℕ} {ts : List SpannedTok} {rest : List SpannedTok} {e3 : List (Expr C × Expr C)} → AreBindings f src d ts rest e3 → AreBindings f src (suc d) ts rest e3
  deeper_AreBindings (no_bindings a0) = no_bindings a0
  deeper_AreBindings (bindings a0 a1) = bindings a0 (deeper_AreSomeBindings a1)

  mutual
    pub deeper_AreParams : {d : ℕ} {ts : List SpannedTok} {rest : List SpannedTok} {e3 : List (Expr C × Optional C)} → AreParams f src d ts rest e3 → AreParams f src (suc d) ts rest e3
    deeper_AreParams (no_params a0) = no_params a0
    deeper_AreParams (param a0 a1 a2) = param a0 a1 (deeper_AreMoreParams a2)
    deeper_AreParams (param_with_default a0 a1 a2) = param_with_default a0 (deeper_IsExpr f src a1) (deeper_AreMoreParams a2)

    pub deeper_AreMoreParams : {d : ℕ} {ts : List SpannedTok} {rest : List SpannedTok} {e3 : List (Expr C × Optional C)} → AreMoreParams f src d ts rest e3 → AreMoreParams f src (suc d) ts rest e3
    deeper_AreMoreParams (no_more_params a0) = no_more_params a0
    deeper_AreMoreParams (more_params a0) = more_params (deeper_AreParams a0)

  pub deeper_AreParamsIfAny : {d : ℕ} {ts : List SpannedTok} {rest : List SpannedTok} {e3 : List (Expr C × Optional C)} → AreParamsIfAny f src d ts rest e3 → AreParamsIfAny f src (suc d) ts rest e3
  deeper_AreParamsIfAny (no_parentheses a0) = no_parentheses a0
  deeper_AreParamsIfAny (params_in_parentheses a0 a1) = params_in_parentheses (deeper_AreParams a0) a1

  mutual
    pub deeper_IsStmt : {c : Context} {d : ℕ} {ts : List SpannedTok} {rest : List SpannedTok} {e4 : Stmt C (Unit {0})} → IsStmt f src c d ts rest e4 → IsStmt f src c (suc d) ts rest e4
    deeper_IsStmt (for_stmt a0 a1 a2 a3 a4 a5) = for_stmt (deeper_AreTargets a0) (deeper_IsLevel f src a1) (deeper_IsFilterIfAny a2) a3 (deeper_IsBody a4) (deeper_IsElse a5)
    deeper_IsStmt (if_stmt a0) = if_stmt (deeper_IsIf a0)
    deeper_IsStmt (with_stmt a0 a1) = with_stmt (deeper_AreBindings a0) (deeper_IsBody a1)
    deeper_IsStmt (set_stmt a0 a1) = set_stmt (deeper_AreTargets a0) (deeper_IsValue a1)
    deeper_IsStmt (set_block_stmt a0 a1 a2) = set_block_stmt (deeper_AreTargets a0) (deeper_IsChainIfAny a1) (deeper_IsBody a2)
    deeper_IsStmt (autoescape_stmt a0 a1) = autoescape_stmt (deeper_IsExpr f src a0) (deeper_IsBody a1)
    deeper_IsStmt (filter_stmt a0 a1) = filter_stmt (deeper_IsChain a0) (deeper_IsBody a1)
    deeper_IsStmt (block_stmt a0 a1 a2 a3 a4) = block_stmt a0 a1 a2 (deeper_IsBody a3) a4
    deeper_IsStmt (required_block_stmt a0 a1 a2 a3 a4) = required_block_stmt a0 a1 a2 a3 a4
    deeper_IsStmt (extends_stmt a0) = extends_stmt (deeper_IsExpr f src a0)
    deeper_IsStmt (include_stmt a0 a1 a2) = include_stmt (deeper_IsExpr f src a0) a1 a2
    deeper_IsStmt (import_stmt a0 a1 a2 a3) = import_stmt (deeper_IsExpr f src a0) (deeper_IsExpr f src a1) a2 a3
    deeper_IsStmt (from_stmt a0 a1 a2) = from_stmt (deeper_IsExpr f src a0) a1 a2
    deeper_IsStmt (macro_stmt a0 a1 a2) = macro_stmt (deeper_AreParams a0) a1 (deeper_IsBody a2)
    deeper_IsStmt (call_stmt a0 a1 a2) = call_stmt (deeper_AreParamsIfAny a0) (deeper_IsExpr f src a1) (deeper_IsBody a2)
    deeper_IsStmt (do_stmt a0) = do_stmt (deeper_IsExpr f src a0)
    deeper_IsStmt (break_stmt a0) = break_stmt a0
    deeper_IsStmt (continue_stmt a0) = continue_stmt a0

    pub deeper_IsBody : {c : Context} {w : Ends} {d : ℕ} {ts : List SpannedTok} {rest : List SpannedTok} {e5 : Stmts C (Unit {0})} → IsBody f src c w d ts rest e5 → IsBody f src c w (suc d) ts rest e5
    deeper_IsBody (body_end a0) = body_end a0
    deeper_IsBody text_end = text_end
    deeper_IsBody (data_part a0) = data_part (deeper_IsBody a0)
    deeper_IsBody (output_part a0 a1) = output_part (deeper_IsExpr f src a0) (deeper_IsBody a1)
    deeper_IsBody (stmt_part a0 a1 a2) = stmt_part a0 (deeper_IsStmt a1) (deeper_IsBody a2)

    pub deeper_IsElse : {c : Context} {w : Ends} {word : Tok} {d : ℕ} {ts : List SpannedTok} {rest : List SpannedTok} {e6 : Stmts C (Unit {0})} → IsElse f src c w word d ts rest e6 →
        IsElse f src c w word (suc d) ts rest e6
    deeper_IsElse (no_else a0) = no_else a0
    deeper_IsElse (else_part a0) = else_part (deeper_IsBody a0)

    pub deeper_IsIf : {c : Context} {d : ℕ} {ts : List SpannedTok} {rest : List SpannedTok} {e4 : Stmt C (Unit {0})} → IsIf f src c d ts rest e4 → IsIf f src c (suc d) ts rest e4
    deeper_IsIf (if_alone a0 a1) = if_alone (deeper_IsLevel f src a0) (deeper_IsBody a1)
    deeper_IsIf (if_else a0 a1 a2) = if_else (deeper_IsLevel f src a0) (deeper_IsBody a1) (deeper_IsBody a2)
    deeper_IsIf (if_elif a0 a1 a2) = if_elif (deeper_IsLevel f src a0) (deeper_IsBody a1) (deeper_IsIf a2)
