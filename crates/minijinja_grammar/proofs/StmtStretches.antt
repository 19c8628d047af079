-- Of what follows a stretch of a statement only the first token counts.
use Rattle.std.proofs.Common.{◌≡◌, ℕ, Bool, List, [], ◌∷◌, refl, sym, ◌∙◌}
use Rattle.std.specs.Prelude.{codes}
use Rattle.minijinja_syntax.specs.Texts.{Text}
use Rattle.minijinja_value.specs.Values.{Functions}
use Rattle.minijinja_syntax.specs.Streams.{SpannedTok}
use Rattle.minijinja_syntax.specs.Tokens.{Tok, ident, template_data, variable_start, variable_end, block_start, block_end, dot, comma, assign, pipe, paren_open, paren_close}
use Rattle.minijinja_tree.specs.Tree.{Expr, Optional, Exprs, Stmt, Stmts}
use Rattle.minijinja_grammar.specs.Words.{is, is_identifier, in_word, if_word, else_word, elif_word, as_word, import_word, ignore_word, missing_word, with_word, without_word, context_word, endif_word, endwith_word, endset_word, endautoescape_word, endfilter_word, endblock_word, endmacro_word, endcall_word}
use Rattle.minijinja_grammar.specs.Statements.{Context, Ends, ends_body, begins_context, ends_names, IsWordIfAny, IsContextIfAny, IsIgnoreIfAny, IsEndName, IsImport, AreImports, IsValue, IsChainRow, IsChain, IsChainIfAny, IsFilterIfAny, AreBindings, AreSomeBindings, AreParams, AreMoreParams, AreParamsIfAny, IsBlank, IsBody, IsElse, IsIf, IsStmt, no_word, one_word, no_context, with_context, without_context, no_ignore, ignore_after_context, ignore, no_end_name, same_name, import_name, import_alias, no_imports, last_import, imports, one_value, values, first_filter, also_filter, chain, no_chain, one_chain, no_filter, one_filter, last_binding, more_bindings, no_bindings, bindings, no_params, param, param_with_default, no_more_params, more_params, no_parentheses, params_in_parentheses, blank_end, blank_data, body_end, text_end, data_part, output_part, stmt_part, no_else, else_part, if_alone, if_else, if_elif, for_stmt, if_stmt, with_stmt, set_stmt, set_block_stmt, autoescape_stmt, filter_stmt, block_stmt, required_block_stmt, extends_stmt, include_stmt, import_stmt, from_stmt, macro_stmt, call_stmt, do_stmt, break_stmt, continue_stmt}
use Rattle.minijinja_grammar.specs.Targets.{ends_targets, AreAttributes, IsTarget, AreTargets, AreMoreTargets, IsBound, no_attribute, also_attribute, in_parentheses, undotted, dotted_target, no_targets, one_target, list_of_targets, no_more_targets, last_target, more_targets, bound_targets, bound_name}
use Rattle.minijinja_grammar.specs.Stretches.{first}
use Rattle.minijinja_grammar.proofs.Stretches.{here, step, join, starts, comes_moved, Moved, moved_name, moved_IsExpr, moved_IsLevel, moved_AreArgsIfAny, moved_AreExprs}

pub moved_IsWordIfAny : {word : Tok} {ts : List SpannedTok} {rest : List SpannedTok} {e2 : Bool} → IsWordIfAny word ts rest e2 → (rest' : List SpannedTok) → first rest ≡ first rest' →
    Moved rest rest' (λ vs. IsWordIfAny word vs rest' e2) ts
moved_IsWordIfAny {word = word} {rest = rest} (no_word a0) rest' h = (rest', no_word (sym (comes_moved (is word) rest rest' h) ∙ a0), here)
moved_IsWordIfAny {word = word} {rest = rest} (one_word {s = s}) rest' h = (((word, s) ∷ rest'), one_word, (step here))

pub moved_IsContextIfAny : {ts : List SpannedTok} {rest : List SpannedTok} {e2 : Bool} → IsContextIfAny ts rest e2 → (rest' : List SpannedTok) → first rest ≡ first rest' →
    Moved rest rest' (λ vs. IsContextIfAny vs rest' e2) ts
moved_IsContextIfAny {rest = rest} (no_context a0) rest' h = (rest', no_context (sym (comes_moved begins_context rest rest' h) ∙ a0), here)
moved_IsContextIfAny {rest = rest} (with_context {s = s} {r = r}) rest' h = (((with_word, s) ∷ (context_word, r) ∷ rest'), with_context, (step (step here)))
moved_IsContextIfAny {rest = rest} (without_context {s = s} {r = r}) rest' h = (((without_word, s) ∷ (context_word, r) ∷ rest'), without_context, (step (step here)))

pub moved_IsIgnoreIfAny : {e0 : Bool} {ts : List SpannedTok} {rest : List SpannedTok} {e3 : Bool} → IsIgnoreIfAny e0 ts rest e3 → (rest' : List SpannedTok) → first rest ≡ first rest' →
    Moved rest rest' (λ vs. IsIgnoreIfAny e0 vs rest' e3) ts
moved_IsIgnoreIfAny {rest = rest} (no_ignore a0) rest' h = (rest', no_ignore (sym (comes_moved (is ignore_word) rest rest' h) ∙ a0), here)
moved_IsIgnoreIfAny {rest = rest} (ignore_after_context {s = s} {r = r}) rest' h = (((ignore_word, s) ∷ (missing_word, r) ∷ rest'), ignore_after_context, (step (step here)))
moved_IsIgnoreIfAny {rest = rest} (ignore {s = s} {r = r} a0) rest' h = let u0 = moved_IsContextIfAny a0 rest' h in (
  ((ignore_word, s) ∷ (missing_word, r) ∷ u0.0),
  ignore u0.1,
  (step (step (join u0.2 here))),
)

pub moved_IsEndName : {x : Text} {ts : List SpannedTok} {rest : List SpannedTok} → IsEndName x ts rest → (rest' : List SpannedTok) → first rest ≡ first rest' →
    Moved rest rest' (λ vs. IsEndName x vs rest') ts
moved_IsEndName {rest = rest} (no_end_name a0) rest' h = (rest', no_end_name (sym (comes_moved is_identifier rest rest' h) ∙ a0), here)
moved_IsEndName {x = x} {rest = rest} (same_name {s = s}) rest' h = (((ident x, s) ∷ rest'), same_name, (step here))

module _ {C : Type 0} where
  pub moved_AreAttributes : {e0 : Expr C} {ts : List SpannedTok} {rest : List SpannedTok} {e3 : Expr C} → AreAttributes e0 ts rest e3 → (rest' : List SpannedTok) → first rest ≡ first rest' →
      Moved rest rest' (λ vs. AreAttributes e0 vs rest' e3) ts
  moved_AreAttributes {rest = rest} (no_attribute a0) rest' h = (rest', no_attribute (sym (comes_moved (is dot) rest rest' h) ∙ a0), here)
  moved_AreAttributes {rest = rest} (also_attribute {s = s} {r = r} {x = x} a0) rest' h = let u0 = moved_AreAttributes a0 rest' h in (
    ((dot, s) ∷ (ident x, r) ∷ u0.0),
    also_attribute u0.1,
    (step (step (join u0.2 here))),
  )

  mutual
    pub moved_IsTarget : {dotted : Bool} {d : ℕ} {ts : List SpannedTok} {rest : List SpannedTok} {e3 : Expr C} → IsTarget dotted d ts rest e3 → (rest' : List SpannedTok) → first rest ≡ first rest' →
        Moved rest rest' (λ vs. IsTarget dotted d vs rest' e3) ts
    moved_IsTarget {rest = rest} (in_parentheses {s = s} {r = r} a0) rest' h = let u0 = moved_AreTargets a0 ((paren_close, r) ∷ rest') refl in (
      ((paren_open, s) ∷ u0.0),
      in_parentheses u0.1,
      (step (join u0.2 (step here))),
    )
    moved_IsTarget {rest = rest} (undotted {x = x} {s = s} a0 a1 a2) rest' h = (((ident x, s) ∷ rest'), undotted a0 a1 a2, (step here))
    moved_IsTarget {rest = rest} (dotted_target {x = x} {s = s} a0 a1 a2 a3) rest' h = let u0 = moved_AreAttributes a3 rest' h in (
      ((ident x, s) ∷ u0.0),
      dotted_target a0 a1 a2 u0.1,
      (step (join u0.2 here)),
    )

    pub moved_AreTargets : {dotted : Bool} {d : ℕ} {ts : List SpannedTok} {rest : List SpannedTok} {e3 : Expr C} → AreTargets dotted d ts rest e3 → (rest' : List SpannedTok) →
        first rest ≡ first rest' → Moved rest rest' (λ vs. AreTargets dotted d vs rest' e3) ts
    moved_AreTargets {rest = rest} (no_targets a0) rest' h = (rest', no_targets (sym (comes_moved ends_targets rest rest' h) ∙ a0), here)
    moved_AreTargets {rest = rest} (one_target {ts = ts} a0 a1 a2) rest' h = let u0 = moved_IsTarget a1 rest' h in (
      u0.0,
      one_target (sym (comes_moved ends_targets ts u0.0 (starts (join u0.2 here) h)) ∙ a0) u0.1 (sym (comes_moved (is comma) rest rest' h) ∙ a2),
      (join u0.2 here),
    )
    moved_AreTargets {rest = rest} (list_of_targets {s = s} {ts = ts} a0 a1 a2) rest' h = let u0 = moved_AreMoreTargets a2 rest' h in let u1 = moved_IsTarget a1 ((comma, s) ∷ u0.0) refl in (
      u1.0,
      list_of_targets (sym (comes_moved ends_targets ts u1.0 (starts (join u1.2 (step (join u0.2 here))) h)) ∙ a0) u1.1 u0.1,
      (join u1.2 (step (join u0.2 here))),
    )

    pub moved_AreMoreTargets : {dotted : Bool} {d : ℕ} {ts : List SpannedTok} {rest : List SpannedTok} {e3 : Exprs C} → AreMoreTargets dotted d ts rest e3 → (rest' : List SpannedTok) →
        first rest ≡ first rest' → Moved rest rest' (λ vs. AreMoreTargets dotted d vs rest' e3) ts
    moved_AreMoreTargets {rest = rest} (no_more_targets a0) rest' h = (rest', no_more_targets (sym (comes_moved ends_targets rest rest' h) ∙ a0), here)
    moved_AreMoreTargets {rest = rest} (last_target {ts = ts} a0 a1 a2) rest' h = let u0 = moved_IsTarget a1 rest' h in (
      u0.0,
      last_target (sym (comes_moved ends_targets ts u0.0 (starts (join u0.2 here) h)) ∙ a0) u0.1 (sym (comes_moved (is comma) rest rest' h) ∙ a2),
      (join u0.2 here),
    )
    moved_AreMoreTargets {rest = rest} (more_targets {s = s} {ts = ts} a0 a1 a2) rest' h = let u0 = moved_AreMoreTargets a2 rest' h in let u1 = moved_IsTarget a1 ((comma, s) ∷ u0.0) refl in (
      u1.0,
      more_targets (sym (comes_moved ends_targets ts u1.0 (starts (join u1.2 (step (join u0.2 here))) h)) ∙ a0) u1.1 u0.1,
      (join u1.2 (step (join u0.2 here))),
    )

  pub moved_IsBound : {d : ℕ} {ts : List SpannedTok} {rest : List SpannedTok} {e3 : Expr C} → IsBound d ts rest e3 → (rest' : List SpannedTok) → first rest ≡ first rest' →
      Moved rest rest' (λ vs. IsBound d vs rest' e3) ts
  moved_IsBound {rest = rest} (bound_targets {s = s} {r = r} a0) rest' h = let u0 = moved_AreTargets a0 ((paren_close, r) ∷ rest') refl in (
    ((paren_open, s) ∷ u0.0),
    bound_targets u0.1,
    (step (join u0.2 (step here))),
  )
  moved_IsBound {rest = rest} (bound_name {x = x} {s = s} a0) rest' h = (((ident x, s) ∷ rest'), bound_name a0, (step here))

  pub moved_IsImport : {ts : List SpannedTok} {rest : List SpannedTok} {e2 : Expr C} {e3 : Optional C} → IsImport ts rest e2 e3 → (rest' : List SpannedTok) → first rest ≡ first rest' →
      Moved rest rest' (λ vs. IsImport vs rest' e2 e3) ts
  moved_IsImport {rest = rest} (import_name {x = x} {s = s} a0 a1 a2) rest' h = (((ident x, s) ∷ rest'), import_name a0 a1 (sym (comes_moved (is as_word) rest rest' h) ∙ a2), (step here))
  moved_IsImport {rest = rest} (import_alias {x = x} {y = y} {s = s} {r = r} {q = q} a0 a1 a2) rest' h = (
    ((ident x, s) ∷ (as_word, r) ∷ (ident y, q) ∷ rest'),
    import_alias a0 a1 a2,
    (step (step (step here))),
  )

  pub moved_AreImports : {ts : List SpannedTok} {rest : List SpannedTok} {e2 : List (Expr C × Optional C)} → AreImports ts rest e2 → (rest' : List SpannedTok) → first rest ≡ first rest' →
      Moved rest rest' (λ vs. AreImports vs rest' e2) ts
  moved_AreImports {rest = rest} (no_imports a0) rest' h = (rest', no_imports (sym (comes_moved ends_names rest rest' h) ∙ a0), here)
  moved_AreImports {rest = rest} (last_import {ts = ts} a0 a1 a2) rest' h = let u0 = moved_IsImport a1 rest' h in (
    u0.0,
    last_import (sym (comes_moved ends_names ts u0.0 (starts (join u0.2 here) h)) ∙ a0) u0.1 (sym (comes_moved (is comma) rest rest' h) ∙ a2),
    (join u0.2 here),
  )
  moved_AreImports {rest = rest} (imports {s = s} {ts = ts} a0 a1 a2) rest' h = let u0 = moved_AreImports a2 rest' h in let u1 = moved_IsImport a1 ((comma, s) ∷ u0.0) refl in (
    u1.0,
    imports (sym (comes_moved ends_names ts u1.0 (starts (join u1.2 (step (join u0.2 here))) h)) ∙ a0) u1.1 u0.1,
    (join u1.2 (step (join u0.2 here))),
  )

module _ {C F : Type 0} (f : Functions C F) (src : Text) where
  pub moved_IsValue : {d : ℕ} {ts : List SpannedTok} {rest : List SpannedTok} {e3 : Expr C} → IsValue f src d ts rest e3 → (rest' : List SpannedTok) → first rest ≡ first rest' →
      Moved rest rest' (λ vs. IsValue f src d vs rest' e3) ts
  moved_IsValue {rest = rest} (one_value a0 a1) rest' h = let u0 = moved_IsExpr f src a0 rest' h in (u0.0, one_value u0.1 (sym (comes_moved (is comma) rest rest' h) ∙ a1), (join u0.2 here))
  moved_IsValue {rest = rest} (values {s = s} a0 a1) rest' h = let u0 = moved_AreExprs f src a1 rest' h in let u1 = moved_IsExpr f src a0 ((comma, s) ∷ u0.0) refl in (
    u1.0,
    values u1.1 u0.1,
    (join u1.2 (step (join u0.2 here))),
  )

  pub moved_IsChainRow : {d : ℕ} {ts : List SpannedTok} {rest : List SpannedTok} {e3 : Expr C} → IsChainRow f src d ts rest e3 → (rest' : List SpannedTok) → first rest ≡ first rest' →
      Moved rest rest' (λ vs. IsChainRow f src d vs rest' e3) ts
  moved_IsChainRow {rest = rest} (first_filter a0 a1) rest' h = let u0 = moved_AreArgsIfAny f src a1 rest' h in let u1 = moved_name src a0 u0.0 (starts (join u0.2 here) h) in (
    u1.0,
    first_filter u1.1 u0.1,
    (join u1.2 (join u0.2 here)),
  )
  moved_IsChainRow {rest = rest} (also_filter {s = s} a0 a1 a2) rest' h = let u0 = moved_AreArgsIfAny f src a2 rest' h in let u1 = moved_name src a1 u0.0 (starts (join u0.2 here) h) in
      let u2 = moved_IsChainRow a0 ((pipe, s) ∷ u1.0) refl in (u2.0, also_filter u2.1 u1.1 u0.1, (join u2.2 (step (join u1.2 (join u0.2 here)))))

  pub moved_IsChain : {d : ℕ} {ts : List SpannedTok} {rest : List SpannedTok} {e3 : Expr C} → IsChain f src d ts rest e3 → (rest' : List SpannedTok) → first rest ≡ first rest' →
      Moved rest rest' (λ vs. IsChain f src d vs rest' e3) ts
  moved_IsChain {rest = rest} (chain a0 a1) rest' h = let u0 = moved_IsChainRow a0 rest' h in (u0.0, chain u0.1 (sym (comes_moved (is pipe) rest rest' h) ∙ a1), (join u0.2 here))

  pub moved_IsChainIfAny : {d : ℕ} {ts : List SpannedTok} {rest : List SpannedTok} {e3 : Optional C} → IsChainIfAny f src d ts rest e3 → (rest' : List SpannedTok) → first rest ≡ first rest' →
      Moved rest rest' (λ vs. IsChainIfAny f src d vs rest' e3) ts
  moved_IsChainIfAny {rest = rest} (no_chain a0) rest' h = (rest', no_chain (sym (comes_moved (is pipe) rest rest' h) ∙ a0), here)
  moved_IsChainIfAny {rest = rest} (one_chain {s = s} a0) rest' h = let u0 = moved_IsChain a0 rest' h in (((pipe, s) ∷ u0.0), one_chain u0.1, (step (join u0.2 here)))

  pub moved_IsFilterIfAny : {d : ℕ} {ts : List SpannedTok} {rest : List SpannedTok} {e3 : Optional C} → IsFilterIfAny f src d ts rest e3 → (rest' : List SpannedTok) → first rest ≡ first rest' →
      Moved rest rest' (λ vs. IsFilterIfAny f src d vs rest' e3) ts
  moved_IsFilterIfAny {rest = rest} (no_filter a0) rest' h = (rest', no_filter (sym (comes_moved (is if_word) rest rest' h) ∙ a0), here)
  moved_IsFilterIfAny {rest = rest} (one_filter {s = s} a0) rest' h = let u0 = moved_IsExpr f src a0 rest' h in (((if_word, s) ∷ u0.0), one_filter u0.1, (step (join u0.2 here)))

  pub moved_AreSomeBindings : {d : ℕ} {ts : List SpannedTok} {rest : List SpannedTok} {e3 : List (Expr C × Expr C)} → AreSomeBindings f src d ts rest e3 → (rest' : List SpannedTok) →
      first rest ≡ first rest' → Moved rest rest' (λ vs. AreSomeBindings f src d vs rest' e3) ts
  moved_AreSomeBindings {rest = rest} (last_binding {s = s} a0 a1 a2) rest' h = let u0 = moved_IsExpr f src a1 rest' h in let u1 = moved_IsBound a0 ((assign, s) ∷ u0.0) refl in (
    u1.0,
    last_binding u1.1 u0.1 (sym (comes_moved (is comma) rest rest' h) ∙ a2),
    (join u1.2 (step (join u0.2 here))),
  )
  moved_AreSomeBindings {rest = rest} (more_bindings {s = s} {r = r} a0 a1 a2) rest' h = let u0 = moved_AreSomeBindings a2 rest' h in let u1 = moved_IsExpr f src a1 ((comma, r) ∷ u0.0) refl in
      let u2 = moved_IsBound a0 ((assign, s) ∷ u1.0) refl in (u2.0, more_bindings u2.1 u1.1 u0.1, (join u2.2 (step (join u1.2 (step (join u0.2 here))))))

  pub moved_AreBindings : {d : ℕ} {ts : List SpannedTok} {rest : List SpannedTok} {e3 : List (Expr C × Expr C)} → AreBindings f src d ts rest e3 → (rest' : List SpannedTok) →
      first rest ≡ first rest' → Moved rest rest' (λ vs. AreBindings f src d vs rest' e3) ts
  moved_AreBindings {rest = rest} (no_bindings a0) rest' h = (rest', no_bindings (sym (comes_moved (is block_end) rest rest' h) ∙ a0), here)
  moved_AreBindings {rest = rest} (bindings {ts = ts} a0 a1) rest' h = let u0 = moved_AreSomeBindings a1 rest' h in (
    u0.0,
    bindings (sym (comes_moved (is block_end) ts u0.0 (starts (join u0.2 here) h)) ∙ a0) u0.1,
    (join u0.2 here),
  )

  mutual
    pub moved_AreParams : {d : ℕ} {ts : List SpannedTok} {rest : List SpannedTok} {e3 : List (Expr C × Optional C)} → AreParams f src d ts rest e3 → (rest' : List SpannedTok) →
        first rest ≡ first rest' → Moved rest rest' (λ vs. AreParams f src d vs rest' e3) ts
    moved_AreParams {rest = rest} (no_params a0) rest' h = (rest', no_params (sym (comes_moved is_identifier rest rest' h) ∙ a0), here)
    moved_AreParams {rest = rest} (param {x = x} {s = s} {ts = ts} a0 a1 a2) rest' h = let u0 = moved_AreMoreParams a2 rest' h in (
      ((ident x, s) ∷ u0.0),
      param a0 (sym (comes_moved (is assign) ts u0.0 (starts (join u0.2 here) h)) ∙ a1) u0.1,
      (step (join u0.2 here)),
    )
    moved_AreParams {rest = rest} (param_with_default {x = x} {s = s} {r = r} a0 a1 a2) rest' h = let u0 = moved_AreMoreParams a2 rest' h in
        let u1 = moved_IsExpr f src a1 u0.0 (starts (join u0.2 here) h) in (((ident x, s) ∷ (assign, r) ∷ u1.0), param_with_default a0 u1.1 u0.1, (step (step (join u1.2 (join u0.2 here)))))

    pub moved_AreMoreParams : {d : ℕ} {ts : List SpannedTok} {rest : List SpannedTok} {e3 : List (Expr C × Optional C)} → AreMoreParams f src d ts rest e3 → (rest' : List SpannedTok) →
        first rest ≡ first rest' → Moved rest rest' (λ vs. AreMoreParams f src d vs rest' e3) ts
    moved_AreMoreParams {rest = rest} (no_more_params a0) rest' h = (rest', no_more_params (sym (comes_moved (is comma) rest rest' h) ∙ a0), here)
    moved_AreMoreParams {rest = rest} (more_params {s = s} a0) rest' h = let u0 = moved_AreParams a0 rest' h in (((comma, s) ∷ u0.0), more_params u0.1, (step (join u0.2 here)))

  pub moved_AreParamsIfAny : {d : ℕ} {ts : List SpannedTok} {rest : List SpannedTok} {e3 : List (Expr C × Optional C)} → AreParamsIfAny f src d ts rest e3 → (rest' : List SpannedTok) →
      first rest ≡ first rest' → Moved rest rest' (λ vs. AreParamsIfAny f src d vs rest' e3) ts
  moved_AreParamsIfAny {rest = rest} (no_parentheses a0) rest' h = (rest', no_parentheses (sym (comes_moved (is paren_open) rest rest' h) ∙ a0), here)
  moved_AreParamsIfAny {rest = rest} (params_in_parentheses {s = s} {r = r} a0 a1) rest' h = let u0 = moved_AreParams a0 ((paren_close, r) ∷ rest') refl in (
    ((paren_open, s) ∷ u0.0),
    params_in_parentheses u0.1 a1,
    (step (join u0.2 (step here))),
  )

  pub moved_IsBlank : {ts : List SpannedTok} {rest : List SpannedTok} {e2 : Stmts C (Unit {0})} → IsBlank f src ts rest e2 → (rest' : List SpannedTok) → first rest ≡ first rest' →
      Moved rest rest' (λ vs. IsBlank f src vs rest' e2) ts
  moved_IsBlank {rest = rest} (blank_end {s = s}) rest' h = (((block_start, s) ∷ rest'), blank_end, (step here))
  moved_IsBlank {rest = rest} (blank_data {t = t} {s = s} a0 a1) rest' h = let u0 = moved_IsBlank a1 rest' h in (((template_data t, s) ∷ u0.0), blank_data a0 u0.1, (step (join u0.2 here)))

  mutual
    pub moved_IsBody : {c : Context} {w : Ends} {d : ℕ} {ts : List SpannedTok} {rest : List SpannedTok} {e5 : Stmts C (Unit {0})} → IsBody f src c w d ts rest e5 → (rest' : List SpannedTok) →
        first rest ≡ first rest' → Moved rest rest' (λ vs. IsBody f src c w d vs rest' e5) ts
    moved_IsBody {rest = rest} (body_end {w = w} {s = s} a0) rest' h = (((block_start, s) ∷ rest'), body_end (sym (comes_moved (ends_body w) rest rest' h) ∙ a0), (step here))
    moved_IsBody text_end [] h = ([], text_end, here)
    moved_IsBody text_end (t ∷ ts) h = cc
    moved_IsBody {rest = rest} (data_part {t = t} {s = s} a0) rest' h = let u0 = moved_IsBody a0 rest' h in (((template_data t, s) ∷ u0.0), data_part u0.1, (step (join u0.2 here)))
    moved_IsBody {rest = rest} (output_part {s = s} {r = r} a0 a1) rest' h = let u0 = moved_IsBody a1 rest' h in let u1 = moved_IsExpr f src a0 ((variable_end, r) ∷ u0.0) refl in (
      ((
        variable_start,
        s,
      ) ∷ u1.0),
      output_part u1.1 u0.1,
      (step (join u1.2 (step (join u0.2 here)))),
    )
    moved_IsBody {rest = rest} (stmt_part {w = w} {s = s} {r = r} {ts = ts} a0 a1 a2) rest' h = let u0 = moved_IsBody a2 rest' h in let u1 = moved_IsStmt a1 ((block_end, r) ∷ u0.0) refl in
        (((block_start, s) ∷ u1.0), stmt_part (sym (comes_moved (ends_body w) ts u1.0 (starts (join u1.2 (step (join u0.2 here))) h)) ∙ a0) u1.1 u0.1, (step (join u1.2 (step (join u0.2 here)))))

    pub moved_IsElse : {c : Context} {w : Ends} {word : Tok} {d : ℕ} {ts : List SpannedTok} {rest : List SpannedTok} {e6 : Stmts C (Unit {0})} → IsElse f src c w word d ts rest e6 →
        (rest' : List SpannedTok) → first rest ≡ first rest' → Moved rest rest' (λ vs. IsElse f src c w word d vs rest' e6) ts
    moved_IsElse {rest = rest} (no_else {word = word} {s = s} a0) rest' h = (((word, s) ∷ rest'), no_else a0, (step here))
    moved_IsElse {rest = rest} (else_part {word = word} {s = s} {r = r} {q = q} a0) rest' h = let u0 = moved_IsBody a0 ((word, q) ∷ rest') refl in (
      ((else_word, s) ∷ (block_end, r) ∷ u0.0),
      else_part u0.1,
      (step (step (join u0.2 (step here)))),
    )

    pub moved_IsIf : {c : Context} {d : ℕ} {ts : List SpannedTok} {rest : List SpannedTok} {e4 : Stmt C (Unit {0})} → IsIf f src c d ts rest e4 → (rest' : List SpannedTok) →
        first rest ≡ first rest' → Moved rest rest' (λ vs. IsIf f src c d vs rest' e4) ts
    moved_IsIf {rest = rest} (if_alone {s = s} {r = r} a0 a1) rest' h = let u0 = moved_IsBody a1 ((endif_word, r) ∷ rest') refl in let u1 = moved_IsLevel f src a0 ((block_end, s) ∷ u0.0) refl in
        (u1.0, if_alone u1.1 u0.1, (join u1.2 (step (join u0.2 (step here)))))
    moved_IsIf {rest = rest} (if_else {s = s} {r = r} {q = q} {p = p} a0 a1 a2) rest' h = let u0 = moved_IsBody a2 ((endif_word, p) ∷ rest') refl in let u1 = moved_IsBody a1 ((
      else_word,
      r,
    ) ∷ (block_end, q) ∷ u0.0) refl in let u2 = moved_IsLevel f src a0 ((block_end, s) ∷ u1.0) refl in (
      u2.0,
      if_else u2.1 u1.1 u0.1,
      (join u2.2 (step (join u1.2 (step (step (join u0.2 (step here))))))),
    )
    moved_IsIf {rest = rest} (if_elif {s = s} {r = r} a0 a1 a2) rest' h = let u0 = moved_IsIf a2 rest' h in let u1 = moved_IsBody a1 ((elif_word, r) ∷ u0.0) refl in
        let u2 = moved_IsLevel f src a0 ((block_end, s) ∷ u1.0) refl in (u2.0, if_elif u2.1 u1.1 u0.1, (join u2.2 (step (join u1.2 (step (join u0.2 here))))))

    pub moved_IsStmt : {c : Context} {d : ℕ} {ts : List SpannedTok} {rest : List SpannedTok} {e4 : Stmt C (Unit {0})} → IsStmt f src c d ts rest e4 → (rest' : List SpannedTok) →
        first rest ≡ first rest' → Moved rest rest' (λ vs. IsStmt f src c d vs rest' e4) ts
    moved_IsStmt {rest = rest} (for_stmt {s = s} {r = r} {q = q} a0 a1 a2 a3 a4 a5) rest' h = let u0 = moved_IsElse a5 rest' h in let u1 = moved_IsBody a4 u0.0 (starts (join u0.2 here) h) in
        let u2 = moved_IsWordIfAny a3 ((block_end, q) ∷ u1.0) refl in let u3 = moved_IsFilterIfAny a2 u2.0 (starts (join u2.2 (step (join u1.2 (join u0.2 here)))) h) in
        let u4 = moved_IsLevel f src a1 u3.0 (starts (join u3.2 (join u2.2 (step (join u1.2 (join u0.2 here))))) h) in let u5 = moved_AreTargets a0 ((in_word, r) ∷ u4.0) refl in
        (((ident (codes "for"), s) ∷ u5.0), for_stmt u5.1 u4.1 u3.1 u2.1 u1.1 u0.1, (step (join u5.2 (step (join u4.2 (join u3.2 (join u2.2 (step (join u1.2 (join u0.2 here))))))))))
    moved_IsStmt {rest = rest} (if_stmt {s = s} a0) rest' h = let u0 = moved_IsIf a0 rest' h in (((if_word, s) ∷ u0.0), if_stmt u0.1, (step (join u0.2 here)))
    moved_IsStmt {rest = rest} (with_stmt {s = s} {r = r} {q = q} a0 a1) rest' h = let u0 = moved_IsBody a1 ((endwith_word, q) ∷ rest') refl in let u1 = moved_AreBindings a0 ((
      block_end,
      r,
    ) ∷ u0.0) refl in (((with_word, s) ∷ u1.0), with_stmt u1.1 u0.1, (step (join u1.2 (step (join u0.2 (step here))))))
    moved_IsStmt {rest = rest} (set_stmt {s = s} {r = r} a0 a1) rest' h = let u0 = moved_IsValue a1 rest' h in let u1 = moved_AreTargets a0 ((assign, r) ∷ u0.0) refl in (
      ((
        ident (codes "set"),
        s,
      ) ∷ u1.0),
      set_stmt u1.1 u0.1,
      (step (join u1.2 (step (join u0.2 here)))),
    )
    moved_IsStmt {rest = rest} (set_block_stmt {s = s} {r = r} {q = q} a0 a1 a2) rest' h = let u0 = moved_IsBody a2 ((endset_word, q) ∷ rest') refl in let u1 = moved_IsChainIfAny a1 ((
      block_end,
      r,
    ) ∷ u0.0) refl in let u2 = moved_AreTargets a0 u1.0 (starts (join u1.2 (step (join u0.2 (step here)))) h) in (
      ((ident (codes "set"), s) ∷ u2.0),
      set_block_stmt u2.1 u1.1 u0.1,
      (step (join u2.2 (join u1.2 (step (join u0.2 (step here)))))),
    )
    moved_IsStmt {rest = rest} (autoescape_stmt {s = s} {r = r} {q = q} a0 a1) rest' h = let u0 = moved_IsBody a1 ((endautoescape_word, q) ∷ rest') refl in let u1 = moved_IsExpr f src a0 ((
      block_end,
      r,
    ) ∷ u0.0) refl in (((ident (codes "autoescape"), s) ∷ u1.0), autoescape_stmt u1.1 u0.1, (step (join u1.2 (step (join u0.2 (step here))))))
    moved_IsStmt {rest = rest} (filter_stmt {s = s} {r = r} {q = q} a0 a1) rest' h = let u0 = moved_IsBody a1 ((endfilter_word, q) ∷ rest') refl in let u1 = moved_IsChain a0 ((
      block_end,
      r,
    ) ∷ u0.0) refl in (((ident (codes "filter"), s) ∷ u1.0), filter_stmt u1.1 u0.1, (step (join u1.2 (step (join u0.2 (step here))))))
    moved_IsStmt {rest = rest} (block_stmt {s = s} {r = r} {q = q} {p = p} {x = x} a0 a1 a2 a3 a4) rest' h = let u0 = moved_IsEndName a4 rest' h in let u1 = moved_IsBody a3 ((
      endblock_word,
      q,
    ) ∷ u0.0) refl in let u2 = moved_IsWordIfAny a2 ((block_end, r) ∷ u1.0) refl in let u3 = moved_IsWordIfAny a1 u2.0 (starts (join u2.2 (step (join u1.2 (step (join u0.2 here))))) h) in
        (((ident (codes "block"), s) ∷ (ident x, p) ∷ u3.0), block_stmt a0 u3.1 u2.1 u1.1 u0.1, (step (step (join u3.2 (join u2.2 (step (join u1.2 (step (join u0.2 here)))))))))
    moved_IsStmt {rest = rest} (required_block_stmt {s = s} {r = r} {q = q} {p = p} {x = x} a0 a1 a2 a3 a4) rest' h = let u0 = moved_IsEndName a4 rest' h in let u1 = moved_IsBlank a3 ((
      endblock_word,
      q,
    ) ∷ u0.0) refl in let u2 = moved_IsWordIfAny a2 ((block_end, r) ∷ u1.0) refl in let u3 = moved_IsWordIfAny a1 u2.0 (starts (join u2.2 (step (join u1.2 (step (join u0.2 here))))) h) in
        (((ident (codes "block"), s) ∷ (ident x, p) ∷ u3.0), required_block_stmt a0 u3.1 u2.1 u1.1 u0.1, (step (step (join u3.2 (join u2.2 (step (join u1.2 (step (join u0.2 here)))))))))
    moved_IsStmt {rest = rest} (extends_stmt {s = s} a0) rest' h = let u0 = moved_IsExpr f src a0 rest' h in (((ident (codes "extends"), s) ∷ u0.0), extends_stmt u0.1, (step (join u0.2 here)))
    moved_IsStmt {rest = rest} (include_stmt {s = s} a0 a1 a2) rest' h = let u0 = moved_IsIgnoreIfAny a2 rest' h in let u1 = moved_IsContextIfAny a1 u0.0 (starts (join u0.2 here) h) in
        let u2 = moved_IsExpr f src a0 u1.0 (starts (join u1.2 (join u0.2 here)) h) in (
          ((ident (codes "include"), s) ∷ u2.0),
          include_stmt u2.1 u1.1 u0.1,
          (step (join u2.2 (join u1.2 (join u0.2 here)))),
        )
    moved_IsStmt {rest = rest} (import_stmt {s = s} {r = r} a0 a1 a2 a3) rest' h = let u0 = moved_IsContextIfAny a3 rest' h in let u1 = moved_IsExpr f src a1 u0.0 (starts (join u0.2 here) h) in
        let u2 = moved_IsExpr f src a0 ((as_word, r) ∷ u1.0) refl in (((import_word, s) ∷ u2.0), import_stmt u2.1 u1.1 a2 u0.1, (step (join u2.2 (step (join u1.2 (join u0.2 here))))))
    moved_IsStmt {rest = rest} (from_stmt {s = s} {r = r} a0 a1 a2) rest' h = let u0 = moved_IsContextIfAny a2 rest' h in let u1 = moved_AreImports a1 u0.0 (starts (join u0.2 here) h) in
        let u2 = moved_IsExpr f src a0 ((import_word, r) ∷ u1.0) refl in (((ident (codes "from"), s) ∷ u2.0), from_stmt u2.1 u1.1 u0.1, (step (join u2.2 (step (join u1.2 (join u0.2 here))))))
    moved_IsStmt {rest = rest} (macro_stmt {s = s} {p = p} {o = o} {r = r} {q = q} {t = t} {x = x} a0 a1 a2) rest' h = let u0 = moved_IsBody a2 ((endmacro_word, t) ∷ rest') refl in
        let u1 = moved_AreParams a0 ((paren_close, r) ∷ (block_end, q) ∷ u0.0) refl in (
          ((ident (codes "macro"), s) ∷ (ident x, p) ∷ (paren_open, o) ∷ u1.0),
          macro_stmt u1.1 a1 u0.1,
          (step (step (step (join u1.2 (step (step (join u0.2 (step here)))))))),
        )
    moved_IsStmt {rest = rest} (call_stmt {s = s} {r = r} {q = q} a0 a1 a2) rest' h = let u0 = moved_IsBody a2 ((endcall_word, q) ∷ rest') refl in let u1 = moved_IsExpr f src a1 ((
      block_end,
      r,
    ) ∷ u0.0) refl in let u2 = moved_AreParamsIfAny a0 u1.0 (starts (join u1.2 (step (join u0.2 (step here)))) h) in (
      ((ident (codes "call"), s) ∷ u2.0),
      call_stmt u2.1 u1.1 u0.1,
      (step (join u2.2 (join u1.2 (step (join u0.2 (step here)))))),
    )
    moved_IsStmt {rest = rest} (do_stmt {s = s} a0) rest' h = let u0 = moved_IsExpr f src a0 rest' h in (((ident (codes "do"), s) ∷ u0.0), do_stmt u0.1, (step (join u0.2 here)))
    moved_IsStmt {rest = rest} (break_stmt {s = s} a0) rest' h = (((ident (codes "break"), s) ∷ rest'), break_stmt a0, (step here))
    moved_IsStmt {rest = rest} (continue_stmt {s = s} a0) rest' h = (((ident (codes "continue"), s) ∷ rest'), continue_stmt a0, (step here))
