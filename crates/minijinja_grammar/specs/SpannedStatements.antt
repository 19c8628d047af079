-- Where the nodes of statements stand: the tree of their derivation with spans, as for expressions
-- (SpannedExpressions). A statement goes from its first word to its last token, an output from the
-- start of its tag to the end of its expression, a tuple of values from the token after the first
-- comma, and data where its token does. The macro of a statement stands where the statement does.
use Rattle.std.specs.Prelude.{ℕ, Bool, true, false, List, [], ◌∷◌, Option, Some, None, codes}
use Rattle.minijinja_syntax.specs.Texts.{Text}
use Rattle.minijinja_syntax.specs.Tokens.{Tok}
use Rattle.minijinja_syntax.specs.Positions.{expanded}
use Rattle.minijinja_syntax.specs.declared.tokens.Span.{Span}
use Rattle.minijinja_syntax.specs.Streams.{SpannedTok}
use Rattle.minijinja_value.specs.Values.{Functions}
use Rattle.minijinja_tree.specs.Tree as bare
use Rattle.minijinja_tree.specs.SpannedTrees.{Expr, Args, variable, call, filter, tuple, no_args, Optional, absent, present, optional_of, exprs_of, args_of, Stmt, data_text, output, assignment, for_loop, if_cond, with_block, set_block, auto_escape, filter_block, named_block, extends, include, import_all, from_import, declare, call_block, do_call, break_loop, continue_loop, stmts_of, macro_of}
use Rattle.minijinja_grammar.specs.TokenSpans.{first_span}
use Rattle.minijinja_grammar.specs.SpannedExpressions.{end_of_name, spanned_expr, spanned_level, spanned_exprs, spanned_args_if_any}
use Rattle.minijinja_grammar.specs.SpannedTargets.{spanned_targets, spanned_bound}
use Rattle.minijinja_grammar.specs.Statements.{Ends, Context, IsContextIfAny, no_context, with_context, without_context, IsIgnoreIfAny, no_ignore, ignore_after_context, ignore, IsEndName, no_end_name, same_name, IsImport, import_name, import_alias, AreImports, no_imports, last_import, imports, IsValue, one_value, values, IsChainRow, first_filter, also_filter, IsChain, chain, IsChainIfAny, no_chain, one_chain, IsFilterIfAny, no_filter, one_filter, AreBindings, no_bindings, bindings, AreSomeBindings, last_binding, more_bindings, AreParams, no_params, param, param_with_default, AreMoreParams, no_more_params, more_params, AreParamsIfAny, no_parentheses, params_in_parentheses, IsBlank, blank_end, blank_data, IsBody, body_end, text_end, data_part, output_part, stmt_part, IsElse, no_else, else_part, IsIf, if_alone, if_else, if_elif, IsStmt, for_stmt, if_stmt, with_stmt, set_stmt, set_block_stmt, autoescape_stmt, filter_stmt, block_stmt, required_block_stmt, extends_stmt, include_stmt, import_stmt, from_stmt, macro_stmt, call_stmt, do_stmt, break_stmt, continue_stmt}

-- ---- the last tokens of parts that have no node

abbrev pub end_of_context : {had : Bool} {ts rest : List SpannedTok} → (before : Span) → IsContextIfAny ts rest had → Span
end_of_context before (no_context i) = before
end_of_context before (with_context {r = r}) = r
end_of_context before (without_context {r = r}) = r

abbrev pub end_of_ignore : {had missing : Bool} {ts rest : List SpannedTok} → (before : Span) → IsIgnoreIfAny had ts rest missing → Span
end_of_ignore before (no_ignore i) = before
end_of_ignore before (ignore_after_context {r = r}) = r
end_of_ignore before (ignore {r = r} a) = end_of_context r a

abbrev pub end_of_end_name : {x : Text} {ts rest : List SpannedTok} → (before : Span) → IsEndName x ts rest → Span
end_of_end_name before (no_end_name i) = before
end_of_end_name before (same_name {s = s}) = s

-- ---- parts

-- the parts of a call, which all expressions are that stand where one is wanted: what is called,
-- the arguments, and where the call stands
abbrev pub call_parts : {C : Type 0} → Expr C → (before : Span) → Expr C × Args C × Span
call_parts (call e xs s) before = (e, xs, s)
call_parts e before = (e, no_args, before)

-- names that are imported, with their aliases
abbrev pub spanned_import : {C : Type 0} {ts rest : List SpannedTok} {e : bare.Expr C} {a : bare.Optional C} → IsImport ts rest e a → (Expr C × Optional C) × Span
spanned_import (import_name {x = x} {s = s} i j k) = ((variable x s, absent), s)
spanned_import (import_alias {x = x} {y = y} {s = s} {q = q} i j k) = ((variable x s, present (variable y q)), q)

abbrev pub spanned_imports : {C : Type 0} {ts rest : List SpannedTok} {ns : List (bare.Expr C × bare.Optional C)} → (before : Span) → AreImports ts rest ns → List (Expr C × Optional C) × Span
spanned_imports before (no_imports i) = ([], before)
spanned_imports before (last_import i a j) = let x = spanned_import a in (x.0 ∷ [], x.1)
spanned_imports before (imports {s = s} i a m) =
    let x = spanned_import a in
    let xs = spanned_imports s m in
    (x.0 ∷ xs.0, xs.1)

module _ {C F : Type 0} (f : Functions C F) (source : Text) where
  abbrev pub spanned_value : {d : ℕ} {ts rest : List SpannedTok} {e : bare.Expr C} → (before : Span) → IsValue f source d ts rest e → Expr C × Span
  spanned_value before (one_value a i) = spanned_expr f source before a
  spanned_value before (values {s = s} {us = us} a m) =
      let x = spanned_expr f source before a in
      let xs = spanned_exprs f source s m in
      (tuple (exprs_of (x.0 ∷ xs.0)) (expanded (first_span s us) xs.1), xs.1)

  abbrev pub spanned_chain_row : {d : ℕ} {ts rest : List SpannedTok} {e : bare.Expr C} → (before : Span) → IsChainRow f source d ts rest e → Expr C × Span
  spanned_chain_row before (first_filter {ts = ts} {x = x} n c) =
      let xs = spanned_args_if_any f source (end_of_name n) c in
      (filter absent x (args_of xs.0) (expanded (first_span before ts) xs.1), xs.1)
  spanned_chain_row before (also_filter {s = s} {us = us} {x = x} a n c) =
      let e = spanned_chain_row before a in
      let xs = spanned_args_if_any f source (end_of_name n) c in
      (filter (present e.0) x (args_of xs.0) (expanded (first_span s us) xs.1), xs.1)

  abbrev pub spanned_chain : {d : ℕ} {ts rest : List SpannedTok} {e : bare.Expr C} → (before : Span) → IsChain f source d ts rest e → Expr C × Span
  spanned_chain before (chain a i) = spanned_chain_row before a

  abbrev pub spanned_chain_if_any : {d : ℕ} {ts rest : List SpannedTok} {e : bare.Optional C} → (before : Span) → IsChainIfAny f source d ts rest e → Option (Expr C) × Span
  spanned_chain_if_any before (no_chain i) = (None, before)
  spanned_chain_if_any before (one_chain {s = s} a) = let x = spanned_chain s a in (Some x.0, x.1)

  abbrev pub spanned_filter_if_any : {d : ℕ} {ts rest : List SpannedTok} {e : bare.Optional C} → (before : Span) → IsFilterIfAny f source d ts rest e → Option (Expr C) × Span
  spanned_filter_if_any before (no_filter i) = (None, before)
  spanned_filter_if_any before (one_filter {s = s} a) = let x = spanned_expr f source s a in (Some x.0, x.1)

  abbrev pub spanned_some_bindings : {d : ℕ} {ts rest : List SpannedTok} {bs : List (bare.Expr C × bare.Expr C)} → AreSomeBindings f source d ts rest bs → List (Expr C × Expr C) × Span
  spanned_some_bindings (last_binding {s = s} a c i) =
      let t = spanned_bound a in
      let x = spanned_expr f source s c in
      ((t.0, x.0) ∷ [], x.1)
  spanned_some_bindings (more_bindings {s = s} a c m) =
      let t = spanned_bound a in
      let x = spanned_expr f source s c in
      let xs = spanned_some_bindings m in
      ((t.0, x.0) ∷ xs.0, xs.1)

  abbrev pub spanned_bindings : {d : ℕ} {ts rest : List SpannedTok} {bs : List (bare.Expr C × bare.Expr C)} → (before : Span) → AreBindings f source d ts rest bs → List (Expr C × Expr C) × Span
  spanned_bindings before (no_bindings i) = ([], before)
  spanned_bindings before (bindings i a) = spanned_some_bindings a

  -- arguments of a macro, with their defaults
  abbrev mutual
    pub spanned_params : {d : ℕ} {ts rest : List SpannedTok} {ps : List (bare.Expr C × bare.Optional C)} → (before : Span) → AreParams f source d ts rest ps → List (Expr C × Option (Expr C)) × Span
    spanned_params before (no_params i) = ([], before)
    spanned_params before (param {x = x} {s = s} i j m) = let xs = spanned_more_params s m in ((variable x s, None) ∷ xs.0, xs.1)
    spanned_params before (param_with_default {x = x} {s = s} {r = r} i a m) =
        let e = spanned_expr f source r a in
        let xs = spanned_more_params e.1 m in
        ((variable x s, Some e.0) ∷ xs.0, xs.1)

    pub spanned_more_params : {d : ℕ} {ts rest : List SpannedTok} {ps : List (bare.Expr C × bare.Optional C)} → (before : Span) → AreMoreParams f source d ts rest ps → List (Expr C × Option (Expr C)) × Span
    spanned_more_params before (no_more_params i) = ([], before)
    spanned_more_params before (more_params {s = s} a) = spanned_params s a

  abbrev pub spanned_params_if_any : {d : ℕ} {ts rest : List SpannedTok} {ps : List (bare.Expr C × bare.Optional C)} → (before : Span) → AreParamsIfAny f source d ts rest ps → List (Expr C × Option (Expr C)) × Span
  spanned_params_if_any before (no_parentheses i) = ([], before)
  spanned_params_if_any before (params_in_parentheses {s = s} {r = r} a i) = let xs = spanned_params s a in (xs.0, r)

  -- ---- statements

  abbrev pub spanned_blank : {ts rest : List SpannedTok} {ss : bare.Stmts C (Unit {0})} → IsBlank f source ts rest ss → List (Stmt C) × Span
  spanned_blank (blank_end {s = s}) = ([], s)
  spanned_blank (blank_data {t = t} {s = s} i a) = let xs = spanned_blank a in (data_text t s ∷ xs.0, xs.1)

  abbrev mutual
    pub spanned_body : {c : Context} {w : Ends} {d : ℕ} {ts rest : List SpannedTok} {ss : bare.Stmts C (Unit {0})} → (before : Span) → IsBody f source c w d ts rest ss → List (Stmt C) × Span
    spanned_body before (body_end {s = s} i) = ([], s)
    spanned_body before text_end = ([], before)
    spanned_body before (data_part {t = t} {s = s} m) = let xs = spanned_body s m in (data_text t s ∷ xs.0, xs.1)
    spanned_body before (output_part {s = s} {r = r} a m) =
        let x = spanned_expr f source s a in
        let xs = spanned_body r m in
        (output x.0 (expanded s x.1) ∷ xs.0, xs.1)
    spanned_body before (stmt_part {r = r} i a m) =
        let x = spanned_stmt a in
        let xs = spanned_body r m in
        (x.0 ∷ xs.0, xs.1)

    pub spanned_else : {c : Context} {w : Ends} {word : Tok} {d : ℕ} {ts rest : List SpannedTok} {ss : bare.Stmts C (Unit {0})} → IsElse f source c w word d ts rest ss → List (Stmt C) × Span
    spanned_else (no_else {s = s} i) = ([], s)
    spanned_else (else_part {r = r} {q = q} a) = let xs = spanned_body r a in (xs.0, q)

    -- after the `if` or `elif` that it stands from
    pub spanned_if : {c : Context} {d : ℕ} {ts rest : List SpannedTok} {x : bare.Stmt C (Unit {0})} → (from : Span) → IsIf f source c d ts rest x → Stmt C × Span
    spanned_if from (if_alone {s = s} {r = r} a m) =
        let e = spanned_level f source from a in
        let ss = spanned_body s m in
        (if_cond e.0 (stmts_of ss.0) (stmts_of []) (expanded from r), r)
    spanned_if from (if_else {s = s} {q = q} {p = p} a m n) =
        let e = spanned_level f source from a in
        let ss = spanned_body s m in
        let zs = spanned_body q n in
        (if_cond e.0 (stmts_of ss.0) (stmts_of zs.0) (expanded from p), p)
    spanned_if from (if_elif {s = s} {r = r} a m n) =
        let e = spanned_level f source from a in
        let ss = spanned_body s m in
        let x = spanned_if r n in
        (if_cond e.0 (stmts_of ss.0) (stmts_of (x.0 ∷ [])) (expanded from x.1), x.1)

    pub spanned_stmt : {c : Context} {d : ℕ} {ts rest : List SpannedTok} {x : bare.Stmt C (Unit {0})} → IsStmt f source c d ts rest x → Stmt C × Span
    spanned_stmt (for_stmt {s = s} {r = r} {q = q} {again = again} a l o n m i) =
        let t = spanned_targets s a in
        let e = spanned_level f source r l in
        let only = spanned_filter_if_any e.1 o in
        let ss = spanned_body q m in
        let zs = spanned_else i in
        (for_loop t.0 e.0 (optional_of only.0) again (stmts_of ss.0) (stmts_of zs.0) (expanded s zs.1), zs.1)
    spanned_stmt (if_stmt {s = s} a) = spanned_if s a
    spanned_stmt (with_stmt {s = s} {r = r} {q = q} a m) =
        let bs = spanned_bindings s a in
        let ss = spanned_body r m in
        (with_block bs.0 (stmts_of ss.0) (expanded s q), q)
    spanned_stmt (set_stmt {s = s} {r = r} a m) =
        let t = spanned_targets s a in
        let e = spanned_value r m in
        (assignment t.0 e.0 (expanded s e.1), e.1)
    spanned_stmt (set_block_stmt {s = s} {r = r} {q = q} a i m) =
        let t = spanned_targets s a in
        let e = spanned_chain_if_any t.1 i in
        let ss = spanned_body r m in
        (set_block t.0 (optional_of e.0) (stmts_of ss.0) (expanded s q), q)
    spanned_stmt (autoescape_stmt {s = s} {r = r} {q = q} a m) =
        let e = spanned_expr f source s a in
        let ss = spanned_body r m in
        (auto_escape e.0 (stmts_of ss.0) (expanded s q), q)
    spanned_stmt (filter_stmt {s = s} {r = r} {q = q} a m) =
        let e = spanned_chain s a in
        let ss = spanned_body r m in
        (filter_block e.0 (stmts_of ss.0) (expanded s q), q)
    spanned_stmt (block_stmt {s = s} {r = r} {q = q} {x = x} i j k m n) =
        let ss = spanned_body r m in
        let to = end_of_end_name q n in
        (named_block x false (stmts_of ss.0) (expanded s to), to)
    spanned_stmt (required_block_stmt {s = s} {q = q} {x = x} i j k m n) =
        let ss = spanned_blank m in
        let to = end_of_end_name q n in
        (named_block x true (stmts_of ss.0) (expanded s to), to)
    spanned_stmt (extends_stmt {s = s} a) = let e = spanned_expr f source s a in (extends e.0 (expanded s e.1), e.1)
    spanned_stmt (include_stmt {s = s} {missing = missing} a i m) =
        let e = spanned_expr f source s a in
        let to = end_of_ignore (end_of_context e.1 i) m in
        (include e.0 missing (expanded s to), to)
    spanned_stmt (import_stmt {s = s} {r = r} a i n m) =
        let e = spanned_expr f source s a in
        let t = spanned_expr f source r i in
        let to = end_of_context t.1 m in
        (import_all e.0 t.0 (expanded s to), to)
    spanned_stmt (from_stmt {s = s} {r = r} a i m) =
        let e = spanned_expr f source s a in
        let ns = spanned_imports r i in
        let to = end_of_context ns.1 m in
        (from_import e.0 ns.0 (expanded s to), to)
    spanned_stmt (macro_stmt {s = s} {o = o} {q = q} {t = t} {x = x} a i m) =
        let ps = spanned_params o a in
        let ss = spanned_body q m in
        (declare (macro_of x ps.0 ss.0 (expanded s t)), t)
    spanned_stmt (call_stmt {s = s} {r = r} {q = q} a i m) =
        let ps = spanned_params_if_any s a in
        let e = spanned_expr f source ps.1 i in
        let c = call_parts e.0 e.1 in
        let ss = spanned_body r m in
        (call_block c.0 c.1 c.2 (macro_of (codes "caller") ps.0 ss.0 (expanded s q)) (expanded s q), q)
    spanned_stmt (do_stmt {s = s} a) =
        let e = spanned_expr f source s a in
        let c = call_parts e.0 e.1 in
        (do_call c.0 c.1 c.2 (expanded s e.1), e.1)
    spanned_stmt (break_stmt {s = s} i) = (break_loop (expanded s s), s)
    spanned_stmt (continue_stmt {s = s} i) = (continue_loop (expanded s s), s)
