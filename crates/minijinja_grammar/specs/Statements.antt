-- The grammar of statements, a relation for each rule: `IsX .. d ts rest x` says that the tokens
-- ts, as far as rest, are an X of depth at most d, and that x is its tree. The token that follows
-- is the first of rest.
use Rattle.std.specs.Prelude.{◌≡◌, ◌==◌, ℕ, suc, Bool, true, false, ◌||◌, List, [], ◌∷◌, length, map, if◌then◌else◌, nat_eq, codes}
use Rattle.std.specs.List.{starts_with}
use Rattle.std.specs.Str.{trim}
use Rattle.minijinja_syntax.specs.Texts.{Text}
use Rattle.minijinja_value.specs.Values.{Functions}
use Rattle.minijinja_syntax.specs.declared.tokens.Span.{Span}
use Rattle.minijinja_syntax.specs.Streams.{SpannedTok}
use Rattle.minijinja_syntax.specs.Tokens.{Tok, ident, template_data, variable_start, variable_end, block_start, block_end, comma, assign, pipe, paren_open, paren_close}
use Rattle.minijinja_tree.specs.Tree.{Expr, variable, call, filter, attribute, list, tuple, Optional, absent, present, Exprs, no_more, more, Args, Stmt, data_text, output, assignment, for_loop, if_cond, with_block, set_block, auto_escape, filter_block, named_block, extends, include, import_all, from_import, declare, call_block, do_call, break_loop, continue_loop, Macro, macro, Stmts, done, also}
use Rattle.minijinja_grammar.specs.Words.{is, is_identifier, is_reserved, in_word, if_word, else_word, elif_word, recursive_word, as_word, import_word, scoped_word, required_word, ignore_word, missing_word, with_word, without_word, context_word, endfor_word, endif_word, endwith_word, endset_word, endautoescape_word, endfilter_word, endblock_word, endmacro_word, endcall_word}
use Rattle.minijinja_grammar.specs.Ahead.{comes, IsName, or_level}
use Rattle.minijinja_grammar.specs.Expressions.{IsExpr, IsLevel, AreArgsIfAny, AreExprs}
use Rattle.minijinja_grammar.specs.Targets.{AreTargets, IsBound}

-- ---- where statements stand

-- what a body may end at: the words that may follow its last `{%`; a template's own goes on to the
-- end of the text
pub data Ends : Type 0 where
  at_end_of_text at_endfor_or_else at_endfor at_endif_else_or_elif at_endif at_endwith at_endset at_endautoescape at_endfilter at_endblock at_endmacro at_endcall : Ends

abbrev pub ends_body : Ends → Tok → Bool
ends_body at_end_of_text t = false
ends_body at_endfor_or_else t = is endfor_word t || is else_word t
ends_body at_endfor t = is endfor_word t
ends_body at_endif_else_or_elif t = is endif_word t || is else_word t || is elif_word t
ends_body at_endif t = is endif_word t
ends_body at_endwith t = is endwith_word t
ends_body at_endset t = is endset_word t
ends_body at_endautoescape t = is endautoescape_word t
ends_body at_endfilter t = is endfilter_word t
ends_body at_endblock t = is endblock_word t
ends_body at_endmacro t = is endmacro_word t
ends_body at_endcall t = is endcall_word t

-- whether the body of a loop is round a statement, in the same block, macro or call block, and
-- whether it is in a macro or call block
pub record Context : Type 0 where
  pub in_loop : Bool
  pub in_macro : Bool

abbrev pub outside : Context
outside = record { in_loop = false; in_macro = false }

abbrev pub inside_loop : Context → Context
inside_loop c = record c { in_loop = true }

abbrev pub inside_block : Context → Context
inside_block c = record c { in_loop = false }

abbrev pub inside_macro : Context
inside_macro = record { in_loop = false; in_macro = true }

-- ---- options without a tree

-- a word that may be there, and whether it is
pub data IsWordIfAny (word : Tok) : List SpannedTok → List SpannedTok → Bool → Type 0 where
  no_word : {rest : List SpannedTok} → comes (is word) rest ≡ false → IsWordIfAny word rest rest false
  one_word : {s : Span} {rest : List SpannedTok} → IsWordIfAny word ((word, s) ∷ rest) rest true

abbrev pub begins_context : Tok → Bool
begins_context t = is with_word t || is without_word t

-- [Ctx], with Ctx = ("with" | "without") "context", and whether it was there
pub data IsContextIfAny : List SpannedTok → List SpannedTok → Bool → Type 0 where
  no_context : {rest : List SpannedTok} → comes begins_context rest ≡ false → IsContextIfAny rest rest false
  with_context : {s r : Span} {rest : List SpannedTok} → IsContextIfAny ((with_word, s) ∷ (context_word, r) ∷ rest) rest true
  without_context : {s r : Span} {rest : List SpannedTok} → IsContextIfAny ((without_word, s) ∷ (context_word, r) ∷ rest) rest true

-- [ "ignore" "missing" [Ctx] ], where a Ctx is looked for only if none was there before
pub data IsIgnoreIfAny : Bool → List SpannedTok → List SpannedTok → Bool → Type 0 where
  no_ignore : {had : Bool} {rest : List SpannedTok} → comes (is ignore_word) rest ≡ false → IsIgnoreIfAny had rest rest false
  ignore_after_context : {s r : Span} {rest : List SpannedTok} → IsIgnoreIfAny true ((ignore_word, s) ∷ (missing_word, r) ∷ rest) rest true
  ignore : {s r : Span} {had : Bool} {ts rest : List SpannedTok} → IsContextIfAny ts rest had → IsIgnoreIfAny false ((ignore_word, s) ∷ (missing_word, r) ∷ ts) rest true

-- [Ident], which has to be that name
pub data IsEndName (x : Text) : List SpannedTok → List SpannedTok → Type 0 where
  no_end_name : {rest : List SpannedTok} → comes is_identifier rest ≡ false → IsEndName x rest rest
  same_name : {s : Span} {rest : List SpannedTok} → IsEndName x ((ident x, s) ∷ rest) rest

-- ---- names that are imported

abbrev pub ends_names : Tok → Bool
ends_names t = is block_end t || begins_context t

module _ {C : Type 0} where
  -- Imp = Ident [ "as" Ident ]
  pub data IsImport : List SpannedTok → List SpannedTok → Expr C → Optional C → Type 0 where
    import_name : {x : Text} {s : Span} {rest : List SpannedTok} → starts_with nat_eq x (codes "_") ≡ false → is_reserved x ≡ false → comes (is as_word) rest ≡ false →
        IsImport ((ident x, s) ∷ rest) rest (variable x) absent
    import_alias : {x y : Text} {s r q : Span} {rest : List SpannedTok} → starts_with nat_eq x (codes "_") ≡ false → is_reserved x ≡ false → is_reserved y ≡ false →
        IsImport ((ident x, s) ∷ (as_word, r) ∷ (ident y, q) ∷ rest) rest (variable x) (present (variable y))

  -- [ Imp { , Imp } [,] ]: none, and a last comma, only before the end of the tag or a Ctx
  pub data AreImports : List SpannedTok → List SpannedTok → List (Expr C × Optional C) → Type 0 where
    no_imports : {rest : List SpannedTok} → comes ends_names rest ≡ true → AreImports rest rest []
    last_import : {ts rest : List SpannedTok} {e : Expr C} {a : Optional C} → comes ends_names ts ≡ false → IsImport ts rest e a → comes (is comma) rest ≡ false → AreImports ts rest ((e, a) ∷ [])
    imports : {s : Span} {ts us rest : List SpannedTok} {e : Expr C} {a : Optional C} {ns : List (Expr C × Optional C)} → comes ends_names ts ≡ false → IsImport ts ((comma, s) ∷ us) e a →
        AreImports us rest ns → AreImports ts rest ((e, a) ∷ ns)

-- a variable, an attribute, or a list of such
abbrev mutual
  pub is_storable : {C : Type 0} → Expr C → Bool
  is_storable (variable x) = true
  is_storable (attribute e x) = true
  is_storable (list es) = are_storable es
  is_storable _ = false

  pub are_storable : {C : Type 0} → Exprs C → Bool
  are_storable no_more = true
  are_storable (more e es) = if is_storable e then are_storable es else false

-- after an argument that has a default all have one
abbrev pub all_default : {C : Type 0} → List (Expr C × Optional C) → Bool
all_default [] = true
all_default ((e, absent) ∷ ps) = false
all_default ((e, present d) ∷ ps) = all_default ps

abbrev pub defaults_come_last : {C : Type 0} → List (Expr C × Optional C) → Bool
defaults_come_last [] = true
defaults_come_last ((e, absent) ∷ ps) = defaults_come_last ps
defaults_come_last ((e, present d) ∷ ps) = all_default ps

abbrev pub defaults_of : {C : Type 0} → List (Expr C × Optional C) → List (Expr C)
defaults_of [] = []
defaults_of ((e, absent) ∷ ps) = defaults_of ps
defaults_of ((e, present d) ∷ ps) = d ∷ defaults_of ps

abbrev pub macro_of : {C : Type 0} → Text → List (Expr C × Optional C) → Stmts C (Unit {0}) → Macro C (Unit {0})
macro_of x ps ss = macro tt x (map (λ p. p.0) ps) (defaults_of ps) ss

-- whitespace alone
abbrev pub is_blank : Text → Bool
is_blank t = length (trim t) == 0

module _ {C F : Type 0} (f : Functions C F) (source : Text) where
  -- Expr [ , [ Expr { , Expr } [,] ] ]: with a comma a tuple
  pub data IsValue : ℕ → List SpannedTok → List SpannedTok → Expr C → Type 0 where
    one_value : {d : ℕ} {ts rest : List SpannedTok} {e : Expr C} → IsExpr f source d ts rest e → comes (is comma) rest ≡ false → IsValue d ts rest e
    values : {d : ℕ} {s : Span} {ts us rest : List SpannedTok} {e : Expr C} {es : Exprs C} → IsExpr f source d ts ((comma, s) ∷ us) e → AreExprs f source d us rest es → IsValue d ts rest (tuple (more e es))

  -- Chain = Name [Args] { | Name [Args] }: the first has no operand
  pub data IsChainRow : ℕ → List SpannedTok → List SpannedTok → Expr C → Type 0 where
    first_filter : {d : ℕ} {ts us rest : List SpannedTok} {x : Text} {xs : Args C} → IsName source ts us x → AreArgsIfAny f source d us rest xs → IsChainRow d ts rest (filter absent x xs)
    also_filter : {d : ℕ} {s : Span} {ts us vs rest : List SpannedTok} {e : Expr C} {x : Text} {xs : Args C} → IsChainRow d ts ((pipe, s) ∷ us) e → IsName source us vs x → AreArgsIfAny f source d vs rest xs →
        IsChainRow d ts rest (filter (present e) x xs)

  pub data IsChain : ℕ → List SpannedTok → List SpannedTok → Expr C → Type 0 where
    chain : {d : ℕ} {ts rest : List SpannedTok} {e : Expr C} → IsChainRow d ts rest e → comes (is pipe) rest ≡ false → IsChain d ts rest e

  -- [ | Chain ]
  pub data IsChainIfAny : ℕ → List SpannedTok → List SpannedTok → Optional C → Type 0 where
    no_chain : {d : ℕ} {rest : List SpannedTok} → comes (is pipe) rest ≡ false → IsChainIfAny d rest rest absent
    one_chain : {d : ℕ} {s : Span} {ts rest : List SpannedTok} {e : Expr C} → IsChain d ts rest e → IsChainIfAny d ((pipe, s) ∷ ts) rest (present e)

  -- ["if" Expr]
  pub data IsFilterIfAny : ℕ → List SpannedTok → List SpannedTok → Optional C → Type 0 where
    no_filter : {d : ℕ} {rest : List SpannedTok} → comes (is if_word) rest ≡ false → IsFilterIfAny d rest rest absent
    one_filter : {d : ℕ} {s : Span} {ts rest : List SpannedTok} {e : Expr C} → IsExpr f source d ts rest e → IsFilterIfAny d ((if_word, s) ∷ ts) rest (present e)

  -- [ With { , With } ], with With = ( ( Targets ) | Ident ) = Expr
  mutual
    pub data AreBindings : ℕ → List SpannedTok → List SpannedTok → List (Expr C × Expr C) → Type 0 where
      no_bindings : {d : ℕ} {rest : List SpannedTok} → comes (is block_end) rest ≡ true → AreBindings d rest rest []
      bindings : {d : ℕ} {ts rest : List SpannedTok} {bs : List (Expr C × Expr C)} → comes (is block_end) ts ≡ false → AreSomeBindings d ts rest bs → AreBindings d ts rest bs

    pub data AreSomeBindings : ℕ → List SpannedTok → List SpannedTok → List (Expr C × Expr C) → Type 0 where
      last_binding : {d : ℕ} {s : Span} {ts us rest : List SpannedTok} {t e : Expr C} → IsBound d ts ((assign, s) ∷ us) t → IsExpr f source d us rest e → comes (is comma) rest ≡ false →
          AreSomeBindings d ts rest ((t, e) ∷ [])
      more_bindings : {d : ℕ} {s r : Span} {ts us vs rest : List SpannedTok} {t e : Expr C} {bs : List (Expr C × Expr C)} → IsBound d ts ((assign, s) ∷ us) t → IsExpr f source d us ((comma, r) ∷ vs) e →
          AreSomeBindings d vs rest bs → AreSomeBindings d ts rest ((t, e) ∷ bs)

  -- Params = [ Param { , Param } [,] ], with Param = Ident [ = Expr ]
  mutual
    pub data AreParams : ℕ → List SpannedTok → List SpannedTok → List (Expr C × Optional C) → Type 0 where
      no_params : {d : ℕ} {rest : List SpannedTok} → comes is_identifier rest ≡ false → AreParams d rest rest []
      param : {d : ℕ} {x : Text} {s : Span} {ts rest : List SpannedTok} {ps : List (Expr C × Optional C)} → is_reserved x ≡ false → comes (is assign) ts ≡ false → AreMoreParams d ts rest ps →
          AreParams d ((ident x, s) ∷ ts) rest ((variable x, absent) ∷ ps)
      param_with_default : {d : ℕ} {x : Text} {s r : Span} {ts us rest : List SpannedTok} {e : Expr C} {ps : List (Expr C × Optional C)} → is_reserved x ≡ false → IsExpr f source d ts us e →
          AreMoreParams d us rest ps → AreParams d ((ident x, s) ∷ (assign, r) ∷ ts) rest ((variable x, present e) ∷ ps)

    pub data AreMoreParams : ℕ → List SpannedTok → List SpannedTok → List (Expr C × Optional C) → Type 0 where
      no_more_params : {d : ℕ} {rest : List SpannedTok} → comes (is comma) rest ≡ false → AreMoreParams d rest rest []
      more_params : {d : ℕ} {s : Span} {ts rest : List SpannedTok} {ps : List (Expr C × Optional C)} → AreParams d ts rest ps → AreMoreParams d ((comma, s) ∷ ts) rest ps

  -- [ ( Params ) ]
  pub data AreParamsIfAny : ℕ → List SpannedTok → List SpannedTok → List (Expr C × Optional C) → Type 0 where
    no_parentheses : {d : ℕ} {rest : List SpannedTok} → comes (is paren_open) rest ≡ false → AreParamsIfAny d rest rest []
    params_in_parentheses : {d : ℕ} {s r : Span} {ts rest : List SpannedTok} {ps : List (Expr C × Optional C)} → AreParams d ts ((paren_close, r) ∷ rest) ps → defaults_come_last ps ≡ true →
        AreParamsIfAny d ((paren_open, s) ∷ ts) rest ps

  -- { Data }, all of it whitespace, up to the first {%
  pub data IsBlank : List SpannedTok → List SpannedTok → Stmts C (Unit {0}) → Type 0 where
    blank_end : {s : Span} {rest : List SpannedTok} → IsBlank ((block_start, s) ∷ rest) rest done
    blank_data : {t : Text} {s : Span} {ts rest : List SpannedTok} {ss : Stmts C (Unit {0})} → is_blank t ≡ true → IsBlank ts rest ss → IsBlank ((template_data t, s) ∷ ts) rest (also (data_text t) ss)

  mutual
    -- Body w = { Data | {{ Expr }} | {% Stmt %} } up to the first {% whose next token is a word of
    -- w, which is taken; a template's goes on to the end of the text
    pub data IsBody : Context → Ends → ℕ → List SpannedTok → List SpannedTok → Stmts C (Unit {0}) → Type 0 where
      body_end : {c : Context} {w : Ends} {d : ℕ} {s : Span} {rest : List SpannedTok} → comes (ends_body w) rest ≡ true → IsBody c w d ((block_start, s) ∷ rest) rest done
      text_end : {c : Context} {d : ℕ} → IsBody c at_end_of_text d [] [] done
      data_part : {c : Context} {w : Ends} {d : ℕ} {t : Text} {s : Span} {ts rest : List SpannedTok} {ss : Stmts C (Unit {0})} → IsBody c w d ts rest ss →
          IsBody c w d ((template_data t, s) ∷ ts) rest (also (data_text t) ss)
      output_part : {c : Context} {w : Ends} {d : ℕ} {s r : Span} {ts us rest : List SpannedTok} {e : Expr C} {ss : Stmts C (Unit {0})} → IsExpr f source d ts ((variable_end, r) ∷ us) e →
          IsBody c w d us rest ss → IsBody c w d ((variable_start, s) ∷ ts) rest (also (output e) ss)
      stmt_part : {c : Context} {w : Ends} {d : ℕ} {s r : Span} {ts us rest : List SpannedTok} {x : Stmt C (Unit {0})} {ss : Stmts C (Unit {0})} → comes (ends_body w) ts ≡ false →
          IsStmt c d ts ((block_end, r) ∷ us) x → IsBody c w d us rest ss → IsBody c w d ((block_start, s) ∷ ts) rest (also x ss)

    -- [ "else" %} Body w ] and the word w
    pub data IsElse : Context → Ends → Tok → ℕ → List SpannedTok → List SpannedTok → Stmts C (Unit {0}) → Type 0 where
      no_else : {c : Context} {w : Ends} {word : Tok} {d : ℕ} {s : Span} {rest : List SpannedTok} → comes (is else_word) ((word, s) ∷ rest) ≡ false → IsElse c w word d ((word, s) ∷ rest) rest done
      else_part : {c : Context} {w : Ends} {word : Tok} {d : ℕ} {s r q : Span} {ts rest : List SpannedTok} {ss : Stmts C (Unit {0})} → IsBody c w d ts ((word, q) ∷ rest) ss →
          IsElse c w word d ((else_word, s) ∷ (block_end, r) ∷ ts) rest ss

    -- If = Or %} Body endif,else,elif ( "endif" | "else" %} Body endif "endif" | "elif" If ): the
    -- If after an elif counts 1
    pub data IsIf : Context → ℕ → List SpannedTok → List SpannedTok → Stmt C (Unit {0}) → Type 0 where
      if_alone : {c : Context} {d : ℕ} {s r : Span} {ts us rest : List SpannedTok} {e : Expr C} {ss : Stmts C (Unit {0})} → IsLevel f source or_level d ts ((block_end, s) ∷ us) e →
          IsBody c at_endif_else_or_elif d us ((endif_word, r) ∷ rest) ss → IsIf c d ts rest (if_cond e ss done)
      if_else : {c : Context} {d : ℕ} {s r q p : Span} {ts us vs rest : List SpannedTok} {e : Expr C} {ss zs : Stmts C (Unit {0})} → IsLevel f source or_level d ts ((block_end, s) ∷ us) e →
          IsBody c at_endif_else_or_elif d us ((else_word, r) ∷ (block_end, q) ∷ vs) ss → IsBody c at_endif d vs ((endif_word, p) ∷ rest) zs → IsIf c d ts rest (if_cond e ss zs)
      if_elif : {c : Context} {d : ℕ} {s r : Span} {ts us vs rest : List SpannedTok} {e : Expr C} {ss : Stmts C (Unit {0})} {x : Stmt C (Unit {0})} → IsLevel f source or_level (suc d) ts ((block_end, s) ∷ us) e →
          IsBody c at_endif_else_or_elif (suc d) us ((elif_word, r) ∷ vs) ss → IsIf c d vs rest x → IsIf c (suc d) ts rest (if_cond e ss (also x done))

    -- Stmt, which counts 1
    pub data IsStmt : Context → ℕ → List SpannedTok → List SpannedTok → Stmt C (Unit {0}) → Type 0 where
      for_stmt : {c : Context} {d : ℕ} {s r q : Span} {again : Bool} {ts us vs ws xs ys rest : List SpannedTok} {t e : Expr C} {only : Optional C} {ss zs : Stmts C (Unit {0})} →
          AreTargets false d ts ((in_word, r) ∷ us) t → IsLevel f source or_level d us vs e → IsFilterIfAny d vs ws only → IsWordIfAny recursive_word ws ((block_end, q) ∷ xs) again →
          IsBody (inside_loop c) at_endfor_or_else d xs ys ss → IsElse c at_endfor endfor_word d ys rest zs → IsStmt c (suc d) ((ident (codes "for"), s) ∷ ts) rest (for_loop tt t e only again ss zs)
      if_stmt : {c : Context} {d : ℕ} {s : Span} {ts rest : List SpannedTok} {x : Stmt C (Unit {0})} → IsIf c d ts rest x → IsStmt c (suc d) ((if_word, s) ∷ ts) rest x
      with_stmt : {c : Context} {d : ℕ} {s r q : Span} {ts us rest : List SpannedTok} {bs : List (Expr C × Expr C)} {ss : Stmts C (Unit {0})} → AreBindings d ts ((block_end, r) ∷ us) bs →
          IsBody c at_endwith d us ((endwith_word, q) ∷ rest) ss → IsStmt c (suc d) ((with_word, s) ∷ ts) rest (with_block bs ss)
      set_stmt : {c : Context} {d : ℕ} {s r : Span} {ts us rest : List SpannedTok} {t e : Expr C} → AreTargets true d ts ((assign, r) ∷ us) t → IsValue d us rest e →
          IsStmt c (suc d) ((ident (codes "set"), s) ∷ ts) rest (assignment t e)
      set_block_stmt : {c : Context} {d : ℕ} {s r q : Span} {ts us vs rest : List SpannedTok} {t : Expr C} {e : Optional C} {ss : Stmts C (Unit {0})} → AreTargets true d ts us t →
          IsChainIfAny d us ((block_end, r) ∷ vs) e → IsBody c at_endset d vs ((endset_word, q) ∷ rest) ss → IsStmt c (suc d) ((ident (codes "set"), s) ∷ ts) rest (set_block t e ss)
      autoescape_stmt : {c : Context} {d : ℕ} {s r q : Span} {ts us rest : List SpannedTok} {e : Expr C} {ss : Stmts C (Unit {0})} → IsExpr f source d ts ((block_end, r) ∷ us) e →
          IsBody c at_endautoescape d us ((endautoescape_word, q) ∷ rest) ss → IsStmt c (suc d) ((ident (codes "autoescape"), s) ∷ ts) rest (auto_escape e ss)
      filter_stmt : {c : Context} {d : ℕ} {s r q : Span} {ts us rest : List SpannedTok} {e : Expr C} {ss : Stmts C (Unit {0})} → IsChain d ts ((block_end, r) ∷ us) e →
          IsBody c at_endfilter d us ((endfilter_word, q) ∷ rest) ss → IsStmt c (suc d) ((ident (codes "filter"), s) ∷ ts) rest (filter_block e ss)
      -- not in a macro or call block
      block_stmt : {c : Context} {d : ℕ} {s r q p : Span} {scoped : Bool} {x : Text} {ts us vs ws rest : List SpannedTok} {ss : Stmts C (Unit {0})} → c.in_macro ≡ false → IsWordIfAny scoped_word ts us scoped →
          IsWordIfAny required_word us ((block_end, r) ∷ vs) false → IsBody (inside_block c) at_endblock d vs ((endblock_word, q) ∷ ws) ss → IsEndName x ws rest →
          IsStmt c (suc d) ((ident (codes "block"), s) ∷ (ident x, p) ∷ ts) rest (named_block x false ss)
      required_block_stmt : {c : Context} {d : ℕ} {s r q p : Span} {scoped : Bool} {x : Text} {ts us vs ws rest : List SpannedTok} {ss : Stmts C (Unit {0})} → c.in_macro ≡ false →
          IsWordIfAny scoped_word ts us scoped → IsWordIfAny required_word us ((block_end, r) ∷ vs) true → IsBlank vs ((endblock_word, q) ∷ ws) ss → IsEndName x ws rest →
          IsStmt c (suc d) ((ident (codes "block"), s) ∷ (ident x, p) ∷ ts) rest (named_block x true ss)
      extends_stmt : {c : Context} {d : ℕ} {s : Span} {ts rest : List SpannedTok} {e : Expr C} → IsExpr f source d ts rest e → IsStmt c (suc d) ((ident (codes "extends"), s) ∷ ts) rest (extends e)
      include_stmt : {c : Context} {d : ℕ} {s : Span} {had missing : Bool} {ts us vs rest : List SpannedTok} {e : Expr C} → IsExpr f source d ts us e → IsContextIfAny us vs had →
          IsIgnoreIfAny had vs rest missing → IsStmt c (suc d) ((ident (codes "include"), s) ∷ ts) rest (include e missing)
      import_stmt : {c : Context} {d : ℕ} {s r : Span} {had : Bool} {ts us vs rest : List SpannedTok} {e t : Expr C} → IsExpr f source d ts ((as_word, r) ∷ us) e → IsExpr f source d us vs t →
          is_storable t ≡ true → IsContextIfAny vs rest had → IsStmt c (suc d) ((import_word, s) ∷ ts) rest (import_all e t)
      from_stmt : {c : Context} {d : ℕ} {s r : Span} {had : Bool} {ts us vs rest : List SpannedTok} {e : Expr C} {ns : List (Expr C × Optional C)} → IsExpr f source d ts ((import_word, r) ∷ us) e →
          AreImports us vs ns → IsContextIfAny vs rest had → IsStmt c (suc d) ((ident (codes "from"), s) ∷ ts) rest (from_import e ns)
      macro_stmt : {c : Context} {d : ℕ} {s p o r q t : Span} {x : Text} {ts us rest : List SpannedTok} {ps : List (Expr C × Optional C)} {ss : Stmts C (Unit {0})} →
          AreParams d ts ((paren_close, r) ∷ (block_end, q) ∷ us) ps → defaults_come_last ps ≡ true → IsBody inside_macro at_endmacro d us ((endmacro_word, t) ∷ rest) ss →
          IsStmt c (suc d) ((ident (codes "macro"), s) ∷ (ident x, p) ∷ (paren_open, o) ∷ ts) rest (declare (macro_of x ps ss))
      call_stmt : {c : Context} {d : ℕ} {s r q : Span} {ts us vs rest : List SpannedTok} {ps : List (Expr C × Optional C)} {e : Expr C} {xs : Args C} {ss : Stmts C (Unit {0})} →
          AreParamsIfAny d ts us ps → IsExpr f source d us ((block_end, r) ∷ vs) (call e xs) → IsBody inside_macro at_endcall d vs ((endcall_word, q) ∷ rest) ss →
          IsStmt c (suc d) ((ident (codes "call"), s) ∷ ts) rest (call_block e xs (macro_of (codes "caller") ps ss))
      do_stmt : {c : Context} {d : ℕ} {s : Span} {ts rest : List SpannedTok} {e : Expr C} {xs : Args C} → IsExpr f source d ts rest (call e xs) → IsStmt c (suc d) ((ident (codes "do"), s) ∷ ts) rest (do_call e xs)
      break_stmt : {c : Context} {d : ℕ} {s : Span} {rest : List SpannedTok} → c.in_loop ≡ true → IsStmt c (suc d) ((ident (codes "break"), s) ∷ rest) rest break_loop
      continue_stmt : {c : Context} {d : ℕ} {s : Span} {rest : List SpannedTok} → c.in_loop ≡ true → IsStmt c (suc d) ((ident (codes "continue"), s) ∷ rest) rest continue_loop
