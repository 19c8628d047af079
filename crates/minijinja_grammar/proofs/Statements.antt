-- Statements of the grammar stand at tokens, and may stand in a template.
use Rattle.std.proofs.Common.{◌≡◌, ◌≤◌, arith, ℕ, zero, suc, List, [], ◌∷◌, ◌++◌, map, length, Bool, true, false, if◌then◌else◌, Option, Some, None, refl, ap, subst}
use Rattle.std.specs.Prelude.{not, codes, nat_eq}
use Rattle.std.specs.List.{filter_map, starts_with}
use Rattle.std.specs.Option.{option_map}
use Rattle.minijinja_syntax.specs.Texts.{Text}
use Rattle.minijinja_value.specs.Values.{Functions}
use Rattle.minijinja_syntax.specs.Tokens.{Tok, ident, template_data, variable_start, block_start, block_end, assign, paren_open, paren_close}
use Rattle.minijinja_syntax.specs.declared.tokens.Span.{Span}
use Rattle.minijinja_syntax.specs.Streams.{SpannedTok}
use Rattle.minijinja_tree.specs.SpannedTrees.{macro_of, Arg, Args, Expr, variable, attribute, call, filter, list, tuple, Optional, optional_of, Exprs, no_more, more, exprs_of, args_of, Stmt, data_text, assignment, for_loop, with_block, set_block, auto_escape, filter_block, named_block, extends, include, import_all, from_import, declare, call_block, do_call, break_loop, continue_loop, stmts_of, bare_expr, bare_optional, bare_exprs, bare_args, bare_list, bare_bindings, bare_names, bare_stmt, bare_stmts, bare_macro, if_cond}
use Rattle.minijinja_tree.specs.Tree.{blocks, all_blocks, macro_blocks, names_of_blocks}
use Rattle.minijinja_tree.specs.WellFormed.{IsInner, AreInner, IsMacro, IsTarget, AreTargets, AreVariables, AreAllWhole, IsVariableIfAny, AreNames, IsChainOfFilters, AreAssignments, arg_count, most_arguments}
use Rattle.minijinja_grammar.specs.Words.{is_identifier, is_reserved, as_word, import_word, required_word, missing_word, context_word, endblock_word, endmacro_word, endcall_word, in_word, if_word, elif_word, recursive_word, endfor_word, endif_word, endwith_word, endset_word, endautoescape_word, endfilter_word}
use Rattle.minijinja_grammar.specs.internal.Keywords.{Keyword, for_keyword, if_keyword, with_keyword, set_keyword, autoescape_keyword, filter_keyword, block_keyword, extends_keyword, include_keyword, import_keyword, from_keyword, macro_keyword, call_keyword, do_keyword, break_keyword, continue_keyword, keyword_of}
use Rattle.minijinja_grammar.specs.internal.Forms.{Form, pure, ◌>>=◌, ◌>>◌}
use Rattle.minijinja_grammar.specs.internal.ExprForms as g
use Rattle.minijinja_grammar.specs.internal.ExprForms.{expanded, below, expr_at}
use Rattle.minijinja_grammar.specs.internal.TargetForms as target
use Rattle.minijinja_grammar.specs.internal.StmtForms as form
use Rattle.minijinja_grammar.specs.Statements as statements
use Rattle.minijinja_grammar.specs.Statements.{Ends, at_endfor_or_else, at_endfor, at_endif_else_or_elif, at_endif, at_endwith, at_endset, at_endautoescape, at_endfilter, at_endblock, at_endmacro, at_endcall, Context, inside_loop, inside_block, inside_macro}
use Rattle.minijinja_grammar.specs.internal.StmtForms.{Parts}
use Rattle.minijinja_tree.specs.Standing.{Stands, StandsIfAny, StmtStands, StmtsStand, MacroStands, BindingsStand, NamesStand, AllStand}
use Rattle.minijinja_grammar.specs.private.Sound.{IsSound, IsSoundIfAny, AreSound, AreArgsSound}
use Rattle.minijinja_grammar.specs.private.Ensured.{Holds, Kept, Ensured}
use Rattle.minijinja_grammar.proofs.Ensured.{weaker}
use Rattle.minijinja_grammar.proofs.Sound.{alone, args, behind, exprs, expr_sound, items, name, next, or_level, below_sound, spanned}
use Rattle.minijinja_grammar.proofs.Standing.{all_args, if_any, is_whole, stands, whole_args, whole_if_any}
use Rattle.minijinja_grammar.proofs.Targets.{word_is, IsName, stored_name, IsAssignable, IsOneTarget, any_targets}

-- where the first holds there is none of these
abbrev pub NoneIf : {X : Type 0} → Bool → List X → Type 0
NoneIf true xs = xs ≡ []
NoneIf false xs = Unit {0}

none : (X : Type 0) (b : Bool) → NoneIf {X = X} b []
none X true = refl
none X false = tt

both_none : {X : Type 0} (b : Bool) (xs ys : List X) → NoneIf b xs → NoneIf b ys → NoneIf b (xs ++ ys)
both_none true xs ys h k = rw (h, k) refl
both_none false xs ys h k = tt

none_both : {X : Type 0} (xs ys : List X) → xs ++ ys ≡ [] → (xs ≡ []) × (ys ≡ [])
none_both [] ys e = (refl, e)
none_both (x ∷ xs) ys e = cc

module _ (C : Type 0) (T : SpannedTok → Type 0) (S : Span → Type 0) (spans : (t : SpannedTok) → T t → S t.1)
    (joins : (s to : Span) → S s → S to → S (expanded s to)) (G : Text → Type 0) where
  abbrev pub IsOne : Expr C → Type 1
  IsOne e = Holds (IsSound T S e)

  abbrev IsAnySound : Option (Expr C) → Type 0
  IsAnySound o = IsSoundIfAny T S (optional_of o)

  -- a statement stands at tokens, and may stand in a template, in a loop or not
  pub record IsPart (in_loop in_macro : Bool) (s : Stmt C) : Type 0 where
    pub stands : StmtStands T S s
    pub inner : IsInner in_loop (bare_stmt s)
    pub free : NoneIf in_macro (blocks (bare_stmt s))

  pub record AreParts (in_loop in_macro : Bool) (ss : List (Stmt C)) : Type 0 where
    pub stand : StmtsStand T S (stmts_of ss)
    pub inner : AreInner in_loop (bare_stmts (stmts_of ss))
    pub free : NoneIf in_macro (all_blocks (bare_stmts (stmts_of ss)))

  no_parts : (l inside : Bool) → AreParts l inside []
  no_parts l inside = record { stand = tt; inner = tt; free = none _ inside }

  append : (l inside : Bool) (ss : List (Stmt C)) (s : Stmt C) → AreParts l inside ss → IsPart l inside s → AreParts l inside (ss ++ s ∷ [])
  append l inside ss s h k = record { stand = stand ss h.stand; inner = inner ss h.inner; free = free ss inside h.free k.free }
    where
      stand : (ss : List (Stmt C)) → StmtsStand T S (stmts_of ss) → StmtsStand T S (stmts_of (ss ++ s ∷ []))
      stand [] i = (k.stands, tt)
      stand (x ∷ ss) i = (i.0, stand ss i.1)

      inner : (ss : List (Stmt C)) → AreInner l (bare_stmts (stmts_of ss)) → AreInner l (bare_stmts (stmts_of (ss ++ s ∷ [])))
      inner [] i = (k.inner, tt)
      inner (x ∷ ss) i = (i.0, inner ss i.1)

      free : (ss : List (Stmt C)) (b : Bool) → NoneIf b (all_blocks (bare_stmts (stmts_of ss))) → NoneIf b (blocks (bare_stmt s)) → NoneIf b (all_blocks (bare_stmts (stmts_of (ss ++ s ∷ []))))
      free ss false i j = tt
      free [] true i j = rw j refl
      free (x ∷ ss) true i j =
          let m = none_both (blocks (bare_stmt x)) (all_blocks (bare_stmts (stmts_of ss))) i in
          both_none true (blocks (bare_stmt x)) (all_blocks (bare_stmts (stmts_of (ss ++ s ∷ [])))) m.0 (free ss true m.1 j)

  abbrev pub IsOnePart : Bool → Bool → Stmt C → Type 1
  IsOnePart l inside s = Holds (IsPart l inside s)

  abbrev pub AreAllParts : Bool → Bool → List (Stmt C) → Type 1
  AreAllParts l inside ss = Holds (AreParts l inside ss)

  -- ---- what may be absent

  maybe : (m : Tok) (f : Form (Expr C)) → Ensured T S G f IsOne → (P : Option (Expr C) → Type 1) → ((o : Option (Expr C)) → IsAnySound o → P o) →
      Ensured T S G (g.behind m (f >>= (λ e. pure (Some e))) (pure None)) P
  maybe m f h P k = ((λ t u i j. weaker T S G f IsOne _ (λ e l. k (Some e) l.it) h), k None tt)

  flag : (m : Tok) (P : Bool → Type 1) → ((b : Bool) → P b) → Ensured T S G (g.behind m (pure true) (pure false)) P
  flag m P k = ((λ t u i j. k true), k false)

  -- ---- parts of statements that hold no statement

  when_is : {A : Type 0} (b : Bool) (f : Form A) (P : A → Type 1) → (b ≡ true → Ensured T S G f P) → Ensured T S G (g.when b f) P
  when_is true f P k = k refl
  when_is false f P k = alone tt

  context_if_any : (P : Bool → Type 1) → ((b : Bool) → P b) → Ensured T S G form.context_if_any P
  unfolding form.context_if_any
  context_if_any P k = ((λ _ _ _ _. next T S spans joins G context_word _ (λ _ _. k true)), k false)

  context_unless : (had : Bool) (P : Bool → Type 1) → ((b : Bool) → P b) → Ensured T S G (form.context_unless had) P
  context_unless true P k = k true
  context_unless false P k = context_if_any P k

  mutual
    storable_is : (e : Expr C) → IsSound T S e → form.is_storable e ≡ true → IsTarget (bare_expr e)
    storable_is (variable x s) h k = tt
    storable_is (attribute e x s) h k = is_whole T S e h.1
    storable_is (list es s) h k = storables_are es h.1 k
    storable_is _ h k = cc

    storables_are : (es : Exprs C) → AreSound T S es → form.are_storable es ≡ true → AreTargets (bare_exprs es)
    storables_are no_more h k = tt
    storables_are (more e es) h k = go (form.is_storable e) refl k (storable_is e h.0) (storables_are es h.1)
      where
        go : (b : Bool) → form.is_storable e ≡ b → (if b then form.are_storable es else false) ≡ true → (form.is_storable e ≡ true → IsTarget (bare_expr e)) → (form.are_storable es ≡ true → AreTargets (bare_exprs es)) →
            IsTarget (bare_expr e) × AreTargets (bare_exprs es)
        go true i j m n = (m i, n j)
        go false i j m n = cc

  -- names that are taken from a template
  pub record IsImport (n : Expr C × Optional C) : Type 0 where
    pub name : IsName C T S spans joins G n.0
    pub alias_stands : StandsIfAny T S n.1
    pub alias : IsVariableIfAny (bare_optional n.1)

  pub record AreImports (ns : List (Expr C × Optional C)) : Type 0 where
    pub stand : NamesStand T S ns
    pub names : AreNames (bare_names ns)

  also_import : (ns : List (Expr C × Optional C)) (n : Expr C × Optional C) → AreImports ns → IsImport n → AreImports (ns ++ n ∷ [])
  also_import [] n h k = record { stand = (stands T S n.0 k.name.sound, k.alias_stands, tt); names = (k.name.variable, k.alias, tt) }
  also_import (x ∷ ns) n h k =
      let i = also_import ns n (record { stand = h.stand.2; names = h.names.2 }) k in
      record { stand = (h.stand.0, h.stand.1, i.stand); names = (h.names.0, h.names.1, i.names) }

  public_is : (t : SpannedTok) (x : Text × Span) → T t → form.public_word t ≡ Some x → T (ident x.0, x.1)
  public_is (ident y, s) x i e = go (starts_with nat_eq y (codes "_")) e
    where
      go : (b : Bool) → (if b then None else target.name_word (ident y, s)) ≡ Some x → T (ident x.0, x.1)
      go true k = cc
      go false k = word_is T is_reserved (ident y, s) x i k
  public_is _ x i e = cc

  imported : Ensured T S G (form.imported {C = C}) (λ n. Holds (IsImport n))
  unfolding form.imported
  imported = λ t x i j. (
    (λ _ _ _ _. weaker T S G (target.stored_name {C = C}) (λ e. Holds (IsName C T S spans joins G e)) _
        (λ e k. alone (record { name = named t x i j; alias_stands = stands T S e k.it.sound; alias = k.it.variable })) (stored_name C T S spans joins G)),
    alone (record { name = named t x i j; alias_stands = tt; alias = tt }),
  )
    where
      named : (t : SpannedTok) (x : Text × Span) → T t → form.public_word t ≡ Some x → IsName C T S spans joins G (variable x.0 x.1)
      named t x i j = record { sound = public_is t x i j; target = tt; variable = tt }

  imports : Ensured T S G (form.imports {C = C}) (λ ns. Holds (AreImports ns))
  unfolding form.imports form.next_imported
  imports = (
    alone (record { stand = tt; names = tt }),
    weaker T S G (form.imported {C = C}) (λ n. Holds (IsImport n)) _ (λ n h. (
      AreImports,
      alone (also_import [] n (record { stand = tt; names = tt }) h.it),
      (λ ns t u i j k. (alone i, weaker T S G (form.imported {C = C}) (λ m. Holds (IsImport m)) _ (λ m o. alone (also_import ns m i o.it)) imported)),
      λ ns i. alone i,
    )) imported,
  )

  -- arguments of a macro, with their defaults
  abbrev targets_of : List (Expr C × Option (Expr C)) → List (Expr C)
  targets_of ps = map (λ p. p.0) ps

  abbrev defaults_of : List (Expr C × Option (Expr C)) → List (Expr C)
  defaults_of ps = filter_map (λ p. p.1) ps

  abbrev AreParams : List (Expr C × Option (Expr C)) → Type 0
  AreParams [] = Unit {0}
  AreParams (p ∷ ps) = IsName C T S spans joins G p.0 × IsAnySound p.1 × AreParams ps

  also_param : (ps : List (Expr C × Option (Expr C))) (p : Expr C × Option (Expr C)) → AreParams ps → IsName C T S spans joins G p.0 → IsAnySound p.1 → AreParams (ps ++ p ∷ [])
  also_param [] p h k m = (k, m, tt)
  also_param (q ∷ ps) p h k m = (h.0, h.1, also_param ps p h.2 k m)

  targets_stand : (ps : List (Expr C × Option (Expr C))) → AreParams ps → AllStand T S (targets_of ps)
  targets_stand [] h = tt
  targets_stand (p ∷ ps) h = (stands T S p.0 h.0.sound, targets_stand ps h.2)

  targets_named : (ps : List (Expr C × Option (Expr C))) → AreParams ps → AreVariables (bare_list (targets_of ps))
  targets_named [] h = tt
  targets_named (p ∷ ps) h = (h.0.variable, targets_named ps h.2)

  defaults_stand : (ps : List (Expr C × Option (Expr C))) → AreParams ps → AllStand T S (defaults_of ps)
  defaults_stand [] h = tt
  defaults_stand ((e, None) ∷ ps) h = defaults_stand ps h.2
  defaults_stand ((e, Some d) ∷ ps) h = (stands T S d h.1, defaults_stand ps h.2)

  defaults_whole : (ps : List (Expr C × Option (Expr C))) → AreParams ps → AreAllWhole (bare_list (defaults_of ps))
  defaults_whole [] h = tt
  defaults_whole ((e, None) ∷ ps) h = defaults_whole ps h.2
  defaults_whole ((e, Some d) ∷ ps) h = (is_whole T S d h.1, defaults_whole ps h.2)

  defaults_fewer : (ps : List (Expr C × Option (Expr C))) → length (bare_list (defaults_of ps)) ≤ length (bare_list (targets_of ps))
  defaults_fewer [] = omega arith
  defaults_fewer ((e, None) ∷ ps) = omega (arith, defaults_fewer ps)
  defaults_fewer ((e, Some d) ∷ ps) = omega (arith, defaults_fewer ps)

  -- a call
  pub record IsCalled (c : Expr C × Args C × Span) : Type 0 where
    pub at : S c.2
    pub callee : IsSound T S c.0
    pub args : AreArgsSound T S c.1
    pub few : arg_count (bare_args c.1) ≤ most_arguments

  name_end : (x : Text) (P : Unit {0} → Type 1) → P tt → Ensured T S G (form.end_name x) P
  unfolding form.end_name
  name_end x P k = (next T S spans joins G (ident x) _ (λ _ _. k), k)

  -- ---- the bodies of blocks that are to be overridden

  any_is : (t u : SpannedTok) → T t → form.any_token t ≡ Some u → T u
  any_is t u i e = subst T (same t u e) i
    where
      same : (t u : SpannedTok) → Some t ≡ Some u → t ≡ u
      same t u e = cc

  blank_part : (inside : Bool) (ss : List (Stmt C)) (t : SpannedTok) → T t → AreParts false inside ss → Ensured T S G (form.blank_part ss t) (λ z. Holds (Kept (AreParts false inside) z))
  blank_part inside ss (template_data t, s) i h = when_is (statements.is_blank t) _ _ (λ _. alone (append false inside ss (data_text t s) h (record { stands = i; inner = tt; free = none _ inside })))
  blank_part inside ss (block_start, s) i h = alone h
  blank_part inside ss _ i h = alone tt

  pub blank_body : (inside : Bool) → Ensured T S G (form.blank_body {C = C}) (AreAllParts false inside)
  unfolding form.blank_body
  blank_body inside = (
    AreParts false inside,
    alone (no_parts false inside),
    (λ ss t u h k m. blank_part inside ss u (any_is t u k m) h),
    λ ss h. alone h,
  )

  -- ---- chains of filters

  pub record IsChain (e : Expr C) : Type 0 where
    pub stands : Stands T S e
    pub chain : IsChainOfFilters (bare_expr e)

  abbrev IsAnyChain : Option (Expr C) → Type 0
  IsAnyChain None = Unit {0}
  IsAnyChain (Some e) = IsChain e

  -- ---- what a `with` assigns to

  stored_target : Ensured T S G (target.stored_name {C = C}) (IsOneTarget C T S spans joins G)
  stored_target = weaker T S G (target.stored_name {C = C}) (λ e. Holds (IsName C T S spans joins G e)) _ (λ x h. alone (record { sound = h.it.sound; target = h.it.target })) (stored_name C T S spans joins G)

  pub bound_target : (d : ℕ) → Ensured T S G (form.bound_target d) (IsOneTarget C T S spans joins G)
  unfolding form.bound_target
  bound_target zero = stored_target
  bound_target (suc d) = behind T S spans joins G paren_open
      (target.any_targets false d >>= (λ t. g.next paren_close >> pure t))
      (target.stored_name {C = C})
      (IsOneTarget C T S spans joins G)
      (weaker T S G (target.any_targets false d) (IsOneTarget C T S spans joins G) _ (λ x h. next T S spans joins G paren_close _ (λ s k. h)) (any_targets C T S spans joins G false d))
      stored_target

  module _ (expr : Form (Expr C)) (he : Ensured T S G expr IsOne) where
    link_is : (o : Option (Expr C)) (x : Text) (xs : List (Arg C)) (s : Span) → IsAnyChain o → S s → AreArgsSound T S (args_of xs) →
        (arg_count (bare_args (args_of xs)) ≤ most_arguments) → IsChain (filter (optional_of o) x (args_of xs) s)
    link_is None x xs s h i k l = record { stands = (i, tt, all_args T S (args_of xs) k); chain = (whole_args T S (args_of xs) k, l) }
    link_is (Some e) x xs s h i k l = record { stands = (i, h.stands, all_args T S (args_of xs) k); chain = (h.chain, whole_args T S (args_of xs) k, l) }

    link : (o : Option (Expr C)) → IsAnyChain o → Ensured T S G (form.chained expr o) (λ e. Holds (IsChain e))
    unfolding form.chained
    link o h = λ from i. weaker T S G g.name (λ x. Holds (Unit {0})) _ (λ x j. (
      (λ t u k l. weaker T S G (g.args expr) _ _ (λ xs m. spanned T S spans joins G from (filter (optional_of o) x (args_of xs)) (λ e. Holds (IsChain e)) i (λ s n. alone (link_is o x xs s h n m.it.0 m.it.1))) (args T S spans joins G expr he)),
      spanned T S spans joins G from (filter (optional_of o) x (args_of [])) (λ e. Holds (IsChain e)) i (λ s n. alone (link_is o x [] s h n tt (omega arith))),
    )) (name T S spans joins G)

    pub chain : Ensured T S G (form.chain expr) (λ e. Holds (IsChain e))
    unfolding form.chain
    chain = weaker T S G (form.chained expr None) (λ e. Holds (IsChain e)) _ (λ e h. (
      IsChain,
      h,
      (λ y t u i j k. weaker T S G (form.chained expr (Some y)) (λ x. Holds (IsChain x)) _ (λ x l. alone l.it) (link (Some y) i)),
      λ y i. alone i,
    )) (link None tt)

    pub value : Ensured T S G (form.value expr) IsOne
    unfolding form.value
    value = weaker T S G expr IsOne _ (λ e h. (
      (λ t u i j. λ from k. exprs T S spans joins G expr he (e ∷ []) _ (h.it, tt) (λ es l. spanned T S spans joins G from (tuple (exprs_of es)) IsOne k (λ s m. alone (m, l)))),
      h,
    )) he

    pub loop_filter : Ensured T S G (form.loop_filter expr) (λ o. Holds (IsAnySound o))
    unfolding form.loop_filter
    loop_filter = maybe if_word expr he _ (λ o i. alone i)

    -- ---- the bindings of a `with`

    pub record AreBindings (bs : List (Expr C × Expr C)) : Type 0 where
      pub stand : BindingsStand T S bs
      pub assigned : AreAssignments (bare_bindings bs)

    pub record IsBinding (b : Expr C × Expr C) : Type 0 where
      pub target : IsAssignable C T S spans joins G b.0
      pub value : IsSound T S b.1

    also : (bs : List (Expr C × Expr C)) (b : Expr C × Expr C) → AreBindings bs → IsBinding b → AreBindings (bs ++ b ∷ [])
    also [] b h k = record { stand = (stands T S b.0 k.target.sound, stands T S b.1 k.value, tt); assigned = (k.target.target, is_whole T S b.1 k.value, tt) }
    also (x ∷ bs) b h k =
        let i = also bs b (record { stand = h.stand.2; assigned = h.assigned.2 }) k in
        record { stand = (h.stand.0, h.stand.1, i.stand); assigned = (h.assigned.0, h.assigned.1, i.assigned) }

    binding : (bound : Form (Expr C)) → Ensured T S G bound (IsOneTarget C T S spans joins G) → Ensured T S G (form.binding bound expr) (λ b. Holds (IsBinding b))
    unfolding form.binding
    binding bound hw = weaker T S G bound (IsOneTarget C T S spans joins G) _ (λ x h. next T S spans joins G assign _ (λ s i. weaker T S G expr IsOne _
        (λ e j. alone (record { target = h.it; value = j.it })) he)) hw

    pub bindings : (bound : Form (Expr C)) → Ensured T S G bound (IsOneTarget C T S spans joins G) → Ensured T S G (form.bindings bound expr) (λ bs. Holds (AreBindings bs))
    unfolding form.bindings
    bindings bound hw = (
      alone (record { stand = tt; assigned = tt }),
      weaker T S G (form.binding bound expr) (λ b. Holds (IsBinding b)) _ (λ b h. (
        AreBindings,
        alone (also [] b (record { stand = tt; assigned = tt }) h.it),
        (λ bs t u i j k. weaker T S G (form.binding bound expr) (λ c. Holds (IsBinding c)) _ (λ c l. alone (also bs c i l.it)) (binding bound hw)),
        λ bs i. alone i,
      )) (binding bound hw),
    )

    -- ---- `do`

    done : (l inside : Bool) (from : Span) (e : Expr C) → S from → IsSound T S e → Ensured T S G (form.done from (form.call_of e)) (IsOnePart l inside)
    done l inside from (call e xs s) i h = spanned T S spans joins G from (do_call e xs s) (IsOnePart l inside) i (λ u j. alone (record {
      stands = (j, h.0, stands T S e h.1, all_args T S xs h.2);
      inner = (is_whole T S e h.1, whole_args T S xs h.2, h.3);
      free = none _ inside;
    }))
    done l inside from _ i h = alone tt

    pub do_stmt : (l inside : Bool) (from : Span) → S from → Ensured T S G (form.do_stmt expr from) (IsOnePart l inside)
    unfolding form.do_stmt
    do_stmt l inside from i = weaker T S G expr IsOne _ (λ e h. done l inside from e i h.it) he

    -- ---- other templates

    pub extends_stmt : (l inside : Bool) (from : Span) → S from → Ensured T S G (form.extends_stmt expr from) (IsOnePart l inside)
    unfolding form.extends_stmt
    extends_stmt l inside from i = weaker T S G expr IsOne _ (λ e h. spanned T S spans joins G from (extends e) (IsOnePart l inside) i (λ s j. alone (record { stands = (j, stands T S e h.it); inner = is_whole T S e h.it; free = none _ inside }))) he

    pub include_stmt : (l inside : Bool) (from : Span) → S from → Ensured T S G (form.include_stmt expr from) (IsOnePart l inside)
    unfolding form.include_stmt
    include_stmt l inside from i = weaker T S G expr IsOne _ (λ e h. context_if_any _ (λ had. (
      (λ _ _ _ _. next T S spans joins G missing_word _ (λ _ _. context_unless had _ (λ _. made e h.it true))),
      made e h.it false,
    ))) he
      where
        made : (e : Expr C) → IsSound T S e → (ignore : Bool) → Ensured T S G (g.spanned from (include e ignore)) (IsOnePart l inside)
        made e h ignore = spanned T S spans joins G from (include e ignore) (IsOnePart l inside) i (λ s j. alone (record { stands = (j, stands T S e h); inner = is_whole T S e h; free = none _ inside }))

    pub import_stmt : (l inside : Bool) (from : Span) → S from → Ensured T S G (form.import_stmt expr from) (IsOnePart l inside)
    unfolding form.import_stmt
    import_stmt l inside from i = weaker T S G expr IsOne _ (λ e h. next T S spans joins G as_word _ (λ _ _. weaker T S G expr IsOne _ (λ t k.
        when_is (form.is_storable t) _ _ (λ m. context_if_any _ (λ _. spanned T S spans joins G from (import_all e t) (IsOnePart l inside) i (λ s j. alone (record {
          stands = (j, stands T S e h.it, stands T S t k.it);
          inner = (is_whole T S e h.it, storable_is t k.it m);
          free = none _ inside;
        }))))) he)) he

    pub from_stmt : (l inside : Bool) (from : Span) → S from → Ensured T S G (form.from_stmt expr from) (IsOnePart l inside)
    unfolding form.from_stmt
    from_stmt l inside from i = weaker T S G expr IsOne _ (λ e h. next T S spans joins G import_word _ (λ _ _. weaker T S G (form.imports {C = C}) (λ ns. Holds (AreImports ns)) _ (λ ns k.
        context_if_any _ (λ _. spanned T S spans joins G from (from_import e ns) (IsOnePart l inside) i (λ s j. alone (record {
          stands = (j, stands T S e h.it, k.it.stand);
          inner = (is_whole T S e h.it, k.it.names);
          free = none _ inside;
        })))) imports)) he

    -- ---- the arguments of macros

    param : (ps : List (Expr C × Option (Expr C))) → AreParams ps → Ensured T S G (form.param expr ps) (λ qs. Holds (AreParams qs))
    unfolding form.param
    param ps h = weaker T S G (target.stored_name {C = C}) (λ e. Holds (IsName C T S spans joins G e)) _ (λ e k. with_default e k.it (form.have_default ps)) (stored_name C T S spans joins G)
      where
        with_default : (e : Expr C) → IsName C T S spans joins G e → (b : Bool) → Ensured T S G (form.default_of expr b) (λ d. Holds (AreParams (ps ++ (e, d) ∷ [])))
        with_default e k true = next T S spans joins G assign _ (λ _ _. weaker T S G expr IsOne _ (λ d m. alone (also_param ps (e, Some d) h k m.it)) he)
        with_default e k false = ((λ _ _ _ _. weaker T S G expr IsOne _ (λ d m. alone (also_param ps (e, Some d) h k m.it)) he), alone (also_param ps (e, None) h k tt))

    pub params : Ensured T S G (form.params expr) (λ ps. Holds (AreParams ps))
    unfolding form.params
    params = items T S spans joins G is_identifier (form.param expr) AreParams _ (λ ps h. param ps h)
        (λ ps h. next T S spans joins G paren_close _ (λ _ _. alone h)) [] tt

    pub called : Ensured T S G (form.called expr) (λ c. Holds (IsCalled c))
    unfolding form.called
    called = weaker T S G expr IsOne _ (λ e h. call_is e h.it) he
      where
        call_is : (e : Expr C) → IsSound T S e → Ensured T S G (form.call_in (form.call_of e)) (λ c. Holds (IsCalled c))
        call_is (call e xs s) h = alone (record { at = h.0; callee = h.1; args = h.2; few = h.3 })
        call_is _ h = alone tt

  -- ---- statements, of such parts

  module _ (l inside : Bool) (p : Parts C) (he : Ensured T S G p.expr IsOne) (ho : Ensured T S G p.or IsOne) (hv : Ensured T S G p.value IsOne) (hc : Ensured T S G p.chain (λ e. Holds (IsChain e)))
      (ht : (dotted : Bool) → Ensured T S G (p.targets dotted) (IsOneTarget C T S spans joins G)) (hw : Ensured T S G p.bound (IsOneTarget C T S spans joins G))
      (hb : (e : Ends) → Ensured T S G (p.body e) (AreAllParts l inside))
      (hl : (e : Ends) → Ensured T S G (p.loop_body e) (AreAllParts true inside))
      (hn : (e : Ends) → Ensured T S G (p.block_body e) (AreAllParts false inside))
      (hi : (from : Span) → S from → Ensured T S G (p.if_ from) (IsOnePart l inside)) where
    closed_body : (e : Ends) (word : Tok) → Ensured T S G (form.closed_body p e word) (AreAllParts l inside)
    unfolding form.closed_body
    closed_body e word = next T S spans joins G block_end _ (λ s i. weaker T S G (p.body e) (AreAllParts l inside) _ (λ ss h. next T S spans joins G word _ (λ u k. h)) (hb e))

    else_body : (e : Ends) (word : Tok) → Ensured T S G (form.else_body p e word) (AreAllParts l inside)
    unfolding form.else_body
    else_body e word = ((λ t u i j. closed_body e word), next T S spans joins G word _ (λ s i. alone (no_parts l inside)))

    loop_body : Ensured T S G (form.loop_body p) (AreAllParts true inside)
    unfolding form.loop_body
    loop_body = next T S spans joins G block_end _ (λ s i. hl at_endfor_or_else)

    for_stmt : (from : Span) → S from → Ensured T S G (form.for_stmt p from) (IsOnePart l inside)
    unfolding form.for_stmt
    for_stmt from i =
        weaker T S G (p.targets false) (IsOneTarget C T S spans joins G) _ (λ t m. next T S spans joins G in_word _ (λ _ _.
        weaker T S G p.or IsOne _ (λ e k. weaker T S G (form.loop_filter p.expr) (λ o. Holds (IsAnySound o)) _ (λ only n. flag recursive_word _ (λ again.
        weaker T S G (form.loop_body p) (AreAllParts true inside) _ (λ ss b.
        weaker T S G (form.else_body p at_endfor endfor_word) (AreAllParts l inside) _ (λ other c.
        spanned T S spans joins G from (for_loop t e (optional_of only) again (stmts_of ss) (stmts_of other)) (IsOnePart l inside) i (λ s j. alone (record {
          stands = (j, stands T S t m.it.sound, stands T S e k.it, if_any T S (optional_of only) n.it, b.it.stand, c.it.stand);
          inner = (m.it.target, is_whole T S e k.it, whole_if_any T S (optional_of only) n.it, b.it.inner, c.it.inner);
          free = both_none inside (all_blocks (bare_stmts (stmts_of ss))) _ b.it.free c.it.free;
        }))) (else_body at_endfor endfor_word)) loop_body)) (loop_filter p.expr he)) ho)) (ht false)

    otherwise : Ensured T S G (form.otherwise p) (AreAllParts l inside)
    unfolding form.otherwise
    otherwise = (
      next T S spans joins G elif_word _ (λ s i. weaker T S G (p.if_ s) (IsOnePart l inside) _ (λ x h. alone (append l inside [] x (no_parts l inside) h.it)) (hi s i)),
      else_body at_endif endif_word,
    )

    if_level : (from : Span) → S from → Ensured T S G (form.if_level p from) (IsOnePart l inside)
    unfolding form.if_level
    if_level from i = weaker T S G p.or IsOne _ (λ e k. next T S spans joins G block_end _ (λ _ _. weaker T S G (p.body at_endif_else_or_elif) (AreAllParts l inside) _ (λ ss b.
        weaker T S G (form.otherwise p) (AreAllParts l inside) _ (λ other m. spanned T S spans joins G from (if_cond e (stmts_of ss) (stmts_of other)) (IsOnePart l inside) i (λ s j. alone (record {
          stands = (j, stands T S e k.it, b.it.stand, m.it.stand);
          inner = (is_whole T S e k.it, b.it.inner, m.it.inner);
          free = both_none inside (all_blocks (bare_stmts (stmts_of ss))) _ b.it.free m.it.free;
        }))) otherwise) (hb at_endif_else_or_elif))) ho

    with_stmt : (from : Span) → S from → Ensured T S G (form.with_stmt p from) (IsOnePart l inside)
    unfolding form.with_stmt
    with_stmt from i = weaker T S G (form.bindings p.bound p.expr) (λ bs. Holds (AreBindings p.expr he bs)) _ (λ bs h. weaker T S G (form.closed_body p at_endwith endwith_word) (AreAllParts l inside) _
        (λ ss k. spanned T S spans joins G from (with_block bs (stmts_of ss)) (IsOnePart l inside) i (λ s j. alone (record { stands = (j, h.it.stand, k.it.stand); inner = (h.it.assigned, k.it.inner); free = k.it.free })))
        (closed_body at_endwith endwith_word)) (bindings p.expr he p.bound hw)

    set_block_is : (t : Expr C) (o : Option (Expr C)) (ss : List (Stmt C)) (s : Span) → IsAssignable C T S spans joins G t → IsAnyChain o → AreParts l inside ss → S s →
        IsPart l inside (set_block t (optional_of o) (stmts_of ss) s)
    set_block_is t None ss s h k m j = record { stands = (j, stands T S t h.sound, tt, m.stand); inner = (h.target, tt, m.inner); free = m.free }
    set_block_is t (Some e) ss s h k m j = record { stands = (j, stands T S t h.sound, k.stands, m.stand); inner = (h.target, k.chain, m.inner); free = m.free }

    rest_of_set_block : (from : Span) (t : Expr C) → S from → IsAssignable C T S spans joins G t → Ensured T S G (form.rest_of_set_block p from t) (IsOnePart l inside)
    unfolding form.rest_of_set_block form.filters_if_any
    rest_of_set_block from t i h = (
      (λ _ _ _ _. weaker T S G p.chain (λ e. Holds (IsChain e)) _ (λ e k. body (Some e) k.it) hc),
      body None tt,
    )
      where
        body : (o : Option (Expr C)) → IsAnyChain o → Ensured T S G (form.closed_body p at_endset endset_word >>= (λ ss. g.spanned from (set_block t (optional_of o) (stmts_of ss)))) (IsOnePart l inside)
        body o k = weaker T S G (form.closed_body p at_endset endset_word) (AreAllParts l inside) _
            (λ ss m. spanned T S spans joins G from (set_block t (optional_of o) (stmts_of ss)) (IsOnePart l inside) i (λ s j. alone (set_block_is t o ss s h k m.it j))) (closed_body at_endset endset_word)

    rest_of_set : (from : Span) (t : Expr C) → S from → IsAssignable C T S spans joins G t → Ensured T S G (form.rest_of_set p.value from t) (IsOnePart l inside)
    unfolding form.rest_of_set
    rest_of_set from t i h = next T S spans joins G assign _ (λ _ _. weaker T S G p.value IsOne _
        (λ v m. spanned T S spans joins G from (assignment t v) (IsOnePart l inside) i (λ s j. alone (record { stands = (j, stands T S t h.sound, stands T S v m.it); inner = (h.target, is_whole T S v m.it); free = none _ inside }))) hv)

    set_stmt : (from : Span) → S from → Ensured T S G (form.set_stmt p from) (IsOnePart l inside)
    unfolding form.set_stmt
    set_stmt from i = weaker T S G (p.targets true) (IsOneTarget C T S spans joins G) _ (λ t h. (rest_of_set_block from t i h.it, rest_of_set from t i h.it)) (ht true)

    autoescape_stmt : (from : Span) → S from → Ensured T S G (form.autoescape_stmt p from) (IsOnePart l inside)
    unfolding form.autoescape_stmt
    autoescape_stmt from i = weaker T S G p.expr IsOne _ (λ e h. weaker T S G (form.closed_body p at_endautoescape endautoescape_word) (AreAllParts l inside) _
        (λ ss k. spanned T S spans joins G from (auto_escape e (stmts_of ss)) (IsOnePart l inside) i (λ s j. alone (record { stands = (j, stands T S e h.it, k.it.stand); inner = (is_whole T S e h.it, k.it.inner); free = k.it.free })))
        (closed_body at_endautoescape endautoescape_word)) he

    filter_stmt : (from : Span) → S from → Ensured T S G (form.filter_stmt p from) (IsOnePart l inside)
    unfolding form.filter_stmt
    filter_stmt from i = weaker T S G p.chain (λ e. Holds (IsChain e)) _ (λ e h. weaker T S G (form.closed_body p at_endfilter endfilter_word) (AreAllParts l inside) _
        (λ ss k. spanned T S spans joins G from (filter_block e (stmts_of ss)) (IsOnePart l inside) i (λ s j. alone (record { stands = (j, h.it.stands, k.it.stand); inner = (h.it.chain, k.it.inner); free = k.it.free })))
        (closed_body at_endfilter endfilter_word)) hc

    -- ---- blocks

    block_body : (required : Bool) → Ensured T S G (form.block_body p required) (AreAllParts false inside)
    unfolding form.block_body
    block_body true = next T S spans joins G block_end _ (λ _ _. blank_body inside)
    block_body false = next T S spans joins G block_end _ (λ _ _. hn at_endblock)

    block_stmt : ((x : Text) → G x) → inside ≡ false → (from : Span) → S from → Ensured T S G (form.block_stmt p from) (IsOnePart l inside)
    unfolding form.block_stmt form.block_name
    block_stmt gives out from i = λ t x j k. (
      alone (gives x.0),
      (
        (λ _ _ _ _. rest x.0),
        rest x.0,
      ),
    )
      where
        free_of : (x : Text) (required : Bool) (ss : List (Stmt C)) (b : Bool) → b ≡ false → NoneIf b (blocks (bare_stmt (named_block x required (stmts_of ss) from)))
        free_of x required ss true e = cc
        free_of x required ss false e = tt

        end : (x : Text) (required : Bool) → Ensured T S G (form.block_body p required >>= (λ ss. g.next endblock_word >> form.end_name x >> g.spanned from (named_block x required (stmts_of ss)))) (IsOnePart l inside)
        end x required = weaker T S G (form.block_body p required) (AreAllParts false inside) _ (λ ss h. next T S spans joins G endblock_word _ (λ _ _. name_end x _
            (spanned T S spans joins G from (named_block x required (stmts_of ss)) (IsOnePart l inside) i (λ s j. alone (record { stands = (j, h.it.stand); inner = h.it.inner; free = free_of x required ss inside out })))))
            (block_body required)

        rest : (x : Text) → Ensured T S G (g.behind required_word (pure true) (pure false) >>= (λ required. form.block_body p required >>= (λ ss. g.next endblock_word >> form.end_name x >> g.spanned from (named_block x required (stmts_of ss))))) (IsOnePart l inside)
        rest x = flag required_word _ (λ required. end x required)

  -- ---- macros

  module _ (p : Parts C) (he : Ensured T S G p.expr IsOne) (hm : (e : Ends) → Ensured T S G (p.macro_body e) (AreAllParts false true)) where
    macro_body : (e : Ends) (word : Tok) → Ensured T S G (form.macro_body p e word) (AreAllParts false true)
    unfolding form.macro_body
    macro_body e word = next T S spans joins G block_end _ (λ _ _. weaker T S G (p.macro_body e) (AreAllParts false true) _ (λ ss h. next T S spans joins G word _ (λ _ _. h)) (hm e))

    macro_stands : (x : Text) (ps : List (Expr C × Option (Expr C))) (ss : List (Stmt C)) (s : Span) → S s → AreParams ps → AreParts false true ss → MacroStands T S (macro_of x ps ss s)
    macro_stands x ps ss s j h k = (j, targets_stand ps h, defaults_stand ps h, k.stand)

    macro_is : (x : Text) (ps : List (Expr C × Option (Expr C))) (ss : List (Stmt C)) (s : Span) → AreParams ps → AreParts false true ss → IsMacro (bare_macro (macro_of x ps ss s))
    macro_is x ps ss s h k = (targets_named ps h, defaults_whole ps h, defaults_fewer ps, k.inner, ap names_of_blocks k.free)

    macro_free : (b : Bool) (x : Text) (ps : List (Expr C × Option (Expr C))) (ss : List (Stmt C)) (s : Span) → AreParts false true ss → NoneIf b (macro_blocks (bare_macro (macro_of x ps ss s)))
    macro_free true x ps ss s k = k.free
    macro_free false x ps ss s k = tt

    pub macro_stmt : (l inside : Bool) (from : Span) → S from → Ensured T S G (form.macro_stmt p from) (IsOnePart l inside)
    unfolding form.macro_stmt
    macro_stmt l inside from i = λ t x j k. next T S spans joins G paren_open _ (λ _ _. weaker T S G (form.params p.expr) (λ ps. Holds (AreParams ps)) _ (λ ps h. weaker T S G (form.macro_body p at_endmacro endmacro_word) (AreAllParts false true) _ (λ ss m.
        spanned T S spans joins G from (λ s. declare (macro_of x.0 ps ss s)) (IsOnePart l inside) i (λ s n. alone (record {
          stands = macro_stands x.0 ps ss s n h.it m.it;
          inner = macro_is x.0 ps ss s h.it m.it;
          free = macro_free inside x.0 ps ss s m.it;
        }))) (macro_body at_endmacro endmacro_word)) (params p.expr he))

    pub call_stmt : (l inside : Bool) (from : Span) → S from → Ensured T S G (form.call_stmt p from) (IsOnePart l inside)
    unfolding form.call_stmt
    call_stmt l inside from i = (
      (λ _ _ _ _. weaker T S G (form.params p.expr) (λ ps. Holds (AreParams ps)) _ (λ ps h. rest ps h.it) (params p.expr he)),
      rest [] tt,
    )
      where
        rest : (ps : List (Expr C × Option (Expr C))) → AreParams ps → Ensured T S G (form.called p.expr >>= (λ c. form.macro_body p at_endcall endcall_word >>= (λ ss. g.spanned from (λ s. call_block c.0 c.1 c.2 (macro_of (codes "caller") ps ss s) s)))) (IsOnePart l inside)
        rest ps h = weaker T S G (form.called p.expr) (λ c. Holds (IsCalled c)) _ (λ c k. weaker T S G (form.macro_body p at_endcall endcall_word) (AreAllParts false true) _ (λ ss m.
            spanned T S spans joins G from (λ s. call_block c.0 c.1 c.2 (macro_of (codes "caller") ps ss s) s) (IsOnePart l inside) i (λ s n. alone (record {
              stands = (n, k.it.at, stands T S c.0 k.it.callee, all_args T S c.1 k.it.args, macro_stands (codes "caller") ps ss s n h m.it);
              inner = ((is_whole T S c.0 k.it.callee, whole_args T S c.1 k.it.args, k.it.few), macro_is (codes "caller") ps ss s h m.it);
              free = macro_free inside (codes "caller") ps ss s m.it;
            }))) (macro_body at_endcall endcall_word)) (called p.expr he)

  leaving : (l inside : Bool) (from : Span) (make : Span → Stmt C) → S from → ((s : Span) → S s → IsPart true inside (make s)) → Ensured T S G (g.when l (g.spanned from make)) (IsOnePart l inside)
  leaving true inside from make i k = spanned T S spans joins G from make (IsOnePart true inside) i (λ s j. alone (k s j))
  leaving false inside from make i k = alone tt

  pub break_stmt : (c : Context) (from : Span) → S from → Ensured T S G (form.break_stmt c from) (IsOnePart c.in_loop c.in_macro)
  unfolding form.break_stmt
  break_stmt c from i = leaving c.in_loop c.in_macro from break_loop i (λ s j. record { stands = j; inner = refl; free = none _ c.in_macro })

  pub continue_stmt : (c : Context) (from : Span) → S from → Ensured T S G (form.continue_stmt c from) (IsOnePart c.in_loop c.in_macro)
  unfolding form.continue_stmt
  continue_stmt c from i = leaving c.in_loop c.in_macro from continue_loop i (λ s j. record { stands = j; inner = refl; free = none _ c.in_macro })

  keyword_span : (t : SpannedTok) (x : Keyword × Span) → T t → form.keyword_and_span t ≡ Some x → S x.1
  keyword_span (ident y, s) x i e = go (keyword_of y) e
    where
      go : (o : Option Keyword) → option_map (λ k. (k, s)) o ≡ Some x → S x.1
      go None k = cc
      go (Some w) k = subst (λ (z : Keyword × Span). S z.1) (same (w, s) x k) (spans (ident y, s) i)
        where
          same : (z x : Keyword × Span) → Some z ≡ Some x → z ≡ x
          same z x k = cc
  keyword_span _ x i e = cc

  -- no name is given within a macro
  stmt_of : (c : Context) → (c.in_macro ≡ false → (x : Text) → G x) → (p : Parts C) → Ensured T S G p.expr IsOne → Ensured T S G p.or IsOne → Ensured T S G p.value IsOne → Ensured T S G p.chain (λ e. Holds (IsChain e)) →
      ((dotted : Bool) → Ensured T S G (p.targets dotted) (IsOneTarget C T S spans joins G)) → Ensured T S G p.bound (IsOneTarget C T S spans joins G) →
      ((e : Ends) → Ensured T S G (p.body e) (AreAllParts c.in_loop c.in_macro)) → ((e : Ends) → Ensured T S G (p.loop_body e) (AreAllParts true c.in_macro)) →
      ((e : Ends) → Ensured T S G (p.block_body e) (AreAllParts false c.in_macro)) → ((e : Ends) → Ensured T S G (p.macro_body e) (AreAllParts false true)) →
      ((from : Span) → S from → Ensured T S G (p.if_ from) (IsOnePart c.in_loop c.in_macro)) →
      (k : Keyword) (from : Span) → S from → Ensured T S G (form.stmt_of c p (k, from)) (IsOnePart c.in_loop c.in_macro)
  stmt_of c gives p he ho hv hc ht hw hb hl hn hm hi for_keyword from i = for_stmt c.in_loop c.in_macro p he ho hv hc ht hw hb hl hn hi from i
  stmt_of c gives p he ho hv hc ht hw hb hl hn hm hi if_keyword from i = if_level c.in_loop c.in_macro p he ho hv hc ht hw hb hl hn hi from i
  stmt_of c gives p he ho hv hc ht hw hb hl hn hm hi with_keyword from i = with_stmt c.in_loop c.in_macro p he ho hv hc ht hw hb hl hn hi from i
  stmt_of c gives p he ho hv hc ht hw hb hl hn hm hi set_keyword from i = set_stmt c.in_loop c.in_macro p he ho hv hc ht hw hb hl hn hi from i
  stmt_of c gives p he ho hv hc ht hw hb hl hn hm hi autoescape_keyword from i = autoescape_stmt c.in_loop c.in_macro p he ho hv hc ht hw hb hl hn hi from i
  stmt_of c gives p he ho hv hc ht hw hb hl hn hm hi filter_keyword from i = filter_stmt c.in_loop c.in_macro p he ho hv hc ht hw hb hl hn hi from i
  stmt_of c gives p he ho hv hc ht hw hb hl hn hm hi block_keyword from i = when_is (not c.in_macro) _ _ (λ e. block_stmt c.in_loop c.in_macro p he ho hv hc ht hw hb hl hn hi (gives (is_false c.in_macro e)) (is_false c.in_macro e) from i)
    where
      is_false : (b : Bool) → not b ≡ true → b ≡ false
      is_false true e = cc
      is_false false e = refl
  stmt_of c gives p he ho hv hc ht hw hb hl hn hm hi extends_keyword from i = extends_stmt p.expr he c.in_loop c.in_macro from i
  stmt_of c gives p he ho hv hc ht hw hb hl hn hm hi include_keyword from i = include_stmt p.expr he c.in_loop c.in_macro from i
  stmt_of c gives p he ho hv hc ht hw hb hl hn hm hi import_keyword from i = import_stmt p.expr he c.in_loop c.in_macro from i
  stmt_of c gives p he ho hv hc ht hw hb hl hn hm hi from_keyword from i = from_stmt p.expr he c.in_loop c.in_macro from i
  stmt_of c gives p he ho hv hc ht hw hb hl hn hm hi macro_keyword from i = macro_stmt p he hm c.in_loop c.in_macro from i
  stmt_of c gives p he ho hv hc ht hw hb hl hn hm hi call_keyword from i = call_stmt p he hm c.in_loop c.in_macro from i
  stmt_of c gives p he ho hv hc ht hw hb hl hn hm hi do_keyword from i = do_stmt p.expr he c.in_loop c.in_macro from i
  stmt_of c gives p he ho hv hc ht hw hb hl hn hm hi break_keyword from i = break_stmt c from i
  stmt_of c gives p he ho hv hc ht hw hb hl hn hm hi continue_keyword from i = continue_stmt c from i

  -- ---- bodies

  module _ (l inside : Bool) (expr : Form (Expr C)) (he : Ensured T S G expr IsOne) (stmt : Form (Stmt C)) (hs : Ensured T S G stmt (IsOnePart l inside)) where
    shown : (from : Span) → S from → Ensured T S G (form.shown expr from) (IsOnePart l inside)
    unfolding form.shown
    shown from i = weaker T S G expr IsOne _
        (λ e h. λ to j. λ t s k m. alone (record { stands = (joins from to i j, stands T S e h.it); inner = is_whole T S e h.it; free = none _ inside })) he

    tag : Ensured T S G (form.tag stmt) (IsOnePart l inside)
    unfolding form.tag
    tag = weaker T S G stmt (IsOnePart l inside) _ (λ x i. λ t u j k. i) hs

    also_part : (ss : List (Stmt C)) (f : Form (Stmt C)) → AreParts l inside ss → Ensured T S G f (IsOnePart l inside) → Ensured T S G (form.also_part ss f) (λ z. Holds (Kept (AreParts l inside) z))
    also_part ss f h k = weaker T S G f (IsOnePart l inside) _ (λ s i. alone (append l inside ss s h i.it)) k

    part : (e : Ends) (ss : List (Stmt C)) (t : SpannedTok) → T t → AreParts l inside ss → Ensured T S G (form.part expr stmt e ss t) (λ z. Holds (Kept (AreParts l inside) z))
    part e ss (template_data t, s) i h = alone (append l inside ss (data_text t s) h (record { stands = i; inner = tt; free = none _ inside }))
    part e ss (variable_start, s) i h = also_part ss (form.shown expr s) h (shown s (spans (variable_start, s) i))
    part e ss (block_start, s) i h = (alone h, also_part ss (form.tag stmt) h tag)
    part e ss _ i h = alone tt

    pub body : (e : Ends) → Ensured T S G (form.body expr stmt e) (AreAllParts l inside)
    unfolding form.body
    body e = (
      AreParts l inside,
      alone (no_parts l inside),
      (λ ss t u h k m. part e ss u (any_is t u k m) h),
      λ ss h. alone h,
    )

  module _ {F : Type 0} (f : Functions C F) where
    -- a statement of each kind, where such statements and such an If nest
    any_of : (c : Context) → (c.in_macro ≡ false → (x : Text) → G x) → (d : ℕ) →
        ((c' : Context) → (c'.in_macro ≡ false → (x : Text) → G x) → Ensured T S G (form.stmt_at f c' d) (IsOnePart c'.in_loop c'.in_macro)) →
        ((from : Span) → S from → Ensured T S G ((form.within f d).if_ c from) (IsOnePart c.in_loop c.in_macro)) →
        (k : Keyword) (from : Span) → S from → Ensured T S G (form.stmt_of c (form.parts_at f c d) (k, from)) (IsOnePart c.in_loop c.in_macro)
    any_of c gives d hs hi k from i = stmt_of c gives (form.parts_at f c d)
        (expr_sound T S spans joins G f d)
        (or_level T S spans joins G f (below f d) (below_sound T S spans joins G f d))
        (value (expr_at f d) (expr_sound T S spans joins G f d))
        (chain (expr_at f d) (expr_sound T S spans joins G f d))
        (λ dotted. any_targets C T S spans joins G dotted d)
        (bound_target d)
        (nested c (hs c gives))
        (nested (inside_loop c) (hs (inside_loop c) gives))
        (nested (inside_block c) (hs (inside_block c) gives))
        (nested inside_macro (hs inside_macro (λ e. cc)))
        hi k from i
      where
        nested : (c' : Context) → Ensured T S G (form.stmt_at f c' d) (IsOnePart c'.in_loop c'.in_macro) → (e : Ends) → Ensured T S G (form.body (expr_at f d) (form.stmt_at f c' d) e) (AreAllParts c'.in_loop c'.in_macro)
        nested c' h = body c'.in_loop c'.in_macro (expr_at f d) (expr_sound T S spans joins G f d) (form.stmt_at f c' d) h

    mutual
      unfolding form.within form.stmt_level

      pub stmt_at : (c : Context) → (c.in_macro ≡ false → (x : Text) → G x) → (d : ℕ) → Ensured T S G (form.stmt_at f c d) (IsOnePart c.in_loop c.in_macro)
      stmt_at c gives zero = alone tt
      stmt_at c gives (suc d) = λ t x i j. any_of c gives d (λ c' g. stmt_at c' g d) (if_at c gives d) x.0 x.1 (keyword_span t x i j)

      if_at : (c : Context) → (c.in_macro ≡ false → (x : Text) → G x) → (d : ℕ) → (from : Span) → S from → Ensured T S G ((form.within f d).if_ c from) (IsOnePart c.in_loop c.in_macro)
      if_at c gives zero from i = alone tt
      if_at c gives (suc d) from i = any_of c gives d (λ c' g. stmt_at c' g d) (if_at c gives d) if_keyword from i
