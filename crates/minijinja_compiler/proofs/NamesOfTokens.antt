-- What occurs in a tree that stands at tokens has the names of identifiers among them.
use Rattle.std.proofs.Common.{◌≡◌, Bool, true, false, cond, List, [], ◌∷◌, ◌++◌, Contains, ap, sym, subst, ◌∙◌}
use Rattle.std.specs.Prelude.{All, not, reverse, codes}
use Rattle.std.proofs.lemmas.List.{reverse-append}
use Rattle.std.proofs.lemmas.List.Elements.{All-nil, All-cons, All-append}
use Rattle.minijinja_syntax.specs.Texts.{Text}
use Rattle.minijinja_syntax.specs.Tokens.{ident}
use Rattle.minijinja_syntax.specs.Streams.{SpannedTok}
use Rattle.minijinja_syntax.specs.declared.tokens.Span.{Span}
use Rattle.minijinja_value.specs.Values.{Functions}
use Rattle.minijinja_tree.specs.FreeNames as bare
use Rattle.minijinja_tree.specs.SpannedTrees.{Expr, variable, constant, slice, unary, binary, compare, if_expr, filter, test, attribute, item, call, list, tuple, map, Optional, absent, present, Exprs, no_more, more, Comparisons, compared, against, Args, no_args, pos, pos_splat, kwarg, kwarg_splat, Stmt, template, data_text, output, assignment, for_loop, if_cond, with_block, set_block, auto_escape, filter_block, named_block, extends, include, import_all, from_import, declare, call_block, do_call, break_loop, continue_loop, Stmts, done, also, Macro, macro, bare_stmt}
use Rattle.minijinja_tree.specs.Standing.{Stands, StandsIfAny, ExprsStand, CompareStand, ArgsStand, BindingsStand, AllStand, NamesStand, StmtStands, StmtsStand, MacroStands}
use Rattle.minijinja_meta.specs.Mentions.{Way, end, occurs, stores, declares, region, is_among, marked, free_of, free, names_of, in_row, in_turn, chained, through_if_any, through_all, each, through_compared, through_positional, through_keyword, through_call, to_target, to_targets, to_assignments, to_name, to_names, to_defaulted, to_parameters, to_filter, through_stmt, through_stmts, through_macro, way}
use Rattle.minijinja_meta.proofs.Bare as ways
use Rattle.minijinja_meta.proofs.Bare.{free_names, free_of-append, names_of-append}
use Rattle.minijinja_grammar.specs.Derived.{IsTemplateTree}
use Rattle.minijinja_grammar.specs.Places.{Place}
use Rattle.minijinja_grammar.specs.TokenSpans.{IsOfTokens}
use Rattle.minijinja_grammar.proofs.Derivations.{template_derived}
use Rattle.minijinja_grammar.proofs.Trees.{template_stands}
use Rattle.minijinja_compiler.specs.Identifiers.{IsIdentifierOf}

-- what occurs on the way has such names
abbrev AllOccur : (Text → Type 0) → Way → Type 0
AllOccur P end = Unit {0}
AllOccur P (occurs m w) = P m.name × AllOccur P w
AllOccur P (stores x w) = AllOccur P w
AllOccur P (declares x s w) = AllOccur P w
AllOccur P (region v w) = AllOccur P v × AllOccur P w

-- so has what occurs free
marked_occur : (P : Text → Type 0) (stored : List Text) (w : Way) → AllOccur P w → All P (names_of (free_of (marked stored w)))
marked_occur P stored end h = All-nil P
marked_occur P stored (occurs m w) h = go (not (is_among m.name stored)) (marked_occur P stored w h.1)
  where
    go : (b : Bool) → All P (names_of (free_of (marked stored w))) → All P (names_of (cond b (m ∷ free_of (marked stored w)) (free_of (marked stored w))))
    go true k = All-cons P m.name (names_of (free_of (marked stored w))) h.0 k
    go false k = k
marked_occur P stored (stores x w) h = marked_occur P (x ∷ stored) w h
marked_occur P stored (declares x s w) h = marked_occur P stored w h
marked_occur P stored (region v w) h =
    let both : names_of (free_of (marked stored v ++ marked stored w)) ≡ names_of (free_of (marked stored v)) ++ names_of (free_of (marked stored w))
    = ap names_of (free_of-append (marked stored v) (marked stored w)) ∙ names_of-append (free_of (marked stored v)) (free_of (marked stored w))
    in
    subst (All P) (sym both)
    (All-append P (names_of (free_of (marked stored v))) (names_of (free_of (marked stored w))) (marked_occur P stored v h.0) (marked_occur P stored w h.1))

module _ (P : Text → Type 0) where
  -- each piece of a way keeps what occurs after it
  abbrev Keep : List (Way → Way) → Type 0
  Keep [] = Unit {0}
  Keep (v ∷ vs) = ((w : Way) → AllOccur P w → AllOccur P (v w)) × Keep vs

  row_keeps : (vs : List (Way → Way)) (w : Way) → Keep vs → AllOccur P w → AllOccur P (in_row vs w)
  row_keeps [] w h k = k
  row_keeps (v ∷ vs) w h k = h.0 (in_row vs w) (row_keeps vs w h.1 k)

  turn_keeps : (ks vs : List (Way → Way)) (w : Way) → Keep ks → Keep vs → AllOccur P w → AllOccur P (in_turn ks vs w)
  turn_keeps [] vs w h i k = row_keeps vs w i k
  turn_keeps (u ∷ us) [] w h i k = h.0 (in_turn us [] w) (turn_keeps us [] w h.1 tt k)
  turn_keeps (u ∷ us) (v ∷ vs) w h i k = h.0 (v (in_turn us vs w)) (i.0 (in_turn us vs w) (turn_keeps us vs w h.1 i.1 k))

-- where a variable stands at an identifier of such a name, so has what occurs
module _ {C : Type 0} (T : SpannedTok → Type 0) (S : Span → Type 0) (P : Text → Type 0) (named : (x : Text) (s : Span) → T (ident x, s) → P x) where
  -- ---- expressions

  mutual
    chained_occur : (ys : List Text) (e : Expr C) (w : Way) → Stands T S e → AllOccur P w → AllOccur P (chained ys e w)
    chained_occur ys (variable x s) w h k = (named x s h, k)
    chained_occur ys (attribute e y s) w h k = chained_occur (y ∷ ys) e w h.1 k
    chained_occur ys (constant c s) w h k = k
    chained_occur ys (slice e a b c s) w h k =
        chained_occur [] e (through_if_any a (through_if_any b (through_if_any c w))) h.1 (any_occur a (through_if_any b (through_if_any c w)) h.2 (any_occur b (through_if_any c w) h.3 (any_occur c w h.4 k)))
    chained_occur ys (unary o e s) w h k = chained_occur [] e w h.1 k
    chained_occur ys (binary o a b s) w h k = chained_occur [] a (chained [] b w) h.1 (chained_occur [] b w h.2 k)
    chained_occur ys (compare e cs s) w h k = chained_occur [] e (through_compared cs w) h.1 (compared_occur cs w h.2 k)
    chained_occur ys (if_expr t a b s) w h k = chained_occur [] t (chained [] a (through_if_any b w)) h.1 (chained_occur [] a (through_if_any b w) h.2 (any_occur b w h.3 k))
    chained_occur ys (filter e x args s) w h k = any_occur e (through_positional args (through_keyword args w)) h.1 (positional_occur args (through_keyword args w) h.2 (keyword_occur args w h.2 k))
    chained_occur ys (test e x args s) w h k = chained_occur [] e (through_positional args (through_keyword args w)) h.1 (positional_occur args (through_keyword args w) h.2 (keyword_occur args w h.2 k))
    chained_occur ys (item e i s) w h k = chained_occur [] e (chained [] i w) h.1 (chained_occur [] i w h.2 k)
    chained_occur ys (call e args s) w h k = chained_occur [] e (through_positional args (through_keyword args w)) h.1 (positional_occur args (through_keyword args w) h.2 (keyword_occur args w h.2 k))
    chained_occur ys (list es s) w h k = all_occur es w h.1 k
    chained_occur ys (tuple es s) w h k = all_occur es w h.1 k
    chained_occur ys (map ks vs s) w h k = turn_keeps P (each ks) (each vs) w (each_keeps ks h.1) (each_keeps vs h.2) k

    any_occur : (e : Optional C) (w : Way) → StandsIfAny T S e → AllOccur P w → AllOccur P (through_if_any e w)
    any_occur absent w h k = k
    any_occur (present e) w h k = chained_occur [] e w h k

    all_occur : (es : Exprs C) (w : Way) → ExprsStand T S es → AllOccur P w → AllOccur P (through_all es w)
    all_occur no_more w h k = k
    all_occur (more e es) w h k = chained_occur [] e (through_all es w) h.0 (all_occur es w h.1 k)

    each_keeps : (es : Exprs C) → ExprsStand T S es → Keep P (each es)
    each_keeps no_more h = tt
    each_keeps (more e es) h = (λ w k. chained_occur [] e w h.0 k, each_keeps es h.1)

    compared_occur : (cs : Comparisons C) (w : Way) → CompareStand T S cs → AllOccur P w → AllOccur P (through_compared cs w)
    compared_occur compared w h k = k
    compared_occur (against o e cs) w h k = chained_occur [] e (through_compared cs w) h.0 (compared_occur cs w h.1 k)

    positional_occur : (args : Args C) (w : Way) → ArgsStand T S args → AllOccur P w → AllOccur P (through_positional args w)
    positional_occur no_args w h k = k
    positional_occur (pos e args) w h k = chained_occur [] e (through_positional args w) h.0 (positional_occur args w h.1 k)
    positional_occur (pos_splat e args) w h k = chained_occur [] e (through_positional args w) h.0 (positional_occur args w h.1 k)
    positional_occur (kwarg x e args) w h k = positional_occur args w h.1 k
    positional_occur (kwarg_splat e args) w h k = positional_occur args w h.1 k

    keyword_occur : (args : Args C) (w : Way) → ArgsStand T S args → AllOccur P w → AllOccur P (through_keyword args w)
    keyword_occur no_args w h k = k
    keyword_occur (pos e args) w h k = keyword_occur args w h.1 k
    keyword_occur (pos_splat e args) w h k = keyword_occur args w h.1 k
    keyword_occur (kwarg x e args) w h k = chained_occur [] e (through_keyword args w) h.0 (keyword_occur args w h.1 k)
    keyword_occur (kwarg_splat e args) w h k = chained_occur [] e (through_keyword args w) h.0 (keyword_occur args w h.1 k)

  args_occur : (args : Args C) (w : Way) → ArgsStand T S args → AllOccur P w → AllOccur P (through_positional args (through_keyword args w))
  args_occur args w h k = positional_occur args (through_keyword args w) h (keyword_occur args w h k)

  call_occur : (e : Expr C) (args : Args C) (w : Way) → Stands T S e → ArgsStand T S args → AllOccur P w → AllOccur P (through_call e args w)
  call_occur e args w h i k = chained_occur [] e (through_positional args (through_keyword args w)) h (args_occur args w i k)

  -- ---- targets

  mutual
    target_occur : (e : Expr C) (w : Way) → Stands T S e → AllOccur P w → AllOccur P (to_target e w)
    target_occur (variable x s) w h k = k
    target_occur (attribute e y s) w h k = chained_occur [] e w h.1 k
    target_occur (list es s) w h k = targets_occur es w h.1 k
    target_occur e w h k = chained_occur [] e w h k

    targets_occur : (es : Exprs C) (w : Way) → ExprsStand T S es → AllOccur P w → AllOccur P (to_targets es w)
    targets_occur no_more w h k = k
    targets_occur (more e es) w h k = target_occur e (to_targets es w) h.0 (targets_occur es w h.1 k)

  assignments_occur : (bs : List (Expr C × Expr C)) (w : Way) → BindingsStand T S bs → AllOccur P w → AllOccur P (to_assignments bs w)
  assignments_occur [] w h k = k
  assignments_occur (b ∷ bs) w h k = chained_occur [] b.1 (to_target b.0 (to_assignments bs w)) h.1 (target_occur b.0 (to_assignments bs w) h.0 (assignments_occur bs w h.2 k))

  name_occur : (n : Expr C × Optional C) (w : Way) → Stands T S n.0 → StandsIfAny T S n.1 → AllOccur P w → AllOccur P (to_name n w)
  name_occur (e, absent) w h i k = target_occur e w h k
  name_occur (e, present alias) w h i k = target_occur alias w i k

  names_occur : (ns : List (Expr C × Optional C)) (w : Way) → NamesStand T S ns → AllOccur P w → AllOccur P (to_names ns w)
  names_occur [] w h k = k
  names_occur (n ∷ ns) w h k = names_occur ns (to_name n w) h.2 (name_occur n w h.0 h.1 k)

  defaulted_occur : (es ds : List (Expr C)) (w : Way) → AllStand T S es → AllStand T S ds → AllOccur P w → AllOccur P (to_defaulted es ds w)
  defaulted_occur [] ds w h i k = k
  defaulted_occur (e ∷ es) [] w h i k = target_occur e (to_defaulted es [] w) h.0 (defaulted_occur es [] w h.1 tt k)
  defaulted_occur (e ∷ es) (d ∷ ds) w h i k = chained_occur [] d (to_target e (to_defaulted es ds w)) i.0 (target_occur e (to_defaulted es ds w) h.0 (defaulted_occur es ds w h.1 i.1 k))

  stand-append : (xs ys : List (Expr C)) → AllStand T S xs → AllStand T S ys → AllStand T S (xs ++ ys)
  stand-append [] ys h i = i
  stand-append (x ∷ xs) ys h i = (h.0, stand-append xs ys h.1 i)

  stand-reverse : (xs : List (Expr C)) → AllStand T S xs → AllStand T S (reverse xs)
  stand-reverse [] h = tt
  stand-reverse (x ∷ xs) h = subst (AllStand T S) (sym (reverse-append (x ∷ []) xs)) (stand-append (reverse xs) (x ∷ []) (stand-reverse xs h.1) (h.0, tt))

  parameters_occur : (args ds : List (Expr C)) (w : Way) → AllStand T S args → AllStand T S ds → AllOccur P w → AllOccur P (to_parameters args ds w)
  parameters_occur args ds w h i k = defaulted_occur (reverse args) (reverse ds) w (stand-reverse args h) (stand-reverse ds i) k

  filter_occur : (t : Expr C) (o : Optional C) (w : Way) → Stands T S t → StandsIfAny T S o → AllOccur P w → AllOccur P (to_filter t o w)
  filter_occur t absent w h i k = k
  filter_occur t (present e) w h i k = (target_occur t (chained [] e end) h (chained_occur [] e end i tt), k)

  -- ---- statements

  mutual
    stmt_occurs : (t : Stmt C) (w : Way) → StmtStands T S t → AllOccur P w → AllOccur P (through_stmt t w)
    stmt_occurs (template ss s) w h k = stmts_occur ss w h.1 k
    stmt_occurs (data_text t s) w h k = k
    stmt_occurs (output e s) w h k = chained_occur [] e w h.1 k
    stmt_occurs (assignment t e s) w h k = chained_occur [] e (to_target t w) h.2 (target_occur t w h.1 k)
    stmt_occurs (for_loop t e only again ss other s) w h k =
        let after = region (stores (codes "loop") (to_target t (through_stmts ss end))) (region (through_stmts other end) w) in
        chained_occur [] e (to_filter t only after) h.2
        (filter_occur t only after h.1 h.3 (target_occur t (through_stmts ss end) h.1 (stmts_occur ss end h.4 tt), (stmts_occur other end h.5 tt, k)))
    stmt_occurs (if_cond e ss other s) w h k =
        chained_occur [] e (region (through_stmts ss end) (region (through_stmts other end) w)) h.1 (stmts_occur ss end h.2 tt, (stmts_occur other end h.3 tt, k))
    stmt_occurs (with_block bs ss s) w h k = (assignments_occur bs (through_stmts ss end) h.1 (stmts_occur ss end h.2 tt), k)
    stmt_occurs (set_block t e ss s) w h k = (stmts_occur ss end h.3 tt, any_occur e (to_target t w) h.2 (target_occur t w h.1 k))
    stmt_occurs (auto_escape e ss s) w h k = chained_occur [] e (region (through_stmts ss end) w) h.1 (stmts_occur ss end h.2 tt, k)
    stmt_occurs (filter_block e ss s) w h k = (stmts_occur ss end h.2 tt, chained_occur [] e w h.1 k)
    stmt_occurs (named_block x required ss s) w h k = (stmts_occur ss end h.1 tt, k)
    stmt_occurs (extends e s) w h k = chained_occur [] e w h.1 k
    stmt_occurs (include e ignore s) w h k = chained_occur [] e w h.1 k
    stmt_occurs (import_all e t s) w h k = chained_occur [] e (to_target t w) h.1 (target_occur t w h.2 k)
    stmt_occurs (from_import e ns s) w h k = chained_occur [] e (to_names ns w) h.1 (names_occur ns w h.2 k)
    stmt_occurs (declare (macro x args ds ss s)) w h k = (macro_occurs (macro x args ds ss s) end h tt, k)
    stmt_occurs (call_block e args from m s) w h k =
        call_occur e args (region (stores (codes "caller") (through_macro m end)) w) h.2 h.3 (macro_occurs m end h.4 tt, k)
    stmt_occurs (do_call e args from s) w h k = call_occur e args w h.2 h.3 k
    stmt_occurs (break_loop s) w h k = k
    stmt_occurs (continue_loop s) w h k = k

    stmts_occur : (ss : Stmts C) (w : Way) → StmtsStand T S ss → AllOccur P w → AllOccur P (through_stmts ss w)
    stmts_occur done w h k = k
    stmts_occur (also s rest) w h k = stmt_occurs s (through_stmts rest w) h.0 (stmts_occur rest w h.1 k)

    macro_occurs : (m : Macro C) (w : Way) → MacroStands T S m → AllOccur P w → AllOccur P (through_macro m w)
    macro_occurs (macro x args ds ss s) w h k = parameters_occur args ds (through_stmts ss w) h.1 h.2 (stmts_occur ss w h.3 k)

-- ---- trees of tokens

-- what occurs free in a tree has the names of the bare tree
bare_names : {C : Type 0} (t : Stmt C) → names_of (free (way t)) ≡ bare.free (bare.through_stmt (bare_stmt t) bare.end)
bare_names t = free_names (way t) ∙ ap bare.free (ways.stmt_is t end)

-- each is that of an identifier among the tokens that the tree is derived from
pub names_of_tokens : {C F : Type 0} (f : Functions C F) (p : Place) (t : Stmt C) → IsTemplateTree f p (bare_stmt t) → All (IsIdentifierOf p.tokens) (names_of (free (way t)))
names_of_tokens f p t h =
    let d = template_derived f p (bare_stmt t) h in
    let stands = template_stands f p d.0 d.1 in
    let occur = stmt_occurs (Contains p.tokens) (IsOfTokens p.tokens p.last) (IsIdentifierOf p.tokens) (λ x s i. (s, i)) d.0 end stands tt in
    let same : names_of (free (way d.0)) ≡ names_of (free (way t)) = bare_names d.0 ∙ ap (λ u. bare.free (bare.through_stmt u bare.end)) d.2 ∙ sym (bare_names t) in
    subst (All (IsIdentifierOf p.tokens)) same (marked_occur (IsIdentifierOf p.tokens) [] (way d.0) occur)
