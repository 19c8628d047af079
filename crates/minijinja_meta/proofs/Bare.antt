-- The way through a tree, without what attributes and spans add to it, is the way through the bare
-- tree.
use Rattle.std.proofs.Common.{◌≡◌, refl, sym, ap, ap₂, ◌∙◌}
use Rattle.std.specs.Prelude.{Bool, true, false, not, ◌||◌, List, [], ◌∷◌, ◌++◌, codes, reverse, cond}
use Rattle.std.specs.Prelude as std
use Rattle.std.proofs.lemmas.List.{reverse-append}
use Rattle.std.specs.Str.{bytes_eq}
use Rattle.minijinja_syntax.specs.Texts.{Text}
use Rattle.minijinja_tree.specs.FreeNames as bare
use Rattle.minijinja_tree.specs.Tree as tree
use Rattle.minijinja_tree.specs.SpannedTrees.{Expr, variable, constant, slice, unary, binary, compare, if_expr, filter, test, attribute, item, call, list, tuple, map, Optional, absent, present, Exprs, no_more, more, Comparisons, compared, against, Args, no_args, pos, pos_splat, kwarg, kwarg_splat, Stmt, template, data_text, output, assignment, for_loop, if_cond, with_block, set_block, auto_escape, filter_block, named_block, extends, include, import_all, from_import, declare, call_block, do_call, break_loop, continue_loop, Stmts, done, also, Macro, macro, bare_expr, bare_optional, bare_exprs, bare_comparisons, bare_args, bare_bindings, bare_list, bare_names, bare_stmt, bare_stmts, bare_macro}
use Rattle.minijinja_meta.specs.Mentions.{Way, end, occurs, stores, declares, region, is_among, marked, free_of, free, names_of, in_row, in_turn, chained, through_if_any, through_all, each, through_compared, through_positional, through_keyword, through_call, to_target, to_targets, to_assignments, to_name, to_names, to_defaulted, to_parameters, to_filter, through_stmt, through_stmts, through_macro}

-- the way with names alone
abbrev pub bare_way : Way → bare.Way
bare_way end = bare.end
bare_way (occurs m w) = bare.occurs m.name (bare_way w)
bare_way (stores x w) = bare.stores x (bare_way w)
bare_way (declares x s w) = bare_way w
bare_way (region within w) = bare.region (bare_way within) (bare_way w)

-- ---- expressions

-- what each of these is without spans
abbrev AreAlike : {C : Type 0} → Exprs C → Type 0
AreAlike no_more = Unit {0}
AreAlike (more e es) = ((w : Way) → bare_way (chained [] e w) ≡ bare.through (bare_expr e) (bare_way w)) × AreAlike es

row_is : {C : Type 0} (es : Exprs C) → AreAlike es → (w : Way) → bare_way (in_row (each es) w) ≡ bare.in_row (bare.each (bare_exprs es)) (bare_way w)
row_is no_more h w = refl
row_is (more e es) h w = h.0 (in_row (each es) w) ∙ ap (bare.through (bare_expr e)) (row_is es h.1 w)

left_is : {C : Type 0} (es : Exprs C) → AreAlike es → (w : Way) → bare_way (in_turn (each es) [] w) ≡ bare.in_turn (bare.each (bare_exprs es)) [] (bare_way w)
left_is no_more h w = refl
left_is (more e es) h w = h.0 (in_turn (each es) [] w) ∙ ap (bare.through (bare_expr e)) (left_is es h.1 w)

turn_is : {C : Type 0} (ks vs : Exprs C) → AreAlike ks → AreAlike vs → (w : Way) → bare_way (in_turn (each ks) (each vs) w) ≡ bare.in_turn (bare.each (bare_exprs ks)) (bare.each (bare_exprs vs)) (bare_way w)
turn_is no_more vs h k w = row_is vs k w
turn_is (more e es) no_more h k w = left_is (more e es) h w
turn_is (more e es) (more v vs) h k w =
    h.0 (chained [] v (in_turn (each es) (each vs) w)) ∙ ap (bare.through (bare_expr e)) (k.0 (in_turn (each es) (each vs) w) ∙ ap (bare.through (bare_expr v)) (turn_is es vs h.1 k.1 w))

mutual
  pub chained_is : {C : Type 0} (ys : List Text) (e : Expr C) (w : Way) → bare_way (chained ys e w) ≡ bare.through (bare_expr e) (bare_way w)
  chained_is ys (variable x s) w = refl
  chained_is ys (attribute e y s) w = chained_is (y ∷ ys) e w
  chained_is ys (constant c s) w = refl
  chained_is ys (slice e a b c s) w =
      chained_is [] e (through_if_any a (through_if_any b (through_if_any c w)))
      ∙ ap (bare.through (bare_expr e)) (any_is a (through_if_any b (through_if_any c w)) ∙ ap (bare.through_if_any (bare_optional a)) (any_is b (through_if_any c w) ∙ ap (bare.through_if_any (bare_optional b)) (any_is c w)))
  chained_is ys (unary o e s) w = chained_is [] e w
  chained_is ys (binary o a b s) w = chained_is [] a (chained [] b w) ∙ ap (bare.through (bare_expr a)) (chained_is [] b w)
  chained_is ys (compare e cs s) w = chained_is [] e (through_compared cs w) ∙ ap (bare.through (bare_expr e)) (compared_is cs w)
  chained_is ys (if_expr t a b s) w =
      chained_is [] t (chained [] a (through_if_any b w)) ∙ ap (bare.through (bare_expr t)) (chained_is [] a (through_if_any b w) ∙ ap (bare.through (bare_expr a)) (any_is b w))
  chained_is ys (filter e x args s) w = any_is e (through_positional args (through_keyword args w)) ∙ ap (bare.through_if_any (bare_optional e)) (positional_is args (through_keyword args w) ∙ ap (bare.through_positional (bare_args args)) (keyword_is args w))
  chained_is ys (test e x args s) w = chained_is [] e (through_positional args (through_keyword args w)) ∙ ap (bare.through (bare_expr e)) (positional_is args (through_keyword args w) ∙ ap (bare.through_positional (bare_args args)) (keyword_is args w))
  chained_is ys (item e k s) w = chained_is [] e (chained [] k w) ∙ ap (bare.through (bare_expr e)) (chained_is [] k w)
  chained_is ys (call e args s) w = chained_is [] e (through_positional args (through_keyword args w)) ∙ ap (bare.through (bare_expr e)) (positional_is args (through_keyword args w) ∙ ap (bare.through_positional (bare_args args)) (keyword_is args w))
  chained_is ys (list es s) w = all_is es w
  chained_is ys (tuple es s) w = all_is es w
  chained_is ys (map ks vs s) w = turn_is ks vs (each_is ks) (each_is vs) w

  any_is : {C : Type 0} (e : Optional C) (w : Way) → bare_way (through_if_any e w) ≡ bare.through_if_any (bare_optional e) (bare_way w)
  any_is absent w = refl
  any_is (present e) w = chained_is [] e w

  all_is : {C : Type 0} (es : Exprs C) (w : Way) → bare_way (through_all es w) ≡ bare.through_all (bare_exprs es) (bare_way w)
  all_is no_more w = refl
  all_is (more e es) w = chained_is [] e (through_all es w) ∙ ap (bare.through (bare_expr e)) (all_is es w)

  each_is : {C : Type 0} (es : Exprs C) → AreAlike es
  each_is no_more = tt
  each_is (more e es) = (λ w. chained_is [] e w, each_is es)

  compared_is : {C : Type 0} (cs : Comparisons C) (w : Way) → bare_way (through_compared cs w) ≡ bare.through_compared (bare_comparisons cs) (bare_way w)
  compared_is compared w = refl
  compared_is (against o e cs) w = chained_is [] e (through_compared cs w) ∙ ap (bare.through (bare_expr e)) (compared_is cs w)

  positional_is : {C : Type 0} (args : Args C) (w : Way) → bare_way (through_positional args w) ≡ bare.through_positional (bare_args args) (bare_way w)
  positional_is no_args w = refl
  positional_is (pos e args) w = chained_is [] e (through_positional args w) ∙ ap (bare.through (bare_expr e)) (positional_is args w)
  positional_is (pos_splat e args) w = chained_is [] e (through_positional args w) ∙ ap (bare.through (bare_expr e)) (positional_is args w)
  positional_is (kwarg x e args) w = positional_is args w
  positional_is (kwarg_splat e args) w = positional_is args w

  keyword_is : {C : Type 0} (args : Args C) (w : Way) → bare_way (through_keyword args w) ≡ bare.through_keyword (bare_args args) (bare_way w)
  keyword_is no_args w = refl
  keyword_is (pos e args) w = keyword_is args w
  keyword_is (pos_splat e args) w = keyword_is args w
  keyword_is (kwarg x e args) w = chained_is [] e (through_keyword args w) ∙ ap (bare.through (bare_expr e)) (keyword_is args w)
  keyword_is (kwarg_splat e args) w = chained_is [] e (through_keyword args w) ∙ ap (bare.through (bare_expr e)) (keyword_is args w)

call_is : {C : Type 0} (e : Expr C) (args : Args C) (w : Way) → bare_way (through_call e args w) ≡ bare.through (tree.call (bare_expr e) (bare_args args)) (bare_way w)
call_is e args w =
    chained_is [] e (through_positional args (through_keyword args w))
    ∙ ap (bare.through (bare_expr e)) (positional_is args (through_keyword args w) ∙ ap (bare.through_positional (bare_args args)) (keyword_is args w))

-- ---- targets

mutual
  target_is : {C : Type 0} (e : Expr C) (w : Way) → bare_way (to_target e w) ≡ bare.to_target (bare_expr e) (bare_way w)
  target_is (variable x s) w = refl
  target_is (attribute e y s) w = chained_is [] e w
  target_is (list es s) w = targets_are es w
  target_is e w = chained_is [] e w

  targets_are : {C : Type 0} (es : Exprs C) (w : Way) → bare_way (to_targets es w) ≡ bare.to_targets (bare_exprs es) (bare_way w)
  targets_are no_more w = refl
  targets_are (more e es) w = target_is e (to_targets es w) ∙ ap (bare.to_target (bare_expr e)) (targets_are es w)

assignments_are : {C : Type 0} (bs : List (Expr C × Expr C)) (w : Way) → bare_way (to_assignments bs w) ≡ bare.to_assignments (bare_bindings bs) (bare_way w)
assignments_are [] w = refl
assignments_are (b ∷ bs) w =
    chained_is [] b.1 (to_target b.0 (to_assignments bs w)) ∙ ap (bare.through (bare_expr b.1)) (target_is b.0 (to_assignments bs w) ∙ ap (bare.to_target (bare_expr b.0)) (assignments_are bs w))

name_is : {C : Type 0} (n : Expr C × Optional C) (w : Way) → bare_way (to_name n w) ≡ bare.to_target (tree.stored_as (bare_expr n.0, bare_optional n.1)) (bare_way w)
name_is (e, absent) w = target_is e w
name_is (e, present alias) w = target_is alias w

names_are : {C : Type 0} (ns : List (Expr C × Optional C)) (w : Way) → bare_way (to_names ns w) ≡ bare.to_names (bare_names ns) (bare_way w)
names_are [] w = refl
names_are (n ∷ ns) w = names_are ns (to_name n w) ∙ ap (bare.to_names (bare_names ns)) (name_is n w)

defaulted_is : {C : Type 0} (es ds : List (Expr C)) (w : Way) → bare_way (to_defaulted es ds w) ≡ bare.to_parameters (tree.defaulted (bare_list es) (bare_list ds)) (bare_way w)
defaulted_is [] ds w = refl
defaulted_is (e ∷ es) [] w = target_is e (to_defaulted es [] w) ∙ ap (bare.to_target (bare_expr e)) (defaulted_is es [] w)
defaulted_is (e ∷ es) (d ∷ ds) w =
    chained_is [] d (to_target e (to_defaulted es ds w)) ∙ ap (bare.through (bare_expr d)) (target_is e (to_defaulted es ds w) ∙ ap (bare.to_target (bare_expr e)) (defaulted_is es ds w))

list-append : {C : Type 0} (xs ys : List (Expr C)) → bare_list (xs ++ ys) ≡ bare_list xs ++ bare_list ys
list-append [] ys = refl
list-append (x ∷ xs) ys = ap (λ l. bare_expr x ∷ l) (list-append xs ys)

list-reverse : {C : Type 0} (xs : List (Expr C)) → bare_list (reverse xs) ≡ reverse (bare_list xs)
list-reverse [] = refl
list-reverse (x ∷ xs) =
    ap bare_list (reverse-append (x ∷ []) xs) ∙ list-append (reverse xs) (x ∷ []) ∙ ap (λ l. l ++ bare_expr x ∷ []) (list-reverse xs) ∙ sym (reverse-append (bare_expr x ∷ []) (bare_list xs))

parameters_are : {C : Type 0} (args ds : List (Expr C)) (w : Way) → bare_way (to_parameters args ds w) ≡ bare.to_parameters (tree.parameters (bare_list args) (bare_list ds)) (bare_way w)
parameters_are args ds w =
    defaulted_is (reverse args) (reverse ds) w ∙ ap₂ (λ es us. bare.to_parameters (tree.defaulted es us) (bare_way w)) (list-reverse args) (list-reverse ds)

filter_is : {C : Type 0} (t : Expr C) (o : Optional C) (w : Way) → bare_way (to_filter t o w) ≡ bare.to_filter (bare_expr t) (bare_optional o) (bare_way w)
filter_is t absent w = refl
filter_is t (present e) w = ap (λ v. bare.region v (bare_way w)) (target_is t (chained [] e end) ∙ ap (bare.to_target (bare_expr t)) (chained_is [] e end))

-- ---- statements

-- a region, and what comes after it
both : (v w : bare.Way) (v' w' : bare.Way) → v ≡ v' → w ≡ w' → bare.region v w ≡ bare.region v' w'
both v w v' w' h k = ap₂ bare.region h k

mutual
  pub stmt_is : {C : Type 0} (t : Stmt C) (w : Way) → bare_way (through_stmt t w) ≡ bare.through_stmt (bare_stmt t) (bare_way w)
  stmt_is (template ss s) w = ap (bare.stores (codes "self")) (stmts_are ss w)
  stmt_is (data_text t s) w = refl
  stmt_is (output e s) w = chained_is [] e w
  stmt_is (assignment t e s) w = chained_is [] e (to_target t w) ∙ ap (bare.through (bare_expr e)) (target_is t w)
  stmt_is (for_loop t e only again ss other s) w =
      let after = region (stores (codes "loop") (to_target t (through_stmts ss end))) (region (through_stmts other end) w) in
      chained_is [] e (to_filter t only after)
      ∙ ap (bare.through (bare_expr e))
      (filter_is t only after
      ∙ ap (bare.to_filter (bare_expr t) (bare_optional only))
      (ap₂ bare.region (ap (bare.stores (codes "loop")) (target_is t (through_stmts ss end) ∙ ap (bare.to_target (bare_expr t)) (stmts_are ss end)))
      (ap (λ v. bare.region v (bare_way w)) (stmts_are other end))))
  stmt_is (if_cond e ss other s) w =
      chained_is [] e (region (through_stmts ss end) (region (through_stmts other end) w))
      ∙ ap (bare.through (bare_expr e)) (ap₂ bare.region (stmts_are ss end) (ap (λ v. bare.region v (bare_way w)) (stmts_are other end)))
  stmt_is (with_block bs ss s) w = ap (λ v. bare.region v (bare_way w)) (assignments_are bs (through_stmts ss end) ∙ ap (bare.to_assignments (bare_bindings bs)) (stmts_are ss end))
  stmt_is (set_block t e ss s) w =
      ap₂ bare.region (stmts_are ss end) (any_is e (to_target t w) ∙ ap (bare.through_if_any (bare_optional e)) (target_is t w))
  stmt_is (auto_escape e ss s) w = chained_is [] e (region (through_stmts ss end) w) ∙ ap (λ v. bare.through (bare_expr e) (bare.region v (bare_way w))) (stmts_are ss end)
  stmt_is (filter_block e ss s) w = ap₂ bare.region (stmts_are ss end) (chained_is [] e w)
  stmt_is (named_block x required ss s) w = ap (λ v. bare.region (bare.stores (codes "super") v) (bare_way w)) (stmts_are ss end)
  stmt_is (extends e s) w = chained_is [] e w
  stmt_is (include e ignore s) w = chained_is [] e w
  stmt_is (import_all e t s) w = chained_is [] e (to_target t w) ∙ ap (bare.through (bare_expr e)) (target_is t w)
  stmt_is (from_import e ns s) w = chained_is [] e (to_names ns w) ∙ ap (bare.through (bare_expr e)) (names_are ns w)
  stmt_is (declare (macro x args ds ss s)) w = ap (λ v. bare.stores x (bare.region (bare.stores (codes "caller") v) (bare_way w))) (macro_is (macro x args ds ss s) end)
  stmt_is (call_block e args from m s) w =
      call_is e args (region (stores (codes "caller") (through_macro m end)) w)
      ∙ ap (λ v. bare.through (tree.call (bare_expr e) (bare_args args)) (bare.region (bare.stores (codes "caller") v) (bare_way w))) (macro_is m end)
  stmt_is (do_call e args from s) w = call_is e args w
  stmt_is (break_loop s) w = refl
  stmt_is (continue_loop s) w = refl

  pub stmts_are : {C : Type 0} (ss : Stmts C) (w : Way) → bare_way (through_stmts ss w) ≡ bare.through_stmts (bare_stmts ss) (bare_way w)
  stmts_are done w = refl
  stmts_are (also s rest) w = stmt_is s (through_stmts rest w) ∙ ap (bare.through_stmt (bare_stmt s)) (stmts_are rest w)

  pub macro_is : {C : Type 0} (m : Macro C) (w : Way) → bare_way (through_macro m w) ≡ bare.through_macro (bare_macro m) (bare_way w)
  macro_is (macro x args ds ss s) w =
      parameters_are args ds (through_stmts ss w) ∙ ap (bare.to_parameters (tree.parameters (bare_list args) (bare_list ds))) (stmts_are ss w)

-- ---- free names

-- the names that are not among these
abbrev pub outside : List Text → List Text → List Text
outside stored xs = std.filter (λ y. not (is_among y stored)) xs

outside-append : (stored xs ys : List Text) → outside stored (xs ++ ys) ≡ outside stored xs ++ outside stored ys
outside-append stored [] ys = refl
outside-append stored (x ∷ xs) ys = go (not (is_among x stored)) (outside-append stored xs ys)
  where
    go : (b : Bool) → outside stored (xs ++ ys) ≡ outside stored xs ++ outside stored ys → cond b (x ∷ outside stored (xs ++ ys)) (outside stored (xs ++ ys)) ≡ cond b (x ∷ outside stored xs) (outside stored xs) ++ outside stored ys
    go true h = ap (λ l. x ∷ l) h
    go false h = h

-- first those that are not x, and of them those that are not stored
pub outside-more : (stored : List Text) (x : Text) (xs : List Text) → outside (x ∷ stored) xs ≡ outside stored (std.filter (λ y. not (bytes_eq y x)) xs)
outside-more stored x [] = refl
outside-more stored x (y ∷ ys) = go (bytes_eq y x) (outside-more stored x ys)
  where
    go : (b : Bool) → outside (x ∷ stored) ys ≡ outside stored (std.filter (λ y. not (bytes_eq y x)) ys) → cond (not (b || is_among y stored)) (y ∷ outside (x ∷ stored) ys) (outside (x ∷ stored) ys) ≡ outside stored (cond (not b) (y ∷ std.filter (λ y. not (bytes_eq y x)) ys) (std.filter (λ y. not (bytes_eq y x)) ys))
    go true h = h
    go false h = ap (λ l. cond (not (is_among y stored)) (y ∷ l) l) h

pub free_of-append : (xs ys : List _) → free_of (xs ++ ys) ≡ free_of xs ++ free_of ys
free_of-append [] ys = refl
free_of-append (x ∷ xs) ys = go x.1 (free_of-append xs ys)
  where
    go : (b : Bool) → free_of (xs ++ ys) ≡ free_of xs ++ free_of ys → cond b (x.0 ∷ free_of (xs ++ ys)) (free_of (xs ++ ys)) ≡ cond b (x.0 ∷ free_of xs) (free_of xs) ++ free_of ys
    go true h = ap (λ l. x.0 ∷ l) h
    go false h = h

pub names_of-append : (xs ys : List _) → names_of (xs ++ ys) ≡ names_of xs ++ names_of ys
names_of-append [] ys = refl
names_of-append (x ∷ xs) ys = ap (λ l. x.name ∷ l) (names_of-append xs ys)

pub marked-names : (stored : List Text) (w : Way) → names_of (free_of (marked stored w)) ≡ outside stored (bare.free (bare_way w))
marked-names stored end = refl
marked-names stored (occurs m w) = go (not (is_among m.name stored)) (marked-names stored w)
  where
    go : (b : Bool) → names_of (free_of (marked stored w)) ≡ outside stored (bare.free (bare_way w)) → names_of (cond b (m ∷ free_of (marked stored w)) (free_of (marked stored w))) ≡ cond b (m.name ∷ outside stored (bare.free (bare_way w))) (outside stored (bare.free (bare_way w)))
    go true h = ap (λ l. m.name ∷ l) h
    go false h = h
marked-names stored (stores x w) = marked-names (x ∷ stored) w ∙ outside-more stored x (bare.free (bare_way w))
marked-names stored (declares x s w) = marked-names stored w
marked-names stored (region v w) =
    ap names_of (free_of-append (marked stored v) (marked stored w)) ∙ names_of-append (free_of (marked stored v)) (free_of (marked stored w))
    ∙ ap₂ ◌++◌ (marked-names stored v) (marked-names stored w) ∙ sym (outside-append stored (bare.free (bare_way v)) (bare.free (bare_way w)))

outside-none : (xs : List Text) → outside [] xs ≡ xs
outside-none [] = refl
outside-none (x ∷ xs) = ap (λ l. x ∷ l) (outside-none xs)

-- the names that occur free are those of the bare way
pub free_names : (w : Way) → names_of (free w) ≡ bare.free (bare_way w)
free_names w = marked-names [] w ∙ outside-none (bare.free (bare_way w))
