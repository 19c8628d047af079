-- Parts of macros while their code is being made.
use Rattle.std.proofs.Common.{◌≡◌, ℕ, ◌+◌, ◌<◌, List, [], ◌∷◌, ◌++◌, length, map, drop, get_or, Option, Some, None, refl, sym, ap, ◌∙◌, subst, arith, length-append, slice_set}
use Rattle.std.specs.Prelude.{Bool, true, false, cond, not, ◌||◌, if◌then◌else◌, IfOk, MatchOption, Ok, Result, filter, reverse, bytes_eq}
use Rattle.std.specs.Borrow.{Bor}
use Rattle.std.specs.List.{IsLastAndRest, list_any}
use Rattle.std.proofs.lemmas.List.{at_drop_more, map-append, reverse-append}
use Rattle.std.proofs.lemmas.Bool.Decides.{Decides-like, same_from_decides}
use Rattle.std.proofs.lemmas.List.Elements.{filter-append}
use Rattle.std.proofs.lemmas.List.Folds.{list_any-append}
use Rattle.std.proofs.lemmas.Slice.Eq.{bytes_eq-Decides}
use Rattle.minijinja_syntax.specs.Texts.{Text}
use Rattle.minijinja_value.specs.Values.{Functions}
use Rattle.minijinja_tree.specs.Erasure.{expr_tree, compare_tree}
use Rattle.minijinja_tree.specs.FreeNames.{closure}
use Rattle.minijinja_tree.specs.Tree as tree
use Rattle.minijinja_tree.specs.Tree.{present, defaulted, parameters, variable_names}
use Rattle.minijinja_tree.specs.WellFormed.{IsVariable, AreVariables, IsTarget, IsWhole, AreAllWhole}
use Rattle.minijinja_tree_expr.specs.declared.ast.CallArg.TheBlock as block
use Rattle.minijinja_tree_expr.specs.declared.ast.Expr.{Expr}
use Rattle.minijinja_tree_expr.specs.declared.ast.Expr.TheVariants as expr
use Rattle.minijinja_tree_expr.specs.declared.ast.Expr.TheVariants.{Var, Compare'}
use Rattle.minijinja_semantics.specs.Code.{Do, JumpIfFalse, DupTop, IsUndefined, DiscardTop}
use Rattle.minijinja_semantics.specs.Events.{Enclose}
use Rattle.minijinja_semantics.specs.Layout as layout
use Rattle.minijinja_semantics.specs.Layout.{defaulting, taking, target, enclosing}
use Rattle.minijinja_semantics.specs.Macros.{caller, enclosed, macro_flags}
use Rattle.minijinja_semantics.specs.Pieces.{Here, Piece, behind, nothing, one, ◌▸◌}
use Rattle.minijinja_code_parts.specs.internal.Macros.{TakesArgument, before_last, left_of}
use Rattle.minijinja_emitter.specs.internal.Making.{Made, Adds, here_of, hole, reach, capped}
use Rattle.minijinja_emitter.proofs.Adding.{adds_then, adds_nothing, adds_skipping}
use Rattle.minijinja_code_expr.proofs.InOrder.{Leads, leads_end, leads_whole}

module _ {C : Type 0} where
  -- two pieces that are the same wherever they stand
  pub record AreSame (p q : Piece C) : Type 0 where
    pub past : (h : Here) → p.past h ≡ q.past h
    pub code : (h : Here) → p.code h ≡ q.code h

  pub adds_same : {a b : Made C} (p q : Piece C) → AreSame p q → Adds a b p → Adds a b q
  adds_same {a} {b} p q same s = record { code = s.code ∙ ap (λ l. a.code ++ map capped l) (same.code (here_of a)); past = s.past ∙ same.past (here_of a) }

-- a variable may be assigned to
pub variable_target : {C : Type 0} (e : tree.Expr C) → IsVariable e → IsTarget e
variable_target (tree.variable x) w = tt
variable_target (tree.constant c) w = absurd w
variable_target (tree.slice e a b c) w = absurd w
variable_target (tree.unary o e) w = absurd w
variable_target (tree.binary o a b) w = absurd w
variable_target (tree.compare e cs) w = absurd w
variable_target (tree.if_expr t a b) w = absurd w
variable_target (tree.filter o x args) w = absurd w
variable_target (tree.test e x args) w = absurd w
variable_target (tree.attribute e x) w = absurd w
variable_target (tree.item e k) w = absurd w
variable_target (tree.call e args) w = absurd w
variable_target (tree.list es) w = absurd w
variable_target (tree.tuple es) w = absurd w
variable_target (tree.map ks vs) w = absurd w

module _ {C : Type 0} where
  variables_split : (es : List (tree.Expr C)) (e : tree.Expr C) → AreVariables (es ++ e ∷ []) → AreVariables es × IsVariable e
  variables_split [] e w = (tt, w.0)
  variables_split (d ∷ es) e w = let more = variables_split es e w.1 in ((w.0, more.0), more.1)

  whole_split : (es : List (tree.Expr C)) (e : tree.Expr C) → AreAllWhole (es ++ e ∷ []) → AreAllWhole es × IsWhole e
  whole_split [] e w = (tt, w.0)
  whole_split (d ∷ es) e w = let more = whole_split es e w.1 in ((w.0, more.0), more.1)

module _ {V K C : Type 0} (v : V → C) where
  abbrev trees : List (Expr V K) → List (tree.Expr C)
  trees xs = map (expr_tree v) xs

  trees_last : (xs ys : List (Expr V K)) (e : Expr V K) → xs ≡ ys ++ e ∷ [] → trees xs ≡ trees ys ++ expr_tree v e ∷ []
  trees_last xs ys e is = ap trees is ∙ map-append (expr_tree v) ys (e ∷ [])

  reversed_last : (xs ys : List (Expr V K)) (e : Expr V K) → xs ≡ ys ++ e ∷ [] → reverse (trees xs) ≡ expr_tree v e ∷ reverse (trees ys)
  reversed_last xs ys e is = ap reverse (trees_last xs ys e is) ∙ reverse-append (trees ys) (expr_tree v e ∷ [])

  -- the last argument, and those before it
  pub variables_last : (xs ys : List (Expr V K)) (e : Expr V K) → xs ≡ ys ++ e ∷ [] → AreVariables (trees xs) → AreVariables (trees ys) × IsVariable (expr_tree v e)
  variables_last xs ys e is w = variables_split (trees ys) (expr_tree v e) (subst AreVariables (trees_last xs ys e is) w)

  -- the last default, and those before it
  pub whole_last : (xs ys : List (Expr V K)) (e : Expr V K) → xs ≡ ys ++ e ∷ [] → AreAllWhole (trees xs) → AreAllWhole (trees ys) × IsWhole (expr_tree v e)
  whole_last xs ys e is w = whole_split (trees ys) (expr_tree v e) (subst AreAllWhole (trees_last xs ys e is) w)

  module _ {F : Type 0} (f : Functions C F) where
    -- an argument with a default
    pub taken_with : (xs ys : List (Expr V K)) (d : Expr V K) (e : tree.Expr C) {a b c : Made C} → xs ≡ ys ++ d ∷ [] → Adds a b (defaulting f (present (expr_tree v d))) → Adds b c (target f e) → TakesArgument f e (trees xs) (trees ys) a c
    taken_with xs ys d e {a} is s t = record {
      takes = λ before later more. subst (λ ds. Adds a later (taking f (defaulted (e ∷ before) ds))) (sym (reversed_last xs ys d is)) (adds_then s (adds_then t more));
    }

    -- one without
    pub taken_alone : (xs : List (Expr V K)) (e : tree.Expr C) {a b : Made C} → length xs ≡ 0 → Adds a b (target f e) → TakesArgument f e (trees xs) (trees xs) a b
    taken_alone [] e {a} none t = record { takes = λ before later more. adds_then (adds_nothing a) (adds_then t more) }
    taken_alone (x ∷ xs) e none t = absurd (cc)

    -- the arguments before the last one are left
    pub takes_next : (xs ys : List (Expr V K)) (e : Expr V K) (ds es : List (tree.Expr C)) {old now next : Made C} {whole : Piece C} → xs ≡ ys ++ e ∷ [] → TakesArgument f (expr_tree v e) ds es now next → Leads old now (taking f (parameters (trees xs) ds)) whole → Leads old next (taking f (parameters (trees ys) es)) whole
    takes_next xs ys e ds es {now = now} is t l = record {
      adds = λ later more. l.adds later (subst (λ zs. Adds now later (taking f (defaulted zs (reverse ds)))) (sym (reversed_last xs ys e is)) (t.takes (reverse (trees ys)) later more));
    }

    pub takes_end : (xs : List (Expr V K)) (ds : List (tree.Expr C)) → length xs ≡ 0 → taking f (parameters (trees xs) ds) ≡ nothing
    takes_end [] ds none = refl
    takes_end (x ∷ xs) ds none = absurd (cc)

module _ {C F : Type 0} (f : Functions C F) where
  -- a default in the place of an undefined value
  pub default_added : {a b c d k m n : Made C} {place j : ℕ} (e : tree.Expr C) → Adds a b (one DupTop) → Adds b c (one IsUndefined) → Adds c d (one hole) → place ≡ length c.code → Adds d k (one DiscardTop) → Adds k m (layout.expr f e) → n ≡ record m { code = slice_set m.code place (JumpIfFalse j) } → j ≡ reach (length m.code) → Adds a n (defaulting f (present e))
  default_added {place = place} {j = j} e s t h at u x filled to =
      adds_then s (adds_then t (adds_skipping JumpIfFalse (JumpIfFalse j) place h (adds_then u x) at (ap JumpIfFalse (sym to)) filled))

-- the names of variables

pub compare_no_name : {V K C : Type 0} (v : V → C) (q : block.the_data-4 V K) (es : List (tree.Expr C)) → variable_names (compare_tree v q ∷ es) ≡ variable_names es
compare_no_name v (block.struct-Compare e k ops) es = refl

pub no_name : {V K C : Type 0} (v : V → C) (e : Expr V K) (es : List (tree.Expr C)) → ((s : _) → e ≡ expr.Var s → ⊥) → variable_names (expr_tree v e ∷ es) ≡ variable_names es
no_name v (Var s) es n = absurd (n s refl)
no_name v (Compare' p q s) es n = compare_no_name v q es
no_name v _ es n = refl

-- The last element of what is left, and those before it.

pub left_is : {X : Type 0} (o : Option (Bor X × Bor (List X))) (xs : List X) → MatchOption o (length xs ≡ 0) (λ p. IsLastAndRest xs p.0.now p.1.now) → left_of o ≡ xs
left_is None [] h = refl
left_is None (x ∷ xs) h = absurd (cc)
left_is (Some p) xs h = sym h.0

pub left_none : {X : Type 0} (o : Option (Bor X × Bor (List X))) → o ≡ None → length (left_of o) ≡ 0
left_none o e = ap (λ p. length (left_of p)) e

pub left_fewer : {X : Type 0} (xs ys : List X) (x : X) → xs ≡ ys ++ x ∷ [] → length ys < length xs
left_fewer xs ys x e = omega (arith, ap length e, length-append ys (x ∷ []))

module _ {V K C : Type 0} (v : V → C) where
  pub whole_before : (o : Option (Bor (Expr V K) × Bor (List (Expr V K)))) → AreAllWhole (map (expr_tree v) (left_of o)) → AreAllWhole (map (expr_tree v) (before_last o))
  whole_before None w = tt
  whole_before (Some p) w = (whole_last v (left_of (Some p)) p.1.now p.0.now refl w).0

  pub whole_default : (o : Option (Bor (Expr V K) × Bor (List (Expr V K)))) (p : Bor (Expr V K) × Bor (List (Expr V K))) → o ≡ Some p → AreAllWhole (map (expr_tree v) (left_of o)) → IsWhole (expr_tree v p.0.now)
  whole_default o p is w = (whole_last v (left_of o) p.1.now p.0.now (ap left_of is) w).1

  pub variable_arg : (o : Option (Bor (Expr V K) × Bor (List (Expr V K)))) (p : Bor (Expr V K) × Bor (List (Expr V K))) → o ≡ Some p → AreVariables (map (expr_tree v) (left_of o)) → IsVariable (expr_tree v p.0.now)
  variable_arg o p is w = (variables_last v (left_of o) p.1.now p.0.now (ap left_of is) w).1

  pub variables_before : (o o' : Option (Bor (Expr V K) × Bor (List (Expr V K)))) (p : Bor (Expr V K) × Bor (List (Expr V K))) → o ≡ Some p → left_of o' ≡ p.1.now → AreVariables (map (expr_tree v) (left_of o)) → AreVariables (map (expr_tree v) (left_of o'))
  variables_before o o' p is e w = subst (λ xs. AreVariables (map (expr_tree v) xs)) (sym e) (variables_last v (left_of o) p.1.now p.0.now (ap left_of is) w).0

  module _ {F : Type 0} (f : Functions C F) where
    pub takes_default : (o : Option (Bor (Expr V K) × Bor (List (Expr V K)))) (p : Bor (Expr V K) × Bor (List (Expr V K))) (e : tree.Expr C) {a b c : Made C} → o ≡ Some p → Adds a b (defaulting f (present (expr_tree v p.0.now))) → Adds b c (target f e) → TakesArgument f e (map (expr_tree v) (left_of o)) (map (expr_tree v) (before_last o)) a c
    takes_default o p e {a} {b} {c} is s t =
        subst (λ (q : Option (Bor (Expr V K) × Bor (List (Expr V K)))). TakesArgument f e (map (expr_tree v) (left_of q)) (map (expr_tree v) (before_last q)) a c) (sym is) (taken_with v f (left_of (Some p)) p.1.now p.0.now e refl s t)

    pub takes_none : (o : Option (Bor (Expr V K) × Bor (List (Expr V K)))) (e : tree.Expr C) {a b : Made C} → o ≡ None → Adds a b (target f e) → TakesArgument f e (map (expr_tree v) (left_of o)) (map (expr_tree v) (before_last o)) a b
    takes_none o e {a} {b} is t =
        subst (λ (q : Option (Bor (Expr V K) × Bor (List (Expr V K)))). TakesArgument f e (map (expr_tree v) (left_of q)) (map (expr_tree v) (before_last q)) a b) (sym is) (let none : List (Expr V K) = [] in taken_alone v f none e refl t)

    pub take_begin : (o d : Option (Bor (Expr V K) × Bor (List (Expr V K)))) (xs ds : List (Expr V K)) (m : Made C) → left_of o ≡ xs → left_of d ≡ ds → Leads m m (taking f (parameters (map (expr_tree v) (left_of o)) (map (expr_tree v) (left_of d)))) (taking f (parameters (map (expr_tree v) xs) (map (expr_tree v) ds)))
    take_begin o d xs ds m e k = leads_whole m _ _
        (ap (λ ys. taking f (parameters (map (expr_tree v) ys) (map (expr_tree v) (left_of d)))) e ∙ ap (λ ys. taking f (parameters (map (expr_tree v) xs) (map (expr_tree v) ys))) k)

    pub take_step : {old now next : Made C} {whole : Piece C} (o o' d d' : Option (Bor (Expr V K) × Bor (List (Expr V K)))) (p : Bor (Expr V K) × Bor (List (Expr V K))) → o ≡ Some p → left_of o' ≡ p.1.now → left_of d' ≡ before_last d → TakesArgument f (expr_tree v p.0.now) (map (expr_tree v) (left_of d)) (map (expr_tree v) (before_last d)) now next →
        Leads old now (taking f (parameters (map (expr_tree v) (left_of o)) (map (expr_tree v) (left_of d)))) whole → Leads old next (taking f (parameters (map (expr_tree v) (left_of o')) (map (expr_tree v) (left_of d')))) whole
    take_step {old} {next = next} {whole} o o' d d' p is e k t l =
        let moved = takes_next v f (left_of o) p.1.now p.0.now (map (expr_tree v) (left_of d)) (map (expr_tree v) (before_last d)) (ap left_of is) t l in
        subst (λ ds. Leads old next (taking f (parameters (map (expr_tree v) (left_of o')) (map (expr_tree v) ds))) whole) (sym k)
        (subst (λ xs. Leads old next (taking f (parameters (map (expr_tree v) xs) (map (expr_tree v) (before_last d)))) whole) (sym e) moved)

    pub take_end : {old now : Made C} {whole : Piece C} (o d : Option (Bor (Expr V K) × Bor (List (Expr V K)))) → o ≡ None → Leads old now (taking f (parameters (map (expr_tree v) (left_of o)) (map (expr_tree v) (left_of d)))) whole → Adds old now whole
    take_end o d none l = leads_end (takes_end v f (left_of o) (map (expr_tree v) (left_of d)) (left_none o none)) l

pub left_smaller : {X : Type 0} (o o' : Option (Bor X × Bor (List X))) (p : Bor X × Bor (List X)) → o ≡ Some p → left_of o' ≡ p.1.now → length (left_of o') < length (left_of o)
left_smaller o o' p is e = omega (arith, ap length e, left_fewer (left_of o) p.1.now p.0.now (ap left_of is))

-- The names that a macro takes along, in order.

or_true : (b : Bool) → (b || (true || false)) ≡ true
or_true true = refl
or_true false = refl

or_false : (b : Bool) → (b || (false || false)) ≡ b
or_false true = refl
or_false false = refl

abbrev pub kept : List Text → List Text
kept xs = filter (λ x. not (bytes_eq x caller)) xs

filter_last : (p : Text → Bool) (xs : List Text) (x : Text) → filter p (xs ++ x ∷ []) ≡ filter p xs ++ filter p (x ∷ [])
filter_last p xs x = filter-append p xs (x ∷ [])

module _ {C : Type 0} where
  enclosing_same : (xs : List Text) (x : Text) → AreSame (enclosing {C = C} xs ▸ one (Do Enclose x 0)) (enclosing (xs ++ x ∷ []))
  enclosing_same [] x = record { past = λ h. refl; code = λ h. refl }
  enclosing_same (y ∷ xs) x =
      let rest = enclosing_same xs x in
      record { past = λ h. rest.past (behind 1 h); code = λ h. ap (λ l. Do Enclose y 0 ∷ l) (rest.code (behind 1 h)) }

  enclosing_last : {a b c : Made C} (xs : List Text) (x : Text) → Adds a b (enclosing xs) → Adds b c (one (Do Enclose x 0)) → Adds a c (enclosing (xs ++ x ∷ []))
  enclosing_last xs x s t = adds_same (enclosing xs ▸ one (Do Enclose x 0)) (enclosing (xs ++ x ∷ [])) (enclosing_same xs x) (adds_then s t)

  pub other_next : {a b c : Made C} (xs : List Text) (x : Text) → bytes_eq x caller ≡ false → Adds a b (enclosing (kept xs)) → Adds b c (one (Do Enclose x 0)) → Adds a c (enclosing (kept (xs ++ x ∷ [])))
  other_next {a} {b} {c} xs x is s t =
      let same : kept (xs ++ x ∷ []) ≡ kept xs ++ x ∷ [] = filter_last (λ x. not (bytes_eq x caller)) xs x ∙ ap (λ l. kept xs ++ l) (ap (λ b. cond (not b) (x ∷ []) []) is) in
      subst (λ ys. Adds a c (enclosing ys)) (sym same) (enclosing_last (kept xs) x s t)

pub other_flag : (xs : List Text) (x : Text) (n : ℕ) → bytes_eq caller x ≡ false → n ≡ (if list_any (bytes_eq caller) xs then 2 else 0) → n ≡ (if list_any (bytes_eq caller) (xs ++ x ∷ []) then 2 else 0)
other_flag xs x n is e = e ∙ ap (λ b. let n : ℕ = if b then 2 else 0 in n) (sym (list_any-append (bytes_eq caller) xs (x ∷ []) ∙ ap (λ b. list_any (bytes_eq caller) xs || (b || false)) is ∙ or_false (list_any (bytes_eq caller) xs)))

pub names_skip : {V K C : Type 0} (v : V → C) (of : Text → C) (names : List V) (xs : List (Expr V K)) (i : ℕ) (x : Expr V K) (all : List C) → i < length xs → x ≡ get_or xs i x → ((s : _) → x ≡ expr.Var s → ⊥) → map v names ++ map of (variable_names (map (expr_tree v) (drop i xs))) ≡ all → map v names ++ map of (variable_names (map (expr_tree v) (drop (i + 1) xs))) ≡ all
names_skip v of names xs i x all within at other w =
    ap (λ l. map v names ++ map of l) (sym (no_name v x (map (expr_tree v) (drop (i + 1) xs)) other))
    ∙ ap (λ y. map v names ++ map of (variable_names (expr_tree v y ∷ map (expr_tree v) (drop (i + 1) xs)))) at
    ∙ ap (λ l. map v names ++ l) (sym (at_drop_more (λ ys. map of (variable_names (map (expr_tree v) ys))) xs i x within)) ∙ w

bytes_eq_swap : (x y : Text) → bytes_eq x y ≡ bytes_eq y x
bytes_eq_swap x y = same_from_decides (bytes_eq x y) (bytes_eq y x) (bytes_eq-Decides x y) (Decides-like (bytes_eq y x) sym sym (bytes_eq-Decides y x))

-- the names that were visited
abbrev pub gone_through : List (Bor (Bor Text)) → List Text
gone_through ys = map (λ k. k.now.now) ys

gone_last : (ys : List (Bor (Bor Text))) (k : Bor (Bor Text)) → gone_through (ys ++ k ∷ []) ≡ gone_through ys ++ k.now.now ∷ []
gone_last ys k = map-append (λ (k : Bor (Bor Text)). k.now.now) ys (k ∷ [])

twice : (ys : List (Bor (Bor Text))) → gone_through ys ≡ map (λ k. k.now) (map (λ k. k.now) ys)
twice [] = refl
twice (y ∷ ys) = ap (λ l. y.now.now ∷ l) (twice ys)

pub inner_names : (ys : List (Bor (Bor Text))) (ks : List (Bor Text)) → map (λ k. k.now) ys ≡ ks → gone_through ys ≡ map (λ k. k.now) ks
inner_names ys ks e = twice ys ∙ ap (map (λ (k : Bor Text). k.now)) e

pub flags_other : (ys : List (Bor (Bor Text))) (k : Bor (Bor Text)) (n : ℕ) (b : Bool) → b ≡ bytes_eq k.now.now caller → b ≡ false → n ≡ (if list_any (bytes_eq caller) (gone_through ys) then 2 else 0) → n ≡ (if list_any (bytes_eq caller) (gone_through (ys ++ k ∷ [])) then 2 else 0)
flags_other ys k n b eb is e =
    subst (λ xs. n ≡ (if list_any (bytes_eq caller) xs then 2 else 0)) (sym (gone_last ys k)) (other_flag (gone_through ys) k.now.now n (bytes_eq_swap caller k.now.now ∙ sym eb ∙ is) e)

pub added_other : {C : Type 0} {a b c : Made C} (ys : List (Bor (Bor Text))) (k : Bor (Bor Text)) (t : Bool) → t ≡ bytes_eq k.now.now caller → t ≡ false → Adds a b (enclosing (kept (gone_through ys))) → Adds b c (one (Do Enclose k.now.now 0)) → Adds a c (enclosing (kept (gone_through (ys ++ k ∷ []))))
added_other {a = a} {c = c} ys k t et is s r =
    subst (λ xs. Adds a c (enclosing (kept xs))) (sym (gone_last ys k)) (other_next (gone_through ys) k.now.now (sym et ∙ is) s r)

pub flags_end : {C L : Type 0} (m : tree.Macro C L) (xs : List Text) (n : ℕ) → xs ≡ closure m → n ≡ (if list_any (bytes_eq caller) xs then 2 else 0) → n ≡ macro_flags m
flags_end m xs n e w = subst (λ ys. n ≡ (if list_any (bytes_eq caller) ys then 2 else 0)) e w

pub enclosed_end : {C D L : Type 0} {a b : Made D} (m : tree.Macro C L) (xs : List Text) → xs ≡ closure m → Adds a b (enclosing (kept xs)) → Adds a b (enclosing (enclosed m))
enclosed_end {a = a} {b} m xs e s = subst (λ ys. Adds a b (enclosing (kept ys))) e s

-- what is known of the value of a call that succeeded
pub ok_value : {A E : Type 0} (P : A → Type 0) {r : Result A E} {x : A} → r ≡ Ok x → IfOk r P → P x
ok_value P is p = subst (λ o. IfOk o P) is p
