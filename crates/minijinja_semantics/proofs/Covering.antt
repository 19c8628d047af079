-- What a way needs from outside, as a fact of each name in turn.
use Rattle.std.proofs.Common.{◌≡◌, ◌⊎◌, inl, inr, ⊎_elim, List, [], ◌∷◌, ◌++◌, Bool, true, false, cond, true≢false, refl, sym, ap, ◌∙◌, subst}
use Rattle.std.specs.Prelude.{All, Contains, not, filter}
use Rattle.std.specs.Str.{bytes_eq}
use Rattle.std.specs.Ordering.{is_eq, nat_cmp, match_ordering}
use Rattle.std.specs.declared.cmp.Ordering.{Ordering}
use Rattle.std.specs.declared.cmp.Ordering.TheVariants.{Less, Equal, Greater}
use Rattle.std.specs.BTreeSet.{insert_key}
use Rattle.std.specs.Cmp.Lexicographic.{slice_cmp, texts_ties}
use Rattle.std.proofs.lemmas.Slice.Eq.{bytes_eq-Decides}
use Rattle.std.proofs.lemmas.List.Elements.{All-nil, All-cons, All-head, All-tail, All-append, Contains-append_left, Contains-append_right, All-contains, All-contains_itself, All-weaker}
use Rattle.std.proofs.lemmas.Map.Views.{All-insert_key}
use Rattle.minijinja_syntax.specs.Texts.{Text}
use Rattle.minijinja_tree.specs.Tree.{Expr, variable, constant, slice, unary, binary, compare, if_expr, filter as filtered_by, test, attribute, item, call, list, tuple, map, Optional, absent, present, Exprs, no_more, more, Comparisons, compared, against, Args, no_args, pos, pos_splat, kwarg, kwarg_splat}
use Rattle.minijinja_tree.specs.FreeNames.{Way, end, occurs, stores, region, free, in_order, in_row, in_turn, through, through_if_any, through_all, each, through_compared, through_positional, through_keyword}

-- a fact holds of each name that a way needs from outside
abbrev pub Covered : (Text → Type 0) → Way → Type 0
Covered P end = Unit {0}
Covered P (occurs x w) = P x × Covered P w
Covered P (stores x w) = Covered (λ y. P y ⊎ (y ≡ x)) w
Covered P (region v w) = Covered P v × Covered P w

-- a fact that follows from another
pub covered_more : (P Q : Text → Type 0) (w : Way) → ((x : Text) → P x → Q x) → Covered P w → Covered Q w
covered_more P Q end k c = tt
covered_more P Q (occurs x w) k c = (k x c.0, covered_more P Q w k c.1)
covered_more P Q (stores x w) k c = covered_more (λ y. P y ⊎ (y ≡ x)) (λ y. Q y ⊎ (y ≡ x)) w (λ y. ⊎_elim (λ a. inl (k y a)) (λ e. inr e)) c
covered_more P Q (region v w) k c = (covered_more P Q v k c.0, covered_more P Q w k c.1)

-- ---- the names that occur free, as a list

-- names other than this one
abbrev others : Text → List Text → List Text
others x ys = filter (λ y. not (bytes_eq y x)) ys

-- a fact that holds of a name, or the name is this one
abbrev OrIs : (Text → Type 0) → Text → Text → Type 0
OrIs P x y = P y ⊎ (y ≡ x)

-- what holds of names, unless they are this one, holds of the others
pub all_others : (P : Text → Type 0) (x : Text) (ys : List Text) → All (OrIs P x) ys → All P (others x ys)
all_others P x [] h = All-nil P
all_others P x (y ∷ ys) h = by (bytes_eq y x) refl (all_others P x ys (All-tail (OrIs P x) y ys h))
  where
    by : (b : Bool) → bytes_eq y x ≡ b → All P (others x ys) → All P (cond (not b) (y ∷ others x ys) (others x ys))
    by true e rest = rest
    by false e rest = All-cons P y (others x ys) (⊎_elim (λ p. p) (λ is. absurd (true≢false (sym ((bytes_eq-Decides y x).1 is) ∙ e))) (All-head (OrIs P x) y ys h)) rest

-- what holds of the others holds of names unless they are this one
pub all_of_others : (P : Text → Type 0) (x : Text) (ys : List Text) → All P (others x ys) → All (OrIs P x) ys
all_of_others P x [] h = All-nil (OrIs P x)
all_of_others P x (y ∷ ys) h = by (bytes_eq y x) refl (all_of_others P x ys) h
  where
    by : (b : Bool) → bytes_eq y x ≡ b → (All P (others x ys) → All (OrIs P x) ys) → All P (cond (not b) (y ∷ others x ys) (others x ys)) → All (OrIs P x) (y ∷ ys)
    by true e rest k = All-cons (OrIs P x) y ys (inr ((bytes_eq-Decides y x).0 e)) (rest k)
    by false e rest k = All-cons (OrIs P x) y ys (inl (All-head P y (others x ys) k)) (rest (All-tail P y (others x ys) k))

-- what holds of each name that a way needs holds of those that occur free
pub all_free : (P : Text → Type 0) (w : Way) → Covered P w → All P (free w)
all_free P end c = All-nil P
all_free P (occurs x w) c = All-cons P x (free w) c.0 (all_free P w c.1)
all_free P (stores x w) c = all_others P x (free w) (all_free (λ y. P y ⊎ (y ≡ x)) w c)
all_free P (region v w) c = All-append P (free v) (free w) (all_free P v c.0) (all_free P w c.1)

pub all_first : (P : Text → Type 0) (xs ys : List Text) → All P (xs ++ ys) → All P xs
all_first P xs ys h = All-weaker (Contains xs) P (λ y k. All-contains P (xs ++ ys) y h (Contains-append_left xs ys y k)) xs (All-contains_itself xs)

pub all_last : (P : Text → Type 0) (xs ys : List Text) → All P (xs ++ ys) → All P ys
all_last P xs ys h = All-weaker (Contains ys) P (λ y k. All-contains P (xs ++ ys) y h (Contains-append_right xs ys y k)) ys (All-contains_itself ys)

-- what holds of the names that occur free on a way holds of each name that it needs
pub covered_by : (P : Text → Type 0) (w : Way) → All P (free w) → Covered P w
covered_by P end h = tt
covered_by P (occurs x w) h = (All-head P x (free w) h, covered_by P w (All-tail P x (free w) h))
covered_by P (stores x w) h = covered_by (λ y. P y ⊎ (y ≡ x)) w (all_of_others P x (free w) h)
covered_by P (region v w) h = (covered_by P v (all_first P (free v) (free w) h), covered_by P w (all_last P (free v) (free w) h))

-- ---- names in order

-- what holds of names holds of them in order
pub all_in_order : (P : Text → Type 0) (xs : List Text) → All P xs → All P (in_order xs)
all_in_order P [] h = All-nil P
all_in_order P (x ∷ xs) h = All-insert_key (slice_cmp nat_cmp) x P (in_order xs) (all_in_order P xs (All-tail P x xs h)) (All-head P x xs h)

-- names with one more
abbrev with_key : List Text → Text → List Text
with_key ys x = insert_key (slice_cmp nat_cmp) ys x

-- what holds of names with one more holds of the one, and of the names
all_without_key : (P : Text → Type 0) (x : Text) (ys : List Text) → All P (with_key ys x) → P x × All P ys
all_without_key P x [] h = (All-head P x [] h, All-nil P)
all_without_key P x (y ∷ ys) h = by (slice_cmp nat_cmp x y) refl (all_without_key P x ys) h
  where
    by : (o : Ordering) → slice_cmp nat_cmp x y ≡ o → (All P (with_key ys x) → P x × All P ys) → All P (match_ordering o (x ∷ y ∷ ys) (y ∷ ys) (y ∷ with_key ys x)) → P x × All P (y ∷ ys)
    by Less e rest k = (All-head P x (y ∷ ys) k, All-tail P x (y ∷ ys) k)
    by Equal e rest k = (subst P (sym ((bytes_eq-Decides x y).0 (texts_ties x y ∙ ap is_eq e))) (All-head P y ys k), k)
    by Greater e rest k = let v = rest (All-tail P y (with_key ys x) k) in (v.0, All-cons P y ys (All-head P y (with_key ys x) k) v.1)

-- what holds of names in order holds of them
pub all_of_order : (P : Text → Type 0) (xs : List Text) → All P (in_order xs) → All P xs
all_of_order P [] h = All-nil P
all_of_order P (x ∷ xs) h = let v = all_without_key P x (in_order xs) h in All-cons P x xs v.0 (all_of_order P xs v.1)

-- ---- an expression stores nothing, so what the rest of the way needs is needed before it too

-- the rest of the way after each of these by itself
abbrev pub EachPast : {C : Type 0} → (Text → Type 0) → Exprs C → Type 0
EachPast P no_more = Unit {0}
EachPast P (more e es) = ((w : Way) → Covered P (through e w) → Covered P w) × EachPast P es

pub past_row : {C : Type 0} (P : Text → Type 0) (es : Exprs C) (w : Way) → EachPast P es → Covered P (in_row (each es) w) → Covered P w
past_row P no_more w a c = c
past_row P (more e es) w a c = past_row P es w a.1 (a.0 _ c)

pub past_pairs : {C : Type 0} (P : Text → Type 0) (ks vs : Exprs C) (w : Way) → EachPast P ks → EachPast P vs → Covered P (in_turn (each ks) (each vs) w) → Covered P w
past_pairs P no_more vs w a b c = past_row P vs w b c
past_pairs P (more k ks) no_more w a b c = past_pairs P ks no_more w a.1 b (a.0 _ c)
past_pairs P (more k ks) (more v vs) w a b c = past_pairs P ks vs w a.1 b.1 (b.0 _ (a.0 _ c))

mutual
  pub past_expr : {C : Type 0} (P : Text → Type 0) (e : Expr C) (w : Way) → Covered P (through e w) → Covered P w
  past_expr P (variable x) w c = c.1
  past_expr P (constant v) w c = c
  past_expr P (slice e i j k) w c = past_any P k w (past_any P j _ (past_any P i _ (past_expr P e _ c)))
  past_expr P (unary o e) w c = past_expr P e w c
  past_expr P (binary o a b) w c = past_expr P b w (past_expr P a _ c)
  past_expr P (compare e cs) w c = past_compared P cs w (past_expr P e _ c)
  past_expr P (if_expr t a b) w c = past_any P b w (past_expr P a _ (past_expr P t _ c))
  past_expr P (filtered_by o x args) w c = past_keyword P args w (past_positional P args _ (past_any P o _ c))
  past_expr P (test e x args) w c = past_keyword P args w (past_positional P args _ (past_expr P e _ c))
  past_expr P (attribute e x) w c = past_expr P e w c
  past_expr P (item e k) w c = past_expr P k w (past_expr P e _ c)
  past_expr P (call e args) w c = past_keyword P args w (past_positional P args _ (past_expr P e _ c))
  past_expr P (list es) w c = past_all P es w c
  past_expr P (tuple es) w c = past_all P es w c
  past_expr P (map ks vs) w c = past_pairs P ks vs w (past_each P ks) (past_each P vs) c

  pub past_any : {C : Type 0} (P : Text → Type 0) (o : Optional C) (w : Way) → Covered P (through_if_any o w) → Covered P w
  past_any P absent w c = c
  past_any P (present e) w c = past_expr P e w c

  past_all : {C : Type 0} (P : Text → Type 0) (es : Exprs C) (w : Way) → Covered P (through_all es w) → Covered P w
  past_all P no_more w c = c
  past_all P (more e es) w c = past_all P es w (past_expr P e _ c)

  pub past_compared : {C : Type 0} (P : Text → Type 0) (cs : Comparisons C) (w : Way) → Covered P (through_compared cs w) → Covered P w
  past_compared P compared w c = c
  past_compared P (against o e cs) w c = past_compared P cs w (past_expr P e _ c)

  pub past_positional : {C : Type 0} (P : Text → Type 0) (args : Args C) (w : Way) → Covered P (through_positional args w) → Covered P w
  past_positional P no_args w c = c
  past_positional P (pos e args) w c = past_positional P args w (past_expr P e _ c)
  past_positional P (pos_splat e args) w c = past_positional P args w (past_expr P e _ c)
  past_positional P (kwarg x e args) w c = past_positional P args w c
  past_positional P (kwarg_splat e args) w c = past_positional P args w c

  pub past_keyword : {C : Type 0} (P : Text → Type 0) (args : Args C) (w : Way) → Covered P (through_keyword args w) → Covered P w
  past_keyword P no_args w c = c
  past_keyword P (pos e args) w c = past_keyword P args w c
  past_keyword P (pos_splat e args) w c = past_keyword P args w c
  past_keyword P (kwarg x e args) w c = past_keyword P args w (past_expr P e _ c)
  past_keyword P (kwarg_splat e args) w c = past_keyword P args w (past_expr P e _ c)

  pub past_each : {C : Type 0} (P : Text → Type 0) (es : Exprs C) → EachPast P es
  past_each P no_more = tt
  past_each P (more e es) = (λ w c. past_expr P e w c, past_each P es)
