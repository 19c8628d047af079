-- Operands in the order of a `Vec`, and the topmost first.
use Rattle.std.proofs.Common.{◌≡◌, ℕ, zero, suc, ◌+◌, ◌<◌, List, [], ◌∷◌, ◌++◌, length, Option, Some, None, refl, ap, ◌∙◌, sym, subst, arith, append_assoc, map, take, drop}
use Rattle.std.specs.Prelude.{◌-◌, reverse, slice_get}
use Rattle.std.specs.Option.{option_to_list}
use Rattle.std.proofs.lemmas.List.{append-nil, length-drop, take-append-drop, map-append, reverse-append, reverse-reverse, length-map, length-reverse}
use Rattle.minijinja_value.specs.Values.{Functions}
use Rattle.minijinja_replay.specs.private.AtMachine.{head_of, put_on}
use Rattle.minijinja_replay.specs.declared.asking.Pushed.{Pushed}
use Rattle.minijinja_replay.specs.declared.asking.Pushed.TheVariants as pushed
use Rattle.minijinja_semantics.specs.Machine.{State, Jammed, on_one, on_two, popped, popped_by, popped_counted, popped_pairs}
use Rattle.minijinja_semantics.specs.Machine as machine

-- what was taken off the end stood first the other way round
pub popped_last : {A B : Type 0} (c : A → B) (xs ys : List A) (x : A) → xs ≡ ys ++ option_to_list (Some x) → reverse (map c xs) ≡ c x ∷ reverse (map c ys)
popped_last c xs ys x e = ap (λ l. reverse (map c l)) e ∙ ap reverse (map-append c ys (x ∷ [])) ∙ reverse-append (map c ys) (c x ∷ [])

-- the given number of operands is taken off, the first ones, and turned
popped_off : {C : Type 0} (xs below vs : List C) → popped (length xs) (xs ++ below) vs ≡ Some (reverse xs ++ vs, below)
unfolding popped
popped_off [] below vs = refl
popped_off (x ∷ xs) below vs =
    popped_off xs below (x ∷ vs)
    ∙ ap (λ l. Some (l, below)) (sym (append_assoc (reverse xs) (x ∷ []) vs) ∙ ap (λ l. l ++ vs) (sym (reverse-append (x ∷ []) xs)))

-- the last ones of a `Vec` are taken off together
pub popped_end : {A C : Type 0} (c : A → C) (n : ℕ) (all below off : List A) → all ≡ below ++ off → length off ≡ n → popped n (reverse (map c all)) [] ≡ Some (map c off, reverse (map c below))
popped_end c n all below off e l =
    let turned : reverse (map c all) ≡ reverse (map c off) ++ reverse (map c below) =
    ap (λ xs. reverse (map c xs)) e ∙ ap reverse (map-append c below off) ∙ reverse-append (map c below) (map c off) in
    let many : n ≡ length (reverse (map c off)) = sym l ∙ sym (length-map off c) ∙ sym (length-reverse (map c off)) in
    ap (λ xs. popped n xs []) turned ∙ ap (λ k. popped k (reverse (map c off) ++ reverse (map c below)) []) many
    ∙ popped_off (reverse (map c off)) (reverse (map c below)) []
    ∙ ap (λ xs. Some (xs, reverse (map c below))) (append-nil (reverse (reverse (map c off))) ∙ reverse-reverse (map c off))

-- more operands than there are cannot be taken off
too_few : {C : Type 0} (n : ℕ) (xs vs : List C) → length xs < n → popped n xs vs ≡ None
unfolding popped
too_few zero xs vs lt = absurd (omega arith)
too_few (suc n) [] vs lt = refl
too_few (suc n) (x ∷ xs) vs lt = too_few n xs (x ∷ vs) (omega arith)

-- there are too few
pub popped_none : {A C : Type 0} (c : A → C) (n : ℕ) (all : List A) → length all < n → popped n (reverse (map c all)) [] ≡ None
popped_none c n all lt =
    let same : length (reverse (map c all)) ≡ length all = length-reverse (map c all) ∙ length-map all c in
    too_few n (reverse (map c all)) [] (subst (λ k. k < n) (sym same) lt)

-- what is put onto the end stands first the other way round
pub pushed_last : {A B : Type 0} (c : A → B) (xs : List A) (x : A) → reverse (map c (xs ++ x ∷ [])) ≡ c x ∷ reverse (map c xs)
pushed_last c xs x = ap reverse (map-append c xs (x ∷ [])) ∙ reverse-append (map c xs) (c x ∷ [])

-- pushed one by one, values stand turned on those below
pub pushed_all : {C : Type 0} (vs ops : List C) → machine.pushed vs ops ≡ reverse vs ++ ops
pushed_all [] ops = refl
pushed_all (v ∷ vs) ops = pushed_all vs (v ∷ ops) ∙ sym (append_assoc (reverse vs) (v ∷ []) ops) ∙ ap (λ l. l ++ ops) (sym (reverse-append (v ∷ []) vs))

-- values put onto the end of a `Vec` in order
pub appended : {A C : Type 0} (c : A → C) (xs vs : List A) → reverse (map c (xs ++ vs)) ≡ reverse (map c vs) ++ reverse (map c xs)
appended c xs vs = ap reverse (map-append c xs vs) ∙ reverse-append (map c xs) (map c vs)

-- a part of a `Vec` from a place on
pub popped_from : {A C : Type 0} (c : A → C) (n at : ℕ) (all below off : List A) → at + n ≡ length all → below ≡ take at all → off ≡ drop at all → popped n (reverse (map c all)) [] ≡ Some (map c off, reverse (map c below))
popped_from c n at all below off sum first rest =
    let whole : all ≡ below ++ off = sym (take-append-drop at all) ∙ ap (λ xs. xs ++ drop at all) (sym first) ∙ ap (λ xs. below ++ xs) (sym rest) in
    popped_end c n all below off whole (ap length rest ∙ length-drop at all ∙ omega (arith, sum))

-- turned and seen is seen and turned
pub map_reverse : {A B : Type 0} (f : A → B) (xs : List A) → map f (reverse xs) ≡ reverse (map f xs)
map_reverse f [] = refl
map_reverse f (x ∷ xs) = ap (map f) (reverse-append (x ∷ []) xs) ∙ map-append f (reverse xs) (x ∷ []) ∙ ap (λ l. l ++ f x ∷ []) (map_reverse f xs) ∙ sym (reverse-append (f x ∷ []) (map f xs))

-- one pair more is taken off
pub pair_more : {C : Type 0} (n : ℕ) (ops below : List C) (k v : C) (ps : List (C × C)) → ops ≡ v ∷ k ∷ below → popped_pairs (suc n) ops ps ≡ popped_pairs n below ((k, v) ∷ ps)
unfolding popped_pairs
pair_more n ops below k v ps e = ap (λ xs. popped_pairs (suc n) xs ps) e

-- there is no pair
pub pair_none : {C : Type 0} (n : ℕ) (ops : List C) (ps : List (C × C)) → length ops < 2 → popped_pairs (suc n) ops ps ≡ None
unfolding popped_pairs
pair_none n [] ps lt = refl
pair_none n (v ∷ []) ps lt = refl
pair_none n (v ∷ k ∷ ops) ps lt = absurd (omega arith)

-- all are taken off
pub pairs_done : {C : Type 0} (ops : List C) (ps : List (C × C)) → popped_pairs zero ops ps ≡ Some (ps, ops)
unfolding popped_pairs
pairs_done ops ps = refl

-- as many are taken off as are said
pub counted_some : {C F : Type 0} (f : Functions C F) (ops : List C) (o : Option ℕ) (n : ℕ) → o ≡ Some n → popped_counted f o ops ≡ popped n ops []
unfolding popped_counted
counted_some f ops o n e = ap (λ x. popped_counted f x ops) e

-- a count on top is taken off first
pub count_off : {C F : Type 0} (f : Functions C F) (ops below : List C) (v : C) (o : Option ℕ) → ops ≡ v ∷ below → o ≡ f.as_count v → popped_counted f None ops ≡ popped_by o below
unfolding popped_counted
count_off f ops below v o top count = ap (popped_counted f None) top ∙ ap (λ x. popped_by x below) (sym count)

-- nothing is on top
pub count_none : {C F : Type 0} (f : Functions C F) (ops below : List C) → ops ≡ [] → popped_counted f None ops ≡ popped_by None below
unfolding popped_counted popped_by
count_none f ops below empty = ap (popped_counted f None) empty

-- as many are taken off as a count on top says
pub counted_by : {C F : Type 0} (f : Functions C F) (ops below : List C) (o : Option ℕ) (n : ℕ) → o ≡ None → popped_counted f None ops ≡ popped_by (Some n) below → popped_counted f o ops ≡ popped n below []
unfolding popped_by
counted_by f ops below o n e off = ap (λ x. popped_counted f x ops) e ∙ off

-- no count is on top
pub counted_none : {C F : Type 0} (f : Functions C F) (ops below : List C) (o : Option ℕ) → o ≡ None → popped_counted f None ops ≡ popped_by None below → popped_counted f o ops ≡ None
unfolding popped_by
counted_none f ops below o e off = ap (λ x. popped_counted f x ops) e ∙ off

-- values put on in order, and then their count
pub put_all : {A C F : Type 0} (c : A → C) (f : Functions C F) (y : Pushed) (before values after : List A) (v : C) (n : ℕ) → y ≡ pushed.AllValues → after ≡ before ++ values → v ≡ f.of_u64 n → n ≡ length values → put_on f y (map c values) (reverse (map c before)) ≡ v ∷ reverse (map c after)
put_all c f y before values after v n is e count many =
    ap (λ x. put_on f x (map c values) (reverse (map c before))) is
    ∙ ap (λ k. f.of_u64 k ∷ (reverse (map c values) ++ reverse (map c before))) (length-map values c ∙ sym many)
    ∙ ap (λ x. x ∷ (reverse (map c values) ++ reverse (map c before))) (sym count)
    ∙ ap (λ l. v ∷ l) (sym (ap (λ l. reverse (map c l)) e ∙ appended c before values))

-- what was put onto the end stands first the other way round
pub turned_last : {A : Type 0} (new old : List A) (x : A) → new ≡ old ++ x ∷ [] → reverse new ≡ x ∷ reverse old
turned_last new old x e = ap reverse e ∙ reverse-append old (x ∷ [])

-- turned values put onto the end
pub unpacked : {A C : Type 0} (c : A → C) (old values turned new : List A) → turned ≡ reverse values → new ≡ old ++ turned → reverse (map c new) ≡ map c values ++ reverse (map c old)
unpacked c old values turned new is put =
    ap (λ l. reverse (map c l)) put ∙ appended c old turned
    ∙ ap (λ l. l ++ reverse (map c old)) (ap (λ l. reverse (map c l)) is ∙ ap reverse (map_reverse c values) ∙ reverse-reverse (map c values))

-- a value put onto the end
pub put_last : {A C : Type 0} (c : A → C) (new old : List A) (x : A) → new ≡ old ++ x ∷ [] → reverse (map c new) ≡ c x ∷ reverse (map c old)
put_last c new old x e = ap (λ l. reverse (map c l)) e ∙ pushed_last c old x

-- equal options have equal values
some_same : {X : Type 0} {x y : X} → Some x ≡ Some y → x ≡ y
some_same e = cc

-- two operands are taken off together, or one by one
pub two_off : {E C F : Type 0} (h : List C → List C → State E C F) (ops vs below : List C) → popped 2 ops [] ≡ Some (vs, below) → on_two ops (λ a b under. h (a ∷ b ∷ []) under) ≡ h vs below
unfolding popped
two_off h [] vs below e = cc
two_off h (v ∷ []) vs below e = cc
two_off {C = C} h (v ∷ u ∷ ops) vs below e = ap (λ (x : List C × List C). h x.0 x.1) (some_same e)

-- where two are not there together, they are not there one by one
pub two_none : {E C F : Type 0} (k : C → C → List C → State E C F) (ops : List C) → popped 2 ops [] ≡ None → on_two ops k ≡ Jammed
unfolding popped
two_none k [] e = refl
two_none k (v ∷ []) e = refl
two_none k (v ∷ u ∷ ops) e = cc

-- what is first stays first before others
head_appended : {C : Type 0} (xs ys : List C) (v : C) → head_of xs ≡ Some v → head_of (xs ++ ys) ≡ Some v
head_appended [] ys v e = cc
head_appended (x ∷ xs) ys v e = e

-- the last one of a list that is not empty is first the other way round
last_first : {A C : Type 0} (c : A → C) (x : A) (xs : List A) (v : A) → Some v ≡ slice_get (x ∷ xs) (length xs) → head_of (reverse (map c (x ∷ xs))) ≡ Some (c v)
last_first c x [] v e = ap (λ u. Some (c u)) (sym (some_same e))
last_first c x (y ∷ ys) v e = ap head_of (reverse-append (c x ∷ []) (map c (y ∷ ys))) ∙ head_appended (reverse (map c (y ∷ ys))) (c x ∷ []) (c v) (last_first c y ys v e)

-- the last one is on top
pub last_on_top : {A C : Type 0} (c : A → C) (xs : List A) (v : A) → Some v ≡ slice_get xs (length xs - 1) → head_of (reverse (map c xs)) ≡ Some (c v)
last_on_top c [] v e = cc
last_on_top c (x ∷ xs) v e = let less : length (x ∷ xs) - 1 ≡ length xs = omega arith in last_first c x xs v (e ∙ ap (slice_get (x ∷ xs)) less)

-- what follows with the topmost operand, which stays
pub with_top : {E C F : Type 0} (h : C → List C → State E C F) (ops : List C) (v : C) → head_of ops ≡ Some v → on_one ops (λ a below. h a (a ∷ below)) ≡ h v ops
with_top h [] v e = cc
with_top h (x ∷ ops) v e = ap (λ a. h a (x ∷ ops)) (some_same e)
