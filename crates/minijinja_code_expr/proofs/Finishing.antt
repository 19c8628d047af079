-- What is added after the leading operand of a node completes the code of the node.
use Rattle.std.proofs.Common.{◌≡◌, ◌≤◌, ℕ, [], ◌∷◌, ◌++◌, true, false, Option, Some, None, length, refl, sym, ap, ◌∙◌, subst}
use Rattle.std.specs.Prelude.{Bool, if◌then◌else◌, codes, bytes_eq}
use Rattle.minijinja_syntax.specs.Texts.{Text}
use Rattle.minijinja_value.specs.Values.{Functions}
use Rattle.minijinja_tree.specs.Callees.{Callee, function, method, block, object, callee, callee_of_attribute}
use Rattle.minijinja_tree.specs.Folding.{fold}
use Rattle.minijinja_tree.specs.Tree.{Expr, Exprs, variable, constant, slice, unary, binary, compare, if_expr, filter, test, attribute, item, call, list, tuple, map, Optional, absent, present, Args}
use Rattle.minijinja_tree.specs.BinOps.{BinOp}
use Rattle.minijinja_tree.specs.Operators.{working}
use Rattle.minijinja_tree.specs.WellFormed.{IsWhole, AreArguments, arg_count, most_arguments, expr_count}
use Rattle.minijinja_semantics.specs.Code.{Load, Do, Call, Apply, BuildList, BuildTuple, BuildMap}
use Rattle.minijinja_semantics.specs.Events.{ApplyFilter, PerformTest, Lookup, GetAttr, GetItem, Slice, CallFunction, CallMethod, CallObject}
use Rattle.minijinja_semantics.specs.Layout.{expr, base, operand, optional, items, each, paired, argument_count, call_of, apply_filter, perform_test}
use Rattle.minijinja_semantics.specs.Pieces.{Piece, nothing, one, ◌▸◌, noted, id_of}
use Rattle.minijinja_code_expr.specs.internal.Calling.{captured}
use Rattle.minijinja_emitter.specs.internal.Making.{Made, Adds}
use Rattle.minijinja_code_expr.specs.internal.Parts.{given, AddsIf}
use Rattle.minijinja_code_expr.specs.internal.Leading.{After, called_on, leading, test_in, piece_of, Finishes, FinishesIf, before_right}
use Rattle.minijinja_code_expr.specs.private.Operating.{EndsBinary}
use Rattle.minijinja_emitter.proofs.Adding.{adds_then, adds_as}
use Rattle.minijinja_semantics.proofs.FoldedCode.{folded_code, folded_none}

chosen : {C : Type 0} (b : Bool) (a e : Expr C) (y x : Text) → (if b then block y else method a y) ≡ method e x → a ≡ e
chosen true a e y x h = absurd (cc)
chosen false a e y x h = cc

no_object : {C : Type 0} (b : Bool) (a o : Expr C) (y : Text) → (if b then block y else method a y) ≡ object o → ⊥
no_object true a o y h = cc
no_object false a o y h = cc

chosen_whole : {C : Type 0} (b : Bool) (z y : Text) (l : Expr C) → called_on (if b then block y else method (variable z) y) ≡ Some l → IsWhole l
chosen_whole true z y l h = absurd (cc)
chosen_whole false z y l h = let same : variable z ≡ l = cc in subst IsWhole same tt

attribute_method : {C : Type 0} (a e : Expr C) (y x : Text) → callee_of_attribute a y ≡ method e x → a ≡ e
attribute_method (variable z) e y x h = chosen (bytes_eq z (codes "self")) (variable z) e y x h
attribute_method a e y x h = cc

module _ {C F : Type 0} (f : Functions C F) where
  pub finishes_as : {d e : Expr C} (place : ℕ) (a b : Made C) → d ≡ e → Finishes f e place a b → Finishes f d place a b
  finishes_as {d} {e} place a b is k = subst (λ t. Finishes f t place a b) (sym is) k

  -- pieces after the leading one
  pub after_then : {l p : Piece C} {place : ℕ} {start a b : Made C} → Adds a b p → After l place start a → Adds start b (l ▸ p)
  after_then s r = adds_then r.added s

  pub variable_finishes : (x : Text) {place : ℕ} {a b : Made C} → Adds a b (one (Do Lookup x 0)) → Finishes f (variable x) place a b
  variable_finishes x s = λ start r. after_then s r

  pub constant_finishes : (v : C) {place : ℕ} {a b : Made C} → Adds a b (one (Load v)) → Finishes f (constant v) place a b
  constant_finishes v s = λ start r. after_then s r

  pub slice_finishes : (e : Expr C) (i j k : Optional C) {place : ℕ} {a b c d z : Made C} → Adds a b (optional f f.none i) → Adds b c (optional f f.none j) → Adds c d (optional f f.none k) → Adds d z (one (Do Slice [] 4)) → Finishes f (slice e i j k) place a z
  slice_finishes e i j k s t u v = λ start r. after_then (adds_then s (adds_then t (adds_then u v))) r

  pub attribute_finishes : (e : Expr C) (x : Text) {place : ℕ} {a b : Made C} → Adds a b (one (Do GetAttr x 1)) → Finishes f (attribute e x) place a b
  attribute_finishes e x s = λ start r. after_then s r

  pub item_finishes : (e k : Expr C) {place : ℕ} {a b c : Made C} → Adds a b (expr f k) → Adds b c (one (Do GetItem [] 2)) → Finishes f (item e k) place a c
  item_finishes e k s t = λ start r. after_then (adds_then s t) r

  operand_piece : (o : Optional C) (x : Text) (args : Args C) → operand f o ≡ piece_of f (leading (filter o x args))
  operand_piece absent x args = refl
  operand_piece (present e) x args = refl

  -- a filter by its name, which is noted
  pub filter_finishes : (o : Optional C) (x : Text) (args : Args C) {place : ℕ} {a b z : Made C} → Adds a b (given f args 1) → Adds b z (apply_filter x (argument_count args 1)) → Finishes f (filter o x args) place a z
  filter_finishes o x args {place} {a} {b} {z} s t = λ start r.
      adds_as (ap (λ p. p ▸ given f args 1 ▸ apply_filter x (argument_count args 1)) (sym (operand_piece o x args))) (after_then (adds_then s t) r)

  pub test_finishes : (e : Expr C) (x : Text) (args : Args C) {place : ℕ} {a b z : Made C} → Adds a b (given f args 1) → Adds b z (perform_test x (argument_count args 1)) → Finishes f (test e x args) place a z
  test_finishes e x args s t = λ start r. after_then (adds_then s t) r

  -- of a method, the piece of its object
  pub method_base : (e o : Expr C) (x : Text) → callee e ≡ method o x → base f e ≡ expr f o
  method_base (attribute a y) o x h = ap (expr f) (attribute_method a o y x h)
  method_base e o x h = absurd (cc)

  pub object_is : (e o : Expr C) → callee e ≡ object o → e ≡ o
  object_is (attribute (variable z) y) o h = absurd (no_object (bytes_eq z (codes "self")) (variable z) o y h)
  object_is (attribute a y) o h = absurd (cc)
  object_is e o h = cc

  -- a call of this
  module _ (e : Expr C) (args : Args C) {place : ℕ} {a z : Made C} where
    called_finishes : (k : Callee C) → callee e ≡ k → ((start : Made C) → After (piece_of f (called_on k)) place start a → Adds start z (call_of k (base f e) (expr f e) (given f args) (argument_count args))) → Finishes f (call e args) place a z
    called_finishes k is adds = λ start r.
        subst (λ j. Adds start z (call_of j (base f e) (expr f e) (given f args) (argument_count args))) (sym is)
        (adds start (subst (λ j. After (piece_of f (called_on j)) place start a) is r))

    pub function_finishes : (x : Text) {b : Made C} → callee e ≡ function x → Adds a b (given f args 0) → Adds b z (one (Call CallFunction x (argument_count args 0))) → Finishes f (call e args) place a z
    function_finishes x is s t = called_finishes (function x) is (λ start r. after_then (adds_then s t) r)

    pub block_finishes : (x : Text) → callee e ≡ block x → Adds a z (captured x) → Finishes f (call e args) place a z
    block_finishes x is s = called_finishes (block x) is (λ start r. after_then s r)

    pub method_finishes : (o : Expr C) (x : Text) {b : Made C} → callee e ≡ method o x → Adds a b (given f args 1) → Adds b z (one (Call CallMethod x (argument_count args 1))) → Finishes f (call e args) place a z
    method_finishes o x is s t = called_finishes (method o x) is (λ start r.
        adds_as (ap (λ p. p ▸ given f args 1 ▸ one (Call CallMethod x (argument_count args 1))) (sym (method_base e o x is))) (after_then (adds_then s t) r))

    pub object_finishes : (o : Expr C) {b : Made C} → callee e ≡ object o → Adds a b (given f args 1) → Adds b z (one (Call CallObject [] (argument_count args 1))) → Finishes f (call e args) place a z
    object_finishes o is s t = called_finishes (object o) is (λ start r.
        adds_as (ap (λ p. expr f p ▸ given f args 1 ▸ one (Call CallObject [] (argument_count args 1))) (sym (object_is e o is))) (after_then (adds_then s t) r))

  -- what folds is loaded, and nothing else then
  literal_loaded : (e : Expr C) {place : ℕ} {a b : Made C} → AddsIf true (fold f e) a b → (start : Made C) → After nothing place start a → Adds start b (expr f e)
  literal_loaded e k start r = adds_as (sym (folded_code f e k.0 k.1)) (after_then k.2 r)

  pub list_loaded : (es : Exprs C) {place : ℕ} {a b : Made C} (loaded : Bool) → loaded ≡ true → AddsIf loaded (fold f (list es)) a b → Finishes f (list es) place a b
  list_loaded es {place} {a} {b} loaded e k = literal_loaded (list es) (subst (λ l. AddsIf l (fold f (list es)) a b) e k)

  pub tuple_loaded : (es : Exprs C) {place : ℕ} {a b : Made C} (loaded : Bool) → loaded ≡ true → AddsIf loaded (fold f (tuple es)) a b → Finishes f (tuple es) place a b
  tuple_loaded es {place} {a} {b} loaded e k = literal_loaded (tuple es) (subst (λ l. AddsIf l (fold f (tuple es)) a b) e k)

  pub map_loaded : (ks vs : Exprs C) {place : ℕ} {a b : Made C} (loaded : Bool) → loaded ≡ true → AddsIf loaded (fold f (map ks vs)) a b → Finishes f (map ks vs) place a b
  map_loaded ks vs {place} {a} {b} loaded e k = literal_loaded (map ks vs) (subst (λ l. AddsIf l (fold f (map ks vs)) a b) e k)

  -- what does not fold is made of its items
  pub list_finishes : (es : Exprs C) (n : ℕ) {place : ℕ} {a b c d : Made C} (loaded : Bool) → loaded ≡ false → AddsIf loaded (fold f (list es)) a b → Adds b c (items f es) → n ≡ expr_count es → Adds c d (one (BuildList (Some n))) → Finishes f (list es) place a d
  list_finishes es n {place} {a} {b} {c} {d} loaded e k s en t = λ start r.
      let unfolded : (fold f (list es) ≡ None) × (b ≡ a) = subst (λ l. AddsIf l (fold f (list es)) a b) e k in
      adds_as (sym (folded_none _ unfolded.0))
      (adds_as (ap (λ m. items f es ▸ one (BuildList (Some m))) en) (after_then (adds_then (subst (λ m. Adds m c (items f es)) unfolded.1 s) t) r))

  pub tuple_finishes : (es : Exprs C) (n : ℕ) {place : ℕ} {a b c d : Made C} (loaded : Bool) → loaded ≡ false → AddsIf loaded (fold f (tuple es)) a b → Adds b c (items f es) → n ≡ expr_count es → Adds c d (one (BuildTuple (Some n))) → Finishes f (tuple es) place a d
  tuple_finishes es n {place} {a} {b} {c} {d} loaded e k s en t = λ start r.
      let unfolded : (fold f (tuple es) ≡ None) × (b ≡ a) = subst (λ l. AddsIf l (fold f (tuple es)) a b) e k in
      adds_as (sym (folded_none _ unfolded.0))
      (adds_as (ap (λ m. items f es ▸ one (BuildTuple (Some m))) en) (after_then (adds_then (subst (λ m. Adds m c (items f es)) unfolded.1 s) t) r))

  pub map_finishes : (ks vs : Exprs C) (n : ℕ) {place : ℕ} {a b c d : Made C} (loaded : Bool) → loaded ≡ false → AddsIf loaded (fold f (map ks vs)) a b → Adds b c (paired (each f ks) (each f vs)) → n ≡ expr_count ks → Adds c d (one (BuildMap n)) → Finishes f (map ks vs) place a d
  map_finishes ks vs n {place} {a} {b} {c} {d} loaded e k s en t = λ start r.
      let unfolded : (fold f (map ks vs) ≡ None) × (b ≡ a) = subst (λ l. AddsIf l (fold f (map ks vs)) a b) e k in
      adds_as (sym (folded_none _ unfolded.0))
      (adds_as (ap (λ m. paired (each f ks) (each f vs) ▸ one (BuildMap m)) en) (after_then (adds_then (subst (λ m. Adds m c (paired (each f ks) (each f vs))) unfolded.1 s) t) r))

  -- an operator of two sides
  pub binary_finishes : (o : BinOp) (x y : Expr C) {place middle : ℕ} {a b c d : Made C} → IsWhole x → IsWhole y → middle ≡ length a.code → Adds a b (before_right (working o)) → Adds b c (expr f y) → EndsBinary f o place middle c d → Finishes f (binary o x y) place a d
  binary_finishes o x y {place} {middle} {a} {b} {c} {d} wx wy at room right ends = λ start r.
      ends x y start wx wy (record { left = a; room = b; from = r.at; left_added = r.added; at = at; room_added = room; right_added = right })

  -- its right side was joined with the left one, or is added then
  pub binary_joined : (o : BinOp) (x y : Expr C) {place : ℕ} {a b : Made C} (joined : Bool) → joined ≡ true → IsWhole x → (IsWhole x → FinishesIf f joined (binary o x y) place a b) → Finishes f (binary o x y) place a b
  binary_joined o x y {place} {a} {b} joined e w k = subst (λ j. FinishesIf f j (binary o x y) place a b) e (k w)

  pub binary_unjoined : (o : BinOp) (x y : Expr C) {place : ℕ} {a b c : Made C} (joined : Bool) → joined ≡ false → IsWhole x → (IsWhole x → FinishesIf f joined (binary o x y) place a b) → Finishes f (binary o x y) place b c → Finishes f (binary o x y) place a c
  binary_unjoined o x y {place} {a} {b} {c} joined e w k s =
      let same : b ≡ a = subst (λ j. FinishesIf f j (binary o x y) place a b) e (k w) in
      subst (λ m. Finishes f (binary o x y) place m c) same s

-- what a call is made on is whole where the called expression is
callee_whole : {C : Type 0} (e l : Expr C) → called_on (callee e) ≡ Some l → IsWhole e → IsWhole l
callee_whole (variable x) l h w = absurd (cc)
callee_whole (attribute (variable z) y) l h w = chosen_whole (bytes_eq z (codes "self")) z y l h
callee_whole (attribute a y) l h w = let same : a ≡ l = cc in subst IsWhole same w
callee_whole e l h w = let same : e ≡ l = cc in subst IsWhole same w

-- and so is a leading operand of a whole node
pub leading_whole : {C : Type 0} (e l : Expr C) → leading e ≡ Some l → IsWhole e → IsWhole l
leading_whole (variable x) l h w = absurd (cc)
leading_whole (constant c) l h w = absurd (cc)
leading_whole (slice e i j k) l h w = let same : e ≡ l = cc in subst IsWhole same w.0
leading_whole (unary o e) l h w = let same : e ≡ l = cc in subst IsWhole same w
leading_whole (binary o a b) l h w = let same : a ≡ l = cc in subst IsWhole same w.0
leading_whole (compare e cs) l h w = let same : e ≡ l = cc in subst IsWhole same w.0
leading_whole (if_expr t a b) l h w = let same : a ≡ l = cc in subst IsWhole same w.1
leading_whole (filter absent x args) l h w = absurd w
leading_whole (filter (present e) x args) l h w = let same : e ≡ l = cc in subst IsWhole same w.0
leading_whole (test e x args) l h w = let same : e ≡ l = cc in subst IsWhole same w.0
leading_whole (attribute e x) l h w = let same : e ≡ l = cc in subst IsWhole same w
leading_whole (item e k) l h w = let same : e ≡ l = cc in subst IsWhole same w.0
leading_whole (call e args) l h w = callee_whole e l h w.0
leading_whole (list es) l h w = absurd (cc)
leading_whole (tuple es) l h w = absurd (cc)
leading_whole (map ks vs) l h w = absurd (cc)

-- the test of an if expression is whole
pub test_whole : {C : Type 0} (e t : Expr C) → test_in e ≡ Some t → IsWhole e → IsWhole t
test_whole (if_expr t' a b) t h w = let same : t' ≡ t = cc in subst IsWhole same w.0
test_whole e t h w = absurd (cc)

-- what a filter takes is whole
pub filter_arguments : {C : Type 0} (o : Optional C) (x : Text) (args : Args C) → IsWhole (filter o x args) → AreArguments args × (arg_count args ≤ most_arguments)
filter_arguments absent x args w = absurd w
filter_arguments (present e) x args w = (w.1, w.2)

module _ {C : Type 0} where
  -- a name is noted, and the filter applied by its id
  pub filter_applied : (x : Text) (n m : Option ℕ) (id : ℕ) {a b z : Made C} → b ≡ record a { filters = noted x a.filters } → id ≡ id_of x a.filters → n ≡ m → Adds b z (one (Apply ApplyFilter x n id)) → Adds a z (apply_filter x m)
  filter_applied x n m id {a} {b} {z} eb ei en s =
      let t = subst (λ k. Adds k z (one (Apply ApplyFilter x n id))) eb s in
      record { code = t.code ∙ ap (λ k. a.code ++ Apply ApplyFilter x n k ∷ []) ei ∙ ap (λ k. a.code ++ Apply ApplyFilter x k (id_of x a.filters) ∷ []) en; past = t.past }

  pub test_performed : (x : Text) (n m : Option ℕ) (id : ℕ) {a b z : Made C} → b ≡ record a { tests = noted x a.tests } → id ≡ id_of x a.tests → n ≡ m → Adds b z (one (Apply PerformTest x n id)) → Adds a z (perform_test x m)
  test_performed x n m id {a} {b} {z} eb ei en s =
      let t = subst (λ k. Adds k z (one (Apply PerformTest x n id))) eb s in
      record { code = t.code ∙ ap (λ k. a.code ++ Apply PerformTest x n k ∷ []) ei ∙ ap (λ k. a.code ++ Apply PerformTest x k (id_of x a.tests) ∷ []) en; past = t.past }
