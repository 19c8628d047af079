-- Operators while their code is being made: what folds, and what stands in its place.
use Rattle.std.proofs.Common.{◌≡◌, ℕ, ◌+◌, ◌-◌, ◌^◌, min, ◌<◌, ◌≤◌, List, [], ◌∷◌, ◌++◌, length, map, take, drop, Option, Some, None, refl, sym, ap, ◌∙◌, arith, append_assoc, length-append, subst}
use Rattle.std.specs.Option.{option_map}
use Rattle.std.specs.Prelude.{Bool, true, false, is_some, slice_set}
use Rattle.std.proofs.lemmas.List.{take-take, take-append-drop}
use Rattle.std.proofs.Math.Seq.{take-append_seam, drop-append_seam}
use Rattle.minijinja_value.specs.Values.{Functions}
use Rattle.minijinja_tree.specs.BinOps.{BinOp, concat}
use Rattle.minijinja_tree.specs.Folding.{fold, if_some, fold_unary, fold_binary}
use Rattle.minijinja_tree.specs.Operators.{Working, Makes, Divides, IfTrue, IfFalse, compute, working}
use Rattle.minijinja_tree.specs.Tree.{Expr, UnaryOp, binary, constant, unary}
use Rattle.minijinja_tree.specs.WellFormed.{IsWhole}
use Rattle.minijinja_semantics.specs.Code.{Instr, Load}
use Rattle.minijinja_semantics.specs.Layout.{expr, unary_instr, operation}
use Rattle.minijinja_semantics.specs.Pieces.{behind, Piece, nothing, one, ◌▸◌, skipping}
use Rattle.minijinja_code_expr.specs.internal.Leading.{After, Finishes, FinishesIf, before_right}
use Rattle.minijinja_emitter.specs.internal.Making.{Made, here_of, hole, capped, reach, Adds, alone, between, with_last}
use Rattle.minijinja_code_expr.specs.internal.Parts.{is_lazy, jump_of, operator_of}
use Rattle.minijinja_emitter.specs.internal.Constants.{Joins, TakesConstants, are_both}
use Rattle.minijinja_code_expr.specs.private.Operating.{Sides, EndsBinary, known_between}
use Rattle.minijinja_code_expr.specs.private.OperatorMarks.{Folds}
use Rattle.minijinja_semantics.proofs.FoldedCode.{folded_some, folded_none, folded_code}
use Rattle.minijinja_semantics.proofs.Runs.{append_nil}
use Rattle.minijinja_emitter.proofs.Adding.{adds_then, adds_as, adds_skipping, between_added}
use Rattle.minijinja_code_expr.proofs.Alone.{fold_alone}

-- a value that comes of another one
both_are : {X Y : Type 0} {k : X → Option Y} {y : Y} (o : Option X) → if_some o k ≡ Some y → (x : X) × (o ≡ Some x) × (k x ≡ Some y)
unfolding if_some
both_are None e = absurd (cc)
both_are (Some x) e = (x, refl, e)

module _ {C : Type 0} where
  -- no name is noted
  pub record SameNames (a b : Made C) : Type 0 where
    pub filters : b.filters ≡ a.filters
    pub tests : b.tests ≡ a.tests

  then_same : {a b c : Made C} → SameNames a b → SameNames b c → SameNames a c
  then_same s t = record { filters = t.filters ∙ s.filters; tests = t.tests ∙ s.tests }

  loads_nameless : {a b : Made C} {p : Piece C} (c : C) → p ≡ one (Load c) → Adds a b p → SameNames a b
  loads_nameless {a} {b} {p} c e s =
      let past : here_of b ≡ behind 1 (here_of a) = s.past ∙ ap (λ (q : Piece C). q.past (here_of a)) e in
      record { filters = ap (λ h. h.filters) past; tests = ap (λ h. h.tests) past }

  room_nameless : {a b : Made C} (w : Working) → Adds a b (before_right w) → SameNames a b
  room_nameless (Makes o) s = record { filters = ap (λ h. h.filters) s.past; tests = ap (λ h. h.tests) s.past }
  room_nameless Divides s = record { filters = ap (λ h. h.filters) s.past; tests = ap (λ h. h.tests) s.past }
  room_nameless IfTrue s = record { filters = ap (λ h. h.filters) s.past; tests = ap (λ h. h.tests) s.past }
  room_nameless IfFalse s = record { filters = ap (λ h. h.filters) s.past; tests = ap (λ h. h.tests) s.past }

  -- one load stands in place of all that was added, where no name was noted
  loads_instead : {a b c : Made C} (v : C) (is : List (Instr C)) → SameNames a b → is ≡ a.code ++ Load v ∷ [] → c ≡ record b { code = is } → Adds a c (one (Load v))
  loads_instead {a} {b} {c} v is s ei ec =
      let code : c.code ≡ a.code ++ Load v ∷ [] = ap (λ (m : Made C). m.code) ec ∙ ei in
      record {
        code = code;
        past = ap here_of ec
            ∙ ap (λ n. record { place = n; filters = b.filters; tests = b.tests }) (ap length ei ∙ length-append a.code (Load v ∷ []))
            ∙ ap (λ l. record { place = length a.code + 1; filters = l; tests = b.tests }) s.filters
            ∙ ap (λ l. record { place = length a.code + 1; filters = a.filters; tests = l }) s.tests;
      }

  room_made : {a b : Made C} (w : Working) → is_lazy w ≡ true → Adds a b (before_right w) → Adds a b (one hole)
  room_made (Makes o) e s = absurd (cc)
  room_made Divides e s = absurd (cc)
  room_made IfTrue e s = s
  room_made IfFalse e s = s

  no_room_made : {a b : Made C} (w : Working) → is_lazy w ≡ false → Adds a b (before_right w) → Adds a b nothing
  no_room_made (Makes o) e s = s
  no_room_made Divides e s = s
  no_room_made IfTrue e s = absurd (cc)
  no_room_made IfFalse e s = absurd (cc)

  lazy_operation : (w : Working) (p : Piece C) → is_lazy w ≡ true → operation w p ≡ skipping (jump_of w) p
  lazy_operation (Makes o) p e = absurd (cc)
  lazy_operation Divides p e = absurd (cc)
  lazy_operation IfTrue p e = refl
  lazy_operation IfFalse p e = refl

  strict_operation : (w : Working) (p : Piece C) → is_lazy w ≡ false → operation w p ≡ p ▸ one (operator_of w)
  strict_operation (Makes o) p e = refl
  strict_operation Divides p e = refl
  strict_operation IfTrue p e = absurd (cc)
  strict_operation IfFalse p e = absurd (cc)

  capped_jump : (w : Working) (n : ℕ) → capped {C = C} (jump_of w n) ≡ jump_of w (reach n)
  capped_jump (Makes o) n = refl
  capped_jump Divides n = refl
  capped_jump IfTrue n = refl
  capped_jump IfFalse n = refl

module _ {C F : Type 0} (f : Functions C F) where
  -- an expression's code loads the constant that the expression folds to, also with more after it
  stands_alone : (e : Expr C) {a b : Made C} (c : Made C) (from to : ℕ) (more : List (Instr C)) → IsWhole e → Adds a b (expr f e) → from ≡ length a.code → to ≡ length b.code → c.code ≡ b.code ++ more → alone (between from to c.code) ≡ fold f e
  stands_alone e {a} {b} c from to more w s ef et ec =
      let is : List (Instr C) = map capped ((expr f e).code (here_of a)) in
      let made : c.code ≡ a.code ++ (is ++ more) = ec ∙ ap (λ l. l ++ more) s.code ∙ append_assoc a.code is more in
      let end : to ≡ length a.code + length is = et ∙ ap length s.code ∙ length-append a.code is in
      ap (λ l. alone (between from to l)) made
      ∙ ap alone (between_added a.code is more from to ef end)
      ∙ fold_alone f e w (here_of a)

  pub operand_alone : (e : Expr C) {place : ℕ} {a b : Made C} → IsWhole e → After (expr f e) place a b → alone (between place (length b.code) b.code) ≡ fold f e
  operand_alone e {place} {b = b} w s = stands_alone e b place (length b.code) [] w s.added s.at refl (sym (append_nil b.code))

  unary_value : (o : UnaryOp) (e : Expr C) → fold f (unary o e) ≡ if_some (fold f e) (λ v. fold_unary f o v)
  unfolding fold
  unary_value o e = refl

  pub unary_of : (o : UnaryOp) (e : Expr C) {x : C} → fold f e ≡ Some x → fold f (unary o e) ≡ fold_unary f o x
  unfolding if_some
  unary_of o e {x} k = unary_value o e ∙ ap (λ r. if_some r (λ v. fold_unary f o v)) k

  pub unary_of_none : (o : UnaryOp) (e : Expr C) → fold f e ≡ None → fold f (unary o e) ≡ None
  unfolding if_some
  unary_of_none o e k = unary_value o e ∙ ap (λ r. if_some r (λ v. fold_unary f o v)) k

  -- a constant stands in place of an operand that is one
  pub unary_replaced : (o : UnaryOp) (e : Expr C) {x y : C} {place : ℕ} {a b c : Made C} → After (expr f e) place a b → fold f e ≡ Some x → fold_unary f o x ≡ Some y → c ≡ record b { code = take place b.code ++ Load y ∷ [] } → Adds a c (expr f (unary o e))
  unary_replaced o e {x} {y} {place} {a} {b} {c} s ex ey ec =
      let is : List (Instr C) = map capped ((expr f e).code (here_of a)) in
      let left : take place b.code ≡ a.code = ap (λ l. take place l) s.added.code ∙ ap (λ n. take n (a.code ++ is)) s.at ∙ take-append_seam a.code is in
      adds_as (sym (folded_some _ (unary_of o e ex ∙ ey)))
      (loads_instead y (take place b.code ++ Load y ∷ []) (loads_nameless x (folded_code f e x ex) s.added) (ap (λ l. l ++ Load y ∷ []) left) ec)

  pub unary_fault : (o : UnaryOp) (e : Expr C) {x : C} {place : ℕ} {a b c : Made C} → After (expr f e) place a b → fold f e ≡ Some x → fold_unary f o x ≡ None → Adds b c (one (unary_instr o)) → Adds a c (expr f (unary o e))
  unary_fault o e s ex ey t = adds_as (sym (folded_none _ (unary_of o e ex ∙ ey))) (adds_then s.added t)

  pub unary_open : (o : UnaryOp) (e : Expr C) {place : ℕ} {a b c : Made C} → After (expr f e) place a b → fold f e ≡ None → Adds b c (one (unary_instr o)) → Adds a c (expr f (unary o e))
  unary_open o e s ex t = adds_as (sym (folded_none _ (unary_of_none o e ex))) (adds_then s.added t)

  -- the code of both sides
  both_sides : {o : BinOp} (p q : Expr C) {start middle : ℕ} {a b : Made C} (s : Sides f o p q start middle a b) → b.code ≡ s.left.code ++ (map capped ((before_right {C = C} (working o)).code (here_of s.left)) ++ map capped ((expr f q).code (here_of s.room)))
  both_sides {o} p q s =
      let room : List (Instr C) = map capped ((before_right {C = C} (working o)).code (here_of s.left)) in
      let right : List (Instr C) = map capped ((expr f q).code (here_of s.room)) in
      s.right_added.code ∙ ap (λ l. l ++ right) s.room_added.code ∙ append_assoc s.left.code room right

  pub middle_within : {o : BinOp} (p q : Expr C) {start middle : ℕ} {a b : Made C} → Sides f o p q start middle a b → middle ≤ length b.code
  middle_within {o} p q s =
      let more : List (Instr C) = map capped ((before_right {C = C} (working o)).code (here_of s.left)) ++ map capped ((expr f q).code (here_of s.room)) in
      omega (arith, s.at, ap length (both_sides p q s), length-append s.left.code more)

  pub left_alone : {o : BinOp} (p q : Expr C) {start middle : ℕ} {a b : Made C} → IsWhole p → Sides f o p q start middle a b → alone (between start middle b.code) ≡ fold f p
  left_alone {o} p q {start} {middle} {b = b} w s =
      let more : List (Instr C) = map capped ((before_right {C = C} (working o)).code (here_of s.left)) ++ map capped ((expr f q).code (here_of s.room)) in
      stands_alone p b start middle more w s.left_added s.from s.at (both_sides p q s)

  pub right_alone : {o : BinOp} (p q : Expr C) {start middle : ℕ} {a b : Made C} (right end : ℕ) → IsWhole q → (s : Sides f o p q start middle a b) → right ≡ length s.room.code → end ≡ length b.code → alone (between right end b.code) ≡ fold f q
  right_alone p q {b = b} right end w s er ee = stands_alone q b right end [] w s.right_added er ee (sym (append_nil b.code))

  binary_value : (o : BinOp) (p q : Expr C) → fold f (binary o p q) ≡ if_some (fold f p) (λ x. if_some (fold f q) (λ y. fold_binary f (working o) x y))
  unfolding fold
  binary_value o p q = refl

  pub binary_of : (o : BinOp) (p q : Expr C) {x y : C} → fold f p ≡ Some x → fold f q ≡ Some y → fold f (binary o p q) ≡ fold_binary f (working o) x y
  unfolding if_some
  binary_of o p q {x} {y} ex ey = binary_value o p q ∙ ap (λ r. if_some r (λ x. if_some (fold f q) (λ y. fold_binary f (working o) x y))) ex ∙ ap (λ r. if_some r (λ y. fold_binary f (working o) x y)) ey

  pub binary_left_open : (o : BinOp) (p q : Expr C) → fold f p ≡ None → fold f (binary o p q) ≡ None
  unfolding if_some
  binary_left_open o p q ex = binary_value o p q ∙ ap (λ r. if_some r (λ x. if_some (fold f q) (λ y. fold_binary f (working o) x y))) ex

  none_of_none : {X Y : Type 0} (r : Option X) → let none : Option Y = None in if_some r (λ x. none) ≡ none
  unfolding if_some
  none_of_none None = refl
  none_of_none (Some x) = refl

  pub binary_right_open : (o : BinOp) (p q : Expr C) → fold f q ≡ None → fold f (binary o p q) ≡ None
  unfolding if_some
  binary_right_open o p q ey = binary_value o p q ∙ ap (λ r. if_some (fold f p) (λ x. if_some r (λ y. fold_binary f (working o) x y))) ey ∙ none_of_none (fold f p)

  -- what stands where the sides do, of an operator that takes both
  pub strict_known : (o : BinOp) (p q : Expr C) {start middle : ℕ} {a b : Made C} → is_lazy (working o) ≡ false → IsWhole p → IsWhole q → Sides f o p q start middle a b → known_between f (working o) start middle b.code ≡ fold f (binary o p q)
  strict_known o p q {start} {middle} {a} {b} e wp wq s =
      let room : length s.room.code ≡ length s.left.code = ap (λ h. h.place) (no_room_made (working o) e s.room_added).past in
      ap (λ r. if_some r (λ x. if_some (alone (between middle (length b.code) b.code)) (λ y. fold_binary f (working o) x y))) (left_alone p q wp s)
      ∙ ap (λ r. if_some (fold f p) (λ x. if_some r (λ y. fold_binary f (working o) x y))) (right_alone p q middle (length b.code) wq s (s.at ∙ sym room) refl)
      ∙ sym (binary_value o p q)

  sides_nameless : {o : BinOp} (p q : Expr C) {x y : C} {start middle : ℕ} {a b : Made C} → Sides f o p q start middle a b → fold f p ≡ Some x → fold f q ≡ Some y → SameNames a b
  sides_nameless {o} p q {x} {y} s ex ey = then_same (loads_nameless x (folded_code f p x ex) s.left_added) (then_same (room_nameless (working o) s.room_added) (loads_nameless y (folded_code f q y ey) s.right_added))

  binary_parts : (o : BinOp) (p q : Expr C) {v : C} → fold f (binary o p q) ≡ Some v → (x : C) × (fold f p ≡ Some x) × (y : C) × (fold f q ≡ Some y)
  binary_parts o p q {v} e =
      let left = both_are (fold f p) (sym (binary_value o p q) ∙ e) in
      let right = both_are (fold f q) left.2 in
      (left.0, left.1, right.0, right.1)

  -- what stands before the left side
  before_sides : {o : BinOp} (p q : Expr C) {start middle : ℕ} {a b : Made C} → Sides f o p q start middle a b → take start b.code ≡ a.code
  before_sides {o} p q {start} {middle} {a} {b} s =
      let left : List (Instr C) = map capped ((expr f p).code (here_of a)) in
      let more : List (Instr C) = map capped ((before_right {C = C} (working o)).code (here_of s.left)) ++ map capped ((expr f q).code (here_of s.room)) in
      let made : b.code ≡ a.code ++ (left ++ more) = both_sides p q s ∙ ap (λ l. l ++ more) s.left_added.code ∙ append_assoc a.code left more in
      ap (λ l. take start l) made ∙ ap (λ n. take n (a.code ++ (left ++ more))) s.from ∙ take-append_seam a.code (left ++ more)

  -- a constant stands in place of both sides that are
  pub binary_replaced : (o : BinOp) (p q : Expr C) {v : C} {start middle : ℕ} {a b c : Made C} → Sides f o p q start middle a b → fold f (binary o p q) ≡ Some v → c ≡ record b { code = take start b.code ++ Load v ∷ [] } → Adds a c (expr f (binary o p q))
  binary_replaced o p q {v} {start} {middle} {a} {b} s e ec =
      let parts = binary_parts o p q e in
      adds_as (sym (folded_some _ e))
      (loads_instead v (take start b.code ++ Load v ∷ []) (sides_nameless p q s parts.1 parts.3) (ap (λ l. l ++ Load v ∷ []) (before_sides p q s)) ec)

  pub binary_added : (o : BinOp) (p q : Expr C) {start middle : ℕ} {a b c : Made C} → is_lazy (working o) ≡ false → Sides f o p q start middle a b → fold f (binary o p q) ≡ None → Adds b c (one (operator_of (working o))) → Adds a c (expr f (binary o p q))
  binary_added o p q e s ef t =
      let both = adds_then s.left_added (adds_then (no_room_made (working o) e s.room_added) (adds_then s.right_added t)) in
      adds_as (sym (folded_none _ ef ∙ ap (λ r. expr f p ▸ r) (strict_operation (working o) (expr f q) e))) both

  -- the right side after room for a jump
  pub lazy_right : {o : BinOp} (p q : Expr C) {start middle : ℕ} {a b : Made C} → is_lazy (working o) ≡ true → (s : Sides f o p q start middle a b) → middle + 1 ≡ length s.room.code
  lazy_right {o} p q e s = omega (arith, s.at, ap (λ h. h.place) (room_made (working o) e s.room_added).past)

  pub lazy_within : {o : BinOp} (p q : Expr C) {start middle : ℕ} {a b : Made C} → is_lazy (working o) ≡ true → Sides f o p q start middle a b → middle + 1 ≤ length b.code
  lazy_within p q e s = omega (arith, lazy_right p q e s, ap length s.right_added.code, length-append s.room.code (map capped ((expr f q).code (here_of s.room))))

  pub lazy_added : (o : BinOp) (p q : Expr C) {start middle : ℕ} {a b c : Made C} → is_lazy (working o) ≡ true → Sides f o p q start middle a b → fold f (binary o p q) ≡ None → c ≡ record b { code = slice_set b.code middle (jump_of (working o) (reach (length b.code))) } → Adds a c (expr f (binary o p q))
  lazy_added o p q {b = b} e s ef ec =
      let w = working o in
      let skipped = adds_skipping (jump_of w) _ _ (room_made w e s.room_added) s.right_added s.at (capped_jump w (length b.code)) ec in
      adds_as (sym (folded_none _ ef ∙ ap (λ r. expr f p ▸ r) (lazy_operation w (expr f q) e))) (adds_then s.left_added skipped)

  -- the left one of two constants stays
  left_loaded : (o : BinOp) (p q : Expr C) {x : C} {start middle : ℕ} {a b : Made C} → Sides f o p q start middle a b → fold f p ≡ Some x → take middle b.code ≡ a.code ++ Load x ∷ []
  left_loaded o p q {x} {start} {middle} {a} {b} s ex =
      let more : List (Instr C) = map capped ((before_right {C = C} (working o)).code (here_of s.left)) ++ map capped ((expr f q).code (here_of s.room)) in
      ap (λ l. take middle l) (both_sides p q s) ∙ ap (λ n. take n (s.left.code ++ more)) s.at ∙ take-append_seam s.left.code more ∙ s.left_added.code ∙ ap (λ (r : Piece C). a.code ++ map capped (r.code (here_of a))) (folded_code f p x ex)

  pub left_size : (o : BinOp) (p q : Expr C) {x : C} {start middle : ℕ} {a b : Made C} → Sides f o p q start middle a b → fold f p ≡ Some x → length (take middle b.code) ≡ start + 1
  left_size o p q {x} {a = a} s ex = omega (arith, ap length (left_loaded o p q s ex), length-append a.code (Load x ∷ []), s.from)

  pub left_stays : (o : BinOp) (p q : Expr C) {x y : C} {start middle : ℕ} {a b c : Made C} → Sides f o p q start middle a b → fold f p ≡ Some x → fold f q ≡ Some y → fold_binary f (working o) x y ≡ Some x → c ≡ record b { code = take middle b.code } → Adds a c (expr f (binary o p q))
  left_stays o p q {x} {y} {start} {middle} {a} {b} s ex ey e ec =
      adds_as (sym (folded_some _ (binary_of o p q ex ey ∙ e))) (loads_instead x (take middle b.code) (sides_nameless p q s ex ey) (left_loaded o p q s ex) ec)

  -- and the right one
  pub right_stays : (o : BinOp) (p q : Expr C) {x y : C} {start middle : ℕ} {a b c : Made C} → Sides f o p q start middle a b → fold f p ≡ Some x → fold f q ≡ Some y → fold_binary f (working o) x y ≡ Some y → c ≡ record b { code = take start b.code ++ drop (length b.code - 1) b.code } → Adds a c (expr f (binary o p q))
  right_stays o p q {x} {y} {start} {middle} {a} {b} s ex ey e ec =
      let made : b.code ≡ s.room.code ++ Load y ∷ [] = s.right_added.code ∙ ap (λ (r : Piece C). s.room.code ++ map capped (r.code (here_of s.room))) (folded_code f q y ey) in
      let place : length b.code - 1 ≡ length s.room.code = omega (arith, ap length made, length-append s.room.code (Load y ∷ [])) in
      let last : drop (length b.code - 1) b.code ≡ Load y ∷ [] = ap (λ l. drop (length b.code - 1) l) made ∙ ap (λ n. drop n (s.room.code ++ Load y ∷ [])) place ∙ drop-append_seam s.room.code (Load y ∷ []) in
      let all : take start b.code ++ drop (length b.code - 1) b.code ≡ a.code ++ Load y ∷ [] = ap (λ l. l ++ drop (length b.code - 1) b.code) (before_sides p q s) ∙ ap (λ l. a.code ++ l) last in
      adds_as (sym (folded_some _ (binary_of o p q ex ey ∙ e))) (loads_instead y (take start b.code ++ drop (length b.code - 1) b.code) (sides_nameless p q s ex ey) all ec)

  pub starts_within : {o : BinOp} (p q : Expr C) {start middle : ℕ} {a b : Made C} → Sides f o p q start middle a b → is_lazy (working o) ≡ true → start < length b.code
  starts_within p q {a = a} s e = omega (arith, lazy_within p q e s, s.from, s.at, ap length s.left_added.code, length-append a.code (map capped ((expr f p).code (here_of a))))

  -- what an operand folds to, known by what stands there
  pub operand_given : (e : Expr C) (r : Option C) {place end : ℕ} {a b : Made C} → IsWhole e → After (expr f e) place a b → end ≡ length b.code → (end ≤ length b.code → r ≡ alone (between place end b.code)) → fold f e ≡ r
  operand_given e r {place} {end} {b = b} w s ee k =
      let within : end ≤ length b.code = omega arith in
      sym (operand_alone e w s) ∙ ap (λ n. alone (between place n b.code)) (sym ee) ∙ sym (k within)

  pub unary_given : (o : UnaryOp) (old new : Made C) {x y : C} {place end : ℕ} → end ≡ length old.code → (end ≤ length old.code → Some x ≡ alone (between place end old.code)) → Some y ≡ fold_unary f o x → new ≡ record old { code = take place old.code ++ Load y ∷ [] } → (e : Expr C) → IsWhole e → Finishes f (unary o e) place old new
  unary_given o old new {x} ee k ey en e w start s = unary_replaced o e s (operand_given e (Some x) w s ee k) (sym ey) en

  pub unary_faults : (o : UnaryOp) (old new : Made C) {x : C} {place end : ℕ} → end ≡ length old.code → (end ≤ length old.code → Some x ≡ alone (between place end old.code)) → None ≡ fold_unary f o x → Adds old new (one (unary_instr o)) → (e : Expr C) → IsWhole e → Finishes f (unary o e) place old new
  unary_faults o old new {x} ee k ey t e w start s = unary_fault o e s (operand_given e (Some x) w s ee k) (sym ey) t

  pub unary_unknown : (o : UnaryOp) (old new : Made C) {place end : ℕ} → end ≡ length old.code → (end ≤ length old.code → None ≡ alone (between place end old.code)) → Adds old new (one (unary_instr o)) → (e : Expr C) → IsWhole e → Finishes f (unary o e) place old new
  unary_unknown o old new ee k t e w start s = unary_open o e s (operand_given e None w s ee k) t

  -- what an operator makes of what stands there
  pub known_both : (w : Working) (code : List (Instr C)) (start middle : ℕ) {x y : C} → Some x ≡ alone (between start middle code) → Some y ≡ alone (between middle (length code) code) → fold_binary f w x y ≡ known_between f w start middle code
  unfolding if_some
  known_both w code start middle {x} ex ey = ap (λ r. if_some r (λ y. fold_binary f w x y)) ey ∙ ap (λ r. if_some r (λ x. if_some (alone (between middle (length code) code)) (λ y. fold_binary f w x y))) ex

  pub known_not_left : (w : Working) (code : List (Instr C)) (start middle : ℕ) → None ≡ alone (between start middle code) → None ≡ known_between f w start middle code
  unfolding if_some
  known_not_left w code start middle ex = ap (λ r. if_some r (λ x. if_some (alone (between middle (length code) code)) (λ y. fold_binary f w x y))) ex

  pub known_not_right : (w : Working) (code : List (Instr C)) (start middle : ℕ) → None ≡ alone (between middle (length code) code) → None ≡ known_between f w start middle code
  unfolding if_some
  known_not_right w code start middle ey = sym (none_of_none (alone (between start middle code))) ∙ ap (λ r. if_some (alone (between start middle code)) (λ x. if_some r (λ y. fold_binary f w x y))) ey

  -- the same of an operator of two sides
  pub strict_given : (o : BinOp) (old new : Made C) {v : C} {start middle : ℕ} → is_lazy (working o) ≡ false → (middle ≤ length old.code → Some v ≡ known_between f (working o) start middle old.code) → new ≡ record old { code = take start old.code ++ Load v ∷ [] } → EndsBinary f o start middle old new
  strict_given o old new e k en p q begun wp wq s = binary_replaced o p q s (sym (k (middle_within p q s) ∙ strict_known o p q e wp wq s)) en

  pub strict_unknown : (o : BinOp) (old new : Made C) {start middle : ℕ} → is_lazy (working o) ≡ false → (middle ≤ length old.code → None ≡ known_between f (working o) start middle old.code) → Adds old new (one (operator_of (working o))) → EndsBinary f o start middle old new
  strict_unknown o old new e k t p q begun wp wq s = binary_added o p q e s (sym (k (middle_within p q s) ∙ strict_known o p q e wp wq s)) t

  pub not_both : (w : Working) (x y : Option C) → are_both x y ≡ false → ◌≡◌ {A = Option C} None (if_some x (λ a. if_some y (λ b. fold_binary f w a b)))
  unfolding if_some
  not_both w None y e = refl
  not_both w (Some a) None e = refl
  not_both w (Some a) (Some b) e = absurd (cc)

  -- two constants are joined, which were removed
  pub joined_given : {V : Type 0} (v : V → C) (old cut new : Made C) (l r : V) {x : C} {start middle : ℕ} → (middle ≤ length old.code → TakesConstants v start middle old (Some (l, r)) cut) → x ≡ f.concat (v l) (v r) → new ≡ record cut { code = take start cut.code ++ Load x ∷ [] } → EndsBinary f concat start middle old new
  unfolding compute
  joined_given v old cut new l r {x} {start} {middle} taken ex en p q begun wp wq s =
      let t = taken (middle_within p q s) in
      let known : Some x ≡ known_between f (working concat) start middle old.code = ap Some ex ∙ known_both (working concat) old.code start middle t.0 t.1 in
      binary_replaced concat p q s (sym (known ∙ strict_known concat p q refl wp wq s))
      (en ∙ ap (λ (m : Made C). record m { code = take start m.code ++ Load x ∷ [] }) t.2 ∙ ap (λ (c : List (Instr C)). record old { code = c ++ Load x ∷ [] }) (take-take start start old.code (omega arith)))

  pub joined_unknown : {V : Type 0} (v : V → C) (old cut new : Made C) {start middle : ℕ} → (middle ≤ length old.code → TakesConstants v start middle old None cut) → Adds cut new (one (operator_of (working concat))) → EndsBinary f concat start middle old new
  joined_unknown v old cut new {start} {middle} taken t p q begun wp wq s =
      let k = taken (middle_within p q s) in
      let none = not_both (working concat) (alone (between start middle old.code)) (alone (between middle (length old.code) old.code)) k.0 in
      binary_added concat p q refl s (sym (none ∙ strict_known concat p q refl wp wq s)) (subst (λ m. Adds m new (one (operator_of (working concat)))) k.1 t)

  constant_value : (k : C) → fold f (constant k) ≡ Some k
  unfolding fold
  constant_value k = refl

  pub joined_value : (e : Expr C) (k : C) {x : C} → fold f e ≡ Some x → fold f (binary concat e (constant k)) ≡ Some (f.concat x k)
  unfolding compute
  joined_value e k ex = binary_of concat e (constant k) ex (constant_value k)

  -- a constant on the right is joined in place of the left side, which is one
  joined_with : (e : Expr C) (k : C) {x : C} {place : ℕ} {a b c : Made C} → After (expr f e) place a b → fold f e ≡ Some x → c ≡ record b { code = take place b.code ++ Load (f.concat x k) ∷ [] } → Adds a c (expr f (binary concat e (constant k)))
  joined_with e k {x} {place} {a} {b} {c} s ex ec =
      let y = f.concat x k in
      let is : List (Instr C) = map capped ((expr f e).code (here_of a)) in
      let left : take place b.code ≡ a.code = ap (λ l. take place l) s.added.code ∙ ap (λ n. take n (a.code ++ is)) s.at ∙ take-append_seam a.code is in
      adds_as (sym (folded_some _ (joined_value e k ex)))
      (loads_instead y (take place b.code ++ Load y ∷ []) (loads_nameless x (folded_code f e x ex) s.added) (ap (λ l. l ++ Load y ∷ []) left) ec)

  pub joins_finish : (old new : Made C) (k : C) (place : ℕ) (joined : Bool) → Joins f place k joined old new → (e : Expr C) → IsWhole e → FinishesIf f joined (binary concat e (constant k)) place old new
  joins_finish old new k place true j e w = λ start s. joined_with e k s (sym (operand_alone e w s) ∙ sym j.1) j.2
  joins_finish old new k place false j e w = j.1

  -- where it was joined, the whole folds
  pub joins_folds : (old new : Made C) (k : C) (place : ℕ) (joined : Bool) → joined ≡ true → Joins f place k joined old new → (e : Expr C) → IsWhole e → Folds f (binary concat e (constant k)) place old
  joins_folds old new k place true is j e w = λ start s. (f.concat j.0 k, joined_value e k (sym (operand_alone e w s) ∙ sym j.1))
  joins_folds old new k place false is j e w = absurd (cc)

  pub left_given : {o : BinOp} (p q : Expr C) (r : Option C) {start middle : ℕ} {a b : Made C} → IsWhole p → Sides f o p q start middle a b → (middle ≤ length b.code → r ≡ alone (between start middle b.code)) → fold f p ≡ r
  left_given p q r w s k = sym (k (middle_within p q s) ∙ left_alone p q w s)

  pub right_given : {o : BinOp} (p q : Expr C) (r : Option C) {start middle right end : ℕ} {a b : Made C} → is_lazy (working o) ≡ true → IsWhole q → Sides f o p q start middle a b → end ≡ length b.code → end < 2 ^ 64 → right ≡ min (middle + 1) 18446744073709551615 → (end ≤ length b.code → r ≡ alone (between right end b.code)) → fold f q ≡ r
  right_given p q r {start} {middle} {right} {end} {b = b} e w s ee fits er k =
      let within : end ≤ length b.code = omega arith in
      let room : right ≡ length s.room.code = omega (arith, lazy_right p q e s, lazy_within p q e s) in
      sym (k within ∙ right_alone p q right end w s room ee)

  pub gives_right_on : (o : BinOp) (old new : Made C) {Y : Type 0} (c : Y → C) (r : Option Y) {x : C} {start middle right end : ℕ} → is_lazy (working o) ≡ true → end ≡ length old.code → end < 2 ^ 64 → right ≡ min (middle + 1) 18446744073709551615 → (middle ≤ length old.code → Some x ≡ alone (between start middle old.code)) → (end ≤ length old.code → option_map c r ≡ alone (between right end old.code)) → is_some r ≡ true → ((y : C) → fold_binary f (working o) x y ≡ Some y) → (start < length old.code → new ≡ record old { code = take start old.code ++ drop (length old.code - 1) old.code }) → EndsBinary f o start middle old new
  gives_right_on o old new c None e ee fits er kx ky some on en p q begun wp wq s = absurd (cc)
  gives_right_on o old new c (Some y) {x} e ee fits er kx ky some on en p q begun wp wq s =
      right_stays o p q s (left_given p q (Some x) wp s kx) (right_given p q (Some (c y)) e wq s ee fits er ky) (on (c y)) (en (starts_within p q s e))

  -- the last instruction after those before a place is all of them, if that is where it stands
  last_stays : (n : ℕ) (code : List (Instr C)) → length code ≡ n + 1 → with_last n code ≡ code
  last_stays n code e =
      let place : length code - 1 ≡ n = omega arith in
      ap (λ k. take n code ++ drop k code) place ∙ take-append-drop n code

  pub gives_left_on : (o : BinOp) (old cut new : Made C) {Y : Type 0} (c : Y → C) (r : Option Y) {x : C} {start middle right end : ℕ} → is_lazy (working o) ≡ true → end ≡ length old.code → end < 2 ^ 64 → right ≡ min (middle + 1) 18446744073709551615 → (middle ≤ length old.code → Some x ≡ alone (between start middle old.code)) → (end ≤ length old.code → option_map c r ≡ alone (between right end old.code)) → is_some r ≡ true → ((y : C) → fold_binary f (working o) x y ≡ Some x) → cut ≡ record old { code = take middle old.code } → (start < length cut.code → new ≡ record cut { code = with_last start cut.code }) → EndsBinary f o start middle old new
  gives_left_on o old cut new c None e ee fits er kx ky some on ec en p q begun wp wq s = absurd (cc)
  gives_left_on o old cut new c (Some y) {x} {start} {middle} e ee fits er kx ky some on ec en p q begun wp wq s =
      let ex = left_given p q (Some x) wp s kx in
      let size : length cut.code ≡ start + 1 = ap (λ (m : Made C). length m.code) ec ∙ left_size o p q s ex in
      let kept : new ≡ record old { code = take middle old.code } =
      en (omega arith) ∙ ap (λ l. record cut { code = l }) (last_stays start cut.code size) ∙ ec in
      left_stays o p q s ex (right_given p q (Some (c y)) e wq s ee fits er ky) (on (c y)) kept

  pub lazy_left_unknown : (o : BinOp) (old new : Made C) {start middle : ℕ} → is_lazy (working o) ≡ true → (middle ≤ length old.code → None ≡ alone (between start middle old.code)) → new ≡ record old { code = slice_set old.code middle (jump_of (working o) (reach (length old.code))) } → EndsBinary f o start middle old new
  lazy_left_unknown o old new e k en p q begun wp wq s = lazy_added o p q e s (binary_left_open o p q (left_given p q None wp s k)) en

  pub lazy_right_unknown : (o : BinOp) (old new : Made C) {Y : Type 0} (c : Y → C) (r : Option Y) {start middle right end : ℕ} → is_lazy (working o) ≡ true → end ≡ length old.code → end < 2 ^ 64 → right ≡ min (middle + 1) 18446744073709551615 → (end ≤ length old.code → option_map c r ≡ alone (between right end old.code)) → is_some r ≡ false → new ≡ record old { code = slice_set old.code middle (jump_of (working o) (reach (length old.code))) } → EndsBinary f o start middle old new
  lazy_right_unknown o old new c (Some y) e ee fits er ky some en p q begun wp wq s = absurd (cc)
  lazy_right_unknown o old new c None e ee fits er ky some en p q begun wp wq s =
      lazy_added o p q e s (binary_right_open o p q (right_given p q None e wq s ee fits er ky)) en
