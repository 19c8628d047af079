-- The marks of operators while their code is made: one instruction stands for what folds.
use Rattle.std.proofs.Common.{◌≡◌, ℕ, ◌+◌, ◌^◌, min, ◌<◌, ◌≤◌, length, take, Option, Some, None, refl, sym, ap, ◌∙◌, arith, length-append, map}
use Rattle.std.specs.Option.{option_map}
use Rattle.std.specs.Prelude.{true, false, is_some, List}
use Rattle.std.proofs.lemmas.List.{take-take, length-take-le}
use Rattle.std.proofs.Math.Seq.{take-length}
use Rattle.minijinja_value.specs.Values.{Functions}
use Rattle.minijinja_tree.specs.BinOps.{BinOp, concat}
use Rattle.minijinja_tree.specs.Folding.{fold_unary, fold_binary}
use Rattle.minijinja_tree.specs.Operators.{Working, Makes, Divides, IfTrue, IfFalse, compute, working}
use Rattle.minijinja_tree.specs.Tree.{Expr, UnaryOp}
use Rattle.minijinja_semantics.specs.Layout.{expr}
use Rattle.minijinja_semantics.specs.Marks.{Mark, Margin, Marking, here, unary_operator}
use Rattle.minijinja_emitter.specs.declared.emit.Site.{Site}
use Rattle.minijinja_emitter.specs.internal.Constants.{TakesConstants}
use Rattle.minijinja_emitter.specs.internal.Making.{Made, here_of, capped, alone, between}
use Rattle.minijinja_emitter.specs.internal.Margins.{replaced, trimmed}
use Rattle.minijinja_code_expr.specs.internal.NodeMarks.{taken_back}
use Rattle.minijinja_code_expr.specs.internal.Parts.{is_lazy}
use Rattle.minijinja_code_expr.specs.private.Operating.{Sides, known_between}
use Rattle.minijinja_code_expr.specs.private.OperatorMarks.{EndsUnaryMarks, EndsBinaryMarks, after_right_marks}
use Rattle.minijinja_code_expr.proofs.OperatorCode.{unary_of, unary_of_none, operand_given, binary_of, binary_left_open, binary_right_open, not_both, left_given, left_size, right_given, known_both, strict_known, middle_within, starts_within}

-- ---- margins

pub trimmed_replaced : (place n : ℕ) (site : Site) (t : Margin) → place ≤ n → replaced place site (trimmed n t) ≡ replaced place site t
trimmed_replaced place n site t h = ap (λ (ms : List Mark). here 1 (record { marks = ms; line = site.node.start_line; span = site.outer })) (take-take place n t.marks h)

-- nothing stands past the end
pub trimmed_none : (n : ℕ) (t : Margin) → length t.marks ≡ n → trimmed n t ≡ t
trimmed_none n t e = ap (λ k. trimmed k t) (sym e) ∙ ap (λ ms. record t { marks = ms }) (take-length t.marks)

module _ {C : Type 0} where
  pub back_some : {r : Option C} {x : C} (place : ℕ) (site : Site) (g : Marking) (old : Margin) {new : Margin} → r ≡ Some x → new ≡ replaced place site old → new ≡ taken_back r place site g old
  unfolding taken_back
  back_some place site g old e k = k ∙ sym (ap (λ r. taken_back r place site g old) e)

  pub back_none : {r : Option C} (place : ℕ) (site : Site) (g : Marking) (old : Margin) {new : Margin} → r ≡ None → new ≡ g old → new ≡ taken_back r place site g old
  unfolding taken_back
  back_none place site g old e k = k ∙ sym (ap (λ r. taken_back r place site g old) e)

-- ---- before and after the right side

strict_after : (w : Working) (t : Margin) → is_lazy w ≡ false → here 1 t ≡ after_right_marks w t
strict_after (Makes o) t e = refl
strict_after Divides t e = refl
strict_after IfTrue t e = absurd (cc)
strict_after IfFalse t e = absurd (cc)

lazy_after : (w : Working) (t : Margin) → is_lazy w ≡ true → t ≡ after_right_marks w t
lazy_after (Makes o) t e = absurd (cc)
lazy_after Divides t e = absurd (cc)
lazy_after IfTrue t e = refl
lazy_after IfFalse t e = refl

module _ {C F : Type 0} (f : Functions C F) where
  -- ---- one side

  pub unary_given_marks : (o : UnaryOp) (made : Made C) {x y : C} {place end : ℕ} (site : Site) (old : Margin) {new : Margin} → end ≡ length made.code → (end ≤ length made.code → Some x ≡ alone (between place end made.code)) → Some y ≡ fold_unary f o x → new ≡ replaced place site old → EndsUnaryMarks f o place site made old new
  unary_given_marks o made {x} {y} {place} site old ee k ey en e start w s = back_some place site (unary_operator o site.node) old (unary_of f o e (operand_given f e (Some x) w s ee k) ∙ sym ey) en

  pub unary_faults_marks : (o : UnaryOp) (made : Made C) {x : C} {place end : ℕ} (site : Site) (old : Margin) {new : Margin} → end ≡ length made.code → (end ≤ length made.code → Some x ≡ alone (between place end made.code)) → None ≡ fold_unary f o x → new ≡ unary_operator o site.node old → EndsUnaryMarks f o place site made old new
  unary_faults_marks o made {x} {place} site old ee k ey en e start w s = back_none place site (unary_operator o site.node) old (unary_of f o e (operand_given f e (Some x) w s ee k) ∙ sym ey) en

  pub unary_unknown_marks : (o : UnaryOp) (made : Made C) {place end : ℕ} (site : Site) (old : Margin) {new : Margin} → end ≡ length made.code → (end ≤ length made.code → None ≡ alone (between place end made.code)) → new ≡ unary_operator o site.node old → EndsUnaryMarks f o place site made old new
  unary_unknown_marks o made {place} site old ee k en e start w s = back_none place site (unary_operator o site.node) old (unary_of_none f o e (operand_given f e None w s ee k)) en

  -- ---- two sides

  pub strict_given_marks : (o : BinOp) (made : Made C) {v : C} {start middle : ℕ} (site : Site) (old : Margin) {new : Margin} → is_lazy (working o) ≡ false → (middle ≤ length made.code → Some v ≡ known_between f (working o) start middle made.code) → new ≡ replaced start site old → EndsBinaryMarks f o start middle site made old new
  strict_given_marks o made {v} {start} site old e k en p q begun wp wq s = back_some start site (after_right_marks (working o)) old (sym (k (middle_within f p q s) ∙ strict_known f o p q e wp wq s)) en

  pub strict_unknown_marks : (o : BinOp) (made : Made C) {start middle : ℕ} (site : Site) (old : Margin) {new : Margin} → is_lazy (working o) ≡ false → (middle ≤ length made.code → None ≡ known_between f (working o) start middle made.code) → new ≡ here 1 old → EndsBinaryMarks f o start middle site made old new
  strict_unknown_marks o made {start} site old e k en p q begun wp wq s = back_none start site (after_right_marks (working o)) old (sym (k (middle_within f p q s) ∙ strict_known f o p q e wp wq s)) (en ∙ strict_after (working o) old e)

  starts_before : {o : BinOp} (p q : Expr C) {start middle : ℕ} {a b : Made C} → Sides f o p q start middle a b → start ≤ middle
  starts_before p q {a = a} s = omega (arith, s.from, s.at, ap length s.left_added.code, length-append a.code (map capped ((expr f p).code (here_of a))))

  pub joined_given_marks : {V : Type 0} (v : V → C) (made cut : Made C) (l r : V) {start middle : ℕ} (site : Site) (old : Margin) {trim new : Margin} → (middle ≤ length made.code → TakesConstants v start middle made (Some (l, r)) cut) → trim ≡ trimmed (length cut.code) old → new ≡ replaced start site trim → EndsBinaryMarks f concat start middle site made old new
  unfolding compute
  joined_given_marks v made cut l r {start} {middle} site old taken et en p q begun wp wq s =
      let within = middle_within f p q s in
      let before = starts_before p q s in
      let t = taken within in
      let size : length cut.code ≡ start = ap (λ (m : Made C). length m.code) t.2 ∙ length-take-le start made.code (omega arith) in
      back_some start site (after_right_marks (working concat)) old (sym (known_both f (working concat) made.code start middle t.0 t.1 ∙ strict_known f concat p q refl wp wq s))
      (en ∙ ap (replaced start site) et ∙ trimmed_replaced start (length cut.code) site old (omega arith))

  pub joined_unknown_marks : {V : Type 0} (v : V → C) (made cut : Made C) {start middle : ℕ} (site : Site) (old : Margin) {trim new : Margin} → length old.marks ≡ length made.code → (middle ≤ length made.code → TakesConstants v start middle made None cut) → trim ≡ trimmed (length cut.code) old → new ≡ here 1 trim → EndsBinaryMarks f concat start middle site made old new
  unfolding compute
  joined_unknown_marks v made cut {start} {middle} site old many taken et en p q begun wp wq s =
      let k = taken (middle_within f p q s) in
      let none = not_both f (working concat) (alone (between start middle made.code)) (alone (between middle (length made.code) made.code)) k.0 in
      back_none start site (after_right_marks (working concat)) old (sym (none ∙ strict_known f concat p q refl wp wq s))
      (en ∙ ap (here 1) (et ∙ trimmed_none (length cut.code) old (many ∙ sym (ap (λ (m : Made C). length m.code) k.1))))

  pub gives_right_marks : (o : BinOp) (made : Made C) {Y : Type 0} (c : Y → C) (r : Option Y) {x : C} {start middle right end : ℕ} (site : Site) (old : Margin) {new : Margin} → is_lazy (working o) ≡ true → end ≡ length made.code → end < 2 ^ 64 → right ≡ min (middle + 1) 18446744073709551615 → (middle ≤ length made.code → Some x ≡ alone (between start middle made.code)) → (end ≤ length made.code → option_map c r ≡ alone (between right end made.code)) → is_some r ≡ true → ((y : C) → fold_binary f (working o) x y ≡ Some y) → (start < length made.code → new ≡ replaced start site old) → EndsBinaryMarks f o start middle site made old new
  gives_right_marks o made c None site old e ee fits er kx ky some on en p q begun wp wq s = absurd (cc)
  gives_right_marks o made c (Some y) {x} {start} site old e ee fits er kx ky some on en p q begun wp wq s =
      back_some start site (after_right_marks (working o)) old (binary_of f o p q (left_given f p q (Some x) wp s kx) (right_given f p q (Some (c y)) e wq s ee fits er ky) ∙ on (c y)) (en (starts_within f p q s e))

  pub gives_left_marks : (o : BinOp) (made cut : Made C) {Y : Type 0} (c : Y → C) (r : Option Y) {x : C} {start middle right end : ℕ} (site : Site) (old : Margin) {trim new : Margin} → is_lazy (working o) ≡ true → end ≡ length made.code → end < 2 ^ 64 → right ≡ min (middle + 1) 18446744073709551615 → (middle ≤ length made.code → Some x ≡ alone (between start middle made.code)) → (end ≤ length made.code → option_map c r ≡ alone (between right end made.code)) → is_some r ≡ true → ((y : C) → fold_binary f (working o) x y ≡ Some x) → cut ≡ record made { code = take middle made.code } → trim ≡ trimmed middle old → (start < length cut.code → new ≡ replaced start site trim) → EndsBinaryMarks f o start middle site made old new
  gives_left_marks o made cut c None site old e ee fits er kx ky some on ec et en p q begun wp wq s = absurd (cc)
  gives_left_marks o made cut c (Some y) {x} {start} {middle} site old e ee fits er kx ky some on ec et en p q begun wp wq s =
      let ex = left_given f p q (Some x) wp s kx in
      let size : length cut.code ≡ start + 1 = ap (λ (m : Made C). length m.code) ec ∙ left_size f o p q s ex in
      back_some start site (after_right_marks (working o)) old (binary_of f o p q ex (right_given f p q (Some (c y)) e wq s ee fits er ky) ∙ on (c y))
      (en (omega arith) ∙ ap (replaced start site) et ∙ trimmed_replaced start middle site old (starts_before p q s))

  pub lazy_left_unknown_marks : (o : BinOp) (made : Made C) {start middle : ℕ} (site : Site) (old : Margin) {new : Margin} → is_lazy (working o) ≡ true → (middle ≤ length made.code → None ≡ alone (between start middle made.code)) → new ≡ old → EndsBinaryMarks f o start middle site made old new
  lazy_left_unknown_marks o made {start} site old e k en p q begun wp wq s = back_none start site (after_right_marks (working o)) old (binary_left_open f o p q (left_given f p q None wp s k)) (en ∙ lazy_after (working o) old e)

  pub lazy_right_unknown_marks : (o : BinOp) (made : Made C) {Y : Type 0} (c : Y → C) (r : Option Y) {start middle right end : ℕ} (site : Site) (old : Margin) {new : Margin} → is_lazy (working o) ≡ true → end ≡ length made.code → end < 2 ^ 64 → right ≡ min (middle + 1) 18446744073709551615 → (end ≤ length made.code → option_map c r ≡ alone (between right end made.code)) → is_some r ≡ false → new ≡ old → EndsBinaryMarks f o start middle site made old new
  lazy_right_unknown_marks o made c (Some y) site old e ee fits er ky some en p q begun wp wq s = absurd (cc)
  lazy_right_unknown_marks o made c None {start} site old e ee fits er ky some en p q begun wp wq s =
      back_none start site (after_right_marks (working o)) old (binary_right_open f o p q (right_given f p q None e wq s ee fits er ky)) (en ∙ lazy_after (working o) old e)
