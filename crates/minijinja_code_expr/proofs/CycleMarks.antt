-- How the marks of a node are finished, kind by kind.
use Rattle.std.proofs.Common.{◌≡◌, ℕ, ◌≤◌, [], length, map, Option, Some, None, refl, sym, ap, ap₂, ◌∙◌, subst, arith, length-append}
use Rattle.minijinja_syntax.specs.declared.tokens.Span.{Span}
use Rattle.minijinja_value.specs.Values.{Functions}
use Rattle.minijinja_tree.specs.BinOps.{BinOp}
use Rattle.minijinja_tree.specs.Folding.{fold}
use Rattle.minijinja_tree.specs.Operators.{Working, Makes, Divides, IfTrue, IfFalse, working}
use Rattle.minijinja_tree.specs.Tree as tree
use Rattle.minijinja_tree_expr.specs.Tree.{UnaryOp}
use Rattle.minijinja_tree.specs.SpannedTrees.{Expr, unary, binary, bare_expr}
use Rattle.minijinja_tree.specs.WellFormed.{IsWhole}
use Rattle.minijinja_semantics.specs.Layout as layout
use Rattle.minijinja_semantics.specs.Marks.{Margin, Marking, expr, operation, unary_operator, ◌⟫◌}
use Rattle.minijinja_emitter.specs.declared.emit.Site.{Site}
use Rattle.minijinja_emitter.specs.internal.Making.{Made, Adds, capped, here_of}
use Rattle.minijinja_emitter.specs.internal.Margins.{closed, replaced}
use Rattle.minijinja_code_expr.specs.internal.Leading.{After, Ready, before_right}
use Rattle.minijinja_code_expr.specs.internal.NodeMarks.{FinishesMarks, finished, site_of, taken_back}
use Rattle.minijinja_code_expr.specs.private.OperatorMarks.{EndsBinaryMarks, EndsUnaryMarks, after_right_marks, before_right_marks}
use Rattle.minijinja_semantics.proofs.Runs.{append_nil}
use Rattle.minijinja_code_expr.proofs.NodeMarking.{Later, expr_later, later_then, replaced_later}

-- what is open again after a node
pub taken_closed : {C : Type 0} (o : Option C) (place : ℕ) (s outer : Span) (g : Marking) (u : Margin) → closed outer (taken_back o place (site_of s outer) g u) ≡ taken_back o place (site_of s outer) (g ⟫ closed outer) u
unfolding taken_back
taken_closed None place s outer g u = refl
taken_closed (Some c) place s outer g u = refl

-- what was added before is taken back as well
pub taken_later : {C : Type 0} (o : Option C) (place : ℕ) (site : Site) (g k : Marking) (t u : Margin) → Later t u → place ≤ length t.marks → g u ≡ k t → taken_back o place site g u ≡ taken_back o place site k t
unfolding taken_back
taken_later None place site g k t u a within e = e
taken_later (Some c) place site g k t u a within e = replaced_later place site a within

pub taken_some : {C : Type 0} (o : Option C) (c : C) (place : ℕ) (site : Site) (g : Marking) (u : Margin) → o ≡ Some c → taken_back o place site g u ≡ replaced place site u
unfolding taken_back
taken_some (Some d) c place site g u e = refl
taken_some None c place site g u e = absurd (cc)

pub taken_none : {C : Type 0} (o : Option C) (place : ℕ) (site : Site) (g : Marking) (u : Margin) → o ≡ None → taken_back o place site g u ≡ g u
unfolding taken_back
taken_none None place site g u e = refl
taken_none (Some d) place site g u e = absurd (cc)

both_sides_marked : (w : Working) (g : Marking) (t : Margin) → after_right_marks w (g (before_right_marks w t)) ≡ operation w g t
both_sides_marked (Makes o) g t = refl
both_sides_marked Divides g t = refl
both_sides_marked IfTrue g t = refl
both_sides_marked IfFalse g t = refl

before_right_later : (w : Working) (t : Margin) → Later t (before_right_marks w t)
before_right_later (Makes o) t = record { more = []; marks = sym (append_nil t.marks) }
before_right_later Divides t = record { more = []; marks = sym (append_nil t.marks) }
before_right_later IfTrue t = record { more = _; marks = refl }
before_right_later IfFalse t = record { more = _; marks = refl }

module _ {C F : Type 0} (f : Functions C F) where
  -- a node without a fold
  pub plain_marks : {e d : Expr C} (t : tree.Expr C) (place : ℕ) (outer : Span) (made : Made C) (old new : Margin) (g : Marking) → e ≡ d → closed outer (g old) ≡ finished f d place outer old → new ≡ g old → FinishesMarks f t e place outer made old new
  plain_marks t place outer made old new g is h k start r = ap (closed outer) k ∙ h ∙ ap (λ x. finished f x place outer old) (sym is)

  -- the place of a node is one that has a mark already
  pub place_within : {start made : Made C} {p : _} {place : ℕ} (old : Margin) → After p place start made → length old.marks ≡ length made.code → place ≤ length old.marks
  place_within {start} {made} {p} {place} old r many =
      omega (arith, r.at, many, ap length r.added.code, length-append start.code (map capped (p.code (here_of start))))

  pub unary_marks : (o : UnaryOp) (e : Expr C) (s : Span) (b : tree.Expr C) (place : ℕ) (outer : Span) (made : Made C) (old new : Margin) → bare_expr e ≡ b → IsWhole b → EndsUnaryMarks f o place (site_of s outer) made old new → FinishesMarks f (tree.unary o b) (unary o e s) place outer made old new
  unary_marks o e s b place outer made old new is whole ends start r =
      ap (closed outer) (ends b start whole r)
      ∙ taken_closed (fold f (tree.unary o b)) place s outer (unary_operator o s) old
      ∙ ap (λ x. taken_back (fold f (tree.unary o x)) place (site_of s outer) (unary_operator o s ⟫ closed outer) old) (sym is)

  module _ (o : BinOp) (a b : Expr C) (s : Span) (x y : tree.Expr C) (place middle : ℕ) (outer : Span) (made : Made C) (old : Margin) (xs : bare_expr a ≡ x) (ys : bare_expr b ≡ y) where
    binary_folds : (new : Margin) → closed outer new ≡ taken_back (fold f (tree.binary o x y)) place (site_of s outer) (operation (working o) (expr f b) ⟫ closed outer) old → closed outer new ≡ finished f (binary o a b s) place outer old
    binary_folds new e = e ∙ ap₂ (λ p q. taken_back (fold f (tree.binary o p q)) place (site_of s outer) (operation (working o) (expr f b) ⟫ closed outer) old) (sym xs) (sym ys)

    pub binary_marks : {room sides : Made C} (held right new : Margin) → IsWhole x → IsWhole y → length old.marks ≡ length made.code → middle ≡ length made.code → Adds made room (before_right (working o)) → Adds room sides (layout.expr f y) → held ≡ before_right_marks (working o) old → right ≡ expr f b held →
        EndsBinaryMarks f o place middle (site_of s outer) sides right new → FinishesMarks f (tree.binary o x y) (binary o a b s) place outer made old new
    binary_marks {room} held right new wx wy many at before after eh er ends start r =
        let later : Later old right = subst (Later old) (sym (er ∙ ap (expr f b) eh)) (later_then (before_right_later (working o) old) (expr_later f b (before_right_marks (working o) old))) in
        let marked : after_right_marks (working o) right ≡ operation (working o) (expr f b) old = ap (after_right_marks (working o)) (er ∙ ap (expr f b) eh) ∙ both_sides_marked (working o) (expr f b) old in
        let F = fold f (tree.binary o x y) in
        binary_folds new
        (ap (closed outer) (ends x y start wx wy (record { left = made; room = room; from = r.at; left_added = r.added; at = at; room_added = before; right_added = after })
        ∙ taken_later F place (site_of s outer) (after_right_marks (working o)) (operation (working o) (expr f b)) old right later (place_within old r many) marked)
        ∙ taken_closed F place s outer (operation (working o) (expr f b)) old)

    -- one whose left side was joined with the right one
    pub joined_marks : (new : Margin) → ((start : Made C) → Ready f (tree.binary o x y) place start made → (c : C) × (fold f (tree.binary o x y) ≡ Some c)) → new ≡ replaced place (site_of s outer) old → FinishesMarks f (tree.binary o x y) (binary o a b s) place outer made old new
    joined_marks new folds k start r =
        let known = folds start r in
        binary_folds new
        (ap (closed outer) (k ∙ sym (taken_some (fold f (tree.binary o x y)) known.0 place (site_of s outer) (operation (working o) (expr f b)) old known.1))
        ∙ taken_closed (fold f (tree.binary o x y)) place s outer (operation (working o) (expr f b)) old)
