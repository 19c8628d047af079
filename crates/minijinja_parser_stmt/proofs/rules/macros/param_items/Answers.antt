use Rattle.std.proofs.Common.{rules, ◌≡◌, Bool, true, false, ◌∷◌, ◌++◌, [], map, arith, refl, sym, ap, ◌∙◌}
use Rattle.std.proofs.lemmas.List.{map-append}
use Rattle.std.specs.Prelude.{◌||◌, Option, Some, None, is_some}
use Rattle.std.specs.Option.{option_map}
use Rattle.minijinja_syntax.specs.Tokens.{comma}
use Rattle.minijinja_grammar.specs.Words.{is_identifier}
use Rattle.minijinja_grammar.specs.Ahead.{comes}
use Rattle.minijinja_grammar.specs.internal.Forms.{got, reads}
use Rattle.minijinja_grammar.specs.internal.ExprForms.{expr_at}
use Rattle.minijinja_grammar.specs.internal.StmtForms as form
use Rattle.minijinja_parser_tokens.specs.internal.Reads.{eaten}
use Rattle.minijinja_parser_tokens.proofs.Turned.{eaten_shorter, read_no_longer}
use Rattle.minijinja_parser_stmt.specs.private.Macros.{param_at, param_items}
use Rattle.minijinja_parser_stmt.specs.internal.Made.{param_of}
use Rattle.minijinja_parser_stmt.proofs.Params.{have_one_more, params_more, params_more_so}
use Rattle.minijinja_parser_stmt.proofs.rules.macros.param_items.Goals as goal
use Rattle.minijinja_parser_stmt.proofs.rules.macros.param_items.Goals.{then-has_default, else-has_default}

still_some : {A B : Type 0} (f : A → B) (o : Option A) → is_some o ≡ is_some (option_map f o)
still_some f None = refl
still_some f (Some x) = refl

first_has : (h s new : Bool) → new ≡ true → h ≡ true → new ≡ (h || s)
first_has true s new e i = e
first_has false s new e i = cc

second_has : (h s new : Bool) → new ≡ s → h ≡ false → new ≡ (h || s)
second_has true s new e i = cc
second_has false s new e i = e

pub returns-in_err-param : goal.returns-in_err-param
returns-in_err-param g c =
    let expr = expr_at g.S.StmtBuilder.functions c.args.depth in
    let p = g.S.Input.Tokens.place c.loop-builder.tokens in
    let ps = map (param_of g.S.StmtBuilder.tree) c.loop-builder.params.items in
    let e : comes is_identifier p.tokens ≡ true = sym c.begins.ensures ∙ c.loop-builder-test.true in
    let i = c.loop-builder.invariant.same ∙ params_more_so expr ps p c.loop-builder.has_default c.loop-builder.invariant.flag e in
    rw i (search rules)

pub returns-in_err-eat : goal.returns-in_err-eat
returns-in_err-eat g c =
    let expr = expr_at g.S.StmtBuilder.functions c.args.depth in
    let p = g.S.Input.Tokens.place c.loop-builder.tokens in
    let ps = map (param_of g.S.StmtBuilder.tree) c.loop-builder.params.items in
    let e : comes is_identifier p.tokens ≡ true = sym c.begins.ensures ∙ c.loop-builder-test.true in
    let i = c.loop-builder.invariant.same ∙ params_more_so expr ps p c.loop-builder.has_default c.loop-builder.invariant.flag e in
    rw (i, c.in_ok-param.ensures) (search rules)

pub returns-then-not-branch : goal.returns-then-not-branch
returns-then-not-branch g c =
    let v = param_of g.S.StmtBuilder.tree in
    let expr = expr_at g.S.StmtBuilder.functions c.args.depth in
    let p = g.S.Input.Tokens.place c.loop-builder.tokens in
    let q = g.S.Input.Tokens.place c.param.new.tokens in
    let r = g.S.Input.Tokens.place c.eat.new.self in
    let ps = map v c.loop-builder.params.items in
    let x = v c.in_ok-param.param in
    let e : comes is_identifier p.tokens ≡ true = sym c.begins.ensures ∙ c.loop-builder-test.true in
    let h : reads (param_at expr (form.have_default ps)) p ≡ got x q = ap (λ b. reads (param_at expr b) p) (sym c.loop-builder.invariant.flag) ∙ c.in_ok-param.ensures in
    let b : eaten comma q ≡ got false r = c.in_ok-eat.ensures ∙ ap (λ y. got y r) c.if-not-branch.true in
    let pushed : ps ++ x ∷ [] ≡ map v c.push.new.self.items = rw (c.in_ok-push.ensures.items, map-append) refl in
    c.loop-builder.invariant.same ∙ params_more expr ps p e ∙ rw (h, b) refl ∙ ap (λ xs. got xs r) pushed

pub loop-builder-smaller : goal.loop-builder-smaller
loop-builder-smaller g c =
    let p = g.S.Input.Tokens.place c.loop-builder.tokens in
    let q = g.S.Input.Tokens.place c.param.new.tokens in
    let r = g.S.Input.Tokens.place c.eat.new.self in
    let b : eaten comma q ≡ got true r = c.in_ok-eat.ensures ∙ ap (λ y. got y r) c.if-not-branch.false in
    omega (arith, eaten_shorter comma q r b, read_no_longer (param_at (expr_at g.S.StmtBuilder.functions c.args.depth) c.loop-builder.has_default) p q _ c.in_ok-param.ensures)

pub loop-builder-preserved : goal.loop-builder-preserved
loop-builder-preserved g c =
    let v = param_of g.S.StmtBuilder.tree in
    let expr = expr_at g.S.StmtBuilder.functions c.args.depth in
    let p = g.S.Input.Tokens.place c.loop-builder.tokens in
    let q = g.S.Input.Tokens.place c.param.new.tokens in
    let r = g.S.Input.Tokens.place c.eat.new.self in
    let ps = map v c.loop-builder.params.items in
    let x = v c.in_ok-param.param in
    let e : comes is_identifier p.tokens ≡ true = sym c.begins.ensures ∙ c.loop-builder-test.true in
    let had : c.loop-builder.has_default ≡ form.have_default ps = c.loop-builder.invariant.flag in
    let h : reads (param_at expr (form.have_default ps)) p ≡ got x q = ap (λ b. reads (param_at expr b) p) (sym had) ∙ c.in_ok-param.ensures in
    let b : eaten comma q ≡ got true r = c.in_ok-eat.ensures ∙ ap (λ y. got y r) c.if-not-branch.false in
    let pushed : ps ++ x ∷ [] ≡ map v c.push.new.self.items = rw (c.in_ok-push.ensures.items, map-append) refl in
    let has : c.if-has_default.has_default ≡ (form.have_default ps || is_some x.1) =
    elim c.if-has_default.branch [
      | then-has_default w ↦ first_has _ _ _ (w.has_default-is ∙ w.if-has_default.true) (sym had ∙ w.if-has_default.true)
      | else-has_default w ↦ second_has _ _ _ (w.has_default-is ∙ w.is_some-has_default.ensures ∙ still_some g.S.StmtBuilder.tree c.in_ok-param.param.1) (sym had ∙ w.if-has_default.false)
    ] in
    record {
      same = c.loop-builder.invariant.same ∙ params_more expr ps p e ∙ rw (h, b) refl ∙ ap (λ xs. reads (param_items expr xs) r) pushed;
      flag = has ∙ sym (have_one_more ps x) ∙ ap form.have_default pushed;
    }
