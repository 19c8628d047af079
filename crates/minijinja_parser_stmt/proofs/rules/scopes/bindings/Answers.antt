use Rattle.std.proofs.Common.{rules, ◌≡◌, true, false, ◌∷◌, ◌++◌, [], map, arith, refl, sym, ap, ◌∙◌}
use Rattle.std.proofs.lemmas.List.{map-append}
use Rattle.minijinja_syntax.specs.Tokens.{block_end, comma}
use Rattle.minijinja_grammar.specs.Ahead.{comes}
use Rattle.minijinja_grammar.specs.internal.Forms.{got, reads}
use Rattle.minijinja_grammar.specs.Words.{is}
use Rattle.minijinja_grammar.specs.internal.ExprForms.{expr_at}
use Rattle.minijinja_grammar.specs.internal.StmtForms as form
use Rattle.minijinja_parser_tokens.specs.internal.Reads.{eaten}
use Rattle.minijinja_parser_tokens.proofs.Turned.{eaten_shorter, read_no_longer}
use Rattle.minijinja_parser_stmt.specs.internal.Made.{binding_of}
use Rattle.minijinja_parser_stmt.proofs.Bindings.{bindings_none, bindings_some, more_bindings, others_is}
use Rattle.minijinja_parser_stmt.proofs.rules.scopes.bindings.Goals as goal

pub loop-bindings-smaller : goal.loop-bindings-smaller
loop-bindings-smaller g c =
    let p = g.S.Input.Tokens.place c.loop-bindings.tokens in
    let q = g.S.Input.Tokens.place c.eat.new.self in
    let r = g.S.Input.Tokens.place c.binding-in-loop-bindings.new.tokens in
    let b : eaten comma p ≡ got true q = c.in_ok-eat.ensures ∙ ap (λ x. got x q) c.if-branch.true in
    omega (arith, eaten_shorter comma p q b, read_no_longer (form.binding (form.bound_target c.args.depth) (expr_at g.S.StmtBuilder.functions c.args.depth)) q r _ c.in_ok-binding-2.ensures)

pub loop-bindings-preserved : goal.loop-bindings-preserved
loop-bindings-preserved g c =
    let v = binding_of g.S.StmtBuilder.tree in
    let expr = expr_at g.S.StmtBuilder.functions c.args.depth in
    let p = g.S.Input.Tokens.place c.loop-bindings.tokens in
    let q = g.S.Input.Tokens.place c.eat.new.self in
    let r = g.S.Input.Tokens.place c.binding-in-loop-bindings.new.tokens in
    let bs = map v c.loop-bindings.bindings.items in
    let w = v c.in_ok-binding-2.field-0 in
    let b : eaten comma p ≡ got true q = c.in_ok-eat.ensures ∙ ap (λ x. got x q) c.if-branch.true in
    let h : reads (form.binding (form.bound_target c.args.depth) expr) q ≡ got w r = c.in_ok-binding-2.ensures in
    let pushed : bs ++ w ∷ [] ≡ map v c.push-in-loop-bindings.new.self.items = rw (c.in_ok-push-2.ensures.items, map-append) refl in
    c.loop-bindings.invariant ∙ others_is (form.bound_target c.args.depth) expr bs p ∙ rw (b, h) refl ∙ ap (λ xs. more_bindings (form.bound_target c.args.depth) expr xs r) pushed

pub returns-then-at : goal.returns-then-at
returns-then-at g c =
    let expr = expr_at g.S.StmtBuilder.functions c.args.depth in
    let p = g.S.Input.Tokens.place c.args.tokens.now in
    let e : comes (is block_end) p.tokens ≡ true = sym c.at.ensures ∙ c.if-at.true in
    rw (bindings_none (form.bound_target c.args.depth) expr p e, c.in_ok-bindings.ensures.items) refl

pub returns-in_err-binding : goal.returns-in_err-binding
returns-in_err-binding g c =
    let expr = expr_at g.S.StmtBuilder.functions c.args.depth in
    let p = g.S.Input.Tokens.place c.args.tokens.now in
    let none : comes (is block_end) p.tokens ≡ false = sym c.at.ensures ∙ c.if-at.false in
    let e = bindings_some (form.bound_target c.args.depth) expr p none in
    rw e (search rules)

pub loop-bindings-init : goal.loop-bindings-init
loop-bindings-init g c =
    let v = binding_of g.S.StmtBuilder.tree in
    let expr = expr_at g.S.StmtBuilder.functions c.args.depth in
    let p = g.S.Input.Tokens.place c.args.tokens.now in
    let q = g.S.Input.Tokens.place c.binding.new.tokens in
    let w = v c.in_ok-binding.field-0 in
    let none : comes (is block_end) p.tokens ≡ false = sym c.at.ensures ∙ c.if-at.false in
    let h : reads (form.binding (form.bound_target c.args.depth) expr) p ≡ got w q = c.in_ok-binding.ensures in
    let pushed : w ∷ [] ≡ map v c.push.new.self.items = rw (c.in_ok-push.ensures.items, c.in_ok-bindings.ensures.items) refl in
    bindings_some (form.bound_target c.args.depth) expr p none ∙ rw h refl ∙ ap (λ xs. more_bindings (form.bound_target c.args.depth) expr xs q) pushed

pub returns-in_err-eat : goal.returns-in_err-eat
returns-in_err-eat g c =
    let expr = expr_at g.S.StmtBuilder.functions c.args.depth in
    let p = g.S.Input.Tokens.place c.loop-bindings.tokens in
    let e = c.loop-bindings.invariant ∙ others_is (form.bound_target c.args.depth) expr (map (binding_of g.S.StmtBuilder.tree) c.loop-bindings.bindings.items) p in
    rw e (search rules)

pub returns-in_err-binding-2 : goal.returns-in_err-binding-2
returns-in_err-binding-2 g c =
    let expr = expr_at g.S.StmtBuilder.functions c.args.depth in
    let p = g.S.Input.Tokens.place c.loop-bindings.tokens in
    let q = g.S.Input.Tokens.place c.eat.new.self in
    let b : eaten comma p ≡ got true q = c.in_ok-eat.ensures ∙ ap (λ x. got x q) c.if-branch.true in
    let e = c.loop-bindings.invariant ∙ others_is (form.bound_target c.args.depth) expr (map (binding_of g.S.StmtBuilder.tree) c.loop-bindings.bindings.items) p in
    rw (e, b) (search rules)

pub returns : goal.returns
returns g c =
    let expr = expr_at g.S.StmtBuilder.functions c.args.depth in
    let p = g.S.Input.Tokens.place c.loop-bindings.tokens in
    let q = g.S.Input.Tokens.place c.eat.new.self in
    let b : eaten comma p ≡ got false q = c.in_ok-eat.ensures ∙ ap (λ x. got x q) c.if-branch.false in
    let e = c.loop-bindings.invariant ∙ others_is (form.bound_target c.args.depth) expr (map (binding_of g.S.StmtBuilder.tree) c.loop-bindings.bindings.items) p in
    rw (e, b) refl
