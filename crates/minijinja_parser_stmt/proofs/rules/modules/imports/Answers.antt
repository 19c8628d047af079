use Rattle.std.proofs.Common.{rules, ◌≡◌, true, false, ◌∷◌, ◌++◌, [], map, arith, refl, sym, ap, ◌∙◌}
use Rattle.std.proofs.lemmas.List.{map-append}
use Rattle.minijinja_syntax.specs.Tokens.{comma}
use Rattle.minijinja_grammar.specs.Ahead.{comes}
use Rattle.minijinja_grammar.specs.internal.Forms.{got, reads}
use Rattle.minijinja_grammar.specs.internal.StmtForms as form
use Rattle.minijinja_grammar.specs.Statements as statements
use Rattle.minijinja_parser_tokens.specs.internal.Reads.{eaten}
use Rattle.minijinja_parser_tokens.proofs.Turned.{eaten_shorter, read_no_longer}
use Rattle.minijinja_parser_stmt.specs.internal.Made.{name_of}
use Rattle.minijinja_parser_stmt.proofs.Imports.{imports_none, imports_some, more_imports, others_is}
use Rattle.minijinja_parser_stmt.proofs.rules.modules.imports.Goals as goal

pub loop-names-smaller : goal.loop-names-smaller
loop-names-smaller g c =
    let p = g.S.Input.Tokens.place c.loop-names.tokens in
    let q = g.S.Input.Tokens.place c.eat.new.self in
    let r = g.S.Input.Tokens.place c.imported-in-loop-names.new.tokens in
    let b : eaten comma p ≡ got true q = c.in_ok-eat.ensures ∙ ap (λ x. got x q) c.if-branch.true in
    omega (arith, eaten_shorter comma p q b, read_no_longer form.imported q r _ c.in_ok-imported-2.ensures)

pub loop-names-preserved : goal.loop-names-preserved
loop-names-preserved g c =
    let v = name_of g.S.StmtBuilder.tree in
    let p = g.S.Input.Tokens.place c.loop-names.tokens in
    let q = g.S.Input.Tokens.place c.eat.new.self in
    let r = g.S.Input.Tokens.place c.imported-in-loop-names.new.tokens in
    let ns = map v c.loop-names.names.items in
    let w = v c.in_ok-imported-2.field-0 in
    let b : eaten comma p ≡ got true q = c.in_ok-eat.ensures ∙ ap (λ x. got x q) c.if-branch.true in
    let e : comes statements.ends_names q.tokens ≡ false = sym c.begins-in-loop-names.ensures ∙ c.if-begins-2.false in
    let h : reads form.imported q ≡ got w r = c.in_ok-imported-2.ensures in
    let pushed : ns ++ w ∷ [] ≡ map v c.push-in-loop-names.new.self.items = rw (c.in_ok-push-2.ensures.items, map-append) refl in
    c.loop-names.invariant ∙ others_is ns p ∙ rw (b, e, h) refl ∙ ap (λ xs. more_imports xs r) pushed

pub returns-then-begins : goal.returns-then-begins
returns-then-begins g c =
    let p = g.S.Input.Tokens.place c.args.tokens.now in
    let e : comes statements.ends_names p.tokens ≡ true = sym c.begins.ensures ∙ c.if-begins.true in
    rw (imports_none {C = g.S.StmtBuilder.Contents} p e, c.new-names.ensures.items) refl

pub returns-in_err-imported : goal.returns-in_err-imported
returns-in_err-imported g c =
    let p = g.S.Input.Tokens.place c.args.tokens.now in
    let e : comes statements.ends_names p.tokens ≡ false = sym c.begins.ensures ∙ c.if-begins.false in
    let i = imports_some {C = g.S.StmtBuilder.Contents} p e in
    rw i (search rules)

pub loop-names-init : goal.loop-names-init
loop-names-init g c =
    let v = name_of g.S.StmtBuilder.tree in
    let p = g.S.Input.Tokens.place c.args.tokens.now in
    let q = g.S.Input.Tokens.place c.imported.new.tokens in
    let w = v c.in_ok-imported.field-0 in
    let e : comes statements.ends_names p.tokens ≡ false = sym c.begins.ensures ∙ c.if-begins.false in
    let h : reads form.imported p ≡ got w q = c.in_ok-imported.ensures in
    let pushed : w ∷ [] ≡ map v c.push.new.self.items = rw (c.in_ok-push.ensures.items, c.new-names.ensures.items) refl in
    imports_some p e ∙ rw h refl ∙ ap (λ xs. more_imports xs q) pushed

pub returns-in_err-eat : goal.returns-in_err-eat
returns-in_err-eat g c =
    let p = g.S.Input.Tokens.place c.loop-names.tokens in
    let i = c.loop-names.invariant ∙ others_is (map (name_of g.S.StmtBuilder.tree) c.loop-names.names.items) p in
    rw i (search rules)

pub returns-then-begins-2 : goal.returns-then-begins-2
returns-then-begins-2 g c =
    let p = g.S.Input.Tokens.place c.loop-names.tokens in
    let q = g.S.Input.Tokens.place c.eat.new.self in
    let b : eaten comma p ≡ got true q = c.in_ok-eat.ensures ∙ ap (λ x. got x q) c.if-branch.true in
    let e : comes statements.ends_names q.tokens ≡ true = sym c.begins-in-loop-names.ensures ∙ c.if-begins-2.true in
    let i = c.loop-names.invariant ∙ others_is (map (name_of g.S.StmtBuilder.tree) c.loop-names.names.items) p in
    rw (i, b, e) refl

pub returns-in_err-imported-2 : goal.returns-in_err-imported-2
returns-in_err-imported-2 g c =
    let p = g.S.Input.Tokens.place c.loop-names.tokens in
    let q = g.S.Input.Tokens.place c.eat.new.self in
    let b : eaten comma p ≡ got true q = c.in_ok-eat.ensures ∙ ap (λ x. got x q) c.if-branch.true in
    let e : comes statements.ends_names q.tokens ≡ false = sym c.begins-in-loop-names.ensures ∙ c.if-begins-2.false in
    let i = c.loop-names.invariant ∙ others_is (map (name_of g.S.StmtBuilder.tree) c.loop-names.names.items) p in
    rw (i, b, e) (search rules)

pub returns : goal.returns
returns g c =
    let p = g.S.Input.Tokens.place c.loop-names.tokens in
    let q = g.S.Input.Tokens.place c.eat.new.self in
    let b : eaten comma p ≡ got false q = c.in_ok-eat.ensures ∙ ap (λ x. got x q) c.if-branch.false in
    let i = c.loop-names.invariant ∙ others_is (map (name_of g.S.StmtBuilder.tree) c.loop-names.names.items) p in
    rw (i, b) refl
