use Rattle.std.proofs.Common.{rules, ◌≡◌, true, false, ◌∷◌, ◌++◌, [], map, arith, refl, sym, ap, ◌∙◌}
use Rattle.std.proofs.lemmas.List.{map-append}
use Rattle.minijinja_syntax.specs.Tokens.{comma}
use Rattle.minijinja_grammar.specs.Ahead.{comes}
use Rattle.minijinja_grammar.specs.internal.Forms.{got, reads}
use Rattle.minijinja_grammar.specs.Targets.{ends_targets}
use Rattle.minijinja_grammar.specs.internal.TargetForms.{target_in}
use Rattle.minijinja_parser_tokens.specs.internal.Reads.{eaten}
use Rattle.minijinja_parser_tokens.proofs.Turned.{eaten_shorter, read_no_longer}
use Rattle.minijinja_parser_stmt.proofs.Targets.{further, further_is}
use Rattle.minijinja_parser_stmt.proofs.rules.targets.+targets.Goals as goal

pub further_targets-loop-targets-init : goal.further_targets-loop-targets-init
further_targets-loop-targets-init g t c =
    let v = g.S.StmtBuilder.tree in
    let pushed : v c.args.first ∷ [] ≡ map v c.push.new.self.items = rw (c.in_ok-push.ensures.items, c.new-targets.ensures.items) refl in
    ap (λ ts. further (target_in c.args.dotted c.args.depth) ts (g.S.Input.Tokens.place c.args.tokens.now)) pushed

pub further_targets-loop-targets-smaller : goal.further_targets-loop-targets-smaller
further_targets-loop-targets-smaller g t c =
    let p = g.S.Input.Tokens.place c.loop-targets.tokens in
    let q = g.S.Input.Tokens.place c.eat.new.self in
    let r = g.S.Input.Tokens.place c.target.new.tokens in
    let b : eaten comma p ≡ got true q = c.in_ok-eat.ensures ∙ ap (λ x. got x q) c.if-branch.true in
    omega (arith, eaten_shorter comma p q b, read_no_longer (target_in c.args.dotted c.args.depth) q r _ c.in_ok-target.ensures)

pub further_targets-loop-targets-preserved : goal.further_targets-loop-targets-preserved
further_targets-loop-targets-preserved g t c =
    let v = g.S.StmtBuilder.tree in
    let target = target_in c.args.dotted c.args.depth in
    let p = g.S.Input.Tokens.place c.loop-targets.tokens in
    let q = g.S.Input.Tokens.place c.eat.new.self in
    let r = g.S.Input.Tokens.place c.target.new.tokens in
    let ts = map v c.loop-targets.targets.items in
    let x = v c.in_ok-target.field-0 in
    let b : eaten comma p ≡ got true q = c.in_ok-eat.ensures ∙ ap (λ x. got x q) c.if-branch.true in
    let e : comes ends_targets q.tokens ≡ false = sym c.begins.ensures ∙ c.if-begins.false in
    let h : reads target q ≡ got x r = c.in_ok-target.ensures in
    let pushed : ts ++ x ∷ [] ≡ map v c.push-in-loop-targets.new.self.items = rw (c.in_ok-push-2.ensures.items, map-append) refl in
    c.loop-targets.invariant ∙ further_is target ts p ∙ rw (b, e, h) refl ∙ ap (λ xs. further target xs r) pushed

pub further_targets-returns-in_err-eat : goal.further_targets-returns-in_err-eat
further_targets-returns-in_err-eat g t c =
    let target = target_in c.args.dotted c.args.depth in
    let p = g.S.Input.Tokens.place c.loop-targets.tokens in
    let i = c.loop-targets.invariant ∙ further_is target (map g.S.StmtBuilder.tree c.loop-targets.targets.items) p in
    rw i (search rules)

pub further_targets-returns-then-begins : goal.further_targets-returns-then-begins
further_targets-returns-then-begins g t c =
    let target = target_in c.args.dotted c.args.depth in
    let p = g.S.Input.Tokens.place c.loop-targets.tokens in
    let q = g.S.Input.Tokens.place c.eat.new.self in
    let b : eaten comma p ≡ got true q = c.in_ok-eat.ensures ∙ ap (λ x. got x q) c.if-branch.true in
    let e : comes ends_targets q.tokens ≡ true = sym c.begins.ensures ∙ c.if-begins.true in
    let i = c.loop-targets.invariant ∙ further_is target (map g.S.StmtBuilder.tree c.loop-targets.targets.items) p in
    rw (i, b, e) refl

pub further_targets-returns-in_err-target : goal.further_targets-returns-in_err-target
further_targets-returns-in_err-target g t c =
    let target = target_in c.args.dotted c.args.depth in
    let p = g.S.Input.Tokens.place c.loop-targets.tokens in
    let q = g.S.Input.Tokens.place c.eat.new.self in
    let b : eaten comma p ≡ got true q = c.in_ok-eat.ensures ∙ ap (λ x. got x q) c.if-branch.true in
    let e : comes ends_targets q.tokens ≡ false = sym c.begins.ensures ∙ c.if-begins.false in
    let i = c.loop-targets.invariant ∙ further_is target (map g.S.StmtBuilder.tree c.loop-targets.targets.items) p in
    rw (i, b, e) (search rules)

pub further_targets-returns : goal.further_targets-returns
further_targets-returns g t c =
    let target = target_in c.args.dotted c.args.depth in
    let p = g.S.Input.Tokens.place c.loop-targets.tokens in
    let q = g.S.Input.Tokens.place c.eat.new.self in
    let b : eaten comma p ≡ got false q = c.in_ok-eat.ensures ∙ ap (λ x. got x q) c.if-branch.false in
    let i = c.loop-targets.invariant ∙ further_is target (map g.S.StmtBuilder.tree c.loop-targets.targets.items) p in
    rw (i, b) refl
