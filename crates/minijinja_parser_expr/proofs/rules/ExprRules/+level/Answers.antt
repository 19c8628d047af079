use Rattle.std.proofs.Common.{rules, ◌≡◌, ◌∷◌, [], ◌++◌, true, false, ◌<◌, length, arith, refl, sym, ap, ◌∙◌, map}
use Rattle.std.proofs.lemmas.List.{map-append}
use Rattle.minijinja_grammar.specs.internal.Forms.{got, reads, many, read_then}
use Rattle.minijinja_grammar.specs.Ahead.{comes}
use Rattle.minijinja_grammar.specs.internal.ExprForms as form
use Rattle.minijinja_grammar.specs.internal.ExprForms.{expanded, of_kind}
use Rattle.minijinja_grammar.specs.Words.{begins_comparison}
use Rattle.minijinja_parser_tokens.specs.internal.Levels.{comparison_at}
use Rattle.minijinja_parser_tokens.specs.declared.operators.Level.TheVariants as level
use Rattle.minijinja_tree.specs.Erasure.{compare_op}
use Rattle.minijinja_parser_tokens.proofs.Turned.{skip_shorter}
use Rattle.minijinja_parser_expr.specs.private.Levels.{level_at, operation_at}
use Rattle.minijinja_parser_expr.proofs.Climbed.{binary_is, comparing_is, level_is, rest_ends, rest_goes_on, first_no_longer}
use Rattle.minijinja_parser_expr.proofs.Compared.{op_shorter, comparison_shorter, chain_is, chain_done, chain_more, chain_longer, comparisons_are, operation_shorter}
use Rattle.minijinja_parser_expr.proofs.rules.ExprRules.+level.Goals as goal

pub chain-returns-in_err-op : goal.chain-returns-in_err-op
chain-returns-in_err-op g t c =
    let v = g.N.ExprBuilder.tree in
    let s = level_at g.N.ExprBuilder.functions c.args.self.now.depth level.Sum in
    let k : comes begins_comparison (g.N.Input.Tokens.place c.loop-tokens.tokens).tokens ≡ true = sym c.begins.ensures ∙ c.loop-tokens-test.true in
    let e = c.loop-tokens.invariant.same ∙ chain_more s (map g.N.ExprBuilder.compared c.loop-tokens.ops.items) (g.N.Input.Tokens.place c.loop-tokens.tokens) k in
    rw e (search rules)

pub chain-loop-tokens-smaller : goal.chain-loop-tokens-smaller
chain-loop-tokens-smaller g t c = comparison_shorter (level_at g.N.ExprBuilder.functions c.args.self.now.depth level.Sum) (g.N.Input.Tokens.place c.loop-tokens.tokens) (g.N.Input.Tokens.place c.comparison.new.tokens) _ c.in_ok-op.ensures

pub chain-loop-tokens-preserved : goal.chain-loop-tokens-preserved
chain-loop-tokens-preserved g t c =
    let v = g.N.ExprBuilder.tree in
    let s = level_at g.N.ExprBuilder.functions c.args.self.now.depth level.Sum in
    let k : comes begins_comparison (g.N.Input.Tokens.place c.loop-tokens.tokens).tokens ≡ true = sym c.begins.ensures ∙ c.loop-tokens-test.true in
    let less = comparison_shorter s (g.N.Input.Tokens.place c.loop-tokens.tokens) (g.N.Input.Tokens.place c.comparison.new.tokens) _ c.in_ok-op.ensures in
    let e = c.loop-tokens.invariant.same ∙ chain_more s (map g.N.ExprBuilder.compared c.loop-tokens.ops.items) (g.N.Input.Tokens.place c.loop-tokens.tokens) k ∙
    ap (λ o. read_then o (λ x q. reads (many (of_kind begins_comparison) (form.comparison s) (map g.N.ExprBuilder.compared c.loop-tokens.ops.items ++ x ∷ [])) q)) c.in_ok-op.ensures in
    record {
      same = e ∙ rw (c.in_ok-push-2.ensures.items, map-append, c.against-in-loop-tokens.ensures) refl;
      fewer = omega (arith, less, c.loop-tokens.invariant.fewer);
    }

pub chain-returns : goal.chain-returns
chain-returns g t c =
    let v = g.N.ExprBuilder.tree in
    let s = level_at g.N.ExprBuilder.functions c.args.self.now.depth level.Sum in
    let k : comes begins_comparison (g.N.Input.Tokens.place c.loop-tokens.tokens).tokens ≡ false = sym c.begins.ensures ∙ c.loop-tokens-test.false in
    c.loop-tokens.invariant.same ∙ chain_done s (map g.N.ExprBuilder.compared c.loop-tokens.ops.items) (g.N.Input.Tokens.place c.loop-tokens.tokens) k

pub comparison-level-requires : goal.comparison-level-requires
comparison-level-requires g t c κs within =
    let less : length (g.N.Input.Tokens.place c.compare_operator.new.self).tokens < length (g.N.Input.Tokens.place c.args.tokens.now).tokens = op_shorter (g.N.Input.Tokens.place c.args.tokens.now) (g.N.Input.Tokens.place c.compare_operator.new.self) _ c.in_ok-op.ensures in
    (omega (arith, less, c.decreases), (search rules, search rules))

pub comparisons-returns-in_err-op : goal.comparisons-returns-in_err-op
comparisons-returns-in_err-op g t c =
    let v = g.N.ExprBuilder.tree in
    let s = level_at g.N.ExprBuilder.functions c.args.self.now.depth level.Sum in
    let e = comparisons_are s c.args.before (v c.args.expr) (g.N.Input.Tokens.place c.args.tokens.now) c.requires.comes in
    rw e (search rules)

pub comparisons-returns-then-not-begins : goal.comparisons-returns-then-not-begins
comparisons-returns-then-not-begins g t c =
    let v = g.N.ExprBuilder.tree in
    let s = level_at g.N.ExprBuilder.functions c.args.self.now.depth level.Sum in
    let e = comparisons_are s c.args.before (v c.args.expr) (g.N.Input.Tokens.place c.args.tokens.now) c.requires.comes in
    let h : comparison_at s (g.N.Input.Tokens.place c.args.tokens.now) ≡ got (compare_op c.in_ok-op.op, v c.in_ok-op.right) (g.N.Input.Tokens.place c.comparison.new.tokens) = c.in_ok-op.ensures in
    let k : comes begins_comparison (g.N.Input.Tokens.place c.comparison.new.tokens).tokens ≡ false = sym c.begins.ensures ∙ c.if-not-begins.true in
    rw (e, h, k, c.in_ok-comparison.ensures.tree, c.expand_span-span.ensures) refl

pub comparisons-chain-requires : goal.comparisons-chain-requires
comparisons-chain-requires g t c κs within =
    let less = comparison_shorter (level_at g.N.ExprBuilder.functions c.args.self.now.depth level.Sum) (g.N.Input.Tokens.place c.args.tokens.now) (g.N.Input.Tokens.place c.comparison.new.tokens) _ c.in_ok-op.ensures in
    (omega (arith, less, c.decreases), (search rules, search rules))

pub comparisons-returns-in_err-ops : goal.comparisons-returns-in_err-ops
comparisons-returns-in_err-ops g t c =
    let v = g.N.ExprBuilder.tree in
    let s = level_at g.N.ExprBuilder.functions c.args.self.now.depth level.Sum in
    let e = comparisons_are s c.args.before (v c.args.expr) (g.N.Input.Tokens.place c.args.tokens.now) c.requires.comes in
    let h : comparison_at s (g.N.Input.Tokens.place c.args.tokens.now) ≡ got (compare_op c.in_ok-op.op, v c.in_ok-op.right) (g.N.Input.Tokens.place c.comparison.new.tokens) = c.in_ok-op.ensures in
    let k : comes begins_comparison (g.N.Input.Tokens.place c.comparison.new.tokens).tokens ≡ true = sym c.begins.ensures ∙ c.if-not-begins.false in
    rw (e, h, k) (search rules)

pub comparisons-returns : goal.comparisons-returns
comparisons-returns g t c =
    let v = g.N.ExprBuilder.tree in
    let s = level_at g.N.ExprBuilder.functions c.args.self.now.depth level.Sum in
    let e = comparisons_are s c.args.before (v c.args.expr) (g.N.Input.Tokens.place c.args.tokens.now) c.requires.comes in
    let h : comparison_at s (g.N.Input.Tokens.place c.args.tokens.now) ≡ got (compare_op c.in_ok-op.op, v c.in_ok-op.right) (g.N.Input.Tokens.place c.comparison.new.tokens) = c.in_ok-op.ensures in
    let k : comes begins_comparison (g.N.Input.Tokens.place c.comparison.new.tokens).tokens ≡ true = sym c.begins.ensures ∙ c.if-not-begins.false in
    let m : reads (many (of_kind begins_comparison) (form.comparison s) ((compare_op c.in_ok-op.op, v c.in_ok-op.right) ∷ [])) (g.N.Input.Tokens.place c.comparison.new.tokens) ≡ got (map g.N.ExprBuilder.compared c.in_ok-ops.ops.items) (g.N.Input.Tokens.place c.chain.new.tokens) = c.in_ok-ops.ensures in
    let q = g.N.Input.Tokens.place c.chain.new.tokens in
    let whole = sym (chain_is (v c.args.expr) (map g.N.ExprBuilder.compared c.in_ok-ops.ops.items) (expanded c.args.before q.last) (chain_longer s _ _ _ _ k m)) in
    rw (e, h, k, m, whole) c.spanned.ensures

pub level-returns-in_err-expr : goal.level-returns-in_err-expr
level-returns-in_err-expr g t c =
    let f = g.N.ExprBuilder.functions in let d = c.args.self.now.depth in
    rw (level_is f d c.args.level (g.N.Input.Tokens.place c.args.tokens.now)) (search rules)

pub level-loop-operator-init : goal.level-loop-operator-init
level-loop-operator-init g t c =
    let f = g.N.ExprBuilder.functions in let d = c.args.self.now.depth in
    record {
      same = level_is f d c.args.level (g.N.Input.Tokens.place c.args.tokens.now) ∙ rw (c.in_ok-expr.ensures, c.current_span-from.ensures, c.last_span-before.ensures) refl;
      fewer = first_no_longer f d c.args.level (g.N.Input.Tokens.place c.args.tokens.now) (g.N.Input.Tokens.place c.first.new.tokens) _ c.in_ok-expr.ensures;
    }

pub level-returns-in_err-expr-2 : goal.level-returns-in_err-expr-2
level-returns-in_err-expr-2 g t c =
    let v = g.N.ExprBuilder.tree in
    let f = g.N.ExprBuilder.functions in let d = c.args.self.now.depth in
    let e = c.loop-operator.invariant.same ∙ rest_goes_on f d c.args.level c.current_span-from.result c.last_span-before.result (v c.loop-operator.expr) (g.N.Input.Tokens.place c.loop-operator.tokens) c.in-Some.operator (sym c.in-Some.ensures) in
    rw e (search rules)

pub level-loop-operator-smaller : goal.level-loop-operator-smaller
level-loop-operator-smaller g t c =
    let f = g.N.ExprBuilder.functions in let d = c.args.self.now.depth in
    let less : length (g.N.Input.Tokens.place c.operation.new.tokens).tokens < length (g.N.Input.Tokens.place c.loop-operator.tokens).tokens = operation_shorter f d c.in-Some.operator c.args.level _ _ _ _ (g.N.Input.Tokens.place c.loop-operator.tokens) (g.N.Input.Tokens.place c.operation.new.tokens) (sym c.in-Some.ensures) c.in_ok-expr-2.ensures in
    less

pub level-loop-operator-preserved : goal.level-loop-operator-preserved
level-loop-operator-preserved g t c =
    let v = g.N.ExprBuilder.tree in
    let f = g.N.ExprBuilder.functions in let d = c.args.self.now.depth in
    let e = c.loop-operator.invariant.same ∙ rest_goes_on f d c.args.level c.current_span-from.result c.last_span-before.result (v c.loop-operator.expr) (g.N.Input.Tokens.place c.loop-operator.tokens) c.in-Some.operator (sym c.in-Some.ensures) in
    let less : length (g.N.Input.Tokens.place c.operation.new.tokens).tokens < length (g.N.Input.Tokens.place c.loop-operator.tokens).tokens = operation_shorter f d c.in-Some.operator c.args.level _ _ _ _ (g.N.Input.Tokens.place c.loop-operator.tokens) (g.N.Input.Tokens.place c.operation.new.tokens) (sym c.in-Some.ensures) c.in_ok-expr-2.ensures in
    record { same = e ∙ rw c.in_ok-expr-2.ensures refl; fewer = omega (arith, less, c.loop-operator.invariant.fewer) }

pub level-returns : goal.level-returns
level-returns g t c =
    let v = g.N.ExprBuilder.tree in
    let f = g.N.ExprBuilder.functions in let d = c.args.self.now.depth in
    c.loop-operator.invariant.same ∙ rest_ends f d c.args.level c.current_span-from.result c.last_span-before.result (v c.loop-operator.expr) (g.N.Input.Tokens.place c.loop-operator.tokens) (sym c.in_default.ensures)

pub operation-returns-in_default : goal.operation-returns-in_default
operation-returns-in_default g t c =
    let v = g.N.ExprBuilder.tree in
    let f = g.N.ExprBuilder.functions in let d = c.args.self.now.depth in
    let e = ap (λ i. operation_at f d i c.args.from c.args.before (v c.args.left) (g.N.Input.Tokens.place c.args.tokens.now)) c.in_default.is ∙
    comparing_is f d c.args.from c.args.before (v c.args.left) (g.N.Input.Tokens.place c.args.tokens.now) in
    rw e c.comparisons.ensures

pub operation-returns-in_err-skip : goal.operation-returns-in_err-skip
operation-returns-in_err-skip g t c =
    let v = g.N.ExprBuilder.tree in
    let f = g.N.ExprBuilder.functions in let d = c.args.self.now.depth in
    let e = ap (λ i. operation_at f d i c.args.from c.args.before (v c.args.left) (g.N.Input.Tokens.place c.args.tokens.now)) c.in-Binary.is ∙
    binary_is f d c.in-Binary.op c.in-Binary.level c.args.from c.args.before (v c.args.left) (g.N.Input.Tokens.place c.args.tokens.now) in
    rw e (search rules)

pub operation-level-requires : goal.operation-level-requires
operation-level-requires g t c κs within =
    let less : length (g.N.Input.Tokens.place c.skip.new.self).tokens < length (g.N.Input.Tokens.place c.args.tokens.now).tokens = skip_shorter (g.N.Input.Tokens.place c.args.tokens.now) (g.N.Input.Tokens.place c.skip.new.self) _ c.in_ok-skip.ensures in
    (omega (arith, less, c.decreases), (search rules, search rules))

pub operation-returns-in_err-right : goal.operation-returns-in_err-right
operation-returns-in_err-right g t c =
    let v = g.N.ExprBuilder.tree in
    let f = g.N.ExprBuilder.functions in let d = c.args.self.now.depth in
    let e = ap (λ i. operation_at f d i c.args.from c.args.before (v c.args.left) (g.N.Input.Tokens.place c.args.tokens.now)) c.in-Binary.is ∙
    binary_is f d c.in-Binary.op c.in-Binary.level c.args.from c.args.before (v c.args.left) (g.N.Input.Tokens.place c.args.tokens.now) in
    rw (e, c.in_ok-skip.ensures, ← c.tighter.ensures) (search rules)

pub operation-returns : goal.operation-returns
operation-returns g t c =
    let v = g.N.ExprBuilder.tree in
    let f = g.N.ExprBuilder.functions in let d = c.args.self.now.depth in
    let e = ap (λ i. operation_at f d i c.args.from c.args.before (v c.args.left) (g.N.Input.Tokens.place c.args.tokens.now)) c.in-Binary.is ∙
    binary_is f d c.in-Binary.op c.in-Binary.level c.args.from c.args.before (v c.args.left) (g.N.Input.Tokens.place c.args.tokens.now) in
    rw (e, c.in_ok-skip.ensures, ← c.tighter.ensures, c.in_ok-right.ensures) c.spanned.ensures
