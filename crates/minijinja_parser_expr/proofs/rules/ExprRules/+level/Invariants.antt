-- A call before which no token was taken goes down, and any other has fewer tokens left.
use Rattle.std.proofs.Common.{◌≡◌, ◌∷◌, [], ◌+◌, ◌≤◌, length, map}
use Rattle.minijinja_grammar.specs.internal.Forms.{reads, many}
use Rattle.minijinja_grammar.specs.internal.ExprForms as form
use Rattle.minijinja_grammar.specs.internal.ExprForms.{of_kind}
use Rattle.minijinja_grammar.specs.Words.{begins_comparison}
use Rattle.minijinja_parser_tokens.specs.declared.operators.Level.TheVariants as level
use Rattle.minijinja_tree.specs.Erasure.{compare_op}
use Rattle.minijinja_parser_expr.specs.private.Levels.{level_at}
use Rattle.minijinja_parser_expr.proofs.Climbed.{rest_at, steps}
use Rattle.minijinja_parser_expr.proofs.rules.ExprRules.+level.Given as goal

abbrev pub decreases-level : goal.decreases-level
decreases-level g l = steps 5 (g.N.Input.Tokens.place l.tokens.now)

abbrev pub decreases-operation : goal.decreases-operation
decreases-operation g l = steps 4 (g.N.Input.Tokens.place l.tokens.now)

abbrev pub decreases-comparisons : goal.decreases-comparisons
decreases-comparisons g l = steps 3 (g.N.Input.Tokens.place l.tokens.now)

abbrev pub decreases-chain : goal.decreases-chain
decreases-chain g l = steps 2 (g.N.Input.Tokens.place l.tokens.now)

abbrev pub decreases-comparison : goal.decreases-comparison
decreases-comparison g l = steps 1 (g.N.Input.Tokens.place l.tokens.now)

abbrev pub invariant-level-loop-operator : goal.invariant-level-loop-operator
invariant-level-loop-operator g l =
    let f = g.N.ExprBuilder.functions in let d = l.fn.self.depth in
    record {
      same : reads (level_at f d l.fn.level) (g.N.Input.Tokens.place l.fn.tokens) ≡
          reads (rest_at f d l.fn.level l.from l.before (g.N.ExprBuilder.tree l.expr)) (g.N.Input.Tokens.place l.tokens);
      fewer : length (g.N.Input.Tokens.place l.tokens).tokens ≤ length (g.N.Input.Tokens.place l.fn.tokens).tokens;
    }

abbrev pub decreases-level-loop-operator : goal.decreases-level-loop-operator
decreases-level-loop-operator g l = length (g.N.Input.Tokens.place l.tokens).tokens

abbrev pub invariant-chain-loop-tokens : goal.invariant-chain-loop-tokens
invariant-chain-loop-tokens g l =
    let sum = level_at g.N.ExprBuilder.functions l.fn.self.depth level.Sum in
    record {
      same : reads (many (of_kind begins_comparison) (form.comparison sum) ((compare_op l.fn.op, g.N.ExprBuilder.tree l.fn.expr) ∷ [])) (g.N.Input.Tokens.place l.fn.tokens) ≡
          reads (many (of_kind begins_comparison) (form.comparison sum) (map g.N.ExprBuilder.compared l.ops.items)) (g.N.Input.Tokens.place l.tokens);
      fewer : length (g.N.Input.Tokens.place l.tokens).tokens ≤ length (g.N.Input.Tokens.place l.fn.tokens).tokens;
    }

abbrev pub decreases-chain-loop-tokens : goal.decreases-chain-loop-tokens
decreases-chain-loop-tokens g l = length (g.N.Input.Tokens.place l.tokens).tokens
