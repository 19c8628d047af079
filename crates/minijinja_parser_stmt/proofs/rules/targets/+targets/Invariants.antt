use Rattle.std.proofs.Common.{◌≡◌, ◌∷◌, [], ◌*◌, ◌+◌, length, map}
use Rattle.minijinja_grammar.specs.internal.TargetForms.{target_in}
use Rattle.minijinja_parser_stmt.proofs.Targets.{further}
use Rattle.minijinja_parser_stmt.proofs.rules.targets.+targets.Given as goal

abbrev pub decreases-target : goal.decreases-target
decreases-target g l = 3 * l.depth

abbrev pub decreases-further_targets : goal.decreases-further_targets
decreases-further_targets g l = 3 * l.depth + 1

abbrev pub decreases-any_targets : goal.decreases-any_targets
decreases-any_targets g l = 3 * l.depth + 2

-- reading the targets after those so far comes to what reading all comes to
abbrev pub invariant-further_targets-loop-targets : goal.invariant-further_targets-loop-targets
invariant-further_targets-loop-targets g l =
    let v = g.S.StmtBuilder.tree in
    let target = target_in l.fn.dotted l.fn.depth in
    further target (v l.fn.first ∷ []) (g.S.Input.Tokens.place l.fn.tokens) ≡ further target (map v l.targets.items) (g.S.Input.Tokens.place l.tokens)

abbrev pub decreases-further_targets-loop-targets : goal.decreases-further_targets-loop-targets
decreases-further_targets-loop-targets g l = length (g.S.Input.Tokens.place l.tokens).tokens
