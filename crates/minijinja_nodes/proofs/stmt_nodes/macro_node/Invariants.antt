use Rattle.std.proofs.Common.{◌≡◌, map}
use Rattle.std.specs.List.{filter_map}
use Rattle.minijinja_nodes.proofs.stmt_nodes.macro_node.Given as goal

-- each argument that was gone through is there, and its default if it has one
abbrev pub invariant-loop-arg : goal.invariant-loop-arg
invariant-loop-arg g l =
    (l.args.items ≡ map (λ p. p.0) l.yielded) × (l.defaults.items ≡ filter_map (λ p. p.1) l.yielded) × (l.body ≡ l.fn.body) × (l.name ≡ l.fn.name)
