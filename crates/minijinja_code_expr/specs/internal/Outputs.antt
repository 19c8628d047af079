-- What an output writes, as it is defined for trees.
use Rattle.std.specs.Prelude.{◌≡◌}
use Rattle.minijinja_tree.specs.Erasure.{expr_tree}
use Rattle.minijinja_tree.specs.SpannedErasure.{expr_node}
use Rattle.minijinja_tree.specs.SpannedTrees as spanned
use Rattle.minijinja_semantics.specs.Calls.{Written}
use Rattle.minijinja_semantics.specs.Calls as calls
use Rattle.minijinja_code_expr.specs.declared.output.Output.{Output}
use Rattle.minijinja_code_expr.specs.declared.output.Output.TheVariants.{Super, Recursion, Block, Plain}

abbrev pub output_shown : {V F C : Type 0} → (V → C) → Output V F → Written C
output_shown c Super = calls.Super
output_shown c (Recursion e) = calls.Recursion (expr_tree c e.now)
output_shown c (Block x) = calls.BlockOf x.now
output_shown c Plain = calls.Plain

-- the arguments of a call, with their spans
abbrev pub arguments_in : {C : Type 0} → spanned.Expr C → spanned.Args C
arguments_in (spanned.call e args s) = args
arguments_in _ = spanned.no_args

-- the items of a recursion are the only argument, with their spans
abbrev pub ItemsAre : {V F C : Type 0} → (V → C) → Output V F → spanned.Args C → Type 0
ItemsAre c Super args = Unit {0}
ItemsAre c (Recursion e) args = args ≡ spanned.pos (expr_node c e.now) spanned.no_args
ItemsAre c (Block x) args = Unit {0}
ItemsAre c Plain args = Unit {0}
