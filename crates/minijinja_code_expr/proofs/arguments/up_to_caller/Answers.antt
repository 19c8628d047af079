use Rattle.std.proofs.Common.{arith}
use Rattle.minijinja_tree.specs.Erasure.{args_of}
use Rattle.minijinja_code_expr.specs.internal.Parts.{count_of}
use Rattle.minijinja_code_expr.proofs.CallArguments.{keyword_bound}
use Rattle.minijinja_code_expr.proofs.arguments.up_to_caller.Goals as goal

pub one-requires : goal.one-requires
one-requires g c =
    omega (arith, keyword_bound (args_of g.V.TemplateValue.contents c.args.args.now) (count_of c.in_ok-keyword.keyword) c.requires.few c.in_ok-keyword.ensures.counted)
