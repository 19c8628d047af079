use Rattle.std.proofs.Common.{refl}
use Rattle.std.specs.Prelude.{false}
use Rattle.minijinja_tree.specs.Erasure.{stmt_tree}
use Rattle.minijinja_code.proofs.Bodies.{root_stands}
use Rattle.minijinja_code.proofs.codegen.CodeGenerator.add_lists.Goals as goal

pub add_lists-requires-clause-stands : goal.add_lists-requires-clause-stands
add_lists-requires-clause-stands g c = record { in_loop = false; stands = root_stands false (stmt_tree g.V.TemplateValue.contents c.args.stmt.now) refl c.requires.tree }
