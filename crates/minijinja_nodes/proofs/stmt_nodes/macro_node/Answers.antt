use Rattle.minijinja_tree.proofs.StatementRows.{target_more, default_more, no_default_more}
use Rattle.minijinja_nodes.proofs.stmt_nodes.macro_node.Goals as goal

pub loop-arg-preserved-in-Continue-branch-2 : goal.loop-arg-preserved-in-Continue-branch-2
loop-arg-preserved-in-Continue-branch-2 g c =
    let done = c.loop-arg.invariant in
    (target_more c.loop-arg.yielded c.in-Some.arg c.in-Some.default done.0 c.in_ok-push.ensures.items, default_more c.loop-arg.yielded c.in-Some.arg c.in-Some-default.default c.in-Some.default c.in-Some-default.is done.1 c.in_ok-push-2.ensures.items, done.2, done.3)

pub loop-arg-preserved : goal.loop-arg-preserved
loop-arg-preserved g c =
    let done = c.loop-arg.invariant in
    (target_more c.loop-arg.yielded c.in-Some.arg c.in-Some.default done.0 c.in_ok-push.ensures.items, no_default_more c.loop-arg.yielded c.in-Some.arg c.in-Some.default c.in_default.is done.1, done.2, done.3)
