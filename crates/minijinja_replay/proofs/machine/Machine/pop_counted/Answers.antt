-- The number that is said, or the count on top.
use Rattle.minijinja_replay.specs.private.AtMachine.{stack}
use Rattle.minijinja_replay.proofs.Stacks.{counted_by, counted_none, counted_some}
use Rattle.minijinja_replay.proofs.machine.Machine.pop_counted.Goals as goal

pub returns-in-Some-clause-popped : goal.returns-in-Some-clause-popped
returns-in-Some-clause-popped g c =
    let t = g.V.TemplateValue in
    rw (counted_some t.functions (stack t.contents c.args.self.now) c.args.count c.in-Some.count c.in-Some.is) c.pop_many.ensures.popped

pub returns-in-Some-pop_count-clause-popped : goal.returns-in-Some-pop_count-clause-popped
returns-in-Some-pop_count-clause-popped g c =
    let t = g.V.TemplateValue in
    rw (counted_by t.functions (stack t.contents c.args.self.now) (stack t.contents c.pop_count.new.self) c.args.count c.in-Some-pop_count.count c.in-None.is c.in-Some-pop_count.ensures.popped)
    c.pop_many-in-Some-pop_count.ensures.popped

pub returns-in-None-pop_count-clause-popped : goal.returns-in-None-pop_count-clause-popped
returns-in-None-pop_count-clause-popped g c =
    let t = g.V.TemplateValue in
    counted_none t.functions (stack t.contents c.args.self.now) (stack t.contents c.pop_count.new.self) c.args.count c.in-None.is c.in-None-pop_count.ensures.popped
