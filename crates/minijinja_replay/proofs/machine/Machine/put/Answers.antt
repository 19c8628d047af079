-- Values in order, and then their count.
use Rattle.std.proofs.Common.{arith, ◌≡◌, ◌+◌, sym, subst, IfOk}
use Rattle.std.specs.Prelude.{length}
use Rattle.minijinja_semantics.specs.Machine.{At}
use Rattle.minijinja_replay.specs.private.AtMachine.{came_to, loops, world}
use Rattle.minijinja_replay.proofs.Stacks.{put_all}
use Rattle.minijinja_replay.proofs.machine.Machine.put.Goals as goal

pub returns-in-AllValues-clause-step : goal.returns-in-AllValues-clause-step
returns-in-AllValues-clause-step g c =
    let t = g.V.TemplateValue in
    let m = c.args.self.now in
    let many : c.len-count.result ≡ length c.args.values.items = omega (arith, c.len-count.ensures, c.args.values.ok.0) in
    let put = put_all t.contents t.functions c.args.pushed m.operands.items c.args.values.items c.append.new.self.items (t.contents c.of_u64.result) c.len-count.result c.in-AllValues.is c.in_ok-append.ensures.items c.of_u64.ensures many in
    subst (λ ops. IfOk c.push.result (λ step. At (m.place + 1) ops (loops t.contents m) (world t.contents m) ≡ came_to t.contents t.fault_contents c.push.new.self step)) (sym put) c.push.ensures.step
