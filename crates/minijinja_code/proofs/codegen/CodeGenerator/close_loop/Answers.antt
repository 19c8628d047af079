use Rattle.minijinja_code.specs.declared.codegen.building.Pending.TheVariants as pending
use Rattle.minijinja_code.proofs.OpenBlocks.{loop_taken, none_left, not_both, opened_before}
use Rattle.minijinja_code.proofs.codegen.CodeGenerator.close_loop.Goals as goal

pub unreachable-requires : goal.unreachable-requires
unreachable-requires g c =
    let self = c.args.self.now in
    let front = c.pop.new.self in
    let none = none_left c.pop.result front.items self.pending.len front.len c.pop.ensures.cases front.ok.0 in
    not_both (loop_taken self.refusal c.pop.result front.items self.pending.items c.pop.ensures.items none c.requires) c.in-None.ensures.none

pub returns-clause-innermost : goal.returns-clause-innermost
returns-clause-innermost g c =
    opened_before c.pop.result c.pop.new.self.items c.args.self.now.pending.items (pending.Loop c.in-Some.asks) c.pop.ensures.items c.in-Some.ensures.some
