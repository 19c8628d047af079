use Rattle.std.proofs.Common.{refl}
use Rattle.minijinja_meta.proofs.Scoping.{unstored, shorter}
use Rattle.minijinja_meta.proofs.scopes.Scopes.forget_last.Goals as goal

pub returns-clause-logged : goal.returns-clause-logged
returns-clause-logged c =
    unstored c.args.self.now (record { stored = c.remove.new.self; log = c.pop.new.self }) c.pop.new.self.items c.in-Some.name _ refl c.requires c.in-Some.ensures.items refl c.remove.ensures.updates

pub returns-clause-log : goal.returns-clause-log
returns-clause-log c =
    shorter c.args.self.now (record { stored = c.remove.new.self; log = c.pop.new.self }) c.pop.new.self.items c.in-Some.name c.in-Some.ensures.items refl
