use Rattle.std.proofs.Common.{refl}
use Rattle.minijinja_meta.proofs.Scoping.{stored-new, stored-again}
use Rattle.minijinja_meta.proofs.scopes.Scopes.store.Goals as goal

pub returns-in_ok-push : goal.returns-in_ok-push
returns-in_ok-push c =
    stored-new c.args.self.now (record { stored = c.insert.new.self; log = c.push.new.self }) c.args.name _ _ refl c.requires c.in_ok-insert.ensures.added c.if-branch.true c.in_ok-insert.ensures.updates c.in_ok-push.ensures.items

pub returns-else-branch : goal.returns-else-branch
returns-else-branch c =
    stored-again c.args.self.now (record { stored = c.insert.new.self; log = c.args.self.now.log }) c.args.name _ _ refl c.requires c.in_ok-insert.ensures.added c.if-branch.false c.in_ok-insert.ensures.unchanged refl
