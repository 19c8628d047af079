use Rattle.std.proofs.Common.{refl, ◌∙◌}
use Rattle.minijinja_meta.proofs.Scoping.{asked}
use Rattle.minijinja_meta.proofs.scopes.Scopes.has.Goals as goal

pub returns : goal.returns
returns c = c.contains.ensures ∙ asked c.args.self.now.stored c.args.name _ refl ∙ c.requires.same c.args.name.now
