use Rattle.std.proofs.Common.{refl}
use Rattle.minijinja_meta.proofs.Walking.{then-declares}
use Rattle.minijinja_meta.proofs.walker.Walker.declares.Goals as goal

pub returns : goal.returns
returns g c =
    then-declares g.V.TemplateValue.contents c.store.result c.args.self.now (record c.args.self.now { macros = c.push.new.self; scopes = c.store.new.self }) c.args.name c.args.span c.store.ensures refl c.in_ok-push.ensures.items refl refl
