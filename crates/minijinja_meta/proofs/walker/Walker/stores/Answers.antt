use Rattle.std.proofs.Common.{refl}
use Rattle.minijinja_meta.proofs.Walking.{then-stores}
use Rattle.minijinja_meta.proofs.walker.Walker.stores.Goals as goal

pub returns : goal.returns
returns g c = then-stores g.V.TemplateValue.contents c.store.result c.args.self.now (record c.args.self.now { scopes = c.store.new.self }) c.args.name.now c.store.ensures refl refl refl refl
