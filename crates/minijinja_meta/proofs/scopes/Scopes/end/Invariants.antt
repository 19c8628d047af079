use Rattle.std.proofs.Common.{◌≡◌, length, take}
use Rattle.minijinja_meta.specs.private.Scoped.{IsLogged, log}
use Rattle.minijinja_meta.proofs.scopes.Scopes.end.Given as goal

abbrev pub invariant-loop-self : goal.invariant-loop-self
invariant-loop-self l = record {
  logged : IsLogged l.self;
  log : take l.mark (log l.self) ≡ take l.mark (log l.initial.self);
}

abbrev pub decreases-loop-self : goal.decreases-loop-self
decreases-loop-self l = length (log l.self)
