use Rattle.std.proofs.Common.{sym, subst}
use Rattle.minijinja_syntax.specs.Syntax.{IsBuildable}
use Rattle.minijinja_syntax.specs.Markers.{FindsMarker}
use Rattle.minijinja_syntax.specs.private.DefaultStarts.{HasDefaultStarts}
use Rattle.minijinja_syntax.proofs.Finding.{finds}
use Rattle.minijinja_syntax.proofs.Braces.{place-default}
use Rattle.minijinja_syntax.proofs.syntax.SyntaxConfig.find_marker.Goals as goal
use Rattle.minijinja_syntax.proofs.syntax.SyntaxConfig.find_marker.Goals.{After-find_default_marker}

starts : (c : After-find_default_marker) → HasDefaultStarts c.args.self.now
starts c = subst HasDefaultStarts c.self.view_is (c.self.invariant.starts c.if-self.true)

found : (c : After-find_default_marker) → FindsMarker c.args.self.now c.args.source.now c.args.offset c.find_default_marker.result
found c =
    subst (FindsMarker c.args.self.now c.args.source.now c.args.offset)
    (sym (c.find_default_marker.ensures c.args.self.now (subst IsBuildable c.self.view_is c.self.invariant.built) (starts c)))
    (finds c.args.self.now c.args.source.now c.args.offset c.requires)

pub returns-then-self-clause-finds : goal.returns-then-self-clause-finds
returns-then-self-clause-finds c = found c

pub returns-then-self-clause-place : goal.returns-then-self-clause-place
returns-then-self-clause-place c = place-default c.args.self.now c.args.source.now c.args.offset c.find_default_marker.result (starts c) c.utf8.source (found c)
