-- Each turn goes through a file more.
use Rattle.std.proofs.Common.{subst, sym}
use Rattle.std.specs.Borrow.{Bor}
use Rattle.std.specs.Prelude.{◌≡◌, List, Option, ℕ}
use Rattle.std.specs.List.{All}
use Rattle.std.proofs.lemmas.List.{take_all}
use Rattle.std.proofs.lemmas.List.Elements.{All-more}
use Rattle.minijinja_syntax.specs.Texts.{Text}
use Rattle.mjc_commands.specs.Commands.{task_of}
use Rattle.mjc_commands.specs.Each.{HoldsFit, IsOnEach, MayEnd}
use Rattle.mjc_commands.specs.Usage.{Task}
use Rattle.mjc_commands.proofs.Statuses.{each_succeeds, either_succeeds, either_within, may_end_worse}
use Rattle.mjc_commands.proofs.each.run_on_each.Goals as goal

-- of another task and of other bytes, which are the same
as_same : {t task : Task} {known held : Option (List ℕ)} (P : Task → Option (List ℕ) → Type 0) → t ≡ task → known ≡ held → P t known → P task held
as_same {t = t} {held = held} P same is has = subst (λ u. P u held) same (subst (P t) is has)

pub loop-path-preserved : goal.loop-path-preserved
loop-path-preserved g c =
    let l = c.loop-path in
    let next = c.run_labelled-next in
    let worst = c.then-endings.result.status in
    let then = c.then-endings.ensures in
    let syntax = c.args.syntax.now in
    record {
      within = either_within l.endings.status next.result.status worst then.one l.invariant.within next.ensures.within;
      same = l.invariant.same;
      gone = λ success.
          let now = as_same (λ t held. MayEnd t syntax held next.result.status) l.invariant.same c.open.ensures (next.ensures.through (each_succeeds next.result.status worst then.second success)) in
          All-more (λ (path : Bor Text). MayEnd (task_of c.args.command.action) syntax (g.F.Files.held c.args.files.now path.now) worst) c.args.paths.now l.path-index _ c.loop-path-test.true
          (λ k d below. may_end_worse l.endings.status worst then.first (l.invariant.gone (each_succeeds l.endings.status worst then.first success) k d below))
          (may_end_worse next.result.status worst then.second now);
      fits = λ met each builds all.
          let both = then.met met in
          let now = as_same (λ t held. HoldsFit t syntax held) (sym l.invariant.same) (sym c.open.ensures) (all l.path-index _ c.loop-path-test.true) in
          either_succeeds l.endings.status next.result.status worst then.one (l.invariant.fits both.0 each builds all) (next.ensures.accepts both.1 (subst IsOnEach (sym l.invariant.same) each) builds now);
    }

pub returns-clause-through : goal.returns-clause-through
returns-clause-through g c = λ success.
    subst (All (λ (path : Bor Text). MayEnd (task_of c.args.command.action) c.args.syntax.now (g.F.Files.held c.args.files.now path.now) c.loop-path.endings.status)) (take_all c.loop-path.path-index c.args.paths.now c.loop-path-test.false) (c.loop-path.invariant.gone success)
