use Rattle.std.proofs.Common.{◌≡◌, true, false, rules, subst, sym}
use Rattle.minijinja_lint.specs.private.First.{PutsMention, at, starts_before}
use Rattle.minijinja_lint.proofs.Firsts.{put-one}
use Rattle.minijinja_lint.proofs.lint.put_mention.Goals as goal

pub returns-in_ok-insert-clause-first : goal.returns-in_ok-insert-clause-first
returns-in_ok-insert-clause-first g c =
    let o = c.args.occurrence.now in
    let old = c.args.first.now in
    let new = c.insert.new.self in
    let is_free : o.is_free ≡ true = search rules in
    let late : starts_before (at o.name.now old) o.span ≡ false = search rules in
    subst (λ b. PutsMention b o.name.now o.span old new) (sym is_free) (put-one old new o.name o.span c.in_ok-insert.ensures.updates late)
