use Rattle.std.proofs.Common.{◌≡◌, refl, sym, ap, ◌∙◌, true, false}
use Rattle.std.specs.Prelude.{not}
use Rattle.minijinja_meta.specs.declared.mentions.Occurrence.{Occurrence}
use Rattle.minijinja_meta.proofs.Walking.{found-last, occurs-walks, remembers, stored-walks, walks-on}
use Rattle.minijinja_meta.proofs.walker.Walker.occurs.Goals as goal
use Rattle.minijinja_meta.proofs.walker.Walker.occurs.Goals.{else-self-via-then-self+else-not-is_free, else-self-via-else-self}

pub returns-then-not-is_free : goal.returns-then-not-is_free
returns-then-not-is_free g c =
    let o : Occurrence _ _ = record { name = c.args.name; span = c.args.span; chain = c.args.chain; is_free = not c.has-is_free.result } in
    stored-walks g.V.TemplateValue.contents c.args.self.now o c.requires.logged c.requires.chain c.if-self.true (ap not (sym c.has-is_free.ensures ∙ c.if-not-is_free.true))

pub returns-in_ok-store : goal.returns-in_ok-store
returns-in_ok-store g c =
    let v = g.V.TemplateValue.contents in
    let s = c.args.self.now in
    let u = record s { found = c.push.new.self } in
    let t = record u { scopes = c.store.new.self } in
    let o : Occurrence _ _ = record { name = c.args.name; span = c.args.span; chain = c.args.chain; is_free = not c.has-is_free.result } in
    let free : not c.has-is_free.result ≡ true = elim c.else-self.branch [ else-self-via-then-self+else-not-is_free w ↦ ap not w.if-not-is_free.false | else-self-via-else-self w ↦ absurd (different (sym c.if-self-2.true ∙ w.if-self.false)) ] in
    walks-on v s u t _ (λ w. w) (occurs-walks v s u o c.requires.logged c.requires.chain (ap not c.has-is_free.ensures) c.in_ok-push.ensures.items refl refl refl refl)
    (remembers v u t c.args.name.now c.if-self-2.true (found-last v s.found.items o u.found.items c.in_ok-push.ensures.items free) c.in_ok-store.ensures refl refl refl refl)
  where
    different : true ≡ false → ⊥
    different e = cc

pub returns-else-self-2 : goal.returns-else-self-2
returns-else-self-2 g c =
    occurs-walks g.V.TemplateValue.contents c.args.self.now (record c.args.self.now { found = c.push.new.self }) _ c.requires.logged c.requires.chain (ap not c.has-is_free.ensures) c.in_ok-push.ensures.items refl refl refl refl
