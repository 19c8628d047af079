use Rattle.std.proofs.Common.{◌≡◌, true, false, map, refl, sym, ap, ◌∙◌}
use Rattle.std.specs.Prelude.{Bool, not}
use Rattle.std.specs.Borrow.{Bor}
use Rattle.std.specs.Bool.{OnFalse}
use Rattle.std.specs.BTreeSet.{keys}
use Rattle.minijinja_syntax.specs.Texts.{Text}
use Rattle.minijinja_syntax.specs.declared.tokens.Span.{Span}
use Rattle.minijinja_grammar.specs.internal.Forms.{got, giving, is_given}
use Rattle.minijinja_parser_tokens.proofs.Naming.{given_again, given_first, has_is, inserted_is, refused}
use Rattle.minijinja_parser_tokens.specs.private.AtTokenStream.{place_of}
use Rattle.minijinja_parser_tokens.proofs.tokens.new_ident.Goals as goal

was_there : (b c : Bool) → b ≡ not c → b ≡ false → c ≡ true
was_there b true e h = refl
was_there b false e h = cc

was_not : (b c : Bool) → b ≡ not c → b ≡ true → c ≡ false
was_not b true e h = cc
was_not b false e h = refl

on_false : (b : Bool) (P : Type 0) → OnFalse b P → b ≡ false → P
on_false true P h e = cc
on_false false P h e = h

pub returns-then-not-branch : goal.returns-then-not-branch
returns-then-not-branch c =
    let x : Text × Span = (c.in_ok-name.name.now, c.in_ok-name.span) in
    let place_is : place_of c.tokens.inside ≡ c.ident.new.tokens.place = ap (λ s. s.place) c.tokens.view_is in
    let given : is_given x.0 c.ident.new.tokens.place ≡ true =
    ap (is_given x.0) (sym place_is) ∙ sym (has_is (λ k. k.now) c.in_ok-name.name (keys c.tokens.inside.names)) ∙ was_there _ _ c.in_ok-insert.ensures.added c.if-not-branch.true in
    let kept : keys c.insert.new.self ≡ keys c.tokens.inside.names = on_false _ _ c.in_ok-insert.ensures.unchanged c.if-not-branch.true in
    let same : c.ident.new.tokens.place ≡ record (place_of c.tokens.inside) { names = map (λ k. k.now) (keys c.insert.new.self) } =
    sym place_is ∙ ap (λ ks. record (place_of c.tokens.inside) { names = map (λ k. k.now) ks }) (sym kept) in
    refused (λ (t : Bor Text × Span). (t.0.now, t.1)) _ c.ident.new.tokens.place _ _ (given_again c.args.tokens.now.place c.ident.new.tokens.place x c.in_ok-name.ensures.read given) same c.misfit.ensures

pub returns : goal.returns
returns c =
    let x : Text × Span = (c.in_ok-name.name.now, c.in_ok-name.span) in
    let q = c.ident.new.tokens.place in
    let place_is : place_of c.tokens.inside ≡ q = ap (λ s. s.place) c.tokens.view_is in
    let given : is_given x.0 q ≡ false =
    ap (is_given x.0) (sym place_is) ∙ sym (has_is (λ k. k.now) c.in_ok-name.name (keys c.tokens.inside.names)) ∙ was_not _ _ c.in_ok-insert.ensures.added c.if-not-branch.false in
    given_first c.args.tokens.now.place q x c.in_ok-name.ensures.read given ∙
    ap (λ p. got x (giving x.0 p)) (sym place_is) ∙
    ap (λ ns. got x (record (place_of c.tokens.inside) { names = ns })) (sym (ap (map (λ k. k.now)) c.in_ok-insert.ensures.keys ∙ inserted_is (λ k. k.now) (keys c.tokens.inside.names) c.in_ok-name.name))
