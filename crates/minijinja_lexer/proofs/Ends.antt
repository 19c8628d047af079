-- Where no end of a tag begins.
use Rattle.std.proofs.Common.{◌≡◌, ℕ, ◌+◌, ◌<◌, Bool, true, false, cond, length, drop, get_or, refl, ap, sym, ◌∙◌, arith, ⊎_elim, eq-eqb}
use Rattle.std.specs.Prelude.{◌||◌, ◌&&◌, ◌==◌, None, Some}
use Rattle.std.proofs.lemmas.Bool.{cases_Bool}
use Rattle.std.proofs.lemmas.List.Prefix.{at_reads}
use Rattle.minijinja_syntax.specs.Texts.{Text}
use Rattle.minijinja_syntax.specs.Markers.{stands}
use Rattle.minijinja_syntax.proofs.Delimiters.{stands_front}
use Rattle.minijinja_lexer.specs.Controls.{Absent, Remove, Preserve}
use Rattle.minijinja_lexer.specs.Cut.{end_at}
use Rattle.minijinja_lexer.specs.Whitespace.{control_at, is_given}

none_of : (a b c : Bool) → (a || b || c) ≡ false → (a ≡ false) × (b ≡ false) × (c ≡ false)
none_of true b c h = let e : true ≡ false = h in cc
none_of false true c h = let e : true ≡ false = h in cc
none_of false false c h = (refl, refl, h)

-- the byte that a delimiter begins with stands where the delimiter does
first_stands : (d text : Text) (at : ℕ) → 0 < length d → stands d text at ≡ true → get_or text at 0 ≡ get_or d 0 0
first_stands d text at some h =
    let z : at + 0 ≡ at = omega arith in
    ap (λ n. get_or text n 0) (sym z) ∙ at_reads 0 text d at (drop (length d) (drop at text)) (stands_front d text at h) 0 some

pub no_end : (d text : Text) (at first : ℕ) → 0 < length d → first ≡ get_or d 0 0 → (get_or text at 0 == first || get_or text at 0 == 45 || get_or text at 0 == 43) ≡ false → end_at d text at ≡ None
unfolding end_at
no_end d text at first some is h =
    let none = none_of (get_or text at 0 == first) (get_or text at 0 == 45) (get_or text at 0 == 43) h in
    let absent : is_given (control_at text at) ≡ false =
    ap (λ t. is_given (cond t Remove (cond (get_or text at 0 == 43) Preserve Absent))) none.1 ∙ ap (λ t. is_given (cond t Preserve Absent)) none.2 in
    let elsewhere : stands d text at ≡ false = ⊎_elim
    (λ (t : stands d text at ≡ true). let e : true ≡ false = sym (eq-eqb _ _ (first_stands d text at some t ∙ sym is)) ∙ none.0 in cc)
    (λ f. f) (cases_Bool (stands d text at)) in
    ap (λ t. cond (t && stands d text (at + 1)) (Some (control_at text at, at + 1 + length d)) (cond (stands d text at) (Some (Absent, at + length d)) None)) absent
    ∙ ap (λ t. cond t (Some (Absent, at + length d)) None) elsewhere
