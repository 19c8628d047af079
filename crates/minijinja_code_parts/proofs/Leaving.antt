-- Loops that are left while their code is being made.
use Rattle.std.proofs.Common.{◌≡◌, ℕ, ◌+◌, ◌<◌, ◌≤◌, List, [], ◌∷◌, ◌++◌, length, refl, sym, ap, ◌∙◌, subst, arith, length-append}
use Rattle.std.specs.Prelude.{Bool, true, false}
use Rattle.minijinja_semantics.specs.Code.{Jump}
use Rattle.minijinja_semantics.specs.Pieces.{behind, Piece, Open, nothing, one, ◌▸◌, closing_instructions, leaving}
use Rattle.minijinja_code_parts.specs.internal.Loops.{closed}
use Rattle.minijinja_emitter.specs.internal.Making.{Made, Adds, hole, reach}
use Rattle.minijinja_code_parts.specs.internal.EnclosingLoops.{Around, AreBefore, Follows, ending}
use Rattle.minijinja_emitter.proofs.Adding.{adds_nothing, adds_then, adds_filled}
use Rattle.minijinja_code_parts.proofs.Filling.{before_later, before_more, others_more, ends_length, ends_last, filled_adds, adds_on}
use Rattle.minijinja_code_parts.proofs.Rounds.{follows_plain}

true_or_false : (b : Bool) → b ≡ true → b ≡ false → ⊥
true_or_false b t f = cc

module _ {C : Type 0} where
  -- what is open is closed, and a jump leads on
  abbrev left : List Open → ℕ → Piece C
  left os l = record { past = behind (length (closing_instructions {C = C} os) + 1); code = λ h. closing_instructions os ++ Jump l ∷ [] }

  adds_left : {a b : Made C} (os : List Open) (l : ℕ) → Adds a b (closed os ▸ one (Jump l)) → Adds a b (left os l)
  adds_left {a} {b} os l s =
      let n : ℕ = length (closing_instructions {C = C} os) in
      let place : (length a.code + n) + 1 ≡ length a.code + (n + 1) = omega arith in
      record { code = s.code; past = s.past ∙ ap (λ k. record { place = k; filters = a.filters; tests = a.tests }) place }

  -- on to the next item
  pub continue_follows : (t : Around) {a b c : Made C} → Adds a b (closed t.opened) → Adds b c (one (Jump t.iterate)) → Follows t a t c 0 (leaving (λ x. x.continue_to) t.opened)
  continue_follows t {a} {b} {c} s j =
      let r = follows_plain t (left t.opened t.iterate) (adds_left t.opened t.iterate (adds_then s j)) in
      record {
        in_loop = refl;
        iterate = refl;
        opened = refl;
        bytes = r.bytes;
        none = r.none;
        longer = r.longer;
        before = r.before;
        others = r.others;
        adds = λ h end. r.adds h end;
      }

  -- out of the loop
  pub break_follows : {t u : Around} {a b c : Made C} {place : ℕ} → t.in_loop ≡ true → Adds a b (closed t.opened) → Adds b c (one hole) → place ≡ length b.code → u ≡ record t { breaks = t.breaks ++ place ∷ [] } → Follows t a u c 0 (leaving (λ x. x.break_to) t.opened)
  break_follows {t} {u} {a} {b} {c} {place} inside s hole_added at eu =
      let more : length b.code < length c.code = omega (arith, ap length hole_added.code, length-append b.code (hole ∷ [])) in
      let grown : length a.code ≤ length b.code = adds_on (closed t.opened) s in
      let v : Around = record t { breaks = t.breaks ++ place ∷ [] } in
      let all : Follows t a v c 0 (leaving (λ x. x.break_to) t.opened) = record {
        in_loop = refl;
        iterate = refl;
        opened = refl;
        bytes = omega arith;
        none = λ e. absurd (true_or_false t.in_loop inside e);
        longer = omega (arith, more, grown);
        before = λ h. before_more (length c.code) place t.breaks (before_later (length a.code) (length c.code) t.breaks (omega (arith, more, grown)) h) (omega (arith, more, at));
        others = λ q lt h. others_more q place t.breaks h (λ e. absurd (omega (arith, lt, grown, at, e)));
        adds = λ h end.
            let later : AreBefore (length b.code) t.breaks = before_later (length a.code) (length b.code) t.breaks grown h in
            let closes = filled_adds t.breaks (reach end) h s in
            let room = filled_adds t.breaks (reach end) later hole_added in
            let jump : Adds (ending end t b) (ending end v c) (one (Jump end) ▸ nothing) =
            adds_filled (Jump end) (Jump (reach end)) place room (adds_nothing (ending end t c)) (at ∙ sym (ends_length t.breaks (reach end) b.code)) refl
            (ap (λ l. record c { code = l }) (ends_last t.breaks (reach end) place c.code)) in
            let both = adds_then closes jump in
            adds_left t.opened end (record { code = both.code; past = both.past });
      } in
      subst (λ x. Follows t a x c 0 (leaving (λ x. x.break_to) t.opened)) (sym eu) all
