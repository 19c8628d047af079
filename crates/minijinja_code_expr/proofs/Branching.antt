-- The code of what branches while it is being made.
use Rattle.std.proofs.Common.{◌≡◌, ℕ, ◌+◌, ◌<◌, List, [], ◌∷◌, ◌++◌, length, map, refl, sym, ap, ◌∙◌, arith, length-append}
use Rattle.std.specs.Prelude.{slice_set}
use Rattle.std.proofs.lemmas.List.{length-set, set-append_left}
use Rattle.minijinja_value.specs.Values.{Functions}
use Rattle.minijinja_tree.specs.Tree.{Expr, Optional, if_expr}
use Rattle.minijinja_semantics.specs.Code.{Instr, Jump, JumpIfFalse}
use Rattle.minijinja_semantics.specs.Layout.{optional}
use Rattle.minijinja_semantics.specs.Pieces.{Here, behind, Piece, one, ◌▸◌, branches}
use Rattle.minijinja_code_expr.specs.internal.Branching.{BeginsElse, Opened, ending_at, set_at}
use Rattle.minijinja_code_expr.specs.internal.Leading.{Finishes, Tested}
use Rattle.minijinja_emitter.specs.internal.Making.{Made, here_of, hole, capped, reach, Adds}
use Rattle.minijinja_emitter.proofs.Adding.{adds_then, adds_filled}

module _ {C : Type 0} where
  pub opened : {test end n : ℕ} {now room jumped : Made C} → Adds now room (one hole) → end ≡ length now.code → jumped ≡ set_at room test (JumpIfFalse n) → n ≡ reach (length room.code) → Opened test end now room jumped
  opened {test} {room = room} s ee ej en = record { added = s; at = ee; filled = ej ∙ ap (λ n. set_at room test (JumpIfFalse n)) en }

  -- the other part, and the jump past it
  pub choice_added : {base now room jumped : Made C} {t p q : Piece C} {place end : ℕ} → Tested t p place base now → Opened place end now room jumped → (m : Made C) → Adds jumped m q → Adds base (ending_at end m) (t ▸ branches p q)
  choice_added {base} {now} {room} {jumped} {t} {p} {q} {place} {end} s o m more =
      let h : Here = here_of s.tested in
      let other : Here = behind 1 (p.past (behind 1 h)) in
      let jump : Instr C = JumpIfFalse (reach (length room.code)) in
      let first : Made C = set_at now place jump in
      let one_more : length now.code ≡ (p.past (behind 1 h)).place = ap (λ k. k.place) (s.added.past ∙ ap p.past s.hole_added.past) in
      let begun : length s.held.code ≡ length s.tested.code + 1 = ap (λ k. k.place) s.hole_added.past in
      let within : place < length now.code = omega (arith, s.at, begun, ap length s.added.code, length-append s.held.code (map capped (p.code (here_of s.held)))) in
      let test : Adds s.tested first (one (JumpIfFalse (length room.code)) ▸ p) = adds_filled (JumpIfFalse (length room.code)) jump place s.hole_added s.added s.at refl refl in
      let made : jumped.code ≡ slice_set (now.code ++ hole ∷ []) place jump = ap (λ (k : Made C). k.code) o.filled ∙ ap (λ (l : List (Instr C)). slice_set l place jump) o.added.code in
      let room_code : jumped.code ≡ first.code ++ hole ∷ [] = made ∙ set-append_left now.code (hole ∷ []) place jump within in
      let same : length first.code ≡ length now.code = length-set now.code place jump in
      let room_same : here_of jumped ≡ here_of room = ap here_of o.filled ∙ ap (λ n. record { place = n; filters = room.filters; tests = room.tests }) (length-set room.code place jump) in
      let one_on : behind 1 (here_of now) ≡ behind 1 (here_of first) = ap (λ n. record { place = n + 1; filters = now.filters; tests = now.tests }) (sym same) in
      let room_added : Adds first jumped (one hole) = record { code = room_code; past = room_same ∙ o.added.past ∙ one_on } in
      let rest : Adds first (ending_at end m) (one (Jump (length m.code)) ▸ q) = adds_filled (Jump (length m.code)) (Jump (reach (length m.code))) end room_added more (o.at ∙ sym same) refl refl in
      let all : Adds s.tested (ending_at end m) ((one (JumpIfFalse (length room.code)) ▸ p) ▸ (one (Jump (length m.code)) ▸ q)) = adds_then test rest in
      let to_other : length room.code ≡ other.place = ap (λ k. k.place) o.added.past ∙ ap (λ n. n + 1) one_more in
      let after : here_of jumped ≡ other = room_added.past ∙ ap (λ k. behind 1 k) test.past in
      let to_end : length m.code ≡ (q.past other).place = ap (λ k. k.place) (more.past ∙ ap q.past after) in
      let code : (ending_at end m).code ≡ s.tested.code ++ map capped ((branches p q).code h) =
      all.code
      ∙ ap (λ n. s.tested.code ++ capped (JumpIfFalse n) ∷ map capped (p.code (behind 1 h) ++ Jump (length m.code) ∷ q.code other)) to_other
      ∙ ap (λ n. s.tested.code ++ capped (JumpIfFalse other.place) ∷ map capped (p.code (behind 1 h) ++ Jump n ∷ q.code other)) to_end in
      let chosen : Adds s.tested (ending_at end m) (branches p q) = record { code = code; past = all.past } in
      adds_then s.test_added chosen

-- an if expression, after its true part
pub if_finishes : {C F : Type 0} (f : Functions C F) (t a : Expr C) (b : Optional C) {place end : ℕ} {old held other new : Made C} → BeginsElse place end old held → Adds held other (optional f f.silent_undefined b) → new ≡ ending_at end other → Finishes f (if_expr t a b) place old new
if_finishes f t a b {end = end} {other = other} begun more ends = λ start tested.
    rw ends (choice_added tested begun.opened other more)
