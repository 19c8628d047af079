-- The code of loops while it is being made.
use Rattle.std.proofs.Common.{◌≡◌, ℕ, ◌+◌, List, [], ◌∷◌, ◌++◌, length, map, min, refl, sym, ap, ◌∙◌, subst, arith}
use Rattle.std.specs.Prelude.{Bool, true, false, slice_set}
use Rattle.minijinja_value.specs.Values.{Functions}
use Rattle.minijinja_tree.specs.Tree.{Expr, Optional, for_loop, Stmts, are_any}
use Rattle.minijinja_semantics.specs.Code.{Instr, Jump, JumpIfFalse, Iterate, PushLoop, PopLoopFrame}
use Rattle.minijinja_semantics.specs.Layout.{expr, target, stmts, passing, popping, looping, if_true}
use Rattle.minijinja_semantics.specs.Meaning.{loop_flags}
use Rattle.minijinja_semantics.specs.Pieces.{Here, behind, Leading, Exits, nothing, one, ◌▸◌, plain, ◌▹◌, leading_to, turning, skipping_out}
use Rattle.minijinja_code_parts.specs.Hint.{all_data_bytes}
use Rattle.minijinja_code_parts.specs.internal.Loops.{Begins, EndsBeforeElse, turned}
use Rattle.minijinja_emitter.specs.internal.Making.{Made, here_of, Adds, hole, reach, capped, followed}
use Rattle.minijinja_code_parts.specs.internal.EnclosingLoops.{Around, Follows, FollowsStmt, FollowsStmts, ending}
use Rattle.minijinja_emitter.proofs.Adding.{adds_nothing, adds_then, adds_assoc, adds_filled, adds_followed}
use Rattle.minijinja_code_expr.specs.internal.Branching.{set_at}
use Rattle.minijinja_code_parts.proofs.Filling.{ends_append, filled_here}
use Rattle.minijinja_code_parts.proofs.Rounds.{follows_counted, follows_plain, follows_then, follows_bytes, follows_skipping}

-- within a loop that asks for its next item at a place
abbrev pub in_turn : (iterate bytes : ℕ) → Around
in_turn iterate bytes = record { in_loop = true; iterate = iterate; opened = []; breaks = []; bytes = bytes }

module _ {C : Type 0} where
  -- the turns of a loop, whose piece was added within them
  pub turned_adds : {a b c d : Made C} {u : Around} {bytes n : ℕ} (p : Leading Exits C) → Adds a b (one hole) → Follows (in_turn (length a.code) bytes) b u c n p → d ≡ turned (length a.code) u.breaks c → Adds a d (turning p)
  turned_adds {a} {b} {c} {d} {u} {bytes} {n} p hole_added r ed =
      let i : ℕ = length a.code in
      let end : ℕ = length c.code + 1 in
      let h : Here = here_of a in
      let x : Exits = record { break_to = end; continue_to = i } in
      let body : Adds b (ending end u c) (leading_to x p) = r.adds tt end in
      let back : Instr C = Jump (reach i) in
      let all : Made C = followed (ending end u c) (back ∷ []) in
      let jump : Adds (ending end u c) all (one (Jump i)) = adds_followed (Jump i) back refl refl in
      let both : Adds b all (leading_to x p ▸ one (Jump i)) = adds_then body jump in
      let made : d ≡ record all { code = slice_set all.code i (Iterate (reach end)) } =
      ed ∙ ap (λ (l : List (Instr C)). record c { code = slice_set l i (Iterate (reach end)) }) (ends_append u.breaks (reach end) c.code (back ∷ []) (r.before tt)) in
      let filled = adds_filled (Iterate end) (Iterate (reach end)) i hole_added both refl refl made in
      let past : length c.code ≡ (p.past (behind 1 h)).place =
      ap (λ (k : Here). k.place) (sym (filled_here u.breaks (reach end) c) ∙ body.past ∙ ap p.past hole_added.past) in
      record {
        code = filled.code ∙ ap (λ m. a.code ++ capped (Iterate (m + 1)) ∷ map capped (p.code (record { break_to = m + 1; continue_to = i }) (behind 1 h) ++ Jump i ∷ [])) past;
        past = filled.past;
      }

module _ {C L F : Type 0} (f : Functions C F) where
  -- the turns of a loop, its target first
  loop_turned : {b c d d' : Made C} {inner inner' : Around} (e : Expr C) (recursive : Bool) (bytes : ℕ) (body : Stmts C L) → Begins f e recursive bytes b c inner → FollowsStmts f inner c inner' d body → d' ≡ turned inner'.iterate inner'.breaks d → Adds b d' (one (PushLoop (loop_flags recursive)) ▸ turning (plain (target f e) ▹ stmts f [] body))
  loop_turned {b} {c} {d} {d'} {inner} {inner'} e recursive bytes body g r ed =
      let i : ℕ = length g.pushed.code in
      let r' = subst (λ t. FollowsStmts f t c inner' d body) g.within r in
      let all = follows_then (plain (target f e)) (stmts f [] body) (follows_plain (in_turn i bytes) (target f e) g.target_added) r' in
      adds_then g.push_added (turned_adds {bytes = bytes} (plain (target f e) ▹ stmts f [] body) g.hole_added all (ed ∙ ap (λ k. turned k inner'.breaks d) r'.iterate))

  -- the bytes up to the end of a loop's turns
  loop_bytes : (t : Around) {b c d : Made C} {inner inner' : Around} (e : Expr C) (recursive : Bool) (body : Stmts C L) → Begins f e recursive t.bytes b c inner → FollowsStmts f inner c inner' d body → min 18446744073709551615 inner'.bytes ≡ min 18446744073709551615 (t.bytes + all_data_bytes body)
  loop_bytes t e recursive body g r = r.bytes ∙ ap (λ (k : Around). min 18446744073709551615 (k.bytes + all_data_bytes body)) g.within

  looped : {a b c d d' g : Made C} {t u inner inner' : Around} (e v : Expr C) (only : Optional C) (recursive has_else : Bool) (body : Stmts C L) →
      Adds a b (passing f e only (expr f v)) → Begins f e recursive t.bytes b c inner → FollowsStmts f inner c inner' d body → d' ≡ turned inner'.iterate inner'.breaks d → u ≡ record t { bytes = inner'.bytes } → Adds d' g (popping has_else) →
      Follows t a u g (all_data_bytes body) (plain (passing f e only (expr f v) ▸ looping f e recursive has_else (stmts f [] body)))
  looped {t = t} {u} {inner} {inner'} e v only recursive has_else body items begins r ed eu pop =
      let bytes : u.bytes ≡ inner'.bytes = ap (λ (k : Around). k.bytes) eu in
      follows_counted (all_data_bytes body) (passing f e only (expr f v) ▸ looping f e recursive has_else (stmts f [] body))
      (eu ∙ ap (λ n. record t { bytes = n }) (sym bytes))
      (ap (min 18446744073709551615) bytes ∙ loop_bytes t e recursive body begins r)
      (adds_then items (adds_assoc (one (PushLoop (loop_flags recursive))) (turning (plain (target f e) ▹ stmts f [] body)) (popping has_else) (adds_then (loop_turned e recursive t.bytes body begins r ed) pop)))

  -- a loop without an else body
  pub loop_follows : {a b c d d' g : Made C} {t u inner inner' : Around} (l : L) (e v : Expr C) (only : Optional C) (recursive : Bool) (body else_body : Stmts C L) →
      Adds a b (passing f e only (expr f v)) → Begins f e recursive t.bytes b c inner → FollowsStmts f inner c inner' d body → d' ≡ turned inner'.iterate inner'.breaks d → u ≡ record t { bytes = inner'.bytes } → are_any else_body ≡ false → all_data_bytes else_body ≡ 0 → Adds d' g (one PopLoopFrame) →
      FollowsStmt f t a u g (for_loop l e v only recursive body else_body)
  loop_follows {a} {g = g} {t} {u} l e v only recursive body else_body items begins r ed eu none no_bytes pop =
      let s = looped {t = t} {u = u} e v only recursive false body items begins r ed eu pop in
      let q : Leading Exits C = stmts f t.opened else_body in
      let all = follows_bytes (omega (arith, no_bytes)) (follows_then (plain (passing f e only (expr f v) ▸ looping f e recursive false (stmts f [] body))) (plain nothing) s (follows_plain u nothing (adds_nothing g))) in
      subst (λ has. Follows t a u g (all_data_bytes body + all_data_bytes else_body) (plain (passing f e only (expr f v) ▸ looping f e recursive has (stmts f [] body)) ▹ if_true has q)) (sym none) all

  -- a loop with an else body
  pub loop_else_follows : {a b c d d' g h k : Made C} {t u w inner inner' : Around} {place n : ℕ} (l : L) (e v : Expr C) (only : Optional C) (recursive : Bool) (body else_body : Stmts C L) →
      Adds a b (passing f e only (expr f v)) → Begins f e recursive t.bytes b c inner → FollowsStmts f inner c inner' d body → d' ≡ turned inner'.iterate inner'.breaks d → u ≡ record t { bytes = inner'.bytes } → are_any else_body ≡ true → EndsBeforeElse place d' g →
      FollowsStmts f u g w h else_body → k ≡ set_at h place (JumpIfFalse n) → n ≡ reach (length h.code) →
      FollowsStmt f t a w k (for_loop l e v only recursive body else_body)
  loop_else_follows {a} {k = k} {t} {u} {w} l e v only recursive body else_body items begins r ed eu some ends other ek en =
      let s = looped {t = t} {u = u} e v only recursive true body items begins r ed eu ends.end_added in
      let q : Leading Exits C = stmts f u.opened else_body in
      let skips = follows_skipping q ends.hole_added ends.at other ek en in
      let same : u.opened ≡ t.opened = ap (λ (x : Around). x.opened) eu in
      let skips' = subst (λ os. Follows u ends.ended w k (all_data_bytes else_body) (skipping_out JumpIfFalse (stmts f os else_body))) same skips in
      let all = follows_then (plain (passing f e only (expr f v) ▸ looping f e recursive true (stmts f [] body))) (skipping_out JumpIfFalse (stmts f t.opened else_body)) s skips' in
      subst (λ has. Follows t a w k (all_data_bytes body + all_data_bytes else_body) (plain (passing f e only (expr f v) ▸ looping f e recursive has (stmts f [] body)) ▹ if_true has (stmts f t.opened else_body))) (sym some) all
