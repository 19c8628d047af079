-- The code of `if` statements while it is being made.
use Rattle.std.proofs.Common.{◌≡◌, ℕ, ◌+◌, ◌<◌, ◌≤◌, [], ◌∷◌, length, refl, sym, ap, ◌∙◌, subst, arith, length-append}
use Rattle.std.specs.Prelude.{true, false}
use Rattle.std.proofs.lemmas.List.{length-set}
use Rattle.minijinja_value.specs.Values.{Functions}
use Rattle.minijinja_tree.specs.Tree.{Expr, if_cond, Stmts, done, also, are_any}
use Rattle.minijinja_semantics.specs.Code.{Jump, JumpIfFalse}
use Rattle.minijinja_semantics.specs.Layout.{expr, stmts, either}
use Rattle.minijinja_semantics.specs.Pieces.{Piece, Leading, Exits, one, ◌▸◌, plain, ◌▹◌, leading_to, branches, branches_out, skipping_out}
use Rattle.minijinja_code_parts.specs.Hint.{all_data_bytes}
use Rattle.minijinja_code_expr.specs.internal.Branching.{BeginsElse, Opened, ending_at, set_at}
use Rattle.minijinja_code_parts.specs.internal.IfParts.{Tests}
use Rattle.minijinja_code_expr.specs.internal.Leading.{Tested}
use Rattle.minijinja_emitter.specs.internal.Making.{Made, Adds, hole, reach}
use Rattle.minijinja_code_parts.specs.internal.EnclosingLoops.{Around, AreBefore, AreOthers, Follows, FollowsStmt, FollowsStmts, exits, ending}
use Rattle.minijinja_code_expr.proofs.Branching.{choice_added}
use Rattle.minijinja_code_parts.proofs.Filling.{before_later, before_others, ends_length, ends_apart, filled_adds, adds_on}
use Rattle.minijinja_code_parts.proofs.Rounds.{follows_plain, follows_then, follows_bytes, follows_skipping}

pub none_bytes : {C L : Type 0} (ss : Stmts C L) → are_any ss ≡ false → all_data_bytes ss ≡ 0
none_bytes done e = refl
none_bytes (also s rest) e = absurd (cc)

module _ {C : Type 0} where
  -- room for the jump past the other part, and the jump to it filled
  pub opened_ending : {t u : Around} {b c room jumped : Made C} {n k place last : ℕ} {p : Leading Exits C} (end : ℕ) → AreBefore (length b.code) t.breaks → AreOthers place t.breaks → place < length b.code → Follows t b u c n p → last ≡ length c.code → Adds c room (one hole) → jumped ≡ set_at room place (JumpIfFalse k) → k ≡ reach (length room.code) → Opened place last (ending end u c) (ending end u room) (ending end u jumped)
  opened_ending {t} {u} {b} {c} {room} {jumped} {n} {k} {place} {last} end h apart lt r at s ej ek =
      let apart' : AreOthers place u.breaks = r.others place lt apart in
      record {
        added = filled_adds u.breaks (reach end) (r.before h) s;
        at = at ∙ sym (ends_length u.breaks (reach end) c.code);
        filled = ap (ending end u) ej ∙ ap (λ l. record room { code = l }) (ends_apart u.breaks (reach end) place (JumpIfFalse k) room.code apart')
            ∙ ap (λ m. set_at (ending end u room) place (JumpIfFalse m)) (ek ∙ ap reach (sym (ends_length u.breaks (reach end) room.code)));
      }

  -- the first piece where the value on top is true, else the second
  pub follows_branches : {t u v : Around} {a b c room jumped d : Made C} {n m k place last : ℕ} (test : Piece C) (p q : Leading Exits C) →
      Adds a b test → {held : Made C} → place ≡ length b.code → Adds b held (one hole) → Follows t held u c n p → last ≡ length c.code → Adds c room (one hole) → jumped ≡ set_at room place (JumpIfFalse k) → k ≡ reach (length room.code) → Follows u jumped v d m q →
      Follows t a v (ending_at last d) (n + m) (plain test ▹ branches_out p q)
  follows_branches {t} {u} {v} {a} {b} {c} {room} {jumped} {d} {n} {m} {k} {place} {last} test p q st {held} at sh r el sr ej ek s =
      let more : length b.code < length held.code = omega (arith, ap length sh.code, length-append b.code (hole ∷ [])) in
      let wider : length c.code < length room.code = omega (arith, ap length sr.code, length-append c.code (hole ∷ [])) in
      let grown : length a.code ≤ length b.code = adds_on test st in
      let same : length jumped.code ≡ length room.code = ap (λ (x : Made C). length x.code) ej ∙ length-set room.code place (JumpIfFalse k) in
      let last_same : length (ending_at last d).code ≡ length d.code = length-set d.code last (Jump (reach (length d.code))) in
      let on : AreBefore (length a.code) t.breaks → AreBefore (length held.code) t.breaks = λ h. before_later (length a.code) (length held.code) t.breaks (omega (arith, more, grown)) h in
      let through : AreBefore (length c.code) u.breaks → AreBefore (length jumped.code) u.breaks = λ h. before_later (length c.code) (length jumped.code) u.breaks (omega (arith, wider, same)) h in
      record {
        in_loop = s.in_loop ∙ r.in_loop;
        iterate = s.iterate ∙ r.iterate;
        opened = s.opened ∙ r.opened;
        bytes = omega (arith, r.bytes, s.bytes);
        none = λ e. s.none (r.in_loop ∙ e) ∙ r.none e;
        longer = omega (arith, grown, more, r.longer, wider, same, s.longer, last_same);
        before = λ h. subst (λ x. AreBefore x v.breaks) (sym last_same) (s.before (through (r.before (on h))));
        others = λ x lt h. s.others x (omega (arith, lt, grown, more, r.longer, wider, same)) (r.others x (omega (arith, lt, grown, more)) h);
        adds = λ h end.
            let here : AreBefore (length b.code) t.breaks = before_later (length a.code) (length b.code) t.breaks grown h in
            let x = exits end t in
            let apart : AreOthers place t.breaks = subst (λ y. AreOthers y t.breaks) (sym at) (before_others (length b.code) t.breaks here) in
            let tested : Tested test (leading_to x p) place (ending end t a) (ending end u c) = record {
              tested = ending end t b;
              held = ending end t held;
              test_added = filled_adds t.breaks (reach end) h st;
              at = at ∙ sym (ends_length t.breaks (reach end) b.code);
              hole_added = filled_adds t.breaks (reach end) here sh;
              added = r.adds (on h) end;
            } in
            let opened = opened_ending end (on h) apart (omega (arith, more, at)) r el sr ej ek in
            let other : Adds (ending end u jumped) (ending end v d) (leading_to x q) = subst (λ i. Adds (ending end u jumped) (ending end v d) (leading_to (record { break_to = end; continue_to = i }) q)) r.iterate (s.adds (through (r.before (on h))) end) in
            let chosen = choice_added tested opened (ending end v d) other in
            let before_last : AreBefore (length c.code) u.breaks = r.before (on h) in
            let apart_last : AreOthers last v.breaks = s.others last (omega (arith, el, wider, same)) (subst (λ y. AreOthers y u.breaks) (sym el) (before_others (length c.code) u.breaks before_last)) in
            let swap : ending_at last (ending end v d) ≡ ending end v (ending_at last d) =
            ap (λ y. set_at (ending end v d) last (Jump (reach y))) (ends_length v.breaks (reach end) d.code)
            ∙ ap (λ l. record d { code = l }) (sym (ends_apart v.breaks (reach end) last (Jump (reach (length d.code))) d.code apart_last)) in
            subst (λ y. Adds (ending end t a) y (test ▸ branches (leading_to x p) (leading_to x q))) swap chosen;
      }

module _ {C L F : Type 0} (f : Functions C F) where
  -- a true body, and a false one with statements
  pub else_follows : {t u v : Around} {a held c jumped d new : Made C} {place end : ℕ} (e : Expr C) (true_body false_body : Stmts C L) →
      Tests f e place a held → FollowsStmts f t held u c true_body → BeginsElse place end c jumped → are_any false_body ≡ true → FollowsStmts f u jumped v d false_body → new ≡ ending_at end d →
      FollowsStmt f t a v new (if_cond e true_body false_body)
  else_follows {t} {u} {v} {a} {jumped = jumped} {d = d} {end = end} e true_body false_body tests r begun some s ends =
      let rest = subst (λ os. Follows u jumped v d (all_data_bytes false_body) (stmts f os false_body)) r.opened s in
      let room = begun.opened in
      let all = follows_branches (expr f e) (stmts f t.opened true_body) (stmts f t.opened false_body) tests.test_added tests.at tests.hole_added r room.at room.added room.filled refl rest in
      let whole : FollowsStmt f t a v (ending_at end d) (if_cond e true_body false_body) = subst (λ has. Follows t a v (ending_at end d) (all_data_bytes true_body + all_data_bytes false_body) (plain (expr f e) ▹ either has (stmts f t.opened true_body) (stmts f t.opened false_body))) (sym some) all in
      subst (λ m. FollowsStmt f t a v m (if_cond e true_body false_body)) (sym ends) whole

  -- a true body alone
  pub alone_follows : {t u : Around} {a held c jumped : Made C} {place k : ℕ} (e : Expr C) (true_body false_body : Stmts C L) →
      Tests f e place a held → FollowsStmts f t held u c true_body → jumped ≡ set_at c place (JumpIfFalse k) → k ≡ reach (length c.code) → are_any false_body ≡ false →
      FollowsStmt f t a u jumped (if_cond e true_body false_body)
  alone_follows {t} {u} {a} {jumped = jumped} e true_body false_body tests r ej ek none =
      let skips = follows_skipping (stmts f t.opened true_body) tests.hole_added tests.at r ej ek in
      let both = follows_then (plain (expr f e)) (skipping_out JumpIfFalse (stmts f t.opened true_body)) (follows_plain t (expr f e) tests.test_added) skips in
      let all = follows_bytes (omega (arith, none_bytes false_body none)) both in
      subst (λ has. Follows t a u jumped (all_data_bytes true_body + all_data_bytes false_body) (plain (expr f e) ▹ either has (stmts f t.opened true_body) (stmts f t.opened false_body))) (sym none) all

module _ {C F : Type 0} (f : Functions C F) where
  -- a test that was added after something that added no code
  pub tests_from : {a' a b : Made C} {e : Expr C} {place : ℕ} → a' ≡ a → Tests f e place a' b → Tests f e place a b
  tests_from {b = b} {e = e} {place = place} is s = subst (λ m. Tests f e place m b) is s
