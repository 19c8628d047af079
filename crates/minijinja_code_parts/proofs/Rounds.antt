-- What statements add within a loop, put together.
use Rattle.std.proofs.Common.{◌≡◌, ℕ, ◌+◌, ◌<◌, ◌≤◌, [], ◌∷◌, length, drop, min, refl, sym, ap, ◌∙◌, subst, arith, length-append}
use Rattle.std.specs.Prelude.{false}
use Rattle.std.proofs.lemmas.List.{length-set}
use Rattle.minijinja_value.specs.Values.{Functions}
use Rattle.minijinja_tree.specs.Tree.{Stmt, Stmts, done, also}
use Rattle.minijinja_semantics.specs.Code.{Instr, JumpIfFalse}
use Rattle.minijinja_semantics.specs.Layout.{stmt, stmts}
use Rattle.minijinja_semantics.specs.Pieces.{Piece, Leading, Exits, Open, nothing, one, plain, ◌▹◌, leading_to, outside, skipping_out}
use Rattle.minijinja_code_parts.specs.Hint.{all_data_bytes}
use Rattle.minijinja_emitter.specs.internal.Making.{Made, Adds, hole, reach}
use Rattle.minijinja_code_parts.specs.internal.EnclosingLoops.{Around, AreBefore, AreOthers, Follows, FollowsStmt, FollowsStmts, ending, opening, counting, with_ends}
use Rattle.minijinja_emitter.proofs.Adding.{adds_nothing, adds_then, adds_skipping}
use Rattle.minijinja_code_expr.specs.internal.Branching.{set_at}
use Rattle.minijinja_code_parts.proofs.Filling.{before_later, before_others, ends_length, ends_apart, filled_adds, adds_on}

-- outside of all loops
abbrev pub nowhere : Around
nowhere = record { in_loop = false; iterate = 0; opened = []; breaks = []; bytes = 0 }

module _ {C : Type 0} where
  -- a piece that leads nowhere else, after which only the bytes may be others
  pub follows_counted : {t u : Around} {a b : Made C} (n : ℕ) (p : Piece C) → u ≡ record t { bytes = u.bytes } → min 18446744073709551615 u.bytes ≡ min 18446744073709551615 (t.bytes + n) → Adds a b p → Follows t a u b n (plain p)
  follows_counted {t} {u} {a} {b} n p same counted s =
      let breaks : u.breaks ≡ t.breaks = ap (λ (x : Around). x.breaks) same in
      let longer : length a.code ≤ length b.code = adds_on p s in
      record {
        in_loop = ap (λ (x : Around). x.in_loop) same;
        iterate = ap (λ (x : Around). x.iterate) same;
        opened = ap (λ (x : Around). x.opened) same;
        bytes = counted;
        none = λ e. breaks;
        longer = longer;
        before = λ h. subst (AreBefore (length b.code)) (sym breaks) (before_later (length a.code) (length b.code) t.breaks longer h);
        others = λ place lt h. subst (AreOthers place) (sym breaks) h;
        adds = λ h end. subst (λ ps. Adds (ending end t a) (ending end (record t { breaks = ps }) b) p) (sym breaks) (filled_adds t.breaks (reach end) h s);
      }

  pub follows_plain : (t : Around) {a b : Made C} (p : Piece C) → Adds a b p → Follows t a t b 0 (plain p)
  follows_plain t p s = follows_counted {t = t} {u = t} 0 p refl (omega arith) s

  -- text outside of tags
  pub follows_data : {t u : Around} {a b : Made C} (n : ℕ) (p : Piece C) → u ≡ counting n t → Adds a b p → Follows t a u b n (plain p)
  follows_data {t} {u} {a} {b} n p e s =
      subst (λ x. Follows t a x b n (plain p)) (sym e) (follows_counted {t = t} {u = counting n t} n p refl (omega arith) s)

  pub follows_then : {t u v : Around} {a b c : Made C} {n k : ℕ} (p q : Leading Exits C) → Follows t a u b n p → Follows u b v c k q → Follows t a v c (n + k) (p ▹ q)
  follows_then {t} {u} {v} {a} {b} {c} {n} {k} p q r s = record {
    in_loop = s.in_loop ∙ r.in_loop;
    iterate = s.iterate ∙ r.iterate;
    opened = s.opened ∙ r.opened;
    bytes = omega (arith, r.bytes, s.bytes);
    none = λ e. s.none (r.in_loop ∙ e) ∙ r.none e;
    longer = omega (arith, r.longer, s.longer);
    before = λ h. s.before (r.before h);
    others = λ place lt h. s.others place (omega (arith, r.longer, lt)) (r.others place lt h);
    adds = λ h end. adds_then (r.adds h end) (subst (λ i. Adds (ending end u b) (ending end v c) (leading_to (record { break_to = end; continue_to = i }) q)) r.iterate (s.adds (r.before h) end));
  }

  pub follows_bytes : {t u : Around} {a b : Made C} {n k : ℕ} {p : Leading Exits C} → n ≡ k → Follows t a u b n p → Follows t a u b k p
  follows_bytes {t} {u} {a} {b} {n} {k} {p} e s = subst (λ m. Follows t a u b m p) e s

  -- a piece between two that lead nowhere else
  pub follows_within : {t u : Around} {a b c d : Made C} {n : ℕ} (x : Piece C) (p : Leading Exits C) (y : Piece C) → Adds a b x → Follows t b u c n p → Adds c d y → Follows t a u d n (plain x ▹ (p ▹ plain y))
  follows_within {t} {u} {n = n} x p y s r k = follows_bytes (omega arith) (follows_then (plain x) (p ▹ plain y) (follows_plain t x s) (follows_then p (plain y) r (follows_plain u y k)))

  -- what was opened is closed again
  pub follows_closed : {t u v : Around} {a b : Made C} {n : ℕ} {p : Leading Exits C} (o : Open) → Follows (opening o t) a u b n p → v ≡ record u { opened = drop 1 u.opened } → Follows t a v b n p
  follows_closed {t} {u} {v} {a} {b} {n} {p} o s e =
      let same : record u { opened = t.opened } ≡ v = ap (λ os. record u { opened = drop 1 os }) (sym s.opened) ∙ sym e in
      subst (λ x. Follows t a x b n p) same (record {
        in_loop = s.in_loop;
        iterate = s.iterate;
        opened = refl;
        bytes = s.bytes;
        none = s.none;
        longer = s.longer;
        before = s.before;
        others = s.others;
        adds = s.adds;
      })

  -- a jump past a piece, for which room was left
  pub follows_skipping : {t u : Around} {a b c d : Made C} {n place k : ℕ} (p : Leading Exits C) → Adds a b (one hole) → place ≡ length a.code → Follows t b u c n p → d ≡ set_at c place (JumpIfFalse k) → k ≡ reach (length c.code) → Follows t a u d n (skipping_out JumpIfFalse p)
  follows_skipping {t} {u} {a} {b} {c} {d} {n} {place} {k} p s at r ed ek =
      let j : Instr C = JumpIfFalse k in
      let more : length a.code < length b.code = omega (arith, ap length s.code, length-append a.code (hole ∷ [])) in
      let same : length d.code ≡ length c.code = ap (λ (m : Made C). length m.code) ed ∙ length-set c.code place j in
      record {
        in_loop = r.in_loop;
        iterate = r.iterate;
        opened = r.opened;
        bytes = r.bytes;
        none = r.none;
        longer = omega (arith, r.longer, more, same);
        before = λ h. subst (λ m. AreBefore m u.breaks) (sym same) (r.before (before_later (length a.code) (length b.code) t.breaks (omega (arith, more)) h));
        others = λ q lt h. r.others q (omega (arith, more, lt)) h;
        adds = λ h end.
            let later : AreBefore (length b.code) t.breaks = before_later (length a.code) (length b.code) t.breaks (omega (arith, more)) h in
            let apart : AreOthers place u.breaks = r.others place (omega (arith, more, at)) (subst (λ m. AreOthers m t.breaks) (sym at) (before_others (length a.code) t.breaks h)) in
            adds_skipping JumpIfFalse j place (filled_adds t.breaks (reach end) h s) (r.adds later end)
            (at ∙ sym (ends_length t.breaks (reach end) a.code))
            (ap JumpIfFalse (ap reach (ends_length u.breaks (reach end) c.code) ∙ sym ek))
            (ap (ending end u) ed ∙ ap (λ l. record c { code = l }) (ends_apart u.breaks (reach end) place j c.code apart));
      }

  -- what was added there leads nowhere else
  pub adds_outside : {t u : Around} {a b : Made C} {n : ℕ} (p : Leading Exits C) → t ≡ nowhere → Follows t a u b n p → Adds a b (leading_to outside p)
  adds_outside {t} {u} {a} {b} {n} p e r =
      let s : Follows nowhere a u b n p = subst (λ x. Follows x a u b n p) e r in
      subst (λ ps. Adds a (record b { code = with_ends ps (reach 0) b.code }) (leading_to outside p)) (s.none refl) (s.adds tt 0)

  -- and the given number of bytes is counted
  pub bytes_outside : {t u : Around} {a b : Made C} {n m : ℕ} (p : Leading Exits C) → t ≡ nowhere → Follows t a u b n p → m ≡ u.bytes → m ≤ 18446744073709551615 → m ≡ min 18446744073709551615 n
  bytes_outside {t} {u} {a} {b} {n} {m} p e r em le =
      let s : Follows nowhere a u b n p = subst (λ x. Follows x a u b n p) e r in
      omega (arith, s.bytes, em, le)

module _ {C L F : Type 0} (f : Functions C F) where
  -- the statement in other words
  pub stmt_as : {t u : Around} {a b : Made C} (s : Stmt C L) {s' : Stmt C L} → s ≡ s' → FollowsStmt f t a u b s' → FollowsStmt f t a u b s
  stmt_as {t} {u} {a} {b} s e r = subst (λ x. FollowsStmt f t a u b x) (sym e) r

  -- a statement outside of all loops
  pub stmt_outside : {t u : Around} {a b : Made C} (s : Stmt C L) → t ≡ nowhere → FollowsStmt f t a u b s → Adds a b (leading_to outside (stmt f [] s))
  stmt_outside {t} {u} {a} {b} s e r = adds_outside {t = nowhere} (stmt f [] s) refl (subst (λ x. FollowsStmt f x a u b s) e r)

  -- whoever adds the rest of statements has added all of them
  pub record Onward (t : Around) (a : Made C) (u : Around) (b : Made C) (rest whole : Stmts C L) : Type 0 where
    pub in_loop : u.in_loop ≡ t.in_loop
    pub onward : (v : Around) (c : Made C) → FollowsStmts f u b v c rest → FollowsStmts f t a v c whole

  pub onward_start : (t : Around) (a : Made C) (rest whole : Stmts C L) → rest ≡ whole → Onward t a t a rest whole
  onward_start t a rest whole e = record { in_loop = refl; onward = λ v c s. subst (λ ss. FollowsStmts f t a v c ss) e s }

  pub onward_next : {t u v : Around} {a b c : Made C} {rest whole : Stmts C L} (s : Stmt C L) (left : Stmts C L) → rest ≡ also s left → FollowsStmt f u b v c s → Onward t a u b rest whole → Onward t a v c left whole
  onward_next {t} {u} {v} {a} {b} {c} s left e r o = record {
    in_loop = r.in_loop ∙ o.in_loop;
    onward = λ w d more.
        let rest_follows = subst (λ os. Follows v c w d (all_data_bytes left) (stmts f os left)) r.opened more in
        o.onward w d (subst (λ ss. FollowsStmts f u b w d ss) (sym e) (follows_then (stmt f u.opened s) (stmts f u.opened left) r rest_follows));
  }

  pub onward_end : {t u : Around} {a b : Made C} {rest whole : Stmts C L} → rest ≡ done → Onward t a u b rest whole → FollowsStmts f t a u b whole
  onward_end {t} {u} {a} {b} e o = o.onward u b (subst (λ ss. FollowsStmts f u b u b ss) (sym e) (follows_plain u nothing (adds_nothing b)))
