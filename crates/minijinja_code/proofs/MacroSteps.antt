-- Macros, and calls that take one along, while their code is being made.
use Rattle.std.proofs.Common.{◌≡◌, ℕ, ◌+◌, List, [], ◌++◌, length, map, min, refl, sym, ap, ◌∙◌, subst, arith, append_assoc}
use Rattle.std.specs.Prelude.{slice_set}
use Rattle.minijinja_syntax.specs.Texts.{Text}
use Rattle.minijinja_value.specs.Values.{Functions}
use Rattle.minijinja_tree.specs.Callees.{Callee, function, method, block, object, callee}
use Rattle.minijinja_tree.specs.Erasure.{expr_tree}
use Rattle.minijinja_tree_expr.specs.declared.ast.Expr.{Expr as Node}
use Rattle.minijinja_tree.specs.declared.ast.Stmt.{Stmt as StmtNode}
use Rattle.minijinja_tree.proofs.Rows.{body_of}
use Rattle.minijinja_tree.specs.Tree.{Expr, Args, declare, call_block, Stmts, Macro, macro, macro_name, parameters}
use Rattle.minijinja_semantics.specs.Code.{Do, Jump, Return}
use Rattle.minijinja_semantics.specs.Events.{StoreLocal, Emit}
use Rattle.minijinja_semantics.specs.Layout.{expr, base, call_of, stmts, taking, making, macro_value, arguments_with, argument_count_with, call_with, up_to_caller}
use Rattle.minijinja_semantics.specs.Pieces.{Here, Piece, one, ◌▸◌, plain, leading_to, outside, skipping}
use Rattle.minijinja_semantics.specs.Places.{before_caller}
use Rattle.minijinja_code_parts.specs.Hint.{if_made, all_data_bytes, macro_bytes}
use Rattle.minijinja_code_parts.specs.internal.Macros.{building}
use Rattle.minijinja_code_parts.specs.internal.EnclosingLoops.{Around, Counted, Follows, FollowsStmt, FollowsStmts, counting}
use Rattle.minijinja_code_expr.specs.internal.Callers.{TakesCaller, WholeBlock, arguments_end, behind_caller, called, end_count}
use Rattle.minijinja_code_expr.specs.internal.Calling.{captured}
use Rattle.minijinja_emitter.specs.internal.Making.{Made, here_of, Adds, hole, reach, capped}
use Rattle.minijinja_emitter.proofs.Adding.{adds_nested, adds_then, adds_assoc, adds_length, adds_skipping}
use Rattle.minijinja_code_parts.proofs.Rounds.{nowhere, adds_outside, follows_counted, follows_plain, follows_bytes}

module _ {C : Type 0} where
  -- pieces within others are put together otherwise
  adds_nested_in : {a b : Made C} (p q r s : Piece C) → Adds a b (p ▸ q ▸ r ▸ s) → Adds a b (p ▸ (q ▸ r) ▸ s)
  adds_nested_in {a} {b} p q r s k =
      let h : Here = p.past (here_of a) in
      record {
        code = k.code ∙ ap (λ l. a.code ++ map capped (p.code (here_of a) ++ l)) (sym (append_assoc (q.code h) (r.code (q.past h)) (s.code (r.past (q.past h)))));
        past = k.past;
      }

-- bytes that were counted outside of the loop around it
pub counted_inside : {t u first : Around} (last : Around) {n k : ℕ} → first ≡ nowhere → min 18446744073709551615 last.bytes ≡ min 18446744073709551615 (first.bytes + n) → k ≡ last.bytes → u ≡ counting k t → Counted n t u
counted_inside {t} {u} {first} last {n} {k} none counted is e =
    let zero : first.bytes ≡ 0 = ap (λ (x : Around). x.bytes) none in
    let all : u.bytes ≡ min 18446744073709551615 (t.bytes + k) = ap (λ (x : Around). x.bytes) e in
    record {
      same = e ∙ ap (λ b. record t { bytes = b }) (sym all);
      bytes = omega (arith, zero, counted, is, all);
    }

module _ {C F : Type 0} (f : Functions C F) (e : Expr C) (args : Args C) where
  -- a call that takes a macro along: up to it, the macro, and the end
  called_with : {a b c d : Made C} (k : Callee C) (p : Piece C) → TakesCaller k → Adds a b (before_caller f k e args) → Adds b c p → Adds c d (behind_caller k args) → Adds a d (call_of k (base f e) (expr f e) (λ n. arguments_with f args n p) (argument_count_with args))
  called_with (function x) p is s q r =
      let up = up_to_caller f args 0 in
      let ends : Piece C = arguments_end args 0 in
      let last : Piece C = called (function x) (end_count args 0) in
      adds_nested up (p ▸ ends) last (adds_then s (adds_nested p ends last (adds_then q r)))
  called_with (method o x) p is s q r =
      let up = up_to_caller f args 1 in
      let ends : Piece C = arguments_end args 1 in
      let last : Piece C = called (method o x) (end_count args 1) in
      adds_nested_in (base f e) up (p ▸ ends) last (adds_assoc (base f e) up ((p ▸ ends) ▸ last) (adds_then s (adds_nested p ends last (adds_then q r))))
  called_with (block x) p is s q r = absurd is
  called_with (object o) p is s q r =
      let up = up_to_caller f args 1 in
      let ends : Piece C = arguments_end args 1 in
      let last : Piece C = called (object o) (end_count args 1) in
      adds_nested_in (expr f e) up (p ▸ ends) last (adds_assoc (expr f e) up ((p ▸ ends) ▸ last) (adds_then s (adds_nested p ends last (adds_then q r))))

  takes_bytes : (k : Callee C) (n : ℕ) → TakesCaller k → n ≡ if_made k n
  takes_bytes (function x) n is = refl
  takes_bytes (method o x) n is = refl
  takes_bytes (block x) n is = absurd is
  takes_bytes (object o) n is = refl

module _ {C L F : Type 0} (f : Functions C F) where
  -- what a macro runs was added, which is passed by, and what makes the macro
  pub macro_added : {a b c d e k z : Made C} {t u : Around} {jump entry n : ℕ} (l : L) (x : Text) (args defaults : List (Expr C)) (body : Stmts C L) →
      Adds a b (one hole) → jump ≡ length a.code → entry ≡ length b.code → Adds b c (taking f (parameters args defaults)) → t ≡ nowhere → FollowsStmts f t c u d body → Adds d e (one Return) → k ≡ record e { code = slice_set e.code jump (Jump n) } → n ≡ reach (length e.code) → Adds k z (building f (macro l x args defaults body) entry) →
      Adds a z (macro_value f (macro l x args defaults body))
  macro_added {a} {b} {c} {d} {e} {k} {z} {t} {u} {jump} {entry} {n} l x args defaults body room at begins takes none follows ends filled to built =
      let m : Macro C L = macro l x args defaults body in
      let inner : Adds c d (leading_to outside (stmts f [] body)) = adds_outside {t = nowhere} (stmts f [] body) refl (subst (λ y. FollowsStmts f y c u d body) none follows) in
      let runs : Piece C = taking f (parameters args defaults) ▸ leading_to outside (stmts f [] body) ▸ one Return in
      let skipped : Adds a k (skipping Jump runs) = adds_skipping Jump (Jump n) jump room (adds_then takes (adds_then inner ends)) at (ap Jump (sym to)) filled in
      let all : Adds a z (making f m runs entry) = adds_then skipped built in
      let there : entry ≡ length a.code + 1 = begins ∙ adds_length room in
      record {
        code = all.code ∙ ap (λ y. a.code ++ map capped ((making f m runs y).code (here_of a))) there;
        past = all.past;
      }

  -- a macro that is stored under its name
  pub declare_follows : {t u : Around} {a b c : Made C} (m : Macro C L) → Adds a b (macro_value f m) → Counted (macro_bytes m) t u → Adds b c (one (Do StoreLocal (macro_name m) 1)) → FollowsStmt f t a u c (declare m)
  declare_follows m s k r = follows_counted (macro_bytes m) (macro_value f m ▸ one (Do StoreLocal (macro_name m) 1)) k.same k.bytes (adds_then s r)

  module _ (e : Expr C) (args : Args C) where
    pub call_block_follows : {t u : Around} {a b c d z : Made C} (m : Macro C L) → TakesCaller (callee e) → Adds a b (before_caller f (callee e) e args) → Adds b c (macro_value f m) → Counted (macro_bytes m) t u → Adds c d (behind_caller (callee e) args) → Adds d z (one (Do Emit [] 1)) → FollowsStmt f t a u z (call_block e args m)
    call_block_follows m is s q k r w =
        follows_bytes (takes_bytes f e args (callee e) (macro_bytes m) is) (follows_counted (macro_bytes m) (call_with f e args (macro_value f m) ▸ one (Do Emit [] 1)) k.same k.bytes (adds_then (called_with f e args (callee e) (macro_value f m) is s q r) w))

    -- a call of a block takes none along
    pub block_call_follows : (t : Around) {a b z : Made C} (m : Macro C L) → WholeBlock e a b → Adds b z (one (Do Emit [] 1)) → FollowsStmt f t a t z (call_block e args m)
    block_call_follows t {a} {b} {z} m s w =
        subst (λ k. Follows t a t z (if_made k (macro_bytes m)) (plain (call_of k (base f e) (expr f e) (λ n. arguments_with f args n (macro_value f m)) (argument_count_with args) ▸ one (Do Emit [] 1)))) (sym s.is)
        (follows_plain t (captured s.name ▸ one (Do Emit [] 1)) (adds_then s.added w))

module _ {V K C F : Type 0} (f : Functions C F) (v : V → C) where
  -- the same arguments and defaults
  pub take_as : {a b : Made C} {xs ys ds es : List (Node V K)} → xs ≡ ys → ds ≡ es → Adds a b (taking f (parameters (map (expr_tree v) xs) (map (expr_tree v) ds))) → Adds a b (taking f (parameters (map (expr_tree v) ys) (map (expr_tree v) es)))
  take_as {a} {b} {ys = ys} {ds} e k s =
      subst (λ zs. Adds a b (taking f (parameters (map (expr_tree v) ys) (map (expr_tree v) zs)))) k
      (subst (λ zs. Adds a b (taking f (parameters (map (expr_tree v) zs) (map (expr_tree v) ds)))) e s)

-- the bytes of the same body
pub macro_bytes_as : {V K C : Type 0} (v : V → C) (n m : ℕ) {xs ys : List (StmtNode V K)} → xs ≡ ys → min 18446744073709551615 n ≡ min 18446744073709551615 (m + all_data_bytes (body_of v xs)) → min 18446744073709551615 n ≡ min 18446744073709551615 (m + all_data_bytes (body_of v ys))
macro_bytes_as v n m e s = subst (λ zs. min 18446744073709551615 n ≡ min 18446744073709551615 (m + all_data_bytes (body_of v zs))) e s
