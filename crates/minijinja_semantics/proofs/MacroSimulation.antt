-- The code that makes macros, of calls with a caller, and of the arguments that a macro stores.
use Rattle.std.proofs.Common.{◌≡◌, ℕ, zero, suc, List, [], ◌∷◌, ◌++◌, length, Some, refl, sym, ap, ◌∙◌, subst, arith, length-append}
use Rattle.std.proofs.lemmas.List.{reverse-append}
use Rattle.std.specs.Prelude.{Bool, true, false, reverse}
use Rattle.minijinja_syntax.specs.Texts.{Text}
use Rattle.minijinja_value.specs.Values.{Functions}
use Rattle.minijinja_semantics.specs.Laws.{Laws}
use Rattle.minijinja_tree.specs.Callees.{Callee, function, method, block, object}
use Rattle.minijinja_tree.specs.Tree.{Expr, variable, Optional, absent, present, Args, Macro, macro, Parameter, defaulted, parameters}
use Rattle.minijinja_tree.specs.WellFormed.{IsWhole, IsWholeIfAny, AreArguments, IsTarget, IsVariable, AreVariables, AreAllWhole}
use Rattle.minijinja_semantics.specs.Events as events
use Rattle.minijinja_semantics.specs.Events.{Kind, BeginCapture, EndCapture, CallBlock, Capture, Enclose, GetClosure, CallFunction, CallMethod, CallObject, Gave, Ended, next, give, choose, ask, one_fits, event, get}
use Rattle.minijinja_semantics.specs.Macros.{caller, enclosed, macro_flags, argument_names}
use Rattle.minijinja_semantics.specs.Meaning.{Taken, nothing_yet, with_one, keyword_map, spread, call_of as call_meaning, expr as expr_meaning, base as base_meaning, optional as optional_meaning, positional as positional_meaning, keyword as keyword_meaning, arguments as arguments_meaning, assign, enclose, made, keyword_and_caller, store_arguments}
use Rattle.minijinja_semantics.specs.Code.{Instr, Load, Do, Call, BuildMacro, DiscardTop, Jump, JumpIfFalse, Return}
use Rattle.minijinja_semantics.specs.Pieces.{Here, behind, outside, Piece, one, ◌▸◌, leading_to}
use Rattle.minijinja_semantics.specs.Layout.{Count, count_positional, count_keyword, map_count, merged, spreading, call_of, expr, base, stmts, defaulting, taking, enclosing, count_with_caller, count_all_with_caller, up_to_caller, arguments_with, argument_count_with, macro_value}
use Rattle.minijinja_semantics.specs.Machine.{At, size, OneValue, pushed}
use Rattle.minijinja_semantics.specs.Places.{before_caller, placed_macro}
use Rattle.minijinja_semantics.proofs.Ways.{closure_placed, enclosed_by, flags_by}
use Rattle.minijinja_semantics.proofs.Placed.{World, Did, Act, Stretch}
use Rattle.minijinja_semantics.proofs.Runs.{Any, first, back, from, asks, step_comes}
use Rattle.minijinja_semantics.proofs.Lengths.{Exact, exact_to, grows, one_exact, then_exact, skipping_exact, merged_exact, spreading_exact, expr_exact, base_exact, positional_exact, keyword_exact, target_exact, stmts_exact, defaulting_exact, taking_exact, enclosing_exact, up_to_caller_exact, arguments_with_exact, macro_exact}
use Rattle.minijinja_semantics.proofs.Parts.{next_assoc, Simulates, SimulatesAt, here_sim, here_then, here_same, sim_then, sim_before, sim_from, sim_same, sim_nothing, sim_plain, sim_do_get, sim_do_tell, sim_skipped}
use Rattle.minijinja_semantics.proofs.Arguments.{Matches, matches_one, laid, laid_pairs, laid_pair, pushed_append, merged_sim, IsReady, ready, none_counted, spreading_sim}
use Rattle.minijinja_semantics.proofs.Simulation.{call_sim, expr_sim, base_sim, positional_sim, keyword_sim}
use Rattle.minijinja_semantics.proofs.Targets.{assign_sim}

pub choose_same : {C F X : Type 0} (b : Bool) (m : Act C F X) (w : World C) → m w ≡ choose b m m w
unfolding choose
choose_same true m w = refl
choose_same false m w = refl

-- what is done after two things, of which the second is another one joined to what was there
module _ {C F T K V X : Type 0} (makes : Act C F V) (join : K → V → K) (last : T → K → Act C F X) where
  made_last : (t : T) (k : K) (d : Did C F V) → next d (λ v. last t (join k v)) ≡ next (next d (λ v. give (join k v))) (last t)
  unfolding next
  made_last t k (Gave w v) = refl
  made_last t k (Ended w e) = refl

  keys_last : (t : T) (d : Did C F K) → next (next d (λ k. give (t, k))) (λ (x : T × K) w. next (makes w) (λ v. last x.0 (join x.1 v))) ≡ next (next d (λ k w. next (makes w) (λ v. give (join k v)))) (last t)
  unfolding next
  keys_last t (Gave w k) = made_last t k (makes w)
  keys_last t (Ended w e) = refl

  arranged : (d : Did C F T) (keys : Act C F K) → next (next d (λ t w. next (keys w) (λ k. give (t, k)))) (λ (x : T × K) w. next (makes w) (λ v. last x.0 (join x.1 v))) ≡ next d (λ t w. next (next (keys w) (λ k w. next (makes w) (λ v. give (join k v)))) (last t))
  unfolding next
  arranged (Gave w t) keys = keys_last t (keys w)
  arranged (Ended w e) keys = refl

one_kept : (b n : ℕ) → map_count b (suc n) ≡ 1
unfolding map_count
one_kept zero n = refl
one_kept (suc b) n = refl

-- the arguments of a macro may be assigned to, and their defaults are whole
abbrev pub AreParameters : {C : Type 0} → List (Parameter C) → Type 0
AreParameters [] = Unit {0}
AreParameters (p ∷ ps) = IsTarget p.target × IsWholeIfAny p.default × AreParameters ps

pub variable_target : {C : Type 0} (e : Expr C) → IsVariable e → IsTarget e
variable_target (variable x) is = tt
variable_target e is = absurd is

pub variable_whole : {C : Type 0} (e : Expr C) → IsVariable e → IsWhole e
variable_whole (variable x) is = tt
variable_whole e is = absurd is

module _ {C : Type 0} where
  variables_then : (es : List (Expr C)) (e : Expr C) → AreVariables es → IsVariable e → AreVariables (es ++ e ∷ [])
  variables_then [] e a b = (b, tt)
  variables_then (x ∷ es) e a b = (a.0, variables_then es e a.1 b)

  variables_reversed : (es : List (Expr C)) → AreVariables es → AreVariables (reverse es)
  variables_reversed [] a = tt
  variables_reversed (e ∷ es) a = subst AreVariables (sym (reverse-append (e ∷ []) es)) (variables_then (reverse es) e (variables_reversed es a.1) a.0)

  whole_then : (es : List (Expr C)) (e : Expr C) → AreAllWhole es → IsWhole e → AreAllWhole (es ++ e ∷ [])
  whole_then [] e a b = (b, tt)
  whole_then (x ∷ es) e a b = (a.0, whole_then es e a.1 b)

  whole_reversed : (es : List (Expr C)) → AreAllWhole es → AreAllWhole (reverse es)
  whole_reversed [] a = tt
  whole_reversed (e ∷ es) a = subst AreAllWhole (sym (reverse-append (e ∷ []) es)) (whole_then (reverse es) e (whole_reversed es a.1) a.0)

  are_defaulted : (es ds : List (Expr C)) → AreVariables es → AreAllWhole ds → AreParameters (defaulted es ds)
  are_defaulted [] ds a b = tt
  are_defaulted (e ∷ es) [] a b = (variable_target e a.0, tt, are_defaulted es [] a.1 tt)
  are_defaulted (e ∷ es) (d ∷ ds) a b = (variable_target e a.0, b.0, are_defaulted es ds a.1 b.1)

  pub are_parameters : (args defaults : List (Expr C)) → AreVariables args → AreAllWhole defaults → AreParameters (parameters args defaults)
  are_parameters args defaults a b = are_defaulted (reverse args) (reverse defaults) (variables_reversed args a) (whole_reversed defaults b)

module _ {C F : Type 0} (f : Functions C F) (laws : Laws f) (code : List (Instr C)) (to : Stretch) where
  -- ---- macros that are made

  enclosing_sim : (xs : List Text) (ops : List C) → Simulates f code to (enclosing xs) ops Any (λ _. ops) (enclose xs)
  enclosing_sim [] ops = sim_nothing tt tt
  enclosing_sim (x ∷ xs) ops = sim_then (one_exact _) (enclosing_exact xs) (sim_do_tell Enclose x [] ops refl) (λ _ _. enclosing_sim xs ops)

  build_sim : (x : Text) (entry flags : ℕ) (closure names : C) (ops : List C) → Simulates f code to (one (BuildMacro x entry flags)) (names ∷ closure ∷ ops) Any (λ v. v ∷ ops) (ask one_fits (event (Some entry) (events.BuildMacro flags) x (closure ∷ names ∷ [])))
  build_sim x entry flags closure names ops = record {
    gives = λ h ls w few le stand.
        asks f code to Any (λ v. v ∷ ops) one_fits (event (Some entry) (events.BuildMacro flags) x (closure ∷ names ∷ [])) (names ∷ closure ∷ ops) ls ls w (λ vs y _ _. tt) (omega arith) (first code stand) refl few;
  }

  -- a macro is made that takes these names along
  abbrev Along : Text → ℕ → C → List Text → ℕ → Act C F C
  Along x entry names xs flags = λ w. next (enclose xs w) (λ _ w. next (get GetClosure [] [] w) (λ closure. ask one_fits (event (Some entry) (events.BuildMacro flags) x (closure ∷ names ∷ []))))

  closure_exact : (xs : List Text) (i j : Instr C) → Exact (enclosing xs ▸ one (Do GetClosure [] 0) ▸ one i ▸ one j)
  closure_exact xs i j = then_exact (enclosing_exact xs) (then_exact (one_exact _) (then_exact (one_exact i) (one_exact j)))

  closure_sim : (x : Text) (entry : ℕ) (names : C) (xs : List Text) (flags : ℕ) (ops : List C) → Simulates f code to (enclosing xs ▸ one (Do GetClosure [] 0) ▸ one (Load names) ▸ one (BuildMacro x entry flags)) ops Any (λ v. v ∷ ops) (Along x entry names xs flags)
  closure_sim x entry names xs flags ops =
      let last = then_exact (one_exact (Load names)) (one_exact (BuildMacro x entry flags)) in
      sim_then (enclosing_exact xs) (then_exact (one_exact _) last) (enclosing_sim xs ops) λ _ _.
      sim_then (one_exact _) last (sim_do_get GetClosure [] [] ops refl) λ closure _.
      sim_before (one_exact _) (one_exact _) (sim_plain {put = λ _. names ∷ closure ∷ ops} tt (λ p ls w. refl) tt) (build_sim x entry flags closure names ops)

  pub macro_sim : {L : Type 0} (m : Macro C L) (h : Here) (ops : List C) → SimulatesAt f code to h (macro_value f m) ops Any (λ v. v ∷ ops) (made f (placed_macro f m h))
  macro_sim (macro n x args defaults body) h ops =
      let m = macro n x args defaults body in
      let there = placed_macro f m h in
      let e = closure_placed f m h in
      let runs : Piece C = taking f (parameters args defaults) ▸ leading_to outside (stmts f [] body) ▸ one Return in
      let exact : Exact runs = then_exact (taking_exact f (parameters args defaults)) (then_exact (exact_to (stmts_exact f body []) outside) (one_exact Return)) in
      let entry = (behind 1 h).place in
      let q = runs.past (behind 1 h) in
      let names = argument_names f args in
      here_same (λ w. ap (λ xs. Along x entry names xs (macro_flags m) w) (sym (enclosed_by there m e)) ∙ ap (λ flags. Along x entry names (enclosed there) flags w) (sym (flags_by there m e)))
      (record {
        gives = λ ls w few le stand.
            let more = grows exact (behind 1 h) in
            let most = grows (closure_exact (enclosed m) (Load names) (BuildMacro x entry (macro_flags m))) q in
            from f code to (omega arith) (step_comes f code to ops ls w (At q.place ops ls w) q.place refl (omega arith) (first code stand) refl (omega arith))
            ((closure_sim x entry names (enclosed m) (macro_flags m) ops).gives q ls w few le (back code (Jump q.place ∷ runs.code (behind 1 h)) _ ((skipping_exact Jump exact).ends h) stand));
      })

  -- ---- calls that take one along

  up_to_caller_sim : (args : Args C) → AreArguments args → (before : List C) (n : ℕ) (ops : List C) → length before ≡ n → Simulates f code to (up_to_caller f args n) (pushed before ops) (λ (x : Taken C C × Taken C (C × C)). Matches (count_positional args (record { batches = 0; waiting = n })) x.0 × Matches (count_keyword args none_counted) x.1) (λ x. f.of_str caller ∷ laid_pairs x.1 (laid x.0 ops)) (λ w. next (positional_meaning f args (record { batches = []; waiting = before }) w) (λ t w. next (keyword_meaning f args nothing_yet w) (λ k. give (t, k))))
  up_to_caller_sim args is before n ops many =
      let keys = then_exact (keyword_exact f args 0) (one_exact (Load (f.of_str caller))) in
      sim_then (positional_exact f args n) keys (positional_sim f laws code to args is (record { batches = []; waiting = before }) (record { batches = 0; waiting = n }) ops (record { batches = refl; waiting = many })) λ t ok.
      sim_then (keyword_exact f args 0) (one_exact _) (keyword_sim f laws code to args is nothing_yet none_counted (laid t ops) (record { batches = refl; waiting = refl })) λ k ok'.
      sim_plain (t, k) (λ p ls w. refl) (ok, ok')

  with_caller_sim : {L : Type 0} (args : Args C) → AreArguments args → (m : Macro C L) (before : List C) (n : ℕ) (ops : List C) → length before ≡ n → (h : Here) → SimulatesAt f code to h (arguments_with f args n (macro_value f m)) (pushed before ops) (IsReady (count_all_with_caller args n).batches (count_all_with_caller args n).waiting) (λ us. ready f (count_all_with_caller args n).batches us ops) (arguments_meaning f (positional_meaning f args (record { batches = []; waiting = before })) (keyword_and_caller f args (placed_macro f m ((up_to_caller f args n).past h))))
  with_caller_sim args is m before n ops many h =
      let there = (up_to_caller f args n).past h in
      let k : Count = count_with_caller args in
      let c : Count = count_all_with_caller args n in
      let em : Exact {C = C} (merged k.batches k.waiting) = merged_exact k.batches k.waiting in
      let es : Exact {C = C} (spreading c.batches c.waiting) = spreading_exact c.batches c.waiting in
      let last = then_exact em es in
      let kept = one_kept k.batches (count_keyword args none_counted).waiting in
      here_same (λ w. arranged (made f (placed_macro f m there)) (λ t v. with_one (f.of_str caller, v) t) (λ t ks w. next (keyword_map f ks.batches ks.waiting w) (λ us. spread f t.batches (t.waiting ++ us))) (positional_meaning f args (record { batches = []; waiting = before }) w) (keyword_meaning f args nothing_yet))
      (here_then (up_to_caller_exact f args n) (then_exact (macro_exact f m) last) (here_sim (up_to_caller_sim args is before n ops many)) λ x ok.
      here_then (macro_exact f m) last (macro_sim m there (f.of_str caller ∷ laid_pairs x.1 (laid x.0 ops))) λ v _.
      let ks : Taken C (C × C) = with_one (f.of_str caller, v) x.1 in
      let all : Matches k ks = matches_one (f.of_str caller, v) ok.1 in
      here_sim (sim_from (laid_pair (f.of_str caller) v x.1 (laid x.0 ops))
      (sim_then em es (merged_sim ks.batches ks.waiting k.batches k.waiting (laid x.0 ops) all.batches all.waiting) λ us maps.
      sim_from (sym (pushed_append x.0.waiting us (pushed x.0.batches ops)))
      (spreading_sim x.0.batches (x.0.waiting ++ us) c.batches c.waiting ops ok.0.batches (omega (arith, length-append x.0.waiting us, ok.0.waiting, maps, kept))))))

  call_with_then : {L : Type 0} (k : Kind) (x : Text) → size k ≡ OneValue → (args : Args C) → AreArguments args → (m : Macro C L) (before : List C) (n : ℕ) (ops : List C) → length before ≡ n → (h : Here) → SimulatesAt f code to h (arguments_with f args n (macro_value f m) ▸ one (Call k x (argument_count_with args n))) (pushed before ops) Any (λ v. v ∷ ops) (λ w. next (arguments_meaning f (positional_meaning f args (record { batches = []; waiting = before })) (keyword_and_caller f args (placed_macro f m ((up_to_caller f args n).past h))) w) (get k x))
  call_with_then k x one_value args is m before n ops many h =
      let c : Count = count_all_with_caller args n in
      here_then (arguments_with_exact f args n (macro_exact f m)) (one_exact _) (with_caller_sim args is m before n ops many h) (λ vs ok. here_sim (call_sim f laws code to k x c.batches c.waiting vs ops ok one_value))

  -- by what is called
  pub called_with_sim : {L : Type 0} (c : Callee C) (e : Expr C) (args : Args C) (m : Macro C L) (ops : List C) (h : Here) → IsWhole e → AreArguments args → SimulatesAt f code to h (call_of c (base f e) (expr f e) (λ n. arguments_with f args n (macro_value f m)) (argument_count_with args)) ops Any (λ v. v ∷ ops) (call_meaning c (base_meaning f e) (expr_meaning f e) (λ t. arguments_meaning f (positional_meaning f args t) (keyword_and_caller f args (placed_macro f m ((before_caller f c e args).past h)))))
  called_with_sim (function x) e args m ops h is are = call_with_then CallFunction x refl args are m [] 0 ops refl h
  called_with_sim (method o x) e args m ops h is are =
      here_then (base_exact f e) (then_exact (arguments_with_exact f args 1 (macro_exact f m)) (one_exact _)) (here_sim (base_sim f laws code to e is ops)) λ v _.
      call_with_then CallMethod x refl args are m (v ∷ []) 1 ops refl ((base f e).past h)
  called_with_sim (block x) e args m ops h is are =
      here_sim (sim_then (one_exact _) (then_exact (one_exact _) (one_exact _)) (sim_do_tell (BeginCapture Capture) [] [] ops refl) λ _ _.
      sim_then (one_exact _) (one_exact _) (sim_do_tell CallBlock x [] ops refl) λ _ _.
      sim_do_get EndCapture [] [] ops refl)
  called_with_sim (object o) e args m ops h is are =
      here_then (expr_exact f e) (then_exact (arguments_with_exact f args 1 (macro_exact f m)) (one_exact _)) (here_sim (expr_sim f laws code to e is ops)) λ v _.
      call_with_then CallObject [] refl args are m (v ∷ []) 1 ops refl ((expr f e).past h)

  -- ---- what a macro stores

  defaulting_sim : (d : Optional C) → IsWholeIfAny d → (v : C) (ops : List C) → Simulates f code to (defaulting f d) (v ∷ ops) Any (λ u. u ∷ ops) (choose (f.is_undefined v) (optional_meaning f v d) (give v))
  defaulting_sim absent is v ops = sim_same (λ w. choose_same (f.is_undefined v) (give v) w) (sim_nothing v tt)
  defaulting_sim (present e) is v ops =
      let given = then_exact (one_exact DiscardTop) (expr_exact f e) in
      let skips = skipping_exact JumpIfFalse given in
      sim_before (one_exact _) (then_exact (one_exact _) skips) (sim_plain {put = λ _. v ∷ v ∷ ops} tt (λ p ls w. refl) tt)
      (sim_before (one_exact _) skips (sim_plain {put = λ _. f.of_bool (f.is_undefined v) ∷ v ∷ ops} tt (λ p ls w. refl) tt)
      (sim_skipped {put = λ u. u ∷ ops} (f.is_undefined v) (f.of_bool (f.is_undefined v)) v (laws.truth (f.is_undefined v)) tt given
      (sim_before (one_exact _) (expr_exact f e) (sim_plain {put = λ _. ops} tt (λ p ls w. refl) tt) (expr_sim f laws code to e is ops))))

  pub taking_sim : (ps : List (Parameter C)) (vs ops : List C) → AreParameters ps → length vs ≡ length ps → Simulates f code to (taking f ps) (vs ++ ops) Any (λ _. ops) (store_arguments f ps vs)
  taking_sim [] [] ops is many = sim_nothing tt tt
  taking_sim [] (v ∷ vs) ops is many = absurd (omega arith)
  taking_sim (p ∷ ps) [] ops is many = absurd (omega arith)
  taking_sim (p ∷ ps) (v ∷ vs) ops is many =
      let others = taking_exact f ps in
      let stores = then_exact (target_exact f p.target) others in
      sim_same (λ w. sym (next_assoc (choose (f.is_undefined v) (optional_meaning f v p.default) (give v) w) (λ u. assign f p.target u) (λ _. store_arguments f ps vs)))
      (sim_then (defaulting_exact f p.default) stores (defaulting_sim p.default is.1 v (vs ++ ops)) λ u _.
      sim_then (target_exact f p.target) others (assign_sim f laws code to p.target u (vs ++ ops) is.0) λ _ _.
      taking_sim ps vs ops is.2 (omega arith))
