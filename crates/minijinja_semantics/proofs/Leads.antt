-- Instructions lead within the list, and back only to where a loop asks for its next item.
use Rattle.std.proofs.Common.{◌≡◌, ℕ, zero, suc, ◌+◌, ◌<◌, ◌≤◌, List, [], ◌∷◌, ◌++◌, length, Option, Some, None, refl, sym, ap, ◌∙◌, subst, arith}
use Rattle.std.specs.Prelude.{Bool, true, false, IsTrue, slice_get}
use Rattle.minijinja_syntax.specs.Texts.{Text}
use Rattle.minijinja_value.specs.Values.{Functions}
use Rattle.minijinja_tree.specs.CompareOps.{CompareOp, eq, ne, lt, lte, gt, gte, is_in, not_in}
use Rattle.minijinja_tree.specs.Operators.{Working, Makes, Divides, IfTrue, IfFalse, working, Add}
use Rattle.minijinja_tree.specs.Callees.{Callee, function, method, block, object, callee}
use Rattle.minijinja_tree.specs.Folding.{fold, constant_keywords, fold_keywords}
use Rattle.minijinja_tree.specs.Tree.{UnaryOp, logical_not, negation, Expr, variable, constant, slice, unary, binary, compare, if_expr, filter, test, attribute, item, call, list, tuple, map, Optional, absent, present, Exprs, no_more, more, Comparisons, compared, against, Args, no_args, pos, pos_splat, kwarg, kwarg_splat, Stmt, template, data_text, output, assignment, for_loop, if_cond, with_block, set_block, auto_escape, filter_block, named_block, extends, include, import_all, from_import, declare, call_block, do_call, break_loop, continue_loop, Stmts, done, also, Macro, macro, Parameter, parameters, stored_as, are_any}
use Rattle.minijinja_tree.specs.WellFormed.{IsInner, AreInner, IsMacro, IsWellFormed}
use Rattle.minijinja_semantics.specs.Calls.{Written, Super, Recursion, BlockOf, Plain, written}
use Rattle.minijinja_semantics.specs.Code.{Instr, Load, Operate, Swap, PopLoopFrame, Jump, JumpIfFalse, BuildList, BuildKwargs, BuildMacro, DiscardTop, JumpIfFalseOrPop, JumpIfTrueOrPop}
use Rattle.minijinja_semantics.specs.Events.{CaptureMode}
use Rattle.minijinja_semantics.specs.Macros.{enclosed}
use Rattle.minijinja_semantics.specs.Jumps.{jump_target, IsIterate, MayLead, LeadsWell}
use Rattle.minijinja_semantics.specs.Pieces.{Here, behind, start, Piece, Leading, Exits, outside, Open, OpenScope, OpenAutoEscape, OpenCapture, nothing, one, ◌▸◌, plain, leading_to, ◌▹◌, skipping, branches, skipping_out, branches_out, turning, closing_instructions, leaving}
use Rattle.minijinja_semantics.specs.Layout as layout
use Rattle.minijinja_semantics.specs.Layout.{folded, unary_instr, operation, comparison, Failing, and_then, chained, paired, batch, merged, spreading, arguments, argument_count, Count, count_keyword, apply_filter, perform_test, call_of, expr, base, optional, operand, items, each, chain, comparisons, positional, keyword, targets, assignments, passing, popping, looping, if_true, either, filters, defaulting, taking, enclosing, making, entered, arguments_with, argument_count_with, call_with, looking_up, storing_back, within, write, stmt, stmts, macro_value, block_code, stmt_code, expr_code}
use Rattle.minijinja_semantics.proofs.Runs.{first, Stands, stands_behind, front, back, rest}
use Rattle.minijinja_semantics.proofs.Roots.{at_root}
use Rattle.minijinja_semantics.proofs.Lengths.{Exact, LeadingExact, exact_to, grows, one_exact, then_exact, branches_exact, batch_exact, merged_exact, spreading_exact, folded_exact, operation_exact, AllExact, paired_exact, arguments_exact, filter_exact, test_exact, expr_exact, base_exact, optional_exact, operand_exact, items_exact, each_exact, chain_exact, comparisons_exact, positional_exact, keyword_exact, plain_exact, and_exact, turning_exact, popping_exact, if_true_exact, either_exact, target_exact, targets_exact, assignments_exact, counting_exact, keeping_exact, passing_exact, looping_exact, filters_exact, skipping_exact, defaulting_exact, taking_exact, enclosing_exact, making_exact, making_past, up_to_caller_exact, arguments_with_exact, looking_up_exact, storing_back_exact, call_with_exact, within_exact, macro_exact, stmt_exact, stmts_exact}

-- the place where what a macro runs begins, by the instruction that makes it
abbrev pub entry_of : {C : Type 0} → Instr C → Option ℕ
entry_of (BuildMacro x l flags) = Some l
entry_of _ = None

-- what leads elsewhere makes no macro
no_entry : {C : Type 0} (i : Instr C) (l : ℕ) → jump_target i ≡ Some l → entry_of i ≡ None
no_entry (BuildMacro x k flags) l e = absurd (cc)
no_entry i l e = refl

module _ {C : Type 0} (code : List (Instr C)) where
  -- an instruction at this place leads well, and a macro that it makes begins within the list
  pub record LeadsAt (p : ℕ) (i : Instr C) : Type 0 where
    pub leads : (l : ℕ) → jump_target i ≡ Some l → MayLead code p l
    pub enters : (l : ℕ) → entry_of i ≡ Some l → l ≤ length code

  -- instructions that stand from this place on do
  abbrev pub AllLead : ℕ → List (Instr C) → Type 0
  AllLead p [] = Unit {0}
  AllLead p (i ∷ is) = LeadsAt p i × AllLead (p + 1) is

  all_lead_append : (p q : ℕ) (a b : List (Instr C)) → p + length a ≡ q → AllLead p a → AllLead q b → AllLead p (a ++ b)
  all_lead_append p q [] b e h k = let same : q ≡ p = omega arith in subst (λ n. AllLead n b) same k
  all_lead_append p q (i ∷ a) b e h k = (h.0, all_lead_append (p + 1) q a b (omega arith) h.1 k)

  -- a piece's instructions do, wherever it stands
  pub record Leads (p : Piece C) : Type 0 where
    pub leads : (h : Here) → (p.past h).place ≤ length code → Stands code h.place (p.code h) → AllLead h.place (p.code h)

  -- where a loop's exits may stand for what lies before a place
  pub record AreExits (x : Exits) (q : ℕ) : Type 0 where
    pub breaks : (p : ℕ) → p < q → MayLead code p x.break_to
    pub continues : (p : ℕ) → p < q → MayLead code p x.continue_to

  fewer_exits : {x : Exits} {p q : ℕ} → AreExits x q → p ≤ q → AreExits x p
  fewer_exits e le = record { breaks = λ n lt. e.breaks n (omega arith); continues = λ n lt. e.continues n (omega arith) }

  -- the same of a piece that may stand in a loop, and then leads to the loop's exits
  pub record LeadsOut (in_loop : Bool) (p : Leading Exits C) : Type 0 where
    pub leads : (x : Exits) (h : Here) → (IsTrue in_loop → AreExits x (p.past h).place) → (p.past h).place ≤ length code → Stands code h.place (p.code x h) → AllLead h.place (p.code x h)

  -- of comparisons that lead on to where one of them fails
  pub record LeadsOn (p : Failing C) : Type 0 where
    pub leads : (failed : ℕ) (h : Here) → (p.past h).place < failed → failed ≤ length code → Stands code h.place (p.code failed h) → AllLead h.place (p.code failed h)

  -- each piece leads well
  abbrev AllPiecesLead : List (Piece C) → Type 0
  AllPiecesLead [] = Unit {0}
  AllPiecesLead (p ∷ ps) = Leads p × AllPiecesLead ps

  -- an instruction that may lead to a place
  leads_there : (p l : ℕ) (i : Instr C) → jump_target i ≡ Some l → MayLead code p l → LeadsAt p i
  leads_there p l i e may = record {
    leads = λ m same. let there : l ≡ m = cc (e, same) in subst (λ k. MayLead code p k) there may;
    enters = λ m same. absurd (cc (no_entry i l e, same));
  }

  -- a jump that leads on within the list
  leads_on : (p l : ℕ) (i : Instr C) → jump_target i ≡ Some l → p < l → l ≤ length code → LeadsAt p i
  leads_on p l i e on inside = leads_there p l i e (record { within = inside; back = λ le. absurd (omega arith) })

  -- an instruction that leads nowhere else
  leads_nowhere : (p : ℕ) (i : Instr C) → jump_target i ≡ None → entry_of i ≡ None → LeadsAt p i
  leads_nowhere p i e none = record { leads = λ l same. absurd (cc (e, same)); enters = λ l same. absurd (cc (none, same)) }

  closing_leads : (os : List Open) (p : ℕ) → AllLead p (closing_instructions os)
  closing_leads [] p = tt
  closing_leads (OpenScope ∷ os) p = (leads_nowhere p _ refl refl, closing_leads os (p + 1))
  closing_leads (OpenAutoEscape ∷ os) p = (leads_nowhere p _ refl refl, closing_leads os (p + 1))
  closing_leads (OpenCapture ∷ os) p = (leads_nowhere p _ refl refl, (leads_nowhere (p + 1) _ refl refl, closing_leads os (p + 1 + 1)))

module _ {C : Type 0} {code : List (Instr C)} where
  leads_nothing : Leads code nothing
  leads_nothing = record { leads = λ h le stand. tt }

  leads_one : (i : Instr C) → jump_target i ≡ None → entry_of i ≡ None → Leads code (one i)
  leads_one i e none = record { leads = λ h le stand. (leads_nowhere code h.place i e none, tt) }

  -- what makes a macro that begins within the list
  leads_making : (x : Text) (l flags : ℕ) → l ≤ length code → Leads code (one (BuildMacro x l flags))
  leads_making x l flags inside = record {
    leads = λ h le stand.
        let at : LeadsAt code h.place (BuildMacro x l flags) = record {
          leads = λ m same. absurd (cc);
          enters = λ m same. let there : l ≡ m = cc in subst (λ k. k ≤ length code) there inside;
        } in
        (at, tt);
  }

  leads_then : {p q : Piece C} → Exact p → Exact q → Leads code p → Leads code q → Leads code (p ▸ q)
  leads_then {p} {q} e e' a b = record {
    leads = λ h le stand.
        let more = grows e' (p.past h) in
        all_lead_append code h.place (p.past h).place (p.code h) (q.code (p.past h)) (e.ends h) (a.leads h (omega arith) (front code _ _ stand)) (b.leads (p.past h) le (back code (p.code h) _ (e.ends h) stand));
  }

  leads_filter : (x : Text) (n : Option ℕ) → Leads code (apply_filter x n)
  leads_filter x n = record { leads = λ h le stand. (leads_nowhere code h.place _ refl refl, tt) }

  leads_test : (x : Text) (n : Option ℕ) → Leads code (perform_test x n)
  leads_test x n = record { leads = λ h le stand. (leads_nowhere code h.place _ refl refl, tt) }

  leads_skipping : (jump : ℕ → Instr C) → ((l : ℕ) → jump_target (jump l) ≡ Some l) → {p : Piece C} → Exact p → Leads code p → Leads code (skipping jump p)
  leads_skipping jump e {p} x a = record {
    leads = λ h le stand.
        let more = grows x (behind 1 h) in
        let l = (p.past (behind 1 h)).place in
        (leads_on code h.place l _ (e l) (omega arith) le, a.leads (behind 1 h) le (rest code stand));
  }

  leads_branches : {p q : Piece C} → Exact p → Exact q → Leads code p → Leads code q → Leads code (branches p q)
  leads_branches {p} {q} e e' a b = record {
    leads = λ h le stand.
        let other : Here = behind 1 (p.past (behind 1 h)) in
        let more = grows e (behind 1 h) in
        let most = grows e' other in
        let inner = rest code stand in
        let stand' = rest code (back code (p.code (behind 1 h)) _ (e.ends (behind 1 h)) inner) in
        let jump = leads_on code (p.past (behind 1 h)).place (q.past other).place (Jump (q.past other).place) refl (omega arith) le in (
          leads_on code h.place other.place _ refl (omega arith) (omega arith),
          all_lead_append code (h.place + 1) (p.past (behind 1 h)).place (p.code (behind 1 h)) _ (e.ends (behind 1 h)) (a.leads (behind 1 h) (omega arith) (front code _ _ inner)) (jump, b.leads other le stand'),
        );
  }

  leads_folded : (r : Option C) {p : Piece C} → Leads code p → Leads code (folded r p)
  unfolding folded
  leads_folded None a = a
  leads_folded (Some c) a = leads_one _ refl refl

  leads_unary : (o : UnaryOp) → Leads code (one (unary_instr o))
  leads_unary logical_not = leads_one _ refl refl
  leads_unary negation = leads_one _ refl refl

  leads_operation : (k : Working) {p : Piece C} → Exact p → Leads code p → Leads code (operation k p)
  leads_operation (Makes o) e a = leads_then e (one_exact _) a (leads_one _ refl refl)
  leads_operation Divides e a = leads_then e (one_exact _) a (leads_one _ refl refl)
  leads_operation IfTrue e a = leads_skipping JumpIfFalseOrPop (λ l. refl) e a
  leads_operation IfFalse e a = leads_skipping JumpIfTrueOrPop (λ l. refl) e a

  leads_comparison : (o : CompareOp) → Leads code (comparison o)
  leads_comparison eq = leads_one _ refl refl
  leads_comparison ne = leads_one _ refl refl
  leads_comparison lt = leads_one _ refl refl
  leads_comparison lte = leads_one _ refl refl
  leads_comparison gt = leads_one _ refl refl
  leads_comparison gte = leads_one _ refl refl
  leads_comparison is_in = leads_one _ refl refl
  leads_comparison not_in = leads_then (one_exact _) (one_exact _) (leads_one _ refl refl) (leads_one _ refl refl)

  leads_last : {p : Piece C} → Leads code p → LeadsOn code (plain p)
  leads_last a = record { leads = λ failed h on le stand. a.leads h (omega arith) stand }

  leads_and_then : (o : CompareOp) {p : Piece C} {r : Failing C} → Exact p → LeadingExact r → Leads code p → LeadsOn code r → LeadsOn code (and_then o p r)
  leads_and_then o {p} {r} e e' a b = record {
    leads = λ failed h on le stand.
        let h2 : Here = behind 1 (behind 1 h) in
        let more = grows e h2 in
        let most = grows (exact_to e' failed) (p.past h2) in
        let inner = rest code (rest code stand) in
        let jump = leads_on code (h.place + 1) failed (JumpIfFalseOrPop failed) refl (omega arith) le in (
          leads_nowhere code h.place _ refl refl,
          (
            jump,
            all_lead_append code (h.place + 1 + 1) (p.past h2).place (p.code h2) _ (e.ends h2) (a.leads h2 (omega arith) (front code _ _ inner)) (b.leads failed (p.past h2) on le (back code (p.code h2) _ (e.ends h2) inner)),
          ),
        );
  }

  leads_chained : {p : Piece C} {r : Failing C} → Exact p → LeadingExact r → Leads code p → LeadsOn code r → Leads code (chained p r)
  leads_chained {p} {r} e e' a b = record {
    leads = λ h le stand.
        let q = (r.past (p.past h)).place in
        let most = grows (exact_to e' (q + 1)) (p.past h) in
        let inner = back code (p.code h) _ (e.ends h) stand in
        let jump = leads_on code q (q + 1 + 1 + 1) (Jump (q + 1 + 1 + 1)) refl (omega arith) le in
        let swap = leads_nowhere code (q + 1) Swap refl refl in
        let drop = leads_nowhere code (q + 1 + 1) DiscardTop refl refl in
        all_lead_append code h.place (p.past h).place (p.code h) _ (e.ends h) (a.leads h (omega arith) (front code _ _ stand))
        (all_lead_append code (p.past h).place q (r.code (q + 1) (p.past h)) _ (e'.ends (q + 1) (p.past h)) (b.leads (q + 1) (p.past h) (omega arith) (omega arith) (front code _ _ inner)) (jump, (swap, (drop, tt))));
  }

  leads_paired : (ps qs : List (Piece C)) → AllExact ps → AllExact qs → AllPiecesLead code ps → AllPiecesLead code qs → Leads code (paired ps qs)
  leads_paired [] qs e e' a b = leads_nothing
  leads_paired (p ∷ ps) [] e e' a b = leads_nothing
  leads_paired (p ∷ ps) (q ∷ qs) e e' a b = leads_then e.0 (then_exact e'.0 (paired_exact ps qs e.1 e'.1)) a.0 (leads_then e'.0 (paired_exact ps qs e.1 e'.1) b.0 (leads_paired ps qs e.1 e'.1 a.1 b.1))

  leads_batch : (build : ℕ → Instr C) (n : ℕ) → ((m : ℕ) → jump_target (build m) ≡ None) → ((m : ℕ) → entry_of (build m) ≡ None) → Leads code (batch build n)
  leads_batch build zero e none = leads_nothing
  leads_batch build (suc n) e none = leads_one _ (e (suc n)) (none (suc n))

  leads_merged : (b n : ℕ) → Leads code (merged b n)
  unfolding merged
  leads_merged zero zero = leads_nothing
  leads_merged zero (suc n) = leads_one _ refl refl
  leads_merged (suc b) n = leads_then (batch_exact BuildKwargs n) (one_exact _) (leads_batch BuildKwargs n (λ m. refl) (λ m. refl)) (leads_one _ refl refl)

  leads_spreading : (b n : ℕ) → Leads code (spreading b n)
  unfolding spreading
  leads_spreading zero n = leads_nothing
  leads_spreading (suc b) n = leads_then (batch_exact (λ n. BuildList (Some n)) n) (one_exact _) (leads_batch (λ n. BuildList (Some n)) n (λ m. refl) (λ m. refl)) (leads_one _ refl refl)

  leads_plain : {l : Bool} {p : Piece C} → Leads code p → LeadsOut code l (plain p)
  leads_plain a = record { leads = λ x h exits le stand. a.leads h le stand }

  leads_and : {l : Bool} {p q : Leading Exits C} → LeadingExact p → LeadingExact q → LeadsOut code l p → LeadsOut code l q → LeadsOut code l (p ▹ q)
  leads_and {p} {q} e e' a b = record {
    leads = λ x h exits le stand.
        let more = grows (exact_to e' x) (p.past h) in
        let before = (λ (is : IsTrue _). fewer_exits code (exits is) more) in
        all_lead_append code h.place (p.past h).place (p.code x h) _ (e.ends x h) (a.leads x h before (omega arith) (front code _ _ stand)) (b.leads x (p.past h) exits le (back code (p.code x h) _ (e.ends x h) stand));
  }

  leads_skipping_out : {l : Bool} (jump : ℕ → Instr C) → ((l : ℕ) → jump_target (jump l) ≡ Some l) → {p : Leading Exits C} → LeadingExact p → LeadsOut code l p → LeadsOut code l (skipping_out jump p)
  leads_skipping_out jump e {p} x a = record {
    leads = λ exits h are le stand.
        let more = grows (exact_to x exits) (behind 1 h) in
        let l = (p.past (behind 1 h)).place in
        (leads_on code h.place l _ (e l) (omega arith) le, a.leads exits (behind 1 h) are le (rest code stand));
  }

  leads_branches_out : {l : Bool} {p q : Leading Exits C} → LeadingExact p → LeadingExact q → LeadsOut code l p → LeadsOut code l q → LeadsOut code l (branches_out p q)
  leads_branches_out {p = p} {q = q} e e' a b = record {
    leads = λ x h exits le stand.
        let first_part = behind 1 h in
        let other : Here = behind 1 (p.past first_part) in
        let more = grows (exact_to e x) first_part in
        let most = grows (exact_to e' x) other in
        let before = (λ (is : IsTrue _). fewer_exits code (exits is) (let le : (p.past first_part).place ≤ (q.past other).place = omega arith in le)) in
        let inner = rest code stand in
        let stand' = rest code (back code (p.code x first_part) _ (e.ends x first_part) inner) in
        let jump = leads_on code (p.past first_part).place (q.past other).place (Jump (q.past other).place) refl (omega arith) le in (
          leads_on code h.place other.place _ refl (omega arith) (omega arith),
          all_lead_append code (h.place + 1) (p.past first_part).place (p.code x first_part) _ (e.ends x first_part) (a.leads x first_part before (omega arith) (front code _ _ inner)) (jump, b.leads x other exits le stand'),
        );
  }

  leads_turning : {p : Leading Exits C} → LeadingExact p → LeadsOut code true p → Leads code (turning p)
  leads_turning {p} e a = record {
    leads = λ h le stand.
        let q = (p.past (behind 1 h)).place in
        let x : Exits = record { break_to = q + 1; continue_to = h.place } in
        let more = grows (exact_to e x) (behind 1 h) in
        let inner = rest code stand in
        let asks = first code stand in
        let again = (λ (n : ℕ). let m : MayLead code n h.place = record { within = omega arith; back = λ _. subst IsIterate (sym asks) tt } in m) in
        let out = (λ (n : ℕ) (lt : n < q). let m : MayLead code n (q + 1) = record { within = omega arith; back = λ le. absurd (omega arith) } in m) in
        let exits = (λ (is : IsTrue true). let r : AreExits code x q = record { breaks = out; continues = λ n lt. again n } in r) in
        let jump = leads_there code q h.place (Jump h.place) refl (again q) in (
          leads_on code h.place (q + 1) _ refl (omega arith) le,
          all_lead_append code (h.place + 1) q (p.code x (behind 1 h)) (Jump h.place ∷ []) (e.ends x (behind 1 h)) (a.leads x (behind 1 h) exits (omega arith) (front code _ _ inner)) (jump, tt),
        );
  }

  leads_leaving : {l : Bool} (exit : Exits → ℕ) (os : List Open) → IsTrue l → ((x : Exits) (p q : ℕ) → AreExits code x q → p < q → MayLead code p (exit x)) → LeadsOut code l (leaving exit os)
  leads_leaving exit os is may = record {
    leads = λ x h exits le stand.
        let n = length (closing_instructions {C = C} os) in
        let jump = leads_there code (h.place + n) (exit x) (Jump (exit x)) refl (may x (h.place + n) (h.place + (n + 1)) (exits is) (omega arith)) in
        all_lead_append code h.place (h.place + n) (closing_instructions os) (Jump (exit x) ∷ []) refl (closing_leads code os h.place) (jump, tt);
  }

  -- what does not stand in a loop leads to no exits
  leads_to : {p : Leading Exits C} → LeadsOut code false p → (x : Exits) → Leads code (leading_to x p)
  leads_to a x = record { leads = λ h le stand. a.leads x h (λ is. absurd (cc)) le stand }

  leads_enclosing : (xs : List Text) → Leads code (enclosing xs)
  leads_enclosing [] = leads_nothing
  leads_enclosing (x ∷ xs) = leads_then (one_exact _) (enclosing_exact xs) (leads_one _ refl refl) (leads_enclosing xs)

  leads_popping : (has_else : Bool) → Leads code (popping has_else)
  leads_popping true = leads_then (one_exact _) (one_exact _) (leads_one _ refl refl) (leads_one _ refl refl)
  leads_popping false = leads_one _ refl refl

  leads_if_true : {l : Bool} (is_there : Bool) {p : Leading Exits C} → LeadingExact p → LeadsOut code l p → LeadsOut code l (if_true is_there p)
  leads_if_true true e a = leads_skipping_out JumpIfFalse (λ l. refl) e a
  leads_if_true false e a = leads_plain leads_nothing

  leads_either : {l : Bool} (has_second : Bool) {p q : Leading Exits C} → LeadingExact p → LeadingExact q → LeadsOut code l p → LeadsOut code l q → LeadsOut code l (either has_second p q)
  leads_either true e e' a b = leads_branches_out e e' a b
  leads_either false e e' a b = leads_skipping_out JumpIfFalse (λ l. refl) e a

module _ {C F : Type 0} (f : Functions C F) (code : List (Instr C)) where
  leads_arguments : (args : Args C) (n : ℕ) {p q : Piece C} → Exact p → Exact q → Leads code p → Leads code q → Leads code (arguments f args n p q)
  leads_arguments args n e e' a b =
      let k : Count = count_keyword args (record { batches = 0; waiting = 0 }) in
      let em = merged_exact {C = C} k.batches k.waiting in
      let es = spreading_exact {C = C} _ _ in
      let ek = folded_exact (fold_keywords f (constant_keywords f args)) (then_exact e' em) in
      leads_then e (then_exact ek es) a (leads_then ek es (leads_folded (fold_keywords f (constant_keywords f args)) (leads_then e' em b (leads_merged k.batches k.waiting))) (leads_spreading _ _))

  -- the arguments of a call after a number of operands
  given_exact : (args : Args C) (n : ℕ) → Exact (arguments f args n (positional f args n) (keyword f args 0))
  given_exact args n = arguments_exact f args n (positional_exact f args n) (keyword_exact f args 0)

  call_leads : (c : Callee C) (count : ℕ → Option ℕ) {b v : Piece C} {g : ℕ → Piece C} → Exact b → Exact v → ((n : ℕ) → Exact (g n)) → Leads code b → Leads code v → ((n : ℕ) → Leads code (g n)) → Leads code (call_of c b v g count)
  call_leads (function x) count eb ev eg lb lv lg = leads_then (eg 0) (one_exact _) (lg 0) (leads_one _ refl refl)
  call_leads (block x) count eb ev eg lb lv lg = leads_then (one_exact _) (then_exact (one_exact _) (one_exact _)) (leads_one _ refl refl) (leads_then (one_exact _) (one_exact _) (leads_one _ refl refl) (leads_one _ refl refl))
  call_leads (method e x) count eb ev eg lb lv lg = leads_then eb (then_exact (eg 1) (one_exact _)) lb (leads_then (eg 1) (one_exact _) (lg 1) (leads_one _ refl refl))
  call_leads (object e) count eb ev eg lb lv lg = leads_then ev (then_exact (eg 1) (one_exact _)) lv (leads_then (eg 1) (one_exact _) (lg 1) (leads_one _ refl refl))

  mutual
    pub expr_leads : (e : Expr C) → Leads code (expr f e)
    expr_leads (variable x) = leads_one _ refl refl
    expr_leads (constant c) = leads_one _ refl refl
    expr_leads (slice e a b c) =
        let ec = then_exact (optional_exact f f.none c) (one_exact _) in
        let eb = then_exact (optional_exact f f.none b) ec in
        leads_then (expr_exact f e) (then_exact (optional_exact f f.none a) eb) (expr_leads e)
        (leads_then (optional_exact f f.none a) eb (optional_leads f.none a)
        (leads_then (optional_exact f f.none b) ec (optional_leads f.none b)
        (leads_then (optional_exact f f.none c) (one_exact _) (optional_leads f.none c) (leads_one _ refl refl))))
    expr_leads (unary o e) = leads_folded (fold f (unary o e)) (leads_then (expr_exact f e) (one_exact _) (expr_leads e) (leads_unary o))
    expr_leads (binary o a b) = leads_folded (fold f (binary o a b)) (leads_then (expr_exact f a) (operation_exact (working o) (expr_exact f b)) (expr_leads a) (leads_operation (working o) (expr_exact f b) (expr_leads b)))
    expr_leads (compare e cs) = leads_folded (fold f (compare e cs)) (leads_then (expr_exact f e) (chain_exact f cs) (expr_leads e) (chain_leads cs))
    expr_leads (if_expr t a b) = leads_then (expr_exact f t) (branches_exact (expr_exact f a) (optional_exact f f.silent_undefined b)) (expr_leads t) (leads_branches (expr_exact f a) (optional_exact f f.silent_undefined b) (expr_leads a) (optional_leads f.silent_undefined b))
    expr_leads (filter o x args) = leads_then (operand_exact f o) (then_exact (given_exact args 1) (filter_exact _ _)) (operand_leads o) (leads_then (given_exact args 1) (filter_exact _ _) (leads_arguments args 1 (positional_exact f args 1) (keyword_exact f args 0) (positional_leads args 1) (keyword_leads args 0)) (leads_filter _ _))
    expr_leads (test e x args) = leads_then (expr_exact f e) (then_exact (given_exact args 1) (test_exact _ _)) (expr_leads e) (leads_then (given_exact args 1) (test_exact _ _) (leads_arguments args 1 (positional_exact f args 1) (keyword_exact f args 0) (positional_leads args 1) (keyword_leads args 0)) (leads_test _ _))
    expr_leads (attribute e x) = leads_then (expr_exact f e) (one_exact _) (expr_leads e) (leads_one _ refl refl)
    expr_leads (item e k) = leads_then (expr_exact f e) (then_exact (expr_exact f k) (one_exact _)) (expr_leads e) (leads_then (expr_exact f k) (one_exact _) (expr_leads k) (leads_one _ refl refl))
    expr_leads (call e args) = call_leads (callee e) (argument_count args) (base_exact f e) (expr_exact f e) (given_exact args) (base_leads e) (expr_leads e) (λ n. leads_arguments args n (positional_exact f args n) (keyword_exact f args 0) (positional_leads args n) (keyword_leads args 0))
    expr_leads (list es) = leads_folded (fold f (list es)) (leads_then (items_exact f es) (one_exact _) (items_lead es) (leads_one _ refl refl))
    expr_leads (tuple es) = leads_folded (fold f (tuple es)) (leads_then (items_exact f es) (one_exact _) (items_lead es) (leads_one _ refl refl))
    expr_leads (map ks vs) = leads_folded (fold f (map ks vs)) (leads_then (paired_exact (each f ks) (each f vs) (each_exact f ks) (each_exact f vs)) (one_exact _) (leads_paired (each f ks) (each f vs) (each_exact f ks) (each_exact f vs) (each_leads ks) (each_leads vs)) (leads_one _ refl refl))

    base_leads : (e : Expr C) → Leads code (base f e)
    base_leads (attribute e x) = expr_leads e
    base_leads e = leads_one _ refl refl

    optional_leads : (d : C) (o : Optional C) → Leads code (optional f d o)
    optional_leads d absent = leads_one _ refl refl
    optional_leads d (present e) = expr_leads e

    operand_leads : (o : Optional C) → Leads code (operand f o)
    operand_leads absent = leads_nothing
    operand_leads (present e) = expr_leads e

    items_lead : (es : Exprs C) → Leads code (items f es)
    items_lead no_more = leads_nothing
    items_lead (more e es) = leads_then (expr_exact f e) (items_exact f es) (expr_leads e) (items_lead es)

    each_leads : (es : Exprs C) → AllPiecesLead code (each f es)
    each_leads no_more = tt
    each_leads (more e es) = (expr_leads e, each_leads es)

    chain_leads : (cs : Comparisons C) → Leads code (chain f cs)
    chain_leads compared = leads_nothing
    chain_leads (against o e cs) = leads_chained (expr_exact f e) (comparisons_exact f cs o) (expr_leads e) (comparisons_lead cs o)

    comparisons_lead : (cs : Comparisons C) (o : CompareOp) → LeadsOn code (comparisons f o cs)
    comparisons_lead compared o = leads_last (leads_comparison o)
    comparisons_lead (against o' e cs) o = leads_and_then o (expr_exact f e) (comparisons_exact f cs o') (expr_leads e) (comparisons_lead cs o')

    positional_leads : (args : Args C) (n : ℕ) → Leads code (positional f args n)
    positional_leads no_args n = leads_nothing
    positional_leads (pos e args) n = leads_then (expr_exact f e) (positional_exact f args (suc n)) (expr_leads e) (positional_leads args (suc n))
    positional_leads (pos_splat e args) n = leads_then (batch_exact (λ n. BuildList (Some n)) n) (then_exact (expr_exact f e) (positional_exact f args 0)) (leads_batch (λ n. BuildList (Some n)) n (λ m. refl) (λ m. refl)) (leads_then (expr_exact f e) (positional_exact f args 0) (expr_leads e) (positional_leads args 0))
    positional_leads (kwarg x e args) n = positional_leads args n
    positional_leads (kwarg_splat e args) n = positional_leads args n

    keyword_leads : (args : Args C) (n : ℕ) → Leads code (keyword f args n)
    keyword_leads no_args n = leads_nothing
    keyword_leads (pos e args) n = keyword_leads args n
    keyword_leads (pos_splat e args) n = keyword_leads args n
    keyword_leads (kwarg x e args) n = leads_then (one_exact _) (then_exact (expr_exact f e) (keyword_exact f args (suc n))) (leads_one _ refl refl) (leads_then (expr_exact f e) (keyword_exact f args (suc n)) (expr_leads e) (keyword_leads args (suc n)))
    keyword_leads (kwarg_splat e args) n = leads_then (batch_exact BuildKwargs n) (then_exact (expr_exact f e) (keyword_exact f args 0)) (leads_batch BuildKwargs n (λ m. refl) (λ m. refl)) (leads_then (expr_exact f e) (keyword_exact f args 0) (expr_leads e) (keyword_leads args 0))

  mutual
    pub target_leads : (e : Expr C) → Leads code (layout.target f e)
    target_leads (variable x) = leads_one _ refl refl
    target_leads (attribute e x) = leads_then (expr_exact f e) (one_exact _) (expr_leads e) (leads_one _ refl refl)
    target_leads (list es) = leads_then (one_exact _) (targets_exact f es) (leads_one _ refl refl) (targets_lead es)
    target_leads e = leads_nothing

    targets_lead : (es : Exprs C) → Leads code (targets f es)
    targets_lead no_more = leads_nothing
    targets_lead (more e es) = leads_then (target_exact f e) (targets_exact f es) (target_leads e) (targets_lead es)

  assignments_lead : (ts : List (Expr C × Expr C)) → Leads code (assignments f ts)
  assignments_lead [] = leads_nothing
  assignments_lead (a ∷ others) =
      let e = then_exact (target_exact f a.0) (assignments_exact f others) in
      leads_then (expr_exact f a.1) e (expr_leads a.1) (leads_then (target_exact f a.0) (assignments_exact f others) (target_leads a.0) (assignments_lead others))

  filters_lead : (chain : Optional C) → Leads code (filters f chain)
  filters_lead absent = leads_nothing
  filters_lead (present chain) = expr_leads chain

  passing_leads : (e : Expr C) (only : Optional C) {p : Piece C} → Exact p → Leads code p → Leads code (passing f e only p)
  passing_leads e absent x a = a
  passing_leads e (present condition) x a =
      let last = then_exact (one_exact PopLoopFrame) (one_exact (BuildList None)) in
      let round = turning_exact (keeping_exact f e condition) in
      let count = then_exact (one_exact Swap) (then_exact (one_exact (Load (f.of_u64 1))) (one_exact (Operate Add))) in
      let tested = then_exact (expr_exact f condition) (counting_exact f) in
      leads_then (one_exact _) (then_exact x (then_exact (one_exact _) (then_exact round last))) (leads_one _ refl refl)
      (leads_then x (then_exact (one_exact _) (then_exact round last)) a
      (leads_then (one_exact _) (then_exact round last) (leads_one _ refl refl)
      (leads_then round last
      (leads_turning (keeping_exact f e condition) (leads_plain
      (leads_then (one_exact _) (then_exact (target_exact f e) tested) (leads_one _ refl refl)
      (leads_then (target_exact f e) tested (target_leads e)
      (leads_then (expr_exact f condition) (counting_exact f) (expr_leads condition)
      (leads_branches count (one_exact _) (leads_then (one_exact _) (then_exact (one_exact _) (one_exact _)) (leads_one _ refl refl) (leads_then (one_exact _) (one_exact _) (leads_one _ refl refl) (leads_one _ refl refl))) (leads_one _ refl refl)))))))
      (leads_then (one_exact _) (one_exact _) (leads_one _ refl refl) (leads_one _ refl refl)))))

  looping_leads : (e : Expr C) (recursive has_else : Bool) {p : Leading Exits C} → LeadingExact p → LeadsOut code true p → Leads code (looping f e recursive has_else p)
  looping_leads e recursive has_else x a =
      let inner = and_exact (plain_exact (target_exact f e)) x in
      let round = turning_exact inner in
      leads_then (one_exact _) (then_exact round (popping_exact has_else)) (leads_one _ refl refl)
      (leads_then round (popping_exact has_else) (leads_turning inner (leads_and (plain_exact (target_exact f e)) x (leads_plain (target_leads e)) a)) (leads_popping has_else))

  write_leads : (o : Written C) {p : Piece C} → Exact p → Leads code p → Leads code (write f o p)
  write_leads Super e a = leads_one _ refl refl
  write_leads (Recursion r) e a = leads_then (expr_exact f r) (one_exact _) (expr_leads r) (leads_one _ refl refl)
  write_leads (BlockOf x) e a = leads_one _ refl refl
  write_leads Plain e a = leads_then e (one_exact _) a (leads_one _ refl refl)

  defaulting_leads : (o : Optional C) → Leads code (defaulting f o)
  defaulting_leads absent = leads_nothing
  defaulting_leads (present e) =
      let x = then_exact (one_exact _) (expr_exact f e) in
      let y = skipping_exact JumpIfFalse x in
      leads_then (one_exact _) (then_exact (one_exact _) y) (leads_one _ refl refl) (leads_then (one_exact _) y (leads_one _ refl refl) (leads_skipping JumpIfFalse (λ l. refl) x (leads_then (one_exact _) (expr_exact f e) (leads_one _ refl refl) (expr_leads e))))

  taking_leads : (ps : List (Parameter C)) → Leads code (taking f ps)
  taking_leads [] = leads_nothing
  taking_leads (p ∷ ps) =
      let x = then_exact (target_exact f p.target) (taking_exact f ps) in
      leads_then (defaulting_exact f p.default) x (defaulting_leads p.default) (leads_then (target_exact f p.target) (taking_exact f ps) (target_leads p.target) (taking_leads ps))

  making_leads : {L : Type 0} (m : Macro C L) {p : Piece C} → Exact p → Leads code p → (entry : ℕ) → entry ≤ length code → Leads code (making f m p entry)
  making_leads (macro n x args defaults body) e a entry inside =
      let last = then_exact (one_exact _) (one_exact _) in
      let others = then_exact (one_exact _) last in
      let names = enclosed (macro n x args defaults body) in
      leads_then (skipping_exact Jump e) (then_exact (enclosing_exact names) others) (leads_skipping Jump (λ l. refl) e a)
      (leads_then (enclosing_exact names) others (leads_enclosing names)
      (leads_then (one_exact _) last (leads_one _ refl refl) (leads_then (one_exact _) (one_exact _) (leads_one _ refl refl) (leads_making x entry _ inside))))

  making_enters : {L : Type 0} (m : Macro C L) {p : Piece C} → Exact p → Leads code p → Leads code (entered (making f m p))
  making_enters (macro n x args defaults body) {p} e a =
      let m = macro n x args defaults body in
      record {
        leads = λ h le stand.
            let entry = (behind 1 h).place in
            let end = subst (λ (b : Here). b.place ≤ length code) (sym (making_past f m p entry h)) le in
            let long = (making_exact f m e entry).ends h in
            (making_leads m e a entry (omega (arith, long, end))).leads h end stand;
      }

  arguments_with_lead : (args : Args C) (n : ℕ) {m : Piece C} → Exact m → Leads code m → Leads code (arguments_with f args n m)
  arguments_with_lead args n e a =
      let merges = merged_exact _ _ in
      let spreads = spreading_exact _ _ in
      let last = then_exact merges spreads in
      let keys = then_exact (keyword_exact f args 0) (one_exact _) in
      leads_then (up_to_caller_exact f args n) (then_exact e last)
      (leads_then (positional_exact f args n) keys (positional_leads args n) (leads_then (keyword_exact f args 0) (one_exact _) (keyword_leads args 0) (leads_one _ refl refl)))
      (leads_then e last a (leads_then merges spreads (leads_merged _ _) (leads_spreading _ _)))

  call_with_leads : (e : Expr C) (args : Args C) {m : Piece C} → Exact m → Leads code m → Leads code (call_with f e args m)
  call_with_leads e args x a = call_leads (callee e) (argument_count_with args) (base_exact f e) (expr_exact f e) (λ n. arguments_with_exact f args n x) (base_leads e) (expr_leads e) (λ n. arguments_with_lead args n x a)

  looking_up_leads : (ns : List (Expr C × Optional C)) → Leads code (looking_up f ns)
  looking_up_leads [] = leads_nothing
  looking_up_leads (n ∷ ns) = leads_then (expr_exact f n.0) (looking_up_exact f ns) (expr_leads n.0) (looking_up_leads ns)

  storing_back_leads : (ns : List (Expr C × Optional C)) → Leads code (storing_back f ns)
  storing_back_leads [] = leads_nothing
  storing_back_leads (n ∷ ns) = leads_then (storing_back_exact f ns) (target_exact f (stored_as n)) (storing_back_leads ns) (target_leads (stored_as n))

  within_leads : (mode : CaptureMode) (e : Expr C) → Leads code (within f mode e)
  within_leads mode e =
      let x = then_exact (expr_exact f e) (one_exact _) in
      leads_then (one_exact _) (then_exact (one_exact _) x) (leads_one _ refl refl) (leads_then (one_exact _) x (leads_one _ refl refl) (leads_then (expr_exact f e) (one_exact _) (expr_leads e) (leads_one _ refl refl)))

  -- what a body stands between
  leads_round : {l : Bool} {p q : Piece C} {b : Leading Exits C} → Exact p → Exact q → LeadingExact b → Leads code p → Leads code q → LeadsOut code l b → LeadsOut code l (plain p ▹ b ▹ plain q)
  leads_round e e' x a b c = leads_and (plain_exact e) (and_exact x (plain_exact e')) (leads_plain a) (leads_and x (plain_exact e') c (leads_plain b))

  mutual
    stmt_leads : {L : Type 0} (s : Stmt C L) (l : Bool) (os : List Open) → IsInner l s → LeadsOut code l (stmt f os s)
    stmt_leads (template ss) l os is = absurd is
    stmt_leads (data_text t) l os is = leads_plain (leads_one _ refl refl)
    stmt_leads (output e) l os is = leads_plain (write_leads (written e) (expr_exact f e) (expr_leads e))
    stmt_leads (assignment e v) l os is = leads_plain (leads_then (expr_exact f v) (target_exact f e) (expr_leads v) (target_leads e))
    stmt_leads (for_loop n e v only recursive body else_body) l os is =
        let xp = passing_exact f e only (expr_exact f v) in
        let xb = stmts_exact f body [] in
        let xl = looping_exact f e recursive (are_any else_body) xb in
        let xe = stmts_exact f else_body os in
        leads_and (plain_exact (then_exact xp xl)) (if_true_exact (are_any else_body) xe)
        (leads_plain (leads_then xp xl (passing_leads e only (expr_exact f v) (expr_leads v)) (looping_leads e recursive (are_any else_body) xb (stmts_lead body true [] is.3))))
        (leads_if_true (are_any else_body) xe (stmts_lead else_body l os is.4))
    stmt_leads (if_cond e true_body false_body) l os is =
        let xt = stmts_exact f true_body os in
        let xf = stmts_exact f false_body os in
        leads_and (plain_exact (expr_exact f e)) (either_exact (are_any false_body) xt xf) (leads_plain (expr_leads e))
        (leads_either (are_any false_body) xt xf (stmts_lead true_body l os is.1) (stmts_lead false_body l os is.2))
    stmt_leads (with_block ts body) l os is =
        leads_round (then_exact (one_exact _) (assignments_exact f ts)) (one_exact _) (stmts_exact f body (OpenScope ∷ os))
        (leads_then (one_exact _) (assignments_exact f ts) (leads_one _ refl refl) (assignments_lead ts)) (leads_one _ refl refl) (stmts_lead body l (OpenScope ∷ os) is.1)
    stmt_leads (set_block e chain body) l os is =
        let x = then_exact (filters_exact f chain) (target_exact f e) in
        leads_round (one_exact _) (then_exact (one_exact _) x) (stmts_exact f body (OpenCapture ∷ os)) (leads_one _ refl refl)
        (leads_then (one_exact _) x (leads_one _ refl refl) (leads_then (filters_exact f chain) (target_exact f e) (filters_lead chain) (target_leads e))) (stmts_lead body l (OpenCapture ∷ os) is.2)
    stmt_leads (auto_escape e body) l os is =
        leads_round (then_exact (expr_exact f e) (one_exact _)) (one_exact _) (stmts_exact f body (OpenAutoEscape ∷ os))
        (leads_then (expr_exact f e) (one_exact _) (expr_leads e) (leads_one _ refl refl)) (leads_one _ refl refl) (stmts_lead body l (OpenAutoEscape ∷ os) is.1)
    stmt_leads (filter_block chain body) l os is =
        let x = then_exact (expr_exact f chain) (one_exact _) in
        leads_round (one_exact _) (then_exact (one_exact _) x) (stmts_exact f body (OpenCapture ∷ os)) (leads_one _ refl refl)
        (leads_then (one_exact _) x (leads_one _ refl refl) (leads_then (expr_exact f chain) (one_exact _) (expr_leads chain) (leads_one _ refl refl))) (stmts_lead body l (OpenCapture ∷ os) is.1)
    stmt_leads (named_block x required body) l os is = leads_plain (leads_one _ refl refl)
    stmt_leads (extends e) l os is = leads_plain (leads_then (expr_exact f e) (one_exact _) (expr_leads e) (leads_one _ refl refl))
    stmt_leads (include e ignore) l os is = leads_plain (leads_then (expr_exact f e) (one_exact _) (expr_leads e) (leads_one _ refl refl))
    stmt_leads (import_all e t) l os is =
        let x4 = then_exact (one_exact _) (target_exact f t) in
        let x3 = then_exact (one_exact _) x4 in
        let x2 = then_exact (one_exact _) x3 in
        leads_plain (leads_then (within_exact f _ e) (then_exact (one_exact _) x2) (within_leads _ e)
        (leads_then (one_exact _) x2 (leads_one _ refl refl)
        (leads_then (one_exact _) x3 (leads_one _ refl refl)
        (leads_then (one_exact _) x4 (leads_one _ refl refl)
        (leads_then (one_exact _) (target_exact f t) (leads_one _ refl refl) (target_leads t))))))
    stmt_leads (from_import e ns) l os is =
        let x4 = then_exact (one_exact _) (one_exact _) in
        let x3 = then_exact (storing_back_exact f ns) x4 in
        let x2 = then_exact (one_exact _) x3 in
        leads_plain (leads_then (within_exact f _ e) (then_exact (looking_up_exact f ns) x2) (within_leads _ e)
        (leads_then (looking_up_exact f ns) x2 (looking_up_leads ns)
        (leads_then (one_exact _) x3 (leads_one _ refl refl)
        (leads_then (storing_back_exact f ns) x4 (storing_back_leads ns)
        (leads_then (one_exact _) (one_exact _) (leads_one _ refl refl) (leads_one _ refl refl))))))
    stmt_leads (declare m) l os is = leads_plain (leads_then (macro_exact f m) (one_exact _) (macro_leads m is) (leads_one _ refl refl))
    stmt_leads (call_block e args m) l os is =
        leads_plain (leads_then (call_with_exact f e args (macro_exact f m)) (one_exact _) (call_with_leads e args (macro_exact f m) (macro_leads m is.1)) (leads_one _ refl refl))
    stmt_leads (do_call e args) l os is = leads_plain (leads_then (expr_exact f (call e args)) (one_exact _) (expr_leads (call e args)) (leads_one _ refl refl))
    stmt_leads break_loop l os is = leads_leaving (λ x. x.break_to) os is (λ x p q e lt. e.breaks p lt)
    stmt_leads continue_loop l os is = leads_leaving (λ x. x.continue_to) os is (λ x p q e lt. e.continues p lt)

    pub stmts_lead : {L : Type 0} (ss : Stmts C L) (l : Bool) (os : List Open) → AreInner l ss → LeadsOut code l (stmts f os ss)
    stmts_lead done l os is = leads_plain leads_nothing
    stmts_lead (also s others) l os is = leads_and (stmt_exact f s os) (stmts_exact f others os) (stmt_leads s l os is.0) (stmts_lead others l os is.1)

    macro_leads : {L : Type 0} (m : Macro C L) → IsMacro m → Leads code (macro_value f m)
    macro_leads (macro n x args defaults body) is =
        let runs = exact_to (stmts_exact f body []) outside in
        let all = then_exact runs (one_exact _) in
        let takes = taking_exact f (parameters args defaults) in
        making_enters (macro n x args defaults body) (then_exact takes all)
        (leads_then takes all (taking_leads (parameters args defaults)) (leads_then runs (one_exact _) (leads_to (stmts_lead body false [] is.3) outside) (leads_one _ refl refl)))

  pub root_leads : {L : Type 0} (s : Stmt C L) → IsWellFormed s → LeadsOut code false (stmt f [] s)
  root_leads = at_root (λ s. LeadsOut code false (stmt f [] s)) (λ ss is. stmts_lead ss false [] is) (λ s is. stmt_leads s false [] is)

-- what leads well as it stands does at each place
at_each : {C : Type 0} (code : List (Instr C)) (q : ℕ) (is : List (Instr C)) → AllLead code q is → (p : ℕ) (i : Instr C) (l : ℕ) → slice_get is p ≡ Some i → jump_target i ≡ Some l → MayLead code (q + p) l
at_each code q [] h p i l at e = absurd (cc)
at_each code q (j ∷ is) h zero i l at e =
    let same : j ≡ i = cc in
    let here : q ≡ q + 0 = omega arith in
    subst (λ n. MayLead code n l) here (h.0.leads l (ap jump_target same ∙ e))
at_each code q (j ∷ is) h (suc p) i l at e =
    let there : q + 1 + p ≡ q + suc p = omega arith in
    subst (λ n. MayLead code n l) there (at_each code (q + 1) is h.1 p i l at e)

-- What follows on the layout of a tree is within the list, and leads back to where a loop asks for
-- its next item alone.
pub layout_leads_well : {C L F : Type 0} (f : Functions C F) (s : Stmt C L) → IsWellFormed s → LeadsWell (stmt_code f s start)
layout_leads_well {C = C} f s well p i l at e =
    let code : List (Instr C) = stmt_code f s start in
    let exact = (stmt_exact f s []).ends outside start in
    let all = (root_leads f code s well).leads outside start (λ is. absurd (cc)) (omega arith) (stands_behind [] code) in
    let here : 0 + p ≡ p = omega arith in
    subst (λ n. MayLead code n l) here (at_each code 0 code all p i l at e)

-- the list of a block leads well
pub block_leads_well : {C L F : Type 0} (f : Functions C F) (ss : Stmts C L) → AreInner false ss → LeadsWell (block_code f ss)
block_leads_well {C = C} f ss inner p i l at e =
    let code : List (Instr C) = block_code f ss in
    let exact = (stmts_exact f ss []).ends outside start in
    let all = (stmts_lead f code ss false [] inner).leads outside start (λ is. absurd (cc)) (omega arith) (stands_behind [] code) in
    let here : 0 + p ≡ p = omega arith in
    subst (λ n. MayLead code n l) here (at_each code 0 code all p i l at e)

-- the layout of an expression by itself leads well
pub expression_leads_well : {C F : Type 0} (f : Functions C F) (e : Expr C) → LeadsWell (expr_code f e start)
expression_leads_well {C} f e p i l at same =
    let code : List (Instr C) = expr_code f e start in
    let exact = (expr_exact f e).ends start in
    let all = (expr_leads f code e).leads start (omega arith) (stands_behind [] code) in
    let here : 0 + p ≡ p = omega arith in
    subst (λ n. MayLead code n l) here (at_each code 0 code all p i l at same)
