-- Code that makes no macro: that of all expressions and targets.
use Rattle.std.proofs.Common.{◌≡◌, ℕ, zero, suc, ◌+◌, List, [], ◌∷◌, ◌++◌, Option, Some, None, refl}
use Rattle.std.specs.Prelude.{Bool, true, false}
use Rattle.minijinja_syntax.specs.Texts.{Text}
use Rattle.minijinja_value.specs.Values.{Functions}
use Rattle.minijinja_tree.specs.CompareOps.{CompareOp, eq, ne, lt, lte, gt, gte, is_in, not_in}
use Rattle.minijinja_tree.specs.Operators.{Working, Makes, Divides, IfTrue, IfFalse, working}
use Rattle.minijinja_tree.specs.Tree.{UnaryOp, logical_not, negation, Expr, variable, constant, slice, unary, binary, compare, if_expr, filter, test, attribute, item, call, list, tuple, map, Optional, absent, present, Exprs, no_more, more, Comparisons, compared, against, Args, no_args, pos, pos_splat, kwarg, kwarg_splat, Parameter, stored_as}
use Rattle.minijinja_tree.specs.Callees.{Callee, function, method, block, object, callee}
use Rattle.minijinja_tree.specs.Folding.{fold, constant_keywords, fold_keywords}
use Rattle.minijinja_semantics.specs.Calls.{Written, Super, Recursion, BlockOf, Plain}
use Rattle.minijinja_semantics.specs.Code.{Instr, DupTop, JumpIfFalse, JumpIfFalseOrPop, JumpIfTrueOrPop, BuildList, BuildKwargs}
use Rattle.minijinja_semantics.specs.Events.{CaptureMode}
use Rattle.minijinja_semantics.specs.Pieces.{Here, behind, Piece, Leading, Exits, Open, OpenScope, OpenAutoEscape, OpenCapture, nothing, one, ◌▸◌, plain, skipping, branches, turning, closing_instructions, leaving}
use Rattle.minijinja_semantics.specs.Layout.{folded, unary_instr, operation, comparison, Failing, and_then, chained, paired, batch, merged, spreading, arguments, argument_count, Count, count_keyword, apply_filter, perform_test, call_of, expr, base, optional, operand, items, each, chain, comparisons, positional, keyword, target, targets, assignments, write, counting, passing, popping, filters, defaulting, taking, up_to_caller, looking_up, storing_back, within}
use Rattle.minijinja_semantics.proofs.Leads.{entry_of}
use Rattle.minijinja_semantics.proofs.Lengths as long
use Rattle.minijinja_semantics.proofs.Lengths.{Exact, LeadingExact}

-- each instruction is so
abbrev pub Each : {C : Type 0} → (Instr C → Type 0) → List (Instr C) → Type 0
Each P [] = Unit {0}
Each P (i ∷ is) = P i × Each P is

pub each_append : {C : Type 0} (P : Instr C → Type 0) (a b : List (Instr C)) → Each P a → Each P b → Each P (a ++ b)
each_append P [] b h k = k
each_append P (i ∷ a) b h k = (h.0, each_append P a b h.1 k)

-- it makes no macro
abbrev pub MakesNone : {C : Type 0} → Instr C → Type 0
MakesNone i = entry_of i ≡ None

-- a piece whose instructions make no macro, wherever it stands
pub record Quiet {C : Type 0} (p : Piece C) : Type 0 where
  pub exact : Exact p
  pub none : (h : Here) → Each MakesNone (p.code h)

-- the same of one that leads elsewhere
pub record LeadingQuiet {X C : Type 0} (p : Leading X C) : Type 0 where
  pub exact : LeadingExact p
  pub none : (x : X) (h : Here) → Each MakesNone (p.code x h)

closing_quiet : (C : Type 0) (os : List Open) → Each MakesNone (closing_instructions {C = C} os)
closing_quiet C [] = tt
closing_quiet C (OpenScope ∷ os) = (refl, closing_quiet C os)
closing_quiet C (OpenAutoEscape ∷ os) = (refl, closing_quiet C os)
closing_quiet C (OpenCapture ∷ os) = (refl, (refl, closing_quiet C os))

module _ {C : Type 0} where
  joined : (a b : List (Instr C)) → Each MakesNone a → Each MakesNone b → Each MakesNone (a ++ b)
  joined = each_append MakesNone

  pub plain_quiet : {X : Type 0} {p : Piece C} → Quiet p → LeadingQuiet {X = X} (plain p)
  plain_quiet a = record { exact = long.plain_exact a.exact; none = λ x h. a.none h }

  pub nothing_quiet : Quiet {C = C} nothing
  nothing_quiet = record { exact = long.nothing_exact; none = λ h. tt }

  pub one_quiet : (i : Instr C) → entry_of i ≡ None → Quiet (one i)
  one_quiet i e = record { exact = long.one_exact i; none = λ h. (e, tt) }

  pub then_quiet : {p q : Piece C} → Quiet p → Quiet q → Quiet (p ▸ q)
  then_quiet {p} {q} a b = record { exact = long.then_exact a.exact b.exact; none = λ h. joined (p.code h) (q.code (p.past h)) (a.none h) (b.none (p.past h)) }

  filter_quiet : (x : Text) (n : Option ℕ) → Quiet {C = C} (apply_filter x n)
  filter_quiet x n = record { exact = long.filter_exact x n; none = λ h. (refl, tt) }

  test_quiet : (x : Text) (n : Option ℕ) → Quiet {C = C} (perform_test x n)
  test_quiet x n = record { exact = long.test_exact x n; none = λ h. (refl, tt) }

  skipping_quiet : (jump : ℕ → Instr C) → ((l : ℕ) → entry_of (jump l) ≡ None) → {p : Piece C} → Quiet p → Quiet (skipping jump p)
  skipping_quiet jump e {p} a = record { exact = long.skipping_exact jump a.exact; none = λ h. (e (p.past (behind 1 h)).place, a.none (behind 1 h)) }

  branches_quiet : {p q : Piece C} → Quiet p → Quiet q → Quiet (branches p q)
  branches_quiet {p} {q} a b = record {
    exact = long.branches_exact a.exact b.exact;
    none = λ h. let other = behind 1 (p.past (behind 1 h)) in (refl, joined (p.code (behind 1 h)) _ (a.none (behind 1 h)) (refl, b.none other));
  }

  folded_quiet : (r : Option C) {p : Piece C} → Quiet p → Quiet (folded r p)
  unfolding folded
  folded_quiet None a = a
  folded_quiet (Some c) a = one_quiet _ refl

  unary_quiet : (o : UnaryOp) → Quiet {C = C} (one (unary_instr o))
  unary_quiet logical_not = one_quiet _ refl
  unary_quiet negation = one_quiet _ refl

  operation_quiet : (k : Working) {p : Piece C} → Quiet p → Quiet (operation k p)
  operation_quiet (Makes o) a = then_quiet a (one_quiet _ refl)
  operation_quiet Divides a = then_quiet a (one_quiet _ refl)
  operation_quiet IfTrue a = skipping_quiet JumpIfFalseOrPop (λ l. refl) a
  operation_quiet IfFalse a = skipping_quiet JumpIfTrueOrPop (λ l. refl) a

  comparison_quiet : (o : CompareOp) → Quiet {C = C} (comparison o)
  comparison_quiet eq = one_quiet _ refl
  comparison_quiet ne = one_quiet _ refl
  comparison_quiet lt = one_quiet _ refl
  comparison_quiet lte = one_quiet _ refl
  comparison_quiet gt = one_quiet _ refl
  comparison_quiet gte = one_quiet _ refl
  comparison_quiet is_in = one_quiet _ refl
  comparison_quiet not_in = then_quiet (one_quiet _ refl) (one_quiet _ refl)

  and_then_quiet : (o : CompareOp) {p : Piece C} {r : Failing C} → Quiet p → LeadingQuiet r → LeadingQuiet (and_then o p r)
  and_then_quiet o {p} {r} a b = record {
    exact = long.and_then_exact o a.exact b.exact;
    none = λ failed h. let h2 = behind 1 (behind 1 h) in (refl, (refl, joined (p.code h2) _ (a.none h2) (b.none failed (p.past h2))));
  }

  chained_quiet : {p : Piece C} {r : Failing C} → Quiet p → LeadingQuiet r → Quiet (chained p r)
  chained_quiet {p} {r} a b = record {
    exact = long.chained_exact a.exact b.exact;
    none = λ h.
        let failed = behind 1 (r.past (p.past h)) in
        joined (p.code h) _ (a.none h) (joined (r.code failed.place (p.past h)) _ (b.none failed.place (p.past h)) (refl, (refl, (refl, tt))));
  }

  turning_quiet : {p : Leading Exits C} → LeadingQuiet p → Quiet (turning p)
  turning_quiet {p} a = record {
    exact = long.turning_exact a.exact;
    none = λ h.
        let x : Exits = record { break_to = ((p.past (behind 1 h)).place + 1); continue_to = h.place } in
        (refl, joined (p.code x (behind 1 h)) _ (a.none x (behind 1 h)) (refl, tt));
  }

  pub leaving_quiet : (exit : Exits → ℕ) (os : List Open) → LeadingQuiet {C = C} (leaving exit os)
  leaving_quiet exit os = record { exact = long.leaving_exact exit os; none = λ x h. joined (closing_instructions os) _ (closing_quiet C os) (refl, tt) }

  pub popping_quiet : (has_else : Bool) → Quiet {C = C} (popping has_else)
  popping_quiet true = then_quiet (one_quiet _ refl) (one_quiet _ refl)
  popping_quiet false = one_quiet _ refl

  -- each piece is quiet
  abbrev AllQuiet : List (Piece C) → Type 0
  AllQuiet [] = Unit {0}
  AllQuiet (p ∷ ps) = Quiet p × AllQuiet ps

  paired_quiet : (ps qs : List (Piece C)) → AllQuiet ps → AllQuiet qs → Quiet (paired ps qs)
  paired_quiet [] qs h k = nothing_quiet
  paired_quiet (p ∷ ps) [] h k = nothing_quiet
  paired_quiet (p ∷ ps) (q ∷ qs) h k = then_quiet h.0 (then_quiet k.0 (paired_quiet ps qs h.1 k.1))

  batch_quiet : (build : ℕ → Instr C) → ((n : ℕ) → entry_of (build n) ≡ None) → (n : ℕ) → Quiet (batch build n)
  batch_quiet build e zero = nothing_quiet
  batch_quiet build e (suc n) = one_quiet _ (e (suc n))

  pub merged_quiet : (b n : ℕ) → Quiet {C = C} (merged b n)
  unfolding merged
  merged_quiet zero zero = nothing_quiet
  merged_quiet zero (suc n) = one_quiet _ refl
  merged_quiet (suc b) n = then_quiet (batch_quiet BuildKwargs (λ n. refl) n) (one_quiet _ refl)

  pub spreading_quiet : (b n : ℕ) → Quiet {C = C} (spreading b n)
  unfolding spreading
  spreading_quiet zero n = nothing_quiet
  spreading_quiet (suc b) n = then_quiet (batch_quiet (λ n. BuildList (Some n)) (λ n. refl) n) (one_quiet _ refl)

  call_quiet : (c : Callee C) {base value : Piece C} {given : ℕ → Piece C} (count : ℕ → Option ℕ) → Quiet base → Quiet value → ((n : ℕ) → Quiet (given n)) → Quiet (call_of c base value given count)
  call_quiet (function x) count b v g = then_quiet (g 0) (one_quiet _ refl)
  call_quiet (block x) count b v g = then_quiet (one_quiet _ refl) (then_quiet (one_quiet _ refl) (one_quiet _ refl))
  call_quiet (method e x) count b v g = then_quiet b (then_quiet (g 1) (one_quiet _ refl))
  call_quiet (object e) count b v g = then_quiet v (then_quiet (g 1) (one_quiet _ refl))

module _ {C F : Type 0} (f : Functions C F) where
  arguments_quiet : (args : Args C) (n : ℕ) {p q : Piece C} → Quiet p → Quiet q → Quiet (arguments f args n p q)
  arguments_quiet args n e e' =
      let k : Count = count_keyword args (record { batches = 0; waiting = 0 }) in
      then_quiet e (then_quiet (folded_quiet (fold_keywords f (constant_keywords f args)) (then_quiet e' (merged_quiet k.batches k.waiting))) (spreading_quiet _ _))

  mutual
    pub expr_quiet : (e : Expr C) → Quiet (expr f e)
    expr_quiet (variable x) = one_quiet _ refl
    expr_quiet (constant c) = one_quiet _ refl
    expr_quiet (slice e a b c) = then_quiet (expr_quiet e) (then_quiet (optional_quiet f.none a) (then_quiet (optional_quiet f.none b) (then_quiet (optional_quiet f.none c) (one_quiet _ refl))))
    expr_quiet (unary o e) = folded_quiet (fold f (unary o e)) (then_quiet (expr_quiet e) (unary_quiet o))
    expr_quiet (binary o a b) = folded_quiet (fold f (binary o a b)) (then_quiet (expr_quiet a) (operation_quiet (working o) (expr_quiet b)))
    expr_quiet (compare e cs) = folded_quiet (fold f (compare e cs)) (then_quiet (expr_quiet e) (chain_quiet cs))
    expr_quiet (if_expr t a b) = then_quiet (expr_quiet t) (branches_quiet (expr_quiet a) (optional_quiet f.silent_undefined b))
    expr_quiet (filter o x args) = then_quiet (operand_quiet o) (then_quiet (arguments_quiet args 1 (positional_quiet args 1) (keyword_quiet args 0)) (filter_quiet _ _))
    expr_quiet (test e x args) = then_quiet (expr_quiet e) (then_quiet (arguments_quiet args 1 (positional_quiet args 1) (keyword_quiet args 0)) (test_quiet _ _))
    expr_quiet (attribute e x) = then_quiet (expr_quiet e) (one_quiet _ refl)
    expr_quiet (item e k) = then_quiet (expr_quiet e) (then_quiet (expr_quiet k) (one_quiet _ refl))
    expr_quiet (call e args) = call_quiet (callee e) (argument_count args) (base_quiet e) (expr_quiet e) (λ n. arguments_quiet args n (positional_quiet args n) (keyword_quiet args 0))
    expr_quiet (list es) = folded_quiet (fold f (list es)) (then_quiet (items_quiet es) (one_quiet _ refl))
    expr_quiet (tuple es) = folded_quiet (fold f (tuple es)) (then_quiet (items_quiet es) (one_quiet _ refl))
    expr_quiet (map ks vs) = folded_quiet (fold f (map ks vs)) (then_quiet (paired_quiet (each f ks) (each f vs) (each_quiet ks) (each_quiet vs)) (one_quiet _ refl))

    pub base_quiet : (e : Expr C) → Quiet (base f e)
    base_quiet (attribute e x) = expr_quiet e
    base_quiet e = one_quiet _ refl

    optional_quiet : (d : C) (o : Optional C) → Quiet (optional f d o)
    optional_quiet d absent = one_quiet _ refl
    optional_quiet d (present e) = expr_quiet e

    operand_quiet : (o : Optional C) → Quiet (operand f o)
    operand_quiet absent = nothing_quiet
    operand_quiet (present e) = expr_quiet e

    items_quiet : (es : Exprs C) → Quiet (items f es)
    items_quiet no_more = nothing_quiet
    items_quiet (more e es) = then_quiet (expr_quiet e) (items_quiet es)

    each_quiet : (es : Exprs C) → AllQuiet (each f es)
    each_quiet no_more = tt
    each_quiet (more e es) = (expr_quiet e, each_quiet es)

    chain_quiet : (cs : Comparisons C) → Quiet (chain f cs)
    chain_quiet compared = nothing_quiet
    chain_quiet (against o e cs) = chained_quiet (expr_quiet e) (comparisons_quiet cs o)

    comparisons_quiet : (cs : Comparisons C) (o : CompareOp) → LeadingQuiet (comparisons f o cs)
    comparisons_quiet compared o = plain_quiet (comparison_quiet o)
    comparisons_quiet (against o' e cs) o = and_then_quiet o (expr_quiet e) (comparisons_quiet cs o')

    pub positional_quiet : (args : Args C) (n : ℕ) → Quiet (positional f args n)
    positional_quiet no_args n = nothing_quiet
    positional_quiet (pos e args) n = then_quiet (expr_quiet e) (positional_quiet args (suc n))
    positional_quiet (pos_splat e args) n = then_quiet (batch_quiet (λ n. BuildList (Some n)) (λ n. refl) n) (then_quiet (expr_quiet e) (positional_quiet args 0))
    positional_quiet (kwarg x e args) n = positional_quiet args n
    positional_quiet (kwarg_splat e args) n = positional_quiet args n

    pub keyword_quiet : (args : Args C) (n : ℕ) → Quiet (keyword f args n)
    keyword_quiet no_args n = nothing_quiet
    keyword_quiet (pos e args) n = keyword_quiet args n
    keyword_quiet (pos_splat e args) n = keyword_quiet args n
    keyword_quiet (kwarg x e args) n = then_quiet (one_quiet _ refl) (then_quiet (expr_quiet e) (keyword_quiet args (suc n)))
    keyword_quiet (kwarg_splat e args) n = then_quiet (batch_quiet BuildKwargs (λ n. refl) n) (then_quiet (expr_quiet e) (keyword_quiet args 0))

  mutual
    pub target_quiet : (e : Expr C) → Quiet (target f e)
    target_quiet (variable x) = one_quiet _ refl
    target_quiet (attribute e x) = then_quiet (expr_quiet e) (one_quiet _ refl)
    target_quiet (list es) = then_quiet (one_quiet _ refl) (targets_quiet es)
    target_quiet e = nothing_quiet

    targets_quiet : (es : Exprs C) → Quiet (targets f es)
    targets_quiet no_more = nothing_quiet
    targets_quiet (more e es) = then_quiet (target_quiet e) (targets_quiet es)

  pub assignments_quiet : (ts : List (Expr C × Expr C)) → Quiet (assignments f ts)
  assignments_quiet [] = nothing_quiet
  assignments_quiet (a ∷ rest) = then_quiet (expr_quiet a.1) (then_quiet (target_quiet a.0) (assignments_quiet rest))

  pub write_quiet : (o : Written C) {p : Piece C} → Quiet p → Quiet (write f o p)
  write_quiet Super e = one_quiet _ refl
  write_quiet (Recursion r) e = then_quiet (expr_quiet r) (one_quiet _ refl)
  write_quiet (BlockOf x) e = one_quiet _ refl
  write_quiet Plain e = then_quiet e (one_quiet _ refl)

  counting_quiet : Quiet (counting f)
  counting_quiet = branches_quiet (then_quiet (one_quiet _ refl) (then_quiet (one_quiet _ refl) (one_quiet _ refl))) (one_quiet _ refl)

  -- what a loop does with each item that may be kept
  keeping_quiet : (e condition : Expr C) → LeadingQuiet {X = Exits} (plain (one DupTop ▸ target f e ▸ expr f condition ▸ counting f))
  keeping_quiet e condition = plain_quiet (then_quiet (one_quiet _ refl) (then_quiet (target_quiet e) (then_quiet (expr_quiet condition) counting_quiet)))

  pub passing_quiet : (e : Expr C) (only : Optional C) {p : Piece C} → Quiet p → Quiet (passing f e only p)
  passing_quiet e absent x = x
  passing_quiet e (present condition) x = then_quiet (one_quiet _ refl) (then_quiet x (then_quiet (one_quiet _ refl) (then_quiet (turning_quiet (keeping_quiet e condition)) (then_quiet (one_quiet _ refl) (one_quiet _ refl)))))

  pub filters_quiet : (chain : Optional C) → Quiet (filters f chain)
  filters_quiet absent = nothing_quiet
  filters_quiet (present chain) = expr_quiet chain

  defaulting_quiet : (o : Optional C) → Quiet (defaulting f o)
  defaulting_quiet absent = nothing_quiet
  defaulting_quiet (present e) = then_quiet (one_quiet _ refl) (then_quiet (one_quiet _ refl) (skipping_quiet JumpIfFalse (λ l. refl) (then_quiet (one_quiet _ refl) (expr_quiet e))))

  pub taking_quiet : (ps : List (Parameter C)) → Quiet (taking f ps)
  taking_quiet [] = nothing_quiet
  taking_quiet (p ∷ ps) = then_quiet (defaulting_quiet p.default) (then_quiet (target_quiet p.target) (taking_quiet ps))

  pub up_to_caller_quiet : (args : Args C) (n : ℕ) → Quiet (up_to_caller f args n)
  up_to_caller_quiet args n = then_quiet (positional_quiet args n) (then_quiet (keyword_quiet args 0) (one_quiet _ refl))

  pub looking_up_quiet : (ns : List (Expr C × Optional C)) → Quiet (looking_up f ns)
  looking_up_quiet [] = nothing_quiet
  looking_up_quiet (n ∷ ns) = then_quiet (expr_quiet n.0) (looking_up_quiet ns)

  pub storing_back_quiet : (ns : List (Expr C × Optional C)) → Quiet (storing_back f ns)
  storing_back_quiet [] = nothing_quiet
  storing_back_quiet (n ∷ ns) = then_quiet (storing_back_quiet ns) (target_quiet (stored_as n))

  pub within_quiet : (mode : CaptureMode) (e : Expr C) → Quiet (within f mode e)
  within_quiet mode e = then_quiet (one_quiet _ refl) (then_quiet (one_quiet _ refl) (then_quiet (expr_quiet e) (one_quiet _ refl)))
