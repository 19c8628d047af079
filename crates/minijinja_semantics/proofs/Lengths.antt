-- The place after a piece is where its instructions end.
use Rattle.std.proofs.Common.{◌≡◌, ℕ, zero, suc, ◌+◌, ◌≤◌, List, [], ◌∷◌, ◌++◌, length, Option, Some, None, refl, ap, ◌∙◌, arith, length-append}
use Rattle.std.specs.Prelude.{Bool, true, false}
use Rattle.minijinja_syntax.specs.Texts.{Text}
use Rattle.minijinja_value.specs.Values.{Functions}
use Rattle.minijinja_tree.specs.CompareOps.{CompareOp, eq, ne, lt, lte, gt, gte, is_in, not_in}
use Rattle.minijinja_tree.specs.Operators.{Working, Makes, Divides, IfTrue, IfFalse, working}
use Rattle.minijinja_tree.specs.Tree.{Expr, variable, constant, slice, unary, binary, compare, if_expr, filter, test, attribute, item, call, list, tuple, map, Optional, absent, present, Exprs, no_more, more, Comparisons, compared, against, Args, no_args, pos, pos_splat, kwarg, kwarg_splat, Stmt, template, data_text, output, assignment, for_loop, if_cond, with_block, set_block, auto_escape, filter_block, named_block, extends, include, import_all, from_import, declare, call_block, do_call, break_loop, continue_loop, Stmts, done, also, Macro, macro, Parameter, parameters, stored_as, are_any}
use Rattle.minijinja_semantics.specs.Calls.{Written, Super, Recursion, BlockOf, Plain, written}
use Rattle.minijinja_tree.specs.Callees.{Callee, function, method, block, object, callee}
use Rattle.minijinja_tree.specs.Folding.{fold, constant_keywords, fold_keywords}
use Rattle.minijinja_semantics.specs.Code.{Instr, Return, DupTop, JumpIfFalse, JumpIfFalseOrPop, JumpIfTrueOrPop, BuildList, BuildKwargs, Jump, Swap, DiscardTop}
use Rattle.minijinja_semantics.specs.Pieces.{Here, behind, outside, Piece, Leading, Exits, Open, OpenScope, OpenAutoEscape, OpenCapture, nothing, one, ◌▸◌, plain, leading_to, ◌▹◌, skipping, branches, skipping_out, branches_out, turning, closing_instructions, leaving}
use Rattle.minijinja_semantics.specs.Layout.{folded, operation, comparison, Failing, and_then, chained, paired, batch, merged, spreading, arguments, argument_count, Count, count_keyword, apply_filter, perform_test, call_of, expr, base, optional, operand, items, each, chain, comparisons, positional, keyword, target, targets, assignments, write, counting, passing, popping, looping, if_true, either, filters, defaulting, taking, enclosing, making, entered, up_to_caller, arguments_with, argument_count_with, call_with, looking_up, storing_back, within, stmt, stmts, macro_value}
use Rattle.minijinja_semantics.specs.Events.{CaptureMode}

-- what stands after a piece begins where its instructions end
pub record Exact {C : Type 0} (p : Piece C) : Type 0 where
  pub ends : (h : Here) → h.place + length (p.code h) ≡ (p.past h).place

-- the same of one that leads elsewhere, wherever that is
pub record LeadingExact {X C : Type 0} (p : Leading X C) : Type 0 where
  pub ends : (x : X) (h : Here) → h.place + length (p.code x h) ≡ (p.past h).place

module _ {C : Type 0} where
  -- nothing goes back
  pub grows : {p : Piece C} → Exact p → (h : Here) → h.place ≤ (p.past h).place
  grows {p} e h = omega (arith, e.ends h)

  pub exact_to : {X : Type 0} {p : Leading X C} → LeadingExact p → (x : X) → Exact (leading_to x p)
  exact_to e x = record { ends = e.ends x }

  pub plain_exact : {X : Type 0} {p : Piece C} → Exact p → LeadingExact {X = X} (plain p)
  plain_exact e = record { ends = λ x h. e.ends h }

  pub and_exact : {X : Type 0} {p q : Leading X C} → LeadingExact p → LeadingExact q → LeadingExact (p ▹ q)
  and_exact {p = p} {q = q} e e' = record { ends = λ x h. omega (arith, length-append (p.code x h) (q.code x (p.past h)), e.ends x h, e'.ends x (p.past h)) }

  pub nothing_exact : Exact {C = C} nothing
  nothing_exact = record { ends = λ h. omega arith }

  pub one_exact : (i : Instr C) → Exact (one i)
  one_exact i = record { ends = λ h. omega arith }

  pub then_exact : {p q : Piece C} → Exact p → Exact q → Exact (p ▸ q)
  then_exact {p} {q} e e' = record { ends = λ h. omega (arith, length-append (p.code h) (q.code (p.past h)), e.ends h, e'.ends (p.past h)) }

  pub filter_exact : (x : Text) (n : Option ℕ) → Exact {C = C} (apply_filter x n)
  filter_exact x n = record { ends = λ h. omega arith }

  pub test_exact : (x : Text) (n : Option ℕ) → Exact {C = C} (perform_test x n)
  test_exact x n = record { ends = λ h. omega arith }

  pub skipping_exact : (jump : ℕ → Instr C) {p : Piece C} → Exact p → Exact (skipping jump p)
  skipping_exact jump {p} e = record { ends = λ h. omega (arith, e.ends (behind 1 h)) }

  pub branches_exact : {p q : Piece C} → Exact p → Exact q → Exact (branches p q)
  branches_exact {p} {q} e e' = record {
    ends = λ h.
        let other = behind 1 (p.past (behind 1 h)) in
        omega (arith, length-append (p.code (behind 1 h)) (Jump (q.past other).place ∷ q.code other), e.ends (behind 1 h), e'.ends other);
  }

  pub folded_exact : (r : Option C) {p : Piece C} → Exact p → Exact (folded r p)
  unfolding folded
  folded_exact None e = e
  folded_exact (Some c) e = one_exact _

  pub operation_exact : (k : Working) {p : Piece C} → Exact p → Exact (operation k p)
  operation_exact (Makes o) e = then_exact e (one_exact _)
  operation_exact Divides e = then_exact e (one_exact _)
  operation_exact IfTrue e = skipping_exact JumpIfFalseOrPop e
  operation_exact IfFalse e = skipping_exact JumpIfTrueOrPop e

  pub comparison_exact : (o : CompareOp) → Exact {C = C} (comparison o)
  comparison_exact eq = one_exact _
  comparison_exact ne = one_exact _
  comparison_exact lt = one_exact _
  comparison_exact lte = one_exact _
  comparison_exact gt = one_exact _
  comparison_exact gte = one_exact _
  comparison_exact is_in = one_exact _
  comparison_exact not_in = then_exact (one_exact _) (one_exact _)

  pub and_then_exact : (o : CompareOp) {p : Piece C} {r : Failing C} → Exact p → LeadingExact r → LeadingExact (and_then o p r)
  and_then_exact o {p} {r} e e' = record { ends = λ failed h. omega (arith, length-append (p.code (behind 1 (behind 1 h))) (r.code failed (p.past (behind 1 (behind 1 h)))), e.ends (behind 1 (behind 1 h)), e'.ends failed (p.past (behind 1 (behind 1 h)))) }

  pub chained_exact : {p : Piece C} {r : Failing C} → Exact p → LeadingExact r → Exact (chained p r)
  chained_exact {p} {r} e e' = record {
    ends = λ h.
        let failed = behind 1 (r.past (p.past h)) in
        let after : List (Instr C) = Jump (behind 1 (behind 1 failed)).place ∷ Swap ∷ DiscardTop ∷ [] in
        omega (arith, length-append (p.code h) (r.code failed.place (p.past h) ++ after), length-append (r.code failed.place (p.past h)) after, e.ends h, e'.ends failed.place (p.past h));
  }

  pub skipping_out_exact : {X : Type 0} (jump : ℕ → Instr C) {p : Leading X C} → LeadingExact p → LeadingExact (skipping_out jump p)
  skipping_out_exact jump e = record { ends = λ x. (skipping_exact jump (exact_to e x)).ends }

  pub branches_out_exact : {X : Type 0} {p q : Leading X C} → LeadingExact p → LeadingExact q → LeadingExact (branches_out p q)
  branches_out_exact e e' = record { ends = λ x. (branches_exact (exact_to e x) (exact_to e' x)).ends }

  pub turning_exact : {p : Leading Exits C} → LeadingExact p → Exact (turning p)
  turning_exact {p} e = record {
    ends = λ h.
        let x : Exits = record { break_to = ((p.past (behind 1 h)).place + 1); continue_to = h.place } in
        omega (arith, length-append (p.code x (behind 1 h)) (Jump h.place ∷ []), e.ends x (behind 1 h));
  }

  pub leaving_exact : (exit : Exits → ℕ) (os : List Open) → LeadingExact {C = C} (leaving exit os)
  leaving_exact exit os = record { ends = λ x h. omega (arith, length-append (closing_instructions {C = C} os) (Jump (exit x) ∷ [])) }

  pub popping_exact : (has_else : Bool) → Exact {C = C} (popping has_else)
  popping_exact true = then_exact (one_exact _) (one_exact _)
  popping_exact false = one_exact _

  pub if_true_exact : {X : Type 0} (is_there : Bool) {p : Leading X C} → LeadingExact p → LeadingExact (if_true is_there p)
  if_true_exact true e = skipping_out_exact JumpIfFalse e
  if_true_exact false e = plain_exact nothing_exact

  pub either_exact : {X : Type 0} (has_second : Bool) {p q : Leading X C} → LeadingExact p → LeadingExact q → LeadingExact (either has_second p q)
  either_exact true e e' = branches_out_exact e e'
  either_exact false e e' = skipping_out_exact JumpIfFalse e

  -- each piece is exact
  abbrev pub AllExact : List (Piece C) → Type 0
  AllExact [] = Unit {0}
  AllExact (p ∷ ps) = Exact p × AllExact ps

  pub paired_exact : (ps qs : List (Piece C)) → AllExact ps → AllExact qs → Exact (paired ps qs)
  paired_exact [] qs h k = nothing_exact
  paired_exact (p ∷ ps) [] h k = nothing_exact
  paired_exact (p ∷ ps) (q ∷ qs) h k = then_exact h.0 (then_exact k.0 (paired_exact ps qs h.1 k.1))

  pub batch_exact : (build : ℕ → Instr C) (n : ℕ) → Exact (batch build n)
  batch_exact build zero = nothing_exact
  batch_exact build (suc n) = one_exact _

  pub merged_exact : (b n : ℕ) → Exact {C = C} (merged b n)
  unfolding merged
  merged_exact zero zero = nothing_exact
  merged_exact zero (suc n) = one_exact _
  merged_exact (suc b) n = then_exact (batch_exact BuildKwargs n) (one_exact _)

  pub spreading_exact : (b n : ℕ) → Exact {C = C} (spreading b n)
  unfolding spreading
  spreading_exact zero n = nothing_exact
  spreading_exact (suc b) n = then_exact (batch_exact (λ n. BuildList (Some n)) n) (one_exact _)

  pub enclosing_exact : (xs : List Text) → Exact {C = C} (enclosing xs)
  enclosing_exact [] = nothing_exact
  enclosing_exact (x ∷ xs) = then_exact (one_exact _) (enclosing_exact xs)

  pub call_exact : (c : Callee C) {base value : Piece C} {given : ℕ → Piece C} (count : ℕ → Option ℕ) → Exact base → Exact value → ((n : ℕ) → Exact (given n)) → Exact (call_of c base value given count)
  call_exact (function x) count b v g = then_exact (g 0) (one_exact _)
  call_exact (block x) count b v g = then_exact (one_exact _) (then_exact (one_exact _) (one_exact _))
  call_exact (method e x) count b v g = then_exact b (then_exact (g 1) (one_exact _))
  call_exact (object e) count b v g = then_exact v (then_exact (g 1) (one_exact _))

module _ {C F : Type 0} (f : Functions C F) where
  pub arguments_exact : (args : Args C) (n : ℕ) {p q : Piece C} → Exact p → Exact q → Exact (arguments f args n p q)
  arguments_exact args n e e' =
      let k : Count = count_keyword args (record { batches = 0; waiting = 0 }) in
      then_exact e (then_exact (folded_exact (fold_keywords f (constant_keywords f args)) (then_exact e' (merged_exact k.batches k.waiting))) (spreading_exact _ _))

  mutual
    pub expr_exact : (e : Expr C) → Exact (expr f e)
    expr_exact (variable x) = one_exact _
    expr_exact (constant c) = one_exact _
    expr_exact (slice e a b c) = then_exact (expr_exact e) (then_exact (optional_exact f.none a) (then_exact (optional_exact f.none b) (then_exact (optional_exact f.none c) (one_exact _))))
    expr_exact (unary o e) = folded_exact (fold f (unary o e)) (then_exact (expr_exact e) (one_exact _))
    expr_exact (binary o a b) = folded_exact (fold f (binary o a b)) (then_exact (expr_exact a) (operation_exact (working o) (expr_exact b)))
    expr_exact (compare e cs) = folded_exact (fold f (compare e cs)) (then_exact (expr_exact e) (chain_exact cs))
    expr_exact (if_expr t a b) = then_exact (expr_exact t) (branches_exact (expr_exact a) (optional_exact f.silent_undefined b))
    expr_exact (filter o x args) = then_exact (operand_exact o) (then_exact (arguments_exact args 1 (positional_exact args 1) (keyword_exact args 0)) (filter_exact _ _))
    expr_exact (test e x args) = then_exact (expr_exact e) (then_exact (arguments_exact args 1 (positional_exact args 1) (keyword_exact args 0)) (test_exact _ _))
    expr_exact (attribute e x) = then_exact (expr_exact e) (one_exact _)
    expr_exact (item e k) = then_exact (expr_exact e) (then_exact (expr_exact k) (one_exact _))
    expr_exact (call e args) = call_exact (callee e) (argument_count args) (base_exact e) (expr_exact e) (λ n. arguments_exact args n (positional_exact args n) (keyword_exact args 0))
    expr_exact (list es) = folded_exact (fold f (list es)) (then_exact (items_exact es) (one_exact _))
    expr_exact (tuple es) = folded_exact (fold f (tuple es)) (then_exact (items_exact es) (one_exact _))
    expr_exact (map ks vs) = folded_exact (fold f (map ks vs)) (then_exact (paired_exact (each f ks) (each f vs) (each_exact ks) (each_exact vs)) (one_exact _))

    pub base_exact : (e : Expr C) → Exact (base f e)
    base_exact (attribute e x) = expr_exact e
    base_exact e = one_exact _

    pub optional_exact : (d : C) (o : Optional C) → Exact (optional f d o)
    optional_exact d absent = one_exact _
    optional_exact d (present e) = expr_exact e

    pub operand_exact : (o : Optional C) → Exact (operand f o)
    operand_exact absent = nothing_exact
    operand_exact (present e) = expr_exact e

    pub items_exact : (es : Exprs C) → Exact (items f es)
    items_exact no_more = nothing_exact
    items_exact (more e es) = then_exact (expr_exact e) (items_exact es)

    pub each_exact : (es : Exprs C) → AllExact (each f es)
    each_exact no_more = tt
    each_exact (more e es) = (expr_exact e, each_exact es)

    pub chain_exact : (cs : Comparisons C) → Exact (chain f cs)
    chain_exact compared = nothing_exact
    chain_exact (against o e cs) = chained_exact (expr_exact e) (comparisons_exact cs o)

    pub comparisons_exact : (cs : Comparisons C) (o : CompareOp) → LeadingExact (comparisons f o cs)
    comparisons_exact compared o = plain_exact (comparison_exact o)
    comparisons_exact (against o' e cs) o = and_then_exact o (expr_exact e) (comparisons_exact cs o')

    pub positional_exact : (args : Args C) (n : ℕ) → Exact (positional f args n)
    positional_exact no_args n = nothing_exact
    positional_exact (pos e args) n = then_exact (expr_exact e) (positional_exact args (suc n))
    positional_exact (pos_splat e args) n = then_exact (batch_exact (λ n. BuildList (Some n)) n) (then_exact (expr_exact e) (positional_exact args 0))
    positional_exact (kwarg x e args) n = positional_exact args n
    positional_exact (kwarg_splat e args) n = positional_exact args n

    pub keyword_exact : (args : Args C) (n : ℕ) → Exact (keyword f args n)
    keyword_exact no_args n = nothing_exact
    keyword_exact (pos e args) n = keyword_exact args n
    keyword_exact (pos_splat e args) n = keyword_exact args n
    keyword_exact (kwarg x e args) n = then_exact (one_exact _) (then_exact (expr_exact e) (keyword_exact args (suc n)))
    keyword_exact (kwarg_splat e args) n = then_exact (batch_exact BuildKwargs n) (then_exact (expr_exact e) (keyword_exact args 0))

  mutual
    pub target_exact : (e : Expr C) → Exact (target f e)
    target_exact (variable x) = one_exact _
    target_exact (attribute e x) = then_exact (expr_exact e) (one_exact _)
    target_exact (list es) = then_exact (one_exact _) (targets_exact es)
    target_exact e = nothing_exact

    pub targets_exact : (es : Exprs C) → Exact (targets f es)
    targets_exact no_more = nothing_exact
    targets_exact (more e es) = then_exact (target_exact e) (targets_exact es)

  pub assignments_exact : (ts : List (Expr C × Expr C)) → Exact (assignments f ts)
  assignments_exact [] = nothing_exact
  assignments_exact (a ∷ rest) = then_exact (expr_exact a.1) (then_exact (target_exact a.0) (assignments_exact rest))

  pub write_exact : (o : Written C) {p : Piece C} → Exact p → Exact (write f o p)
  write_exact Super e = one_exact _
  write_exact (Recursion r) e = then_exact (expr_exact r) (one_exact _)
  write_exact (BlockOf x) e = one_exact _
  write_exact Plain e = then_exact e (one_exact _)

  pub counting_exact : Exact (counting f)
  counting_exact = branches_exact (then_exact (one_exact _) (then_exact (one_exact _) (one_exact _))) (one_exact _)

  -- what a loop does with each item that may be kept
  pub keeping_exact : (e condition : Expr C) → LeadingExact {X = Exits} (plain (one DupTop ▸ target f e ▸ expr f condition ▸ counting f))
  keeping_exact e condition = plain_exact (then_exact (one_exact _) (then_exact (target_exact e) (then_exact (expr_exact condition) counting_exact)))

  pub passing_exact : (e : Expr C) (only : Optional C) {p : Piece C} → Exact p → Exact (passing f e only p)
  passing_exact e absent x = x
  passing_exact e (present condition) x = then_exact (one_exact _) (then_exact x (then_exact (one_exact _) (then_exact (turning_exact (keeping_exact e condition)) (then_exact (one_exact _) (one_exact _)))))

  pub looping_exact : (e : Expr C) (recursive has_else : Bool) {p : Leading Exits C} → LeadingExact p → Exact (looping f e recursive has_else p)
  looping_exact e recursive has_else x = then_exact (one_exact _) (then_exact (turning_exact (and_exact (plain_exact (target_exact e)) x)) (popping_exact has_else))

  pub filters_exact : (chain : Optional C) → Exact (filters f chain)
  filters_exact absent = nothing_exact
  filters_exact (present chain) = expr_exact chain

  pub defaulting_exact : (o : Optional C) → Exact (defaulting f o)
  defaulting_exact absent = nothing_exact
  defaulting_exact (present e) = then_exact (one_exact _) (then_exact (one_exact _) (skipping_exact JumpIfFalse (then_exact (one_exact _) (expr_exact e))))

  pub taking_exact : (ps : List (Parameter C)) → Exact (taking f ps)
  taking_exact [] = nothing_exact
  taking_exact (p ∷ ps) = then_exact (defaulting_exact p.default) (then_exact (target_exact p.target) (taking_exact ps))

  pub making_exact : {L : Type 0} (m : Macro C L) {p : Piece C} → Exact p → (entry : ℕ) → Exact (making f m p entry)
  making_exact (macro n x args defaults body) e entry = then_exact (skipping_exact Jump e) (then_exact (enclosing_exact _) (then_exact (one_exact _) (then_exact (one_exact _) (one_exact _))))

  -- it is as long, wherever what it runs begins
  pub making_past : {L : Type 0} (m : Macro C L) (p : Piece C) (entry : ℕ) (h : Here) → (making f m p entry).past h ≡ (making f m p 0).past h
  making_past (macro n x args defaults body) p entry h = refl

  pub making_entered : {L : Type 0} (m : Macro C L) {p : Piece C} → Exact p → Exact (entered (making f m p))
  making_entered m {p} e = record { ends = λ h. (making_exact m e (behind 1 h).place).ends h ∙ ap (λ (a : Here). a.place) (making_past m p (behind 1 h).place h) }

  pub up_to_caller_exact : (args : Args C) (n : ℕ) → Exact (up_to_caller f args n)
  up_to_caller_exact args n = then_exact (positional_exact args n) (then_exact (keyword_exact args 0) (one_exact _))

  pub arguments_with_exact : (args : Args C) (n : ℕ) {m : Piece C} → Exact m → Exact (arguments_with f args n m)
  arguments_with_exact args n e = then_exact (up_to_caller_exact args n) (then_exact e (then_exact (merged_exact _ _) (spreading_exact _ _)))

  pub call_with_exact : (e : Expr C) (args : Args C) {m : Piece C} → Exact m → Exact (call_with f e args m)
  call_with_exact e args x = call_exact (callee e) (argument_count_with args) (base_exact e) (expr_exact e) (λ n. arguments_with_exact args n x)

  pub looking_up_exact : (ns : List (Expr C × Optional C)) → Exact (looking_up f ns)
  looking_up_exact [] = nothing_exact
  looking_up_exact (n ∷ ns) = then_exact (expr_exact n.0) (looking_up_exact ns)

  pub storing_back_exact : (ns : List (Expr C × Optional C)) → Exact (storing_back f ns)
  storing_back_exact [] = nothing_exact
  storing_back_exact (n ∷ ns) = then_exact (storing_back_exact ns) (target_exact (stored_as n))

  pub within_exact : (mode : CaptureMode) (e : Expr C) → Exact (within f mode e)
  within_exact mode e = then_exact (one_exact _) (then_exact (one_exact _) (then_exact (expr_exact e) (one_exact _)))

  mutual
    pub stmt_exact : {L : Type 0} (s : Stmt C L) (os : List Open) → LeadingExact (stmt f os s)
    stmt_exact (template ss) os = stmts_exact ss os
    stmt_exact (data_text t) os = plain_exact (one_exact _)
    stmt_exact (output e) os = plain_exact (write_exact (written e) (expr_exact e))
    stmt_exact (assignment e v) os = plain_exact (then_exact (expr_exact v) (target_exact e))
    stmt_exact (for_loop n e v only recursive body else_body) os =
        and_exact (plain_exact (then_exact (passing_exact e only (expr_exact v)) (looping_exact e recursive (are_any else_body) (stmts_exact body [])))) (if_true_exact (are_any else_body) (stmts_exact else_body os))
    stmt_exact (if_cond e true_body false_body) os = and_exact (plain_exact (expr_exact e)) (either_exact (are_any false_body) (stmts_exact true_body os) (stmts_exact false_body os))
    stmt_exact (with_block ts body) os = and_exact (plain_exact (then_exact (one_exact _) (assignments_exact ts))) (and_exact (stmts_exact body (OpenScope ∷ os)) (plain_exact (one_exact _)))
    stmt_exact (set_block e chain body) os = and_exact (plain_exact (one_exact _)) (and_exact (stmts_exact body (OpenCapture ∷ os)) (plain_exact (then_exact (one_exact _) (then_exact (filters_exact chain) (target_exact e)))))
    stmt_exact (auto_escape e body) os = and_exact (plain_exact (then_exact (expr_exact e) (one_exact _))) (and_exact (stmts_exact body (OpenAutoEscape ∷ os)) (plain_exact (one_exact _)))
    stmt_exact (filter_block chain body) os = and_exact (plain_exact (one_exact _)) (and_exact (stmts_exact body (OpenCapture ∷ os)) (plain_exact (then_exact (one_exact _) (then_exact (expr_exact chain) (one_exact _)))))
    stmt_exact (named_block x required body) os = plain_exact (one_exact _)
    stmt_exact (extends e) os = plain_exact (then_exact (expr_exact e) (one_exact _))
    stmt_exact (include e ignore) os = plain_exact (then_exact (expr_exact e) (one_exact _))
    stmt_exact (import_all e t) os = plain_exact (then_exact (within_exact _ e) (then_exact (one_exact _) (then_exact (one_exact _) (then_exact (one_exact _) (then_exact (one_exact _) (target_exact t))))))
    stmt_exact (from_import e ns) os = plain_exact (then_exact (within_exact _ e) (then_exact (looking_up_exact ns) (then_exact (one_exact _) (then_exact (storing_back_exact ns) (then_exact (one_exact _) (one_exact _))))))
    stmt_exact (declare m) os = plain_exact (then_exact (macro_exact m) (one_exact _))
    stmt_exact (call_block e args m) os = plain_exact (then_exact (call_with_exact e args (macro_exact m)) (one_exact _))
    stmt_exact (do_call e args) os = plain_exact (then_exact (expr_exact (call e args)) (one_exact _))
    stmt_exact break_loop os = leaving_exact (λ x. x.break_to) os
    stmt_exact continue_loop os = leaving_exact (λ x. x.continue_to) os

    pub stmts_exact : {L : Type 0} (ss : Stmts C L) (os : List Open) → LeadingExact (stmts f os ss)
    stmts_exact done os = plain_exact nothing_exact
    stmts_exact (also s rest) os = and_exact (stmt_exact s os) (stmts_exact rest os)

    pub macro_exact : {L : Type 0} (m : Macro C L) → Exact (macro_value f m)
    macro_exact (macro n x args defaults body) = making_entered (macro n x args defaults body) (then_exact (taking_exact (parameters args defaults)) (then_exact (exact_to (stmts_exact body []) outside) (one_exact Return)))
