-- A meaning closes what it opens, and takes answers without adding any.
use Rattle.std.proofs.Common.{◌≡◌, ℕ, zero, suc, ◌≤◌, List, [], ◌∷◌, Option, Some, None, Result, Ok, Err, refl, ap, ◌∙◌, length, arith}
use Rattle.std.specs.Prelude.{Bool, true, false, if◌then◌else◌}
use Rattle.minijinja_value.specs.Values.{Functions}
use Rattle.minijinja_tree.specs.Operators.{Working, Makes, Divides, IfTrue, IfFalse, working}
use Rattle.minijinja_tree.specs.Comparisons.{compares}
use Rattle.minijinja_tree.specs.Callees.{Callee, function, method, block, object, callee}
use Rattle.minijinja_tree.specs.Tree.{UnaryOp, logical_not, negation, Expr, variable, constant, slice, unary, binary, compare, if_expr, filter, test, attribute, item, call, list, tuple, map, Optional, absent, present, Exprs, no_more, more, Comparisons, compared, against, Args, no_args, pos, pos_splat, kwarg, kwarg_splat, Stmt, template, data_text, output, assignment, for_loop, if_cond, with_block, set_block, auto_escape, filter_block, named_block, extends, include, import_all, from_import, declare, call_block, do_call, break_loop, continue_loop, Stmts, done, also, Macro, macro, Parameter, stored_as}
use Rattle.minijinja_semantics.specs.Events.{CaptureMode, EndCapture, BeginCapture, Iterate, Event, Answer, Fault, Values, World, Did, Gave, Ended, Means, next, give, choose, operated, fitted, answered, ask, item_fits, event, tell, get}
use Rattle.minijinja_semantics.specs.FilterChains.{fed}
use Rattle.minijinja_semantics.specs.Calls.{Written, Super, Recursion, BlockOf, Plain, written}
use Rattle.minijinja_semantics.specs.Meaning.{operate_one, operate, in_pairs, Taken, nothing_yet, keyword_map, spread, arguments, call_of, expr, base, optional, items, each, chain, positional, keyword, Signal, On, Broke, Continued, if_on, assign, assign_each, assign_all, filtered, write, LoopTurn, with_item, turns, all_turns, keep_if, passing, do_body, looped, enclose, made, call_with, store_argument, store_arguments, within, look_up, store_back, stmt, stmts, macro_run}
use Rattle.minijinja_semantics.specs.Macros.{enclosed}
use Rattle.minijinja_syntax.specs.Texts.{Text}
use Rattle.minijinja_semantics.specs.Brackets.{Bracket, ScopeBracket, LoopBracket, AutoEscapeBracket, CaptureBracket, Family, ScopesAndLoops, AutoEscapes, Captures, is_of, after_opening, after_closing, Opens, Closes, Neither, mark, marked, brackets, IsBalanced}
use Rattle.minijinja_semantics.specs.Correct.{fresh}

-- what is open of each family
abbrev Change : Type 0
Change = Family → Option (List Bracket) → Option (List Bracket)

-- this is open of a family where the run goes on
abbrev Opened : {N C F X : Type 0} → Family → Option (List Bracket) → Did (Event N C) C F X → Type 0
Opened y bs (Gave w x) = brackets y w.record_so_far ≡ bs
Opened y bs (Ended w e) = Unit {0}

-- the answers that are left
abbrev pub answers_left : {E C F X : Type 0} → Did E C F X → List (Answer C)
answers_left (Gave w x) = w.answers
answers_left (Ended w e) = w.answers

-- where a piece goes on, this is open, of what was open before; it leaves no more answers than
-- there were
pub record Moves {N C F X : Type 0} (g : Change) (m : Means N C F X) : Type 0 where
  pub moves : (y : Family) (w : World (Event N C) C) → Opened y (g y (brackets y w.record_so_far)) (m w)
  pub fewer : (w : World (Event N C) C) → length (answers_left (m w)) ≤ length w.answers

-- what was open
abbrev same_ones : Change
same_ones y bs = bs

-- where a piece goes on, the same is open
abbrev pub Keeps : {N C F X : Type 0} → Means N C F X → Type 0
Keeps m = Moves same_ones m

fitted_opened : {N C X : Type 0} (F : Type 0) (y : Family) (x : Option X) (e : Event N C) (vs : List C) (taken : List (Event N C × Answer C)) (answers : List (Answer C)) → Opened {F = F} y (marked y (mark e.kind) (brackets y taken)) (fitted x e vs taken answers)
unfolding fitted
fitted_opened F y None e vs taken answers = tt
fitted_opened F y (Some x) e vs taken answers = refl

answered_opened : {N C X : Type 0} (F : Type 0) (y : Family) (fit : List C → Option X) (e : Event N C) (taken : List (Event N C × Answer C)) (answers : List (Answer C)) → Opened {F = F} y (marked y (mark e.kind) (brackets y taken)) (answered fit e taken answers)
unfolding answered
answered_opened F y fit e taken [] = tt
answered_opened F y fit e taken (Fault ∷ answers) = tt
answered_opened F y fit e taken (Values vs ∷ answers) = fitted_opened F y (fit vs) e vs taken answers

fitted_fewer : {N C X : Type 0} (F : Type 0) (x : Option X) (e : Event N C) (vs : List C) (taken : List (Event N C × Answer C)) (answers : List (Answer C)) → length (answers_left (fitted {F = F} x e vs taken answers)) ≤ length answers
unfolding fitted
fitted_fewer F None e vs taken answers = omega arith
fitted_fewer F (Some x) e vs taken answers = omega arith

answered_fewer : {N C X : Type 0} (F : Type 0) (fit : List C → Option X) (e : Event N C) (taken : List (Event N C × Answer C)) (answers : List (Answer C)) → length (answers_left (answered {F = F} fit e taken answers)) ≤ length answers
unfolding answered
answered_fewer F fit e taken [] = omega arith
answered_fewer F fit e taken (Fault ∷ answers) = omega arith
answered_fewer F fit e taken (Values vs ∷ answers) = omega (arith, fitted_fewer F (fit vs) e vs taken answers)

closed_again : (b : Bracket) (bs : Option (List Bracket)) → after_closing b (after_opening b bs) ≡ bs
closed_again b None = refl
closed_again ScopeBracket (Some bs) = refl
closed_again LoopBracket (Some bs) = refl
closed_again AutoEscapeBracket (Some bs) = refl
closed_again CaptureBracket (Some bs) = refl

closed_if : (t : Bool) (b : Bracket) (bs : Option (List Bracket)) → (if t then after_closing b (if t then after_opening b bs else bs) else (if t then after_opening b bs else bs)) ≡ bs
closed_if true b bs = closed_again b bs
closed_if false b bs = refl

marked_again : (y : Family) (b : Bracket) (bs : Option (List Bracket)) → marked y (Closes b) (marked y (Opens b) bs) ≡ bs
unfolding marked
marked_again y b bs = closed_if (is_of y b) b bs

marked_neither : (y : Family) (bs : Option (List Bracket)) → marked y Neither bs ≡ bs
unfolding marked
marked_neither y bs = refl

-- a scope that begins in a capture and ends after it
across : (y : Family) (bs : Option (List Bracket)) → marked y (Closes ScopeBracket) (marked y (Closes CaptureBracket) (marked y (Opens ScopeBracket) (marked y (Opens CaptureBracket) bs))) ≡ bs
unfolding marked
across ScopesAndLoops bs = closed_again ScopeBracket bs
across AutoEscapes bs = refl
across Captures bs = closed_again CaptureBracket bs

-- one that ends within it
around : (y : Family) (bs : Option (List Bracket)) → marked y (Closes CaptureBracket) (marked y (Closes ScopeBracket) (marked y (Opens ScopeBracket) (marked y (Opens CaptureBracket) bs))) ≡ bs
around y bs = ap (marked y (Closes CaptureBracket)) (marked_again y ScopeBracket (marked y (Opens CaptureBracket) bs)) ∙ marked_again y CaptureBracket bs

-- each piece keeps what is open
abbrev AllKeep : {N C F : Type 0} → List (Means N C F C) → Type 0
AllKeep [] = Unit {0}
AllKeep (m ∷ ms) = Keeps m × AllKeep ms

module _ {N C F : Type 0} where
  opened_next : {X Y : Type 0} (y : Family) (bs cs : Option (List Bracket)) (d : Did (Event N C) C F X) (n : X → Means N C F Y) → Opened y bs d → ((x : X) (w : World (Event N C) C) → brackets y w.record_so_far ≡ bs → Opened y cs (n x w)) → Opened y cs (next d n)
  unfolding next
  opened_next y bs cs (Gave w x) n h k = k x w h
  opened_next y bs cs (Ended w e) n h k = tt

  opened_as : {X : Type 0} {bs cs : Option (List Bracket)} (y : Family) (d : Did (Event N C) C F X) → bs ≡ cs → Opened y bs d → Opened y cs d
  opened_as y (Gave w x) e h = h ∙ e
  opened_as y (Ended w e') e h = tt

  next_fewer : {X Y : Type 0} (d : Did (Event N C) C F X) (n : X → Means N C F Y) (k : ℕ) → length (answers_left d) ≤ k → ((x : X) (w : World (Event N C) C) → length (answers_left (n x w)) ≤ length w.answers) → length (answers_left (next d n)) ≤ k
  unfolding next
  next_fewer (Gave w x) n k le h = omega (arith, h x w)
  next_fewer (Ended w e) n k le h = le

  pub moves_next : {X Y : Type 0} {g h : Change} {m : Means N C F X} {n : X → Means N C F Y} → Moves g m → ((x : X) → Moves h (n x)) → Moves (λ y bs. h y (g y bs)) (λ w. next (m w) n)
  moves_next {g = g} {h = h} {m = m} {n = n} a b = record {
    moves = λ y w.
        let before = g y (brackets y w.record_so_far) in
        opened_next y before (h y before) (m w) n (a.moves y w) (λ x w' e. opened_as y (n x w') (ap (h y) e) ((b x).moves y w'));
    fewer = λ w. next_fewer (m w) n (length w.answers) (a.fewer w) (λ x w'. (b x).fewer w');
  }

  pub moves_as : {X : Type 0} {g h : Change} {m : Means N C F X} → ((y : Family) (bs : Option (List Bracket)) → g y bs ≡ h y bs) → Moves g m → Moves h m
  moves_as {m = m} e a = record { moves = λ y w. opened_as y (m w) (e y (brackets y w.record_so_far)) (a.moves y w); fewer = a.fewer }

  pub keeps_next : {X Y : Type 0} {m : Means N C F X} {n : X → Means N C F Y} → Keeps m → ((x : X) → Keeps (n x)) → Keeps (λ w. next (m w) n)
  keeps_next a b = moves_next a b

  pub keeps_give : {X : Type 0} (x : X) → Keeps {N = N} {C = C} {F = F} (give x)
  keeps_give x = record { moves = λ y w. refl; fewer = λ w. omega arith }

  operated_opened : {X : Type 0} (y : Family) (r : Result X F) (w : World (Event N C) C) → Opened y (brackets y w.record_so_far) (operated r w)
  unfolding operated
  operated_opened y (Ok x) w = refl
  operated_opened y (Err e) w = tt

  operated_fewer : {X : Type 0} (r : Result X F) (w : World (Event N C) C) → length (answers_left (operated r w)) ≤ length w.answers
  unfolding operated
  operated_fewer (Ok x) w = omega arith
  operated_fewer (Err e) w = omega arith

  keeps_operated : {X : Type 0} (r : Result X F) → Keeps {N = N} {C = C} (operated r)
  keeps_operated r = record { moves = λ y w. operated_opened y r w; fewer = operated_fewer r }

  pub keeps_choose : {X : Type 0} {m n : Means N C F X} (b : Bool) → Keeps m → Keeps n → Keeps (choose b m n)
  unfolding choose
  keeps_choose true a c = a
  keeps_choose false a c = c

  moves_ask : {X : Type 0} (fit : List C → Option X) (e : Event N C) → Moves {F = F} (λ y. marked y (mark e.kind)) (ask fit e)
  unfolding ask
  moves_ask fit e = record {
    moves = λ y w. answered_opened F y fit e w.record_so_far w.answers;
    fewer = λ w. answered_fewer F fit e w.record_so_far w.answers;
  }

  -- an event that opens and closes nothing
  pub keeps_ask : {X : Type 0} (fit : List C → Option X) (e : Event N C) → mark e.kind ≡ Neither → Keeps {F = F} (ask fit e)
  keeps_ask fit e h = moves_as (λ y bs. ap (λ m. marked y m bs) h ∙ marked_neither y bs) (moves_ask fit e)

  -- one that opens, and one that closes
  pub opens_ask : {X : Type 0} (b : Bracket) (fit : List C → Option X) (e : Event N C) → mark e.kind ≡ Opens b → Moves {F = F} (λ y. marked y (Opens b)) (ask fit e)
  opens_ask b fit e h = moves_as (λ y bs. ap (λ m. marked y m bs) h) (moves_ask fit e)

  pub closes_ask : {X : Type 0} (b : Bracket) (fit : List C → Option X) (e : Event N C) → mark e.kind ≡ Closes b → Moves {F = F} (λ y. marked y (Closes b)) (ask fit e)
  closes_ask b fit e h = moves_as (λ y bs. ap (λ m. marked y m bs) h) (moves_ask fit e)

  -- what is opened and closed again
  pub keeps_between : {X Y : Type 0} {m : Means N C F X} {n : X → Means N C F Y} (b : Bracket) → Moves (λ y. marked y (Opens b)) m → ((x : X) → Moves (λ y. marked y (Closes b)) (n x)) → Keeps (λ w. next (m w) n)
  keeps_between b a c = moves_as (λ y bs. marked_again y b bs) (moves_next a c)

  -- what keeps all, before what closes
  pub closes_next : {X Y : Type 0} {m : Means N C F X} {n : X → Means N C F Y} (b : Bracket) → Keeps m → ((x : X) → Moves (λ y. marked y (Closes b)) (n x)) → Moves (λ y. marked y (Closes b)) (λ w. next (m w) n)
  closes_next b a c = moves_next a c

  -- what closes, before what keeps all
  pub closes_then : {X Y : Type 0} {m : Means N C F X} {n : X → Means N C F Y} (b : Bracket) → Moves (λ y. marked y (Closes b)) m → ((x : X) → Keeps (n x)) → Moves (λ y. marked y (Closes b)) (λ w. next (m w) n)
  closes_then b a c = moves_next a c

  -- the turns of a loop
  with_item_keeps : {S : Type 0} (i : Option C) {turn : LoopTurn N C F S} (came : Bool) (s : S) {others : S → Means N C F (Bool × S)} → ((v : C) (s : S) → Keeps (turn v s)) → ((s : S) → Keeps (others s)) → Keeps (with_item i turn came s others)
  unfolding with_item
  with_item_keeps None came s k o = keeps_give _
  with_item_keeps (Some v) came s k o = keeps_next (k v s) (λ r. keeps_choose r.0 (o r.1) (keeps_give _))

  turns_keep : {S : Type 0} (n : ℕ) {turn : LoopTurn N C F S} → ((v : C) (s : S) → Keeps (turn v s)) → (came : Bool) (s : S) → Keeps (turns n turn came s)
  unfolding turns
  turns_keep zero k came s = record { moves = λ y w. tt; fewer = λ w. omega arith }
  turns_keep (suc n) k came s = keeps_next (keeps_ask item_fits (event None Iterate [] []) refl) (λ i. with_item_keeps i came s k (turns_keep n k true))

  pub all_turns_keep : {S : Type 0} {turn : LoopTurn N C F S} → ((v : C) (s : S) → Keeps (turn v s)) → (came : Bool) (s : S) → Keeps (all_turns turn came s)
  unfolding all_turns
  all_turns_keep k came s = record {
    moves = λ y w. (turns_keep (length w.answers) k came s).moves y w;
    fewer = λ w. (turns_keep (length w.answers) k came s).fewer w;
  }

  -- a call, by what it calls
  call_keeps : (c : Callee C) {m n : Means N C F C} {given : Taken C C → Means N C F (List C)} → Keeps m → Keeps n → ((t : Taken C C) → Keeps (given t)) → Keeps (call_of c m n given)
  call_keeps (function x) a b g = keeps_next (g nothing_yet) (λ vs. keeps_ask _ _ refl)
  call_keeps (block x) a b g = keeps_between CaptureBracket (opens_ask CaptureBracket _ _ refl) (λ _. closes_next CaptureBracket (keeps_ask _ _ refl) (λ _. closes_ask CaptureBracket _ _ refl))
  call_keeps (method e x) a b g = keeps_next a (λ v. keeps_next (g _) (λ vs. keeps_ask _ _ refl))
  call_keeps (object e) a b g = keeps_next b (λ v. keeps_next (g _) (λ vs. keeps_ask _ _ refl))

  keeps_pairs : (ms ns : List (Means N C F C)) → AllKeep ms → AllKeep ns → Keeps (in_pairs ms ns)
  keeps_pairs [] ns h k = keeps_give []
  keeps_pairs (m ∷ ms) [] h k = keeps_give []
  keeps_pairs (m ∷ ms) (n ∷ ns) h k = keeps_next h.0 (λ x. keeps_next k.0 (λ y. keeps_next (keeps_pairs ms ns h.1 k.1) (λ ps. keeps_give _)))

module _ {C F : Type 0} (N : Type 0) (f : Functions C F) where
  keeps_one : (o : UnaryOp) (v : C) → Keeps {N = N} (operate_one f o v)
  keeps_one logical_not v = keeps_give _
  keeps_one negation v = keeps_operated _

  keeps_two : (k : Working) (x : C) {m : Means N C F C} → Keeps m → Keeps (operate f k x m)
  keeps_two (Makes o) x a = keeps_next a (λ y. keeps_operated _)
  keeps_two Divides x a = keeps_next a (λ y. keeps_ask _ _ refl)
  keeps_two IfTrue x a = keeps_choose (f.is_true x) a (keeps_give x)
  keeps_two IfFalse x a = keeps_choose (f.is_true x) (keeps_give x) a

  keeps_map : (bs : List C) (ps : List (C × C)) → Keeps {N = N} (keyword_map f bs ps)
  unfolding keyword_map
  keeps_map [] [] = keeps_give []
  keeps_map [] (p ∷ ps) = keeps_give _
  keeps_map (b ∷ bs) ps = keeps_next (keeps_ask _ _ refl) (λ m. keeps_give _)

  keeps_spread : (bs vs : List C) → Keeps {N = N} (spread f bs vs)
  unfolding spread
  keeps_spread [] vs = keeps_give vs
  keeps_spread (b ∷ bs) vs = keeps_ask _ _ refl

  keeps_arguments : {m : Means N C F (Taken C C)} {n : Means N C F (Taken C (C × C))} → Keeps m → Keeps n → Keeps (arguments f m n)
  keeps_arguments a b = keeps_next a (λ t. keeps_next b (λ k. keeps_next (keeps_map k.batches k.waiting) (λ m. keeps_spread t.batches _)))

  mutual
    pub expr_keeps : (e : Expr C) → Keeps {N = N} (expr f e)
    expr_keeps (variable x) = keeps_ask _ _ refl
    expr_keeps (constant c) = keeps_give c
    expr_keeps (slice e a b c) = keeps_next (expr_keeps e) (λ v. keeps_next (optional_keeps f.none a) (λ x. keeps_next (optional_keeps f.none b) (λ y. keeps_next (optional_keeps f.none c) (λ z. keeps_ask _ _ refl))))
    expr_keeps (unary o e) = keeps_next (expr_keeps e) (keeps_one o)
    expr_keeps (binary o a b) = keeps_next (expr_keeps a) (λ x. keeps_two (working o) x (expr_keeps b))
    expr_keeps (compare e cs) = keeps_next (expr_keeps e) (chain_keeps cs)
    expr_keeps (if_expr t a b) = keeps_next (expr_keeps t) (λ v. keeps_choose (f.is_true v) (expr_keeps a) (optional_keeps f.silent_undefined b))
    expr_keeps (filter o x args) = keeps_next (optional_keeps f.silent_undefined o) (λ v. keeps_next (keeps_arguments (positional_keeps args _) (keyword_keeps args _)) (λ vs. keeps_ask _ _ refl))
    expr_keeps (test e x args) = keeps_next (expr_keeps e) (λ v. keeps_next (keeps_arguments (positional_keeps args _) (keyword_keeps args _)) (λ vs. keeps_ask _ _ refl))
    expr_keeps (attribute e x) = keeps_next (expr_keeps e) (λ v. keeps_ask _ _ refl)
    expr_keeps (item e k) = keeps_next (expr_keeps e) (λ v. keeps_next (expr_keeps k) (λ u. keeps_ask _ _ refl))
    expr_keeps (call e args) = call_keeps (callee e) (base_keeps e) (expr_keeps e) (λ t. keeps_arguments (positional_keeps args t) (keyword_keeps args _))
    expr_keeps (list es) = keeps_next (items_keep es) (λ vs. keeps_give _)
    expr_keeps (tuple es) = keeps_next (items_keep es) (λ vs. keeps_give _)
    expr_keeps (map ks vs) = keeps_next (keeps_pairs (each f ks) (each f vs) (each_keeps ks) (each_keeps vs)) (λ ps. keeps_give _)

    base_keeps : (e : Expr C) → Keeps {N = N} (base f e)
    base_keeps (attribute e x) = expr_keeps e
    base_keeps e = keeps_give f.none

    optional_keeps : (d : C) (o : Optional C) → Keeps {N = N} (optional f d o)
    optional_keeps d absent = keeps_give d
    optional_keeps d (present e) = expr_keeps e

    items_keep : (es : Exprs C) → Keeps {N = N} (items f es)
    items_keep no_more = keeps_give []
    items_keep (more e es) = keeps_next (expr_keeps e) (λ v. keeps_next (items_keep es) (λ vs. keeps_give _))

    each_keeps : (es : Exprs C) → AllKeep {N = N} (each f es)
    each_keeps no_more = tt
    each_keeps (more e es) = (expr_keeps e, each_keeps es)

    chain_keeps : (cs : Comparisons C) (v : C) → Keeps {N = N} (chain f v cs)
    chain_keeps compared v = keeps_give _
    chain_keeps (against o e cs) v = keeps_next (expr_keeps e) (λ u. keeps_next (keeps_operated (compares f o v u)) (λ b. keeps_choose b (chain_keeps cs u) (keeps_give _)))

    positional_keeps : (args : Args C) (t : Taken C C) → Keeps {N = N} (positional f args t)
    positional_keeps no_args t = keeps_give t
    positional_keeps (pos e args) t = keeps_next (expr_keeps e) (λ v. positional_keeps args _)
    positional_keeps (pos_splat e args) t = keeps_next (expr_keeps e) (λ v. positional_keeps args _)
    positional_keeps (kwarg x e args) t = positional_keeps args t
    positional_keeps (kwarg_splat e args) t = positional_keeps args t

    keyword_keeps : (args : Args C) (t : Taken C (C × C)) → Keeps {N = N} (keyword f args t)
    keyword_keeps no_args t = keeps_give t
    keyword_keeps (pos e args) t = keyword_keeps args t
    keyword_keeps (pos_splat e args) t = keyword_keeps args t
    keyword_keeps (kwarg x e args) t = keeps_next (expr_keeps e) (λ v. keyword_keeps args _)
    keyword_keeps (kwarg_splat e args) t = keeps_next (expr_keeps e) (λ v. keyword_keeps args _)

  mutual
    pub assign_keeps : (target : Expr C) (v : C) → Keeps {N = N} {F = F} (assign f target v)
    assign_keeps (variable x) v = keeps_ask _ _ refl
    assign_keeps (attribute e x) v = keeps_next (expr_keeps e) (λ u. keeps_ask _ _ refl)
    assign_keeps (list es) v = keeps_next (keeps_ask _ _ refl) (assign_each_keeps es)
    assign_keeps target v = keeps_give tt

    assign_each_keeps : (es : Exprs C) (vs : List C) → Keeps {N = N} {F = F} (assign_each f es vs)
    assign_each_keeps no_more vs = keeps_give tt
    assign_each_keeps (more e es) [] = keeps_give tt
    assign_each_keeps (more e es) (v ∷ vs) = keeps_next (assign_keeps e v) (λ _. assign_each_keeps es vs)

  assign_all_keeps : (ts : List (Expr C × Expr C)) → Keeps {N = N} {F = F} (assign_all f ts)
  assign_all_keeps [] = keeps_give tt
  assign_all_keeps (a ∷ rest) = keeps_next (expr_keeps a.1) (λ v. keeps_next (assign_keeps a.0 v) (λ _. assign_all_keeps rest))

  filtered_keeps : (chain : Optional C) (v : C) → Keeps {N = N} (filtered f chain v)
  filtered_keeps absent v = keeps_give v
  filtered_keeps (present chain) v = expr_keeps (fed v chain)

  write_keeps : (o : Written C) {m : Means N C F C} → Keeps m → Keeps (write f o m)
  write_keeps Super a = keeps_next (keeps_ask _ _ refl) (λ _. keeps_give On)
  write_keeps (Recursion e) a = keeps_next (expr_keeps e) (λ v. keeps_next (keeps_ask _ _ refl) (λ _. keeps_give On))
  write_keeps (BlockOf x) a = keeps_next (keeps_ask _ _ refl) (λ _. keeps_give On)
  write_keeps Plain a = keeps_next a (λ v. keeps_next (keeps_ask _ _ refl) (λ _. keeps_give On))

  if_on_keeps : (g : Signal) {m : Means N C F Signal} → Keeps m → Keeps (if_on g m)
  unfolding if_on
  if_on_keeps On a = a
  if_on_keeps Broke a = keeps_give Broke
  if_on_keeps Continued a = keeps_give Continued

  pub keep_if_keeps : (target condition : Expr C) (v : C) (kept : List C) → Keeps {N = N} (keep_if f target condition v kept)
  keep_if_keeps target condition v kept = keeps_next (assign_keeps target v) (λ _. keeps_next (expr_keeps condition) (λ u. keeps_give _))

  passing_keeps : (target : Expr C) (only : Optional C) (v : C) → Keeps {N = N} (passing f target only v)
  passing_keeps target absent v = keeps_give v
  passing_keeps target (present condition) v =
      keeps_between LoopBracket (opens_ask LoopBracket _ _ refl) λ _.
      closes_next LoopBracket (all_turns_keep (keep_if_keeps target condition) false []) λ t.
      closes_then LoopBracket (closes_ask LoopBracket _ _ refl) (λ _. keeps_give _)

  pub do_body_keeps : (target : Expr C) {body : Means N C F Signal} → Keeps body → (v : C) (s : Unit {0}) → Keeps (do_body f target body v s)
  do_body_keeps target k v s = keeps_next (assign_keeps target v) (λ _. keeps_next k (λ g. keeps_give _))

  pub looped_keeps : (n : N) (target : Expr C) (recursive : Bool) {body : Means N C F Signal} → Keeps body → (v : C) → Keeps (looped f n target recursive body v)
  looped_keeps n target recursive k v =
      keeps_between LoopBracket (opens_ask LoopBracket _ _ refl) λ _.
      closes_next LoopBracket (all_turns_keep (do_body_keeps target k) false tt) λ t.
      closes_then LoopBracket (closes_ask LoopBracket _ _ refl) (λ _. keeps_give _)

  -- what is captured goes through what follows on it, where the body goes on
  captured_keeps : (mode : CaptureMode) {body : Means N C F Signal} {further : C → Means N C F Signal} → Keeps body → ((v : C) → Keeps (further v)) → Keeps (λ w. next (tell (BeginCapture mode) [] [] w) (λ _ w1. next (body w1) (λ g w2. next (get EndCapture [] [] w2) (λ v. if_on g (further v)))))
  captured_keeps mode k t =
      keeps_between CaptureBracket (opens_ask CaptureBracket _ _ refl) λ _.
      closes_next CaptureBracket k λ g.
      closes_then CaptureBracket (closes_ask CaptureBracket _ _ refl) (λ v. if_on_keeps g (t v))

  enclose_keeps : (xs : List Text) → Keeps {N = N} {C = C} {F = F} (enclose xs)
  enclose_keeps [] = keeps_give tt
  enclose_keeps (x ∷ xs) = keeps_next (keeps_ask _ _ refl) (λ _. enclose_keeps xs)

  made_keeps : (m : Macro C N) → Keeps {N = N} (made f m)
  made_keeps (macro n x args defaults body) = keeps_next (enclose_keeps (enclosed (macro n x args defaults body))) (λ _. keeps_next (keeps_ask _ _ refl) (λ c. keeps_ask _ _ refl))

  call_with_keeps : (e : Expr C) (args : Args C) (m : Macro C N) → Keeps {N = N} (call_with f e args m)
  call_with_keeps e args m = call_keeps (callee e) (base_keeps e) (expr_keeps e) (λ t. keeps_arguments (positional_keeps args t) (keeps_next (keyword_keeps args nothing_yet) (λ k. keeps_next (made_keeps m) (λ v. keeps_give _))))

  within_opens : (mode : CaptureMode) (e : Expr C) → Moves {N = N} {F = F} (λ y bs. marked y (Opens ScopeBracket) (marked y (Opens CaptureBracket) bs)) (within f mode e)
  within_opens mode e =
      moves_next (opens_ask CaptureBracket _ _ refl) λ _.
      moves_next (opens_ask ScopeBracket _ _ refl) λ _.
      moves_next (expr_keeps e) (λ v. keeps_ask _ _ refl)

  look_up_keeps : (ns : List (Expr C × Optional C)) → Keeps {N = N} (look_up f ns)
  look_up_keeps [] = keeps_give []
  look_up_keeps (n ∷ ns) = keeps_next (expr_keeps n.0) (λ v. keeps_next (look_up_keeps ns) (λ vs. keeps_give _))

  store_back_keeps : (ns : List (Expr C × Optional C)) (vs : List C) → Keeps {N = N} {F = F} (store_back f ns vs)
  store_back_keeps [] vs = keeps_give tt
  store_back_keeps (n ∷ ns) [] = keeps_give tt
  store_back_keeps (n ∷ ns) (v ∷ vs) = keeps_next (store_back_keeps ns vs) (λ _. assign_keeps (stored_as n) v)

  store_argument_keeps : (p : Parameter C) (v : C) → Keeps {N = N} {F = F} (store_argument f p v)
  store_argument_keeps p v = keeps_next (keeps_choose (f.is_undefined v) (optional_keeps v p.default) (keeps_give v)) (λ u. assign_keeps p.target u)

  store_arguments_keep : (ps : List (Parameter C)) (vs : List C) → Keeps {N = N} {F = F} (store_arguments f ps vs)
  store_arguments_keep [] vs = keeps_give tt
  store_arguments_keep (p ∷ ps) [] = keeps_give tt
  store_arguments_keep (p ∷ ps) (v ∷ vs) = keeps_next (store_argument_keeps p v) (λ _. store_arguments_keep ps vs)

  mutual
    pub stmt_keeps : (s : Stmt C N) → Keeps {N = N} (stmt f s)
    stmt_keeps (template ss) = stmts_keep ss
    stmt_keeps (data_text t) = keeps_next (keeps_ask _ _ refl) (λ _. keeps_give On)
    stmt_keeps (output e) = write_keeps (written e) (expr_keeps e)
    stmt_keeps (assignment target e) = keeps_next (expr_keeps e) (λ v. keeps_next (assign_keeps target v) (λ _. keeps_give On))
    stmt_keeps (for_loop n target e only recursive body else_body) =
        keeps_next (expr_keeps e) λ v.
        keeps_next (passing_keeps target only v) λ u.
        keeps_next (looped_keeps n target recursive (stmts_keep body) u) λ came.
        keeps_choose came (keeps_give On) (stmts_keep else_body)
    stmt_keeps (if_cond e true_body false_body) = keeps_next (expr_keeps e) (λ v. keeps_choose (f.is_true v) (stmts_keep true_body) (stmts_keep false_body))
    stmt_keeps (with_block ts body) =
        keeps_between ScopeBracket (opens_ask ScopeBracket _ _ refl) λ _.
        closes_next ScopeBracket (assign_all_keeps ts) λ _.
        closes_next ScopeBracket (stmts_keep body) λ g.
        closes_then ScopeBracket (closes_ask ScopeBracket _ _ refl) (λ _. keeps_give g)
    stmt_keeps (set_block target chain body) =
        captured_keeps _ (stmts_keep body) (λ v. keeps_next (keeps_next (filtered_keeps chain v) (assign_keeps target)) (λ _. keeps_give On))
    stmt_keeps (auto_escape e body) =
        keeps_next (expr_keeps e) λ v.
        keeps_between AutoEscapeBracket (opens_ask AutoEscapeBracket _ _ refl) λ _.
        closes_next AutoEscapeBracket (stmts_keep body) λ g.
        closes_then AutoEscapeBracket (closes_ask AutoEscapeBracket _ _ refl) (λ _. keeps_give g)
    stmt_keeps (filter_block chain body) =
        captured_keeps _ (stmts_keep body) (λ v. keeps_next (keeps_next (expr_keeps (fed v chain)) (λ u. keeps_ask _ _ refl)) (λ _. keeps_give On))
    stmt_keeps (named_block x required body) = keeps_next (keeps_ask _ _ refl) (λ _. keeps_give On)
    stmt_keeps (extends e) = keeps_next (expr_keeps e) (λ v. keeps_next (keeps_ask _ _ refl) (λ _. keeps_give On))
    stmt_keeps (include e ignore) = keeps_next (expr_keeps e) (λ v. keeps_next (keeps_ask _ _ refl) (λ _. keeps_give On))
    stmt_keeps (import_all e target) =
        moves_as across (moves_next (within_opens _ e) λ _.
        moves_next (closes_ask CaptureBracket _ _ refl) λ _.
        moves_next (keeps_ask _ _ refl) λ u.
        moves_next (closes_ask ScopeBracket _ _ refl) λ _.
        moves_next (assign_keeps target u) (λ _. keeps_give On))
    stmt_keeps (from_import e ns) =
        moves_as around (moves_next (within_opens _ e) λ _.
        moves_next (look_up_keeps ns) λ vs.
        moves_next (closes_ask ScopeBracket _ _ refl) λ _.
        moves_next (store_back_keeps ns vs) λ _.
        moves_next (closes_ask CaptureBracket _ _ refl) (λ _. keeps_give On))
    stmt_keeps (declare (macro n x args defaults body)) = keeps_next (made_keeps (macro n x args defaults body)) (λ v. keeps_next (keeps_ask _ _ refl) (λ _. keeps_give On))
    stmt_keeps (call_block e args m) = keeps_next (call_with_keeps e args m) (λ v. keeps_next (keeps_ask _ _ refl) (λ _. keeps_give On))
    stmt_keeps (do_call e args) = keeps_next (expr_keeps (call e args)) (λ v. keeps_give On)
    stmt_keeps break_loop = keeps_give Broke
    stmt_keeps continue_loop = keeps_give Continued

    pub stmts_keep : (ss : Stmts C N) → Keeps {N = N} (stmts f ss)
    stmts_keep done = keeps_give On
    stmts_keep (also s rest) = keeps_next (stmt_keeps s) (λ g. if_on_keeps g (stmts_keep rest))

module _ {C F : Type 0} (N : Type 0) (f : Functions C F) where
  pub macro_keeps : (ps : List (Parameter C)) (body : Stmts C N) (vs : List C) → Keeps {N = N} (macro_run f ps body vs)
  macro_keeps ps body vs = keeps_next (store_arguments_keep N f ps vs) (λ _. stmts_keep N f body)

opened_balanced : {N C F X : Type 0} (d : Did (Event N C) C F X) → ((y : Family) → Opened y (Some []) d) → IsBalanced d
opened_balanced (Gave w x) h = h
opened_balanced (Ended w e) h = tt

pub balanced_from : {N C F X : Type 0} (m : Means N C F X) (answers : List (Answer C)) → Keeps m → IsBalanced (m (fresh answers))
balanced_from m answers k = opened_balanced (m (fresh answers)) (λ y. k.moves y (fresh answers))
