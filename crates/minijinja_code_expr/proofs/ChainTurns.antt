-- The turns of the loop over a chain of comparisons.
use Rattle.std.proofs.Common.{◌≡◌, ℕ, ◌+◌, ◌<◌, List, [], ◌∷◌, ◌++◌, length, map, drop, take, get_or, Option, Some, None, true, false, refl, sym, ap, ◌∙◌, subst, arith, append_assoc, add-one}
use Rattle.std.specs.Prelude.{Bool}
use Rattle.std.proofs.lemmas.List.{at_drop_more}
use Rattle.std.proofs.Math.Seq.{take-append_seam}
use Rattle.minijinja_value.specs.Values.{Functions}
use Rattle.minijinja_tree.specs.CompareOps.{CompareOp}
use Rattle.minijinja_tree.specs.Folding.{if_some, fold, fold_chain}
use Rattle.minijinja_tree.specs.Tree.{Expr, Comparisons, against, compare}
use Rattle.minijinja_tree.specs.Erasure.{expr_tree, compare_op, comparisons_of}
use Rattle.minijinja_tree.specs.WellFormed.{IsWhole, AreCompared}
use Rattle.minijinja_tree_expr.specs.declared.ast.CompareOp.{CompareOp as Comparison}
use Rattle.minijinja_semantics.specs.Code.{Instr, Load, CompareAndPreserve}
use Rattle.minijinja_semantics.specs.Layout.{Failing, and_then, expr, comparisons}
use Rattle.minijinja_semantics.specs.Pieces.{Here, one, ◌▸◌}
use Rattle.minijinja_code_expr.specs.internal.Leading.{After, Finishes}
use Rattle.minijinja_emitter.specs.internal.Making.{Made, here_of, followed, hole, capped, alone, between, Adds}
use Rattle.minijinja_code_expr.specs.private.Comparing.{operand_then, after_one, after_two, ahead, Leads, Holds, known}
use Rattle.minijinja_semantics.proofs.FoldedCode.{folded_code}
use Rattle.minijinja_emitter.proofs.Adding.{adds_as, adds_followed}
use Rattle.minijinja_code_expr.proofs.ChainCode.{leads_then, leads_operand, leads_comparison}
use Rattle.minijinja_code_expr.proofs.ChainFolds.{held_from, held_before, added_alone, added_load, known_first, known_second, chain_true, chain_false, chain_none}

leads_as : {C : Type 0} {a b : Made C} {ps qs : List ℕ} {r r' s s' : Failing C} → r ≡ r' → s ≡ s' → Leads a ps r b qs s → Leads a ps r' b qs s'
leads_as {C} {a} {b} {ps} {qs} {r} {r'} {s} {s'} er es l = subst (λ t. Leads a ps r' b qs t) es (subst (λ t. Leads a ps t b qs s) er l)

module _ {C : Type 0} where
  followed_after : (a m : Made C) {n : Made C} (xs ys : List (Instr C)) → m ≡ followed a xs → n ≡ followed m ys → n ≡ followed a (xs ++ ys)
  followed_after a m {n} xs ys em en =
      en ∙ ap (λ (k : Made C). followed k ys) em ∙ ap (λ l. record { code = l; filters = a.filters; tests = a.tests }) (append_assoc a.code xs ys)

  -- what was held is held after more code
  held_later : (m n : Made C) (held : Option ℕ) (value : Option C) → (more : List (Instr C)) × (n.code ≡ m.code ++ more) → Holds m.code held value → Holds n.code held value
  held_later m n held value more h = subst (λ l. Holds l held value) (sym more.1) (held_before m.code more.0 held value h)

  -- two instructions note no name
  pub two_followed : {a b : Made C} {i j : Instr C} → Adds a b (one i ▸ one j) → (more : List (Instr C)) × (b ≡ followed a more)
  two_followed {a} {b} {i} {j} s =
      let more : List (Instr C) = capped i ∷ capped j ∷ [] in
      let named : Here → Made C = λ h. record { code = a.code ++ more; filters = h.filters; tests = h.tests } in
      let put : List (Instr C) → Made C = λ l. record { code = l; filters = b.filters; tests = b.tests } in
      (more, ap put s.code ∙ ap named s.past)

  -- a constant in place of what was added
  pub adds_folded : {F : Type 0} (f : Functions C F) {a m n : Made C} (e : Expr C) (b : C) (start : ℕ) (more : List (Instr C)) → fold f e ≡ Some b → start ≡ length a.code → m ≡ followed a more → n ≡ record m { code = take start m.code ++ Load b ∷ [] } → Adds a n (expr f e)
  adds_folded f {a} {m} {n} e b start more k at em en =
      let put : Made C → Made C = λ l. record { code = take start l.code ++ Load b ∷ []; filters = l.filters; tests = l.tests } in
      let loads : n ≡ followed a (Load b ∷ []) =
      en ∙ ap put em
      ∙ ap (λ s. record { code = take s (a.code ++ more) ++ Load b ∷ []; filters = a.filters; tests = a.tests }) at
      ∙ ap (λ l. record { code = l ++ Load b ∷ []; filters = a.filters; tests = a.tests }) (take-append_seam a.code more) in
      adds_as (sym (folded_code f e b k)) (adds_followed (Load b) (Load b) refl loads)

module _ {V K C F : Type 0} (f : Functions C F) (c : V → C) where
  -- the comparison before a place, where another follows
  pub leads_before : {a b : Made C} (xs : List (Comparison V K)) (i j : ℕ) (x : Comparison V K) (ps qs : List ℕ) → i ≡ j + 1 → i < length xs → Adds a b (one (CompareAndPreserve (compare_op (get_or xs j x).op)) ▸ one hole) → qs ≡ ps ++ (length a.code + 1) ∷ [] → Leads a ps (ahead f c xs i) b qs (after_one f (comparisons_of c (drop i xs)))
  leads_before {a} {b} xs i j x ps qs next within s eq =
      let o : CompareOp = compare_op (get_or xs j x).op in
      let y : Comparison V K = get_or xs i x in
      let others : Failing C = comparisons f (compare_op y.op) (comparisons_of c (drop (i + 1) xs)) in
      let was : ahead f c xs i ≡ and_then o (expr f (expr_tree c y.expr)) others =
      ap (ahead f c xs) (next ∙ add-one j)
      ∙ at_drop_more (λ ys. after_two f (comparisons_of c ys)) xs j x (omega (arith, within, next))
      ∙ ap (λ n. comparisons f o (comparisons_of c (drop n xs))) (sym next)
      ∙ at_drop_more (λ ys. comparisons f o (comparisons_of c ys)) xs i x within in
      let now : after_one f (comparisons_of c (drop i xs)) ≡ operand_then (expr f (expr_tree c y.expr)) others =
      at_drop_more (λ ys. after_one f (comparisons_of c ys)) xs i x within in
      leads_as (sym was) (sym now) (leads_comparison o ps qs (expr f (expr_tree c y.expr)) others s eq)

  -- what holds before each comparison of a chain that began here
  pub record Underway (a : Made C) (e : Expr C) (xs : List (Comparison V K)) (i : ℕ) (now : Made C) (ps : List ℕ) (value : Option C) : Type 0 where
    -- the code so far, and what is left
    pub leads : Leads a [] (operand_then (expr f e) (after_one f (comparisons_of c xs))) now ps (ahead f c xs i)
    -- what the chain folds to, of the constant before, where all holds so far
    pub folds : fold f (compare e (comparisons_of c xs)) ≡ if_some value (λ v. fold_chain f v (comparisons_of c (drop i xs)))
    -- then all the code so far can be removed
    pub back : (v : C) → value ≡ Some v → (more : List (Instr C)) × (now ≡ followed a more)

  -- the same wherever it began, and the constant before
  pub record Turning (old : Made C) (e : Expr C) (xs : List (Comparison V K)) (start i : ℕ) (now : Made C) (ps : List ℕ) (held : Option ℕ) : Type 0 where
    pub value : Option C
    pub holds : Holds now.code held value
    pub operands : AreCompared (comparisons_of c (drop i xs))
    pub underway : (a : Made C) → After (expr f e) start a old → Underway a e xs i now ps value

  -- after the first operand
  pub turning_first : (m : Made C) (e : Expr C) (xs : List (Comparison V K)) (start : ℕ) (ps : List ℕ) (held : Option ℕ) → IsWhole (compare e (comparisons_of c xs)) → ps ≡ [] → Holds m.code held (alone (between start (length m.code) m.code)) → Turning m e xs start 0 m ps held
  unfolding fold
  turning_first m e xs start ps held whole none holds = record {
    value = alone (between start (length m.code) m.code);
    holds = holds;
    operands = whole.2;
    underway = λ a r. record {
      leads = subst (λ qs. Leads a [] (operand_then (expr f e) (after_one f (comparisons_of c xs))) m qs (ahead f c xs 0)) (sym none) (leads_operand [] (after_one f (comparisons_of c xs)) r.added);
      folds = ap (λ k. if_some k (λ v. fold_chain f v (comparisons_of c xs))) (sym (added_alone f e whole.0 r.at r.added));
      back = λ v same. (Load v ∷ [], added_load f e v (sym (added_alone f e whole.0 r.at r.added) ∙ same) r.added);
    };
  }

  -- the comparison before an operand and the operand were added
  pub record Turn (old : Made C) (e : Expr C) (xs ys : List (Comparison V K)) (start i : ℕ) (x : Comparison V K) (m m1 m2 : Made C) (ps qs : List ℕ) (held : Option ℕ) (place : ℕ) : Type 0 where
    pub before : Turning old e xs start i m ps held
    pub within : i < length xs
    pub is : x ≡ get_or xs i x
    pub same : ys ≡ xs
    pub leads : Leads m ps (ahead f c ys i) m1 qs (after_one f (comparisons_of c (drop i ys)))
    pub followed : (more : List (Instr C)) × (m1 ≡ followed m more)
    pub at : place ≡ length m1.code
    pub added : Adds m1 m2 (expr f (expr_tree c x.expr))

  pub turn : {old : Made C} {e : Expr C} {xs ys : List (Comparison V K)} {start i : ℕ} {x : Comparison V K} {m m1 m2 : Made C} {ps qs : List ℕ} {held : Option ℕ} {place : ℕ} → Turning old e xs start i m ps held → i < length xs → x ≡ get_or xs i x → ys ≡ xs → Leads m ps (ahead f c ys i) m1 qs (after_one f (comparisons_of c (drop i ys))) → (more : List (Instr C)) × (m1 ≡ followed m more) → place ≡ length m1.code → Adds m1 m2 (expr f (expr_tree c x.expr)) → Turn old e xs ys start i x m m1 m2 ps qs held place
  turn t within is same leads more at added = record { before = t; within = within; is = is; same = same; leads = leads; followed = more; at = at; added = added }

  module _ {old : Made C} {e : Expr C} {xs ys : List (Comparison V K)} {start i : ℕ} {x : Comparison V K} {m m1 m2 : Made C} {ps qs : List ℕ} {held : Option ℕ} {place : ℕ} (t : Turn old e xs ys start i x m m1 m2 ps qs held place) where
    abbrev rest : Comparisons C
    rest = comparisons_of c (drop (i + 1) xs)

    abbrev right : Option C
    right = alone (between place (length m2.code) m2.code)

    turn_is : comparisons_of c (drop i xs) ≡ against (compare_op x.op) (expr_tree c x.expr) rest
    turn_is =
        at_drop_more (λ ys. comparisons_of c ys) xs i x t.within
        ∙ ap (λ (z : Comparison V K). against (compare_op z.op) (expr_tree c z.expr) rest) (sym t.is)

    turn_whole : IsWhole (expr_tree c x.expr) × AreCompared rest
    turn_whole = subst AreCompared turn_is t.before.operands

    turn_right : right ≡ fold f (expr_tree c x.expr)
    turn_right = added_alone f (expr_tree c x.expr) turn_whole.0 t.at t.added

    pub turn_held : Holds m2.code held t.before.value
    turn_held =
        let more = t.followed in
        held_later m1 m2 held t.before.value (map capped ((expr f (expr_tree c x.expr)).code (here_of m1)), t.added.code)
        (held_later m m1 held t.before.value (more.0, ap (λ (k : Made C). k.code) more.1) t.before.holds)

    turn_leads : (a : Made C) → After (expr f e) start a old → Leads a [] (operand_then (expr f e) (after_one f (comparisons_of c xs))) m2 qs (ahead f c xs (i + 1))
    turn_leads a r =
        let others : Failing C = comparisons f (compare_op x.op) rest in
        let now : ahead f c xs (i + 1) ≡ others = ap (ahead f c xs) (add-one i) ∙ ap (after_two f) turn_is in
        let first = subst (λ zs. Leads m ps (ahead f c zs i) m1 qs (after_one f (comparisons_of c (drop i zs)))) t.same t.leads in
        leads_then (t.before.underway a r).leads (leads_then first (leads_as (sym (ap (after_one f) turn_is)) (sym now) (leads_operand qs others t.added)))

    turn_folds : (a : Made C) → After (expr f e) start a old → fold f (compare e (comparisons_of c xs)) ≡ if_some t.before.value (λ v. fold_chain f v (against (compare_op x.op) (expr_tree c x.expr) rest))
    turn_folds a r = (t.before.underway a r).folds ∙ ap (λ cs. if_some t.before.value (λ v. fold_chain f v cs)) turn_is

    -- what the comparison of the constants gives
    abbrev pub Answers : Option Bool → Type 0
    Answers answer = (value : Option C) → Holds m2.code held value → answer ≡ known f (compare_op x.op) value right

    turn_back : (b : Bool) → Some b ≡ known f (compare_op x.op) t.before.value right → (a : Made C) → After (expr f e) start a old → (more : List (Instr C)) × (m2 ≡ followed a more)
    turn_back b h a r =
        let first = known_first f (compare_op x.op) t.before.value right b h in
        let second = known_second f (compare_op x.op) t.before.value right b h in
        let back = (t.before.underway a r).back first.0 first.1 in
        let more = t.followed in
        let load : List (Instr C) = Load second.0 ∷ [] in
        let loads : m2 ≡ followed m1 load = added_load f (expr_tree c x.expr) second.0 (sym turn_right ∙ second.1) t.added in
        ((back.0 ++ more.0) ++ load, followed_after a m1 (back.0 ++ more.0) load (followed_after a m back.0 more.0 back.1 more.1) loads)

    pub turn_holds : {answer : Option Bool} {last : Option ℕ} → Answers answer → answer ≡ Some true → last ≡ Some place → Turning old e xs start (i + 1) m2 qs last
    turn_holds {answer} {last} answers h now =
        let o : CompareOp = compare_op x.op in
        let k : Some true ≡ known f o t.before.value right = sym h ∙ answers t.before.value turn_held in
        let second = known_second f o t.before.value right true k in
        record {
          value = right;
          holds = subst (λ q. Holds m2.code q right) (sym now) (held_from m2.code place second.0 second.1);
          operands = turn_whole.1;
          underway = λ a r. record {
            leads = turn_leads a r;
            folds = turn_folds a r ∙ chain_true f o (expr_tree c x.expr) rest t.before.value right turn_right k;
            back = λ v same. turn_back true k a r;
          };
        }

    pub turn_stops : {answer : Option Bool} {last : Option ℕ} → Answers answer → answer ≡ None → last ≡ None → Turning old e xs start (i + 1) m2 qs last
    unfolding if_some
    turn_stops {answer} {last} answers h now =
        let o : CompareOp = compare_op x.op in
        let k : None ≡ known f o t.before.value right = sym h ∙ answers t.before.value turn_held in
        record {
          value = None;
          holds = subst (λ q. Holds m2.code q None) (sym now) tt;
          operands = turn_whole.1;
          underway = λ a r. record {
            leads = turn_leads a r;
            folds = turn_folds a r ∙ chain_none f o (expr_tree c x.expr) rest t.before.value right turn_right k;
            back = λ v same. absurd (cc);
          };
        }

    -- a comparison that does not hold makes the chain false
    pub turn_false : {answer : Option Bool} → Answers answer → answer ≡ Some false → (a : Made C) → After (expr f e) start a old → fold f (compare e (comparisons_of c xs)) ≡ Some (f.of_bool false)
    turn_false {answer} answers h a r =
        let o : CompareOp = compare_op x.op in
        let k : Some false ≡ known f o t.before.value right = sym h ∙ answers t.before.value turn_held in
        turn_folds a r ∙ chain_false f o (expr_tree c x.expr) rest t.before.value right turn_right k

    -- one that does not hold ends the chain
    pub turn_fails : {n : Made C} {answer : Option Bool} → Answers answer → answer ≡ Some false → n ≡ record m2 { code = take start m2.code ++ Load (f.of_bool false) ∷ [] } → Finishes f (compare e (comparisons_of c xs)) start old n
    turn_fails {n} {answer} answers h put a r =
        let o : CompareOp = compare_op x.op in
        let k : Some false ≡ known f o t.before.value right = sym h ∙ answers t.before.value turn_held in
        let back = turn_back false k a r in
        adds_folded f (compare e (comparisons_of c xs)) (f.of_bool false) start back.0 (turn_false answers h a r) r.at back.1 put
