-- Comparisons, one after another.
use Rattle.std.proofs.Common.{◌≡◌, ◌<◌, ◌≤◌, ℕ, length, arith, Bool, true, false, List, [], ◌∷◌, ◌++◌, if◌then◌else◌, Some, refl, sym, ap, ◌∙◌, length-append}
use Rattle.minijinja_value.specs.Values.{Functions}
use Rattle.minijinja_syntax.specs.Streams.{SpannedTok}
use Rattle.minijinja_syntax.specs.declared.tokens.Span.{Span}
use Rattle.minijinja_tree.specs.CompareOps.{CompareOp}
use Rattle.minijinja_tree.specs.SpannedTrees.{Expr, binary, compare, comparisons_of}
use Rattle.minijinja_tree.specs.Erasure.{bin_op}
use Rattle.minijinja_grammar.specs.Words.{begins_comparison, compare_op}
use Rattle.minijinja_grammar.specs.Places.{Place}
use Rattle.minijinja_grammar.specs.internal.Forms.{Form, Turn, go_on, over, one, many, Turns, no_turn, last_turn, turn, Derives, Read, got, short, wrong, read_then, read_turn, reads}
use Rattle.minijinja_grammar.specs.Ahead.{comes}
use Rattle.minijinja_grammar.specs.internal.ExprForms.{of_kind, compare_operator, comparison, compare_all, expanded}
use Rattle.minijinja_grammar.specs.internal.Climbing.{comparisons, operation}
use Rattle.minijinja_grammar.proofs.Forms.{left, sound, same_read, takes_shorter, read_then_got}
use Rattle.minijinja_parser_tokens.specs.internal.Levels.{compare_op_at, comparison_at, next_operator, tighter}
use Rattle.minijinja_parser_tokens.specs.declared.operators.Level.{Level}
use Rattle.minijinja_parser_tokens.specs.declared.operators.Level.TheVariants.{Sum}
use Rattle.minijinja_parser_tokens.specs.declared.operators.Operator.{Operator}
use Rattle.minijinja_parser_tokens.specs.declared.operators.Operator.TheVariants.{Binary, Comparison}
use Rattle.minijinja_parser_tokens.proofs.Turned.{read_no_longer, take_shorter}
use Rattle.minijinja_parser_expr.specs.private.Levels.{level_at, operation_at}
use Rattle.minijinja_parser_expr.proofs.Repeated.{many_done, many_more}
use Rattle.minijinja_parser_expr.proofs.Climbed.{comparison_comes}

pub op_shorter : (p q : Place) (o : CompareOp) → compare_op_at p ≡ got o q → length q.tokens < length p.tokens
op_shorter p q o e =
    let i : (t : SpannedTok) × (m : Place) × (reads (one (of_kind begins_comparison)) p ≡ got t m) × (reads (compare_operator (compare_op t.0)) m ≡ got o q) = read_then_got _ _ _ _ e in
    omega (arith, takes_shorter (of_kind begins_comparison) p i.1 i.0 (sound (one (of_kind begins_comparison)) p i.1 i.0 i.2), read_no_longer (compare_operator (compare_op i.0.0)) i.1 q o i.3)

-- two comparisons or more are a chain
pub chain_is : {C : Type 0} (e : Expr C) (cs : List (CompareOp × Expr C)) (s : Span) → 2 ≤ length cs → compare e (comparisons_of cs) s ≡ compare_all e cs s
chain_is e [] s h = absurd (omega arith)
chain_is e (c ∷ []) s h = absurd (omega arith)
chain_is e (c ∷ d ∷ cs) s h = refl

module _ {C : Type 0} (sum : Form (Expr C)) where
  abbrev Compared : Type 0
  Compared = CompareOp × Expr C

  pub comparison_shorter : (p q : Place) (c : Compared) → comparison_at sum p ≡ got c q → length q.tokens < length p.tokens
  comparison_shorter p q c e =
      let i : (o : CompareOp) × (m : Place) × (compare_op_at p ≡ got o m) × (read_then (reads sum m) (λ x s. got (o, x) s) ≡ got c q) = read_then_got _ _ _ _ e in
      let j : (x : Expr C) × (s : Place) × (reads sum i.1 ≡ got x s) × (got (i.0, x) s ≡ got c q) = read_then_got _ _ _ _ i.3 in
      let k : (j.1 ≡ q) × ((i.0, j.0) ≡ c) = same_read _ _ _ _ j.3 in
      omega (arith, op_shorter p i.1 i.0 i.2, read_no_longer sum i.1 j.1 j.0 j.2, ap left k.0)

  -- ---- a chain

  pub chain_done : (cs : List Compared) (p : Place) → comes begins_comparison p.tokens ≡ false → reads (many (of_kind begins_comparison) (comparison sum) cs) p ≡ got cs p
  chain_done cs p e = many_done begins_comparison (λ t. t) (comparison sum) cs p e

  pub chain_more : (cs : List Compared) (p : Place) → comes begins_comparison p.tokens ≡ true →
      reads (many (of_kind begins_comparison) (comparison sum) cs) p ≡ read_then (comparison_at sum p) (λ c q. reads (many (of_kind begins_comparison) (comparison sum) (cs ++ c ∷ [])) q)
  unfolding reads comparison
  chain_more cs p e = many_more begins_comparison (λ t. t) (comparison sum) cs p e ∙ go (reads (one (of_kind begins_comparison)) p)
    where
      others : List Compared → Place → Read (List Compared)
      others ds s = reads (many (of_kind begins_comparison) (comparison sum) ds) s

      right : (o : CompareOp) (r : Read (Expr C)) → read_turn (read_then r (λ x s. got (go_on (cs ++ (o, x) ∷ [])) s)) others ≡ read_then (read_then r (λ x s. got (o, x) s)) (λ c s. others (cs ++ c ∷ []) s)
      right o (got x s) = refl
      right o (short s) = refl
      right o (wrong s) = refl

      both : (r : Read CompareOp) → read_turn (read_then r (λ o q. read_then (reads sum q) (λ x s. got (go_on (cs ++ (o, x) ∷ [])) s))) others ≡
          read_then (read_then r (λ o q. read_then (reads sum q) (λ x s. got (o, x) s))) (λ c s. others (cs ++ c ∷ []) s)
      both (got o q) = right o (reads sum q)
      both (short q) = refl
      both (wrong q) = refl

      go : (r : Read SpannedTok) → read_then r (λ t q. read_turn (read_then (reads (compare_operator (compare_op t.0)) q) (λ o q. read_then (reads sum q) (λ x s. got (go_on (cs ++ (o, x) ∷ [])) s))) others) ≡
          read_then (read_then (read_then r (λ t q. reads (compare_operator (compare_op t.0)) q)) (λ o q. read_then (reads sum q) (λ x s. got (o, x) s))) (λ c s. others (cs ++ c ∷ []) s)
      go (got t q) = both (reads (compare_operator (compare_op t.0)) q)
      go (short q) = refl
      go (wrong q) = refl

  count : Turn (List Compared) → ℕ
  count (go_on cs) = length cs
  count (over cs) = length cs

  turns_longer : (cs : List Compared) (p q : Place) (ds : List Compared) → Turns (of_kind begins_comparison) (λ cs t. Derives (comparison sum cs t)) cs p q ds → length cs ≤ length ds
  unfolding comparison count
  turns_longer cs p q ds (no_turn e) = omega arith
  turns_longer cs p q ds (last_turn t d) = let n = d.3.3.1 in cc
  turns_longer cs p q ds (turn {y = es} {r = m} {s = s} t d f) =
      let more : length (cs ++ (d.0, d.3.0) ∷ []) ≡ length es = ap count d.3.3.1 in
      omega (arith, more, length-append cs ((d.0, d.3.0) ∷ []), turns_longer es m q ds f)

  -- of two comparisons or more
  pub chain_longer : (c : Compared) (p q : Place) (ds : List Compared) → comes begins_comparison p.tokens ≡ true →
      reads (many (of_kind begins_comparison) (comparison sum) (c ∷ [])) p ≡ got ds q → 2 ≤ length ds
  chain_longer c p q ds e k =
      let i : (d : Compared) × (m : Place) × (comparison_at sum p ≡ got d m) × (reads (many (of_kind begins_comparison) (comparison sum) (c ∷ d ∷ [])) m ≡ got ds q) =
      read_then_got _ _ _ _ (sym (chain_more (c ∷ []) p e) ∙ k) in
      omega (arith, turns_longer (c ∷ i.0 ∷ []) i.1 q ds (sound (many (of_kind begins_comparison) (comparison sum) (c ∷ i.0 ∷ [])) i.1 q ds i.3))

  -- ---- comparisons after an operand

  pub comparisons_are : (before : Span) (x : Expr C) (p : Place) → comes begins_comparison p.tokens ≡ true → reads (comparisons sum before x) p ≡
      read_then (comparison_at sum p) (λ c q. if comes begins_comparison q.tokens
      then read_then (reads (many (of_kind begins_comparison) (comparison sum) (c ∷ [])) q) (λ cs r. got (compare_all x cs (expanded before r.last)) r)
      else got (compare_all x (c ∷ []) (expanded before q.last)) q)
  unfolding reads
  comparisons_are before x p e = ap (λ r. read_then r made) (chain_more [] p e) ∙ go (comparison_at sum p)
    where
      made : List Compared → Place → Read (Expr C)
      made cs r = got (compare_all x cs (expanded before r.last)) r

      at : (c : Compared) (q : Place) (b : Bool) → comes begins_comparison q.tokens ≡ b →
          read_then (reads (many (of_kind begins_comparison) (comparison sum) (c ∷ [])) q) made ≡
          (if b then read_then (reads (many (of_kind begins_comparison) (comparison sum) (c ∷ [])) q) made else made (c ∷ []) q)
      at c q true k = refl
      at c q false k = ap (λ r. read_then r made) (chain_done (c ∷ []) q k)

      go : (r : Read Compared) → read_then (read_then r (λ c q. reads (many (of_kind begins_comparison) (comparison sum) (c ∷ [])) q)) made ≡
          read_then r (λ c q. if comes begins_comparison q.tokens then read_then (reads (many (of_kind begins_comparison) (comparison sum) (c ∷ [])) q) made else made (c ∷ []) q)
      go (got c q) = at c q (comes begins_comparison q.tokens) refl
      go (short q) = refl
      go (wrong q) = refl

-- ---- how many tokens an operation leaves

comparisons_shorter : {C : Type 0} (sum : Form (Expr C)) (before : Span) (x y : Expr C) (p q : Place) → comes begins_comparison p.tokens ≡ true →
    reads (comparisons sum before x) p ≡ got y q → length q.tokens < length p.tokens
comparisons_shorter {C = C} sum before x y p q e h =
    let i : (c : CompareOp × Expr C) × (m : Place) × (comparison_at sum p ≡ got c m) × (later c m ≡ got y q) = read_then_got _ _ _ _ (sym (comparisons_are sum before x p e) ∙ h) in
    omega (arith, comparison_shorter sum p i.1 i.0 i.2, go i.0 i.1 (comes begins_comparison i.1.tokens) i.3)
  where
    chain : CompareOp × Expr C → Place → Read (Expr C)
    chain c m = read_then (reads (many (of_kind begins_comparison) (comparison sum) (c ∷ [])) m) (λ cs r. got (compare_all x cs (expanded before r.last)) r)

    later : CompareOp × Expr C → Place → Read (Expr C)
    later c m = if comes begins_comparison m.tokens then chain c m else got (compare_all x (c ∷ []) (expanded before m.last)) m

    go : (c : CompareOp × Expr C) (m : Place) (b : Bool) → (if b then chain c m else got (compare_all x (c ∷ []) (expanded before m.last)) m) ≡ got y q → length q.tokens ≤ length m.tokens
    go c m true k =
        let i : (cs : List (CompareOp × Expr C)) × (r : Place) × (reads (many (of_kind begins_comparison) (comparison sum) (c ∷ [])) m ≡ got cs r) × (got (compare_all x cs (expanded before r.last)) r ≡ got y q) = read_then_got _ _ _ _ k in
        let j : (i.1 ≡ q) × (compare_all x i.0 (expanded before i.1.last) ≡ y) = same_read _ _ _ _ i.3 in
        omega (arith, read_no_longer (many (of_kind begins_comparison) (comparison sum) (c ∷ [])) m i.1 i.0 i.2, ap left j.0)
    go c m false k =
        let j : (m ≡ q) × (compare_all x (c ∷ []) (expanded before m.last) ≡ y) = same_read _ _ _ _ k in
        omega (arith, ap left j.0)

pub operation_shorter : {C F : Type 0} (f : Functions C F) (depth : ℕ) (o : Operator) (l : Level) (from before : Span) (x y : Expr C) (p q : Place) →
    next_operator l p.tokens ≡ Some o → operation_at f depth o from before x p ≡ got y q → length q.tokens < length p.tokens
unfolding operation
operation_shorter {C = C} f depth (Binary b k) l from before x y p q e h =
    let right : Form (Expr C) = level_at f depth (tighter k) in
    let i : (t : SpannedTok) × (m : Place) × (reads (one Some) p ≡ got t m) × (read_then (reads right m) (λ r s. got (binary (bin_op b) x r (expanded from s.last)) s) ≡ got y q) = read_then_got _ _ _ _ h in
    let j : (r : Expr C) × (s : Place) × (reads right i.1 ≡ got r s) × (got (binary (bin_op b) x r (expanded from s.last)) s ≡ got y q) = read_then_got _ _ _ _ i.3 in
    let u : (j.1 ≡ q) × (binary (bin_op b) x j.0 (expanded from j.1.last) ≡ y) = same_read _ _ _ _ j.3 in
    omega (arith, take_shorter p i.1 i.0 i.2, read_no_longer right i.1 j.1 j.0 j.2, ap left u.0)
operation_shorter f depth Comparison l from before x y p q e h = comparisons_shorter (level_at f depth Sum) before x y p q (comparison_comes l p.tokens e) h
