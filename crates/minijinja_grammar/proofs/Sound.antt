-- Trees of the grammar stand at tokens, and are whole.
use Rattle.std.specs.Prelude.{◌&&◌, not, nat_lt}
use Rattle.std.proofs.lemmas.Bool.{ltb-true}
use Rattle.std.proofs.Common.{arith, ◌≤◌, ◌≡◌, ℕ, zero, suc, List, [], ◌∷◌, ◌++◌, length, Bool, true, false, if◌then◌else◌, Option, Some, None, refl, sym, ap, ◌∙◌, subst}
use Rattle.minijinja_syntax.specs.Texts.{Text}
use Rattle.minijinja_value.specs.Values.{Functions}
use Rattle.minijinja_syntax.specs.Tokens.{Tok, ident, str, string, int, int128, minus, pow, dot, colon, assign, pipe, bracket_open, bracket_close, paren_open, paren_close, brace_open, brace_close}
use Rattle.minijinja_syntax.specs.declared.tokens.Span.{Span}
use Rattle.minijinja_tree.specs.BinOps as bin
use Rattle.minijinja_tree.specs.BinOps.{BinOp}
use Rattle.minijinja_tree.specs.CompareOps as cmp
use Rattle.minijinja_tree.specs.CompareOps.{CompareOp}
use Rattle.minijinja_grammar.specs.Words.{else_word, not_word, compare_op, or_op, and_op, sum_op, cat_op, term_op, is, is_true_word, is_false_word, is_none_word, begins_expr, begins_primary, begins_postfix, begins_arg}
use Rattle.minijinja_syntax.specs.Streams.{SpannedTok}
use Rattle.minijinja_grammar.specs.internal.Forms.{go_on, Form, pure, ◌>>=◌, ◌>>◌}
use Rattle.minijinja_tree.specs.Tree.{logical_not, negation}
use Rattle.minijinja_tree.specs.SpannedTrees as tree
use Rattle.minijinja_tree.specs.SpannedTrees.{Expr, Arg, positional, starred, keyword, double_starred, exprs_of, args_of, comparisons_of, optional_of, variable, constant, bare_exprs, bare_args}
use Rattle.minijinja_tree.specs.WellFormed.{arg_count, expr_count, most_arguments}
use Rattle.minijinja_grammar.specs.internal.ExprForms as g
use Rattle.minijinja_grammar.specs.internal.ExprForms.{expanded}
use Rattle.minijinja_grammar.specs.private.Ensured.{Holds, Kept, Ensured}
use Rattle.minijinja_grammar.specs.private.Sound.{IsSound, IsSoundIfAny, AreSound, AreComparedSound, AreArgsSound}
use Rattle.minijinja_grammar.proofs.Ensured.{weaker}

pub both : {X Y : Type 0} → X → Y → Holds (X × Y)
both x y = record { it = (x, y) }

pair : {X Y : Type 1} → X → Y → X × Y
pair x y = (x, y)

pub alone : {X : Type 0} → X → Holds X
alone x = record { it = x }

abbrev span_or : Span → Option (Text × Span) → Span
span_or s None = s
span_or s (Some x) = x.1

module _ (T : SpannedTok → Type 0) (S : Span → Type 0) (spans : (t : SpannedTok) → T t → S t.1)
    (joins : (s to : Span) → S s → S to → S (expanded s to)) (G : Text → Type 0) where
  -- what is made with a span
  pub spanned : {A : Type 0} (from : Span) (make : Span → A) (P : A → Type 1) → S from → ((s : Span) → S s → P (make s)) → Ensured T S G (g.spanned from make) P
  spanned from make P h k = λ to i. k (expanded from to) (joins from to h i)

  pub next : (m : Tok) (P : Span → Type 1) → ((s : Span) → S s → P s) → Ensured T S G (g.next m) P
  next m P k = λ t x i j. k x (go t (is m t.0) x (spans t i) j)
    where
      go : (t : SpannedTok) (b : Bool) (x : Span) → S t.1 → (if b then Some t.1 else None) ≡ Some x → S x
      go t true x i j = subst S (some_is t.1 x j) i
        where
          some_is : (y x : Span) → Some y ≡ Some x → y ≡ x
          some_is y x e = cc
      go t false x i j = cc

  pub behind : {A : Type 0} (m : Tok) (f h : Form A) (P : A → Type 1) → Ensured T S G f P → Ensured T S G h P → Ensured T S G (g.behind m f h) P
  behind m f h P i j = (next m (λ s. Ensured T S G f P) (λ s k. i), j)

  pub items : {A : Type 0} (begins : Tok → Bool) (part : A → Form A) (I : A → Type 0) (P : A → Type 1) →
      ((x : A) → I x → Ensured T S G (part x) (λ y. Holds (I y))) → ((x : A) → I x → P x) → (x : A) → I x → Ensured T S G (g.items begins part x) P
  items begins part I P k l x i = (
    weaker T S G (part x) (λ y. Holds (I y)) _
        (λ y j. (I, j, (λ z u h m n o. (weaker T S G (part z) (λ w. Holds (I w)) _ (λ w r. r) (k z m), record { it = m })), l))
        (k x i),
    l x i,
  )

  pub of_kind_is : (begins : Tok → Bool) (t u : SpannedTok) → T t → g.of_kind begins t ≡ Some u → T u
  of_kind_is begins t u i j = go (begins t.0) j
    where
      go : (b : Bool) → (if b then Some t else None) ≡ Some u → T u
      go true k = subst T (same t u k) i
        where
          same : (t u : SpannedTok) → Some t ≡ Some u → t ≡ u
          same t u e = ap (λ o. elim o [ None ↦ t | Some v ↦ v ]) e
      go false k = cc

  abbrev pub IsName : Text → Type 1
  IsName x = Holds (Unit {0})

  pub ident_span : (t : SpannedTok) (x : Text × Span) → T t → g.ident_and_span t ≡ Some x → S x.1
  ident_span (ident y, s) x i e = subst S (ap (span_or s) e) (spans (ident y, s) i)
  ident_span _ x i e = cc

  pub name : Ensured T S G g.name IsName
  unfolding g.name g.name_part g.name_parts
  name = λ t x i j. (((λ _. Unit {0}), alone tt, (λ y u h k l m. λ v z n o. alone tt), (λ y k. λ z. alone tt)), alone tt)

  module _ {C : Type 0} where
    -- ---- lists

    pub all_append : (es : List (Expr C)) (e : Expr C) → AreSound T S (exprs_of es) → IsSound T S e → AreSound T S (exprs_of (es ++ e ∷ []))
    all_append [] e h k = (k, tt)
    all_append (x ∷ es) e h k = (h.0, all_append es e h.1 k)

    abbrev pub IsOne : Expr C → Type 1
    IsOne e = Holds (IsSound T S e)

    abbrev Are : List (Expr C) → Type 1
    Are es = Holds (AreSound T S (exprs_of es))

    module _ (expr : Form (Expr C)) (he : Ensured T S G expr IsOne) where
      pub exprs : (es : List (Expr C)) (P : List (Expr C) → Type 1) → AreSound T S (exprs_of es) → ((fs : List (Expr C)) → AreSound T S (exprs_of fs) → P fs) → Ensured T S G (g.exprs expr es) P
      unfolding g.exprs g.also
      exprs es P h k = items begins_expr (g.also expr) (λ fs. AreSound T S (exprs_of fs)) P
          (λ fs i. weaker T S G expr IsOne _ (λ e j. record { it = all_append fs e i j.it }) he) k es h

      -- a node that ends with the token
      closed : (m : Tok) (from : Span) (make : Span → Expr C) → S from → ((s : Span) → S s → IsSound T S (make s)) → Ensured T S G (g.next m >> g.spanned from make) IsOne
      closed m from make i k = next m (λ s. Ensured T S G (g.spanned from make) IsOne) (λ s j. spanned from make IsOne i (λ u l. alone (k u l)))

      in_brackets : (from : Span) → S from → Ensured T S G (g.in_brackets expr from) IsOne
      unfolding g.in_brackets
      in_brackets from i = exprs [] _ tt (λ es h. closed bracket_close from (tree.list (exprs_of es)) i (λ s l. (l, h)))

      rest_of_group : (from : Span) (e : Expr C) → S from → IsSound T S e → Ensured T S G (g.rest_of_group expr from e) IsOne
      unfolding g.rest_of_group
      rest_of_group from e i h = (
        λ t u j k. exprs (e ∷ []) _ (h, tt) (λ es l. closed paren_close from (tree.tuple (exprs_of es)) i (λ s m. (m, l))),
        λ t u j k. alone h,
      )

      group : (from : Span) → S from → Ensured T S G (g.group expr from) IsOne
      unfolding g.group
      group from i = (
        λ t u j k. spanned from (tree.tuple (exprs_of [])) IsOne i (λ s l. alone (l, tt)),
        weaker T S G expr IsOne _ (λ e h. rest_of_group from e i h.it) he,
      )

      -- the keys and the values
      abbrev Pairs : List (Expr C) × List (Expr C) → Type 0
      Pairs kvs = AreSound T S (exprs_of kvs.0) × AreSound T S (exprs_of kvs.1) × (length kvs.0 ≡ length kvs.1)

      one_more : (es : List (Expr C)) (e : Expr C) → length (es ++ e ∷ []) ≡ suc (length es)
      one_more [] e = refl
      one_more (x ∷ es) e = ap suc (one_more es e)

      count_is : (es : List (Expr C)) → expr_count (bare_exprs (exprs_of es)) ≡ length es
      count_is [] = refl
      count_is (e ∷ es) = ap suc (count_is es)

      pairs_append : (kvs : List (Expr C) × List (Expr C)) (k v : Expr C) → Pairs kvs → IsSound T S k → IsSound T S v → Pairs (kvs.0 ++ k ∷ [], kvs.1 ++ v ∷ [])
      pairs_append kvs k v h i j =
          (all_append kvs.0 k h.0 i, all_append kvs.1 v h.1 j, one_more kvs.0 k ∙ ap suc h.2 ∙ sym (one_more kvs.1 v))

      entry : (kvs : List (Expr C) × List (Expr C)) → Pairs kvs → Ensured T S G (g.entry expr kvs) (λ x. Holds (Pairs x))
      unfolding g.entry
      entry kvs h = weaker T S G expr IsOne _ (λ k i. λ t u j l. weaker T S G expr IsOne _ (λ v m. alone (pairs_append kvs k v h i.it m.it)) he) he

      in_braces : (from : Span) → S from → Ensured T S G (g.in_braces expr from) IsOne
      unfolding g.in_braces g.entries
      in_braces from i = items begins_expr (g.entry expr) Pairs _ (λ kvs h. entry kvs h)
          (λ kvs h. closed brace_close from (tree.map (exprs_of kvs.0) (exprs_of kvs.1)) i (λ s l. (l, h.0, h.1, count_is kvs.0 ∙ h.2 ∙ sym (count_is kvs.1)))) ([], []) (tt, tt, refl)

      word : {F : Type 0} (f : Functions C F) (x : Text) (s : Span) → S s → T (ident x, s) → IsSound T S (g.word f x s)
      unfolding g.word
      word f x s i j = go (is_true_word x) (is_false_word x) (is_none_word x)
        where
          go : (a b c : Bool) → IsSound T S (if a then constant (f.of_bool true) s else if b then constant (f.of_bool false) s else if c then constant f.none s else variable x s)
          go true b c = i
          go false true c = i
          go false false true = i
          go false false false = j

      texts : {F : Type 0} (f : Functions C F) (from : Span) (t : Text) → S from → Ensured T S G (g.texts f from t) IsOne
      unfolding g.texts
      texts f from t i = ((λ _. Unit {0}), alone tt, (λ y u h j k l. alone tt), (λ y j. spanned from (constant (f.of_str y)) IsOne i (λ s l. alone l)))

      begun : {F : Type 0} (f : Functions C F) (t : SpannedTok) → T t → Ensured T S G (g.begun expr f t) IsOne
      begun f (ident x, s) i = alone (word f x s (spans (ident x, s) i) i)
      begun f (str t, s) i = texts f s t (spans (str t, s) i)
      begun f (string t, s) i = texts f s t (spans (string t, s) i)
      begun f (int n, s) i = alone (spans (int n, s) i)
      begun f (int128 n, s) i = alone (spans (int128 n, s) i)
      begun f (paren_open, s) i = group s (spans (paren_open, s) i)
      begun f (bracket_open, s) i = in_brackets s (spans (bracket_open, s) i)
      begun f (brace_open, s) i = in_braces s (spans (brace_open, s) i)
      begun f _ i = alone tt

      primary : {F : Type 0} (f : Functions C F) → Ensured T S G (g.primary expr f) IsOne
      unfolding g.primary
      primary f = λ t u i j. begun f u (of_kind_is begins_primary t u i j)

      -- ---- arguments

      abbrev pub IsArgSound : Arg C → Type 0
      IsArgSound (positional e) = IsSound T S e
      IsArgSound (starred e) = IsSound T S e
      IsArgSound (keyword x e) = IsSound T S e
      IsArgSound (double_starred e) = IsSound T S e

      args_append : (xs : List (Arg C)) (x : Arg C) → AreArgsSound T S (args_of xs) → IsArgSound x → AreArgsSound T S (args_of (xs ++ x ∷ []))
      args_append [] (positional e) h k = (k, tt)
      args_append [] (starred e) h k = (k, tt)
      args_append [] (keyword x e) h k = (k, tt)
      args_append [] (double_starred e) h k = (k, tt)
      args_append (positional e ∷ xs) x h k = (h.0, args_append xs x h.1 k)
      args_append (starred e ∷ xs) x h k = (h.0, args_append xs x h.1 k)
      args_append (keyword y e ∷ xs) x h k = (h.0, args_append xs x h.1 k)
      args_append (double_starred e ∷ xs) x h k = (h.0, args_append xs x h.1 k)

      named : (x : Option Text) → Ensured T S G (g.named expr x) (λ x. Holds (IsArgSound x))
      named None = alone tt
      named (Some x) = weaker T S G expr IsOne _ (λ e k. alone k.it) he

      rest_of_arg : (e : Expr C) → IsSound T S e → Ensured T S G (g.rest_of_arg expr e) (λ x. Holds (IsArgSound x))
      rest_of_arg e h = behind assign (g.named expr (g.name_of_variable e)) (pure (positional e)) _ (named (g.name_of_variable e)) (alone h)

      arg : Ensured T S G (g.arg expr) (λ x. Holds (IsArgSound x))
      unfolding g.arg
      arg = (
        λ t u i j. weaker T S G expr IsOne _ (λ e k. alone k.it) he,
        (
          λ t u i j. weaker T S G expr IsOne _ (λ e k. alone k.it) he,
          weaker T S G expr IsOne _ (λ e k. rest_of_arg e k.it) he,
        ),
      )

      count_append : (xs : List (Arg C)) (x : Arg C) → arg_count (bare_args (args_of (xs ++ x ∷ []))) ≡ suc (length xs)
      count_append [] (positional e) = refl
      count_append [] (starred e) = refl
      count_append [] (keyword x e) = refl
      count_append [] (double_starred e) = refl
      count_append (positional e ∷ xs) x = ap suc (count_append xs x)
      count_append (starred e ∷ xs) x = ap suc (count_append xs x)
      count_append (keyword y e ∷ xs) x = ap suc (count_append xs x)
      count_append (double_starred e ∷ xs) x = ap suc (count_append xs x)

      abbrev pub AreArgs : List (Arg C) → Type 0
      AreArgs xs = AreArgsSound T S (args_of xs) × (arg_count (bare_args (args_of xs)) ≤ most_arguments)

      also_arg : (xs : List (Arg C)) → AreArgs xs → Ensured T S G (g.also_arg expr xs) (λ ys. Holds (AreArgs ys))
      unfolding g.also_arg
      also_arg xs h = weaker T S G (g.arg expr) (λ x. Holds (IsArgSound x)) _ (λ x k. given (not (g.is_plain x && g.has_named xs)) (nat_lt (length xs) most_arguments) x refl k.it) arg
        where
          given : (b c : Bool) (x : Arg C) → nat_lt (length xs) most_arguments ≡ c → IsArgSound x → Ensured T S G (g.when (b && c) (pure (xs ++ x ∷ []))) (λ zs. Holds (AreArgs zs))
          given true true x i k = alone (args_append xs x h.0 k, omega (arith, ltb-true _ _ i, count_append xs x))
          given true false x i k = alone tt
          given false c x i k = alone tt

      pub args : Ensured T S G (g.args expr) (λ xs. Holds (AreArgs xs))
      unfolding g.args g.arg_items
      args = items begins_arg (g.also_arg expr) AreArgs _ also_arg (λ xs h. λ t u i j. alone h) [] (tt, omega arith)

      -- ---- operands

      pub chosen : {A : Type 0} (m : Tok) (f h : Form A) (P : A → Type 1) → Ensured T S G f P → Ensured T S G h P → Ensured T S G (g.behind m f h) P
      chosen m f h P i j = ((λ t u k l. i), j)

      abbrev pub IsOptionSound : Option (Expr C) → Type 0
      IsOptionSound o = IsSoundIfAny T S (optional_of o)

      pub maybe_expr : (P : Option (Expr C) → Type 1) → ((o : Option (Expr C)) → IsOptionSound o → P o) → Ensured T S G (g.maybe_expr expr) P
      maybe_expr P k = (weaker T S G expr IsOne _ (λ e h. k (Some e) h.it) he, k None tt)

      step : (P : Option (Expr C) → Type 1) → ((o : Option (Expr C)) → IsOptionSound o → P o) → Ensured T S G (g.step expr) P
      step P k = ((λ t u i j. maybe_expr P k), k None tt)

      range : (e : Expr C) (from : Span) (o : Option (Expr C)) → IsSound T S e → S from → IsOptionSound o → Ensured T S G (g.range expr e from o) IsOne
      unfolding g.range
      range e from o h i j = maybe_expr _ (λ stop k. step _ (λ by l. closed bracket_close from (tree.slice e (optional_of o) (optional_of stop) (optional_of by)) i (λ s m. (m, h, j, k, l))))

      rest_of_subscript : (e : Expr C) (from : Span) (x : Expr C) → IsSound T S e → S from → IsSound T S x → Ensured T S G (g.rest_of_subscript expr e from x) IsOne
      unfolding g.rest_of_subscript
      rest_of_subscript e from x h i j = chosen colon (g.range expr e from (Some x)) (g.next bracket_close >> g.spanned from (tree.item e x)) IsOne (range e from (Some x) h i j) (closed bracket_close from (tree.item e x) i (λ s m. (m, h, j)))

      subscript : (e : Expr C) (from : Span) → IsSound T S e → S from → Ensured T S G (g.subscript expr e from) IsOne
      unfolding g.subscript
      subscript e from h i = chosen colon (g.range expr e from None) (expr >>= g.rest_of_subscript expr e from) IsOne (range e from None h i tt) (weaker T S G expr IsOne _ (λ x k. rest_of_subscript e from x h i k.it) he)

      module _ {F : Type 0} (f : Functions C F) where
        member_of : (e : Expr C) (from : Span) (t : SpannedTok) → T t → IsSound T S e → S from → Ensured T S G (g.member_of expr f e from t) IsOne
        member_of e from (ident x, s) i h j = spanned from (tree.attribute e x) IsOne j (λ s m. alone (m, h))
        member_of e from (int n, s) i h j = spanned from (tree.item e (constant (f.of_u64 n) s)) IsOne j (λ u m. alone (m, h, spans (int n, s) i))
        member_of e from (int128 n, s) i h j = spanned from (tree.item e (constant (f.of_u128 n) s)) IsOne j (λ u m. alone (m, h, spans (int128 n, s) i))
        member_of e from _ i h j = alone tt

        member : (e : Expr C) (from : Span) → IsSound T S e → S from → Ensured T S G (g.member expr f e from) IsOne
        unfolding g.member
        member e from h j = λ t u i k. member_of e from u (of_kind_is (g.begins_member expr) t u i k) h j

        called : (e : Expr C) (from : Span) → IsSound T S e → S from → Ensured T S G (g.args expr >>= (λ xs. g.spanned from (tree.call e (args_of xs)))) IsOne
        called e from h i = weaker T S G (g.args expr) (λ xs. Holds (AreArgs xs)) _ (λ xs k. spanned from (tree.call e (args_of xs)) IsOne i (λ s m. alone (m, h, k.it.0, k.it.1))) args

        postfix : (e : Expr C) (from : Span) (t : Tok) → IsSound T S e → S from → Ensured T S G (g.postfix expr f e from t) IsOne
        postfix e from dot h i = member e from h i
        postfix e from bracket_open h i = subscript e from h i
        postfix e from _ h i = called e from h i

    -- ---- what nests

    -- all that nests is so
    pub record AreNestedSound (b : g.Below C) : Type 1 where
      pub expr : Ensured T S G b.expr IsOne
      pub opposite : Ensured T S G b.opposite IsOne
      pub power : Ensured T S G b.power IsOne
      pub negated : Ensured T S G b.negated IsOne
      pub primary : Ensured T S G b.primary IsOne

    prefixed : (m : Tok) (o : _) (f : Form (Expr C)) → Ensured T S G f IsOne → Ensured T S G (g.prefixed m o f) IsOne
    prefixed m o f h = next m _ (λ from i. weaker T S G f IsOne _ (λ e k. spanned from (tree.unary o e) IsOne i (λ s j. alone (j, k.it))) h)

    -- an operand so far, and where the next node begins
    abbrev IsBase : Expr C × Span → Type 0
    IsBase e = IsSound T S e.0 × S e.1

    module _ {F : Type 0} (f : Functions C F) (b : g.Below C) (nested : AreNestedSound b) where
      postfixed : Ensured T S G (g.postfixed f b) IsOne
      unfolding g.postfixed
      postfixed = λ from i. weaker T S G b.primary IsOne _ (λ e h. (
        IsBase,
        alone (h.it, i),
        (λ y t u j k l. weaker T S G (g.postfix b.expr f y.0 y.1 u.0) IsOne _ (λ x m. alone (m.it, spans u (of_kind_is begins_postfix t u k l))) (postfix b.expr nested.expr f y.0 y.1 u.0 j.0 j.1)),
        λ y j. alone j.0,
      )) nested.primary

      operand : Ensured T S G (g.operand f b) IsOne
      unfolding g.operand
      operand = (prefixed minus negation b.negated nested.negated, postfixed)

      test_args : Ensured T S G (g.test_args f b) (λ xs. Holds (AreArgs b.expr nested.expr xs))
      unfolding g.test_args
      test_args = (
        (λ t u i j. args b.expr nested.expr),
        (weaker T S G (g.operand f b) IsOne _ (λ e h. alone ((h.it, tt), omega arith)) operand, alone (tt, omega arith)),
      )

      named_test : (e : Expr C) → IsSound T S e → Ensured T S G (g.named_test f b e) IsOne
      unfolding g.named_test
      named_test e h = λ from i. weaker T S G g.name IsName _
          (λ x j. weaker T S G (g.test_args f b) (λ xs. Holds (AreArgs b.expr nested.expr xs)) _ (λ xs k. spanned from (tree.test e x (args_of xs)) IsOne i (λ s m. alone (m, h, k.it.0, k.it.1))) test_args) name

      negated_test : (from : Span) (e : Expr C) → S from → IsSound T S e → Ensured T S G (g.named_test f b e >>= (λ t. g.spanned from (tree.unary logical_not t))) IsOne
      negated_test from e i h = weaker T S G (g.named_test f b e) IsOne _ (λ t k. spanned from (tree.unary logical_not t) IsOne i (λ s m. alone (m, k.it))) (named_test e h)

      any_test : (e : Expr C) → IsSound T S e → Ensured T S G (g.any_test f b e) IsOne
      unfolding g.any_test
      any_test e h = ((λ t u i j. λ from k. negated_test from e k h), named_test e h)

      filtered : (e : Expr C) → IsSound T S e → Ensured T S G (g.filtered f b e) IsOne
      unfolding g.filtered
      filtered e h = λ from i. weaker T S G g.name IsName _ (λ x j. behind paren_open (g.args b.expr) (pure []) _
          (weaker T S G (g.args b.expr) (λ xs. Holds (AreArgs b.expr nested.expr xs)) _ (λ xs k. spanned from (tree.filter (tree.present e) x (args_of xs)) IsOne i (λ s m. alone (m, h, k.it.0, k.it.1))) (args b.expr nested.expr))
          (spanned from (tree.filter (tree.present e) x (args_of [])) IsOne i (λ s m. alone (m, h, tt, omega arith)))) name

      suffix : (e : Expr C) (t : Tok) → IsSound T S e → Ensured T S G (g.suffix f b e t) IsOne
      suffix e pipe h = filtered e h
      suffix e _ h = any_test e h

      unary_level : Ensured T S G (g.unary_level f b) IsOne
      unfolding g.unary_level
      unary_level = weaker T S G (g.operand f b) IsOne _ (λ e h. (
        IsSound T S,
        h,
        (λ y t u i j k. weaker T S G (g.suffix f b y u.0) IsOne _ (λ x m. alone m.it) (suffix y u.0 i)),
        λ y i. alone i,
      )) operand

    -- ---- operators of two sides

    level : (op : Tok → Option BinOp) (f : Form (Expr C)) → Ensured T S G f IsOne → Ensured T S G (g.level op f) IsOne
    unfolding g.level
    level op f h = λ from i. weaker T S G f IsOne _ (λ l j. (
      IsSound T S,
      j,
      (λ y t o k m n. weaker T S G f IsOne _ (λ r p. spanned from (λ s. go_on (tree.binary o y r s)) (λ z. Holds (Kept (IsSound T S) z)) i (λ s q. alone (q, k, p.it))) h),
      λ y k. alone k,
    )) h

    compare_two : (s : Span) (o : CompareOp) (l r : Expr C) → S s → IsSound T S l → IsSound T S r → IsSound T S (g.compare_two s o l r)
    compare_two s cmp.eq l r i h k = (i, h, k)
    compare_two s cmp.ne l r i h k = (i, h, k)
    compare_two s cmp.lt l r i h k = (i, h, k)
    compare_two s cmp.lte l r i h k = (i, h, k)
    compare_two s cmp.gt l r i h k = (i, h, k)
    compare_two s cmp.gte l r i h k = (i, h, k)
    compare_two s cmp.is_in l r i h k = (i, h, k)
    compare_two s cmp.not_in l r i h k = (i, (i, h, k))

    compare_all : (e : Expr C) (cs : List (CompareOp × Expr C)) (s : Span) → S s → IsSound T S e → AreComparedSound T S (comparisons_of cs) → IsSound T S (g.compare_all e cs s)
    compare_all e [] s i h k = h
    compare_all e (c ∷ []) s i h k = compare_two s c.0 e c.1 i h k.0
    compare_all e (c ∷ d ∷ cs) s i h k = (i, h, k, tt)

    compared_append : (cs : List (CompareOp × Expr C)) (c : CompareOp × Expr C) → AreComparedSound T S (comparisons_of cs) → IsSound T S c.1 → AreComparedSound T S (comparisons_of (cs ++ c ∷ []))
    compared_append [] c h k = (k, tt)
    compared_append (x ∷ cs) c h k = (h.0, compared_append cs c h.1 k)

    abbrev AreCompared : List (CompareOp × Expr C) → Type 0
    AreCompared cs = AreComparedSound T S (comparisons_of cs)

    comparison : (f : Form (Expr C)) → Ensured T S G f IsOne → (cs : List (CompareOp × Expr C)) (t : SpannedTok) → AreCompared cs → Ensured T S G (g.comparison f cs t) (λ z. Holds (Kept AreCompared z))
    unfolding g.comparison
    comparison f h cs t k = go (compare_op t.0)
      where
        after : (o : CompareOp) → Ensured T S G (f >>= (λ e. pure (go_on (cs ++ (o, e) ∷ [])))) (λ z. Holds (Kept AreCompared z))
        after o = weaker T S G f IsOne _ (λ e j. alone (compared_append cs (o, e) k j.it)) h

        go : (o : Option CompareOp) → Ensured T S G (g.compare_operator o >>= (λ p. f >>= (λ e. pure (go_on (cs ++ (p, e) ∷ []))))) (λ z. Holds (Kept AreCompared z))
        go (Some o) = after o
        go None = λ u s i j. after cmp.not_in

    compared_level : (f : Form (Expr C)) → Ensured T S G f IsOne → Ensured T S G (g.compared_level f) IsOne
    unfolding g.compared_level
    compared_level f h = λ from i. weaker T S G f IsOne _ (λ e j. (
      AreCompared,
      alone tt,
      (λ cs t u k l m. comparison f h cs u k),
      λ cs k. spanned from (g.compare_all e cs) IsOne i (λ s m. alone (compare_all e cs s m j.it k)),
    )) h

    -- ---- if expressions

    if_turn : (f other : Form (Expr C)) → Ensured T S G f IsOne → Ensured T S G other IsOne → (x : Expr C × Span) (at : Span) → IsBase x →
        Ensured T S G (g.if_turn f other x at) (λ z. Holds (Kept IsBase z))
    unfolding g.if_turn
    if_turn f other h ho x at k = weaker T S G f IsOne _ (λ t i. behind else_word (other >>= (λ e. pure (Some e))) (pure None) (Made t)
        (weaker T S G other IsOne (λ e. Made t (Some e)) (λ e j. made t (Some e) i.it j.it) ho) (made t None i.it tt)) h
      where
        -- what is made of the test and the else part, if there is one
        Made : Expr C → Option (Expr C) → Type 1
        Made t o = (to : Span) → S to → Holds (Kept IsBase (go_on (tree.if_expr t x.0 (optional_of o) (expanded x.1 to), to)))

        made : (t : Expr C) (o : Option (Expr C)) → IsSound T S t → IsSoundIfAny T S (optional_of o) → Made t o
        made t o i j to l = alone ((joins x.1 to k.1 l, i, k.0, j), l)

    cond : (f other : Form (Expr C)) → Ensured T S G f IsOne → Ensured T S G other IsOne → Ensured T S G (g.cond f other) IsOne
    unfolding g.cond
    cond f other h ho = λ from i. weaker T S G f IsOne _ (λ e j. (
      IsBase,
      alone (j.it, i),
      (λ x t u k l m. if_turn f other h ho x u k),
      λ x k. alone k.0,
    )) h

    -- ---- the levels

    module _ {F : Type 0} (f : Functions C F) where
      module _ (b : g.Below C) (nested : AreNestedSound b) where
        pow_level : Ensured T S G (g.pow_level f b) IsOne
        unfolding g.pow_level
        pow_level = λ from i. weaker T S G (g.unary_level f b) IsOne _ (λ l h. behind pow (b.power >>= (λ r. g.spanned from (tree.binary bin.pow l r))) (pure l) IsOne
            (weaker T S G b.power IsOne _ (λ r k. spanned from (tree.binary bin.pow l r) IsOne i (λ s j. alone (j, h.it, k.it))) nested.power) h) (unary_level f b nested)

        not_level : Ensured T S G (g.not_level f b) IsOne
        unfolding g.not_level
        not_level =
            let terms = level term_op (g.pow_level f b) pow_level in
            let cats = level cat_op (g.term_level f b) terms in
            let sums = level sum_op (g.cat_level f b) cats in
            (prefixed not_word logical_not b.opposite nested.opposite, compared_level (g.sum_level f b) sums)

        pub or_level : Ensured T S G (g.or_level f b) IsOne
        or_level = level or_op (g.and_level f b) (level and_op (g.not_level f b) not_level)

        also_nested : AreNestedSound (g.deeper f b)
        also_nested = record {
          expr = cond (g.or_level f b) b.expr or_level nested.expr;
          opposite = not_level;
          power = pow_level;
          negated = operand f b nested;
          primary = primary b.expr nested.expr f;
        }

      pub below_sound : (d : ℕ) → AreNestedSound (g.below f d)
      unfolding g.below
      below_sound zero = record { expr = alone tt; opposite = alone tt; power = alone tt; negated = alone tt; primary = alone tt }
      below_sound (suc d) = also_nested (g.below f d) (below_sound d)

      pub expr_sound : (d : ℕ) → Ensured T S G (g.expr_at f d) IsOne
      expr_sound d = (below_sound d).expr
