-- The grammar of expressions, a relation for each rule: `IsX d ts rest e` says that the tokens ts,
-- as far as rest, are an X of depth at most d, and that e is its tree. The token that follows is
-- the first of rest.
use Rattle.std.specs.Prelude.{◌≡◌, ℕ, suc, ◌≤◌, Bool, true, false, List, ◌∷◌, ◌++◌, Some, None}
use Rattle.minijinja_syntax.specs.Texts.{Text}
use Rattle.minijinja_value.specs.Values.{Functions}
use Rattle.minijinja_syntax.specs.declared.tokens.Span.{Span}
use Rattle.minijinja_syntax.specs.Streams.{SpannedTok}
use Rattle.minijinja_syntax.specs.Tokens.{Tok, ident, int, int128, minus, mul, pow, dot, comma, colon, assign, pipe, bracket_open, bracket_close, paren_open, paren_close, brace_open, brace_close}
use Rattle.minijinja_tree.specs.BinOps as bin
use Rattle.minijinja_tree.specs.BinOps.{BinOp}
use Rattle.minijinja_tree.specs.CompareOps as cmp
use Rattle.minijinja_tree.specs.CompareOps.{CompareOp}
use Rattle.minijinja_tree.specs.WellFormed.{arg_count, most_arguments}
use Rattle.minijinja_tree.specs.Tree.{logical_not, negation, Expr, variable, constant, slice, unary, binary, compare, if_expr, filter, test, attribute, item, call, list, tuple, map, Optional, absent, present, Exprs, no_more, more, Comparisons, compared, against, Args, no_args, pos, pos_splat, kwarg, kwarg_splat}
use Rattle.minijinja_grammar.specs.Words.{is, is_true_word, is_false_word, is_none_word, is_constant_word, if_word, else_word, not_word, is_word, text_of, begins_expr, begins_arg, begins_postfix, begins_suffix, begins_comparison, begins_bare}
use Rattle.minijinja_grammar.specs.Ahead.{comes, held_next, held, IsName, IsTexts, IsCmpOp, Level, or_level, and_level, sum_level, cat_level, term_level, operator}

-- one comparison
abbrev pub one_comparison : {C : Type 0} → CompareOp → Expr C → Expr C → Expr C
one_comparison cmp.eq l r = binary bin.eq l r
one_comparison cmp.ne l r = binary bin.ne l r
one_comparison cmp.lt l r = binary bin.lt l r
one_comparison cmp.lte l r = binary bin.lte l r
one_comparison cmp.gt l r = binary bin.gt l r
one_comparison cmp.gte l r = binary bin.gte l r
one_comparison cmp.is_in l r = binary bin.is_in l r
one_comparison cmp.not_in l r = unary logical_not (binary bin.is_in l r)

-- none is the operand, and two or more are a chain
abbrev pub comparison_of : {C : Type 0} → Expr C → Comparisons C → Expr C
comparison_of e compared = e
comparison_of e (against o x compared) = one_comparison o e x
comparison_of e (against o x (against p y cs)) = compare e (against o x (against p y cs))

-- which arguments may stand together: no plain one after a keyword argument or a **
abbrev pub none_plain : {C : Type 0} → Args C → Bool
none_plain no_args = true
none_plain (pos e xs) = false
none_plain (pos_splat e xs) = none_plain xs
none_plain (kwarg x e xs) = none_plain xs
none_plain (kwarg_splat e xs) = none_plain xs

abbrev pub are_in_order : {C : Type 0} → Args C → Bool
are_in_order no_args = true
are_in_order (pos e xs) = are_in_order xs
are_in_order (pos_splat e xs) = are_in_order xs
are_in_order (kwarg x e xs) = none_plain xs
are_in_order (kwarg_splat e xs) = none_plain xs

module _ {C F : Type 0} (f : Functions C F) (source : Text) where
  mutual
    -- Expr = Cond, which counts 1
    pub data IsExpr : ℕ → List SpannedTok → List SpannedTok → Expr C → Type 0 where
      expr : {d : ℕ} {ts rest : List SpannedTok} {e : Expr C} → IsCond d ts rest e → IsExpr (suc d) ts rest e

    -- Cond = Or { "if" Or [ "else" Cond ] }: the Cond after an else counts 1
    pub data IsCond : ℕ → List SpannedTok → List SpannedTok → Expr C → Type 0 where
      cond : {d : ℕ} {ts rest : List SpannedTok} {e : Expr C} → IsIfs d ts rest e → comes (is if_word) rest ≡ false → IsCond d ts rest e

    pub data IsIfs : ℕ → List SpannedTok → List SpannedTok → Expr C → Type 0 where
      no_if : {d : ℕ} {ts rest : List SpannedTok} {e : Expr C} → IsLevel or_level d ts rest e → IsIfs d ts rest e
      if_alone : {d : ℕ} {s : Span} {ts us rest : List SpannedTok} {e t : Expr C} → IsIfs d ts ((if_word, s) ∷ us) e → IsLevel or_level d us rest t →
          comes (is else_word) rest ≡ false → IsIfs d ts rest (if_expr t e absent)
      if_else : {d : ℕ} {s r : Span} {ts us vs rest : List SpannedTok} {e t o : Expr C} → IsIfs (suc d) ts ((if_word, s) ∷ us) e →
          IsLevel or_level (suc d) us ((else_word, r) ∷ vs) t → IsCond d vs rest o → IsIfs (suc d) ts rest (if_expr t e (present o))

    -- Or = And { "or" And }, And = Not { "and" Not }, Sum = Cat { (+ | -) Cat }, Cat = Term { ~
    -- Term }, Term = Pow { (* | / | // | %) Pow }
    pub data IsLevel : Level → ℕ → List SpannedTok → List SpannedTok → Expr C → Type 0 where
      level : {l : Level} {d : ℕ} {ts rest : List SpannedTok} {e : Expr C} → IsRow l d ts rest e → held_next (held (operator l)) rest ≡ None → IsLevel l d ts rest e

    pub data IsRow : Level → ℕ → List SpannedTok → List SpannedTok → Expr C → Type 0 where
      no_operator : {l : Level} {d : ℕ} {ts rest : List SpannedTok} {e : Expr C} → IsSide l d ts rest e → IsRow l d ts rest e
      operation : {l : Level} {d : ℕ} {t : Tok} {s : Span} {o : BinOp} {ts us rest : List SpannedTok} {a b : Expr C} → IsRow l d ts ((t, s) ∷ us) a →
          operator l t ≡ Some o → IsSide l d us rest b → IsRow l d ts rest (binary o a b)

    pub data IsSide : Level → ℕ → List SpannedTok → List SpannedTok → Expr C → Type 0 where
      side_of_or : {d : ℕ} {ts rest : List SpannedTok} {e : Expr C} → IsLevel and_level d ts rest e → IsSide or_level d ts rest e
      side_of_and : {d : ℕ} {ts rest : List SpannedTok} {e : Expr C} → IsNot d ts rest e → IsSide and_level d ts rest e
      side_of_sum : {d : ℕ} {ts rest : List SpannedTok} {e : Expr C} → IsLevel cat_level d ts rest e → IsSide sum_level d ts rest e
      side_of_cat : {d : ℕ} {ts rest : List SpannedTok} {e : Expr C} → IsLevel term_level d ts rest e → IsSide cat_level d ts rest e
      side_of_term : {d : ℕ} {ts rest : List SpannedTok} {e : Expr C} → IsPow d ts rest e → IsSide term_level d ts rest e

    -- Not = "not" Not | Cmp, a Cmp only where its first token isn't "not": the operand of a `not`
    -- counts 1
    pub data IsNot : ℕ → List SpannedTok → List SpannedTok → Expr C → Type 0 where
      opposite : {d : ℕ} {s : Span} {ts rest : List SpannedTok} {e : Expr C} → IsNot d ts rest e → IsNot (suc d) ((not_word, s) ∷ ts) rest (unary logical_not e)
      no_not : {d : ℕ} {ts rest : List SpannedTok} {e : Expr C} → comes (is not_word) ts ≡ false → IsCmp d ts rest e → IsNot d ts rest e

    -- Cmp = Sum { CmpOp Sum }
    pub data IsCmp : ℕ → List SpannedTok → List SpannedTok → Expr C → Type 0 where
      comparison : {d : ℕ} {ts us rest : List SpannedTok} {e : Expr C} {cs : Comparisons C} → IsLevel sum_level d ts us e → AreComparisons d us rest cs →
          IsCmp d ts rest (comparison_of e cs)

    pub data AreComparisons : ℕ → List SpannedTok → List SpannedTok → Comparisons C → Type 0 where
      no_comparison : {d : ℕ} {rest : List SpannedTok} → comes begins_comparison rest ≡ false → AreComparisons d rest rest compared
      compared_to : {d : ℕ} {ts us vs rest : List SpannedTok} {o : CompareOp} {e : Expr C} {cs : Comparisons C} → IsCmpOp ts us o → IsLevel sum_level d us vs e →
          AreComparisons d vs rest cs → AreComparisons d ts rest (against o e cs)

    -- Pow = Unary [ ** Pow ]: the right operand counts 1
    pub data IsPow : ℕ → List SpannedTok → List SpannedTok → Expr C → Type 0 where
      no_power : {d : ℕ} {ts rest : List SpannedTok} {e : Expr C} → IsUnary d ts rest e → comes (is pow) rest ≡ false → IsPow d ts rest e
      power : {d : ℕ} {s : Span} {ts us rest : List SpannedTok} {l r : Expr C} → IsUnary (suc d) ts ((pow, s) ∷ us) l → IsPow d us rest r →
          IsPow (suc d) ts rest (binary bin.pow l r)

    -- Unary = Operand { | Name [Args] | "is" ["not"] Name [Args | Operand] }
    pub data IsUnary : ℕ → List SpannedTok → List SpannedTok → Expr C → Type 0 where
      suffixed : {d : ℕ} {ts rest : List SpannedTok} {e : Expr C} → IsSuffixed d ts rest e → comes begins_suffix rest ≡ false → IsUnary d ts rest e

    pub data IsSuffixed : ℕ → List SpannedTok → List SpannedTok → Expr C → Type 0 where
      no_suffix : {d : ℕ} {ts rest : List SpannedTok} {e : Expr C} → IsOperand d ts rest e → IsSuffixed d ts rest e
      filtered : {d : ℕ} {s : Span} {ts us vs rest : List SpannedTok} {e : Expr C} {x : Text} {xs : Args C} → IsSuffixed d ts ((pipe, s) ∷ us) e → IsName source us vs x →
          AreArgsIfAny d vs rest xs → IsSuffixed d ts rest (filter (present e) x xs)
      tested : {d : ℕ} {s : Span} {ts us vs rest : List SpannedTok} {e : Expr C} {x : Text} {xs : Args C} → IsSuffixed d ts ((is_word, s) ∷ us) e → comes (is not_word) us ≡ false →
          IsName source us vs x → AreTestArgs d vs rest xs → IsSuffixed d ts rest (test e x xs)
      tested_not : {d : ℕ} {s r : Span} {ts us vs rest : List SpannedTok} {e : Expr C} {x : Text} {xs : Args C} → IsSuffixed d ts ((is_word, s) ∷ (not_word, r) ∷ us) e →
          IsName source us vs x → AreTestArgs d vs rest xs → IsSuffixed d ts rest (unary logical_not (test e x xs))

    -- [Args]
    pub data AreArgsIfAny : ℕ → List SpannedTok → List SpannedTok → Args C → Type 0 where
      no_arguments : {d : ℕ} {rest : List SpannedTok} → comes (is paren_open) rest ≡ false → AreArgsIfAny d rest rest no_args
      arguments : {d : ℕ} {ts rest : List SpannedTok} {xs : Args C} → AreArgs d ts rest xs → AreArgsIfAny d ts rest xs

    -- [Args | Operand], an operand where the next token begins a bare argument
    pub data AreTestArgs : ℕ → List SpannedTok → List SpannedTok → Args C → Type 0 where
      no_test_args : {d : ℕ} {rest : List SpannedTok} → comes (is paren_open) rest ≡ false → comes begins_bare rest ≡ false → AreTestArgs d rest rest no_args
      in_parentheses : {d : ℕ} {ts rest : List SpannedTok} {xs : Args C} → AreArgs d ts rest xs → AreTestArgs d ts rest xs
      bare_arg : {d : ℕ} {ts rest : List SpannedTok} {e : Expr C} → comes begins_bare ts ≡ true → IsOperand d ts rest e → AreTestArgs d ts rest (pos e no_args)

    -- Operand = - Operand | Primary { Postfix }: the operand of a `-` counts 1
    pub data IsOperand : ℕ → List SpannedTok → List SpannedTok → Expr C → Type 0 where
      negated : {d : ℕ} {s : Span} {ts rest : List SpannedTok} {e : Expr C} → IsOperand d ts rest e → IsOperand (suc d) ((minus, s) ∷ ts) rest (unary negation e)
      no_minus : {d : ℕ} {ts rest : List SpannedTok} {e : Expr C} → IsPostfixed d ts rest e → comes begins_postfix rest ≡ false → IsOperand d ts rest e

    -- Postfix = . Ident | . Int | . Int128 | [ Expr ] | Args | [ [Expr] : [Expr] [ : [Expr] ] ]
    pub data IsPostfixed : ℕ → List SpannedTok → List SpannedTok → Expr C → Type 0 where
      no_postfix : {d : ℕ} {ts rest : List SpannedTok} {e : Expr C} → IsPrimary d ts rest e → IsPostfixed d ts rest e
      dot_ident : {d : ℕ} {s r : Span} {x : Text} {ts rest : List SpannedTok} {e : Expr C} → IsPostfixed d ts ((dot, s) ∷ (ident x, r) ∷ rest) e → IsPostfixed d ts rest (attribute e x)
      dot_int : {d : ℕ} {s r : Span} {n : ℕ} {ts rest : List SpannedTok} {e : Expr C} → IsPostfixed d ts ((dot, s) ∷ (int n, r) ∷ rest) e →
          IsPostfixed d ts rest (item e (constant (f.of_u64 n)))
      dot_int128 : {d : ℕ} {s r : Span} {n : ℕ} {ts rest : List SpannedTok} {e : Expr C} → IsPostfixed d ts ((dot, s) ∷ (int128 n, r) ∷ rest) e →
          IsPostfixed d ts rest (item e (constant (f.of_u128 n)))
      subscript : {d : ℕ} {s r : Span} {ts us rest : List SpannedTok} {e i : Expr C} → IsPostfixed d ts ((bracket_open, s) ∷ us) e → IsExpr d us ((bracket_close, r) ∷ rest) i →
          IsPostfixed d ts rest (item e i)
      range : {d : ℕ} {s q r : Span} {ts us vs ws rest : List SpannedTok} {e : Expr C} {a b c : Optional C} → IsPostfixed d ts ((bracket_open, s) ∷ us) e →
          IsExprIfAny d us ((colon, q) ∷ vs) a → IsExprIfAny d vs ws b → IsStep d ws ((bracket_close, r) ∷ rest) c → IsPostfixed d ts rest (slice e a b c)
      called : {d : ℕ} {ts us rest : List SpannedTok} {e : Expr C} {xs : Args C} → IsPostfixed d ts us e → AreArgs d us rest xs → IsPostfixed d ts rest (call e xs)

    -- [Expr]
    pub data IsExprIfAny : ℕ → List SpannedTok → List SpannedTok → Optional C → Type 0 where
      no_expr : {d : ℕ} {rest : List SpannedTok} → comes begins_expr rest ≡ false → IsExprIfAny d rest rest absent
      one_expr : {d : ℕ} {ts rest : List SpannedTok} {e : Expr C} → IsExpr d ts rest e → IsExprIfAny d ts rest (present e)

    -- [ : [Expr] ]
    pub data IsStep : ℕ → List SpannedTok → List SpannedTok → Optional C → Type 0 where
      no_step : {d : ℕ} {rest : List SpannedTok} → comes (is colon) rest ≡ false → IsStep d rest rest absent
      by_step : {d : ℕ} {s : Span} {ts rest : List SpannedTok} {e : Optional C} → IsExprIfAny d ts rest e → IsStep d ((colon, s) ∷ ts) rest e

    -- Args = ( [ Arg { , Arg } [,] ] )
    pub data AreArgs : ℕ → List SpannedTok → List SpannedTok → Args C → Type 0 where
      args : {d : ℕ} {s r : Span} {ts rest : List SpannedTok} {xs : Args C} → AreArgItems d ts ((paren_close, r) ∷ rest) xs → are_in_order xs ≡ true → arg_count xs ≤ most_arguments →
          AreArgs d ((paren_open, s) ∷ ts) rest xs

    -- [ Arg { , Arg } [,] ], with Arg = Expr | Expr = Expr | * Expr | ** Expr: before a = stands a
    -- variable
    pub data AreArgItems : ℕ → List SpannedTok → List SpannedTok → Args C → Type 0 where
      no_arg : {d : ℕ} {rest : List SpannedTok} → comes begins_arg rest ≡ false → AreArgItems d rest rest no_args
      positional : {d : ℕ} {ts us rest : List SpannedTok} {e : Expr C} {xs : Args C} → IsExpr d ts us e → comes (is assign) us ≡ false → AreMoreArgs d us rest xs →
          AreArgItems d ts rest (pos e xs)
      keyword : {d : ℕ} {s : Span} {ts us vs rest : List SpannedTok} {x : Text} {e : Expr C} {xs : Args C} → IsExpr d ts ((assign, s) ∷ us) (variable x) → IsExpr d us vs e →
          AreMoreArgs d vs rest xs → AreArgItems d ts rest (kwarg x e xs)
      starred : {d : ℕ} {s : Span} {ts us rest : List SpannedTok} {e : Expr C} {xs : Args C} → IsExpr d ts us e → AreMoreArgs d us rest xs →
          AreArgItems d ((mul, s) ∷ ts) rest (pos_splat e xs)
      double_starred : {d : ℕ} {s : Span} {ts us rest : List SpannedTok} {e : Expr C} {xs : Args C} → IsExpr d ts us e → AreMoreArgs d us rest xs →
          AreArgItems d ((pow, s) ∷ ts) rest (kwarg_splat e xs)

    -- { , Arg } [,]
    pub data AreMoreArgs : ℕ → List SpannedTok → List SpannedTok → Args C → Type 0 where
      no_more_args : {d : ℕ} {rest : List SpannedTok} → comes (is comma) rest ≡ false → AreMoreArgs d rest rest no_args
      more_args : {d : ℕ} {s : Span} {ts rest : List SpannedTok} {xs : Args C} → AreArgItems d ts rest xs → AreMoreArgs d ((comma, s) ∷ ts) rest xs

    -- Primary, which counts 1
    pub data IsPrimary : ℕ → List SpannedTok → List SpannedTok → Expr C → Type 0 where
      true_word : {d : ℕ} {x : Text} {s : Span} {rest : List SpannedTok} → is_true_word x ≡ true → IsPrimary (suc d) ((ident x, s) ∷ rest) rest (constant (f.of_bool true))
      false_word : {d : ℕ} {x : Text} {s : Span} {rest : List SpannedTok} → is_false_word x ≡ true → IsPrimary (suc d) ((ident x, s) ∷ rest) rest (constant (f.of_bool false))
      none_word : {d : ℕ} {x : Text} {s : Span} {rest : List SpannedTok} → is_none_word x ≡ true → IsPrimary (suc d) ((ident x, s) ∷ rest) rest (constant f.none)
      name : {d : ℕ} {x : Text} {s : Span} {rest : List SpannedTok} → is_constant_word x ≡ false → IsPrimary (suc d) ((ident x, s) ∷ rest) rest (variable x)
      texts : {d : ℕ} {t : Tok} {s : Span} {x y : Text} {ts rest : List SpannedTok} → text_of t ≡ Some x → IsTexts ts rest y →
          IsPrimary (suc d) ((t, s) ∷ ts) rest (constant (f.of_str (x ++ y)))
      integer : {d : ℕ} {n : ℕ} {s : Span} {rest : List SpannedTok} → IsPrimary (suc d) ((int n, s) ∷ rest) rest (constant (f.of_u64 n))
      large_integer : {d : ℕ} {n : ℕ} {s : Span} {rest : List SpannedTok} → IsPrimary (suc d) ((int128 n, s) ∷ rest) rest (constant (f.of_u128 n))
      empty_tuple : {d : ℕ} {s r : Span} {rest : List SpannedTok} → IsPrimary (suc d) ((paren_open, s) ∷ (paren_close, r) ∷ rest) rest (tuple no_more)
      parentheses : {d : ℕ} {s r : Span} {ts rest : List SpannedTok} {e : Expr C} → IsExpr d ts ((paren_close, r) ∷ rest) e → IsPrimary (suc d) ((paren_open, s) ∷ ts) rest e
      tuple_of : {d : ℕ} {s q r : Span} {ts us rest : List SpannedTok} {e : Expr C} {es : Exprs C} → IsExpr d ts ((comma, q) ∷ us) e → AreExprs d us ((paren_close, r) ∷ rest) es →
          IsPrimary (suc d) ((paren_open, s) ∷ ts) rest (tuple (more e es))
      list_of : {d : ℕ} {s r : Span} {ts rest : List SpannedTok} {es : Exprs C} → AreExprs d ts ((bracket_close, r) ∷ rest) es →
          IsPrimary (suc d) ((bracket_open, s) ∷ ts) rest (list es)
      map_of : {d : ℕ} {s r : Span} {ts rest : List SpannedTok} {ks vs : Exprs C} → AreEntries d ts ((brace_close, r) ∷ rest) ks vs →
          IsPrimary (suc d) ((brace_open, s) ∷ ts) rest (map ks vs)

    -- [ Expr { , Expr } [,] ]: a comma that no Expr follows is the last one
    pub data AreExprs : ℕ → List SpannedTok → List SpannedTok → Exprs C → Type 0 where
      no_exprs : {d : ℕ} {rest : List SpannedTok} → comes begins_expr rest ≡ false → AreExprs d rest rest no_more
      exprs : {d : ℕ} {ts us rest : List SpannedTok} {e : Expr C} {es : Exprs C} → IsExpr d ts us e → AreMoreExprs d us rest es → AreExprs d ts rest (more e es)

    pub data AreMoreExprs : ℕ → List SpannedTok → List SpannedTok → Exprs C → Type 0 where
      no_more_exprs : {d : ℕ} {rest : List SpannedTok} → comes (is comma) rest ≡ false → AreMoreExprs d rest rest no_more
      more_exprs : {d : ℕ} {s : Span} {ts rest : List SpannedTok} {es : Exprs C} → AreExprs d ts rest es → AreMoreExprs d ((comma, s) ∷ ts) rest es

    -- [ Expr : Expr { , Expr : Expr } [,] ]
    pub data AreEntries : ℕ → List SpannedTok → List SpannedTok → Exprs C → Exprs C → Type 0 where
      no_entries : {d : ℕ} {rest : List SpannedTok} → comes begins_expr rest ≡ false → AreEntries d rest rest no_more no_more
      entries : {d : ℕ} {s : Span} {ts us vs rest : List SpannedTok} {k v : Expr C} {ks vs' : Exprs C} → IsExpr d ts ((colon, s) ∷ us) k → IsExpr d us vs v →
          AreMoreEntries d vs rest ks vs' → AreEntries d ts rest (more k ks) (more v vs')

    pub data AreMoreEntries : ℕ → List SpannedTok → List SpannedTok → Exprs C → Exprs C → Type 0 where
      no_more_entries : {d : ℕ} {rest : List SpannedTok} → comes (is comma) rest ≡ false → AreMoreEntries d rest rest no_more no_more
      more_entries : {d : ℕ} {s : Span} {ts rest : List SpannedTok} {ks vs : Exprs C} → AreEntries d ts rest ks vs → AreMoreEntries d ((comma, s) ∷ ts) rest ks vs
