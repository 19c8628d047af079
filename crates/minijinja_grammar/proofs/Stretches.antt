-- Of what follows a stretch only the first token counts.
use Rattle.std.proofs.Common.{◌≡◌, ℕ, Bool, List, [], ◌∷◌, ◌++◌, Option, Some, refl, sym, ap, ◌∙◌, subst}
use Rattle.minijinja_syntax.specs.Texts.{Text}
use Rattle.minijinja_value.specs.Values.{Functions}
use Rattle.minijinja_syntax.specs.declared.tokens.Span.{Span}
use Rattle.minijinja_syntax.specs.Streams.{SpannedTok}
use Rattle.minijinja_syntax.specs.Tokens.{Tok, ident, int, int128, minus, mul, pow, dot, comma, colon, assign, pipe, bracket_open, bracket_close, paren_open, paren_close, brace_open, brace_close}
use Rattle.minijinja_tree.specs.CompareOps.{CompareOp}
use Rattle.minijinja_tree.specs.Tree.{Expr, Optional, Exprs, Comparisons, Args}
use Rattle.minijinja_grammar.specs.Words.{is, if_word, else_word, not_word, in_word, is_word, text_of, begins_expr, begins_arg, begins_postfix, begins_suffix, begins_comparison, begins_bare}
use Rattle.minijinja_grammar.specs.Ahead.{comes, held_next, held, IsDots, no_dot, dot_part, IsName, plain_name, dotted_name, IsTexts, no_text, one_text, IsCmpOp, one_token, not_in_words, Level, operator}
use Rattle.minijinja_grammar.specs.Expressions.{IsExpr, IsCond, IsIfs, IsLevel, IsRow, IsSide, IsNot, IsCmp, AreComparisons, IsPow, IsUnary, IsSuffixed, AreArgsIfAny, AreTestArgs, IsOperand, IsPostfixed, IsExprIfAny, IsStep, AreArgs, AreArgItems, AreMoreArgs, IsPrimary, AreExprs, AreMoreExprs, AreEntries, AreMoreEntries, expr, cond, no_if, if_alone, if_else, level, no_operator, operation, side_of_or, side_of_and, side_of_sum, side_of_cat, side_of_term, opposite, no_not, comparison, no_comparison, compared_to, no_power, power, suffixed, no_suffix, filtered, tested, tested_not, no_arguments, arguments, no_test_args, in_parentheses, bare_arg, negated, no_minus, no_postfix, dot_ident, dot_int, dot_int128, subscript, range, called, no_expr, one_expr, no_step, by_step, args, no_arg, positional, keyword, starred, double_starred, no_more_args, more_args, true_word, false_word, none_word, name, texts, integer, large_integer, empty_tuple, parentheses, tuple_of, list_of, map_of, no_exprs, exprs, no_more_exprs, more_exprs, no_entries, entries, no_more_entries, more_entries}
use Rattle.minijinja_grammar.specs.Stretches.{first, OnlyNextCounts}

-- the same tokens stand before the one rest and before the other
pub data Stretch (rest rest' : List SpannedTok) : List SpannedTok → List SpannedTok → Type 0 where
  here : Stretch rest rest' rest rest'
  step : {t : SpannedTok} {ts ts' : List SpannedTok} → Stretch rest rest' ts ts' → Stretch rest rest' (t ∷ ts) (t ∷ ts')

pub join : {us us' rest rest' ts ts' : List SpannedTok} → Stretch us us' ts ts' → Stretch rest rest' us us' → Stretch rest rest' ts ts'
join here b = b
join (step a) b = step (join a b)

pub starts : {rest rest' ts ts' : List SpannedTok} → Stretch rest rest' ts ts' → first rest ≡ first rest' → first ts ≡ first ts'
starts here h = h
starts (step a) h = refl

pub stretch_of : {rest rest' ts ts' : List SpannedTok} → Stretch rest rest' ts ts' → (s : List SpannedTok) × (ts ≡ s ++ rest) × (ts' ≡ s ++ rest')
stretch_of here = ([], refl, refl)
stretch_of (step {t = t} a) = let u = stretch_of a in (t ∷ u.0, ap (λ us. t ∷ us) u.1, ap (λ us. t ∷ us) u.2)

pub comes_moved : (kind : Tok → Bool) (ts us : List SpannedTok) → first ts ≡ first us → comes kind ts ≡ comes kind us
comes_moved kind [] [] h = refl
comes_moved kind [] (u ∷ us) h = cc
comes_moved kind (t ∷ ts) [] h = cc
comes_moved kind (t ∷ ts) (u ∷ us) h = ap kind (some_is t.0 u.0 h)
  where
    some_is : (x y : Tok) → Some x ≡ Some y → x ≡ y
    some_is x y e = cc

held_moved : {A : Type 0} (what : Tok → Option A) (ts us : List SpannedTok) → first ts ≡ first us → held_next (held what) ts ≡ held_next (held what) us
held_moved what [] [] h = refl
held_moved what [] (u ∷ us) h = cc
held_moved what (t ∷ ts) [] h = cc
held_moved what (t ∷ ts) (u ∷ us) h = ap what (some_is t.0 u.0 h)
  where
    some_is : (x y : Tok) → Some x ≡ Some y → x ≡ y
    some_is x y e = cc

abbrev pub Moved : (rest rest' : List SpannedTok) → (List SpannedTok → Type 0) → List SpannedTok → Type 0
Moved rest rest' X ts = (ts' : List SpannedTok) × X ts' × Stretch rest rest' ts ts'

-- which says that only the first counts
pub only_next : (Is : List SpannedTok → List SpannedTok → Type 0) → ((ts rest others : List SpannedTok) → Is ts rest → first rest ≡ first others → Moved rest others (λ vs. Is vs others) ts) → OnlyNextCounts Is
only_next Is k ts rest others a h =
    let u = k ts rest others a h in
    let v = stretch_of u.2 in
    (v.0, v.1, subst (λ us. Is us others) v.2 u.1)

moved_dots : {a b : Span} {ts rest : List SpannedTok} → IsDots a ts rest b → (rest' : List SpannedTok) → first rest ≡ first rest' → Moved rest rest' (λ vs. IsDots a vs rest' b) ts
moved_dots {rest = rest} (no_dot a0) rest' h = (rest', no_dot (sym (comes_moved (is dot) rest rest' h) ∙ a0), here)
moved_dots (dot_part {a = a} {b = b} {x = x} a0) rest' h = let u = moved_dots a0 rest' h in ((dot, a) ∷ (ident x, b) ∷ u.0, dot_part u.1, step (step u.2))

pub moved_name : (src : Text) {x : Text} {ts rest : List SpannedTok} → IsName src ts rest x → (rest' : List SpannedTok) → first rest ≡ first rest' → Moved rest rest' (λ vs. IsName src vs rest' x) ts
moved_name src {rest = rest} (plain_name {x = x} {s = s} a0) rest' h = ((ident x, s) ∷ rest', plain_name (sym (comes_moved (is dot) rest rest' h) ∙ a0), step here)
moved_name src (dotted_name {x = x} {s = s} {ts = ts} a0 a1) rest' h = let u = moved_dots a1 rest' h in ((ident x, s) ∷ u.0, dotted_name (sym (comes_moved (is dot) ts u.0 (starts u.2 h)) ∙ a0) u.1, step u.2)

moved_texts : {x : Text} {ts rest : List SpannedTok} → IsTexts ts rest x → (rest' : List SpannedTok) → first rest ≡ first rest' → Moved rest rest' (λ vs. IsTexts vs rest' x) ts
moved_texts {rest = rest} (no_text a0) rest' h = (rest', no_text (sym (held_moved text_of rest rest' h) ∙ a0), here)
moved_texts (one_text {t = t} {s = s} a0 a1) rest' h = let u = moved_texts a1 rest' h in ((t, s) ∷ u.0, one_text a0 u.1, step u.2)

moved_op : {x : CompareOp} {ts rest : List SpannedTok} → IsCmpOp ts rest x → (rest' : List SpannedTok) → first rest ≡ first rest' → Moved rest rest' (λ vs. IsCmpOp vs rest' x) ts
moved_op (one_token {t = t} {s = s} a0) rest' h = ((t, s) ∷ rest', one_token a0, step here)
moved_op (not_in_words {s = s} {r = r}) rest' h = ((not_word, s) ∷ (in_word, r) ∷ rest', not_in_words, step (step here))

module _ {C F : Type 0} (f : Functions C F) (src : Text) where
  mutual
    pub moved_IsExpr : {d : ℕ} {ts : List SpannedTok} {rest : List SpannedTok} {e3 : Expr C} → IsExpr f src d ts rest e3 → (rest' : List SpannedTok) → first rest ≡ first rest' → Moved rest rest' (λ vs. IsExpr f src d vs rest' e3) ts
    moved_IsExpr {rest = rest} (expr a0) rest' h = let u0 = moved_IsCond a0 rest' h in (u0.0, expr u0.1, (join u0.2 here))

    moved_IsCond : {d : ℕ} {ts : List SpannedTok} {rest : List SpannedTok} {e3 : Expr C} → IsCond f src d ts rest e3 → (rest' : List SpannedTok) → first rest ≡ first rest' → Moved rest rest' (λ vs. IsCond f src d vs rest' e3) ts
    moved_IsCond {rest = rest} (cond a0 a1) rest' h = let u0 = moved_IsIfs a0 rest' h in (u0.0, cond u0.1 (sym (comes_moved (is if_word) rest rest' h) ∙ a1), (join u0.2 here))

    moved_IsIfs : {d : ℕ} {ts : List SpannedTok} {rest : List SpannedTok} {e3 : Expr C} → IsIfs f src d ts rest e3 → (rest' : List SpannedTok) → first rest ≡ first rest' → Moved rest rest' (λ vs. IsIfs f src d vs rest' e3) ts
    moved_IsIfs {rest = rest} (no_if a0) rest' h = let u0 = moved_IsLevel a0 rest' h in (u0.0, no_if u0.1, (join u0.2 here))
    moved_IsIfs {rest = rest} (if_alone {s = s} a0 a1 a2) rest' h = let u0 = moved_IsLevel a1 rest' h in let u1 = moved_IsIfs a0 ((if_word, s) ∷ u0.0) refl in (u1.0, if_alone u1.1 u0.1 (sym (comes_moved (is else_word) rest rest' h) ∙ a2), (join u1.2 (step (join u0.2 here))))
    moved_IsIfs {rest = rest} (if_else {s = s} {r = r} a0 a1 a2) rest' h = let u0 = moved_IsCond a2 rest' h in let u1 = moved_IsLevel a1 ((else_word, r) ∷ u0.0) refl in let u2 = moved_IsIfs a0 ((if_word, s) ∷ u1.0) refl in (u2.0, if_else u2.1 u1.1 u0.1, (join u2.2 (step (join u1.2 (step (join u0.2 here))))))

    pub moved_IsLevel : {l : Level} {d : ℕ} {ts : List SpannedTok} {rest : List SpannedTok} {e4 : Expr C} → IsLevel f src l d ts rest e4 → (rest' : List SpannedTok) → first rest ≡ first rest' → Moved rest rest' (λ vs. IsLevel f src l d vs rest' e4) ts
    moved_IsLevel {rest = rest} (level {l = l} a0 a1) rest' h = let u0 = moved_IsRow a0 rest' h in (u0.0, level u0.1 (sym (held_moved (operator l) rest rest' h) ∙ a1), (join u0.2 here))

    moved_IsRow : {l : Level} {d : ℕ} {ts : List SpannedTok} {rest : List SpannedTok} {e4 : Expr C} → IsRow f src l d ts rest e4 → (rest' : List SpannedTok) → first rest ≡ first rest' → Moved rest rest' (λ vs. IsRow f src l d vs rest' e4) ts
    moved_IsRow {rest = rest} (no_operator a0) rest' h = let u0 = moved_IsSide a0 rest' h in (u0.0, no_operator u0.1, (join u0.2 here))
    moved_IsRow {rest = rest} (operation {l = l} {t = t} {s = s} a0 a1 a2) rest' h = let u0 = moved_IsSide a2 rest' h in let u1 = moved_IsRow a0 ((t, s) ∷ u0.0) refl in (u1.0, operation u1.1 a1 u0.1, (join u1.2 (step (join u0.2 here))))

    moved_IsSide : {l : Level} {d : ℕ} {ts : List SpannedTok} {rest : List SpannedTok} {e4 : Expr C} → IsSide f src l d ts rest e4 → (rest' : List SpannedTok) → first rest ≡ first rest' → Moved rest rest' (λ vs. IsSide f src l d vs rest' e4) ts
    moved_IsSide {rest = rest} (side_of_or a0) rest' h = let u0 = moved_IsLevel a0 rest' h in (u0.0, side_of_or u0.1, (join u0.2 here))
    moved_IsSide {rest = rest} (side_of_and a0) rest' h = let u0 = moved_IsNot a0 rest' h in (u0.0, side_of_and u0.1, (join u0.2 here))
    moved_IsSide {rest = rest} (side_of_sum a0) rest' h = let u0 = moved_IsLevel a0 rest' h in (u0.0, side_of_sum u0.1, (join u0.2 here))
    moved_IsSide {rest = rest} (side_of_cat a0) rest' h = let u0 = moved_IsLevel a0 rest' h in (u0.0, side_of_cat u0.1, (join u0.2 here))
    moved_IsSide {rest = rest} (side_of_term a0) rest' h = let u0 = moved_IsPow a0 rest' h in (u0.0, side_of_term u0.1, (join u0.2 here))

    moved_IsNot : {d : ℕ} {ts : List SpannedTok} {rest : List SpannedTok} {e3 : Expr C} → IsNot f src d ts rest e3 → (rest' : List SpannedTok) → first rest ≡ first rest' → Moved rest rest' (λ vs. IsNot f src d vs rest' e3) ts
    moved_IsNot {rest = rest} (opposite {s = s} a0) rest' h = let u0 = moved_IsNot a0 rest' h in (((not_word, s) ∷ u0.0), opposite u0.1, (step (join u0.2 here)))
    moved_IsNot {rest = rest} (no_not {ts = ts} a0 a1) rest' h = let u0 = moved_IsCmp a1 rest' h in (u0.0, no_not (sym (comes_moved (is not_word) ts u0.0 (starts (join u0.2 here) h)) ∙ a0) u0.1, (join u0.2 here))

    moved_IsCmp : {d : ℕ} {ts : List SpannedTok} {rest : List SpannedTok} {e3 : Expr C} → IsCmp f src d ts rest e3 → (rest' : List SpannedTok) → first rest ≡ first rest' → Moved rest rest' (λ vs. IsCmp f src d vs rest' e3) ts
    moved_IsCmp {rest = rest} (comparison a0 a1) rest' h = let u0 = moved_AreComparisons a1 rest' h in let u1 = moved_IsLevel a0 u0.0 (starts (join u0.2 here) h) in (u1.0, comparison u1.1 u0.1, (join u1.2 (join u0.2 here)))

    moved_AreComparisons : {d : ℕ} {ts : List SpannedTok} {rest : List SpannedTok} {e3 : Comparisons C} → AreComparisons f src d ts rest e3 → (rest' : List SpannedTok) → first rest ≡ first rest' → Moved rest rest' (λ vs. AreComparisons f src d vs rest' e3) ts
    moved_AreComparisons {rest = rest} (no_comparison a0) rest' h = (rest', no_comparison (sym (comes_moved begins_comparison rest rest' h) ∙ a0), here)
    moved_AreComparisons {rest = rest} (compared_to a0 a1 a2) rest' h = let u0 = moved_AreComparisons a2 rest' h in let u1 = moved_IsLevel a1 u0.0 (starts (join u0.2 here) h) in let u2 = moved_op a0 u1.0 (starts (join u1.2 (join u0.2 here)) h) in (u2.0, compared_to u2.1 u1.1 u0.1, (join u2.2 (join u1.2 (join u0.2 here))))

    moved_IsPow : {d : ℕ} {ts : List SpannedTok} {rest : List SpannedTok} {e3 : Expr C} → IsPow f src d ts rest e3 → (rest' : List SpannedTok) → first rest ≡ first rest' → Moved rest rest' (λ vs. IsPow f src d vs rest' e3) ts
    moved_IsPow {rest = rest} (no_power a0 a1) rest' h = let u0 = moved_IsUnary a0 rest' h in (u0.0, no_power u0.1 (sym (comes_moved (is pow) rest rest' h) ∙ a1), (join u0.2 here))
    moved_IsPow {rest = rest} (power {s = s} a0 a1) rest' h = let u0 = moved_IsPow a1 rest' h in let u1 = moved_IsUnary a0 ((pow, s) ∷ u0.0) refl in (u1.0, power u1.1 u0.1, (join u1.2 (step (join u0.2 here))))

    moved_IsUnary : {d : ℕ} {ts : List SpannedTok} {rest : List SpannedTok} {e3 : Expr C} → IsUnary f src d ts rest e3 → (rest' : List SpannedTok) → first rest ≡ first rest' → Moved rest rest' (λ vs. IsUnary f src d vs rest' e3) ts
    moved_IsUnary {rest = rest} (suffixed a0 a1) rest' h = let u0 = moved_IsSuffixed a0 rest' h in (u0.0, suffixed u0.1 (sym (comes_moved begins_suffix rest rest' h) ∙ a1), (join u0.2 here))

    moved_IsSuffixed : {d : ℕ} {ts : List SpannedTok} {rest : List SpannedTok} {e3 : Expr C} → IsSuffixed f src d ts rest e3 → (rest' : List SpannedTok) → first rest ≡ first rest' → Moved rest rest' (λ vs. IsSuffixed f src d vs rest' e3) ts
    moved_IsSuffixed {rest = rest} (no_suffix a0) rest' h = let u0 = moved_IsOperand a0 rest' h in (u0.0, no_suffix u0.1, (join u0.2 here))
    moved_IsSuffixed {rest = rest} (filtered {s = s} a0 a1 a2) rest' h = let u0 = moved_AreArgsIfAny a2 rest' h in let u1 = moved_name src a1 u0.0 (starts (join u0.2 here) h) in let u2 = moved_IsSuffixed a0 ((pipe, s) ∷ u1.0) refl in (u2.0, filtered u2.1 u1.1 u0.1, (join u2.2 (step (join u1.2 (join u0.2 here)))))
    moved_IsSuffixed {rest = rest} (tested {s = s} {us = us} a0 a1 a2 a3) rest' h = let u0 = moved_AreTestArgs a3 rest' h in let u1 = moved_name src a2 u0.0 (starts (join u0.2 here) h) in let u2 = moved_IsSuffixed a0 ((is_word, s) ∷ u1.0) refl in (u2.0, tested u2.1 (sym (comes_moved (is not_word) us u1.0 (starts (join u1.2 (join u0.2 here)) h)) ∙ a1) u1.1 u0.1, (join u2.2 (step (join u1.2 (join u0.2 here)))))
    moved_IsSuffixed {rest = rest} (tested_not {s = s} {r = r} a0 a1 a2) rest' h = let u0 = moved_AreTestArgs a2 rest' h in let u1 = moved_name src a1 u0.0 (starts (join u0.2 here) h) in let u2 = moved_IsSuffixed a0 ((is_word, s) ∷ (not_word, r) ∷ u1.0) refl in (u2.0, tested_not u2.1 u1.1 u0.1, (join u2.2 (step (step (join u1.2 (join u0.2 here))))))

    pub moved_AreArgsIfAny : {d : ℕ} {ts : List SpannedTok} {rest : List SpannedTok} {e3 : Args C} → AreArgsIfAny f src d ts rest e3 → (rest' : List SpannedTok) → first rest ≡ first rest' → Moved rest rest' (λ vs. AreArgsIfAny f src d vs rest' e3) ts
    moved_AreArgsIfAny {rest = rest} (no_arguments a0) rest' h = (rest', no_arguments (sym (comes_moved (is paren_open) rest rest' h) ∙ a0), here)
    moved_AreArgsIfAny {rest = rest} (arguments a0) rest' h = let u0 = moved_AreArgs a0 rest' h in (u0.0, arguments u0.1, (join u0.2 here))

    moved_AreTestArgs : {d : ℕ} {ts : List SpannedTok} {rest : List SpannedTok} {e3 : Args C} → AreTestArgs f src d ts rest e3 → (rest' : List SpannedTok) → first rest ≡ first rest' → Moved rest rest' (λ vs. AreTestArgs f src d vs rest' e3) ts
    moved_AreTestArgs {rest = rest} (no_test_args a0 a1) rest' h = (rest', no_test_args (sym (comes_moved (is paren_open) rest rest' h) ∙ a0) (sym (comes_moved begins_bare rest rest' h) ∙ a1), here)
    moved_AreTestArgs {rest = rest} (in_parentheses a0) rest' h = let u0 = moved_AreArgs a0 rest' h in (u0.0, in_parentheses u0.1, (join u0.2 here))
    moved_AreTestArgs {rest = rest} (bare_arg {ts = ts} a0 a1) rest' h = let u0 = moved_IsOperand a1 rest' h in (u0.0, bare_arg (sym (comes_moved begins_bare ts u0.0 (starts (join u0.2 here) h)) ∙ a0) u0.1, (join u0.2 here))

    moved_IsOperand : {d : ℕ} {ts : List SpannedTok} {rest : List SpannedTok} {e3 : Expr C} → IsOperand f src d ts rest e3 → (rest' : List SpannedTok) → first rest ≡ first rest' → Moved rest rest' (λ vs. IsOperand f src d vs rest' e3) ts
    moved_IsOperand {rest = rest} (negated {s = s} a0) rest' h = let u0 = moved_IsOperand a0 rest' h in (((minus, s) ∷ u0.0), negated u0.1, (step (join u0.2 here)))
    moved_IsOperand {rest = rest} (no_minus a0 a1) rest' h = let u0 = moved_IsPostfixed a0 rest' h in (u0.0, no_minus u0.1 (sym (comes_moved begins_postfix rest rest' h) ∙ a1), (join u0.2 here))

    moved_IsPostfixed : {d : ℕ} {ts : List SpannedTok} {rest : List SpannedTok} {e3 : Expr C} → IsPostfixed f src d ts rest e3 → (rest' : List SpannedTok) → first rest ≡ first rest' → Moved rest rest' (λ vs. IsPostfixed f src d vs rest' e3) ts
    moved_IsPostfixed {rest = rest} (no_postfix a0) rest' h = let u0 = moved_IsPrimary a0 rest' h in (u0.0, no_postfix u0.1, (join u0.2 here))
    moved_IsPostfixed {rest = rest} (dot_ident {s = s} {r = r} {x = x} a0) rest' h = let u0 = moved_IsPostfixed a0 ((dot, s) ∷ (ident x, r) ∷ rest') refl in (u0.0, dot_ident u0.1, (join u0.2 (step (step here))))
    moved_IsPostfixed {rest = rest} (dot_int {s = s} {r = r} {n = n} a0) rest' h = let u0 = moved_IsPostfixed a0 ((dot, s) ∷ (int n, r) ∷ rest') refl in (u0.0, dot_int u0.1, (join u0.2 (step (step here))))
    moved_IsPostfixed {rest = rest} (dot_int128 {s = s} {r = r} {n = n} a0) rest' h = let u0 = moved_IsPostfixed a0 ((dot, s) ∷ (int128 n, r) ∷ rest') refl in (u0.0, dot_int128 u0.1, (join u0.2 (step (step here))))
    moved_IsPostfixed {rest = rest} (subscript {s = s} {r = r} a0 a1) rest' h = let u0 = moved_IsExpr a1 ((bracket_close, r) ∷ rest') refl in let u1 = moved_IsPostfixed a0 ((bracket_open, s) ∷ u0.0) refl in (u1.0, subscript u1.1 u0.1, (join u1.2 (step (join u0.2 (step here)))))
    moved_IsPostfixed {rest = rest} (range {s = s} {q = q} {r = r} a0 a1 a2 a3) rest' h = let u0 = moved_IsStep a3 ((bracket_close, r) ∷ rest') refl in let u1 = moved_IsExprIfAny a2 u0.0 (starts (join u0.2 (step here)) h) in let u2 = moved_IsExprIfAny a1 ((colon, q) ∷ u1.0) refl in let u3 = moved_IsPostfixed a0 ((bracket_open, s) ∷ u2.0) refl in (u3.0, range u3.1 u2.1 u1.1 u0.1, (join u3.2 (step (join u2.2 (step (join u1.2 (join u0.2 (step here))))))))
    moved_IsPostfixed {rest = rest} (called a0 a1) rest' h = let u0 = moved_AreArgs a1 rest' h in let u1 = moved_IsPostfixed a0 u0.0 (starts (join u0.2 here) h) in (u1.0, called u1.1 u0.1, (join u1.2 (join u0.2 here)))

    moved_IsExprIfAny : {d : ℕ} {ts : List SpannedTok} {rest : List SpannedTok} {e3 : Optional C} → IsExprIfAny f src d ts rest e3 → (rest' : List SpannedTok) → first rest ≡ first rest' → Moved rest rest' (λ vs. IsExprIfAny f src d vs rest' e3) ts
    moved_IsExprIfAny {rest = rest} (no_expr a0) rest' h = (rest', no_expr (sym (comes_moved begins_expr rest rest' h) ∙ a0), here)
    moved_IsExprIfAny {rest = rest} (one_expr a0) rest' h = let u0 = moved_IsExpr a0 rest' h in (u0.0, one_expr u0.1, (join u0.2 here))

    moved_IsStep : {d : ℕ} {ts : List SpannedTok} {rest : List SpannedTok} {e3 : Optional C} → IsStep f src d ts rest e3 → (rest' : List SpannedTok) → first rest ≡ first rest' → Moved rest rest' (λ vs. IsStep f src d vs rest' e3) ts
    moved_IsStep {rest = rest} (no_step a0) rest' h = (rest', no_step (sym (comes_moved (is colon) rest rest' h) ∙ a0), here)
    moved_IsStep {rest = rest} (by_step {s = s} a0) rest' h = let u0 = moved_IsExprIfAny a0 rest' h in (((colon, s) ∷ u0.0), by_step u0.1, (step (join u0.2 here)))

    moved_AreArgs : {d : ℕ} {ts : List SpannedTok} {rest : List SpannedTok} {e3 : Args C} → AreArgs f src d ts rest e3 → (rest' : List SpannedTok) → first rest ≡ first rest' → Moved rest rest' (λ vs. AreArgs f src d vs rest' e3) ts
    moved_AreArgs {rest = rest} (args {s = s} {r = r} a0 a1 a2) rest' h = let u0 = moved_AreArgItems a0 ((paren_close, r) ∷ rest') refl in (((paren_open, s) ∷ u0.0), args u0.1 a1 a2, (step (join u0.2 (step here))))

    moved_AreArgItems : {d : ℕ} {ts : List SpannedTok} {rest : List SpannedTok} {e3 : Args C} → AreArgItems f src d ts rest e3 → (rest' : List SpannedTok) → first rest ≡ first rest' → Moved rest rest' (λ vs. AreArgItems f src d vs rest' e3) ts
    moved_AreArgItems {rest = rest} (no_arg a0) rest' h = (rest', no_arg (sym (comes_moved begins_arg rest rest' h) ∙ a0), here)
    moved_AreArgItems {rest = rest} (positional {us = us} a0 a1 a2) rest' h = let u0 = moved_AreMoreArgs a2 rest' h in let u1 = moved_IsExpr a0 u0.0 (starts (join u0.2 here) h) in (u1.0, positional u1.1 (sym (comes_moved (is assign) us u0.0 (starts (join u0.2 here) h)) ∙ a1) u0.1, (join u1.2 (join u0.2 here)))
    moved_AreArgItems {rest = rest} (keyword {s = s} a0 a1 a2) rest' h = let u0 = moved_AreMoreArgs a2 rest' h in let u1 = moved_IsExpr a1 u0.0 (starts (join u0.2 here) h) in let u2 = moved_IsExpr a0 ((assign, s) ∷ u1.0) refl in (u2.0, keyword u2.1 u1.1 u0.1, (join u2.2 (step (join u1.2 (join u0.2 here)))))
    moved_AreArgItems {rest = rest} (starred {s = s} a0 a1) rest' h = let u0 = moved_AreMoreArgs a1 rest' h in let u1 = moved_IsExpr a0 u0.0 (starts (join u0.2 here) h) in (((mul, s) ∷ u1.0), starred u1.1 u0.1, (step (join u1.2 (join u0.2 here))))
    moved_AreArgItems {rest = rest} (double_starred {s = s} a0 a1) rest' h = let u0 = moved_AreMoreArgs a1 rest' h in let u1 = moved_IsExpr a0 u0.0 (starts (join u0.2 here) h) in (((pow, s) ∷ u1.0), double_starred u1.1 u0.1, (step (join u1.2 (join u0.2 here))))

    moved_AreMoreArgs : {d : ℕ} {ts : List SpannedTok} {rest : List SpannedTok} {e3 : Args C} → AreMoreArgs f src d ts rest e3 → (rest' : List SpannedTok) → first rest ≡ first rest' → Moved rest rest' (λ vs. AreMoreArgs f src d vs rest' e3) ts
    moved_AreMoreArgs {rest = rest} (no_more_args a0) rest' h = (rest', no_more_args (sym (comes_moved (is comma) rest rest' h) ∙ a0), here)
    moved_AreMoreArgs {rest = rest} (more_args {s = s} a0) rest' h = let u0 = moved_AreArgItems a0 rest' h in (((comma, s) ∷ u0.0), more_args u0.1, (step (join u0.2 here)))

    moved_IsPrimary : {d : ℕ} {ts : List SpannedTok} {rest : List SpannedTok} {e3 : Expr C} → IsPrimary f src d ts rest e3 → (rest' : List SpannedTok) → first rest ≡ first rest' → Moved rest rest' (λ vs. IsPrimary f src d vs rest' e3) ts
    moved_IsPrimary {rest = rest} (true_word {x = x} {s = s} a0) rest' h = (((ident x, s) ∷ rest'), true_word a0, (step here))
    moved_IsPrimary {rest = rest} (false_word {x = x} {s = s} a0) rest' h = (((ident x, s) ∷ rest'), false_word a0, (step here))
    moved_IsPrimary {rest = rest} (none_word {x = x} {s = s} a0) rest' h = (((ident x, s) ∷ rest'), none_word a0, (step here))
    moved_IsPrimary {rest = rest} (name {x = x} {s = s} a0) rest' h = (((ident x, s) ∷ rest'), name a0, (step here))
    moved_IsPrimary {rest = rest} (texts {t = t} {s = s} a0 a1) rest' h = let u0 = moved_texts a1 rest' h in (((t, s) ∷ u0.0), texts a0 u0.1, (step (join u0.2 here)))
    moved_IsPrimary {rest = rest} (integer {n = n} {s = s}) rest' h = (((int n, s) ∷ rest'), integer, (step here))
    moved_IsPrimary {rest = rest} (large_integer {n = n} {s = s}) rest' h = (((int128 n, s) ∷ rest'), large_integer, (step here))
    moved_IsPrimary {rest = rest} (empty_tuple {s = s} {r = r}) rest' h = (((paren_open, s) ∷ (paren_close, r) ∷ rest'), empty_tuple, (step (step here)))
    moved_IsPrimary {rest = rest} (parentheses {s = s} {r = r} a0) rest' h = let u0 = moved_IsExpr a0 ((paren_close, r) ∷ rest') refl in (((paren_open, s) ∷ u0.0), parentheses u0.1, (step (join u0.2 (step here))))
    moved_IsPrimary {rest = rest} (tuple_of {s = s} {q = q} {r = r} a0 a1) rest' h = let u0 = moved_AreExprs a1 ((paren_close, r) ∷ rest') refl in let u1 = moved_IsExpr a0 ((comma, q) ∷ u0.0) refl in (((paren_open, s) ∷ u1.0), tuple_of u1.1 u0.1, (step (join u1.2 (step (join u0.2 (step here))))))
    moved_IsPrimary {rest = rest} (list_of {s = s} {r = r} a0) rest' h = let u0 = moved_AreExprs a0 ((bracket_close, r) ∷ rest') refl in (((bracket_open, s) ∷ u0.0), list_of u0.1, (step (join u0.2 (step here))))
    moved_IsPrimary {rest = rest} (map_of {s = s} {r = r} a0) rest' h = let u0 = moved_AreEntries a0 ((brace_close, r) ∷ rest') refl in (((brace_open, s) ∷ u0.0), map_of u0.1, (step (join u0.2 (step here))))

    pub moved_AreExprs : {d : ℕ} {ts : List SpannedTok} {rest : List SpannedTok} {e3 : Exprs C} → AreExprs f src d ts rest e3 → (rest' : List SpannedTok) → first rest ≡ first rest' → Moved rest rest' (λ vs. AreExprs f src d vs rest' e3) ts
    moved_AreExprs {rest = rest} (no_exprs a0) rest' h = (rest', no_exprs (sym (comes_moved begins_expr rest rest' h) ∙ a0), here)
    moved_AreExprs {rest = rest} (exprs a0 a1) rest' h = let u0 = moved_AreMoreExprs a1 rest' h in let u1 = moved_IsExpr a0 u0.0 (starts (join u0.2 here) h) in (u1.0, exprs u1.1 u0.1, (join u1.2 (join u0.2 here)))

    moved_AreMoreExprs : {d : ℕ} {ts : List SpannedTok} {rest : List SpannedTok} {e3 : Exprs C} → AreMoreExprs f src d ts rest e3 → (rest' : List SpannedTok) → first rest ≡ first rest' → Moved rest rest' (λ vs. AreMoreExprs f src d vs rest' e3) ts
    moved_AreMoreExprs {rest = rest} (no_more_exprs a0) rest' h = (rest', no_more_exprs (sym (comes_moved (is comma) rest rest' h) ∙ a0), here)
    moved_AreMoreExprs {rest = rest} (more_exprs {s = s} a0) rest' h = let u0 = moved_AreExprs a0 rest' h in (((comma, s) ∷ u0.0), more_exprs u0.1, (step (join u0.2 here)))

    moved_AreEntries : {d : ℕ} {ts : List SpannedTok} {rest : List SpannedTok} {e3 : Exprs C} {e4 : Exprs C} → AreEntries f src d ts rest e3 e4 → (rest' : List SpannedTok) → first rest ≡ first rest' → Moved rest rest' (λ vs. AreEntries f src d vs rest' e3 e4) ts
    moved_AreEntries {rest = rest} (no_entries a0) rest' h = (rest', no_entries (sym (comes_moved begins_expr rest rest' h) ∙ a0), here)
    moved_AreEntries {rest = rest} (entries {s = s} a0 a1 a2) rest' h = let u0 = moved_AreMoreEntries a2 rest' h in let u1 = moved_IsExpr a1 u0.0 (starts (join u0.2 here) h) in let u2 = moved_IsExpr a0 ((colon, s) ∷ u1.0) refl in (u2.0, entries u2.1 u1.1 u0.1, (join u2.2 (step (join u1.2 (join u0.2 here)))))

    moved_AreMoreEntries : {d : ℕ} {ts : List SpannedTok} {rest : List SpannedTok} {e3 : Exprs C} {e4 : Exprs C} → AreMoreEntries f src d ts rest e3 e4 → (rest' : List SpannedTok) → first rest ≡ first rest' → Moved rest rest' (λ vs. AreMoreEntries f src d vs rest' e3 e4) ts
    moved_AreMoreEntries {rest = rest} (no_more_entries a0) rest' h = (rest', no_more_entries (sym (comes_moved (is comma) rest rest' h) ∙ a0), here)
    moved_AreMoreEntries {rest = rest} (more_entries {s = s} a0) rest' h = let u0 = moved_AreEntries a0 rest' h in (((comma, s) ∷ u0.0), more_entries u0.1, (step (join u0.2 here)))
