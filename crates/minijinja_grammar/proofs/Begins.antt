-- An expression begins with a token that begins one.
use Rattle.std.proofs.Common.{◌≡◌, ℕ, true, false, List, [], ◌∷◌, Some, refl}
use Rattle.minijinja_syntax.specs.Texts.{Text}
use Rattle.minijinja_value.specs.Values.{Functions}
use Rattle.minijinja_syntax.specs.Streams.{SpannedTok}
use Rattle.minijinja_syntax.specs.Tokens.{Tok, template_data, ident, str, string, int, int128, minus}
use Rattle.minijinja_tree.specs.Tree.{Expr}
use Rattle.minijinja_grammar.specs.Words.{is, text_of, begins_expr, begins_primary}
use Rattle.minijinja_grammar.specs.Ahead.{comes, Level}
use Rattle.minijinja_grammar.specs.Expressions.{IsExpr, expr, cond, IsIfs, no_if, if_alone, if_else, IsLevel, level, IsRow, no_operator, operation, IsSide, side_of_or, side_of_and, side_of_sum, side_of_cat, side_of_term, IsNot, opposite, no_not, IsCmp, comparison, IsPow, no_power, power, IsUnary, suffixed, IsSuffixed, no_suffix, filtered, tested, tested_not, IsOperand, negated, no_minus, IsPostfixed, no_postfix, dot_ident, dot_int, dot_int128, subscript, range, called, IsPrimary, true_word, false_word, none_word, name, texts, integer, large_integer, empty_tuple, parentheses, tuple_of, list_of, map_of}

pub text_begins : (t : Tok) (x : Text) → text_of t ≡ Some x → begins_primary t ≡ true
text_begins (str y) x e = refl
text_begins (string y) x e = refl
text_begins (template_data y) x e = cc
text_begins (ident y) x e = cc
text_begins (int n) x e = cc
text_begins (int128 n) x e = cc
text_begins _ x e = cc

module _ {C F : Type 0} (f : Functions C F) (src : Text) where
  primary_begins : {d : ℕ} {ts rest : List SpannedTok} {e : Expr C} → IsPrimary f src d ts rest e → comes begins_primary ts ≡ true
  primary_begins (true_word e) = refl
  primary_begins (false_word e) = refl
  primary_begins (none_word e) = refl
  primary_begins (name e) = refl
  primary_begins (texts {t = t} {x = x} e w) = text_begins t x e
  primary_begins integer = refl
  primary_begins large_integer = refl
  primary_begins empty_tuple = refl
  primary_begins (parentheses e) = refl
  primary_begins (tuple_of e es) = refl
  primary_begins (list_of es) = refl
  primary_begins (map_of es) = refl

  wider : (ts : List SpannedTok) → comes begins_primary ts ≡ true → comes begins_expr ts ≡ true
  wider [] e = e
  wider ((minus, s) ∷ ts) e = refl
  wider ((ident x, s) ∷ ts) e = refl
  wider (t ∷ ts) e = go t.0 e
    where
      go : (u : Tok) → begins_primary u ≡ true → begins_expr u ≡ true
      go minus k = refl
      go _ k = k

  postfixed_begins : {d : ℕ} {ts rest : List SpannedTok} {e : Expr C} → IsPostfixed f src d ts rest e → comes begins_expr ts ≡ true
  postfixed_begins {ts = ts} (no_postfix a) = wider ts (primary_begins a)
  postfixed_begins (dot_ident a) = postfixed_begins a
  postfixed_begins (dot_int a) = postfixed_begins a
  postfixed_begins (dot_int128 a) = postfixed_begins a
  postfixed_begins (subscript a b) = postfixed_begins a
  postfixed_begins (range a b c e) = postfixed_begins a
  postfixed_begins (called a b) = postfixed_begins a

  not_minus : (ts : List SpannedTok) → comes begins_primary ts ≡ true → comes (is minus) ts ≡ false
  not_minus [] e = refl
  not_minus (t ∷ ts) e = go t.0 e
    where
      go : (u : Tok) → begins_primary u ≡ true → is minus u ≡ false
      go minus k = cc
      go _ k = refl

  pub postfixed_no_minus : {d : ℕ} {ts rest : List SpannedTok} {e : Expr C} → IsPostfixed f src d ts rest e → comes (is minus) ts ≡ false
  postfixed_no_minus {ts = ts} (no_postfix a) = not_minus ts (primary_begins a)
  postfixed_no_minus (dot_ident a) = postfixed_no_minus a
  postfixed_no_minus (dot_int a) = postfixed_no_minus a
  postfixed_no_minus (dot_int128 a) = postfixed_no_minus a
  postfixed_no_minus (subscript a b) = postfixed_no_minus a
  postfixed_no_minus (range a b c e) = postfixed_no_minus a
  postfixed_no_minus (called a b) = postfixed_no_minus a

  operand_begins : {d : ℕ} {ts rest : List SpannedTok} {e : Expr C} → IsOperand f src d ts rest e → comes begins_expr ts ≡ true
  operand_begins (negated a) = refl
  operand_begins (no_minus a e) = postfixed_begins a

  suffixed_begins : {d : ℕ} {ts rest : List SpannedTok} {e : Expr C} → IsSuffixed f src d ts rest e → comes begins_expr ts ≡ true
  suffixed_begins (no_suffix a) = operand_begins a
  suffixed_begins (filtered a b c) = suffixed_begins a
  suffixed_begins (tested a e b c) = suffixed_begins a
  suffixed_begins (tested_not a b c) = suffixed_begins a

  unary_begins : {d : ℕ} {ts rest : List SpannedTok} {e : Expr C} → IsUnary f src d ts rest e → comes begins_expr ts ≡ true
  unary_begins (suffixed a e) = suffixed_begins a

  pow_begins : {d : ℕ} {ts rest : List SpannedTok} {e : Expr C} → IsPow f src d ts rest e → comes begins_expr ts ≡ true
  pow_begins (no_power a e) = unary_begins a
  pow_begins (power a b) = unary_begins a

  mutual
    level_begins : {l : Level} {d : ℕ} {ts rest : List SpannedTok} {e : Expr C} → IsLevel f src l d ts rest e → comes begins_expr ts ≡ true
    level_begins (level a e) = row_begins a

    row_begins : {l : Level} {d : ℕ} {ts rest : List SpannedTok} {e : Expr C} → IsRow f src l d ts rest e → comes begins_expr ts ≡ true
    row_begins (no_operator a) = side_begins a
    row_begins (operation a e b) = row_begins a

    side_begins : {l : Level} {d : ℕ} {ts rest : List SpannedTok} {e : Expr C} → IsSide f src l d ts rest e → comes begins_expr ts ≡ true
    side_begins (side_of_or a) = level_begins a
    side_begins (side_of_and a) = not_begins a
    side_begins (side_of_sum a) = level_begins a
    side_begins (side_of_cat a) = level_begins a
    side_begins (side_of_term a) = pow_begins a

    not_begins : {d : ℕ} {ts rest : List SpannedTok} {e : Expr C} → IsNot f src d ts rest e → comes begins_expr ts ≡ true
    not_begins (opposite a) = refl
    not_begins (no_not e a) = cmp_begins a

    cmp_begins : {d : ℕ} {ts rest : List SpannedTok} {e : Expr C} → IsCmp f src d ts rest e → comes begins_expr ts ≡ true
    cmp_begins (comparison a b) = level_begins a

  ifs_begins : {d : ℕ} {ts rest : List SpannedTok} {e : Expr C} → IsIfs f src d ts rest e → comes begins_expr ts ≡ true
  ifs_begins (no_if a) = level_begins a
  ifs_begins (if_alone a b e) = ifs_begins a
  ifs_begins (if_else a b c) = ifs_begins a

  pub expr_begins : {d : ℕ} {ts rest : List SpannedTok} {e : Expr C} → IsExpr f src d ts rest e → comes begins_expr ts ≡ true
  expr_begins (expr (cond a e)) = ifs_begins a
