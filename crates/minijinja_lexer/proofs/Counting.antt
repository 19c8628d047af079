-- Lines and columns after one more byte.
use Rattle.std.proofs.Common.{◌≡◌, ℕ, suc, ◌+◌, ◌<◌, Bool, true, false, not, cond, [], ◌∷◌, ◌++◌, length, take, get_or, min, refl, ap, sym, ◌∙◌, arith, reverse, count_by}
use Rattle.std.specs.List.{prefix_len}
use Rattle.std.proofs.lemmas.List.{take_more, reverse-append}
use Rattle.std.proofs.lemmas.List.Sums.{sum_by-append}
use Rattle.minijinja_syntax.specs.Texts.{Text}
use Rattle.minijinja_syntax.specs.Positions.{is_newline, is_lead, line_after, column_after}
use Rattle.minijinja_lexer.specs.private.Place.{next_line, next_column}

pub count_append : (p : ℕ → Bool) (xs ys : Text) → count_by p (xs ++ ys) ≡ count_by p xs + count_by p ys
count_append p xs ys = sum_by-append (λ x. cond (p x) 1 0) xs ys

pub count_one : (p : ℕ → Bool) (b : ℕ) → count_by p (b ∷ []) ≡ cond (p b) 1 0
count_one p b = omega arith

line_counts : (n : ℕ) (t : Bool) → min 65535 (1 + (n + cond t 1 0)) ≡ cond t (min 65535 (min 65535 (1 + n) + 1)) (min 65535 (1 + n))
line_counts n true = omega arith
line_counts n false = omega arith

pub line_more : (before : Text) (b : ℕ) → line_after (before ++ b ∷ []) ≡ next_line (line_after before) b
line_more before b = rw (count_append is_newline before (b ∷ []), count_one is_newline b) (line_counts (count_by is_newline before) (is_newline b))

column_counts : (xs : Text) (b : ℕ) (n : ℕ) (t u : Bool) → is_newline b ≡ t → is_lead b ≡ u → min 65535 (count_by is_lead (take (cond (not t) (1 + n) 0) (b ∷ xs))) ≡ cond t 0 (cond u (min 65535 (min 65535 (count_by is_lead (take n xs)) + 1)) (min 65535 (count_by is_lead (take n xs))))
column_counts xs b n true u p q = refl
column_counts xs b n false u p q =
    let e : 1 + n ≡ suc n = omega arith in rw e (ap (min 65535) (count_append is_lead (b ∷ []) (take n xs) ∙ ap (λ k. k + count_by is_lead (take n xs)) (count_one is_lead b ∙ ap (λ v. cond v 1 0) q)) ∙ counts (count_by is_lead (take n xs)) u)
  where
    counts : (m : ℕ) (u : Bool) → min 65535 (cond u 1 0 + m) ≡ cond u (min 65535 (min 65535 m + 1)) (min 65535 m)
    counts m true = omega arith
    counts m false = omega arith

pub column_more : (before : Text) (b : ℕ) → column_after (before ++ b ∷ []) ≡ next_column (column_after before) b
column_more before b = rw reverse-append (column_counts (reverse before) b (prefix_len (λ b. not (is_newline b)) (reverse before)) (is_newline b) (is_lead b) refl refl)

-- the step of a loop over the bytes
pub line_step : (text bytes : Text) (i line r : ℕ) → bytes ≡ text → i < length text → line ≡ line_after (take i text) → r ≡ next_line line (get_or bytes i 0) → r ≡ line_after (take (i + 1) text)
line_step text bytes i line r e h l n =
    n ∙ ap (λ t. next_line line (get_or t i 0)) e ∙ ap (λ k. next_line k (get_or text i 0)) l ∙ sym (line_more (take i text) (get_or text i 0)) ∙ ap line_after (sym (take_more text i 0 h))

pub column_step : (text bytes : Text) (i column r : ℕ) → bytes ≡ text → i < length text → column ≡ column_after (take i text) → r ≡ next_column column (get_or bytes i 0) → r ≡ column_after (take (i + 1) text)
column_step text bytes i column r e h l n =
    n ∙ ap (λ t. next_column column (get_or t i 0)) e ∙ ap (λ k. next_column k (get_or text i 0)) l ∙ sym (column_more (take i text) (get_or text i 0)) ∙ ap column_after (sym (take_more text i 0 h))
