-- The characters at the front of a text that are whitespace other than \r and \n.
use Rattle.std.proofs.Common.{◌≡◌, ℕ, ◌+◌, true, false, cond, [], ◌∷◌, ◌++◌, length, drop, ap, sym, ◌∙◌, arith, subst, length-append}
use Rattle.std.specs.Str.{IsUtf8, IsCharBoundary, chars}
use Rattle.std.specs.Char.{len_utf8, encode_utf8}
use Rattle.std.proofs.lemmas.Str.{chars-nil, IsCharBoundary-from_drop, chars_past_char, drop_past_char, IsUtf8-past_char, length-encode}
use Rattle.minijinja_syntax.specs.Texts.{Text}
use Rattle.minijinja_lexer.specs.Whitespace.{is_line_space, line_space_run, line_space_len}

-- len bytes of the text are such characters, and rest follows
pub record SpaceRun (text : Text) (len : ℕ) (rest : Text) : Type 0 where
  pub counted : len + line_space_run (chars rest) ≡ line_space_run (chars text)
  pub there : drop len text ≡ rest
  pub lens : len + length rest ≡ length text
  pub utf8 : IsUtf8 rest

pub run_step : (text : Text) (len : ℕ) (rest after : Text) (c : ℕ) → SpaceRun text len rest → rest ≡ encode_utf8 c ++ after → is_line_space c ≡ true → SpaceRun text (len + len_utf8 c) after
run_step text len rest after c run e h =
    let chars_are : chars rest ≡ c ∷ chars after = chars_past_char rest after c run.utf8 e in
    let space_is : line_space_run (chars rest) ≡ len_utf8 c + line_space_run (chars after) = ap line_space_run chars_are ∙ ap (λ t. cond t (len_utf8 c + line_space_run (chars after)) 0) h in
    let len_is : length rest ≡ len_utf8 c + length after = ap length e ∙ length-append (encode_utf8 c) after ∙ ap (λ n. n + length after) (length-encode c) in
    record {
      counted = omega (arith, space_is, run.counted);
      there = drop_past_char text after len c (run.there ∙ e);
      lens = omega (arith, len_is, run.lens);
      utf8 = IsUtf8-past_char rest after c run.utf8 e;
    }

pub run_stop : (text : Text) (len : ℕ) (rest after : Text) (c : ℕ) → SpaceRun text len rest → rest ≡ encode_utf8 c ++ after → is_line_space c ≡ false → len ≡ line_space_run (chars text)
run_stop text len rest after c run e h =
    let space_is : line_space_run (chars rest) ≡ 0 = ap line_space_run (chars_past_char rest after c run.utf8 e) ∙ ap (λ t. cond t (len_utf8 c + line_space_run (chars after)) 0) h in
    omega (arith, space_is, run.counted)

pub run_end : (text : Text) (len : ℕ) (rest : Text) → SpaceRun text len rest → length rest ≡ 0 → len ≡ line_space_run (chars text)
run_end text len [] run h = let none : line_space_run (chars []) ≡ 0 = ap line_space_run chars-nil in omega (arith, run.counted, none)
run_end text len (b ∷ bs) run h = absurd (omega (arith, h))

pub run_boundary : (text : Text) (len : ℕ) (rest : Text) → SpaceRun text len rest → IsCharBoundary text len
run_boundary text len rest run = IsCharBoundary-from_drop text len (omega (arith, run.lens)) (subst IsUtf8 (sym run.there) run.utf8)

-- a run within the text is all of it
pub run_is : (text : Text) (len : ℕ) → len ≡ line_space_run (chars text) → IsCharBoundary text len → len ≡ line_space_len text
run_is text len e b = let h = b.0 in omega (arith, e, h)
