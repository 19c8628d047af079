-- An expression in a larger text is read as it is by itself.
use Rattle.std.proofs.Common.{◌≡◌, ℕ, zero, suc, ◌+◌, ◌-◌, ◌<◌, ◌≤◌, ◌==◌, Bool, true, false, cond, List, [], ◌∷◌, ◌++◌, length, drop, take, refl, ap, sym, ◌∙◌, arith, subst, map, ⊎_elim, Option, Some, None}
use Rattle.std.specs.Prelude.{◌&&◌, nat_eq, nat_lt, slice_index, unwrap_or, Result, Ok, Err}
use Rattle.std.specs.List.{prefix_len, starts_with}
use Rattle.std.specs.Char.{is_ascii_whitespace}
use Rattle.std.proofs.Math.ListN.{length-append}
use Rattle.std.proofs.Math.Seq.{drop-append-add, get_or-append-add}
use Rattle.std.proofs.lemmas.Bool.{cases_lt, cases_eq, lt-ltb, le-ltb, eq-eqb, ne_eqb}
use Rattle.minijinja_syntax.specs.Texts.{Text}
use Rattle.minijinja_syntax.specs.Syntax.{Syntax, end_of}
use Rattle.minijinja_syntax.specs.Positions.{slice, span_at}
use Rattle.minijinja_syntax.specs.Tokens.{ident, str, string, variable_end}
use Rattle.minijinja_syntax.specs.Markers.{stands}
use Rattle.minijinja_syntax.specs.Streams.{SpannedTok, Stream, ended, finished}
use Rattle.minijinja_syntax.specs.declared.error.ErrorKind.TheVariants.{BadEscape, SyntaxError}
use Rattle.minijinja_syntax.specs.declared.syntax.StartMarker.{StartMarker}
use Rattle.minijinja_syntax.specs.declared.syntax.StartMarker.TheVariants as markers
use Rattle.minijinja_lexer.specs.Brackets.{opened_by, shut_by}
use Rattle.minijinja_lexer.specs.Bytes.{period}
use Rattle.minijinja_lexer.specs.Controls.{Control, Absent}
use Rattle.minijinja_lexer.specs.Cut.{close_at, delimited_close, end_at, go_on, Inner, inner_at, inner_from, scanned, tag_part_at, tag_part_from, token_part}
use Rattle.minijinja_lexer.specs.Escapes.{unescaped}
use Rattle.minijinja_lexer.specs.Faults.{LexFault}
use Rattle.minijinja_lexer.specs.Faults as fault
use Rattle.minijinja_lexer.specs.Sorts.{Sort}
use Rattle.minijinja_lexer.specs.Sorts as sort
use Rattle.minijinja_lexer.specs.Standing.{refusal_behind, token_behind}
use Rattle.minijinja_lexer.specs.TagParts.{Lexeme, Close, Closed, Broken, Refused, TagPart, Token, End}
use Rattle.minijinja_lexer.specs.Tags.{Variable}
use Rattle.minijinja_lexer.specs.TextTokens.{behind_expression, close_stream, lexeme_tok, lexeme_token, refusal, stream_in, token_refusal, tokens_of_expression_at}
use Rattle.minijinja_lexer.specs.TokenAt.{is_behind_dot, placed, token_at, token_front}
use Rattle.minijinja_lexer.specs.Whitespace.{control_at, control_of, is_given, past_space, tail_len}
use Rattle.minijinja_lexer.proofs.Slices.{none_behind}

-- ---- so many bytes further on

abbrev further_end : ℕ → Option (Control × ℕ) → Option (Control × ℕ)
further_end n None = None
further_end n (Some e) = Some (e.0, n + e.1)

abbrev further_close : ℕ → Close → Close
further_close n (Closed start stop after) = Closed (n + start) (n + stop) (n + after)
further_close n Broken = Broken
further_close n (Refused f start place) = Refused f (n + start) (n + place)

abbrev further_if_any : ℕ → Option Close → Option Close
further_if_any n None = None
further_if_any n (Some close) = Some (further_close n close)

abbrev further_scan : ℕ → Result (Sort × ℕ) (LexFault × ℕ) → Result (Sort × ℕ) (LexFault × ℕ)
further_scan n (Ok t) = Ok (t.0, n + t.1)
further_scan n (Err f) = Err (f.0, n + f.1)

abbrev further_lexeme : ℕ → Lexeme → Lexeme
further_lexeme n l = record { start = n + l.start; stop = n + l.stop; sort = l.sort }

abbrev further_part : ℕ → TagPart → TagPart
further_part n (Token l) = Token (further_lexeme n l)
further_part n (End close) = End (further_close n close)

abbrev further_inner : ℕ → Inner → Inner
further_inner n i = record { lexemes = map (further_lexeme n) i.lexemes; close = further_close n i.close }

-- ---- tests of places

none_before : (k : ℕ) → 0 + k ≡ k
none_before k = omega arith

lt_further : (n a b : ℕ) → nat_lt (n + a) (n + b) ≡ nat_lt a b
lt_further n a b = ⊎_elim
    (λ (h : a < b). lt-ltb (n + a) (n + b) (omega (arith, h)) ∙ sym (lt-ltb a b h))
    (λ (h : b ≤ a). le-ltb (n + a) (n + b) (omega (arith, h)) ∙ sym (le-ltb a b h))
    (cases_lt a b)

eq_further : (n a b : ℕ) → (n + a == n + b) ≡ (a == b)
eq_further n a b = ⊎_elim
    (λ (e : a ≡ b). eq-eqb (n + a) (n + b) (ap (λ k. n + k) e) ∙ sym (eq-eqb a b e))
    (λ (e : a ≡ b → ⊥). ne_eqb (n + a) (n + b) (λ q. e (omega (arith, q))) ∙ sym (ne_eqb a b e))
    (cases_eq a b)

-- ---- in a larger text

module _ (front text : Text) where
  abbrev whole : Text
  whole = front ++ text

  abbrev n : ℕ
  n = length front

  rest_is : (p : ℕ) → drop (n + p) whole ≡ drop p text
  rest_is p = drop-append-add front text p

  byte_is : (p : ℕ) → slice_index whole (n + p) ≡ slice_index text p
  byte_is p = get_or-append-add front text p 0

  over_there : (p : ℕ) → nat_lt (n + p) (length whole) ≡ nat_lt p (length text)
  over_there p = ap (nat_lt (n + p)) (length-append front text) ∙ lt_further n p (length text)

  at_its_end : (p : ℕ) → (n + p == length whole) ≡ (p == length text)
  at_its_end p = ap (λ k. n + p == k) (length-append front text) ∙ eq_further n p (length text)

  slices_are : (a b : ℕ) → slice whole (n + a) (n + b) ≡ slice text a b
  slices_are a b = let e : (n + b) - (n + a) ≡ b - a = omega arith in ap (λ k. take k (drop (n + a) whole)) e ∙ ap (take (b - a)) (rest_is a)

  insides_are : (a b : ℕ) → slice whole (n + a + 1) (n + b - 1) ≡ slice text (a + 1) (b - 1)
  insides_are a b =
      let e : (n + b - 1) - (n + a + 1) ≡ (b - 1) - (a + 1) = omega arith in
      let f : n + a + 1 ≡ n + (a + 1) = omega arith in
      ap (λ k. take k (drop (n + a + 1) whole)) e ∙ ap (λ k. take ((b - 1) - (a + 1)) (drop k whole)) f ∙ ap (take ((b - 1) - (a + 1))) (rest_is (a + 1))

  -- ---- the end of the tag

  space_is : (at : ℕ) → past_space whole (n + at) ≡ n + past_space text at
  space_is at =
      let e : n + at + prefix_len is_ascii_whitespace (drop at text) ≡ n + (at + prefix_len is_ascii_whitespace (drop at text)) = omega arith in
      ap (λ (bs : Text). n + at + prefix_len is_ascii_whitespace bs) (rest_is at) ∙ e

  end_is : (d : Text) (p : ℕ) → end_at d whole (n + p) ≡ further_end n (end_at d text p)
  unfolding end_at
  end_is d p =
      let f : n + p + 1 ≡ n + (p + 1) = omega arith in
      let g : drop (n + p + 1) whole ≡ drop (p + 1) text = ap (λ k. drop k whole) f ∙ rest_is (p + 1) in
      ap (λ b. found b (drop (n + p + 1) whole) (drop (n + p) whole)) (byte_is p)
      ∙ ap (λ (bs : Text). found (slice_index text p) bs (drop (n + p) whole)) g
      ∙ ap (λ (bs : Text). found (slice_index text p) (drop (p + 1) text) bs) (rest_is p)
      ∙ either (is_given (control_at text p) && stands d text (p + 1)) (stands d text p) (control_at text p)
    where
      found : (b : ℕ) (later here : Text) → Option (Control × ℕ)
      found b later here = cond (is_given (control_of b) && starts_with nat_eq later d) (Some (control_of b, n + p + 1 + length d)) (cond (starts_with nat_eq here d) (Some (Absent, n + p + length d)) None)

      either : (t u : Bool) (c : Control) → cond t (Some (c, n + p + 1 + length d)) (cond u (Some (Absent, n + p + length d)) None) ≡ further_end n (cond t (Some (c, p + 1 + length d)) (cond u (Some (Absent, p + length d)) None))
      either true u c = let e : n + p + 1 + length d ≡ n + (p + 1 + length d) = omega arith in ap (λ k. Some (c, k)) e
      either false true c = let e : n + p + length d ≡ n + (p + length d) = omega arith in ap (λ k. Some (Absent, k)) e
      either false false c = refl

  delimited_is : (s : Syntax) (m : StartMarker) (p : ℕ) (e : Option (Control × ℕ)) → delimited_close s whole m (n + p) (further_end n e) ≡ further_if_any n (delimited_close s text m p e)
  delimited_is s m p None = refl
  delimited_is s m p (Some e) =
      let f : n + e.1 + tail_len s m e.0 (drop e.1 text) ≡ n + (e.1 + tail_len s m e.0 (drop e.1 text)) = omega arith in
      ap (λ (bs : Text). Some (Closed (n + p) (n + e.1) (n + e.1 + tail_len s m e.0 bs))) (rest_is e.1) ∙ ap (λ k. Some (Closed (n + p) (n + e.1) k)) f

  close_is : (s : Syntax) (at : ℕ) → close_at s whole Variable (n + at) ≡ further_if_any n (close_at s text Variable at)
  unfolding close_at
  close_is s at =
      let p = past_space text at in
      let d = end_of s markers.Variable in
      ap (λ q. delimited_close s whole markers.Variable q (end_at d whole q)) (space_is at) ∙ ap (delimited_close s whole markers.Variable (n + p)) (end_is d p) ∙ delimited_is s markers.Variable p (end_at d text p)

  -- ---- what stands in the tag

  module _ (no_dot : is_behind_dot whole n ≡ false) where
    dot_is : (p : ℕ) → is_behind_dot whole (n + p) ≡ is_behind_dot text p
    dot_is zero = let e : n + 0 ≡ n = omega arith in ap (is_behind_dot whole) e ∙ no_dot
    dot_is (suc q) =
        let some : nat_lt 0 (n + suc q) ≡ true = lt-ltb 0 (n + suc q) (omega arith) in
        let some' : nat_lt 0 (suc q) ≡ true = lt-ltb 0 (suc q) (omega arith) in
        let e : n + suc q - 1 ≡ n + q = omega arith in
        let f : suc q - 1 ≡ q = omega arith in
        ap (λ t. t && (slice_index whole (n + suc q - 1) == period)) some ∙ ap (λ k. slice_index whole k == period) e ∙ ap (λ b. b == period) (byte_is q) ∙ ap (λ k. slice_index text k == period) (sym f)
        ∙ sym (ap (λ t. t && (slice_index text (suc q - 1) == period)) some')

    token_is : (p : ℕ) → token_at whole (n + p) ≡ further_scan n (token_at text p)
    unfolding token_at
    token_is p =
        ap (λ (bs : Text). placed (n + p) (token_front (is_behind_dot whole (n + p)) bs)) (rest_is p) ∙ ap (λ t. placed (n + p) (token_front t (drop p text))) (dot_is p) ∙ placed_is (token_front (is_behind_dot text p) (drop p text))
      where
        placed_is : (r : Result (Sort × ℕ) (LexFault × ℕ)) → placed (n + p) r ≡ further_scan n (placed p r)
        placed_is (Ok t) = let e : n + p + t.1 ≡ n + (p + t.1) = omega arith in ap (λ k. Ok (t.0, k)) e
        placed_is (Err f) = let e : n + p + f.1 ≡ n + (p + f.1) = omega arith in ap (λ k. Err (f.0, k)) e

    scanned_is : (p : ℕ) (r : Result (Sort × ℕ) (LexFault × ℕ)) → scanned (n + p) (further_scan n r) ≡ further_part n (scanned p r)
    scanned_is p (Ok t) = refl
    scanned_is p (Err f) = refl

    word_is : (p : ℕ) → token_part whole Variable (n + p) ≡ further_part n (token_part text Variable p)
    word_is p =
        ap (λ t. cond t (scanned (n + p) (token_at whole (n + p))) (End Broken)) (over_there p) ∙ ap (λ r. cond (nat_lt p (length text)) (scanned (n + p) r) (End Broken)) (token_is p) ∙ either (nat_lt p (length text))
      where
        either : (t : Bool) → cond t (scanned (n + p) (further_scan n (token_at text p))) (End Broken) ≡ further_part n (cond t (scanned p (token_at text p)) (End Broken))
        either true = scanned_is p (token_at text p)
        either false = refl

    part_is : (s : Syntax) (o c at : ℕ) → tag_part_at s whole Variable o c (n + at) ≡ further_part n (tag_part_at s text Variable o c at)
    unfolding tag_part_at
    part_is s o c at = ap (λ (x : Option Close). tag_part_from whole Variable (n + at) (cond (o == c) x None)) (close_is s at) ∙ either (o == c)
      where
        from : (x : Option Close) → tag_part_from whole Variable (n + at) (further_if_any n x) ≡ further_part n (tag_part_from text Variable at x)
        from None = ap (token_part whole Variable) (space_is at) ∙ word_is (past_space text at)
        from (Some close) = refl

        either : (t : Bool) → tag_part_from whole Variable (n + at) (cond t (further_if_any n (close_at s text Variable at)) None) ≡ further_part n (tag_part_from text Variable at (cond t (close_at s text Variable at) None))
        either true = from (close_at s text Variable at)
        either false = from None

    inner_from_is : (s : Syntax) (o c at skip : ℕ) (bs : Text) → inner_from s whole Variable o c (n + at) skip bs ≡ further_inner n (inner_from s text Variable o c at skip bs)
    inner_from_is s o c at skip [] = refl
    inner_from_is s o c at (suc skip) (b ∷ bs) = let e : n + at + 1 ≡ n + (at + 1) = omega arith in ap (λ k. inner_from s whole Variable o c k skip bs) e ∙ inner_from_is s o c (at + 1) skip bs
    inner_from_is s o c at zero (b ∷ bs) =
        ap (λ x. go_on x (after (n + at) whole)) (part_is s o c at)
        ∙ step (λ l. inner_from_is s (o + opened_by l.sort) (c + shut_by l.sort) (at + 1) (l.stop - (at + 1)) bs) (tag_part_at s text Variable o c at)
      where
        later : ℕ → ℕ → Text → Lexeme → Inner
        later at skip t l = inner_from s t Variable (o + opened_by l.sort) (c + shut_by l.sort) at skip bs

        after : ℕ → Text → Lexeme → Inner
        after at t l = later (at + 1) (l.stop - (at + 1)) t l

        step : ((l : Lexeme) → later (n + (at + 1)) (l.stop - (at + 1)) whole l ≡ further_inner n (after at text l)) → (x : TagPart) → go_on (further_part n x) (after (n + at) whole) ≡ further_inner n (go_on x (after at text))
        step are (End close) = refl
        step are (Token l) =
            let e : n + at + 1 ≡ n + (at + 1) = omega arith in
            let f : n + l.stop - (n + at + 1) ≡ l.stop - (at + 1) = omega arith in
            ap (λ (i : Inner). record { lexemes = further_lexeme n l ∷ i.lexemes; close = i.close })
            (ap (λ k. later k (n + l.stop - (n + at + 1)) whole l) e ∙ ap (λ k. later (n + (at + 1)) k whole l) f ∙ are l)

    inner_is_further : (s : Syntax) (o c at : ℕ) → inner_at s whole Variable o c (n + at) ≡ further_inner n (inner_at s text Variable o c at)
    unfolding inner_at
    inner_is_further s o c at = ap (inner_from s whole Variable o c (n + at) 0) (rest_is at) ∙ inner_from_is s o c at 0 (drop at text)

    -- ---- its tokens

    tok_is : (start stop : ℕ) (x : Sort) → lexeme_tok whole (record { start = n + start; stop = n + stop; sort = x }) ≡ lexeme_tok text (record { start = start; stop = stop; sort = x })
    tok_is start stop sort.Ident = ap ident (slices_are start stop)
    tok_is start stop sort.Str = ap str (insides_are start stop)
    tok_is start stop sort.String = ap (λ t. string (unwrap_or (unescaped t) [])) (insides_are start stop)
    tok_is start stop (sort.Int k) = refl
    tok_is start stop (sort.Int128 k) = refl
    tok_is start stop (sort.Symbol x) = refl

    token_stands : (l : Lexeme) → lexeme_token whole (further_lexeme n l) ≡ token_behind front text (lexeme_token text l)
    token_stands l = ap (λ t. (t, span_at whole (n + l.start) (n + l.stop))) (tok_is l.start l.stop l.sort)

    abbrev behind_close : Text → Close → Stream
    behind_close t close = close_stream t Variable (behind_expression t) close

    end_stands : (close : Close) → (behind_close whole (further_close n close)).tokens ≡ map (token_behind front text) (behind_close text close).tokens
    end_stands (Closed start stop after) =
        ap (λ (ts : List SpannedTok). (variable_end, span_at whole (n + start) (n + stop)) ∷ ts) (none_behind whole (n + stop) (n + after))
        ∙ ap (λ (ts : List SpannedTok). (variable_end, span_at whole (n + start) (n + stop)) ∷ map (token_behind front text) ts) (sym (none_behind text stop after))
    end_stands Broken = refl
    end_stands (Refused f start place) = refl

    all_stand : (ls : List Lexeme) (close : Close) → map (lexeme_token whole) (map (further_lexeme n) ls) ++ (behind_close whole (further_close n close)).tokens
        ≡ map (token_behind front text) (map (lexeme_token text) ls ++ (behind_close text close).tokens)
    all_stand [] close = end_stands close
    all_stand (l ∷ ls) close =
        ap (λ t. t ∷ (map (lexeme_token whole) (map (further_lexeme n) ls) ++ (behind_close whole (further_close n close)).tokens)) (token_stands l)
        ∙ ap (λ ts. token_behind front text (lexeme_token text l) ∷ ts) (all_stand ls close)

    fault_stands : (f : LexFault) (start place : ℕ) → refusal_behind 0 (token_refusal whole f (n + start) (n + place)) ≡ refusal_behind n (token_refusal text f start place)
    fault_stands fault.UnexpectedCharacter start place = ap (λ k. Some (SyntaxError, Some k)) (none_before (n + place))
    fault_stands fault.UnterminatedString start place = ap (λ k. Some (SyntaxError, Some k)) (none_before (n + place))
    fault_stands fault.BadEscape start place = ap (λ k. Some (BadEscape, Some k)) (none_before (n + start))
    fault_stands fault.MissingDigits start place = ap (λ k. Some (SyntaxError, Some k)) (none_before (n + place))
    fault_stands fault.DigitOutOfRange start place = ap (λ k. Some (SyntaxError, Some k)) (none_before (n + place))
    fault_stands fault.TrailingUnderscore start place = ap (λ k. Some (SyntaxError, Some k)) (none_before (n + place))
    fault_stands fault.IntegerTooLarge start place = ap (λ k. Some (SyntaxError, Some k)) (none_before (n + place))
    fault_stands fault.FloatLiteral start place = ap (λ k. Some (SyntaxError, Some k)) (none_before (n + place))
    fault_stands fault.UnclosedComment start place = ap (λ k. Some (SyntaxError, Some k)) (none_before (n + place))
    fault_stands fault.UnclosedRaw start place = ap (λ k. Some (SyntaxError, Some k)) (none_before (n + place))
    fault_stands fault.TextGoesOn start place = ap (λ k. Some (SyntaxError, Some k)) (none_before (n + place))

    refusal_stands : (close : Close) → refusal_behind 0 (behind_close whole (further_close n close)).ending ≡ refusal_behind n (behind_close text close).ending
    refusal_stands (Closed start stop after) = ap (λ t. refusal_behind 0 (let b : Stream = cond t (ended finished) (ended (refusal whole (n + stop))) in b.ending)) (at_its_end stop) ∙ either (stop == length text)
      where
        either : (t : Bool) → refusal_behind 0 (let b : Stream = cond t (ended finished) (ended (refusal whole (n + stop))) in b.ending) ≡ refusal_behind n (let b : Stream = cond t (ended finished) (ended (refusal text stop)) in b.ending)
        either true = refl
        either false = ap (λ k. Some (SyntaxError, Some k)) (none_before (n + stop))
    refusal_stands Broken = refl
    refusal_stands (Refused f start place) = fault_stands f start place

    -- ---- the whole expression

    pub same_tokens : (s : Syntax) → (tokens_of_expression_at s whole n).tokens ≡ map (token_behind front text) (tokens_of_expression_at s text 0).tokens
    unfolding tokens_of_expression_at stream_in
    same_tokens s =
        let e : n ≡ n + 0 = omega arith in
        let i = inner_at s text Variable 0 0 0 in
        let shown : Inner → Type 0 = λ j. map (lexeme_token whole) j.lexemes ++ (behind_close whole j.close).tokens ≡ map (token_behind front text) (map (lexeme_token text) i.lexemes ++ (behind_close text i.close).tokens) in
        subst (λ k. shown (inner_at s whole Variable 0 0 k)) (sym e) (subst shown (sym (inner_is_further s 0 0 0)) (all_stand i.lexemes i.close))

    pub same_ending : (s : Syntax) → refusal_behind 0 (tokens_of_expression_at s whole n).ending ≡ refusal_behind n (tokens_of_expression_at s text 0).ending
    unfolding tokens_of_expression_at stream_in
    same_ending s =
        let e : n ≡ n + 0 = omega arith in
        let i = inner_at s text Variable 0 0 0 in
        let shown : Inner → Type 0 = λ j. refusal_behind 0 (behind_close whole j.close).ending ≡ refusal_behind n (behind_close text i.close).ending in
        subst (λ k. shown (inner_at s whole Variable 0 0 k)) (sym e) (subst shown (sym (inner_is_further s 0 0 0)) (refusal_stands i.close))
