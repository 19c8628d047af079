-- A token takes bytes, and the inside of a string with escapes means something.
use Rattle.std.proofs.Common.{lit<, ◌≡◌, ℕ, ◌+◌, ◌-◌, ◌<◌, ◌^◌, Bool, true, false, cond, List, [], ◌∷◌, ◌==◌, length, take, drop, refl, ap, sym, ◌∙◌, arith, subst, Option, Some, None, Result, Ok, Err}
use Rattle.std.specs.Prelude.{IsSome, is_some, nat_lt, not, ◌||◌, ◌&&◌, slice_index}
use Rattle.std.specs.Str.{chars}
use Rattle.std.specs.Char.{is_ascii_digit, is_ascii_hexdigit, len_utf8}
use Rattle.std.proofs.lemmas.List.{drop-drop}
use Rattle.std.proofs.lemmas.Str.{len_utf8_bounds}
use Rattle.unicode_ident.specs.Ident.{is_xid_start, is_xid_continue}
use Rattle.unicode_ident.proofs.IdentLemmas.{is_xid_start-is_xid_continue}
use Rattle.minijinja_syntax.specs.Texts.{Text}
use Rattle.minijinja_syntax.specs.Positions.{slice}
use Rattle.minijinja_lexer.specs.Symbols.{symbol_front, long_symbol, short_symbol, longer_symbol}
use Rattle.minijinja_lexer.specs.Names.{name_len, begins_name, starts_name, continues_name}
use Rattle.minijinja_lexer.specs.Escapes.{unescaped}
use Rattle.minijinja_lexer.specs.Quoted.{is_quote, quoted, quoted_len, quoted_inside, has_escapes}
use Rattle.minijinja_lexer.specs.Numbers.{number, number_len, radix_at, prefix_size, is_taken, taken_len, taken_value, reads_as_float, with_length}
use Rattle.minijinja_lexer.specs.TokenAt.{token_at, token_front, symbol_or, word_front, integer, int_sort, is_behind_dot, placed}
use Rattle.minijinja_lexer.specs.Symbols.{Symbol}
use Rattle.minijinja_lexer.specs.Sorts.{Sort}
use Rattle.minijinja_lexer.specs.Sorts as sort
use Rattle.minijinja_lexer.specs.Faults.{LexFault, FloatLiteral}

-- the inside of such a string means something
abbrev pub Means : Text → ℕ → Sort → Type 0
Means text n sort.String = is_some (unescaped (take (n - 2) (drop 1 text))) ≡ true
Means text n _ = Unit {0}

pub Good : Text → Result (Sort × ℕ) (LexFault × ℕ) → Type 0
Good text (Ok r) = (0 < r.1) × Means text r.1 r.0
Good text (Err f) = Unit {0}

choose : (text : Text) (b : Bool) (x y : Result (Sort × ℕ) (LexFault × ℕ)) → (b ≡ true → Good text x) → (b ≡ false → Good text y) → Good text (cond b x y)
choose text true x y f g = f refl
choose text false x y f g = g refl

-- ---- names

starts_continues : (c : ℕ) → starts_name c ≡ true → continues_name c ≡ true
starts_continues c h = either (is_xid_start c) refl h
  where
    either : (x : Bool) → is_xid_start c ≡ x → (x || (c == 95)) ≡ true → continues_name c ≡ true
    either true e h = ap (λ t. t || (c == 95)) (is_xid_start-is_xid_continue c e)
    either false e h = other (is_xid_continue c) (c == 95) h
      where
        other : (a b : Bool) → b ≡ true → (a || b) ≡ true
        other true b e = refl
        other false b e = e

name_some : (cs : List ℕ) → begins_name cs ≡ true → 0 < name_len cs
name_some [] h = let e : false ≡ true = h in cc
name_some (c ∷ cs) h =
    let e : name_len (c ∷ cs) ≡ len_utf8 c + name_len cs = ap (λ t. cond t (len_utf8 c + name_len cs) 0) (starts_continues c h) in
    let b = len_utf8_bounds c in omega (arith, e, b.0)

-- ---- strings

inside_good : (text inside : Text) (n : ℕ) → inside ≡ take n (drop 1 text) → Good text (quoted_inside inside n)
unfolding Good
inside_good text inside n e =
    choose text (not (has_escapes inside)) _ _ (λ _. (omega arith, tt)) (λ _.
    choose text (is_some (unescaped inside)) _ _
    (λ h. let f : n + 2 - 2 ≡ n = omega arith in (omega arith, ap (λ m. is_some (unescaped (take m (drop 1 text)))) f ∙ ap (λ t. is_some (unescaped t)) (sym e) ∙ h))
    (λ _. tt))

quoted_good : (text : Text) → Good text (quoted text)
unfolding Good quoted
quoted_good text =
    let n = quoted_len (slice_index text 0) (drop 1 text) in
    choose text (nat_lt n (length (drop 1 text))) _ _ (λ _. inside_good text (take n (drop 1 text)) n refl) (λ _. tt)

-- ---- numbers

taken_some : (radix : ℕ) (text : Text) → is_ascii_digit (slice_index text 0) ≡ true → 0 < taken_len radix text
taken_some radix [] h = let e : false ≡ true = h in cc
taken_some radix (b ∷ bs) h =
    let t : is_taken radix b ≡ true = ap (λ t. t || b == 95 || (radix == 16 && is_ascii_hexdigit b)) h in
    let e : taken_len radix (b ∷ bs) ≡ 1 + taken_len radix bs = ap (λ t. cond t (1 + taken_len radix bs) 0) t in
    omega (arith, e)

number_some : (text : Text) → is_ascii_digit (slice_index text 0) ≡ true → 0 < number_len text
number_some text h = either (radix_at text == 10) refl
  where
    either : (t : Bool) → (radix_at text == 10) ≡ t → 0 < number_len text
    either true e =
        let f : number_len text ≡ 0 + taken_len (radix_at text) text = ap (λ t. cond t 0 2 + taken_len (radix_at text) (drop (cond t 0 2) text)) e in
        let some = taken_some (radix_at text) text h in omega (arith, f, some)
    either false e =
        let f : number_len text ≡ 2 + taken_len (radix_at text) (drop 2 text) = ap (λ t. cond t 0 2 + taken_len (radix_at text) (drop (cond t 0 2) text)) e in
        omega (arith, f)

sort_good : (text : Text) (value n : ℕ) → 0 < n → Good text (Ok (int_sort value, n))
unfolding Good
sort_good text value n h = either (nat_lt value (2 ^ 64))
  where
    either : (t : Bool) → (0 < n) × Means text n (cond t (sort.Int value) (sort.Int128 value))
    either true = (h, tt)
    either false = (h, tt)

length_good : (text : Text) (n : ℕ) (v : Result ℕ LexFault) → 0 < n → Good text (integer (with_length n v))
unfolding Good
length_good text n (Ok value) h = sort_good text value n h
length_good text n (Err f) h = tt

number_good : (behind_dot : Bool) (text : Text) → is_ascii_digit (slice_index text 0) ≡ true → Good text (integer (number behind_dot text))
unfolding number Good
number_good behind_dot text h = by_float ((radix_at text == 10) && reads_as_float behind_dot (drop (number_len text) text))
  where
    by_float : (t : Bool) → Good text (integer (cond t (Err (FloatLiteral, number_len text)) (with_length (number_len text) (taken_value (radix_at text) (slice text (prefix_size (radix_at text)) (number_len text))))))
    by_float true = tt
    by_float false = length_good text (number_len text) _ (number_some text h)

-- ---- tokens

word_good : (behind_dot : Bool) (text : Text) → Good text (word_front behind_dot text)
unfolding Good
word_good behind_dot text =
    choose text (is_quote (slice_index text 0)) _ _ (λ _. quoted_good text) (λ _.
    choose text (is_ascii_digit (slice_index text 0)) _ _ (λ h. number_good behind_dot text h) (λ _.
    choose text (begins_name (chars text)) _ _ (λ h. (name_some (chars text) h, tt)) (λ _. tt)))

or_good : (text : Text) (x y : Option Symbol) (r : Result (Sort × ℕ) (LexFault × ℕ)) → Good text r → Good text (symbol_or (longer_symbol x y) r)
unfolding Good
or_good text (Some a) y r h = (lit< tt, tt)
or_good text None (Some b) r h = (lit< tt, tt)
or_good text None None r h = h

front_good : (behind_dot : Bool) (text : Text) → Good text (token_front behind_dot text)
unfolding token_front symbol_front
front_good behind_dot text = or_good text (long_symbol (slice_index text 0) (slice_index text 1)) (short_symbol (slice_index text 0)) (word_front behind_dot text) (word_good behind_dot text)

-- a token at a place
pub record IsToken (text : Text) (at stop : ℕ) (s : Sort) : Type 0 where
  pub some : at < stop
  pub means : Means (drop at text) (stop - at) s

pub IsTokenAt : Text → ℕ → Result (Sort × ℕ) (LexFault × ℕ) → Type 0
IsTokenAt text at (Ok r) = IsToken text at r.1 r.0
IsTokenAt text at (Err f) = Unit {0}

place_good : (text : Text) (at : ℕ) (r : Result (Sort × ℕ) (LexFault × ℕ)) → Good (drop at text) r → IsTokenAt text at (placed at r)
unfolding Good IsTokenAt
place_good text at (Ok r) h = let e : at + r.1 - at ≡ r.1 = omega arith in record { some = omega arith; means = subst (λ n. Means (drop at text) n r.0) (sym e) h.1 }
place_good text at (Err f) h = tt

pub token_good : (text : Text) (at : ℕ) → IsTokenAt text at (token_at text at)
unfolding token_at
token_good text at = place_good text at (token_front (is_behind_dot text at) (drop at text)) (front_good (is_behind_dot text at) (drop at text))

pub token_is : (text : Text) (at stop : ℕ) (s : Sort) → token_at text at ≡ Ok (s, stop) → IsToken text at stop s
unfolding IsTokenAt
token_is text at stop s e = subst (IsTokenAt text at) e (token_good text at)

pub string_means : (text : Text) (at stop : ℕ) → token_at text at ≡ Ok (sort.String, stop) → is_some (unescaped (slice text (at + 1) (stop - 1))) ≡ true
string_means text at stop e =
    let t = token_is text at stop sort.String e in
    let f : stop - 1 - (at + 1) ≡ stop - at - 2 = omega arith in
    let g : drop 1 (drop at text) ≡ drop (at + 1) text = drop-drop 1 at text in
    ap (λ n. is_some (unescaped (take n (drop (at + 1) text)))) f ∙ ap (λ x. is_some (unescaped (take (stop - at - 2) x))) (sym g) ∙ t.means

pub some_is : {X : Type 0} (x : Option X) → is_some x ≡ true → IsSome x
some_is None h = h
some_is (Some a) h = h
