-- A column counts characters.
use lib.Utf8.{encode, encodes}
use Rattle.std.proofs.Common.{◌≡◌, ℕ, suc, ◌+◌, ◌/◌, ◌%◌, ◌<◌, ◌≤◌, Bool, true, false, not, cond, List, [], ◌∷◌, ◌++◌, min, take, refl, ap, sym, ◌∙◌, arith, ltb, count_by, reverse, append-nil}
use Rattle.std.specs.List.{prefix_len}
use Rattle.std.specs.Str.{IsUtf8, IsCharBoundary, chars}
use Rattle.std.proofs.lemmas.Bool.{ltb-true, eqb-true, ne_eqb}
use Rattle.std.proofs.lemmas.Bool.Decides.{nat_tests}
use Rattle.std.proofs.lemmas.List.{reverse-append, reverse-reverse}
use Rattle.std.proofs.lemmas.Str.{IsUtf8-take, encodes-append, encodes-chars}
use Rattle.minijinja_syntax.specs.Texts.{Text}
use Rattle.minijinja_syntax.specs.Positions.{is_newline, is_lead, back_to_newline, column_after}
use Rattle.minijinja_lexer.specs.Columns.{chars_since_newline}
use Rattle.minijinja_lexer.proofs.Counting.{count_append, count_one}

-- the bytes that begin a character, back to the last newline
abbrev leads_back : Text → ℕ
leads_back backwards = count_by is_lead (back_to_newline backwards)

byte_more : (b : ℕ) (bs : Text) (t : Bool) → is_newline b ≡ false → is_lead b ≡ t → leads_back (b ∷ bs) ≡ cond t 1 0 + leads_back bs
byte_more b bs t p q =
    let n = prefix_len (λ b. not (is_newline b)) bs in
    let e : 1 + n ≡ suc n = omega arith in
    let more : count_by is_lead (take (1 + n) (b ∷ bs)) ≡ cond t 1 0 + count_by is_lead (take n bs) = rw e (count_append is_lead (b ∷ []) (take n bs) ∙ ap (λ k. k + count_by is_lead (take n bs)) (count_one is_lead b ∙ ap (λ v. cond v 1 0) q)) in
    ap (λ u. count_by is_lead (take (cond (not u) (1 + n) 0) (b ∷ bs))) p ∙ more

no_newline : (b : ℕ) → 128 ≤ b → is_newline b ≡ false
no_newline b h = ne_eqb b 10 (λ e. absurd (omega (arith, e)))

low_lead : (b : ℕ) → b < 128 → is_lead b ≡ true
low_lead b h = grind (arith, nat_tests)

high_lead : (b : ℕ) → 192 ≤ b → is_lead b ≡ true
high_lead b h = grind (arith, nat_tests)

no_lead : (b : ℕ) → 128 ≤ b → b < 192 → is_lead b ≡ false
no_lead b h g = grind (arith, nat_tests)

tail_none : (x : ℕ) (bs : Text) → leads_back ((128 + x % 64) ∷ bs) ≡ leads_back bs
tail_none x bs = let e = byte_more (128 + x % 64) bs false (no_newline (128 + x % 64) (omega arith)) (no_lead (128 + x % 64) (omega arith) (omega arith)) in omega (arith, e)

head_one : (b : ℕ) (bs : Text) → 192 ≤ b → leads_back (b ∷ bs) ≡ suc (leads_back bs)
head_one b bs h = let e = byte_more b bs true (no_newline b (omega arith)) (high_lead b h) in omega (arith, e)

-- a character that is no newline is one more
char_more : (c : ℕ) (bs : Text) → is_newline c ≡ false → leads_back (reverse (encode c) ++ bs) ≡ suc (leads_back bs)
unfolding encode
char_more c bs p = either (ltb c 128) refl (ltb c 2048) (ltb c 65536)
  where
    either : (t : Bool) → ltb c 128 ≡ t → (u v : Bool) → leads_back (reverse (cond t (c ∷ []) (cond u ((192 + c / 64) ∷ (128 + c % 64) ∷ []) (cond v ((224 + c / 4096) ∷ (128 + c / 64 % 64) ∷ (128 + c % 64) ∷ []) ((240 + c / 262144) ∷ (128 + c / 4096 % 64) ∷ (128 + c / 64 % 64) ∷ (128 + c % 64) ∷ [])))) ++ bs) ≡ suc (leads_back bs)
    either true e u v = let k = byte_more c bs true p (low_lead c (ltb-true c 128 e)) in omega (arith, k)
    either false e true v = tail_none c ((192 + c / 64) ∷ bs) ∙ head_one (192 + c / 64) bs (omega arith)
    either false e false true = tail_none c ((128 + c / 64 % 64) ∷ (224 + c / 4096) ∷ bs) ∙ tail_none (c / 64) ((224 + c / 4096) ∷ bs) ∙ head_one (224 + c / 4096) bs (omega arith)
    either false e false false =
        tail_none c ((128 + c / 64 % 64) ∷ (128 + c / 4096 % 64) ∷ (240 + c / 262144) ∷ bs) ∙ tail_none (c / 64) ((128 + c / 4096 % 64) ∷ (240 + c / 262144) ∷ bs)
        ∙ tail_none (c / 4096) ((240 + c / 262144) ∷ bs) ∙ head_one (240 + c / 262144) bs (omega arith)

-- and a newline begins anew
newline_none : (c : ℕ) (bs : Text) → is_newline c ≡ true → leads_back (reverse (encode c) ++ bs) ≡ 0
unfolding encode
newline_none c bs e = ap (λ x. leads_back (reverse (encode x) ++ bs)) (eqb-true c 10 e)

char_counts : (c : ℕ) (bs : Text) (n : ℕ) (t : Bool) → is_newline c ≡ t → leads_back bs ≡ n → leads_back (reverse (encode c) ++ bs) ≡ cond (not t) (1 + n) 0
char_counts c bs n true e h = newline_none c bs e
char_counts c bs n false e h = let k = char_more c bs e in omega (arith, k, h)

chars_back : (cs : List ℕ) → leads_back (reverse (encodes (reverse cs))) ≡ prefix_len (λ c. not (is_newline c)) cs
chars_back [] = refl
chars_back (c ∷ cs) =
    let rest = reverse (encodes (reverse cs)) in
    let e : reverse (encodes (reverse (c ∷ cs))) ≡ reverse (encode c) ++ rest =
    ap (λ l. reverse (encodes l)) (reverse-append (c ∷ []) cs) ∙ ap reverse (encodes-append (reverse cs) (c ∷ []) ∙ ap (λ l. encodes (reverse cs) ++ l) (append-nil (encode c))) ∙ reverse-append (encodes (reverse cs)) (encode c) in
    ap leads_back e ∙ char_counts c rest _ (is_newline c) refl (chars_back cs)

leads_are_chars : (text : Text) → IsUtf8 text → leads_back (reverse text) ≡ chars_since_newline text
leads_are_chars text u =
    ap (λ t. leads_back (reverse t)) (sym (encodes-chars text u)) ∙ ap (λ l. leads_back (reverse (encodes l))) (sym (reverse-reverse (chars text))) ∙ chars_back (reverse (chars text))

pub column_is : (text : Text) (at : ℕ) → IsUtf8 text → IsCharBoundary text at → column_after (take at text) ≡ min 65535 (chars_since_newline (take at text))
column_is text at u b = ap (min 65535) (leads_are_chars (take at text) (IsUtf8-take text at u b))
