-- Lines and columns after a whole stretch.
use Rattle.std.proofs.Common.{◌≡◌, ℕ, zero, suc, ◌+◌, ◌-◌, ◌<◌, ◌≤◌, Bool, true, false, cond, [], ◌∷◌, ◌++◌, length, take, drop, get_or, min, refl, ap, sym, ◌∙◌, arith, append_assoc, count_by, get_or-drop, length-drop, Some, None, ⊎_elim}
use Rattle.std.specs.Prelude.{◌||◌, not, nat_lt}
use Rattle.std.specs.Str.{IsAscii}
use Rattle.std.proofs.lemmas.Bool.{cases_Bool, lt-ltb}
use Rattle.std.proofs.lemmas.List.{append-nil, take-append-drop, take_more}
use Rattle.memchr.specs.Find.{IsLastByte, is_byte, places}
use Rattle.memchr.proofs.lemmas.CallerLemmas.{length-places}
use Rattle.minijinja_syntax.specs.Texts.{Text}
use Rattle.minijinja_syntax.specs.Positions.{is_newline, is_lead, line_after, column_after}
use Rattle.minijinja_lexer.proofs.Counting.{count_append, count_one, column_more}

take_none : (n : ℕ) → let none : Text = [] in take n none ≡ []
take_none zero = refl
take_none (suc n) = refl

take_plus : (at n : ℕ) (text : Text) → take (at + n) text ≡ take at text ++ take n (drop at text)
take_plus zero n text = let e : 0 + n ≡ n = omega arith in ap (λ k. take k text) e
take_plus (suc at) n [] = take_none (suc at + n) ∙ sym (take_none n)
take_plus (suc at) n (b ∷ bs) = let e : suc at + n ≡ suc (at + n) = omega arith in ap (λ k. take k (b ∷ bs)) e ∙ ap (λ t. b ∷ t) (take_plus at n bs)

-- what stands from a place to another
abbrev pub between : (at to : ℕ) → Text → Text
between at to text = take (to - at) (drop at text)

take_to : (at to : ℕ) (text : Text) → at ≤ to → take to text ≡ take at text ++ between at to text
take_to at to text h = let e : to ≡ at + (to - at) = omega arith in ap (λ k. take k text) e ∙ take_plus at (to - at) text

count_cons : (p : ℕ → Bool) (b : ℕ) (bs : Text) → count_by p (b ∷ bs) ≡ cond (p b) 1 0 + count_by p bs
count_cons p b bs = count_append p (b ∷ []) bs ∙ ap (λ k. k + count_by p bs) (count_one p b)

-- as many lines on as newlines stand in the stretch
line-stretch : (before stretch : Text) → line_after (before ++ stretch) ≡ min 65535 (line_after before + count_by is_newline stretch)
line-stretch before stretch = rw (count_append is_newline before stretch) (counts (count_by is_newline before) (count_by is_newline stretch))
  where
    counts : (m n : ℕ) → min 65535 (1 + (m + n)) ≡ min 65535 (min 65535 (1 + m) + n)
    counts m n = omega arith

pub line_moved : (text : Text) (at to line count r : ℕ) → at ≤ to → line ≡ line_after (take at text) → count ≡ length (places (is_byte 10) (between at to text)) → r ≡ min 65535 (line + count) → r ≡ line_after (take to text)
line_moved text at to line count r h l n e =
    e ∙ ap (λ k. min 65535 (k + count)) l ∙ ap (λ k. min 65535 (line_after (take at text) + k)) (n ∙ length-places (is_byte 10) (between at to text))
    ∙ sym (line-stretch (take at text) (between at to text)) ∙ ap line_after (sym (take_to at to text h))

-- a character begins with each ASCII byte
pub ascii_leads : (bs : Text) → IsAscii bs → length bs ≡ count_by is_lead bs
ascii_leads [] h = refl
ascii_leads (b ∷ bs) h =
    let rest = ascii_leads bs (λ i. h (suc i)) in
    let first : is_lead b ≡ true = ap (λ t. t || not (nat_lt b 192)) (lt-ltb b 128 (h 0)) in
    let cons = count_cons is_lead b bs ∙ ap (λ t. cond t 1 0 + count_by is_lead bs) first in
    omega (arith, rest, cons)

-- no newline stands in it
abbrev NoNewline : Text → Type 0
NoNewline stretch = (k : ℕ) → k < length stretch → is_newline (get_or stretch k 0) ≡ false

no_newline_rest : (b : ℕ) (bs : Text) → NoNewline (b ∷ bs) → NoNewline bs
no_newline_rest b bs h k l = h (suc k) (omega (arith, l))

no_newlines : (bs : Text) → NoNewline bs → count_by is_newline bs ≡ 0
no_newlines [] h = refl
no_newlines (b ∷ bs) h =
    let rest = no_newlines bs (no_newline_rest b bs h) in
    let first : is_newline b ≡ false = h 0 (omega arith) in
    count_cons is_newline b bs ∙ ap (λ t. cond t 1 0 + count_by is_newline bs) first ∙ omega (arith, rest)

-- as many columns on as characters begin there
column-stretch : (before stretch : Text) → NoNewline stretch → column_after (before ++ stretch) ≡ min 65535 (column_after before + count_by is_lead stretch)
column-stretch before [] none = ap column_after (append-nil before) ∙ stays (column_after before) (omega arith)
  where
    stays : (m : ℕ) → m ≤ 65535 → m ≡ min 65535 (m + 0)
    stays m h = omega arith
column-stretch before (b ∷ bs) none =
    let first : is_newline b ≡ false = none 0 (omega arith) in
    ap column_after (sym (append_assoc before (b ∷ []) bs)) ∙ column-stretch (before ++ b ∷ []) bs (no_newline_rest b bs none)
    ∙ ap (λ m. min 65535 (m + count_by is_lead bs)) (column_more before b ∙ ap (λ t. cond t 0 (cond (is_lead b) (min 65535 (column_after before + 1)) (column_after before))) first)
    ∙ counts (column_after before) (count_by is_lead bs) (is_lead b) ∙ ap (λ n. min 65535 (column_after before + n)) (sym (count_cons is_lead b bs))
  where
    counts : (m n : ℕ) (t : Bool) → min 65535 (cond t (min 65535 (m + 1)) m + n) ≡ min 65535 (m + (cond t 1 0 + n))
    counts m n true = omega arith
    counts m n false = omega arith

pub line_stays : (text : Text) (at to line : ℕ) → at ≤ to → line ≡ line_after (take at text) → IsLastByte (is_byte 10) (between at to text) None → line ≡ line_after (take to text)
line_stays text at to line h l none =
    let stretch : Text = between at to text in
    let no : NoNewline stretch = λ k w. ⊎_elim (λ t. absurd (none k (omega arith) w t)) (λ f. f) (cases_Bool (is_newline (get_or stretch k 0))) in
    l ∙ stays (line_after (take at text)) (omega arith) ∙ ap (λ n. min 65535 (line_after (take at text) + n)) (sym (no_newlines stretch no))
    ∙ sym (line-stretch (take at text) stretch) ∙ ap line_after (sym (take_to at to text h))
  where
    stays : (m : ℕ) → m ≤ 65535 → m ≡ min 65535 (m + 0)
    stays m h = omega arith

pub column_moved : (text : Text) (at to column r : ℕ) → at ≤ to → column ≡ column_after (take at text) → IsLastByte (is_byte 10) (between at to text) None → r ≡ min 65535 (column + count_by is_lead (between at to text)) → r ≡ column_after (take to text)
column_moved text at to column r h l none e =
    let stretch : Text = between at to text in
    let no : NoNewline stretch = λ k w. ⊎_elim (λ t. absurd (none k (omega arith) w t)) (λ f. f) (cases_Bool (is_newline (get_or stretch k 0))) in
    e ∙ ap (λ m. min 65535 (m + count_by is_lead stretch)) l ∙ sym (column-stretch (take at text) stretch no) ∙ ap column_after (sym (take_to at to text h))

-- after the last newline columns count anew
pub column_restarts : (text rest : Text) (at to last r : ℕ) → at ≤ to → rest ≡ drop (last + 1) (between at to text) → IsLastByte (is_byte 10) (between at to text) (Some last) → r ≡ min 65535 (0 + count_by is_lead rest) → r ≡ column_after (take to text)
column_restarts text rest at to last r h there is e =
    let stretch : Text = between at to text in
    let before : Text = take at text ++ take last stretch in
    let within : last < length stretch = is.0.high in
    let newline : is_newline (get_or stretch last 0) ≡ true = is.1 in
    let no : NoNewline rest = λ k w.
    let l = ap length there ∙ length-drop (last + 1) stretch in
    let byte : get_or rest k 0 ≡ get_or stretch (last + 1 + k) 0 = ap (λ x. get_or x k 0) there ∙ get_or-drop (last + 1) stretch k 0 in
    ⊎_elim (λ t. absurd (is.0.after (last + 1 + k) (omega arith) (omega (arith, w, l)) (ap is_newline (sym byte) ∙ t))) (λ f. f) (cases_Bool (is_newline (get_or rest k 0))) in
    let parts : take to text ≡ (before ++ get_or stretch last 0 ∷ []) ++ rest =
    take_to at to text h
    ∙ ap (λ t. take at text ++ t) (sym (take-append-drop (last + 1) stretch) ∙ ap (λ t. t ++ drop (last + 1) stretch) (take_more stretch last 0 within))
    ∙ sym (append_assoc (take at text) (take last stretch ++ get_or stretch last 0 ∷ []) (drop (last + 1) stretch))
    ∙ ap (λ t. t ++ drop (last + 1) stretch) (sym (append_assoc (take at text) (take last stretch) (get_or stretch last 0 ∷ [])))
    ∙ ap (λ t. (before ++ get_or stretch last 0 ∷ []) ++ t) (sym there) in
    let zero_column : column_after (before ++ get_or stretch last 0 ∷ []) ≡ 0 =
    column_more before (get_or stretch last 0) ∙ ap (λ t. cond t 0 (cond (is_lead (get_or stretch last 0)) (min 65535 (column_after before + 1)) (column_after before))) newline in
    e ∙ ap (λ n. min 65535 (n + count_by is_lead rest)) (sym zero_column) ∙ sym (column-stretch (before ++ get_or stretch last 0 ∷ []) rest no) ∙ ap column_after (sym parts)
