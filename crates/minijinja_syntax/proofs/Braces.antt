-- Which bytes a marker begins with, of any syntax and by default.
use Rattle.std.proofs.Common.{◌≡◌, ℕ, zero, suc, ◌+◌, ◌<◌, ◌≤◌, Bool, true, false, List, [], ◌∷◌, length, take, drop, get_or, refl, ap, sym, ◌∙◌, arith, subst, Option, Some, None, ⊎_elim, lit≤, lit<, eq-eqb, take_all, length-drop, ◌-◌}
use Rattle.std.specs.Prelude.{◌≢◌, ◌||◌, ◌&&◌, ◌==◌, nat_lt, is_some, All, IfSome}
use Rattle.std.proofs.lemmas.Bool.{cases_Bool, cond_both, eqb-true, eqb-false}
use Rattle.std.proofs.lemmas.List.{get_or-drop}
use Rattle.std.proofs.Math.Seq.{take-append_seam}
use Rattle.std.proofs.lemmas.List.Prefix.{at_reads, at_from_reads}
use lib.Pointwise.{bytes_decides}
use Rattle.std.specs.Str.{IsUtf8, IsAscii}
use Rattle.std.proofs.lemmas.Str.{IsUtf8-nil, IsUtf8-from_ascii}
use Rattle.memchr.specs.Find.{NoneBefore, Nowhere, Passes, is_byte}
use Rattle.minijinja_syntax.specs.Texts.{Text}
use Rattle.minijinja_syntax.specs.Syntax.{Syntax, start_of, IsBuildable, IsDelimited, default_syntax}
use Rattle.minijinja_syntax.specs.Markers.{stands, is_eligible, marker_at, next_marker, found_marker, IsMarkerAt, FindsMarker, IsMarkerPlace}
use Rattle.minijinja_syntax.specs.private.DefaultStarts.{HasDefaultStarts, braced_marker}
use Rattle.minijinja_syntax.specs.private.FirstBytes.{first_bytes, is_first_byte}
use Rattle.minijinja_syntax.specs.declared.syntax.StartMarker.{StartMarker}
use Rattle.minijinja_syntax.specs.declared.syntax.StartMarker.TheVariants.{Variable, Block, Comment, LineStatement, LineComment}
use Rattle.minijinja_syntax.proofs.Delimiters.{stands_front, stands_within, start_boundary, end_boundary}
use Rattle.minijinja_syntax.proofs.Markers.{AtMarker, marker_holds, eligible_some, eligible_stands, marker_is, no_marker_is}
use Rattle.minijinja_syntax.proofs.Finding.{found_here}
use Rattle.minijinja_syntax.proofs.Walking.{next_marker-on}

-- the bytes of a delimiter that stands
stands_reads : (d text : Text) (at j : ℕ) → stands d text at ≡ true → j < length d → get_or text (at + j) 0 ≡ get_or d j 0
stands_reads d text at j h l = at_reads 0 text d at (drop (length d) (drop at text)) (stands_front d text at h) j l

-- a delimiter stands where its bytes do
stands_from : (d text : Text) (at : ℕ) → at + length d ≤ length text → ((i : ℕ) → i < length d → get_or text (at + i) 0 ≡ get_or d i 0) → stands d text at ≡ true
stands_from d text at within reads =
    let front = at_from_reads 0 text d at within reads in
    (bytes_decides d (take (length d) (drop at text))).1 (sym (ap (take (length d)) front ∙ take-append_seam d (drop (at + length d) text)))

none_eligible : (s : Syntax) (text : Text) (at : ℕ) → ((m : StartMarker) → is_eligible s text at m ≡ true → ⊥) → marker_at s text at ≡ None
none_eligible s text at h = no_marker_is s text at (λ m. ⊎_elim (λ (t : is_eligible s text at m ≡ true). absurd (h m t)) (λ f. f) (cases_Bool (is_eligible s text at m)))

-- ---- of any syntax

neither : (a b : Bool) → (a || b) ≡ false → (a ≡ false) × (b ≡ false)
neither true b h = let e : true ≡ false = h in cc
neither false b h = (refl, h)

eligible_first : (s : Syntax) (text : Text) (at : ℕ) (m : StartMarker) → is_eligible s text at m ≡ true → get_or text at 0 ≡ get_or (start_of s m) 0 0
eligible_first s text at m h =
    let z : at + 0 ≡ at = omega arith in
    rw z at (stands_reads (start_of s m) text at 0 (eligible_stands s text at m h) (eligible_some s text at m h))

apart_from : (b v k c s l : ℕ) → (b == v || b == k || b == c || b == s || b == l) ≡ false → (b ≢ v) × (b ≢ k) × (b ≢ c) × (b ≢ s) × (b ≢ l)
apart_from b v k c s l h =
    let four = neither (b == v || b == k || b == c || b == s) (b == l) h in
    let three = neither (b == v || b == k || b == c) (b == s) four.0 in
    let two = neither (b == v || b == k) (b == c) three.0 in
    let one = neither (b == v) (b == k) two.0 in
    (eqb-false b v one.0, eqb-false b k one.1, eqb-false b c two.1, eqb-false b s three.1, eqb-false b l four.1)

-- no marker begins at a byte that none begins with
pub marker_at-unmet : (s : Syntax) (text : Text) (at : ℕ) → is_first_byte (first_bytes s) (get_or text at 0) ≡ false → marker_at s text at ≡ None
marker_at-unmet s text at h = none_eligible s text at clash
  where
    clash : (m : StartMarker) → is_eligible s text at m ≡ true → ⊥
    clash Variable e = (apart_from _ _ _ _ _ _ h).0 (eligible_first s text at Variable e)
    clash Block e = (apart_from _ _ _ _ _ _ h).1 (eligible_first s text at Block e)
    clash Comment e = (apart_from _ _ _ _ _ _ h).2 (eligible_first s text at Comment e)
    clash LineStatement e = (apart_from _ _ _ _ _ _ h).3 (eligible_first s text at LineStatement e)
    clash LineComment e = (apart_from _ _ _ _ _ _ h).4 (eligible_first s text at LineComment e)

-- ---- by default

default_reads : (s : Syntax) (text : Text) (at : ℕ) (m : StartMarker) (j : ℕ) → HasDefaultStarts s → is_eligible s text at m ≡ true → j < length (start_of default_syntax m) → get_or text (at + j) 0 ≡ get_or (start_of default_syntax m) j 0
default_reads s text at m j h e l = stands_reads (start_of default_syntax m) text at j (subst (λ d. stands d text at ≡ true) (h.start m) (eligible_stands s text at m e)) l

default_some : (s : Syntax) (text : Text) (at : ℕ) (m : StartMarker) → HasDefaultStarts s → is_eligible s text at m ≡ true → 0 < length (start_of default_syntax m)
default_some s text at m h e = subst (λ d. 0 < length d) (h.start m) (eligible_some s text at m e)

default_first : (s : Syntax) (text : Text) (at : ℕ) (m : StartMarker) → HasDefaultStarts s → is_eligible s text at m ≡ true → get_or text at 0 ≡ 123
default_first s text at m h e = brace m (subst (λ n. get_or text n 0 ≡ get_or (start_of default_syntax m) 0 0) z (default_reads s text at m 0 h e (default_some s text at m h e))) (default_some s text at m h e)
  where
    z : at + 0 ≡ at
    z = omega arith

    brace : (m : StartMarker) → get_or text at 0 ≡ get_or (start_of default_syntax m) 0 0 → 0 < length (start_of default_syntax m) → get_or text at 0 ≡ 123
    brace Variable r some = r
    brace Block r some = r
    brace Comment r some = r
    brace LineStatement r some = absurd (omega (arith, some))
    brace LineComment r some = absurd (omega (arith, some))

-- no marker begins where no `{` stands
pub marker_at-no_brace : (s : Syntax) (text : Text) (at : ℕ) → HasDefaultStarts s → get_or text at 0 ≢ 123 → marker_at s text at ≡ None
marker_at-no_brace s text at h other = none_eligible s text at (λ m e. other (default_first s text at m h e))

-- nor at the last byte
pub marker_at-last : (s : Syntax) (text : Text) (at : ℕ) → HasDefaultStarts s → length text < at + 2 → marker_at s text at ≡ None
marker_at-last s text at h short = none_eligible s text at (λ m e. over m (default_some s text at m h e) (subst (λ d. at + length d ≤ length text) (h.start m) (stands_within (start_of s m) text at (eligible_some s text at m e) (eligible_stands s text at m e))))
  where
    over : (m : StartMarker) → 0 < length (start_of default_syntax m) → at + length (start_of default_syntax m) ≤ length text → ⊥
    over Variable some within = omega (arith, short, within)
    over Block some within = omega (arith, short, within)
    over Comment some within = omega (arith, short, within)
    over LineStatement some within = omega (arith, some)
    over LineComment some within = omega (arith, some)

-- what the marker of a byte after a `{` is
by_byte : (b : ℕ) (P : Option StartMarker → Type 0) → (b ≡ 123 → P (Some Variable)) → (b ≡ 37 → P (Some Block)) → (b ≡ 35 → P (Some Comment)) → (b ≢ 123 → b ≢ 37 → b ≢ 35 → P None) → P (braced_marker b)
by_byte b P v k c n =
    cond_both (b == 123) _ _ P (λ t. v (eqb-true b 123 t)) (λ f. cond_both (b == 37) _ _ P (λ t. k (eqb-true b 37 t)) (λ g. cond_both (b == 35) _ _ P (λ t. c (eqb-true b 35 t)) (λ i. n (eqb-false b 123 f) (eqb-false b 37 g) (eqb-false b 35 i))))

two_reads : (text : Text) (at a b : ℕ) → get_or text at 0 ≡ a → get_or text (at + 1) 0 ≡ b → (i : ℕ) → i < 2 → get_or text (at + i) 0 ≡ get_or (a ∷ b ∷ []) i 0
two_reads text at a b p q zero l = let z : at + 0 ≡ at = omega arith in rw z p
two_reads text at a b p q (suc zero) l = q
two_reads text at a b p q (suc (suc i)) l = absurd (omega (arith, l))

two_stand : (text : Text) (at a b : ℕ) → at + 1 < length text → get_or text at 0 ≡ a → get_or text (at + 1) 0 ≡ b → stands (a ∷ b ∷ []) text at ≡ true
two_stand text at a b l p q = stands_from (a ∷ b ∷ []) text at (omega (arith, l)) (two_reads text at a b p q)

default_eligible : (s : Syntax) (text : Text) (at : ℕ) (m : StartMarker) → HasDefaultStarts s → IsDelimited m → stands (start_of default_syntax m) text at ≡ true → is_eligible s text at m ≡ true
default_eligible s text at Variable h d t = ap (λ x. nat_lt 0 (length x) && stands x text at) (h.start Variable) ∙ t
default_eligible s text at Block h d t = ap (λ x. nat_lt 0 (length x) && stands x text at) (h.start Block) ∙ t
default_eligible s text at Comment h d t = ap (λ x. nat_lt 0 (length x) && stands x text at) (h.start Comment) ∙ t
default_eligible s text at LineStatement h d t = absurd d
default_eligible s text at LineComment h d t = absurd d

default_len : (m : StartMarker) → IsDelimited m → 2 ≤ length (start_of default_syntax m)
default_len Variable d = lit≤ tt
default_len Block d = lit≤ tt
default_len Comment d = lit≤ tt
default_len LineStatement d = absurd d
default_len LineComment d = absurd d

default_most : (m : StartMarker) → length (start_of default_syntax m) ≤ 2
default_most Variable = lit≤ tt
default_most Block = lit≤ tt
default_most Comment = lit≤ tt
default_most LineStatement = lit≤ tt
default_most LineComment = lit≤ tt

default_is : (s : Syntax) (text : Text) (at : ℕ) (m : StartMarker) → IsBuildable s → HasDefaultStarts s → IsDelimited m → stands (start_of default_syntax m) text at ≡ true → marker_at s text at ≡ Some m
default_is s text at m built h d t =
    let here : IsMarkerAt s text at m = record {
      eligible = default_eligible s text at m h d t;
      longest = λ n e. let p = ap length (h.start n) in let q = ap length (h.start m) in let most = default_most n in let least = default_len m d in omega (arith, p, q, most, least);
    } in
    marker_is s text at m built here

-- the byte after a `{` tells the marker
pub marker_at-brace : (s : Syntax) (text : Text) (at : ℕ) → IsBuildable s → HasDefaultStarts s → at + 1 < length text → get_or text at 0 ≡ 123 → braced_marker (get_or text (at + 1) 0) ≡ marker_at s text at
marker_at-brace s text at built h l brace =
    by_byte (get_or text (at + 1) 0) (λ x. x ≡ marker_at s text at)
    (λ e. sym (default_is s text at Variable built h tt (two_stand text at 123 123 l brace e)))
    (λ e. sym (default_is s text at Block built h tt (two_stand text at 123 37 l brace e)))
    (λ e. sym (default_is s text at Comment built h tt (two_stand text at 123 35 l brace e)))
    (λ v k c. sym (none_eligible s text at (λ m e. other m v k c (default_some s text at m h e) (λ d. default_reads s text at m 1 h e (default_len m d)))))
  where
    other : (m : StartMarker) → get_or text (at + 1) 0 ≢ 123 → get_or text (at + 1) 0 ≢ 37 → get_or text (at + 1) 0 ≢ 35 → 0 < length (start_of default_syntax m) → (IsDelimited m → get_or text (at + 1) 0 ≡ get_or (start_of default_syntax m) 1 0) → ⊥
    other Variable v k c some r = v (r tt)
    other Block v k c some r = k (r tt)
    other Comment v k c some r = c (r tt)
    other LineStatement v k c some r = omega (arith, some)
    other LineComment v k c some r = omega (arith, some)

-- places where no marker begins are passed over
next_marker-past : (s : Syntax) (text : Text) (at n : ℕ) → at + n ≤ length text → ((k : ℕ) → k < n → marker_at s text (at + k) ≡ None) → next_marker s text at ≡ next_marker s text (at + n)
next_marker-past s text at zero within none = let z : at + 0 ≡ at = omega arith in rw z refl
next_marker-past s text at (suc n) within none =
    let e : at + n + 1 ≡ at + suc n = omega arith in
    next_marker-past s text at n (omega (arith, within)) (λ k l. none k (omega (arith, l)))
    ∙ next_marker-on s text (at + n) (omega (arith, within)) (ap is_some (none n (omega arith)))
    ∙ ap (next_marker s text) e

-- and so are the places before the next `{`
next_marker-before_brace : (s : Syntax) (text : Text) (at n : ℕ) → HasDefaultStarts s → at + n ≤ length text → Nowhere (Passes (is_byte 123) (drop at text)) 0 n → next_marker s text at ≡ next_marker s text (at + n)
next_marker-before_brace s text at n h within none =
    next_marker-past s text at n within
    (λ k l. marker_at-no_brace s text (at + k) h (λ e. none k (omega arith) l (eq-eqb _ 123 (get_or-drop at text k 0 ∙ e))))

-- the text from a place on, as code slices it
abbrev rest_of : Text → ℕ → Text
rest_of text at = take (length text - at) (drop at text)

rest_is : (text : Text) (at : ℕ) → rest_of text at ≡ drop at text
rest_is text at = let l = length-drop at text in take_all _ _ (omega (arith, l))

pub next_brace-within : (text : Text) (at ahead : ℕ) → ahead < length (rest_of text at) → at + ahead < length text
next_brace-within text at ahead high = let l = ap length (rest_is text at) ∙ length-drop at text in omega (arith, l, high)

-- the next marker is at or after the place that a search for `{` finds, which is within the text
pub next_marker-to_brace : (s : Syntax) (text : Text) (at ahead : ℕ) → HasDefaultStarts s → at ≤ length text → NoneBefore (Passes (is_byte 123) (rest_of text at)) 0 (length (rest_of text at)) ahead → next_marker s text at ≡ next_marker s text (at + ahead)
next_marker-to_brace s text at ahead h within found =
    let l = next_brace-within text at ahead found.high in
    next_marker-before_brace s text at ahead h (omega (arith, l)) (subst (λ t. Nowhere (Passes (is_byte 123) t) 0 ahead) (rest_is text at) found.before)

-- there is none where no `{` is found
pub next_marker-without_brace : (s : Syntax) (text : Text) (at : ℕ) → HasDefaultStarts s → at ≤ length text → Nowhere (Passes (is_byte 123) (rest_of text at)) 0 (length (rest_of text at)) → next_marker s text (length text) ≡ next_marker s text at
next_marker-without_brace s text at h within none =
    let l = ap length (rest_is text at) ∙ length-drop at text in
    let e : at + length (rest_of text at) ≡ length text = omega (arith, l, within) in
    sym (next_marker-before_brace s text at (length (rest_of text at)) h (omega (arith, e)) (subst (λ t. Nowhere (Passes (is_byte 123) t) 0 (length (rest_of text at))) (rest_is text at) none) ∙ ap (next_marker s text) e)

-- each marker that is found has two bytes
start-default : (s : Syntax) (text : Text) (at : ℕ) (m : StartMarker) → HasDefaultStarts s → marker_at s text at ≡ Some m → length (start_of s m) ≡ 2
unfolding AtMarker
start-default s text at m h e = ap length (h.start m) ∙ two m (default_some s text at m h is_m.eligible)
  where
    is_m : IsMarkerAt s text at m
    is_m = subst (AtMarker s text at) e (marker_holds s text at)

    two : (m : StartMarker) → 0 < length (start_of default_syntax m) → length (start_of default_syntax m) ≡ 2
    two Variable some = refl
    two Block some = refl
    two Comment some = refl
    two LineStatement some = absurd (omega (arith, some))
    two LineComment some = absurd (omega (arith, some))

pub found_default : (s : Syntax) (text : Text) (offset place : ℕ) (m : StartMarker) → HasDefaultStarts s → next_marker s text place ≡ next_marker s text offset → Some m ≡ marker_at s text place → Some (place - offset, m, 2) ≡ found_marker s text offset
found_default s text offset place m h same e =
    ap (λ n. Some (place - offset, m, n)) (sym (start-default s text place m h (sym e)))
    ∙ sym (found_here s text offset place m same e)

two_ascii : (a b : ℕ) → a < 128 → b < 128 → IsAscii (a ∷ b ∷ [])
two_ascii a b p q zero = p
two_ascii a b p q (suc zero) = q
two_ascii a b p q (suc (suc i)) = lit< tt

default_utf8 : (m : StartMarker) → IsUtf8 (start_of default_syntax m)
default_utf8 Variable = IsUtf8-from_ascii _ (two_ascii _ _ (lit< tt) (lit< tt))
default_utf8 Block = IsUtf8-from_ascii _ (two_ascii _ _ (lit< tt) (lit< tt))
default_utf8 Comment = IsUtf8-from_ascii _ (two_ascii _ _ (lit< tt) (lit< tt))
default_utf8 LineStatement = IsUtf8-nil
default_utf8 LineComment = IsUtf8-nil

-- a text may be cut before and after such a marker
pub place-default : (s : Syntax) (text : Text) (offset : ℕ) (r : Option (ℕ × StartMarker × ℕ)) → HasDefaultStarts s → IsUtf8 text → FindsMarker s text offset r → IfSome r (λ f. IsMarkerPlace s text (offset + f.0) f.1)
place-default s text offset None h u f = tt
place-default s text offset (Some found) h u f =
    let m : StartMarker = found.1 in
    let at : ℕ = offset + found.0 in
    let some = eligible_some s text at m f.0.eligible in
    let on = eligible_stands s text at m f.0.eligible in
    let ascii : IsUtf8 (start_of s m) = subst IsUtf8 (sym (h.start m)) (default_utf8 m) in
    let within : at ≤ length text = let l = stands_within (start_of s m) text at some on in omega (arith, l) in
    record { start = start_boundary (start_of s m) text at ascii some within on; stop = end_boundary (start_of s m) text at ascii u some within on }

-- the starts of a syntax, compared one by one
abbrev pub markers : List StartMarker
markers = Variable ∷ Block ∷ Comment ∷ LineStatement ∷ LineComment ∷ []

pub default_from_all : (s : Syntax) → All (λ (m : StartMarker). start_of s m ≡ start_of default_syntax m) markers → HasDefaultStarts s
default_from_all s h = record { start = start }
  where
    start : (m : StartMarker) → start_of s m ≡ start_of default_syntax m
    start Variable = h 0 Variable (lit< tt)
    start Block = h 1 Variable (lit< tt)
    start Comment = h 2 Variable (lit< tt)
    start LineStatement = h 3 Variable (lit< tt)
    start LineComment = h 4 Variable (lit< tt)

pub all_from_default : (s : Syntax) → HasDefaultStarts s → All (λ (m : StartMarker). start_of s m ≡ start_of default_syntax m) markers
all_from_default s h zero d l = h.start Variable
all_from_default s h (suc zero) d l = h.start Block
all_from_default s h (suc (suc zero)) d l = h.start Comment
all_from_default s h (suc (suc (suc zero))) d l = h.start LineStatement
all_from_default s h (suc (suc (suc (suc zero)))) d l = h.start LineComment
all_from_default s h (suc (suc (suc (suc (suc k))))) d l = absurd (omega (arith, l))
