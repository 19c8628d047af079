-- The text between quotes, byte by byte.
use Rattle.std.proofs.Common.{◌≡◌, ℕ, ◌+◌, ◌-◌, ◌<◌, ◌≤◌, [], ◌∷◌, ◌++◌, length, take, drop, get_or, ap, sym, ◌∙◌, arith, append_assoc, length-drop}
use Rattle.std.proofs.Math.Seq.{take-length}
use Rattle.std.proofs.lemmas.List.{take_more, get_or-drop, append-nil}
use Rattle.std.proofs.lemmas.List.Concat.{flat_map-append}
use Rattle.std.specs.List.{flat_map}
use Rattle.minijinja_text.specs.Texts.{Text, slice}
use Rattle.minijinja_text.specs.Quotes.{escaped, quoted, quote_mark}

-- the bytes from `start` to `i` stand for themselves
pub record ArePlain (text : Text) (start i : ℕ) : Type 0 where
  pub whole : flat_map escaped (take i text) ≡ flat_map escaped (take start text) ++ slice text start i

-- one byte more of a slice
slice_more : (text : Text) (start i : ℕ) → start ≤ i → i < length text → slice text start (i + 1) ≡ slice text start i ++ get_or text i 0 ∷ []
slice_more text start i before inside =
    let next : i + 1 - start ≡ (i - start) + 1 = omega arith in
    let place : start + (i - start) ≡ i = omega arith in
    let within : i - start < length (drop start text) = omega (arith, length-drop start text) in
    let byte : get_or (drop start text) (i - start) 0 ≡ get_or text i 0 = get_or-drop start text (i - start) 0 ∙ ap (λ (k : ℕ). get_or text k 0) place in
    rw next (take_more (drop start text) (i - start) 0 within ∙ ap (λ (b : ℕ). slice text start i ++ b ∷ []) byte)

-- one byte more between quotes
escaped_more : (text : Text) (i : ℕ) → i < length text → flat_map escaped (take (i + 1) text) ≡ flat_map escaped (take i text) ++ escaped (get_or text i 0)
escaped_more text i inside =
    ap (flat_map escaped) (take_more text i 0 inside)
    ∙ flat_map-append escaped (take i text) (get_or text i 0 ∷ [])
    ∙ ap (λ (rest : Text). flat_map escaped (take i text) ++ rest) (append-nil (escaped (get_or text i 0)))

-- no bytes stand for themselves
pub none_plain : (text : Text) (i : ℕ) → ArePlain text i i
none_plain text i =
    let none : i - i ≡ 0 = omega arith in
    record { whole = rw none (sym (append-nil (flat_map escaped (take i text)))) }

-- a byte more that stands for itself
pub plain_more : (text : Text) (start i : ℕ) → start ≤ i → i < length text → escaped (get_or text i 0) ≡ get_or text i 0 ∷ [] → ArePlain text start i → ArePlain text start (i + 1)
plain_more text start i before inside same plain =
    let longer = slice_more text start i before inside in
    let fore = flat_map escaped (take start text) in
    record {
      whole =
          escaped_more text i inside
          ∙ ap (λ (front : Text). front ++ escaped (get_or text i 0)) plain.whole
          ∙ ap (λ (last : Text). (fore ++ slice text start i) ++ last) same
          ∙ append_assoc fore (slice text start i) (get_or text i 0 ∷ [])
          ∙ ap (λ (rest : Text). fore ++ rest) (sym longer);
    }

-- what is written with plain bytes and a byte that does not stand for itself
pub written_more : (text : Text) (start i : ℕ) → i < length text → ArePlain text start i → (quote_mark ∷ flat_map escaped (take start text)) ++ (slice text start i ++ escaped (get_or text i 0)) ≡ quote_mark ∷ flat_map escaped (take (i + 1) text)
written_more text start i inside plain =
    ap (λ (rest : Text). quote_mark ∷ rest)
    (sym (append_assoc (flat_map escaped (take start text)) (slice text start i) (escaped (get_or text i 0)))
    ∙ ap (λ (front : Text). front ++ escaped (get_or text i 0)) (sym plain.whole)
    ∙ sym (escaped_more text i inside))

-- what is written with the plain bytes at the end and a quote
pub written_whole : (text : Text) (start : ℕ) → ArePlain text start (length text) → (quote_mark ∷ flat_map escaped (take start text)) ++ (drop start text ++ quote_mark ∷ []) ≡ quoted text
written_whole text start plain =
    let rest : slice text start (length text) ≡ drop start text = ap (λ (n : ℕ). take n (drop start text)) (sym (length-drop start text)) ∙ take-length (drop start text) in
    let fore = flat_map escaped (take start text) in
    ap (λ (whole : Text). quote_mark ∷ whole)
    (sym (append_assoc fore (drop start text) (quote_mark ∷ []))
    ∙ ap (λ (front : Text). front ++ quote_mark ∷ []) (ap (λ (last : Text). fore ++ last) (sym rest) ∙ sym plain.whole ∙ ap (flat_map escaped) (take-length text)))
