-- Over plain text the line stays, and the column moves by bytes.
use Rattle.std.proofs.Common.{◌≡◌, ℕ, ◌+◌, ◌-◌, ◌<◌, ◌≤◌, length, take, drop, get_or, min, ap, sym, ◌∙◌, arith, None, get_or-drop, length-drop, inl, inr}
use Rattle.std.specs.Str.{IsAscii}
use Rattle.std.proofs.lemmas.Bool.{cases_lt}
use Rattle.std.proofs.lemmas.List.{get_or-take, get_or_past, length-take}
use Rattle.memchr.specs.Find.{IsLastByte, is_byte}
use Rattle.minijinja_syntax.specs.Texts.{Text}
use Rattle.minijinja_syntax.specs.Positions.{is_newline, line_after, column_after}
use Rattle.minijinja_lexer.specs.private.Plain.{IsPlain}
use Rattle.minijinja_lexer.proofs.Stretches.{between, line_stays, column_moved, ascii_leads}

byte_between : (text : Text) (at to k : ℕ) → k < to - at → get_or (between at to text) k 0 ≡ get_or text (at + k) 0
byte_between text at to k h = get_or-take (to - at) (drop at text) k 0 h ∙ get_or-drop at text k 0

length_between : (text : Text) (at to : ℕ) → to ≤ length text → length (between at to text) ≡ to - at
length_between text at to h = let a = length-take (to - at) (drop at text) in let b = length-drop at text in omega (arith, a, b)

no_newline : (text : Text) (at to plain : ℕ) → to ≤ plain → to ≤ length text → IsPlain text at plain → IsLastByte (is_byte 10) (between at to text) None
no_newline text at to plain h w p = λ k z l t.
    let n = length_between text at to w in
    let here : k < to - at = omega (arith, l, n) in
    let not_one = sym (ap is_newline (byte_between text at to k here) ∙ (p (at + k) (omega arith) (omega (arith, h))).1) ∙ t in
    cc

ascii_between : (text : Text) (at to plain : ℕ) → to ≤ plain → IsPlain text at plain → IsAscii (between at to text)
ascii_between text at to plain h p = λ k. elim (cases_lt k (to - at)) [
  | inl here ↦ rw (byte_between text at to k here) (p (at + k) (omega arith) (omega (arith, h, here))).0
  | inr past ↦ let e = get_or_past (between at to text) k 0 (let n = length-take (to - at) (drop at text) in omega (arith, n, past)) in rw e (omega arith)
]

pub plain_line : (text : Text) (at to plain line : ℕ) → at ≤ to → to ≤ plain → to ≤ length text → IsPlain text at plain → line ≡ line_after (take at text) → line ≡ line_after (take to text)
plain_line text at to plain line h g w p l = line_stays text at to line h l (no_newline text at to plain g w p)

pub plain_column : (text : Text) (at to plain column r : ℕ) → at ≤ to → to ≤ plain → to ≤ length text → IsPlain text at plain → column ≡ column_after (take at text) → r ≡ min 65535 (column + (to - at)) → r ≡ column_after (take to text)
plain_column text at to plain column r h g w p c e =
    let chars = sym (length_between text at to w) ∙ ascii_leads (between at to text) (ascii_between text at to plain g p) in
    column_moved text at to column r h c (no_newline text at to plain g w p) (e ∙ ap (λ n. min 65535 (column + n)) chars)

-- what is plain at the front of a stretch is plain where the stretch stands
pub plain_ahead : (text bytes : Text) (at m n : ℕ) → bytes ≡ text → n ≤ length (take m (between at (length bytes) bytes)) → IsPlain (take m (between at (length bytes) bytes)) 0 n → IsPlain text at (at + n)
plain_ahead text bytes at m n e l p = λ k low high.
    let h = length-take m (between at (length bytes) bytes) in
    let w = length_between bytes at (length bytes) (omega arith) in
    let place : at + (k - at) ≡ k = omega (arith, low) in
    let byte : get_or (take m (between at (length bytes) bytes)) (k - at) 0 ≡ get_or text k 0 =
    get_or-take m (between at (length bytes) bytes) (k - at) 0 (omega (arith, l, h, low, high)) ∙ byte_between bytes at (length bytes) (k - at) (omega (arith, l, h, w, low, high)) ∙ ap (λ i. get_or bytes i 0) place ∙ ap (λ t. get_or t k 0) e in
    let q = p (k - at) (omega arith) (omega (arith, low, high)) in
    rw (sym byte) q
