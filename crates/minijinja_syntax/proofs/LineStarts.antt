-- Where a line starts, one byte further.
use Rattle.std.proofs.Common.{◌≡◌, ℕ, ◌+◌, ◌-◌, ◌<◌, ◌≤◌, List, [], ◌∷◌, length, take, get_or, refl, ap, sym, arith, ◌∙◌, Bool, true, false, cond, Some}
use Rattle.std.specs.Prelude.{reverse, find, not}
use Rattle.std.specs.Option.{option_map_or}
use Rattle.std.proofs.lemmas.List.{take_more, reverse-append}
use Rattle.minijinja_syntax.specs.Texts.{Text}
use Rattle.minijinja_syntax.specs.Markers.{is_blank, is_line_end, starts_line}

-- by the last byte before a place, and what is before that
last : (before : List ℕ) (b : ℕ) (blank : Bool) → option_map_or is_line_end (cond (not blank) (Some b) (find (λ x. not (is_blank x)) before)) true ≡ cond blank (option_map_or is_line_end (find (λ x. not (is_blank x)) before) true) (is_line_end b)
last before b true = refl
last before b false = refl

starts_line-next : (text : Text) (at : ℕ) → at < length text → starts_line text (at + 1) ≡ cond (is_blank (get_or text at 0)) (starts_line text at) (is_line_end (get_or text at 0))
unfolding starts_line
starts_line-next text at h =
    ap (λ t. option_map_or is_line_end (find (λ b. not (is_blank b)) (reverse t)) true) (take_more text at 0 h)
    ∙ ap (λ t. option_map_or is_line_end (find (λ b. not (is_blank b)) t) true) (reverse-append (take at text) (get_or text at 0 ∷ []))
    ∙ last (reverse (take at text)) (get_or text at 0) (is_blank (get_or text at 0))

pub starts_line-blank : (text : Text) (at : ℕ) → at < length text → is_blank (get_or text at 0) ≡ true → starts_line text (at + 1) ≡ starts_line text at
starts_line-blank text at h t = starts_line-next text at h ∙ ap (λ b. cond b (starts_line text at) (is_line_end (get_or text at 0))) t

pub starts_line-other : (text : Text) (at : ℕ) → at < length text → is_blank (get_or text at 0) ≡ false → starts_line text (at + 1) ≡ is_line_end (get_or text at 0)
starts_line-other text at h f = starts_line-next text at h ∙ ap (λ b. cond b (starts_line text at) (is_line_end (get_or text at 0))) f

-- whether a line starts at a place, from the byte before it
pub starts_line-blank_before : (text : Text) (at : ℕ) → 0 < at → at ≤ length text → is_blank (get_or text (at - 1) 0) ≡ true → starts_line text at ≡ starts_line text (at - 1)
starts_line-blank_before text at some h t = let e : at - 1 + 1 ≡ at = omega arith in ap (starts_line text) (sym e) ∙ starts_line-blank text (at - 1) (omega arith) t

pub starts_line-other_before : (text : Text) (at : ℕ) → 0 < at → at ≤ length text → is_blank (get_or text (at - 1) 0) ≡ false → starts_line text at ≡ is_line_end (get_or text (at - 1) 0)
starts_line-other_before text at some h f = let e : at - 1 + 1 ≡ at = omega arith in ap (starts_line text) (sym e) ∙ starts_line-other text (at - 1) (omega arith) f

pub starts_line-first : (text : Text) → starts_line text 0 ≡ true
unfolding starts_line
starts_line-first text = refl
