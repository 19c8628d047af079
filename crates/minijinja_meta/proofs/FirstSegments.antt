-- The first segments of the nested names are the plain names.
use Rattle.std.proofs.Common.{◌≡◌, ◌+◌, take, ◌++◌, refl, ap, ap₂, ◌∙◌, true, false}
use Rattle.std.specs.Prelude.{Bool, not, ◌||◌, ◌==◌, List, [], ◌∷◌, map, All, cond}
use Rattle.std.specs.Cmp.Lexicographic.{slice_cmp}
use Rattle.std.specs.List.{list_any, position_or_len}
use Rattle.std.specs.Ordering.{nat_cmp, ordering_then}
use Rattle.std.specs.Str.{bytes_eq}
use Rattle.std.specs.declared.cmp.Ordering.{Ordering}
use Rattle.std.specs.declared.cmp.Ordering.TheVariants.{Less, Equal, Greater}
use Rattle.std.proofs.Math.Numerals.{one-add}
use Rattle.std.proofs.lemmas.List.Elements.{All-head, All-tail}
use Rattle.minijinja_syntax.specs.Texts.{Text}
use Rattle.minijinja_meta.specs.Mentions.{Mention, Way, after_dots, dotted, free, in_order, is_among, names_of, nested_names, plain_names}
use Rattle.minijinja_meta.specs.Segments.{HasNoDot, before_dot, each_once, first_segment, joined, nested_segments, segments_of}
use Rattle.minijinja_meta.proofs.Ordering.{equal-is, in_order-again, in_order-same, is_among-insert}

abbrev order : List Text → List Text → Ordering
order xs ys = slice_cmp (slice_cmp nat_cmp) xs ys

segments-are : (xs ys : List Text) → order xs ys ≡ Equal → xs ≡ ys
segments-are [] [] h = refl
segments-are [] (y ∷ ys) h = cc
segments-are (x ∷ xs) [] h = cc
segments-are (x ∷ xs) (y ∷ ys) h = go (slice_cmp nat_cmp x y) refl (segments-are xs ys) h
  where
    go : (o : Ordering) → slice_cmp nat_cmp x y ≡ o → (order xs ys ≡ Equal → xs ≡ ys) → ordering_then o (order xs ys) ≡ Equal → (x ∷ xs) ≡ (y ∷ ys)
    go Less e rest k = cc
    go Equal e rest k = ap₂ ◌∷◌ (equal-is x y e) (rest k)
    go Greater e rest k = cc

once : (f : List Text → Text) (xs : List (List Text)) → in_order (map f (each_once xs)) ≡ in_order (map f xs)
once f xs = in_order-same (map f (each_once xs)) (map f xs) (λ z. go z xs)
  where
    go : (z : Text) (xs : List (List Text)) → is_among z (map f (each_once xs)) ≡ is_among z (map f xs)
    go z [] = refl
    go z (x ∷ xs) = is_among-insert order segments-are f z x (each_once xs) ∙ ap (λ b. bytes_eq z (f x) || b) (go z xs)

firsts : (ms : List Mention) → map first_segment (map segments_of ms) ≡ names_of ms
firsts [] = refl
firsts (m ∷ ms) = ap (λ l. m.name ∷ l) (firsts ms)

wholes : (ms : List Mention) → map joined (map segments_of ms) ≡ map dotted ms
wholes [] = refl
wholes (m ∷ ms) = ap (λ l. dotted m ∷ l) (wholes ms)

pub first_segments : (w : Way) → in_order (map first_segment (nested_segments w)) ≡ plain_names w
first_segments w = once first_segment (map segments_of (free w)) ∙ ap in_order (firsts (free w))

pub written_segments : (w : Way) → in_order (map joined (nested_segments w)) ≡ nested_names w
written_segments w = once joined (map segments_of (free w)) ∙ ap in_order (wholes (free w))

-- a text with no dot is what stands before the first dot of it and attributes
before-dots : (x : Text) (ys : List Text) → HasNoDot x → before_dot (x ++ after_dots ys) ≡ x
before-dots [] [] h = refl
before-dots [] (y ∷ ys) h = refl
before-dots (b ∷ x) ys h = go (b == 46) h (before-dots x ys)
  where
    go : (t : Bool) → (t || list_any (λ b. b == 46) x) ≡ false → (HasNoDot x → before_dot (x ++ after_dots ys) ≡ x) →
        take (cond (not t) (1 + position_or_len (λ b. b == 46) (x ++ after_dots ys)) 0) (b ∷ (x ++ after_dots ys)) ≡ b ∷ x
    go true k rest = cc
    go false k rest = ap (λ n. take n (b ∷ (x ++ after_dots ys))) (one-add (position_or_len (λ b. b == 46) (x ++ after_dots ys))) ∙ ap (λ l. b ∷ l) (rest k)

befores : (ms : List Mention) → All HasNoDot (names_of ms) → map before_dot (map dotted ms) ≡ names_of ms
befores [] h = refl
befores (m ∷ ms) h = ap₂ ◌∷◌ (before-dots m.name m.attributes (All-head HasNoDot m.name (names_of ms) h)) (befores ms (All-tail HasNoDot m.name (names_of ms) h))

pub first_texts : (w : Way) → All HasNoDot (names_of (free w)) → in_order (map before_dot (nested_names w)) ≡ plain_names w
first_texts w h = in_order-again before_dot (map dotted (free w)) ∙ ap in_order (befores (free w) h)
