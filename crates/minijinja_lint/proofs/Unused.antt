-- Names that are put into a set, and macro statements that are kept.
use Rattle.std.proofs.Common.{◌≡◌, ℕ, ◌+◌, ◌<◌, ◌++◌, refl, sym, ap, ◌∙◌, length, get_or, take, true, false}
use Rattle.std.specs.Prelude.{Bool, not, ◌||◌, cond, List, [], ◌∷◌}
use Rattle.std.specs.Borrow.{Bor}
use Rattle.std.specs.BTreeSet.{BTreeSet, Updates, contains_by}
use Rattle.std.specs.Cmp.Lexicographic.{slice_cmp}
use Rattle.std.specs.Ordering.{nat_cmp}
use Rattle.std.specs.Str.{bytes_eq}
use Rattle.std.proofs.lemmas.List.{map_more, map-append}
use Rattle.std.proofs.lemmas.List.Elements.{filter-append}
use Rattle.std.proofs.lemmas.List.Folds.{list_any-append}
use Rattle.std.proofs.lemmas.Map.Text.{is_eq-slice_cmp}
use Rattle.minijinja_syntax.specs.Texts.{Text}
use Rattle.minijinja_syntax.specs.declared.tokens.Span.{Span}
use Rattle.minijinja_meta.specs.Mentions.{Mention, is_among}
use Rattle.minijinja_meta.specs.Occurrences.{found_of, macros_of, mention_of}
use Rattle.minijinja_meta.specs.declared.mentions.Occurrence.{Occurrence}
use Rattle.minijinja_lint.specs.Findings.{mentioned, unused_macros}
use Rattle.minijinja_lint.specs.private.First.{AreNames}
use Rattle.minijinja_lint.proofs.Firsts.{text-comm}

cond-or : (a b : Bool) → cond a true b ≡ (b || (a || false))
cond-or true true = refl
cond-or true false = refl
cond-or false true = refl
cond-or false false = refl

-- one name more
pub put-name : (s n : BTreeSet (Bor Text)) (k : Bor Text) (xs : List Text) → Updates (λ x y. slice_cmp nat_cmp x.now y.now) s n k true → AreNames xs s → AreNames (xs ++ k.now ∷ []) n
put-name s n k xs h is = λ x.
    h.0 (record { ref_ptr = (0, 0); now = x }) ∙ ap (λ b. cond b true (contains_by (λ k. slice_cmp nat_cmp x k.now) s)) (is_eq-slice_cmp k.now x ∙ text-comm k.now x)
    ∙ ap (λ b. cond (bytes_eq x k.now) true b) (is x) ∙ cond-or (bytes_eq x k.now) (is_among x xs) ∙ sym (list_any-append (bytes_eq x) xs (k.now ∷ []))

-- one occurrence more
pub mentioned-more : {V F C : Type 0} (c : V → C) (os : List (Occurrence V F)) (i : ℕ) (o : Occurrence V F) → i < length os → o ≡ get_or os i o →
    mentioned (found_of c (take (i + 1) os)) ≡ mentioned (found_of c (take i os)) ++ o.name.now ∷ []
mentioned-more c os i o h is =
    ap mentioned (map_more (λ o. (mention_of c o, o.is_free)) os i o h) ∙ map-append (λ o. o.0.name) (found_of c (take i os)) (found_of c (get_or os i o ∷ []))
    ∙ ap (λ p. mentioned (found_of c (take i os)) ++ p.name.now ∷ []) (sym is)

-- one macro statement more
pub unused-more : (os : List (Mention × Bool)) (ds : List (Bor Text × Span)) (i : ℕ) (d : Bor Text × Span) → i < length ds →
    unused_macros os (macros_of (take (i + 1) ds)) ≡ unused_macros os (macros_of (take i ds)) ++ cond (not (is_among (get_or ds i d).0.now (mentioned os))) (((get_or ds i d).0.now, (get_or ds i d).1) ∷ []) []
unused-more os ds i d h = ap (unused_macros os) (map_more (λ d. (d.0.now, d.1)) ds i d h) ∙ filter-append (λ d. not (is_among d.0 (mentioned os))) (macros_of (take i ds)) (macros_of (get_or ds i d ∷ []))

-- a macro statement is kept unless its name is mentioned
pub unused-step : (os : List (Mention × Bool)) (ds vs us ws : List (Bor Text × Span)) (i : ℕ) (d : Bor Text × Span) (b : Bool) → i < length ds → is_among (get_or ds i d).0.now (mentioned os) ≡ b →
    us ≡ vs ++ cond b [] (get_or ds i d ∷ []) → ws ≡ us → macros_of vs ≡ unused_macros os (macros_of (take i ds)) → macros_of ws ≡ unused_macros os (macros_of (take (i + 1) ds))
unused-step os ds vs us ws i d b h is more same so_far =
    ap macros_of (same ∙ more) ∙ map-append (λ d. (d.0.now, d.1)) vs (cond b [] (get_or ds i d ∷ [])) ∙ ap (λ l. l ++ macros_of (cond b [] (get_or ds i d ∷ []))) so_far
    ∙ ap (λ l. unused_macros os (macros_of (take i ds)) ++ l) (go b is) ∙ sym (unused-more os ds i d h)
  where
    go : (b : Bool) → is_among (get_or ds i d).0.now (mentioned os) ≡ b → macros_of (cond b [] (get_or ds i d ∷ [])) ≡ cond (not (is_among (get_or ds i d).0.now (mentioned os))) (((get_or ds i d).0.now, (get_or ds i d).1) ∷ []) []
    go true is = ap (λ b. cond (not b) (((get_or ds i d).0.now, (get_or ds i d).1) ∷ []) []) (sym is)
    go false is = ap (λ b. cond (not b) (((get_or ds i d).0.now, (get_or ds i d).1) ∷ []) []) (sym is)
