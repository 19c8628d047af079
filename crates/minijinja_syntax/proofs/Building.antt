-- When a syntax can be built, from its ten pairs of start markers and its three tags.
use Rattle.std.proofs.Common.{zero, suc, List, [], ◌∷◌, length, refl, ap, sym, arith, lit<}
use Rattle.std.specs.Prelude.{◌≢◌, All}
use Rattle.minijinja_syntax.specs.Syntax.{Syntax, AreApart, HasBoth, IsDelimited, IsBuildable}
use Rattle.minijinja_syntax.specs.declared.syntax.StartMarker.{StartMarker}
use Rattle.minijinja_syntax.specs.declared.syntax.StartMarker.TheVariants.{Variable, Block, Comment, LineStatement, LineComment}

abbrev pub delimited : List StartMarker
delimited = Variable ∷ Block ∷ Comment ∷ []

abbrev pub pairs : List (StartMarker × StartMarker)
pairs =
    (Variable, Block) ∷ (Variable, Comment) ∷ (Variable, LineStatement) ∷ (Variable, LineComment) ∷ (Block, Comment) ∷ (Block, LineStatement) ∷ (Block, LineComment) ∷ (Comment, LineStatement) ∷ (Comment, LineComment) ∷ (LineStatement, LineComment) ∷ []

flip : (s : Syntax) (m n : StartMarker) → AreApart s m n → AreApart s n m
flip s m n h some e = let l = ap length e in h (omega (arith, some, l)) (sym e)

differ_from_pairs : (s : Syntax) → All (λ (p : StartMarker × StartMarker). AreApart s p.0 p.1) pairs → (m n : StartMarker) → m ≢ n → AreApart s m n
differ_from_pairs s h Variable Variable other = absurd (other refl)
differ_from_pairs s h Variable Block other = h 0 (Variable, Block) (lit< tt)
differ_from_pairs s h Variable Comment other = h 1 (Variable, Block) (lit< tt)
differ_from_pairs s h Variable LineStatement other = h 2 (Variable, Block) (lit< tt)
differ_from_pairs s h Variable LineComment other = h 3 (Variable, Block) (lit< tt)
differ_from_pairs s h Block Variable other = flip s Variable Block (h 0 (Variable, Block) (lit< tt))
differ_from_pairs s h Block Block other = absurd (other refl)
differ_from_pairs s h Block Comment other = h 4 (Variable, Block) (lit< tt)
differ_from_pairs s h Block LineStatement other = h 5 (Variable, Block) (lit< tt)
differ_from_pairs s h Block LineComment other = h 6 (Variable, Block) (lit< tt)
differ_from_pairs s h Comment Variable other = flip s Variable Comment (h 1 (Variable, Block) (lit< tt))
differ_from_pairs s h Comment Block other = flip s Block Comment (h 4 (Variable, Block) (lit< tt))
differ_from_pairs s h Comment Comment other = absurd (other refl)
differ_from_pairs s h Comment LineStatement other = h 7 (Variable, Block) (lit< tt)
differ_from_pairs s h Comment LineComment other = h 8 (Variable, Block) (lit< tt)
differ_from_pairs s h LineStatement Variable other = flip s Variable LineStatement (h 2 (Variable, Block) (lit< tt))
differ_from_pairs s h LineStatement Block other = flip s Block LineStatement (h 5 (Variable, Block) (lit< tt))
differ_from_pairs s h LineStatement Comment other = flip s Comment LineStatement (h 7 (Variable, Block) (lit< tt))
differ_from_pairs s h LineStatement LineStatement other = absurd (other refl)
differ_from_pairs s h LineStatement LineComment other = h 9 (Variable, Block) (lit< tt)
differ_from_pairs s h LineComment Variable other = flip s Variable LineComment (h 3 (Variable, Block) (lit< tt))
differ_from_pairs s h LineComment Block other = flip s Block LineComment (h 6 (Variable, Block) (lit< tt))
differ_from_pairs s h LineComment Comment other = flip s Comment LineComment (h 8 (Variable, Block) (lit< tt))
differ_from_pairs s h LineComment LineStatement other = flip s LineStatement LineComment (h 9 (Variable, Block) (lit< tt))
differ_from_pairs s h LineComment LineComment other = absurd (other refl)

pairs_from_differ : (s : Syntax) → ((m n : StartMarker) → m ≢ n → AreApart s m n) → All (λ (p : StartMarker × StartMarker). AreApart s p.0 p.1) pairs
pairs_from_differ s h zero d l = h Variable Block (λ e. cc)
pairs_from_differ s h (suc zero) d l = h Variable Comment (λ e. cc)
pairs_from_differ s h (suc (suc zero)) d l = h Variable LineStatement (λ e. cc)
pairs_from_differ s h (suc (suc (suc zero))) d l = h Variable LineComment (λ e. cc)
pairs_from_differ s h (suc (suc (suc (suc zero)))) d l = h Block Comment (λ e. cc)
pairs_from_differ s h (suc (suc (suc (suc (suc zero))))) d l = h Block LineStatement (λ e. cc)
pairs_from_differ s h (suc (suc (suc (suc (suc (suc zero)))))) d l = h Block LineComment (λ e. cc)
pairs_from_differ s h (suc (suc (suc (suc (suc (suc (suc zero))))))) d l = h Comment LineStatement (λ e. cc)
pairs_from_differ s h (suc (suc (suc (suc (suc (suc (suc (suc zero)))))))) d l = h Comment LineComment (λ e. cc)
pairs_from_differ s h (suc (suc (suc (suc (suc (suc (suc (suc (suc zero))))))))) d l = h LineStatement LineComment (λ e. cc)
pairs_from_differ s h (suc (suc (suc (suc (suc (suc (suc (suc (suc (suc k)))))))))) d l = absurd (omega (arith, l))

both_from_all : (s : Syntax) → All (HasBoth s) delimited → (m : StartMarker) → IsDelimited m → HasBoth s m
both_from_all s h Variable is = h 0 Variable (lit< tt)
both_from_all s h Block is = h 1 Variable (lit< tt)
both_from_all s h Comment is = h 2 Variable (lit< tt)
both_from_all s h LineStatement is = absurd is
both_from_all s h LineComment is = absurd is

all_from_both : (s : Syntax) → ((m : StartMarker) → IsDelimited m → HasBoth s m) → All (HasBoth s) delimited
all_from_both s h zero d l = h Variable tt
all_from_both s h (suc zero) d l = h Block tt
all_from_both s h (suc (suc zero)) d l = h Comment tt
all_from_both s h (suc (suc (suc k))) d l = absurd (omega (arith, l))

pub buildable_from : (s : Syntax) → All (HasBoth s) delimited → All (λ (p : StartMarker × StartMarker). AreApart s p.0 p.1) pairs → IsBuildable s
buildable_from s both apart = record { delimiters = both_from_all s both; distinct = differ_from_pairs s apart }

pub both_of : (s : Syntax) → IsBuildable s → All (HasBoth s) delimited
both_of s built = all_from_both s built.delimiters

pub apart_of : (s : Syntax) → IsBuildable s → All (λ (p : StartMarker × StartMarker). AreApart s p.0 p.1) pairs
apart_of s built = pairs_from_differ s built.distinct
