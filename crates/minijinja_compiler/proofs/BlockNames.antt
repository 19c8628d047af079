-- Where no list was before, the lists that are there are those of the blocks that were added.
use Rattle.std.proofs.Common.{◌≡◌, ◌≢◌, ◌∷◌, ◌∙◌, ◌⊎◌, inl, inr, ⊎_elim, Bool, true, false, ◌||◌, List, [], sym, ap, subst, refl, None, Some, cond}
use Rattle.std.specs.Prelude.{All, Any, Contains}
use Rattle.std.specs.List.{list_any}
use Rattle.std.specs.Borrow.{Bor}
use Rattle.std.specs.Ordering.{nat_cmp, is_eq}
use Rattle.std.specs.Str.{bytes_eq}
use Rattle.std.specs.Cmp.Lexicographic.{slice_cmp}
use Rattle.std.specs.Map.{keys_of, lookup}
use Rattle.std.specs.BTreeMap.{BTreeMap, keys, IsEmpty}
use Rattle.std.proofs.lemmas.List.Elements.{All-nil, All-cons, All-contains, All-contains_itself, All-weaker}
use Rattle.std.proofs.lemmas.List.Folds.{Any-from_list_any}
use Rattle.std.proofs.lemmas.Map.Text.{is_eq-slice_cmp}
use Rattle.std.proofs.lemmas.Slice.Eq.{bytes_eq-Decides}
use Rattle.minijinja_syntax.specs.Texts.{Text}
use Rattle.minijinja_value.specs.Values.{Functions}
use Rattle.minijinja_tree.specs.Tree.{Block}
use Rattle.minijinja_instructions.specs.InstructionLists.{Instructions}
use Rattle.minijinja_code.specs.BlockLists.{AddsLists, list_of}
use Rattle.minijinja_compiler.specs.Headline.{AreBlockLists}

-- where nothing is found, no key passes the test
missing_at : {K X : Type 0} (test : K → Bool) (x : K) (v : X) (es : List (K × X)) (b : Bool) → test x ≡ b → cond b (Some v) (lookup test es) ≡ None → (lookup test es ≡ None → All (λ k. test k ≡ false) (keys_of es)) → All (λ k. test k ≡ false) (x ∷ keys_of es)
missing_at test x v es true is none rest = cc
missing_at test x v es false is none rest = All-cons (λ k. test k ≡ false) x (keys_of es) is (rest none)

missing : {K X : Type 0} (test : K → Bool) (es : List (K × X)) → lookup test es ≡ None → All (λ k. test k ≡ false) (keys_of es)
missing test [] none = All-nil (λ k. test k ≡ false)
missing test ((x, v) ∷ es) none = missing_at test x v es (test x) refl none (missing test es)

-- a name is that of one of these blocks, or of none
no_name_at : {C L : Type 0} (x : Text) (b : Block C L) (bs : List (Block C L)) (t : Bool) → bytes_eq b.name x ≡ t → (t || list_any (λ c. bytes_eq c.name x) bs) ≡ false → (list_any (λ c. bytes_eq c.name x) bs ≡ false → All (λ c. c.name ≢ x) bs) → All (λ c. c.name ≢ x) (b ∷ bs)
no_name_at x b bs true is none rest = cc
no_name_at x b bs false is none rest = All-cons (λ c. c.name ≢ x) b bs
    (λ same. let both : false ≡ true = sym is ∙ (bytes_eq-Decides b.name x).1 same in cc) (rest none)

no_name : {C L : Type 0} (x : Text) (bs : List (Block C L)) → list_any (λ b. bytes_eq b.name x) bs ≡ false → All (λ b. b.name ≢ x) bs
no_name x [] none = All-nil (λ b. b.name ≢ x)
no_name x (b ∷ bs) none = no_name_at x b bs (bytes_eq b.name x) refl none (no_name x bs)

named_or_not : {C L : Type 0} (x : Text) (bs : List (Block C L)) (t : Bool) → list_any (λ b. bytes_eq b.name x) bs ≡ t → Any (λ b. b.name ≡ x) bs ⊎ All (λ b. b.name ≢ x) bs
named_or_not x bs true is =
    let (k, b, within, at, same) = Any-from_list_any (λ b. bytes_eq b.name x) bs is in
    inl (k, b, within, at, (bytes_eq-Decides b.name x).0 same)
named_or_not x bs false is = inr (no_name x bs is)

-- a key of a map is found
itself : (x : Text) → is_eq (slice_cmp nat_cmp x x) ≡ true
itself x = is_eq-slice_cmp x x ∙ (bytes_eq-Decides x x).1 refl

is_found : {V E : Type 0} (m : BTreeMap (Bor Text) (Instructions V E)) (x : Bor Text) → Contains (keys m) x → list_of m x.now ≡ None → ⊥
is_found m x there none =
    let off = All-contains (λ k. is_eq (slice_cmp nat_cmp x.now k.now) ≡ false) (keys m) x (missing (λ k. is_eq (slice_cmp nat_cmp x.now k.now)) m.entries none) there in
    let both : true ≡ false = sym (itself x.now) ∙ off in cc

none_before : {V E : Type 0} (m : BTreeMap (Bor Text) (Instructions V E)) → IsEmpty m → (x : Text) → list_of m x ≡ None
none_before m empty x = ap (λ es. lookup (λ k. is_eq (slice_cmp nat_cmp x k.now)) es) empty

-- the lists that were added where there was none are those of the blocks
pub block_lists : {V E C F L : Type 0} (f : Functions C F) (contents : V → C) (source filename : Text) (bs : List (Block C L)) (old new : BTreeMap (Bor Text) (Instructions V E)) →
    IsEmpty old → AddsLists f contents source filename bs old new → AreBlockLists f contents source filename bs new
block_lists f contents source filename bs old new empty added = record {
  each = added.added;
  only = All-weaker (Contains (keys new)) (λ k. Any (λ b. b.name ≡ k.now) bs)
      (λ k there. ⊎_elim (λ named. named) (λ none. absurd (is_found new k there (added.others k.now none ∙ none_before old empty k.now)))
      (named_or_not k.now bs (list_any (λ b. bytes_eq b.name k.now) bs) refl))
      (keys new) (All-contains_itself (keys new));
}

-- the same of what is given
pub compiled_lists : {V E C F L : Type 0} (f : Functions C F) (contents : V → C) (source filename text file : Text) (bs : List (Block C L)) (old new given : BTreeMap (Bor Text) (Instructions V E)) →
    IsEmpty old → AddsLists f contents text file bs old new → given ≡ new → text ≡ source → file ≡ filename → AreBlockLists f contents source filename bs given
compiled_lists f contents source filename text file bs old new given empty added finished of_text named =
    subst (λ n. AreBlockLists f contents source n bs given) named
    (subst (λ t. AreBlockLists f contents t file bs given) of_text
    (subst (λ m. AreBlockLists f contents text file bs m) (sym finished) (block_lists f contents text file bs old new empty added)))
