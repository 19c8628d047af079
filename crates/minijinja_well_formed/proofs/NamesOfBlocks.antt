-- The names of a statement's blocks, part by part.
use Rattle.std.proofs.Common.{◌≡◌, ℕ, ◌+◌, ◌-◌, ◌^◌, ◌<◌, ◌≤◌, List, [], ◌∷◌, ◌++◌, length, drop, get_or, min, refl, sym, ap, ◌∙◌, true, false, arith}
use Rattle.std.specs.Prelude.{Bool, ◌&&◌, ◌==◌, count_by}
use Rattle.std.specs.Str.{bytes_eq}
use Rattle.std.proofs.lemmas.List.{append-nil, at_drop_more}
use Rattle.std.proofs.lemmas.Bool.Decides.{nat_tests}
use Rattle.std.proofs.lemmas.List.Sums.{sum_by-append}
use Rattle.minijinja_syntax.specs.Texts.{Text}
use Rattle.minijinja_tree.specs.Tree.{Stmt, template, data_text, output, assignment, for_loop, if_cond, with_block, set_block, auto_escape, filter_block, named_block, extends, include, import_all, from_import, declare, call_block, do_call, break_loop, continue_loop, Stmts, also, macro, Block, blocks, all_blocks, names_of_blocks, block_names, all_block_names}
use Rattle.minijinja_tree.specs.Erasure.{stmt_tree}
use Rattle.minijinja_well_formed.specs.private.BlockNames.{own, first_body, second_body}
use Rattle.minijinja_well_formed.specs.private.StatementTests.{are_single}
use Rattle.minijinja_tree.specs.declared.ast.Stmt.{Stmt as Node}
use Rattle.minijinja_tree.proofs.Rows.{body_of}

names-append : {C L : Type 0} (xs ys : List (Block C L)) → names_of_blocks (xs ++ ys) ≡ names_of_blocks xs ++ names_of_blocks ys
names-append [] ys = refl
names-append (b ∷ xs) ys = ap (λ ns. b.name ∷ ns) (names-append xs ys)

pub also-names : {C L : Type 0} (s : Stmt C L) (ss : Stmts C L) → all_block_names (also s ss) ≡ block_names s ++ all_block_names ss
also-names s ss = names-append (blocks s) (all_blocks ss)

-- the names of one body alone
alone : (xs : List Text) → xs ≡ xs ++ []
alone xs = sym (append-nil xs)

-- a statement's own name, and those in its bodies
pub names-parts : {C L : Type 0} (s : Stmt C L) → block_names s ≡ own s ++ (all_block_names (first_body s) ++ all_block_names (second_body s))
names-parts (template ss) = alone (all_block_names ss)
names-parts (data_text t) = refl
names-parts (output e) = refl
names-parts (assignment e v) = refl
names-parts (for_loop n t e again o ss other) = names-append (all_blocks ss) (all_blocks other)
names-parts (if_cond e ss other) = names-append (all_blocks ss) (all_blocks other)
names-parts (with_block xs ss) = alone (all_block_names ss)
names-parts (set_block t e ss) = alone (all_block_names ss)
names-parts (auto_escape e ss) = alone (all_block_names ss)
names-parts (filter_block e ss) = alone (all_block_names ss)
names-parts (named_block x required ss) = ap (λ ns. x ∷ ns) (alone (all_block_names ss))
names-parts (extends e) = refl
names-parts (include e ignore) = refl
names-parts (import_all e t) = refl
names-parts (from_import e ns) = refl
names-parts (declare (macro n x args defaults ss)) = alone (all_block_names ss)
names-parts (call_block e args (macro n x given defaults ss)) = alone (all_block_names ss)
names-parts (do_call e args) = refl
names-parts break_loop = refl
names-parts continue_loop = refl

-- ---- whether each stands once

and-grouped : (a b c : Bool) → (a && (b && c)) ≡ ((a && b) && c)
and-grouped true b c = refl
and-grouped false b c = refl

and-true : (a : Bool) → (a && true) ≡ a
and-true true = refl
and-true false = refl

pub single-append : (xs ys zs : List Text) → are_single (xs ++ ys) zs ≡ (are_single xs zs && are_single ys zs)
single-append [] ys zs = refl
single-append (x ∷ xs) ys zs = ap (λ b. (count_by (bytes_eq x) zs == 1) && b) (single-append xs ys zs) ∙ and-grouped (count_by (bytes_eq x) zs == 1) (are_single xs zs) (are_single ys zs)

pub single-parts : {C L : Type 0} (s : Stmt C L) (zs : List Text) →
    are_single (block_names s) zs ≡ ((are_single (own s) zs && are_single (all_block_names (first_body s)) zs) && are_single (all_block_names (second_body s)) zs)
single-parts s zs =
    let first = all_block_names (first_body s) in
    let second = all_block_names (second_body s) in
    ap (λ ns. are_single ns zs) (names-parts s) ∙ single-append (own s) (first ++ second) zs
    ∙ ap (λ b. are_single (own s) zs && b) (single-append first second zs)
    ∙ and-grouped (are_single (own s) zs) (are_single first zs) (are_single second zs)

pub next-single : {V K C : Type 0} (c : V → C) (xs : List (Node V K)) (i : ℕ) (x : Node V K) (b : Bool) (zs : List Text) → i < length xs → x ≡ get_or xs i x → b ≡ are_single (block_names (stmt_tree c x)) zs →
    are_single (all_block_names (body_of c (drop i xs))) zs ≡ (b && are_single (all_block_names (body_of c (drop (i + 1) xs))) zs)
next-single c xs i x b zs within h k =
    let rest = body_of c (drop (i + 1) xs) in
    at_drop_more (λ ys. are_single (all_block_names (body_of c ys)) zs) xs i x within
    ∙ ap (λ y. are_single (all_block_names (also (stmt_tree c y) rest)) zs) (sym h)
    ∙ ap (λ ns. are_single ns zs) (also-names (stmt_tree c x) rest) ∙ single-append (block_names (stmt_tree c x)) (all_block_names rest) zs
    ∙ ap (λ b. b && are_single (all_block_names rest) zs) (sym k)

-- ---- how often a name stands there

abbrev pub count : Text → List Text → ℕ
count x ns = count_by (bytes_eq x) ns

pub count-append : (x : Text) (xs ys : List Text) → count x (xs ++ ys) ≡ count x xs + count x ys
count-append x xs ys = sum_by-append _ xs ys

pub next-count : {V K C : Type 0} (c : V → C) (y : Text) (xs : List (Node V K)) (i : ℕ) (x : Node V K) → i < length xs → x ≡ get_or xs i x →
    count y (all_block_names (body_of c (drop i xs))) ≡ count y (block_names (stmt_tree c x)) + count y (all_block_names (body_of c (drop (i + 1) xs)))
next-count c y xs i x within h =
    let rest = body_of c (drop (i + 1) xs) in
    at_drop_more (λ zs. count y (all_block_names (body_of c zs))) xs i x within
    ∙ ap (λ z. count y (all_block_names (also (stmt_tree c z) rest))) (sym h)
    ∙ ap (count y) (also-names (stmt_tree c x) rest) ∙ count-append y (block_names (stmt_tree c x)) (all_block_names rest)

pub count-parts : {C L : Type 0} (y : Text) (s : Stmt C L) →
    count y (block_names s) ≡ count y (own s) + (count y (all_block_names (first_body s)) + count y (all_block_names (second_body s)))
count-parts y s =
    ap (count y) (names-parts s)
    ∙ count-append y (own s) (all_block_names (first_body s) ++ all_block_names (second_body s))
    ∙ ap (λ n. count y (own s) + n) (count-append y (all_block_names (first_body s)) (all_block_names (second_body s)))

pub parts-added : (all own first second a b m n : ℕ) → all ≡ own + (first + second) → a ≡ min first (2 ^ 64 - 1) → b ≡ min second (2 ^ 64 - 1) → m ≡ min (own + a) (2 ^ 64 - 1) → n ≡ min (m + b) (2 ^ 64 - 1) →
    n ≡ min all (2 ^ 64 - 1)
parts-added all own first second a b m n h i j k l = omega arith

pub added : (all n b m beside next : ℕ) → all ≡ min (n + (beside + next)) (2 ^ 64 - 1) → b ≡ min beside (2 ^ 64 - 1) → m ≡ min (n + b) (2 ^ 64 - 1) → all ≡ min (m + next) (2 ^ 64 - 1)
added all n b m beside next h k e = omega arith

pub added-fits : (n b m : ℕ) → m ≡ min (n + b) (2 ^ 64 - 1) → m ≤ 2 ^ 64 - 1
added-fits n b m e = omega arith

pub all-counted : (n m all : ℕ) → min all (2 ^ 64 - 1) ≡ min (n + m) (2 ^ 64 - 1) → m ≡ 0 → n ≤ 2 ^ 64 - 1 → n ≡ min all (2 ^ 64 - 1)
all-counted n m all h k l = omega arith

pub counted-once : (n m : ℕ) → n ≡ min m (2 ^ 64 - 1) → (n == 1) ≡ ((m == 1) && true)
counted-once n m h = let same : (n == 1) ≡ (m == 1) = grind (arith, nat_tests) in same ∙ sym (and-true (m == 1))
