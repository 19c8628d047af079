-- The names that are given along a template are those of its blocks, and so no two of them are the
-- same.
use Rattle.std.proofs.Common.{◌≡◌, ◌≢◌, ℕ, zero, suc, List, [], ◌∷◌, ◌++◌, Bool, true, false, Option, inl, inr, refl, sym, ap, ◌∙◌, subst, arith}
use Rattle.std.specs.declared.cmp.Ordering.{Ordering}
use Rattle.std.specs.declared.cmp.Ordering.TheVariants.{Less, Equal, Greater}
use Rattle.std.specs.Ordering.{match_ordering, is_eq}
use Rattle.std.proofs.lemmas.Slice.Eq.{bytes_eq-Decides}
use Rattle.std.specs.Prelude.{◌||◌, not, All as Each, AllPairs}
use Rattle.std.specs.Str.{bytes_eq}
use Rattle.std.specs.Ordering.{nat_cmp}
use Rattle.std.specs.List.{list_any}
use Rattle.std.specs.BTreeSet.{insert_key}
use Rattle.std.specs.Cmp.Lexicographic.{slice_cmp, texts_ties}
use Rattle.std.proofs.lemmas.List.Kept.{AllPairs-cons}
use Rattle.std.proofs.lemmas.List.Elements.{All-cons}
use Rattle.std.proofs.lemmas.List.{append-nil, append_assoc}
use Rattle.minijinja_syntax.specs.Texts.{Text}
use Rattle.minijinja_value.specs.Values.{Functions}
use Rattle.minijinja_syntax.specs.Tokens.{Tok, ident, template_data, variable_start, variable_end, block_start, block_end, assign, pipe}
use Rattle.minijinja_syntax.specs.declared.tokens.Span.{Span}
use Rattle.minijinja_syntax.specs.Streams.{SpannedTok}
use Rattle.minijinja_tree.specs.Tree as tree
use Rattle.minijinja_tree.specs.SpannedTrees.{Expr, optional_of, Stmt, template, data_text, output, assignment, for_loop, with_block, set_block, auto_escape, filter_block, named_block, stmts_of, bare_stmt, bare_stmts, if_cond}
use Rattle.minijinja_tree.specs.WellFormed.{AreDistinct}
use Rattle.minijinja_grammar.specs.internal.Keywords.{Keyword, for_keyword, if_keyword, with_keyword, set_keyword, autoescape_keyword, filter_keyword, block_keyword, extends_keyword, include_keyword, import_keyword, from_keyword, macro_keyword, call_keyword, do_keyword, break_keyword, continue_keyword}
use Rattle.minijinja_grammar.specs.Words.{else_word, in_word, recursive_word, scoped_word, required_word, endfor_word, endif_word, endwith_word, endset_word, endautoescape_word, endfilter_word, endblock_word, elif_word}
use Rattle.minijinja_grammar.specs.Places.{Place}
use Rattle.minijinja_grammar.specs.internal.Forms.{Turn, go_on, over, Form, pure, one, last, new_name, and_then, either, many, Turns, no_turn, last_turn, turn, Derives}
use Rattle.minijinja_grammar.specs.internal.ExprForms as g
use Rattle.minijinja_grammar.specs.internal.ExprForms.{expanded, below, expr_at}
use Rattle.minijinja_grammar.specs.internal.StmtForms as form
use Rattle.minijinja_grammar.specs.Statements.{Ends, at_end_of_text, at_endfor_or_else, at_endfor, at_endif_else_or_elif, at_endif, at_endwith, at_endset, at_endautoescape, at_endfilter, at_endblock, Context, outside, inside_loop, inside_block, inside_macro}
use Rattle.minijinja_grammar.specs.internal.StmtForms.{Parts}
use Rattle.minijinja_grammar.specs.internal.TemplateForms.{template_at}
use Rattle.minijinja_grammar.specs.private.Ensured.{Holds, Ensured}
use Rattle.minijinja_grammar.proofs.Ensured.{All, Fine, No, quietly}
use Rattle.minijinja_grammar.proofs.Sound.{below_sound, expr_sound, or_level}
use Rattle.minijinja_grammar.proofs.Targets.{IsOneTarget, any_targets}
use Rattle.minijinja_grammar.proofs.Statements.{IsOne, IsOnePart, AreAllParts, IsChain, chain, value, loop_filter, bound_target, bindings, blank_body, do_stmt, extends_stmt, include_stmt, import_stmt, from_stmt, macro_stmt, call_stmt, break_stmt, continue_stmt, stmt_at}
use Rattle.minijinja_grammar.proofs.Statements.{body as bodies}

-- ---- names that are given in turn

-- the names with one more
abbrev with_one : List Text → Text → List Text
with_one names x = insert_key (slice_cmp nat_cmp) names x

-- these were given in turn, each for the first time
abbrev pub Given : List Text → List Text → List Text → Type 0
Given old [] new = old ≡ new
Given old (x ∷ xs) new = (list_any (bytes_eq x) old ≡ false) × Given (with_one old x) xs new

given_append : (a xs b ys c : List Text) → Given a xs b → Given b ys c → Given a (xs ++ ys) c
given_append a [] b ys c h k = subst (λ z. Given z ys c) (sym h) k
given_append a (x ∷ xs) b ys c h k = (h.0, given_append (with_one a x) xs b ys c h.1 k)

same_text : (x : Text) → bytes_eq x x ≡ true
same_text x = (bytes_eq-Decides x x).1 refl

or_true : (b : Bool) → (b || true) ≡ true
or_true true = refl
or_true false = refl

-- a name that was given is one of the names
is_there : (names : List Text) (x : Text) → list_any (bytes_eq x) (with_one names x) ≡ true
is_there [] x = rw (same_text x) refl
is_there (y ∷ ys) x = go (slice_cmp nat_cmp x y) refl (is_there ys x)
  where
    go : (o : Ordering) → slice_cmp nat_cmp x y ≡ o → list_any (bytes_eq x) (with_one ys x) ≡ true → list_any (bytes_eq x) (match_ordering o (x ∷ y ∷ ys) (y ∷ ys) (y ∷ with_one ys x)) ≡ true
    go Less e h = rw (same_text x) refl
    go Equal e h = let same : bytes_eq x y ≡ true = texts_ties x y ∙ ap is_eq e in rw same refl
    go Greater e h = rw h (or_true (bytes_eq x y))

-- and stays one
is_kept : (names : List Text) (x q : Text) → list_any (bytes_eq q) names ≡ true → list_any (bytes_eq q) (with_one names x) ≡ true
is_kept [] x q h = cc
is_kept (y ∷ ys) x q h = go (slice_cmp nat_cmp x y) (is_kept ys x q)
  where
    further : (b : Bool) → (b || list_any (bytes_eq q) ys) ≡ true → (list_any (bytes_eq q) ys ≡ true → list_any (bytes_eq q) (with_one ys x) ≡ true) → (b || list_any (bytes_eq q) (with_one ys x)) ≡ true
    further true i k = refl
    further false i k = k i

    go : (o : Ordering) → (list_any (bytes_eq q) ys ≡ true → list_any (bytes_eq q) (with_one ys x) ≡ true) → list_any (bytes_eq q) (match_ordering o (x ∷ y ∷ ys) (y ∷ ys) (y ∷ with_one ys x)) ≡ true
    go Less k = rw h (or_true (bytes_eq q x))
    go Equal k = h
    go Greater k = further (bytes_eq q y) h k

none_of : {X : Type 0} (P : X → Type 0) → Each P []
none_of P k d l = absurd (omega (arith, l))

-- what was given before is not given again
all_others : (old xs new : List Text) (q : Text) → Given old xs new → list_any (bytes_eq q) old ≡ true → Each (λ y. q ≢ y) xs
all_others old [] new q h k = none_of (λ y. q ≢ y)
all_others old (x ∷ xs) new q h k = All-cons (λ y. q ≢ y) x xs other (all_others (with_one old x) xs new q h.1 (is_kept old x q k))
  where
    other : q ≢ x
    other e = let there : list_any (bytes_eq x) old ≡ true = subst (λ z. list_any (bytes_eq z) old ≡ true) e k in let lie : false ≡ true = sym h.0 ∙ there in cc

pub distinct : (old xs new : List Text) → Given old xs new → AllPairs (λ x y. x ≢ y) xs
distinct old [] new h = λ i j d k l. absurd (omega (arith, l))
distinct old (x ∷ xs) new h = AllPairs-cons (λ x y. x ≢ y) x xs (all_others (with_one old x) xs new x h.1 (is_there old x)) (distinct (with_one old x) xs new h.1)

-- ---- what forms tell of the names given before and after

pub record Tells {A : Type 0} (f : Form A) (P : List Text → Type 0) (R : A → List Text → Type 0) : Type 0 where
  pub tells : (p q : Place) (x : A) → P p.names → Derives f p q x → R x q.names

-- it gives none
pub record Quiet {A : Type 0} (f : Form A) : Type 0 where
  pub same : (p q : Place) (x : A) → Derives f p q x → q.names ≡ p.names

quiet_one : {A : Type 0} (held : SpannedTok → Option A) → Quiet (one held)
quiet_one held = record { same = λ p q x d. ap (λ (r : Place). r.names) d.behind }

next_quiet : (m : Tok) → Quiet (g.next m)
next_quiet m = quiet_one (g.span_of_mark m)

last_quiet : Quiet last
last_quiet = record { same = λ p q x d. sym (ap (λ (r : Place). r.names) d.0) }

-- what is told of more is told of less
before : {A : Type 0} {f : Form A} {P Q : List Text → Type 0} {R : A → List Text → Type 0} → ((ns : List Text) → P ns → Q ns) → Tells f Q R → Tells f P R
before k h = record { tells = λ p q x j d. h.tells p q x (k p.names j) d }

in_turn : {A B : Type 0} {f : Form A} {h : A → Form B} {P : List Text → Type 0} {Q : A → List Text → Type 0} {R : B → List Text → Type 0} →
    Tells f P Q → ((x : A) → Tells (h x) (Q x) R) → Tells (and_then f h) P R
in_turn i k = record { tells = λ p q y j d. (k d.0).tells d.1 q y (i.tells p d.1 d.0 j d.2) d.3 }

step : {A B : Type 0} {f : Form A} {h : A → Form B} {P : List Text → Type 0} {R : B → List Text → Type 0} →
    Quiet f → ((x : A) → Tells (h x) P R) → Tells (and_then f h) P R
step {P = P} i k = record { tells = λ p q y j d. (k d.0).tells d.1 q y (subst P (sym (i.same p d.1 d.0 d.2)) j) d.3 }

choice : {A : Type 0} {begins : Tok → Bool} {f h : Form A} {P : List Text → Type 0} {R : A → List Text → Type 0} → Tells f P R → Tells h P R → Tells (either begins f h) P R
choice {A} {begins = begins} {f = f} {h = h} {P = P} {R = R} i k = record { tells = λ p q y j d. go p q y j d }
  where
    go : (p q : Place) (y : A) → P p.names → Derives (either begins f h) p q y → R y q.names
    go p q y j (inl d) = i.tells p q y j d.1
    go p q y j (inr d) = k.tells p q y j d.1

given_as : {A : Type 0} {x : A} {P : List Text → Type 0} {R : A → List Text → Type 0} → ((ns : List Text) → P ns → R x ns) → Tells (pure x) P R
given_as {x = x} {R = R} k = record { tells = λ p q y j d. subst (λ z. R z q.names) d.1 (subst (R x) (ap (λ (r : Place). r.names) d.0) (k p.names j)) }

made : {A : Type 0} {P : List Text → Type 0} {R : A → List Text → Type 0} (from : Span) (make : Span → A) → ((s : Span) (ns : List Text) → P ns → R (make s) ns) → Tells (g.spanned from make) P R
made from make k = step last_quiet (λ to. given_as (λ ns j. k (expanded from to) ns j))

-- what a turn keeps
abbrev pub KeptNames : {A : Type 0} → (A → List Text → Type 0) → Turn A → List Text → Type 0
KeptNames I (go_on x) ns = I x ns
KeptNames I (over x) ns = I x ns

all_turns : {A B : Type 0} {held : SpannedTok → Option B} {t : A → B → Form (Turn A)} {x : A} (I : A → List Text → Type 0) → ((y : A) (h : B) → Tells (t y h) (I y) (KeptNames I)) → Tells (many held t x) (I x) I
all_turns {A} {B} {held = held} {t = t} I k = record { tells = λ p q y j d. go _ p q y j d }
  where
    go : (x : A) (p q : Place) (y : A) → I x p.names → Turns held (λ z h. Derives (t z h)) x p q y → I y q.names
    go x p q y j (no_turn e) = j
    go x p r y j (last_turn {h = h} {q = q} d f) = (k x h).tells q r (over y) (subst (I x) (sym (ap (λ (r : Place). r.names) d.behind)) j) f
    go x p s z j (turn {y = y} {h = h} {q = q} {r = r} d f m) = go y r s z ((k x h).tells q r (go_on y) (subst (I x) (sym (ap (λ (r : Place). r.names) d.behind)) j) f) m

-- ---- the names of blocks

-- the names of a statement's blocks
abbrev pub names : {C : Type 0} → Stmt C → List Text
names s = tree.block_names (bare_stmt s)

-- those of statements in order
abbrev pub all_names : {C : Type 0} → List (Stmt C) → List Text
all_names ss = tree.all_block_names (bare_stmts (stmts_of ss))

names_append : {C L : Type 0} (bs cs : List (tree.Block C L)) → tree.names_of_blocks (bs ++ cs) ≡ tree.names_of_blocks bs ++ tree.names_of_blocks cs
names_append [] cs = refl
names_append (b ∷ bs) cs = ap (λ xs. b.name ∷ xs) (names_append bs cs)

all_names_append : {C : Type 0} (ss : List (Stmt C)) (s : Stmt C) → all_names (ss ++ s ∷ []) ≡ all_names ss ++ names s
all_names_append [] s = ap tree.names_of_blocks (append-nil (tree.blocks (bare_stmt s)))
all_names_append (x ∷ ss) s =
    names_append (tree.blocks (bare_stmt x)) (tree.all_blocks (bare_stmts (stmts_of (ss ++ s ∷ []))))
    ∙ ap (λ xs. names x ++ xs) (all_names_append ss s)
    ∙ sym (append_assoc (names x) (all_names ss) (names s))
    ∙ ap (λ xs. xs ++ names s) (sym (names_append (tree.blocks (bare_stmt x)) (tree.all_blocks (bare_stmts (stmts_of ss)))))

-- after any names the form gives these names of what it derives
abbrev pub Names : {A : Type 0} → Form A → (A → List Text) → Type 0
Names f n = (a xs : List Text) → Tells f (Given a xs) (λ y. Given a (xs ++ n y))

-- no name may be given
abbrev T : SpannedTok → Type 0
T t = Unit {0}

abbrev S : Span → Type 0
S s = Unit {0}

spans : (t : SpannedTok) → T t → S t.1
spans t h = tt

joins : (s to : Span) → S s → S to → S (expanded s to)
joins s to h k = tt

fine : (p : Place) → Fine T S spans No p
fine p = record { tokens = all p.tokens; last = tt }
  where
    all : (ts : List SpannedTok) → All T S spans No ts
    all [] = tt
    all (t ∷ ts) = (tt, all ts)

-- nothing more is given
no_more_given : (a xs ns : List Text) → Given a xs ns → Given a (xs ++ []) ns
no_more_given a xs ns j = subst (λ ys. Given a ys ns) (sym (append-nil xs)) j

flag_given : {B : Type 0} (m : Tok) {h : Bool → Form B} {P : List Text → Type 0} {R : B → List Text → Type 0} → ((b : Bool) → Tells (h b) P R) → Tells (and_then (g.behind m (pure true) (pure false)) h) P R
flag_given m {P = P} k = in_turn (choice (step (next_quiet m) (λ s. given_as {R = λ b. P} (λ ns j. j))) (given_as {R = λ b. P} (λ ns j. j))) k

quiet : {A : Type 0} (f : Form A) (X : A → Type 1) → Ensured T S No f X → Quiet f
quiet f X e = record { same = λ p q x d. (quietly T S spans f X e p q x (fine p) d).names }

module _ {C : Type 0} where
  -- a form that gives none, and derives what has no block
  none_given : (f : Form (Stmt C)) (l : Bool) → Ensured T S No f (IsOnePart C T S spans joins No l true) → Names f names
  none_given f l e a xs = record {
    tells = λ p q x j d.
        let h = quietly T S spans f (IsOnePart C T S spans joins No l true) e p q x (fine p) d in
        let i : names x ≡ [] = ap tree.names_of_blocks h.is.it.free in
        subst (λ ns. Given a (xs ++ ns) q.names) (sym i) (subst (λ ys. Given a ys q.names) (sym (append-nil xs)) (subst (Given a xs) (sym h.names) j));
  }

  -- the names of two bodies
  two : {L : Type 0} (a xs : List Text) (bs cs : List (tree.Block C L)) (ns : List Text) → Given a (xs ++ tree.names_of_blocks bs ++ tree.names_of_blocks cs) ns → Given a (xs ++ tree.names_of_blocks (bs ++ cs)) ns
  two a xs bs cs ns j = subst (λ ys. Given a ys ns) (append_assoc xs (tree.names_of_blocks bs) (tree.names_of_blocks cs) ∙ ap (λ ys. xs ++ ys) (sym (names_append bs cs))) j

  -- ---- bodies

  module _ (a xs : List Text) where
    -- the names so far, and those of the parts
    abbrev So : List (Stmt C) → List Text → Type 0
    So ss ns = Given a (xs ++ all_names ss) ns

    also_so : (ss : List (Stmt C)) (s : Stmt C) (ns : List Text) → Given a (xs ++ all_names ss ++ names s) ns → So (ss ++ s ∷ []) ns
    also_so ss s ns j = subst (λ ys. Given a ys ns) (append_assoc xs (all_names ss) (names s) ∙ ap (λ ys. xs ++ ys) (sym (all_names_append ss s))) j

    also : (ss : List (Stmt C)) (f : Form (Stmt C)) → Names f names → Tells (form.also_part ss f) (So ss) (KeptNames So)
    also ss f h = in_turn (h a (xs ++ all_names ss)) (λ s. given_as (λ ns j. also_so ss s ns j))

    module _ (expr : Form (Expr C)) (he : Ensured T S No expr (IsOne C T S spans joins No)) (stmt : Form (Stmt C)) (hs : Names stmt names) where
      shown : (from : Span) → Names (form.shown expr from) names
      unfolding form.shown
      shown from b ys = step (quiet expr _ he) (λ e. in_turn (made {R = λ s ns. Given b (ys ++ names s) ns} from (output e) (λ s ns j. no_more_given b ys ns j)) (λ s. step (next_quiet variable_end) (λ _. given_as (λ ns j. j))))

      tag : Names (form.tag stmt) names
      unfolding form.tag
      tag b ys = in_turn (hs b ys) (λ s. step (next_quiet block_end) (λ _. given_as (λ ns j. j)))

      part : (e : Ends) (ss : List (Stmt C)) (t : SpannedTok) → Tells (form.part expr stmt e ss t) (So ss) (KeptNames So)
      part e ss (template_data t, s) = given_as (λ ns j. also_so ss (data_text t s) ns (no_more_given a (xs ++ all_names ss) ns j))
      part e ss (variable_start, s) = also ss (form.shown expr s) (shown s)
      part e ss (block_start, s) = choice (given_as (λ ns j. j)) (also ss (form.tag stmt) tag)
      part e ss _ = record { tells = λ p q y j d. absurd d }

      body : (e : Ends) → Tells (form.body expr stmt e) (Given a xs) So
      unfolding form.body
      body e = before (λ ns j. no_more_given a xs ns j) (all_turns So (λ ss t. part e ss t))

  -- ---- statements, of such parts

  module _ (p : Parts C) (he : Ensured T S No p.expr (IsOne C T S spans joins No)) (ho : Ensured T S No p.or (IsOne C T S spans joins No)) (hv : Ensured T S No p.value (IsOne C T S spans joins No))
      (hc : Ensured T S No p.chain (λ e. Holds (IsChain C T S spans joins No e)))
      (ht : (dotted : Bool) → Ensured T S No (p.targets dotted) (IsOneTarget C T S spans joins No)) (hw : Ensured T S No p.bound (IsOneTarget C T S spans joins No))
      (nb : (e : Ends) → Names (p.body e) all_names) (nl : (e : Ends) → Names (p.loop_body e) all_names) (nn : (e : Ends) → Names (p.block_body e) all_names)
      (hm : (e : Ends) → Ensured T S No (p.macro_body e) (AreAllParts C T S spans joins No false true)) (ni : (from : Span) → Names (p.if_ from) names) where
    closed_body : (e : Ends) (word : Tok) → Names (form.closed_body p e word) all_names
    unfolding form.closed_body
    closed_body e word a xs = step (next_quiet block_end) (λ _. in_turn (nb e a xs) (λ ss. step (next_quiet word) (λ _. given_as (λ ns j. j))))

    else_body : (e : Ends) (word : Tok) → Names (form.else_body p e word) all_names
    unfolding form.else_body
    else_body e word a xs = choice (step (next_quiet else_word) (λ _. closed_body e word a xs)) (step (next_quiet word) (λ _. given_as (λ ns j. no_more_given a xs ns j)))

    loop_body : Names (form.loop_body p) all_names
    unfolding form.loop_body
    loop_body a xs = step (next_quiet block_end) (λ _. nl at_endfor_or_else a xs)

    for_stmt : (from : Span) → Names (form.for_stmt p from) names
    unfolding form.for_stmt
    for_stmt from a xs =
        step (quiet (p.targets false) _ (ht false)) (λ t. step (next_quiet in_word) (λ _. step (quiet p.or _ ho) (λ e.
        step (quiet (form.loop_filter p.expr) _ (loop_filter C T S spans joins No p.expr he)) (λ only. flag_given recursive_word (λ again. in_turn (loop_body a xs) (λ ss. in_turn (else_body at_endfor endfor_word a (xs ++ all_names ss)) (λ other.
        made from (for_loop t e (optional_of only) again (stmts_of ss) (stmts_of other)) (λ s ns j. two a xs (tree.all_blocks (bare_stmts (stmts_of ss))) (tree.all_blocks (bare_stmts (stmts_of other))) ns j))))))))

    otherwise : Names (form.otherwise p) all_names
    unfolding form.otherwise
    otherwise a xs = choice
        (in_turn (step (next_quiet elif_word) (λ s. ni s a xs)) (λ x. given_as (λ ns j. subst (λ ys. Given a (xs ++ ys) ns) (sym (ap tree.names_of_blocks (append-nil (tree.blocks (bare_stmt x))))) j)))
        (else_body at_endif endif_word a xs)

    if_level : (from : Span) → Names (form.if_level p from) names
    unfolding form.if_level
    if_level from a xs = step (quiet p.or _ ho) (λ e. step (next_quiet block_end) (λ _. in_turn (nb at_endif_else_or_elif a xs) (λ ss. in_turn (otherwise a (xs ++ all_names ss)) (λ other.
        made from (if_cond e (stmts_of ss) (stmts_of other)) (λ s ns j. two a xs (tree.all_blocks (bare_stmts (stmts_of ss))) (tree.all_blocks (bare_stmts (stmts_of other))) ns j)))))

    with_stmt : (from : Span) → Names (form.with_stmt p from) names
    unfolding form.with_stmt
    with_stmt from a xs = step (quiet (form.bindings p.bound p.expr) _ (bindings C T S spans joins No p.expr he p.bound hw)) (λ bs. in_turn (closed_body at_endwith endwith_word a xs) (λ ss. made from (with_block bs (stmts_of ss)) (λ s ns j. j)))

    set_stmt : (from : Span) → Names (form.set_stmt p from) names
    unfolding form.set_stmt form.rest_of_set form.rest_of_set_block form.filters_if_any
    set_stmt from a xs = step (quiet (p.targets true) _ (ht true)) (λ t. choice
        (in_turn (choice (step (next_quiet pipe) (λ _. step (quiet p.chain _ hc) (λ e. given_as {R = λ o. Given a xs} (λ ns j. j)))) (given_as {R = λ o. Given a xs} (λ ns j. j)))
        (λ o. in_turn (closed_body at_endset endset_word a xs) (λ ss. made from (set_block t (optional_of o) (stmts_of ss)) (λ s ns j. j))))
        (step (next_quiet assign) (λ _. step (quiet p.value _ hv) (λ v. made from (assignment t v) (λ s ns j. no_more_given a xs ns j)))))

    autoescape_stmt : (from : Span) → Names (form.autoescape_stmt p from) names
    unfolding form.autoescape_stmt
    autoescape_stmt from a xs = step (quiet p.expr _ he) (λ e. in_turn (closed_body at_endautoescape endautoescape_word a xs) (λ ss. made from (auto_escape e (stmts_of ss)) (λ s ns j. j)))

    filter_stmt : (from : Span) → Names (form.filter_stmt p from) names
    unfolding form.filter_stmt
    filter_stmt from a xs = step (quiet p.chain _ hc) (λ e. in_turn (closed_body at_endfilter endfilter_word a xs) (λ ss. made from (filter_block e (stmts_of ss)) (λ s ns j. j)))

    block_name : (a xs : List Text) → Tells form.block_name (Given a xs) (λ x. Given a (xs ++ x ∷ []))
    unfolding form.block_name
    block_name a xs = step (quiet_one g.ident_and_span) (λ x. in_turn (new x.0) (λ _. given_as (λ ns j. j)))
      where
        new : (x : Text) → Tells (new_name x) (Given a xs) (λ _. Given a (xs ++ x ∷ []))
        new x = record { tells = λ p q y j d. given_append a xs p.names (x ∷ []) q.names j (d.0, sym (ap (λ (r : Place). r.names) d.1)) }

    block_body : (required : Bool) → Names (form.block_body p required) all_names
    unfolding form.block_body
    block_body true a xs = step (next_quiet block_end) (λ _. record {
      tells = λ p q ss j d.
          let h = quietly T S spans (form.blank_body {C = C}) (AreAllParts C T S spans joins No false true) (blank_body C T S spans joins No true) p q ss (fine p) d in
          subst (λ ns. Given a (xs ++ ns) q.names) (sym (ap tree.names_of_blocks h.is.it.free)) (no_more_given a xs q.names (subst (Given a xs) (sym h.names) j));
    })
    block_body false a xs = step (next_quiet block_end) (λ _. nn at_endblock a xs)

    block_stmt : (from : Span) → Names (form.block_stmt p from) names
    unfolding form.block_stmt form.end_name
    block_stmt from a xs = in_turn (block_name a xs) (λ x. in_turn (choice (step (next_quiet scoped_word) (λ _. given_as {R = λ _. Given a (xs ++ x ∷ [])} (λ ns j. j))) (given_as {R = λ _. Given a (xs ++ x ∷ [])} (λ ns j. j))) (λ _.
        flag_given required_word (λ required. in_turn (block_body required a (xs ++ x ∷ [])) (λ ss. step (next_quiet endblock_word) (λ _.
        in_turn (choice (step (next_quiet (ident x)) (λ _. given_as {R = λ _. Given a (xs ++ x ∷ [] ++ all_names ss)} (λ ns j. j))) (given_as {R = λ _. Given a (xs ++ x ∷ [] ++ all_names ss)} (λ ns j. j))) (λ _.
        made from (named_block x required (stmts_of ss)) (λ s ns j. subst (λ ys. Given a ys ns) (append_assoc xs (x ∷ []) (all_names ss)) j)))))))

    when_given : {A : Type 0} (b : Bool) {f : Form A} {P : List Text → Type 0} {R : A → List Text → Type 0} → Tells f P R → Tells (g.when b f) P R
    when_given true h = h
    when_given false h = record { tells = λ p q y j d. absurd d }

    stmt_of : (c : Context) (k : Keyword) (from : Span) → Names (form.stmt_of c p (k, from)) names
    unfolding form.break_stmt form.continue_stmt
    stmt_of c for_keyword from = for_stmt from
    stmt_of c if_keyword from = if_level from
    stmt_of c with_keyword from = with_stmt from
    stmt_of c set_keyword from = set_stmt from
    stmt_of c autoescape_keyword from = autoescape_stmt from
    stmt_of c filter_keyword from = filter_stmt from
    stmt_of c block_keyword from = λ a xs. when_given (not c.in_macro) (block_stmt from a xs)
    stmt_of c extends_keyword from = none_given (form.extends_stmt p.expr from) c.in_loop (extends_stmt C T S spans joins No p.expr he c.in_loop true from tt)
    stmt_of c include_keyword from = none_given (form.include_stmt p.expr from) c.in_loop (include_stmt C T S spans joins No p.expr he c.in_loop true from tt)
    stmt_of c import_keyword from = none_given (form.import_stmt p.expr from) c.in_loop (import_stmt C T S spans joins No p.expr he c.in_loop true from tt)
    stmt_of c from_keyword from = none_given (form.from_stmt p.expr from) c.in_loop (from_stmt C T S spans joins No p.expr he c.in_loop true from tt)
    stmt_of c macro_keyword from = none_given (form.macro_stmt p from) c.in_loop (macro_stmt C T S spans joins No p he hm c.in_loop true from tt)
    stmt_of c call_keyword from = none_given (form.call_stmt p from) c.in_loop (call_stmt C T S spans joins No p he hm c.in_loop true from tt)
    stmt_of c do_keyword from = none_given (form.do_stmt p.expr from) c.in_loop (do_stmt C T S spans joins No p.expr he c.in_loop true from tt)
    stmt_of c break_keyword from = none_given (form.break_stmt c from) c.in_loop (break_stmt C T S spans joins No (record c { in_macro = true }) from tt)
    stmt_of c continue_keyword from = none_given (form.continue_stmt c from) c.in_loop (continue_stmt C T S spans joins No (record c { in_macro = true }) from tt)

  module _ {F : Type 0} (f : Functions C F) where
    macro_stmts : (d : ℕ) → Ensured T S No (form.stmt_at f inside_macro d) (IsOnePart C T S spans joins No false true)
    macro_stmts d = stmt_at C T S spans joins No f inside_macro (λ e. cc) d

    -- a statement of each kind, where such statements and such an If nest
    any_names : (c : Context) (d : ℕ) → ((c' : Context) → Names (form.stmt_at f c' d) names) → ((from : Span) → Names ((form.within f d).if_ c from) names) →
        (k : Keyword) (from : Span) → Names (form.stmt_of c (form.parts_at f c d) (k, from)) names
    any_names c d hs hi k from = stmt_of (form.parts_at f c d)
        (expr_sound T S spans joins No f d)
        (or_level T S spans joins No f (below f d) (below_sound T S spans joins No f d))
        (value C T S spans joins No (expr_at f d) (expr_sound T S spans joins No f d))
        (chain C T S spans joins No (expr_at f d) (expr_sound T S spans joins No f d))
        (λ dotted. any_targets C T S spans joins No dotted d)
        (bound_target C T S spans joins No d)
        (λ e b ys. body b ys (expr_at f d) (expr_sound T S spans joins No f d) (form.stmt_at f c d) (hs c) e)
        (λ e b ys. body b ys (expr_at f d) (expr_sound T S spans joins No f d) (form.stmt_at f (inside_loop c) d) (hs (inside_loop c)) e)
        (λ e b ys. body b ys (expr_at f d) (expr_sound T S spans joins No f d) (form.stmt_at f (inside_block c) d) (hs (inside_block c)) e)
        (λ e. bodies C T S spans joins No false true (expr_at f d) (expr_sound T S spans joins No f d) (form.stmt_at f inside_macro d) (macro_stmts d) e)
        hi c k from

    mutual
      unfolding form.within form.stmt_level

      stmt_names : (c : Context) (d : ℕ) → Names (form.stmt_at f c d) names
      stmt_names c zero = λ a xs. record { tells = λ p q y j d. absurd d }
      stmt_names c (suc d) = λ a xs. step (quiet_one form.keyword_and_span) (λ k. any_names c d (λ c'. stmt_names c' d) (if_names c d) k.0 k.1 a xs)

      if_names : (c : Context) (d : ℕ) (from : Span) → Names ((form.within f d).if_ c from) names
      if_names c zero from = λ a xs. record { tells = λ p q y j d. absurd d }
      if_names c (suc d) from = any_names c d (λ c'. stmt_names c' d) (if_names c d) if_keyword from

    template_names : (d : ℕ) → Names (template_at f d) names
    unfolding template_at
    template_names d a xs = step last_quiet (λ from. in_turn (body a xs (expr_at f d) (expr_sound T S spans joins No f d) (form.stmt_at f outside d) (stmt_names outside d) at_end_of_text) (λ ss. made from (template (stmts_of ss)) (λ s ns j. j)))

    -- no two blocks of a template have one name
    pub template_distinct : (d : ℕ) (p q : Place) (t : Stmt C) → Derives (template_at f d) p q t → AreDistinct (tree.block_names (bare_stmt t))
    template_distinct d p q t h = distinct p.names (names t) q.names ((template_names d p.names []).tells p q t refl h)
