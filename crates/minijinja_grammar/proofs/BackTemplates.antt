-- What the form of templates derives is what the relation says: the names that are given along a
-- template are those of its blocks, and so no two of
-- them are one.
use Rattle.std.proofs.Common.{◌≡◌, inl, inr, ℕ, zero, suc, Bool, true, false, List, [], ◌∷◌, ◌++◌, Option, Some, None, refl, sym, ap, ◌∙◌, subst, append_assoc}
use Rattle.std.specs.Prelude.{not, codes}
use Rattle.minijinja_syntax.specs.Texts.{Text}
use Rattle.minijinja_value.specs.Values.{Functions}
use Rattle.minijinja_syntax.specs.declared.tokens.Span.{Span}
use Rattle.minijinja_syntax.specs.Streams.{SpannedTok, finished}
use Rattle.minijinja_syntax.specs.Tokens.{Tok, template_data, variable_start, block_start}
use Rattle.minijinja_tree.specs.Tree as bare
use Rattle.minijinja_tree.specs.SpannedTrees.{Expr, Args, optional_of, Stmt, bare_stmt, bare_stmts, stmts_of}
use Rattle.minijinja_tree.specs.SpannedTrees as stmt
use Rattle.minijinja_grammar.specs.Words.{recursive_word, required_word, endfor_word, endif_word, endwith_word, endset_word, endautoescape_word, endfilter_word, endmacro_word, endcall_word}
use Rattle.minijinja_grammar.specs.internal.Keywords.{Keyword, for_keyword, if_keyword, with_keyword, set_keyword, autoescape_keyword, filter_keyword, block_keyword, extends_keyword, include_keyword, import_keyword, from_keyword, macro_keyword, call_keyword, do_keyword, break_keyword, continue_keyword}
use Rattle.minijinja_grammar.specs.Places.{Place}
use Rattle.minijinja_grammar.specs.internal.Forms.{Turn, go_on, over, Form, pure, new_name, and_then, either, many, Turns, no_turn, last_turn, turn, Derives}
use Rattle.minijinja_grammar.specs.internal.ExprForms as g
use Rattle.minijinja_grammar.specs.internal.ExprForms.{below}
use Rattle.minijinja_syntax.specs.Positions.{expanded}
use Rattle.minijinja_grammar.specs.Derived.{max_depth, are_distinct, are_new, IsTemplateTree, template_tree}
use Rattle.minijinja_grammar.specs.Statements.{Ends, at_end_of_text, at_endfor_or_else, at_endfor, at_endif_else_or_elif, at_endif, at_endwith, at_endset, at_endautoescape, at_endfilter, at_endblock, at_endmacro, at_endcall, Context, outside, inside_loop, inside_block, inside_macro, IsBody}
use Rattle.minijinja_grammar.specs.internal.StmtForms as form
use Rattle.minijinja_grammar.specs.internal.StmtForms.{Parts, Within, within}
use Rattle.minijinja_grammar.specs.internal.TemplateForms.{template_at}
use Rattle.minijinja_grammar.proofs.TokenReading.{append_nil}
use Rattle.minijinja_grammar.proofs.BackClauses.{same_source}
use Rattle.minijinja_grammar.proofs.BackBodies.{Ended}
use Rattle.minijinja_grammar.proofs.BackStatements.{derived_is_body}
use Rattle.minijinja_grammar.proofs.BackNames.{Quiet, pure_quiet, one_quiet, last_quiet, then_quiet, either_quiet, after_quiet, flag_quiet, scoped_quiet, context_quiet, unless_quiet, end_name_quiet, imports_quiet, value_quiet, chain_quiet, filters_quiet, loop_filter_quiet, bindings_quiet, params_quiet, params_if_any_quiet, called_quiet, targets_quiet, bound_quiet, expr_quiet, or_quiet}
use Rattle.minijinja_grammar.proofs.GivenNames.{Given, given_append, names_append, given_distinct, given_new}

-- ---- what forms tell of the names given before and after

pub record Tells {A : Type 0} (f : Form A) (P : List Text → Type 0) (R : A → List Text → Type 0) : Type 0 where
  pub tells : (p q : Place) (x : A) → P p.names → Derives f p q x → R x q.names

-- what is told of more is told of less
before : {A : Type 0} {f : Form A} {P Q : List Text → Type 0} {R : A → List Text → Type 0} → ((ns : List Text) → P ns → Q ns) → Tells f Q R → Tells f P R
before k h = record { tells = λ p q x j d. h.tells p q x (k p.names j) d }

in_turn : {A B : Type 0} {f : Form A} {h : A → Form B} {P : List Text → Type 0} {Q : A → List Text → Type 0} {R : B → List Text → Type 0} →
    Tells f P Q → ((x : A) → Tells (h x) (Q x) R) → Tells (and_then f h) P R
in_turn i k = record { tells = λ p q y j d. (k d.0).tells d.1 q y (i.tells p d.1 d.0 j d.2) d.3 }

step : {A B : Type 0} {f : Form A} {h : A → Form B} {P : List Text → Type 0} {R : B → List Text → Type 0} →
    Quiet f → ((x : A) → Tells (h x) P R) → Tells (and_then f h) P R
step {P = P} i k = record { tells = λ p q y j d. (k d.0).tells d.1 q y (subst P (sym (i.same p d.1 d.0 d.2)) j) d.3 }

choice : {A : Type 0} {begins : Tok → Bool} {f h : Form A} {P : List Text → Type 0} {R : A → List Text → Type 0} → Tells f P R → Tells h P R → Tells (either begins f h) P R
choice {A} {begins = begins} {f = f} {h = h} {P = P} {R = R} i k = record { tells = λ p q y j d. go p q y j d }
  where
    go : (p q : Place) (y : A) → P p.names → Derives (either begins f h) p q y → R y q.names
    go p q y j (inl d) = i.tells p q y j d.1
    go p q y j (inr d) = k.tells p q y j d.1

given_as : {A : Type 0} {x : A} {P : List Text → Type 0} {R : A → List Text → Type 0} → ((ns : List Text) → P ns → R x ns) → Tells (pure x) P R
given_as {x = x} {R = R} k = record { tells = λ p q y j d. subst (λ z. R z q.names) d.1 (subst (R x) (ap (λ (r : Place). r.names) d.0) (k p.names j)) }

made : {A : Type 0} {P : List Text → Type 0} {R : A → List Text → Type 0} (from : Span) (make : Span → A) → ((s : Span) (ns : List Text) → P ns → R (make s) ns) → Tells (g.spanned from make) P R
made from make k = step last_quiet (λ to. given_as (λ ns j. k (expanded from to) ns j))

-- what a turn keeps
abbrev pub KeptNames : {A : Type 0} → (A → List Text → Type 0) → Turn A → List Text → Type 0
KeptNames I (go_on x) ns = I x ns
KeptNames I (over x) ns = I x ns

all_turns : {A B : Type 0} {held : SpannedTok → Option B} {t : A → B → Form (Turn A)} {x : A} (I : A → List Text → Type 0) → ((y : A) (h : B) → Tells (t y h) (I y) (KeptNames I)) → Tells (many held t x) (I x) I
all_turns {A} {B} {held = held} {t = t} I k = record { tells = λ p q y j d. go _ p q y j d }
  where
    go : (x : A) (p q : Place) (y : A) → I x p.names → Turns held (λ z h. Derives (t z h)) x p q y → I y q.names
    go x p q y j (no_turn e) = j
    go x p r y j (last_turn {h = h} {q = q} d f) = (k x h).tells q r (over y) (subst (I x) (sym (ap (λ (r : Place). r.names) d.behind)) j) f
    go x p s z j (turn {y = y} {h = h} {q = q} {r = r} d f m) = go y r s z ((k x h).tells q r (go_on y) (subst (I x) (sym (ap (λ (r : Place). r.names) d.behind)) j) f) m

no_name : {A : Type 0} {f : Form A} {P : List Text → Type 0} {R : A → List Text → Type 0} → ((p q : Place) (x : A) → Derives f p q x → ⊥) → Tells f P R
no_name k = record { tells = λ p q x j d. absurd (k p q x d) }

-- ---- the names of blocks

-- the names of a statement's blocks
abbrev pub names : {C : Type 0} → Stmt C → List Text
names s = bare.block_names (bare_stmt s)

-- those of statements in order
abbrev pub all_names : {C : Type 0} → List (Stmt C) → List Text
all_names ss = bare.all_block_names (bare_stmts (stmts_of ss))

all_names_append : {C : Type 0} (ss : List (Stmt C)) (s : Stmt C) → all_names (ss ++ s ∷ []) ≡ all_names ss ++ names s
all_names_append [] s = ap bare.names_of_blocks (append_nil (bare.blocks (bare_stmt s)))
all_names_append (x ∷ ss) s =
    names_append (bare.blocks (bare_stmt x)) (bare.all_blocks (bare_stmts (stmts_of (ss ++ s ∷ []))))
    ∙ ap (λ xs. names x ++ xs) (all_names_append ss s)
    ∙ sym (append_assoc (names x) (all_names ss) (names s))
    ∙ ap (λ xs. xs ++ names s) (sym (names_append (bare.blocks (bare_stmt x)) (bare.all_blocks (bare_stmts (stmts_of ss)))))

-- after any names the form gives these names of what it derives
abbrev pub Names : {A : Type 0} → Form A → (A → List Text) → Type 0
Names f n = (a xs : List Text) → Tells f (Given a xs) (λ y. Given a (xs ++ n y))

-- nothing more is given
none_more : (a xs ns : List Text) → Given a xs ns → Given a (xs ++ []) ns
none_more a xs ns j = subst (λ ys. Given a ys ns) (sym (append_nil xs)) j

when_names : {A : Type 0} (b : Bool) {f : Form A} {P : List Text → Type 0} {R : A → List Text → Type 0} → Tells f P R → Tells (g.when b f) P R
when_names true h = h
when_names false h = record { tells = λ p q y j d. absurd d }

module _ {C : Type 0} where
  -- the names of two bodies
  two : {L : Type 0} (a xs : List Text) (bs cs : List (bare.Block C L)) (ns : List Text) → Given a (xs ++ bare.names_of_blocks bs ++ bare.names_of_blocks cs) ns → Given a (xs ++ bare.names_of_blocks (bs ++ cs)) ns
  two a xs bs cs ns j = subst (λ ys. Given a ys ns) (append_assoc xs (bare.names_of_blocks bs) (bare.names_of_blocks cs) ∙ ap (λ ys. xs ++ ys) (sym (names_append bs cs))) j

  -- ---- bodies

  module _ (a xs : List Text) where
    -- the names so far, and those of the parts
    abbrev So : List (Stmt C) → List Text → Type 0
    So ss ns = Given a (xs ++ all_names ss) ns

    also_so : (ss : List (Stmt C)) (s : Stmt C) (ns : List Text) → Given a (xs ++ all_names ss ++ names s) ns → So (ss ++ s ∷ []) ns
    also_so ss s ns j = subst (λ ys. Given a ys ns) (append_assoc xs (all_names ss) (names s) ∙ ap (λ ys. xs ++ ys) (sym (all_names_append ss s))) j

    also : (ss : List (Stmt C)) (f : Form (Stmt C)) → Names f names → Tells (form.also_part ss f) (So ss) (KeptNames So)
    also ss f h = in_turn (h a (xs ++ all_names ss)) (λ s. given_as (λ ns j. also_so ss s ns j))

    module _ (expr : Form (Expr C)) (he : Quiet expr) (nested : Form (Stmt C)) (hs : Names nested names) where
      shown : (from : Span) → Names (form.shown expr from) names
      unfolding form.shown
      shown from b ys = step he (λ e. in_turn (made {R = λ s ns. Given b (ys ++ names s) ns} from (stmt.output e) (λ s ns j. none_more b ys ns j)) (λ s. step one_quiet (λ _. given_as (λ ns j. j))))

      tag : Names (form.tag nested) names
      unfolding form.tag
      tag b ys = in_turn (hs b ys) (λ s. step one_quiet (λ _. given_as (λ ns j. j)))

      part : (e : Ends) (ss : List (Stmt C)) (t : SpannedTok) → Tells (form.part expr nested e ss t) (So ss) (KeptNames So)
      part e ss (template_data t, s) = given_as (λ ns j. also_so ss (stmt.data_text t s) ns (none_more a (xs ++ all_names ss) ns j))
      part e ss (variable_start, s) = also ss (form.shown expr s) (shown s)
      part e ss (block_start, s) = choice (given_as (λ ns j. j)) (also ss (form.tag nested) tag)
      part e ss _ = record { tells = λ p q y j d. absurd d }

      body : (e : Ends) → Tells (form.body expr nested e) (Given a xs) So
      unfolding form.body
      body e = before (λ ns j. none_more a xs ns j) (all_turns So (λ ss t. part e ss t))

  -- ---- statements, of such parts

  module _ {F : Type 0} (f : Functions C F) (d : ℕ) (w : Within C) (ns : (c : Context) → Names (w.stmt c) names) (ni : (c : Context) (from : Span) → Names (w.if_ c from) names) where
    abbrev parts : Context → Parts C
    parts c = form.parts_of f d (below f d) w c

    bodies : (c : Context) (e : Ends) → Names (form.body (g.expr_at f d) (w.stmt c) e) all_names
    bodies c e a xs = body a xs (g.expr_at f d) (expr_quiet f d) (w.stmt c) (ns c) e

    closed_body : (c : Context) (e : Ends) (word : Tok) → Names (form.closed_body (parts c) e word) all_names
    unfolding form.closed_body
    closed_body c e word a xs = step one_quiet (λ _. in_turn (bodies c e a xs) (λ ss. step one_quiet (λ _. given_as (λ ns j. j))))

    macro_body : (c : Context) (e : Ends) (word : Tok) → Names (form.macro_body (parts c) e word) all_names
    unfolding form.macro_body
    macro_body c e word a xs = step one_quiet (λ _. in_turn (bodies inside_macro e a xs) (λ ss. step one_quiet (λ _. given_as (λ ns j. j))))

    else_body : (c : Context) (e : Ends) (word : Tok) → Names (form.else_body (parts c) e word) all_names
    unfolding form.else_body
    else_body c e word a xs = choice (step one_quiet (λ _. closed_body c e word a xs)) (step one_quiet (λ _. given_as (λ ns j. none_more a xs ns j)))

    loop_body : (c : Context) → Names (form.loop_body (parts c)) all_names
    unfolding form.loop_body
    loop_body c a xs = step one_quiet (λ _. bodies (inside_loop c) at_endfor_or_else a xs)

    for_stmt : (c : Context) (from : Span) → Names (form.for_stmt (parts c) from) names
    unfolding form.for_stmt
    for_stmt c from a xs = step (targets_quiet false d) (λ t. step one_quiet (λ _. step (or_quiet f d) (λ e. step (loop_filter_quiet (g.expr_at f d) (expr_quiet f d)) (λ only. step (flag_quiet recursive_word) (λ again.
        in_turn (loop_body c a xs) (λ ss. in_turn (else_body c at_endfor endfor_word a (xs ++ all_names ss)) (λ other.
        made from (stmt.for_loop t e (optional_of only) again (stmts_of ss) (stmts_of other)) (λ s ns j. two a xs (bare.all_blocks (bare_stmts (stmts_of ss))) (bare.all_blocks (bare_stmts (stmts_of other))) ns j))))))))

    otherwise : (c : Context) → Names (form.otherwise (parts c)) all_names
    unfolding form.otherwise
    otherwise c a xs = choice (in_turn (step one_quiet (λ at. ni c at a xs)) (λ s. given_as (λ ns j. subst (λ ys. Given a (xs ++ ys) ns) (sym (all_names_append [] s)) j))) (else_body c at_endif endif_word a xs)

    if_level : (c : Context) (from : Span) → Names (form.if_level (parts c) from) names
    unfolding form.if_level
    if_level c from a xs = step (or_quiet f d) (λ e. step one_quiet (λ _. in_turn (bodies c at_endif_else_or_elif a xs) (λ ss. in_turn (otherwise c a (xs ++ all_names ss)) (λ other.
        made from (stmt.if_cond e (stmts_of ss) (stmts_of other)) (λ s ns j. two a xs (bare.all_blocks (bare_stmts (stmts_of ss))) (bare.all_blocks (bare_stmts (stmts_of other))) ns j)))))

    with_stmt : (c : Context) (from : Span) → Names (form.with_stmt (parts c) from) names
    unfolding form.with_stmt
    with_stmt c from a xs = step (bindings_quiet (g.expr_at f d) (expr_quiet f d) (form.bound_target d) (bound_quiet d)) (λ bs. in_turn (closed_body c at_endwith endwith_word a xs) (λ ss.
        made from (stmt.with_block bs (stmts_of ss)) (λ s ns j. j)))

    set_stmt : (c : Context) (from : Span) → Names (form.set_stmt (parts c) from) names
    unfolding form.set_stmt form.rest_of_set form.rest_of_set_block
    set_stmt c from a xs = step (targets_quiet true d) (λ t. choice
        (step (filters_quiet (form.chain (g.expr_at f d)) (chain_quiet (g.expr_at f d) (expr_quiet f d))) (λ o. in_turn (closed_body c at_endset endset_word a xs) (λ ss. made from (stmt.set_block t (optional_of o) (stmts_of ss)) (λ s ns j. j))))
        (step one_quiet (λ _. step (value_quiet (g.expr_at f d) (expr_quiet f d)) (λ v. made from (stmt.assignment t v) (λ s ns j. none_more a xs ns j)))))

    autoescape_stmt : (c : Context) (from : Span) → Names (form.autoescape_stmt (parts c) from) names
    unfolding form.autoescape_stmt
    autoescape_stmt c from a xs = step (expr_quiet f d) (λ e. in_turn (closed_body c at_endautoescape endautoescape_word a xs) (λ ss. made from (stmt.auto_escape e (stmts_of ss)) (λ s ns j. j)))

    filter_stmt : (c : Context) (from : Span) → Names (form.filter_stmt (parts c) from) names
    unfolding form.filter_stmt
    filter_stmt c from a xs = step (chain_quiet (g.expr_at f d) (expr_quiet f d)) (λ e. in_turn (closed_body c at_endfilter endfilter_word a xs) (λ ss. made from (stmt.filter_block e (stmts_of ss)) (λ s ns j. j)))

    block_name : (a xs : List Text) → Tells form.block_name (Given a xs) (λ x. Given a (xs ++ x ∷ []))
    unfolding form.block_name
    block_name a xs = step one_quiet (λ x. in_turn (new x.0) (λ _. given_as (λ ns j. j)))
      where
        new : (x : Text) → Tells (new_name x) (Given a xs) (λ _. Given a (xs ++ x ∷ []))
        new x = record { tells = λ p q y j d. given_append a xs p.names (x ∷ []) q.names j (d.0, sym (ap (λ (r : Place). r.names) d.1)) }

    blank_part : (a xs : List Text) (ss : List (Stmt C)) (u : SpannedTok) → Tells (form.blank_part ss u) (So a xs ss) (KeptNames (So a xs))
    blank_part a xs ss (template_data t, s) = when_names _ (given_as (λ ns j. also_so a xs ss (stmt.data_text t s) ns (none_more a (xs ++ all_names ss) ns j)))
    blank_part a xs ss (block_start, s) = given_as (λ ns j. j)
    blank_part a xs ss (_, s) = record { tells = λ p q y j d. absurd d }

    blank_body : Names (form.blank_body {C = C}) all_names
    unfolding form.blank_body
    blank_body a xs = before (λ ns j. none_more a xs ns j) (all_turns (So a xs) (λ ss u. blank_part a xs ss u))

    block_body : (c : Context) (required : Bool) → Names (form.block_body (parts c) required) all_names
    unfolding form.block_body
    block_body c true a xs = step one_quiet (λ _. blank_body a xs)
    block_body c false a xs = step one_quiet (λ _. bodies (inside_block c) at_endblock a xs)

    block_stmt : (c : Context) (from : Span) → Names (form.block_stmt (parts c) from) names
    unfolding form.block_stmt
    block_stmt c from a xs = in_turn (block_name a xs) (λ x. step scoped_quiet (λ _. step (flag_quiet required_word) (λ required. in_turn (block_body c required a (xs ++ x ∷ [])) (λ ss. step one_quiet (λ _. step (end_name_quiet x) (λ _.
        made from (stmt.named_block x required (stmts_of ss)) (λ s ns j. subst (λ ys. Given a ys ns) (append_assoc xs (x ∷ []) (all_names ss)) j)))))))

    macro_stmt : (c : Context) (from : Span) → Names (form.macro_stmt (parts c) from) names
    unfolding form.macro_stmt
    macro_stmt c from a xs = step one_quiet (λ x. step one_quiet (λ _. step (params_quiet (g.expr_at f d) (expr_quiet f d)) (λ ps. in_turn (macro_body c at_endmacro endmacro_word a xs) (λ ss.
        made from (λ s. stmt.declare (stmt.macro_of x.0 ps ss s)) (λ s ns j. j)))))

    call_stmt : (c : Context) (from : Span) → Names (form.call_stmt (parts c) from) names
    unfolding form.call_stmt
    call_stmt c from a xs = step (params_if_any_quiet (g.expr_at f d) (expr_quiet f d)) (λ ps. step (called_quiet (g.expr_at f d) (expr_quiet f d)) (λ o. in_turn (macro_body c at_endcall endcall_word a xs) (λ ss.
        made from (λ s. stmt.call_block o.0 o.1 o.2 (stmt.macro_of (codes "caller") ps ss s) s) (λ s ns j. j))))

    extends_stmt : (from : Span) → Names (form.extends_stmt (g.expr_at f d) from) names
    unfolding form.extends_stmt
    extends_stmt from a xs = step (expr_quiet f d) (λ e. made from (stmt.extends e) (λ s ns j. none_more a xs ns j))

    include_stmt : (from : Span) → Names (form.include_stmt (g.expr_at f d) from) names
    unfolding form.include_stmt
    include_stmt from a xs = step (expr_quiet f d) (λ e. step context_quiet (λ had. step (either_quiet (after_quiet (λ s. then_quiet (then_quiet one_quiet (λ r. unless_quiet had)) (λ r. pure_quiet))) pure_quiet) (λ missing.
        made from (stmt.include e missing) (λ s ns j. none_more a xs ns j))))

    import_stmt : (from : Span) → Names (form.import_stmt (g.expr_at f d) from) names
    unfolding form.import_stmt
    import_stmt from a xs = step (expr_quiet f d) (λ e. step one_quiet (λ _. step (expr_quiet f d) (λ t. when_names (form.is_storable t) (step context_quiet (λ had. made from (stmt.import_all e t) (λ s ns j. none_more a xs ns j))))))

    from_stmt : (from : Span) → Names (form.from_stmt (g.expr_at f d) from) names
    unfolding form.from_stmt
    from_stmt from a xs = step (expr_quiet f d) (λ e. step one_quiet (λ _. step imports_quiet (λ ms. step context_quiet (λ had. made from (stmt.from_import e ms) (λ s ns j. none_more a xs ns j)))))

    do_stmt : (from : Span) → Names (form.do_stmt (g.expr_at f d) from) names
    unfolding form.do_stmt
    do_stmt from a xs = step (expr_quiet f d) (λ e. go (form.call_of e))
      where
        go : (o : Option (Expr C × Args C × Span)) → Tells (form.done from o) (Given a xs) (λ y. Given a (xs ++ names y))
        go None = record { tells = λ p q y j d. absurd d }
        go (Some o) = made from (stmt.do_call o.0 o.1 o.2) (λ s ns j. none_more a xs ns j)

    stmt_of : (c : Context) (k : Keyword) (from : Span) → Names (form.stmt_of c (parts c) (k, from)) names
    unfolding form.break_stmt form.continue_stmt
    stmt_of c for_keyword from = for_stmt c from
    stmt_of c if_keyword from = if_level c from
    stmt_of c with_keyword from = with_stmt c from
    stmt_of c set_keyword from = set_stmt c from
    stmt_of c autoescape_keyword from = autoescape_stmt c from
    stmt_of c filter_keyword from = filter_stmt c from
    stmt_of c block_keyword from = λ a xs. when_names (not c.in_macro) (block_stmt c from a xs)
    stmt_of c extends_keyword from = extends_stmt from
    stmt_of c include_keyword from = include_stmt from
    stmt_of c import_keyword from = import_stmt from
    stmt_of c from_keyword from = from_stmt from
    stmt_of c macro_keyword from = macro_stmt c from
    stmt_of c call_keyword from = call_stmt c from
    stmt_of c do_keyword from = do_stmt from
    stmt_of c break_keyword from = λ a xs. when_names c.in_loop (made from stmt.break_loop (λ s ns j. none_more a xs ns j))
    stmt_of c continue_keyword from = λ a xs. when_names c.in_loop (made from stmt.continue_loop (λ s ns j. none_more a xs ns j))

    stmt_level : (c : Context) → Names (form.stmt_level c (parts c)) names
    unfolding form.stmt_level
    stmt_level c a xs = step one_quiet (λ k. stmt_of c k.0 k.1 a xs)

  module _ {F : Type 0} (f : Functions C F) where
    within_names : (d : ℕ) → ((c : Context) → Names ((within f d).stmt c) names) × ((c : Context) (from : Span) → Names ((within f d).if_ c from) names)
    unfolding within
    within_names zero = (λ c a xs. record { tells = λ p q y j d. absurd d }, λ c from a xs. record { tells = λ p q y j d. absurd d })
    within_names (suc d) = (stmt_level f d (within f d) (within_names d).0 (within_names d).1, if_level f d (within f d) (within_names d).0 (within_names d).1)

    template_names : (d : ℕ) → Names (template_at f d) names
    unfolding template_at
    template_names d a xs = step last_quiet (λ from. in_turn (body a xs (g.expr_at f d) (expr_quiet f d) (form.stmt_at f outside d) ((within_names d).0 outside) at_end_of_text) (λ ss. made from (stmt.template (stmts_of ss)) (λ s ns j. j)))

    -- a template's statements, as far as the tokens go
    pub record IsTemplate (p : Place) (x : bare.Stmt C (Unit {0})) : Type 0 where
      pub inside : bare.Stmts C (Unit {0})
      pub is : x ≡ bare.template inside
      pub body : IsBody f p.source outside at_end_of_text max_depth p.tokens [] inside
      pub distinct : are_distinct (bare.block_names x) ≡ true
      pub new : are_new p.names (bare.block_names x) ≡ true

    template_back : (p q : Place) (x : Stmt C) → Derives (template_at f max_depth) p q x → q.tokens ≡ [] → IsTemplate p (bare_stmt x)
    unfolding template_at
    template_back p q x (from, q₀, (a, l), (ss, q₁, u, (to, q₂, (j, o), (k, m)))) n =
        let given : Given p.names (bare.block_names (bare_stmt x)) q.names =
        (template_names max_depth p.names []).tells p q x refl (from, q₀, (a, l), (ss, q₁, u, (to, q₂, (j, o), (k, m)))) in
        record {
          inside = bare_stmts (stmts_of ss);
          is = ap bare_stmt (sym m);
          body = go (derived_is_body f p.source outside at_end_of_text max_depth q₀ q₁ ss (same_source p q₀ a refl) u);
          distinct = given_distinct p.names (names x) q.names given;
          new = given_new p.names (names x) q.names given;
        }
      where
        go : Ended f p.source outside max_depth at_end_of_text q₀.tokens q₁.tokens (bare_stmts (stmts_of ss)) → IsBody f p.source outside at_end_of_text max_depth p.tokens [] (bare_stmts (stmts_of ss))
        go (inl b) = subst (λ (z : Place). IsBody f p.source outside at_end_of_text max_depth z.tokens [] (bare_stmts (stmts_of ss))) (sym a)
            (subst (λ us. IsBody f p.source outside at_end_of_text max_depth q₀.tokens us (bare_stmts (stmts_of ss))) (ap (λ (z : Place). z.tokens) (j ∙ k) ∙ n) b)
        go (inr b) = let lie : false ≡ true = b.1 in cc

    template_is : (p : Place) (x : bare.Stmt C (Unit {0})) → p.ending ≡ finished → IsTemplate p x → IsTemplateTree f p x
    template_is p x e a = subst (IsTemplateTree f p) (sym a.is)
        (template_tree e a.body (subst (λ z. are_distinct (bare.block_names z) ≡ true) a.is a.distinct) (subst (λ z. are_new p.names (bare.block_names z) ≡ true) a.is a.new))

    -- what the form of templates derives of all tokens of an unrefused text is its tree, but for spans
    pub derived_is_template : (p q : Place) (x : Stmt C) → p.ending ≡ finished → Derives (template_at f max_depth) p q x → q.tokens ≡ [] → IsTemplateTree f p (bare_stmt x)
    derived_is_template p q x i u n = template_is p (bare_stmt x) i (template_back p q x u n)
