-- The words that begin statements, and the calls that some of them want.
use Rattle.std.proofs.Common.{◌≡◌, Bool, true, false, ◌∷◌, Option, Some, None, refl, sym, ap, ◌∙◌}
use Rattle.std.specs.Prelude.{if◌then◌else◌, codes}
use Rattle.std.specs.Str.{bytes_eq}
use Rattle.std.specs.Option.{option_map}
use Rattle.std.proofs.lemmas.Slice.Eq.{bytes_eq-Decides}
use Rattle.minijinja_syntax.specs.Texts.{Text}
use Rattle.minijinja_syntax.specs.declared.tokens.Span.{Span}
use Rattle.minijinja_syntax.specs.Streams.{SpannedTok}
use Rattle.minijinja_syntax.specs.Tokens.{ident}
use Rattle.minijinja_tree.specs.Tree as bare
use Rattle.minijinja_tree.specs.SpannedTrees as tree
use Rattle.minijinja_tree.specs.SpannedTrees.{Expr, Args, bare_expr, bare_args, Stmt, bare_stmt}
use Rattle.minijinja_grammar.specs.internal.Keywords.{Keyword, for_keyword, if_keyword, with_keyword, set_keyword, autoescape_keyword, filter_keyword, block_keyword, extends_keyword, include_keyword, import_keyword, from_keyword, macro_keyword, call_keyword, do_keyword, break_keyword, continue_keyword, keyword_of}
use Rattle.minijinja_grammar.specs.Places.{Place}
use Rattle.minijinja_grammar.specs.internal.Forms.{Takes, Derives}
use Rattle.minijinja_grammar.specs.internal.StmtForms as form

-- ---- words

abbrev pub word_of : Keyword → Text
word_of for_keyword = codes "for"
word_of if_keyword = codes "if"
word_of with_keyword = codes "with"
word_of set_keyword = codes "set"
word_of autoescape_keyword = codes "autoescape"
word_of filter_keyword = codes "filter"
word_of block_keyword = codes "block"
word_of extends_keyword = codes "extends"
word_of include_keyword = codes "include"
word_of import_keyword = codes "import"
word_of from_keyword = codes "from"
word_of macro_keyword = codes "macro"
word_of call_keyword = codes "call"
word_of do_keyword = codes "do"
word_of break_keyword = codes "break"
word_of continue_keyword = codes "continue"

-- such a word, or one that a later test finds
this_or_later : (x : Text) (j k : Keyword) (o : Option Keyword) → (if bytes_eq x (word_of j) then Some j else o) ≡ Some k → (o ≡ Some k → x ≡ word_of k) → x ≡ word_of k
this_or_later x j k o e later = go (bytes_eq x (word_of j)) refl e
  where
    some_is : Some j ≡ Some k → j ≡ k
    some_is i = cc

    go : (b : Bool) → bytes_eq x (word_of j) ≡ b → (if b then Some j else o) ≡ Some k → x ≡ word_of k
    go true i l = (bytes_eq-Decides x (word_of j)).0 i ∙ ap word_of (some_is l)
    go false i l = later l

keyword_is : (x : Text) (k : Keyword) → keyword_of x ≡ Some k → x ≡ word_of k
keyword_is x k e =
    this_or_later x for_keyword k _ e (λ e.
    this_or_later x if_keyword k _ e (λ e.
    this_or_later x with_keyword k _ e (λ e.
    this_or_later x set_keyword k _ e (λ e.
    this_or_later x autoescape_keyword k _ e (λ e.
    this_or_later x filter_keyword k _ e (λ e.
    this_or_later x block_keyword k _ e (λ e.
    this_or_later x extends_keyword k _ e (λ e.
    this_or_later x include_keyword k _ e (λ e.
    this_or_later x import_keyword k _ e (λ e.
    this_or_later x from_keyword k _ e (λ e.
    this_or_later x macro_keyword k _ e (λ e.
    this_or_later x call_keyword k _ e (λ e.
    this_or_later x do_keyword k _ e (λ e.
    this_or_later x break_keyword k _ e (λ e.
    this_or_later x continue_keyword k _ e (λ e.
    cc))))))))))))))))

-- the word of a statement that was taken
pub keyword_was : (p q : Place) (k : Keyword × Span) → Takes form.keyword_and_span p q k → p.tokens ≡ (ident (word_of k.0), k.1) ∷ q.tokens
keyword_was p q k d = go d.token refl d.holds
  where
    some_is : (y z : Keyword × Span) → Some y ≡ Some z → y ≡ z
    some_is y z e = cc

    pick : (x : Text) (s : Span) → d.token ≡ (ident x, s) → (o : Option Keyword) → keyword_of x ≡ o → option_map (λ k. (k, s)) o ≡ Some k → p.tokens ≡ (ident (word_of k.0), k.1) ∷ q.tokens
    pick x s i None j e = cc
    pick x s i (Some w) j e =
        let l : (w, s) ≡ k = some_is (w, s) k e in
        d.next ∙ rw (i, d.behind, sym l, keyword_is x w j) refl

    go : (u : SpannedTok) → d.token ≡ u → form.keyword_and_span u ≡ Some k → p.tokens ≡ (ident (word_of k.0), k.1) ∷ q.tokens
    go (ident x, s) i e = pick x s i (keyword_of x) refl e
    go (_, s) i e = cc

-- ---- calls

-- an expression that is a call
pub call_was : {C : Type 0} (y : Expr C) (p q : Place) (c : Expr C × Args C × Span) → Derives (form.call_in (form.call_of y)) p q c → (p ≡ q) × (bare_expr y ≡ bare.call (bare_expr c.0) (bare_args c.1))
call_was (tree.call e xs s) p q c (k, m) = (k, ap (λ (z : Expr _ × Args _ × Span). bare.call (bare_expr z.0) (bare_args z.1)) m)
call_was _ p q c w = absurd w

pub call_done : {C : Type 0} (y : Expr C) (from : Span) (p q : Place) (x : Stmt C) → Derives (form.done from (form.call_of y)) p q x →
    (e : bare.Expr C) × (xs : bare.Args C) × (p ≡ q) × (bare_expr y ≡ bare.call e xs) × (bare_stmt x ≡ bare.do_call e xs)
call_done (tree.call e xs s) from p q x (to, q₁, (j, _), (k, m)) = (bare_expr e, bare_args xs, j ∙ k, refl, ap bare_stmt (sym m))
call_done _ from p q x w = absurd w
