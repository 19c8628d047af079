-- The arguments of calls, one at a time.
use Rattle.std.proofs.Common.{◌≡◌, ◌∙◌, Bool, true, false, List, [], ◌∷◌, ◌++◌, ◌||◌, if◌then◌else◌, Some, None, refl, sym, ap}
use Rattle.minijinja_syntax.specs.Texts.{Text}
use Rattle.minijinja_syntax.specs.Tokens.{assign, comma, mul, pow}
use Rattle.minijinja_tree.specs.SpannedTrees.{Expr, Arg, positional, starred, keyword, double_starred}
use Rattle.minijinja_grammar.specs.Words.{begins_arg}
use Rattle.minijinja_grammar.specs.Places.{Place}
use Rattle.minijinja_grammar.specs.internal.Forms.{Form, pure, Read, got, short, wrong, read_then, misfit, reads, ◌>>=◌}
use Rattle.minijinja_grammar.specs.Ahead.{comes}
use Rattle.minijinja_grammar.specs.internal.ExprForms as form
use Rattle.minijinja_grammar.specs.internal.ExprForms.{has_named, is_allowed, is_named, name_of_variable, when}
use Rattle.minijinja_parser_tokens.specs.internal.Reads.{eaten}
use Rattle.minijinja_parser_tokens.proofs.Turned.{behind_is, items_more, items_done, under}

module _ {C : Type 0} (expr : Form (Expr C)) where
  pub rest_of_arg_is : (e : Expr C) (p : Place) → reads (form.rest_of_arg expr e) p ≡
      read_then (eaten assign p) (λ b q. if b then reads (form.named expr (name_of_variable e)) q else got (positional e) q)
  unfolding reads
  rest_of_arg_is e p = behind_is assign (form.named expr (name_of_variable e)) (pure (positional e)) p

  -- where an `=` comes, and before it stands no variable, or one
  pub named_none : (e : Expr C) (p q : Place) → eaten assign p ≡ got true q → name_of_variable e ≡ None → reads (form.rest_of_arg expr e) p ≡ misfit q q.tokens
  unfolding reads
  named_none e p q h i = rest_of_arg_is e p ∙ rw (h, i) refl

  pub named_some : (e : Expr C) (x : Text) (p q : Place) → eaten assign p ≡ got true q → name_of_variable e ≡ Some x →
      reads (form.rest_of_arg expr e) p ≡ read_then (reads expr q) (λ v r. got (keyword x v) r)
  unfolding reads
  named_some e x p q h i = rest_of_arg_is e p ∙ rw (h, i) refl

  pub arg_is : (p : Place) → reads (form.arg expr) p ≡
      read_then (eaten mul p) (λ b q. if b then read_then (reads expr q) (λ e r. got (starred e) r)
      else read_then (eaten pow q) (λ c r. if c then read_then (reads expr r) (λ e s. got (double_starred e) s) else read_then (reads expr r) (λ e s. reads (form.rest_of_arg expr e) s)))
  unfolding form.arg reads
  arg_is p = behind_is mul (expr >>= (λ e. pure (starred e))) others p ∙ under (eaten mul p) _ _ chosen
    where
      others : Form (Arg C)
      others = form.behind pow (expr >>= (λ e. pure (double_starred e))) (expr >>= form.rest_of_arg expr)

      chosen : (b : Bool) (q : Place) →
          (if b then read_then (reads expr q) (λ e r. got (starred e) r) else reads others q) ≡
          (if b then read_then (reads expr q) (λ e r. got (starred e) r)
          else read_then (eaten pow q) (λ c r. if c then read_then (reads expr r) (λ e s. got (double_starred e) s) else read_then (reads expr r) (λ e s. reads (form.rest_of_arg expr e) s)))
      chosen true q = refl
      chosen false q = behind_is pow (expr >>= (λ e. pure (double_starred e))) (expr >>= form.rest_of_arg expr) q

  pub arg_items_more : (xs : List (Arg C)) (p : Place) → comes begins_arg p.tokens ≡ true → reads (form.arg_items expr xs) p ≡
      read_then (reads (form.arg expr) p) (λ x q.
      if is_allowed xs x then read_then (eaten comma q) (λ b s. if b then reads (form.arg_items expr (xs ++ x ∷ [])) s else got (xs ++ x ∷ []) s)
      else misfit q q.tokens)
  unfolding form.arg_items form.also_arg reads
  arg_items_more xs p h = items_more begins_arg (form.also_arg expr) xs p h ∙ go (reads (form.arg expr) p)
    where
      others : List (Arg C) → Place → Read (List (Arg C))
      others ys q = read_then (eaten comma q) (λ b s. if b then reads (form.arg_items expr ys) s else got ys s)

      none : (q : Place) (ts : List _) → read_then (misfit q ts) others ≡ misfit q ts
      none q [] = refl
      none q (t ∷ ts) = refl

      fits : (b : Bool) (x : Arg C) (q : Place) → read_then (reads (when b (pure (xs ++ x ∷ []))) q) others ≡ (if b then others (xs ++ x ∷ []) q else misfit q q.tokens)
      fits true x q = refl
      fits false x q = none q q.tokens

      go : (o : Read (Arg C)) → read_then (read_then o (λ x q. reads (when (is_allowed xs x) (pure (xs ++ x ∷ []))) q)) others ≡
          read_then o (λ x q. if is_allowed xs x then others (xs ++ x ∷ []) q else misfit q q.tokens)
      go (got x q) = fits (is_allowed xs x) x q
      go (short q) = refl
      go (wrong q) = refl

  pub arg_items_done : (xs : List (Arg C)) (p : Place) → comes begins_arg p.tokens ≡ false → reads (form.arg_items expr xs) p ≡ got xs p
  unfolding form.arg_items
  arg_items_done xs p h = items_done begins_arg (form.also_arg expr) xs p h

  -- an argument more that may stand there
  pub arg_allowed : (xs : List (Arg C)) (p q : Place) (x : Arg C) → true ≡ comes begins_arg p.tokens →
      reads (form.arg expr) p ≡ got x q → is_allowed xs x ≡ true → reads (form.arg_items expr xs) p ≡
      read_then (eaten comma q) (λ b s. if b then reads (form.arg_items expr (xs ++ x ∷ [])) s else got (xs ++ x ∷ []) s)
  arg_allowed xs p q x h i j = arg_items_more xs p (sym h) ∙ rw (i, j) refl

  -- one that may not, one that no comma follows, and one that a comma follows
  pub arg_refused : (xs : List (Arg C)) (p q : Place) (x : Arg C) → true ≡ comes begins_arg p.tokens →
      reads (form.arg expr) p ≡ got x q → is_allowed xs x ≡ false → reads (form.arg_items expr xs) p ≡ misfit q q.tokens
  arg_refused xs p q x h i j = arg_items_more xs p (sym h) ∙ rw (i, j) refl

  pub arg_last : (xs ys : List (Arg C)) (p q r : Place) (x : Arg C) (b : Bool) → true ≡ comes begins_arg p.tokens →
      reads (form.arg expr) p ≡ got x q → is_allowed xs x ≡ true → eaten comma q ≡ got b r → b ≡ false → ys ≡ xs ++ x ∷ [] → reads (form.arg_items expr xs) p ≡ got ys r
  arg_last xs ys p q r x b h i j k l m = arg_items_more xs p (sym h) ∙ rw (i, j, k, l, m) refl

  pub arg_also : (xs ys : List (Arg C)) (p q r : Place) (x : Arg C) (b : Bool) → true ≡ comes begins_arg p.tokens →
      reads (form.arg expr) p ≡ got x q → is_allowed xs x ≡ true → eaten comma q ≡ got b r → b ≡ true → ys ≡ xs ++ x ∷ [] →
      reads (form.arg_items expr xs) p ≡ reads (form.arg_items expr ys) r
  arg_also xs ys p q r x b h i j k l m = arg_items_more xs p (sym h) ∙ rw (i, j, k, l, m) refl

-- one of the arguments is named, or the one more is
pub has_named_more : {C : Type 0} (xs ys : List (Arg C)) (x : Arg C) → ys ≡ xs ++ x ∷ [] → has_named ys ≡ has_named xs || is_named x
has_named_more {C} xs ys x e = ap has_named e ∙ go xs
  where
    last : (a : Bool) → a || false ≡ a
    last true = refl
    last false = refl

    grouped : (a b c : Bool) → a || (b || c) ≡ (a || b) || c
    grouped true b c = refl
    grouped false b c = refl

    go : (xs : List (Arg C)) → has_named (xs ++ x ∷ []) ≡ has_named xs || is_named x
    go [] = last (is_named x)
    go (y ∷ ys) = ap (◌||◌ (is_named y)) (go ys) ∙ grouped (is_named y) (has_named ys) (is_named x)
