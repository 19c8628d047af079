-- Subscripts, groups, tests and arguments, a step at a time.
use Rattle.std.proofs.Common.{◌≡◌, ◌∙◌, List, [], ◌∷◌, if◌then◌else◌, Option, Some, None, Err, refl, ap}
use Rattle.minijinja_value.specs.Values.{Functions}
use Rattle.minijinja_syntax.specs.Tokens.{Tok, brace_close, bracket_close, bracket_open, colon, comma, dot, paren_close, paren_open, pipe}
use Rattle.minijinja_syntax.specs.Streams.{SpannedTok}
use Rattle.minijinja_syntax.specs.declared.tokens.Span.{Span}
use Rattle.minijinja_tree.specs.Tree.{logical_not}
use Rattle.minijinja_tree.specs.SpannedTrees as tree
use Rattle.minijinja_tree.specs.SpannedTrees.{Expr, positional, present, args_of, exprs_of, optional_of}
use Rattle.minijinja_grammar.specs.Words.{begins_bare, is, not_word}
use Rattle.minijinja_grammar.specs.Places.{Place}
use Rattle.minijinja_grammar.specs.internal.Forms.{Form, pure, nothing, one, start, either, start_at, Read, got, read_then, read_one, after, reads, ◌>>=◌, ◌>>◌}
use Rattle.minijinja_grammar.specs.Ahead.{comes}
use Rattle.minijinja_grammar.specs.internal.ExprForms as form
use Rattle.minijinja_grammar.specs.internal.ExprForms.{Below, next, behind, expanded}
use Rattle.minijinja_parser_tokens.specs.declared.refusal.Refusal.{Refusal}
use Rattle.minijinja_parser_tokens.specs.internal.Reads.{Reads, eaten, skipped}
use Rattle.minijinja_parser_expr.proofs.Refused.{refused}
use Rattle.minijinja_parser_tokens.proofs.Turned.{behind_is}

-- where the token comes the first form is read, and else the second is there already
behind_pure : {A : Type 0} (m : Tok) (f : Form A) (x : A) (p : Place) →
    reads (behind m f (pure x)) p ≡ read_then (eaten m p) (λ b q. if b then reads f q else got x q)
unfolding reads
behind_pure m f x p = behind_is m f (pure x) p

module _ {C : Type 0} (expr : Form (Expr C)) where
  pub step_is : (p : Place) → reads (form.step expr) p ≡ read_then (eaten colon p) (λ b q. if b then reads (form.maybe_expr expr) q else got None q)
  step_is p = behind_pure colon (form.maybe_expr expr) None p

  pub range_is : (e : Expr C) (from : Span) (s : Option (Expr C)) (p : Place) → reads (form.range expr e from s) p ≡
      read_then (reads (form.maybe_expr expr) p) (λ t q. read_then (reads (form.step expr) q) (λ b r. read_then (reads (next bracket_close) r)
      (λ _ u. got (tree.slice e (optional_of s) (optional_of t) (optional_of b) (expanded from u.last)) u)))
  unfolding reads form.range
  range_is e from s p = refl

  pub range_refused : (e : Expr C) (from : Span) (s t b : Option (Expr C)) (p q r u : Place) (f : Refusal) → reads (form.maybe_expr expr) p ≡ got t q → reads (form.step expr) q ≡ got b r →
      Reads (λ x. x) (reads (next bracket_close) r) (Err f) u → Reads (λ x. x) (reads (form.range expr e from s) p) (Err f) u
  range_refused e from s t b p q r u f h i j =
      refused (reads (form.range expr e from s) p) (reads (next bracket_close) r) (λ _ u. got (tree.slice e (optional_of s) (optional_of t) (optional_of b) (expanded from u.last)) u) f u
      (range_is e from s p ∙
      ap (λ o. read_then o (λ t q. read_then (reads (form.step expr) q) (λ b r. read_then (reads (next bracket_close) r)
      (λ _ u. got (tree.slice e (optional_of s) (optional_of t) (optional_of b) (expanded from u.last)) u)))) h ∙
      ap (λ o. read_then o (λ b r. read_then (reads (next bracket_close) r) (λ _ u. got (tree.slice e (optional_of s) (optional_of t) (optional_of b) (expanded from u.last)) u))) i) j

  pub rest_of_subscript_is : (e : Expr C) (from : Span) (i : Expr C) (p : Place) → reads (form.rest_of_subscript expr e from i) p ≡
      read_then (eaten colon p) (λ b q. if b then reads (form.range expr e from (Some i)) q
      else read_then (reads (next bracket_close) q) (λ _ r. got (tree.item e i (expanded from r.last)) r))
  unfolding reads form.rest_of_subscript
  rest_of_subscript_is e from i p = behind_is colon (form.range expr e from (Some i)) (next bracket_close >> form.spanned from (tree.item e i)) p

  pub subscript_is : (e : Expr C) (from : Span) (p : Place) → reads (form.subscript expr e from) p ≡
      read_then (eaten colon p) (λ b q. if b then reads (form.range expr e from None) q
      else read_then (reads expr q) (λ i r. reads (form.rest_of_subscript expr e from i) r))
  unfolding reads form.subscript
  subscript_is e from p = behind_is colon (form.range expr e from None) (expr >>= form.rest_of_subscript expr e from) p

  pub maybe_args_is : (p : Place) → reads (form.maybe_args expr) p ≡ read_then (eaten paren_open p) (λ b q. if b then reads (form.args expr) q else got [] q)
  maybe_args_is p = behind_pure paren_open (form.args expr) [] p

  -- ---- what stands in parentheses or braces

  pub rest_of_tuple_is : (from : Span) (e : Expr C) (p : Place) → reads (form.rest_of_tuple expr from e) p ≡
      read_then (reads (form.exprs expr (e ∷ [])) p) (λ es q. read_then (reads (next paren_close) q) (λ _ r. got (tree.tuple (exprs_of es) (expanded from r.last)) r))
  unfolding reads
  rest_of_tuple_is from e p = refl

  pub rest_of_group_is : (from : Span) (e : Expr C) (p : Place) → reads (form.rest_of_group expr from e) p ≡
      read_then (eaten comma p) (λ b q. if b then reads (form.rest_of_tuple expr from e) q
      else read_then (reads (next paren_close) q) (λ _ r. got e r))
  unfolding reads form.rest_of_group
  rest_of_group_is from e p = behind_is comma (form.rest_of_tuple expr from e) (next paren_close >> pure e) p

  pub group_is : (from : Span) (p : Place) → reads (form.group expr from) p ≡
      read_then (eaten paren_close p) (λ b q. if b then got (tree.tuple (exprs_of []) (expanded from q.last)) q
      else read_then (reads expr q) (λ e r. reads (form.rest_of_group expr from e) r))
  unfolding reads form.group
  group_is from p = behind_is paren_close (form.spanned from (tree.tuple (exprs_of []))) (expr >>= form.rest_of_group expr from) p

  pub in_brackets_is : (from : Span) (p : Place) → reads (form.in_brackets expr from) p ≡
      read_then (reads (form.exprs expr []) p) (λ es q. read_then (reads (next bracket_close) q) (λ _ r. got (tree.list (exprs_of es) (expanded from r.last)) r))
  unfolding reads form.in_brackets
  in_brackets_is from p = refl

  pub in_braces_is : (from : Span) (p : Place) → reads (form.in_braces expr from) p ≡
      read_then (reads (form.entries expr ([], [])) p) (λ kvs q. read_then (reads (next brace_close) q) (λ _ r. got (tree.map (exprs_of kvs.0) (exprs_of kvs.1) (expanded from r.last)) r))
  unfolding reads form.in_braces
  in_braces_is from p = refl

  module _ {F : Type 0} (f : Functions C F) where
    -- what the expressions are does not matter to an attribute
    pub member_same : (e : Expr C) (from : Span) (p : Place) → reads (form.member nothing f e from) p ≡ reads (form.member expr f e from) p
    unfolding form.member
    member_same e from p = refl

    -- a postfix, by its first token: after a token that is no dot and no bracket stand arguments
    pub postfix_is : (e : Expr C) (from : Span) (p : Place) → read_then (reads (one Some) p) (λ t q. reads (form.postfix expr f e from t.0) q) ≡
        read_then (skipped p) (λ s q. if comes (is dot) p.tokens then reads (form.member expr f e from) q
        else if comes (is bracket_open) p.tokens then reads (form.subscript expr e from) q
        else read_then (reads (form.args expr) q) (λ xs r. got (tree.call e (args_of xs) (expanded from r.last)) r))
    unfolding reads
    postfix_is e from p = go p.tokens
      where
        call : Place → Read (Expr C)
        call q = read_then (reads (form.args expr) q) (λ xs r. got (tree.call e (args_of xs) (expanded from r.last)) r)

        at_token : (t : Tok) (q : Place) → reads (form.postfix expr f e from t) q ≡
            (if is dot t then reads (form.member expr f e from) q else if is bracket_open t then reads (form.subscript expr e from) q else call q)
        at_token dot q = refl
        at_token bracket_open q = refl
        at_token _ q = refl

        go : (ts : List SpannedTok) → read_then (read_one Some p ts) (λ t q. reads (form.postfix expr f e from t.0) q) ≡
            read_then (read_one (λ t. Some t.1) p ts) (λ s q. if comes (is dot) ts then reads (form.member expr f e from) q else if comes (is bracket_open) ts then reads (form.subscript expr e from) q else call q)
        go [] = refl
        go (t ∷ ts) = at_token t.0 (after p t ts)

module _ {C F : Type 0} (f : Functions C F) (b : Below C) where
  -- a suffix, by its first token
  pub suffix_is : (e : Expr C) (p : Place) → read_then (reads (one Some) p) (λ t q. reads (form.suffix f b e t.0) q) ≡
      read_then (skipped p) (λ s q. if comes (is pipe) p.tokens then reads (form.filtered f b e) q else reads (form.any_test f b e) q)
  unfolding reads
  suffix_is e p = go p.tokens
    where
      at_token : (t : Tok) (q : Place) → reads (form.suffix f b e t) q ≡ (if is pipe t then reads (form.filtered f b e) q else reads (form.any_test f b e) q)
      at_token pipe q = refl
      at_token _ q = refl

      go : (ts : List SpannedTok) → read_then (read_one Some p ts) (λ t q. reads (form.suffix f b e t.0) q) ≡
          read_then (read_one (λ t. Some t.1) p ts) (λ s q. if comes (is pipe) ts then reads (form.filtered f b e) q else reads (form.any_test f b e) q)
      go [] = refl
      go (t ∷ ts) = at_token t.0 (after p t ts)

  pub filter_is : (e : Expr C) (p : Place) → reads (form.filtered f b e) p ≡
      read_then (reads form.name p) (λ x q. read_then (reads (form.maybe_args b.expr) q) (λ xs r. got (tree.filter (present e) x (args_of xs) (expanded (start_at p) r.last)) r))
  unfolding reads form.filtered
  filter_is e p = refl

  pub named_test_is : (e : Expr C) (p : Place) → reads (form.named_test f b e) p ≡
      read_then (reads form.name p) (λ x q. read_then (reads (form.test_args f b) q) (λ xs r. got (tree.test e x (args_of xs) (expanded (start_at p) r.last)) r))
  unfolding reads form.named_test
  named_test_is e p = refl

  pub any_test_is : (e : Expr C) (p : Place) → reads (form.any_test f b e) p ≡ read_then (eaten not_word p) (λ c q.
      if c then read_then (reads (form.named_test f b e) q) (λ t r. got (tree.unary logical_not t (expanded (start_at q) r.last)) r)
      else reads (form.named_test f b e) q)
  unfolding reads form.any_test
  any_test_is e p =
      behind_is not_word (start >>= (λ from. form.named_test f b e >>= (λ t. form.spanned from (tree.unary logical_not t)))) (form.named_test f b e) p

  pub test_args_is : (p : Place) → reads (form.test_args f b) p ≡ read_then (eaten paren_open p) (λ c q.
      if c then reads (form.args b.expr) q
      else if comes begins_bare q.tokens then read_then (reads (form.operand f b) q) (λ e r. got (positional e ∷ []) r)
      else got [] q)
  unfolding reads form.test_args
  test_args_is p =
      behind_is paren_open (form.args b.expr) (either begins_bare (form.operand f b >>= (λ e. pure (positional e ∷ []))) (pure [])) p
