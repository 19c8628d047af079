use Rattle.std.proofs.Common.{◌≡◌, ◌∙◌, ◌||◌, ◌++◌, ◌∷◌, [], Bool, Vec, Global, if◌then◌else◌, length, sym, ap, arith, map}
use Rattle.std.proofs.lemmas.List.{length-map}
use Rattle.minijinja_syntax.specs.Tokens.{comma}
use Rattle.minijinja_grammar.specs.internal.Forms.{got, reads}
use Rattle.minijinja_grammar.specs.internal.ExprForms as form
use Rattle.minijinja_grammar.specs.internal.ExprForms.{expr_at, is_named}
use Rattle.minijinja_parser_expr.specs.private.Made.{argument_of}
use Rattle.minijinja_parser_tokens.specs.internal.Reads.{eaten}
use Rattle.minijinja_parser_expr.proofs.CallArgs.{arg_allowed, arg_also, arg_last, arg_refused, has_named_more}
use Rattle.minijinja_parser_expr.proofs.Entries.{item_shorter, map_pushed}
use Rattle.minijinja_parser_expr.proofs.Refused.{passed, refuses}
use Rattle.minijinja_parser_expr.proofs.rules.ExprRules.arg_items.Goals as goal
use Rattle.minijinja_parser_expr.proofs.rules.ExprRules.arg_items.Goals.{then-named, else-named}

pub returns-in-Some : goal.returns-in-Some
returns-in-Some g c =
    let expr = expr_at g.N.ExprBuilder.functions c.args.self.now.depth in
    let xs = map g.N.ExprBuilder.arg c.loop-tokens.args.items in
    let n : length xs ≡ c.len.result = omega (arith, length-map c.loop-tokens.args.items g.N.ExprBuilder.arg, c.len.ensures, c.loop-tokens.args.ok.0) in
    refuses (λ (w : Vec _ Global). map g.N.ExprBuilder.arg w.items) (reads (form.arg_items expr []) (g.N.Input.Tokens.place c.args.tokens.now)) (g.N.Input.Tokens.place c.arg.new.tokens) c.misfit.result
    (c.loop-tokens.invariant.read ∙
    arg_refused expr xs (g.N.Input.Tokens.place c.loop-tokens.tokens) (g.N.Input.Tokens.place c.arg.new.tokens) (argument_of g.N.ExprBuilder.text g.N.ExprBuilder.tree c.in_ok-arg.arg) c.loop-tokens-test.ensures c.in_ok-arg.ensures
    (sym (c.in-Some.ensures.none xs n c.loop-tokens.invariant.named)))
    c.misfit.ensures

pub returns-in_err-eat : goal.returns-in_err-eat
returns-in_err-eat g c =
    let expr = expr_at g.N.ExprBuilder.functions c.args.self.now.depth in
    let xs = map g.N.ExprBuilder.arg c.loop-tokens.args.items in
    let x = argument_of g.N.ExprBuilder.text g.N.ExprBuilder.tree c.in_ok-arg.arg in
    let n : length xs ≡ c.len.result = omega (arith, length-map c.loop-tokens.args.items g.N.ExprBuilder.arg, c.len.ensures, c.loop-tokens.args.ok.0) in
    passed (λ (b : Bool). b) (λ (w : Vec _ Global). map g.N.ExprBuilder.arg w.items) (eaten comma (g.N.Input.Tokens.place c.arg.new.tokens))
    (λ b s. if b then reads (form.arg_items expr (xs ++ x ∷ [])) s else got (xs ++ x ∷ []) s)
    (reads (form.arg_items expr []) (g.N.Input.Tokens.place c.args.tokens.now)) c.in_err-eat.field-0.0 c.from_residual-in_err-eat.result (g.N.Input.Tokens.place c.eat.new.self)
    (c.loop-tokens.invariant.read ∙
    arg_allowed expr xs (g.N.Input.Tokens.place c.loop-tokens.tokens) (g.N.Input.Tokens.place c.arg.new.tokens) x c.loop-tokens-test.ensures c.in_ok-arg.ensures (sym (c.in_default.ensures.none xs n c.loop-tokens.invariant.named)))
    c.from_residual-in_err-eat.ensures.1 (λ d h. cc) c.in_err-eat.ensures

pub returns-then-not-branch : goal.returns-then-not-branch
returns-then-not-branch g c =
    let xs = map g.N.ExprBuilder.arg c.loop-tokens.args.items in
    let n : length xs ≡ c.len.result = omega (arith, length-map c.loop-tokens.args.items g.N.ExprBuilder.arg, c.len.ensures, c.loop-tokens.args.ok.0) in
    c.loop-tokens.invariant.read ∙
    arg_last (expr_at g.N.ExprBuilder.functions c.args.self.now.depth) xs (map g.N.ExprBuilder.arg c.push.new.self.items) (g.N.Input.Tokens.place c.loop-tokens.tokens) (g.N.Input.Tokens.place c.arg.new.tokens) (g.N.Input.Tokens.place c.eat.new.self)
    (argument_of g.N.ExprBuilder.text g.N.ExprBuilder.tree c.in_ok-arg.arg) c.in_ok-eat.field-0 c.loop-tokens-test.ensures c.in_ok-arg.ensures (sym (c.in_default.ensures.none xs n c.loop-tokens.invariant.named))
    c.in_ok-eat.ensures c.if-not-branch.true (map_pushed g.N.ExprBuilder.arg c.loop-tokens.args.items c.push.new.self.items c.argument.result c.in_ok-push.ensures.items ∙ ap (λ y. xs ++ y ∷ []) c.argument.ensures)

pub loop-tokens-smaller : goal.loop-tokens-smaller
loop-tokens-smaller g c =
    item_shorter (form.arg (expr_at g.N.ExprBuilder.functions c.args.self.now.depth)) comma (g.N.Input.Tokens.place c.loop-tokens.tokens) (g.N.Input.Tokens.place c.arg.new.tokens) (g.N.Input.Tokens.place c.eat.new.self)
    (argument_of g.N.ExprBuilder.text g.N.ExprBuilder.tree c.in_ok-arg.arg) c.in_ok-eat.field-0 c.in_ok-arg.ensures c.in_ok-eat.ensures c.if-not-branch.false

pub loop-tokens-preserved : goal.loop-tokens-preserved
loop-tokens-preserved g c =
    let xs = map g.N.ExprBuilder.arg c.loop-tokens.args.items in
    let ys = map g.N.ExprBuilder.arg c.push.new.self.items in
    let x = argument_of g.N.ExprBuilder.text g.N.ExprBuilder.tree c.in_ok-arg.arg in
    let n : length xs ≡ c.len.result = omega (arith, length-map c.loop-tokens.args.items g.N.ExprBuilder.arg, c.len.ensures, c.loop-tokens.args.ok.0) in
    let pushed = map_pushed g.N.ExprBuilder.arg c.loop-tokens.args.items c.push.new.self.items c.argument.result c.in_ok-push.ensures.items ∙ ap (λ y. xs ++ y ∷ []) c.argument.ensures in
    record {
      read = c.loop-tokens.invariant.read ∙
          arg_also (expr_at g.N.ExprBuilder.functions c.args.self.now.depth) xs ys (g.N.Input.Tokens.place c.loop-tokens.tokens) (g.N.Input.Tokens.place c.arg.new.tokens) (g.N.Input.Tokens.place c.eat.new.self)
          x c.in_ok-eat.field-0 c.loop-tokens-test.ensures c.in_ok-arg.ensures (sym (c.in_default.ensures.none xs n c.loop-tokens.invariant.named))
          c.in_ok-eat.ensures c.if-not-branch.false pushed;
      named = has_named_more xs ys x pushed ∙ elim c.if-named.branch [
        | then-named w ↦ ap (λ b. b || is_named x) (c.loop-tokens.invariant.named ∙ w.if-named.true) ∙ sym (w.named-is ∙ w.if-named.true)
        | else-named w ↦ ap (λ b. b || is_named x) (c.loop-tokens.invariant.named ∙ w.if-named.false) ∙ sym (w.named-is ∙ w.is_named-named.ensures)
      ];
    }
