use Rattle.std.proofs.Common.{◌<◌, ◌^◌, ◌++◌, ◌∙◌, length, sym, ap, subst}
use Rattle.std.proofs.lemmas.Result.{err_from_is_err_and}
use Rattle.minijinja_tree.specs.Erasure.{expr_tree}
use Rattle.minijinja_tree.specs.SpannedErasure.{expr_node}
use Rattle.minijinja_tree_expr.proofs.Bare.{expr_is}
use Rattle.minijinja_semantics.specs.Marks.{Margin}
use Rattle.minijinja_semantics.specs.Marks as marks
use Rattle.minijinja_semantics.specs.Jumps.{LeadsWell}
use Rattle.minijinja_semantics.proofs.Leads.{expression_leads_well}
use Rattle.minijinja_instructions.specs.Instructions.{code_of}
use Rattle.minijinja_semantics.specs.Layout.{expr_code}
use Rattle.minijinja_semantics.specs.Correct.{DoesExpr}
use Rattle.minijinja_code.specs.Generator.{OnlyWhereTooLong}
use Rattle.minijinja_code.specs.internal.AtGenerator.{generated, here_so_far, open_of, refusal_of}
use Rattle.minijinja_compiler.proofs.Parts.{closed_still, whole_code, whole_does, limit_of_parser, never_refusal, generator_unplaced, never_another, parser_unplaced, too_long_list, unkept}
use Rattle.minijinja_compiler.proofs.compile.compile_expression_in.Goals as goal

pub finish-code-requires : goal.finish-code-requires
finish-code-requires g c =
    let done = c.in_ok-compile_expr.ensures in
    closed_still (refusal_of c.compile_expr.new.self) (open_of c.compile_expr.new.self) done.ready (done.left_open ∙ c.new-generator.ensures.left_open)

pub returns-clause-compiled : goal.returns-clause-compiled
returns-clause-compiled g c =
    let v = g.V.TemplateValue.contents in
    let f = g.V.TemplateValue.functions in
    let tree = expr_tree v c.in_ok-expr.expr in
    let made = c.new-generator.result in
    let before = generated v made in
    let after = generated v c.compile_expr.new.self in
    let code = code_of v c.finish-code.result.0 in
    let done = c.in_ok-compile_expr.ensures in
    let parsed = c.in_ok-expr.ensures in
    let empty = c.new-generator.ensures.empty in
    let finished = c.finish-code.ensures.code in
    let nodes = expr_node v c.in_ok-expr.expr in
    record {
      tree = tree;
      nodes = nodes;
      bare = expr_is v c.in_ok-expr.expr;
      places = parsed.places;
      stands = parsed.spans;
      marks = c.finish-code.ensures.marks ∙ ap (λ (t : Margin). t.marks) (done.marked ∙ ap (marks.expr f nodes) c.new-generator.ensures.margin);
      derived = parsed.found;
      only = λ t d. sym (parsed.only t d);
      code = whole_code before after code (here_so_far v made) (expr_code f tree) empty c.new-generator.ensures.here done.added finished;
      does = whole_does (λ is from to. DoesExpr f is from to tree) before after code empty done.does finished;
      few = subst (λ is. length is < 2 ^ 32) (sym finished) done.few;
      leads = subst LeadsWell (sym (whole_code before after code (here_so_far v made) (expr_code f tree) empty c.new-generator.ensures.here done.added finished)) (expression_leads_well f tree);
      required = c.finish-code.ensures.required;
      name = c.finish-code.ensures.name ∙ done.name ∙ c.new-generator.ensures.name;
      text = c.finish-code.ensures.source ∙ done.source ∙ c.new-generator.ensures.source;
    }

pub returns-in_err-compile_expr-clause-refused : goal.returns-in_err-compile_expr-clause-refused
returns-in_err-compile_expr-clause-refused g c =
    never_refusal _ _ c.in_err-compile_expr.field-0.0 _ c.new-generator.ensures.refusal c.in_err-compile_expr.ensures.causes c.from_residual-in_err-compile_expr.ensures.1

pub returns-in_err-compile_expr-clause-placed : goal.returns-in_err-compile_expr-clause-placed
returns-in_err-compile_expr-clause-placed g c =
    never_refusal _ _ c.in_err-compile_expr.field-0.0 _ c.new-generator.ensures.refusal c.in_err-compile_expr.ensures.causes c.from_residual-in_err-compile_expr.ensures.1

pub returns-in_err-compile_expr-clause-unplaced : goal.returns-in_err-compile_expr-clause-unplaced
returns-in_err-compile_expr-clause-unplaced g c =
    generator_unplaced _ c.in_err-compile_expr.field-0.0 _ c.new-generator.ensures.refusal c.in_err-compile_expr.ensures.unplaced c.from_residual-in_err-compile_expr.ensures.1

pub returns-in_err-compile_expr-clause-named : goal.returns-in_err-compile_expr-clause-named
returns-in_err-compile_expr-clause-named g c =
    never_another _ _ c.in_err-compile_expr.field-0.0 _ c.new-generator.ensures.refusal c.in_err-compile_expr.ensures.causes c.from_residual-in_err-compile_expr.ensures.1

-- a refusal of the parser
pub returns-in_err-expr-clause-refused : goal.returns-in_err-expr-clause-refused
returns-in_err-expr-clause-refused g c =
    let p = err_from_is_err_and c.from_residual.result c.from_residual.ensures.1 in
    rw (p.1, p.2) c.in_err-expr.ensures.refused

pub returns-in_err-expr-clause-placed : goal.returns-in_err-expr-clause-placed
returns-in_err-expr-clause-placed g c =
    let p = err_from_is_err_and c.from_residual.result c.from_residual.ensures.1 in
    rw (p.1, p.2) c.in_err-expr.ensures.placed

pub returns-in_err-expr-clause-unplaced : goal.returns-in_err-expr-clause-unplaced
returns-in_err-expr-clause-unplaced g c =
    let p = err_from_is_err_and c.from_residual.result c.from_residual.ensures.1 in
    rw (p.1, p.2) (parser_unplaced c.in_err-expr.field-0.0 c.in_err-expr.ensures.causes c.in_err-expr.ensures.unplaced)

pub returns-in_err-expr-clause-accepted : goal.returns-in_err-expr-clause-accepted
returns-in_err-expr-clause-accepted g c = λ t d.
    let p = err_from_is_err_and c.from_residual.result c.from_residual.ensures.1 in
    rw (p.1, p.2) (limit_of_parser c.in_err-expr.field-0.0 (c.in_err-expr.ensures.only t d))

pub returns-in_err-compile_expr-clause-too_many_only : goal.returns-in_err-compile_expr-clause-too_many_only
returns-in_err-compile_expr-clause-too_many_only g c =
    let v = g.V.TemplateValue.contents in
    let f = g.V.TemplateValue.functions in
    let tree = expr_tree v c.in_ok-expr.expr in
    let made = c.new-generator.result in
    let e = c.in_err-compile_expr.field-0.0 in
    let p = err_from_is_err_and c.from_residual-in_err-compile_expr.result c.from_residual-in_err-compile_expr.ensures.1 in
    rw (p.1, p.2) (λ k. record {
      tree = tree;
      derived = c.in_ok-expr.ensures.found;
      long = too_long_list (generated v made) (here_so_far v made) (expr_code f tree) e c.new-generator.ensures.empty c.new-generator.ensures.here
          (unkept {A = OnlyWhereTooLong e (generated v made ++ expr_code f tree (here_so_far v made))} _ c.new-generator.ensures.refusal c.in_err-compile_expr.ensures.too_many) k;
    })
