-- Templates that the grammar does not derive.
use Rattle.std.proofs.Common.{List, [], ◌∷◌, refl}
use Rattle.std.specs.Prelude.{codes}
use Rattle.minijinja_syntax.specs.Texts.{Text}
use Rattle.minijinja_value.specs.Values.{Functions}
use Rattle.minijinja_syntax.specs.declared.tokens.Span.{Span}
use Rattle.minijinja_syntax.specs.Streams.{SpannedTok, finished}
use Rattle.minijinja_syntax.specs.Tokens.{Tok, ident, int, block_start, block_end, assign, comma, paren_open, paren_close}
use Rattle.minijinja_tree.specs.Tree.{Stmt}
use Rattle.minijinja_grammar.specs.Words.{if_word, endif_word, endblock_word, endmacro_word}
use Rattle.minijinja_grammar.specs.Places.{Place}
use Rattle.minijinja_grammar.specs.internal.Forms.{reads}
use Rattle.minijinja_grammar.specs.internal.ExprForms as g
use Rattle.minijinja_grammar.specs.Derived.{max_depth, IsTemplateTree}
use Rattle.minijinja_grammar.specs.internal.TargetForms as t
use Rattle.minijinja_grammar.specs.internal.StmtForms as form
use Rattle.minijinja_grammar.specs.internal.TemplateForms.{template_at}
use Rattle.minijinja_grammar.proofs.StmtReading.{at}
use Rattle.minijinja_grammar.proofs.ReadTrees.{template_is_read}
use Rattle.minijinja_grammar.proofs.ExprRefusals.{Stops}
use Rattle.minijinja_grammar.specs.Examples.{StmtRefusals}

module _ {C F : Type 0} (f : Functions C F) (src : Text) where
  abbrev pub place_of : List SpannedTok → Span → Place
  place_of ts o = at f src finished [] ts o

  -- reading stops at the end of the tokens
  pub template_stops : (ts : List SpannedTok) (o : Span) (x : Stmt C (Unit {0})) → IsTemplateTree f (place_of ts o) x → Stops (reads (template_at f max_depth) (place_of ts o))
  template_stops ts o x a =
      let u = template_is_read f (place_of ts o) x a in
      rw u.3 refl

  abbrev pub IsRefused : List SpannedTok → Type 0
  IsRefused ts = (o : Span) (x : Stmt C (Unit {0})) → IsTemplateTree f (place_of ts o) x → ⊥

  module _ (o : Span) where
    abbrev w : Text → SpannedTok
    w x = (ident x, o)

    abbrev tk : Tok → SpannedTok
    tk x = (x, o)

    -- `{% block x %}{% endblock %}{% block x %}{% endblock %}`
    abbrev two_blocks : List SpannedTok
    two_blocks = tk block_start ∷ w (codes "block") ∷ w (codes "x") ∷ tk block_end ∷ tk block_start ∷ tk endblock_word ∷ tk block_end ∷
        tk block_start ∷ w (codes "block") ∷ w (codes "x") ∷ tk block_end ∷ tk block_start ∷ tk endblock_word ∷ tk block_end ∷ []

    same_names : IsRefused two_blocks
    unfolding reads template_at form.body form.within form.stmt_level form.tag form.block_stmt form.block_name form.block_body form.end_name
    same_names k x a = template_stops two_blocks k x a

    -- `{% break %}`
    break_outside : IsRefused (tk block_start ∷ w (codes "break") ∷ tk block_end ∷ [])
    unfolding reads template_at form.body form.within form.stmt_level form.tag form.break_stmt
    break_outside k x a = template_stops (tk block_start ∷ w (codes "break") ∷ tk block_end ∷ []) k x a

    -- `{% macro x() %}{% block x %}{% endblock %}{% endmacro %}`
    abbrev in_macro : List SpannedTok
    in_macro = tk block_start ∷ w (codes "macro") ∷ w (codes "x") ∷ tk paren_open ∷ tk paren_close ∷ tk block_end ∷ tk block_start ∷ w (codes "block") ∷ w (codes "x") ∷ tk block_end ∷
        tk block_start ∷ tk endblock_word ∷ tk block_end ∷ tk block_start ∷ tk endmacro_word ∷ tk block_end ∷ []

    block_in_macro : IsRefused in_macro
    unfolding reads template_at form.body form.within form.stmt_level form.tag form.macro_stmt form.params form.macro_body
    block_in_macro k x a = template_stops in_macro k x a

    -- `{% if x %}`
    abbrev no_end : List SpannedTok
    no_end = tk block_start ∷ tk if_word ∷ w (codes "x") ∷ tk block_end ∷ []

    if_without_end : IsRefused no_end
    unfolding reads template_at form.body form.within form.stmt_level form.tag form.if_level form.otherwise form.else_body g.below g.level g.pow_level g.not_level g.compared_level g.unary_level g.operand g.postfixed g.primary g.word
    if_without_end k x a = template_stops no_end k x a

    -- `{% if x %}` and the tokens `endif` and `%}` alone, which no text has
    abbrev bare_end : List SpannedTok
    bare_end = tk block_start ∷ tk if_word ∷ w (codes "x") ∷ tk block_end ∷ tk endif_word ∷ tk block_end ∷ []

    end_without_tag : IsRefused bare_end
    unfolding reads template_at form.body form.within form.stmt_level form.tag form.if_level form.otherwise form.else_body g.below g.level g.pow_level g.not_level g.compared_level g.unary_level g.operand g.postfixed g.primary g.word
    end_without_tag k x a = template_stops bare_end k x a

    -- `{% endif %}`
    stray_end : IsRefused (tk block_start ∷ tk endif_word ∷ tk block_end ∷ [])
    unfolding reads template_at form.body form.within form.stmt_level form.tag
    stray_end k x a = template_stops (tk block_start ∷ tk endif_word ∷ tk block_end ∷ []) k x a

    -- `{% do x %}`
    do_without_call : IsRefused (tk block_start ∷ w (codes "do") ∷ w (codes "x") ∷ tk block_end ∷ [])
    unfolding reads template_at form.body form.within form.stmt_level form.tag form.do_stmt g.below g.cond g.level g.pow_level g.not_level g.compared_level g.unary_level g.operand g.postfixed g.primary g.word
    do_without_call k x a = template_stops (tk block_start ∷ w (codes "do") ∷ w (codes "x") ∷ tk block_end ∷ []) k x a

    -- `{% set loop = 1 %}`
    abbrev set_loop : List SpannedTok
    set_loop = tk block_start ∷ w (codes "set") ∷ w (codes "loop") ∷ tk assign ∷ tk (int 1) ∷ tk block_end ∷ []

    reserved_target : IsRefused set_loop
    unfolding reads template_at form.body form.within form.stmt_level form.tag form.set_stmt t.any_targets t.targets t.target_in t.named_target
    reserved_target k x a = template_stops set_loop k x a

    -- `{% macro x(y=1, z) %}{% endmacro %}`
    abbrev default_first : List SpannedTok
    default_first = tk block_start ∷ w (codes "macro") ∷ w (codes "x") ∷ tk paren_open ∷ w (codes "y") ∷ tk assign ∷ tk (int 1) ∷ tk comma ∷ w (codes "z") ∷ tk paren_close ∷ tk block_end ∷
        tk block_start ∷ tk endmacro_word ∷ tk block_end ∷ []

    no_default_after_one : IsRefused default_first
    unfolding reads template_at form.body form.within form.stmt_level form.tag form.macro_stmt form.params form.param form.macro_body t.stored_name g.below g.cond g.level g.pow_level g.not_level g.compared_level g.unary_level g.operand g.postfixed g.primary g.word
    no_default_after_one k x a = template_stops default_first k x a

    -- `{% block x %}{% endblock y %}`
    abbrev other_end : List SpannedTok
    other_end = tk block_start ∷ w (codes "block") ∷ w (codes "x") ∷ tk block_end ∷ tk block_start ∷ tk endblock_word ∷ w (codes "y") ∷ tk block_end ∷ []

    other_end_name : IsRefused other_end
    unfolding reads template_at form.body form.within form.stmt_level form.tag form.block_stmt form.block_name form.block_body form.end_name
    other_end_name k x a = template_stops other_end k x a

pub stmts_refused : {C F : Type 0} (f : Functions C F) → StmtRefusals f
stmts_refused f = record {
  two_blocks_of_one_name = λ source o x a. same_names f source o o x a;
  break_outside_of_loop = λ source o x a. break_outside f source o o x a;
  block_in_macro = λ source o x a. block_in_macro f source o o x a;
  if_without_end = λ source o x a. if_without_end f source o o x a;
  end_word_without_tag = λ source o x a. end_without_tag f source o o x a;
  end_word_alone = λ source o x a. stray_end f source o o x a;
  do_without_call = λ source o x a. do_without_call f source o o x a;
  set_of_reserved_name = λ source o x a. reserved_target f source o o x a;
  no_default_after_one = λ source o x a. no_default_after_one f source o o x a;
  other_end_name = λ source o x a. other_end_name f source o o x a;
}
