-- Where the nodes of a few texts stand.
use Rattle.std.specs.Prelude.{List, [], ◌∷◌, codes}
use Rattle.minijinja_syntax.specs.Texts.{Text}
use Rattle.minijinja_syntax.specs.Positions.{expanded}
use Rattle.minijinja_syntax.specs.Streams.{SpannedTok, finished}
use Rattle.minijinja_syntax.specs.Tokens.{template_data, variable_start, variable_end, lt, dot, bracket_open, bracket_close}
use Rattle.minijinja_syntax.specs.declared.tokens.Span.{Span}
use Rattle.minijinja_value.specs.Values.{Functions}
use Rattle.minijinja_tree.specs.BinOps as bin
use Rattle.minijinja_tree.specs.SpannedTrees.{Stmt, template, also, done, data_text, output, Expr, variable, attribute, item, binary, if_expr, absent}
use Rattle.minijinja_grammar.specs.Words.{if_word}
use Rattle.minijinja_grammar.specs.Places.{Place}
use Rattle.minijinja_grammar.specs.Examples.{x_word, y_word, z_word}
use Rattle.minijinja_grammar.specs.Derived.{IsSpannedExpr, IsSpannedTemplate}

-- before the first of these tokens, which are all, after a token that stands there
abbrev pub place_before : Text → Span → List SpannedTok → Place
place_before source o ts = record { source = source; tokens = ts; ending = finished; last = o; names = [] }

module _ {C F : Type 0} (f : Functions C F) where
  abbrev HasNodes : (source : Text) → Span → List SpannedTok → Stmt C → Type 0
  HasNodes source o ts t = IsSpannedTemplate f (place_before source o ts) t

  abbrev HasExprNodes : (source : Text) → Span → List SpannedTok → Expr C → Type 0
  HasExprNodes source o ts e = IsSpannedExpr f (place_before source o ts) e

  pub record PlaceExamples : Type 0 where
    -- `{{ x }}{{ x }}`: each variable at its own identifier
    pub equal_variables : (source : Text) (o a b c d e g : Span) →
        HasNodes source o ((variable_start, a) ∷ (x_word, b) ∷ (variable_end, c) ∷ (variable_start, d) ∷ (x_word, e) ∷ (variable_end, g) ∷ [])
        (template (also (output (variable (codes "x") b) (expanded a b)) (also (output (variable (codes "x") e) (expanded d e)) done)) (expanded o g))
    -- data twice: each at its own token
    pub equal_data : (source : Text) (o a b : Span) →
        HasNodes source o ((template_data (codes "x"), a) ∷ (template_data (codes "x"), b) ∷ [])
        (template (also (data_text (codes "x") a) (also (data_text (codes "x") b) done)) (expanded o b))
    -- `x.y[x]`: the attribute from the operand, and the item from the dot
    pub postfixes : (source : Text) (o a b c d e g : Span) →
        HasExprNodes source o ((x_word, a) ∷ (dot, b) ∷ (y_word, c) ∷ (bracket_open, d) ∷ (x_word, e) ∷ (bracket_close, g) ∷ [])
        (item (attribute (variable (codes "x") a) (codes "y") (expanded a c)) (variable (codes "x") e) (expanded b g))
    -- `x < y if z`: the comparison and the if expression from the token before
    pub comparison_and_if : (source : Text) (o a b c d e : Span) →
        HasExprNodes source o ((x_word, a) ∷ (lt, b) ∷ (y_word, c) ∷ (if_word, d) ∷ (z_word, e) ∷ [])
        (if_expr (variable (codes "z") e) (binary bin.lt (variable (codes "x") a) (variable (codes "y") c) (expanded o c)) absent (expanded o e))
