-- Which trees a text has.
use Rattle.std.specs.Prelude.{ℕ, Bool, if◌then◌else◌, take}
use Rattle.minijinja_syntax.specs.Streams.{Stream}
use Rattle.minijinja_syntax.specs.Positions.{span_at}
use Rattle.minijinja_syntax.specs.Texts.{Text}
use Rattle.minijinja_syntax.specs.Syntax.{Syntax}
use Rattle.minijinja_value.specs.Values.{Functions}
use Rattle.minijinja_lexer.specs.TextTokens.{text_of, tokens_of_template, tokens_of_expression, tokens_of_expression_at}
use Rattle.minijinja_tree.specs.Tree.{Expr, Stmt}
use Rattle.minijinja_grammar.specs.Places.{Place}
use Rattle.minijinja_grammar.specs.Derived.{IsTemplateTree, IsExprTree}
use Rattle.minijinja_parser_tokens.specs.TokenStreams.{first_place, place_after}

-- the tokens of a source that is one expression, or of a template
abbrev pub tokens_of : Bool → Syntax → Text → Stream
tokens_of in_expr syntax source = if in_expr then tokens_of_expression syntax source else tokens_of_template syntax source

-- before the first token of a template
abbrev pub template_place : Syntax → Text → Place
template_place syntax source = first_place (text_of syntax source) (tokens_of_template syntax source)

-- before the first token of an expression by itself
abbrev pub expr_place : Syntax → Text → Place
expr_place syntax source = first_place (text_of syntax source) (tokens_of_expression syntax source)

-- before the first token of an expression that takes the bytes from `start` to `stop` in a file; no
-- token was taken, and what stands for the last one is the place where the expression begins
abbrev pub expr_place_in : Syntax → (file : Text) → (start stop : ℕ) → Place
expr_place_in syntax file start stop = let text = take stop file in place_after text (span_at text start start) (tokens_of_expression_at syntax text start)

-- the source is a template, and this is its tree
abbrev pub IsDerived : {C F : Type 0} → Functions C F → Syntax → Text → Stmt C (Unit {0}) → Type 0
IsDerived f syntax source tree = IsTemplateTree f (template_place syntax source) tree

-- the source is one expression, and this is its tree
abbrev pub IsExprDerived : {C F : Type 0} → Functions C F → Syntax → Text → Expr C → Type 0
IsExprDerived f syntax source tree = IsExprTree f (expr_place syntax source) tree

-- what stands from `start` to `stop` in a file is one expression, and this is its tree
abbrev pub IsExprDerivedIn : {C F : Type 0} → Functions C F → Syntax → (file : Text) → (start stop : ℕ) → Expr C → Type 0
IsExprDerivedIn f syntax file start stop tree = IsExprTree f (expr_place_in syntax file start stop) tree
