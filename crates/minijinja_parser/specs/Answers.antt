-- What a parser returns: the one tree that there is, or why there is none.
use Rattle.std.specs.Prelude.{◌≡◌, ◌⊎◌, ◌<◌, ◌^◌, Contains, IsErrAnd, MatchResult, Option, Result, length}
use Rattle.minijinja_syntax.specs.Texts.{Text}
use Rattle.minijinja_syntax.specs.Errors.{kind_of, span_of}
use Rattle.minijinja_syntax.specs.Streams.{refused}
use Rattle.minijinja_syntax.specs.Syntax.{Syntax, default_syntax}
use Rattle.minijinja_syntax.specs.declared.tokens.Span.{Span}
use Rattle.minijinja_syntax.specs.declared.error.Error.{Error}
use Rattle.minijinja_syntax.specs.declared.error.ErrorKind.{ErrorKind}
use Rattle.minijinja_syntax.specs.declared.error.ErrorKind.TheVariants.{BadEscape, OutOfMemory, SourceTooLong, SyntaxError}
use Rattle.minijinja_value.specs.Values.{Functions}
use Rattle.minijinja_tree.specs.Erasure.{expr_tree, stmt_tree}
use Rattle.minijinja_tree.specs.SpannedErasure.{expr_node, stmt_node}
use Rattle.minijinja_tree.specs.Tree.{done, template}
use Rattle.minijinja_tree_expr.specs.declared.ast.Expr.{Expr}
use Rattle.minijinja_tree.specs.declared.ast.Stmt.{Stmt}
use Rattle.minijinja_grammar.specs.Derived.{IsTemplateTree, IsExprTree, IsSpannedTemplate, IsSpannedExpr}
use Rattle.minijinja_grammar.specs.Places.{Place}
use Rattle.minijinja_tree.specs.Standing.{Stands, StmtStands}
use Rattle.minijinja_grammar.specs.TokenSpans.{IsOfTokens}
use Rattle.minijinja_parser.specs.Causes.{IsLimit, IsRefusal}
use Rattle.minijinja_parser.specs.Derived.{IsDerived, IsExprDerived, expr_place, template_place}
use Rattle.minijinja_parser.specs.Parsing.{AnswersItsRefusal, HasRefused}

-- ---- of the tokens that are left at a place

-- the template's tree is derived from them
abbrev pub IsTemplateAt : {V E C F : Type 0} → Functions C F → (V → C) → Place → Stmt V E → Type 0
IsTemplateAt f contents p s = IsTemplateTree f p (stmt_tree contents s)

-- where that error is for what is written, no template is derived from them
abbrev pub IsNoTemplateAt : {C F : Type 0} → Functions C F → Place → Error → Type 0
IsNoTemplateAt f p e = IsRefusal e → (t : _) → IsTemplateTree f p t → ⊥

-- the template that is derived from them is returned, unless memory ran out
abbrev pub AnswersTemplateAt : {V E C F : Type 0} → Functions C F → (V → C) → Place → Result (Stmt V E) Error → Type 0
AnswersTemplateAt f contents p r =
    (t : _) → IsTemplateTree f p t → MatchResult r (λ s. stmt_tree contents s ≡ t) (λ e. kind_of e ≡ OutOfMemory)

-- the expression's tree is derived from them
abbrev pub IsExprAt : {V E C F : Type 0} → Functions C F → (V → C) → Place → Expr V E → Type 0
IsExprAt f contents p x = IsExprTree f p (expr_tree contents x)

-- where that error is for what is written, no expression is derived from them
abbrev pub IsNoExprAt : {C F : Type 0} → Functions C F → Place → Error → Type 0
IsNoExprAt f p e = IsRefusal e → (t : _) → IsExprTree f p t → ⊥

-- the expression that is derived from them is returned, unless memory ran out
abbrev pub AnswersExprAt : {V E C F : Type 0} → Functions C F → (V → C) → Place → Result (Expr V E) Error → Type 0
AnswersExprAt f contents p r =
    (t : _) → IsExprTree f p t → MatchResult r (λ x. expr_tree contents x ≡ t) (λ e. kind_of e ≡ OutOfMemory)

-- where no token is left but a refusal, that is returned
abbrev pub Repeats : {A : Type 0} → Place → Result A Error → Type 0
Repeats p r = (kind : ErrorKind) (span : Option Span) → HasRefused p kind span → IsErrAnd r (λ e. (kind_of e ≡ kind) × (span_of e ≡ span))

-- some token or none is left, and not a refusal alone
abbrev pub IsUnrefused : Place → Type 0
IsUnrefused p = (kind : ErrorKind) (span : Option Span) → HasRefused p kind span → ⊥

-- the refusal of the tokenizer that stands after tokens which fit a template is returned
abbrev pub AnswersTokenizerAt : {A C F : Type 0} → Functions C F → Place → Result A Error → Type 0
AnswersTokenizerAt f p r = AnswersItsRefusal (IsTemplateTree f) p r

-- the refusal of the tokenizer that stands after tokens which fit an expression is returned
abbrev pub AnswersExprTokenizerAt : {A C F : Type 0} → Functions C F → Place → Result A Error → Type 0
AnswersExprTokenizerAt f p r = AnswersItsRefusal (IsExprTree f) p r

-- the expression that is derived from them is returned, unless memory ran out or the source is too
-- long
abbrev pub AnswersExprWithinLimits : {V E C F : Type 0} → Functions C F → (V → C) → Place → Result (Expr V E) Error → Type 0
AnswersExprWithinLimits f contents p r =
    (t : _) → IsExprTree f p t → MatchResult r (λ x. expr_tree contents x ≡ t) IsLimit

-- ---- of a text

-- the template's tree is derived
abbrev pub IsTemplateOf : {V E C F : Type 0} → Functions C F → (V → C) → Syntax → Text → Stmt V E → Type 0
IsTemplateOf f contents syntax source s = IsDerived f syntax source (stmt_tree contents s)

-- where that error is for what is written, no template is derived
abbrev pub IsNoTemplate : {C F : Type 0} → Functions C F → Syntax → Text → Error → Type 0
IsNoTemplate f syntax source e = IsRefusal e → (t : _) → IsDerived f syntax source t → ⊥

-- the template that is derived is returned, unless memory ran out or the source is too long
abbrev pub AnswersTemplate : {V E C F : Type 0} → Functions C F → (V → C) → Syntax → Text → Result (Stmt V E) Error → Type 0
AnswersTemplate f contents syntax source r =
    (t : _) → IsDerived f syntax source t → MatchResult r (λ s. stmt_tree contents s ≡ t) IsLimit

-- the expression's tree is derived
abbrev pub IsExprOf : {V E C F : Type 0} → Functions C F → (V → C) → Syntax → Text → Expr V E → Type 0
IsExprOf f contents syntax source x = IsExprDerived f syntax source (expr_tree contents x)

-- where that error is for what is written, no expression is derived
abbrev pub IsNoExpr : {C F : Type 0} → Functions C F → Syntax → Text → Error → Type 0
IsNoExpr f syntax source e = IsRefusal e → (t : _) → IsExprDerived f syntax source t → ⊥

-- the expression that is derived is returned, unless memory ran out or the source is too long
abbrev pub AnswersExpr : {V E C F : Type 0} → Functions C F → (V → C) → Syntax → Text → Result (Expr V E) Error → Type 0
AnswersExpr f contents syntax source r = AnswersExprWithinLimits f contents (expr_place syntax source) r

-- the refusal of the tokenizer that stands after tokens which fit a template is returned
abbrev pub AnswersTokenizer : {A C F : Type 0} → Functions C F → Syntax → Text → Result A Error → Type 0
AnswersTokenizer f syntax source r = AnswersTokenizerAt f (template_place syntax source) r

-- the refusal of the tokenizer that stands after tokens which fit an expression in the default
-- syntax is returned
abbrev pub AnswersExprTokenizer : {A C F : Type 0} → Functions C F → Text → Result A Error → Type 0
AnswersExprTokenizer f source r = AnswersExprTokenizerAt f (expr_place default_syntax source) r

-- the source has fewer than 2^32 bytes
abbrev pub IsShort : Text → Type 0
IsShort source = length source < 2 ^ 32

-- ---- where nodes stand, and which errors are returned

-- each node goes from token to token, the one taken before the place included, and a variable and
-- data stand where their own tokens do
abbrev pub StandsAt : {V E C : Type 0} → (V → C) → Place → Stmt V E → Type 0
StandsAt contents p s = StmtStands (Contains p.tokens) (IsOfTokens p.tokens p.last) (stmt_node contents s)

-- each node of an expression goes from token to token, and a variable stands where its own token
-- does
abbrev pub ExprStandsAt : {V E C : Type 0} → (V → C) → Place → Expr V E → Type 0
ExprStandsAt contents p x = Stands (Contains p.tokens) (IsOfTokens p.tokens p.last) (expr_node contents x)

-- each node stands where the derivation of the tree has it, and so nowhere else
-- (`places_are_unique` of the grammar)
abbrev pub HasPlacesAt : {V E C F : Type 0} → Functions C F → (V → C) → Place → Stmt V E → Type 0
HasPlacesAt f contents p s = IsSpannedTemplate f p (stmt_node contents s)

-- likewise of an expression
abbrev pub ExprHasPlacesAt : {V E C F : Type 0} → Functions C F → (V → C) → Place → Expr V E → Type 0
ExprHasPlacesAt f contents p x = IsSpannedExpr f p (expr_node contents x)

-- a bad escape is the one that the tokens end with
abbrev pub EscapesIn : Place → Error → Type 0
EscapesIn p e = kind_of e ≡ BadEscape → p.ending ≡ refused BadEscape (span_of e)

-- it is the empty template, unless memory ran out
abbrev pub IsEmptyTemplate : {V E C : Type 0} → (V → C) → Result (Stmt V E) Error → Type 0
IsEmptyTemplate contents r = MatchResult r (λ s. stmt_tree contents s ≡ template done) (λ e. kind_of e ≡ OutOfMemory)

-- an expression is missing, unless memory ran out
abbrev pub WantsExpr : Error → Type 0
WantsExpr e = (kind_of e ≡ SyntaxError) ⊎ (kind_of e ≡ OutOfMemory)

abbrev pub IsTooLong : Error → Type 0
IsTooLong e = kind_of e ≡ SourceTooLong
