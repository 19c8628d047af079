-- Which refusal the line on standard error tells of.
use Rattle.std.specs.Prelude.{◌≡◌, ◌⊎◌, ◌≤◌, ◌^◌, length, Option, None, Err}
use Rattle.minijinja_syntax.specs.Streams.{refused}
use Rattle.minijinja_syntax.specs.Syntax.{Syntax, default_syntax}
use Rattle.minijinja_syntax.specs.Texts.{Text}
use Rattle.minijinja_syntax.specs.declared.error.Error.{Error}
use Rattle.minijinja_syntax.specs.declared.error.ErrorKind.{ErrorKind}
use Rattle.minijinja_syntax.specs.declared.error.ErrorKind.TheVariants.{InvalidDelimiter, SourceTooLong}
use Rattle.minijinja_syntax.specs.declared.tokens.Span.{Span}
use Rattle.minijinja_value.specs.ValueFunctions.{value_functions}
use Rattle.minijinja_lexer.specs.TextTokens.{tokens_of_template}
use Rattle.minijinja_parser.specs.Answers.{AnswersExprTokenizer, AnswersTokenizer, EscapesIn, IsNoExpr, IsNoTemplate, IsShort}
use Rattle.minijinja_parser.specs.Derived.{expr_place, template_place}
use Rattle.minijinja_parser.specs.Placing.{IsPlacedInText}
use Rattle.minijinja_compiler.specs.Headline.{IsCompileCause}
use Rattle.mjc_commands.specs.Failure.{refusal_at, refusal_of}
use Rattle.mjc_commands.specs.Showing.{IsMemory}
use Rattle.mjc_commands.specs.Usage.{Task, tokens, code, names, lint, expression, replay}
use Rattle.mjc_commands.specs.declared.failure.Failure.{Failure}

-- The error of a text as a template, and how it is told: it is a syntax error or a bad escape only
-- where the grammar derives no tree (`no_tree`), a bad escape is the one with which the tokens end
-- (`escapes`), it is the tokenizer's own refusal where all tokens before that fit the grammar
-- (`first`), and what is wrong in the text has a place in it (`placed`).
pub record IsTemplateRefusal (syntax : Syntax) (source : Text) (failure : Failure) : Type 0 where
  pub error : Error
  pub no_tree : IsNoTemplate value_functions syntax source error
  pub escapes : EscapesIn (template_place syntax source) error
  pub first : IsShort source → AnswersTokenizer {A = Unit {0}} value_functions syntax source (Err error)
  pub placed : IsPlacedInText (template_place syntax source) error
  pub cause : IsCompileCause error
  pub tells : failure ≡ refusal_of error

-- likewise the error of a text as an expression
pub record IsExprTextRefusal (source : Text) (failure : Failure) : Type 0 where
  pub error : Error
  pub no_tree : IsNoExpr value_functions default_syntax source error
  pub escapes : EscapesIn (expr_place default_syntax source) error
  pub first : IsShort source → AnswersExprTokenizer {A = Unit {0}} value_functions source (Err error)
  pub placed : IsPlacedInText (expr_place default_syntax source) error
  pub cause : IsCompileCause error
  pub tells : failure ≡ refusal_of error

-- the refusal with which the tokens of a text end
pub record IsTokenRefusal (syntax : Syntax) (source : Text) (failure : Failure) : Type 0 where
  pub kind : ErrorKind
  pub span : Option Span
  pub ends : (tokens_of_template syntax source).ending ≡ refused kind span
  pub tells : failure ≡ refusal_at kind span

-- the text has 2^32 bytes or more, which has no place
pub record IsLengthRefusal (source : Text) (failure : Failure) : Type 0 where
  pub long : 2 ^ 32 ≤ length source
  pub tells : failure ≡ refusal_at SourceTooLong None

-- the refusal of an expression, or of memory
abbrev pub IsExprRefusal : Text → Failure → Type 0
IsExprRefusal source failure = IsMemory failure ⊎ IsExprTextRefusal source failure

-- the refusal of a text for a task, or of memory
abbrev pub IsRefusalOf : Task → Syntax → Text → Failure → Type 0
IsRefusalOf tokens syntax source failure = IsMemory failure ⊎ IsLengthRefusal source failure ⊎ IsTokenRefusal syntax source failure
IsRefusalOf code syntax source failure = IsMemory failure ⊎ IsTemplateRefusal syntax source failure
IsRefusalOf names syntax source failure = IsMemory failure ⊎ IsTemplateRefusal syntax source failure
IsRefusalOf lint syntax source failure = IsMemory failure ⊎ IsTemplateRefusal syntax source failure
IsRefusalOf expression syntax source failure = IsExprRefusal source failure
IsRefusalOf (replay answers) syntax source failure = IsMemory failure ⊎ IsTemplateRefusal syntax source failure

-- the refusal of a syntax that cannot be built, which has no place, or of memory
abbrev pub IsSyntaxRefusal : Failure → Type 0
IsSyntaxRefusal failure = IsMemory failure ⊎ (failure ≡ refusal_at InvalidDelimiter None)
