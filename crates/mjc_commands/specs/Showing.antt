-- The texts whose tokens, code, names, findings or runs are shown to the end.
use Rattle.std.specs.Prelude.{◌≡◌, ◌⊎◌, ◌≤◌, ◌^◌, ℕ, List, length, Option, Some, IfSome, MatchOption, Result, IfErr}
use Rattle.std.specs.Borrow.{Bor}
use Rattle.minijinja_syntax.specs.Texts.{Text}
use Rattle.minijinja_syntax.specs.Syntax.{Syntax, default_syntax}
use Rattle.minijinja_syntax.specs.Streams.{Ending, finished, refused}
use Rattle.minijinja_syntax.specs.Errors.{kind_of, span_of, IsOutOfMemory}
use Rattle.minijinja_syntax.specs.declared.error.Error.{Error}
use Rattle.minijinja_syntax.specs.declared.error.ErrorKind.TheVariants.{OutOfMemory}
use Rattle.minijinja_value.specs.ValueFunctions.{value_functions}
use Rattle.minijinja_lexer.specs.TextTokens.{tokens_of_template}
use Rattle.minijinja_parser.specs.Derived.{IsDerived, IsExprDerived}
use Rattle.minijinja_compiler.specs.Headline.{HasTooLongCode, HasTooLongExprCode}
use Rattle.mjc_commands.specs.Settings.{syntax_with}
use Rattle.mjc_commands.specs.Usage.{Task, tokens, code, names, lint, expression, replay, Request, Asks}
use Rattle.mjc_commands.specs.AnswerFile.{IsAnswerFile, IsBadLine}
use Rattle.mjc_commands.specs.Failure.{IsBadAnswer, IsRefused, IsRefusedAs}
use Rattle.mjc_commands.specs.declared.failure.Failure.{Failure}

-- the text is an expression that has a tree
abbrev pub IsShowableExpr : Text → Type 0
IsShowableExpr source = (tree : _) × IsExprDerived value_functions default_syntax source tree

-- the text's tokens end without a refusal, or the text has a tree, as a template or as an
-- expression
abbrev pub IsShowable : Task → Syntax → Text → Type 0
IsShowable tokens syntax source = (tokens_of_template syntax source).ending ≡ finished
IsShowable code syntax source = (tree : _) × IsDerived value_functions syntax source tree
IsShowable names syntax source = (tree : _) × IsDerived value_functions syntax source tree
IsShowable lint syntax source = (tree : _) × IsDerived value_functions syntax source tree
IsShowable expression syntax source = IsShowableExpr source
IsShowable (replay answers) syntax source = (tree : _) × IsDerived value_functions syntax source tree

-- the expression has 2^32 bytes or more, or its code 2^32 instructions or more
abbrev pub IsTooLargeExpr : Text → Type 0
IsTooLargeExpr source = (2 ^ 32 ≤ length source) ⊎ HasTooLongExprCode value_functions source

-- the text has 2^32 bytes or more, or the code that is made of it 2^32 instructions or more
abbrev pub IsTooLarge : Task → Syntax → Text → Type 0
IsTooLarge tokens syntax source = 2 ^ 32 ≤ length source
IsTooLarge code syntax source = (2 ^ 32 ≤ length source) ⊎ HasTooLongCode value_functions syntax source
IsTooLarge names syntax source = 2 ^ 32 ≤ length source
IsTooLarge lint syntax source = 2 ^ 32 ≤ length source
IsTooLarge expression syntax source = IsTooLargeExpr source
IsTooLarge (replay answers) syntax source = (2 ^ 32 ≤ length source) ⊎ HasTooLongCode value_functions syntax source

-- memory ran out
abbrev pub IsMemory : Failure → Type 0
IsMemory failure = IsRefusedAs OutOfMemory failure

-- a run on a text that can be shown ends in success, or memory is refused, or the text is too large
abbrev pub Succeeds : {A : Type 0} → Task → Syntax → Text → Result A Failure → Type 0
Succeeds task syntax source ending = IfErr ending (λ failure. IsMemory failure ⊎ IsTooLarge task syntax source)

-- a run on an expression that can be shown ends in success, or memory is refused, or the text is
-- too large
abbrev pub SucceedsExpr : {A : Type 0} → Text → Result A Failure → Type 0
SucceedsExpr source ending = IfErr ending (λ failure. IsMemory failure ⊎ IsTooLargeExpr source)

-- what was written of tokens is all of them, or what ends them is the text's own refusal or refused
-- memory
abbrev pub EndsBy : Ending → Option Error → Type 0
EndsBy ending refusal = MatchOption refusal
    (ending ≡ finished)
    (λ e. (ending ≡ refused (kind_of e) (span_of e)) ⊎ IsOutOfMemory e)

-- where the words ask about a file that is known to hold a text, this holds of the task, of the
-- syntax and of the text
abbrev pub OfFile : List (Bor Text) → Option (List ℕ) → (Task → Syntax → Text → Type 0) → Type 0
OfFile args held P = (request : Request) (text : Text) → Asks args request → held ≡ Some text →
    P request.task (syntax_with request.settings) text

-- where the task runs on answers, what their file holds is known, and each line of it is an answer
abbrev pub HasAnswers : Task → Option (List ℕ) → Type 0
HasAnswers (replay answers) held = (text : Text) × (held ≡ Some text) × IsAnswerFile text
HasAnswers _ held = Unit {0}

-- the failure lies in what was read: the syntax or the text is refused, or, where it is known what
-- the answers' file holds, a line of it is no answer; or memory ran out
abbrev pub IsOfContents : Option (List ℕ) → Failure → Type 0
IsOfContents held failure = IsRefused failure ⊎ IsBadAnswer (λ line. IfSome held (λ text. IsBadLine text line)) failure
