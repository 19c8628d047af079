-- The printed forms of tokens.
use Rattle.std.specs.Prelude.{◌≡◌, ◌⊎◌, ℕ, List, [], ◌++◌, Option, IsSomeAnd, codes}
use Rattle.std.specs.Fmt.{decimal}
use Rattle.std.specs.List.{flat_map}
use Rattle.minijinja_syntax.specs.Errors.{IsOutOfMemory}
use Rattle.minijinja_syntax.specs.Quotes.{quoted}
use Rattle.minijinja_syntax.specs.Streams.{SpannedTok}
use Rattle.minijinja_syntax.specs.Texts.{Text}
use Rattle.minijinja_syntax.specs.Tokens.{Tok, template_data, variable_start, variable_end, block_start, block_end, ident, str, string, int, int128, plus, minus, mul, div, floor_div, pow, rem, dot, comma, colon, tilde, assign, pipe, eq, ne, gt, gte, lt, lte, bracket_open, bracket_close, paren_open, paren_close, brace_open, brace_close}
use Rattle.minijinja_syntax.specs.declared.error.Error.{Error}
use Rattle.mjc_commands.specs.Watched.{IsWritten}
use Rattle.mjc_commands.specs.declared.watched.Watched.{Watched}

-- the name of a token
abbrev pub token_name : Tok → Text
token_name (template_data t) = codes "TemplateData"
token_name (ident t) = codes "Ident"
token_name (str t) = codes "Str"
token_name (string t) = codes "String"
token_name (int n) = codes "Int"
token_name (int128 n) = codes "Int128"
token_name variable_start = codes "VariableStart"
token_name variable_end = codes "VariableEnd"
token_name block_start = codes "BlockStart"
token_name block_end = codes "BlockEnd"
token_name plus = codes "Plus"
token_name minus = codes "Minus"
token_name mul = codes "Mul"
token_name div = codes "Div"
token_name floor_div = codes "FloorDiv"
token_name pow = codes "Pow"
token_name rem = codes "Mod"
token_name dot = codes "Dot"
token_name comma = codes "Comma"
token_name colon = codes "Colon"
token_name tilde = codes "Tilde"
token_name assign = codes "Assign"
token_name pipe = codes "Pipe"
token_name eq = codes "Eq"
token_name ne = codes "Ne"
token_name gt = codes "Gt"
token_name gte = codes "Gte"
token_name lt = codes "Lt"
token_name lte = codes "Lte"
token_name bracket_open = codes "BracketOpen"
token_name bracket_close = codes "BracketClose"
token_name paren_open = codes "ParenOpen"
token_name paren_close = codes "ParenClose"
token_name brace_open = codes "BraceOpen"
token_name brace_close = codes "BraceClose"

-- in parentheses, its text between quotes, or its number
abbrev pub token_part : Tok → Text
token_part (template_data t) = codes "(" ++ quoted t ++ codes ")"
token_part (ident t) = codes "(" ++ quoted t ++ codes ")"
token_part (str t) = codes "(" ++ quoted t ++ codes ")"
token_part (string t) = codes "(" ++ quoted t ++ codes ")"
token_part (int n) = codes "(" ++ decimal n ++ codes ")"
token_part (int128 n) = codes "(" ++ decimal n ++ codes ")"
token_part _ = []

-- a token is printed by its name and, if it has one, its part
abbrev pub printed_token : Tok → Text
printed_token t = token_name t ++ token_part t

-- a token on a line, after the line and the column of its start and those of its end
abbrev pub token_line : SpannedTok → Text
token_line t = decimal t.1.start_line ++ codes ":" ++ decimal t.1.start_col ++ codes "-" ++ decimal t.1.end_line ++ codes ":" ++ decimal t.1.end_col ++ codes " " ++ printed_token t.0 ++ codes "\n"

abbrev pub tokens_words : List SpannedTok → Text
tokens_words ts = flat_map token_line ts

-- some of the tokens were written, the first ones
pub record PrintsFirst {W : Type 0} (contents : W → Option (List ℕ)) (old new : Watched W) (tokens : List SpannedTok) : Type 0 where
  pub first : List SpannedTok
  pub others : List SpannedTok
  pub are : tokens ≡ first ++ others
  pub written : IsWritten contents old new (tokens_words first)

-- all tokens were written, or the first ones, where memory ran out
abbrev pub PrintsTokens : {W : Type 0} → (W → Option (List ℕ)) → (old new : Watched W) → List SpannedTok → Option Error → Type 0
PrintsTokens contents old new tokens refusal = IsWritten contents old new (tokens_words tokens) ⊎
    IsSomeAnd refusal (λ e. IsOutOfMemory e × PrintsFirst contents old new tokens)
