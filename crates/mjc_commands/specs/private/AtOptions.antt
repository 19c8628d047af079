-- How an option is read into a syntax.
use Rattle.std.specs.Prelude.{◌≡◌, ℕ, List, [], ◌∷◌, drop, codes, Option, None, Some, IsNone, IsSomeAnd, MatchOption, if◌then◌else◌}
use Rattle.std.specs.Str.{bytes_eq}
use Rattle.minijinja_syntax.specs.Texts.{Text}
use Rattle.minijinja_syntax.specs.Syntax.{Syntax}
use Rattle.mjc_commands.specs.Settings.{Setting, block, variable, comment, line_statement, line_comment, trim_blocks, lstrip_blocks, keep_newline, with_setting}
use Rattle.mjc_commands.specs.declared.options.OptionName.{OptionName}
use Rattle.mjc_commands.specs.declared.options.OptionName.TheVariants.{Block, Variable, Comment, LineStatement, LineComment, TrimBlocks, LstripBlocks, KeepNewline}

-- the option of a word
unfoldable pub option_named : Text → Option OptionName
option_named word =
    if bytes_eq word (codes "--block") then Some Block
    else (if bytes_eq word (codes "--variable") then Some Variable
    else (if bytes_eq word (codes "--comment") then Some Comment
    else (if bytes_eq word (codes "--line-statement") then Some LineStatement
    else (if bytes_eq word (codes "--line-comment") then Some LineComment
    else (if bytes_eq word (codes "--trim-blocks") then Some TrimBlocks
    else (if bytes_eq word (codes "--lstrip-blocks") then Some LstripBlocks
    else (if bytes_eq word (codes "--keep-newline") then Some KeepNewline
    else None)))))))

-- what an option says with the words after it, and the words left
abbrev pub setting_of : Option OptionName → List Text → Option (Setting × List Text)
setting_of (Some Block) (start ∷ stop ∷ rest) = Some (block start stop, rest)
setting_of (Some Variable) (start ∷ stop ∷ rest) = Some (variable start stop, rest)
setting_of (Some Comment) (start ∷ stop ∷ rest) = Some (comment start stop, rest)
setting_of (Some LineStatement) (prefix ∷ rest) = Some (line_statement prefix, rest)
setting_of (Some LineComment) (prefix ∷ rest) = Some (line_comment prefix, rest)
setting_of (Some TrimBlocks) rest = Some (trim_blocks, rest)
setting_of (Some LstripBlocks) rest = Some (lstrip_blocks, rest)
setting_of (Some KeepNewline) rest = Some (keep_newline, rest)
setting_of _ _ = None

-- the option that words begin with, and the words after it
abbrev pub first_setting : List Text → Option (Setting × List Text)
first_setting [] = None
first_setting (word ∷ rest) = setting_of (option_named word) rest

-- where the words begin with an option, it is heeded, and its words are counted
abbrev pub Takes : Option (Setting × List Text) → Syntax → List Text → Option ℕ → Syntax → Type 0
Takes first old words result new =
    MatchOption first
    (IsNone result × (new ≡ old))
    (λ taken. IsSomeAnd result (λ count. drop count words ≡ taken.1) × (new ≡ with_setting old taken.0))
