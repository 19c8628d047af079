-- The words that begin statements, as functions of the parser name them.
use Rattle.std.specs.Prelude.{if◌then◌else◌, Option, Some, None, codes}
use Rattle.std.specs.Str.{bytes_eq}
use Rattle.minijinja_syntax.specs.Texts.{Text}
use Rattle.minijinja_syntax.specs.Tokens.{Tok, ident}

-- an identifier of that text
abbrev pub word : Text → Tok
word = ident

pub data Keyword : Type 0 where
  for_keyword if_keyword with_keyword set_keyword autoescape_keyword filter_keyword block_keyword extends_keyword include_keyword import_keyword from_keyword macro_keyword call_keyword do_keyword break_keyword continue_keyword : Keyword

abbrev pub keyword_of : Text → Option Keyword
keyword_of x =
    if bytes_eq x (codes "for") then Some for_keyword
    else if bytes_eq x (codes "if") then Some if_keyword
    else if bytes_eq x (codes "with") then Some with_keyword
    else if bytes_eq x (codes "set") then Some set_keyword
    else if bytes_eq x (codes "autoescape") then Some autoescape_keyword
    else if bytes_eq x (codes "filter") then Some filter_keyword
    else if bytes_eq x (codes "block") then Some block_keyword
    else if bytes_eq x (codes "extends") then Some extends_keyword
    else if bytes_eq x (codes "include") then Some include_keyword
    else if bytes_eq x (codes "import") then Some import_keyword
    else if bytes_eq x (codes "from") then Some from_keyword
    else if bytes_eq x (codes "macro") then Some macro_keyword
    else if bytes_eq x (codes "call") then Some call_keyword
    else if bytes_eq x (codes "do") then Some do_keyword
    else if bytes_eq x (codes "break") then Some break_keyword
    else if bytes_eq x (codes "continue") then Some continue_keyword
    else None
