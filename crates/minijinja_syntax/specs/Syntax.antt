-- A syntax: how tags and line statements begin and end, and which whitespace is removed.
use Rattle.std.specs.Prelude.{◌≢◌, ◌<◌, Bool, false, ⊤, [], codes, length}
use Rattle.minijinja_syntax.specs.Texts.{Text}
use Rattle.minijinja_syntax.specs.declared.syntax.StartMarker.{StartMarker}
use Rattle.minijinja_syntax.specs.declared.syntax.StartMarker.TheVariants.{Variable, Block, Comment, LineStatement, LineComment}

-- an empty prefix is off
pub record Syntax : Type 0 where
  pub block_start : Text
  pub block_end : Text
  pub variable_start : Text
  pub variable_end : Text
  pub comment_start : Text
  pub comment_end : Text
  pub line_statement : Text
  pub line_comment : Text
  pub trim_blocks : Bool
  pub lstrip_blocks : Bool
  pub keep_trailing_newline : Bool

-- what the marker is in the text: a start delimiter or a prefix
abbrev pub start_of : Syntax → StartMarker → Text
start_of s Variable = s.variable_start
start_of s Block = s.block_start
start_of s Comment = s.comment_start
start_of s LineStatement = s.line_statement
start_of s LineComment = s.line_comment

-- the end delimiter, which line statements and line comments have none of
abbrev pub end_of : Syntax → StartMarker → Text
end_of s Variable = s.variable_end
end_of s Block = s.block_end
end_of s Comment = s.comment_end
end_of s LineStatement = []
end_of s LineComment = []

-- the marker begins a tag between two delimiters
abbrev pub IsDelimited : StartMarker → Type 0
IsDelimited Variable = ⊤
IsDelimited Block = ⊤
IsDelimited Comment = ⊤
IsDelimited LineStatement = ⊥
IsDelimited LineComment = ⊥

-- a marker that is on is not what the other is
abbrev pub AreApart : Syntax → StartMarker → StartMarker → Type 0
AreApart s m n = 0 < length (start_of s m) → start_of s m ≢ start_of s n

-- neither delimiter is empty
abbrev pub HasBoth : Syntax → StartMarker → Type 0
HasBoth s m = (0 < length (start_of s m)) × (0 < length (end_of s m))

-- no delimiter is empty, and no two start delimiters or prefixes are equal
pub record IsBuildable (s : Syntax) : Type 0 where
  pub delimiters : (m : StartMarker) → IsDelimited m → HasBoth s m
  pub distinct : (m n : StartMarker) → m ≢ n → AreApart s m n

-- the delimiters of Jinja2, no prefixes, and no flag set
abbrev pub default_syntax : Syntax
default_syntax = record {
  block_start = codes "{%";
  block_end = codes "%}";
  variable_start = codes "{{";
  variable_end = codes "}}";
  comment_start = codes "{#";
  comment_end = codes "#}";
  line_statement = [];
  line_comment = [];
  trim_blocks = false;
  lstrip_blocks = false;
  keep_trailing_newline = false;
}
