-- Words that cannot be assigned to.
use Rattle.std.specs.Prelude.{Bool, ◌||◌, codes}
use Rattle.std.specs.Str.{bytes_eq}
use Rattle.minijinja_syntax.specs.Texts.{Text}
use Rattle.minijinja_grammar.specs.Words.{is_reserved}

abbrev pub is_no_target : Text → Bool
is_no_target x = bytes_eq x (codes "in") || is_reserved x
