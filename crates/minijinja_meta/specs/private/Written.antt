-- Names as sets hold them.
use Rattle.std.specs.Prelude.{Bool, true, false, List}
use Rattle.std.specs.BTreeSet.{insert_key}
use Rattle.std.specs.Cmp.Lexicographic.{slice_cmp}
use Rattle.std.specs.Ordering.{nat_cmp}
use Rattle.minijinja_syntax.specs.Texts.{Text}
use Rattle.minijinja_meta.specs.Mentions.{Mention, dotted}

-- a name with its attributes or without them
abbrev pub name_written : Bool → Mention → Text
name_written true m = dotted m
name_written false m = m.name

-- names in order, with one more if there is one
abbrev pub put_if : Bool → List Text → Text → List Text
put_if true xs x = insert_key (slice_cmp nat_cmp) xs x
put_if false xs x = xs
