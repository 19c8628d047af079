-- What a list of marks shows.
use Rattle.std.specs.Prelude.{List}
use Rattle.minijinja_semantics.specs.Marks.{Mark}
use Rattle.minijinja_instructions.specs.Marks.{marked}
use Rattle.minijinja_instructions.specs.Runs.{HasRoom, values_of}
use Rattle.minijinja_instructions.specs.declared.marks.MarkList.{MarkList}

-- the line and the span of each instruction
abbrev pub marks_in : MarkList → List Mark
marks_in m = marked (values_of m.lines) (values_of m.spans)

-- those of one instruction more need no memory
pub record HaveRoom (m : MarkList) : Type 0 where
  pub lines : HasRoom m.lines
  pub spans : HasRoom m.spans
