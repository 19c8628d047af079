-- How deep a statement or a macro is, with its values in it.
use Rattle.std.specs.Prelude.{ℕ, List}
use denote.Param.Weighed.{most}
use Rattle.minijinja_tree.specs.declared.ast.Macro.{Macro, size-Macro}
use Rattle.minijinja_tree.specs.declared.ast.Stmt.{Stmt, size-Stmt}

abbrev pub stmt_size : {V F : Type 0} → Stmt V F → ℕ
stmt_size {V} {F} s = size-Stmt V F s

abbrev pub macro_size : {V F : Type 0} → Macro V F → ℕ
macro_size {V} {F} m = size-Macro V F m

-- how deep the deepest statement is
abbrev pub body_size : {V F : Type 0} → List (Stmt V F) → ℕ
body_size xs = most stmt_size xs
