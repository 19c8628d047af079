-- The names that a macro encloses, its flags, and the names of its arguments.
use Rattle.std.specs.Prelude.{ℕ, Bool, not, if◌then◌else◌, List, filter, map, bytes_eq, codes}
use Rattle.std.specs.List.{list_any}
use Rattle.minijinja_syntax.specs.Texts.{Text}
use Rattle.minijinja_value.specs.Values.{Functions}
use Rattle.minijinja_tree.specs.Tree.{Expr, Macro, variable_names}
use Rattle.minijinja_tree.specs.FreeNames.{closure}

-- the name of the macro that a call takes along
abbrev pub caller : Text
caller = codes "caller"

-- the names that a macro encloses, in order of their bytes; its caller is not among them, since
-- each call passes it
abbrev pub enclosed : {C L : Type 0} → Macro C L → List Text
enclosed m = filter (λ x. not (bytes_eq x caller)) (closure m)

-- whether a macro uses its caller
abbrev pub has_caller : {C L : Type 0} → Macro C L → Bool
has_caller m = list_any (bytes_eq caller) (closure m)

-- the flags of a macro: 2 if it uses its caller
abbrev pub macro_flags : {C L : Type 0} → Macro C L → ℕ
macro_flags m = if has_caller m then 2 else 0

-- the names of a macro's arguments, as a value
abbrev pub argument_names : {C F : Type 0} → Functions C F → List (Expr C) → C
argument_names f args = f.list (map f.of_str (variable_names args))
