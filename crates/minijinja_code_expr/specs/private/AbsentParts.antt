-- What stands for a part that an expression leaves out.
use Rattle.minijinja_value.specs.Values.{Functions}
use Rattle.minijinja_code_expr.specs.declared.absent.Absent.{Absent}
use Rattle.minijinja_code_expr.specs.declared.absent.Absent.TheVariants as absent

abbrev pub value_of : {C F : Type 0} → Functions C F → Absent → C
value_of f absent.None = f.none
value_of f absent.SilentUndefined = f.silent_undefined
