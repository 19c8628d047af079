-- Each unit is entered where its code begins, and is over where that ends.
use Rattle.std.proofs.Common.{[], ap, length, refl}
use Rattle.minijinja_semantics.specs.Correct.{a_statement, an_expression}
use Rattle.minijinja_semantics.specs.Machine.{AtPlace}
use Rattle.minijinja_semantics.specs.Units.{a_loop, a_macro}
use Rattle.minijinja_replay.specs.declared.replay.Entry.TheVariants as entry
use Rattle.minijinja_replay.proofs.Ending.{in_time_by}
use Rattle.minijinja_replay.proofs.laws.compiled_code_ends.Goals as goal

pub returns : goal.returns
returns g c =
    let f = g.V.TemplateValue.functions in
    record {
      unit = λ code u meaning answers e does place finish. in_time_by f code u meaning answers e does place finish;
      statement = λ code t answers few does. in_time_by f code (a_statement 0 (length code)) _ answers entry.Start (does [] [] answers few) refl refl;
      block = λ code body answers few does. in_time_by f code (a_statement 0 (length code)) _ answers entry.Start (does.does [] [] answers few) refl refl;
      expression = λ code x answers few does. in_time_by f code (an_expression 0 (length code)) _ answers entry.Start (does [] [] answers few) refl refl;
      macro_body = λ code x parameters body values answers few does same. in_time_by f code (a_macro x.begin values) _ answers (entry.Macro x.begin) (does values same [] [] answers few) refl refl;
      recursive_loop = λ code x target body has_else value answers few does end. in_time_by f code (a_loop f x.begin x.end has_else value) _ answers (entry.Loop x.begin) (does value [] [] answers few) refl (ap AtPlace end);
    }
