-- The meaning, the code, the places and the units under other names.
use Rattle.std.specs.Prelude.{[]}
use Rattle.minijinja_semantics.proofs.Renaming.{expr_renamed, stmt_renamed}
use Rattle.minijinja_semantics.proofs.Labels.{stmt_same, placed_same, units_same, well_formed_there, well_formed_back}
use Rattle.minijinja_semantics.proofs.laws.names_are_not_looked_at.Goals as goal

pub returns : goal.returns
returns g c =
    let f = g.V.TemplateValue.functions in
    record {
      template = λ r t. (stmt_renamed r f t).does;
      code = λ r t. stmt_same f r t [];
      places = λ r t h. placed_same f r t [] h;
      units = λ r t h. units_same f r t [] h;
      well_formed = λ r t. (well_formed_back r t, well_formed_there r t);
      expression = λ r e. (expr_renamed r f e).does;
    }
