-- What a linter finds in a text.
use Rattle.std.specs.Prelude.{◌≡◌, List, [], ◌∷◌}
use Rattle.minijinja_syntax.specs.Syntax.{Syntax}
use Rattle.minijinja_syntax.specs.Texts.{Text}
use Rattle.minijinja_value.specs.ValueFunctions.{value_functions}
use Rattle.minijinja_value.specs.ValueViews.{contents_of}
use Rattle.minijinja_value.specs.declared.value.Value.{Value}
use Rattle.minijinja_value.specs.declared.value.ValueFault.{ValueFault}
use Rattle.minijinja_tree.specs.Erasure.{stmt_tree}
use Rattle.minijinja_tree.specs.SpannedErasure.{stmt_node}
use Rattle.minijinja_tree.specs.declared.ast.Stmt.{Stmt}
use Rattle.minijinja_meta.specs.Mentions.{way}
use Rattle.minijinja_lint.specs.Findings.{AreFindings, Remark}
use Rattle.minijinja_parser.specs.Derived.{IsDerived}
use Rattle.mjc_commands.specs.declared.run.Ending.{Ending}
use Rattle.mjc_commands.specs.declared.run.Ending.TheVariants.{Done, Found}

-- how a run ends that prints these findings
abbrev pub ending_with : List Remark → Ending
ending_with [] = Done
ending_with (r ∷ rs) = Found

-- the run ends as one does that prints what a linter finds in this template
pub record EndsWithFindings (template : Stmt Value ValueFault) (ending : Ending) : Type 0 where
  pub remarks : List Remark
  pub findings : AreFindings (way (stmt_node contents_of template)) remarks
  pub ends : ending ≡ ending_with remarks

-- the run ends as one does that prints what a linter finds in the tree of the text
pub record IsLinted (syntax : Syntax) (source : Text) (ending : Ending) : Type 0 where
  pub template : Stmt Value ValueFault
  pub derived : IsDerived value_functions syntax source (stmt_tree contents_of template)
  pub linted : EndsWithFindings template ending
