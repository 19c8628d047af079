-- Each unit of code that does what its units mean is over in time.
use Rattle.std.proofs.Common.{List, [], ◌∷◌, refl, ap}
use Rattle.std.specs.Prelude.{All}
use Rattle.std.proofs.lemmas.List.Elements.{All-nil, All-cons}
use Rattle.minijinja_value.specs.Values.{Functions}
use Rattle.minijinja_semantics.specs.Answers.{AreFew}
use Rattle.minijinja_semantics.specs.Code.{Instr}
use Rattle.minijinja_semantics.specs.Events.{Answer}
use Rattle.minijinja_semantics.specs.Machine.{AtPlace}
use Rattle.minijinja_semantics.specs.Places.{Extent}
use Rattle.minijinja_semantics.specs.Units.{Enterable, RecursiveLoop, MacroBody, DoesUnit, EachDoes, a_loop, a_macro}
use Rattle.minijinja_replay.specs.Replay.{EndsWhereItLeads, UnitEndsInTime}
use Rattle.minijinja_replay.specs.declared.replay.Entry.TheVariants as entry
use Rattle.minijinja_replay.proofs.Ending.{in_time_by}
use Rattle.minijinja_replay.proofs.LoopEnds.{EachEnds}

module _ {C F : Type 0} (f : Functions C F) (code : List (Instr C)) (answers : List (Answer C)) (few : AreFew answers) where
  -- a loop, with a value, and a macro, with a value for each parameter
  unit_in_time : (u : Enterable C Extent) → DoesUnit f code u → EndsWhereItLeads code u → UnitEndsInTime f code answers u
  unit_in_time (RecursiveLoop x e body has_else) does end = λ v. in_time_by f code (a_loop f x.begin x.end has_else v) _ answers (entry.Loop x.begin) (does v [] [] answers few) refl (ap AtPlace end)
  unit_in_time (MacroBody x ps body) does end = λ vs same. in_time_by f code (a_macro x.begin vs) _ answers (entry.Macro x.begin) (does vs same [] [] answers few) refl refl

  -- each of these units
  pub each_in_time : (us : List (Enterable C Extent)) → EachDoes f code us → EachEnds code us → All (UnitEndsInTime f code answers) us
  each_in_time [] does ends = All-nil (UnitEndsInTime f code answers)
  each_in_time (u ∷ us) does ends = All-cons (UnitEndsInTime f code answers) u us (unit_in_time u does.0 ends.0) (each_in_time us does.1 ends.1)
