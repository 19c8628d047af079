-- Where a run finishes, as the definition of the machine has it.
use Rattle.minijinja_semantics.specs.Machine as machine
use Rattle.minijinja_replay.specs.declared.replay.Finish.{Finish}
use Rattle.minijinja_replay.specs.declared.replay.Finish.TheVariants.{AtPlace, AtReturn}

-- where a run finishes
abbrev pub finish_at : Finish → machine.Finish
finish_at (AtPlace end) = machine.AtPlace end
finish_at AtReturn = machine.AtReturn
