use Rattle.std.proofs.Common.{length}
use Rattle.minijinja_semantics.specs.Code as instr
use Rattle.minijinja_semantics.specs.Events as event
use Rattle.minijinja_semantics.specs.Pieces.{one}
use Rattle.minijinja_code_expr.proofs.Results.{ok_gives}
use Rattle.minijinja_code_parts.proofs.Rounds.{follows_data}
use Rattle.minijinja_code_parts.proofs.simple.data_text.Goals as goal

pub returns-clause-added : goal.returns-clause-added
returns-clause-added g c = ok_gives c.add.result (follows_data (length c.args.text.now.raw.now) (one (instr.Do event.EmitRaw c.args.text.now.raw.now 0)) c.count.ensures) c.add.ensures.added
