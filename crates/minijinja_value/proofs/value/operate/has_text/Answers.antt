use Rattle.std.proofs.lemmas.Str.Pattern.{contains_text}
use Rattle.minijinja_value.proofs.HasText.{has_text_is}
use Rattle.minijinja_value.proofs.value.operate.has_text.Goals as goal

pub returns : goal.returns
returns c = has_text_is c.contains.result c.args.text.now c.args.part.now (contains_text c.contains.result c.args.part.now c.args.text.now c.contains.ensures.cases)
